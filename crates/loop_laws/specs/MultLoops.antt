-- The rule that makes one loop of two, the inner of which has a fixed number of turns.
use Rattle.std.specs.Prelude.{ℕ, ℤ, pos, int_le, if◌then◌else◌, List, [], ◌∷◌, length}
use Rattle.std.specs.Prelude.{Option, Some, None, option_and_then, option_map}
use Rattle.exo_tree.specs.Tree.{Binder, Control, Lit, Var, Sub, Mul, Div}
use Rattle.exo_tree.specs.Tree.{Mod, Block, statements}
use Rattle.exo_tree.specs.Substitution.{in_block}
use Rattle.place_laws.specs.Scope.UnrollLoop.{only_loop}
use Rattle.cursor_forward.specs.Shifts.{Shift, at_index, alone, range}
use Rattle.place_laws.specs.Order.TurnsOfTwo.{Loop}
use Rattle.step_rules.specs.Rule.{Rule, plain_rule}
use Rattle.step_rules.specs.Shapes.{tried, one_statement}
use Rattle.loop_laws.specs.Shapes.{loop_of, from_zero, inside}

-- ---- two loops

-- a loop from 0 over a loop of so many turns from 0 on
pub record Pair : Type 0 where
  pub outer : Loop
  pub inner : Loop
  pub by : ℤ

-- a literal from 1 on
abbrev pub positive_literal : Control → Option ℤ
positive_literal (Lit n) = if int_le (pos 1) n then Some n else None
positive_literal _ = None

abbrev pub with_count : Loop → Loop → Option Pair
with_count k l =
    option_map (λ n. record { outer = k; inner = l; by = n }) (positive_literal l.hi)

-- a loop from the literal 0 that is all of a block
abbrev pub loop_from_zero : Block → Option Loop
loop_from_zero b = option_and_then from_zero (loop_of b)

abbrev pub pair_of : Block → Option Pair
pair_of b =
    option_and_then (λ (k : Loop). option_and_then (with_count k) (loop_from_zero k.body))
    (loop_from_zero b)

-- ---- one loop

abbrev pub one_binder : List ℕ → ℕ → Binder
one_binder name base = record { id = base; name = name }

-- the inner body at the turns of both that the turn stands for
abbrev pub body_at : Pair → ℕ → Block
body_at p k =
    in_block p.inner.binder.id (Mod (Var k) p.by)
    (in_block p.outer.binder.id (Div (Var k) p.by) p.inner.body)

abbrev pub multiplied : List ℕ → Pair → ℕ → Block
multiplied name p base =
    only_loop (one_binder name base) (Lit (pos 0)) (Mul p.outer.hi (Lit p.by)) (body_at p base)

-- the outer loop becomes the new one, and its body is that of the inner one, which is gone
abbrev pub mult_shifts : Pair → List Shift
mult_shifts p =
    alone (at_index 0) (Some (at_index 0))
    ∷ range (inside 2) (length (statements p.inner.body)) (Some (inside 1))
    ∷ []

abbrev pub shifts_of_pair : Option Pair → List Shift
shifts_of_pair None = []
shifts_of_pair (Some p) = mult_shifts p

abbrev pub mult_rule : List ℕ → Rule
mult_rule name = record (plain_rule (one_statement pair_of)
    (λ s base. tried (pair_of s.opened.piece) (λ p. multiplied name p base))
    (λ s. shifts_of_pair (pair_of s.opened.piece))) {
      named = 1;
    }
