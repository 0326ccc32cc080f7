-- The rule that makes two loops of one, by its body.
use Rattle.std.specs.Prelude.{ℕ, ◌==◌, nat_lt, Bool, false, not, ◌&&◌, if◌then◌else◌}
use Rattle.std.specs.Prelude.{List, [], ◌∷◌, length, Option, Some, None, option_and_then}
use Rattle.exo_tree.specs.Tree.{Argument, Statement, Config, For, Block, next, Program}
use Rattle.exo_tree.specs.Places.{Path, parted}
use Rattle.exo_tree.specs.Renaming.{fresh}
use Rattle.exo_meaning.specs.Units.{is_empty}
use Rattle.exo_meaning.specs.Unseen.{in_argument, in_block as mentions}
use Rattle.meaning_laws.specs.Fields.{writes_field}
use Rattle.meaning_laws.specs.UnitFields.{unit_writes}
use Rattle.place_laws.specs.Scope.Scopes.{top_binders}
use Rattle.place_laws.specs.Scope.UnrollLoop.{only_loop}
use Rattle.cursor_forward.specs.Causes.{Cause}
use Rattle.cursor_forward.specs.Shifts.{Shift, at_index, alone, range}
use Rattle.place_laws.specs.Order.TurnsOfTwo.{Loop}
use Rattle.effect_laws.specs.Apart.{Conflict}
use Rattle.effect_laws.specs.Fits.{halves_conflict}
use Rattle.step_rules.specs.Rule.{Spot, Need, Apart, Rule, plain_rule}
use Rattle.step_rules.specs.Shapes.{tried, alone_in, one_statement}
use Rattle.loop_laws.specs.Shapes.{loop_of, inside}
use Rattle.loop_laws.specs.Nest.Shapes.{unless_it_writes, size, step, in_loop}

-- ---- a loop in parts

pub record Parting : Type 0 where
  pub loop : Loop
  pub first : Block
  pub second : Block

-- neither part is empty, and the second uses no name that the first binds
abbrev pub may_part : Block × Block → Bool
may_part p =
    (not (is_empty p.0) && not (is_empty p.1)) && not (mentions (top_binders p.0) p.1)

abbrev pub where_it_may : Loop → Block × Block → Option Parting
where_it_may l p =
    if may_part p then Some (record { loop = l; first = p.0; second = p.1 }) else None

abbrev pub parted_at : ℕ → Loop → Option Parting
parted_at count l = option_and_then (where_it_may l) (parted count l.body)

-- a loop that is all of a block, whose body is parted behind so many statements
abbrev pub parting_of : ℕ → Block → Option Parting
parting_of count b = option_and_then (parted_at count) (loop_of b)

-- ---- two loops

abbrev pub loop_with : Parting → Block → Loop
loop_with p b = record p.loop { body = b }

-- the loop with the first part, and a copy of it with the second
abbrev pub parted_loops : Parting → ℕ → Block
parted_loops p base =
    let l = p.loop in
    next (For l.binder l.lo l.hi p.first) (fresh base (only_loop l.binder l.lo l.hi p.second))

-- ---- refusal

-- what a statement writes into a field
pub record Write : Type 0 where
  pub field : ℕ
  pub value : Argument

abbrev pub write_in : Statement → Option Write
write_in a = elim a as (λ a. Option Write) [
  | Config f e ↦ Some (record { field = f; value = e })
  | b ↦ None
]

-- a write without the loop's variable, of a field of the unit that the second part does not write
abbrev pub is_steady : Program → Parting → Write → Bool
is_steady u p w =
    nat_lt w.field (length u.fields)
    && (not (in_argument (λ x. x == p.loop.binder.id) w.value)
    && not (writes_field (unit_writes u.procedures) w.field p.second))

-- the first part is one such write
abbrev pub writes_first : Program → Parting → Bool
writes_first u p =
    elim (option_and_then write_in (alone_in p.first)) [ None ↦ false | Some w ↦ is_steady u p w ]

abbrev pub fission_refusal : Option Parting → Spot → Option Cause
fission_refusal None s = None
fission_refusal (Some p) s =
    if writes_first s.target.unit p then None else unless_it_writes s

-- ---- what has to be shown, and where statements go

-- the second part at a turn against the first at a later one
abbrev pub fission_conflict : Path → Parting → Conflict
fission_conflict at p =
    halves_conflict (loop_with p p.first) (loop_with p p.second) (in_loop at 0 0) (size p.first)
    (in_loop at 0 (size p.first)) (size p.second)

abbrev pub fission_needs : Path → Parting → List Need
fission_needs at p = Apart at (fission_conflict at p) ∷ []

-- the first loop is the old one, and the second has the statements of the second part
abbrev pub fission_shifts : Parting → List Shift
fission_shifts p =
    alone (at_index 0) (Some (at_index 0))
    ∷ range (inside 1) (size p.first) (Some (inside 1))
    ∷ range (step 0 ∷ at_index (size p.first)) (size p.second) (Some (step 1 ∷ at_index 0))
    ∷ []

-- ---- the rule

abbrev pub of_parting : {T : Type 0} → (Parting → List T) → Option Parting → List T
of_parting list None = []
of_parting list (Some p) = list p

-- count: of the statements before the gap
abbrev pub fission_rule : ℕ → Rule
fission_rule count = record (plain_rule (one_statement (parting_of count))
    (λ s base. tried (parting_of count s.opened.piece) (λ p. parted_loops p base))
    (λ s. of_parting fission_shifts (parting_of count s.opened.piece))) {
      refusal = λ s. fission_refusal (parting_of count s.opened.piece) s;
      needs = λ s. of_parting (fission_needs s.piece.path) (parting_of count s.opened.piece);
    }
