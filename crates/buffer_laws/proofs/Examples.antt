-- Steps on buffers at closed blocks, and what they make by computation.
use Rattle.std.proofs.Common.{true, option_map}
use Rattle.std.proofs.Common.{◌≡◌, ◌==◌, ℕ, ℤ, pos, ◌+ℤ◌, Bool, false}
use Rattle.std.proofs.Common.{[], ◌∷◌, Some, None, refl, subst}
use Rattle.std.proofs.Common.{arith, cond, ◌||◌, sym, true≢false}
use Rattle.std.proofs.lemmas.Int.{ints}
use Rattle.std.specs.Int.{int_wrap}
use Rattle.std.specs.Ordering.{int_eq}
use Rattle.exo_tree.specs.Tree.{Binder, I32, Index, Control, Condition, Lt, Lit, Var, StrideOf, Add}
use Rattle.exo_tree.specs.Tree.{Field, Neg, Sub, Mul, Div, Mod}
use Rattle.exo_tree.specs.Tree.{Datum, Const, Read, Plus, Times, Whole, Window, At, Assign}
use Rattle.exo_tree.specs.Tree.{Pass}
use Rattle.exo_tree.specs.Tree.{Alloc, Call, Block, end, next, Procedure}
use Rattle.exo_tree.specs.Context.{Here, fill}
use Rattle.exo_meaning.specs.Value.{Value, Number}
use Rattle.exo_meaning.specs.Scene.{number}
use Rattle.exo_meaning.specs.State.{State, value}
use Rattle.exo_meaning.specs.Calls.{bare}
use Rattle.exo_meaning.specs.Inputs.{Refines, FitsCell}
use Rattle.exo_meaning.specs.Units.{IsProcedure}
use Rattle.exo_meaning.specs.Unseen.{in_controls}
use Rattle.exo_meaning.specs.Run.{World, run, unit_world}
use Rattle.exo_meaning.specs.Renaming.{re_block}
use Rattle.exo_meaning.proofs.Windows.{none_is_some, one_value}
use Rattle.meaning_laws.specs.Context.{MayReplace}
use Rattle.meaning_laws.specs.Copies.{IsFree}
use Rattle.meaning_laws.specs.Sorted.{CellsFit}
use Rattle.meaning_laws.proofs.Swaps.{swap, swap_moves}
use Rattle.meaning_laws.proofs.Replace.{unit_respects}
use Rattle.inplace_laws.specs.Along.{SameAlong}
use Rattle.place_laws.specs.Scope.Scopes.{HasNone}
use Rattle.buffer_laws.specs.Buffers.{Buffer, is_still_used, only_buffer, in_memory, is_buffer}
use Rattle.buffer_laws.specs.Lifted.{with_buffer_in, lifted_from_loop, MayLift}
use Rattle.buffer_laws.specs.Lifted.{branch_with, lifted_from_then, lifted_from_else}
use Rattle.buffer_laws.proofs.Lifted.{lift_from_then, lift_from_else, lift_then_law, lift_else_law}
use Rattle.buffer_laws.specs.Bound.{Hole, Top, PlusIn, stores, filled, bound}
use Rattle.buffer_laws.specs.Simplified.{IsSimplifier, simplified}
use Rattle.buffer_laws.specs.Expanded.{expanded, may_expand, small}
use Rattle.buffer_laws.specs.Expanded.{with_larger}
use Rattle.buffer_laws.proofs.Expanded.{expand_refines}
use Rattle.buffer_laws.proofs.Buffers.{memory_law, delete_law}
use Rattle.buffer_laws.proofs.Lifted.{lift_from_loop, lift_law}
use Rattle.buffer_laws.proofs.Bound.{values_fit, bind_law, bind_refines}
use Rattle.buffer_laws.proofs.Simplified.{simplified_along, simplified_law}
use Rattle.place_laws.specs.Scope.UnrollLoop.{only_loop}
use Rattle.place_laws.specs.Order.Statements.{one}

abbrev pub named : ℕ → Binder
named n = record { id = n; name = 97 ∷ n ∷ [] }

abbrev world : World
world = unit_world (λ f. Index) []

-- t : i32[4]
abbrev four : Buffer
four = record { binder = named 2; cell = I32; dims = Lit (pos 4) ∷ []; memory = 0 }

abbrev with_body : Block → Procedure
with_body b = record { name = 102 ∷ []; params = []; asserts = []; body = b; template = None }

-- ---- memories

moved : Refines world (with_body (only_buffer four)) (with_body (only_buffer (in_memory 1 four))) []
moved = memory_law world (with_body (only_buffer four)) (Here end) four 1 refl

-- ---- an allocation taken away: `t : i32[4]` before a `pass`

abbrev unused : Block
unused = fill (Here (next Pass end)) (only_buffer four)

unused_is_well : IsProcedure (λ f. None) 1 (λ k. None) (with_body unused)
unused_is_well = record {
  params = refl;
  asserts = refl;
  body = refl;
  filled = refl;
  ids = refl;
  distinct = refl;
  paths = refl;
  template = refl;
}

deleted : Refines world (with_body unused) (with_body (next Pass end)) []
deleted = delete_law (λ f. None) 1 (λ k. None) (λ f. Index) [] (with_body unused)
    (Here (next Pass end)) four unused_is_well refl refl

-- ---- out of a loop

abbrev nothing : State
nothing = bare (λ x. pos 0) (λ f. pos 0)

has_none : (hidden : ℕ → Bool) → HasNone hidden nothing
has_none hidden = record {
  sound = record { tidy = λ b e at. refl; seen = λ x z e. absurd (none_is_some e) };
  unbound = λ x e. record { control = refl; buffers = refl; views = refl };
}

-- t[i] = 7
abbrev set_cell : Block
set_cell = next (Assign 2 (Var 1 ∷ []) (Const (pos 7))) end

-- for i in seq(0, 2): pass; t : i32[4]; t[i] = 7
lifted : MayReplace world (is_buffer four)
    (only_loop (named 1) (Lit (pos 0)) (Lit (pos 2)) (with_buffer_in (next Pass end) four set_cell))
    (lifted_from_loop (named 1) (Lit (pos 0)) (Lit (pos 2)) (next Pass end) four set_cell) nothing
lifted = lift_from_loop world (named 1) (Lit (pos 0)) (Lit (pos 2)) (next Pass end) four set_cell
    nothing (unit_respects (λ f. Index) []) (record {
      none = has_none (is_buffer four);
      unused = refl;
      plain = refl;
      kept = refl;
      made = refl;
    }) refl refl

lifted_at : Refines world (with_body (only_loop (named 1) (Lit (pos 0)) (Lit (pos 2))
    (with_buffer_in (next Pass end) four set_cell)))
    (with_body (lifted_from_loop (named 1) (Lit (pos 0)) (Lit (pos 2)) (next Pass end) four
    set_cell)) []
lifted_at = lift_law (λ f. Index) [] (with_body (only_loop (named 1) (Lit (pos 0)) (Lit (pos 2))
    (with_buffer_in (next Pass end) four set_cell))) (Here end) (named 1) (Lit (pos 0))
    (Lit (pos 2)) (next Pass end) four set_cell refl
    (record { free = λ x e. (refl, refl); unused = refl }) refl refl refl refl refl refl

-- ---- out of a branch

-- t[0] = 7
abbrev set_first : Block
set_first = next (Assign 2 (Lit (pos 0) ∷ []) (Const (pos 7))) end

abbrev passes : Block
passes = next Pass end

-- if 0 < 1: pass; t : i32[4]; t[0] = 7 else: pass
abbrev test : Condition
test = Lt (Lit (pos 0)) (Lit (pos 1))

abbrev may_lift : MayLift (λ y. false) passes four nothing
may_lift = record {
  none = has_none (is_buffer four);
  unused = refl;
  plain = refl;
  kept = refl;
  made = refl;
}

from_then : MayReplace world (is_buffer four)
    (branch_with test (with_buffer_in passes four set_first) passes)
    (lifted_from_then test passes four set_first passes) nothing
from_then = lift_from_then world test passes four set_first passes nothing
    (unit_respects (λ f. Index) []) may_lift refl refl

from_else : MayReplace world (is_buffer four)
    (branch_with test passes (with_buffer_in passes four set_first))
    (lifted_from_else test passes passes four set_first) nothing
from_else = lift_from_else world test passes passes four set_first nothing
    (unit_respects (λ f. Index) []) may_lift refl refl

from_then_at : Refines world
    (with_body (branch_with test (with_buffer_in passes four set_first) passes))
    (with_body (lifted_from_then test passes four set_first passes)) []
from_then_at = lift_then_law (λ f. Index) []
    (with_body (branch_with test (with_buffer_in passes four set_first) passes)) (Here end) test
    passes four set_first passes refl (record { free = λ x e. (refl, refl); unused = refl })
    refl refl refl refl refl

from_else_at : Refines world
    (with_body (branch_with test passes (with_buffer_in passes four set_first)))
    (with_body (lifted_from_else test passes passes four set_first)) []
from_else_at = lift_else_law (λ f. Index) []
    (with_body (branch_with test passes (with_buffer_in passes four set_first))) (Here end) test
    passes passes four set_first refl (record { free = λ x e. (refl, refl); unused = refl })
    refl refl refl refl refl

-- behind the `if` the buffer is still there
lifted_runs : option_map (λ (t : State). t.cells 2 (pos 0 ∷ []))
    (run world (lifted_from_then test passes four set_first passes) nothing)
    ≡ Some (Number (pos 7))
unfolding int_wrap
lifted_runs = refl

-- ---- a part of an expression

-- y = 1 + 2 * 3, with 2 * 3 in a buffer of its own
abbrev product : Datum
product = Times (Const (pos 2)) (Const (pos 3))

abbrev in_sum : Hole
in_sum = PlusIn (Const (pos 1)) Top

abbrev pub one_cell : Buffer
one_cell = record { binder = named 3; cell = I32; dims = []; memory = 0 }

no_cells : CellsFit nothing
no_cells b shape e at = absurd (none_is_some e)

product_fits : (v : Value) → value nothing product ≡ Some v → FitsCell I32 v
product_fits v e = values_fit (λ y. I32) nothing product v (has_none (λ y. false)).sound no_cells
    (λ y z shape i k. absurd (none_is_some k)) (λ n k. absurd (not_const n k)) e
  where
    not_const : (n : ℤ) → product ≡ Const n → ⊥
    not_const n k = cc

bound_in_sum : MayReplace world (is_buffer one_cell)
    (one (stores false 5 [] (filled in_sum product)))
    (bound one_cell false 5 [] in_sum product) nothing
bound_in_sum = bind_law world one_cell false 5 [] in_sum product nothing (record {
  none = has_none (is_buffer one_cell);
  dims = refl;
  unused = refl;
  fits = product_fits;
})

product_is : (u : State) (v : Value) → value u product ≡ Some v → FitsCell I32 v
unfolding int_wrap
product_is u v e = subst (FitsCell I32) (one_value (Number (pos 6)) v e) refl

bound_at : Refines world (with_body (one (stores false 5 [] (filled in_sum product))))
    (with_body (bound one_cell false 5 [] in_sum product)) []
bound_at = bind_refines (λ f. Index) []
    (with_body (one (stores false 5 [] (filled in_sum product)))) (Here end) one_cell
    false 5 [] in_sum product refl (record { free = λ x e. (refl, refl); unused = refl }) refl refl
    (λ s u v good come e. product_is u v e)

-- x : i32; x = 2 * 3; y = 1 + x
it_is_bound : bound one_cell false 5 [] in_sum product ≡ next (Alloc (named 3) I32 [] 0)
    (next (Assign 3 [] product) (next (Assign 5 [] (Plus (Const (pos 1)) (Read 3 []))) end))
it_is_bound = refl

-- ---- simpler indices: 0 + e for e

abbrev longer : Control → Control
longer e = Add (Lit (pos 0)) e

zero_more : (n : ℤ) → pos 0 +ℤ n ≡ n
zero_more n = omega (arith, ints)

is_longer : IsSimplifier longer
is_longer e scene plain = zero_more _

along : SameAlong world set_cell (simplified longer (λ y. y == 2) set_cell) nothing
along = simplified_along world longer (λ y. y == 2) set_cell nothing is_longer

alike : run world set_cell nothing ≡ run world (simplified longer (λ y. y == 2) set_cell) nothing
alike = simplified_law world longer (λ y. y == 2) set_cell nothing is_longer

it_is_longer : simplified longer (λ y. y == 2) set_cell
    ≡ next (Assign 2 (Add (Lit (pos 0)) (Var 1) ∷ []) (Const (pos 7))) end
it_is_longer = refl

-- ---- a new dimension

-- t : i32[4]; t[j] = t[stride(t, 0)]; f(t[j]), with the point i of 8
expanded_text : expanded (Lit (pos 8)) (Var 1) four
    (next (Assign 2 (Var 4 ∷ []) (Read 2 (StrideOf 2 0 ∷ []))) (next (Call 0 (Window 2
    (At (Var 4) ∷ []) ∷ [])) end))
    ≡ next (Alloc (named 2) I32 (Lit (pos 8) ∷ Lit (pos 4) ∷ []) 0)
    (next (Assign 2 (Var 1 ∷ Var 4 ∷ []) (Read 2 (Var 1 ∷ StrideOf 2 1 ∷ [])))
    (next (Call 0 (Window 2 (At (Var 1) ∷ At (Var 4) ∷ []) ∷ [])) end))
expanded_text = refl

-- a whole use of a buffer of one cell is one of its point; one with dimensions is not passed whole
expanded_cell : expanded (Lit (pos 8)) (Var 1) one_cell (next (Call 0 (Whole 3 ∷ [])) end)
    ≡ next (Alloc (named 3) I32 (Lit (pos 8) ∷ []) 0)
    (next (Call 0 (Window 3 (At (Var 1) ∷ []) ∷ [])) end)
expanded_cell = refl

not_expanded : may_expand four (next (Call 0 (Whole 2 ∷ [])) end) ≡ false
not_expanded = refl

-- without a 0 in front
abbrev is_zero : Control → Bool
is_zero (Lit n) = int_eq n (pos 0)
is_zero (Var x) = false
is_zero (Field f) = false
is_zero (StrideOf x k) = false
is_zero (Neg a) = false
is_zero (Add a b) = false
is_zero (Sub a b) = false
is_zero (Mul a b) = false
is_zero (Div a c) = false
is_zero (Mod a c) = false

abbrev pub drop : Control → Control
drop (Lit n) = Lit n
drop (Var x) = Var x
drop (Field f) = Field f
drop (StrideOf x k) = StrideOf x k
drop (Neg a) = Neg a
drop (Add a b) = cond (is_zero a) b (Add a b)
drop (Sub a b) = Sub a b
drop (Mul a b) = Mul a b
drop (Div a c) = Div a c
drop (Mod a c) = Mod a c

zero_first : (m n : ℤ) → int_eq m (pos 0) ≡ true → n ≡ m +ℤ n
zero_first m n h = grind (arith, ints)

pub is_drop : IsSimplifier drop
is_drop (Lit n) scene p = refl
is_drop (Var x) scene p = refl
is_drop (Field f) scene p = refl
is_drop (StrideOf x k) scene p = refl
is_drop (Neg a) scene p = refl
is_drop (Add a b) scene p = go a
  where
    sum : (m : ℤ) (t : Bool) → int_eq m (pos 0) ≡ t
        → number scene (cond t b (Add (Lit m) b)) ≡ m +ℤ number scene b
    sum m true h = zero_first m (number scene b) h
    sum m false h = refl

    go : (a : Control)
        → number scene (cond (is_zero a) b (Add a b)) ≡ number scene a +ℤ number scene b
    go (Lit m) = sum m (int_eq m (pos 0)) refl
    go (Var x) = refl
    go (Field f) = refl
    go (StrideOf x k) = refl
    go (Neg c) = refl
    go (Add c d) = refl
    go (Sub c d) = refl
    go (Mul c d) = refl
    go (Div c k) = refl
    go (Mod c k) = refl
is_drop (Sub a b) scene p = refl
is_drop (Mul a b) scene p = refl
is_drop (Div a c) scene p = refl
is_drop (Mod a c) scene p = refl

-- t : i32[4]; t[0] = 7 becomes t : i32[8, 4]; t[3, 0] = 7
abbrev at_third : Block
at_third = re_block (swap 2 9) (with_larger drop 9 (Lit (pos 8)) (Lit (pos 3)) four set_first)

third_text : at_third ≡ expanded (Lit (pos 8)) (Lit (pos 3)) four set_first
third_text = refl

expanded_at : Refines world (with_body (small four set_first)) (with_body at_third) []
expanded_at = expand_refines (λ f. Index) [] (with_body (small four set_first)) (Here end)
    (is_buffer four) drop (swap 2 9) 9 (Lit (pos 8)) (Lit (pos 3)) four set_first refl is_drop
    (record { free = λ x e. (refl, refl); unused = refl })
    (λ y h. only y (y == 2) h) (λ y h. only y (y == 2) h) (refl, refl)
    (swap_moves 2 9 (IsFree (with_body (small four set_first)) (Here end)) (refl, refl)
    (refl, refl))
    (record {
      apart = refl;
      plain = refl;
      plain_dims = refl;
      kept = λ y h. refl;
      once = refl;
      unused = refl;
      gone = refl;
    }) (λ s u good come. refl)
  where
    only : (y : ℕ) (t : Bool) → (t || false) ≡ true → t ≡ true
    only y true h = refl
    only y false h = absurd (true≢false (sym h))

-- ---- refusals

-- t : i32[4]; t[i] = 7: it is still used
used_still : is_still_used four (Here set_cell) ≡ true
used_still = refl

-- for i in ..: t : i32[i]: its dimension is not in scope before the loop
not_in_scope : in_controls (λ y. y == 1) (Var 1 ∷ []) ≡ true
not_in_scope = refl
