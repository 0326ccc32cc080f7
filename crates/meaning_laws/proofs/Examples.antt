-- The laws at small procedures.
use Rattle.std.proofs.Common.{◌≡◌, ℕ, pos, ◌+ℤ◌, ◌≤ℤ◌, ◌<ℤ◌, ◌==◌, Bool, true, false, true≢false, ◌||◌, cond, List, [], ◌∷◌, Option, Some, None, IfSome, option_map, refl, sym, ap, subst}
use Rattle.std.proofs.Math.Path.{fun_ext}
use Rattle.std.specs.Int.{int_wrap}
use Rattle.std.proofs.lemmas.Int.{ints}
use Rattle.std.proofs.Common.{arith}
use Rattle.exo_tree.specs.Tree.{Binder, I8, I32, Index, Control, Lit, Var, Add, Datum, Const, Plus, Assign, For, Block, end, next, TensorParam, Procedure, WindowParam, ControlParam, Call, ControlArg, Window, Span, Size}
use Rattle.exo_tree.specs.Context.{Context, Here, InLoop, fill}
use Rattle.exo_tree.specs.Places.{Main, opened}
use Rattle.exo_meaning.specs.Value.{Value, Undefined, Number, on_two, wrap}
use Rattle.exo_meaning.specs.Scene.{Scene, Shape, Seen, Range, then_do}
use Rattle.exo_meaning.specs.State.{State, value, place, put}
use Rattle.exo_meaning.specs.Run.{World, run, step, turn, turns, unit_world}
use Rattle.exo_meaning.specs.Inputs.{IsAdmissible, Refines, run_procedure}
use Rattle.meaning_laws.specs.Scoped.{is_scoped, is_param}
use Rattle.meaning_laws.specs.Substitute.{in_block}
use Rattle.meaning_laws.specs.Grown.{calls_below}
use Rattle.exo_meaning.specs.Footprint.{Writes, IsTidy}
use Rattle.exo_meaning.specs.Orders.{exchange, Exchange}
use Rattle.exo_meaning.specs.Nests.{IsAt}
use Rattle.exo_meaning.proofs.Together.{turns_commute}
use Rattle.meaning_laws.specs.Sorted.{MayRun}
use Rattle.meaning_laws.specs.Touched.{Reading, Writing, touched, unit_modes}
use Rattle.meaning_laws.specs.Fields.{HasField}
use Rattle.meaning_laws.specs.UnitFields.{unit_writes}
use Rattle.meaning_laws.specs.Pairs.{LeavesFields}
use Rattle.meaning_laws.proofs.SameRuns.{same_runs_refine}
use Rattle.meaning_laws.proofs.Fields.{fields_are_kept}
use Rattle.meaning_laws.proofs.UnitFields.{unit_leaves}
use Rattle.meaning_laws.proofs.TurnOrders.{turns_may_be_permuted}

-- ---- a step's proof: a sum with its sides exchanged, at any place

sum_swaps : (u v : Value) → on_two ◌+ℤ◌ u v ≡ on_two ◌+ℤ◌ v u
sum_swaps Undefined Undefined = refl
sum_swaps Undefined (Number n) = refl
sum_swaps (Number m) Undefined = refl
sum_swaps (Number m) (Number n) = let e : m +ℤ n ≡ n +ℤ m = omega (arith, ints) in ap (λ z. Number (wrap I32 z)) e

-- each side faults, or neither does
values_swap : (o r : Option Value) → then_do o (λ u. option_map (on_two ◌+ℤ◌ u) r) ≡ then_do r (λ u. option_map (on_two ◌+ℤ◌ u) o)
values_swap None None = refl
values_swap None (Some v) = refl
values_swap (Some u) None = refl
values_swap (Some u) (Some v) = ap Some (sum_swaps u v)

abbrev pub stored : ℕ → List Control → Datum → Block
stored x is e = next (Assign x is e) end

-- the local statement, at each state
pub stores_swap : (world : World) (x : ℕ) (is : List Control) (a b : Datum) (s : State) → run world (stored x is (Plus a b)) s ≡ run world (stored x is (Plus b a)) s
stores_swap world x is a b s = ap (λ o. then_do (then_do (place s.scene x is) (λ p. then_do o (λ v. put s (λ old. v) p))) (λ t. Some t)) (values_swap (value s a) (value s b))

-- and the law of contexts
commuted : (world : World) (c : Context) (p : Procedure) (x : ℕ) (is : List Control) (a b : Datum) → p.body ≡ fill c (stored x is (Plus a b)) → Refines world p (record p { body = fill c (stored x is (Plus b a)) }) []
commuted world c p x is a b was = same_runs_refine world c (stored x is (Plus a b)) (stored x is (Plus b a)) p was (λ s u good come. stores_swap world x is a b u)

-- ---- an admissible input, and both runs

abbrev pub binder : ℕ → Binder
binder n = record { id = n; name = [] }

abbrev pub body : Datum → Block
body e = next (For (binder 1) (Lit (pos 0)) (Lit (pos 16)) (stored 0 (Var 1 ∷ []) e)) end

-- for i in seq(0, 16): x[i] = 1 + 2
abbrev pub three : Procedure
three = record { name = []; template = None; params = record { binder = binder 0; kind = TensorParam I8 (Lit (pos 16) ∷ []) 0 } ∷ []; asserts = []; body = body (Plus (Const (pos 1)) (Const (pos 2))) }

abbrev pub hole : Context
hole = InLoop (binder 1) (Lit (pos 0)) (Lit (pos 16)) (Here end) end

pub three_commutes : (world : World) → Refines world three (record three { body = body (Plus (Const (pos 2)) (Const (pos 1))) }) []
three_commutes world = commuted world hole three 0 (Var 1 ∷ []) (Const (pos 1)) (Const (pos 2)) refl

-- the path leads to the hole
pub hole_is_there : opened 1 (record { branch = Main; index = 0 } ∷ record { branch = Main; index = 0 } ∷ []) three.body ≡ Some (record { around = hole; piece = stored 0 (Var 1 ∷ []) (Plus (Const (pos 1)) (Const (pos 2))) })
hole_is_there = refl

abbrev pub shape : Shape
shape = record { cell = I8; dims = pos 16 ∷ []; strides = pos 1 ∷ [] }

abbrev pub all_of_it : Seen
all_of_it = record { buffer = 0; sides = Range (pos 0) (pos 16) ∷ [] }

abbrev pub input : State
input = record {
  scene = record {
    control = λ x. pos 0;
    buffers = λ x. cond (x == 0) (Some shape) None;
    views = λ x. cond (x == 0) (Some all_of_it) None;
    fields = λ f. pos 0;
  };
  cells = λ b at. Undefined;
}

abbrev pub world : World
world = unit_world (λ f. Index) []

pub is_admissible : IsAdmissible world three input
is_admissible = record {
  arguments = ((refl, refl), tt);
  no_others = λ x k. (refl, off x k, off_view x k);
  cells = λ b s e at. tt;
  tidy = λ b e at. refl;
  fields = λ f. tt;
  asserts = refl;
}
  where
    off : (x : ℕ) → ((x == 0) || false) ≡ false → cond (x == 0) (Some shape) None ≡ None
    off x k = go (x == 0) k
      where
        go : (t : Bool) → (t || false) ≡ false → cond t (Some shape) None ≡ None
        go true k = absurd (true≢false k)
        go false k = refl

    off_view : (x : ℕ) → ((x == 0) || false) ≡ false → cond (x == 0) (Some all_of_it) None ≡ None
    off_view x k = go (x == 0) k
      where
        go : (t : Bool) → (t || false) ≡ false → cond t (Some all_of_it) None ≡ None
        go true k = absurd (true≢false k)
        go false k = refl

abbrev cell : Option State → Value
cell None = Undefined
cell (Some t) = t.cells 0 (pos 15 ∷ [])

it_runs : cell (run_procedure world three input) ≡ Number (pos 3)
unfolding int_wrap
it_runs = refl

-- ---- the tests of other laws

names_are_in_scope : is_scoped (is_param three) three.body ≡ true
names_are_in_scope = refl

no_calls : calls_below 0 three.body ≡ true
no_calls = refl

-- x[i] = 3 with i + 1 for i
substituted : in_block 1 (Add (Var 1) (Lit (pos 1))) (stored 0 (Var 1 ∷ []) (Const (pos 3))) ≡ stored 0 (Add (Var 1) (Lit (pos 1)) ∷ []) (Const (pos 3))
substituted = refl

-- ---- what a call touches

-- def fill(n: size, w: [i8][n]): for l in seq(0, n): w[l] = 5
abbrev pub fill_five : Procedure
fill_five = record {
  name = [];
  template = None;
  params = record { binder = binder 10; kind = ControlParam Size } ∷ record { binder = binder 11; kind = WindowParam I8 (Var 10 ∷ []) 0 } ∷ [];
  asserts = [];
  body = next (For (binder 12) (Lit (pos 0)) (Var 10) (stored 11 (Var 12 ∷ []) (Const (pos 5)))) end;
}

abbrev pub unit : World
unit = unit_world (λ f. Index) (fill_five ∷ [])

-- fill(2, x[3:5])
abbrev pub call_it : Block
call_it = next (Call 0 (ControlArg (Lit (pos 2)) ∷ Window 0 (Span (Lit (pos 3)) (Lit (pos 5)) ∷ []) ∷ [])) end

its_window_is_written : unit_modes (λ f. Index) (fill_five ∷ []) 0 Writing 11 ≡ true
its_window_is_written = refl

it_is_not_read : unit_modes (λ f. Index) (fill_five ∷ []) 0 Reading 11 ≡ false
it_is_not_read = refl

-- one entry for each cell of the window
two_cells : touched unit (unit_modes (λ f. Index) (fill_five ∷ [])) call_it input ≡ Writes (record { buffer = 0; at = pos 3 ∷ [] }) ∷ Writes (record { buffer = 0; at = pos 4 ∷ [] }) ∷ []
two_cells = refl

abbrev filled_cell : Option State → Value
filled_cell None = Undefined
filled_cell (Some t) = t.cells 0 (pos 4 ∷ [])

it_fills : filled_cell (run unit call_it input) ≡ Number (pos 5)
unfolding int_wrap
it_fills = refl

-- and the unit of that procedure alone is well formed
abbrev pub fill_named : Procedure
fill_named = record fill_five {
  params = record { binder = record { id = 10; name = 110 ∷ [] }; kind = ControlParam Size } ∷ record { binder = record { id = 11; name = 119 ∷ [] }; kind = WindowParam I8 (Var 10 ∷ []) 0 } ∷ [];
  body = next (For (record { id = 12; name = 108 ∷ [] }) (Lit (pos 0)) (Var 10) (stored 11 (Var 12 ∷ []) (Const (pos 5)))) end;
}

pub may_run : MayRun [] 1 [] fill_named
may_run = record { unit = tt; procedure = record { params = refl; asserts = refl; body = refl; filled = refl; ids = refl; distinct = refl; paths = refl; template = refl } }

-- ---- the turns of a loop, the other way round

-- x[i] = 3
abbrev pub store_three : Block
store_three = stored 0 (Var 1 ∷ []) (Const (pos 3))

pub no_fields : LeavesFields world store_three
no_fields s t e = fun_ext (λ f. subst (λ o. IfSome o (HasField f s)) e (fields_are_kept world (unit_writes []) (unit_leaves (λ g. Index) []) f store_three refl s))

-- turns 0 and 1 store in two cells
turns_swap : Exchange (IsAt input) (turn 1 (run world store_three)) (pos 0) (pos 1)
turns_swap t h =
    let here : t ≡ record { scene = input.scene; cells = t.cells } = ap {B = State} (λ (z : Scene). record { scene = z; cells = t.cells }) h.0 in
    subst (λ (u : State). then_do (turn 1 (run world store_three) (pos 0) u) (turn 1 (run world store_three) (pos 1)) ≡ then_do (turn 1 (run world store_three) (pos 1) u) (turn 1 (run world store_three) (pos 0))) (sym here)
    (turns_commute (λ f. Index) 1 1 store_three store_three (pos 0) (pos 1) (record { scene = input.scene; cells = t.cells }) (subst IsTidy here h.1) refl refl ((λ u. refl), tt) ((λ u. refl), tt))

-- for i in seq(0, 2): x[i] = 3
turned : turns (turn 1 (run world store_three)) (pos 1 ∷ pos 0 ∷ []) input ≡ step world (For (binder 1) (Lit (pos 0)) (Lit (pos 2)) store_three) input
turned =
    let first : (pos 0 ≤ℤ pos 0) × (pos 0 <ℤ pos 2) = (omega (arith, ints), omega (arith, ints)) in
    let second : (pos 0 ≤ℤ pos 1) × (pos 1 <ℤ pos 2) = (omega (arith, ints), omega (arith, ints)) in
    turns_may_be_permuted world (binder 1) (Lit (pos 0)) (Lit (pos 2)) store_three input (pos 1 ∷ pos 0 ∷ []) is_admissible.tidy no_fields (exchange (first, (second, turns_swap)))
