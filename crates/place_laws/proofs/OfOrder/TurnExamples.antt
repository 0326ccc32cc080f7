-- A loop with a call in its body, in two loops and back.
use Rattle.std.proofs.Common.{◌≡◌, ℕ, ℤ, pos, ◌≤ℤ◌, ◌<ℤ◌, ◌==◌, true, false, true≢false, cond, List}
use Rattle.std.proofs.Common.{[], ◌∷◌, Option, Some, None, IfSome, refl, sym, ap, subst, arith}
use Rattle.std.proofs.Math.Path.{fun_ext}
use Rattle.std.specs.Int.{int_wrap}
use Rattle.std.proofs.lemmas.Int.{ints}
use Rattle.exo_tree.specs.Tree.{I8, Lit, Var, Add, Const, Span, ControlArg, Window, Call, Block}
use Rattle.exo_tree.specs.Tree.{end, next, joined, TensorParam, Param, Procedure}
use Rattle.exo_meaning.specs.Value.{Value, Undefined, Number}
use Rattle.exo_meaning.specs.Scene.{Scene}
use Rattle.exo_meaning.specs.State.{State, Cells}
use Rattle.exo_meaning.specs.Run.{World, run, kinds_of, unit_world}
use Rattle.exo_meaning.specs.Footprint.{Entry}
use Rattle.exo_meaning.specs.Inputs.{IsAdmissible}
use Rattle.exo_meaning.specs.Units.{BufferName, Scope, with_name, is_block, field_kind}
use Rattle.exo_meaning.specs.Units.{AreProcedures}
use Rattle.meaning_laws.specs.Sound.{IsUnbound}
use Rattle.meaning_laws.specs.Fields.{HasField}
use Rattle.meaning_laws.specs.UnitFields.{unit_writes}
use Rattle.meaning_laws.specs.Pairs.{LeavesFields, AreClear}
use Rattle.meaning_laws.specs.Touched.{unit_modes, turn_touched, MayTouch}
use Rattle.meaning_laws.proofs.Fields.{fields_are_kept}
use Rattle.meaning_laws.proofs.UnitFields.{unit_leaves}
use Rattle.meaning_laws.proofs.Copies.{admissible_sound}
use Rattle.meaning_laws.proofs.Sorted.{admissible_sorted}
use Rattle.meaning_laws.proofs.Swaps.{swap, swap_moves}
use Rattle.meaning_laws.proofs.Examples.{stored, shape, all_of_it, input, is_admissible, fill_named}
use Rattle.meaning_laws.proofs.Examples.{may_run}
use Rattle.place_laws.specs.Order.TurnsOfTwo.{Spot, in_a_row, Loop, HalvesAreClear, GoInTurn}
use Rattle.place_laws.specs.Order.PartedLoops.{with_body, of_both, alone, parted, MayPart, fused, MayFuse}
use Rattle.place_laws.specs.Order.WrittenFirst.{writing, MayWriteFirst}
use Rattle.meaning_laws.specs.Copies.{Moves}
use Rattle.place_laws.proofs.OfOrder.TurnsOfTwo.{turns_from_footprints}
use Rattle.place_laws.proofs.OfOrder.WrittenFirst.{written_first_law}
use Rattle.place_laws.proofs.OfOrder.PartedLoops.{fission_law, fuse_law}

-- one procedure, def fill(n: size, w: [i8][n]): for l in seq(0, n): w[l] = 5
abbrev pub ps : List Procedure
ps = fill_named ∷ []

abbrev pub world : World
world = unit_world (kinds_of []) ps

abbrev pub params : List Param
params = record {
  binder = record { id = 0; name = 120 ∷ [] };
  kind =
      TensorParam I8 (Lit (pos 16) ∷ []) 0;
} ∷ []

abbrev pub scope : Scope
scope = with_name [] (record { id = 0; name = 120 ∷ [] }) (BufferName I8 1 true)

abbrev pub spot : Spot
spot = record { fields = []; memories = 1; procedures = ps; scope = scope; root = λ x. x }

abbrev pub stores : Block
stores = stored 0 (Var 1 ∷ []) (Const (pos 3))

-- fill(1, x[i + 8:i + 9])
abbrev pub fills : ℕ → Block
fills i = next (Call 0 (ControlArg (Lit (pos 1)) ∷ Window 0
    (Span (Add (Var i) (Lit (pos 8))) (Add (Var i) (Lit (pos 9))) ∷ []) ∷ [])) end

-- for i in seq(0, 2): x[i] = 3
abbrev pub first : Loop
first = record {
  binder = record { id = 1; name = 105 ∷ [] };
  lo = Lit (pos 0);
  hi = Lit (pos 2);
  body = stores;
}

-- for j in seq(0, 2): fill(1, x[j + 8:j + 9])
abbrev pub second : Loop
second = record {
  binder = record { id = 2; name = 106 ∷ [] };
  lo = Lit (pos 0);
  hi = Lit (pos 2);
  body = fills 2;
}

abbrev pub holder : Procedure
holder = record { name = []; template = None; params = params; asserts = []; body = end }

pub admissible : IsAdmissible world holder input
admissible = record {
  arguments = is_admissible.arguments;
  no_others = is_admissible.no_others;
  cells = is_admissible.cells;
  tidy = is_admissible.tidy;
  fields = is_admissible.fields;
  asserts =
      refl;
}

pub is_unit : AreProcedures [] 1 [] ps
is_unit = (may_run.procedure, tt)

may_touch : (b : Block) → is_block (field_kind []) 1 world.callees scope (λ x. x) b ≡ true
    → MayTouch [] 1 ps scope (λ x. x) b input
may_touch b ok = record {
  unit = is_unit;
  block = ok;
  sound =
      admissible_sound world holder input admissible;
  sorted =
      admissible_sorted (kinds_of []) (field_kind []) 1 world refl holder refl input admissible;
}

pub stores_leave : LeavesFields world stores
stores_leave s t e = fun_ext
    (λ f. subst (λ o. IfSome o (HasField f s)) e
    (fields_are_kept world (unit_writes ps) (unit_leaves (kinds_of []) ps) f stores refl s))

pub fills_leave : (i : ℕ) → LeavesFields world (fills i)
fills_leave i s t e = fun_ext
    (λ f. subst (λ o. IfSome o (HasField f s)) e
    (fields_are_kept world (unit_writes ps) (unit_leaves (kinds_of []) ps) f (fills i) refl s))

abbrev touches : Loop → ℤ → Cells → List Entry
touches l n c = turn_touched world (unit_modes (kinds_of []) ps) l.binder l.body n
    (record { scene = input.scene; cells = c })

-- of two turns the first is turn 0, and the second turn 1
pub is_zero : (m n : ℤ) → m <ℤ n → pos 0 ≤ℤ m → n <ℤ pos 2 → m ≡ pos 0
is_zero m n a b c = omega (arith, ints)

pub is_one : (m n : ℤ) → m <ℤ n → pos 0 ≤ℤ m → n <ℤ pos 2 → n ≡ pos 1
is_one m n a b c = omega (arith, ints)

by_turns : (l : Loop) → ((c : Cells)
    → AreClear input.scene (touches l (pos 0) c) (touches first (pos 1) c))
    → HalvesAreClear spot first l input
by_turns l clear t m n e before =
    let modes = unit_modes (kinds_of []) ps in
    let here : t ≡ record { scene = input.scene; cells = t.cells } =
    ap {B = State} (λ (z : Scene). record { scene = z; cells = t.cells }) e in
    let at_turns : AreClear input.scene (touches l m t.cells) (touches first n t.cells) =
    subst (λ a. AreClear input.scene (touches l a t.cells) (touches first n t.cells))
    (sym (is_zero m n before.0 before.1 before.2))
    (subst (λ b. AreClear input.scene (touches l (pos 0) t.cells) (touches first b t.cells))
    (sym (is_one m n before.0 before.1 before.2)) (clear t.cells)) in
    subst (λ (u : State). AreClear u.scene (turn_touched world modes l.binder l.body m u)
    (turn_touched world modes first.binder first.body n u)) (sym here) at_turns

-- turn 0 fills x[8], turn 1 stores in x[1]
they_are_apart : (c : Cells)
    → AreClear input.scene (touches second (pos 0) c) (touches first (pos 1) c)
they_are_apart c = (((λ u. refl), tt), ((λ u. refl), tt))

may_fuse : MayFuse spot first second input
may_fuse = record {
  start = may_touch (in_a_row first second) refl;
  turns = record { agree = (refl, refl); first = stores_leave; second = fills_leave 2 };
  unused = refl;
  unbound = λ x e. absurd (true≢false (sym e));
}

-- for i in seq(0, 2): x[i] = 3; fill(1, x[i + 8:i + 9])
fused_is : (fused first second).body ≡ joined stores (fills 1)
fused_is = refl

-- they do what their bodies do in turn
in_turn : GoInTurn world first second input
in_turn = turns_from_footprints spot first second input (may_touch (in_a_row first second) refl)
    may_fuse.turns (by_turns second they_are_apart)

fuses : run world (in_a_row first second) input ≡ run world (alone (fused first second)) input
fuses = fuse_law spot first second input may_fuse (by_turns second they_are_apart)

-- and back: the same loop, and its second part in a copy under id 2
abbrev again : Block
again = parted first (fills 1) (swap 1 2)

abbrev one : Loop
one = of_both first (fills 1)

nothing : (x : ℕ) → (x == 0) ≡ false → IsUnbound input x
nothing x e = record {
  control = refl;
  buffers = ap (λ t. cond t (Some shape) None) e;
  views =
      ap (λ t. cond t (Some all_of_it) None) e;
}

may_part : MayPart spot first (fills 1) input
may_part = record {
  start = may_touch (alone one) refl;
  turns = record { agree = (refl, refl); first = stores_leave; second = fills_leave 1 };
  unused = refl;
  unbound = λ x e. absurd (true≢false (sym e));
}

moves : Moves (swap 1 2) (IsUnbound input)
moves = swap_moves 1 2 (IsUnbound input) (nothing 1 refl) (nothing 2 refl)

parts : run world (alone one) input ≡ run world again input
parts = fission_law spot first (fills 1) (swap 1 2) input may_part
    moves
    (by_turns (with_body first (fills 1)) (λ c. (((λ u. refl), tt), ((λ u. refl), tt))))

-- both runs
abbrev cell : ℤ → Option State → Value
cell n None = Undefined
cell n (Some t) = t.cells 0 (n ∷ [])

it_stores : cell (pos 1) (run world again input) ≡ Number (pos 3)
unfolding int_wrap
it_stores = refl

it_fills : cell (pos 9) (run world again input) ≡ Number (pos 5)
unfolding int_wrap
it_fills = refl

it_fills_in_turn : cell (pos 9) (run world (alone one) input) ≡ Number (pos 5)
unfolding int_wrap
it_fills_in_turn = refl

-- ---- turns that clash may not be exchanged

-- x[i + 1] = 5, which a later turn of the first part stores in
abbrev stores_ahead : Block
stores_ahead = stored 0 (Add (Var 1) (Lit (pos 1)) ∷ []) (Const (pos 5))

in_one : cell (pos 1) (run world (alone (of_both first stores_ahead)) input) ≡ Number (pos 3)
unfolding int_wrap
in_one = refl

in_two : cell (pos 1) (run world (parted first stores_ahead (swap 1 2)) input) ≡ Number (pos 5)
unfolding int_wrap
in_two = refl

-- ---- a field that is written first

-- for i in seq(0, 2): C.f = 7; x[i] = 3
abbrev written : Loop
written = writing first 0 (ControlArg (Lit (pos 7)))

may_write : MayWriteFirst world first 0 (ControlArg (Lit (pos 7))) stores input
may_write = record {
  sound = admissible_sound world holder input admissible;
  unbound = nothing 1 refl;
  plain = refl;
  steady = refl;
  reads_none = λ g. refl;
  leaves = fields_are_kept world (unit_writes ps) (unit_leaves (kinds_of []) ps) 0 stores refl;
}

writes : run world (alone (of_both written stores)) input ≡ run world
    (parted written stores (swap 1 2)) input
writes = written_first_law world first 0 (ControlArg (Lit (pos 7))) stores (swap 1 2) input
    may_write moves

abbrev field : Option State → ℤ
field None = pos 0
field (Some t) = t.scene.fields 0

it_writes : field (run world (parted written stores (swap 1 2)) input) ≡ pos 7
it_writes = refl
