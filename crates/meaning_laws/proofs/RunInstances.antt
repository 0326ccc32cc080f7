-- Laws of runs, each with a run that computes.
use Rattle.std.proofs.Common.{◌≡◌, ℕ, ℤ, pos, ◌==◌, Bool, true, false, true≢false, cond, [], ◌∷◌, Option, Some, None, IfSome, option_map, refl, sym, subst, eqb-true}
use Rattle.std.specs.Int.{int_wrap}
use Rattle.exo_tree.specs.Tree.{I8, Index, Lit, Const, Reduce, Config, ControlArg, Pass, Block, end, next, Procedure}
use Rattle.exo_tree.specs.Context.{Context, Here, fill}
use Rattle.exo_meaning.specs.Value.{Value, Number}
use Rattle.exo_meaning.specs.Scene.{Seen, Shape, then_do}
use Rattle.exo_meaning.specs.State.{State, on_scene, with_buffer, with_contents}
use Rattle.exo_meaning.specs.Run.{run, turn, turns}
use Rattle.exo_meaning.specs.Inputs.{Refines}
use Rattle.exo_meaning.specs.Laws.{HasRoots, IsKept}
use Rattle.exo_meaning.specs.Renaming.{re_block, re_state}
use Rattle.exo_meaning.specs.Units.{scope_of}
use Rattle.exo_meaning.proofs.Windows.{none_is_some, one_value}
use Rattle.exo_meaning.proofs.Frame.{others_are_kept}
use Rattle.exo_meaning.proofs.Renamed.{runs_rename}
use Rattle.meaning_laws.specs.Substitute.{bound}
use Rattle.meaning_laws.specs.Live.{RefinedLive, refield}
use Rattle.meaning_laws.specs.UnitFields.{unit_live}
use Rattle.meaning_laws.proofs.Swaps.{swap}
use Rattle.meaning_laws.proofs.Refined.{state_same}
use Rattle.meaning_laws.proofs.ReplaceLive.{live_law}
use Rattle.meaning_laws.proofs.UnitFields.{unit_forgets}
use Rattle.meaning_laws.proofs.UnitFootprints.{blocks_commute}
use Rattle.meaning_laws.proofs.Examples.{stored, input, shape, all_of_it, world, unit, call_it, store_three, three}
use Rattle.meaning_laws.proofs.UnitInstances.{above, named_unit, three_named, are_procedures, input_is_sound, input_is_sorted}

-- the cell of a buffer after a run, and a field
abbrev cell_of : ℕ → ℤ → Option State → Option Value
cell_of b i o = option_map (λ (t : State). t.cells b (i ∷ [])) o

abbrev field_of : ℕ → Option State → Option ℤ
field_of f o = option_map (λ (t : State). t.scene.fields f) o

-- ---- data is apart from control: a store outside faults whatever the cells are

abbrev filled : State
filled = record input { cells = λ b at. Number (pos 3) }

outside : run world (stored 0 (Lit (pos 16) ∷ []) (Const (pos 1))) input ≡ None
outside = refl

outside_too : run world (stored 0 (Lit (pos 16) ∷ []) (Const (pos 1))) filled ≡ None
outside_too = refl

-- ---- frame: a call that fills x[3:5] leaves y, whose cells are 9

abbrev with_y : State
with_y = with_contents 7 (λ at. Number (pos 9)) (on_scene (with_buffer 7 shape) input)

y_is_kept : IfSome (run unit call_it with_y) (IsKept 7 with_y)
y_is_kept = others_are_kept unit (λ x. x) call_it 7 with_y roots refl refl
  where
    all_of_y : Seen
    all_of_y = record { buffer = 7; sides = all_of_it.sides }

    roots : HasRoots (λ x. x) with_y.scene
    roots x z e = go (x == 7) (x == 0) refl refl e
      where
        go : (t r : Bool) → (x == 7) ≡ t → (x == 0) ≡ r → cond {A = Option Seen} t (Some (record { buffer = 7; sides = all_of_it.sides })) (cond {A = Option Seen} r (Some all_of_it) None) ≡ Some z → z.buffer ≡ x
        go true r k l e = subst (λ (o : Seen). o.buffer ≡ x) (one_value (record { buffer = 7; sides = all_of_it.sides }) z e) (sym (eqb-true x 7 k))
        go false true k l e = subst (λ (o : Seen). o.buffer ≡ x) (one_value all_of_it z e) (sym (eqb-true x 0 l))
        go false false k l e = absurd (none_is_some e)

nine_stays : cell_of 7 (pos 4) (run unit call_it with_y) ≡ Some (Number (pos 9))
unfolding int_wrap
nine_stays = refl

five_comes : cell_of 0 (pos 4) (run unit call_it with_y) ≡ Some (Number (pos 5))
unfolding int_wrap
five_comes = refl

-- ---- renaming: 0 and 5 change places

renamed : run world (re_block (swap 0 5) three.body) (re_state (swap 0 5) input) ≡ option_map (re_state (swap 0 5)) (run world three.body input)
renamed = runs_rename (swap 0 5) world three.body input

under_five : cell_of 5 (pos 15) (run world (re_block (swap 0 5) three.body) (re_state (swap 0 5) input)) ≡ Some (Number (pos 3))
unfolding int_wrap
under_five = refl

-- ---- substitution: i is 3

by_binding : cell_of 0 (pos 3) (run world store_three (bound 1 (Lit (pos 3)) input)) ≡ Some (Number (pos 3))
unfolding int_wrap
by_binding = refl

by_substitution : cell_of 0 (pos 3) (run world (stored 0 (Lit (pos 3) ∷ []) (Const (pos 3))) input) ≡ Some (Number (pos 3))
unfolding int_wrap
by_substitution = refl

-- ---- fields that are not live: a write that another write follows may go

abbrev sets : ℤ → Block
sets n = next (Config 0 (ControlArg (Lit n))) end

abbrev body_is : Block → Procedure
body_is b = record { name = []; template = None; params = []; asserts = []; body = b }

abbrev behind : Context
behind = Here (sets (pos 2))

abbrev twice : Procedure
twice = body_is (fill behind (sets (pos 1)))

abbrev once : Procedure
once = body_is (fill behind (next Pass end))

abbrev lives : ℕ → Bool
lives f = cond (f == 0) false true

write_goes : Refines world twice once []
write_goes = live_law (λ f. Index) [] (unit_live []) behind (sets (pos 1)) (next Pass end) twice once (λ f. true) [] (unit_forgets (λ f. Index) []) refl refl (λ f k. refl) (λ s u good come g agree a b i j.
    subst (λ z. RefinedLive lives z b) (one_value (set_to g u) a i) (subst (λ z. RefinedLive lives (set_to g u) z) (one_value (refield g u) b j) (same g u)))
  where
    set_to : (ℕ → ℤ) → State → State
    set_to g u = refield (λ f. cond (f == 0) (pos 1) (g f)) u

    same : (g : ℕ → ℤ) (u : State) → RefinedLive lives (set_to g u) (refield g u)
    same g u = record { middle = refield g u; live = record { fields = g; agree = λ f k. other f (f == 0) k; same = refl }; refined = state_same (refield g u) }
      where
        other : (f : ℕ) (t : Bool) → cond t false true ≡ true → cond t (pos 1) (g f) ≡ g f
        other f true k = absurd (true≢false (sym k))
        other f false k = refl

set_twice : field_of 0 (run world twice.body input) ≡ Some (pos 2)
set_twice = refl

set_once : field_of 0 (run world once.body input) ≡ Some (pos 2)
set_once = refl

-- ---- footprints: a store beside what a call fills, and two reductions into one cell

abbrev at_nine : Block
at_nine = stored 0 (Lit (pos 9) ∷ []) (Const (pos 3))

abbrev adds : ℤ → Block
adds n = next (Reduce 0 (Lit (pos 1) ∷ []) (Const n)) end

either_first : then_do (run named_unit at_nine input) (run named_unit call_it) ≡ then_do (run named_unit call_it input) (run named_unit at_nine)
either_first = blocks_commute [] 1 above (scope_of [] three_named.params) (λ x. x) at_nine call_it input
    (record { unit = are_procedures; block = refl; sound = input_is_sound; sorted = input_is_sorted })
    (record { unit = are_procedures; block = refl; sound = input_is_sound; sorted = input_is_sorted })
    refl refl (((λ u. refl), tt), ((λ u. refl), ((λ u. refl), tt)))

both_are_there : (cell_of 0 (pos 9) (then_do (run named_unit call_it input) (run named_unit at_nine)) ≡ Some (Number (pos 3))) × (cell_of 0 (pos 4) (then_do (run named_unit call_it input) (run named_unit at_nine)) ≡ Some (Number (pos 5)))
unfolding int_wrap
both_are_there = (refl, refl)

sums_commute : then_do (run named_unit (adds (pos 1)) input) (run named_unit (adds (pos 2))) ≡ then_do (run named_unit (adds (pos 2)) input) (run named_unit (adds (pos 1)))
sums_commute = blocks_commute [] 1 above (scope_of [] three_named.params) (λ x. x) (adds (pos 1)) (adds (pos 2)) input
    (record { unit = are_procedures; block = refl; sound = input_is_sound; sorted = input_is_sorted })
    (record { unit = are_procedures; block = refl; sound = input_is_sound; sorted = input_is_sorted })
    refl refl (((λ s e. (refl, cells e)), tt), ((λ s e. (refl, cells e)), tt))
  where
    cells : {s : Shape} → Some shape ≡ Some s → s.cell ≡ I8
    cells {s} e = subst (λ (z : Shape). z.cell ≡ I8) (one_value shape s e) refl

-- ---- turns in another order

turned_back : cell_of 0 (pos 1) (turns (turn 1 (run world store_three)) (pos 1 ∷ pos 0 ∷ []) input) ≡ Some (Number (pos 3))
unfolding int_wrap
turned_back = refl
