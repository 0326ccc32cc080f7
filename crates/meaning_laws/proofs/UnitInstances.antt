-- Laws of replaced blocks, copies and well-formed units at a small closed unit.
use Rattle.std.proofs.Common.{◌≡◌, ◌⊎◌, ℕ, pos, ◌+ℤ◌, ◌<ℤ◌, Bool, true, false, true≢false, cond, List, [], ◌∷◌, Some, None, IfSome, option_map, refl, sym, ap, ◌∙◌, subst, inl, inr, arith}
use Rattle.std.proofs.Math.Path.{fun_ext}
use Rattle.std.proofs.lemmas.Int.{ints}
use Rattle.std.specs.Prelude.{slice_get}
use Rattle.exo_tree.specs.Tree.{Binder, I8, Index, Lit, Var, Add, Const, For, Pass, Call, ControlArg, Window, Span, Block, end, next, TensorParam, Procedure}
use Rattle.exo_tree.specs.Context.{Context, Here, InLoop}
use Rattle.exo_meaning.specs.Value.{Value, Undefined, on_one}
use Rattle.exo_meaning.specs.Scene.{Scene, then_do, Range}
use Rattle.exo_meaning.specs.State.{State, same_index, scoped}
use Rattle.exo_meaning.specs.Calls.{GivenNumber, GivenView, entered}
use Rattle.exo_meaning.specs.Run.{World, run, step, turn, turns, kinds_of, unit_world, world_of, callee_in}
use Rattle.exo_meaning.specs.Refines.{StateRefined}
use Rattle.exo_meaning.specs.Renaming.{Renaming, re_block, re_statement, re_state}
use Rattle.exo_meaning.specs.Inputs.{IsAdmissible, Refines}
use Rattle.exo_meaning.specs.Orders.{Each, Exchange, by_rows, by_columns}
use Rattle.exo_meaning.specs.Nests.{both_turns, IsAt, nest}
use Rattle.exo_meaning.specs.Footprint.{Change, ChangesBy, changed_by}
use Rattle.exo_meaning.specs.Units.{Scope, scope_of, AreProcedures}
use Rattle.exo_meaning.proofs.Windows.{one_value}
use Rattle.exo_meaning.proofs.Renamed.{runs_rename}
use Rattle.exo_meaning.proofs.Orders.{nests_reorder}
use Rattle.meaning_laws.specs.Context.{RefinedBut}
use Rattle.meaning_laws.specs.Sound.{IsSound, IsUnbound}
use Rattle.meaning_laws.specs.Copies.{IsFree, Moves}
use Rattle.meaning_laws.specs.Fresh.{IsFresh}
use Rattle.meaning_laws.specs.Known.{KeepsKnown}
use Rattle.meaning_laws.specs.Scoped.{is_scoped, is_param, HasPlainBounds}
use Rattle.meaning_laws.specs.Fields.{HasField, writes_field}
use Rattle.meaning_laws.specs.Live.{RefinedLive, refield}
use Rattle.meaning_laws.specs.UnitFields.{unit_live, unit_writes}
use Rattle.meaning_laws.specs.Grown.{calls_below}
use Rattle.meaning_laws.specs.Pairs.{LeavesFields, AreClear, pair_touches}
use Rattle.meaning_laws.specs.Sorted.{MayRun, Ends, IsSorted}
use Rattle.meaning_laws.specs.Touched.{IsCovered, MayTouch, modes_in, unit_modes, touched}
use Rattle.meaning_laws.proofs.Refined.{state_same, refined_same}
use Rattle.meaning_laws.proofs.Examples.{three, hole, input, world, call_it, fill_named, may_run, store_three, stores_swap, is_admissible, no_fields}
use Rattle.meaning_laws.proofs.Instances.{old, new, exchanged, args}
use Rattle.meaning_laws.proofs.Replace.{context_law, names_law}
use Rattle.meaning_laws.proofs.ReplaceLive.{live_law}
use Rattle.meaning_laws.proofs.Copies.{sound_law, unbound_law, copy_law, copied_block_law}
use Rattle.meaning_laws.proofs.Fresh.{fresh_copy_law}
use Rattle.meaning_laws.proofs.Fields.{fields_are_kept}
use Rattle.meaning_laws.proofs.UnitFields.{unit_leaves, unit_forgets}
use Rattle.meaning_laws.proofs.Pairs.{pairs_commute}
use Rattle.meaning_laws.proofs.FirstState.{first_state_law}
use Rattle.meaning_laws.proofs.Sorted.{fit_law, fits_at_law}
use Rattle.meaning_laws.proofs.UnitFootprints.{modes_cover, runs_go_by_footprint, runs_exchange, turns_with_calls_commute, pairs_with_calls_commute}
use Rattle.meaning_laws.proofs.NestsWithin.{nests_within_bounds, nests_from_footprints}
use Rattle.meaning_laws.proofs.WellFormed.{well_scoped, plain_bounds, well_known, calls_are_below}

-- ---- the sum in `three` with its sides exchanged, by each law of replaced blocks

ends_same : (u a b : State) → run world old u ≡ Some a → run world new u ≡ Some b → a ≡ b
ends_same u a b i j = one_value a b (sym i ∙ (stores_swap world 0 (Var 1 ∷ []) (Const (pos 1)) (Const (pos 2)) u ∙ j))

by_names : Refines world three exchanged []
by_names = names_law (λ f. Index) [] hole old new three exchanged refl refl (λ s u good come a b i j. subst (StateRefined a) (ends_same u a b i j) (state_same a))

by_context : Refines world three exchanged []
by_context = context_law (λ f. Index) [] (λ x. false) hole old new three exchanged refl refl refl (λ s u good come. record {
  fresh = λ x k. absurd (true≢false (sym k));
  runs = λ a b i j. subst (RefinedBut (λ x. false) a) (ends_same u a b i j) (same a);
})
  where
    same : (a : State) → RefinedBut (λ x. false) a a
    same a = record { control = λ x k. refl; buffers = λ x k. refl; views = λ x k. refl; fields = refl; cells = λ x k at. refined_same (a.cells x at); seen = λ x z k e. refl }

by_live : Refines world three exchanged []
by_live = live_law (λ f. Index) [] (unit_live []) hole old new three exchanged (λ f. true) [] (unit_forgets (λ f. Index) []) refl refl (λ f k. refl) (λ s u good come g agree a b i j. subst (RefinedLive (λ f. true) a) (ends_same (refield g u) a b i j) (same a))
  where
    same : (a : State) → RefinedLive (λ f. true) a a
    same a = record { middle = a; live = record { fields = a.scene.fields; agree = λ f k. refl; same = refl }; refined = state_same a }

-- ---- copies

fresh_copy : (r : Renaming) × IsFresh three.body 5 r × Moves r (IsFree three (Here end))
fresh_copy = fresh_copy_law three (Here end) three.body 5 ((refl, refl), (refl, refl), tt)

pub input_is_sound : IsSound input
input_is_sound = sound_law world three three.body (Here end) input input is_admissible refl

moved : Moves fresh_copy.0 (IsUnbound input)
moved x = go (fresh_copy.2 x)
  where
    unbound : (y : ℕ) → IsFree three (Here end) y → IsUnbound input y
    unbound y = unbound_law world three three.body (Here end) input input is_admissible refl y

    go : {P : Type 0} → P ⊎ (IsFree three (Here end) x × IsFree three (Here end) (fresh_copy.0.from x)) → P ⊎ (IsUnbound input x × IsUnbound input (fresh_copy.0.from x))
    go (inl e) = inl e
    go (inr f) = inr (unbound x f.0, unbound (fresh_copy.0.from x) f.1)

under_other_ids : run world (re_block fresh_copy.0 three.body) (re_state fresh_copy.0 input) ≡ option_map (re_state fresh_copy.0) (run world three.body input)
under_other_ids = runs_rename fresh_copy.0 world three.body input

copied_loop : step world (re_statement fresh_copy.0 (For (record { id = 1; name = [] }) (Lit (pos 0)) (Lit (pos 16)) store_three)) input ≡ step world (For (record { id = 1; name = [] }) (Lit (pos 0)) (Lit (pos 16)) store_three) input
copied_loop = copy_law fresh_copy.0 world (record { id = 1; name = [] }) (Lit (pos 0)) (Lit (pos 16)) store_three input input_is_sound moved

copied_body : (run world (re_block fresh_copy.0 three.body) input ≡ option_map (re_state fresh_copy.0) (run world three.body input)) × (scoped (run world (re_block fresh_copy.0 three.body)) input ≡ scoped (run world three.body) input)
copied_body = copied_block_law fresh_copy.0 world three.body input input_is_sound moved

-- ---- a well-formed unit: x, a tensor of 16 cells, and `fill_named` above

abbrev pub letter : ℕ → ℕ → Binder
letter n c = record { id = n; name = c ∷ [] }

abbrev pub three_named : Procedure
three_named = record { name = 116 ∷ []; template = None; params = record { binder = letter 0 120; kind = TensorParam I8 (Lit (pos 16) ∷ []) 0 } ∷ []; asserts = []; body = next (For (letter 1 105) (Lit (pos 0)) (Lit (pos 16)) store_three) end }

abbrev pub above : List Procedure
above = fill_named ∷ []

abbrev pub named_unit : World
named_unit = unit_world (kinds_of []) above

abbrev named_hole : Context
named_hole = InLoop (letter 1 105) (Lit (pos 0)) (Lit (pos 16)) (Here end) end

pub are_procedures : AreProcedures [] 1 [] above
are_procedures = (may_run.procedure, tt)

may : MayRun [] 1 above three_named
may = record { unit = are_procedures; procedure = record { params = refl; asserts = refl; body = refl; filled = refl; ids = refl; distinct = refl; paths = refl; template = refl } }

good : IsAdmissible named_unit three_named input
good = record { arguments = ((refl, refl), tt); no_others = is_admissible.no_others; cells = is_admissible.cells; tidy = is_admissible.tidy; fields = λ f. tt; asserts = refl }

it_fits : IfSome (run named_unit three_named.body input) (Ends (kinds_of []) input)
it_fits = fit_law [] 1 above three_named may input good

abbrev scope : Scope
scope = scope_of [] three_named.params

pub input_is_sorted : IsSorted (kinds_of []) scope input
input_is_sorted = fits_at_law [] 1 above three_named (Here end) three_named.body may refl input input good refl

its_modes : Each (IsCovered scope (modes_in named_unit (unit_modes (kinds_of []) above) three_named)) (touched named_unit (unit_modes (kinds_of []) above) three_named.body input)
its_modes = modes_cover [] 1 above three_named may input good

its_bounds : HasPlainBounds named_hole
its_bounds = plain_bounds (λ f. None) 1 (slice_get []) three_named named_hole store_three record { params = refl; asserts = refl; body = refl; filled = refl; ids = refl; distinct = refl; paths = refl; template = refl } refl

its_facts : KeepsKnown three_named named_hole
its_facts = well_known (λ f. None) 1 (slice_get []) three_named named_hole store_three record { params = refl; asserts = refl; body = refl; filled = refl; ids = refl; distinct = refl; paths = refl; template = refl } refl

its_names : is_scoped (is_param three_named) three_named.body ≡ true
its_names = (well_scoped (λ f. None) 1 (slice_get []) three_named record { params = refl; asserts = refl; body = refl; filled = refl; ids = refl; distinct = refl; paths = refl; template = refl }).0

its_calls : calls_below 0 three_named.body ≡ true
its_calls = calls_are_below (λ f. None) 1 [] three_named record { params = refl; asserts = refl; body = refl; filled = refl; ids = refl; distinct = refl; paths = refl; template = refl }

-- ---- a call in it: fill(2, x[3:5])

callees_input : (inner : State) → entered fill_named.params (GivenNumber (pos 2) ∷ GivenView (record { buffer = 0; sides = Range (pos 3) (pos 2) ∷ [] }) ∷ []) input ≡ Some inner → IsAdmissible named_unit fill_named inner
callees_input inner e = first_state_law [] 1 named_unit scope (λ x. x) input inner (callee_in (world_of (kinds_of []) []) fill_named) args (GivenNumber (pos 2) ∷ GivenView (record { buffer = 0; sides = Range (pos 3) (pos 2) ∷ [] }) ∷ []) refl input_is_sound input_is_sorted refl refl refl e refl

may_touch : MayTouch [] 1 above scope (λ x. x) call_it input
may_touch = record { unit = are_procedures; block = refl; sound = input_is_sound; sorted = input_is_sorted }

call_changes : IfSome (run named_unit call_it input) (ChangesBy (touched named_unit (unit_modes (kinds_of []) above) call_it input) input)
call_changes = runs_go_by_footprint [] 1 above scope (λ x. x) call_it input may_touch

-- doubles the cells at 9
abbrev doubled : Change
doubled b at v = cond (same_index at (pos 9 ∷ [])) (on_one (λ n. n +ℤ n) v) v

call_exchanges : run named_unit call_it (changed_by doubled input) ≡ option_map (changed_by doubled) (run named_unit call_it input)
call_exchanges = runs_exchange [] 1 above scope (λ x. x) call_it input may_touch doubled (λ x e at. none (same_index at (pos 9 ∷ []))) ((λ v. refl), ((λ v. refl), tt))
  where
    none : (t : Bool) → cond {A = Value} t Undefined Undefined ≡ Undefined
    none true = refl
    none false = refl

-- for i: fill(1, x[i:i + 1])
abbrev call_one : Block
call_one = next (Call 0 (ControlArg (Lit (pos 1)) ∷ Window 0 (Span (Var 1) (Add (Var 1) (Lit (pos 1))) ∷ []) ∷ [])) end

calls_commute : then_do (turn 1 (run named_unit call_one) (pos 0) input) (turn 1 (run named_unit call_one) (pos 1)) ≡ then_do (turn 1 (run named_unit call_one) (pos 1) input) (turn 1 (run named_unit call_one) (pos 0))
calls_commute = turns_with_calls_commute [] 1 above scope (λ x. x) (letter 1 105) (letter 1 105) call_one call_one (pos 0) (pos 1) input are_procedures input_is_sound input_is_sorted (refl, refl) (refl, refl) refl refl ((λ u. refl), tt) ((λ u. refl), tt)

leaves_fields : (b : Block) → ((f : ℕ) → writes_field (unit_writes above) f b ≡ false) → LeavesFields named_unit b
leaves_fields b none s t e = fun_ext (λ f. subst (λ o. IfSome o (HasField f s)) e (fields_are_kept named_unit (unit_writes above) (unit_leaves (kinds_of []) above) f b (none f) s))

-- turns (0, 1) and (1, 0) of two loops round it
pairs_of_calls : then_do (both_turns 1 2 (run named_unit call_one) (pos 0, pos 1) input) (both_turns 1 2 (run named_unit call_one) (pos 1, pos 0)) ≡ then_do (both_turns 1 2 (run named_unit call_one) (pos 1, pos 0) input) (both_turns 1 2 (run named_unit call_one) (pos 0, pos 1))
pairs_of_calls = pairs_with_calls_commute [] 1 above scope (λ x. x) (letter 1 105) (letter 2 106) call_one (pos 0, pos 1) (pos 1, pos 0) input are_procedures input_is_sound input_is_sorted refl refl refl (leaves_fields call_one (λ f. refl)) (((λ u. refl), tt), ((λ u. refl), tt))

-- ---- nests

pairs_of_stores : Exchange (IsAt input) (both_turns 1 2 (run world store_three)) (pos 0, pos 1) (pos 1, pos 0)
pairs_of_stores = pairs_commute (λ f. Index) 1 2 store_three input (pos 0, pos 1) (pos 1, pos 0) no_fields (λ s h.
    let here : s ≡ record { scene = input.scene; cells = s.cells } = ap {B = State} (λ (z : Scene). record { scene = z; cells = s.cells }) h.0 in
    subst (λ (u : State). AreClear u.scene (pair_touches world 1 2 store_three (pos 0, pos 1) u) (pair_touches world 1 2 store_three (pos 1, pos 0) u)) (sym here) (((λ u. refl), tt), ((λ u. refl), tt)))

abbrev pass : Block
pass = next Pass end

two_by_two : turns (both_turns 1 2 (run world pass)) (by_rows (pos 0 ∷ pos 1 ∷ []) (pos 0 ∷ pos 1 ∷ [])) input ≡ turns (both_turns 1 2 (run world pass)) (by_columns (pos 0 ∷ pos 1 ∷ []) (pos 0 ∷ pos 1 ∷ [])) input
two_by_two =
    let less : pos 0 <ℤ pos 1 = omega (arith, ints) in
    nests_reorder input.scene (both_turns 1 2 (run world pass)) (pos 0 ∷ pos 1 ∷ []) (pos 0 ∷ pos 1 ∷ []) (λ p s e. e) (λ p q c s e. refl) ((less, tt), (tt, tt)) ((less, tt), (tt, tt)) input refl

turned_within : step world (nest (letter 1 105) (Lit (pos 0)) (Lit (pos 2)) (letter 2 106) (Lit (pos 0)) (Lit (pos 3)) pass) input ≡ step world (nest (letter 2 106) (Lit (pos 0)) (Lit (pos 3)) (letter 1 105) (Lit (pos 0)) (Lit (pos 2)) pass) input
turned_within = nests_within_bounds world (letter 1 105) (letter 2 106) (Lit (pos 0)) (Lit (pos 2)) (Lit (pos 0)) (Lit (pos 3)) pass input refl is_admissible.tidy ((refl, refl), ((refl, refl), ((refl, refl), (refl, refl)))) (λ s t e. ap (λ (u : State). u.scene.fields) (sym (one_value s t e))) (λ x y c s h. refl)

turned_by_footprints : step named_unit (nest (letter 1 105) (Lit (pos 0)) (Lit (pos 2)) (letter 2 106) (Lit (pos 0)) (Lit (pos 3)) pass) input ≡ step named_unit (nest (letter 2 106) (Lit (pos 0)) (Lit (pos 3)) (letter 1 105) (Lit (pos 0)) (Lit (pos 2)) pass) input
turned_by_footprints = nests_from_footprints [] 1 above scope (λ x. x) (letter 1 105) (letter 2 106) (Lit (pos 0)) (Lit (pos 2)) (Lit (pos 0)) (Lit (pos 3)) pass input are_procedures input_is_sound input_is_sorted refl refl refl ((refl, refl), ((refl, refl), ((refl, refl), (refl, refl)))) (leaves_fields pass (λ f. refl)) (λ t x y e c. (tt, tt))
