-- The C of a file does what the procedures of its unit do.
use Rattle.std.proofs.Common.{◌≡◌, ◌<◌, ℕ, zero, suc, true, List, [], length, take, drop, take-append-drop, Option, Some, refl, sym, ap, ◌∙◌, subst, arith, slice_get}
use Rattle.std.specs.Prelude.{option_map}
use Rattle.exo_tree.specs.Tree.{Procedure, Program}
use Rattle.exo_meaning.specs.Scene.{where_true}
use Rattle.exo_meaning.specs.State.{State}
use Rattle.exo_meaning.specs.Run.{run, callees, unit_world, kinds_of, program_world}
use Rattle.exo_meaning.specs.Inputs.{IsValid, all_have_extents, run_procedure}
use Rattle.exo_meaning.specs.Units.{IsUnit}
use Rattle.meaning_laws.specs.Grown.{calls_below}
use Rattle.meaning_laws.proofs.Grown.{grown_law}
use Rattle.meaning_laws.proofs.WellFormed.{calls_are_below}
use Rattle.exo_modes.proofs.OfCalls.Reach.{seeds_are_closed}
use Rattle.memory_kinds.specs.Faults.{fault_of}
use Rattle.c_widths.specs.Raises.{given_to}
use Rattle.c_widths.specs.Few.{fewness_of}
use Rattle.c_unit_laws.specs.Follows.Machine.Machine.{Outcome, Done, Fault, NoStore, Thing, Machine}
use Rattle.c_unit_laws.specs.Follows.Machine.CRun.{Behaviour, behaviour, run_in_place, run_file}
use Rattle.c_lowering.specs.Made.LoweredUnit.{Printing, is_listed, counts, lowered}
use Rattle.c_unit_laws.specs.Follows.Simulation.{Ground, Follows, Layout}
use Rattle.c_unit_laws.specs.Follows.Templates.{TemplatesDoTheirBodies}
use Rattle.c_unit_laws.specs.Follows.Functions.{behaviour_of, AreSmall}
use Rattle.c_unit_laws.specs.Follows.Units.{AreLowered, IsSameStart, LeavesTheSame, EndsWell}
use Rattle.c_unit_laws.proofs.OfFollows.Functions.{functions_follow}
use Rattle.c_unit_laws.specs.Follows.Grounds.{declared_in, naming_of, world_above, bounds_by}
use Rattle.c_unit_laws.specs.Follows.Grounds.{bounds_in, printed_ground}
use Rattle.c_unit_laws.specs.Laws.{IsGoodProcedure, FilesFollow}
use Rattle.c_unit_laws.proofs.Standing.{formed_at, table_count}
use Rattle.c_unit_laws.proofs.Small.{small_params}
use Rattle.c_unit_laws.proofs.Fewer.{few_at}
use Rattle.c_unit_laws.proofs.Functions.{field_global, function_global}
use Rattle.c_unit_laws.proofs.Followed.{FewAt, HasCalls, follows_less}
use Rattle.c_unit_laws.proofs.Units.{distinct, printed_procedures_are_good}
use Rattle.c_unit_laws.proofs.Listed.{listed_here}
use Rattle.c_unit_laws.proofs.Files.{file_at, printed_there, calls_here}

-- ---- how a run ends

done_is : {A : Type 0} {a b : A} → Done a ≡ Done b → a ≡ b
done_is e = cc

done_is_no_fault : {a : Machine} → Done a ≡ Fault → ⊥
done_is_no_fault e = cc

no_store_is_no_fault : {A : Type 0} → ◌≡◌ {A = Outcome A} NoStore Fault → ⊥
no_store_is_no_fault e = cc

no_store_is_not_done : {A : Type 0} {a : A} → NoStore ≡ Done a → ⊥
no_store_is_not_done e = cc

ends_well : (Few : Type 0) (R : State → Machine → Type 0) (t : State) (o : Outcome Machine) → Follows Few R (Some t) o → EndsWell Few (R t) o
ends_well Few R t (Done n) h = record { no_fault = λ e. done_is_no_fault e; leaves = λ k e. subst (R t) (done_is e) h; done = λ f. (n, refl) }
ends_well Few R t Fault h = absurd h
ends_well Few R t NoStore h = record { no_fault = λ e. no_store_is_no_fault e; leaves = λ k e. absurd (no_store_is_not_done e); done = λ f. absurd (h f) }

-- ---- in the whole unit

-- a procedure runs the same among those before it
same_run : (program : Program) (k : ℕ) (p : Procedure) → IsUnit program → slice_get program.procedures k ≡ Some p → run (program_world program) p.body ≡ run (world_above program k) p.body
same_run program k p unit at =
    let kinds = kinds_of program.fields in
    let front = take k program.procedures in
    let table = callees kinds [] front in
    let below = calls_are_below (λ f. _) (length program.memories) table p (formed_at program.fields (length program.memories) program.procedures k p unit.procedures at) in
    ap (λ l. run (unit_world kinds l) p.body) (sym (take-append-drop k program.procedures))
    ∙ grown_law kinds front (drop k program.procedures) p.body (subst (λ n. calls_below n p.body ≡ true) (table_count kinds front [] ∙ omega arith) below)

valid_above : (program : Program) (k : ℕ) (p : Procedure) (s : State) → IsValid (program_world program) p s → IsValid (world_above program k) p s
valid_above program k p s v = record {
  admissible = record { arguments = v.admissible.arguments; no_others = v.admissible.no_others; cells = v.admissible.cells; tidy = v.admissible.tidy; fields = v.admissible.fields; asserts = v.admissible.asserts };
  bounded = v.bounded;
  fields = v.fields;
  cells = v.cells;
  strides = v.strides;
  separate = v.separate;
  defined = v.defined;
}

module _ (program : Program) (what : List Printing) (unit : IsUnit program) (lowers : AreLowered fault_of program what) (templates : ℕ → Option Behaviour) (does : TemplatesDoTheirBodies program what templates) where
  listed_counts : (i : ℕ) (w : Printing) → slice_get what i ≡ Some w → counts program what w.proc ≡ true
  listed_counts i w e = seeds_are_closed (λ q. true) (is_listed what) program.procedures w.proc (listed_here what i w e)

  -- what the functions of a file call is followed, by those before them
  file_calls : (n i : ℕ) (w : Printing) (p : Procedure) → i < n → slice_get what i ≡ Some w → slice_get program.procedures w.proc ≡ Some p → HasCalls program what (naming_of program what p) w.proc p (file_at program what unit lowers templates does i)
  file_calls zero i w p b there at = absurd (omega (arith, b))
  file_calls (suc n) i w p b there at = calls_here program what unit lowers templates does i w p there at (listed_counts i w there) (λ l v q c e f. file_calls n l v q (omega (arith, b, c)) e f)

  module _ (i : ℕ) (w : Printing) (p : Procedure) (layout : Layout) (s : State) (ts : List Thing) (m : Machine) (there : slice_get what i ≡ Some w) (at : slice_get program.procedures w.proc ≡ Some p) (valid : IsValid (program_world program) p s) (start : IsSameStart program what p layout s ts m) where
    abbrev g : Ground
    g = printed_ground program what w.proc p

    abbrev Leaves : State → Machine → Type 0
    Leaves = LeavesTheSame (naming_of program what p) (declared_in program what) layout s m

    good : IsGoodProcedure g (bounds_in program what w.proc) (world_above program w.proc) p
    good = printed_procedures_are_good program what w.proc p unit lowers at (listed_here what i w there)

    small : AreSmall s (bounds_in program what w.proc) p.params
    small = subst (λ o. AreSmall s (bounds_by program (counts program what) w.proc o) p.params) (sym at) (small_params s p.params (given_to program.procedures (counts program what) w.proc) (distinct program what unit lowers w.proc p at) valid.bounded)

    follows : Follows (FewAt program what w.proc p s) Leaves (run_procedure (world_above program w.proc) p s) (run_in_place (file_at program what unit lowers templates does i) (Some (behaviour_of g (file_at program what unit lowers templates does i) p)) ts m)
    follows = functions_follow g (bounds_in program what w.proc) layout (world_above program w.proc) (kinds_of program.fields) (take w.proc program.procedures) (file_at program what unit lowers templates does i) p s ts m
        (file_calls (suc i) i w p (omega arith) there at)
        (record { fields = field_global program what lowers.named; functions = function_global program what lowers.named; named = good.named; distinct = good.distinct })
        good.params good.body good.may (valid_above program w.proc p s valid)
        (record { arguments = start.arguments; fields = start.fields; separate = start.separate; small = small })

    file_runs : run_file (lowered program what) templates i ts m ≡ run_in_place (file_at program what unit lowers templates does i) (Some (behaviour_of g (file_at program what unit lowers templates does i) p)) ts m
    file_runs = ap (λ o. run_in_place (file_at program what unit lowers templates does i) (option_map (behaviour (file_at program what unit lowers templates does i)) o) ts m) (printed_there program what unit lowers templates does i w p there at)

    run_is : run_procedure (program_world program) p s ≡ run_procedure (world_above program w.proc) p s
    run_is = ap (λ r. where_true (all_have_extents s.scene p.params) (r s)) (same_run program w.proc p unit at)

    ends : (t : State) → run_procedure (program_world program) p s ≡ Some t → EndsWell (fewness_of program w.proc s) (Leaves t) (run_file (lowered program what) templates i ts m)
    ends t e =
        let less = follows_less (FewAt program what w.proc p s) (fewness_of program w.proc s) Leaves (run_procedure (world_above program w.proc) p s) _ (few_at (kinds_of program.fields) program.procedures w.proc p s at) follows in
        ends_well (fewness_of program w.proc s) Leaves t _
        (subst (λ o. Follows (fewness_of program w.proc s) Leaves o (run_file (lowered program what) templates i ts m)) (sym run_is ∙ e)
        (subst (Follows (fewness_of program w.proc s) Leaves (run_procedure (world_above program w.proc) p s)) (sym file_runs) less))

pub files_follow : FilesFollow
files_follow program what i w p layout templates s t ts m unit lowers there at does valid start ends_at =
    ends program what unit lowers templates does i w p layout s ts m there at valid start t ends_at
