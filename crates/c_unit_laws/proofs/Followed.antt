-- A procedure of a unit is followed from the ground of each that calls it.
use Rattle.std.proofs.Common.{◌≡◌, ℕ, List, take, Option, Some, None, refl, sym, ap, ◌∙◌, slice_get}
use Rattle.exo_tree.specs.Tree.{Procedure, Program}
use Rattle.exo_meaning.specs.State.{State}
use Rattle.exo_meaning.specs.Calls.{Callee}
use Rattle.exo_meaning.specs.Run.{callee_in, kinds_of}
use Rattle.c_widths.specs.Few.{AllocatesFew}
use Rattle.c_unit_laws.specs.Follows.Machine.Machine.{Outcome, Done, Fault, NoStore}
use Rattle.c_unit_laws.specs.Follows.Machine.CRun.{CWorld}
use Rattle.c_lowering.specs.Made.Lowered.{Naming, param_forms}
use Rattle.c_lowering.specs.Made.LoweredUnit.{Printing, field_name, named_field, routine_of}
use Rattle.c_unit_laws.specs.Follows.Simulation.{Follows, Ends}
use Rattle.c_unit_laws.specs.Follows.Calls.{IsFollowed, CallsFollow}
use Rattle.c_unit_laws.specs.Follows.Functions.{behaviour_of}
use Rattle.c_unit_laws.proofs.OfFollows.WithCalls.{blocks_follow}
use Rattle.c_unit_laws.specs.Follows.Grounds.{world_above, bounds_in, ground_of}
use Rattle.c_unit_laws.specs.Laws.{IsGoodProcedure}
use Rattle.c_unit_laws.proofs.Fewer.{few_before}

-- where fewer runs are bounded
pub follows_less : {A B : Type 0} (Few Less : Type 0) (R : A → B → Type 0) (o : Option A) (p : Outcome B) → (Less → Few) → Follows Few R o p → Follows Less R o p
follows_less Few Less R None p k h = tt
follows_less Few Less R (Some a) (Done b) k h = h
follows_less Few Less R (Some a) Fault k h = h
follows_less Few Less R (Some a) NoStore k h = λ l. h (k l)

-- a naming of the file
pub record IsOfFile (program : Program) (naming : Naming) : Type 0 where
  pub field : naming.field ≡ named_field field_name program.fields
  pub params : (k : ℕ) → (naming.routine k).params ≡ (routine_of (slice_get program.procedures k)).params

module _ (program : Program) (what : List Printing) where
  -- what the body of a procedure allocates
  abbrev pub FewAt : ℕ → Procedure → State → Type 0
  FewAt k p s = AllocatesFew (world_above program k) (few_before (kinds_of program.fields) program.procedures k) p.body s

  abbrev pub callee_of : ℕ → Procedure → Callee
  callee_of k p = callee_in (world_above program k) p

  -- what a procedure calls is followed
  abbrev pub HasCalls : Naming → ℕ → Procedure → CWorld → Type 0
  HasCalls naming k p c_world = CallsFollow (ground_of program what naming k p) (world_above program k) (few_before (kinds_of program.fields) program.procedures k) c_world

  -- one that is good and whose calls are followed, from the ground of another
  module _ (caller : Naming) (is_caller : IsOfFile program caller) (i : ℕ) (r : Procedure) (own : Naming) (is_own : IsOfFile program own) (k : ℕ) (p : Procedure) (at : slice_get program.procedures k ≡ Some p) where
    pub followed : (c_world : CWorld) → IsGoodProcedure (ground_of program what own k p) (bounds_in program what k) (world_above program k) p → HasCalls own k p c_world
        → (few : State → Type 0) → ((s : State) → few s → FewAt k p s)
        → IsFollowed (ground_of program what caller i r) few (callee_of k p) (behaviour_of (ground_of program what own k p) c_world p) k
    followed c_world good calls few fewer = record {
      own = ground_of program what own k p;
      params = sym (is_caller.params k ∙ ap (λ o. (routine_of o).params) at);
      field = is_own.field ∙ sym is_caller.field;
      declared = refl;
      function = refl;
      stored = refl;
      formals = refl;
      named = good.named;
      distinct = good.distinct;
      good = good.params;
      follows = λ layout s m match holds. follows_less (FewAt k p s) (few s) (Ends (ground_of program what own k p) (param_forms p.params) layout s m) ((callee_of k p).run s) ((behaviour_of (ground_of program what own k p) c_world p).run m) (fewer s)
          (blocks_follow (ground_of program what own k p) (param_forms p.params) (bounds_in program what k) (λ x. x) layout (world_above program k) (kinds_of program.fields) (take k program.procedures) c_world p.body calls good.body good.may s m match);
    }
