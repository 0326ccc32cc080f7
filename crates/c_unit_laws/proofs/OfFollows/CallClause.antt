-- The clause of calls, from what is to be shown of their arguments.
use Rattle.std.proofs.Common.{◌≡◌, ℕ, Bool, true, false, List, Option, Some, None, option_map, refl, sym, ap, ◌∙◌, subst}
use Rattle.exo_tree.specs.Tree.{Argument, Param}
use Rattle.exo_meaning.specs.Scene.{then_do, where_true}
use Rattle.exo_meaning.specs.State.{State}
use Rattle.exo_meaning.specs.Calls.{Callee, Given, all_given, all_apart, given_all_apart, keeps_apart, entered, returned, run_asserted, copied_call, call}
use Rattle.exo_meaning.specs.Run.{World, call_to, call_to_writes}
use Rattle.c_widths.specs.Few.{Fewness, CallAllocatesFew}
use Rattle.c_tree.specs.CTree.{Actual, Piece}
use Rattle.c_unit_laws.specs.Follows.Machine.Machine.{Outcome, after, Thing, Setting, Machine}
use Rattle.c_unit_laws.specs.Follows.Machine.CRun.{Behaviour, CWorld, things, things_of_cells}
use Rattle.c_unit_laws.specs.Follows.Machine.CRun.{run_in_place, run_function, step_c}
use Rattle.c_lowering.specs.Made.Lowered.{Hole, Forms, actuals_of, piece_of, called_by, call_of}
use Rattle.c_unit_laws.specs.Follows.Simulation.{Ground, Follows, Layout, Matches, Ran}
use Rattle.c_unit_laws.specs.Follows.Good.{AreGoodArguments, is_function, IsGoodCall}
use Rattle.c_unit_laws.specs.Follows.Calls.{called_in, CallsFollow}
use Rattle.c_unit_laws.proofs.OfFollows.Clauses.{CallClause}
use Rattle.c_unit_laws.proofs.OfFollows.Steps.{follows_then}
use Rattle.c_unit_laws.proofs.OfFollows.Given.{AreGivenAs}
use Rattle.c_unit_laws.proofs.OfFollows.Called.{called_follows}

module _ (Few : Type 0) (g : Ground) where
  -- good arguments are the same on both sides, as a function or an instruction reads them
  abbrev pub ArgumentsFollow : (Setting → List Actual → Outcome (List Thing)) → Bool → Type 0
  ArgumentsFollow read function =
      (forms : Forms) (most : ℕ → ℕ) (root : ℕ → ℕ) (layout : Layout) (s : State) (m : Machine)
      → Matches g forms most root layout s m
      → (bounds : ℕ → ℕ) (ps : List Param) (args : List Argument)
      → AreGoodArguments g.declared forms most bounds function ps args
      → Follows Few (AreGivenAs layout s.scene bounds ps) (all_given s.scene args) (read m.setting (actuals_of g.naming forms ps args))

  module _ (world : World) (few : Fewness) (c_world : CWorld) (calls : CallsFollow g world few c_world) (functions_given : ArgumentsFollow things true) (instructions_given : ArgumentsFollow things_of_cells false) where
    module _ (forms : Forms) (most : ℕ → ℕ) (root : ℕ → ℕ) (layout : Layout) (k : ℕ) (args : List Argument) (good : IsGoodCall g forms most k args) (s : State) (m : Machine) (match : Matches g forms most root layout s m) where
      abbrev Runs : State → Machine → Type 0
      Runs = Ran g forms most root layout s m

      abbrev params : List Param
      params = (g.naming.routine k).params

      abbrev Given_as : List Given → List Thing → Type 0
      Given_as = AreGivenAs layout s.scene (g.bounds k) params

      abbrev actuals : List Actual
      actuals = actuals_of g.naming forms params args

      abbrev fill : Hole → Piece
      fill = piece_of g.naming forms params args

      module _ (c : Callee) (f : Behaviour) (then_follows : (gs : List Given) (ts : List Thing) → all_given s.scene args ≡ Some gs → all_apart c.writes c.procedure.params gs ≡ true → Given_as gs ts → Follows Few Runs (then_do (entered c.procedure.params gs s) (λ inner. option_map (returned c gs s) (run_asserted c inner))) (run_in_place c_world (Some f) ts m)) where
        from_things : (o : Outcome (List Thing)) (b : Option Behaviour) → b ≡ Some f → Follows Few Given_as (all_given s.scene args) o → Follows Few Runs (call c args s) (after o (λ ts. run_in_place c_world b ts m))
        from_things o b e h = go (keeps_apart c s.scene args) refl
          where
            -- where they are not apart the call faults
            go : (t : Bool) → keeps_apart c s.scene args ≡ t → Follows Few Runs (where_true t (copied_call c args s)) (after o (λ ts. run_in_place c_world b ts m))
            go false q = tt
            go true q =
                follows_then Few Given_as Runs (all_given s.scene args) o (λ gs. then_do (entered c.procedure.params gs s) (λ inner. option_map (returned c gs s) (run_asserted c inner))) (λ ts. run_in_place c_world b ts m) h
                (λ gs ts i r. subst (λ z. Follows Few Runs (then_do (entered c.procedure.params gs s) (λ inner. option_map (returned c gs s) (run_asserted c inner))) (run_in_place c_world z ts m)) (sym e) (then_follows gs ts i (ap (given_all_apart c.writes c.procedure.params) (sym i) ∙ q) r))

        by_template : (t : Option (List Hole)) → (g.naming.routine k).template ≡ t → called_in c_world (g.naming.routine k).name t k ≡ Some f → AreGoodArguments g.declared forms most (g.bounds k) (is_function t) params args → Follows Few Runs (call c args s) (step_c c_world (called_by k (g.naming.routine k).name t fill actuals) m)
        by_template None e i h =
            subst (λ o. Follows Few Runs (call c args s) (run_function c_world o (g.naming.routine k).name actuals m)) (sym (match.functions (g.naming.routine k).name (calls.named k good.0 e)))
            (from_things (things m.setting actuals) (c_world.functions (g.naming.routine k).name) i (functions_given forms most root layout s m match (g.bounds k) params args h))
        by_template (Some holes) e i h = from_things (things_of_cells m.setting actuals) (c_world.instructions k) i (instructions_given forms most root layout s m match (g.bounds k) params args h)

      callee_follows : (o : Option Callee) → world.callees k ≡ o → ((y : ℕ) → call_to_writes o root y args ≡ true → g.stored y ≡ true) → (Few → CallAllocatesFew o (few k) args s) → Follows Few Runs (call_to o args s) (step_c c_world (call_of g.naming forms k (g.naming.routine k) args) m)
      callee_follows None e may fw = tt
      callee_follows (Some c) e may fw =
          let called = calls.each k c e good.0 in
          by_template c called.0
          (λ gs ts i q r. called_follows Few g c_world forms most root layout s m match (few k) c called.0 k called.2 calls.fields calls.functions args may gs ts i q (subst (λ ps. AreGivenAs layout s.scene (g.bounds k) ps gs ts) (sym called.2.params) r) (λ inner j z. fw z gs inner i j))
          (g.naming.routine k).template refl called.1 good.1

    pub call_follows : CallClause Few g c_world world few
    call_follows forms most root layout k args good may s m fw match = callee_follows forms most root layout k args good s m match (world.callees k) refl may fw
