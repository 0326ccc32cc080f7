-- The claims of a procedure that is shown hold, one by one.
use Rattle.std.proofs.Common.{◌≡◌, ℕ, true, List, [], ◌∷◌, length, Option, Some, None, refl}
use Rattle.exo_tree.specs.Tree.{Condition, Procedure, Program}
use Rattle.exo_tree.specs.Places.{Path, Opened, opened}
use Rattle.exo_meaning.specs.Scene.{holds}
use Rattle.exo_meaning.specs.State.{State}
use Rattle.exo_meaning.specs.Run.{program_world}
use Rattle.exo_meaning.specs.Inputs.{IsAdmissible}
use Rattle.exo_meaning.specs.Orders.{Each}
use Rattle.meaning_laws.specs.Sorted.{MayRun, scope_there}
use Rattle.affine_forms.specs.Affine.{HasNoIntegerPoint}
use Rattle.affine_systems.specs.Systems.{systems}
use Rattle.affine_systems.specs.Outcomes.{owed}
use Rattle.check_claims.specs.Claim.{Claim, Is, Apart, Placed}
use Rattle.check_claims.specs.Claims.{claims_of}
use Rattle.check_facts.specs.Contexts.{context_of}
use Rattle.effect_laws.specs.Pairs.{PairsAreApart}
use Rattle.bounds_check.specs.Obligations.{formula_at, pair_owed, claim_owed, owed_for, owed_for_all}
use Rattle.check_laws.specs.Claims.Holding.{HoldsAtPlace, ApartAtPlace, SaidHolds, ClaimHolds, SaidIsFormed, ClaimIsFormed}
use Rattle.check_laws.specs.Claims.Laws.{ProceduresMayRun, ClaimsAreFormed, ClaimsSuffice}
use Rattle.check_laws.specs.Facts.Laws.{ComesToPlace, ShownConditionsHold}
use Rattle.unit_check.specs.Faults.{ShownProceduresDoNotFault}
use Rattle.unit_check.proofs.Listed.{each_of_all, each_front, each_back, all_of_images}
use Rattle.unit_check.proofs.Made.{IsClosed}

-- what holds in each state in which a run comes to a place holds there
holds_at : (u : Program) (p : Procedure) (c : Condition) (o : Option Opened) → ((s t : State) → IsAdmissible (program_world u) p s → ComesToPlace (program_world u) o s t → holds t.scene c ≡ true) → HoldsAtPlace (program_world u) p o c
holds_at u p c None h = λ s good. h s s good refl
holds_at u p c (Some o) h = h

module _ (shown_law : ShownConditionsHold) (pairs_law : PairsAreApart) (u : Program) (p : Procedure) (may_run : MayRun u.fields (length u.memories) u.procedures p) where
  pair_holds : (place : Path) (j k : ℕ) (o : Option Opened) → opened 1 place p.body ≡ o → Each IsClosed (pair_owed u p place j k) → ApartAtPlace (program_world u) p o j k
  pair_holds place j k None is closed = tt
  pair_holds place j k (Some o) is closed = pairs_law u p place o j k may_run is closed

  claim_holds : (place : Path) (c : Claim) → SaidIsFormed u (scope_there p (opened 1 place p.body)) c → Each IsClosed (claim_owed u p place c) → SaidHolds (program_world u) p (opened 1 place p.body) c
  claim_holds place (Is c text) formed closed =
      holds_at u p c (opened 1 place p.body)
      (shown_law u p may_run place c formed (all_of_images IsClosed HasNoIntegerPoint (owed text place) (λ s h. h) (systems (context_of u p place) (formula_at u p place c)) closed))
  claim_holds place (Apart j k) formed closed = pair_holds place j k (opened 1 place p.body) refl closed

  pub claims_hold : (cs : List Placed) → Each (ClaimIsFormed u p) cs → Each IsClosed (owed_for_all u p cs) → Each (ClaimHolds (program_world u) p) cs
  claims_hold [] formed closed = tt
  claims_hold (c ∷ cs) formed closed =
      let first = each_front IsClosed (owed_for u p c) (owed_for_all u p cs) closed in
      let others = each_back IsClosed (owed_for u p c) (owed_for_all u p cs) closed in
      (claim_holds c.place c.claim formed.0 first, claims_hold cs formed.1 others)

pub shown_procedures_do_not_fault : ProceduresMayRun → ClaimsAreFormed → ClaimsSuffice → ShownConditionsHold → PairsAreApart → ShownProceduresDoNotFault
shown_procedures_do_not_fault may_run_law formed_law suffice_law shown_law pairs_law u k is_unit shown =
    suffice_law u k is_unit (λ j leads p here. (
    let may_run = may_run_law u j p is_unit here in
    claims_hold shown_law pairs_law u p may_run (claims_of u p) (formed_law u p may_run) (each_of_all IsClosed (owed_for_all u p (claims_of u p)) (shown j leads p here))
    ))
