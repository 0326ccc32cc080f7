-- A call of a procedure that runs does not fault where its claims hold.
use Rattle.std.proofs.Common.{◌≡◌, ℕ, true, List, [], ◌++◌, map, Option, Some, None, refl, subst}
use Rattle.std.specs.Prelude.{IsSome, length, slice_get, flat_map}
use Rattle.std.specs.List.{list_all}
use Rattle.exo_tree.specs.Tree.{Kind, Argument, Procedure, Program}
use Rattle.exo_meaning.specs.State.{State}
use Rattle.exo_meaning.specs.Calls.{Callee, Given, all_given, given_all_apart, keeps_apart, copied_call, entered, all_hold, run_asserted, returned, call}
use Rattle.exo_meaning.specs.Run.{World, call_to, program_world}
use Rattle.exo_meaning.specs.Inputs.{IsAdmissible}
use Rattle.exo_meaning.specs.Orders.{Each}
use Rattle.exo_meaning.specs.Units.{Scope, scope_of, with_both, is_condition, are_params, are_for, share_nothing_written, is_call, field_kind}
use Rattle.meaning_laws.specs.Places.{OpenedLaw}
use Rattle.meaning_laws.specs.Sound.{IsSound}
use Rattle.meaning_laws.specs.Copies.{SoundLaw}
use Rattle.meaning_laws.specs.Sorted.{IsSorted, FirstStateLaw, FitsAtLaw, MayRun}
use Rattle.affine_places.specs.Roots.{Roots, roots_of}
use Rattle.text_show.specs.Words.{Words, words_of}
use Rattle.check_claims.specs.Claim.{Claim}
use Rattle.check_claims.specs.Pairs.{flat_zip}
use Rattle.check_claims.specs.Extents.{Extents, extents_of}
use Rattle.check_claims.specs.Claims.{asserted, argument_window, argument_size, passed_extents, written_by, pair_claims, call_claims}
use Rattle.check_laws.proofs.OfClaims.Basics.{and_parts, no_test, succeeds_then, succeeds_map, succeeds_where, succeeds_as, succeeds_some, some_succeeds, each_left, each_right}
use Rattle.check_laws.proofs.OfClaims.Seen.{IsDescribed, IsHeld, Hold, IsKeptApart}
use Rattle.check_laws.proofs.OfClaims.Under.{Covers}
use Rattle.check_laws.proofs.OfClaims.Given.{AreFor, all_for}
use Rattle.check_laws.proofs.OfClaims.Entered.{enters, asserts_hold}
use Rattle.check_laws.proofs.OfClaims.Rooted.{SeesRoots}
use Rattle.check_laws.proofs.OfClaims.Written.{callee_writes}
use Rattle.check_laws.proofs.OfClaims.Pairs.{pairs_suffice}
use Rattle.check_laws.proofs.OfClaims.Blocks.{CallsRun}

-- a callee of the unit, by that number: it is well formed, and no admissible input makes it fault
pub record IsReady (u : Program) (k : ℕ) (c : Callee) : Type 0 where
  pub procedure_is : slice_get u.procedures k ≡ Some c.procedure
  pub params : are_params (field_kind u.fields) (length u.memories) [] c.procedure.params ≡ true
  pub asserts : list_all (is_condition (field_kind u.fields) with_both (scope_of [] c.procedure.params)) c.procedure.asserts ≡ true
  pub runs : (s : State) → IsAdmissible (program_world u) c.procedure s → IsSome (c.run s)

abbrev pub CalleeRuns : Program → ℕ → Type 0
CalleeRuns u k = (c : Callee) → (program_world u).callees k ≡ Some c → IsReady u k c

module _ (u : Program) (p : Procedure) (first_law : FirstStateLaw) where
  abbrev world : World
  world = program_world u

  abbrev fields : ℕ → Option Kind
  fields = field_kind u.fields

  abbrev table : Extents
  table = extents_of p

  abbrev roots : Roots
  roots = roots_of p

  abbrev w : Words
  w = words_of u p

  -- the claims of a call
  module _ (k : ℕ) (q : Procedure) (args : List Argument) where
    abbrev windows : List Claim
    windows = flat_map (argument_window w table) args

    abbrev sizes : List Claim
    sizes = flat_zip (argument_size w) q.params args

    abbrev extents : List Claim
    extents = flat_zip (passed_extents w table q.params args) q.params args

    abbrev pairs : List Claim
    pairs = pair_claims roots (written_by u k) 0 q.params args

    abbrev asserts : List Claim
    asserts = map (asserted (words_of u q) q.params args) q.asserts

  abbrev claims_of_call : ℕ → Option Procedure → List Argument → List Claim
  claims_of_call k o args = call_claims w u table roots (written_by u k) o args

  -- its windows are apart
  windows_apart : (k : ℕ) (args : List Argument) (scope : Scope) (t : State) (c : Callee) → world.callees k ≡ Some c → are_for fields scope c.procedure.params args ≡ true → SeesRoots roots scope t.scene → Each (IsKeptApart t.scene args) (claims_of_call k (Some c.procedure) args) → keeps_apart c t.scene args ≡ true
  windows_apart k args scope t c e f sees m = go (all_given t.scene args) refl
    where
      kept : Each (IsKeptApart t.scene args) (pairs k c.procedure args)
      kept =
          let q = c.procedure in
          let before = windows k q args ++ sizes k q args ++ extents k q args in
          each_right (IsKeptApart t.scene args) before (pairs k q args)
          (each_left (IsKeptApart t.scene args) (before ++ pairs k q args) (asserts k q args) m)

      go : (o : Option (List Given)) → all_given t.scene args ≡ o → given_all_apart c.writes c.procedure.params o ≡ true
      go None none = refl
      go (Some gs) given = pairs_suffice fields roots scope t.scene sees args (written_by u k) c.writes (callee_writes u k c e) c.procedure.params gs f given kept

  callee_runs : (k : ℕ) (args : List Argument) (scope : Scope) (root : ℕ → ℕ) (t : State) (c : Callee) → world.callees k ≡ Some c → IsReady u k c → is_call fields scope root (Some c) args ≡ true → IsSound t → IsSorted world.kinds scope t → IsDescribed table scope t.scene → SeesRoots roots scope t.scene → Hold t.scene (claims_of_call k (Some c.procedure) args) → Each (IsKeptApart t.scene args) (claims_of_call k (Some c.procedure) args) → IsSome (call c args t)
  callee_runs k args scope root t c callee ready h sound sorted d sees m apart =
      let q = c.procedure in
      let first = windows k q args in
      let second = sizes k q args in
      let third = extents k q args in
      let m4 = each_left (IsHeld t.scene) (first ++ second ++ third ++ pairs k q args) (asserts k q args) m in
      let m3 = each_left (IsHeld t.scene) (first ++ second ++ third) (pairs k q args) m4 in
      let m2 = each_left (IsHeld t.scene) (first ++ second) third m3 in
      let f = (and_parts (are_for fields scope q.params args) (share_nothing_written fields c.writes root q.params args) h).0 in
      let For : List Given → Type 0 = AreFor w fields table scope t d sound q.params args in
      let Inside : State → Type 0 = λ inner. Covers fields with_both q.params args t.scene inner.scene (scope_of [] q.params) in
      succeeds_some (λ z. Unit {0}) (call c args t)
      (succeeds_where (λ z. Unit {0}) (keeps_apart c t.scene args) (copied_call c args t) (windows_apart k args scope t c callee f sees apart)
      (succeeds_then (λ gs. (all_given t.scene args ≡ Some gs) × For gs) (λ z. Unit {0}) (all_given t.scene args) _
      (succeeds_as For (λ gs. (all_given t.scene args ≡ Some gs) × For gs) (all_given t.scene args) (all_for w fields table scope t d sound q.params args f (each_left (IsHeld t.scene) first second m2) (each_right (IsHeld t.scene) first second m2)) (λ gs e g. (e, g)))
      (λ gs g.
      succeeds_then (λ inner. (entered q.params gs t ≡ Some inner) × Inside inner) (λ z. Unit {0}) (entered q.params gs t) _
      (succeeds_as Inside (λ inner. (entered q.params gs t ≡ Some inner) × Inside inner) (entered q.params gs t) (enters w fields table scope t d sound (length u.memories) q.params args gs ready.params f g.1 (each_right (IsHeld t.scene) (first ++ second) third m3)) (λ inner e i. (e, i)))
      (λ inner i.
      let hold = asserts_hold fields (words_of u q) q.params args t.scene inner.scene (scope_of [] q.params) i.1 q.asserts ready.asserts (each_right (IsHeld t.scene) (first ++ second ++ third ++ pairs k q args) (asserts k q args) m) in
      let good = first_law u.fields (length u.memories) world scope root t inner c args gs refl sound sorted ready.params h g.0 i.0 hold in
      succeeds_map (λ z. Unit {0}) (λ z. Unit {0}) (run_asserted c inner) (returned c gs t)
      (succeeds_where (λ z. Unit {0}) (all_hold inner.scene q.asserts) (c.run inner) hold (succeeds_as (λ z. c.run inner ≡ Some z) (λ z. Unit {0}) (c.run inner) (some_succeeds (c.run inner) (ready.runs inner good)) (λ z e k. tt)))
      (λ z k. tt)))))

  module _ (may : MayRun u.fields (length u.memories) u.procedures p) (opened_law : OpenedLaw) (sound_law : SoundLaw) (fits_law : FitsAtLaw) where
    pub calls_run : CallsRun u p may opened_law sound_law fits_law (CalleeRuns u)
    calls_run k args scope root t runs h sound sorted d sees m apart = go (world.callees k) refl h
      where
        go : (o : Option Callee) → world.callees k ≡ o → is_call fields scope root o args ≡ true → IsSome (call_to o args t)
        go None e h = no_test h
        go (Some c) e h =
            let ready = runs c e in
            callee_runs k args scope root t c e ready h sound sorted d sees
            (subst (λ o. Hold t.scene (claims_of_call k o args)) ready.procedure_is m)
            (subst (λ o. Each (IsKeptApart t.scene args) (claims_of_call k o args)) ready.procedure_is apart)
