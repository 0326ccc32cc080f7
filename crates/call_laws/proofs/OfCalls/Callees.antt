-- The procedure of a unit that a number names.
use Rattle.std.proofs.Common.{◌≡◌, ℕ, zero, suc, List, [], ◌∷◌, ◌++◌, None, Some, refl, ap, subst}
use Rattle.std.specs.Prelude.{slice_get}
use Rattle.exo_tree.specs.Tree.{ConfigField, Procedure}
use Rattle.exo_meaning.specs.Calls.{Callee}
use Rattle.exo_meaning.specs.Run.{world_of, callee_in, callees, kinds_of}
use Rattle.exo_meaning.specs.Units.{field_kind, IsProcedure, AreProcedures}
use Rattle.meaning_laws.proofs.Parts.{some_injective}
use Rattle.call_laws.specs.Calls.Callees.{CalleeAt, CalleeKeepsRules, CalleeCallsBefore}

none_some : {A : Type 0} (a : A) → None ≡ Some a → ⊥
none_some a e = cc

pub callee_at : CalleeAt
callee_at [] k q e = absurd (none_some q e)
callee_at (p ∷ ps) zero q e = record {
  before = [];
  behind = ps;
  parts = ap (λ r. r ∷ ps) (some_injective p q e);
  count = refl;
}
callee_at (p ∷ ps) (suc k) q e =
    let there = callee_at ps k q e in
    record {
      before = p ∷ there.before;
      behind = there.behind;
      parts = ap (λ rest. p ∷ rest) there.parts;
      count = ap (λ n. suc n) there.count;
    }

pub callee_keeps_rules : CalleeKeepsRules
callee_keeps_rules fields memories above [] k q h e = absurd (none_some q e)
callee_keeps_rules fields memories above (p ∷ ps) zero q h e =
    (above, subst (IsProcedure (field_kind fields) memories (slice_get above)) (some_injective p q e) h.0)
callee_keeps_rules fields memories above (p ∷ ps) (suc k) q h e =
    callee_keeps_rules fields memories
    (above ++ callee_in (world_of (kinds_of fields) above) p ∷ []) ps k q h.1 e

formed_in : (fields : List ConfigField) (memories : ℕ) (above : List Callee) (before : List Procedure)
    (q : Procedure) (behind : List Procedure) → AreProcedures fields memories above (before ++ q ∷ behind)
    → IsProcedure (field_kind fields) memories (slice_get (callees (kinds_of fields) above before)) q
formed_in fields memories above [] q behind h = h.0
formed_in fields memories above (p ∷ before) q behind h =
    formed_in fields memories (above ++ callee_in (world_of (kinds_of fields) above) p ∷ []) before q
    behind h.1

pub callee_calls_before : CalleeCallsBefore
callee_calls_before fields memories ps k q at h =
    formed_in fields memories [] at.before q at.behind
    (subst (AreProcedures fields memories []) at.parts h)
