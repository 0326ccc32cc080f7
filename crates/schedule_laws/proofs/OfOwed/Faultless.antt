-- A list is refused nowhere exactly where no claim is, and all that is owed is within the limits.
use Rattle.std.proofs.Common.{◌≡◌, ◌+◌, ◌++◌, ℕ, Bool, true, false, List, [], ◌∷◌, Option, Some, None}
use Rattle.std.proofs.Common.{length, nat_le, refl, sym, ap₂, ◌∙◌, subst, append_assoc, arith, length-append, leb-true, le-leb}
use Rattle.std.proofs.lemmas.Bool.{and_parts, and_from}
use Rattle.std.proofs.lemmas.List.Sums.{sum_by-append}
use Rattle.exo_tree.specs.Tree.{Procedure, Program}
use Rattle.exo_meaning.specs.Orders.{Each}
use Rattle.affine_systems.specs.Outcomes.{Owed}
use Rattle.check_claims.specs.Claim.{Placed}
use Rattle.bounds_check.specs.Limits.{system_terms, terms_in, are_within}
use Rattle.bounds_check.specs.Obligations.{Fault, ManyObligations, unless_refused, owed_for, owed_for_all}
use Rattle.bounds_check.specs.Obligations.{claim_fault, first_fault}

-- ---- what is within the limits at the end is so at the front

smaller : (a b c m : ℕ) → c ≡ a + b → nat_le c m ≡ true → nat_le a m ≡ true
smaller a b c m e h = le-leb a m (omega (arith, leb-true c m h, e))

front_is_within : (xs ys : List Owed) → are_within (xs ++ ys) ≡ true → are_within xs ≡ true
front_is_within xs ys h =
    let p = and_parts (nat_le (length (xs ++ ys)) 65536) (nat_le (terms_in (xs ++ ys)) 4194304) h in
    and_from (nat_le (length xs) 65536) (nat_le (terms_in xs) 4194304)
    (smaller (length xs) (length ys) (length (xs ++ ys)) 65536 (length-append xs ys) p.0)
    (smaller (terms_in xs) (terms_in ys) (terms_in (xs ++ ys)) 4194304
    (sum_by-append (λ (o : Owed). system_terms o.system) xs ys) p.1)

-- ---- refusals

some_none : (f : Fault) → Some f ≡ None → ⊥
some_none f e = cc

none_refused : (f : Option Fault) (within : Bool) (rest : Option Fault)
    → unless_refused f within rest ≡ None → (f ≡ None) × (rest ≡ None)
none_refused (Some f) within rest e = absurd (some_none f e)
none_refused None true rest e = (refl, e)
none_refused None false rest e = absurd (some_none ManyObligations e)

module _ (u : Program) (p : Procedure) where
  abbrev pub IsFaultless : Placed → Type 0
  IsFaultless c = claim_fault u p c ≡ None

  pub each_faultless : (os : List Owed) (cs : List Placed) → first_fault u p os cs ≡ None
      → Each IsFaultless cs
  each_faultless os [] e = tt
  each_faultless os (c ∷ cs) e =
      let more = os ++ owed_for u p c in
      let h = none_refused (claim_fault u p c) (are_within more) (first_fault u p more cs) e in
      (h.0, each_faultless more cs h.1)

  pub all_faultless : (os : List Owed) (cs : List Placed) → Each IsFaultless cs
      → are_within (os ++ owed_for_all u p cs) ≡ true → first_fault u p os cs ≡ None
  all_faultless os [] h within = refl
  all_faultless os (c ∷ cs) h within =
      let more = os ++ owed_for u p c in
      let rest = owed_for_all u p cs in
      let all_within = subst (λ (xs : List Owed). are_within xs ≡ true)
      (sym (append_assoc os (owed_for u p c) rest)) within in
      ap₂ (λ f within. unless_refused f within (first_fault u p more cs)) h.0
      (front_is_within more rest all_within)
      ∙ all_faultless more cs h.1 all_within
