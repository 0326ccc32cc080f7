-- What parts of claims owe, one after the other.
use Rattle.std.proofs.Common.{◌≡◌, ℕ, ◌+◌, ◌≤◌, flat_map, take, drop, length, subst, Bool, true, false, List, [], ◌∷◌, ◌++◌, Option, Some, None, append-nil, append_assoc, refl, ap, sym, ◌∙◌, true≢false}
use Rattle.std.specs.List.{list_all}
use Rattle.std.proofs.Math.Seq.{take-add}
use Rattle.std.proofs.lemmas.Bool.{and_parts}
use Rattle.std.proofs.lemmas.List.{take_all, take-append-drop}
use Rattle.std.proofs.lemmas.List.Folds.{list_all-append}
use Rattle.std.proofs.lemmas.Grind.{flat_map-append}
use Rattle.exo_tree.specs.Tree.{Procedure, Program}
use Rattle.affine_systems.specs.Limits.{are_within}
use Rattle.affine_systems.specs.Outcomes.{Owed}
use Rattle.check_claims.specs.Claim.{Placed}
use Rattle.bounds_check.specs.Obligations.{Fault, ManyObligations, owed_for, owed_for_all, unless_refused, claim_fault, first_fault}
use Rattle.bounds_check.specs.Outcomes.{IsRefusal}
use Rattle.bounds_check.specs.declared.error.CheckError.{CheckError}
use Rattle.bounds_check.proofs.Chunks.{fine_behind}
use Rattle.bounds_check.proofs.Groups.{faults_on, refusal_stays}

module _ (u : Program) (p : Procedure) where
  -- claims without a fault pass a limit behind others, where they do so together
  full_behind : (os ws : List Owed) (cs : List Placed) → first_fault u p ws cs ≡ None → are_within (os ++ ws) ≡ true
      → are_within (os ++ (ws ++ owed_for_all u p cs)) ≡ false → first_fault u p (os ++ ws) cs ≡ Some ManyObligations
  full_behind os ws [] h w x =
      absurd (true≢false (sym w ∙ ap (λ l. are_within (os ++ l)) (sym (append-nil ws)) ∙ x))
  full_behind os ws (c ∷ cs) h w x =
      let here = owed_for u p c in
      let all : are_within (os ++ ((ws ++ here) ++ owed_for_all u p cs)) ≡ false =
      ap (λ l. are_within (os ++ l)) (append_assoc ws here (owed_for_all u p cs)) ∙ x in
      ap (λ l. unless_refused (claim_fault u p c) (are_within l) (first_fault u p l cs)) (append_assoc os ws here)
      ∙ by (claim_fault u p c) (are_within (ws ++ here)) (first_fault u p (ws ++ here) cs) (are_within (os ++ (ws ++ here)))
      (first_fault u p (os ++ (ws ++ here)) cs) h (λ k e. full_behind os (ws ++ here) cs k e all)
    where
      by : (f : Option Fault) (within : Bool) (rest : Option Fault) (now : Bool) (after : Option Fault) → unless_refused f within rest ≡ None
          → (rest ≡ None → now ≡ true → after ≡ Some ManyObligations) → unless_refused f now after ≡ Some ManyObligations
      by (Some f) within rest now after h k = cc
      by None true rest true after h k = k h refl
      by None true rest false after h k = refl
      by None false rest now after h k = cc

  module _ (os : List Owed) (cs : List Placed) (fine : first_fault u p [] cs ≡ None) where
    -- a part without a fault has none behind others, where all are within the limits
    pub part_goes_on : are_within (os ++ owed_for_all u p cs) ≡ true → first_fault u p os cs ≡ None
    part_goes_on w = ap (λ l. first_fault u p l cs) (sym (append-nil os)) ∙ fine_behind u p os [] cs fine w

    -- else it passes a limit
    pub part_is_full : are_within os ≡ true → are_within (os ++ owed_for_all u p cs) ≡ false → first_fault u p os cs ≡ Some ManyObligations
    part_is_full v w =
        ap (λ l. first_fault u p l cs) (sym (append-nil os))
        ∙ full_behind os [] cs fine (ap are_within (append-nil os) ∙ v) w

-- ---- the parts of a list, each behind those before it

module _ {X : Type 0} (u : Program) (p : Procedure) (f : X → List Placed) (items : List X) where
  abbrev before : ℕ → List Placed
  before n = flat_map f (take n items)

  abbrev between : ℕ → ℕ → List Placed
  between n c = flat_map f (take c (drop n items))

  pub before_more : (n c : ℕ) → before (n + c) ≡ before n ++ between n c
  before_more n c = ap (flat_map f) (take-add n c items) ∙ flat_map-append f (take n items) (take c (drop n items))

  pub owed_more : (n c : ℕ) → owed_for_all u p (before (n + c)) ≡ owed_for_all u p (before n) ++ owed_for_all u p (between n c)
  owed_more n c = ap (owed_for_all u p) (before_more n c) ∙ flat_map-append (owed_for u p) (before n) (between n c)

  pub all_parted : (n c : ℕ) → flat_map f items ≡ (before n ++ between n c) ++ flat_map f (drop c (drop n items))
  all_parted n c =
      ap (flat_map f) (sym (take-append-drop n items))
      ∙ flat_map-append f (take n items) (drop n items)
      ∙ ap (λ l. before n ++ l)
      (ap (flat_map f) (sym (take-append-drop c (drop n items))) ∙ flat_map-append f (take c (drop n items)) (drop c (drop n items)))
      ∙ sym (append_assoc (before n) (between n c) (flat_map f (drop c (drop n items))))

  pub all_before : (n : ℕ) → length items ≤ n → before n ≡ flat_map f items
  all_before n h = ap (flat_map f) (take_all n items h)

  pub part_owable : (test : Placed → Bool) (n c : ℕ) → list_all test (flat_map f items) ≡ true → list_all test (between n c) ≡ true
  part_owable test n c h =
      let rest = flat_map f (drop c (drop n items)) in
      let front =
      (and_parts (list_all test (before n ++ between n c)) (list_all test rest)
      (sym (list_all-append test (before n ++ between n c) rest) ∙ ap (list_all test) (sym (all_parted n c)) ∙ h)).0 in
      (and_parts (list_all test (before n)) (list_all test (between n c)) (sym (list_all-append test (before n) (between n c)) ∙ front)).1

  module _ (n c : ℕ) (fine : first_fault u p [] (before n) ≡ None) where
    -- the fault of a part behind the others is that of both
    fault_of_both : first_fault u p [] (before n ++ between n c) ≡ first_fault u p (owed_for_all u p (before n)) (between n c)
    fault_of_both = faults_on u p [] (before n) (between n c) fine

    pub fine_more : first_fault u p (owed_for_all u p (before n)) (between n c) ≡ None → first_fault u p [] (before (n + c)) ≡ None
    fine_more h = ap (first_fault u p []) (before_more n c) ∙ fault_of_both ∙ h

    -- and where there is one, that of the whole
    pub refused_whole : (e : CheckError) → IsRefusal e (first_fault u p (owed_for_all u p (before n)) (between n c))
        → IsRefusal e (first_fault u p [] (flat_map f items))
    refused_whole e h =
        subst (λ l. IsRefusal e (first_fault u p [] l)) (sym (all_parted n c))
        (refusal_stays u p e [] (before n ++ between n c) (flat_map f (drop c (drop n items)))
        (subst (IsRefusal e) (sym fault_of_both) h))
