-- What is owed by the claims of one place after the other.
use Rattle.std.proofs.Common.{◌≡◌, ℕ, suc, ◌+◌, ◌<◌, ◌≤◌, ◌==◌, Bool, true, false, not, cond, ◌&&◌, List, [], ◌∷◌, ◌++◌, map, length, take, slice_get, Option, Some, None, Result, Ok, Err, Vec, append-nil, append_assoc, refl, sym, ap, ◌∙◌, subst, arith}
use Rattle.std.specs.List.{list_all, position_or_len}
use Rattle.std.specs.Result.{IsErrAnd}
use Rattle.std.proofs.lemmas.Bool.{and_parts, and_from}
use Rattle.std.proofs.lemmas.Bool.Decides.{nat_tests}
use Rattle.std.proofs.lemmas.List.Folds.{list_all-append}
use Rattle.std.proofs.lemmas.Grind.{flat_map-append}
use Rattle.exo_tree.specs.Tree.{Procedure, Program}
use Rattle.exo_tree.specs.Places.{Branch, Main, Else, Path}
use Rattle.affine_forms.specs.declared.error.FormError.TheVariants as form
use Rattle.affine_systems.specs.Outcomes.{Owed}
use Rattle.affine_systems.specs.declared.obligation.Obligation.{Obligation}
use Rattle.check_claims.specs.Claim.{Placed}
use Rattle.check_claims.specs.Claims.{claims_of}
use Rattle.check_facts.specs.Contexts.{IsPlaceOf}
use Rattle.bounds_check.specs.Paths.{same_branch, same_path}
use Rattle.affine_systems.specs.Limits.{are_within}
use Rattle.bounds_check.specs.Laws.{claim_keeps_rules, may_be_owed}
use Rattle.bounds_check.specs.Obligations.{Fault, Wide, ManyCases, LargeSystem, ManyObligations, owed_for, owed_for_all, unless_refused, claim_fault, first_fault}
use Rattle.bounds_check.specs.Outcomes.{IsRefusal, AreObligations, AreOwedFor}
use Rattle.bounds_check.specs.declared.error.CheckError.{CheckError}
use Rattle.bounds_check.specs.declared.error.CheckError.TheVariants.{TooManyObligations, Form, Memory}
use Rattle.effect_conflicts.specs.Standings.{is_place}

-- ---- claims of one place

pub same_self : (p : Path) → same_path p p ≡ true
same_self [] = refl
same_self (s ∷ p) = and_from (same_branch s.branch s.branch && (s.index == s.index)) (same_path p p) (and_from (same_branch s.branch s.branch) (s.index == s.index) (branch s.branch) (index s.index)) (same_self p)
  where
    branch : (b : Branch) → same_branch b b ≡ true
    branch Main = refl
    branch Else = refl

    index : (n : ℕ) → (n == n) ≡ true
    index n = grind (arith, nat_tests)

module _ {A B : Type 0} (f : A → B) (p : B → Bool) where
  counted_front : (xs : List A) → list_all p (map f (take (position_or_len (λ b. not (p b)) (map f xs)) xs)) ≡ true
  counted_front [] = refl
  counted_front (x ∷ xs) = go (p (f x)) refl (counted_front xs)
    where
      go : (t : Bool) → p (f x) ≡ t → list_all p (map f (take (position_or_len (λ b. not (p b)) (map f xs)) xs)) ≡ true → list_all p (map f (take (cond (not (not t)) (1 + position_or_len (λ b. not (p b)) (map f xs)) 0) (x ∷ xs))) ≡ true
      go true e h = ap (λ n. list_all p (map f (take n (x ∷ xs)))) (next (position_or_len (λ b. not (p b)) (map f xs))) ∙ and_from (p (f x)) (list_all p (map f (take (position_or_len (λ b. not (p b)) (map f xs)) xs))) e h
        where
          next : (n : ℕ) → 1 + n ≡ suc n
          next n = omega arith
      go false e h = refl

  pub counted_within : (xs : List A) → position_or_len (λ b. not (p b)) (map f xs) ≤ length xs
  counted_within [] = omega arith
  counted_within (x ∷ xs) = go (p (f x)) (counted_within xs)
    where
      go : (t : Bool) → position_or_len (λ b. not (p b)) (map f xs) ≤ length xs → cond (not (not t)) (1 + position_or_len (λ b. not (p b)) (map f xs)) 0 ≤ suc (length xs)
      go true h = omega (arith, h)
      go false h = omega arith

  pub counted_some : (xs : List A) (x : A) → slice_get xs 0 ≡ Some x → p (f x) ≡ true → 0 < position_or_len (λ b. not (p b)) (map f xs)
  counted_some [] x e h = cc
  counted_some (y ∷ xs) x e h =
      let same : y ≡ x = some_is y x e in
      go (p (f y)) (ap (λ z. p (f z)) same ∙ h)
    where
      some_is : (a b : A) → Some a ≡ Some b → a ≡ b
      some_is a b k = cc

      go : (t : Bool) → t ≡ true → 0 < cond (not (not t)) (1 + position_or_len (λ b. not (p b)) (map f xs)) 0
      go true k = omega arith
      go false k = cc

  pub counted_pass : (xs front : List A) (n : ℕ) → n ≡ position_or_len (λ b. not (p b)) (map f xs) → front ≡ take n xs → list_all p (map f front) ≡ true
  counted_pass xs front n e h = ap (λ ys. list_all p (map f ys)) (h ∙ ap (λ m. take m xs) e) ∙ counted_front xs

-- ---- rules

-- claims that may be owed keep the rules
pub rules_of : (p : Procedure) (cs : List Placed) → list_all (may_be_owed p) cs ≡ true
    → list_all (λ c. claim_keeps_rules c.claim) cs ≡ true
rules_of p [] h = refl
rules_of p (c ∷ cs) h =
    let q = and_parts (may_be_owed p c) (list_all (may_be_owed p) cs) h in
    and_from (claim_keeps_rules c.claim) (list_all (λ d. claim_keeps_rules d.claim) cs)
    (and_parts (claim_keeps_rules c.claim) (is_place c.place p) q.0).0 (rules_of p cs q.1)

-- ---- faults of lists in two parts

module _ (u : Program) (p : Procedure) where
  -- the second part begins behind what the first owes
  pub faults_on : (os : List Owed) (xs ys : List Placed) → first_fault u p os xs ≡ None → first_fault u p os (xs ++ ys) ≡ first_fault u p (os ++ owed_for_all u p xs) ys
  faults_on os [] ys h = ap (λ l. first_fault u p l ys) (sym (append-nil os))
  faults_on os (c ∷ xs) ys h = go (claim_fault u p c) (are_within (os ++ owed_for u p c)) h (faults_on (os ++ owed_for u p c) xs ys)
    where
      go : (f : Option Fault) (w : Bool) → unless_refused f w (first_fault u p (os ++ owed_for u p c) xs) ≡ None
          → (first_fault u p (os ++ owed_for u p c) xs ≡ None → first_fault u p (os ++ owed_for u p c) (xs ++ ys) ≡ first_fault u p ((os ++ owed_for u p c) ++ owed_for_all u p xs) ys)
          → unless_refused f w (first_fault u p (os ++ owed_for u p c) (xs ++ ys)) ≡ first_fault u p (os ++ owed_for_all u p (c ∷ xs)) ys
      go (Some f) w k rest = cc
      go None true k rest = rest k ∙ ap (λ l. first_fault u p l ys) (append_assoc os (owed_for u p c) (owed_for_all u p xs))
      go None false k rest = cc

  -- a fault of the first part is that of the whole
  fault_stays : (os : List Owed) (xs ys : List Placed) (why : Fault) → first_fault u p os xs ≡ Some why → first_fault u p os (xs ++ ys) ≡ Some why
  fault_stays os [] ys why h = cc
  fault_stays os (c ∷ xs) ys why h = go (claim_fault u p c) (are_within (os ++ owed_for u p c)) h (fault_stays (os ++ owed_for u p c) xs ys why)
    where
      go : (f : Option Fault) (w : Bool) → unless_refused f w (first_fault u p (os ++ owed_for u p c) xs) ≡ Some why
          → (first_fault u p (os ++ owed_for u p c) xs ≡ Some why → first_fault u p (os ++ owed_for u p c) (xs ++ ys) ≡ Some why)
          → unless_refused f w (first_fault u p (os ++ owed_for u p c) (xs ++ ys)) ≡ Some why
      go (Some f) w k rest = k
      go None true k rest = rest k
      go None false k rest = k

  pub refusal_stays : (e : CheckError) (os : List Owed) (xs ys : List Placed) → IsRefusal e (first_fault u p os xs) → IsRefusal e (first_fault u p os (xs ++ ys))
  refusal_stays TooManyObligations os xs ys h = fault_stays os xs ys ManyObligations h
  refusal_stays (Form form.TooManyCases) os xs ys h = fault_stays os xs ys ManyCases h
  refusal_stays (Form form.SystemTooLarge) os xs ys h = fault_stays os xs ys LargeSystem h
  refusal_stays (Form form.WideNumber) os xs ys h = fault_stays os xs ys Wide h
  refusal_stays (Form form.TooManySystems) os xs ys h = absurd h
  refusal_stays (Form form.Memory) os xs ys h = absurd h
  refusal_stays Memory os xs ys h = tt

  -- ---- what is left

  module _ (whole : List Placed) where
    -- what is left gives the whole, and may be owed
    pub record Onward (out : List Owed) (rest : List Placed) : Type 0 where
      pub fault : first_fault u p out rest ≡ first_fault u p [] whole
      pub owed : out ++ owed_for_all u p rest ≡ owed_for_all u p whole
      pub owable : list_all (may_be_owed p) rest ≡ true

    pub onward_all : (out : List Owed) → out ≡ [] → list_all (may_be_owed p) whole ≡ true → Onward out whole
    onward_all out e k = record {
      fault = λ i. first_fault u p (e i) whole;
      owed = λ i. e i ++ owed_for_all u p whole;
      owable = k;
    }

    module _ (out : List Owed) (rest here others : List Placed) (left : Onward out rest) (split : rest ≡ here ++ others) where
      both_owable : (list_all (may_be_owed p) here ≡ true) × (list_all (may_be_owed p) others ≡ true)
      both_owable = and_parts (list_all (may_be_owed p) here) (list_all (may_be_owed p) others) (sym (list_all-append (may_be_owed p) here others) ∙ ap (list_all (may_be_owed p)) (sym split) ∙ left.owable)

      pub onward_more : (new : List Owed) → (first_fault u p out here ≡ None) × (new ≡ out ++ owed_for_all u p here) → Onward new others
      onward_more new h = record {
        fault = ap (λ os. first_fault u p os others) h.1 ∙ sym (faults_on out here others h.0) ∙ ap (first_fault u p out) (sym split) ∙ left.fault;
        owed =
            ap (λ os. os ++ owed_for_all u p others) h.1
            ∙ append_assoc out (owed_for_all u p here) (owed_for_all u p others)
            ∙ ap (λ os. out ++ os) (sym (flat_map-append (owed_for u p) here others))
            ∙ ap (λ cs. out ++ owed_for_all u p cs) (sym split)
            ∙ left.owed;
        owable = both_owable.1;
      }

      pub onward_refused : {A : Type 0} (result : Result (Vec Obligation A) CheckError) (e : CheckError) → IsErrAnd result (λ r. r ≡ e) → IsRefusal e (first_fault u p out here) → AreOwedFor result u p whole
      onward_refused {A} result e is h = go result is
        where
          refused : IsRefusal e (first_fault u p [] whole)
          refused = subst (IsRefusal e) (ap (first_fault u p out) (sym split) ∙ left.fault) (refusal_stays e out here others h)

          go : (r : Result (Vec Obligation A) CheckError) → IsErrAnd r (λ y. y ≡ e) → AreOwedFor r u p whole
          go (Ok x) w = absurd w
          go (Err y) w = subst (λ z. IsRefusal z (first_fault u p [] whole)) (sym w) refused

      pub rules_here : list_all (λ c. claim_keeps_rules c.claim) here ≡ true
      rules_here = rules_of p here both_owable.0

    pub onward_none : (out : List Owed) → Onward out [] → (first_fault u p [] whole ≡ None) × (out ≡ owed_for_all u p whole)
    onward_none out left = (sym left.fault, sym (append-nil out) ∙ left.owed)

-- what all claims of a procedure owe is what it owes
pub all_owed : {A : Type 0} (u : Program) (p : Procedure) (cs : List Placed) (r : Result (Vec Obligation A) CheckError)
    → cs ≡ claims_of u p → AreOwedFor r u p cs → AreObligations r u p
all_owed u p cs (Ok os) e h = (ap (first_fault u p []) (sym e) ∙ h.0, h.1 ∙ ap (owed_for_all u p) e)
all_owed u p cs (Err x) e h = subst (λ l. IsRefusal x (first_fault u p [] l)) e h

-- ---- places

pub is_place_of : (path : Path) (p : Procedure) → is_place path p ≡ true → IsPlaceOf path p
is_place_of [] p h = tt
is_place_of (s ∷ path) p h = h

pub place_of_first : {A : Type 0} (f : A → Placed) (p : Procedure) (xs : List A) (x : A) → slice_get xs 0 ≡ Some x → list_all (may_be_owed p) (map f xs) ≡ true → IsPlaceOf (f x).place p
place_of_first f p [] x e h = cc
place_of_first {A} f p (y ∷ xs) x e h = subst (λ z. IsPlaceOf (f z).place p) (some_is y x e) (is_place_of (f y).place p (and_parts (claim_keeps_rules (f y).claim) (is_place (f y).place p) (and_parts (may_be_owed p (f y)) (list_all (may_be_owed p) (map f xs)) h).0).1)
  where
    some_is : (a b : A) → Some a ≡ Some b → a ≡ b
    some_is a b k = cc

pub none_left : {A : Type 0} (xs : List A) → slice_get xs 0 ≡ None → xs ≡ []
none_left [] h = refl
none_left (x ∷ xs) h = cc
