-- The first refusal of claims, looked for claim by claim.
use Rattle.std.proofs.Common.{◌≡◌, ℕ, ◌<◌, ◌≤◌, nat_le, Bool, true, false, List, [], ◌∷◌}
use Rattle.std.proofs.Common.{◌++◌, length, take, slice_get, Option, Some, None, Result, Ok, Err}
use Rattle.std.proofs.Common.{append-nil, length-append, refl, ap, sym, ◌∙◌, subst, true≢false, arith}
use Rattle.std.specs.List.{list_all}
use Rattle.std.specs.Result.{IsErrAnd}
use Rattle.std.proofs.lemmas.List.Folds.{list_all-append}
use Rattle.std.proofs.lemmas.Bool.{and_parts, and_from}
use Rattle.std.proofs.lemmas.Bool.Decides.{nat_tests}
use Rattle.std.proofs.lemmas.List.Sums.{sum_by-append}
use Rattle.exo_tree.specs.Tree.{Procedure, Program}
use Rattle.exo_tree.specs.Places.{Path}
use Rattle.affine_forms.specs.declared.error.FormError.{FormError}
use Rattle.affine_forms.specs.declared.error.FormError.TheVariants as form
use Rattle.affine_systems.specs.Amounts.{IsAmount, Counted}
use Rattle.affine_systems.specs.declared.amount.Amount.{Amount}
use Rattle.affine_systems.specs.Limits.{system_terms, terms_in, are_within}
use Rattle.affine_systems.specs.Outcomes.{Owed}
use Rattle.check_claims.specs.Claim.{Placed}
use Rattle.bounds_check.specs.Obligations.{Fault, ManyObligations, owed_for, owed_for_all, unless_refused, claim_fault, first_fault}
use Rattle.bounds_check.specs.Errors.{error_of}
use Rattle.bounds_check.specs.Outcomes.{IsRefusal, Finds}
use Rattle.bounds_check.specs.Paths.{same_path}
use Rattle.bounds_check.specs.declared.error.CheckError.{CheckError}
use Rattle.bounds_check.specs.declared.error.CheckError.TheVariants.{TooManyObligations, Form, Memory}

least : (m n : ℕ) → nat_le m n ≡ true → m ≤ n
least m n h = grind (arith, nat_tests)

most : (m n : ℕ) → m ≤ n → nat_le m n ≡ true
most m n h = grind (arith, nat_tests)

-- what is within the limits is so without its front
within_back : (xs ys : List Owed) → are_within (xs ++ ys) ≡ true → are_within ys ≡ true
within_back xs ys h =
    let p = and_parts (nat_le (length (xs ++ ys)) 65536) (nat_le (terms_in (xs ++ ys)) 4194304) h in
    let items = least (length (xs ++ ys)) 65536 p.0 in
    let terms = least (terms_in (xs ++ ys)) 4194304 p.1 in
    let more = sum_by-append (λ (o : Owed). system_terms o.system) xs ys in
    and_from (nat_le (length ys) 65536) (nat_le (terms_in ys) 4194304) (most (length ys) 65536 (omega (arith, items, length-append xs ys)))
    (most (terms_in ys) 4194304 (omega (arith, terms, more)))

-- memory alone is refused where there is no fault
no_fault : (e : CheckError) (f : Option Fault) → IsRefusal e None → IsRefusal e f
no_fault TooManyObligations f h = cc
no_fault (Form form.TooManyCases) f h = cc
no_fault (Form form.SystemTooLarge) f h = cc
no_fault (Form form.WideNumber) f h = cc
no_fault (Form form.TooManySystems) f h = absurd h
no_fault (Form form.Memory) f h = absurd h
no_fault Memory f h = tt

module _ (u : Program) (p : Procedure) where
  -- a claim that is refused alone is so behind others
  pub refused_alone : (e : CheckError) (os : List Owed) (c : Placed) (rest : List Placed)
      → IsRefusal e (first_fault u p [] (c ∷ [])) → IsRefusal e (first_fault u p os (c ∷ rest))
  refused_alone e os c rest h =
      by (claim_fault u p c) (are_within (owed_for u p c)) (are_within (os ++ owed_for u p c)) refl
      (first_fault u p (os ++ owed_for u p c) rest) h (within_back os (owed_for u p c))
    where
      by : (f : Option Fault) (alone behind : Bool) → behind ≡ behind → (after : Option Fault) → IsRefusal e (unless_refused f alone None)
          → (behind ≡ true → alone ≡ true) → IsRefusal e (unless_refused f behind after)
      by (Some f) alone behind r after k w = k
      by None true behind r after k w = no_fault e (unless_refused None behind after) k
      by None false true r after k w = absurd (true≢false (sym (w refl)))
      by None false false r after k w = k

  -- one that is not refused alone goes on where all are within the limits
  pub goes_on : (os : List Owed) (c : Placed) (rest : List Placed) → first_fault u p [] (c ∷ []) ≡ None
      → are_within (os ++ owed_for u p c) ≡ true
      → first_fault u p (os ++ owed_for u p c) rest ≡ first_fault u p os (c ∷ rest)
  goes_on os c rest h w =
      by (claim_fault u p c) (are_within (owed_for u p c)) (are_within (os ++ owed_for u p c)) (first_fault u p (os ++ owed_for u p c) rest) h w
    where
      by : (f : Option Fault) (alone behind : Bool) (after : Option Fault) → unless_refused f alone None ≡ None → behind ≡ true → after ≡ unless_refused f behind after
      by (Some f) alone behind after k w = cc
      by None true true after k w = refl
      by None true false after k w = cc
      by None false behind after k w = cc

  -- else it passes a limit
  pub is_full : (os : List Owed) (c : Placed) (rest : List Placed) → first_fault u p [] (c ∷ []) ≡ None
      → are_within (os ++ owed_for u p c) ≡ false → first_fault u p os (c ∷ rest) ≡ Some ManyObligations
  is_full os c rest h w =
      by (claim_fault u p c) (are_within (owed_for u p c)) (are_within (os ++ owed_for u p c)) (first_fault u p (os ++ owed_for u p c) rest) h w
    where
      by : (f : Option Fault) (alone behind : Bool) (after : Option Fault) → unless_refused f alone None ≡ None → behind ≡ false → unless_refused f behind after ≡ Some ManyObligations
      by (Some f) alone behind after k w = cc
      by None true true after k w = cc
      by None true false after k w = refl
      by None false behind after k w = cc

  -- ---- claim by claim

  -- what is left is refused as the whole is behind os
  pub record FineSoFar (os : List Owed) (whole rest : List Placed) (a : Amount) : Type 0 where
    pub owed : List Owed
    pub amount : IsAmount owed a
    pub fault : first_fault u p owed rest ≡ first_fault u p os whole

  pub fine_begin : (os : List Owed) (whole : List Placed) (a : Amount) → IsAmount os a → FineSoFar os whole whole a
  fine_begin os whole a h = record {
    owed = os;
    amount = h;
    fault = refl;
  }

  module _ (os : List Owed) (whole : List Placed) (c : Placed) (rest : List Placed) (a : Amount) (so_far : FineSoFar os whole (c ∷ rest) a) where
    -- the claim is refused
    pub refused_here : (e : CheckError) → IsRefusal e (first_fault u p [] (c ∷ [])) → IsRefusal e (first_fault u p os whole)
    refused_here e h = subst (IsRefusal e) so_far.fault (refused_alone e so_far.owed c rest h)

    module _ (own : List Owed) (fine : first_fault u p [] (c ∷ []) ≡ None) (is : own ≡ owed_for u p c) where
      -- what it owes passes a limit
      pub full_here : are_within (so_far.owed ++ own) ≡ false → first_fault u p os whole ≡ Some ManyObligations
      full_here w =
          sym so_far.fault ∙ is_full so_far.owed c rest fine (ap (λ l. are_within (so_far.owed ++ l)) (sym is) ∙ w)

      -- else the next one comes
      pub fine_on : (b : Amount) → IsAmount (so_far.owed ++ own) b → FineSoFar os whole rest b
      fine_on b h = record {
        owed = so_far.owed ++ own;
        amount = h;
        fault =
            ap (λ l. first_fault u p (so_far.owed ++ l) rest) is
            ∙ goes_on so_far.owed c rest fine (ap (λ l. are_within (so_far.owed ++ l)) (sym is) ∙ h.within)
            ∙ so_far.fault;
      }

-- ---- the first of a list, put alone

pub some_first : {A : Type 0} (xs : List A) (x : A) → slice_get xs 0 ≡ Some x → 0 < length xs
some_first [] x e = cc
some_first (y ∷ ys) x e = omega arith

pub one_front : {A : Type 0} (xs front : List A) (x : A) → slice_get xs 0 ≡ Some x
    → front ≡ take 1 xs → front ≡ x ∷ []
one_front [] front x e h = cc
one_front {A} (y ∷ ys) front x e h = h ∙ ap (λ z. z ∷ []) (some_is y x e)
  where
    some_is : (a b : A) → Some a ≡ Some b → a ≡ b
    some_is a b k = cc

pub one_here : (place : Path) (here : List Placed) (c : Placed) → here ≡ c ∷ []
    → same_path c.place place ≡ true → list_all (λ d. same_path d.place place) here ≡ true
one_here place here c is h =
    ap (list_all (λ d. same_path d.place place)) is ∙ and_from (same_path c.place place) true h refl

-- a refusal is found
pub finds_refusal : {X : Type 0} (r : Result X CheckError) (e : CheckError) (f : Option Fault)
    → IsErrAnd r (λ y. y ≡ e) → IsRefusal e f → Finds r f
finds_refusal (Ok x) e f is h = absurd is
finds_refusal (Err y) e f is h = subst (λ z. IsRefusal z f) (sym is) h

-- all of a list is owable, so its parts are
pub both_owable : (test : Placed → Bool) (rest here others : List Placed) → rest ≡ here ++ others
    → list_all test rest ≡ true → (list_all test here ≡ true) × (list_all test others ≡ true)
both_owable test rest here others split h =
    and_parts (list_all test here) (list_all test others)
    (sym (list_all-append test here others) ∙ ap (list_all test) (sym split) ∙ h)

module _ (u : Program) (p : Procedure) (os : List Owed) (whole : List Placed) where
  pub fine_end : (rest : List Placed) (a : Amount) → rest ≡ [] → FineSoFar u p os whole rest a
      → first_fault u p os whole ≡ None
  fine_end rest a none so_far = sym so_far.fault ∙ ap (first_fault u p so_far.owed) none

  module _ (c : Placed) (rest here others : List Placed) (is : here ≡ c ∷ [])
      (split : rest ≡ here ++ others) (a : Amount) (so_far : FineSoFar u p os whole rest a) where
    left : FineSoFar u p os whole (c ∷ others) a
    left = subst (λ l. FineSoFar u p os whole l a) (split ∙ ap (λ l. l ++ others) is) so_far

    pub refused_first : (e : CheckError) (none : List Owed) → none ≡ []
        → IsRefusal e (first_fault u p none here) → IsRefusal e (first_fault u p os whole)
    refused_first e none n h =
        refused_here u p os whole c others a left e
        (subst (λ (it : List Owed × List Placed). IsRefusal e (first_fault u p it.0 it.1))
        (λ i. (n i, is i)) h)

    module _ (none own more : List Owed) (n : none ≡ []) (m : more ≡ own)
        (owes : (first_fault u p none here ≡ None) × (own ≡ none ++ owed_for_all u p here)) where
      fine : first_fault u p [] (c ∷ []) ≡ None
      fine =
          sym (ap (λ (it : List Owed × List Placed). first_fault u p it.0 it.1) (λ i. (n i, is i)))
          ∙ owes.0

      is_own : more ≡ owed_for u p c
      is_own =
          m ∙ owes.1
          ∙ ap (λ (it : List Owed × List Placed). it.0 ++ owed_for_all u p it.1) (λ i. (n i, is i))
          ∙ append-nil (owed_for u p c)

      -- what it owes can't be counted
      pub full_first : (e : FormError)
          → ((ws : List Owed) → IsAmount ws a → Counted (Err e) (ws ++ more))
          → IsRefusal (error_of e) (first_fault u p os whole)
      full_first e k = by e (k left.owed left.amount)
        where
          by : (y : FormError) → Counted (Err y) (left.owed ++ more)
              → IsRefusal (error_of y) (first_fault u p os whole)
          by form.TooManyCases w = absurd w
          by form.SystemTooLarge w = absurd w
          by form.WideNumber w = absurd w
          by form.TooManySystems w = full_here u p os whole c others a left more fine is_own w
          by form.Memory w = absurd w

      -- or the next one comes
      pub fine_first : (b : Amount) → ((ws : List Owed) → IsAmount ws a → Counted (Ok b) (ws ++ more))
          → FineSoFar u p os whole others b
      fine_first b k = fine_on u p os whole c others a left more fine is_own b (k left.owed left.amount)
