-- What is owed by the claims that are left, after those that were put.
use Rattle.std.proofs.Common.{◌≡◌, ℕ, zero, suc, ◌+◌, ◌<◌, ◌≤◌, ◌==◌, Bool, true, false, ◌&&◌, if◌then◌else◌, List, [], ◌∷◌, ◌++◌, map, length, drop, get_or, Option, Some, None, Result, Ok, Err, append-nil, append_assoc, refl, sym, ap, ◌∙◌, subst, arith}
use Rattle.std.specs.List.{list_all}
use Rattle.std.specs.Result.{IsErrAnd}
use Rattle.std.proofs.lemmas.Bool.{and_parts}
use Rattle.std.proofs.lemmas.Bool.Decides.{nat_tests}
use Rattle.std.proofs.lemmas.List.{drop_all}
use Rattle.exo_tree.specs.Tree.{Procedure, Program}
use Rattle.exo_tree.specs.Places.{Branch, Main, Else, Path}
use Rattle.affine_forms.specs.declared.error.FormError.{FormError}
use Rattle.affine_forms.specs.declared.error.FormError.TheVariants as form
use Rattle.affine_forms.specs.Outcomes.{IsWide}
use Rattle.affine_systems.specs.Outcomes.{Owed}
use Rattle.check_claims.specs.Claim.{Placed}
use Rattle.check_claims.specs.declared.claim.Placed as declared
use Rattle.check_claims.specs.PlainClaim.{placed}
use Rattle.check_facts.specs.Contexts.{context_fits}
use Rattle.bounds_check.specs.Paths.{same_branch, same_path}
use Rattle.bounds_check.specs.Errors.{error_of}
use Rattle.affine_systems.specs.Limits.{are_within}
use Rattle.bounds_check.specs.Obligations.{Fault, Wide, ManyCases, LargeSystem, ManyObligations, owed_for, owed_for_all, said_fits, claim_fits, said_fault, unless_refused, claim_fault, first_fault}
use Rattle.bounds_check.specs.Outcomes.{IsRefusal, Owes}
use Rattle.bounds_check.specs.declared.error.CheckError.{CheckError}
use Rattle.bounds_check.specs.declared.error.CheckError.TheVariants.{TooManyObligations, Form, Memory}
use Rattle.bounds_check.proofs.Counting.{drop_read}

-- ---- paths

branches : (b c : Branch) → same_branch b c ≡ true → b ≡ c
branches Main Main h = refl
branches Main Else h = cc
branches Else Main h = cc
branches Else Else h = refl

pub paths : (p q : Path) → same_path p q ≡ true → p ≡ q
paths [] [] h = refl
paths [] (t ∷ q) h = cc
paths (s ∷ p) [] h = cc
paths (s ∷ p) (t ∷ q) h =
    let a = and_parts (same_branch s.branch t.branch && (s.index == t.index)) (same_path p q) h in
    let b = and_parts (same_branch s.branch t.branch) (s.index == t.index) a.0 in
    let branch = branches s.branch t.branch b.0 in
    let index = equal s.index t.index b.1 in
    let rest = paths p q a.1 in
    λ i. record { branch = branch i; index = index i } ∷ rest i
  where
    equal : (m n : ℕ) → (m == n) ≡ true → m ≡ n
    equal m n e = grind (arith, nat_tests)

-- ---- claims

abbrev Claims : Type 0
Claims = List declared.Placed

pub all_dropped : {A B : Type 0} (f : B → Bool) (g : A → B) (xs : List A) (n : ℕ) → list_all f (map g xs) ≡ true → list_all f (map g (drop n xs)) ≡ true
all_dropped f g xs zero h = h
all_dropped f g [] (suc n) h = refl
all_dropped f g (x ∷ xs) (suc n) h = all_dropped f g xs n (and_parts (f (g x)) (list_all f (map g xs)) h).1

-- what holds of each claim holds of one
pub each_at : {A B : Type 0} (f : B → Bool) (g : A → B) (xs : List A) (k : ℕ) (x : A) → x ≡ get_or xs k x → k < length xs → list_all f (map g xs) ≡ true → f (g x) ≡ true
each_at f g xs k x e l h = (and_parts (f (g x)) (list_all f (map g (drop (k + 1) xs))) (sym (ap (λ ys. list_all f (map g ys)) (drop_read xs k x e l)) ∙ all_dropped f g xs k h)).0

-- the one at its place
abbrev pub put_at : Path → declared.Placed → Placed
put_at place c = record { place = place; claim = (placed c).claim }

pub at_place : (place : Path) (c : declared.Placed) → same_path c.place place ≡ true → put_at place c ≡ placed c
at_place place c h = let e = paths c.place place h in λ i. record { place = sym e i; claim = (placed c).claim }

-- ---- faults

goes_on : (f : Option Fault) (w : Bool) (rest : Option Fault) → unless_refused f w None ≡ None → unless_refused f w rest ≡ rest
goes_on (Some f) w rest h = cc
goes_on None true rest h = refl
goes_on None false rest h = cc

stops : (f : Option Fault) (w : Bool) (rest : Option Fault) (why : Fault) → unless_refused f w None ≡ Some why → unless_refused f w rest ≡ Some why
stops (Some f) w rest why h = h
stops None true rest why h = cc
stops None false rest why h = h

-- a refusal of the first is that of all
refusal_stops : (e : CheckError) (f : Option Fault) (w : Bool) (rest : Option Fault) → IsRefusal e (unless_refused f w None) → IsRefusal e (unless_refused f w rest)
refusal_stops TooManyObligations f w rest h = stops f w rest ManyObligations h
refusal_stops (Form form.TooManyCases) f w rest h = stops f w rest ManyCases h
refusal_stops (Form form.SystemTooLarge) f w rest h = stops f w rest LargeSystem h
refusal_stops (Form form.WideNumber) f w rest h = stops f w rest Wide h
refusal_stops (Form form.TooManySystems) f w rest h = absurd h
refusal_stops (Form form.Memory) f w rest h = absurd h
refusal_stops Memory f w rest h = tt

exit : {X : Type 0} (u : Program) (p : Procedure) (cs : List Placed) (old new : List Owed) (result : Result X CheckError) (e : CheckError) → IsErrAnd result (λ r. r ≡ e) → IsRefusal e (first_fault u p old cs) → Owes result u p cs old new
exit {X} u p cs old new result e is h = go result is
  where
    go : (r : Result X CheckError) → IsErrAnd r (λ y. y ≡ e) → Owes r u p cs old new
    go (Ok x) w = absurd w
    go (Err y) w = subst (λ z. IsRefusal z (first_fault u p old cs)) (sym w) h

-- ---- claims of one place

module _ (u : Program) (p : Procedure) (claims : Claims) (before : List Owed) where
  -- what is left gives the whole
  pub record Left (now : List Owed) (k : ℕ) : Type 0 where
    pub fault : first_fault u p now (map placed (drop k claims)) ≡ first_fault u p before (map placed claims)
    pub owed : now ++ owed_for_all u p (map placed (drop k claims)) ≡ before ++ owed_for_all u p (map placed claims)

  pub left_all : Left before 0
  left_all = record { fault = refl; owed = refl }

  module _ (now : List Owed) (k : ℕ) (c : declared.Placed) (e : c ≡ get_or claims k c) (l : k < length claims) (place : Path) (here : same_path c.place place ≡ true) (left : Left now k) where
    split : map placed (drop k claims) ≡ put_at place c ∷ map placed (drop (k + 1) claims)
    split = ap (map placed) (drop_read claims k c e l) ∙ ap (λ d. d ∷ map placed (drop (k + 1) claims)) (sym (at_place place c here))

    pub left_more : (new : List Owed) → (first_fault u p now (put_at place c ∷ []) ≡ None) × (new ≡ now ++ owed_for_all u p (put_at place c ∷ [])) → Left new (k + 1)
    left_more new h =
        let d = put_at place c in
        let others = map placed (drop (k + 1) claims) in
        let more : new ≡ now ++ owed_for u p d = h.1 ∙ ap (λ os. now ++ os) (append-nil (owed_for u p d)) in
        record {
          fault =
              ap (λ os. first_fault u p os others) more
              ∙ sym (goes_on (claim_fault u p d) (are_within (now ++ owed_for u p d)) (first_fault u p (now ++ owed_for u p d) others) h.0)
              ∙ ap (first_fault u p now) (sym split)
              ∙ left.fault;
          owed =
              ap (λ os. os ++ owed_for_all u p others) more
              ∙ append_assoc now (owed_for u p d) (owed_for_all u p others)
              ∙ ap (λ cs. now ++ owed_for_all u p cs) (sym split)
              ∙ left.owed;
        }

    pub left_refused : {X : Type 0} (result : Result X CheckError) (error : CheckError) (new : List Owed) → IsErrAnd result (λ r. r ≡ error) → IsRefusal error (first_fault u p now (put_at place c ∷ [])) → Owes result u p (map placed claims) before new
    left_refused result error new is h =
        let d = put_at place c in
        let others = map placed (drop (k + 1) claims) in
        exit u p (map placed claims) before new result error is
        (subst (IsRefusal error) (ap (first_fault u p now) (sym split) ∙ left.fault) (refusal_stops error (claim_fault u p d) (are_within (now ++ owed_for u p d)) (first_fault u p (now ++ owed_for u p d) others) h))

  pub left_none : (now : List Owed) (k : ℕ) → length claims ≤ k → Left now k → (first_fault u p before (map placed claims) ≡ None) × (now ≡ before ++ owed_for_all u p (map placed claims))
  left_none now k l left =
      let none = drop_all k claims l in
      (sym left.fault ∙ ap (λ cs. first_fault u p now (map placed cs)) none, sym (append-nil now) ∙ ap (λ cs. now ++ owed_for_all u p (map placed cs)) (sym none) ∙ left.owed)

  -- no context for them
  pub left_unfit : {X : Type 0} (result : Result X CheckError) (e : FormError) (new : List Owed) (place : Path) → 0 < length claims → list_all (λ c. same_path c.place place) (map placed claims) ≡ true → IsErrAnd result (λ r. r ≡ error_of e) → IsWide e (context_fits u p place) → Owes result u p (map placed claims) before new
  left_unfit result e new place some here is h = exit u p (map placed claims) before new result (error_of e) is (by e h)
    where
      wide : (cs : Claims) → 0 < length cs → list_all (λ c. same_path c.place place) (map placed cs) ≡ true → context_fits u p place ≡ false → first_fault u p before (map placed cs) ≡ Some Wide
      wide [] s q w = absurd (omega (arith, s))
      wide (c ∷ cs) s q w =
          let d = placed c in
          let fits : claim_fits u p d ≡ false = ap (λ b. b && said_fits u p d.place d.claim) (ap (context_fits u p) (paths c.place place (and_parts (same_path c.place place) (list_all (λ b. same_path b.place place) (map placed cs)) q).0) ∙ w) in
          ap (λ b. unless_refused (if b then said_fault u p d.place d.claim else Some Wide) (are_within (before ++ owed_for u p d)) (first_fault u p (before ++ owed_for u p d) (map placed cs))) fits

      by : (y : FormError) → IsWide y (context_fits u p place) → IsRefusal (error_of y) (first_fault u p before (map placed claims))
      by form.TooManyCases w = absurd w
      by form.SystemTooLarge w = absurd w
      by form.WideNumber w = wide claims some here w
      by form.TooManySystems w = absurd w
      by form.Memory w = tt
