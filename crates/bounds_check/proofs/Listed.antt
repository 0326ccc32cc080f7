-- How a listing goes on, and what its end says.
use Rattle.std.proofs.Common.{◌≡◌, ℕ, ◌+◌, ◌-◌, ◌<◌, ◌≤◌, nat_lt, Bool, true, false, List, [], ◌++◌}
use Rattle.std.proofs.Common.{drop, length, map, slice_get, Option, Some, None, Result, Ok, Err, Vec, IfOk}
use Rattle.std.proofs.Common.{refl, ap, sym, ◌∙◌, subst, arith}
use Rattle.std.specs.List.{list_all}
use Rattle.std.specs.Result.{IsErrAnd}
use Rattle.std.proofs.lemmas.Bool.Decides.{nat_tests}
use Rattle.std.proofs.lemmas.List.{length-drop}
use Rattle.exo_tree.specs.Tree.{Procedure, Program}
use Rattle.affine_forms.specs.declared.error.FormError.{FormError}
use Rattle.affine_forms.specs.declared.error.FormError.TheVariants as form
use Rattle.affine_places.specs.Roots.{no_roots, roots_of, unit_roots}
use Rattle.affine_places.specs.Seen.{roots_in}
use Rattle.affine_systems.specs.Amounts.{IsAmount, Counted}
use Rattle.affine_systems.specs.declared.amount.Amount.{Amount}
use Rattle.affine_systems.specs.Limits.{are_within}
use Rattle.affine_systems.specs.Outcomes.{Owed, plain_obligation}
use Rattle.affine_systems.specs.declared.obligation.Obligation.{Obligation}
use Rattle.check_claims.specs.Claim.{Placed}
use Rattle.check_claims.specs.Claims.{placed_at, claims_of}
use Rattle.check_claims.specs.Places.{Place, places_of, claims_between, has_more}
use Rattle.check_claims.specs.Places.{unit_claims_between, unit_has_more, PlacesHaveAllClaims}
use Rattle.check_claims.specs.Sources.{AreSources}
use Rattle.std.specs.declared.alloc.AllocError.{AllocError}
use Rattle.check_claims.specs.PlainClaim.{placed}
use Rattle.check_claims.specs.declared.parts.Part.{Part}
use Rattle.bounds_check.specs.Errors.{error_of}
use Rattle.bounds_check.specs.Laws.{may_be_owed, ClaimsMayBeOwed}
use Rattle.bounds_check.specs.Obligations.{owed_for_all, first_fault, list_fault}
use Rattle.bounds_check.specs.Outcomes.{IsRefusal}
use Rattle.bounds_check.specs.Parts.{claims_before, unit_of, proc_of, listed_of, IsListed}
use Rattle.bounds_check.specs.Parts.{GoesOn, IsRange, IsWhole, PartListed}
use Rattle.bounds_check.specs.Parts.{HasPassed, IsStripe, owed_in}
use Rattle.bounds_check.specs.declared.error.CheckError.{CheckError}
use Rattle.bounds_check.specs.declared.error.CheckError.TheVariants.{TooManyObligations}
use Rattle.bounds_check.specs.declared.listing.Listing.{Listing}
use Rattle.bounds_check.specs.declared.listing.Range.{Range}
use Rattle.bounds_check.specs.declared.stripe.Stripe.{Stripe}
use Rattle.bounds_check.proofs.Parting.{part_goes_on, part_is_full, owed_more, all_before, part_owable}
use Rattle.bounds_check.proofs.Parting.{fine_more, refused_whole}

some_is : {A : Type 0} (a b : A) → Some a ≡ Some b → a ≡ b
some_is a b e = cc

below : (m n : ℕ) → nat_lt m n ≡ true → m < n
below m n h = grind (arith, nat_tests)

not_below : (m n : ℕ) → nat_lt m n ≡ false → n ≤ m
not_below m n h = grind (arith, nat_tests)

behind_both : (n c len rest : ℕ) → rest ≡ len - n → nat_lt c rest ≡ nat_lt (n + c) len
behind_both n c len rest h = grind (arith, nat_tests)

further : (n : ℕ) → n < n + 2048
further n = omega arith

abbrev at : Place → List Placed
at i = placed_at i.0 i.1

-- the first of many places is there
pub some_places : (u : Program) (p : Procedure) → true ≡ nat_lt 0 (length (places_of u p))
some_places u p = by (length (places_of u p)) (omega arith)
  where
    by : (n : ℕ) → 0 < n → true ≡ nat_lt 0 n
    by n h = grind (arith, nat_tests)

-- the end is that of the whole list
pub whole : PlacesHaveAllClaims → (l : Listing) → IsListed l → l.more ≡ false → IsWhole l
whole law l is e =
    let u = unit_of l in
    let p = proc_of l in
    let all : claims_before u p l.next ≡ claims_of u p =
    all_before u p at (places_of u p) l.next
    (not_below l.next (length (places_of u p)) (sym is.more ∙ e))
    ∙ law u p in
    (ap (first_fault u p []) (sym all) ∙ is.fine, ap (owed_for_all u p) all)

pub roots_there : (l : Listing) → IsListed l → roots_in l.roots ≡ unit_roots (unit_of l) l.number.0
roots_there l is =
    let u = unit_of l in
    is.roots
    ∙ ap (λ (o : Option Procedure). elim o [ None ↦ no_roots | Some q ↦ roots_of q ])
    (sym is.found)

-- a refusal is that of the whole list
pub refuses : {A : Type 0} (r : Result (Vec Obligation A) CheckError) (old new : Listing)
    (e : CheckError) → IsErrAnd r (λ y. y ≡ e)
    → IsRefusal e (list_fault (unit_of old) (proc_of old)) → PartListed r old new
refuses (Ok x) old new e is h = absurd is
refuses (Err y) old new e is h =
    subst (λ z. IsRefusal z (list_fault (unit_of old) (proc_of old))) (sym is) h

-- ---- the next part

abbrev moved : Listing → ℕ → Bool → Amount → Listing
moved l n m a = record {
  unit = l.unit;
  proc = l.proc;
  number = l.number;
  writes = l.writes;
  modes = l.modes;
  roots = l.roots;
  sources = l.sources;
  next = n;
  more = m;
  amount = a;
}

module _ (l : Listing) (is : IsListed l) where
  abbrev u : Program
  u = unit_of l

  abbrev p : Procedure
  p = proc_of l

  abbrev part : List Placed
  part = claims_between u p l.next 2048

  -- what is said by the number of the procedure
  pub claims_are : (n c : ℕ) (cs : List Placed) → cs ≡ unit_claims_between u l.number.0 n c
      → cs ≡ claims_between u p n c
  claims_are n c cs h =
      h
      ∙ ap (λ (o : Option Procedure). elim o [ None ↦ [] | Some q ↦ claims_between u q n c ])
      is.found

  pub more_are : (n c : ℕ) (m : Bool) → m ≡ unit_has_more u l.number.0 n c → m ≡ has_more u p n c
  more_are n c m h =
      h
      ∙ ap (λ (o : Option Procedure). elim o [ None ↦ false | Some q ↦ has_more u q n c ])
      is.found

  pub sources_there : (q : Procedure) → slice_get u.procedures l.number.0 ≡ Some q
      → AreSources l.sources u q
  sources_there q h =
      subst (AreSources l.sources u) (some_is p q (sym is.found ∙ h)) is.sources

  more_is : (c : ℕ) (m : Bool) → m ≡ has_more u p l.next c
      → m ≡ nat_lt (l.next + c) (length (places_of u p))
  more_is c m h =
      h
      ∙ behind_both l.next c (length (places_of u p)) (length (drop l.next (places_of u p)))
      (length-drop l.next (places_of u p))

  -- so many places come behind what is listed
  module _ (c : ℕ) (os : List Owed)
      (fine : first_fault u p [] (claims_between u p l.next c) ≡ None)
      (owed : os ≡ owed_for_all u p (claims_between u p l.next c)) where
    listed_more : listed_of l ++ os ≡ owed_for_all u p (claims_before u p (l.next + c))
    listed_more =
        ap (λ ws. listed_of l ++ ws) owed ∙ sym (owed_more u p at (places_of u p) l.next c)

    pub goes_further : (n : ℕ) (m : Bool) (a : Amount)
        → n ≡ l.next + c
        → IsAmount (listed_of l ++ os) a
        → m ≡ has_more u p l.next c
        → GoesOn l (moved l n m a) × (listed_of (moved l n m a) ≡ listed_of l ++ os)
    goes_further n m a e counted more =
        subst (λ (j : ℕ). GoesOn l (moved l j m a)
        × (listed_of (moved l j m a) ≡ listed_of l ++ os)) (sym e) (
          record {
            unit = refl;
            proc = refl;
            listed = record {
              formed = is.formed;
              found = is.found;
              roots = is.roots;
              sources = is.sources;
              writes = is.writes;
              modes = is.modes;
              fine =
                  fine_more u p at (places_of u p) l.next c is.fine
                  (part_goes_on u p (listed_of l) (claims_between u p l.next c) fine
                  (ap (λ ws. are_within (listed_of l ++ ws)) (sym owed) ∙ counted.within));
              amount = subst (λ ws. IsAmount ws a) listed_more counted;
              more = more_is c m more;
            };
          },
          sym listed_more,
        )

  module _ (law : PlacesHaveAllClaims) where
    pub owable_range : ClaimsMayBeOwed → (n c : ℕ)
        → list_all (may_be_owed p) (claims_between u p n c) ≡ true
    owable_range owed n c =
        part_owable u p at (places_of u p) (may_be_owed p) n c
        (ap (list_all (may_be_owed p)) (law u p) ∙ owed u l.number.0 p is.formed is.found)

    -- the part is refused
    pub refused_part : (e : CheckError) → IsRefusal e (first_fault u p (listed_of l) part)
        → IsRefusal e (list_fault u p)
    refused_part e h =
        subst (λ cs. IsRefusal e (first_fault u p [] cs)) (law u p)
        (refused_whole u p at (places_of u p) l.next 2048 is.fine e h)

    module _ (r : Range) (range : IsRange u p l.next 2048 r) where
      abbrev more : List Owed
      more = map plain_obligation r.owed.items

      -- it passes a limit
      pub full_part : (e : FormError)
          → ((ws : List Owed) → IsAmount ws l.amount → Counted (Err e) (ws ++ more))
          → IsRefusal (error_of e) (list_fault u p)
      full_part e k = by e (k (listed_of l) is.amount)
        where
          by : (y : FormError) → Counted (Err y) (listed_of l ++ more)
              → IsRefusal (error_of y) (list_fault u p)
          by form.TooManyCases w = absurd w
          by form.SystemTooLarge w = absurd w
          by form.WideNumber w = absurd w
          by form.TooManySystems w =
              refused_part TooManyObligations
              (part_is_full u p (listed_of l) part range.fine is.amount.within
              (ap (λ ws. are_within (listed_of l ++ ws)) (sym range.owed) ∙ w))
          by form.Memory w = absurd w

      -- or it comes behind what is listed
      pub goes_on : (n : ℕ) (a : Amount) → n ≡ l.next + 2048
          → ((ws : List Owed) → IsAmount ws l.amount → Counted (Ok a) (ws ++ more))
          → l.more ≡ true
          → GoesOn l (moved l n r.more a)
          × (listed_of (moved l n r.more a) ≡ listed_of l ++ more)
          × (l.next < length (places_of u p))
          × (l.next < n)
      goes_on n a e k t =
          let both = goes_further 2048 more range.fine range.owed n r.more a e
          (k (listed_of l) is.amount) range.more in (
            both.0,
            both.1,
            below l.next (length (places_of u p)) (sym is.more ∙ t),
            subst (λ (j : ℕ). l.next < j) (sym e) (further l.next),
          )

    -- a stripe comes behind what is listed
    pub passes : (s : Stripe) → IsStripe u p s → s.skip ≡ l.next → 0 < s.places
        → (n : ℕ) (a : Amount) → n ≡ l.next + s.places
        → IsAmount (listed_of l ++ owed_in u p s) a
        → HasPassed s l (moved l n s.more a)
    passes s stripe at some n a e counted =
        let here = λ (k : ℕ). claims_between u p k s.places in
        let both = goes_further s.places (owed_in u p s)
        (ap (λ k. first_fault u p [] (here k)) (sym at) ∙ stripe.fine)
        (ap (λ k. owed_for_all u p (here k)) at) n s.more a e counted
        (stripe.more some ∙ ap (λ k. has_more u p k s.places) at) in
        record {
          goes = both.0;
          listed = both.1;
          whole = whole law (moved l n s.more a) both.0.listed;
        }

-- ---- what is told of the claims of some places
module _ (l : Listing) (is : IsListed l) (n c : ℕ) where
  pub told_claims : (r : Result Part AllocError)
      → IfOk r (λ x. map placed x.claims.items ≡ unit_claims_between (unit_of l) l.number.0 n c)
      → IfOk r (λ x. map placed x.claims.items ≡ claims_between (unit_of l) (proc_of l) n c)
  told_claims (Ok x) h = claims_are l is n c (map placed x.claims.items) h
  told_claims (Err e) h = tt

  pub told_more : (r : Result Part AllocError)
      → IfOk r (λ x. x.more ≡ unit_has_more (unit_of l) l.number.0 n c)
      → IfOk r (λ x. x.more ≡ has_more (unit_of l) (proc_of l) n c)
  told_more (Ok x) h = more_are l is n c x.more h
  told_more (Err e) h = tt
