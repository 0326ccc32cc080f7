-- What is shown of stripes, one behind the other.
use Rattle.std.proofs.Common.{◌≡◌, ℕ, ◌+◌, ◌*◌, ◌<◌, List, [], ◌∷◌, ◌++◌, false, Result, Ok, Err}
use Rattle.std.proofs.Common.{refl, ap, sym, ◌∙◌, subst, arith}
use Rattle.std.specs.Prelude.{IfOk, fold}
use Rattle.exo_tree.specs.Tree.{Procedure, Program}
use Rattle.affine_forms.specs.Affine.{Constraints}
use Rattle.affine_prover.specs.declared.answer.Verdict.{Verdict}
use Rattle.affine_systems.specs.Outcomes.{Owed}
use Rattle.ob_check.specs.Entries.{asked}
use Rattle.ob_check.specs.Held.{held}
use Rattle.ob_check.specs.Parts.{AreTaken}
use Rattle.ob_check.specs.declared.cache.Cache.{Cache}
use Rattle.ob_check.specs.declared.parts.Parts.{Parts}
use Rattle.check_claims.specs.Places.{claims_between}
use Rattle.bounds_check.specs.Obligations.{owed_for_all}
use Rattle.bounds_check.specs.Parts.{GoesFurther, HasPassed, IsStripe, owed_in}
use Rattle.bounds_check.specs.Parts.{listed_of, owed_before, proc_of, unit_of}
use Rattle.bounds_check.specs.declared.listing.Listing.{Listing}
use Rattle.bounds_check.specs.declared.stripe.Stripe.{Stripe}
use Rattle.unit_check.specs.Cached.{systems_in}
use Rattle.unit_check.specs.Parts.{AreAllTaken, AreShown, IsShown}
use Rattle.unit_check.specs.declared.refused.Why.{Why}
use Rattle.unit_check.specs.declared.showing.Showing.{Showing}
use Rattle.unit_check.specs.declared.stripes.Shown.{Shown}
use Rattle.unit_check.proofs.Taking.{whole}

module _ (u : Program) (p : Procedure) where
  -- the places of a stripe so far, over a cache that is empty
  pub record IsSoFar (skip places : ℕ) (s : Stripe) (c : Cache) (x : Showing) : Type 0 where
    pub stripe : IsStripe u p s
    pub skip_is : s.skip ≡ skip
    pub places_are : s.places ≡ places
    pub shown : AreShown [] (owed_in u p s) c x

  pub begun : (skip : ℕ) (s : Stripe) (c : Cache) (x : Showing)
      → IsStripe u p s
      → s.skip ≡ skip
      → s.places ≡ 0
      → held c ≡ []
      → ((d : Cache) → AreShown (held d) [] d x)
      → IsSoFar skip 0 s c x
  begun skip s c x stripe at none empty nothing = record {
    stripe = stripe;
    skip_is = at;
    places_are = none;
    shown =
        subst (λ ws. AreShown [] ws c x)
        (sym (ap (λ n. owed_for_all u p (claims_between u p s.skip n)) none))
        (subst (λ es. AreShown es [] c x) empty (nothing c));
  }

  pub one_more : (skip places more : ℕ) (s t : Stripe) (c d : Cache) (x y : Showing) (os : List Owed)
      → IsSoFar skip places s c x
      → GoesFurther u p s t more os
      → ((es : List (Constraints × Verdict)) (ws : List Owed)
      → AreShown es ws c x
      → AreShown es (ws ++ os) d y)
      → IsSoFar skip (places + more) t d y
  one_more skip places more s t c d x y os was goes takes = record {
    stripe = goes.stripe;
    skip_is = goes.skip ∙ was.skip_is;
    places_are = goes.places ∙ ap (λ n. n + more) was.places_are;
    shown =
        subst (λ ws. AreShown [] ws d y) (sym goes.owed) (takes [] (owed_in u p s) was.shown);
  }

  pub all_parts : (skip places : ℕ) (s : Stripe) (c : Cache) (x : Showing)
      → IsSoFar skip places s c x
      → IsShown u p skip places (record { stripe = s; showing = x })
  all_parts skip places s c x h = record {
    stripe = h.stripe;
    skip_is = h.skip_is;
    places_are = h.places_are;
    shown = (c, h.shown);
  }

  -- a stripe behind another
  pub both_shown : (n c d : ℕ) (x y z : Shown)
      → IsShown u p n c x
      → IsShown u p (n + c) d y
      → 0 < d
      → (y.stripe.skip ≡ x.stripe.skip + x.stripe.places
      → 0 < y.stripe.places
      → GoesFurther u p x.stripe z.stripe y.stripe.places (owed_in u p y.stripe))
      → ((os ps : List Owed) (e f : Cache)
      → AreShown [] os e x.showing
      → AreShown [] ps f y.showing
      → AreShown [] (os ++ ps) e z.showing)
      → IsShown u p n (c + d) z
  both_shown n c d x y z h k some goes shows =
      let here : y.stripe.skip ≡ x.stripe.skip + x.stripe.places =
      omega (arith, h.skip_is, h.places_are, k.skip_is) in
      let on = goes here (omega (arith, some, k.places_are)) in
      record {
        stripe = on.stripe;
        skip_is = on.skip ∙ h.skip_is;
        places_are = omega (arith, on.places, h.places_are, k.places_are);
        shown = (
          h.shown.0,
          subst (λ ws. AreShown [] ws h.shown.0 z.showing) (sym on.owed)
              (shows (owed_in u p x.stripe) (owed_in u p y.stripe) h.shown.0 k.shown.0 h.shown.1
              k.shown.1),
        );
      }

  -- some stripes behind others
  pub both_halves : (from low high count : ℕ) (x y z : Shown)
      → low + high ≡ count
      → 0 < high
      → IsShown u p (from * 4096) (low * 4096) x
      → IsShown u p ((from + low) * 4096) (high * 4096) y
      → ((n c d : ℕ)
      → IsShown u p n c x
      → IsShown u p (n + c) d y
      → 0 < d
      → IsShown u p n (c + d) z)
      → IsShown u p (from * 4096) (count * 4096) z
  both_halves from low high count x y z are some h k joined =
      let behind : (from + low) * 4096 ≡ from * 4096 + low * 4096 = omega arith in
      let all : low * 4096 + high * 4096 ≡ count * 4096 = omega (arith, are) in
      subst (λ n. IsShown u p (from * 4096) n z) all
      (joined (from * 4096) (low * 4096) (high * 4096) h
      (subst (λ n. IsShown u p n (high * 4096) y) behind k) (omega (arith, some)))

-- ---- all of a procedure

nothing_asked : (ss : List Constraints) → fold asked [] ss ≡ []
nothing_asked [] = refl
nothing_asked (s ∷ ss) = nothing_asked ss

elsewhere : (r : Result (Unit {0}) Why) (ss : List Constraints) (c d : Cache) (p : Parts)
    → held d ≡ []
    → IfOk r (λ _. AreTaken [] ss c p)
    → IfOk r (λ _. AreTaken [] ss d p)
elsewhere (Ok t) ss c d p none h = record {
  looked_up = none ∙ sym (nothing_asked ss);
  pending = h.pending;
  count = h.count;
  exact = h.exact;
  shown = h.shown;
}
elsewhere (Err w) ss c d p none h = tt

-- what is shown over an empty cache is shown over each empty one
over_another : (os : List Owed) (c d : Cache) (s : Showing)
    → held d ≡ []
    → AreShown [] os c s
    → AreShown [] os d s
over_another os c d s none h = record {
  exact = h.exact;
  taken = elsewhere s.found (systems_in os) c d s.parts none h.taken;
}

pub all_shown : (l m : Listing) (k n : ℕ) (x : Shown)
    → l.next ≡ 0
    → IsShown (unit_of l) (proc_of l) k n x
    → HasPassed x.stripe l m
    → x.stripe.more ≡ false
    → (c : Cache)
    → held c ≡ []
    → AreAllTaken [] l m c x.showing
all_shown l m k n x begins shown passed none c empty =
    let is = whole l m passed.goes (passed.whole none) in
    let nothing : listed_of l ≡ [] =
    ap (λ (k : ℕ). owed_before (unit_of l) (proc_of l) k) begins in
    let all : listed_of m ≡ owed_in (unit_of l) (proc_of l) x.stripe =
    passed.listed ∙ ap (λ os. os ++ owed_in (unit_of l) (proc_of l) x.stripe) nothing in
    record {
      goes = passed.goes;
      none = is.0;
      owed = is.1;
      shown =
          subst (λ os. AreShown [] os c x.showing) (sym all)
          (over_another (owed_in (unit_of l) (proc_of l) x.stripe) shown.shown.0 c x.showing empty
          shown.shown.1);
    }

-- over the cache of the unit
pub over_empty : (l m : Listing) (c : Cache) (s : Showing)
    → held c ≡ []
    → ((d : Cache) → held d ≡ [] → AreAllTaken [] l m d s)
    → AreAllTaken (held c) l m c s
over_empty l m c s none h = subst (λ es. AreAllTaken es l m c s) (sym none) (h c none)
