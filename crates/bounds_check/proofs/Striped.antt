-- How the places of a stripe go on.
use Rattle.std.proofs.Common.{◌≡◌, ℕ, ◌+◌, ◌<◌, Bool, List, [], ◌++◌, None, refl, ap, sym, ◌∙◌}
use Rattle.std.proofs.Common.{subst}
use Rattle.exo_tree.specs.Tree.{Procedure, Program}
use Rattle.affine_systems.specs.Amounts.{IsAmount}
use Rattle.affine_systems.specs.Outcomes.{Owed}
use Rattle.affine_systems.specs.declared.amount.Amount.{Amount}
use Rattle.check_claims.specs.Claim.{Placed}
use Rattle.check_claims.specs.Places.{claims_between, has_more}
use Rattle.bounds_check.specs.Obligations.{owed_for_all, first_fault}
use Rattle.bounds_check.specs.Parts.{GoesFurther, IsStripe, owed_in}
use Rattle.bounds_check.specs.declared.stripe.Stripe.{Stripe}
use Rattle.bounds_check.proofs.Chunks.{IsOwedFor, joined_owed}
use Rattle.bounds_check.proofs.Ranges.{both_claims, both_more}

module _ (u : Program) (p : Procedure) (s : Stripe) (is : IsStripe u p s) where
  abbrev moved : ℕ → Bool → Amount → Stripe
  moved n m a = record { skip = s.skip; places = n; more = m; amount = a }

  abbrev here : ℕ → List Placed
  here k = claims_between u p s.skip k

  -- so many places come behind those, and owe that
  pub further : (c : ℕ) (os : List Owed)
      → first_fault u p [] (claims_between u p (s.skip + s.places) c) ≡ None
      → os ≡ owed_for_all u p (claims_between u p (s.skip + s.places) c)
      → (n : ℕ) (m : Bool) (a : Amount)
      → n ≡ s.places + c
      → IsAmount (owed_in u p s ++ os) a
      → m ≡ has_more u p (s.skip + s.places) c
      → GoesFurther u p s (moved n m a) c os
  further c os fine owed n m a e counted more = record {
    stripe = record {
      fine = ap (λ k. first_fault u p [] (here k)) e ∙ both.0;
      amount = subst (λ ws. IsAmount ws a) listed counted;
      more = λ some. more ∙ both_more u p s.skip s.places c ∙ ap (has_more u p s.skip) (sym e);
    };
    skip = refl;
    places = e;
    owed = sym listed;
  }
    where
      both : IsOwedFor u p (owed_in u p s ++ os) (here (s.places + c))
      both =
          subst (IsOwedFor u p (owed_in u p s ++ os)) (both_claims u p s.skip s.places c)
          (joined_owed u p (owed_in u p s) os (here s.places)
          (claims_between u p (s.skip + s.places) c) (is.fine, refl) (fine, owed) counted.within)

      listed : owed_in u p s ++ os ≡ owed_for_all u p (here n)
      listed = both.1 ∙ ap (λ k. owed_for_all u p (here k)) (sym e)

-- those of another stripe do
pub appends : (u : Program) (p : Procedure) (s t : Stripe) (n : ℕ) (a : Amount)
    → IsStripe u p s
    → IsStripe u p t
    → t.skip ≡ s.skip + s.places
    → 0 < t.places
    → n ≡ s.places + t.places
    → IsAmount (owed_in u p s ++ owed_in u p t) a
    → GoesFurther u p s (record { skip = s.skip; places = n; more = t.more; amount = a }) t.places
    (owed_in u p t)
appends u p s t n a is other at some e counted =
    further u p s is t.places (owed_in u p t)
    (ap (λ k. first_fault u p [] (claims_between u p k t.places)) (sym at) ∙ other.fine)
    (ap (λ k. owed_for_all u p (claims_between u p k t.places)) at) n t.more a e counted
    (other.more some ∙ ap (λ k. has_more u p k t.places) at)
