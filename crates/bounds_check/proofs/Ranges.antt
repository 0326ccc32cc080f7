-- What places owe that come one after the other.
use Rattle.std.proofs.Common.{◌≡◌, ℕ, ◌+◌, ◌-◌, nat_lt, true, List, [], ◌++◌}
use Rattle.std.proofs.Common.{take, drop, length, map, flat_map}
use Rattle.std.proofs.Common.{ap, sym, ◌∙◌, arith}
use Rattle.std.proofs.Math.Seq.{take-add}
use Rattle.std.proofs.lemmas.Bool.Decides.{nat_tests}
use Rattle.std.proofs.lemmas.Grind.{flat_map-append}
use Rattle.std.proofs.lemmas.List.{length-drop, drop-drop}
use Rattle.exo_tree.specs.Tree.{Procedure, Program}
use Rattle.affine_systems.specs.Limits.{are_within}
use Rattle.affine_systems.specs.Outcomes.{plain_obligation}
use Rattle.check_claims.specs.Claim.{Placed}
use Rattle.check_claims.specs.Claims.{placed_at}
use Rattle.check_claims.specs.Places.{Place, places_of, claims_between, has_more}
use Rattle.bounds_check.specs.Obligations.{owed_for_all, first_fault}
use Rattle.bounds_check.specs.Parts.{IsRange}
use Rattle.bounds_check.specs.declared.listing.Range.{Range}
use Rattle.bounds_check.proofs.Chunks.{IsOwedFor, joined_owed}

further_both : (n c d len : ℕ) → nat_lt d (len - (n + c)) ≡ nat_lt (c + d) (len - n)
further_both n c d len = grind (arith, nat_tests)

module _ (u : Program) (p : Procedure) (n c d : ℕ) where
  abbrev places : List Place
  places = places_of u p

  abbrev claims : List Place → List Placed
  claims is = flat_map (λ i. placed_at i.0 i.1) is

  -- the claims of both
  pub both_claims : claims_between u p n c ++ claims_between u p (n + c) d
      ≡ claims_between u p n (c + d)
  both_claims =
      ap (λ is. claims_between u p n c ++ claims (take d is)) (sym (drop-drop c n places))
      ∙ sym (flat_map-append (λ (i : Place). placed_at i.0 i.1) (take c (drop n places))
      (take d (drop c (drop n places))))
      ∙ ap claims (sym (take-add c d (drop n places)))

  pub both_more : has_more u p (n + c) d ≡ has_more u p n (c + d)
  both_more =
      ap (nat_lt d) (length-drop (n + c) places)
      ∙ further_both n c d (length places)
      ∙ ap (nat_lt (c + d)) (sym (length-drop n places))

  pub both_ranges : (a b r : Range) → IsRange u p n c a → IsRange u p (n + c) d b
      → map plain_obligation r.owed.items
      ≡ map plain_obligation a.owed.items ++ map plain_obligation b.owed.items
      → are_within (map plain_obligation r.owed.items) ≡ true
      → r.more ≡ b.more
      → IsRange u p n (c + d) r
  both_ranges a b r x y owed within more = record {
    fine = ap (first_fault u p []) (sym both_claims) ∙ together.0;
    owed = owed ∙ together.1 ∙ ap (owed_for_all u p) both_claims;
    more = more ∙ y.more ∙ both_more;
  }
    where
      together : IsOwedFor u p
          (map plain_obligation a.owed.items ++ map plain_obligation b.owed.items)
          (claims_between u p n c ++ claims_between u p (n + c) d)
      together =
          joined_owed u p (map plain_obligation a.owed.items) (map plain_obligation b.owed.items)
          (claims_between u p n c) (claims_between u p (n + c) d) (x.fine, x.owed) (y.fine, y.owed)
          (ap are_within (sym owed) ∙ within)
