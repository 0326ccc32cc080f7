-- The claims of pairs of parameters, one after the other.
use Rattle.std.proofs.Common.{◌≡◌, ℕ, suc, ◌+◌, ◌≤◌, Bool, if◌then◌else◌, min, List, [], ◌∷◌, ◌++◌, length, drop, refl, ap, ◌∙◌, add-one}
use Rattle.exo_tree.specs.Tree.{Param, Argument}
use Rattle.affine_places.specs.Roots.{Roots}
use Rattle.check_claims.specs.Claim.{Claim, Apart}
use Rattle.check_claims.specs.Claims.{must_be_apart, pairs_with, pair_claims}
use Rattle.check_claims.proofs.Pairs.{numbered_on, numbered_off}

module _ (roots : Roots) (writes : ℕ → Bool) where
  module _ (j : ℕ) (p : Param) (a : Argument) where
    abbrev with_it : ℕ → List Param → List Argument → List Claim
    with_it = pairs_with roots writes j p a

    abbrev pub one_pair : ℕ → Param → Argument → List Claim
    one_pair k q b = if must_be_apart roots writes p a q b then Apart j k ∷ [] else []

    nothing_with : (k : ℕ) (qs : List Param) → with_it k qs [] ≡ []
    nothing_with k [] = refl
    nothing_with k (q ∷ qs) = refl

    -- with one parameter more
    pub with_on : (out new whole : List Claim) (k : ℕ) (q : Param) (b : Argument) (qs more : List Param) (args rest : List Argument)
        → qs ≡ q ∷ more → args ≡ b ∷ rest → new ≡ out ++ one_pair k q b → out ++ with_it k qs args ≡ whole
        → new ++ with_it (k + 1) more rest ≡ whole
    with_on = numbered_on with_it (λ k q b qs args. one_pair k q b) (λ k q b qs args. refl) (λ k args. refl) nothing_with

    pub with_off : (out whole : List Claim) (n : ℕ) (qs : List Param) (args : List Argument) (k : ℕ)
        → min (length qs) (length args) ≤ k → out ++ with_it n (drop k qs) (drop k args) ≡ whole → out ≡ whole
    with_off = numbered_off with_it (λ k q b qs args. one_pair k q b) (λ k q b qs args. refl) (λ k args. refl) nothing_with

  abbrev pairs : ℕ → List Param → List Argument → List Claim
  pairs = pair_claims roots writes

  abbrev later : ℕ → Param → Argument → List Param → List Argument → List Claim
  later j p a = pairs_with roots writes j p a (suc j)

  nothing_passed : (j : ℕ) (ps : List Param) → pairs j ps [] ≡ []
  nothing_passed j [] = refl
  nothing_passed j (p ∷ ps) = refl

  -- those of one parameter more
  pub pairs_on : (out new whole : List Claim) (j : ℕ) (p : Param) (a : Argument) (ps more : List Param) (args rest : List Argument)
      → ps ≡ p ∷ more → args ≡ a ∷ rest → new ≡ out ++ pairs_with roots writes j p a (j + 1) more rest
      → out ++ pairs j ps args ≡ whole → new ++ pairs (j + 1) more rest ≡ whole
  pairs_on out new whole j p a ps more args rest d e h =
      numbered_on pairs later (λ k q b qs args. refl) (λ k args. refl) nothing_passed out new whole j p a ps more args rest d e
      (h ∙ ap (λ n. out ++ pairs_with roots writes j p a n more rest) (add-one j))

  pub pairs_off : (out whole : List Claim) (n : ℕ) (ps : List Param) (args : List Argument) (j : ℕ)
      → min (length ps) (length args) ≤ j → out ++ pairs n (drop j ps) (drop j args) ≡ whole → out ≡ whole
  pairs_off = numbered_off pairs later (λ k q b qs args. refl) (λ k args. refl) nothing_passed
