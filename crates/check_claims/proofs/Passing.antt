-- What is passed for parameters, one by one; and the first of a list's elements.
use Rattle.std.proofs.Common.{◌≡◌, ℕ, zero, suc, ◌≤◌, ◌<◌, ◌==◌, true, false, if◌then◌else◌, min, List, [], ◌∷◌, length, drop, take, refl, ap, sym, ◌∙◌, arith, Option, Some, None}
use Rattle.std.proofs.lemmas.Bool.Decides.{nat_tests}
use Rattle.std.proofs.lemmas.Grind.{common_steps}
use Rattle.exo_tree.specs.Tree.{Param, Argument}
use Rattle.check_claims.specs.Arguments.{passed_for}

same : (m n : ℕ) → m ≡ n → (m == n) ≡ true
same m n h = grind (arith, nat_tests)

differ : (m n : ℕ) → (m ≡ n → ⊥) → (m == n) ≡ false
differ m n h = grind (arith, nat_tests)

-- it is passed for this parameter
pub passed_here : (x : ℕ) (whole : Option Argument) (p : Param) (a : Argument) (ps more : List Param) (args rest : List Argument) → ps ≡ p ∷ more → args ≡ a ∷ rest → p.binder.id ≡ x → passed_for ps args x ≡ whole → Some a ≡ whole
passed_here x whole p a ps more args rest d e h w =
    ap (λ t. if t then Some a else passed_for more rest x) (sym (same p.binder.id x h)) ∙ (λ i. passed_for (sym d i) (sym e i) x) ∙ w

-- it is passed for a later one
pub passed_later : (x : ℕ) (whole : Option Argument) (p : Param) (a : Argument) (ps more : List Param) (args rest : List Argument) → ps ≡ p ∷ more → args ≡ a ∷ rest → (p.binder.id ≡ x → ⊥) → passed_for ps args x ≡ whole → passed_for more rest x ≡ whole
passed_later x whole p a ps more args rest d e h w =
    ap (λ t. if t then Some a else passed_for more rest x) (sym (differ p.binder.id x h)) ∙ (λ i. passed_for (sym d i) (sym e i) x) ∙ w

nothing_passed : (ps : List Param) (x : ℕ) → passed_for ps [] x ≡ None
nothing_passed [] x = refl
nothing_passed (p ∷ ps) x = refl

-- it is passed for no parameter
pub passed_nowhere : (ps : List Param) (args : List Argument) (k x : ℕ) → min (length ps) (length args) ≤ k → passed_for (drop k ps) (drop k args) x ≡ None
passed_nowhere [] args zero x h = refl
passed_nowhere [] args (suc k) x h = refl
passed_nowhere (p ∷ ps) [] zero x h = refl
passed_nowhere (p ∷ ps) [] (suc k) x h = nothing_passed (drop k ps) x
passed_nowhere (p ∷ ps) (a ∷ args) zero x h = absurd (omega (arith, h))
passed_nowhere (p ∷ ps) (a ∷ args) (suc k) x h = passed_nowhere ps args k x (omega (arith, h))

-- at most so many elements
pub at_most : {X : Type 0} (xs : List X) (n : ℕ) → take (min (length xs) n) xs ≡ take n xs
at_most xs n = grind (arith, common_steps)

-- the element at an index stands before the rest
pub next_of : {X : Type 0} (xs : List X) (k : ℕ) → k < length xs → (x : X) × (drop k xs ≡ x ∷ drop (suc k) xs)
next_of [] k h = absurd (omega (arith, h))
next_of (x ∷ xs) zero h = (x, refl)
next_of (x ∷ xs) (suc k) h = next_of xs k (omega (arith, h))
