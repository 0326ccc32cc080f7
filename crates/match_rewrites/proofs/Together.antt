-- Two blocks walked together, a statement of each at a time.
use Rattle.std.proofs.Common.{◌≡◌, ℕ, zero, suc, ◌+◌, ◌≤◌, min, Bool, true, false, ◌||◌}
use Rattle.std.proofs.Common.{List, [], ◌∷◌, Option, length, drop, refl, sym, ap, ap₂, ◌∙◌, arith}
use Rattle.exo_tree.specs.Tree.{Argument, Statement, Block, end, next, block}
use Rattle.call_laws.specs.Replace.Rule.{hands_on_in, hands_wholes}

module _ (given : ℕ → Option Argument) where
  abbrev handed : List Statement → List Statement → Bool
  handed xs ys = hands_wholes given (block xs) (block ys)

  -- what is before says nothing
  abbrev pub Says : List Statement → List Statement → ℕ → Type 0
  Says xs ys k = handed xs ys ≡ handed (drop k xs) (drop k ys)

  hands_none : (b : Block) → hands_wholes given b end ≡ false
  hands_none end = refl
  hands_none (next a b) = refl

  none_left : (xs ys : List Statement) (k : ℕ) → min (length xs) (length ys) ≤ k
      → handed (drop k xs) (drop k ys) ≡ false
  none_left [] ys zero h = refl
  none_left [] ys (suc k) h = refl
  none_left (x ∷ xs) [] zero h = refl
  none_left (x ∷ xs) [] (suc k) h = hands_none (block (drop k xs))
  none_left (x ∷ xs) (y ∷ ys) zero h = absurd (omega (arith, h))
  none_left (x ∷ xs) (y ∷ ys) (suc k) h = none_left xs ys k (omega (arith, h))

  opened : (xs ys : List Statement) (k : ℕ) (s t : Statement) (here : Bool)
      → Says xs ys k
      → drop k xs ≡ s ∷ drop (k + 1) xs
      → drop k ys ≡ t ∷ drop (k + 1) ys
      → here ≡ hands_on_in given s t
      → handed xs ys ≡ (here || handed (drop (k + 1) xs) (drop (k + 1) ys))
  opened xs ys k s t here so h l is =
      so ∙ ap₂ handed h l
      ∙ ap (λ b. b || handed (drop (k + 1) xs) (drop (k + 1) ys)) (sym is)

  pub one_hands : (xs ys : List Statement) (k : ℕ) (s t : Statement)
      → Says xs ys k
      → drop k xs ≡ s ∷ drop (k + 1) xs
      → drop k ys ≡ t ∷ drop (k + 1) ys
      → true ≡ hands_on_in given s t
      → true ≡ handed xs ys
  one_hands xs ys k s t so h l is = sym (opened xs ys k s t true so h l is)

  pub one_more : (xs ys : List Statement) (k : ℕ) (s t : Statement)
      → Says xs ys k
      → drop k xs ≡ s ∷ drop (k + 1) xs
      → drop k ys ≡ t ∷ drop (k + 1) ys
      → false ≡ hands_on_in given s t
      → Says xs ys (k + 1)
  one_more xs ys k s t so h l is = opened xs ys k s t false so h l is

  pub none_hands : (xs ys : List Statement) (k : ℕ)
      → Says xs ys k
      → min (length xs) (length ys) ≤ k
      → false ≡ handed xs ys
  none_hands xs ys k so h = sym (so ∙ none_left xs ys k h)
