-- Lists of arguments, by their items.
use Rattle.std.proofs.Common.{◌≡◌, ◌-◌, ◌≤◌, ◌<◌, List, [], ◌∷◌, refl, sym, ap, ap₂, ◌∙◌}
use Rattle.std.proofs.Common.{length, get_or, take, drop, arith}
use Rattle.schedule_text.specs.declared.source.ArgText.{ArgText}

pub no_item : (args : List ArgText) → length args < 1 → args ≡ []
no_item [] few = refl
no_item (x ∷ l) few = absurd (omega (arith, few))

pub one_item : (args : List ArgText) (a : ArgText) → 1 ≤ length args → length args < 2
    → a ≡ get_or args 0 a → args ≡ a ∷ []
one_item [] a few many p = absurd (omega (arith, few))
one_item (x ∷ []) a few many p = ap (λ u. u ∷ []) (sym p)
one_item (x ∷ y ∷ l) a few many p = absurd (omega (arith, many))

pub two_items : (args : List ArgText) (a b : ArgText) → 2 ≤ length args → length args < 3
    → a ≡ get_or args 0 a → b ≡ get_or args 1 b → args ≡ a ∷ b ∷ []
two_items [] a b few many p q = absurd (omega (arith, few))
two_items (x ∷ []) a b few many p q = absurd (omega (arith, few))
two_items (x ∷ y ∷ []) a b few many p q = ap₂ (λ u v. u ∷ v ∷ []) (sym p) (sym q)
two_items (x ∷ y ∷ z ∷ l) a b few many p q = absurd (omega (arith, many))

pub three_items : (args : List ArgText) (a b c : ArgText) → 3 ≤ length args → length args < 4
    → a ≡ get_or args 0 a → b ≡ get_or args 1 b → c ≡ get_or args 2 c → args ≡ a ∷ b ∷ c ∷ []
three_items [] a b c few many p q r = absurd (omega (arith, few))
three_items (x ∷ []) a b c few many p q r = absurd (omega (arith, few))
three_items (x ∷ y ∷ []) a b c few many p q r = absurd (omega (arith, few))
three_items (x ∷ y ∷ z ∷ []) a b c few many p q r = sym (λ i. p i ∷ q i ∷ r i ∷ [])
three_items (x ∷ y ∷ z ∷ u ∷ l) a b c few many p q r = absurd (omega (arith, many))

taken_all : (xs : List ArgText) → take (length xs) xs ≡ xs
taken_all [] = refl
taken_all (y ∷ xs) = ap (λ l. y ∷ l) (taken_all xs)

pub first_and_rest : (args : List ArgText) (a : ArgText) → 1 ≤ length args → a ≡ get_or args 0 a
    → args ≡ a ∷ take (length args - 1) (drop 1 args)
first_and_rest [] a few h = absurd (omega (arith, few))
first_and_rest (x ∷ l) a few h =
    let count : length (x ∷ l) - 1 ≡ length l = omega arith in
    let all : take (length (x ∷ l) - 1) l ≡ l = ap (λ n. take n l) count ∙ taken_all l in
    sym ((λ i. h i ∷ take (length (x ∷ l) - 1) l) ∙ ap (λ m. x ∷ m) all)

pub two_and_rest : (args : List ArgText) (a b : ArgText) → 2 ≤ length args
    → a ≡ get_or args 0 a → b ≡ get_or args 1 b
    → args ≡ a ∷ b ∷ take (length args - 2) (drop 2 args)
two_and_rest [] a b few p q = absurd (omega (arith, few))
two_and_rest (x ∷ []) a b few p q = absurd (omega (arith, few))
two_and_rest (x ∷ y ∷ l) a b few p q =
    let count : length (x ∷ y ∷ l) - 2 ≡ length l = omega arith in
    let all : take (length (x ∷ y ∷ l) - 2) l ≡ l = ap (λ n. take n l) count ∙ taken_all l in
    sym ((λ i. p i ∷ q i ∷ take (length (x ∷ y ∷ l) - 2) l) ∙ ap (λ m. x ∷ y ∷ m) all)
