-- What several appends leave.
use Rattle.std.proofs.Common.{◌≡◌, ℕ, List, ◌++◌, ap, ◌∙◌, append_assoc}

-- one more text after o and a
pub more : (o a b p t : List ℕ) → p ≡ o ++ a → t ≡ p ++ b → t ≡ o ++ (a ++ b)
more o a b p t h i = i ∙ ap (λ x. x ++ b) h ∙ append_assoc o a b

pub three : (o a b c p q t : List ℕ) → p ≡ o ++ a → q ≡ p ++ b → t ≡ q ++ c → t ≡ o ++ (a ++ b ++ c)
three o a b c p q t h i j = more o (a ++ b) c q t (more o a b p q h i) j

pub four : (o a b c d p q r t : List ℕ) → p ≡ o ++ a → q ≡ p ++ b → r ≡ q ++ c → t ≡ r ++ d → t ≡ o ++ (a ++ b ++ c ++ d)
four o a b c d p q r t h i j k = more o (a ++ b ++ c) d r t (three o a b c p q r h i j) k

pub five : (o a b c d e p q r s t : List ℕ) → p ≡ o ++ a → q ≡ p ++ b → r ≡ q ++ c → s ≡ r ++ d → t ≡ s ++ e → t ≡ o ++ (a ++ b ++ c ++ d ++ e)
five o a b c d e p q r s t h i j k l = more o (a ++ b ++ c ++ d) e s t (four o a b c d p q r s h i j k) l

-- seven texts from nothing on
pub whole : (a r b p s f g o1 o2 o3 o4 o5 o6 o7 : List ℕ) → o1 ≡ a → o2 ≡ o1 ++ r → o3 ≡ o2 ++ b → o4 ≡ o3 ++ p → o5 ≡ o4 ++ s → o6 ≡ o5 ++ f → o7 ≡ o6 ++ g → o7 ≡ a ++ r ++ b ++ p ++ s ++ f ++ g
whole a r b p s f g o1 o2 o3 o4 o5 o6 o7 h i j k l m n =
    let front : o5 ≡ a ++ r ++ b ++ p ++ s = l ∙ ap (λ x. x ++ s) (k ∙ ap (λ x. x ++ p) (j ∙ ap (λ x. x ++ b) (i ∙ ap (λ x. x ++ r) h))) in
    n ∙ ap (λ x. x ++ g) (m ∙ ap (λ x. x ++ f) front)
