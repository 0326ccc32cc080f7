-- Truths of tests in parts.
use Rattle.std.proofs.Common.{◌≡◌, ℕ, ◌==◌, Bool, true, false, true≢false, not, ◌&&◌, ◌||◌, Some, None, refl, sym, ap, ap₂, ◌∙◌, eq-eqb}

pub parts : (a b : Bool) → (a && b) ≡ true → (a ≡ true) × (b ≡ true)
parts true true h = (refl, refl)
parts true false h = (refl, h)
parts false b h = absurd (true≢false (sym h))

pub joined : (a b : Bool) → a ≡ true → b ≡ true → (a && b) ≡ true
joined a b h k = ap₂ ◌&&◌ h k

pub neither : (a b : Bool) → (a || b) ≡ false → (a ≡ false) × (b ≡ false)
neither true b h = absurd (true≢false h)
neither false b h = (refl, h)

pub both_false : (a b : Bool) → a ≡ false → b ≡ false → (a || b) ≡ false
both_false a b h k = ap₂ ◌||◌ h k

pub one_of : (a b : Bool) {P : Type 0} → (a || b) ≡ true → (a ≡ true → P) → (b ≡ true → P) → P
one_of true b h f g = f refl
one_of false b h f g = g h

pub on_left : (a b : Bool) → a ≡ true → (a || b) ≡ true
on_left a b h = ap (λ t. t || b) h

pub on_right : (a b : Bool) → b ≡ true → (a || b) ≡ true
on_right true b h = refl
on_right false b h = h

pub denied : (a : Bool) → not a ≡ true → a ≡ false
denied true h = absurd (true≢false (sym h))
denied false h = refl

pub shown : (a : Bool) → not a ≡ false → a ≡ true
shown true h = refl
shown false h = absurd (true≢false h)

pub not_both : (a : Bool) → a ≡ true → a ≡ false → ⊥
not_both a h k = true≢false (sym h ∙ k)

pub contrary : (a : Bool) → (a ≡ true → ⊥) → a ≡ false
contrary true h = absurd (h refl)
contrary false h = refl

pub self : (x : ℕ) → (x == x) ≡ true
self x = eq-eqb x x refl

pub none_some : {A : Type 0} {a : A} → None ≡ Some a → ⊥
none_some e = cc

pub some_injective : {A : Type 0} (a b : A) → Some a ≡ Some b → a ≡ b
some_injective a b e = cc
