-- Ids that are put into a set one after another.
use Rattle.std.proofs.Common.{◌≡◌, ◌||◌, ℕ, Bool, true, false, refl, ◌∙◌}

later : (a b c : Bool) → b || (a || c) ≡ (a || b) || c
later true true c = refl
later true false c = refl
later false b c = refl

pub joined : (f g s t : ℕ → Bool) → ◌≡◌ {A = ℕ → Bool} t (λ y. f y || s y) → ◌≡◌ {A = ℕ → Bool} (λ y. g y || t y) (λ y. (f y || g y) || s y)
joined f g s t e =
    let first : ◌≡◌ {A = ℕ → Bool} (λ y. g y || t y) (λ y. g y || (f y || s y)) = λ i y. g y || e i y in
    let second : ◌≡◌ {A = ℕ → Bool} (λ y. g y || (f y || s y)) (λ y. (f y || g y) || s y) = λ i y. later (f y) (g y) (s y) i in
    first ∙ second

or_false : (a : Bool) → a || false ≡ a
or_false true = refl
or_false false = refl

pub alone : (f : ℕ → Bool) → ◌≡◌ {A = ℕ → Bool} (λ y. f y || false) f
alone f = λ i y. or_false (f y) i
