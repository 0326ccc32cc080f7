-- Equal arguments.
use Rattle.std.proofs.Common.{◌≡◌}

pub two : {A B C : Type 0} (f : A → B → C) {a x : A} {b y : B} → a ≡ x → b ≡ y → f a b ≡ f x y
two f p q = λ i. f (p i) (q i)

pub three : {A B C D : Type 0} (f : A → B → C → D) {a x : A} {b y : B} {c z : C} → a ≡ x → b ≡ y → c ≡ z → f a b c ≡ f x y z
three f p q r = λ i. f (p i) (q i) (r i)
