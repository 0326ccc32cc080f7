-- Runs that give something, in parts.
use Rattle.std.proofs.Common.{◌≡◌, Option, Some, None, option_map, refl, subst}
use Rattle.exo_meaning.specs.Scene.{then_do}
use Rattle.exo_meaning.specs.Refines.{Both}

pub none_some : {A : Type 0} {a : A} → None ≡ Some a → ⊥
none_some e = cc

pub some_injective : {A : Type 0} (a b : A) → Some a ≡ Some b → a ≡ b
some_injective a b e = cc

pub then_gives : {A B : Type 0} (o : Option A) (f : A → Option B) (b : B) → then_do o f ≡ Some b → (a : A) × (o ≡ Some a) × (f a ≡ Some b)
then_gives None f b e = absurd (none_some e)
then_gives (Some a) f b e = (a, refl, e)

pub map_gives : {A B : Type 0} (o : Option A) (f : A → B) (b : B) → option_map f o ≡ Some b → (a : A) × (o ≡ Some a) × (f a ≡ b)
map_gives None f b e = absurd (none_some e)
map_gives (Some a) f b e = (a, refl, some_injective (f a) b e)

pub both_some : {A B : Type 0} (R : A → B → Type 0) (o : Option A) (p : Option B) (a : A) (b : B) → o ≡ Some a → p ≡ Some b → Both R o p → R a b
both_some R o p a b i j h = subst (λ q. Both R (Some a) q) j (subst (λ q. Both R q p) i h)

pub both_back : {A B : Type 0} (R : A → B → Type 0) (o : Option A) (p : Option B) (b : B) → p ≡ Some b → Both R o p → (a : A) × (o ≡ Some a) × R a b
both_back R None p b j h = absurd (subst (λ q. Both R None q) j h)
both_back R (Some a) p b j h = (a, refl, subst (λ q. Both R (Some a) q) j h)

pub both_through : {A B C : Type 0} (R : A → B → Type 0) (S : B → C → Type 0) (U : A → C → Type 0) (o : Option A) (p : Option B) (q : Option C) → ((a : A) (b : B) (c : C) → R a b → S b c → U a c) → Both R o p → Both S p q → Both U o q
both_through R S U None None None k h j = tt
both_through R S U None None (Some c) k h j = absurd j
both_through R S U None (Some b) q k h j = absurd h
both_through R S U (Some a) None q k h j = absurd h
both_through R S U (Some a) (Some b) None k h j = absurd j
both_through R S U (Some a) (Some b) (Some c) k h j = k a b c h j
