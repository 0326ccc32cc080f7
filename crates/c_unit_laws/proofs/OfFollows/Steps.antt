-- Steps that follow each other.
use Rattle.std.proofs.Common.{◌≡◌, Bool, true, Option, Some, None, option_map, refl, sym, subst}
use Rattle.exo_meaning.specs.Scene.{then_do}
use Rattle.c_unit_laws.specs.Follows.Machine.Machine.{Outcome, Done, Fault, NoStore, after}
use Rattle.c_unit_laws.specs.Follows.Machine.Machine.{where_good}
use Rattle.c_unit_laws.specs.Follows.Simulation.{Follows}

-- ---- what is done

pub done_is : {A : Type 0} {a b : A} → Done a ≡ Done b → a ≡ b
done_is e = cc

pub fault_is_not_done : {A : Type 0} {a : A} → Fault ≡ Done a → ⊥
fault_is_not_done e = cc

pub no_store_is_not_done : {A : Type 0} {a : A} → NoStore ≡ Done a → ⊥
no_store_is_not_done e = cc

-- ---- one after the other

module _ (Few : Type 0) where
  pub nothing : {C D : Type 0} (S : C → D → Type 0) (o : Option C) → (Few → ⊥) → Follows Few S o NoStore
  nothing S None h = tt
  nothing S (Some c) h = h

  pub follows_then : {A B C D : Type 0} (R : A → B → Type 0) (S : C → D → Type 0) (o : Option A) (p : Outcome B) (f : A → Option C) (g : B → Outcome D) → Follows Few R o p → ((a : A) (b : B) → o ≡ Some a → R a b → Follows Few S (f a) (g b)) → Follows Few S (then_do o f) (after p g)
  follows_then R S None p f g h k = tt
  follows_then R S (Some a) (Done b) f g h k = k a b refl h
  follows_then R S (Some a) Fault f g h k = absurd h
  follows_then R S (Some a) NoStore f g h k = nothing S (f a) h

  pub follows_map : {A B C D : Type 0} (R : A → B → Type 0) (S : C → D → Type 0) (o : Option A) (p : Outcome B) (f : A → C) (g : B → D) → Follows Few R o p → ((a : A) (b : B) → R a b → S (f a) (g b)) → Follows Few S (option_map f o) (after p (λ b. Done (g b)))
  follows_map R S None p f g h k = tt
  follows_map R S (Some a) (Done b) f g h k = k a b h
  follows_map R S (Some a) Fault f g h k = absurd h
  follows_map R S (Some a) NoStore f g h k = h

  -- what is done for sure
  pub follows_done : {A B D : Type 0} (S : A → D → Type 0) (o : Option A) (p : Outcome B) (b : B) (g : B → Outcome D) → p ≡ Done b → Follows Few S o (g b) → Follows Few S o (after p g)
  follows_done S o p b g h k = subst (λ x. Follows Few S o (after x g)) (sym h) k

  pub follows_none : {A B : Type 0} (R : A → B → Type 0) (o : Option A) (p : Outcome B) → o ≡ None → Follows Few R o p
  follows_none R o p h = subst (λ x. Follows Few R x p) (sym h) tt

  pub follows_both : {A B : Type 0} (R : A → B → Type 0) (o : Option A) (p : Outcome B) (a : A) (b : B) → o ≡ Some a → p ≡ Done b → R a b → Follows Few R o p
  follows_both R o p a b h k r = subst (λ x. Follows Few R x p) (sym h) (subst (λ y. Follows Few R (Some a) y) (sym k) r)

  pub follows_weaken : {A B : Type 0} (R S : A → B → Type 0) (o : Option A) (p : Outcome B) → Follows Few R o p → ((a : A) (b : B) → R a b → S a b) → Follows Few S o p
  follows_weaken R S None p h k = tt
  follows_weaken R S (Some a) (Done b) h k = k a b h
  follows_weaken R S (Some a) Fault h k = h
  follows_weaken R S (Some a) NoStore h k = h

  -- a test that holds of what is related
  pub follows_good : {A B : Type 0} (R : A → B → Type 0) (test : B → Bool) (o : Option A) (p : Outcome B) → Follows Few R o p → ((a : A) (b : B) → R a b → test b ≡ true) → Follows Few R o (after p (λ b. where_good (test b) (Done b)))
  follows_good R test None p h k = tt
  follows_good R test (Some a) (Done b) h k = subst (λ t. Follows Few R (Some a) (where_good t (Done b))) (sym (k a b h)) h
  follows_good R test (Some a) Fault h k = h
  follows_good R test (Some a) NoStore h k = h
