-- What is remembered of names.
use Rattle.std.proofs.Common.{◌≡◌, ℕ, zero, suc, ◌==◌, Bool, true, false, if◌then◌else◌, get_or, Some, None, refl, sym, ap, ◌∙◌, subst, eqb-true}
use Rattle.std.specs.Prelude.{replicate}
use Rattle.exo_meaning.specs.Scene.{updated}
use Rattle.memory_kinds.specs.declared.recent.Home.{Home}
use Rattle.memory_kinds.specs.declared.recent.Recent.{Recent}
use Rattle.memory_kinds.specs.Homes.{Homes}
use Rattle.memory_kinds.specs.Recent.{AreTrue}

none_some : {X : Type 0} (x : X) → None ≡ Some x → ⊥
none_some x e = cc

none_there : (n i : ℕ) (h : Home) → get_or (replicate n None) i None ≡ Some h → ⊥
none_there zero i h e = none_some h e
none_there (suc n) zero h e = none_some h e
none_there (suc n) (suc i) h e = none_there n i h e

-- nothing is remembered
pub none_is_true : (recent : Recent) (home : Homes) → recent.slots ≡ replicate 256 None → AreTrue recent home
none_is_true recent home is = record {
  each = λ i h e. absurd (none_there 256 i h (ap (λ s. get_or s i None) (sym is) ∙ e));
  placed = λ i h e. absurd (none_there 256 i h (ap (λ s. get_or s i None) (sym is) ∙ e));
}

-- a memory that was known
pub same_homes : (home : Homes) (x m : ℕ) → m ≡ home x → updated home x m ≡ home
same_homes home x m e = λ i y. at_name y (y == x) refl i
  where
    at_name : (y : ℕ) (t : Bool) → (y == x) ≡ t → updated home x m y ≡ home y
    at_name y true s = ap (λ b. if b then m else home y) s ∙ e ∙ ap home (sym (eqb-true y x s))
    at_name y false s = ap (λ b. if b then m else home y) s

pub kept_true : (recent : Recent) (home : Homes) (x m : ℕ) → m ≡ home x → AreTrue recent (updated home x m) → AreTrue recent home
kept_true recent home x m e h = subst (AreTrue recent) (same_homes home x m e) h
