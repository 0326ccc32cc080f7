-- Which names are in scope does not depend on how binders are written.
use Rattle.std.proofs.Common.{◌≡◌, ℕ, ◌==◌, Bool, ◌&&◌, ◌||◌, not, refl, ap, ap₂, ◌∙◌}
use Rattle.exo_tree.specs.Tree.{Statement, Assign, Reduce, Config, Pass, If, For, Alloc, View, Call}
use Rattle.exo_tree.specs.Tree.{Block, end, next}
use Rattle.exo_meaning.specs.Unseen.{in_control, in_condition}
use Rattle.meaning_laws.specs.Scoped.{is_not, is_scoped, step_is_scoped}
use Rattle.meaning_laws.specs.Sound.{binds}
use Rattle.place_laws.specs.Scope.Bare.{bare, bare_statement}

binds_same : (a : Statement) → binds (bare_statement a) ≡ binds a
binds_same (Assign x is e) = refl
binds_same (Reduce x is e) = refl
binds_same (Config f a) = refl
binds_same Pass = refl
binds_same (If c a b) = refl
binds_same (For i lo hi b) = refl
binds_same (Alloc x cell dims memory) = refl
binds_same (View w x coords) = refl
binds_same (Call k args) = refl

mutual
  pub bare_is_scoped : (bound : ℕ → Bool) (b : Block) → is_scoped bound (bare b) ≡ is_scoped bound b
  bare_is_scoped bound end = refl
  bare_is_scoped bound (next a b) =
      ap₂ ◌&&◌ (bare_step_is_scoped bound a)
      (ap (λ f. is_scoped (λ y. f y || bound y) (bare b)) (binds_same a)
      ∙ bare_is_scoped (λ y. binds a y || bound y) b)

  bare_step_is_scoped : (bound : ℕ → Bool) (a : Statement)
      → step_is_scoped bound (bare_statement a) ≡ step_is_scoped bound a
  bare_step_is_scoped bound (Assign x is e) = refl
  bare_step_is_scoped bound (Reduce x is e) = refl
  bare_step_is_scoped bound (Config f a) = refl
  bare_step_is_scoped bound Pass = refl
  bare_step_is_scoped bound (If c a b) =
      ap (λ t. not (in_condition (is_not bound) c) && t)
      (ap₂ ◌&&◌ (bare_is_scoped bound a) (bare_is_scoped bound b))
  bare_step_is_scoped bound (For i lo hi b) =
      ap (λ t. not (bound i.id)
      && (not (in_control (is_not bound) lo || in_control (is_not bound) hi) && t))
      (bare_is_scoped (λ y. (y == i.id) || bound y) b)
  bare_step_is_scoped bound (Alloc x cell dims memory) = refl
  bare_step_is_scoped bound (View w x coords) = refl
  bare_step_is_scoped bound (Call k args) = refl
