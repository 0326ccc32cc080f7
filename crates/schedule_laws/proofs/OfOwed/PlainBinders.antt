-- What a body calls, measures and roots its names by is the same without its stores.
use Rattle.std.proofs.Common.{◌≡◌, ℕ, refl, ap, ◌∙◌}
use Rattle.exo_tree.specs.Tree.{Statement, If, For}
use Rattle.exo_tree.specs.Tree.{Block, end, next}
use Rattle.affine_places.specs.Roots as roots
use Rattle.affine_places.specs.Roots.{Roots}
use Rattle.text_show.specs.Layout.{Text}
use Rattle.text_show.specs.Names as names
use Rattle.check_claims.specs.Extents as extents
use Rattle.check_claims.specs.Extents.{Extents}
use Rattle.schedule_laws.proofs.OfOwed.Plain.{plain, step_plain}

mutual
  pub names_plain : (given : ℕ → Text) (b : Block)
      → names.with_block (plain b) given ≡ names.with_block b given
  names_plain given end = refl
  names_plain given (next a b) =
      names_plain (names.with_statement (step_plain a) given) b
      ∙ ap (names.with_block b) (step_names_plain given a)

  step_names_plain : (given : ℕ → Text) (a : Statement)
      → names.with_statement (step_plain a) given ≡ names.with_statement a given
  step_names_plain given (If c a b) =
      names_plain (names.with_block (plain a) given) b
      ∙ ap (names.with_block b) (names_plain given a)
  step_names_plain given (For i lo hi b) = names_plain (names.with_binder i given) b
  step_names_plain given a = refl

mutual
  pub extents_plain : (given : Extents) (b : Block)
      → extents.with_block (plain b) given ≡ extents.with_block b given
  extents_plain given end = refl
  extents_plain given (next a b) =
      extents_plain (extents.with_statement (step_plain a) given) b
      ∙ ap (extents.with_block b) (step_extents_plain given a)

  step_extents_plain : (given : Extents) (a : Statement)
      → extents.with_statement (step_plain a) given ≡ extents.with_statement a given
  step_extents_plain given (If c a b) =
      extents_plain (extents.with_block (plain a) given) b
      ∙ ap (extents.with_block b) (extents_plain given a)
  step_extents_plain given (For i lo hi b) = extents_plain given b
  step_extents_plain given a = refl

mutual
  pub roots_plain : (given : Roots) (b : Block)
      → roots.with_block (plain b) given ≡ roots.with_block b given
  roots_plain given end = refl
  roots_plain given (next a b) =
      roots_plain (roots.with_statement (step_plain a) given) b
      ∙ ap (roots.with_block b) (step_roots_plain given a)

  step_roots_plain : (given : Roots) (a : Statement)
      → roots.with_statement (step_plain a) given ≡ roots.with_statement a given
  step_roots_plain given (If c a b) =
      roots_plain (roots.with_block (plain a) given) b
      ∙ ap (roots.with_block b) (roots_plain given a)
  step_roots_plain given (For i lo hi b) = roots_plain given b
  step_roots_plain given a = refl
