-- What a walk of a callee's body with a block is.
use Rattle.std.specs.Prelude.{◌≡◌, ℕ, Bool, List, Option}
use Rattle.exo_tree.specs.Tree.{Argument, Block, Procedure}
use Rattle.affine_forms.specs.Forms.{Reading}
use Rattle.meaning_laws.specs.Scoped.{has_binder}
use Rattle.match_laws.specs.Names.{Names}
use Rattle.match_laws.specs.Pairs.{Pair}
use Rattle.match_laws.specs.Matched as plain

-- own: the block's own names; to: partners of the callee's binders; given: what the walk determines
pub record IsWalk (at : Reading) (theirs : Names) (b : Block) (q : Procedure) (own : ℕ → Bool)
    (to : ℕ → Option ℕ) (given : ℕ → Option Argument) (walk : List Pair) : Type 0 where
  pub names : own ≡ has_binder b
  pub partners : to ≡ plain.to at theirs b q
  pub pairs : walk ≡ plain.walk at theirs b q
  pub known : given ≡ plain.argument_in (plain.params at theirs b q) walk
