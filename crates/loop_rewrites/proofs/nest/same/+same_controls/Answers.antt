use Rattle.std.proofs.Common.{refl}
use Rattle.exo_tree.specs.PlainControl.{control}
use Rattle.loop_laws.specs.SameTrees.{same_controls}
use Rattle.loop_rewrites.proofs.Asked.{other_lists}
use Rattle.loop_rewrites.proofs.nest.same.+same_controls.Goals as goal

pub returns-in_default : goal.returns-in_default
returns-in_default t c =
    other_lists control same_controls _ _ _ _ c.in_default.ensures.cases c.in_default.ensures'.cases.0 (λ p ps. refl)
