-- Blocks that are made.
use Rattle.std.proofs.Common.{◌≡◌, true, List, refl, ap, ◌∙◌}
use Rattle.exo_tree.specs.Tree.{Statement, Block, end, next, block}
use Rattle.tree_edits.specs.Made.Passes.{pass_for, or_one_pass}

pass_alone : (b : Block) → pass_for true b ≡ or_one_pass b
pass_alone end = refl
pass_alone (next a b) = refl

-- a copy with a `pass` where it is empty
pub with_pass : (old copy new : List Statement) → copy ≡ old
    → block new ≡ pass_for true (block copy)
    → block new ≡ or_one_pass (block old)
with_pass old copy new same made = made ∙ pass_alone (block copy) ∙ ap (λ ss. or_one_pass (block ss)) same
