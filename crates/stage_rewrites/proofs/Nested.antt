-- Loops round a block of one statement.
use Rattle.std.proofs.Common.{◌≡◌, pos, List, [], ◌∷◌, refl, ap, ◌∙◌}
use Rattle.exo_tree.specs.Tree.{Lit, Statement, For, Block, end, next, block}
use Rattle.inplace_laws.specs.Filled.{Loop, nest}
use Rattle.stage_rewrites.specs.Nests.{nest_round}

nested : (ls : List Loop) (a : Statement) → nest_round ls (next a end) ≡ nest ls a
nested [] a = refl
nested (l ∷ ls) a =
    ap (λ (b : Block). next (For l.binder (Lit (pos 0)) l.extent b) end) (nested ls a)

pub nested_out : (ls : List Loop) (a : Statement) (alone : List Statement) (b : Block)
    → alone ≡ a ∷ [] → b ≡ nest_round ls (block alone)
    → b ≡ nest ls a
nested_out ls a alone b h k =
    k ∙ ap (λ (ss : List Statement). nest_round ls (block ss)) h ∙ nested ls a
