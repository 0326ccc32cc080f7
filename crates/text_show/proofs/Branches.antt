-- The second branch of a condition.
use Rattle.std.proofs.Common.{◌≡◌, codes, refl, ◌++◌, ℕ, List, [], ◌∷◌, length}
use Rattle.exo_tree.specs.Tree.{Statement, block}
use Rattle.text_show.specs.Layout.{line}
use Rattle.text_show.specs.StatementText.{or_else}

-- its text where it is there
pub or_else_full : (indent t : List ℕ) (b : List Statement) → (length b ≡ 0 → ⊥) → or_else indent (block b) t ≡ line indent (codes "else:") ++ t
or_else_full indent t [] h = absurd (h refl)
or_else_full indent t (a ∷ rest) h = refl
