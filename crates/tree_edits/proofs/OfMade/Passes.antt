-- Blocks that are left empty, by the number of their statements.
use Rattle.std.proofs.Common.{◌≡◌, Bool, true, false, List, [], ◌∷◌, ◌++◌, length, refl}
use Rattle.exo_tree.specs.Tree.{Statement, Pass, block}
use Rattle.tree_edits.specs.Made.Passes.{pass_for}

pub not_alone : (alone : Bool) (ss : List Statement) → alone ≡ false → pass_for alone (block ss) ≡ block ss
not_alone true ss h = cc
not_alone false ss h = refl

pub not_empty : (alone : Bool) (ss : List Statement) → (length ss ≡ 0 → ⊥) → pass_for alone (block ss) ≡ block ss
not_empty alone [] h = absurd (h refl)
not_empty true (s ∷ ss) h = refl
not_empty false (s ∷ ss) h = refl

pub empty_alone : (alone : Bool) (ss : List Statement) → alone ≡ true → length ss ≡ 0 → pass_for alone (block ss) ≡ block (ss ++ Pass ∷ [])
empty_alone true [] h e = refl
empty_alone false ss h e = cc
empty_alone true (s ∷ ss) h e = cc
