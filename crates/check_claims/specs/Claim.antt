-- Claims: what a procedure has to show.
use Rattle.std.specs.Prelude.{ℕ}
use Rattle.exo_tree.specs.Tree.{Condition}
use Rattle.exo_tree.specs.Places.{Path}
use Rattle.text_show.specs.Layout.{Text}

pub data Claim : Type 0 where
  -- a condition holds; with how it is quoted where it does not
  Is : Condition → Text → Claim
  -- arguments of those numbers of the call at the place have no cell in common
  Apart : ℕ → ℕ → Claim

-- with the path of the statement that has to show it; the empty path for a claim of a parameter
pub record Placed : Type 0 where
  pub place : Path
  pub claim : Claim
