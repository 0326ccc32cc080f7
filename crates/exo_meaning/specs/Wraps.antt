-- What cells keep of numbers that were wrapped before.
use Rattle.std.specs.Prelude.{◌≡◌, ℤ, pos, ◌+ℤ◌}
use Rattle.exo_tree.specs.Tree.{Cell, I32}
use Rattle.exo_meaning.specs.Value.{wrap}

pub record WrapLaws : Type 0 where
  pub twice : (cell : Cell) (z : ℤ) → wrap cell (wrap cell z) ≡ wrap cell z
  pub sums : (cell : Cell) (a b : ℤ) → wrap cell (wrap cell a +ℤ b) ≡ wrap cell (a +ℤ b)
  -- to wrap to 32 bits before changes nothing
  pub wrapped : (cell : Cell) (z : ℤ) → wrap cell (wrap I32 z) ≡ wrap cell z
  -- nor does it behind
  pub narrow : (cell : Cell) (z : ℤ) → wrap I32 (wrap cell z) ≡ wrap cell z
  pub zero : (cell : Cell) → wrap cell (pos 0) ≡ pos 0
