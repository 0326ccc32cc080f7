-- What is opened at a path is the block itself.
use Rattle.std.specs.Prelude.{◌≡◌, ℕ, Some}
use Rattle.exo_tree.specs.Tree.{Block}
use Rattle.exo_tree.specs.Context.{fill}
use Rattle.exo_tree.specs.Places.{Path, Opened, opened}

-- what is opened is the block itself
abbrev pub OpenedLaw : Type 0
OpenedLaw = (count : ℕ) (path : Path) (b : Block) (o : Opened) → opened count path b ≡ Some o → fill o.around o.piece ≡ b
