-- What stands round a piece, and how it touches buffers.
use Rattle.std.proofs.Common.{◌≡◌, ℕ, Option, Some, None, refl}
use Rattle.exo_tree.specs.Tree.{Block, Program}
use Rattle.exo_tree.specs.Places.{Opened}
use Rattle.exo_meaning.specs.Modes.{Mode}
use Rattle.place_laws.specs.Order.Overwrite.{touches}
use Rattle.piece_modes.specs.Touching.{block_touches}
use Rattle.piece_modes.specs.Way.{around_of}
use Rattle.step_driver.specs.Spots.{or_nothing}

pub around_same : (x : Option Opened) → around_of x ≡ (or_nothing x).around
around_same None = refl
around_same (Some o) = refl

pub touches_same : (u : Program) (m : Mode) (root : ℕ → ℕ) (b : Block) (y : ℕ)
    → block_touches u m root b y ≡ touches u.fields u.procedures m root b y
touches_same u m root b y = refl
