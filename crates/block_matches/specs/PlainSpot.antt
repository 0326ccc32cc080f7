-- The plain form of a spot.
use Rattle.exo_tree.specs.PlainControl.{control}
use Rattle.match_laws.specs.Windows as plain
use Rattle.block_matches.specs.declared.spots.Spot.{Spot}
use Rattle.block_matches.specs.declared.spots.Spot.TheVariants as spot

abbrev pub plain_spot : Spot → plain.Spot
plain_spot (spot.Offset e) = plain.Offset (control e)
plain_spot (spot.Point e) = plain.Point (control e)
