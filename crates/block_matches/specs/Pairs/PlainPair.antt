-- The plain form of a pair.
use Rattle.exo_tree.specs.PlainControl.{control, condition}
use Rattle.match_laws.specs.Pairs as plain
use Rattle.block_matches.specs.declared.pairs.pair.Pair.{Pair}
use Rattle.block_matches.specs.declared.pairs.pair.Pair.TheVariants as pair

abbrev pub plain_pair : Pair → plain.Pair
plain_pair (pair.Numbers p whole e g) = plain.Numbers p whole (control e.now) (control g.now)
plain_pair (pair.Truths p whole c d) = plain.Truths p whole (condition c.now) (condition d.now)
plain_pair (pair.Binders x y) = plain.Binders x.0 y.0
plain_pair (pair.Own p x y) = plain.Own p x.0 y.0
plain_pair (pair.Access p x cs y ds) = plain.Access p x.0 cs y.0 ds
plain_pair (pair.Unlike p) = plain.Unlike p
