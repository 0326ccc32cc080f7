-- The parts of a code: of a pair its two sides, of a constructor with its fields its number.
use Rattle.std.specs.Prelude.{ℕ}
use base.Stored.{Gv, gnil, gnum, gcons, num}

abbrev pub left : Gv → Gv
left gnil = gnil
left (gnum n) = gnil
left (gcons a b) = a

abbrev pub right : Gv → Gv
right gnil = gnil
right (gnum n) = gnil
right (gcons a b) = b

-- the number of the constructor
abbrev pub tag : Gv → ℕ
tag g = num (left g)
