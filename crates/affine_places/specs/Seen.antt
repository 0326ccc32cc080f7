-- What a table of roots tells of each name.
use Rattle.std.specs.Prelude.{option_map}
use Rattle.std.specs.BTreeMap.{get}
use Rattle.std.specs.Ordering.{nat_cmp}
use Rattle.affine_places.specs.Roots as plain
use Rattle.affine_places.specs.declared.layout.Layout.{Layout}
use Rattle.affine_places.specs.declared.layout.Layout.TheVariants.{Dense, Strided}
use Rattle.affine_places.specs.declared.rooted.Rooted.{Rooted}
use Rattle.affine_places.specs.declared.roots.Roots.{Roots}

abbrev pub plain_layout : Layout → plain.Layout
plain_layout (Dense e) = plain.Dense e.list.now
plain_layout Strided = plain.Strided

abbrev pub plain_root : Rooted → plain.Rooted
plain_root r = record { root = r.root.0; layout = plain_layout r.layout; dims = r.dims.items }

abbrev pub roots_in : Roots → plain.Roots
roots_in r x = option_map plain_root (get nat_cmp r.table x)
