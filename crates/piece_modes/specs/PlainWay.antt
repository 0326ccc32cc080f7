-- The plain form of what is known of names.
use Rattle.std.specs.Prelude.{◌==◌}
use Rattle.std.specs.List.{list_any}
use Rattle.exo_modes.specs.Aliases.{roots_in}
use Rattle.piece_modes.specs.Way as plain
use Rattle.piece_modes.specs.declared.way.Way.{Way}

abbrev pub plain_way : Way → plain.Way
plain_way w = record {
  roots = roots_in w.aliases.items;
  bound = λ y. list_any (λ x. y == x) w.names.items;
}
