-- What the sorts of names mean.
use Rattle.std.specs.Prelude.{Option, option_map}
use Rattle.exo_tree.specs.PlainBinder.{cell_type, control_kind}
use Rattle.exo_meaning.specs.Units as units
use Rattle.exo_meaning.specs.Units.{ControlName, BufferName}
use Rattle.exo_modes.specs.declared.sorts.Sort.{Sort}
use Rattle.exo_modes.specs.declared.sorts.Sort.TheVariants.{Control, Buffer}

-- what a name stands for
abbrev pub sort_meant : Sort → units.Sort
sort_meant (Control kind) = ControlName (control_kind kind)
sort_meant (Buffer cell rank dense) = BufferName (cell_type cell) rank dense

-- the sort of a name
abbrev pub sort_seen : Option Sort → Option units.Sort
sort_seen sort = option_map sort_meant sort
