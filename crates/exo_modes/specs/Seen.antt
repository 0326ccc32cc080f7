-- What the values of this crate say.
use Rattle.std.specs.Prelude.{ℕ, Bool, false, List, map, Some, None}
use Rattle.std.specs.Ordering.{nat_cmp}
use Rattle.std.specs.BTreeMap.{get}
use Rattle.exo_meaning.specs.Modes as meaning
use Rattle.exo_meaning.specs.Modes.{Mode, picked}
use Rattle.exo_modes.specs.Marks.{writing}
use Rattle.exo_modes.specs.declared.mode.Modes.{Modes}
use Rattle.exo_modes.specs.declared.row.ModesRow.{ModesRow}
use Rattle.exo_modes.specs.declared.table.ModeTable.{ModeTable}

abbrev pub says : Modes → Mode → Bool
says s m = picked m s.read s.write s.reduce

abbrev pub row_says : ModesRow → meaning.Modes
row_says r m x = elim (get nat_cmp r.table x) [ None ↦ false | Some s ↦ says s m ]

abbrev pub rows_say : List ModesRow → List meaning.Modes
rows_say rows = map row_says rows

-- which buffers the row says to be written or reduced
abbrev pub row_writes : ModesRow → ℕ → Bool
row_writes r = writing (row_says r)

abbrev pub rows_write : List ModesRow → List (ℕ → Bool)
rows_write rows = map row_writes rows

abbrev pub table_says : ModeTable → List meaning.Modes
table_says t = rows_say t.rows.items
