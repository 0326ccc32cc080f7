-- What the values of this crate say.
use Rattle.std.specs.Prelude.{Bool, List, map, Vec}
use Rattle.piece_modes.specs.declared.strides.table.StrideTable.{StrideTable}

abbrev pub rows : {A : Type 0} → List (Vec Bool A) → List (List Bool)
rows vs = map (λ v. v.items) vs

abbrev pub table_rows : StrideTable → List (List Bool)
table_rows t = rows t.rows.items
