-- What tables tell: of each name its extents, and of each procedure what it writes or reduces.
use Rattle.std.specs.Prelude.{ℕ, Bool, [], Some, None}
use Rattle.std.specs.BTreeMap.{get}
use Rattle.std.specs.Ordering.{nat_cmp}
use Rattle.std.specs.Coded.{Coded-set, coded_bool}
use mathlib.Core.HLevel.{→_set}
use Rattle.exo_meaning.specs.Modes.{modes_at}
use Rattle.exo_modes.specs.Marks.{writing}
use Rattle.exo_modes.specs.Seen.{table_says}
use Rattle.exo_modes.specs.declared.table.ModeTable.{ModeTable}
use Rattle.check_claims.specs.Extents as plain
use Rattle.check_claims.specs.declared.extents.Extents.{Extents}

abbrev pub extents_in : Extents → plain.Extents
extents_in e x = elim (get nat_cmp e.table x) [ None ↦ [] | Some dims ↦ dims ]

-- of the procedure of each number
abbrev pub writes_in : ModeTable → ℕ → ℕ → Bool
writes_in t k = writing (modes_at (table_says t) k)

-- so what is said of them has one proof at most
pub Writes-set : IsSet (ℕ → ℕ → Bool)
Writes-set = →_set (→_set (Coded-set coded_bool))
