-- What tables of ids and of names hold.
use Rattle.std.specs.Prelude.{ℕ, Bool, nat_eq, option_map}
use Rattle.indexmap.specs.IndexMap.{get}
use Rattle.indexmap.specs.IndexSet.{contains}
use Rattle.match_laws.specs.Names as plain
use Rattle.block_matches.specs.declared.pairs.ids.IdSet.{IdSet}
use Rattle.block_matches.specs.declared.pairs.names.NameTable.{NameTable}
use Rattle.block_matches.specs.Pairs.PlainBuffer.{plain_buffer}

abbrev pub ids_in : IdSet → ℕ → Bool
ids_in s x = contains nat_eq s.set x

abbrev pub names_in : NameTable → plain.Names
names_in t x = option_map plain_buffer (get nat_eq t.table x)
