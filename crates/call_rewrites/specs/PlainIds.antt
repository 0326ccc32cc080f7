-- What a table of new ids says.
use Rattle.std.specs.Prelude.{nat_eq}
use Rattle.indexmap.specs.IndexMap.{get}
use Rattle.call_rewrites.specs.Numbered.{Numbered}
use Rattle.call_rewrites.specs.declared.ids.NewIds.{NewIds}

abbrev pub numbered : NewIds → Numbered
numbered t = record { given = λ x. get nat_eq t.table x; next = t.next }
