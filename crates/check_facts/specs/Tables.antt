-- What a table tells of fields.
use Rattle.std.specs.Prelude.{Some, None, nat_eq}
use Rattle.indexmap.specs.IndexMap.{get}
use Rattle.meaning_laws.specs.KnownFields.{AtEntry, KnownFields}
use Rattle.check_facts.specs.Values.{plain_value}
use Rattle.check_facts.specs.declared.known.Known.{Known}

-- a field that is not in the table has its value at entry
abbrev pub known_in : Known → KnownFields
known_in k f = elim (get nat_eq k.table f) [ None ↦ AtEntry | Some v ↦ plain_value v ]
