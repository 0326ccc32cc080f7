-- What the program keeps of fields, as it is defined.
use Rattle.exo_tree.specs.PlainArgument.{argument}
use Rattle.meaning_laws.specs.KnownFields.{FieldValue, AtEntry, Known, UnknownAt}
use Rattle.check_facts.specs.declared.value.Value.{Value}
use Rattle.check_facts.specs.declared.value.Value.TheVariants.{Entry, Written, Unknown}

abbrev pub plain_value : Value → FieldValue
plain_value Entry = AtEntry
plain_value (Written w) = Known (argument w.side.now)
plain_value (Unknown path) = UnknownAt path
