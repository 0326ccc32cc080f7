-- The plain forms of facts.
use Rattle.exo_tree.specs.PlainArgument.{argument}
use Rattle.affine_places.specs.Facts as plain
use Rattle.affine_places.specs.declared.facts.Fact.{Fact}
use Rattle.affine_places.specs.declared.facts.Fact.TheVariants.{Known, Unknown}
use Rattle.affine_places.specs.declared.facts.FieldFact.{FieldFact}

abbrev pub plain_fact : Fact → plain.Fact
plain_fact (Known a) = plain.Known (argument a)
plain_fact (Unknown path) = plain.UnknownAt path

abbrev pub plain_entry : FieldFact → plain.FieldFact
plain_entry e = record { field = e.field.0; fact = plain_fact e.fact }
