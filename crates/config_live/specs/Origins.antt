-- How versions were made.
use Rattle.std.specs.Prelude.{ℕ, option_map}
use Rattle.exo_tree.specs.declared.number.FieldId.{FieldId}
use Rattle.exo_tree.specs.declared.number.ProcId.{ProcId}
use Rattle.config_laws.specs.Differing as law
use Rattle.config_live.specs.declared.origins.Origin.{Origin}
use Rattle.config_live.specs.Places.{side_taken}

abbrev pub number : FieldId → ℕ
number f = f.0

abbrev pub of_parent : ProcId → ℕ
of_parent p = p.0

abbrev pub origin : Origin → law.Origin
origin o = record {
  parent = option_map of_parent o.parent;
  place = o.place;
  side = side_taken o.side;
  fields = o.fields;
}
