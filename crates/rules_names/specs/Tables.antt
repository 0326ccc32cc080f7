-- What tables of names hold: scopes, fields and lists of names as definitions speak of them.
use Rattle.std.specs.Prelude.{ℕ, List}
use Rattle.std.specs.Borrow.{Bor}
use Rattle.exo_tree.specs.Tree as tree
use Rattle.exo_tree.specs.Tree.{ConfigField}
use Rattle.exo_tree.specs.declared.number.FieldId.{FieldId}
use Rattle.exo_tree.specs.declared.number.Kind.{Kind}
use Rattle.exo_tree.specs.PlainBinder.{control_kind}
use Rattle.exo_meaning.specs.Units as units
use Rattle.exo_modes.specs.Sorts.{sort_meant}
use Rattle.rules_names.specs.declared.scope.Meant.{Meant}

-- what a name stands for
abbrev pub named : List ℕ → Meant → units.Named
named x m = record { binder = record { id = m.id.0; name = x }; sort = sort_meant m.sort }

-- fields in their order, by the names of their configurations and their own
abbrev pub field_entry : (Bor (List ℕ) × Bor (List ℕ)) × Kind → ConfigField
field_entry e = record { config = e.0.0.now; name = e.0.1.now; kind = control_kind e.1 }

abbrev pub found_field : FieldId × Kind → ℕ × tree.Kind
found_field f = (f.0.0, control_kind f.1)
