-- The fields so far are in the table.
use Rattle.std.proofs.Common.{◌≡◌, take, map}
use Rattle.exo_tree.specs.PlainTables.{config_field}
use Rattle.rules_names.proofs.scopes.tables.table_of.Given as goal

abbrev pub invariant-loop-field : goal.invariant-loop-field
invariant-loop-field l = l.table ≡ map config_field (take l.field-index l.field-items)
