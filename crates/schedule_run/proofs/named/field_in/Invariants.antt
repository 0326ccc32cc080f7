-- The fields that are left tell the whole.
use Rattle.std.proofs.Common.{◌≡◌, map, drop}
use Rattle.exo_tree.specs.PlainTables.{config_field}
use Rattle.rules_names.specs.Names.{field_in, field_from}
use Rattle.schedule_run.proofs.named.field_in.Given as goal

abbrev pub invariant-loop-k : goal.invariant-loop-k
invariant-loop-k l =
    field_in (map config_field l.fields) l.config l.name
    ≡ field_from l.k (map config_field (drop l.k l.fields)) l.config l.name
