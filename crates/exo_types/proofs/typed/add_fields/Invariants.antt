-- The fields that were given, and those that are left.
use Rattle.std.proofs.Common.{drop, map}
use Rattle.exo_reader.specs.Views.{plain_field}
use Rattle.exo_types.proofs.Fielded.{Given}
use Rattle.exo_types.proofs.typed.add_fields.Given as goal

abbrev pub invariant-loop-field : goal.invariant-loop-field
invariant-loop-field l = Given l.config l.initial.table l.table l.initial.fields l.fields l.n l.next (map plain_field l.list) (map plain_field (drop l.field-index l.list))
