-- The names so far.
use Rattle.std.proofs.Common.{◌≡◌, take, map, string_bytes}
use Rattle.c_lowering.specs.Made.LoweredUnit.{named_field, field_word}
use Rattle.c_printer.proofs.report.report_fields.Given as goal

abbrev pub invariant-loop-f : goal.invariant-loop-f
invariant-loop-f l = map string_bytes l.made.items ≡ map (λ f. named_field field_word l.unit.fields f.0) (take l.f-index l.fields)
