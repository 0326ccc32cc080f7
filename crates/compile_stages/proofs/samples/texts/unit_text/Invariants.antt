use Rattle.std.proofs.Common.{◌≡◌, string_bytes}
use Rattle.compile_stages.specs.Samples.Texts.{procedure_text, up_to}
use Rattle.compile_stages.proofs.samples.texts.unit_text.Given as goal

abbrev pub invariant-loop-m : goal.invariant-loop-m
invariant-loop-m l = string_bytes l.text ≡ up_to (procedure_text l.n) l.m
