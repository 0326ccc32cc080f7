use Rattle.std.proofs.Common.{◌≡◌, string_bytes}
use Rattle.compile_stages.specs.Samples.Texts.{lines_text, up_to}
use Rattle.compile_stages.proofs.samples.texts.schedule_text.Given as goal

abbrev pub invariant-loop-m : goal.invariant-loop-m
invariant-loop-m l = string_bytes l.text ≡ up_to (lines_text l.n) l.m
