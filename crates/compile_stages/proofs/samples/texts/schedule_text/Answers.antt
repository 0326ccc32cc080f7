use Rattle.std.proofs.Common.{string_bytes, arith}
use Rattle.compile_stages.proofs.OfSamples.Sizes.{short_schedule}
use Rattle.compile_stages.proofs.samples.texts.schedule_text.Goals as goal

pub returns-clause-short : goal.returns-clause-short
returns-clause-short c =
    short_schedule (string_bytes c.loop-m.text) c.args.n c.loop-m.m c.loop-m.invariant
    (omega (arith, c.procedures-m-end.ensures.few))
