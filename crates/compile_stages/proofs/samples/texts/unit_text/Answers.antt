use Rattle.std.proofs.Common.{string_bytes, arith}
use Rattle.compile_stages.proofs.OfSamples.Sizes.{short_unit}
use Rattle.compile_stages.proofs.samples.texts.unit_text.Goals as goal

pub returns-clause-short : goal.returns-clause-short
returns-clause-short c =
    short_unit (string_bytes c.loop-m.text) c.args.n c.loop-m.m c.loop-m.invariant
    (omega (arith, c.procedures-m-end.ensures.few))
