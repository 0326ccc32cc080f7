use Rattle.std.proofs.Common.{subst}
use Rattle.exo_modes.specs.Calls.Marked.{Marked}
use Rattle.compile_stages.specs.Printings.{is_emitted}
use Rattle.compile_stages.proofs.Listing.{numbers_of, emitted_then, emitted_end}
use Rattle.compile_stages.proofs.printings.emitted_marks.Goals as goal

pub loop-k-preserved : goal.loop-k-preserved
loop-k-preserved c = λ new h.
    c.loop-k.invariant new (emitted_then c.args.emitted.now c.loop-k.k-index _ c.loop-k.marks c.insert.new.self new c.loop-k-test.true c.insert.ensures h)

pub returns : goal.returns
returns c =
    subst (λ s. Marked (is_emitted (numbers_of c.args.emitted.now)) s c.loop-k.marks) c.in_ok-marks.ensures
    (c.loop-k.invariant c.loop-k.marks (emitted_end c.args.emitted.now c.loop-k.k-index c.loop-k.marks c.loop-k-test.false))
