use Rattle.std.proofs.Common.{◌<◌, ◌∙◌, sym, subst}
use Rattle.exo_tree.specs.PlainUnit.{program}
use Rattle.compile_stages.proofs.Listing.{numbers_of, length_none, reached_is}
use Rattle.compile_stages.proofs.printings.reached.Goals as goal

pub close-requires : goal.close-requires
close-requires c = c.in_ok-marks.ensures.same_length ∙ (length_none c.len.result ∙ c.len.ensures)

pub returns : goal.returns
returns c = λ k h.
    reached_is (numbers_of c.args.emitted.now) (program c.args.unit.now).procedures c.len.result c.in_ok-marks.marks c.close.new.marks c.len.ensures c.in_ok-marks.ensures c.close.ensures k
    (subst (λ n. k < n) (sym c.len.ensures) h)
