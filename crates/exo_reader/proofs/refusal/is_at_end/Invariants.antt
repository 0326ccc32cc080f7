use Rattle.std.proofs.Common.{length}
use Rattle.exo_reader.specs.Texts.{IsAtEnd}
use Rattle.exo_reader.proofs.refusal.is_at_end.Given as goal

abbrev pub invariant-more : goal.invariant-more
invariant-more l = record {
  there : IsAtEnd l.fn.rest → IsAtEnd l.left;
  back : IsAtEnd l.left → IsAtEnd l.fn.rest;
}

abbrev pub decreases-more : goal.decreases-more
decreases-more l = length l.left
