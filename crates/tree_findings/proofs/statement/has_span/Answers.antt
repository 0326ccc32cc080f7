use Rattle.std.proofs.Common.{nat_lt, ap, ◌∙◌}
use Rattle.exo_meaning.specs.Units as units
use Rattle.tree_findings.proofs.statement.has_span.Goals as goal

pub returns : goal.returns
returns c = ap (nat_lt 0) (c.spans.ensures ∙ ap units.spans c.as_slice.ensures)
