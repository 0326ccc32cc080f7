use Rattle.std.proofs.Common.{ap}
use Rattle.text_expressions.specs.Views.{tree_of}
use Rattle.text_expressions.proofs.Returns.{renamed}
use Rattle.text_expressions.proofs.expression.finished.Goals as goal

pub returns-clause-reads : goal.returns-clause-reads
returns-clause-reads c = λ room tokens taken. renamed (ap tree_of c.in_ok-new.ensures.ok) taken
