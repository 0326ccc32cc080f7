use Rattle.text_expressions.proofs.Made.{made_int}
use Rattle.text_expressions.proofs.Returns.{number_ok, number_err}
use Rattle.text_expressions.proofs.expression.read_number.Goals as goal

pub returns-in-Value-clause-reads : goal.returns-in-Value-clause-reads
returns-in-Value-clause-reads c = c.leaf.ensures.reads _ _ (number_ok _ _ _ _ _ _ c.requires.place c.requires.front c.in-Value.is (made_int _))

pub returns-in-TooLarge-clause-reads : goal.returns-in-TooLarge-clause-reads
returns-in-TooLarge-clause-reads c = number_err _ _ _ _ c.requires.place c.requires.front c.in-TooLarge.is
