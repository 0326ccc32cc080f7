use Rattle.exo_reader.proofs.statement.read_named.Goals as goal

pub returns-in-Some : goal.returns-in-Some
returns-in-Some c = λ nesting. rw c.in-Some.ensures (c.read_allocation.ensures nesting)

pub returns-in-Some-behind : goal.returns-in-Some-behind
returns-in-Some-behind c = λ nesting. rw c.in-Some-behind.ensures (c.read_call.ensures nesting)

pub returns-in-Some-behind-2 : goal.returns-in-Some-behind-2
returns-in-Some-behind-2 c = λ nesting. rw c.in-Some-behind-2.ensures (c.read_config.ensures nesting)

pub returns-in-Some-behind-3 : goal.returns-in-Some-behind-3
returns-in-Some-behind-3 c = λ nesting. rw c.in-Some-behind-3.ensures (c.read_equation.ensures nesting)
