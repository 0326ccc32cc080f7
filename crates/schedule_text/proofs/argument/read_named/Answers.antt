use Rattle.schedule_text.proofs.argument.read_named.Goals as goal

pub returns-in-Some : goal.returns-in-Some
returns-in-Some c = rw c.in-Some.ensures c.read_key.ensures

pub returns-in-Some-behind_find : goal.returns-in-Some-behind_find
returns-in-Some-behind_find c = rw (c.in-Some-behind_find.ensures.0, c.in-Some-behind_find.ensures.1) c.read_match.ensures
