use Rattle.std.proofs.Common.{false, true, ◌≡◌}
use Rattle.text_expressions.proofs.OfFront.Words.{name_long, name_other}
use Rattle.text_expressions.proofs.front.read_name.Goals as goal

pub returns-then-not-is_short : goal.returns-then-not-is_short
returns-then-not-is_short c = name_long _ _ _ _ c.in-Some.ensures c.in-Name.is (λ short. let h : false ≡ true = c.if-not-is_short.ensures.1 short in cc)

pub returns-in_default-token : goal.returns-in_default-token
returns-in_default-token c = name_other _ _ _ c.in-Some.ensures c.in_default-token.not-Name
