use Rattle.text_expressions.proofs.OfFront.Words.{literal_large, literal_other, literal_end}
use Rattle.text_expressions.proofs.front.read_literal.Goals as goal

pub returns-in_default : goal.returns-in_default
returns-in_default c = literal_end _ c.in_default.ensures

pub returns-in-TooLarge : goal.returns-in-TooLarge
returns-in-TooLarge c = literal_large _ _ _ _ c.in-Some.ensures c.in-Int.is c.in-TooLarge.is

pub returns-in_default-token : goal.returns-in_default-token
returns-in_default-token c = literal_other _ _ _ c.in-Some.ensures c.in_default-token.not-Int
