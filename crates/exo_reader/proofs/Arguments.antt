-- Arguments between parentheses.
use Rattle.std.proofs.Common.{◌≡◌, List, ◌++◌, Some, subst}
use Rattle.text_phrases.specs.Phrase.{first}
use Rattle.text_lexer.specs.declared.token.Token.{Token}
use Rattle.text_lexer.specs.declared.token.Token.TheVariants.{Name, Sign}
use Rattle.text_lexer.specs.declared.token.Sign.TheVariants.{Close}
use Rattle.exo_reader.specs.Source.{Argument, value, window}
use Rattle.exo_reader.specs.Statements.{argument, AnyNumber}
use Rattle.exo_reader.proofs.Coordinates.{Opens, opens}
use Rattle.exo_reader.proofs.Lists.{Enclosable}

argument_apart : (a : Argument) (y : List Token) → first (argument.spell a ++ y) ≡ Some (Sign Close) → ⊥
argument_apart (value e) y same = subst Opens same (opens e y)
argument_apart (window x cs) y same = let e : Name x ≡ Sign Close = cc (same) in cc (e)

pub can_enclose : Enclosable argument AnyNumber
can_enclose = record { begins = λ limits a y fits ends. argument_apart a y ends; comma = tt; close = tt; short = tt }
