-- Tokens that carry neither a name nor a number nor a string.
use Rattle.text_lexer.specs.declared.token.Token.{Token}
use Rattle.text_lexer.specs.declared.token.Token.TheVariants as t
use Rattle.text_expressions.specs.declared.front.Fixed.{Fixed}
use Rattle.text_expressions.specs.declared.front.Fixed.TheVariants.{Word, Sign, Decorator, NewLine}
use Rattle.text_expressions.specs.declared.front.Fixed.TheVariants.{Indent, Dedent}

abbrev pub token_of : Fixed → Token
token_of (Word w) = t.Word w
token_of (Sign s) = t.Sign s
token_of (Decorator d) = t.Decorator d
token_of NewLine = t.NewLine
token_of Indent = t.Indent
token_of Dedent = t.Dedent
