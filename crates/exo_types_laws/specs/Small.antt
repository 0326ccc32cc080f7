-- Literals of a text: the lexis gives no value from 2^31 on.
use Rattle.std.specs.Prelude.{◌^◌, nat_lt, Bool, true, List}
use Rattle.std.specs.List.{list_all}
use Rattle.text_lexer.specs.declared.token.Literal.TheVariants.{Value}
use Rattle.text_lexer.specs.declared.token.Token.{Token}
use Rattle.text_lexer.specs.declared.token.Token.TheVariants.{Int}

-- no literal with a value from 2^31 on
abbrev pub is_small_token : Token → Bool
is_small_token (Int (Value n)) = nat_lt n (2 ^ 31)
is_small_token other = true

abbrev pub are_small_tokens : List Token → Bool
are_small_tokens tokens = list_all is_small_token tokens
