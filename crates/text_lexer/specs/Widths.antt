-- How many bytes tokens take at the least.
use Rattle.std.specs.Prelude.{ℕ, ◌+◌, List, [], ◌∷◌}
use Rattle.text_lexer.specs.declared.token.Token.{Token}
use Rattle.text_lexer.specs.declared.token.Token.TheVariants.{Word, Decorator, Dedent, Bad}

-- a word and a decorator take two bytes at the least and another token one, but the end of a block and a fault none
abbrev pub least_width : Token → ℕ
least_width (Word word) = 2
least_width (Decorator decorator) = 2
least_width Dedent = 0
least_width (Bad fault) = 0
least_width other = 1

abbrev pub least_widths : List Token → ℕ
least_widths [] = 0
least_widths (token ∷ more) = least_width token + least_widths more
