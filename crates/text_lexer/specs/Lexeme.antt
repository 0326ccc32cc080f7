-- The token that begins at a byte, by the longest match.
use Rattle.std.specs.Prelude.{ℕ, ◌+◌, ◌*◌, ◌-◌, List, [], ◌∷◌, if◌then◌else◌, nat_eq, nat_lt}
use Rattle.std.specs.Prelude.{Option, Some, None, length, take_while, bytes_eq, codes}
use Rattle.std.specs.Char.{is_ascii_digit}
use Rattle.text_lexer.specs.Bytes.{is_printable, is_quote, begins_name, goes_on_name}
use Rattle.text_lexer.specs.Quoted.{quoted}
use Rattle.text_lexer.specs.declared.token.Word.{Word}
use Rattle.text_lexer.specs.declared.token.Word.TheVariants.{And, Assert, Class, Def, Else, For}
use Rattle.text_lexer.specs.declared.token.Word.TheVariants.{From, If, Import, In, Or, Pass, Relu}
use Rattle.text_lexer.specs.declared.token.Word.TheVariants.{Select, Seq, Stride, True, False}
use Rattle.text_lexer.specs.declared.token.Sign.{Sign}
use Rattle.text_lexer.specs.declared.token.Sign.TheVariants.{Open, Close, OpenBracket, CloseBracket}
use Rattle.text_lexer.specs.declared.token.Sign.TheVariants.{Comma, Colon, Dot, Assign, Reduce}
use Rattle.text_lexer.specs.declared.token.Sign.TheVariants.{Plus, Minus, Times, Divide, Modulo}
use Rattle.text_lexer.specs.declared.token.Sign.TheVariants.{Less, LessEqual, Greater, GreaterEqual}
use Rattle.text_lexer.specs.declared.token.Sign.TheVariants.{Equal, Any, At}
use Rattle.text_lexer.specs.declared.token.Decorator.{Decorator}
use Rattle.text_lexer.specs.declared.token.Decorator.TheVariants.{Procedure, Instruction}
use Rattle.text_lexer.specs.declared.token.Decorator.TheVariants.{Configuration, MemoryClass}
use Rattle.text_lexer.specs.declared.token.Literal.{Literal}
use Rattle.text_lexer.specs.declared.token.Literal.TheVariants.{Value, TooLarge}
use Rattle.text_lexer.specs.declared.token.Fault.TheVariants.{Byte, Spelling}
use Rattle.text_lexer.specs.declared.token.Token.{Token}
use Rattle.text_lexer.specs.declared.token.Token.TheVariants as token
use Rattle.text_lexer.specs.declared.quoted.Ending.{Ending}
use Rattle.text_lexer.specs.declared.quoted.Ending.TheVariants.{Closed, Unclosed, Foreign}
use Rattle.text_lexer.specs.declared.quoted.Quoted.{Quoted}
use Rattle.text_lexer.specs.declared.lexeme.Lexeme.{Lexeme}

-- the words that are no names
abbrev pub word_of : List ℕ → Option Word
word_of text =
    if bytes_eq text (codes "and") then Some And
    else (if bytes_eq text (codes "assert") then Some Assert
    else (if bytes_eq text (codes "class") then Some Class
    else (if bytes_eq text (codes "def") then Some Def
    else (if bytes_eq text (codes "else") then Some Else
    else (if bytes_eq text (codes "for") then Some For
    else (if bytes_eq text (codes "from") then Some From
    else (if bytes_eq text (codes "if") then Some If
    else (if bytes_eq text (codes "import") then Some Import
    else (if bytes_eq text (codes "in") then Some In
    else (if bytes_eq text (codes "or") then Some Or
    else (if bytes_eq text (codes "pass") then Some Pass
    else (if bytes_eq text (codes "relu") then Some Relu
    else (if bytes_eq text (codes "select") then Some Select
    else (if bytes_eq text (codes "seq") then Some Seq
    else (if bytes_eq text (codes "stride") then Some Stride
    else (if bytes_eq text (codes "True") then Some True
    else (if bytes_eq text (codes "False") then Some False
    else None)))))))))))))))))

-- the words behind an `@`
abbrev pub decorator_of : List ℕ → Option Decorator
decorator_of text =
    if bytes_eq text (codes "proc") then Some Procedure
    else (if bytes_eq text (codes "instr") then Some Instruction
    else (if bytes_eq text (codes "config") then Some Configuration
    else (if bytes_eq text (codes "memory") then Some MemoryClass
    else None)))

-- a sign of one byte
abbrev pub sign_of : ℕ → Option Sign
sign_of b =
    if nat_eq b 0x28 then Some Open
    else (if nat_eq b 0x29 then Some Close
    else (if nat_eq b 0x5B then Some OpenBracket
    else (if nat_eq b 0x5D then Some CloseBracket
    else (if nat_eq b 0x2C then Some Comma
    else (if nat_eq b 0x3A then Some Colon
    else (if nat_eq b 0x2E then Some Dot
    else (if nat_eq b 0x3D then Some Assign
    else (if nat_eq b 0x2B then Some Plus
    else (if nat_eq b 0x2D then Some Minus
    else (if nat_eq b 0x2A then Some Times
    else (if nat_eq b 0x2F then Some Divide
    else (if nat_eq b 0x25 then Some Modulo
    else (if nat_eq b 0x3C then Some Less
    else (if nat_eq b 0x3E then Some Greater
    else None))))))))))))))

-- a sign of this byte and `=`
abbrev pub sign_with_equals : ℕ → Option Sign
sign_with_equals b =
    if nat_eq b 0x2B then Some Reduce
    else (if nat_eq b 0x3C then Some LessEqual
    else (if nat_eq b 0x3E then Some GreaterEqual
    else (if nat_eq b 0x3D then Some Equal
    else None)))

-- the number that digits write, behind those that wrote n
abbrev pub decimal : ℕ → List ℕ → ℕ
decimal n [] = n
decimal n (d ∷ digits) = decimal (n * 10 + (d - 0x30)) digits

-- a literal up to 2^31 - 1 keeps its value
abbrev pub literal : List ℕ → Literal
literal digits = if nat_lt (decimal 0 digits) 0x80000000 then Value (decimal 0 digits) else TooLarge

abbrev pub string_ending : Ending → Quoted → Lexeme
string_ending Closed q = record { token = token.Str q.text; width = q.width + 1 }
string_ending Foreign q = record { token = token.Str q.text; width = q.width + 1 }
string_ending Unclosed q = record { token = token.Bad Spelling; width = 1 }

-- the lexeme of a string: what it stands for, also up to a byte that no text has, so that such a
-- byte counts only where a string may stand
abbrev pub string_lexeme : Quoted → Lexeme
string_lexeme q = string_ending q.ending q

abbrev pub word_token : Option Word → List ℕ → Token
word_token (Some word) text = token.Word word
word_token None text = token.Name text

-- a name; a word or `_` alone is none
abbrev pub name_token : List ℕ → Token
name_token text =
    if bytes_eq text (codes "_") then token.Sign Any else word_token (word_of text) text

abbrev pub name_lexeme : List ℕ → Lexeme
name_lexeme text = record { token = name_token text; width = length text }

abbrev pub decorated : Option Decorator → ℕ → Lexeme
decorated (Some decorator) width = record { token = token.Decorator decorator; width = width + 1 }
decorated None width = record { token = token.Sign At; width = 1 }

-- a decorator where its whole word stands behind the `@`, else the `@` alone
abbrev pub decorator_lexeme : List ℕ → Lexeme
decorator_lexeme text = decorated (decorator_of text) (length text)

abbrev pub digits_lexeme : List ℕ → Lexeme
digits_lexeme digits = record { token = token.Int (literal digits); width = length digits }

-- a literal is `0` or has no zero first
abbrev pub literal_lexeme : List ℕ → Lexeme
literal_lexeme [] = digits_lexeme []
literal_lexeme (d ∷ digits) =
    if nat_eq d 0x30
    then record { token = token.Int (Value 0); width = 1 }
    else digits_lexeme (d ∷ digits)

abbrev pub lone_lexeme : Option Sign → Lexeme
lone_lexeme (Some sign) = record { token = token.Sign sign; width = 1 }
lone_lexeme None = record { token = token.Bad Spelling; width = 1 }

abbrev pub longer_lexeme : Option Sign → ℕ → Lexeme
longer_lexeme (Some sign) b = record { token = token.Sign sign; width = 2 }
longer_lexeme None b = lone_lexeme (sign_of b)

-- the longer sign first
abbrev pub sign_lexeme : ℕ → List ℕ → Lexeme
sign_lexeme b [] = lone_lexeme (sign_of b)
sign_lexeme b (c ∷ rest) =
    if nat_eq c 0x3D then longer_lexeme (sign_with_equals b) b else lone_lexeme (sign_of b)

-- the lexeme that begins with the first byte, which is no blank and no `#`
abbrev pub lexeme_of : List ℕ → Lexeme
lexeme_of [] = record { token = token.Bad Spelling; width = 0 }
lexeme_of (b ∷ rest) =
    if begins_name b then name_lexeme (take_while goes_on_name (b ∷ rest))
    else (if is_ascii_digit b then literal_lexeme (take_while is_ascii_digit (b ∷ rest))
    else (if is_quote b then string_lexeme (quoted b rest)
    else (if nat_eq b 0x40 then decorator_lexeme (take_while goes_on_name rest)
    else (if is_printable b then sign_lexeme b rest
    else record { token = token.Bad Byte; width = 1 }))))
