-- The grammar of schedules, with its limits.
use Rattle.std.specs.Prelude.{◌≡◌, ℕ, ◌≤◌, List, [], ◌∷◌, ◌++◌, Option, Some, None, Bool, length}
use Rattle.text_phrases.specs.Limits.{Limits}
use Rattle.text_phrases.specs.Phrase.{Phrase}
use Rattle.text_phrases.specs.Sequence.{many, several}
use Rattle.text_phrases.specs.Commas.{commas}
use Rattle.text_lexer.specs.declared.token.Literal.{Literal}
use Rattle.text_lexer.specs.declared.token.Token.{Token}
use Rattle.text_lexer.specs.declared.token.Token.TheVariants.{Name, Sign, Word, NewLine}
use Rattle.text_lexer.specs.declared.token.Sign.TheVariants.{Open, Close, OpenBracket, CloseBracket}
use Rattle.text_lexer.specs.declared.token.Sign.TheVariants.{Comma, Dot, Assign}
use Rattle.text_lexer.specs.declared.token.Word.TheVariants as w
use Rattle.text_expressions.specs.Values.{name, literal}
use Rattle.exo_reader.specs.Parts.{Is}
use Rattle.exo_reader.specs.Items.{neighbours}
use Rattle.schedule_text.specs.Tree.{Move, go, expand, item, Found, Cursor, held, KeyValue, text}
use Rattle.schedule_text.specs.Tree.{yes, no, Argument, cursor, string, int, pair, key, Arguments}
use Rattle.schedule_text.specs.Tree.{Act, operation, search, moved, Line, bind, emit}
use Rattle.schedule_text.specs.Tree as tree
use Rattle.schedule_text.specs.Words.{word, expand_word, find_word, emit_word}

-- a dot or a bracket begins a move
abbrev pub BeginsMove : Option Token → Type 0
BeginsMove (Some (Sign Dot)) = Unit {0}
BeginsMove (Some (Sign OpenBracket)) = Unit {0}
BeginsMove other = ⊥

abbrev pub NoMove : Option Token → Type 0
NoMove o = BeginsMove o → ⊥

-- `.parent()` and its like, `.expand(INT, INT)`, or `[INT]`
abbrev pub MoveFits : Limits → Move → Type 0
MoveFits limits (go direction) = Unit {0}
MoveFits limits (expand a b) = literal.Fits limits a × literal.Fits limits b
MoveFits limits (item k) = literal.Fits limits k

abbrev pub two_numbers : Literal → Literal → List Token
two_numbers a b =
    Sign Open ∷ (literal.spell a ++ (Sign Comma ∷ (literal.spell b ++ (Sign Close ∷ []))))

abbrev pub spell_move : Move → List Token
spell_move (go direction) = Sign Dot ∷ Name (word direction) ∷ Sign Open ∷ Sign Close ∷ []
spell_move (expand a b) = Sign Dot ∷ Name expand_word ∷ two_numbers a b
spell_move (item k) = Sign OpenBracket ∷ (literal.spell k ++ (Sign CloseBracket ∷ []))

abbrev pub move : Phrase Token Move
move = record { Fits = MoveFits; spell = spell_move; Follows = λ o. Unit {0} }

abbrev pub moves : Phrase Token (List Move)
moves = many move NoMove

-- what stands behind `find (`: a name, a string and moves
abbrev pub FoundFits : Limits → Found → Type 0
FoundFits limits f =
    name.Fits limits f.version × neighbours.Fits limits f.pattern × moves.Fits limits f.moves

abbrev pub spell_found : Found → List Token
spell_found f =
    Name f.version ∷ Sign Comma ∷ (neighbours.spell f.pattern ++ (Sign Close ∷ moves.spell f.moves))

abbrev pub found : Phrase Token Found
found = record { Fits = FoundFits; spell = spell_found; Follows = NoMove }

-- a string, `True` or `False`
abbrev pub KeyValueFits : Limits → KeyValue → Type 0
KeyValueFits limits (text pieces) = neighbours.Fits limits pieces
KeyValueFits limits yes = Unit {0}
KeyValueFits limits no = Unit {0}

abbrev pub spell_key_value : KeyValue → List Token
spell_key_value (text pieces) = neighbours.spell pieces
spell_key_value yes = Word w.True ∷ []
spell_key_value no = Word w.False ∷ []

-- an argument ends before a comma or a closing parenthesis
abbrev pub EndsArgument : Option Token → Type 0
EndsArgument (Some (Sign Comma)) = Unit {0}
EndsArgument (Some (Sign Close)) = Unit {0}
EndsArgument other = ⊥

abbrev pub key_value : Phrase Token KeyValue
key_value = record { Fits = KeyValueFits; spell = spell_key_value; Follows = EndsArgument }

-- `NAME` with moves, or `find(NAME, STRING)` with moves
abbrev pub CursorFits : Limits → Cursor → Type 0
CursorFits limits (held x ms) = name.Fits limits x × moves.Fits limits ms
CursorFits limits (tree.found f) = found.Fits limits f

abbrev pub spell_cursor : Cursor → List Token
spell_cursor (held x ms) = Name x ∷ moves.spell ms
spell_cursor (tree.found f) = Name find_word ∷ Sign Open ∷ found.spell f

-- a cursor, a string, a literal, two strings between brackets, or a key with its value
abbrev pub ArgumentFits : Limits → Argument → Type 0
ArgumentFits limits (cursor c) = CursorFits limits c
ArgumentFits limits (string pieces) = neighbours.Fits limits pieces
ArgumentFits limits (int n) = literal.Fits limits n
ArgumentFits limits (pair a b) = neighbours.Fits limits a × neighbours.Fits limits b
ArgumentFits limits (key x v) = name.Fits limits x × key_value.Fits limits v

abbrev pub two_strings : List (List ℕ) → List (List ℕ) → List Token
two_strings a b =
    neighbours.spell a ++ (Sign Comma ∷ (neighbours.spell b ++ (Sign CloseBracket ∷ [])))

abbrev pub spell_argument : Argument → List Token
spell_argument (cursor c) = spell_cursor c
spell_argument (string pieces) = neighbours.spell pieces
spell_argument (int n) = literal.spell n
spell_argument (pair a b) = Sign OpenBracket ∷ two_strings a b
spell_argument (key x v) = Name x ∷ Sign Assign ∷ key_value.spell v

abbrev pub argument : Phrase Token Argument
argument = record { Fits = ArgumentFits; spell = spell_argument; Follows = EndsArgument }

-- any number of arguments, each behind a comma, and maybe a last comma
abbrev pub AnyNumber : List Argument → Type 0
AnyNumber list = Unit {0}

abbrev pub more_arguments : Phrase Token (List Argument × Bool)
more_arguments = commas argument (Sign Comma) AnyNumber (Is (Sign Close))

-- one argument or more before a closing parenthesis
abbrev pub arguments : Phrase Token Arguments
arguments =
    record {
      Fits =
          λ limits l. argument.Fits limits l.head × more_arguments.Fits limits (l.more, l.trailing);
      spell = λ l. argument.spell l.head ++ more_arguments.spell (l.more, l.trailing);
      Follows = Is (Sign Close);
    }

-- `OP(..)` where OP is not `find`, `find(NAME, STRING)` with moves, or `NAME` with one move or more
abbrev pub ActFits : Limits → Act → Type 0
ActFits limits (operation x l) = name.Fits limits x × (x ≡ find_word → ⊥) × arguments.Fits limits l
ActFits limits (search f) = found.Fits limits f
ActFits limits (moved x m ms) = name.Fits limits x × move.Fits limits m × moves.Fits limits ms

abbrev pub spell_act : Act → List Token
spell_act (operation x l) = Name x ∷ Sign Open ∷ (arguments.spell l ++ (Sign Close ∷ []))
spell_act (search f) = Name find_word ∷ Sign Open ∷ found.spell f
spell_act (moved x m ms) = Name x ∷ (move.spell m ++ moves.spell ms)

abbrev pub act : Phrase Token Act
act = record { Fits = ActFits; spell = spell_act; Follows = NoMove }

-- `NAME =` and what the name is bound to, or `emit(NAME)`, and the end of the line
abbrev pub LineFits : Limits → Line → Type 0
LineFits limits (bind x a) = name.Fits limits x × act.Fits limits a
LineFits limits (emit x) = name.Fits limits x

abbrev pub spell_line : Line → List Token
spell_line (bind x a) = Name x ∷ Sign Assign ∷ (act.spell a ++ (NewLine ∷ []))
spell_line (emit x) = Name emit_word ∷ Sign Open ∷ Name x ∷ Sign Close ∷ NewLine ∷ []

abbrev pub line : Phrase Token Line
line = record { Fits = LineFits; spell = spell_line; Follows = λ o. Unit {0} }

-- a schedule: at most 4,096 lines, to the end of the text
abbrev pub FewLines : List Line → Type 0
FewLines lines = length lines ≤ 4096

abbrev pub schedule : Phrase Token (List Line)
schedule = several line FewLines (λ o. o ≡ None)
