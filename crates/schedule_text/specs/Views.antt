-- Schedules in memory, as they are written.
use Rattle.std.specs.Prelude.{ℕ, List, map}
use Rattle.text_lexer.specs.declared.token.Literal.TheVariants.{Value}
use Rattle.schedule_text.specs.Tree as tree
use Rattle.schedule_text.specs.Tree.{Argument}
use Rattle.schedule_text.specs.declared.source.Move.{Move}
use Rattle.schedule_text.specs.declared.source.Move.TheVariants.{Go, Expand, Item}
use Rattle.schedule_text.specs.declared.source.Moves.{Moves}
use Rattle.schedule_text.specs.declared.source.Found.{Found}
use Rattle.schedule_text.specs.declared.source.CursorText.{CursorText}
use Rattle.schedule_text.specs.declared.source.CursorText.TheVariants as c
use Rattle.schedule_text.specs.declared.source.KeyValue.{KeyValue}
use Rattle.schedule_text.specs.declared.source.KeyValue.TheVariants as v
use Rattle.schedule_text.specs.declared.source.ArgText.{ArgText}
use Rattle.schedule_text.specs.declared.source.ArgText.TheVariants as a
use Rattle.schedule_text.specs.declared.source.Arguments.{Arguments}
use Rattle.schedule_text.specs.declared.source.Act.{Act}
use Rattle.schedule_text.specs.declared.source.Act.TheVariants.{Op, Find, Moved}
use Rattle.schedule_text.specs.declared.source.Statement.{Statement}
use Rattle.schedule_text.specs.declared.source.Statement.TheVariants.{Bind, Emit}
use Rattle.schedule_text.specs.declared.source.Line.{Line}
use Rattle.schedule_text.specs.declared.source.Schedule.{Schedule}

abbrev pub plain_move : Move → tree.Move
plain_move (Go direction) = tree.go direction
plain_move (Expand a b) = tree.expand (Value a) (Value b)
plain_move (Item k) = tree.item (Value k)

abbrev pub plain_moves : Moves → List tree.Move
plain_moves ms = map plain_move ms.items.items

abbrev pub plain_found : Found → tree.Found
plain_found f = record { version = f.version; pattern = f.pattern.pieces.items; moves = plain_moves f.moves }

abbrev pub plain_cursor : CursorText → tree.Cursor
plain_cursor (c.Held x ms) = tree.held x (plain_moves ms)
plain_cursor (c.Find f) = tree.found (plain_found f)

abbrev pub plain_key_value : KeyValue → tree.KeyValue
plain_key_value (v.Str s) = tree.text s.pieces.items
plain_key_value v.True = tree.yes
plain_key_value v.False = tree.no

abbrev pub plain_argument : ArgText → Argument
plain_argument (a.Cursor c) = tree.cursor (plain_cursor c)
plain_argument (a.Str s) = tree.string s.pieces.items
plain_argument (a.Int n) = tree.int (Value n)
plain_argument (a.Pair s t) = tree.pair s.pieces.items t.pieces.items
plain_argument (a.Key x v) = tree.key x (plain_key_value v)

abbrev pub plain_arguments : Arguments → tree.Arguments
plain_arguments l =
    record { head = plain_argument l.first; more = map plain_argument l.more.items; trailing = l.trailing }

abbrev pub plain_act : Act → tree.Act
plain_act (Op x l) = tree.operation x (plain_arguments l)
plain_act (Find f) = tree.search (plain_found f)
plain_act (Moved x m ms) = tree.moved x (plain_move m) (plain_moves ms)

abbrev pub plain_statement : Statement → tree.Line
plain_statement (Bind x a) = tree.bind x (plain_act a)
plain_statement (Emit x) = tree.emit x

abbrev pub plain_line : Line → tree.Line
plain_line l = plain_statement l.statement

-- in which line of the text a line begins
abbrev pub number : Line → ℕ
number l = l.number

abbrev pub plain_lines : Schedule → List tree.Line
plain_lines s = map plain_line s.lines.items

abbrev pub numbers : Schedule → List ℕ
numbers s = map number s.lines.items
