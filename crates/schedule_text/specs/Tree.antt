-- Schedules as they are written. Names are lists of bytes; of a string its quoted pieces are kept.
use Rattle.std.specs.Prelude.{ℕ, List, Bool}
use Rattle.text_lexer.specs.declared.token.Literal.{Literal}
use Rattle.schedule_text.specs.declared.source.Direction.{Direction}

-- a move of a cursor: to a place beside it, to a longer block, or to a statement of a block
pub data Move : Type 0 where
  go : Direction → Move
  expand : Literal → Literal → Move
  item : Literal → Move

-- `find(NAME, STRING)`, and the moves from the match
pub record Found : Type 0 where
  pub version : List ℕ
  pub pattern : List (List ℕ)
  pub moves : List Move

-- a cursor that a name holds, with moves, or a match
pub data Cursor : Type 0 where
  held : List ℕ → List Move → Cursor
  found : Found → Cursor

-- what stands behind a key
pub data KeyValue : Type 0 where
  text : List (List ℕ) → KeyValue
  yes no : KeyValue

pub data Argument : Type 0 where
  cursor : Cursor → Argument
  string : List (List ℕ) → Argument
  int : Literal → Argument
  pair : List (List ℕ) → List (List ℕ) → Argument
  key : List ℕ → KeyValue → Argument

-- one argument or more
pub record Arguments : Type 0 where
  pub head : Argument
  pub more : List Argument
  -- whether a comma stands behind the last argument
  pub trailing : Bool

-- what a name is bound to: the result of an operator, a match, or a cursor that was moved once or more
pub data Act : Type 0 where
  operation : List ℕ → Arguments → Act
  search : Found → Act
  moved : List ℕ → Move → List Move → Act

pub data Line : Type 0 where
  bind : List ℕ → Act → Line
  emit : List ℕ → Line
