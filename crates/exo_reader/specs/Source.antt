-- Units as they are written, without names resolved. Names and strings are lists of bytes.
use Rattle.std.specs.Prelude.{ℕ, List, [], ◌∷◌, Bool, Option}
use Rattle.text_expressions.specs.Expression.{Tree}
use Rattle.text_lexer.specs.declared.token.Literal.{Literal}

-- one coordinate of a window: a point, or a span up to the end that it does not reach
pub data Coordinate : Type 0 where
  point : Tree → Coordinate
  span : Tree → Tree → Coordinate

-- an argument of a call, or the right side of a `=`
pub data Argument : Type 0 where
  value : Tree → Argument
  window : List ℕ → List Coordinate → Argument

-- what stands where a type must stand
pub data TypeName : Type 0 where
  stride : TypeName
  named : List ℕ → TypeName

-- a block is a list of statements, written out since a type holds no lists of itself
mutual
  pub data Statement : Type 0 where
    pass : Statement
    -- the second block is empty where there is no `else`
    branch : Tree → Block → Block → Statement
    loop : List ℕ → Tree → Tree → Block → Statement
    -- the name, the type, the dimensions, which may be none, and the memory
    allocate : List ℕ → TypeName → List Tree → Option (List ℕ) → Statement
    -- whether a comma stands behind the last argument
    call : List ℕ → List Argument → Bool → Statement
    configure : List ℕ → List ℕ → Tree → Statement
    -- the indices may be none
    assign reduce : List ℕ → List Tree → Tree → Statement
    view : List ℕ → List ℕ → List Coordinate → Statement

  pub data Block : Type 0 where
    end : Block
    next : Statement → Block → Block

-- a list of statements as a block, and back
abbrev pub block_of : List Statement → Block
block_of [] = end
block_of (s ∷ more) = next s (block_of more)

abbrev pub statements : Block → List Statement
statements end = []
statements (next s more) = s ∷ statements more

-- the type of a parameter: `TYPE` or `TYPE[..]`, or a window `[TYPE][..]`, which has strides of its own
pub data Form : Type 0 where
  plain strided : TypeName → List Tree → Form

pub record Parameter : Type 0 where
  pub name : List ℕ
  pub form : Form
  pub memory : Option (List ℕ)

-- what stands below `@proc` and `@instr`
pub record Definition : Type 0 where
  pub name : List ℕ
  pub params : List Parameter
  -- whether a comma stands behind the last parameter
  pub trailing : Bool
  pub asserts : List Tree
  pub body : List Statement

-- a field of a configuration
pub record ConfigField : Type 0 where
  pub name : List ℕ
  pub kind : TypeName

-- the value of an attribute; neighbouring strings are joined
pub data Setting : Type 0 where
  strings : List (List ℕ) → Setting
  int : Literal → Setting
  yes no : Setting

-- an attribute of a memory
pub record Attribute : Type 0 where
  pub name : List ℕ
  pub value : Setting

-- what stands at the top level
pub data Item : Type 0 where
  procedure : Definition → Item
  -- with the strings of its template
  instruction : List (List ℕ) → Definition → Item
  configuration : List ℕ → List ConfigField → Item
  memory : List ℕ → List Attribute → Item
