-- Plain trees of procedures: what every contract and every definition of this repository speaks of.
-- Binders, procedures, configuration fields and memories go by number; names and texts are lists of bytes.
use Rattle.std.specs.Prelude.{ℕ, ℤ, Bool, List, [], ◌∷◌, Option}

-- the type of a data cell: a whole number of 8, 16 or 32 bits with a sign, or of 8 bits without one
pub data Cell : Type 0 where
  I8 I16 I32 Ui8 : Cell

-- the kind of a control value
pub data Kind : Type 0 where
  Size Index Truth Stride : Kind

-- what binds a name: the number by which the tree speaks of it, and the name as it is written
pub record Binder : Type 0 where
  pub id : ℕ
  pub name : List ℕ

-- an expression over control values; the right side of a quotient or remainder is a literal
pub data Control : Type 0 where
  Lit : ℤ → Control
  Var : ℕ → Control
  Field : ℕ → Control
  StrideOf : ℕ → ℕ → Control
  Neg : Control → Control
  Add Sub Mul : Control → Control → Control
  Div Mod : Control → ℤ → Control

pub data Condition : Type 0 where
  True False : Condition
  Flag FieldFlag : ℕ → Condition
  Lt Le Gt Ge Eq : Control → Control → Condition
  And Or : Condition → Condition → Condition

-- an expression over cells
pub data Datum : Type 0 where
  Const : ℤ → Datum
  Read : ℕ → List Control → Datum
  Negated Relu : Datum → Datum
  Plus Minus Times : Datum → Datum → Datum
  Select : Datum → Datum → Datum → Datum → Datum

-- one coordinate of a window: a point, or a span from its lower end up to the end that it does not reach
pub data Coord : Type 0 where
  At : Control → Coord
  Span : Control → Control → Coord

pub data Argument : Type 0 where
  ControlArg : Control → Argument
  ConditionArg : Condition → Argument
  Whole : ℕ → Argument
  Window : ℕ → List Coord → Argument

-- a block is a list of statements, written out since a type holds no lists of itself
mutual
  pub data Statement : Type 0 where
    Assign Reduce : ℕ → List Control → Datum → Statement
    Config : ℕ → Argument → Statement
    Pass : Statement
    If : Condition → Block → Block → Statement
    For : Binder → Control → Control → Block → Statement
    Alloc : Binder → Cell → List Control → ℕ → Statement
    View : Binder → ℕ → List Coord → Statement
    Call : ℕ → List Argument → Statement

  pub data Block : Type 0 where
    end : Block
    next : Statement → Block → Block

-- one block after the other
abbrev pub joined : Block → Block → Block
joined end c = c
joined (next a b) c = next a (joined b c)

-- a list of statements as a block, and back
abbrev pub block : List Statement → Block
block [] = end
block (a ∷ rest) = next a (block rest)

abbrev pub statements : Block → List Statement
statements end = []
statements (next a b) = a ∷ statements b

-- a tensor is dense and row-major; a window has strides of its own; the last number is that of the memory
pub data ParamKind : Type 0 where
  ControlParam : Kind → ParamKind
  TensorParam WindowParam : Cell → List Control → ℕ → ParamKind

pub record Param : Type 0 where
  pub binder : Binder
  pub kind : ParamKind

-- a procedure with a template is an instruction: its C is that text
pub record Procedure : Type 0 where
  pub name : List ℕ
  pub params : List Param
  pub asserts : List Condition
  pub body : Block
  pub template : Option (List ℕ)

-- a field of a configuration
pub record ConfigField : Type 0 where
  pub config : List ℕ
  pub name : List ℕ
  pub kind : Kind

-- a class of memories: the C type of its vectors and how many cells one holds (no type and 0: plain cells),
-- the cell type it takes (None: any), whether it stands on the stack, what a statement may do in it, and its header
pub record MemoryKind : Type 0 where
  pub name : List ℕ
  pub ctype : List ℕ
  pub lanes : ℕ
  pub cell : Option Cell
  pub stack : Bool
  pub read : Bool
  pub write : Bool
  pub reduce : Bool
  pub header : List ℕ

-- the procedures of a text and the versions made of them, each calling only those before it
pub record Program : Type 0 where
  pub procedures : List Procedure
  pub fields : List ConfigField
  pub memories : List MemoryKind
