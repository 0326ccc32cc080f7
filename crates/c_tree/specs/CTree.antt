-- Plain trees of C, with one form for each kind of C text.
use Rattle.std.specs.Prelude.{ℕ, ℤ, List, [], ◌∷◌}
use Rattle.exo_tree.specs.Tree.{Cell}
pub use Rattle.c_tree.specs.Names.Words.{Name}

-- the element type of an array: a cell type, or a vector type of so many cells
pub data Element : Type 0 where
  Single : Cell → Element
  Vector : Name → ℕ → Cell → Element

-- an expression over 64-bit numbers
pub data Number64 : Type 0 where
  Literal : ℤ → Number64
  Named : Name → Number64
  StrideIn : Name → ℕ → Number64
  Opposite : Number64 → Number64
  Sum Difference Product : Number64 → Number64 → Number64
  Quotient Remainder : Number64 → ℤ → Number64

pub data Test : Type 0 where
  Always Never : Test
  IsSet : Name → Test
  Less LessEqual More MoreEqual Equal : Number64 → Number64 → Test
  Both Either : Test → Test → Test

-- `x[OFF]` of an array, or `w.data[OFF]` of a window
pub data CellRef : Type 0 where
  InArray InWindow : Name → Number64 → CellRef

-- an expression over unsigned 32-bit numbers
pub data Number32 : Type 0 where
  Literal32 : ℤ → Number32
  Read32 : CellRef → Number32
  Opposite32 Relu32 : Number32 → Number32
  Sum32 Difference32 Product32 : Number32 → Number32 → Number32
  Select32 : Number32 → Number32 → Number32 → Number32 → Number32

-- what an argument or the right side of a field's write is
pub data Actual : Type 0 where
  Control64 : Number64 → Actual
  Tested : Test → Actual
  Alone : Name → Actual
  Address : CellRef → Actual
  WindowOf : ℕ → Cell → CellRef → List Number64 → Actual

-- a piece of an instruction's template
pub data Piece : Type 0 where
  Plain : List ℕ → Piece
  Filled : Actual → Piece
  FirstCell : CellRef → Piece

mutual
  pub data CStatement : Type 0 where
    Store AddTo : Cell → CellRef → Number32 → CStatement
    SetField : Name → Actual → CStatement
    Empty : CStatement
    Branch : Test → CBlock → CBlock → CStatement
    Loop : Name → Number64 → Number64 → CBlock → CStatement
    Array : Element → Name → ℤ → CStatement
    Malloc : Element → Name → Number64 → CStatement
    Free : Name → CStatement
    Bind : ℕ → Cell → Name → CellRef → List Number64 → CStatement
    CallOf : Name → List Actual → CStatement
    Instruction : ℕ → List Piece → List Actual → CStatement

  pub data CBlock : Type 0 where
    stop : CBlock
    first : CStatement → CBlock → CBlock

abbrev pub followed_by : CBlock → CBlock → CBlock
followed_by stop c = c
followed_by (first a b) c = first a (followed_by b c)

pub data Formal : Type 0 where
  Number64Param : Name → Formal
  ArrayParam : Cell → Name → Formal
  WindowParamOf : ℕ → Cell → Name → Formal

pub record CFunction : Type 0 where
  pub name : Name
  pub formals : List Formal
  pub body : CBlock

-- what the report says of a function: the procedure of the text it comes from, and the fields it may leave different
pub record ReportLine : Type 0 where
  pub name : Name
  pub origin : Name
  pub differs : List Name

-- the struct of windows of so many dimensions over cells of that type
pub record StructOf : Type 0 where
  pub rank : ℕ
  pub cell : Cell

-- a file of C
pub record CUnit : Type 0 where
  pub report : List ReportLine
  pub includes : List Name
  pub structs : List StructOf
  pub fields : List Name
  pub functions : List CFunction

-- a list of statements as a block, and back
abbrev pub cblock : List CStatement → CBlock
cblock [] = stop
cblock (a ∷ rest) = first a (cblock rest)

abbrev pub cstatements : CBlock → List CStatement
cstatements stop = []
cstatements (first a b) = a ∷ cstatements b
