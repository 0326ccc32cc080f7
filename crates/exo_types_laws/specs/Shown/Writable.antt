-- What a procedure keeps so that its shown text can be read.
use Rattle.std.specs.Prelude.{◌≡◌, ◌⊎◌, ℕ, ◌<◌, ℤ, pos, negsuc, true, false, ◌==◌, List, [], ◌∷◌}
use Rattle.std.specs.Prelude.{Option, Some, None, slice_get}
use Rattle.exo_tree.specs.Tree as tree
use Rattle.exo_tree.specs.Tree.{Control, Lit, Var, Field, StrideOf, Neg, Add, Sub, Mul, Div, Mod}
use Rattle.exo_tree.specs.Tree.{Condition, Flag, FieldFlag, Lt, Le, Gt, Ge, Eq, And, Or, Datum}
use Rattle.exo_tree.specs.Tree.{Const, Read, Negated, Relu, Plus, Minus, Times, Select, Coord, At}
use Rattle.exo_tree.specs.Tree.{Span, Argument, ControlArg, ConditionArg, Whole, Window, Statement}
use Rattle.exo_tree.specs.Tree.{Assign, Reduce, Config, Pass, If, For, Alloc, View, Call, Block}
use Rattle.exo_tree.specs.Tree.{end, next, ParamKind, ControlParam, TensorParam, WindowParam, Param}
use Rattle.exo_tree.specs.Tree.{ConfigField, Procedure, Program}
use Rattle.text_lexer.specs.Bytes.{is_printable}
use Rattle.text_show.specs.Layout.{Text}
use Rattle.text_show.specs.Names.{names_of}
use Rattle.text_show.specs.Words.{memory_name, callee_name}
use Rattle.exo_types_laws.specs.Shown.Names.{IsName, Each}
use Rattle.exo_types_laws.specs.Shown.Written.{has_span}

-- a literal is not below 0, and below 2^31
abbrev pub IsLiteral : ℤ → Type 0
IsLiteral (pos n) = n < 0x80000000
IsLiteral (negsuc n) = ⊥

-- there is the field, and it and its configuration have names
abbrev pub HasNames : Option ConfigField → Type 0
HasNames None = ⊥
HasNames (Some x) = IsName x.config × IsName x.name

abbrev pub HasSome : {A : Type 0} → List A → Type 0
HasSome [] = ⊥
HasSome (x ∷ more) = Unit {0}

abbrev pub IsSome : Block → Type 0
IsSome end = ⊥
IsSome (next a b) = Unit {0}

-- the fields, memories and procedures of a program, and the names that binders give to ids
module _ (program : Program) (names : ℕ → Text) where
  -- the id is bound, to a name of the grammar
  abbrev pub IsBound : ℕ → Type 0
  IsBound x = IsName (names x)

  abbrev pub IsField : ℕ → Type 0
  IsField f = HasNames (slice_get program.fields f)

  -- memory 0 is not written
  abbrev pub IsMemory : ℕ → Type 0
  IsMemory m = (m == 0) ≡ false → IsName (memory_name program.memories m)

  abbrev pub IsControl : Control → Type 0
  IsControl (Lit n) = IsLiteral n
  IsControl (Var x) = IsBound x
  IsControl (Field f) = IsField f
  IsControl (StrideOf x k) = IsBound x × (k < 0x80000000)
  IsControl (Neg a) = IsControl a
  IsControl (Add a b) = IsControl a × IsControl b
  IsControl (Sub a b) = IsControl a × IsControl b
  IsControl (Mul a b) = IsControl a × IsControl b
  IsControl (Div a n) = IsControl a × IsLiteral n
  IsControl (Mod a n) = IsControl a × IsLiteral n

  abbrev pub IsCondition : Condition → Type 0
  IsCondition tree.True = Unit {0}
  IsCondition tree.False = Unit {0}
  IsCondition (Flag x) = IsBound x
  IsCondition (FieldFlag f) = IsField f
  IsCondition (Lt a b) = IsControl a × IsControl b
  IsCondition (Le a b) = IsControl a × IsControl b
  IsCondition (Gt a b) = IsControl a × IsControl b
  IsCondition (Ge a b) = IsControl a × IsControl b
  IsCondition (Eq a b) = IsControl a × IsControl b
  IsCondition (And a b) = IsCondition a × IsCondition b
  IsCondition (Or a b) = IsCondition a × IsCondition b

  abbrev pub IsAccess : ℕ → List Control → Type 0
  IsAccess x is = IsBound x × Each IsControl is

  abbrev pub IsDatum : Datum → Type 0
  IsDatum (Const n) = IsLiteral n
  IsDatum (Read x is) = IsAccess x is
  IsDatum (Negated a) = IsDatum a
  IsDatum (Plus a b) = IsDatum a × IsDatum b
  IsDatum (Minus a b) = IsDatum a × IsDatum b
  IsDatum (Times a b) = IsDatum a × IsDatum b
  IsDatum (Relu a) = IsDatum a
  IsDatum (Select a b c d) = IsDatum a × IsDatum b × IsDatum c × IsDatum d

  abbrev pub IsCoord : Coord → Type 0
  IsCoord (At a) = IsControl a
  IsCoord (Span a b) = IsControl a × IsControl b

  -- a window without coordinates would read as the whole buffer
  abbrev pub IsArgument : Argument → Type 0
  IsArgument (ControlArg e) = IsControl e
  IsArgument (ConditionArg c) = IsCondition c
  IsArgument (Whole x) = IsBound x
  IsArgument (Window x coords) = IsBound x × Each IsCoord coords × HasSome coords

  -- what a configuration write stores is no buffer
  abbrev pub IsStored : Argument → Type 0
  IsStored (ControlArg e) = IsControl e
  IsStored (ConditionArg c) = IsCondition c
  IsStored (Whole x) = ⊥
  IsStored (Window x coords) = ⊥

  -- no block is empty but that of a missing `else`, and a view has a span
  abbrev mutual
    pub IsStatement : Statement → Type 0
    IsStatement (Assign x is e) = IsAccess x is × IsDatum e
    IsStatement (Reduce x is e) = IsAccess x is × IsDatum e
    IsStatement (Config f a) = IsField f × IsStored a
    IsStatement Pass = Unit {0}
    IsStatement (If c a b) = IsCondition c × IsSome a × IsBlock a × IsBlock b
    IsStatement (For i lo hi b) = IsName i.name × IsControl lo × IsControl hi × IsSome b × IsBlock b
    IsStatement (Alloc x cell dims memory) = IsName x.name × Each IsControl dims × IsMemory memory
    IsStatement (View v x coords) =
        IsName v.name × IsBound x × Each IsCoord coords × (has_span coords ≡ true)
    IsStatement (Call k args) = IsName (callee_name program.procedures k) × Each IsArgument args

    pub IsBlock : Block → Type 0
    IsBlock end = Unit {0}
    IsBlock (next a b) = IsStatement a × IsBlock b

  -- a window has a dimension
  abbrev pub IsParamKind : ParamKind → Type 0
  IsParamKind (ControlParam kind) = Unit {0}
  IsParamKind (TensorParam cell dims memory) = Each IsControl dims × IsMemory memory
  IsParamKind (WindowParam cell dims memory) = Each IsControl dims × HasSome dims × IsMemory memory

  abbrev pub IsParam : Param → Type 0
  IsParam p = IsName p.binder.name × IsParamKind p.kind

-- a byte of a template: a line feed, or a blank to a tilde
abbrev pub IsTemplateByte : ℕ → Type 0
IsTemplateByte b = (b ≡ 10) ⊎ (is_printable b ≡ true)

abbrev pub IsTemplate : Option (List ℕ) → Type 0
IsTemplate None = Unit {0}
IsTemplate (Some text) = Each IsTemplateByte text

-- a procedure of a program, that can be written
pub record IsWritable (program : Program) (p : Procedure) : Type 0 where
  pub name : IsName p.name
  pub params : Each (IsParam program (names_of p)) p.params
  pub asserts : Each (IsCondition program (names_of p)) p.asserts
  pub some : IsSome p.body
  pub body : IsBlock program (names_of p) p.body
  pub template : IsTemplate p.template
