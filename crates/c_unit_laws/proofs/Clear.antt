-- What the C of a block asks of memories: cells alone are read, written and viewed, and lanes go as a whole.
use Rattle.std.proofs.Common.{◌≡◌, ℕ, Bool, true, false, List, [], ◌∷◌, sym, ◌∙◌, subst, true≢false}
use Rattle.std.specs.Prelude.{⊤}
use Rattle.exo_tree.specs.Tree.{Control, Coord, Datum, Const, Read, Negated, Relu, Plus, Minus, Times, Select, Argument, ControlArg, ConditionArg, Whole, Window, Statement, Assign, Reduce, Config, Pass, If, For, Alloc, View, Call, Block, end, next, Param, ParamKind, ControlParam, TensorParam, WindowParam}
use Rattle.memory_kinds.specs.Homes.{Homes, homes_after}
use Rattle.c_lowering.specs.Made.Lowered.{Memory, Naming}
use Rattle.c_unit_laws.specs.Follows.Good.{EndsInSpan, EndsInLanes, AreLiterals, is_function}
use Rattle.c_unit_laws.proofs.Forms.{lanes_in}
use Rattle.c_unit_laws.proofs.Expressions.{ReadsCells}

-- ---- arguments

-- a buffer that is given: a function takes none with lanes, and a window has all of them
abbrev pub IsClearBuffer : (ℕ → ℕ) → Bool → Argument → Type 0
IsClearBuffer lanes function (ControlArg a) = ⊤
IsClearBuffer lanes function (ConditionArg c) = ⊤
IsClearBuffer lanes function (Whole x) = function ≡ true → lanes x ≡ 0
IsClearBuffer lanes function (Window x coords) = (function ≡ true → lanes x ≡ 0) × EndsInSpan (lanes x) coords

abbrev pub IsClearArgument : (ℕ → ℕ) → Bool → ParamKind → Argument → Type 0
IsClearArgument lanes function (ControlParam kind) a = ⊤
IsClearArgument lanes function (TensorParam cell dims memory) a = IsClearBuffer lanes function a
IsClearArgument lanes function (WindowParam cell dims memory) a = IsClearBuffer lanes function a

abbrev pub AreClearArguments : (ℕ → ℕ) → Bool → List Param → List Argument → Type 0
AreClearArguments lanes function [] args = ⊤
AreClearArguments lanes function (p ∷ ps) [] = ⊤
AreClearArguments lanes function (p ∷ ps) (a ∷ args) = IsClearArgument lanes function p.kind a × AreClearArguments lanes function ps args

-- ---- blocks

abbrev pub SuitsMemory : Memory → List Control → Type 0
SuitsMemory memory dims = EndsInLanes memory.lanes dims × (memory.stack ≡ true → AreLiterals dims)

module _ (naming : Naming) where
  abbrev mutual
    pub IsClear : Homes → Block → Type 0
    IsClear home end = ⊤
    IsClear home (next a b) = IsClearStatement home a × IsClear (homes_after home a) b

    pub IsClearStatement : Homes → Statement → Type 0
    IsClearStatement home (Assign x is e) = (lanes_in naming home x ≡ 0) × ReadsCells (lanes_in naming home) e
    IsClearStatement home (Reduce x is e) = (lanes_in naming home x ≡ 0) × ReadsCells (lanes_in naming home) e
    IsClearStatement home (Config f a) = ⊤
    IsClearStatement home Pass = ⊤
    IsClearStatement home (If c a b) = IsClear home a × IsClear home b
    IsClearStatement home (For i lo hi b) = IsClear home b
    IsClearStatement home (Alloc x cell dims memory) = SuitsMemory (naming.memory memory) dims
    IsClearStatement home (View w x coords) = lanes_in naming home x ≡ 0
    IsClearStatement home (Call k args) = AreClearArguments (lanes_in naming home) (is_function (naming.routine k).template) (naming.routine k).params args

  abbrev pub IsClearKind : ParamKind → Type 0
  IsClearKind (ControlParam kind) = ⊤
  IsClearKind (TensorParam cell dims memory) = (naming.memory memory).lanes ≡ 0
  IsClearKind (WindowParam cell dims memory) = (naming.memory memory).lanes ≡ 0

  abbrev pub AreClearParams : List Param → Type 0
  AreClearParams [] = ⊤
  AreClearParams (p ∷ ps) = IsClearKind p.kind × AreClearParams ps

  -- ---- where all memories are plain

  module _ (cells : (k : ℕ) → (naming.memory k).lanes ≡ 0) (heap : (k : ℕ) → (naming.memory k).stack ≡ false) where
    ends_plain : (l : ℕ) (cs : List Coord) → l ≡ 0 → EndsInSpan l cs
    ends_plain l cs e = subst (λ n. EndsInSpan n cs) (sym e) tt

    plain_reads : (home : Homes) (e : Datum) → ReadsCells (lanes_in naming home) e
    plain_reads home (Const n) = tt
    plain_reads home (Read x is) = cells (home x)
    plain_reads home (Negated a) = plain_reads home a
    plain_reads home (Relu a) = plain_reads home a
    plain_reads home (Plus a b) = (plain_reads home a, plain_reads home b)
    plain_reads home (Minus a b) = (plain_reads home a, plain_reads home b)
    plain_reads home (Times a b) = (plain_reads home a, plain_reads home b)
    plain_reads home (Select a b c d) = (plain_reads home a, plain_reads home b, plain_reads home c, plain_reads home d)

    plain_buffer : (home : Homes) (function : Bool) (a : Argument) → IsClearBuffer (lanes_in naming home) function a
    plain_buffer home function (ControlArg a) = tt
    plain_buffer home function (ConditionArg c) = tt
    plain_buffer home function (Whole x) = λ h. cells (home x)
    plain_buffer home function (Window x coords) = (λ h. cells (home x), ends_plain (lanes_in naming home x) coords (cells (home x)))

    plain_argument : (home : Homes) (function : Bool) (kind : ParamKind) (a : Argument) → IsClearArgument (lanes_in naming home) function kind a
    plain_argument home function (ControlParam kind) a = tt
    plain_argument home function (TensorParam cell dims memory) a = plain_buffer home function a
    plain_argument home function (WindowParam cell dims memory) a = plain_buffer home function a

    plain_arguments : (home : Homes) (function : Bool) (ps : List Param) (args : List Argument) → AreClearArguments (lanes_in naming home) function ps args
    plain_arguments home function [] args = tt
    plain_arguments home function (p ∷ ps) [] = tt
    plain_arguments home function (p ∷ ps) (a ∷ args) = (plain_argument home function p.kind a, plain_arguments home function ps args)

    mutual
      pub plain_is_clear : (home : Homes) (b : Block) → IsClear home b
      plain_is_clear home end = tt
      plain_is_clear home (next a b) = (plain_statement home a, plain_is_clear (homes_after home a) b)

      plain_statement : (home : Homes) (a : Statement) → IsClearStatement home a
      plain_statement home (Assign x is e) = (cells (home x), plain_reads home e)
      plain_statement home (Reduce x is e) = (cells (home x), plain_reads home e)
      plain_statement home (Config f a) = tt
      plain_statement home Pass = tt
      plain_statement home (If c a b) = (plain_is_clear home a, plain_is_clear home b)
      plain_statement home (For i lo hi b) = plain_is_clear home b
      plain_statement home (Alloc x cell dims memory) = (subst (λ n. EndsInLanes n dims) (sym (cells memory)) tt, λ h. absurd (true≢false (sym h ∙ heap memory)))
      plain_statement home (View w x coords) = cells (home x)
      plain_statement home (Call k args) = plain_arguments home (is_function (naming.routine k).template) (naming.routine k).params args

    pub plain_params : (ps : List Param) → AreClearParams ps
    plain_params [] = tt
    plain_params (p ∷ ps) = (plain_kind p.kind, plain_params ps)
      where
        plain_kind : (kind : ParamKind) → IsClearKind kind
        plain_kind (ControlParam kind) = tt
        plain_kind (TensorParam cell dims memory) = cells memory
        plain_kind (WindowParam cell dims memory) = cells memory
