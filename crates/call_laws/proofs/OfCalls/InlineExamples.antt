-- Calls that the rule takes, and one that it refuses.
use Rattle.std.proofs.Common.{◌≡◌, ℕ, true, pos, List, [], ◌∷◌, Some, None, refl}
use Rattle.exo_tree.specs.Tree.{I8, Size, Truth, Binder, Lit, Var, Field, StrideOf, Add, Sub, Flag, Le}
use Rattle.exo_tree.specs.Tree.{Const, At, Span, Argument, ControlArg, ConditionArg, Whole, Window}
use Rattle.exo_tree.specs.Tree.{ControlParam, TensorParam, WindowParam, Param, ParamKind, Statement, Assign, If, For, Call}
use Rattle.exo_tree.specs.Tree.{Block, end, next, Procedure}
use Rattle.exo_tree.specs.Context.{Here}
use Rattle.exo_tree.specs.Places.{Main, Path}
use Rattle.meaning_laws.specs.Substitute.{catches}
use Rattle.match_laws.specs.Inline.InlineRule.{with_fresh_ids}
use Rattle.cursor_forward.specs.Causes.{WrongShape}
use Rattle.step_rules.specs.Rule.{Got, Not, Target, Spot}
use Rattle.call_laws.specs.Calls.Inline.{inlined_there, inline_rule}

abbrev named : ℕ → ℕ → Binder
named x c = record { id = x; name = c ∷ [] }

abbrev param : ℕ → ℕ → ParamKind → Param
param x c kind = record { binder = named x c; kind = kind }

abbrev procedure : List Param → Block → Procedure
procedure ps b = record { name = []; params = ps; asserts = []; body = b; template = None }

abbrev only : Statement → Block
only a = next a end

-- `def fill(n: size, w: [i8][n]): for l in seq(0, n): w[l] = 0`
abbrev fill : Procedure
fill =
    procedure (param 0 110 (ControlParam Size) ∷ param 1 119 (WindowParam I8 (Var 0 ∷ []) 0) ∷ [])
    (only (For (named 2 108) (Lit (pos 0)) (Var 0) (only (Assign 1 (Var 2 ∷ []) (Const (pos 0))))))

-- `def set(b: bool, x: i8): if b: x = 1`
abbrev set : Procedure
set =
    procedure (param 0 98 (ControlParam Truth) ∷ param 1 120 (TensorParam I8 [] 0) ∷ [])
    (only (If (Flag 0) (only (Assign 1 [] (Const (pos 1)))) end))

-- `def col(N: size, M: size, A: i8[M, N]): ..`: its ids are ids of the callees too
abbrev col : Block → Procedure
col b =
    procedure
    (param 0 78 (ControlParam Size) ∷ param 1 77 (ControlParam Size)
    ∷ param 2 65 (TensorParam I8 (Var 1 ∷ Var 0 ∷ []) 0) ∷ [])
    b

abbrev target : ℕ → List Argument → Target
target k args =
    let p = col (only (Call k args)) in
    record {
      unit = record { procedures = fill ∷ set ∷ p ∷ []; fields = []; memories = [] };
      origins = [];
      number = 2;
      proc = p;
    }

abbrev first : Path
first = record { branch = Main; index = 0 } ∷ []

abbrev spot : ℕ → List Argument → Spot
spot k args =
    record {
      target = target k args;
      piece = record { path = first; count = 1 };
      opened = record { around = Here end; piece = only (Call k args) };
    }

-- `fill(M, A[0:M, N - 1])`
abbrev a_column : List Argument
a_column =
    ControlArg (Var 1)
    ∷ Window 2 (Span (Lit (pos 0)) (Var 1) ∷ At (Sub (Var 0) (Lit (pos 1))) ∷ []) ∷ []

taken : inline_rule.piece (target 0 a_column) first ≡ Got (record { path = first; count = 1 })
taken = refl

-- `for l in seq(0, M): A[0 + l, N - 1] = 0`
abbrev filled_column : Block
filled_column =
    only (For (named 3 108) (Lit (pos 0)) (Var 1)
    (only (Assign 2 (Add (Lit (pos 0)) (Var 3) ∷ Sub (Var 0) (Lit (pos 1)) ∷ []) (Const (pos 0)))))

column : inlined_there (spot 0 a_column) 3 ≡ Some filled_column
column = refl

-- `set(N <= M, A[0, 0])`: a condition for a flag, a cell for a tensor without dimensions
abbrev a_cell : List Argument
a_cell =
    ConditionArg (Le (Var 0) (Var 1)) ∷ Window 2 (At (Lit (pos 0)) ∷ At (Lit (pos 0)) ∷ []) ∷ []

abbrev set_cell : Block
set_cell =
    only (If (Le (Var 0) (Var 1))
    (only (Assign 2 (Lit (pos 0) ∷ Lit (pos 0) ∷ []) (Const (pos 1)))) end)

cell : inlined_there (spot 1 a_cell) 3 ≡ Some set_cell
cell = refl

-- `fill(stride(A, 0), A[..])` and `fill(Cfg.f, A[..])` have no shape
a_stride : inline_rule.piece (target 0 (ControlArg (StrideOf 2 0) ∷ Whole 2 ∷ [])) first ≡ Not WrongShape
a_stride = refl

a_field : inline_rule.piece (target 0 (ControlArg (Field 0) ∷ Whole 2 ∷ [])) first ≡ Not WrongShape
a_field = refl

-- no call stands there
nothing : inline_rule.piece (target 0 a_column) (record { branch = Main; index = 1 } ∷ []) ≡ Not WrongShape
nothing = refl

-- a number that is read as a flag is caught: the rules of the callee are a premise
abbrev mixed : Procedure
mixed =
    procedure (param 0 110 (ControlParam Size) ∷ param 1 120 (TensorParam I8 [] 0) ∷ [])
    (only (If (Flag 0) (only (Assign 1 [] (Const (pos 1)))) end))

caught : catches 3 (Var 1) (with_fresh_ids 3 mixed).body ≡ true
caught = refl
