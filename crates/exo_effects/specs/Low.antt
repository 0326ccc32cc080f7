-- The uses of a well-formed procedure are affine, over variables below 2^31.
use Rattle.std.specs.Prelude.{◌≡◌, ◌^◌, ℕ, nat_lt, Bool, true, ◌&&◌, List, Option}
use Rattle.std.specs.List.{list_all}
use Rattle.exo_tree.specs.Tree.{Kind, Control, Condition, Coord, At, Span, Datum, Const, Read}
use Rattle.exo_tree.specs.Tree.{Negated, Relu, Plus, Minus, Times, Select}
use Rattle.exo_tree.specs.Tree.{Argument, ControlArg, ConditionArg, Whole, Window, Statement, Assign}
use Rattle.exo_tree.specs.Tree.{Reduce, Config, Pass, If, For, Alloc, View, Call, Block, end, next}
use Rattle.exo_tree.specs.Tree.{ParamKind, ControlParam, TensorParam, WindowParam, Procedure, Program}
use Rattle.exo_tree.specs.Places.{Path}
use Rattle.exo_meaning.specs.Calls.{Callee}
use Rattle.exo_meaning.specs.Units.{IsProcedure}
use Rattle.meaning_laws.specs.Facts.{Fact, Holds, Fails}
use Rattle.affine_forms.specs.Forms.{Allowed, is_affine}
use Rattle.affine_forms.specs.Formulas.{AllowedFlags, is_affine_condition}
use Rattle.exo_effects.specs.Uses.{Use, uses_at, argument_at}

-- ---- expressions

abbrev pub low_numbers : Allowed
low_numbers = record { variable = λ x. nat_lt x (2 ^ 31); field = λ f. true; stride = λ x k. true }

abbrev pub low_names : AllowedFlags
low_names = record { numbers = low_numbers; variable = λ x. nat_lt x (2 ^ 31); field = λ f. true }

abbrev pub is_low : Control → Bool
is_low e = is_affine low_numbers e

abbrev pub condition_is_low : Condition → Bool
condition_is_low c = is_affine_condition low_names c

abbrev pub coord_is_low : Coord → Bool
coord_is_low (At e) = is_low e
coord_is_low (Span a b) = is_low a && is_low b

-- ---- uses

abbrev pub fact_is_low : Fact → Bool
fact_is_low (Holds c) = condition_is_low c
fact_is_low (Fails c) = condition_is_low c

abbrev pub use_is_low : Use → Bool
use_is_low x =
    list_all fact_is_low x.round
    && (list_all coord_is_low x.coords && list_all (λ y. nat_lt y (2 ^ 31)) x.own)

abbrev pub uses_are_low : List Use → Bool
uses_are_low l = list_all use_is_low l

-- ---- what they are made from

abbrev pub datum_is_low : Datum → Bool
datum_is_low (Const n) = true
datum_is_low (Read x is) = list_all is_low is
datum_is_low (Negated a) = datum_is_low a
datum_is_low (Relu a) = datum_is_low a
datum_is_low (Plus a b) = datum_is_low a && datum_is_low b
datum_is_low (Minus a b) = datum_is_low a && datum_is_low b
datum_is_low (Times a b) = datum_is_low a && datum_is_low b
datum_is_low (Select a b c d) =
    (datum_is_low a && datum_is_low b) && (datum_is_low c && datum_is_low d)

-- a window that is passed
abbrev pub argument_is_low : Argument → Bool
argument_is_low (ControlArg e) = true
argument_is_low (ConditionArg c) = true
argument_is_low (Whole x) = true
argument_is_low (Window x coords) = list_all coord_is_low coords

abbrev pub kind_is_low : ParamKind → Bool
kind_is_low (ControlParam kind) = true
kind_is_low (TensorParam cell dims memory) = list_all is_low dims
kind_is_low (WindowParam cell dims memory) = list_all is_low dims

-- all that uses are made from
abbrev mutual
  pub block_is_low : Block → Bool
  block_is_low end = true
  block_is_low (next a b) = statement_is_low a && block_is_low b

  pub statement_is_low : Statement → Bool
  statement_is_low (Assign x is e) = list_all is_low is && datum_is_low e
  statement_is_low (Reduce x is e) = list_all is_low is && datum_is_low e
  statement_is_low (Config f a) = true
  statement_is_low Pass = true
  statement_is_low (If c a b) = condition_is_low c && (block_is_low a && block_is_low b)
  statement_is_low (For i lo hi b) =
      nat_lt i.id (2 ^ 31) && ((is_low lo && is_low hi) && block_is_low b)
  statement_is_low (Alloc x cell dims memory) = list_all is_low dims
  statement_is_low (View w x coords) = list_all coord_is_low coords
  statement_is_low (Call k args) = list_all argument_is_low args

abbrev pub procedure_is_low : Procedure → Bool
procedure_is_low p = list_all (λ q. kind_is_low q.kind) p.params && block_is_low p.body

-- a well-formed procedure is so, and so are the uses of each piece of one
abbrev pub LowLaw : Type 0
LowLaw =
    (fields : ℕ → Option Kind) (memories : ℕ) (callees : ℕ → Option Callee) (p : Procedure)
    → IsProcedure fields memories callees p
    → procedure_is_low p ≡ true

abbrev pub UsesLowLaw : Type 0
UsesLowLaw =
    (u : Program) (p : Procedure) (path : Path) (count : ℕ)
    → procedure_is_low p ≡ true
    → uses_are_low (uses_at u p path count) ≡ true

-- and what each call of one passes
abbrev pub PassedLowLaw : Type 0
PassedLowLaw =
    (u : Program) (p : Procedure) (path : Path) (k : ℕ)
    → procedure_is_low p ≡ true
    → uses_are_low (argument_at u p path k) ≡ true
