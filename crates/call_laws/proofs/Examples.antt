-- The rule on closed procedures, by computation.
use Rattle.std.proofs.Common.{◌≡◌, ℕ, pos, true, false, List, [], ◌∷◌, None, refl}
use Rattle.std.specs.Prelude.{codes}
use Rattle.exo_tree.specs.Tree.{Size, Index, Binder, I32, Control, Lit, Var, StrideOf, Neg, Add}
use Rattle.exo_tree.specs.Tree.{Sub, Mul, Div, Mod, Const, At, Span, ControlArg, Assign, Config}
use Rattle.exo_tree.specs.Tree.{For}
use Rattle.exo_tree.specs.Tree.{View, Block, end, next, Param, ControlParam, TensorParam}
use Rattle.exo_tree.specs.Tree.{WindowParam}
use Rattle.exo_tree.specs.Tree.{Procedure, MemoryKind}
use Rattle.exo_tree.specs.Tree.{Lt, If, Pass}
use Rattle.cursor_forward.specs.Causes.{LimitPassed, Form, WideNumber}
use Rattle.cursor_forward.specs.Proposals.{Plan}
use Rattle.cursor_forward.specs.Shifts.{at_index}
use Rattle.step_rules.specs.Rule.{Tried, Got, Not, Target}
use Rattle.step_rules.specs.Answer.{proposed}
use Rattle.call_laws.specs.Simplify.{simplify_rule}

abbrev named : ℕ → List ℕ → Binder
named n name = record { id = n; name = name }

abbrev lit : ℕ → Control
lit n = Lit (pos n)

abbrev size : ℕ → List ℕ → Param
size n name = record { binder = named n name; kind = ControlParam Size }

abbrev tensor : ℕ → List Control → Param
tensor n extents = record { binder = named n (codes "x"); kind = TensorParam I32 extents 0 }

abbrev window : ℕ → List Control → Param
window n extents = record { binder = named n (codes "x"); kind = WindowParam I32 extents 0 }

abbrev procedure : List Param → Block → Procedure
procedure params b =
    record { name = codes "f"; params = params; asserts = []; body = b; template = None }

abbrev pub plain_cells : MemoryKind
plain_cells = record {
  name = codes "DRAM";
  ctype = [];
  lanes = 0;
  cell = None;
  stack = false;
  read = true;
  write = true;
  reduce = true;
  header = [];
}

abbrev target_of : Procedure → Target
target_of p = record {
  unit = record {
    procedures = p ∷ [];
    fields = record { config = codes "Cfg"; name = codes "s"; kind = Index } ∷ [];
    memories = plain_cells ∷ [];
  };
  origins = [];
  number = 0;
  proc = p;
}

-- what the rule makes of the body, or why it refuses
abbrev body_of : Tried Plan → Tried Block
body_of (Got m) = Got m.proc.body
body_of (Not cause) = Not cause

abbrev simplifies : List Param → Block → Tried Block
simplifies params b = body_of (proposed simplify_rule (target_of (procedure params b)) (at_index 0))

-- ids: sizes m, n are 0, 1, the buffer x is 2, the loop's variable l is 3, the view w is 4
abbrev two : List Param
two = size 0 (codes "m") ∷ size 1 (codes "n") ∷ tensor 2 (Var 0 ∷ Var 1 ∷ []) ∷ []

abbrev eight : List Param
eight = size 0 (codes "m") ∷ size 1 (codes "n") ∷ tensor 2 (lit 8 ∷ []) ∷ []

abbrev loop : Control → Block → Block
loop hi b = next (For (named 3 (codes "l")) (lit 0) hi b) end

abbrev stores : List Control → Block
stores is = next (Assign 2 is (Const (pos 5))) end

-- x[0 + l, n - 1] and x[l, n - 1]
sum : simplifies two (loop (Var 0) (stores (Add (lit 0) (Var 3) ∷ Sub (Var 1) (lit 1) ∷ [])))
    ≡ Got (loop (Var 0) (stores (Var 3 ∷ Sub (Var 1) (lit 1) ∷ [])))
sum = refl

-- x[7 - l] and x[-l + 7]
negated : simplifies eight (loop (lit 8) (stores (Sub (lit 7) (Var 3) ∷ [])))
    ≡ Got (loop (lit 8) (stores (Add (Neg (Var 3)) (lit 7) ∷ [])))
negated = refl

-- x[4 * (l / 4) + l % 4] and x[l]
divided : simplifies eight (loop (lit 8)
    (stores (Add (Mul (lit 4) (Div (Var 3) (pos 4))) (Mod (Var 3) (pos 4)) ∷ [])))
    ≡ Got (loop (lit 8) (stores (Var 3 ∷ [])))
divided = refl

-- x[(l + 0) / 4] and x[l / 4]: where a quotient stays its operand is simplified
operand : simplifies eight (loop (lit 8) (stores (Div (Add (Var 3) (lit 0)) (pos 4) ∷ [])))
    ≡ Got (loop (lit 8) (stores (Div (Var 3) (pos 4) ∷ [])))
operand = refl

-- the bound of a loop
bounds : simplifies eight (loop (Mul (lit 2) (lit 4)) (stores (Var 3 ∷ [])))
    ≡ Got (loop (lit 8) (stores (Var 3 ∷ [])))
bounds = refl

-- ---- strides

abbrev strided : Control → Block
strided e =
    next (View (named 4 (codes "w")) 2 (Span (lit 0) (lit 1) ∷ At (lit 0) ∷ []))
    (next (Config 0 (ControlArg e)) end)

-- of a view of a tensor: the extent behind its dimension
dense : simplifies two (strided (StrideOf 4 0)) ≡ Got (strided (Var 1))
dense = refl

-- of a view of a window: that of the window
of_window : simplifies
    (size 0 (codes "m") ∷ size 1 (codes "n") ∷ window 2 (Var 0 ∷ Var 1 ∷ []) ∷ [])
    (strided (Add (StrideOf 4 0) (lit 0)))
    ≡ Got (strided (StrideOf 2 0))
of_window = refl

-- ---- refusals

-- a coefficient that is no literal of a text
passed : simplifies eight (loop (lit 8)
    (stores (Add (Mul (lit 2147483647) (Var 3)) (Var 3) ∷ [])))
    ≡ Not LimitPassed
passed = refl

-- one that passes 2^62
wide : simplifies eight (loop (lit 8)
    (stores (Mul (lit 2147483647) (Mul (lit 2147483647) (Mul (lit 2) (Var 3))) ∷ [])))
    ≡ Not (Form WideNumber)
wide = refl

-- so it may be in a test, of which nothing has to be shown
wide_test : simplifies eight (loop (lit 8) (next (If (Lt
    (Mul (lit 2147483647) (Mul (lit 2147483647) (Mul (lit 2) (Var 3)))) (lit 0))
    (next Pass end) end) end))
    ≡ Not (Form WideNumber)
wide_test = refl
