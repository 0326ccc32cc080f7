-- Closed units, by which the rules of widths with calls can be read off.
use Rattle.std.specs.Prelude.{◌≡◌, ℕ, pos, ◌==◌, Bool, true, List, [], ◌∷◌, Option, Some, None}
use Rattle.exo_tree.specs.Tree.{I32, Size, Control, Lit, Var, Mul, Lt, ControlArg, Statement, If}
use Rattle.exo_tree.specs.Tree.{Alloc, Pass, Call, end, next, ControlParam, Procedure, MemoryKind}
use Rattle.exo_tree.specs.Tree.{Program}
use Rattle.exo_modes.specs.Calls.Closed.{closed}
use Rattle.c_widths.specs.Raises.{given_to, widest}

-- def p(n: size): BODY, where n has that number
abbrev pub of_size : ℕ → Option (List ℕ) → Statement → Procedure
of_size n template a = record {
  name = [];
  params = record { binder = record { id = n; name = [] }; kind = ControlParam Size } ∷ [];
  asserts = [];
  body = next a end;
  template = template;
}

abbrev pub function : ℕ → Statement → Procedure
function n a = of_size n None a

abbrev pub instruction : ℕ → Statement → Procedure
instruction n a = of_size n (Some []) a

abbrev pub unit_of : List Procedure → List MemoryKind → Program
unit_of ps memories = record { procedures = ps; fields = []; memories = memories }

abbrev pub only : ℕ → ℕ → Bool
only k j = j == k

-- k, the instructions that it calls, and what these call
abbrev pub with_called : List Procedure → ℕ → ℕ → Bool
with_called ps k = closed (λ p. true) (only k) 0 ps

-- if e < 5: pass
abbrev pub asks : Control → Statement
asks e = If (Lt e (Lit (pos 5))) (next Pass end) end

-- 2147483647 * e
abbrev pub times : Control → Control
times e = Mul (Lit (pos 2147483647)) e

-- ---- a function that fits by itself, and one that gives it twice as much

abbrev pub doubled : List Procedure
doubled =
    function 0 (asks (times (Var 0)))
    ∷ function 1 (Call 0 (ControlArg (Mul (Lit (pos 2)) (Var 1)) ∷ []))
    ∷ []

-- ---- an instruction that does not fit, reached through another one

abbrev pub nested : List Procedure
nested =
    instruction 0 (asks (times (times (Var 0))))
    ∷ instruction 1 (Call 0 (ControlArg (Var 1) ∷ []))
    ∷ function 2 (Call 1 (ControlArg (Var 2) ∷ []))
    ∷ []

-- ---- n * n * n cells on the stack

abbrev pub stack : MemoryKind
stack = record {
  name = [];
  ctype = [];
  lanes = 0;
  cell = None;
  stack = true;
  read = true;
  write = true;
  reduce = true;
  header = [];
}

abbrev pub cube : ℕ → Statement
cube n = Alloc (record { id = 3; name = [] }) I32 (Var n ∷ Var n ∷ Var n ∷ []) 0

abbrev pub stacked : List Procedure
stacked = instruction 0 (cube 0) ∷ function 1 (Call 0 (ControlArg (Var 1) ∷ [])) ∷ []

-- so large a number of cells, but for a dimension of 0
abbrev pub no_cells : Statement
no_cells =
    Alloc (record { id = 3; name = [] }) I32
    (Lit (pos 2147483647)
    ∷ Lit (pos 2147483647)
    ∷ Lit (pos 2147483647)
    ∷ Lit (pos 0)
    ∷ [])
    0

pub record CallsWiden : Type 0 where
  pub fits_alone : widest (unit_of doubled []) (only 0) (only 0) ≡ None
  pub is_given : given_to doubled (λ j. true) 0 0 ≡ 4294967294
  pub wide_by_its_caller : widest (unit_of doubled []) (λ j. true) (λ j. true) ≡ Some 0
  pub through_instructions : widest (unit_of nested []) (only 2) (with_called nested 2) ≡ Some 0
  pub not_followed : widest (unit_of nested []) (only 2) (only 2) ≡ None
  pub not_printed :
      widest (unit_of stacked (stack ∷ [])) (only 1) (with_called stacked 1) ≡ None
  pub printed :
      widest (unit_of (function 0 (cube 0) ∷ []) (stack ∷ [])) (only 0) (only 0) ≡ Some 0
  pub none_of_many :
      widest (unit_of (function 0 no_cells ∷ []) (stack ∷ [])) (only 0) (only 0) ≡ None
