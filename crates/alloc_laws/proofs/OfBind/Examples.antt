-- The rule on closed procedures.
use Rattle.std.proofs.Common.{◌≡◌, ℕ, pos, true, false, List, [], ◌∷◌, None, refl}
use Rattle.std.specs.Prelude.{codes}
use Rattle.exo_tree.specs.Tree.{Binder, Cell, I8, I16, I32, Ui8, Control, Lit, Datum, Read, Plus, Times}
use Rattle.exo_tree.specs.Tree.{Assign, Reduce, Alloc}
use Rattle.exo_tree.specs.Tree.{Block, end, next, Param, TensorParam, Procedure, MemoryKind}
use Rattle.cursor_forward.specs.Causes.{WrongShape, NameTaken}
use Rattle.cursor_forward.specs.Proposals.{Plan}
use Rattle.cursor_forward.specs.Shifts.{at_index}
use Rattle.step_rules.specs.Rule.{Tried, Got, Not, Target}
use Rattle.step_rules.specs.Answer.{proposed}
use Rattle.alloc_laws.specs.Bind.Binding.{Form, AnyRead, Sum, Product, ReadOf, bind_rule}

abbrev named : ℕ → List ℕ → Binder
named n name = record { id = n; name = name }

abbrev eight : ℕ → List ℕ → Cell → Param
eight n name cell = record { binder = named n name; kind = TensorParam cell (Lit (pos 8) ∷ []) 0 }

abbrev plain_cells : MemoryKind
plain_cells = record {
  name = codes "DRAM";
  ctype = [];
  lanes = 0;
  cell = None;
  stack = false;
  read = true;
  write = true;
  reduce = true;
  header = [];
}

abbrev at_zero : List Control
at_zero = Lit (pos 0) ∷ []

-- y[0] += (x[0] + y[0]) * x[0], with y of that cell type
abbrev adds : Cell → Procedure
adds cell = record {
  name = codes "f";
  params = eight 0 (codes "x") I32 ∷ eight 1 (codes "y") cell ∷ [];
  asserts = [];
  body =
      next (Reduce 1 at_zero (Times (Plus (Read 0 at_zero) (Read 1 at_zero)) (Read 0 at_zero))) end;
  template = None;
}

abbrev target_of : Procedure → Target
target_of p = record {
  unit = record { procedures = p ∷ []; fields = []; memories = plain_cells ∷ [] };
  origins = [];
  number = 0;
  proc = p;
}

abbrev body_of : Tried Plan → Tried Block
body_of (Got m) = Got m.proc.body
body_of (Not cause) = Not cause

abbrev makes_of : Cell → Form → ℕ → List ℕ → Tried Block
makes_of cell f k name =
    body_of (proposed (bind_rule f k name) (target_of (adds cell)) (at_index 0))

abbrev makes : Form → ℕ → List ℕ → Tried Block
makes = makes_of I8

abbrev bound_as : Cell → Datum → Datum → Block
bound_as cell part whole =
    next (Alloc (named 2 (codes "b")) cell [] 0)
    (next (Assign 2 [] part) (next (Reduce 1 at_zero whole) end))

first_read : makes AnyRead 0 (codes "b")
    ≡ Got (bound_as I32 (Read 0 at_zero)
    (Times (Plus (Read 2 []) (Read 1 at_zero)) (Read 0 at_zero)))
first_read = refl

-- a single read keeps its cell type
of_y : makes (ReadOf 1) 0 (codes "b")
    ≡ Got (bound_as I8 (Read 1 at_zero)
    (Times (Plus (Read 0 at_zero) (Read 2 [])) (Read 0 at_zero)))
of_y = refl

of_short_y : makes_of I16 (ReadOf 1) 0 (codes "b")
    ≡ Got (bound_as I16 (Read 1 at_zero)
    (Times (Plus (Read 0 at_zero) (Read 2 [])) (Read 0 at_zero)))
of_short_y = refl

of_unsigned_y : makes_of Ui8 (ReadOf 1) 0 (codes "b")
    ≡ Got (bound_as Ui8 (Read 1 at_zero)
    (Times (Plus (Read 0 at_zero) (Read 2 [])) (Read 0 at_zero)))
of_unsigned_y = refl

second_of_x : makes (ReadOf 0) 1 (codes "b")
    ≡ Got (bound_as I32 (Read 0 at_zero)
    (Times (Plus (Read 0 at_zero) (Read 1 at_zero)) (Read 2 [])))
second_of_x = refl

sum : makes Sum 0 (codes "b")
    ≡ Got (bound_as I32 (Plus (Read 0 at_zero) (Read 1 at_zero)) (Times (Read 2 []) (Read 0 at_zero)))
sum = refl

all_of_it : makes Product 0 (codes "b")
    ≡ Got (bound_as I32 (Times (Plus (Read 0 at_zero) (Read 1 at_zero)) (Read 0 at_zero)) (Read 2 []))
all_of_it = refl

no_fourth : makes AnyRead 3 (codes "b") ≡ Not WrongShape
no_fourth = refl

taken : makes AnyRead 0 (codes "x") ≡ Not NameTaken
taken = refl
