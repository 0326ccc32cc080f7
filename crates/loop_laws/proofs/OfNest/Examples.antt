-- Procedures for closed examples, and what rules propose for them.
use Rattle.std.proofs.Common.{ℕ, ℤ, pos, negsuc, true, false, List, [], ◌∷◌, map, Option, Some}
use Rattle.std.proofs.Common.{None, option_map, arith}
use Rattle.std.proofs.lemmas.Int.{ints}
use Rattle.std.specs.Prelude.{codes}
use Rattle.exo_tree.specs.Tree.{Size, I32, Control, Lit, Statement}
use Rattle.exo_tree.specs.Tree.{Binder, For, Block, end, next, Param, ControlParam, TensorParam}
use Rattle.exo_tree.specs.Tree.{Procedure, MemoryKind, ConfigField}
use Rattle.exo_meaning.specs.Value.{Value, Undefined}
use Rattle.exo_meaning.specs.Scene.{Shape, whole, updated}
use Rattle.exo_meaning.specs.State.{State}
use Rattle.exo_meaning.specs.Run.{program_world, run, tensor as cells_of}
use Rattle.affine_forms.specs.Affine.{Affine, Constraints, HasNoIntegerPoint}
use Rattle.affine_systems.specs.Outcomes.{Owed}
use Rattle.cursor_forward.specs.Shifts.{at_index}
use Rattle.cursor_forward.specs.Proposals.{Plan}
use Rattle.step_rules.specs.Rule.{Tried, Got, Not, Target, Rule}
use Rattle.step_rules.specs.Answer.{proposed}

-- ---- procedures

abbrev pub named : ℕ → List ℕ → Binder
named n name = record { id = n; name = name }

abbrev pub size : ℕ → List ℕ → Param
size n name = record { binder = named n name; kind = ControlParam Size }

abbrev pub tensor : ℕ → List ℕ → List Control → Param
tensor n name dims = record { binder = named n name; kind = TensorParam I32 dims 0 }

abbrev pub procedure : List Param → Block → Procedure
procedure params b =
    record { name = codes "f"; params = params; asserts = []; body = b; template = None }

abbrev pub number : ℕ → Control
number n = Lit (pos n)

abbrev pub one : Statement → Block
one a = next a end

abbrev pub loop : Binder → Control → Control → Block → Block
loop i lo hi b = one (For i lo hi b)

abbrev pub plain_cells : MemoryKind
plain_cells = record {
  name = codes "DRAM";
  ctype = [];
  lanes = 0;
  cell = None;
  stack = false;
  read = true;
  write = true;
  reduce = true;
  header = [];
}

-- in a unit with this procedure alone
abbrev pub with_fields : List ConfigField → Procedure → Target
with_fields fields p = record {
  unit = record { procedures = p ∷ []; fields = fields; memories = plain_cells ∷ [] };
  origins = [];
  number = 0;
  proc = p;
}

abbrev pub target_of : Procedure → Target
target_of p = with_fields [] p

-- Cfg.w : size
abbrev pub one_field : List ConfigField
one_field = record { config = codes "Cfg"; name = codes "w"; kind = Size } ∷ []

-- ---- runs

-- these buffers, which hold nothing
abbrev pub starts : (ℕ → Option Shape) → State
starts shapes = record {
  scene = record {
    control = λ x. pos 0;
    buffers = shapes;
    views = λ x. option_map (λ (s : Shape). record { buffer = x; sides = whole s.dims }) (shapes x);
    fields = λ x. pos 0;
  };
  cells = λ x at. Undefined;
}

-- buffer 0 with these extents
abbrev pub one_buffer : List ℤ → ℕ → Option Shape
one_buffer dims = updated (λ x. None) 0 (Some (cells_of I32 dims))

-- and another one of so many cells
abbrev pub two_buffers : ℤ → ℕ → Option Shape
two_buffers n = updated (one_buffer (n ∷ [])) 1 (Some (cells_of I32 (n ∷ [])))

-- the cell of a buffer after the block
abbrev pub leaves : Target → Block → State → ℕ → List ℤ → Option Value
leaves t b s x at =
    option_map (λ (u : State). u.cells x at) (run (program_world t.unit) b s)

-- ---- two turns of loops from 0 up to 16 that meet

abbrev pub sum : ℤ → ℤ → ℤ → Affine
sum k a b = record { constant = k; coefficients = a ∷ b ∷ [] }

-- they are equal, and the first is less
abbrev pub same_turn : Constraints
same_turn = record {
  variables = 2;
  equations = sum (pos 0) (pos 1) (negsuc 0) ∷ [];
  rows = sum (pos 0) (pos 1) (pos 0) ∷ sum (pos 15) (negsuc 0) (pos 0)
      ∷ sum (pos 0) (pos 0) (pos 1) ∷ sum (pos 15) (pos 0) (negsuc 0)
      ∷ sum (negsuc 0) (negsuc 0) (pos 1) ∷ [];
}

pub no_same_turn : HasNoIntegerPoint same_turn
no_same_turn [] h = let e = h.one_each in absurd (omega (arith, e))
no_same_turn (a ∷ []) h = let e = h.one_each in absurd (omega (arith, e))
no_same_turn (a ∷ b ∷ []) h =
    let e = h.equations_hold.0 in
    let r = h.rows_hold.1.1.1.1.0 in
    absurd (omega (arith, ints, e, r))
no_same_turn (a ∷ b ∷ c ∷ rest) h = let e = h.one_each in absurd (omega (arith, e))

abbrev pub IsClosed : Owed → Type 0
IsClosed o = HasNoIntegerPoint o.system

-- ---- what is proposed

abbrev pub body_of : Tried Plan → Option Block
body_of (Got m) = Some m.proc.body
body_of (Not cause) = None

abbrev pub texts_of : Tried Plan → List (List ℕ)
texts_of (Got m) = map (λ o. o.what) m.must
texts_of (Not cause) = []

-- for the first statement of the procedure
abbrev pub on_first : Rule → Procedure → Tried Plan
on_first r p = proposed r (target_of p) (at_index 0)
