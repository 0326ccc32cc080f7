-- Closed instances of what the laws ask: a block that allocates two cells and stores into one of
-- them, and a call that hands on a column of a tensor.
use Rattle.std.specs.Prelude.{◌≡◌, ℕ, pos, nat_lt, Bool, false, true, List, [], ◌∷◌, codes, Some}
use Rattle.std.specs.Prelude.{None}
use Rattle.std.specs.Option.{IsSome}
use Rattle.exo_tree.specs.Tree.{Size, I32, Lit, Var, Mul, Lt, Const, Assign, Pass, If, Alloc}
use Rattle.exo_tree.specs.Tree.{ControlArg, Call, Block, end, next, ControlParam, Procedure}
use Rattle.exo_tree.specs.Tree.{Program}
use Rattle.exo_meaning.specs.Value.{Undefined}
use Rattle.exo_meaning.specs.State.{State}
use Rattle.exo_meaning.specs.Run.{World, run}
use Rattle.c_widths.specs.Raises.{given_to, widest}
use Rattle.c_widths.specs.Few.{AllocatesFew, no_fewness}
use Rattle.c_unit_laws.specs.Follows.Machine.Machine.{Done, Machine}
use Rattle.c_unit_laws.specs.Follows.Machine.CRun.{run_c}
use Rattle.c_unit_laws.specs.Follows.Machine.Examples.{bare, alone}
use Rattle.c_lowering.specs.Made.Lowered.{Routine, Naming, Forms, NoForm, param_forms, block_of}
use Rattle.c_lowering.specs.Made.Examples.{fill, col}
use Rattle.c_unit_laws.specs.Follows.Simulation.{Ground, Layout, Matches}
use Rattle.c_unit_laws.specs.Follows.Good.{IsGoodBlock}
use Rattle.c_unit_laws.specs.Instance.{filling}

-- t : i32[2]
-- t[1] = 7
abbrev pub body : Block
body =
    next (Alloc (record { id = 0; name = codes "t" }) I32 (Lit (pos 2) ∷ []) 0)
    (next (Assign 0 (Lit (pos 1) ∷ []) (Const (pos 7))) end)

abbrev pub nothing_called : Routine
nothing_called = record { name = []; params = []; template = None }

abbrev pub naming_with : Routine → Naming
naming_with routine = record {
  binder = λ x. codes "t";
  field = λ f. codes "f";
  memory = λ m. record { ctype = []; lanes = 0; stack = false };
  routine = λ k. routine;
}

-- without fields and functions
abbrev pub ground : Ground
ground = record {
  naming = naming_with nothing_called;
  declared = λ f. false;
  function = λ f. false;
  stored = λ b. true;
  called = λ k. false;
  bounds = λ k x. 0;
}

abbrev pub nothing : Forms
nothing x = NoForm

abbrev pub zero_bounds : ℕ → ℕ
zero_bounds x = 0

abbrev pub itself : ℕ → ℕ
itself x = x

abbrev pub layout : Layout
layout b = record { object = 0; offset = pos 0 }

abbrev pub world : World
world = record { kinds = λ f. Size; callees = λ k. None }

abbrev pub empty : State
empty = record {
  scene = record {
    control = λ x. pos 0;
    buffers = λ b. None;
    views = λ x. None;
    fields = λ f. pos 0;
  };
  cells = λ b at. Undefined;
}

abbrev pub BlockInstance : Type 0
BlockInstance =
    IsGoodBlock ground nothing zero_bounds body
    × Matches ground nothing zero_bounds itself layout empty bare
    × AllocatesFew world no_fewness body empty
    × IsSome (run world body empty)
    × ((n : Machine) × (run_c alone (block_of ground.naming nothing body) bare ≡ Done n))

-- where `fill` may be called, with a size as large as a valid input may have
abbrev pub calling_ground : Ground
calling_ground = record ground {
  naming = naming_with (record { name = fill.name; params = fill.params; template = None });
  called = λ k. true;
  bounds = λ k x. 2147483647;
}

abbrev pub sizes : ℕ → ℕ
sizes x = 2147483647

abbrev pub CallInstance : Type 0
CallInstance = IsGoodBlock calling_ground (param_forms (col filling).params) sizes filling

-- ---- widths

abbrev pub sized : List ℕ → Block → Procedure
sized name b = record {
  name = name;
  params = record { binder = record { id = 0; name = codes "n" }; kind = ControlParam Size } ∷ [];
  asserts = [];
  body = b;
  template = None;
}

-- def f(n: size): if 4 * n < 5: pass
abbrev pub fourfold : Procedure
fourfold =
    sized (codes "f")
    (next (If (Lt (Mul (Lit (pos 4)) (Var 0)) (Lit (pos 5))) (next Pass end) end) end)

-- def g(n: size): f(2147483647 * n)
abbrev pub giving : Procedure
giving =
    sized (codes "g") (next (Call 0 (ControlArg (Mul (Lit (pos 2147483647)) (Var 0)) ∷ [])) end)

abbrev pub of_procedures : List Procedure → Program
of_procedures ps = record { procedures = ps; fields = []; memories = [] }

abbrev pub every : ℕ → Bool
every k = true

-- a procedure that is wide only by what another gives it
pub record RaisedInstance : Type 0 where
  pub given : given_to (fourfold ∷ giving ∷ []) every 0 0 ≡ 4611686014132420609
  pub alone : widest (of_procedures (fourfold ∷ [])) every every ≡ None
  pub called : widest (of_procedures (fourfold ∷ giving ∷ [])) every every ≡ Some 0
  pub not_counted : widest (of_procedures (fourfold ∷ giving ∷ [])) every (λ k. nat_lt k 1) ≡ None
