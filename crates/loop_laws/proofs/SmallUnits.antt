-- Units of one procedure `f(x: i32[8], n: size)`, for closed examples.
use Rattle.std.proofs.Common.{ℕ, pos, true, false, List, [], ◌∷◌, None, refl}
use Rattle.std.specs.Prelude.{slice_get}
use Rattle.exo_tree.specs.Tree.{I32, Size, Lit, Block, Param, ControlParam, TensorParam, Procedure}
use Rattle.exo_tree.specs.Tree.{Binder, MemoryKind, Program}
use Rattle.exo_tree.specs.Places.{Path}
use Rattle.exo_meaning.specs.Units.{field_kind, IsProcedure, IsUnit}
use Rattle.cursor_forward.specs.Cursors.{Before}
use Rattle.cursor_forward.specs.Shifts.{Shift, edits_of}
use Rattle.cursor_forward.specs.Proposals.{Plan}
use Rattle.step_rules.specs.Rule.{Target}

abbrev pub binder : ℕ → ℕ → Binder
binder n letter = record { id = n; name = letter ∷ [] }

-- x and n have ids 0 and 1
abbrev pub params : List Param
params =
    record { binder = binder 0 120; kind = TensorParam I32 (Lit (pos 8) ∷ []) 0 }
    ∷ record { binder = binder 1 110; kind = ControlParam Size }
    ∷ []

abbrev pub of_body : Block → Procedure
of_body b = record {
  name = 102 ∷ [];
  params = params;
  asserts = [];
  body = b;
  template = None;
}

abbrev pub plain_cells : MemoryKind
plain_cells = record {
  name = 68 ∷ [];
  ctype = [];
  lanes = 0;
  cell = None;
  stack = false;
  read = true;
  write = true;
  reduce = true;
  header = [];
}

abbrev pub unit_of : Block → Program
unit_of b = record { procedures = of_body b ∷ []; fields = []; memories = plain_cells ∷ [] }

-- well formed where its procedure is
pub unit_is : (b : Block) → IsProcedure (field_kind []) 1 (slice_get []) (of_body b)
    → IsUnit (unit_of b)
unit_is b good = record {
  procedures = (good, tt);
  fields = refl;
  memories = refl;
  spaces = refl;
  counts = refl;
}

abbrev pub target_of : Block → Target
target_of b = record { unit = unit_of b; origins = []; number = 0; proc = of_body b }

-- so many statements at the path became so many others, and nothing is owed
abbrev pub planned : Block → Path → ℕ → ℕ → List Shift → Plan
planned b at was now shifts = record {
  proc = of_body b;
  must = [];
  edits = edits_of at was now shifts;
  fields = [];
  place = [];
  side = Before;
}
