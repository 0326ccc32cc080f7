-- Units of one procedure `f(x: i32[16])` and one field `C.g: bool`, and what runs of it leave.
use Rattle.std.proofs.Common.{◌≡◌, ◌≤ℤ◌, ℕ, ℤ, pos, negsuc, ◌+ℤ◌, List, [], ◌∷◌, map, Option, Some, None}
use Rattle.std.proofs.Common.{option_map, refl, arith}
use Rattle.std.specs.Prelude.{◌+◌, ◌^◌, nat_le, true, codes, slice_get}
use Rattle.std.proofs.lemmas.Int.{ints}
use Rattle.exo_tree.specs.Tree.{I32, Truth, Control, Lit, Const, Assign, For, Binder, Block, end, next}
use Rattle.exo_tree.specs.Tree.{Procedure, ConfigField, Program}
use Rattle.exo_meaning.specs.Value.{Value, Undefined}
use Rattle.exo_meaning.specs.Scene.{whole, updated}
use Rattle.exo_meaning.specs.State.{State}
use Rattle.exo_meaning.specs.Run.{program_world, run, tensor}
use Rattle.exo_meaning.specs.Units.{field_kind, IsProcedure}
use Rattle.affine_forms.specs.Affine.{dot}
use Rattle.affine_systems.specs.Outcomes.{Owed}
use Rattle.tree_edits.specs.Made.Ids.{next_id}
use Rattle.cursor_forward.specs.Cursors.{Before}
use Rattle.cursor_forward.specs.Proposals.{Plan}
use Rattle.cursor_forward.specs.Shifts.{Shift, at_index, edits_of}
use Rattle.step_rules.specs.Answer.{proposed}
use Rattle.step_rules.specs.Lawful.{IsTarget}
use Rattle.step_rules.specs.Rule.{Tried, Got, Not, Target, Rule}
use Rattle.loop_laws.proofs.Examples.{buffer, plain_cells}

abbrev pub number : ℕ → Control
number n = Lit (pos n)

abbrev pub binder : ℕ → List ℕ → Binder
binder n name = record { id = n; name = name }

-- for NAME in seq(lo, hi): b
abbrev pub loop : ℕ → List ℕ → Control → Control → Block → Block
loop n name lo hi b = next (For (binder n name) lo hi b) end

-- x[e] = n, where x has the id 0
abbrev pub stores : Control → ℕ → Block
stores e n = next (Assign 0 (e ∷ []) (Const (pos n))) end

abbrev pub of_body : Block → Procedure
of_body b = record {
  name = codes "f";
  params = buffer 0 (codes "x") (number 16) ∷ [];
  asserts = [];
  body = b;
  template = None;
}

abbrev pub flag : ConfigField
flag = record { config = codes "C"; name = codes "g"; kind = Truth }

abbrev pub unit_of : Block → Program
unit_of b =
    record { procedures = of_body b ∷ []; fields = flag ∷ []; memories = plain_cells ∷ [] }

abbrev pub target_of : Block → Target
target_of b = record { unit = unit_of b; origins = []; number = 0; proc = of_body b }

-- the unit is well formed where its procedure is
pub target_is : (b : Block)
    → IsProcedure (field_kind (flag ∷ [])) 1 (slice_get []) (of_body b)
    → nat_le (next_id (of_body b) + 65536) (2 ^ 31) ≡ true
    → IsTarget (target_of b)
target_is b good ids = record {
  unit = record {
    procedures = (good, tt);
    fields = refl;
    memories = refl;
    spaces = refl;
    counts = refl;
  };
  there = refl;
  ids = ids;
}

-- ---- what is proposed

-- at the first statement
abbrev pub on_first : Rule → Block → Tried Plan
on_first r b = proposed r (target_of b) (at_index 0)

abbrev pub body_of : Tried Plan → Option Block
body_of (Got m) = Some m.proc.body
body_of (Not cause) = None

abbrev pub texts_of : Tried Plan → List (List ℕ)
texts_of (Got m) = map (λ o. o.what) m.must
texts_of (Not cause) = []

-- so many statements at the beginning became so many others
abbrev pub planned : Block → List Owed → ℕ → ℕ → List Shift → Plan
planned b must was now shifts = record {
  proc = of_body b;
  must = must;
  edits = edits_of (at_index 0) was now shifts;
  fields = [];
  place = [];
  side = Before;
}

-- a row below 0 has no point
pub no_point : (n : ℕ) (point : List ℤ) → pos 0 ≤ℤ (negsuc n +ℤ dot [] point) → ⊥
no_point n point h = absurd (omega (arith, ints))

-- ---- runs

-- x has 16 cells, which hold nothing
abbrev starts : State
starts = record {
  scene = record {
    control = λ x. pos 0;
    buffers = updated (λ x. None) 0 (Some (tensor I32 (pos 16 ∷ [])));
    views =
        updated (λ x. None) 0 (Some (record { buffer = 0; sides = whole (pos 16 ∷ []) }));
    fields = λ x. pos 0;
  };
  cells = λ x at. Undefined;
}

-- that cell of x after the body
abbrev pub leaves : Block → ℕ → Option Value
leaves b n =
    option_map (λ (t : State). t.cells 0 (pos n ∷ []))
    (run (program_world (unit_of b)) b starts)
