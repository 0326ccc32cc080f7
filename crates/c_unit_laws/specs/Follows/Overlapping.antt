-- A closed instance of calls: of one tensor, two windows that overlap are handed on to be read, and
-- one beside them to be written.
use Rattle.std.specs.Prelude.{◌≡◌, ◌==◌, ℕ, pos, Bool, true, false, List, [], ◌∷◌, codes, Some}
use Rattle.std.specs.Prelude.{slice_get}
use Rattle.std.specs.Option.{IsSome}
use Rattle.exo_tree.specs.Tree.{Binder, I32, Lit, Read, Plus, Assign, Alloc, Span, Window, Call}
use Rattle.exo_tree.specs.Tree.{Block, end, next, Param, WindowParam, Procedure}
use Rattle.exo_meaning.specs.Calls.{Callee}
use Rattle.exo_meaning.specs.Run.{World, run, callee_in, unit_world}
use Rattle.c_widths.specs.Few.{Fewness, AllocatesFew, no_fewness, fewness_from}
use Rattle.c_unit_laws.specs.Follows.Machine.Machine.{Done, Machine}
use Rattle.c_unit_laws.specs.Follows.Machine.CRun.{Behaviour, CWorld, run_c}
use Rattle.c_unit_laws.specs.Follows.Machine.Examples.{bare, alone}
use Rattle.c_lowering.specs.Made.Lowered.{block_of}
use Rattle.c_unit_laws.specs.Follows.Simulation.{Ground, Matches}
use Rattle.c_unit_laws.specs.Follows.Good.{IsGoodBlock, MayStore}
use Rattle.c_unit_laws.specs.Follows.Calls.{CallsFollow}
use Rattle.c_unit_laws.specs.Follows.Functions.{behaviour_of}
use Rattle.c_unit_laws.specs.Follows.Instance.{naming_with, nothing, zero_bounds, itself, layout}
use Rattle.c_unit_laws.specs.Follows.Instance.{empty}
use Rattle.c_unit_laws.specs.Follows.CallOfCall.{no_kinds, lower_world}

abbrev pub called_by_letter : ℕ → Binder
called_by_letter x = record { id = x; name = x ∷ [] }

-- (x: [i32][2], y: [i32][2], z: [i32][2])
abbrev pub params : List Param
params =
    record { binder = called_by_letter 0; kind = WindowParam I32 (Lit (pos 2) ∷ []) 0 }
    ∷ record { binder = called_by_letter 1; kind = WindowParam I32 (Lit (pos 2) ∷ []) 0 }
    ∷ record { binder = called_by_letter 2; kind = WindowParam I32 (Lit (pos 2) ∷ []) 0 }
    ∷ []

-- z[0] = x[0] + y[1]
abbrev pub adding : Procedure
adding = record {
  name = codes "f";
  params = params;
  asserts = [];
  body =
      next
      (Assign 2 (Lit (pos 0) ∷ []) (Plus (Read 0 (Lit (pos 0) ∷ [])) (Read 1 (Lit (pos 1) ∷ []))))
      end;
  template = Some [];
}

-- t : i32[5]; a call with t[0:2], t[1:3] and t[3:5]
abbrev pub overlapping : Block
overlapping =
    next (Alloc (called_by_letter 3) I32 (Lit (pos 5) ∷ []) 0)
    (next
    (Call 0 (Window 3 (Span (Lit (pos 0)) (Lit (pos 2)) ∷ [])
    ∷ Window 3 (Span (Lit (pos 1)) (Lit (pos 3)) ∷ [])
    ∷ Window 3 (Span (Lit (pos 3)) (Lit (pos 5)) ∷ [])
    ∷ [])) end)

abbrev pub callee : Callee
callee = callee_in lower_world adding

abbrev pub world : World
world = unit_world no_kinds (adding ∷ [])

abbrev pub few_of : Fewness
few_of = fewness_from no_kinds [] no_fewness (adding ∷ [])

abbrev pub ground_with : (ℕ → Bool) → (ℕ → Bool) → Ground
ground_with stored called = record {
  naming = record (naming_with (record { name = []; params = params; template = Some [] })) {
    binder = λ x. x ∷ [];
  };
  declared = λ f. false;
  function = λ f. false;
  stored = stored;
  called = called;
  bounds = λ k x. 0;
}

abbrev pub own_ground : Ground
own_ground = ground_with callee.writes (λ k. false)

abbrev pub top_ground : Ground
top_ground = ground_with (λ b. true) (λ k. k == 0)

abbrev pub adding_c : Behaviour
adding_c = behaviour_of own_ground alone adding

abbrev pub c_world : CWorld
c_world = record alone { instructions = slice_get (adding_c ∷ []) }

-- The block and its instruction meet what the law on blocks asks, and its C is done.
pub record Overlapping : Type 0 where
  pub calls : CallsFollow top_ground world few_of c_world
  pub good : IsGoodBlock top_ground nothing zero_bounds overlapping
  pub may : MayStore top_ground.stored world itself overlapping
  pub matches : Matches top_ground nothing zero_bounds itself layout empty bare
  pub few : AllocatesFew world few_of overlapping empty
  pub runs : IsSome (run world overlapping empty)
  pub done :
      (n : Machine) × (run_c c_world (block_of top_ground.naming nothing overlapping) bare ≡ Done n)
