-- A closed instance of calls: an instruction that calls an instruction.
use Rattle.std.specs.Prelude.{◌≡◌, ◌==◌, ℕ, pos, Bool, true, false, List, [], ◌∷◌, codes, Some, slice_get}
use Rattle.std.specs.Option.{IsSome}
use Rattle.exo_tree.specs.Tree.{Kind, Size, I32, Lit, Const, Assign, Alloc, Whole, Call, Block, end, next, Param, TensorParam, Procedure}
use Rattle.exo_meaning.specs.Calls.{Callee}
use Rattle.exo_meaning.specs.Run.{World, run, world_of, callee_in, unit_world}
use Rattle.c_widths.specs.Few.{Fewness, AllocatesFew, no_fewness, fewness_from}
use Rattle.c_unit_laws.specs.Follows.Machine.Machine.{Done, Machine}
use Rattle.c_unit_laws.specs.Follows.Machine.CRun.{Behaviour, CWorld, run_c}
use Rattle.c_unit_laws.specs.Follows.Machine.Examples.{bare, alone}
use Rattle.c_lowering.specs.Made.Lowered.{block_of}
use Rattle.c_unit_laws.specs.Follows.Simulation.{Ground, Matches}
use Rattle.c_unit_laws.specs.Follows.Good.{IsGoodBlock, MayStore}
use Rattle.c_unit_laws.specs.Follows.Calls.{CallsFollow}
use Rattle.c_unit_laws.specs.Follows.Functions.{behaviour_of}
use Rattle.c_unit_laws.specs.Follows.Instance.{naming_with, nothing, zero_bounds, itself, layout}
use Rattle.c_unit_laws.specs.Follows.Instance.{empty}

-- (t: i32[2])
abbrev pub params : List Param
params =
    record {
      binder = record { id = 0; name = codes "t" };
      kind = TensorParam I32 (Lit (pos 2) ∷ []) 0;
    }
    ∷ []

abbrev pub of_body : Block → Procedure
of_body b = record { name = codes "f"; params = params; asserts = []; body = b; template = Some [] }

-- t[1] = 7
abbrev pub setting_one : Procedure
setting_one = of_body (next (Assign 0 (Lit (pos 1) ∷ []) (Const (pos 7))) end)

-- a call of the first with t
abbrev pub passing_on : Procedure
passing_on = of_body (next (Call 0 (Whole 0 ∷ [])) end)

abbrev pub procedures : List Procedure
procedures = setting_one ∷ passing_on ∷ []

-- t : i32[2], and a call of the second with it
abbrev pub calling_both : Block
calling_both =
    next (Alloc (record { id = 0; name = codes "t" }) I32 (Lit (pos 2) ∷ []) 0)
    (next (Call 1 (Whole 0 ∷ [])) end)

-- ---- on both sides

abbrev pub no_kinds : ℕ → Kind
no_kinds f = Size

abbrev pub lower_world : World
lower_world = world_of no_kinds []

abbrev pub lower : Callee
lower = callee_in lower_world setting_one

abbrev pub middle_world : World
middle_world = world_of no_kinds (lower ∷ [])

abbrev pub middle : Callee
middle = callee_in middle_world passing_on

abbrev pub whole_world : World
whole_world = unit_world no_kinds procedures

abbrev pub few_of : Fewness
few_of = fewness_from no_kinds [] no_fewness procedures

-- a ground on which that one may be called
abbrev pub ground_with : (ℕ → Bool) → (ℕ → Bool) → Ground
ground_with stored called = record {
  naming = naming_with (record { name = []; params = params; template = Some [] });
  declared = λ f. false;
  function = λ f. false;
  stored = stored;
  called = called;
  bounds = λ k x. 0;
}

abbrev pub lower_ground : Ground
lower_ground = ground_with lower.writes (λ k. false)

abbrev pub middle_ground : Ground
middle_ground = ground_with middle.writes (λ k. k == 0)

abbrev pub top_ground : Ground
top_ground = ground_with (λ b. true) (λ k. k == 1)

abbrev pub lower_c : Behaviour
lower_c = behaviour_of lower_ground alone setting_one

abbrev pub middle_c_world : CWorld
middle_c_world = record alone { instructions = slice_get (lower_c ∷ []) }

abbrev pub middle_c : Behaviour
middle_c = behaviour_of middle_ground middle_c_world passing_on

abbrev pub top_c_world : CWorld
top_c_world = record alone { instructions = slice_get (lower_c ∷ middle_c ∷ []) }

-- The block and its instructions meet what the law on blocks asks, and its C is done.
pub record CallOfCall : Type 0 where
  pub calls : CallsFollow top_ground whole_world few_of top_c_world
  pub good : IsGoodBlock top_ground nothing zero_bounds calling_both
  pub may : MayStore top_ground.stored whole_world itself calling_both
  pub matches : Matches top_ground nothing zero_bounds itself layout empty bare
  pub few : AllocatesFew whole_world few_of calling_both empty
  pub runs : IsSome (run whole_world calling_both empty)
  pub done : (n : Machine) × (run_c top_c_world (block_of top_ground.naming nothing calling_both) bare ≡ Done n)
