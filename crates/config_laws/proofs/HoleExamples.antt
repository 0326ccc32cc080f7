-- The laws at one state and at one hole, on closed units, and runs that show what differs.
use Rattle.std.proofs.Common.{◌≡◌, ℕ, ℤ, pos, Bool, true, false, List, [], ◌∷◌, Option, Some, None}
use Rattle.std.proofs.Common.{option_map, refl}
use Rattle.exo_tree.specs.Tree.{Lit, Field, Argument, ControlArg, Whole, Block, end}
use Rattle.exo_tree.specs.Context.{Context, Here}
use Rattle.exo_meaning.specs.Value.{Undefined}
use Rattle.exo_meaning.specs.State.{State}
use Rattle.exo_meaning.specs.Calls.{Callee}
use Rattle.exo_meaning.specs.Run.{run, kinds_of}
use Rattle.meaning_laws.specs.Live.{live, live_behind}
use Rattle.meaning_laws.specs.UnitFields.{unit_live}
use Rattle.meaning_laws.proofs.UnitFields.{unit_forgets}
use Rattle.config_laws.specs.Live.LiveFits.{MayReplaceLive, LiveAtEnd}
use Rattle.config_laws.specs.Live.CallVersion.{called, MayStandForCallee}
use Rattle.config_laws.specs.Surely.{surely_behind, unit_surely}
use Rattle.config_laws.specs.FieldRule.{or_pass}
use Rattle.config_laws.specs.AtEnd.{lives_at_end}
use Rattle.config_laws.specs.WriteConfig.{written}
use Rattle.config_laws.specs.BindConfig.{Bound, write_and_call}
use Rattle.config_laws.proofs.Exits.{holes_go_by_exit, units_go_by_exit}
use Rattle.config_laws.proofs.AtEnd.{others_live_at_end, listed_stay_dead}
use Rattle.config_laws.proofs.Local.{writes_may_be_put_in, writes_may_be_left_out}
use Rattle.config_laws.proofs.Local.{arguments_may_be_bound}
use Rattle.config_laws.proofs.Called.{descendants_may_be_called}
use Rattle.config_laws.proofs.RuleExamples.{one_field, fills, fill_n, sets, loud, quiet}
use Rattle.config_laws.proofs.LawExamples.{fills_world, small, small_origins, small_world}
use Rattle.config_laws.proofs.LawExamples.{they_stand, caller}

-- ---- at one state

abbrev all : ℕ → Bool
all g = true

abbrev none : ℕ → Bool
none g = false

abbrev four : Argument
four = ControlArg (Lit (pos 4))

put_in_here : (u : State) → MayReplaceLive fills_world all none end (written 0 four) u
put_in_here u = writes_may_be_put_in fills_world all none 0 four u refl

left_out_here : (u : State)
    → MayReplaceLive fills_world all none (written 0 four) (or_pass (Here end) end) u
left_out_here u = writes_may_be_left_out fills_world all none 0 four (Here end) u refl

abbrev args : List Argument
args = four ∷ Whole 0 ∷ []

abbrev bound : Bound
bound = record { value = four; args = ControlArg (Field 0) ∷ Whole 0 ∷ [] }

bound_here : (u : State)
    → MayReplaceLive fills_world (λ g. live (unit_live fills) g (called 0 args) false) none
    (called 0 args) (write_and_call 0 0 bound) u
bound_here u =
    arguments_may_be_bound fills_world (unit_live fills) 0 0 args (110 ∷ []) fill_n.params bound
    none u (unit_forgets (kinds_of one_field) fills) refl refl

-- ---- at one hole

-- before another write of the field
abbrev before_write : Context
before_write = Here (sets (pos 8) end)

dead_at_end_too : live_behind (unit_live fills) 0 end before_write true ≡ false
dead_at_end_too =
    holes_go_by_exit (unit_live fills) (unit_surely fills) (units_go_by_exit fills) 0 end
    before_write true

stays_dead :
    live_behind (unit_live fills) 0 end before_write
    (lives_at_end (λ g. surely_behind (unit_surely fills) g before_write) (0 ∷ []) 0) ≡ false
stays_dead =
    listed_stay_dead (unit_live fills) (unit_surely fills) 0 end before_write (0 ∷ [])
    (units_go_by_exit fills) refl refl

none_at_end : LiveAtEnd [] (lives_at_end all (0 ∷ []))
none_at_end = others_live_at_end all (0 ∷ [])

-- ---- versions

quiet_may_be_called : (c d : Callee) → small_world.callees 0 ≡ Some c
    → small_world.callees 1 ≡ Some d → MayStandForCallee small_world c d (0 ∷ [])
quiet_may_be_called c d = descendants_may_be_called small small_origins 0 1 c d they_stand refl

-- ---- runs

abbrev input : State
input = record {
  scene = record {
    control = λ x. pos 0;
    buffers = λ b. None;
    views = λ x. None;
    fields = λ f. pos 1;
  };
  cells = λ b at. Undefined;
}

abbrev field_after : Block → Option ℤ
field_after b = option_map (λ (t : State). t.scene.fields 0) (run small_world b input)

they_differ : (field_after loud.body ≡ Some (pos 8)) × (field_after quiet.body ≡ Some (pos 1))
they_differ = (refl, refl)

-- the callers write the field again
callers_agree :
    (field_after (caller 0).body ≡ Some (pos 2)) × (field_after (caller 1).body ≡ Some (pos 2))
callers_agree = (refl, refl)
