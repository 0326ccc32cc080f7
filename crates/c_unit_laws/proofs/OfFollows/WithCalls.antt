-- Blocks follow, with calls.
use Rattle.std.proofs.Common.{◌≡◌, ℕ, zero, suc, ℤ, Bool, true, false, List, [], ◌∷◌, length, Option, refl, arith, ⊎_elim}
use Rattle.exo_tree.specs.Tree.{Cell, Control, Coord, Argument, ControlArg, ConditionArg, Whole, Window, ParamKind, ControlParam, TensorParam, WindowParam}
use Rattle.exo_meaning.specs.State.{State}
use Rattle.exo_meaning.specs.Calls.{given}
use Rattle.c_widths.specs.Few.{Fewness, AllocatesFew, no_fewness, fewness_from}
use Rattle.exo_meaning.specs.Run.{World}
use Rattle.c_unit_laws.specs.Follows.Machine.Machine.{Outcome, Pointer, Thing, Machine, from_array}
use Rattle.c_unit_laws.specs.Follows.Machine.Machine.{from_elements}
use Rattle.c_unit_laws.specs.Follows.Machine.CRun.{CWorld, as_cells, thing_by, things}
use Rattle.c_unit_laws.specs.Follows.Machine.CRun.{things_of_cells}
use Rattle.c_lowering.specs.Made.Lowered.{Forms, TensorForm, actual_of}
use Rattle.c_unit_laws.specs.Follows.Simulation.{Ground, Follows, Layout, Matches}
use Rattle.c_unit_laws.specs.Follows.Good.{IsAnyBuffer, IsGoodArgument, AreGoodCoords, EndsInSpan}
use Rattle.c_unit_laws.specs.Follows.Calls.{CallsFollow, BlocksFollow}
use Rattle.exo_meaning.specs.Units.{spans}
use Rattle.c_unit_laws.proofs.OfFollows.Clauses.{CallClause}
use Rattle.c_unit_laws.proofs.OfFollows.Allocs.{alloc_follows}
use Rattle.c_unit_laws.proofs.OfFollows.Views.{view_follows}
use Rattle.c_unit_laws.proofs.OfFollows.Simulated.{block_follows}
use Rattle.c_unit_laws.proofs.OfFollows.Given.{IsGivenAs}
use Rattle.c_unit_laws.proofs.OfFollows.Reading.{Reads, OneFollows, reads_things, reads_cells}
use Rattle.c_unit_laws.proofs.OfFollows.Reading.{as_it_is, things_follow, cells_follow}
use Rattle.c_unit_laws.proofs.OfFollows.Arguments.{control_follows, point_follows, window_follows}
use Rattle.c_unit_laws.proofs.OfFollows.Arguments.{cell_follows}
use Rattle.c_unit_laws.proofs.OfFollows.Wholes.{whole_tensor_follows, whole_window_follows}
use Rattle.c_unit_laws.proofs.OfFollows.Lanes.{lanes_follow}
use Rattle.c_unit_laws.proofs.OfFollows.CallClause.{ArgumentsFollow, call_follows}

module _ (Few : Type 0) (g : Ground) (forms : Forms) (most : ℕ → ℕ) (root : ℕ → ℕ) (layout : Layout) (s : State) (m : Machine) (match : Matches g forms most root layout s m) (from : Option Thing → ℤ → Outcome Pointer) (seen_as : Thing → Thing) (function : Bool) (reads : Reads from seen_as function) where
  abbrev Goal : ℕ → ParamKind → Argument → Type 0
  Goal bound kind a = Follows Few (λ v t. IsGivenAs layout s.scene bound kind v (seen_as t)) (given s.scene a) (thing_by from m.setting (actual_of g.naming forms kind a))

  -- a part of a buffer, by how many lanes that has
  part_follows : (bound memory x : ℕ) (cell : Cell) (ds : List Control) (cs : List Coord) (lanes : ℕ) → IsAnyBuffer forms x cell (length cs) lanes → (function ≡ true → lanes ≡ 0) → AreGoodCoords forms most cs → spans cs ≡ length ds → EndsInSpan lanes cs → Goal bound (WindowParam cell ds memory) (Window x cs)
  part_follows bound memory x cell ds cs zero h plain good rank last = window_follows Few g forms most root layout s m match from seen_as function reads x cell cs h good bound memory ds rank
  part_follows bound memory x cell ds cs (suc n) h plain good rank last = ⊎_elim (λ w. absurd (omega (arith, w.1))) (λ k. go k.0 k.1 function refl) h
    where
      no_lanes : suc n ≡ 0 → ⊥
      no_lanes e = omega (arith, e)

      go : (dims : List Control) → forms x ≡ TensorForm cell dims (suc n) → (b : Bool) → function ≡ b → Goal bound (WindowParam cell ds memory) (Window x cs)
      go dims form true e = absurd (no_lanes (plain e))
      go dims form false e = lanes_follow Few g forms most root layout s m match from seen_as function reads e x cell dims n form cs good last bound memory ds rank

  kind_follows : (bound : ℕ) (kind : ParamKind) (a : Argument) → IsGoodArgument g.declared forms most bound function kind a → Goal bound kind a
  kind_follows bound (ControlParam kind) a h = control_follows Few g forms most root layout s m match from seen_as function reads bound kind a h
  kind_follows bound (TensorParam cell [] memory) (ControlArg a) h = absurd h
  kind_follows bound (TensorParam cell [] memory) (ConditionArg c) h = absurd h
  kind_follows bound (TensorParam cell [] memory) (Whole x) h = cell_follows Few g forms most root layout s m match from seen_as function reads bound memory x cell h
  kind_follows bound (TensorParam cell [] memory) (Window x cs) h = point_follows Few g forms most root layout s m match from seen_as function reads x cell cs h.0 h.1 bound memory h.2
  kind_follows bound (TensorParam cell (d ∷ ds) memory) (ControlArg a) h = absurd h
  kind_follows bound (TensorParam cell (d ∷ ds) memory) (ConditionArg c) h = absurd h
  kind_follows bound (TensorParam cell (d ∷ ds) memory) (Whole x) h = whole_tensor_follows Few g forms most root layout s m match from seen_as function reads bound memory x cell d ds h
  kind_follows bound (TensorParam cell (d ∷ ds) memory) (Window x cs) h = absurd h
  kind_follows bound (WindowParam cell ds memory) (ControlArg a) h = absurd h
  kind_follows bound (WindowParam cell ds memory) (ConditionArg c) h = absurd h
  kind_follows bound (WindowParam cell ds memory) (Whole x) h = whole_window_follows Few g forms most root layout s m match from seen_as function reads bound memory x cell ds h
  kind_follows bound (WindowParam cell ds memory) (Window x cs) h = part_follows bound memory x cell ds cs h.0 h.1 h.2 h.3 h.4 h.5

  one_follows : OneFollows Few g forms most root layout s m match from seen_as function reads
  one_follows bound p a h = kind_follows bound p.kind a h

module _ (Few : Type 0) (g : Ground) where
  -- the arguments of a function
  functions_given : ArgumentsFollow Few g things true
  functions_given forms most root layout s m match bounds ps args h = things_follow Few g forms most root layout s m match bounds ps args (one_follows Few g forms most root layout s m match from_array as_it_is true reads_things) h

  -- and of an instruction
  instructions_given : ArgumentsFollow Few g things_of_cells false
  instructions_given forms most root layout s m match bounds ps args h = cells_follow Few g forms most root layout s m match bounds ps args (one_follows Few g forms most root layout s m match from_elements as_cells false reads_cells) h

  pub calls_follow : (world : World) (few : Fewness) (c_world : CWorld) → CallsFollow g world few c_world → CallClause Few g c_world world few
  calls_follow world few c_world calls = call_follows Few g world few c_world calls functions_given instructions_given

pub blocks_follow : BlocksFollow
blocks_follow g forms most root layout world kinds ps c_world b calls good may s m match =
    let few = fewness_from kinds [] no_fewness ps in
    let Few = AllocatesFew world few b s in
    block_follows Few g world few c_world (alloc_follows Few g c_world) (view_follows Few g c_world) (calls_follow Few g world few c_world calls) forms most root layout b good may s m (λ f. f) match
