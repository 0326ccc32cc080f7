-- The laws on closed procedures, and what they do.
use Rattle.std.proofs.Common.{◌≡◌, ◌≤ℤ◌, ℕ, ℤ, pos, negsuc, ◌+ℤ◌, List, []}
use Rattle.std.proofs.Common.{◌∷◌, ◌++◌, ◌==◌, Bool, true, false, cond, Option, Some, None, option_map}
use Rattle.std.proofs.Common.{refl, subst, arith}
use Rattle.std.specs.Prelude.{codes, IsSome}
use Rattle.std.specs.Int.{int_wrap}
use Rattle.std.proofs.lemmas.Int.{ints}
use Rattle.std.proofs.lemmas.List.Elements.{All-from_recursion}
use Rattle.exo_tree.specs.Tree.{I32, Condition, Var, Add, Sub, Le, Eq, Mod, Block, Procedure}
use Rattle.exo_meaning.specs.Value.{Value, Undefined, Number}
use Rattle.exo_meaning.specs.Scene.{Seen, whole, updated, then_do}
use Rattle.exo_meaning.specs.State.{State}
use Rattle.exo_meaning.specs.Run.{program_world, run, turn, turns, range, tensor}
use Rattle.exo_meaning.specs.Inputs.{Refines}
use Rattle.exo_meaning.specs.Orders.{Each}
use Rattle.exo_meaning.specs.Units.{IsUnit}
use Rattle.meaning_laws.specs.Facts.{Holds}
use Rattle.meaning_laws.specs.Sound.{IsSound}
use Rattle.meaning_laws.proofs.Parts.{some_injective}
use Rattle.affine_forms.specs.Affine.{HasNoIntegerPoint, dot}
use Rattle.affine_systems.specs.Outcomes.{Owed}
use Rattle.cursor_forward.specs.Cursors.{Before}
use Rattle.cursor_forward.specs.Forwards.{Forwards}
use Rattle.cursor_forward.specs.Shifts.{Shift, at_index, stays, edits_of, move_of}
use Rattle.cursor_forward.specs.Proposals.{Plan}
use Rattle.place_laws.specs.Order.TurnsOfTwo.{Loop}
use Rattle.config_laws.proofs.Derived.{no_versions}
use Rattle.step_rules.specs.Rule.{Got, Says}
use Rattle.step_rules.specs.Owing.{AreShown, owed_for}
use Rattle.step_rules.specs.Lawful.{IsMet, IsTarget, MayRunIn}
use Rattle.step_rules.specs.Laws.{NeedsHold, MeaningLaw, ForwardsLaw}
use Rattle.loop_laws.specs.CutLoop.{cut, cut_needs, cut_rule}
use Rattle.loop_laws.specs.DivideLoop.{Tail, Guard, Cut, CutAndGuard, Perfect, Division, divided}
use Rattle.loop_laws.specs.DivideLoop.{divide_shifts, divide_rule}
use Rattle.loop_laws.specs.SameTurns.{MovedLoop}
use Rattle.loop_laws.specs.Turns.{Turn, between, CutTurns, group, GroupedTurns, MovedTurns, up_to}
use Rattle.loop_laws.specs.Turns.{GuardedTurns}
use Rattle.loop_laws.proofs.CutLoop.{cut_is_lawful, cut_is_carrying}
use Rattle.loop_laws.proofs.DivideLoop.{divide_is_lawful, divide_is_carrying}
use Rattle.loop_laws.proofs.Examples.{target_of, loop, stores, number, on_loop, z, f}

-- ---- z is a procedure of a unit

z_is_unit : IsUnit (target_of z).unit
z_is_unit = record {
  procedures = (
    record {
      params = refl;
      asserts = refl;
      body = refl;
      filled = refl;
      ids = refl;
      distinct = refl;
      paths = refl;
      template = refl;
    },
    tt,
  );
  fields = refl;
  memories = refl;
  spaces = refl;
  counts = refl;
}

pub z_is_target : IsTarget (target_of z)
z_is_target = record { unit = z_is_unit; there = refl; ids = refl }

z_may_run : MayRunIn (target_of z) z
z_may_run = record {
  unit = z_is_unit.procedures;
  procedure = record {
    params = refl;
    asserts = refl;
    body = refl;
    filled = refl;
    ids = refl;
    distinct = refl;
    paths = refl;
    template = refl;
  };
}

abbrev loop_of_z : Loop
loop_of_z = record {
  binder = record { id = 1; name = codes "i" };
  lo = number 0;
  hi = number 16;
  body = stores 0 (Var 1) 1;
}

-- ---- what is proposed for it, and shown

abbrev planned : Block → List Owed → ℕ → List Shift → Plan
planned b must new shifts = record {
  proc = record z { body = b };
  must = must;
  edits = edits_of (at_index 0) 1 new shifts;
  fields = [];
  place = [];
  side = Before;
}

abbrev owed_of : Condition → List Owed
owed_of c = owed_for (target_of z) (Says (at_index 0) (Holds c))

-- a row below 0 has no point
no_point : (n : ℕ) (point : List ℤ) → pos 0 ≤ℤ (negsuc n +ℤ dot [] point) → ⊥
no_point n point h = absurd (omega (arith, ints))

abbrev IsClosed : Owed → Type 0
IsClosed o = HasNoIntegerPoint o.system

-- ---- cut at 5

abbrev cut_must : List Owed
cut_must = owed_of (Le (number 0) (number 5)) ++ owed_of (Le (number 5) (number 16))

abbrev cut_plan : Plan
cut_plan = planned (cut (number 5) loop_of_z 2) cut_must 2 (stays 1)

pub cut_planned : on_loop (cut_rule (number 5)) z ≡ Got cut_plan
cut_planned = refl

cut_is_shown : AreShown cut_must
cut_is_shown =
    All-from_recursion IsClosed cut_must
    (λ point h. no_point 5 point h.rows_hold.0, (λ point h. no_point 11 point h.rows_hold.0, tt))

pub cut_refines : MeaningLaw → Refines (program_world (target_of z).unit) z cut_plan.proc []
cut_refines law =
    law (cut_rule (number 5)) (target_of z) (at_index 0) cut_plan (cut_is_lawful (number 5))
    z_is_target (no_versions (target_of z).unit) cut_planned cut_is_shown

pub cut_needs_hold : NeedsHold
    → Each (IsMet (target_of z)) (cut_needs (number 5) (at_index 0) loop_of_z)
cut_needs_hold law =
    law (target_of z) (cut_needs (number 5) (at_index 0) loop_of_z) cut_must z_may_run refl refl
    cut_is_shown

pub cut_forwards : ForwardsLaw → Forwards (move_of cut_plan.edits) z cut_plan.proc
cut_forwards law =
    law (cut_rule (number 5)) (target_of z) (at_index 0) cut_plan (cut_is_carrying (number 5))
    z_is_target cut_planned

-- ---- divided

abbrev division : ℤ → Tail → Division
division by tail =
    record { by = by; outer = codes "io"; inner = codes "ii"; tail = tail }

abbrev divided_plan : ℤ → Tail → List Owed → ℕ → Plan
divided_plan by tail must new =
    planned (divided (division by tail) loop_of_z 2) must new (divide_shifts tail loop_of_z)

-- by 3, with a guard
abbrev guard_plan : Plan
guard_plan = divided_plan (pos 3) Guard [] 1

pub guard_planned : on_loop (divide_rule (division (pos 3) Guard)) z ≡ Got guard_plan
guard_planned = refl

pub guard_refines : MeaningLaw → Refines (program_world (target_of z).unit) z guard_plan.proc []
guard_refines law =
    law (divide_rule (division (pos 3) Guard)) (target_of z) (at_index 0) guard_plan
    (divide_is_lawful (division (pos 3) Guard)) z_is_target (no_versions (target_of z).unit)
    guard_planned (All-from_recursion IsClosed [] tt)

pub guard_forwards : ForwardsLaw → Forwards (move_of guard_plan.edits) z guard_plan.proc
guard_forwards law =
    law (divide_rule (division (pos 3) Guard)) (target_of z) (at_index 0) guard_plan
    (divide_is_carrying (division (pos 3) Guard)) z_is_target guard_planned

-- by 3, with a tail of one turn
abbrev tail_must : List Owed
tail_must = owed_of (Le (number 0) (number 16))

tail_is_shown : AreShown tail_must
tail_is_shown =
    All-from_recursion IsClosed tail_must (λ point h. no_point 16 point h.rows_hold.0, tt)

abbrev tail_plan : Plan
tail_plan = divided_plan (pos 3) Cut tail_must 2

pub tail_planned : on_loop (divide_rule (division (pos 3) Cut)) z ≡ Got tail_plan
tail_planned = refl

pub tail_refines : MeaningLaw → Refines (program_world (target_of z).unit) z tail_plan.proc []
tail_refines law =
    law (divide_rule (division (pos 3) Cut)) (target_of z) (at_index 0) tail_plan
    (divide_is_lawful (division (pos 3) Cut)) z_is_target (no_versions (target_of z).unit)
    tail_planned tail_is_shown

abbrev guarded_tail_plan : Plan
guarded_tail_plan = divided_plan (pos 3) CutAndGuard tail_must 2

pub guarded_tail_planned :
    on_loop (divide_rule (division (pos 3) CutAndGuard)) z ≡ Got guarded_tail_plan
guarded_tail_planned = refl

pub guarded_tail_refines :
    MeaningLaw → Refines (program_world (target_of z).unit) z guarded_tail_plan.proc []
guarded_tail_refines law =
    law (divide_rule (division (pos 3) CutAndGuard)) (target_of z) (at_index 0) guarded_tail_plan
    (divide_is_lawful (division (pos 3) CutAndGuard)) z_is_target (no_versions (target_of z).unit)
    guarded_tail_planned tail_is_shown

-- by 8, without a rest
abbrev even_must : List Owed
even_must = owed_of (Eq (Mod (number 16) (pos 8)) (number 0))

abbrev even_plan : Plan
even_plan = divided_plan (pos 8) Perfect even_must 1

pub even_planned : on_loop (divide_rule (division (pos 8) Perfect)) z ≡ Got even_plan
even_planned = refl

even_is_shown : AreShown even_must
even_is_shown =
    All-from_recursion IsClosed even_must
    (λ point h. no_point 0 point h.rows_hold.0, (λ point h. no_point 0 point h.rows_hold.0, tt))

pub even_refines : MeaningLaw → Refines (program_world (target_of z).unit) z even_plan.proc []
even_refines law =
    law (divide_rule (division (pos 8) Perfect)) (target_of z) (at_index 0) even_plan
    (divide_is_lawful (division (pos 8) Perfect)) z_is_target (no_versions (target_of z).unit)
    even_planned even_is_shown

-- ---- runs

-- name 0 is n, and buffer b has so many cells, which hold nothing
abbrev starts : ℤ → ℕ → ℤ → State
starts n b cells = record {
  scene = record {
    control = updated (λ x. pos 0) 0 n;
    buffers = updated (λ x. None) b (Some (tensor I32 (cells ∷ [])));
    views =
        updated (λ x. None) b (Some (record { buffer = b; sides = whole (cells ∷ []) }));
    fields = λ x. pos 0;
  };
  cells = λ x at. Undefined;
}

-- the cell of buffer b after the body
abbrev leaves : Procedure → Block → State → ℕ → ℤ → Option Value
leaves p made s b n =
    option_map (λ (t : State). t.cells b (n ∷ [])) (run (program_world (target_of p).unit) made s)

abbrev z_leaves : Block → ℤ → Option Value
z_leaves made n = leaves z made (starts (pos 0) 0 (pos 16)) 0 n

pub last_of_z : z_leaves z.body (pos 15) ≡ Some (Number (pos 1))
unfolding int_wrap
last_of_z = refl

pub last_of_cut : z_leaves cut_plan.proc.body (pos 15) ≡ Some (Number (pos 1))
unfolding int_wrap
last_of_cut = refl

pub last_of_guarded : z_leaves guard_plan.proc.body (pos 15) ≡ Some (Number (pos 1))
unfolding int_wrap
last_of_guarded = refl

pub last_of_tail : z_leaves tail_plan.proc.body (pos 15) ≡ Some (Number (pos 1))
unfolding int_wrap
last_of_tail = refl

pub last_of_guarded_tail : z_leaves guarded_tail_plan.proc.body (pos 15) ≡ Some (Number (pos 1))
unfolding int_wrap
last_of_guarded_tail = refl

pub last_of_even : z_leaves even_plan.proc.body (pos 15) ≡ Some (Number (pos 1))
unfolding int_wrap
last_of_even = refl

-- ---- what a tail needs

-- f has n: size, x: i32[n], for i in seq(0, n - 3): x[i] = 0
abbrev loop_of_f : Loop
loop_of_f = record {
  binder = record { id = 2; name = codes "i" };
  lo = number 0;
  hi = Sub (Var 0) (number 3);
  body = stores 1 (Var 2) 0;
}

abbrev with_tail : Block
with_tail = divided (division (pos 8) Cut) loop_of_f 3

-- with 20 it has 17 turns
pub last_of_f : leaves f f.body (starts (pos 20) 1 (pos 20)) 1 (pos 16) ≡ Some (Number (pos 0))
unfolding int_wrap
last_of_f = refl

pub last_of_divided : leaves f with_tail (starts (pos 20) 1 (pos 20)) 1 (pos 16)
    ≡ Some (Number (pos 0))
unfolding int_wrap
last_of_divided = refl

pub none_behind : leaves f with_tail (starts (pos 20) 1 (pos 20)) 1 (pos 17) ≡ Some Undefined
none_behind = refl

-- with 1 it has none, and the tail would have 6
pub none_of_f : leaves f f.body (starts (pos 1) 1 (pos 1)) 1 (pos 0) ≡ Some Undefined
none_of_f = refl

pub tail_faults : leaves f with_tail (starts (pos 1) 1 (pos 1)) 1 (pos 0) ≡ None
tail_faults = refl

pub tail_forwards : ForwardsLaw → Forwards (move_of tail_plan.edits) z tail_plan.proc
tail_forwards law =
    law (divide_rule (division (pos 3) Cut)) (target_of z) (at_index 0) tail_plan
    (divide_is_carrying (division (pos 3) Cut)) z_is_target tail_planned

-- ---- turns

abbrev first_of_z : State
first_of_z = starts (pos 0) 0 (pos 16)

-- its only buffer is there
first_is_sound : IsSound first_of_z
first_is_sound = record { tidy = λ x e at. refl; seen = λ x seen e. go (x == 0) seen e }
  where
    go : (t : Bool) (seen : Seen)
        → cond t (Some (record { buffer = 0; sides = whole (pos 16 ∷ []) })) None ≡ Some seen
        → IsSome (first_of_z.scene.buffers seen.buffer)
    go true seen e =
        subst (λ (s : Seen). IsSome (first_of_z.scene.buffers s.buffer))
        (some_injective (record { buffer = 0; sides = whole (pos 16 ∷ []) }) seen e) refl
    go false seen e = cc

abbrev turn_of_z : Turn
turn_of_z = turn 1 (run (program_world (target_of z).unit) loop_of_z.body)

pub turns_cut : CutTurns
    → turns turn_of_z (between (pos 0) (pos 16)) first_of_z
    ≡ then_do (turns turn_of_z (between (pos 0) (pos 5)) first_of_z)
    (turns turn_of_z (between (pos 5) (pos 16)))
turns_cut law =
    law turn_of_z (pos 0) (pos 5) (pos 16) first_of_z (omega (arith, ints)) (omega (arith, ints))

pub turns_grouped : GroupedTurns
    → turns (group turn_of_z 3) (range (pos 0) 5) first_of_z
    ≡ turns turn_of_z (range (pos 0) 15) first_of_z
turns_grouped law = law turn_of_z 3 5 first_of_z

pub turns_moved : MovedTurns
    → turns (λ k. turn_of_z (pos 3 +ℤ k)) (range (pos 0) 5) first_of_z
    ≡ turns turn_of_z (range (pos 3) 5) first_of_z
turns_moved law = law turn_of_z (pos 3) (pos 0) 5 first_of_z

pub turns_guarded : GuardedTurns
    → turns (up_to (pos 13) turn_of_z) (range (pos 0) 16) first_of_z
    ≡ turns turn_of_z (range (pos 0) 13) first_of_z
turns_guarded law = law turn_of_z (pos 13) 16 first_of_z (omega arith)

-- for i in seq(0, 5): x[3 + i] = 1
pub loop_moved : MovedLoop
    → run (program_world (target_of z).unit)
    (loop 1 (codes "i") (number 0) (number 5) (stores 0 (Add (number 3) (Var 1)) 1)) first_of_z
    ≡ turns turn_of_z (range (pos 3) 5) first_of_z
loop_moved law =
    law (program_world (target_of z).unit) loop_of_z.binder (number 0) (number 5)
    (Add (number 3) (Var 1)) loop_of_z.body (pos 3) first_of_z first_is_sound (refl, refl)
    (λ t n h. refl)
