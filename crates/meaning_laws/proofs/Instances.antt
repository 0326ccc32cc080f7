-- Laws at a small closed world, state and procedure: `three`, that stores in each cell of x, and `fill_named`, that it may call.
use Rattle.std.proofs.Common.{◌≡◌, ℕ, pos, ◌==◌, Bool, true, false, true≢false, cond, List, [], ◌∷◌, Some, None, IfSome, option_map, refl, sym, subst, eqb-true, ◌||◌}
use Rattle.exo_tree.specs.Tree.{I8, Index, Lit, Var, Condition, Lt, Le, Flag, Plus, Const, Assign, Alloc, If, Pass, Argument, ControlArg, Window, Span, Block, end, next, Statement, Procedure}
use Rattle.exo_tree.specs.Context.{Here, fill}
use Rattle.exo_meaning.specs.Value.{Number}
use Rattle.exo_tree.specs.Places.{Main}
use Rattle.exo_meaning.specs.Scene.{Seen, holds}
use Rattle.exo_meaning.specs.Unseen.{in_block as mentions}
use Rattle.meaning_laws.specs.Scoped.{is_param}
use Rattle.meaning_laws.proofs.Unmentioned.{unmentioned_law}
use Rattle.meaning_laws.proofs.Facts.{facts_law, steady_law}
use Rattle.exo_meaning.specs.State.{State, on_scene, with_control}
use Rattle.exo_meaning.specs.Run.{run, call_to}
use Rattle.exo_meaning.specs.Refines.{Both, StateRefined, SameScene}
use Rattle.exo_meaning.specs.Laws.{HasRoots, IsKept}
use Rattle.exo_meaning.specs.Inputs.{Refines, run_procedure}
use Rattle.exo_meaning.specs.Orders.{Each}
use Rattle.exo_meaning.proofs.Windows.{none_is_some, one_value}
use Rattle.exo_meaning.proofs.Monotone.{runs_are_monotone, data_is_apart}
use Rattle.exo_meaning.proofs.Commute.{stores_commute}
use Rattle.exo_meaning.proofs.Frame.{others_are_kept}
use Rattle.meaning_laws.specs.Context.{ComesTo, now}
use Rattle.meaning_laws.specs.Sound.{IsSound, IsUnbound}
use Rattle.meaning_laws.specs.Copies.{IsFree, HoldsAt}
use Rattle.meaning_laws.specs.Facts.{IsTrueAt, facts}
use Rattle.meaning_laws.specs.Known.{KeepsKnown, known}
use Rattle.meaning_laws.specs.Substitute.{bound}
use Rattle.meaning_laws.specs.Fields.{HasField}
use Rattle.meaning_laws.specs.Live.{SameLive, refield}
use Rattle.meaning_laws.specs.UnitFields.{unit_live}
use Rattle.meaning_laws.proofs.Examples.{binder, three, hole, stored, input, all_of_it, world, unit, fill_five, store_three, three_commutes, is_admissible, hole_is_there, stores_swap}
use Rattle.meaning_laws.proofs.Substitute.{substitution_law}
use Rattle.meaning_laws.proofs.Copies.{sound_law, unbound_law}
use Rattle.meaning_laws.proofs.Known.{known_law, shown_law}
use Rattle.meaning_laws.proofs.Places.{opened_law}
use Rattle.meaning_laws.proofs.Scoped.{scope_law}
use Rattle.meaning_laws.proofs.Binders.{binders_law, fresh_law}
use Rattle.meaning_laws.proofs.Chain.{chain_law}
use Rattle.meaning_laws.proofs.Grown.{grown_law, grown_refines}
use Rattle.meaning_laws.proofs.SameRuns.{same_runs_law, same_runs_refine}
use Rattle.meaning_laws.proofs.Live.{runs_forget}
use Rattle.meaning_laws.proofs.UnitFields.{unit_leaves, unit_forgets}
use Rattle.meaning_laws.proofs.Flags.{flag_law}

-- ---- laws of runs

-- the same names, and other cells
abbrev defined : State
defined = record input { cells = λ b at. Number (pos 3) }

defined_refines : Both StateRefined (run world three.body input) (run world three.body defined)
defined_refines = runs_are_monotone (λ f. Index) [] three.body input defined (record { scene = refl; cells = λ b at. tt })

same_scenes : Both SameScene (run world three.body input) (run world three.body defined)
same_scenes = data_is_apart (λ f. Index) [] three.body input defined (record { scene = refl; cells = λ b at. tt })

abbrev at_one : Statement
at_one = Assign 0 (Lit (pos 1) ∷ []) (Const (pos 5))

abbrev at_two : Statement
at_two = Assign 0 (Lit (pos 2) ∷ []) (Const (pos 6))

either_store : run world (next at_one (next at_two end)) input ≡ run world (next at_two (next at_one end)) input
either_store = stores_commute world 0 0 (Lit (pos 1) ∷ []) (Lit (pos 2) ∷ []) (pos 5) (pos 6) input (record { buffer = 0; at = pos 1 ∷ [] }) (record { buffer = 0; at = pos 2 ∷ [] }) refl refl refl

-- a block that stores in a buffer of its own leaves x alone
abbrev own_buffer : Block
own_buffer = next (Alloc (binder 5) I8 (Lit (pos 4) ∷ []) 0) (stored 5 (Lit (pos 1) ∷ []) (Const (pos 3)))

x_is_kept : IfSome (run world own_buffer input) (IsKept 0 input)
x_is_kept = others_are_kept world (λ x. x) own_buffer 0 input roots refl refl
  where
    roots : HasRoots (λ x. x) input.scene
    roots x z e = go (x == 0) refl e
      where
        go : (t : Bool) → (x == 0) ≡ t → cond t (Some all_of_it) None ≡ Some z → z.buffer ≡ x
        go true k e = subst (λ (o : Seen). o.buffer ≡ x) (one_value all_of_it z e) (sym (eqb-true x 0 k))
        go false k e = absurd (none_is_some e)

substituted_run : run world store_three (bound 1 (Lit (pos 3)) input) ≡ option_map (bound 1 (Lit (pos 3))) (run world (stored 0 (Lit (pos 3) ∷ []) (Const (pos 3))) input)
substituted_run = substitution_law world 1 (Lit (pos 3)) store_three input refl refl

-- if flag: x[i] = 3, where the flag is set and 0 < 1
abbrev guarded : Condition → Block
guarded c = next (If c store_three end) end

flag_is_condition : run world (guarded (Flag 20)) (on_scene (with_control 20 (pos 1)) input) ≡ run world (guarded (Lt (Lit (pos 0)) (Lit (pos 1)))) (on_scene (with_control 20 (pos 1)) input)
flag_is_condition = flag_law world 20 (Lt (Lit (pos 0)) (Lit (pos 1))) (guarded (Flag 20)) (on_scene (with_control 20 (pos 1)) input) refl refl (λ y k. absurd (true≢false (sym k))) refl

-- ---- at the hole of `three`

abbrev pub old : Block
old = stored 0 (Var 1 ∷ []) (Plus (Const (pos 1)) (Const (pos 2)))

abbrev pub new : Block
new = stored 0 (Var 1 ∷ []) (Plus (Const (pos 2)) (Const (pos 1)))

abbrev pub exchanged : Procedure
exchanged = record three { body = fill hole new }

-- the first turn comes to it
abbrev pub first : State
first = on_scene (with_control 1 (pos 0)) input

pub comes : ComesTo world old hole input first
comes = (pos 0, input, now, refl)

keeps : KeepsKnown three hole
keeps = scope_law three hole old refl refl tt (refl, refl, tt)

bounds_hold : Each (IsTrueAt first.scene) (facts hole)
bounds_hold = facts_law world old hole input first keeps.facts comes

known_holds : Each (IsTrueAt first.scene) (known three hole)
known_holds = known_law world three old hole input first keeps is_admissible comes

not_negative : HoldsAt world three old hole (Le (Lit (pos 0)) (Var 1))
not_negative = shown_law world three old hole (Le (Lit (pos 0)) (Var 1)) keeps (λ scene all. all.0)

filled_again : fill hole old ≡ three.body
filled_again = opened_law 1 (record { branch = Main; index = 0 } ∷ record { branch = Main; index = 0 } ∷ []) three.body (record { around = hole; piece = old }) hole_is_there

pub sound_there : IsSound first
sound_there = sound_law world three old hole input first is_admissible comes

seven_is_free : IsFree three hole 7
seven_is_free = fresh_law three hole old 7 refl refl

seven_is_unbound : IsUnbound first 7
seven_is_unbound = unbound_law world three old hole input first is_admissible comes 7 seven_is_free

loop_is_free : IsFree three (Here end) 1
loop_is_free = binders_law three (Here end) three.body 1 refl refl

same_both_ways : run_procedure world three input ≡ run_procedure world exchanged input
same_both_ways = same_runs_law world hole old new three refl (λ s u good come. stores_swap world 0 (Var 1 ∷ []) (Const (pos 1)) (Const (pos 2)) u) input is_admissible

-- ---- units that grow, and fields

same_in_unit : run unit three.body ≡ run world three.body
same_in_unit = grown_law (λ f. Index) [] (fill_five ∷ []) three.body refl

refines_in_unit : Refines unit three exchanged []
refines_in_unit = grown_refines (λ f. Index) [] (fill_five ∷ []) three exchanged [] refl refl (three_commutes world)

abbrev sevens : State
sevens = refield (λ f. pos 7) input

fields_not_seen : Both (SameLive (λ f. false)) (run world three.body input) (run world three.body sevens)
fields_not_seen = runs_forget world (unit_live []) (unit_forgets (λ f. Index) []) three.body (λ f. false) input (λ f. pos 7) (λ f k. absurd (true≢false (sym k)))

-- fill(2, x[3:5])
abbrev pub args : List Argument
args = ControlArg (Lit (pos 2)) ∷ Window 0 (Span (Lit (pos 3)) (Lit (pos 5)) ∷ []) ∷ []

fields_not_seen_by_call : Both (SameLive (λ f. false)) (call_to (unit.callees 0) args input) (call_to (unit.callees 0) args sevens)
fields_not_seen_by_call = unit_forgets (λ f. Index) (fill_five ∷ []) 0 args (λ f. false) input (λ f. pos 7) (λ f k. absurd (true≢false (sym k)))

field_is_left : IfSome (call_to (unit.callees 0) args input) (HasField 3 input)
field_is_left = unit_leaves (λ f. Index) (fill_five ∷ []) 0 3 refl args input

-- ---- refinements one after the other

abbrev nothing : Block → Procedure
nothing b = record { name = []; template = None; params = []; asserts = []; body = b }

pass_or_not : Refines world (nothing (next Pass end)) (nothing (next Pass (next Pass end))) []
pass_or_not = chain_law world (nothing (next Pass end)) (nothing end) (nothing (next Pass (next Pass end))) [] [] (refl, refl) (λ s good. refl)
    (same_runs_refine world (Here end) (next Pass end) end (nothing (next Pass end)) refl (λ s u good come. refl))
    (same_runs_refine world (Here end) end (next Pass (next Pass end)) (nothing end) refl (λ s u good come. refl))

-- ---- conditions that stay, and names that are not there

three_is_less : holds first.scene (Lt (Lit (pos 3)) (Lit (pos 4))) ≡ holds input.scene (Lt (Lit (pos 3)) (Lit (pos 4)))
three_is_less = steady_law world old hole input first (Lt (Lit (pos 3)) (Lit (pos 4))) refl (λ x k. absurd (true≢false (sym k))) comes

nine_is_not_mentioned : mentions (λ x. x == 9) three.body ≡ false
nine_is_not_mentioned = unmentioned_law (is_param three) (λ x. x == 9) three.body refl (λ x k. other x 0 refl (x == 0) refl k) (λ x k. bound_one x (x == 1) refl k)
  where
    other : (x n : ℕ) → (n == 9) ≡ false → (t : Bool) → (x == n) ≡ t → (t || false) ≡ true → (x == 9) ≡ false
    other x n d true e k = subst (λ z. (z == 9) ≡ false) (sym (eqb-true x n e)) d
    other x n d false e k = absurd (true≢false (sym k))

    bound_one : (x : ℕ) → (t : Bool) → (x == 1) ≡ t → ((t || false) || false) ≡ true → (x == 9) ≡ false
    bound_one x true e k = subst (λ z. (z == 9) ≡ false) (sym (eqb-true x 1 e)) refl
    bound_one x false e k = absurd (true≢false (sym k))
