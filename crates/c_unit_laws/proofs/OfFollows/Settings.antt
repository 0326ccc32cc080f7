-- The C of a field that is set.
use Rattle.std.proofs.Common.{◌≡◌, ◌≤◌, ◌^◌, ℕ, ℤ, Bool, true, false, ◌==◌, cond, Some, refl, sym, ap, ◌∙◌, subst, arith, true≢false, eqb-true, eq-eqb, unsigned_abs, ⊎_elim}
use Rattle.std.proofs.Math.Nat.{le_refl, le_trans}
use Rattle.exo_tree.specs.Tree.{Index, Argument, ControlArg, ConditionArg, Whole, Window, ControlParam}
use Rattle.exo_meaning.specs.Calls.{truth, suits}
use Rattle.exo_meaning.specs.Scene.{then_do, where_true, number, holds}
use Rattle.exo_meaning.specs.State.{State, on_scene, with_field}
use Rattle.exo_meaning.specs.Run.{World, argument_number, configure}
use Rattle.c_tree.specs.CTree.{Actual}
use Rattle.c_unit_laws.specs.Follows.Machine.Machine.{Done, after, IsNumber, Machine, named}
use Rattle.c_unit_laws.specs.Follows.Machine.Machine.{same_name}
use Rattle.c_unit_laws.specs.Follows.Machine.CRun.{thing, set_field, set_under}
use Rattle.c_lowering.specs.Made.Lowered.{Forms, actual_of}
use Rattle.c_unit_laws.specs.Follows.Simulation.{Ground, Follows, IsSameField, AreSameFields}
use Rattle.c_unit_laws.specs.Follows.Simulation.{Layout, Matches, Ran}
use Rattle.c_unit_laws.specs.Follows.Good.{IsGoodSetting, IsAlone}
use Rattle.c_unit_laws.proofs.OfFollows.Steps.{follows_both}
use Rattle.c_unit_laws.proofs.OfFollows.Open.{open_given, open_bounded}
use Rattle.c_unit_laws.proofs.OfFollows.Scopes.{same_name_self}
use Rattle.c_unit_laws.proofs.OfFollows.Tests.{test_is}

truth_small : (b : Bool) → unsigned_abs (truth b) ≤ 2 ^ 48
truth_small true = omega arith
truth_small false = omega arith

module _ (g : Ground) (forms : Forms) (most : ℕ → ℕ) (root : ℕ → ℕ) (layout : Layout) (s : State) (m : Machine) (match : Matches g forms most root layout s m) where
  abbrev text : Argument → Actual
  text = actual_of g.naming forms (ControlParam Index)

  -- what a field is set to is one number on both sides
  abbrev IsSet : Argument → Type 0
  IsSet a = (n : ℤ) × (argument_number s.scene a ≡ Some n) × (thing m.setting (text a) ≡ Done (IsNumber n)) × (unsigned_abs n ≤ 2 ^ 48)

  set_to : (a : Argument) → IsGoodSetting g.declared forms most a → IsSet a
  set_to (ControlArg a) h = (
    number s.scene a,
    refl,
    open_given g.naming forms most layout s.scene m.setting match.names match.placed g.declared match.fields a h.0.0 h.0.1,
    le_trans (open_bounded g.naming forms most layout s.scene m.setting match.names match.placed g.declared match.fields a h.0.0) h.1,
  )
  set_to (ConditionArg c) h = (
    truth (holds s.scene c),
    refl,
    ap (λ o. after o (λ b. Done (IsNumber (truth b)))) (test_is g.naming g.declared forms most layout s.scene m.setting match.names match.placed match.fields c h),
    truth_small (holds s.scene c),
  )
  set_to (Whole x) h = absurd h
  set_to (Window x coords) h = absurd h

  module _ (f : ℕ) (known : g.declared f ≡ true) (alone : IsAlone g.naming g.declared f) (n : ℤ) (small : unsigned_abs n ≤ 2 ^ 48) where
    abbrev after_state : State
    after_state = on_scene (with_field f n) s

    abbrev after_machine : Machine
    after_machine = record m { setting = record m.setting { fields = named m.setting.fields (g.naming.field f) n } }

    -- the field itself, and another one
    this_set : (i : ℕ) → (i == f) ≡ true → g.declared i ≡ true → IsSameField g.naming after_state.scene.fields after_machine.setting.names after_machine.setting.fields i
    this_set i e h =
        let value : after_state.scene.fields i ≡ n = ap (λ t. cond t n (s.scene.fields i)) e in
        let own = subst (λ y. same_name (g.naming.field i) (g.naming.field y) ≡ true) (eqb-true i f e) (same_name_self (g.naming.field i)) in
        record { name = (match.fields i h).name; same = ap (λ t. cond t n (m.setting.fields (g.naming.field i))) own ∙ sym value; small = subst (λ z. unsigned_abs z ≤ 2 ^ 48) (sym value) small }

    other_set : (i : ℕ) → (i == f) ≡ false → g.declared i ≡ true → IsSameField g.naming after_state.scene.fields after_machine.setting.names after_machine.setting.fields i
    other_set i e h =
        let value : after_state.scene.fields i ≡ s.scene.fields i = ap (λ t. cond t n (s.scene.fields i)) e in
        let apart : same_name (g.naming.field i) (g.naming.field f) ≡ false = ⊎_elim (λ j. absurd (true≢false (sym (eq-eqb i f j) ∙ e))) (λ j. j) (alone i h) in
        record { name = (match.fields i h).name; same = ap (λ t. cond t n (m.setting.fields (g.naming.field i))) apart ∙ (match.fields i h).same ∙ sym value; small = subst (λ z. unsigned_abs z ≤ 2 ^ 48) (sym value) (match.fields i h).small }

    fields_set : AreSameFields g.naming g.declared after_state.scene.fields after_machine.setting.names after_machine.setting.fields
    fields_set i h = go (i == f) refl
      where
        go : (t : Bool) → (i == f) ≡ t → IsSameField g.naming after_state.scene.fields after_machine.setting.names after_machine.setting.fields i
        go true e = this_set i e h
        go false e = other_set i e h

    ran_set : Ran g forms most root layout s m after_state after_machine
    ran_set = record {
      matches = record { names = match.names; fields = fields_set; functions = match.functions; cells = match.cells; known = match.known; placed = match.placed; apart = match.apart; roots = match.roots };
      kept = record { buffers = λ b shape e. e; objects = λ o h. refl; free = le_refl m.setting.free; untouched = λ o k h out. refl };
      control = refl;
      names = refl;
      same_buffers = refl;
    }

    machine_is : after (set_under (g.naming.field f) (m.setting.names (g.naming.field f)) (IsNumber n) m.setting) (λ t. Done (record m { setting = t })) ≡ Done after_machine
    machine_is = ap (λ o. after (set_under (g.naming.field f) o (IsNumber n) m.setting) (λ t. Done (record m { setting = t }))) (match.fields f known).name

    where_suited : (Few : Type 0) (b : Bool) → Follows Few (Ran g forms most root layout s m) (where_true b (Some after_state)) (after (set_under (g.naming.field f) (m.setting.names (g.naming.field f)) (IsNumber n) m.setting) (λ t. Done (record m { setting = t })))
    where_suited Few false = tt
    where_suited Few true = follows_both Few (Ran g forms most root layout s m) _ _ after_state after_machine refl machine_is ran_set

  pub setting_follows : (Few : Type 0) (world : World) (f : ℕ) → g.declared f ≡ true → IsAlone g.naming g.declared f → (a : Argument) → IsGoodSetting g.declared forms most a → Follows Few (Ran g forms most root layout s m) (configure world f a s) (set_field (g.naming.field f) (text a) m)
  setting_follows Few world f known alone a good =
      let set = set_to a good in
      subst (λ o. Follows Few (Ran g forms most root layout s m) (then_do o (λ n. where_true (suits (world.kinds f) n) (Some (on_scene (with_field f n) s)))) (set_field (g.naming.field f) (text a) m)) (sym set.1)
      (subst (λ o. Follows Few (Ran g forms most root layout s m) (where_true (suits (world.kinds f) set.0) (Some (on_scene (with_field f set.0) s))) (after o (λ t. after (set_under (g.naming.field f) (m.setting.names (g.naming.field f)) t m.setting) (λ z. Done (record m { setting = z }))))) (sym set.2)
      (where_suited f known alone set.0 set.3 Few (suits (world.kinds f) set.0)))
