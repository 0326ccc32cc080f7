-- A call of a procedure that is followed, from arguments that are the same on both sides.
use Rattle.std.proofs.Common.{◌≡◌, ◌==◌, ◌&&◌, ◌||◌, ℕ, Bool, true, false, cond, List, [], ◌∷◌, Option, Some, None, option_map, refl, sym, ap, ◌∙◌, true≢false, eqb-true, eq-eqb}
use Rattle.std.proofs.lemmas.Bool.{and_from}
use Rattle.exo_tree.specs.Tree.{Argument, ControlArg, ConditionArg, Whole, Window, Param}
use Rattle.exo_meaning.specs.Scene.{then_do, where_true, Seen, Scene, window}
use Rattle.exo_meaning.specs.State.{State}
use Rattle.exo_meaning.specs.Calls.{all_apart, Callee, Given, GivenView, given, all_given, entered, returned, run_asserted, all_hold}
use Rattle.exo_meaning.specs.Run.{is_root, call_writes}
use Rattle.exo_meaning.specs.Laws.{HasRoots}
use Rattle.exo_meaning.proofs.Frame.{window_root}
use Rattle.exo_meaning.proofs.Windows.{none_is_some, one_value}
use Rattle.meaning_laws.proofs.Parts.{then_gives, map_gives}
use Rattle.meaning_laws.proofs.Names.{if_gives}
use Rattle.inplace_laws.specs.CallInPlace.{base_of, seen_of}
use Rattle.inplace_laws.proofs.Passed.{passed_apart}
use Rattle.c_tree.specs.CTree.{Name}
use Rattle.c_unit_laws.specs.Follows.Machine.Machine.{Outcome, Done, Fault, NoStore, Thing, IsField}
use Rattle.c_unit_laws.specs.Follows.Machine.Machine.{IsFunction, Machine}
use Rattle.c_unit_laws.specs.Follows.Machine.CRun.{Behaviour, CWorld, bind_formals, in_scope}
use Rattle.c_unit_laws.specs.Follows.Machine.CRun.{back_to, run_in_place, with_names}
use Rattle.c_lowering.specs.Made.Lowered.{Forms, param_forms}
use Rattle.c_unit_laws.specs.Follows.Simulation.{Ground, Follows, Layout, Matches, Ran, Ends}
use Rattle.c_unit_laws.specs.Follows.Calls.{IsFollowed}
use Rattle.c_unit_laws.proofs.OfFollows.Steps.{follows_map, follows_done}
use Rattle.c_unit_laws.proofs.OfFollows.Bound.{formals_bind}
use Rattle.c_unit_laws.proofs.OfFollows.Given.{AreGivenAs}
use Rattle.c_unit_laws.proofs.OfFollows.CallEntry.{Enters, all_suit, inside, names, entered_match}
use Rattle.c_unit_laws.proofs.OfFollows.CallExit.{returned_match}

-- ---- what a call writes

module _ (root : ℕ → ℕ) (scene : Scene) (roots : HasRoots root scene) where
  -- a buffer argument is of its name's buffer
  of_root : (a : Argument) (g : Given) (z : Seen) → given scene a ≡ Some g → seen_of g ≡ Some z → is_root root z.buffer a ≡ true
  of_root (ControlArg e) g z k i = absurd (none_is_some (ap seen_of (one_value _ g k) ∙ i))
  of_root (ConditionArg c) g z k i = absurd (none_is_some (ap seen_of (one_value _ g k) ∙ i))
  of_root (Whole x) g z k i =
      let m = map_gives (scene.views x) GivenView g k in
      eq-eqb z.buffer (root x) (roots x z (m.1 ∙ ap seen_of m.2 ∙ i))
  of_root (Window x coords) g z k i =
      let m = map_gives (window scene x coords) GivenView g k in
      eq-eqb z.buffer (root x) (if_gives (λ seen. seen.buffer ≡ root x) (window scene x coords) z (window_root root scene roots x coords) (m.1 ∙ ap seen_of m.2 ∙ i))

  module _ (writes : ℕ → Bool) where
    -- the buffer of a parameter that is written is one that the call writes
    pub written_root : (ps : List Param) (args : List Argument) (gs : List Given) (x : ℕ) (z : Seen) → all_given scene args ≡ Some gs → writes x ≡ true → base_of ps gs x ≡ Some z → call_writes writes root z.buffer ps args ≡ true
    written_root [] args gs x z k w i = absurd (none_is_some i)
    written_root (p ∷ ps) args [] x z k w i = absurd (none_is_some i)
    written_root (p ∷ ps) [] (g ∷ gs) x z k w i = absurd (not_empty (one_value [] (g ∷ gs) k))
      where
        not_empty : {A : Type 0} {x : A} {l : List A} → [] ≡ (x ∷ l) → ⊥
        not_empty e = cc
    written_root (p ∷ ps) (a ∷ args) (g ∷ gs) x z k w i =
        let m = then_gives (given scene a) (λ g. option_map (λ gs. g ∷ gs) (all_given scene args)) (g ∷ gs) k in
        let n = map_gives (all_given scene args) (λ gs. m.0 ∷ gs) (g ∷ gs) m.2 in
        go (x == p.binder.id) refl (m.1 ∙ ap (λ v. Some v) (first n.2)) (written_root ps args gs x z (n.1 ∙ ap (λ v. Some v) (second n.2)) w) i
      where
        first : {A : Type 0} {x y : A} {l m : List A} → (x ∷ l) ≡ (y ∷ m) → x ≡ y
        first e = cc

        second : {A : Type 0} {x y : A} {l m : List A} → (x ∷ l) ≡ (y ∷ m) → l ≡ m
        second e = cc

        or_left : (a b : Bool) → a ≡ true → (a || b) ≡ true
        or_left true b h = refl
        or_left false b h = absurd (true≢false (sym h))

        or_right : (a b : Bool) → b ≡ true → (a || b) ≡ true
        or_right true b h = refl
        or_right false b h = h

        go : (t : Bool) → (x == p.binder.id) ≡ t → given scene a ≡ Some g → (base_of ps gs x ≡ Some z → call_writes writes root z.buffer ps args ≡ true) → cond t (seen_of g) (base_of ps gs x) ≡ Some z → ((writes p.binder.id && is_root root z.buffer a) || call_writes writes root z.buffer ps args) ≡ true
        go true d e h i = or_left (writes p.binder.id && is_root root z.buffer a) (call_writes writes root z.buffer ps args) (and_from (writes p.binder.id) (is_root root z.buffer a) (ap writes (sym (eqb-true x p.binder.id d)) ∙ w) (of_root a g z e i))
        go false d e h i = or_right (writes p.binder.id && is_root root z.buffer a) (call_writes writes root z.buffer ps args) (h i)

-- ---- the run of the callee

-- where fewer runs have to find store
fewer : {A B : Type 0} (Few More : Type 0) (R : A → B → Type 0) (o : Option A) (p : Outcome B) → (Few → More) → Follows More R o p → Follows Few R o p
fewer Few More R None p h k = tt
fewer Few More R (Some a) (Done b) h k = k
fewer Few More R (Some a) Fault h k = k
fewer Few More R (Some a) NoStore h k = λ f. k (h f)

module _ (Few : Type 0) (g : Ground) (c_world : CWorld) (forms : Forms) (most : ℕ → ℕ) (root : ℕ → ℕ) (layout : Layout) (s : State) (m : Machine) (match : Matches g forms most root layout s m) (few : State → Type 0) (c : Callee) (f : Behaviour) (k : ℕ) (followed : IsFollowed g few c f k) (fields : (f : ℕ) → g.declared f ≡ true → c_world.globals (g.naming.field f) ≡ Some IsField) (functions : (x : Name) → g.function x ≡ true → c_world.globals x ≡ Some IsFunction) (args : List Argument) (may : (y : ℕ) → call_writes c.writes root y c.procedure.params args ≡ true → g.stored y ≡ true) (gs : List Given) (ts : List Thing) (given_is : all_given s.scene args ≡ Some gs) (passed : all_apart c.writes c.procedure.params gs ≡ true) (as_given : AreGivenAs layout s.scene (g.bounds k) c.procedure.params gs ts) where
  abbrev ps : List Param
  ps = c.procedure.params

  abbrev Runs : State → Machine → Type 0
  Runs = Ran g forms most root layout s m

  module _ (inner : State) (entered_is : entered ps gs s ≡ Some inner) (few_inside : Few → few inner) where
    enters : Enters g followed.own layout s inner c_world.globals (g.bounds k) ps gs ts
    enters = record {
      field = followed.field;
      declared = followed.declared;
      function = followed.function;
      named = followed.named;
      distinct = followed.distinct;
      good = followed.good;
      entered = entered_is;
      given = as_given;
      fields_seen = fields;
      functions_seen = functions;
      may = λ x z w i. may z.buffer (written_root root s.scene match.roots c.writes ps args gs x z given_is (sym (ap (λ t. t x) followed.stored) ∙ w) i);
      apart = λ b d z y w i j l. passed_apart c.writes ps gs passed b d z y (sym (ap (λ t. t b) followed.stored) ∙ w) i j l;
    }

    abbrev callee_names : Name → Option Thing
    callee_names = names g followed.own forms most root layout s inner m match c_world.globals (g.bounds k) ps gs ts enters

    abbrev callee_layout : Layout
    callee_layout = inside g followed.own forms most root layout s inner m match c_world.globals (g.bounds k) ps gs ts enters

    binds : bind_formals m.setting.objects f.formals ts c_world.globals ≡ Done callee_names
    binds =
        ap (λ fs. bind_formals m.setting.objects fs ts c_world.globals) followed.formals
        ∙ formals_bind followed.own.naming m.setting.objects ps ts c_world.globals (all_suit layout s m match.placed (g.bounds k) ps gs ts as_given)

    abbrev Ended : State → Machine → Type 0
    Ended = Ends followed.own (param_forms ps) callee_layout inner (with_names callee_names m)

    body_follows : Follows Few Ended (run_asserted c inner) (f.run (with_names callee_names m))
    body_follows = go (all_hold inner.scene c.procedure.asserts) refl
      where
        go : (t : Bool) → all_hold inner.scene c.procedure.asserts ≡ t → Follows Few Ended (where_true t (c.run inner)) (f.run (with_names callee_names m))
        go false e = tt
        go true e = fewer Few (few inner) Ended (c.run inner) _ few_inside (followed.follows callee_layout inner (with_names callee_names m) (entered_match g followed.own forms most root layout s inner m match c_world.globals (g.bounds k) ps gs ts enters) e)

    inner_follows : Follows Few Runs (option_map (returned c gs s) (run_asserted c inner)) (run_in_place c_world (Some f) ts m)
    inner_follows =
        follows_done Few Runs (option_map (returned c gs s) (run_asserted c inner)) (bind_formals m.setting.objects f.formals ts c_world.globals) callee_names (λ names. in_scope (λ n. f.run (with_names names n)) m) binds
        (follows_map Few Ended Runs (run_asserted c inner) (f.run (with_names callee_names m)) (returned c gs s) (back_to m) body_follows
        (λ u n ends. returned_match g followed.own forms most root layout s inner m match c_world.globals (g.bounds k) c gs ts enters followed.stored u n ends))

  pub called_follows : ((inner : State) → entered ps gs s ≡ Some inner → Few → few inner) → Follows Few Runs (then_do (entered ps gs s) (λ inner. option_map (returned c gs s) (run_asserted c inner))) (run_in_place c_world (Some f) ts m)
  called_follows few_inside = go (entered ps gs s) refl
    where
      go : (o : Option State) → entered ps gs s ≡ o → Follows Few Runs (then_do o (λ inner. option_map (returned c gs s) (run_asserted c inner))) (run_in_place c_world (Some f) ts m)
      go None e = tt
      go (Some inner) e = inner_follows inner e (few_inside inner e)
