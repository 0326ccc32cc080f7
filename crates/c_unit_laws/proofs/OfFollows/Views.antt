-- The C of a view: a window more in scope.
use Rattle.std.proofs.Common.{◌≡◌, ◌==◌, ℕ, Bool, true, false, cond, length, Option, Some, None, refl, sym, ap, ◌∙◌, subst, ⊎_elim, inl, inr, eqb-true}
use Rattle.exo_tree.specs.Tree.{Cell, I32}
use Rattle.exo_meaning.specs.Scene.{then_do, Shape, Seen, updated, window}
use Rattle.exo_meaning.specs.State.{State, on_scene, with_view}
use Rattle.exo_meaning.specs.Run.{view}
use Rattle.exo_meaning.specs.Laws.{HasRoots}
use Rattle.c_tree.specs.CTree.{Name}
use Rattle.c_unit_laws.specs.Follows.Machine.Machine.{Outcome, Done, Fault, NoStore, after, hiding}
use Rattle.c_unit_laws.specs.Follows.Machine.Machine.{with_thing, same_name, Thing, IsFunction}
use Rattle.c_unit_laws.specs.Follows.Machine.Machine.{Machine}
use Rattle.c_unit_laws.specs.Follows.Machine.CRun.{CWorld, run_c, step_c, thing, on_setting}
use Rattle.c_lowering.specs.Made.Lowered.{Forms, Form, NoForm, WindowForm, at_spans, strides_in}
use Rattle.c_lowering.specs.Made.Lowered.{cell_in, window_of, bind_of}
use Rattle.c_unit_laws.specs.Follows.Simulation.{Ground, Follows, AreSameFields, Layout, HasForm}
use Rattle.c_unit_laws.specs.Follows.Simulation.{HaveForms, Matches, Ends}
use Rattle.c_unit_laws.specs.Follows.Good.{IsBufferOf, IsFresh}
use Rattle.c_unit_laws.proofs.OfFollows.Steps.{nothing, follows_weaken}
use Rattle.c_unit_laws.proofs.OfFollows.Wider.{IsWider, form_kept, none_window}
use Rattle.c_unit_laws.proofs.OfFollows.Scopes.{same_name_self, other, other_text}
use Rattle.c_unit_laws.proofs.OfFollows.Windows.{some_same}
use Rattle.c_unit_laws.proofs.OfFollows.Handed.{IsHanded, window_follows}
use Rattle.c_unit_laws.proofs.OfFollows.Clauses.{Rest, ViewClause}

-- what a step gives is bound, and the rest goes on from there
follows_bound : {A B C D E F : Type 0} (Few : Type 0) (R : A → B → Type 0) (S : E → F → Type 0) (o : Option A) (p : Outcome B) (f : A → C) (h : B → D) (go : C → Option E) (c : D → Outcome F) → Follows Few R o p → ((a : A) (b : B) → o ≡ Some a → R a b → Follows Few S (go (f a)) (c (h b))) → Follows Few S (then_do (then_do o (λ a. Some (f a))) go) (after (after p (λ b. Done (h b))) c)
follows_bound Few R S None p f h go c r k = tt
follows_bound Few R S (Some a) (Done b) f h go c r k = k a b refl r
follows_bound Few R S (Some a) Fault f h go c r k = absurd r
follows_bound Few R S (Some a) NoStore f h go c r k = nothing Few S (go (f a)) r

module _ (g : Ground) (forms : Forms) (most : ℕ → ℕ) (root : ℕ → ℕ) (layout : Layout) (w : ℕ) (fresh : IsFresh g forms w) (s : State) (m : Machine) (match : Matches g forms most root layout s m) where
  -- the name that is bound plays no part in what it is bound to
  hidden_match : HaveForms g.naming forms most layout s.scene (hiding (g.naming.binder w) m.setting).names
  hidden_match x = form_kept g.naming forms forms most most layout layout _ _ _ _ _ _ _ _ same x (forms x) refl (match.names x)
    where
      same : IsWider g.naming forms forms most most layout layout s.scene.control s.scene.control s.scene.buffers s.scene.buffers s.scene.views s.scene.views m.setting.names (hiding (g.naming.binder w) m.setting).names
      same = record {
        form = λ y h. refl;
        bound = λ y h. refl;
        number = λ y h. refl;
        view = λ y h. refl;
        name = λ y h. ap (λ b. cond b None (m.setting.names (g.naming.binder y))) (other_text g forms w fresh y h);
        buffer = λ b shape e. e;
        place = λ b shape e. refl;
      }

  module _ (x : ℕ) (cell : Cell) (rank : ℕ) (seen : Seen) (t : Thing) (handed : IsHanded layout s.scene (root x) cell rank seen t) where
    abbrev more_forms : Forms
    more_forms = updated forms w (WindowForm cell rank)

    abbrev new_state : State
    new_state = on_scene (with_view w seen) s

    abbrev new_machine : Machine
    new_machine = on_setting (with_thing (g.naming.binder w) t) m

    abbrev New : ℕ → Form → Type 0
    New = HasForm g.naming more_forms most layout new_state.scene.control new_state.scene.buffers new_state.scene.views new_machine.setting.names

    wider : IsWider g.naming forms more_forms most most layout layout s.scene.control new_state.scene.control s.scene.buffers new_state.scene.buffers s.scene.views new_state.scene.views m.setting.names new_machine.setting.names
    wider = record {
      form = λ y h. ap (λ b. cond b (WindowForm cell rank) (forms y)) (other g forms w fresh y h);
      bound = λ y h. refl;
      number = λ y h. refl;
      view = λ y h. ap (λ b. cond b (Some seen) (s.scene.views y)) (other g forms w fresh y h);
      name = λ y h. ap (λ b. cond b (Some t) (m.setting.names (g.naming.binder y))) (other_text g forms w fresh y h);
      buffer = λ b shape e. e;
      place = λ b shape e. refl;
    }

    new_window : (y : ℕ) → (y == w) ≡ true → New y (WindowForm cell rank)
    new_window y e = record {
      seen = seen;
      shape = handed.shape;
      view = ap (λ b. cond b (Some seen) (s.scene.views y)) e;
      buffer = handed.buffer;
      within = handed.within;
      full = handed.full;
      rank_is = handed.rank_is;
      cell_is = handed.cell_is;
      name = ap (λ b. cond b (Some t) (m.setting.names (g.naming.binder y))) (subst (λ z. same_name (g.naming.binder y) (g.naming.binder z) ≡ true) (eqb-true y w e) (same_name_self (g.naming.binder y))) ∙ ap (λ z. Some z) handed.thing_is;
    }

    names_there : (y : ℕ) → New y (more_forms y)
    names_there y = go (y == w) refl
      where
        go : (b : Bool) → (y == w) ≡ b → New y (cond b (WindowForm cell rank) (forms y))
        go true e = new_window y e
        go false e = form_kept g.naming forms more_forms most most layout layout _ _ _ _ _ _ _ _ wider y (forms y) refl (match.names y)

    known_there : (b : ℕ) (shape : Shape) → s.scene.buffers b ≡ Some shape → more_forms b ≡ NoForm → ⊥
    known_there b shape e h = go (b == w) h
      where
        go : (d : Bool) → cond d (WindowForm cell rank) (forms b) ≡ NoForm → ⊥
        go true k = none_window (sym k)
        go false k = match.known b shape e k

    fields_there : AreSameFields g.naming g.declared new_state.scene.fields new_machine.setting.names new_machine.setting.fields
    fields_there f h = record { name = ap (λ b. cond b (Some t) (m.setting.names (g.naming.field f))) (fresh.no_field f h) ∙ (match.fields f h).name; same = (match.fields f h).same; small = (match.fields f h).small }

    functions_there : (f : Name) → g.function f ≡ true → new_machine.setting.names f ≡ Some IsFunction
    functions_there f h = ap (λ b. cond b (Some t) (m.setting.names f)) (fresh.no_function f h) ∙ match.functions f h

    roots_there : HasRoots (updated root w (root x)) new_state.scene
    roots_there y part e = go (y == w) refl
      where
        go : (b : Bool) → (y == w) ≡ b → part.buffer ≡ updated root w (root x) y
        go true d = ap (λ z. z.buffer) (some_same (sym e ∙ ap (λ b. cond b (Some seen) (s.scene.views y)) d)) ∙ handed.of_root ∙ sym (ap (λ b. cond b (root x) (root y)) d)
        go false d = match.roots y part (sym (ap (λ b. cond b (Some seen) (s.scene.views y)) d) ∙ e) ∙ sym (ap (λ b. cond b (root x) (root y)) d)

    pub viewed_match : Matches g more_forms most (updated root w (root x)) layout new_state new_machine
    viewed_match = record { names = names_there; fields = fields_there; functions = functions_there; cells = match.cells; known = known_there; placed = match.placed; apart = match.apart; roots = roots_there }

    -- ---- the end of the block

    gone : (y : ℕ) → more_forms y ≡ NoForm → forms y ≡ NoForm
    gone y h = pick (y == w) refl
      where
        pick : (b : Bool) → (y == w) ≡ b → forms y ≡ NoForm
        pick true d = absurd (none_window (sym h ∙ ap (λ b. cond b (WindowForm cell rank) (forms y)) d))
        pick false d = sym (ap (λ b. cond b (WindowForm cell rank) (forms y)) d) ∙ h

    pub viewed_ends : (u : State) (p : Machine) → Ends g more_forms layout new_state new_machine u p → Ends g forms layout s m u p
    viewed_ends u p r = record {
      kept = record { buffers = r.kept.buffers; objects = r.kept.objects; free = r.kept.free; untouched = r.kept.untouched };
      names = λ y. ⊎_elim (λ e. inl e) (λ f. ⊎_elim (λ e. inl (gone y e)) (λ e. inr (e ∙ ap (λ b. cond b (Some t) (m.setting.names (g.naming.binder y))) f)) (r.names y)) (fresh.other_name y);
      fields = r.fields;
      cells = r.cells;
    }

pub view_follows : (Few : Type 0) (g : Ground) (c_world : CWorld) → ViewClause Few g c_world
view_follows Few g c_world forms most root layout w x coords h good some fresh s m match go c rest =
    subst (λ k. Follows Few (Ends g forms layout s m) (then_do (view w.id x coords s) go) (after (step_c c_world (bind_of (g.naming.binder w.id) (window_of g.naming forms x k coords)) m) (run_c c_world c))) (sym (cell_is h.1))
    (follows_bound Few (IsHanded layout s.scene (root x) h.0 (length (at_spans coords (strides_in g.naming x (forms x))))) (Ends g forms layout s m) (window s.scene x coords) (thing (hiding (g.naming.binder w.id) m.setting) (window_of g.naming forms x h.0 coords)) (λ seen. on_scene (with_view w.id seen) s) (λ t. on_setting (with_thing (g.naming.binder w.id) t) m) go (run_c c_world c)
    (window_follows g.naming forms most layout s.scene (hiding (g.naming.binder w.id) m.setting) (hidden_match g forms most root layout w.id fresh s m match) match.placed root match.roots Few x h.0 coords h.1 good)
    (λ seen t e handed. follows_weaken Few (Ends g (updated forms w.id (WindowForm h.0 (length (at_spans coords (strides_in g.naming x (forms x)))))) layout (on_scene (with_view w.id seen) s) (on_setting (with_thing (g.naming.binder w.id) t) m)) (Ends g forms layout s m) _ _
    (rest_here layout (on_scene (with_view w.id seen) s) (on_setting (with_thing (g.naming.binder w.id) t) m) (ap (λ o. then_do o (λ z. Some (on_scene (with_view w.id z) s))) e) (viewed_match g forms most root layout w.id fresh s m match x h.0 (length (at_spans coords (strides_in g.naming x (forms x)))) seen t handed))
    (viewed_ends g forms most root layout w.id fresh s m match x h.0 (length (at_spans coords (strides_in g.naming x (forms x)))) seen t handed)))
  where
    cell_is : IsBufferOf forms x h.0 (length coords) → cell_in (forms x) I32 ≡ h.0
    cell_is k = ⊎_elim (λ v. ap (λ f. cell_in f I32) v.0) (λ t. ap (λ f. cell_in f I32) t.1) k

    rest_here : Rest Few g c_world (updated forms w.id (WindowForm h.0 (length (at_spans coords (strides_in g.naming x (forms x)))))) most (updated root w.id (root x)) (view w.id x coords s) go c
    rest_here = subst (λ k. Rest Few g c_world (updated forms w.id (WindowForm k (length (at_spans coords (strides_in g.naming x (forms x)))))) most (updated root w.id (root x)) (view w.id x coords s) go c) (cell_is h.1) rest
