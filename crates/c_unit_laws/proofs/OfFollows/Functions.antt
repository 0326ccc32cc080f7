-- A call of a function follows the run of its procedure.
use Rattle.std.proofs.Common.{◌≡◌, ◌≤◌, ◌^◌, ℕ, suc, ℤ, pos, negsuc, neg_ℤ, Bool, true, false, List, [], ◌∷◌, length, Option, Some, None, refl, sym, ap, ◌∙◌, subst, arith, unsigned_abs, true≢false, ⊎_elim}
use Rattle.std.proofs.lemmas.Int.{ints}
use Rattle.exo_tree.specs.Tree.{Control, Param, ParamKind, ControlParam, TensorParam, WindowParam, Procedure}
use Rattle.exo_meaning.specs.Value.{Value, Undefined, Number, IsRefinedBy}
use Rattle.exo_meaning.specs.Scene.{Scene, numbers, where_true}
use Rattle.exo_meaning.specs.State.{State}
use Rattle.exo_meaning.specs.Run.{World, run}
use Rattle.exo_meaning.specs.Inputs.{IsBetween, IsValid, is_buffer_of, all_have_extents}
use Rattle.exo_meaning.specs.Units.{same_cell}
use Rattle.c_widths.specs.Few.{AllocatesFew, no_fewness, fewness_from}
use Rattle.c_tree.specs.CTree.{Name}
use Rattle.c_unit_laws.specs.Follows.Machine.Machine.{Outcome, Done, Fault, NoStore, after, Thing}
use Rattle.c_unit_laws.specs.Follows.Machine.Machine.{IsFunction, Machine, holds_cells}
use Rattle.c_unit_laws.specs.Follows.Machine.CRun.{CWorld, run_c, run_in_place, bind_formals}
use Rattle.c_unit_laws.specs.Follows.Machine.CRun.{back_to, in_scope, still_there, with_names}
use Rattle.c_lowering.specs.Made.Lowered.{NoForm, param_forms, block_of}
use Rattle.c_lowering.specs.Made.LoweredUnit.{formals_of}
use Rattle.c_unit_laws.specs.Follows.Simulation.{Ground, Follows, Layout, AreSameFields, Matches}
use Rattle.c_unit_laws.specs.Follows.Simulation.{Ends, IsHeld, spot_of}
use Rattle.c_unit_laws.specs.Follows.Good.{AreGoodParams}
use Rattle.c_unit_laws.specs.Follows.SameInput.{IsSame, AreSame}
use Rattle.c_unit_laws.specs.Follows.Units.{LeavesTheSame}
use Rattle.c_unit_laws.specs.Follows.Functions.{behaviour_of, AreDeclared, IsSameInput}
use Rattle.c_unit_laws.specs.Follows.Functions.{FunctionsFollow, FunctionsWithoutCallsFollow}
use Rattle.c_unit_laws.proofs.OfFollows.Steps.{follows_done}
use Rattle.exo_tree.specs.Cells.{same_itself}
use Rattle.c_unit_laws.proofs.OfFollows.Bound.{Suits, AreSuited, thing_of, named_by, formals_bind}
use Rattle.c_unit_laws.proofs.OfFollows.Bound.{bound_elsewhere, bound_here, names_differ}
use Rattle.c_unit_laws.proofs.OfFollows.Bound.{params_other, param_there}
use Rattle.c_unit_laws.proofs.OfFollows.Begun.{begun}
use Rattle.c_unit_laws.proofs.OfFollows.WithCalls.{blocks_follow}

-- the source goes on as it is, and the C is closed
follows_closed : {A B C : Type 0} (Few : Type 0) (R : A → B → Type 0) (S : A → C → Type 0) (o : Option A) (p : Outcome B) (h : B → C) → Follows Few R o p → ((a : A) (b : B) → R a b → S a (h b)) → Follows Few S o (after p (λ b. Done (h b)))
follows_closed Few R S None p h r k = tt
follows_closed Few R S (Some a) (Done b) h r k = k a b r
follows_closed Few R S (Some a) Fault h r k = r
follows_closed Few R S (Some a) NoStore h r k = r

refined : (u v : Value) → IsHeld u v → IsRefinedBy u v
refined Undefined v h = tt
refined (Number n) v h = sym h.0

field_small : (z : ℤ) → IsBetween (neg_ℤ (pos (2 ^ 48))) (pos (2 ^ 48)) z → unsigned_abs z ≤ 2 ^ 48
field_small (pos n) h = omega (arith, ints, h.1)
field_small (negsuc n) h = omega (arith, ints, h.0)

numbers_length : (scene : Scene) (dims : List Control) → length (numbers scene dims) ≡ length dims
numbers_length scene [] = refl
numbers_length scene (d ∷ dims) = ap suc (numbers_length scene dims)

-- the same things suit the parameters
thing_suits : (layout : Layout) (s : State) (m : Machine) (x : ℕ) (kind : ParamKind) (t : Thing) → IsSame layout s m x kind t → Suits m.setting.objects kind t
thing_suits layout s m x (ControlParam kind) t h = (s.scene.control x, h)
thing_suits layout s m x (TensorParam cell dims memory) t h = (layout x, h.thing, ap (λ o. holds_cells o cell) h.there ∙ ap (λ c. same_cell c cell) h.same_cell ∙ same_itself cell)
thing_suits layout s m x (WindowParam cell dims memory) t h = (layout x, h.shape.strides, h.thing, ap (λ o. holds_cells o cell) h.there ∙ ap (λ c. same_cell c cell) h.same_cell ∙ same_itself cell, h.ranks ∙ numbers_length s.scene dims)

things_suit : (layout : Layout) (s : State) (m : Machine) (ps : List Param) (ts : List Thing) → AreSame layout s m ps ts → AreSuited m.setting.objects ps ts
things_suit layout s m [] [] h = tt
things_suit layout s m [] (t ∷ ts) h = absurd h
things_suit layout s m (p ∷ ps) [] h = absurd h
things_suit layout s m (p ∷ ps) (t ∷ ts) h = (thing_suits layout s m p.binder.id p.kind t h.0, things_suit layout s m ps ts h.1)

module _ (g : Ground) (most : ℕ → ℕ) (layout : Layout) (world : World) (c_world : CWorld) (p : Procedure) (s : State) (ts : List Thing) (m : Machine) (declared : AreDeclared g c_world p.params) (good : AreGoodParams (param_forms p.params) most p.params) (valid : IsValid world p s) (same : IsSameInput g most layout s ts m p.params) where
  abbrev names : Name → Option Thing
  names = named_by g.naming p.params ts c_world.globals

  abbrev inner : Machine
  inner = with_names names m

  suited : AreSuited m.setting.objects p.params ts
  suited = things_suit layout s m p.params ts same.arguments

  there : (q : ℕ) → is_buffer_of q p.params ≡ true → param_forms p.params q ≡ NoForm → ⊥
  there q i e = param_there p.params q i e

  named_here : (x : ℕ) → is_buffer_of x p.params ≡ true → names (g.naming.binder x) ≡ thing_of p.params ts x
  named_here x i = bound_here g.naming m.setting.objects p.params ts c_world.globals suited (names_differ g (param_forms p.params) declared.named p.params there declared.distinct) x i

  fields_here : AreSameFields g.naming g.declared s.scene.fields names m.setting.fields
  fields_here f h = record {
    name = bound_elsewhere g.naming p.params ts c_world.globals (g.naming.field f) (params_other g.naming (param_forms p.params) (g.naming.field f) (λ x k. ⊎_elim (λ n. absurd (k n)) (λ d. d) (declared.named.no_field x f h)) p.params there) ∙ declared.fields f h;
    same = same.fields f h;
    small = field_small (s.scene.fields f) (valid.fields f);
  }

  functions_here : (f : Name) → g.function f ≡ true → names f ≡ Some IsFunction
  functions_here f h = bound_elsewhere g.naming p.params ts c_world.globals f (params_other g.naming (param_forms p.params) f (λ x k. ⊎_elim (λ n. absurd (k n)) (λ d. d) (declared.named.no_function x f h)) p.params there) ∙ declared.functions f h

  matched : all_have_extents s.scene p.params ≡ true → Matches g (param_forms p.params) most (λ x. x) layout s inner
  matched e = begun g most layout world p s m ts names valid e same.arguments same.separate same.small good named_here fields_here functions_here

  -- what the body leaves is there when the function ends
  leaves : (e : all_have_extents s.scene p.params ≡ true) (t : State) (n : Machine) → Ends g (param_forms p.params) layout s inner t n → LeavesTheSame g.naming g.declared layout s m t (back_to m n)
  leaves e t n r = record {
    cells = λ b shape k at i. subst (IsRefinedBy (t.cells b at)) (sym (ap (λ d. still_there d (n.contents (layout b).object) (λ j. Undefined) (spot_of layout b shape at).offset) ((matched e).placed b shape k).below)) (refined (t.cells b at) _ (r.cells b shape k at i));
    outside = λ o k below out. ap (λ d. still_there d (n.contents o) (λ j. Undefined) k) below ∙ r.kept.untouched o k below (λ b shape i stored at j lies. out b shape i refl at j lies);
    fields = λ f h. (r.fields f h).0;
  }

pub functions_follow : FunctionsFollow
functions_follow g most layout world kinds above c_world p s ts m calls declared good_params good may valid same = start (all_have_extents s.scene p.params) refl
  where
    start : (t : Bool) → all_have_extents s.scene p.params ≡ t → Follows (AllocatesFew world (fewness_from kinds [] no_fewness above) p.body s) (LeavesTheSame g.naming g.declared layout s m) (where_true t (run world p.body s)) (run_in_place c_world (Some (behaviour_of g c_world p)) ts m)
    start false e = tt
    start true e =
        let Few = AllocatesFew world (fewness_from kinds [] no_fewness above) p.body s in
        let inner = with_names (named_by g.naming p.params ts c_world.globals) m in
        follows_done Few (LeavesTheSame g.naming g.declared layout s m) (run world p.body s) (bind_formals m.setting.objects (formals_of g.naming p.params) ts c_world.globals) (named_by g.naming p.params ts c_world.globals) (λ z. in_scope (λ n. run_c c_world (block_of g.naming (param_forms p.params) p.body) (with_names z n)) m)
        (formals_bind g.naming m.setting.objects p.params ts c_world.globals (suited g most layout world c_world p s ts m declared good_params valid same))
        (follows_closed Few (Ends g (param_forms p.params) layout s inner) (LeavesTheSame g.naming g.declared layout s m) (run world p.body s) (run_c c_world (block_of g.naming (param_forms p.params) p.body) inner) (back_to m)
        (blocks_follow g (param_forms p.params) most (λ x. x) layout world kinds above c_world p.body calls good may s inner (matched g most layout world c_world p s ts m declared good_params valid same e))
        (leaves g most layout world c_world p s ts m declared good_params valid same e))

pub functions_without_calls_follow : FunctionsWithoutCallsFollow
functions_without_calls_follow g most layout world kinds above c_world p s ts m not_called declared =
    functions_follow g most layout world kinds above c_world p s ts m
    (record {
      fields = declared.fields;
      functions = declared.functions;
      named = λ k h. absurd (true≢false (sym h ∙ not_called k));
      each = λ k c e h. absurd (true≢false (sym h ∙ not_called k));
    })
    declared
