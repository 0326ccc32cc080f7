-- All that is known at a place.
use Rattle.std.proofs.Common.{◌≡◌, ℕ, pos, ◌==◌, int_le, true, List, [], ◌∷◌, ◌++◌, refl, sym, ap, ◌∙◌, eq-eqb}
use Rattle.exo_tree.specs.Tree.{Size, Index, Truth, Stride, Condition, Param, ParamKind, ControlParam, TensorParam, WindowParam}
use Rattle.exo_meaning.specs.Scene.{Scene, holds}
use Rattle.exo_meaning.specs.Calls.{all_hold}
use Rattle.exo_meaning.specs.Inputs.{IsArgument, AreArguments, is_buffer_of}
use Rattle.exo_meaning.specs.Orders.{Each}
use Rattle.meaning_laws.specs.Facts.{Holds, IsTrueAt, is_plain_condition, facts, IsSteady}
use Rattle.meaning_laws.specs.Known.{param_facts, params_facts, all_hold_facts, KnownLaw, ShownLaw}
use Rattle.meaning_laws.proofs.Names.{come_names}
use Rattle.meaning_laws.proofs.Substitute.{and_parts}
use Rattle.meaning_laws.proofs.Facts.{facts_law, steady_law, with_true, or_left, or_right, le_holds}

pub each_join : {T : Type 0} (P : T → Type 0) (xs ys : List T) → Each P xs → Each P ys → Each P (xs ++ ys)
each_join P [] ys h k = k
each_join P (x ∷ xs) ys h k = (h.0, each_join P xs ys h.1 k)

module _ (s u : Scene) where
  param_true : (x : ℕ) (kind : ParamKind) → s.control x ≡ u.control x → IsArgument s x kind → Each (IsTrueAt u) (param_facts x kind)
  param_true x (ControlParam Size) e h = (ap (int_le (pos 1)) (sym e) ∙ le_holds (pos 1) (s.control x) h.0, tt)
  param_true x (ControlParam Index) e h = tt
  param_true x (ControlParam Truth) e h = (ap (int_le (pos 0)) (sym e) ∙ le_holds (pos 0) (s.control x) h.0.0, (ap (λ n. int_le n (pos 1)) (sym e) ∙ le_holds (s.control x) (pos 1) h.0.1, tt))
  param_true x (ControlParam Stride) e h = tt
  param_true x (TensorParam cell dims memory) e h = tt
  param_true x (WindowParam cell dims memory) e h = tt

  pub params_true : (ps : List Param) → ((x : ℕ) → is_buffer_of x ps ≡ true → s.control x ≡ u.control x) → AreArguments s ps → Each (IsTrueAt u) (params_facts ps)
  params_true [] e h = tt
  params_true (p ∷ ps) e h = each_join (IsTrueAt u) (param_facts p.binder.id p.kind) (params_facts ps) (param_true p.binder.id p.kind (e p.binder.id (or_left (p.binder.id == p.binder.id) (is_buffer_of p.binder.id ps) (eq-eqb p.binder.id p.binder.id refl))) h.0) (params_true ps (λ x k. e x (or_right (x == p.binder.id) (is_buffer_of x ps) k)) h.1)

  asserts_true : (cs : List Condition) → Each (λ c. is_plain_condition c ≡ true → holds u c ≡ holds s c) cs → all_hold s cs ≡ true → Each (IsTrueAt u) (all_hold_facts cs)
  asserts_true [] e h = tt
  asserts_true (c ∷ cs) e h = let p = and_parts (holds s c) (all_hold s cs) h in with_true u (is_plain_condition c) (Holds c) (all_hold_facts cs) (λ q. e.0 q ∙ p.0) (asserts_true cs e.1 p.1)

pub each_map : {T : Type 0} (P Q : T → Type 0) → ((x : T) → P x → Q x) → (xs : List T) → Each P xs → Each Q xs
each_map P Q k [] h = tt
each_map P Q k (x ∷ xs) h = (k x h.0, each_map P Q k xs h.1)

pub known_law : KnownLaw
known_law world p old c s u keeps good come =
    each_join (IsTrueAt u.scene) (params_facts p.params) (all_hold_facts p.asserts ++ facts c)
    (params_true s.scene u.scene p.params (λ x k. (come_names world old c s u come x (keeps.params x k)).control) good.arguments)
    (each_join (IsTrueAt u.scene) (all_hold_facts p.asserts) (facts c)
    (asserts_true s.scene u.scene p.asserts (each_map (IsSteady c) (λ t. is_plain_condition t ≡ true → holds u.scene t ≡ holds s.scene t) (λ t k q. steady_law world old c s u t q k come) p.asserts keeps.asserts) good.asserts)
    (facts_law world old c s u keeps.facts come))

pub shown_law : ShownLaw
shown_law world p old c claim keeps follows s u good come = follows u.scene (known_law world p old c s u keeps good come)
