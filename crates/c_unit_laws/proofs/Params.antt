-- Parameters that keep the rules and fit.
use Rattle.std.proofs.Common.{◌≡◌, ◌==◌, ℕ, Bool, true, false, cond, List, [], ◌∷◌, length, Option, Some, None, refl, sym, ap, ◌∙◌, subst, eqb-true, eq-eqb}
use Rattle.std.proofs.lemmas.Bool.{and_parts}
use Rattle.exo_tree.specs.Tree.{Kind, Binder, Cell, Control, Lit, Var, Field, StrideOf, Neg, Add, Sub, Mul, Div, Mod, Param, ParamKind, ControlParam, TensorParam, WindowParam}
use Rattle.exo_meaning.specs.Scene.{updated}
use Rattle.exo_meaning.specs.Units.{Sort, BufferName, Scope, sort_in, is_new, with_name, param_sort, scope_of, plainly, are_controls, is_param_kind, are_params}
use Rattle.memory_kinds.specs.Homes.{Homes, with_param, with_params}
use Rattle.c_tree.specs.Names.Binders.{param_binders}
use Rattle.c_widths.specs.Widths.{has_narrow_dims, have_narrow_dims}
use Rattle.c_lowering.specs.Made.Lowered.{Naming, NoForm, NumberForm, TensorForm, Forms, form_of}
use Rattle.c_lowering.specs.Made.Lowered.{param_forms}
use Rattle.c_unit_laws.specs.Follows.Simulation.{Ground, IsPlain, ArePlain}
use Rattle.c_unit_laws.specs.Follows.Good.{IsGoodParam, AreGoodParams}
use Rattle.c_unit_laws.proofs.Forms.{lanes_in, Stands, Fits, wider, wider_number}
use Rattle.c_unit_laws.proofs.Expressions.{all_plain, all_narrow}
use Rattle.c_unit_laws.proofs.Clear.{IsClearKind, AreClearParams}
use Rattle.c_unit_laws.proofs.Binders.{AreIn, ScopeIn, not_there, not_true, AreNamed, AreApart, apart_wider}

-- what parameters add to what names stand for
abbrev pub merged : List Param → Forms → Forms
merged [] forms x = forms x
merged (p ∷ ps) forms x = cond (x == p.binder.id) (form_of p.kind) (merged ps forms x)

abbrev pub none : Forms
none x = NoForm

pub merged_none : (ps : List Param) (x : ℕ) → merged ps none x ≡ param_forms ps x
merged_none [] x = refl
merged_none (p ∷ ps) x = ap (λ f. cond (x == p.binder.id) (form_of p.kind) f) (merged_none ps x)

-- ---- scopes

-- a dense tensor in a memory without lanes
dense_param : (l : ℕ) (cell : Cell) (dims : List Control) → l ≡ 0 → Stands l (Some (BufferName cell (length dims) true)) (TensorForm cell dims 0)
dense_param l cell dims e = subst (λ n. Stands n (Some (BufferName cell (length dims) true)) (TensorForm cell dims 0)) (sym e) (dims, refl, refl, tt)

-- a parameter more
param_wider : (naming : Naming) (home : Homes) (scope : Scope) (forms : Forms) (b : Binder) (kind : ParamKind) → Fits (lanes_in naming home) scope forms → IsClearKind naming kind → Fits (lanes_in naming (with_param home (record { binder = b; kind = kind }))) (with_name scope b (param_sort kind)) (updated forms b.id (form_of kind))
param_wider naming home scope forms b (ControlParam kind) stand v = wider_number (lanes_in naming home) scope forms b kind stand
param_wider naming home scope forms b (TensorParam cell dims memory) stand v = wider naming home scope forms b (param_sort (TensorParam cell dims memory)) (form_of (TensorParam cell dims memory)) memory stand (dense_param (naming.memory memory).lanes cell dims v)
param_wider naming home scope forms b (WindowParam cell dims memory) stand v = wider naming home scope forms b (param_sort (WindowParam cell dims memory)) (form_of (WindowParam cell dims memory)) memory stand (refl, v)

-- later parameters have other ids than a name in scope
in_wider : (scope : Scope) (p : Binder) (sort : Sort) (x : ℕ) → x ≡ p.id → sort_in (with_name scope p sort) x ≡ None → ⊥
in_wider scope p sort x e h = some_none (sym (ap (λ t. cond t (Some sort) (sort_in scope x)) (eq-eqb x p.id e)) ∙ h)
  where
    some_none : {A : Type 0} {a : A} → Some a ≡ None → ⊥
    some_none d = cc

-- a name in scope is none of the parameters to come
abbrev IsBound : Scope → ℕ → Type 0
IsBound scope x = sort_in scope x ≡ None → ⊥

module _ (fields : ℕ → Option Kind) (memories : ℕ) where
  bound_stays : (ps : List Param) (scope : Scope) (forms : Forms) → are_params fields memories scope ps ≡ true → (x : ℕ) → IsBound scope x → merged ps forms x ≡ forms x
  bound_stays [] scope forms h x b = refl
  bound_stays (p ∷ ps) scope forms h x b =
      let q = and_parts (is_new scope p.binder) _ h in
      let r = and_parts (is_param_kind fields memories scope p.kind) _ q.1 in
      ap (λ t. cond t (form_of p.kind) (merged ps forms x)) (other (x == p.binder.id) refl q.0)
      ∙ bound_stays ps (with_name scope p.binder (param_sort p.kind)) forms r.1 x (still (x == p.binder.id))
    where
      other : (t : Bool) → (x == p.binder.id) ≡ t → is_new scope p.binder ≡ true → t ≡ false
      other false e n = refl
      other true e n = absurd (b (ap (sort_in scope) (eqb-true x p.binder.id e) ∙ not_there scope p.binder (not_true _ n)))

      still : (t : Bool) → cond t (Some (param_sort p.kind)) (sort_in scope x) ≡ None → ⊥
      still true e = cc
      still false e = b e

  -- the first parameter may be put in first
  merged_first : (p : Param) (ps : List Param) (scope : Scope) (forms : Forms) → are_params fields memories (with_name scope p.binder (param_sort p.kind)) ps ≡ true → (x : ℕ) → merged ps (updated forms p.binder.id (form_of p.kind)) x ≡ merged (p ∷ ps) forms x
  merged_first p ps scope forms h x = go (x == p.binder.id) refl
    where
      go : (t : Bool) → (x == p.binder.id) ≡ t → merged ps (updated forms p.binder.id (form_of p.kind)) x ≡ cond t (form_of p.kind) (merged ps forms x)
      go true e = bound_stays ps (with_name scope p.binder (param_sort p.kind)) (updated forms p.binder.id (form_of p.kind)) h x (in_wider scope p.binder (param_sort p.kind) x (eqb-true x p.binder.id e)) ∙ ap (λ t. cond t (form_of p.kind) (forms x)) e
      go false e = unchanged ps
        where
          unchanged : (qs : List Param) → merged qs (updated forms p.binder.id (form_of p.kind)) x ≡ merged qs forms x
          unchanged [] = ap (λ t. cond t (form_of p.kind) (forms x)) e
          unchanged (q ∷ qs) = ap (λ f. cond (x == q.binder.id) (form_of q.kind) f) (unchanged qs)

  pub params_fit : (naming : Naming) (ps : List Param) (home : Homes) (scope : Scope) (forms : Forms) → are_params fields memories scope ps ≡ true → AreClearParams naming ps → Fits (lanes_in naming home) scope forms → Fits (lanes_in naming (with_params home ps)) (scope_of scope ps) (merged ps forms)
  params_fit naming [] home scope forms h v stand x = stand x
  params_fit naming (p ∷ ps) home scope forms h v stand x =
      let q = and_parts (is_new scope p.binder) _ h in
      let r = and_parts (is_param_kind fields memories scope p.kind) _ q.1 in
      let inner = params_fit naming ps (with_param home p) (with_name scope p.binder (param_sort p.kind)) (updated forms p.binder.id (form_of p.kind)) r.1 v.1 (param_wider naming home scope forms p.binder p.kind stand v.0) x in
      subst (Stands (lanes_in naming (with_params home (p ∷ ps)) x) (sort_in (scope_of scope (p ∷ ps)) x)) (merged_first p ps scope forms r.1 x) inner

  -- their C names differ
  pub params_apart : (g : Ground) (all : List Binder) (names : AreNamed g all) (ps : List Param) (scope : Scope) → are_params fields memories scope ps ≡ true → ScopeIn scope all → AreIn (param_binders ps) all → AreApart g all names scope → AreApart g all names (scope_of scope ps)
  params_apart g all names [] scope h inside k apart = apart
  params_apart g all names (p ∷ ps) scope h inside k apart =
      let q = and_parts (is_new scope p.binder) _ h in
      let r = and_parts (is_param_kind fields memories scope p.kind) _ q.1 in
      params_apart g all names ps (with_name scope p.binder (param_sort p.kind)) r.1 (k.0, inside) k.1 (apart_wider g all names scope p.binder (param_sort p.kind) inside k.0 q.0 apart)

  -- ---- dimensions

  abbrev More : Forms → Forms → Type 0
  More f h = (x : ℕ) → f x ≡ NumberForm → h x ≡ NumberForm

  plain_more : (f h : Forms) → More f h → (e : Control) → IsPlain f e → IsPlain h e
  plain_more f h m (Lit n) k = tt
  plain_more f h m (Var x) k = m x k
  plain_more f h m (Field i) k = k
  plain_more f h m (StrideOf x i) k = k
  plain_more f h m (Neg a) k = plain_more f h m a k
  plain_more f h m (Add a b) k = (plain_more f h m a k.0, plain_more f h m b k.1)
  plain_more f h m (Sub a b) k = (plain_more f h m a k.0, plain_more f h m b k.1)
  plain_more f h m (Mul a b) k = (plain_more f h m a k.0, plain_more f h m b k.1)
  plain_more f h m (Div a c) k = (plain_more f h m a k.0, k.1)
  plain_more f h m (Mod a c) k = (plain_more f h m a k.0, k.1)

  all_plain_more : (f h : Forms) → More f h → (es : List Control) → ArePlain f es → ArePlain h es
  all_plain_more f h m [] k = tt
  all_plain_more f h m (e ∷ es) k = (plain_more f h m e k.0, all_plain_more f h m es k.1)

  param_more : (f h : Forms) → More f h → (most : ℕ → ℕ) (kind : ParamKind) → IsGoodParam f most kind → IsGoodParam h most kind
  param_more f h m most (ControlParam kind) k = tt
  param_more f h m most (TensorParam cell dims memory) k = (all_plain_more f h m dims k.0, k.1)
  param_more f h m most (WindowParam cell dims memory) k = (all_plain_more f h m dims k.0, k.1)

  params_more : (f h : Forms) → More f h → (most : ℕ → ℕ) (ps : List Param) → AreGoodParams f most ps → AreGoodParams h most ps
  params_more f h m most [] k = tt
  params_more f h m most (p ∷ ps) k = (param_more f h m most p.kind k.0, params_more f h m most ps k.1)

  -- what names stand for may be told in another way
  pub params_alike : (f h : Forms) → ((x : ℕ) → f x ≡ h x) → (most : ℕ → ℕ) (ps : List Param) → AreGoodParams f most ps → AreGoodParams h most ps
  params_alike f h same most ps k = params_more f h (λ x e. sym (same x) ∙ e) most ps k

  good_param : (lanes : ℕ → ℕ) (scope : Scope) (forms : Forms) (most : ℕ → ℕ) (kind : ParamKind) → Fits lanes scope forms → is_param_kind fields memories scope kind ≡ true → has_narrow_dims most kind ≡ true → IsGoodParam forms most kind
  good_param lanes scope forms most (ControlParam kind) stand h k = tt
  good_param lanes scope forms most (TensorParam cell dims memory) stand h k = (all_plain fields lanes scope forms stand dims (and_parts (are_controls fields plainly scope dims) _ h).0, all_narrow most dims k)
  good_param lanes scope forms most (WindowParam cell dims memory) stand h k = (all_plain fields lanes scope forms stand dims (and_parts (are_controls fields plainly scope dims) _ h).0, all_narrow most dims k)

  -- a number in scope stays one
  numbers_stay : (lanes : ℕ → ℕ) (scope : Scope) (forms : Forms) (ps : List Param) → Fits lanes scope forms → are_params fields memories scope ps ≡ true → More forms (merged ps forms)
  numbers_stay lanes scope forms ps stand h x e = bound_stays ps scope forms h x (λ n. no_number (sym (subst (λ o. Stands (lanes x) o (forms x)) n (stand x)) ∙ e)) ∙ e
    where
      no_number : NoForm ≡ NumberForm → ⊥
      no_number d = cc

  pub good_params : (naming : Naming) (ps : List Param) (home : Homes) (scope : Scope) (forms : Forms) (most : ℕ → ℕ) → Fits (lanes_in naming home) scope forms → are_params fields memories scope ps ≡ true → AreClearParams naming ps → have_narrow_dims most ps ≡ true → AreGoodParams (merged ps forms) most ps
  good_params naming [] home scope forms most stand h v k = tt
  good_params naming (p ∷ ps) home scope forms most stand h v k =
      let q = and_parts (is_new scope p.binder) _ h in
      let r = and_parts (is_param_kind fields memories scope p.kind) _ q.1 in
      let n = and_parts (has_narrow_dims most p.kind) (have_narrow_dims most ps) k in
      let inner = updated forms p.binder.id (form_of p.kind) in
      let rest = good_params naming ps (with_param home p) (with_name scope p.binder (param_sort p.kind)) inner most (param_wider naming home scope forms p.binder p.kind stand v.0) r.1 v.1 n.1 in (
        param_more forms (merged (p ∷ ps) forms) (numbers_stay (lanes_in naming home) scope forms (p ∷ ps) stand h) most p.kind (good_param (lanes_in naming home) scope forms most p.kind stand r.0 n.0),
        params_more (merged ps inner) (merged (p ∷ ps) forms) (λ x e. sym (merged_first p ps scope forms r.1 x) ∙ e) most ps rest,
      )
