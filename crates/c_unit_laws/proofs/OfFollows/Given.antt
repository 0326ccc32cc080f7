-- Arguments that are the same on both sides, and what they make of a callee's parameters.
use Rattle.std.proofs.Common.{◌≡◌, ◌≤◌, ◌^◌, ◌==◌, ◌||◌, ℕ, pos, ◌≤ℤ◌, Bool, true, false, cond, List, [], ◌∷◌, length, Some, refl, sym, ap, ◌∙◌, subst, unsigned_abs, true≢false, eqb-true}
use Rattle.exo_tree.specs.Tree.{Cell, Param, ParamKind, ControlParam, TensorParam, WindowParam}
use Rattle.exo_meaning.specs.Scene.{Shape, Seen, Scene, whole, extents, strides_of, LieWithin}
use Rattle.exo_meaning.specs.State.{State}
use Rattle.exo_meaning.specs.Calls.{Given, GivenNumber, GivenView}
use Rattle.exo_meaning.specs.Run.{product, row_major}
use Rattle.exo_meaning.specs.Inputs.{is_buffer_of}
use Rattle.inplace_laws.specs.CallInPlace.{base_of, seen_of}
use Rattle.c_unit_laws.specs.Follows.Machine.Machine.{Thing, IsNumber, IsArray, IsWindow}
use Rattle.c_lowering.specs.Made.Lowered.{Forms, NoForm, form_of, param_forms}
use Rattle.c_unit_laws.specs.Follows.Simulation.{Layout, beginning}
use Rattle.c_unit_laws.specs.Follows.Good.{IsGoodParam, AreGoodParams}
use Rattle.c_unit_laws.proofs.OfFollows.Bound.{thing_of}
use Rattle.c_unit_laws.proofs.OfFollows.Entered.{IsNumbered, AreNumbered, IsBound, AreBound}

-- ---- what is handed on

-- a part of a buffer of that cell type
pub record IsPart (scene : Scene) (cell : Cell) (z : Seen) : Type 0 where
  pub shape : Shape
  pub buffer : scene.buffers z.buffer ≡ Some shape
  pub within : LieWithin (whole shape.dims) z.sides
  pub cell_is : shape.cell ≡ cell

-- one whose cells lie as those of a tensor of its own do, by a pointer to the first
pub record IsDense (layout : Layout) (scene : Scene) (cell : Cell) (z : Seen) (t : Thing) : Type 0 where
  pub part : IsPart scene cell z
  pub rows : strides_of z.sides part.shape.strides ≡ row_major (extents z.sides)
  pub few : product (extents z.sides) ≤ℤ pos (2 ^ 48)
  pub thing : t ≡ IsArray (beginning layout part.shape z)

pub record IsSeen (layout : Layout) (scene : Scene) (cell : Cell) (z : Seen) (t : Thing) : Type 0 where
  pub part : IsPart scene cell z
  pub thing : t ≡ IsWindow (beginning layout part.shape z) (strides_of z.sides part.shape.strides)

-- an argument on both sides, by how large a number may be
abbrev pub IsGivenAs : Layout → Scene → ℕ → ParamKind → Given → Thing → Type 0
IsGivenAs layout scene bound (ControlParam kind) (GivenNumber n) t = (t ≡ IsNumber n) × (unsigned_abs n ≤ bound)
IsGivenAs layout scene bound (ControlParam kind) (GivenView z) t = ⊥
IsGivenAs layout scene bound (TensorParam cell dims memory) (GivenNumber n) t = ⊥
IsGivenAs layout scene bound (TensorParam cell dims memory) (GivenView z) t = IsDense layout scene cell z t
IsGivenAs layout scene bound (WindowParam cell dims memory) (GivenNumber n) t = ⊥
IsGivenAs layout scene bound (WindowParam cell dims memory) (GivenView z) t = IsSeen layout scene cell z t × (length (extents z.sides) ≡ length dims)

abbrev pub AreGivenAs : Layout → Scene → (ℕ → ℕ) → List Param → List Given → List Thing → Type 0
AreGivenAs layout scene bounds [] [] [] = Unit {0}
AreGivenAs layout scene bounds [] [] (t ∷ ts) = ⊥
AreGivenAs layout scene bounds [] (g ∷ gs) ts = ⊥
AreGivenAs layout scene bounds (p ∷ ps) [] ts = ⊥
AreGivenAs layout scene bounds (p ∷ ps) (g ∷ gs) [] = ⊥
AreGivenAs layout scene bounds (p ∷ ps) (g ∷ gs) (t ∷ ts) = IsGivenAs layout scene (bounds p.binder.id) p.kind g t × AreGivenAs layout scene bounds ps gs ts

-- ---- one parameter

-- the parameter of that number, with its argument
pub record IsParam (layout : Layout) (s inner : State) (forms : Forms) (most : ℕ → ℕ) (ps : List Param) (gs : List Given) (ts : List Thing) (x : ℕ) : Type 0 where
  pub kind : ParamKind
  pub given : Given
  pub thing : Thing
  pub as_given : IsGivenAs layout s.scene (most x) kind given thing
  pub numbered : IsNumbered inner.scene.control x kind given
  pub bound : IsBound s inner.scene x kind given
  pub good : IsGoodParam forms most kind
  pub base : base_of ps gs x ≡ seen_of given
  pub form : param_forms ps x ≡ form_of kind
  pub named : thing_of ps ts x ≡ Some thing

module _ (layout : Layout) (s inner : State) (forms : Forms) (most : ℕ → ℕ) where
  pub param_found : (ps : List Param) (gs : List Given) (ts : List Thing) → AreGivenAs layout s.scene most ps gs ts → AreNumbered inner.scene.control ps gs → AreBound s inner.scene ps gs → AreGoodParams forms most ps → (x : ℕ) → is_buffer_of x ps ≡ true → IsParam layout s inner forms most ps gs ts x
  param_found [] gs ts a n b good x i = absurd (true≢false (sym i))
  param_found (p ∷ ps) [] ts a n b good x i = absurd a
  param_found (p ∷ ps) (g ∷ gs) [] a n b good x i = absurd a
  param_found (p ∷ ps) (g ∷ gs) (t ∷ ts) a n b good x i = pick (x == p.binder.id) refl i (λ k. param_found ps gs ts a.1 n.1 b.1 good.1 x k)
    where
      pick : (d : Bool) → (x == p.binder.id) ≡ d → (d || is_buffer_of x ps) ≡ true → (is_buffer_of x ps ≡ true → IsParam layout s inner forms most ps gs ts x) → IsParam layout s inner forms most (p ∷ ps) (g ∷ gs) (t ∷ ts) x
      pick true d k rest =
          let same = sym (eqb-true x p.binder.id d) in
          record {
            kind = p.kind;
            given = g;
            thing = t;
            as_given = subst (λ y. IsGivenAs layout s.scene (most y) p.kind g t) same a.0;
            numbered = subst (λ y. IsNumbered inner.scene.control y p.kind g) same n.0;
            bound = subst (λ y. IsBound s inner.scene y p.kind g) same b.0;
            good = good.0;
            base = ap (λ c. cond c (seen_of g) (base_of ps gs x)) d;
            form = ap (λ c. cond c (form_of p.kind) (param_forms ps x)) d;
            named = ap (λ c. cond c (Some t) (thing_of ps ts x)) d;
          }
      pick false d k rest =
          let q = rest k in
          record {
            kind = q.kind;
            given = q.given;
            thing = q.thing;
            as_given = q.as_given;
            numbered = q.numbered;
            bound = q.bound;
            good = q.good;
            base = ap (λ c. cond c (seen_of g) (base_of ps gs x)) d ∙ q.base;
            form = ap (λ c. cond c (form_of p.kind) (param_forms ps x)) d ∙ q.form;
            named = ap (λ c. cond c (Some t) (thing_of ps ts x)) d ∙ q.named;
          }

-- a name that is no parameter has no form
pub no_param : (ps : List Param) (x : ℕ) → is_buffer_of x ps ≡ false → param_forms ps x ≡ NoForm
no_param [] x h = refl
no_param (p ∷ ps) x h = pick (x == p.binder.id) h (no_param ps x)
  where
    pick : (d : Bool) → (d || is_buffer_of x ps) ≡ false → (is_buffer_of x ps ≡ false → param_forms ps x ≡ NoForm) → cond d (form_of p.kind) (param_forms ps x) ≡ NoForm
    pick true k rest = absurd (true≢false k)
    pick false k rest = rest k
