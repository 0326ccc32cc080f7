-- The first state of a callee, parameter by parameter.
use Rattle.std.proofs.Common.{◌≡◌, ◌==◌, ◌&&◌, ◌||◌, ℕ, ℤ, pos, Bool, true, false, cond, List, [], ◌∷◌, Some, None, refl, sym, ap, ◌∙◌, subst, true≢false, eqb-true, eq-eqb}
use Rattle.std.specs.Cmp.Rules.{signed_items}
use Rattle.std.proofs.lemmas.Bool.{and_parts}
use Rattle.exo_tree.specs.Tree.{Cell, Control, Param, ParamKind, ControlParam, TensorParam, WindowParam}
use Rattle.exo_meaning.specs.Scene.{Shape, Seen, Scene, whole, extents, strides_seen, numbers, updated}
use Rattle.exo_meaning.specs.State.{State, same_index, with_buffer, with_contents, on_scene}
use Rattle.exo_meaning.specs.Calls.{Given, GivenNumber, GivenView, contents, suits, bind_number, bind_numbers, bind_buffer, bind_buffers, copy_in, all_positive, bare, entered}
use Rattle.exo_meaning.specs.Inputs.{is_buffer_of}
use Rattle.exo_meaning.proofs.Frame.{or_parts, updated_other}
use Rattle.exo_meaning.proofs.Windows.{none_is_some, one_value, where_parts}
use Rattle.meaning_laws.proofs.Parts.{then_gives}
use Rattle.inplace_laws.specs.CallInPlace.{AreDistinct}
use Rattle.c_lowering.specs.Made.Lowered.{Forms}
use Rattle.c_unit_laws.specs.Follows.Good.{IsGoodParam, AreGoodParams}
use Rattle.c_unit_laws.proofs.OfFollows.Scopes.{numbers_by_control}

-- ---- numbers

abbrev pub IsNumbered : (ℕ → ℤ) → ℕ → ParamKind → Given → Type 0
IsNumbered control x (ControlParam kind) (GivenNumber n) = control x ≡ n
IsNumbered control x (ControlParam kind) (GivenView z) = ⊥
IsNumbered control x (TensorParam cell dims memory) g = Unit {0}
IsNumbered control x (WindowParam cell dims memory) g = Unit {0}

abbrev pub AreNumbered : (ℕ → ℤ) → List Param → List Given → Type 0
AreNumbered control [] [] = Unit {0}
AreNumbered control [] (g ∷ gs) = ⊥
AreNumbered control (p ∷ ps) [] = ⊥
AreNumbered control (p ∷ ps) (g ∷ gs) = IsNumbered control p.binder.id p.kind g × AreNumbered control ps gs

one_numbered : (x : ℕ) (kind : ParamKind) (g : Given) (old new : ℕ → ℤ) → bind_number x kind g old ≡ Some new → ((y : ℕ) → (y == x) ≡ false → new y ≡ old y) × IsNumbered new x kind g
one_numbered x (ControlParam kind) (GivenNumber n) old new e =
    let same = one_value (updated old x n) new (where_parts (suits kind n) (Some (updated old x n)) new e).1 in
    (λ y h. ap (λ f. f y) (sym same) ∙ updated_other old x n y h, ap (λ f. f x) (sym same) ∙ ap (λ t. cond t n (old x)) (eq-eqb x x refl))
one_numbered x (ControlParam kind) (GivenView z) old new e = absurd (none_is_some e)
one_numbered x (TensorParam cell dims memory) g old new e = (λ y h. ap (λ f. f y) (sym (one_value old new e)), tt)
one_numbered x (WindowParam cell dims memory) g old new e = (λ y h. ap (λ f. f y) (sym (one_value old new e)), tt)

still_numbered : (x : ℕ) (kind : ParamKind) (g : Given) (old new : ℕ → ℤ) → new x ≡ old x → IsNumbered old x kind g → IsNumbered new x kind g
still_numbered x (ControlParam kind) (GivenNumber n) old new same h = same ∙ h
still_numbered x (ControlParam kind) (GivenView z) old new same h = h
still_numbered x (TensorParam cell dims memory) g old new same h = tt
still_numbered x (WindowParam cell dims memory) g old new same h = tt

all_numbered : (ps : List Param) (gs : List Given) (old new : ℕ → ℤ) → AreDistinct ps → bind_numbers ps gs old ≡ Some new → ((y : ℕ) → is_buffer_of y ps ≡ false → new y ≡ old y) × AreNumbered new ps gs
all_numbered [] [] old new d e = (λ y h. ap (λ f. f y) (sym (one_value old new e)), tt)
all_numbered [] (g ∷ gs) old new d e = absurd (none_is_some e)
all_numbered (p ∷ ps) [] old new d e = absurd (none_is_some e)
all_numbered (p ∷ ps) (g ∷ gs) old new d e =
    let m = then_gives (bind_number p.binder.id p.kind g old) (bind_numbers ps gs) new e in
    let one = one_numbered p.binder.id p.kind g old m.0 m.1 in
    let rest = all_numbered ps gs m.0 new d.1 m.2 in
    (λ y h. let q = or_parts (y == p.binder.id) (is_buffer_of y ps) h in rest.0 y q.1 ∙ one.0 y q.0, (still_numbered p.binder.id p.kind g m.0 new (rest.0 p.binder.id d.0) one.1, rest.1))

-- ---- buffers

-- a copy of a window, under the parameter's own number
pub record IsCopy (outer : State) (scene : Scene) (x : ℕ) (cell : Cell) (dims : List Control) (z : Seen) : Type 0 where
  pub buffer : scene.buffers x ≡ Some (record { cell = cell; dims = numbers scene dims; strides = strides_seen outer.scene z })
  pub view : scene.views x ≡ Some (record { buffer = x; sides = whole (numbers scene dims) })
  pub dims_are : numbers scene dims ≡ extents z.sides
  pub positive : all_positive (numbers scene dims) ≡ true

abbrev pub IsBound : State → Scene → ℕ → ParamKind → Given → Type 0
IsBound outer scene x (ControlParam kind) g = (scene.buffers x ≡ None) × (scene.views x ≡ None)
IsBound outer scene x (TensorParam cell dims memory) (GivenNumber n) = ⊥
IsBound outer scene x (TensorParam cell dims memory) (GivenView z) = IsCopy outer scene x cell dims z
IsBound outer scene x (WindowParam cell dims memory) (GivenNumber n) = ⊥
IsBound outer scene x (WindowParam cell dims memory) (GivenView z) = IsCopy outer scene x cell dims z

abbrev pub AreBound : State → Scene → List Param → List Given → Type 0
AreBound outer scene [] gs = Unit {0}
AreBound outer scene (p ∷ ps) [] = ⊥
AreBound outer scene (p ∷ ps) (g ∷ gs) = IsBound outer scene p.binder.id p.kind g × AreBound outer scene ps gs

-- what is bound elsewhere stays
record Grows (Same : ℕ → Type 0) (t u : State) : Type 0 where
  control : u.scene.control ≡ t.scene.control
  fields : u.scene.fields ≡ t.scene.fields
  buffers : (x : ℕ) → Same x → u.scene.buffers x ≡ t.scene.buffers x
  views : (x : ℕ) → Same x → u.scene.views x ≡ t.scene.views x

abbrev IsOpenId : State → ℕ → Type 0
IsOpenId t x = (t.scene.buffers x ≡ None) × (t.scene.views x ≡ None)

module _ (outer : State) (forms : Forms) (most : ℕ → ℕ) where
  copy_bound : (x : ℕ) (cell : Cell) (dims : List Control) → IsGoodParam forms most (TensorParam cell dims 0) → (g : Given) (t u : State) → copy_in outer x cell (numbers t.scene dims) g t ≡ Some u → Grows (λ y. (y == x) ≡ false) t u × ((z : Seen) → g ≡ GivenView z → IsCopy outer u.scene x cell dims z) × (((n : ℤ) → g ≡ GivenNumber n → ⊥))
  copy_bound x cell dims good (GivenNumber n) t u e = absurd (none_is_some e)
  copy_bound x cell dims good (GivenView z) t u e =
      let ds = numbers t.scene dims in
      let shape : Shape = record { cell = cell; dims = ds; strides = strides_seen outer.scene z } in
      let made : State = with_contents x (contents outer.cells z) (on_scene (with_buffer x shape) t) in
      let w = where_parts (same_index ds (extents z.sides) && all_positive ds) (Some made) u e in
      let q = and_parts (same_index ds (extents z.sides)) (all_positive ds) w.0 in
      let copy : IsCopy outer made.scene x cell dims z =
      let again : ds ≡ numbers made.scene dims = numbers_by_control forms t.scene made.scene refl dims good.0 in
      record {
        buffer = ap (λ b. cond b (Some shape) (t.scene.buffers x)) (eq-eqb x x refl) ∙ ap (λ es. Some (record { cell = cell; dims = es; strides = strides_seen outer.scene z })) again;
        view = ap (λ b. cond b (Some (record { buffer = x; sides = whole ds })) (t.scene.views x)) (eq-eqb x x refl) ∙ ap (λ es. Some (record { buffer = x; sides = whole es })) again;
        dims_are = sym again ∙ (signed_items ds (extents z.sides)).0 q.0;
        positive = ap all_positive (sym again) ∙ q.1;
      } in
      let grows : Grows (λ y. (y == x) ≡ false) t made = record {
        control = refl;
        fields = refl;
        buffers = λ y h. updated_other t.scene.buffers x (Some shape) y h;
        views = λ y h. updated_other t.scene.views x (Some (record { buffer = x; sides = whole ds })) y h;
      } in
      let same : made ≡ u = one_value made u w.1 in
      (subst (Grows (λ y. (y == x) ≡ false) t) same grows, (λ y k. subst (λ v. IsCopy outer u.scene x cell dims v) (seen_same k) (subst (λ (v : State). IsCopy outer v.scene x cell dims z) same copy)), λ n k. other k)
    where
      seen_same : {a b : Seen} → GivenView a ≡ GivenView b → a ≡ b
      seen_same k = cc

      other : {a : Seen} {n : ℤ} → GivenView a ≡ GivenNumber n → ⊥
      other k = cc

  one_bound : (x : ℕ) (kind : ParamKind) → IsGoodParam forms most kind → (g : Given) (t u : State) → IsOpenId t x → bind_buffer outer x kind g t ≡ Some u → Grows (λ y. (y == x) ≡ false) t u × IsBound outer u.scene x kind g
  one_bound x (ControlParam kind) good g t u unbound e =
      let same : t ≡ u = one_value t u e in
      (subst (Grows (λ y. (y == x) ≡ false) t) same (record { control = refl; fields = refl; buffers = λ y h. refl; views = λ y h. refl }), subst (λ v. IsOpenId v x) same unbound)
  one_bound x (TensorParam cell dims memory) good (GivenNumber n) t u unbound e = absurd (none_is_some e)
  one_bound x (TensorParam cell dims memory) good (GivenView z) t u unbound e = let c = copy_bound x cell dims good (GivenView z) t u e in (c.0, c.1 z refl)
  one_bound x (WindowParam cell dims memory) good (GivenNumber n) t u unbound e = absurd (none_is_some e)
  one_bound x (WindowParam cell dims memory) good (GivenView z) t u unbound e = let c = copy_bound x cell dims good (GivenView z) t u e in (c.0, c.1 z refl)

  still_copy : (x : ℕ) (cell : Cell) (dims : List Control) (z : Seen) → IsGoodParam forms most (TensorParam cell dims 0) → (a b : Scene) → b.control ≡ a.control → b.buffers x ≡ a.buffers x → b.views x ≡ a.views x → IsCopy outer a x cell dims z → IsCopy outer b x cell dims z
  still_copy x cell dims z good a b control buffers views h =
      let again : numbers a dims ≡ numbers b dims = numbers_by_control forms a b (sym control) dims good.0 in
      record {
        buffer = buffers ∙ h.buffer ∙ ap (λ es. Some (record { cell = cell; dims = es; strides = strides_seen outer.scene z })) again;
        view = views ∙ h.view ∙ ap (λ es. Some (record { buffer = x; sides = whole es })) again;
        dims_are = sym again ∙ h.dims_are;
        positive = ap all_positive (sym again) ∙ h.positive;
      }

  still_bound : (x : ℕ) (kind : ParamKind) (g : Given) → IsGoodParam forms most kind → (a b : Scene) → b.control ≡ a.control → b.buffers x ≡ a.buffers x → b.views x ≡ a.views x → IsBound outer a x kind g → IsBound outer b x kind g
  still_bound x (ControlParam kind) g good a b control buffers views h = (buffers ∙ h.0, views ∙ h.1)
  still_bound x (TensorParam cell dims memory) (GivenNumber n) good a b control buffers views h = h
  still_bound x (TensorParam cell dims memory) (GivenView z) good a b control buffers views h = still_copy x cell dims z good a b control buffers views h
  still_bound x (WindowParam cell dims memory) (GivenNumber n) good a b control buffers views h = h
  still_bound x (WindowParam cell dims memory) (GivenView z) good a b control buffers views h = still_copy x cell dims z good a b control buffers views h

  not_first : (p : Param) (ps : List Param) → is_buffer_of p.binder.id ps ≡ false → (x : ℕ) → is_buffer_of x ps ≡ true → (x == p.binder.id) ≡ false
  not_first p ps d x k = go (x == p.binder.id) refl
    where
      go : (t : Bool) → (x == p.binder.id) ≡ t → t ≡ false
      go false e = refl
      go true e = absurd (true≢false (sym k ∙ ap (λ y. is_buffer_of y ps) (eqb-true x p.binder.id e) ∙ d))

  all_bound : (ps : List Param) (gs : List Given) (t u : State) → AreDistinct ps → AreGoodParams forms most ps → ((x : ℕ) → is_buffer_of x ps ≡ true → IsOpenId t x) → bind_buffers outer ps gs t ≡ Some u → Grows (λ y. is_buffer_of y ps ≡ false) t u × AreBound outer u.scene ps gs
  all_bound [] gs t u d good unbound e = (subst (Grows (λ y. false ≡ false) t) (one_value t u e) (record { control = refl; fields = refl; buffers = λ y h. refl; views = λ y h. refl }), tt)
  all_bound (p ∷ ps) [] t u d good unbound e = absurd (none_is_some e)
  all_bound (p ∷ ps) (g ∷ gs) t u d good unbound e =
      let m = then_gives (bind_buffer outer p.binder.id p.kind g t) (bind_buffers outer ps gs) u e in
      let v = m.0 in
      let one = one_bound p.binder.id p.kind good.0 g t v (unbound p.binder.id (ap (λ b. b || is_buffer_of p.binder.id ps) (eq-eqb p.binder.id p.binder.id refl))) m.1 in
      let rest = all_bound ps gs v u d.1 good.1 (λ x i. let far = not_first p ps d.0 x i in let was = unbound x (ap (λ b. b || is_buffer_of x ps) far ∙ i) in (one.0.buffers x far ∙ was.0, one.0.views x far ∙ was.1)) m.2 in (
        record {
          control = rest.0.control ∙ one.0.control;
          fields = rest.0.fields ∙ one.0.fields;
          buffers = λ y h. let q = or_parts (y == p.binder.id) (is_buffer_of y ps) h in rest.0.buffers y q.1 ∙ one.0.buffers y q.0;
          views = λ y h. let q = or_parts (y == p.binder.id) (is_buffer_of y ps) h in rest.0.views y q.1 ∙ one.0.views y q.0;
        },
        (still_bound p.binder.id p.kind g good.0 v.scene u.scene rest.0.control (rest.0.buffers p.binder.id d.0) (rest.0.views p.binder.id d.0) one.1, rest.1),
      )

-- ---- the first state

-- what a callee's first scene is, by what it was given
pub record HasEntered (outer : State) (ps : List Param) (gs : List Given) (inner : State) : Type 0 where
  pub numbered : AreNumbered inner.scene.control ps gs
  pub bound : AreBound outer inner.scene ps gs
  pub fields : inner.scene.fields ≡ outer.scene.fields
  pub no_others : (x : ℕ) → is_buffer_of x ps ≡ false → (inner.scene.buffers x ≡ None) × (inner.scene.views x ≡ None)

pub has_entered : (forms : Forms) (most : ℕ → ℕ) (ps : List Param) (gs : List Given) (s inner : State) → AreDistinct ps → AreGoodParams forms most ps → entered ps gs s ≡ Some inner → HasEntered s ps gs inner
has_entered forms most ps gs s inner d good e =
    let m = then_gives (bind_numbers ps gs (λ x. pos 0)) (λ control. bind_buffers s ps gs (bare control s.scene.fields)) inner e in
    let n = all_numbered ps gs (λ x. pos 0) m.0 d m.1 in
    let b = all_bound s forms most ps gs (bare m.0 s.scene.fields) inner d good (λ x i. (refl, refl)) m.2 in
    record {
      numbered = subst (λ control. AreNumbered control ps gs) (sym b.0.control) n.1;
      bound = b.1;
      fields = b.0.fields;
      no_others = λ x i. (b.0.buffers x i, b.0.views x i);
    }
