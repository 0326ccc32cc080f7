-- A call is a run of its body in place.
use Rattle.inplace_laws.proofs.Passed.{passed_apart}
use Rattle.std.proofs.Common.{◌≡◌, ℕ, ℤ, pos, ◌==◌, Bool, true, false, cond, ◌&&◌, ◌||◌, List, [], ◌∷◌, Option, Some, None, IsSome, option_map, refl, sym, ap, ap₂, ◌∙◌, subst, true≢false, eqb-true, eq-eqb}
use Rattle.std.proofs.Math.Path.{fun_ext}
use Rattle.std.specs.Cmp.Rules.{signed_items}
use Rattle.exo_tree.specs.Tree.{Cell, Param, ParamKind, ControlParam, TensorParam, WindowParam, Procedure}
use Rattle.exo_meaning.specs.Value.{Value, Undefined}
use Rattle.exo_meaning.specs.Scene.{Shape, Seen, Scene, numbers, updated, whole, extents, index_of, strides_seen, strides_of}
use Rattle.exo_meaning.specs.State.{State, Cells, same_index, kept, left, on_scene, with_contents, with_buffer}
use Rattle.exo_meaning.specs.Run.{World, run, writes, callee_in}
use Rattle.exo_meaning.specs.Calls.{all_apart, Given, GivenNumber, GivenView, suits, all_positive, bind_number, bind_numbers, copy_in, bind_buffer, bind_buffers, bare, entered, held_at, value_or, copy_back, copied_back, returned, contents}
use Rattle.exo_meaning.specs.Inputs.{is_buffer_of}
use Rattle.exo_meaning.specs.Refines.{Both}
use Rattle.exo_meaning.proofs.Windows.{none_is_some, one_value, where_parts, cell_at_index}
use Rattle.meaning_laws.proofs.Parts.{then_gives}
use Rattle.meaning_laws.proofs.Sound.{IsThere, AreThere, all_there, all_back_same}
use Rattle.exo_meaning.specs.Laws.{HasRoots}
use Rattle.exo_meaning.specs.Calls.{all_given}
use Rattle.inplace_laws.specs.InPlace.{makes}
use Rattle.meaning_laws.proofs.Names.{if_gives}
use Rattle.inplace_laws.specs.InPlace.{through, held_through, IsWithin, IsPlacing, SeenStands, BufferStands, StandsFor}
use Rattle.inplace_laws.specs.CallInPlace.{no_name, every, bind_control, bind_controls, bind_view, bind_views, bound, seen_of, base_of, HasType, HaveTypes, AreDistinct, MayRunInPlace, CallInPlace}
use Rattle.inplace_laws.proofs.Sides.{whole_within, composed_whole}
use Rattle.inplace_laws.proofs.InPlace.{in_place}

some_there : {A : Type 0} (o : Option A) (a : A) → o ≡ Some a → IsSome o
some_there o a e = subst IsSome (sym e) refl

-- each parameter's argument is what base says
abbrev pub Agrees : (ℕ → Option Seen) → List Param → List Given → Type 0
Agrees base ps gs = (x : ℕ) → is_buffer_of x ps ≡ true → base x ≡ base_of ps gs x

module _ (base : ℕ → Option Seen) (p : Param) (ps : List Param) (g : Given) (gs : List Given) (agrees : Agrees base (p ∷ ps) (g ∷ gs)) where
  agrees_here : base p.binder.id ≡ seen_of g
  agrees_here = agrees p.binder.id (ap (λ t. t || is_buffer_of p.binder.id ps) (eq-eqb p.binder.id p.binder.id refl)) ∙ ap (λ t. cond t (seen_of g) (base_of ps gs p.binder.id)) (eq-eqb p.binder.id p.binder.id refl)

  agrees_on : is_buffer_of p.binder.id ps ≡ false → Agrees base ps gs
  agrees_on d x k = agrees x (later (x == p.binder.id) k) ∙ ap (λ t. cond t (seen_of g) (base_of ps gs x)) (not_here (x == p.binder.id) refl)
    where
      later : (t : Bool) → is_buffer_of x ps ≡ true → (t || is_buffer_of x ps) ≡ true
      later true e = refl
      later false e = e

      not_here : (t : Bool) → (x == p.binder.id) ≡ t → t ≡ false
      not_here false e = refl
      not_here true e = absurd (true≢false (sym k ∙ ap (λ y. is_buffer_of y ps) (eqb-true x p.binder.id e) ∙ d))

-- ---- the way in

numbers_bound : (hidden : ℕ → Bool) (ps : List Param) (gs : List Given) (f d c : ℕ → ℤ) → bind_numbers ps gs f ≡ Some c → ((x : ℕ) → hidden x ≡ false → f x ≡ d x) → (x : ℕ) → hidden x ≡ false → c x ≡ bind_controls ps gs d x
numbers_bound hidden [] [] f d c e k x i = ap (λ h. h x) (sym (one_value f c e)) ∙ k x i
numbers_bound hidden [] (g ∷ gs) f d c e k x i = absurd (none_is_some e)
numbers_bound hidden (p ∷ ps) [] f d c e k x i = absurd (none_is_some e)
numbers_bound hidden (p ∷ ps) (g ∷ gs) f d c e k x i =
    let m = then_gives (bind_number p.binder.id p.kind g f) (bind_numbers ps gs) c e in
    numbers_bound hidden ps gs m.0 (bind_control p.binder.id p.kind g d) c m.2 (one p.binder.id p.kind g m.0 m.1) x i
  where
    one : (y : ℕ) (kind : ParamKind) (g : Given) (h : ℕ → ℤ) → bind_number y kind g f ≡ Some h → (x : ℕ) → hidden x ≡ false → h x ≡ bind_control y kind g d x
    one y (ControlParam q) (GivenNumber n) h e x i =
        let w = where_parts (suits q n) (Some (updated f y n)) h e in
        ap (λ z. z x) (sym (one_value (updated f y n) h w.1)) ∙ ap (λ m. cond (x == y) n m) (k x i)
    one y (ControlParam q) (GivenView z) h e x i = absurd (none_is_some e)
    one y (TensorParam cell dims memory) g h e x i = ap (λ z. z x) (sym (one_value f h e)) ∙ k x i
    one y (WindowParam cell dims memory) g h e x i = ap (λ z. z x) (sym (one_value f h e)) ∙ k x i

-- a buffer of which the argument is still to come
abbrev waits : Option Seen → Bool → Bool
waits None t = false
waits (Some z) t = t

module _ (hidden written : ℕ → Bool) (base : ℕ → Option Seen) (s : State) where
  -- while parameters ps are still to come
  record Partly (ps : List Param) (u : State) (views : ℕ → Option Seen) : Type 0 where
    seen : (x : ℕ) → hidden x ≡ false → Both (SeenStands hidden written no_name every base s) (u.scene.views x) (views x)
    buffers : (b : ℕ) → hidden b ≡ false → waits (base b) (is_buffer_of b ps) ≡ false → BufferStands hidden written no_name every base s (base b) (u.scene.buffers b) s.scene.buffers b
    own : (b : ℕ) → hidden b ≡ false → waits (base b) (is_buffer_of b ps) ≡ false → (at : List ℤ) → u.cells b at ≡ held_through (base b) s.cells b at

  module _ (p : Param) (ps : List Param) (u v : State) (views : ℕ → Option Seen) (h : Partly (p ∷ ps) u views) (free : hidden p.binder.id ≡ false) where
    abbrev made_of : Cell → List ℤ → Seen → State
    made_of cell dims z = with_contents p.binder.id (contents s.cells z) (on_scene (with_buffer p.binder.id (record { cell = cell; dims = dims; strides = strides_seen s.scene z })) u)

    copied : (cell : Cell) (dims : List ℤ) (z : Seen) → base p.binder.id ≡ Some z → (to : Shape) → s.scene.buffers z.buffer ≡ Some to → cell ≡ to.cell → copy_in s p.binder.id cell dims (GivenView z) u ≡ Some v → Partly ps v (updated views p.binder.id (Some z))
    copied cell dims z is to there same e =
        let w = where_parts (same_index dims (extents z.sides) && all_positive dims) (Some (made_of cell dims z)) v e in
        subst (λ a. Partly ps a (updated views p.binder.id (Some z))) (one_value (made_of cell dims z) v w.1) (at (same_index dims (extents z.sides)) (all_positive dims) refl w.0)
      where
        sees : dims ≡ extents z.sides → SeenStands hidden written no_name every base s (record { buffer = p.binder.id; sides = whole dims }) z
        sees d = (free, subst (λ o. IsWithin o (whole dims)) (sym is) (subst (λ l. IsWithin (Some z) (whole l)) (sym d) (whole_within z.sides)), ap (λ l. record { buffer = z.buffer; sides = l }) (sym (composed_whole z.sides)) ∙ ap (λ l. through (Some z) (record { buffer = p.binder.id; sides = whole l })) (sym d) ∙ ap (λ o. through o (record { buffer = p.binder.id; sides = whole dims })) (sym is))

        a_view : dims ≡ extents z.sides → (x : ℕ) → hidden x ≡ false → (t : Bool) → Both (SeenStands hidden written no_name every base s) (cond t (Some (record { buffer = p.binder.id; sides = whole dims })) (u.scene.views x)) (cond t (Some z) (views x))
        a_view d x i true = sees d
        a_view d x i false = h.seen x i

        a_buffer : (b : ℕ) → hidden b ≡ false → waits (base b) (is_buffer_of b ps) ≡ false → (t : Bool) → (b == p.binder.id) ≡ t → BufferStands hidden written no_name every base s (base b) (cond t (Some (record { cell = cell; dims = dims; strides = strides_seen s.scene z })) (u.scene.buffers b)) s.scene.buffers b
        a_buffer b i j true k = subst (λ y. BufferStands hidden written no_name every base s (base y) (Some (record { cell = cell; dims = dims; strides = strides_seen s.scene z })) s.scene.buffers y) (sym (eqb-true b p.binder.id k)) (subst (λ o. BufferStands hidden written no_name every base s o (Some (record { cell = cell; dims = dims; strides = strides_seen s.scene z })) s.scene.buffers p.binder.id) (sym is) (record { cell = cell; dims = dims; strides = strides_seen s.scene z }, to, refl, there, same, λ st. ap (λ o. elim o as (λ x. List ℤ) [ None ↦ [] | Some shape ↦ strides_of z.sides shape.strides ]) there))
        a_buffer b i j false k = h.buffers b i (ap (λ t. waits (base b) (t || is_buffer_of b ps)) k ∙ j)

        a_cell : (b : ℕ) → hidden b ≡ false → waits (base b) (is_buffer_of b ps) ≡ false → (at : List ℤ) (t : Bool) → (b == p.binder.id) ≡ t → cond {A = List ℤ → Value} t (contents s.cells z) (u.cells b) at ≡ held_through (base b) s.cells b at
        a_cell b i j at true k = subst (λ y. contents s.cells z at ≡ held_through (base y) s.cells y at) (sym (eqb-true b p.binder.id k)) (ap (λ o. held_through o s.cells p.binder.id at) (sym is))
        a_cell b i j at false k = h.own b i (ap (λ t. waits (base b) (t || is_buffer_of b ps)) k ∙ j) at

        at : (t q : Bool) → same_index dims (extents z.sides) ≡ t → (t && q) ≡ true → Partly ps (made_of cell dims z) (updated views p.binder.id (Some z))
        at true q e k =
            let d : dims ≡ extents z.sides = (signed_items dims (extents z.sides)).0 e in
            record {
              seen = λ x i. a_view d x i (x == p.binder.id);
              buffers = λ b i j. a_buffer b i j (b == p.binder.id) refl;
              own = λ b i j at. a_cell b i j at (b == p.binder.id) refl;
            }
        at false q e k = absurd (true≢false (sym k))

    one_bound : (kind : ParamKind) (g : Given) → base p.binder.id ≡ seen_of g → HasType s kind g → (control : ℕ → ℤ) (c : ℕ → ℤ) → bind_number p.binder.id kind g control ≡ Some c → bind_buffer s p.binder.id kind g u ≡ Some v → Partly ps v (bind_view p.binder.id kind g views)
    one_bound (ControlParam q) (GivenNumber n) is ty control c e k = subst (λ a. Partly ps a views) (one_value u v k) (record {
      seen = h.seen;
      buffers = λ b i j. h.buffers b i (still b j (b == p.binder.id) refl);
      own = λ b i j. h.own b i (still b j (b == p.binder.id) refl);
    })
      where
        still : (b : ℕ) → waits (base b) (is_buffer_of b ps) ≡ false → (t : Bool) → (b == p.binder.id) ≡ t → waits (base b) (t || is_buffer_of b ps) ≡ false
        still b j true k = ap (λ y. waits (base y) true) (eqb-true b p.binder.id k) ∙ ap (λ o. waits o true) is
        still b j false k = j
    one_bound (ControlParam q) (GivenView z) is ty control c e k = absurd (none_is_some e)
    one_bound (TensorParam cell dims memory) (GivenNumber n) is ty control c e k = absurd (none_is_some k)
    one_bound (TensorParam cell dims memory) (GivenView z) is (to, i, j) control c e k = copied cell (numbers u.scene dims) z is to i j k
    one_bound (WindowParam cell dims memory) (GivenNumber n) is ty control c e k = absurd (none_is_some k)
    one_bound (WindowParam cell dims memory) (GivenView z) is (to, i, j) control c e k = copied cell (numbers u.scene dims) z is to i j k

  partly_bound : (ps : List Param) (gs : List Given) (control c : ℕ → ℤ) (u v : State) (views : ℕ → Option Seen) → Agrees base ps gs → AreDistinct ps → ((x : ℕ) → is_buffer_of x ps ≡ true → hidden x ≡ false) → HaveTypes s ps gs → bind_numbers ps gs control ≡ Some c → bind_buffers s ps gs u ≡ Some v → Partly ps u views → Partly [] v (bind_views ps gs views)
  partly_bound [] gs control c u v views a d f ty e k h = subst (λ z. Partly [] z views) (one_value u v k) h
  partly_bound (p ∷ ps) [] control c u v views a d f ty e k h = absurd (none_is_some k)
  partly_bound (p ∷ ps) (g ∷ gs) control c u v views a d f ty e k h =
      let n = then_gives (bind_number p.binder.id p.kind g control) (bind_numbers ps gs) c e in
      let b = then_gives (bind_buffer s p.binder.id p.kind g u) (bind_buffers s ps gs) v k in
      partly_bound ps gs n.0 c b.0 v (bind_view p.binder.id p.kind g views) (agrees_on base p ps g gs a d.0) d.1 (λ x i. f x (later x (x == p.binder.id) i)) ty.1 n.2 b.2
      (one_bound p ps u b.0 views h (f p.binder.id (ap (λ t. t || is_buffer_of p.binder.id ps) (eq-eqb p.binder.id p.binder.id refl))) p.kind g (agrees_here base p ps g gs a) ty.0 control n.0 n.1 b.1)
    where
      later : (x : ℕ) (t : Bool) → is_buffer_of x ps ≡ true → (t || is_buffer_of x ps) ≡ true
      later x true e = refl
      later x false e = e

  -- binding buffers leaves numbers and fields
  kept_control : (ps : List Param) (gs : List Given) (u v : State) → bind_buffers s ps gs u ≡ Some v → (v.scene.control ≡ u.scene.control) × (v.scene.fields ≡ u.scene.fields)
  kept_control [] gs u v e = let same = one_value u v e in (ap (λ (z : State). z.scene.control) (sym same), ap (λ (z : State). z.scene.fields) (sym same))
  kept_control (p ∷ ps) [] u v e = absurd (none_is_some e)
  kept_control (p ∷ ps) (g ∷ gs) u v e =
      let b = then_gives (bind_buffer s p.binder.id p.kind g u) (bind_buffers s ps gs) v e in
      let r = kept_control ps gs b.0 v b.2 in
      let o = one p.binder.id p.kind g b.0 b.1 in
      (r.0 ∙ o.0, r.1 ∙ o.1)
    where
      copy : (x : ℕ) (cell : Cell) (dims : List ℤ) (g : Given) (w : State) → copy_in s x cell dims g u ≡ Some w → (w.scene.control ≡ u.scene.control) × (w.scene.fields ≡ u.scene.fields)
      copy x cell dims (GivenNumber n) w k = absurd (none_is_some k)
      copy x cell dims (GivenView z) w k =
          let made : State = with_contents x (contents s.cells z) (on_scene (with_buffer x (record { cell = cell; dims = dims; strides = strides_seen s.scene z })) u) in
          let same = one_value made w (where_parts (same_index dims (extents z.sides) && all_positive dims) (Some made) w k).1 in
          (ap (λ (z : State). z.scene.control) (sym same), ap (λ (z : State). z.scene.fields) (sym same))

      one : (x : ℕ) (kind : ParamKind) (g : Given) (w : State) → bind_buffer s x kind g u ≡ Some w → (w.scene.control ≡ u.scene.control) × (w.scene.fields ≡ u.scene.fields)
      one x (ControlParam q) g w k = let same = one_value u w k in (ap (λ (z : State). z.scene.control) (sym same), ap (λ (z : State). z.scene.fields) (sym same))
      one x (TensorParam cell dims memory) g w k = copy x cell (numbers u.scene dims) g w k
      one x (WindowParam cell dims memory) g w k = copy x cell (numbers u.scene dims) g w k

-- ---- the way back

module _ (x : ℕ) (at : List ℤ) (w : ℕ → Bool) where
  -- no argument that is written has the cell
  abbrev pub IsMissed : List Param → List Given → Type 0
  IsMissed [] gs = Unit {0}
  IsMissed (p ∷ ps) [] = Unit {0}
  IsMissed (p ∷ ps) (g ∷ gs) = ((z : Seen) → w p.binder.id ≡ true → seen_of g ≡ Some z → z.buffer ≡ x → index_of z.sides at ≡ None) × IsMissed ps gs

  pub missed_is_left : (ps : List Param) (gs : List Given) → IsMissed ps gs → (y : ℕ) (z : Seen) → w y ≡ true → base_of ps gs y ≡ Some z → z.buffer ≡ x → index_of z.sides at ≡ None
  missed_is_left [] gs m y z i e k = absurd (none_is_some e)
  missed_is_left (p ∷ ps) [] m y z i e k = absurd (none_is_some e)
  missed_is_left (p ∷ ps) (g ∷ gs) m y z i e k = go (y == p.binder.id) refl e (missed_is_left ps gs m.1 y z i)
    where
      go : (t : Bool) → (y == p.binder.id) ≡ t → cond t (seen_of g) (base_of ps gs y) ≡ Some z → (base_of ps gs y ≡ Some z → z.buffer ≡ x → index_of z.sides at ≡ None) → index_of z.sides at ≡ None
      go true u v next = m.0 z (sym (ap w (eqb-true y p.binder.id u)) ∙ i) v k
      go false u v next = next v k

  module _ (base : ℕ → Option Seen) (done after : Cells) where
    pub back_is : (ps : List Param) (gs : List Given) (c : Cells) → Agrees base ps gs → AreDistinct ps → ((y : ℕ) (z : Seen) → is_buffer_of y ps ≡ true → base y ≡ Some z → (is : List ℤ) → done y is ≡ contents after z is) → (IsMissed ps gs → c x at ≡ after x at) → copied_back w ps gs done c x at ≡ after x at
    back_is [] gs c a d own h = h tt
    back_is (p ∷ ps) [] c a d own h = h tt
    back_is (p ∷ ps) (g ∷ gs) c a d own h = back_is ps gs (copy_back (w p.binder.id) g (done p.binder.id) c) (agrees_on base p ps g gs a d.0) d.1 (λ y z i. own y z (later y (y == p.binder.id) i)) (λ m. one (w p.binder.id) refl g (agrees_here base p ps g gs a) (λ k. h (k, m)))
      where
        later : (y : ℕ) (t : Bool) → is_buffer_of y ps ≡ true → (t || is_buffer_of y ps) ≡ true
        later y true e = refl
        later y false e = e

        mine : (z : Seen) → base p.binder.id ≡ Some z → (is : List ℤ) → done p.binder.id is ≡ contents after z is
        mine z e is = own p.binder.id z (ap (λ t. t || is_buffer_of p.binder.id ps) (eq-eqb p.binder.id p.binder.id refl)) e is

        one : (t : Bool) → w p.binder.id ≡ t → (g : Given) → base p.binder.id ≡ seen_of g → (((z : Seen) → w p.binder.id ≡ true → seen_of g ≡ Some z → z.buffer ≡ x → index_of z.sides at ≡ None) → c x at ≡ after x at) → copy_back t g (done p.binder.id) c x at ≡ after x at
        one false e g is k = k (λ z i. absurd (true≢false (sym i ∙ e)))
        one true e (GivenNumber n) is k = k (λ z i j. absurd (none_is_some j))
        one true e (GivenView z) is k = here (x == z.buffer) refl
          where
            inside : (o : Option (List ℤ)) → index_of z.sides at ≡ o → x ≡ z.buffer → value_or o (done p.binder.id) (c x at) ≡ after x at
            inside None i j = k (λ y u v l. ap (λ (q : Seen). index_of q.sides at) (sym (one_value z y v)) ∙ i)
            inside (Some js) i j = mine z is js ∙ ap (held_at (after z.buffer)) (cell_at_index z.sides at js i) ∙ ap (λ b. after b at) (sym j)

            here : (t : Bool) → (x == z.buffer) ≡ t → cond t (value_or (index_of z.sides at) (done p.binder.id) (c x at)) (c x at) ≡ after x at
            here true i = inside (index_of z.sides at) refl (eqb-true x z.buffer i)
            here false i = k (λ y u v l. absurd (true≢false (sym (eq-eqb x z.buffer (sym l ∙ ap (λ (q : Seen). q.buffer) (sym (one_value z y v)))) ∙ i)))

-- ---- the callee's first state

-- its names are its buffers' own
abbrev AreOwn : Scene → Type 0
AreOwn scene = (x : ℕ) (seen : Seen) → scene.views x ≡ Some seen → seen.buffer ≡ x

module _ (s : State) where
  copied_own : (x : ℕ) (cell : Cell) (dims : List ℤ) (g : Given) (u v : State) → copy_in s x cell dims g u ≡ Some v → AreOwn u.scene → AreOwn v.scene
  copied_own x cell dims (GivenNumber n) u v e h = absurd (none_is_some e)
  copied_own x cell dims (GivenView z) u v e h =
      let made : State = with_contents x (contents s.cells z) (on_scene (with_buffer x (record { cell = cell; dims = dims; strides = strides_seen s.scene z })) u) in
      subst (λ (w : State). AreOwn w.scene) (one_value made v (where_parts (same_index dims (extents z.sides) && all_positive dims) (Some made) v e).1) (λ y seen k. go y seen (y == x) refl k)
    where
      go : (y : ℕ) (seen : Seen) (t : Bool) → (y == x) ≡ t → cond t (Some (record { buffer = x; sides = whole dims })) (u.scene.views y) ≡ Some seen → seen.buffer ≡ y
      go y seen true i k = ap (λ (q : Seen). q.buffer) (sym (one_value (record { buffer = x; sides = whole dims }) seen k)) ∙ sym (eqb-true y x i)
      go y seen false i k = h y seen k

  bound_own : (x : ℕ) (kind : ParamKind) (g : Given) (u v : State) → bind_buffer s x kind g u ≡ Some v → AreOwn u.scene → AreOwn v.scene
  bound_own x (ControlParam q) g u v e h = subst (λ (w : State). AreOwn w.scene) (one_value u v e) h
  bound_own x (TensorParam cell dims memory) g u v e h = copied_own x cell (numbers u.scene dims) g u v e h
  bound_own x (WindowParam cell dims memory) g u v e h = copied_own x cell (numbers u.scene dims) g u v e h

  all_own : (ps : List Param) (gs : List Given) (u v : State) → bind_buffers s ps gs u ≡ Some v → AreOwn u.scene → AreOwn v.scene
  all_own [] gs u v e h = subst (λ (w : State). AreOwn w.scene) (one_value u v e) h
  all_own (p ∷ ps) [] u v e h = absurd (none_is_some e)
  all_own (p ∷ ps) (g ∷ gs) u v e h = let b = then_gives (bind_buffer s p.binder.id p.kind g u) (bind_buffers s ps gs) v e in all_own ps gs b.0 v b.2 (bound_own p.binder.id p.kind g u b.0 b.1 h)

base_listed : (ps : List Param) (gs : List Given) (x : ℕ) (z : Seen) → base_of ps gs x ≡ Some z → is_buffer_of x ps ≡ true
base_listed [] gs x z e = absurd (none_is_some e)
base_listed (p ∷ ps) [] x z e = absurd (none_is_some e)
base_listed (p ∷ ps) (g ∷ gs) x z e = go (x == p.binder.id) e (base_listed ps gs x z)
  where
    go : (t : Bool) → cond t (seen_of g) (base_of ps gs x) ≡ Some z → (base_of ps gs x ≡ Some z → is_buffer_of x ps ≡ true) → (t || is_buffer_of x ps) ≡ true
    go true i k = refl
    go false i k = k i

base_there : (s : State) (ps : List Param) (gs : List Given) → AreThere s gs → (x : ℕ) (z : Seen) → base_of ps gs x ≡ Some z → IsSome (s.scene.buffers z.buffer)
base_there s [] gs h x z e = absurd (none_is_some e)
base_there s (p ∷ ps) [] h x z e = absurd (none_is_some e)
base_there s (p ∷ ps) (g ∷ gs) h x z e = go (x == p.binder.id) e (base_there s ps gs h.1 x z)
  where
    one : (g : Given) → IsThere s g → seen_of g ≡ Some z → IsSome (s.scene.buffers z.buffer)
    one (GivenNumber n) i k = absurd (none_is_some k)
    one (GivenView y) i k = subst (λ (q : Seen). IsSome (s.scene.buffers q.buffer)) (one_value y z k) i

    go : (t : Bool) → cond t (seen_of g) (base_of ps gs x) ≡ Some z → (base_of ps gs x ≡ Some z → IsSome (s.scene.buffers z.buffer)) → IsSome (s.scene.buffers z.buffer)
    go true i k = one g h.0 i
    go false i k = k i

-- ---- the law

module _ (hidden : ℕ → Bool) (world : World) (p : Procedure) (gs : List Given) (s inner : State) (may : MayRunInPlace hidden world p gs s) (passed : all_apart (writes world (λ x. x) p.body) p.params gs ≡ true) (there : AreThere s gs) where
  abbrev base : ℕ → Option Seen
  base = base_of p.params gs

  abbrev written : ℕ → Bool
  written = writes world (λ x. x) p.body

  hidden_there : (b : ℕ) → IsSome (s.scene.buffers b) → hidden b ≡ true
  hidden_there b i = go (hidden b) refl
    where
      go : (t : Bool) → hidden b ≡ t → t ≡ true
      go true e = refl
      go false e = absurd (true≢false (sym (subst IsSome ((may.unbound b e).buffers) i)))

  placing : IsPlacing hidden written every base
  placing = record { whole = λ b e. refl; outside = λ b z e. hidden_there z.buffer (base_there s p.params gs there b z e); apart = λ b c z y w n i j. passed_apart written p.params gs passed b c z y w n i j }

  none_made : (x : ℕ) → makes p.body x ≡ true → base x ≡ None
  none_made x e = go (base x) refl
    where
      go : (o : Option Seen) → base x ≡ o → o ≡ None
      go None i = refl
      go (Some z) i = absurd (true≢false (sym e ∙ (may.params x (base_listed p.params gs x z i)).1))

  to_come : (b : ℕ) (o : Option Seen) → base b ≡ o → waits o (is_buffer_of b p.params) ≡ false → o ≡ None
  to_come b None i e = refl
  to_come b (Some z) i e = absurd (true≢false (sym (base_listed p.params gs b z i) ∙ e))

  at_first : (c : ℕ → ℤ) → Partly hidden written base s p.params (bare c s.scene.fields) s.scene.views
  at_first c = record {
    seen = λ x i. subst (λ o. Both (SeenStands hidden written no_name every base s) None o) (sym (may.unbound x i).views) tt;
    buffers = λ b i j. subst (λ o. BufferStands hidden written no_name every base s o None s.scene.buffers b) (sym (to_come b (base b) refl j)) (sym (may.unbound b i).buffers);
    own = λ b i j at. subst (λ o. Undefined ≡ held_through o s.cells b at) (sym (to_come b (base b) refl j)) (sym (may.sound.tidy b (may.unbound b i).buffers at));
  }

  none_waits : (o : Option Seen) → waits o false ≡ false
  none_waits None = refl
  none_waits (Some z) = refl

  stands_first : entered p.params gs s ≡ Some inner → StandsFor hidden written no_name every base s inner (on_scene (bound p.params gs) s)
  stands_first e =
      let m = then_gives (bind_numbers p.params gs (λ x. pos 0)) (λ control. bind_buffers s p.params gs (bare control s.scene.fields)) inner e in
      let k = kept_control hidden written base s p.params gs (bare m.0 s.scene.fields) inner m.2 in
      let q = partly_bound hidden written base s p.params gs (λ x. pos 0) m.0 (bare m.0 s.scene.fields) inner s.scene.views (λ x i. refl) may.distinct (λ x i. (may.params x i).0) may.types m.1 m.2 (at_first m.0) in
      record {
        control = λ x i. ap (λ f. f x) k.0 ∙ numbers_bound hidden p.params gs (λ x. pos 0) s.scene.control m.0 m.1 (λ y j. sym (may.unbound y j).control) x i;
        fields = k.1;
        views = q.seen;
        names = λ x z i n e. refl;
        buffers = λ b i. q.buffers b i (none_waits (base b));
        others = λ b i. refl;
        cells = record { own = λ b i. q.own b i (none_waits (base b)); left = λ b at i j l. refl };
      }

  first_roots : entered p.params gs s ≡ Some inner → HasRoots (λ x. x) inner.scene
  first_roots e =
      let m = then_gives (bind_numbers p.params gs (λ x. pos 0)) (λ control. bind_buffers s p.params gs (bare control s.scene.fields)) inner e in
      all_own s p.params gs (bare m.0 s.scene.fields) inner m.2 (λ x seen i. absurd (none_is_some i))

  returned_is : (a b : State) → StandsFor hidden written no_name every base s a b → returned (callee_in world p) gs s a ≡ left s b
  returned_is a b h = ap₂ (λ f c. record { scene = record s.scene { fields = f }; cells = c }) h.fields (fun_ext (λ x. fun_ext (λ at. go x at (s.scene.buffers x) refl)))
    where
      go : (x : ℕ) (at : List ℤ) (o : Option Shape) → s.scene.buffers x ≡ o → copied_back written p.params gs a.cells s.cells x at ≡ kept o (b.cells x) at
      go x at None e = all_back_same s written p.params gs a.cells s.cells there x e at ∙ may.sound.tidy x e at
      go x at (Some shape) e =
          let i = some_there (s.scene.buffers x) shape e in
          back_is x at written base a.cells b.cells p.params gs s.cells (λ y k. refl) may.distinct (λ y z k e is. h.cells.own y (may.params y k).0 is ∙ ap (λ o. held_through o b.cells y is) e)
          (λ m. sym (h.cells.left x at (hidden_there x i) i (missed_is_left x at written p.params gs m)))

  ends : (o q : Option State) → Both (StandsFor hidden written no_name every base s) o q → option_map (returned (callee_in world p) gs s) o ≡ option_map (left s) q
  ends None None h = refl
  ends None (Some b) h = absurd h
  ends (Some a) None h = absurd h
  ends (Some a) (Some b) h = ap Some (returned_is a b h)

pub call_in_place : CallInPlace
call_in_place hidden world p args gs s inner may passed e k =
    let there : AreThere s gs = if_gives (AreThere s) (all_given s.scene args) gs (all_there s args may.sound) e in
    ends hidden world p gs s inner may passed there (run world p.body inner) (run world p.body (on_scene (bound p.params gs) s))
    (in_place world hidden (writes world (λ x. x) p.body) no_name every (base_of p.params gs) (λ x. x) p.body s inner (on_scene (bound p.params gs) s) (placing hidden world p gs s inner may passed there) may.names (λ y i. i) (none_made hidden world p gs s inner may passed there) (first_roots hidden world p gs s inner may passed there k) (stands_first hidden world p gs s inner may passed there k))
