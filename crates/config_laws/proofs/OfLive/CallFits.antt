-- From one first state both callees run, and what they leave is copied back.
use Rattle.exo_meaning.proofs.Tested.{test_law}
use Rattle.exo_meaning.proofs.Windows.{where_parts}
use Rattle.std.proofs.Common.{◌≡◌, ℕ, ℤ, pos, Bool, true, false, true≢false, cond, ◌&&◌, ◌||◌, List}
use Rattle.std.proofs.Common.{[], ◌∷◌, Option, Some, None, IfSome, option_map, not, refl, sym, ap}
use Rattle.std.proofs.Common.{ap₂, ◌∙◌, subst, ◌==◌, eqb-true, eq-eqb}
use Rattle.std.specs.Prelude.{IsSome, Contains}
use Rattle.exo_tree.specs.Tree.{Kind, Argument, Param, ParamKind, ControlParam, TensorParam}
use Rattle.exo_tree.specs.Tree.{WindowParam, ConfigField}
use Rattle.exo_meaning.specs.Value.{Value, IsRefinedBy}
use Rattle.exo_meaning.specs.Scene.{are_apart, cell_at, Scene, Seen, where_true, then_do, numbers, index_of, extents}
use Rattle.exo_meaning.specs.Scene.{strides_seen}
use Rattle.exo_meaning.specs.State.{State, Cells, same_index, on_scene, with_buffer, with_contents}
use Rattle.exo_meaning.specs.Calls.{keeps_apart, copied_call, given_all_apart, given_apart, apart_from, all_apart, Callee, Given, GivenNumber, GivenView, given, all_given}
use Rattle.exo_meaning.specs.Calls.{contents, held_at, entered, bind_numbers, bind_buffer}
use Rattle.exo_meaning.specs.Calls.{bind_buffers, copy_in, bare, returned, run_asserted, all_hold}
use Rattle.exo_meaning.specs.Calls.{all_positive, copy_back, copied_back, value_or, call}
use Rattle.exo_meaning.specs.Run.{World, run, kinds_of, callee_in}
use Rattle.exo_meaning.specs.Inputs.{IsAdmissible, IsArgument, AreArguments, has_extents}
use Rattle.exo_meaning.specs.Inputs.{all_have_extents, is_buffer_of}
use Rattle.exo_meaning.specs.Units.{Scope, plainly, with_name, param_sort, is_new, is_param_kind}
use Rattle.exo_meaning.specs.Units.{are_params, are_controls, are_for, field_kind}
use Rattle.exo_meaning.specs.Units.{share_nothing_written}
use Rattle.exo_meaning.specs.Laws.{IsKept}
use Rattle.exo_meaning.proofs.Windows.{one_value, cell_at_index}
use Rattle.exo_meaning.proofs.Frame.{others_are_kept, or_parts, if_then, if_where}
use Rattle.exo_meaning.proofs.Frame.{if_weaken, any, updated_other}
use Rattle.meaning_laws.specs.Live.{RefinedLive, refield}
use Rattle.meaning_laws.specs.Sound.{IsSound}
use Rattle.meaning_laws.specs.Sorted.{IsSorted}
use Rattle.meaning_laws.proofs.Parts.{none_some, some_injective, then_gives, map_gives}
use Rattle.meaning_laws.proofs.Names.{if_gives}
use Rattle.meaning_laws.proofs.Substitute.{and_parts, plain_same}
use Rattle.meaning_laws.proofs.Refined.{refined_same}
use Rattle.meaning_laws.proofs.Replace.{where_gives}
use Rattle.meaning_laws.proofs.WellFormed.{plain_of}
use Rattle.meaning_laws.proofs.FirstState.{Differ, params_differ, AllMatch, Matches}
use Rattle.meaning_laws.proofs.FirstState.{all_match, first_state_law}
use Rattle.place_laws.proofs.OfScope.Roots.{own_roots}
use Rattle.config_laws.specs.Live.CallFits.{IsCalled, IsVersion, CallFits}

where_holds : {A : Type 0} (t : Bool) (o : Option A) (a : A) → where_true t o ≡ Some a → t ≡ true
where_holds true o a e = refl
where_holds false o a e = absurd (none_some e)

-- ---- the first state has the extents that the way in tests

module _ (fields : ℕ → Option Kind) (memories : ℕ) (outer : State) where
  numbers_same : (scope : Scope) (a b : Scene) → a.control ≡ b.control → (es : List _)
      → are_controls fields plainly scope es ≡ true → numbers a es ≡ numbers b es
  numbers_same scope a b same [] h = refl
  numbers_same scope a b same (e ∷ es) h =
      let p = and_parts _ (are_controls fields plainly scope es) h in
      ap₂ (λ n ns. n ∷ ns) (plain_same e a b (plain_of fields scope e p.0)
      (λ x k. ap (λ f. f x) same)) (numbers_same scope a b same es p.1)

  copied_in : (x : ℕ) (cell : _) (dims : List ℤ) (g : Given) (t u : State)
      → copy_in outer x cell dims g t ≡ Some u
      → (all_positive dims ≡ true) × (u.scene.control ≡ t.scene.control)
  copied_in x cell dims (GivenNumber n) t u e = absurd (none_some e)
  copied_in x cell dims (GivenView z) t u e =
      let k = where_holds (same_index dims (extents z.sides) && all_positive dims) _ u e in (
        (and_parts (same_index dims (extents z.sides)) (all_positive dims) k).1,
        ap
            (λ (v : State). v.scene.control)
            (sym (some_injective _ u (where_gives (same_index dims (extents z.sides) && all_positive
            dims) _ u e))),
      )

  one_in : (x : ℕ) (kind : ParamKind) (g : Given) (t u : State)
      → bind_buffer outer x kind g t ≡ Some u → (has_extents t.scene kind ≡ true)
      × (u.scene.control ≡ t.scene.control)
  one_in x (ControlParam kind) g t u e =
      (refl, ap (λ (v : State). v.scene.control) (sym (some_injective t u e)))
  one_in x (TensorParam cell dims memory) g t u e = copied_in x cell (numbers t.scene dims) g t u e
  one_in x (WindowParam cell dims memory) g t u e = copied_in x cell (numbers t.scene dims) g t u e

  extents_same : (scope : Scope) (kind : ParamKind) (a b : Scene) → a.control ≡ b.control
      → is_param_kind fields memories scope kind ≡ true → has_extents a kind ≡ has_extents b kind
  extents_same scope (ControlParam kind) a b same h = refl
  extents_same scope (TensorParam cell dims memory) a b same h =
      ap all_positive (numbers_same scope a b same dims
      (and_parts (are_controls fields plainly scope dims) _ h).0)
  extents_same scope (WindowParam cell dims memory) a b same h =
      ap all_positive (numbers_same scope a b same dims
      (and_parts (are_controls fields plainly scope dims) _ h).0)

  and_true : (a b : Bool) → a ≡ true → b ≡ true → (a && b) ≡ true
  and_true true b h k = k
  and_true false b h k = absurd (true≢false (sym h))

  all_in : (ps : List Param) (scope : Scope) → are_params fields memories scope ps ≡ true
      → (gs : List Given) (t u : State) → bind_buffers outer ps gs t ≡ Some u
      → (all_have_extents u.scene ps ≡ true) × (u.scene.control ≡ t.scene.control)
  all_in [] scope ok gs t u e = (
    refl,
    ap (λ (v : State). v.scene.control)
        (sym (some_injective t u e)),
  )
  all_in (p ∷ ps) scope ok [] t u e = absurd (none_some e)
  all_in (p ∷ ps) scope ok (g ∷ gs) t u e =
      let inner : Scope = with_name scope p.binder (param_sort p.kind) in
      let q = and_parts (is_new scope p.binder) (is_param_kind fields memories scope p.kind
      && are_params fields memories inner ps) ok in
      let r = and_parts (is_param_kind fields memories scope p.kind) (are_params fields memories
      inner ps) q.1 in
      let m = then_gives (bind_buffer outer p.binder.id p.kind g t) (bind_buffers outer ps gs) u
      e in
      let one = one_in p.binder.id p.kind g t m.0 m.1 in
      let rest = all_in ps inner r.1 gs m.0 u m.2 in
      let same : u.scene.control ≡ t.scene.control = rest.1 ∙ one.1 in (
        and_true (has_extents u.scene p.kind) (all_have_extents u.scene ps)
            (extents_same scope p.kind u.scene t.scene same r.0 ∙ one.0) rest.0,
        same,
      )

  pub entered_has_extents : (ps : List Param) (gs : List Given)
      → are_params fields memories [] ps ≡ true → (inner : State) → entered ps gs outer ≡ Some inner
      → all_have_extents inner.scene ps ≡ true
  entered_has_extents ps gs ok inner e =
      let m = then_gives (bind_numbers ps gs (λ x. _)) (λ control. bind_buffers outer ps gs
      (bare control outer.scene.fields)) inner e in
      (all_in ps [] ok gs (bare m.0 outer.scene.fields) inner m.2).0

-- ---- what is copied back is refined

back_one : (t : Bool) (g : Given) (e f : List ℤ → Value) (c d : Cells)
    → ((z : Seen) → g ≡ GivenView z → (at : List ℤ) → IsRefinedBy (e at) (f at))
    → ((b : ℕ) (at : List ℤ) → IsRefinedBy (c b at) (d b at)) → (b : ℕ) (at : List ℤ)
    → IsRefinedBy (copy_back t g e c b at) (copy_back t g f d b at)
back_one false g e f c d h k b at = k b at
back_one true (GivenNumber n) e f c d h k b at = k b at
back_one true (GivenView z) e f c d h k b at = go (b == z.buffer) (index_of z.sides at)
  where
    go : (t : Bool) (o : Option (List ℤ)) → IsRefinedBy (cond t (value_or o e (c b at)) (c b at))
        (cond t (value_or o f (d b at)) (d b at))
    go false o = k b at
    go true None = k b at
    go true (Some is) = h z refl is

-- what is left of a window may be copied back or not
back_none : (s : State) (z : Seen) (e : List ℤ → Value) (c d : Cells)
    → ((is : List ℤ) → IsRefinedBy (e is) (contents s.cells z is))
    → ((is at : List ℤ) → cell_at z.sides is ≡ Some at → d z.buffer at ≡ s.cells z.buffer at)
    → ((b : ℕ) (at : List ℤ) → IsRefinedBy (c b at) (d b at)) → (b : ℕ) (at : List ℤ)
    → IsRefinedBy (copy_back true (GivenView z) e c b at) (d b at)
back_none s z e c d h still k b at = go (b == z.buffer) (eqb-true b z.buffer) (index_of z.sides at)
    refl
  where
    go : (t : Bool) → (t ≡ true → b ≡ z.buffer) → (o : Option (List ℤ)) → index_of z.sides at ≡ o
        → IsRefinedBy (cond t (value_or o e (c b at)) (c b at)) (d b at)
    go false same o i = k b at
    go true same None i = k b at
    go true same (Some is) i =
        let cell : contents s.cells z is ≡ d b at =
        ap (held_at (s.cells z.buffer)) (cell_at_index z.sides at is i)
        ∙ sym (still is at (cell_at_index z.sides at is i)) ∙ ap (λ x. d x at) (sym (same refl)) in
        subst (IsRefinedBy (e is)) cell (h is)

-- what is left of a window that was left as it is may be copied back
back_more : (s : State) (z : Seen) (f : List ℤ → Value) (c d : Cells)
    → ((is : List ℤ) → IsRefinedBy (contents s.cells z is) (f is))
    → ((is at : List ℤ) → cell_at z.sides is ≡ Some at → c z.buffer at ≡ s.cells z.buffer at)
    → ((b : ℕ) (at : List ℤ) → IsRefinedBy (c b at) (d b at)) → (b : ℕ) (at : List ℤ)
    → IsRefinedBy (c b at) (copy_back true (GivenView z) f d b at)
back_more s z f c d h still k b at = go (b == z.buffer) (eqb-true b z.buffer) (index_of z.sides at)
    refl
  where
    go : (t : Bool) → (t ≡ true → b ≡ z.buffer) → (o : Option (List ℤ)) → index_of z.sides at ≡ o
        → IsRefinedBy (c b at) (cond t (value_or o f (d b at)) (d b at))
    go false same o i = k b at
    go true same None i = k b at
    go true same (Some is) i =
        let cell : contents s.cells z is ≡ c b at =
        ap (held_at (s.cells z.buffer)) (cell_at_index z.sides at is i)
        ∙ sym (still is at (cell_at_index z.sides at is i)) ∙ ap (λ x. c x at) (sym (same refl)) in
        subst (λ v. IsRefinedBy v (f is)) cell (h is)

there : {A : Type 0} (o : Option A) (a : A) → o ≡ Some a → IsSome o
there o a k = subst IsSome (sym k) refl

-- as in CallChanges, where these names are not pub
module _ (s : State) where
  abbrev IsCopy : ParamKind → Given → (List ℤ → Value) → Type 0
  IsCopy (ControlParam kind) g f = Unit {0}
  IsCopy (TensorParam cell dims memory) (GivenNumber n) f = Unit {0}
  IsCopy (TensorParam cell dims memory) (GivenView z) f = f ≡ contents s.cells z
  IsCopy (WindowParam cell dims memory) (GivenNumber n) f = Unit {0}
  IsCopy (WindowParam cell dims memory) (GivenView z) f = f ≡ contents s.cells z

  abbrev AreCopies : List Param → List Given → Cells → Type 0
  AreCopies [] gs c = Unit {0}
  AreCopies (p ∷ ps) [] c = Unit {0}
  AreCopies (p ∷ ps) (g ∷ gs) c = IsCopy p.kind g (c p.binder.id) × AreCopies ps gs c

  abbrev OneCopied : ℕ → ParamKind → Given → State → State → Type 0
  OneCopied x kind g t u = ((b : ℕ) → (b == x) ≡ false → u.cells b ≡ t.cells b) × IsCopy kind g
      (u.cells x)

  one_copied : (x : ℕ) (kind : ParamKind) (g : Given) (t : State)
      → IfSome (bind_buffer s x kind g t) (OneCopied x kind g t)
  one_copied x (ControlParam kind) g t = (λ b e. refl, tt)
  one_copied x (TensorParam cell dims memory) (GivenNumber n) t = tt
  one_copied x (TensorParam cell dims memory) (GivenView z) t =
      if_where (OneCopied x (TensorParam cell dims memory) (GivenView z) t)
      (same_index (numbers t.scene dims) (extents z.sides) && all_positive (numbers t.scene dims))
      (Some (with_contents x (contents s.cells z)
      (on_scene (with_buffer x (record {
        cell = cell;
        dims = numbers t.scene dims;
        strides =
            strides_seen s.scene z;
      })) t))) (
        λ b e. updated_other t.cells x (contents s.cells z) b e,
        ap
            (λ q. cond {A = List ℤ → Value} q (contents s.cells z) (t.cells x)) (eq-eqb x x refl),
      )
  one_copied x (WindowParam cell dims memory) (GivenNumber n) t = tt
  one_copied x (WindowParam cell dims memory) (GivenView z) t =
      if_where (OneCopied x (WindowParam cell dims memory) (GivenView z) t)
      (same_index (numbers t.scene dims) (extents z.sides) && all_positive (numbers t.scene dims))
      (Some (with_contents x (contents s.cells z)
      (on_scene (with_buffer x (record {
        cell = cell;
        dims = numbers t.scene dims;
        strides =
            strides_seen s.scene z;
      })) t))) (
        λ b e. updated_other t.cells x (contents s.cells z) b e,
        ap
            (λ q. cond {A = List ℤ → Value} q (contents s.cells z) (t.cells x)) (eq-eqb x x refl),
      )

  kept_copy : (kind : ParamKind) (g : Given) (f h : List ℤ → Value) → h ≡ f → IsCopy kind g f
      → IsCopy kind g h
  kept_copy kind g f h e k = subst (IsCopy kind g) (sym e) k

  abbrev Copied : List Param → List Given → State → State → Type 0
  Copied ps gs t u = ((b : ℕ) → is_buffer_of b ps ≡ false → u.cells b ≡ t.cells b) × AreCopies ps gs
      u.cells

  all_copied : (ps : List Param) (gs : List Given) (t : State) → Differ ps
      → IfSome (bind_buffers s ps gs t) (Copied ps gs t)
  all_copied [] gs t df = (λ b e. refl, tt)
  all_copied (p ∷ ps) [] t df = tt
  all_copied (p ∷ ps) (g ∷ gs) t df =
      if_then (OneCopied p.binder.id p.kind g t) (Copied (p ∷ ps) (g ∷ gs) t)
      (bind_buffer s p.binder.id p.kind g t) (bind_buffers s ps gs) (one_copied p.binder.id
      p.kind g t) (λ u k.
      if_weaken (Copied ps gs u) (Copied (p ∷ ps) (g ∷ gs) t) (bind_buffers s ps gs u)
      (all_copied ps gs u df.1) (λ w l. (
        λ b e. let q = or_parts (b == p.binder.id) (is_buffer_of b ps) e in l.0 b q.1
            ∙ k.0 b q.0,
        (
          kept_copy p.kind g (u.cells p.binder.id) (w.cells p.binder.id)
              (l.0 p.binder.id df.0) k.1,
          l.1,
        ),
      )))

  entered_copies : (ps : List Param) (gs : List Given) → Differ ps
      → IfSome (entered ps gs s) (λ inner. AreCopies ps gs inner.cells)
  entered_copies ps gs df = if_then (λ c. Unit {0}) (λ (inner : State). AreCopies ps gs inner.cells)
      (bind_numbers ps gs (λ x. pos 0)) _ (any (bind_numbers ps gs (λ x. pos 0)))
      (λ c u. if_weaken (Copied ps gs (bare c s.scene.fields)) (λ (inner : State). AreCopies ps gs
      inner.cells) (bind_buffers s ps gs (bare c s.scene.fields))
      (all_copied ps gs (bare c s.scene.fields) df) (λ inner k. k.1))

not_empty : {A : Type 0} {x : A} {l : List A} → [] ≡ (x ∷ l) → ⊥
not_empty e = cc

first_is : {A : Type 0} {x y : A} {l m : List A} → (x ∷ l) ≡ (y ∷ m) → x ≡ y
first_is e = cc

rest_is : {A : Type 0} {x y : A} {l m : List A} → (x ∷ l) ≡ (y ∷ m) → l ≡ m
rest_is e = cc

given_parts : (scene : Scene) (a : Argument) (args : List Argument) (g : Given) (gs : List Given)
    → all_given scene (a ∷ args) ≡ Some (g ∷ gs)
    → (given scene a ≡ Some g) × (all_given scene args ≡ Some gs)
given_parts scene a args g gs k =
    let m = then_gives (given scene a) (λ g. option_map (λ gs. g ∷ gs) (all_given scene args))
    (g ∷ gs) k in
    let n = map_gives (all_given scene args) (λ gs. m.0 ∷ gs) (g ∷ gs) m.2 in
    (m.1 ∙ ap Some (first_is n.2), n.1 ∙ ap Some (rest_is n.2))

view_is : (g : Given) (z y : Seen) → g ≡ GivenView z → g ≡ GivenView y → z ≡ y
view_is g z y i j = cc

number_view : (n : ℤ) (z : Seen) → GivenNumber n ≡ GivenView z → ⊥
number_view n z e = cc

module _ (fields : ℕ → Option Kind) (s : State) where
  -- the cells of windows of these parameters hold what they held
  abbrev Still : (ℕ → Bool) → List Param → List Given → Cells → Type 0
  Still these [] gs d = Unit {0}
  Still these (p ∷ ps) [] d = Unit {0}
  Still these (p ∷ ps) (g ∷ gs) d = ((z : Seen) → g ≡ GivenView z → these p.binder.id ≡ true
      → (is at : List ℤ) → cell_at z.sides is ≡ Some at → d z.buffer at ≡ s.cells z.buffer at)
      × Still these ps gs d

  still_there : (these : ℕ → Bool) (ps : List Param) (gs : List Given)
      → Still these ps gs s.cells
  still_there these [] gs = tt
  still_there these (p ∷ ps) [] = tt
  still_there these (p ∷ ps) (g ∷ gs) = (λ z e i is at k. refl, still_there these ps gs)

  -- those that are apart from this one
  still_apart : (these w : ℕ → Bool) (x : ℕ) (z : Seen)
      → ((y : ℕ) → these y ≡ true → (w x || w y) ≡ true) → (f : List ℤ → Value) (d : Cells)
      (ps : List Param) (gs : List Given) → apart_from w x (GivenView z) ps gs ≡ true
      → Still these ps gs d → Still these ps gs (copy_back true (GivenView z) f d)
  still_apart these w x z on f d [] gs apart h = tt
  still_apart these w x z on f d (q ∷ qs) [] apart h = tt
  still_apart these w x z on f d (q ∷ qs) (g ∷ gs) apart h =
      let o = and_parts (not (w x || w q.binder.id) || given_apart (GivenView z) g)
      (apart_from w x (GivenView z) qs gs) apart in (
        λ y e i is at k. one y (subst (λ (v : Given). given_apart (GivenView z) v ≡ true) e
            (told (w x || w q.binder.id) (on q.binder.id i) (given_apart (GivenView z) g) o.0))
            is at k (h.0 y e i is at k),
        still_apart these w x z on f d qs gs o.1 h.1,
      )
    where
      told : (t : Bool) → t ≡ true → (v : Bool) → (not t || v) ≡ true → v ≡ true
      told true i v k = k
      told false i v k = absurd (true≢false (sym i))

      one : (y : Seen) → are_apart z y ≡ true → (is at : List ℤ) → cell_at y.sides is ≡ Some at
          → d y.buffer at ≡ s.cells y.buffer at
          → copy_back true (GivenView z) f d y.buffer at ≡ s.cells y.buffer at
      one y t is at k m = go (y.buffer == z.buffer) (eqb-true y.buffer z.buffer)
          (index_of z.sides at) refl m
        where
          go : (b : Bool) → (b ≡ true → y.buffer ≡ z.buffer) → (o : Option (List ℤ))
              → index_of z.sides at ≡ o → d y.buffer at ≡ s.cells y.buffer at
              → cond b (value_or o f (d y.buffer at)) (d y.buffer at) ≡ s.cells y.buffer at
          go false e o i m = m
          go true e None i m = m
          go true e (Some js) i m = absurd ((test_law z y).0 t js is at (sym (e refl))
              (cell_at_index z.sides at js i) k)

  module _ (kinds : ℕ → Kind) (scope : Scope) (sorted : IsSorted kinds scope s) (inner : Scene)
      (first e f : Cells) (near : (b : ℕ) → IsSome (inner.buffers b) → (at : List ℤ) → IsRefinedBy
      (e b at) (f b at)) (w v : ℕ → Bool)
      (old_keeps : (x : ℕ) → w x ≡ false → IsSome (inner.buffers x) → e x ≡ first x)
      (new_keeps : (x : ℕ) → v x ≡ false → IsSome (inner.buffers x) → f x ≡ first x) where
    abbrev all : ℕ → Bool
    all x = true

    back_all : (ps : List Param) (gs : List Given) → AreArguments inner ps
        → AllMatch fields kinds scope s sorted ps gs → AreCopies s ps gs first
        → all_apart w ps gs ≡ true → (c d : Cells) → Still all ps gs c → Still w ps gs d
        → ((b : ℕ) (at : List ℤ) → IsRefinedBy (c b at) (d b at))
        → (b : ℕ) (at : List ℤ) → IsRefinedBy (copied_back w ps gs e c b at)
        (copied_back v ps gs f d b at)
    back_all [] gs a m z apart c d was still k = k
    back_all (p ∷ ps) [] a m z apart c d was still k = k
    back_all (p ∷ ps) (g ∷ gs) a m z apart c d was still k =
        let o = and_parts (apart_from w p.binder.id g ps gs) (all_apart w ps gs) apart in
        back_all ps gs a.1 m.1 z.1 o.1 (copy_back (w p.binder.id) g (e p.binder.id) c)
        (copy_back (v p.binder.id) g (f p.binder.id) d)
        (was_next (w p.binder.id) refl g o.0) (still_next (v p.binder.id) g o.0)
        (one (w p.binder.id) (v p.binder.id) refl refl p.kind g a.0 m.0 z.0 was.0 still.0)
      where
        on_left : (a b : Bool) → a ≡ true → (a || b) ≡ true
        on_left true b h = refl
        on_left false b h = absurd (true≢false (sym h))

        on_right : (a b : Bool) → b ≡ true → (a || b) ≡ true
        on_right true b h = refl
        on_right false b h = h

        was_next : (t : Bool) → w p.binder.id ≡ t → (g : Given)
            → apart_from w p.binder.id g ps gs ≡ true
            → Still all ps gs (copy_back t g (e p.binder.id) c)
        was_next false j g o = was.1
        was_next true j (GivenNumber n) o = was.1
        was_next true j (GivenView y) o =
            still_apart all w p.binder.id y (λ q h. on_left (w p.binder.id) (w q) j)
            (e p.binder.id) c ps gs o was.1

        still_next : (t : Bool) (g : Given) → apart_from w p.binder.id g ps gs ≡ true
            → Still w ps gs (copy_back t g (f p.binder.id) d)
        still_next false g o = still.1
        still_next true (GivenNumber n) o = still.1
        still_next true (GivenView y) o =
            still_apart w w p.binder.id y (λ q h. on_right (w p.binder.id) (w q) h)
            (f p.binder.id) d ps gs o still.1

        view_there : (kind : ParamKind) (y : Seen) → IsArgument inner p.binder.id kind
            → Matches fields kinds scope s sorted kind (GivenView y)
            → IsSome (inner.buffers p.binder.id)
        view_there (ControlParam kind) y a m = absurd m
        view_there (TensorParam cell dims memory) y a m = there (inner.buffers p.binder.id) _ a.0
        view_there (WindowParam cell dims memory) y a m = there (inner.buffers p.binder.id) _ a.1.0

        is_copy : (kind : ParamKind) (y : Seen)
            → Matches fields kinds scope s sorted kind (GivenView y)
            → IsCopy s kind (GivenView y) (first p.binder.id)
            → first p.binder.id ≡ contents s.cells y
        is_copy (ControlParam kind) y m z = absurd m
        is_copy (TensorParam cell dims memory) y m z = z
        is_copy (WindowParam cell dims memory) y m z = z

        one : (t u : Bool) → w p.binder.id ≡ t → v p.binder.id ≡ u
            → (kind : ParamKind) (g : Given) → IsArgument inner p.binder.id kind
            → Matches fields kinds scope s sorted kind g → IsCopy s kind g (first p.binder.id)
            → ((y : Seen) → g ≡ GivenView y → true ≡ true → (is at : List ℤ)
            → cell_at y.sides is ≡ Some at → c y.buffer at ≡ s.cells y.buffer at)
            → ((y : Seen) → g ≡ GivenView y → w p.binder.id ≡ true → (is at : List ℤ)
            → cell_at y.sides is ≡ Some at → d y.buffer at ≡ s.cells y.buffer at)
            → (b : ℕ) (at : List ℤ)
            → IsRefinedBy (copy_back t g (e p.binder.id) c b at) (copy_back u g (f p.binder.id) d b
            at)
        one true true i j kind g a m z was still =
            back_one true g (e p.binder.id) (f p.binder.id) c d (λ y i at. near p.binder.id
            (view_there kind y a (subst (Matches fields kinds scope s sorted kind) i m)) at) k
        one false false i j kind g a m z was still = k
        one true false i j kind (GivenNumber n) a m z was still = k
        one true false i j kind (GivenView y) a m z was still =
            let here = view_there kind y a m in
            back_none s y (e p.binder.id) c d (λ is. subst (λ (h : List ℤ → Value). IsRefinedBy
            (e p.binder.id is) (h is)) (new_keeps p.binder.id j here ∙ is_copy kind y m z)
            (near p.binder.id here is)) (still y refl i) k
        one false true i j kind (GivenNumber n) a m z was still = k
        one false true i j kind (GivenView y) a m z was still =
            let here = view_there kind y a m in
            back_more s y (f p.binder.id) c d (λ is. subst (λ (h : List ℤ → Value). IsRefinedBy
            (h is) (f p.binder.id is)) (old_keeps p.binder.id i here ∙ is_copy kind y m z)
            (near p.binder.id here is)) (was y refl refl) k

-- ---- calls

-- a call in parts
pub record Parts (c : Callee) (args : List Argument) (s a : State) : Type 0 where
  pub given : List Given
  pub first : State
  pub last : State
  pub is_given : all_given s.scene args ≡ Some given
  pub apart : all_apart c.writes c.procedure.params given ≡ true
  pub is_first : entered c.procedure.params given s ≡ Some first
  pub hold : all_hold first.scene c.procedure.asserts ≡ true
  pub runs : c.run first ≡ Some last
  pub is_after : returned c given s last ≡ a

parts : (c : Callee) (args : List Argument) (s a : State) → call c args s ≡ Some a
    → Parts c args s a
parts c args s a before =
    let tested = where_parts (keeps_apart c s.scene args) (copied_call c args s) a before in
    let i = tested.1 in
    let l = then_gives (all_given s.scene args) (λ gs. then_do (entered c.procedure.params gs s)
    (λ v. option_map (returned c gs s) (run_asserted c v))) a i in
    let m = then_gives (entered c.procedure.params l.0 s) (λ v. option_map (returned c l.0 s)
    (run_asserted c v)) a l.2 in
    let n = map_gives (run_asserted c m.0) (returned c l.0 s) a m.2 in
    record {
      given = l.0;
      first = m.0;
      last = n.0;
      is_given = l.1;
      apart = ap (given_all_apart c.writes c.procedure.params) (sym l.1) ∙ tested.0;
      is_first = m.1;
      hold = where_holds (all_hold m.0.scene c.procedure.asserts) (c.run m.0) n.0 n.1;
      runs = where_gives (all_hold m.0.scene c.procedure.asserts) (c.run m.0) n.0 n.1;
      is_after = n.2;
    }

where_is : {A : Type 0} (t : Bool) (o : Option A) (a : A) → t ≡ true → o ≡ Some a
    → where_true t o ≡ Some a
where_is true o a e k = k
where_is false o a e k = absurd (true≢false (sym e))

module _ (fields : List ConfigField) (memories : ℕ) (world : World) (scope : Scope) (root : ℕ → ℕ)
    (c d : Callee) (args : List Argument) (but : List ℕ) (behind : ℕ → Bool) (s : State)
    (same : world.kinds ≡ kinds_of fields) (sound : IsSound s) (sorted : IsSorted world.kinds scope
    s) (called : IsCalled fields memories scope root c args s) (version : IsVersion world c d but)
    (apart : (f : ℕ) → behind f ≡ true → Contains but f → ⊥) where
  abbrev ps : List Param
  ps = c.procedure.params

  abbrev kind : ℕ → Option Kind
  kind = field_kind fields

  -- what a callee leaves
  abbrev left_by : (ℕ → Bool) → List Given → State → State
  left_by w gs t = record {
    scene = record s.scene { fields = t.scene.fields };
    cells = copied_back
        w ps gs t.cells s.cells;
  }

  returned_is : (gs : List Given) (t : State) → returned d gs s t ≡ left_by d.writes gs t
  returned_is gs t = ap (λ l. record {
    scene = record s.scene { fields = t.scene.fields };
    cells =
        copied_back d.writes l gs t.cells s.cells;
  }) version.params

  -- what a callee does not write stays
  keeps : (above : World) (z : Callee) → z ≡ callee_in above z.procedure → (v w : State)
      → IsAdmissible world c.procedure v → z.run v ≡ Some w → (x : ℕ)
      → z.writes x ≡ false → IsSome (v.scene.buffers x) → w.cells x ≡ v.cells x
  keeps above z made v w good ran x off there =
      let roots = own_roots world c.procedure v good kind memories called.params in
      let not_written = ap (λ (y : Callee). y.writes x) (sym made) ∙ off in
      let runs = ap (λ (y : Callee). y.run v) (sym made) ∙ ran in
      (if_gives (IsKept x v) (run above z.procedure.body v) w (others_are_kept above
      (λ y. y) z.procedure.body x v roots there not_written) runs).cells

  from_one : (gs : List Given) (v t w : State) → all_given s.scene args ≡ Some gs
      → all_apart c.writes ps gs ≡ true
      → entered ps gs s ≡ Some v → all_hold v.scene c.procedure.asserts ≡ true → c.run v ≡ Some t
      → d.run v ≡ Some w → RefinedLive behind (left_by c.writes gs t) (left_by d.writes gs w)
  from_one gs v t w given_is passed first_is hold old new =
      let good = first_state_law fields memories world scope root s v c args gs same sound sorted
      called.params called.call given_is first_is hold in
      let fit = and_parts (are_for kind scope ps args) (share_nothing_written kind c.writes root ps
      args) called.call in
      let match = if_gives (AllMatch kind world.kinds scope s sorted ps) (all_given s.scene args) gs
      (all_match kind world.kinds scope s sorted ps args fit.0) given_is in
      let wide = entered_has_extents kind memories s ps gs called.params v first_is in
      let copies = if_gives (λ (z : State). AreCopies s ps gs z.cells) (entered ps gs s) v
      (entered_copies s ps gs (params_differ kind memories ps [] called.params)) first_is in
      let i = where_is (all_have_extents v.scene ps) (run world c.procedure.body v) t wide
      (ap (λ (f : State → Option State). f v) (sym version.old_run) ∙ old) in
      let j = where_is (all_have_extents v.scene d.procedure.params) (run world d.procedure.body v)
      w (ap (all_have_extents v.scene) version.params ∙ wide)
      (ap (λ (f : State → Option State). f v) (sym version.new_run) ∙ new) in
      record {
        middle = refield w.scene.fields (left_by c.writes gs t);
        live = record {
          fields = w.scene.fields;
          agree = λ f k. version.refines.fields v t w good i
              j f (apart f k);
          same = refl;
        };
        refined = record {
          scene = refl;
          cells = back_all kind s world.kinds scope
              sorted v.scene v.cells t.cells w.cells (version.refines.cells v t w good i j) c.writes
              d.writes (keeps version.old_above c version.old_made v t good old)
              (keeps version.new_above d version.new_made v w good new) ps gs good.arguments
              match copies passed s.cells s.cells (still_there kind s (λ x. true) ps gs)
              (still_there kind s c.writes ps gs)
              (λ x at. refined_same (s.cells x at));
        };
      }

  both_calls : (a b : State) → call c args s ≡ Some a → call d args s ≡ Some b
      → RefinedLive behind a b
  both_calls a b i j =
      let p = parts c args s a i in
      let q = parts d args s b j in
      let gs = one_value q.given p.given (sym q.is_given ∙ p.is_given) in
      let first = one_value q.first p.first (sym q.is_first ∙ ap (λ l. entered l q.given s)
      version.params ∙ ap (λ l. entered ps l s) gs ∙ p.is_first) in
      let new = ap d.run (sym first) ∙ q.runs in
      let after = ap (λ l. left_by d.writes l q.last) (sym gs) ∙ sym (returned_is q.given q.last)
      ∙ q.is_after in
      subst (λ z. RefinedLive behind z b) p.is_after
      (subst (RefinedLive behind (left_by c.writes p.given p.last)) after
      (from_one p.given p.first p.last q.last p.is_given p.apart p.is_first p.hold p.runs new))

pub call_fits : CallFits
call_fits = both_calls
