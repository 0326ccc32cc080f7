-- Where the claims of a call hold, the callee's first state is there, and what is passed has the values of the parameters in it.
use Rattle.std.proofs.Common.{◌≡◌, ℕ, zero, suc, ℤ, pos, ◌==◌, true, false, cond, ◌&&◌, ◌||◌, List, [], ◌∷◌, length, map, get_or, Option, Some, None, arith, refl, sym, ap, ap₂, ◌∙◌, subst}
use Rattle.std.specs.Prelude.{IsSome, nat_lt}
use Rattle.std.specs.Ordering.{int_eq}
use Rattle.std.specs.Cmp.Rules.{signed_items}
use Rattle.std.specs.List.{list_all}
use Rattle.std.proofs.lemmas.Int.{ints}
use Rattle.exo_tree.specs.Tree.{Cell, Kind, Control, Condition, Argument, ControlArg, ConditionArg, Whole, Window, Param, ParamKind, ControlParam, TensorParam, WindowParam}
use Rattle.exo_meaning.specs.Scene.{Shape, Seen, Scene, number, numbers, holds, extents, whole, strides_of, strides_seen, stride_at, updated}
use Rattle.exo_meaning.specs.State.{State, same_index, with_buffer, with_contents, on_scene}
use Rattle.exo_meaning.specs.Calls.{Given, GivenNumber, GivenView, suits, bind_number, bind_numbers, copy_in, bind_buffer, bind_buffers, contents, all_positive, all_hold, bare, entered}
use Rattle.exo_meaning.specs.Inputs.{is_buffer_of}
use Rattle.exo_meaning.specs.Units.{Scope, sort_in, is_new, with_name, scope_of, param_sort, plainly, with_both, is_control, are_controls, is_condition, is_for, are_for, is_param_kind, are_params}
use Rattle.text_show.specs.Words.{Words}
use Rattle.meaning_laws.specs.Sound.{IsSound}
use Rattle.check_claims.specs.Pairs.{flat_zip}
use Rattle.check_claims.specs.Extents.{Extents, dims_of}
use Rattle.check_claims.specs.Arguments.{passed_for, control_under}
use Rattle.check_claims.specs.Claims.{asserted, argument_extents, equal_extents, passed_extents}
use Rattle.check_laws.proofs.OfClaims.Basics.{and_parts, and_true, or_parts, no_test, Succeeds, succeeds_then, succeeds_where, succeeds_as, suc_same, each_left, each_right, same_number}
use Rattle.check_laws.proofs.OfClaims.Seen.{IsDescribed, IsHeld, Hold, controls_depend}
use Rattle.check_laws.proofs.OfClaims.Kept.{not_new, still_in_scope}
use Rattle.check_laws.proofs.OfClaims.Under.{Covers, number_under, condition_same, Told, covers_more, covers_nothing}
use Rattle.check_laws.proofs.OfClaims.Given.{IsView, IsNumberOf, IsFor, AreFor}

-- ---- parameters have different ids

abbrev pub Differ : List Param → Type 0
Differ [] = Unit {0}
Differ (p ∷ ps) = (is_buffer_of p.binder.id ps ≡ false) × Differ ps

module _ (fields : ℕ → Option Kind) (memories : ℕ) where
  later_differ : (ps : List Param) (scope : Scope) → are_params fields memories scope ps ≡ true → (x : ℕ) → IsSome (sort_in scope x) → is_buffer_of x ps ≡ false
  later_differ [] scope h x k = refl
  later_differ (p ∷ ps) scope h x k =
      let q = and_parts (is_new scope p.binder) (is_param_kind fields memories scope p.kind && are_params fields memories (with_name scope p.binder (param_sort p.kind)) ps) h in
      let r = and_parts (is_param_kind fields memories scope p.kind) (are_params fields memories (with_name scope p.binder (param_sort p.kind)) ps) q.1 in
      ap₂ (λ a b. a || b) (not_new scope p.binder x q.0 k) (later_differ ps (with_name scope p.binder (param_sort p.kind)) r.1 x (still_in_scope scope p.binder (param_sort p.kind) x k))

  pub params_differ : (ps : List Param) (scope : Scope) → are_params fields memories scope ps ≡ true → Differ ps
  params_differ [] scope h = tt
  params_differ (p ∷ ps) scope h =
      let q = and_parts (is_new scope p.binder) (is_param_kind fields memories scope p.kind && are_params fields memories (with_name scope p.binder (param_sort p.kind)) ps) h in
      let r = and_parts (is_param_kind fields memories scope p.kind) (are_params fields memories (with_name scope p.binder (param_sort p.kind)) ps) q.1 in
      let inner = with_name scope p.binder (param_sort p.kind) in
      (later_differ ps inner r.1 p.binder.id (subst (λ t. IsSome (cond t (Some (param_sort p.kind)) (sort_in scope p.binder.id))) (sym (same_number p.binder.id)) refl), params_differ ps inner r.1)

-- ---- what is passed for each

abbrev pub Passed : List Param → List Argument → List Param → List Argument → Type 0
Passed params args [] rest = Unit {0}
Passed params args (p ∷ ps) [] = ⊥
Passed params args (p ∷ ps) (a ∷ rest) = (passed_for params args p.binder.id ≡ Some a) × Passed params args ps rest

passed_behind : (p : Param) (a : Argument) (params : List Param) (args : List Argument) (ps : List Param) (rest : List Argument) → is_buffer_of p.binder.id ps ≡ false → Passed params args ps rest → Passed (p ∷ params) (a ∷ args) ps rest
passed_behind p a params args [] rest d h = tt
passed_behind p a params args (q ∷ ps) [] d h = absurd h
passed_behind p a params args (q ∷ ps) (b ∷ rest) d h =
    let e = or_parts (p.binder.id == q.binder.id) (is_buffer_of p.binder.id ps) d in
    (ap (λ t. cond t (Some a) (passed_for params args q.binder.id)) e.0 ∙ h.0, passed_behind p a params args ps rest e.1 h.1)

module _ (fields : ℕ → Option Kind) (scope : Scope) where
  pub all_passed : (ps : List Param) (args : List Argument) → are_for fields scope ps args ≡ true → Differ ps → Passed ps args ps args
  all_passed [] args h d = tt
  all_passed (p ∷ ps) [] h d = no_test h
  all_passed (p ∷ ps) (a ∷ args) h d = (
    ap (λ t. cond t (Some a) (passed_for ps args p.binder.id)) (same_number p.binder.id),
    passed_behind p a ps args ps args d.0 (all_passed ps args (and_parts (is_for fields scope p.kind a) (are_for fields scope ps args) h).1 d.1),
  )

-- ---- lists of numbers

int_same : (a b : ℤ) → int_eq a b ≡ true → a ≡ b
int_same a b h = grind (arith, ints)

whole_stride : (ns strides : List ℤ) (k : ℕ) → nat_lt k (length ns) ≡ true → get_or (strides_of (whole ns) strides) k (pos 0) ≡ get_or strides k (pos 0)
whole_stride [] strides k h = absurd (none k h)
  where
    none : (k : ℕ) → nat_lt k 0 ≡ true → ⊥
    none k h = grind arith
whole_stride (n ∷ ns) [] k h = refl
whole_stride (n ∷ ns) (t ∷ strides) zero h = refl
whole_stride (n ∷ ns) (t ∷ strides) (suc k) h = whole_stride ns strides k (less k (length ns) h)
  where
    less : (k n : ℕ) → nat_lt (suc k) (suc n) ≡ true → nat_lt k n ≡ true
    less k n h = grind arith

numbers_length : (scene : Scene) (es : List Control) → length (numbers scene es) ≡ length es
numbers_length scene [] = refl
numbers_length scene (e ∷ es) = ap suc (numbers_length scene es)

-- ---- one call

module _ (w : Words) (fields : ℕ → Option Kind) (table : Extents) (scope : Scope) (s : State) (described : IsDescribed table scope s.scene) (sound : IsSound s) where
  abbrev NumberOf : Kind → Argument → ℤ → Type 0
  NumberOf = IsNumberOf w fields table scope s described sound

  abbrev For : ParamKind → Argument → Given → Type 0
  For = IsFor w fields table scope s described sound

  abbrev AllFor : List Param → List Argument → List Given → Type 0
  AllFor = AreFor w fields table scope s described sound

  -- ---- numbers

  abbrev IsBound : ParamKind → Argument → ℤ → Type 0
  IsBound (ControlParam kind) a n = NumberOf kind a n
  IsBound (TensorParam cell dims memory) a n = Unit {0}
  IsBound (WindowParam cell dims memory) a n = Unit {0}

  abbrev AreBound : List Param → List Argument → (ℕ → ℤ) → Type 0
  AreBound [] args c = Unit {0}
  AreBound (p ∷ ps) [] c = ⊥
  AreBound (p ∷ ps) (a ∷ args) c = IsBound p.kind a (c p.binder.id) × AreBound ps args c

  abbrev OneBound : ℕ → ParamKind → Argument → (ℕ → ℤ) → (ℕ → ℤ) → Type 0
  OneBound x kind a before c = ((y : ℕ) → (y == x) ≡ false → c y ≡ before y) × IsBound kind a (c x)

  abbrev AllBound : List Param → List Argument → (ℕ → ℤ) → (ℕ → ℤ) → Type 0
  AllBound ps args before c = ((x : ℕ) → is_buffer_of x ps ≡ false → c x ≡ before x) × AreBound ps args c

  one_bound : (x : ℕ) (kind : ParamKind) (a : Argument) (g : Given) (before : ℕ → ℤ) → For kind a g → Succeeds (bind_number x kind g before) (OneBound x kind a before)
  one_bound x (ControlParam kind) a (GivenNumber n) before k =
      succeeds_where (OneBound x (ControlParam kind) a before) (suits kind n) (Some (updated before x n)) k.1
      (λ y h. ap (λ t. cond t n (before y)) h, subst (NumberOf kind a) (sym (ap (λ t. cond t n (before x)) (same_number x))) k.0)
  one_bound x (ControlParam kind) a (GivenView seen) before k = absurd k
  one_bound x (TensorParam cell dims memory) a g before k = (λ y h. refl, tt)
  one_bound x (WindowParam cell dims memory) a g before k = (λ y h. refl, tt)

  numbers_bound : (ps : List Param) (args : List Argument) (gs : List Given) (before : ℕ → ℤ) → Differ ps → AllFor ps args gs → Succeeds (bind_numbers ps gs before) (AllBound ps args before)
  numbers_bound [] [] [] before d k = (λ x h. refl, tt)
  numbers_bound [] [] (g ∷ gs) before d k = absurd k
  numbers_bound [] (a ∷ args) gs before d k = absurd k
  numbers_bound (p ∷ ps) [] gs before d k = absurd k
  numbers_bound (p ∷ ps) (a ∷ args) [] before d k = absurd k
  numbers_bound (p ∷ ps) (a ∷ args) (g ∷ gs) before d k =
      succeeds_then (OneBound p.binder.id p.kind a before) (AllBound (p ∷ ps) (a ∷ args) before) (bind_number p.binder.id p.kind g before) (bind_numbers ps gs) (one_bound p.binder.id p.kind a g before k.0) (λ c j.
      succeeds_as (AllBound ps args c) (AllBound (p ∷ ps) (a ∷ args) before) (bind_numbers ps gs c) (numbers_bound ps args gs c d.1 k.1) (λ e u l.
      (λ x h. let q = or_parts (x == p.binder.id) (is_buffer_of x ps) h in l.0 x q.1 ∙ j.0 x q.0, (subst (IsBound p.kind a) (sym (l.0 p.binder.id d.0)) j.1, l.1))))

  module _ (memories : ℕ) (params : List Param) (args : List Argument) where
    -- ---- extents

    module _ (control : ℕ → ℤ) where
      -- the extents of what is given are the dimensions, by these control values
      abbrev IsSized : ParamKind → Given → Type 0
      IsSized (ControlParam kind) g = Unit {0}
      IsSized (TensorParam cell dims memory) (GivenNumber n) = ⊥
      IsSized (TensorParam cell dims memory) (GivenView seen) = ((scene : Scene) → scene.control ≡ control → numbers scene dims ≡ extents seen.sides) × (all_positive (extents seen.sides) ≡ true)
      IsSized (WindowParam cell dims memory) (GivenNumber n) = ⊥
      IsSized (WindowParam cell dims memory) (GivenView seen) = ((scene : Scene) → scene.control ≡ control → numbers scene dims ≡ extents seen.sides) × (all_positive (extents seen.sides) ≡ true)

      abbrev AreSized : List Param → List Given → Type 0
      AreSized [] gs = Unit {0}
      AreSized (p ∷ ps) [] = ⊥
      AreSized (p ∷ ps) (g ∷ gs) = IsSized p.kind g × AreSized ps gs

      abbrev first : Scene
      first = (bare control s.scene.fields).scene

      abbrev Plainly : Scope → Type 0
      Plainly = Covers fields plainly params args s.scene first

      equal_sizes : (es dims : List Control) → Hold s.scene (equal_extents w es (map (control_under params args) dims)) → length es ≡ length dims → numbers s.scene es ≡ numbers s.scene (map (control_under params args) dims)
      equal_sizes [] [] h e = refl
      equal_sizes [] (d ∷ dims) h e = absurd (omega arith)
      equal_sizes (x ∷ es) [] h e = absurd (omega arith)
      equal_sizes (x ∷ es) (d ∷ dims) h e = ap₂ (λ n ns. n ∷ ns) (int_same (number s.scene x) (number s.scene (control_under params args d)) h.0) (equal_sizes es dims h.1 (suc_same (length es) (length dims) e))

      dims_under : (inner : Scope) → Plainly inner → (dims : List Control) → are_controls fields plainly inner dims ≡ true → numbers s.scene (map (control_under params args) dims) ≡ numbers first dims
      dims_under inner c [] h = refl
      dims_under inner c (d ∷ dims) h =
          let p = and_parts (is_control fields plainly inner d) (are_controls fields plainly inner dims) h in
          ap₂ (λ n ns. n ∷ ns) (number_under fields plainly params args s.scene first inner c d p.0) (dims_under inner c dims p.1)

      sized : (inner : Scope) → Plainly inner → (dims : List Control) (a : Argument) (seen : Seen) → are_controls fields plainly inner dims ≡ true → IsView w fields table scope s described sound (length dims) a seen → Hold s.scene (equal_extents w (argument_extents w table a) (map (control_under params args) dims)) → ((scene : Scene) → scene.control ≡ control → numbers scene dims ≡ extents seen.sides) × (all_positive (extents seen.sides) ≡ true)
      sized inner c dims a seen h v m = (
        λ scene e.
            controls_depend fields inner dims h scene first (λ y k. ap (λ f. f y) e)
            ∙ sym (dims_under inner c dims h)
            ∙ sym (equal_sizes (argument_extents w table a) dims m v.rank_is)
            ∙ sym v.extents_are,
        v.positive,
      )

      one_sized : (inner : Scope) → Plainly inner → (kind : ParamKind) (a : Argument) (g : Given) → is_param_kind fields memories inner kind ≡ true → For kind a g → Hold s.scene (equal_extents w (argument_extents w table a) (map (control_under params args) (dims_of kind))) → IsSized kind g
      one_sized inner c (ControlParam kind) a g h k m = tt
      one_sized inner c (TensorParam cell dims memory) a (GivenNumber n) h k m = absurd k
      one_sized inner c (TensorParam cell dims memory) a (GivenView seen) h k m = sized inner c dims a seen (and_parts (are_controls fields plainly inner dims) _ h).0 k m
      one_sized inner c (WindowParam cell dims memory) a (GivenNumber n) h k m = absurd k
      one_sized inner c (WindowParam cell dims memory) a (GivenView seen) h k m = sized inner c dims a seen (and_parts (are_controls fields plainly inner dims) _ h).0 k m

      told_plainly : (kind : ParamKind) (a : Argument) (x : ℕ) → IsBound kind a (control x) → Told fields plainly params args s.scene first kind a x
      told_plainly (ControlParam kind) (ControlArg e) x k = k
      told_plainly (ControlParam kind) (ConditionArg c) x k = k
      told_plainly (ControlParam kind) (Whole y) x k = absurd k
      told_plainly (ControlParam kind) (Window y cs) x k = absurd k
      told_plainly (TensorParam cell dims memory) a x k = λ m. no_test m
      told_plainly (WindowParam cell dims memory) a x k = λ m. no_test m

      pub all_sized : (ps : List Param) (rest : List Argument) (gs : List Given) (inner : Scope) → Plainly inner → are_params fields memories inner ps ≡ true → Passed params args ps rest → AreBound ps rest control → AllFor ps rest gs → Hold s.scene (flat_zip (passed_extents w table params args) ps rest) → AreSized ps gs
      all_sized [] rest gs inner c h passed bound k m = tt
      all_sized (p ∷ ps) [] gs inner c h passed bound k m = absurd k
      all_sized (p ∷ ps) (a ∷ rest) [] inner c h passed bound k m = absurd k
      all_sized (p ∷ ps) (a ∷ rest) (g ∷ gs) inner c h passed bound k m =
          let q = and_parts (is_new inner p.binder) (is_param_kind fields memories inner p.kind && are_params fields memories (with_name inner p.binder (param_sort p.kind)) ps) h in
          let r = and_parts (is_param_kind fields memories inner p.kind) (are_params fields memories (with_name inner p.binder (param_sort p.kind)) ps) q.1 in
          let own = passed_extents w table params args p a in
          let others = flat_zip (passed_extents w table params args) ps rest in (
            one_sized inner c p.kind a g r.0 k.0 (each_left (IsHeld s.scene) own others m),
            all_sized ps rest gs (with_name inner p.binder (param_sort p.kind)) (covers_more fields plainly params args s.scene first inner p a c passed.0 (told_plainly p.kind a p.binder.id bound.0)) r.1 passed.1 bound.1 k.1 (each_right (IsHeld s.scene) own others m),
          )

      -- ---- buffers

      -- a fresh buffer, seen whole, with the strides of what is given
      pub record IsCopy (scene : Scene) (x rank : ℕ) (seen : Seen) : Type 0 where
        pub shape : Shape
        pub buffer_is : scene.buffers x ≡ Some shape
        pub view_is : scene.views x ≡ Some (record { buffer = x; sides = whole shape.dims })
        pub strides_are : shape.strides ≡ strides_seen s.scene seen
        pub rank_is : length shape.dims ≡ rank

      abbrev IsMade : Scene → ℕ → ParamKind → Given → Type 0
      IsMade scene x (ControlParam kind) g = Unit {0}
      IsMade scene x (TensorParam cell dims memory) (GivenNumber n) = ⊥
      IsMade scene x (TensorParam cell dims memory) (GivenView seen) = IsCopy scene x (length dims) seen
      IsMade scene x (WindowParam cell dims memory) (GivenNumber n) = ⊥
      IsMade scene x (WindowParam cell dims memory) (GivenView seen) = IsCopy scene x (length dims) seen

      abbrev AreMade : Scene → List Param → List Given → Type 0
      AreMade scene [] gs = Unit {0}
      AreMade scene (p ∷ ps) [] = ⊥
      AreMade scene (p ∷ ps) (g ∷ gs) = IsMade scene p.binder.id p.kind g × AreMade scene ps gs

      pub record Leaves (Same : ℕ → Type 0) (t z : State) : Type 0 where
        pub control_is : z.scene.control ≡ t.scene.control
        pub fields_are : z.scene.fields ≡ t.scene.fields
        pub buffers : (x : ℕ) → Same x → z.scene.buffers x ≡ t.scene.buffers x
        pub views : (x : ℕ) → Same x → z.scene.views x ≡ t.scene.views x

      abbrev OneMade : ℕ → ParamKind → Given → State → State → Type 0
      OneMade x kind g t z = Leaves (λ y. (y == x) ≡ false) t z × IsMade z.scene x kind g

      abbrev AllMade : List Param → List Given → State → State → Type 0
      AllMade ps gs t z = Leaves (λ y. is_buffer_of y ps ≡ false) t z × AreMade z.scene ps gs

      abbrev Copied : ℕ → ℕ → Seen → State → State → Type 0
      Copied x rank seen t z = Leaves (λ y. (y == x) ≡ false) t z × IsCopy z.scene x rank seen

      copied : (x : ℕ) (cell : Cell) (dims : List Control) (seen : Seen) (t : State) → t.scene.control ≡ control → ((scene : Scene) → scene.control ≡ control → numbers scene dims ≡ extents seen.sides) → all_positive (extents seen.sides) ≡ true → Succeeds (copy_in s x cell (numbers t.scene dims) (GivenView seen) t) (Copied x (length dims) seen t)
      copied x cell dims seen t e same positive =
          let ns = numbers t.scene dims in
          let is = same t.scene e in
          let shape : Shape = record { cell = cell; dims = ns; strides = strides_seen s.scene seen } in
          succeeds_where (Copied x (length dims) seen t) (same_index ns (extents seen.sides) && all_positive ns) (Some (with_contents x (contents s.cells seen) (on_scene (with_buffer x shape) t)))
          (and_true (same_index ns (extents seen.sides)) (all_positive ns) ((signed_items ns (extents seen.sides)).1 is) (ap all_positive is ∙ positive)) (
            record {
              control_is = refl;
              fields_are = refl;
              buffers = λ y h. ap (λ b. cond b (Some shape) (t.scene.buffers y)) h;
              views = λ y h. ap (λ b. cond b (Some (record { buffer = x; sides = whole ns })) (t.scene.views y)) h;
            },
            record {
              shape = shape;
              buffer_is = ap (λ b. cond b (Some shape) (t.scene.buffers x)) (same_number x);
              view_is = ap (λ b. cond b (Some (record { buffer = x; sides = whole ns })) (t.scene.views x)) (same_number x);
              strides_are = refl;
              rank_is = numbers_length t.scene dims;
            },
          )

      one_made : (x : ℕ) (kind : ParamKind) (g : Given) (t : State) → t.scene.control ≡ control → IsSized kind g → Succeeds (bind_buffer s x kind g t) (OneMade x kind g t)
      one_made x (ControlParam kind) g t e k = (record { control_is = refl; fields_are = refl; buffers = λ y h. refl; views = λ y h. refl }, tt)
      one_made x (TensorParam cell dims memory) (GivenNumber n) t e k = absurd k
      one_made x (TensorParam cell dims memory) (GivenView seen) t e k = copied x cell dims seen t e k.0 k.1
      one_made x (WindowParam cell dims memory) (GivenNumber n) t e k = absurd k
      one_made x (WindowParam cell dims memory) (GivenView seen) t e k = copied x cell dims seen t e k.0 k.1

      copy_stays : (a b : Scene) (x rank : ℕ) (seen : Seen) → b.buffers x ≡ a.buffers x → b.views x ≡ a.views x → IsCopy a x rank seen → IsCopy b x rank seen
      copy_stays a b x rank seen e h k = record { shape = k.shape; buffer_is = e ∙ k.buffer_is; view_is = h ∙ k.view_is; strides_are = k.strides_are; rank_is = k.rank_is }

      made_stays : (a b : Scene) (x : ℕ) (kind : ParamKind) (g : Given) → b.buffers x ≡ a.buffers x → b.views x ≡ a.views x → IsMade a x kind g → IsMade b x kind g
      made_stays a b x (ControlParam kind) g e h k = tt
      made_stays a b x (TensorParam cell dims memory) (GivenNumber n) e h k = absurd k
      made_stays a b x (TensorParam cell dims memory) (GivenView seen) e h k = copy_stays a b x (length dims) seen e h k
      made_stays a b x (WindowParam cell dims memory) (GivenNumber n) e h k = absurd k
      made_stays a b x (WindowParam cell dims memory) (GivenView seen) e h k = copy_stays a b x (length dims) seen e h k

      all_made : (ps : List Param) (gs : List Given) (t : State) → Differ ps → t.scene.control ≡ control → AreSized ps gs → Succeeds (bind_buffers s ps gs t) (AllMade ps gs t)
      all_made [] gs t d e k = (record { control_is = refl; fields_are = refl; buffers = λ y h. refl; views = λ y h. refl }, tt)
      all_made (p ∷ ps) [] t d e k = absurd k
      all_made (p ∷ ps) (g ∷ gs) t d e k =
          succeeds_then (OneMade p.binder.id p.kind g t) (AllMade (p ∷ ps) (g ∷ gs) t) (bind_buffer s p.binder.id p.kind g t) (bind_buffers s ps gs) (one_made p.binder.id p.kind g t e k.0) (λ z j.
          succeeds_as (AllMade ps gs z) (AllMade (p ∷ ps) (g ∷ gs) t) (bind_buffers s ps gs z) (all_made ps gs z d.1 (j.0.control_is ∙ e) k.1) (λ y u l. (
            record {
              control_is = l.0.control_is ∙ j.0.control_is;
              fields_are = l.0.fields_are ∙ j.0.fields_are;
              buffers = λ x h. let q = or_parts (x == p.binder.id) (is_buffer_of x ps) h in l.0.buffers x q.1 ∙ j.0.buffers x q.0;
              views = λ x h. let q = or_parts (x == p.binder.id) (is_buffer_of x ps) h in l.0.views x q.1 ∙ j.0.views x q.0;
            },
            (made_stays z.scene y.scene p.binder.id p.kind g (l.0.buffers p.binder.id d.0) (l.0.views p.binder.id d.0) j.1, l.1),
          )))

      -- ---- all parameters

      copy_stride : (scene : Scene) (x rank : ℕ) (seen : Seen) → IsCopy scene x rank seen → (k : ℕ) → nat_lt k rank ≡ true → stride_at scene (scene.views x) k ≡ get_or (strides_seen s.scene seen) k (pos 0)
      copy_stride scene x rank seen c k h =
          ap (λ o. stride_at scene o k) c.view_is
          ∙ ap (λ (o : Option Shape). get_or (elim o [ None ↦ [] | Some shape ↦ strides_of (whole c.shape.dims) shape.strides ]) k (pos 0)) c.buffer_is
          ∙ whole_stride c.shape.dims c.shape.strides k (subst (λ n. nat_lt k n ≡ true) (sym c.rank_is) h)
          ∙ ap (λ (l : List ℤ). get_or l k (pos 0)) c.strides_are

      module _ (inner : State) (control_is : inner.scene.control ≡ control) where
        told : (kind : ParamKind) (a : Argument) (g : Given) (x : ℕ) → IsBound kind a (control x) → For kind a g → IsMade inner.scene x kind g → Told fields with_both params args s.scene inner.scene kind a x
        told (ControlParam kind) (ControlArg e) g x b k m = (b.0, b.1 ∙ ap (λ f. f x) (sym control_is))
        told (ControlParam kind) (ConditionArg c) g x b k m = (b.0, b.1 ∙ ap (λ f. f x) (sym control_is))
        told (ControlParam kind) (Whole y) g x b k m = absurd b
        told (ControlParam kind) (Window y cs) g x b k m = absurd b
        told (TensorParam cell dims memory) a (GivenNumber n) x b k m = absurd k
        told (TensorParam cell dims memory) a (GivenView seen) x b k m = λ u j h. k.strides x j h ∙ sym (copy_stride inner.scene x (length dims) seen m j h)
        told (WindowParam cell dims memory) a (GivenNumber n) x b k m = absurd k
        told (WindowParam cell dims memory) a (GivenView seen) x b k m = λ u j h. k.strides x j h ∙ sym (copy_stride inner.scene x (length dims) seen m j h)

        all_covered : (ps : List Param) (rest : List Argument) (gs : List Given) (names : Scope) → Covers fields with_both params args s.scene inner.scene names → Passed params args ps rest → AreBound ps rest control → AllFor ps rest gs → AreMade inner.scene ps gs → Covers fields with_both params args s.scene inner.scene (scope_of names ps)
        all_covered [] rest gs names c passed b k m = c
        all_covered (p ∷ ps) [] gs names c passed b k m = absurd k
        all_covered (p ∷ ps) (a ∷ rest) [] names c passed b k m = absurd k
        all_covered (p ∷ ps) (a ∷ rest) (g ∷ gs) names c passed b k m =
            all_covered ps rest gs (with_name names p.binder (param_sort p.kind)) (covers_more fields with_both params args s.scene inner.scene names p a c passed.0 (told p.kind a g p.binder.id b.0 k.0 m.0)) passed.1 b.1 k.1 m.1

  -- where the claims hold, the callee's first state is there, and what is passed has its values in it
  pub enters : (memories : ℕ) (ps : List Param) (args : List Argument) (gs : List Given) → are_params fields memories [] ps ≡ true → are_for fields scope ps args ≡ true → AllFor ps args gs → Hold s.scene (flat_zip (passed_extents w table ps args) ps args) → Succeeds (entered ps gs s) (λ inner. Covers fields with_both ps args s.scene inner.scene (scope_of [] ps))
  enters memories ps args gs h f k m =
      let differ = params_differ fields memories ps [] h in
      let passed = all_passed fields scope ps args f differ in
      succeeds_then (AllBound ps args (λ x. pos 0)) (λ inner. Covers fields with_both ps args s.scene inner.scene (scope_of [] ps)) (bind_numbers ps gs (λ x. pos 0)) (λ c. bind_buffers s ps gs (bare c s.scene.fields)) (numbers_bound ps args gs (λ x. pos 0) differ k) (λ c b.
      succeeds_as (AllMade memories ps args c ps gs (bare c s.scene.fields)) (λ inner. Covers fields with_both ps args s.scene inner.scene (scope_of [] ps)) (bind_buffers s ps gs (bare c s.scene.fields))
      (all_made memories ps args c ps gs (bare c s.scene.fields) differ refl (all_sized memories ps args c ps args gs [] (covers_nothing fields plainly ps args s.scene (bare c s.scene.fields).scene refl) h passed b.1 k m))
      (λ inner u l. all_covered memories ps args c inner l.0.control_is ps args gs [] (covers_nothing fields with_both ps args s.scene inner.scene (sym l.0.fields_are)) passed b.1 k l.1))

-- the callee's assertions hold in it
module _ (fields : ℕ → Option Kind) (w : Words) (params : List Param) (args : List Argument) (outer inner : Scene) (scope : Scope) (covers : Covers fields with_both params args outer inner scope) where
  pub asserts_hold : (cs : List Condition) → list_all (is_condition fields with_both scope) cs ≡ true → Hold outer (map (asserted w params args) cs) → all_hold inner cs ≡ true
  asserts_hold [] h m = refl
  asserts_hold (c ∷ cs) h m =
      let p = and_parts (is_condition fields with_both scope c) (list_all (is_condition fields with_both scope) cs) h in
      and_true (holds inner c) (all_hold inner cs) (sym (condition_same fields with_both params args outer inner scope covers c p.0) ∙ m.0) (asserts_hold cs p.1 m.1)
