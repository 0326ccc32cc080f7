-- The callee's first state is an admissible input.
use Rattle.std.proofs.Common.{◌≡◌, ℕ, suc, ℤ, pos, neg_ℤ, ◌+ℤ◌, ◌-ℤ◌, ◌*ℤ◌, ◌≤ℤ◌, ◌==◌, int_le, Bool, true, false, true≢false, cond, not, ◌&&◌, ◌||◌, List, [], ◌∷◌, length, Option, Some, None, IfSome, option_map, arith, refl, sym, ap, ap₂, ◌∙◌, subst, eqb-true, eq-eqb}
use Rattle.std.specs.Prelude.{IsSome}
use Rattle.std.specs.List.{list_any}
use Rattle.std.specs.Int.{int_div_euclid, int_rem_euclid}
use Rattle.std.specs.Cmp.Rules.{signed_items}
use Rattle.std.proofs.lemmas.Int.{ints}
use Rattle.exo_tree.specs.Cells.{same_cell_is}
use Rattle.exo_tree.specs.Tree.{Binder, Cell, Kind, Size, Index, Truth, Stride, Control, Lit, Var, Field, StrideOf, Neg, Add, Sub, Mul, Div, Mod, Coord, Argument, ControlArg, ConditionArg, Whole, Window, Param, ParamKind, ControlParam, TensorParam, WindowParam, Procedure}
use Rattle.exo_meaning.specs.Value.{Value, Undefined}
use Rattle.exo_meaning.specs.Scene.{Shape, Side, Point, Range, Seen, Scene, where_true, number, numbers, holds, window, narrowed, whole, extents, strides_of, strides_seen, updated, cell_at}
use Rattle.exo_meaning.specs.State.{State, same_index, with_buffer, with_contents, on_scene}
use Rattle.exo_meaning.specs.Calls.{Given, GivenNumber, GivenView, given, all_given, truth, suits, bind_number, bind_numbers, bind_buffer, bind_buffers, contents, held_at, all_positive, all_hold, bare, entered}
use Rattle.exo_meaning.specs.Run.{World, argument_number, row_major, product}
use Rattle.exo_meaning.specs.Footprint.{IsTidy}
use Rattle.exo_meaning.specs.Inputs.{IsAdmissible, IsOfKind, FitsCell, IsBuffer, IsArgument, AreArguments, is_buffer_of}
use Rattle.exo_meaning.specs.Units.{Sort, ControlName, BufferName, Named, Scope, sort_in, is_text, is_new, with_name, same_cell, has_rank, has_cell, is_dense, Reads, plainly, with_both, is_control, are_controls, is_of_kind, is_window, is_for, are_for, param_sort, is_param_kind, are_params, field_kind}
use Rattle.exo_meaning.proofs.Frame.{if_then, if_map, if_where, any, if_weaken, or_parts, updated_other, here}
use Rattle.meaning_laws.specs.Sound.{IsSound}
use Rattle.meaning_laws.specs.Sorted.{CellsFit, IsSorted, FirstStateLaw}
use Rattle.meaning_laws.proofs.Parts.{none_some, some_injective, then_gives, map_gives}
use Rattle.meaning_laws.proofs.Names.{if_gives}
use Rattle.meaning_laws.proofs.Sound.{IsThere, AreThere, all_there}
use Rattle.meaning_laws.proofs.Substitute.{and_parts}

-- ---- tests

pub not_true : (a : Bool) → not a ≡ true → a ≡ false
not_true true h = absurd (true≢false (sym h))
not_true false h = refl

-- what is new is not in scope
pub new_is_none : (scope : Scope) (x : Binder) → is_new scope x ≡ true → sort_in scope x.id ≡ None
new_is_none [] x h = refl
new_is_none (n ∷ scope) x h =
    let test = λ (m : Named). (x.id == m.binder.id) || is_text x.name m.binder.name in
    let p = or_parts (test n) (list_any test scope) (not_true (test n || list_any test scope) h) in
    let q = or_parts (x.id == n.binder.id) (is_text x.name n.binder.name) p.0 in
    ap (λ t. cond t (Some n.sort) (sort_in scope x.id)) q.0 ∙ new_is_none scope x (ap not p.1)

-- parameters have different ids
abbrev pub Differ : List Param → Type 0
Differ [] = Unit {0}
Differ (p ∷ ps) = (is_buffer_of p.binder.id ps ≡ false) × Differ ps

some_is : {A : Type 0} (o : Option A) → IsSome o → o ≡ None → ⊥
some_is None h e = absurd (true≢false (sym h))
some_is (Some a) h e = none_some (sym e)

module _ (fields : ℕ → Option Kind) (memories : ℕ) where
  later_differ : (ps : List Param) (scope : Scope) → are_params fields memories scope ps ≡ true → (x : ℕ) → IsSome (sort_in scope x) → is_buffer_of x ps ≡ false
  later_differ [] scope h x k = refl
  later_differ (p ∷ ps) scope h x k =
      let q = and_parts (is_new scope p.binder) (is_param_kind fields memories scope p.kind && are_params fields memories (with_name scope p.binder (param_sort p.kind)) ps) h in
      let r = and_parts (is_param_kind fields memories scope p.kind) (are_params fields memories (with_name scope p.binder (param_sort p.kind)) ps) q.1 in
      go (later_differ ps (with_name scope p.binder (param_sort p.kind)) r.1 x) (x == p.binder.id) (eqb-true x p.binder.id) q.0 refl
    where
      go : (IsSome (cond (x == p.binder.id) (Some (param_sort p.kind)) (sort_in scope x)) → is_buffer_of x ps ≡ false) → (t : Bool) → (t ≡ true → x ≡ p.binder.id) → is_new scope p.binder ≡ true → (x == p.binder.id) ≡ t → (t || is_buffer_of x ps) ≡ false
      go below true same new e = absurd (some_is (sort_in scope x) k (ap (sort_in scope) (same refl) ∙ new_is_none scope p.binder new))
      go below false same new e = below (subst (λ t. IsSome (cond t (Some (param_sort p.kind)) (sort_in scope x))) (sym e) k)

  pub params_differ : (ps : List Param) (scope : Scope) → are_params fields memories scope ps ≡ true → Differ ps
  params_differ [] scope h = tt
  params_differ (p ∷ ps) scope h =
      let q = and_parts (is_new scope p.binder) (is_param_kind fields memories scope p.kind && are_params fields memories (with_name scope p.binder (param_sort p.kind)) ps) h in
      let r = and_parts (is_param_kind fields memories scope p.kind) (are_params fields memories (with_name scope p.binder (param_sort p.kind)) ps) q.1 in
      (later_differ ps (with_name scope p.binder (param_sort p.kind)) r.1 p.binder.id (subst (λ t. IsSome (cond t (Some (param_sort p.kind)) (sort_in scope p.binder.id))) (sym (eq-eqb p.binder.id p.binder.id refl)) refl), params_differ ps (with_name scope p.binder (param_sort p.kind)) r.1)

-- ---- expressions that depend on control values alone

module _ (fields : ℕ → Option Kind) (scope : Scope) (a b : Scene) (same : a.control ≡ b.control) where
  number_plain : (e : Control) → is_control fields plainly scope e ≡ true → number a e ≡ number b e
  number_plain (Lit n) h = refl
  number_plain (Var x) h = ap (λ f. f x) same
  number_plain (Field f) h = absurd (true≢false (sym h))
  number_plain (StrideOf x k) h = absurd (true≢false (sym h))
  number_plain (Neg e) h = ap neg_ℤ (number_plain e h)
  number_plain (Add d e) h = let p = and_parts (is_control fields plainly scope d) (is_control fields plainly scope e) h in ap₂ ◌+ℤ◌ (number_plain d p.0) (number_plain e p.1)
  number_plain (Sub d e) h = let p = and_parts (is_control fields plainly scope d) (is_control fields plainly scope e) h in ap₂ ◌-ℤ◌ (number_plain d p.0) (number_plain e p.1)
  number_plain (Mul d e) h =
      let q = and_parts (is_control fields plainly scope d && is_control fields plainly scope e) _ h in
      let p = and_parts (is_control fields plainly scope d) (is_control fields plainly scope e) q.0 in
      ap₂ ◌*ℤ◌ (number_plain d p.0) (number_plain e p.1)
  number_plain (Div e c) h = let p = and_parts (is_control fields plainly scope e) _ h in ap (λ n. int_div_euclid n c) (number_plain e p.0)
  number_plain (Mod e c) h = let p = and_parts (is_control fields plainly scope e) _ h in ap (λ n. int_rem_euclid n c) (number_plain e p.0)

  numbers_plain : (es : List Control) → are_controls fields plainly scope es ≡ true → numbers a es ≡ numbers b es
  numbers_plain [] h = refl
  numbers_plain (e ∷ es) h = let p = and_parts (is_control fields plainly scope e) (are_controls fields plainly scope es) h in ap₂ (λ n ns. n ∷ ns) (number_plain e p.0) (numbers_plain es p.1)

numbers_length : (scene : Scene) (es : List Control) → length (numbers scene es) ≡ length es
numbers_length scene [] = refl
numbers_length scene (e ∷ es) = ap suc (numbers_length scene es)

-- ---- strides

no_strides : (sides : List Side) (strides : List ℤ) → extents sides ≡ [] → strides_of sides strides ≡ []
no_strides [] strides h = refl
no_strides (Point p ∷ sides) [] h = refl
no_strides (Point p ∷ sides) (t ∷ strides) h = no_strides sides strides h
no_strides (Range lo n ∷ sides) strides h = absurd (cons_none h)
  where
    cons_none : {x : ℤ} {xs : List ℤ} → x ∷ xs ≡ [] → ⊥
    cons_none e = cc

whole_strides : (dims : List ℤ) → strides_of (whole dims) (row_major dims) ≡ row_major dims
whole_strides [] = refl
whole_strides (d ∷ dims) = ap (λ l. product dims ∷ l) (whole_strides dims)

whole_extents : (dims : List ℤ) → extents (whole dims) ≡ dims
whole_extents [] = refl
whole_extents (d ∷ dims) = ap (λ l. d ∷ l) (whole_extents dims)

none_long : (ds : List ℤ) → length ds ≡ 0 → ds ≡ []
none_long [] h = refl
none_long (d ∷ ds) h = absurd (no h)
  where
    no : suc (length ds) ≡ 0 → ⊥
    no e = omega arith

same_index_is : (ds es : List ℤ) → same_index ds es ≡ true → ds ≡ es
same_index_is ds es h = (signed_items ds es).0 h

-- ---- what an argument gives

le_is : (a b : ℤ) → int_le a b ≡ true → a ≤ℤ b
le_is a b h = grind (arith, ints)

pub truth_fits : (t : Bool) → IsOfKind Truth (truth t)
truth_fits true = (omega (arith, ints), omega (arith, ints))
truth_fits false = (omega (arith, ints), omega (arith, ints))

module _ (fields : ℕ → Option Kind) where
  pub number_of_kind : (may : Reads) (scope : Scope) (scene : Scene) (kind : Kind) (a : Argument) (n : ℤ) → is_of_kind fields may scope kind a ≡ true → argument_number scene a ≡ Some n → suits kind n ≡ true → IsOfKind kind n
  number_of_kind may scope scene Size (ControlArg e) n h k u = le_is (pos 1) n u
  number_of_kind may scope scene Index (ControlArg e) n h k u = tt
  number_of_kind may scope scene Truth (ControlArg e) n h k u = absurd (true≢false (sym h))
  number_of_kind may scope scene Stride (ControlArg e) n h k u = tt
  number_of_kind may scope scene Size (ConditionArg c) n h k u = absurd (true≢false (sym h))
  number_of_kind may scope scene Index (ConditionArg c) n h k u = tt
  number_of_kind may scope scene Truth (ConditionArg c) n h k u = subst (IsOfKind Truth) (some_injective (truth (holds scene c)) n k) (truth_fits (holds scene c))
  number_of_kind may scope scene Stride (ConditionArg c) n h k u = tt
  number_of_kind may scope scene kind (Whole x) n h k u = absurd (none_some k)
  number_of_kind may scope scene kind (Window x coords) n h k u = absurd (none_some k)

  module _ (kinds : ℕ → Kind) (scope : Scope) (s : State) (sorted : IsSorted kinds scope s) where
    -- a window of that cell type
    abbrev pub HasType : Cell → Seen → Type 0
    HasType cell z = (shape : Shape) → s.scene.buffers z.buffer ≡ Some shape → cell ≡ shape.cell

    abbrev pub IsRowMajor : ℕ → Seen → Type 0
    IsRowMajor rank z = (shape : Shape) → s.scene.buffers z.buffer ≡ Some shape → (ds : List ℤ) → length ds ≡ rank → extents z.sides ≡ ds → strides_of z.sides shape.strides ≡ row_major ds

    abbrev pub Matches : ParamKind → Given → Type 0
    Matches (ControlParam kind) (GivenNumber n) = suits kind n ≡ true → IsOfKind kind n
    Matches (ControlParam kind) (GivenView z) = ⊥
    Matches (TensorParam cell dims memory) (GivenNumber n) = ⊥
    Matches (TensorParam cell dims memory) (GivenView z) = HasType cell z × IsRowMajor (length dims) z
    Matches (WindowParam cell dims memory) (GivenNumber n) = ⊥
    Matches (WindowParam cell dims memory) (GivenView z) = HasType cell z

    abbrev pub AllMatch : List Param → List Given → Type 0
    AllMatch [] gs = Unit {0}
    AllMatch (p ∷ ps) [] = ⊥
    AllMatch (p ∷ ps) (g ∷ gs) = Matches p.kind g × AllMatch ps gs

    seen_type : (x : ℕ) (cell : Cell) → has_cell cell (sort_in scope x) ≡ true → (z : Seen) → s.scene.views x ≡ Some z → HasType cell z
    seen_type x cell h z v shape b = go (sort_in scope x) refl h
      where
        go : (o : Option Sort) → sort_in scope x ≡ o → has_cell cell o ≡ true → cell ≡ shape.cell
        go None e h = absurd (true≢false (sym h))
        go (Some (ControlName kind)) e h = absurd (true≢false (sym h))
        go (Some (BufferName c rank dense)) e h = same_cell_is cell c h ∙ (sorted.views x c rank dense z e v shape b).cell_is

    seen_dense : (x : ℕ) → is_dense (sort_in scope x) ≡ true → (z : Seen) → s.scene.views x ≡ Some z → (rank : ℕ) → IsRowMajor rank z
    seen_dense x h z v rank shape b ds l e = go (sort_in scope x) refl h
      where
        go : (o : Option Sort) → sort_in scope x ≡ o → is_dense o ≡ true → strides_of z.sides shape.strides ≡ row_major ds
        go None k h = absurd (true≢false (sym h))
        go (Some (ControlName kind)) k h = absurd (true≢false (sym h))
        go (Some (BufferName c r dense)) k h =
            let w = (sorted.views x c r dense z k v shape b).all h in
            ap₂ strides_of w.0 w.1 ∙ whole_strides shape.dims ∙ ap row_major (sym (whole_extents shape.dims) ∙ ap extents (sym w.0) ∙ e)

    single : (rank : ℕ) (z : Seen) → rank ≡ 0 → IsRowMajor rank z
    single rank z h shape b ds l e =
        let none = none_long ds (l ∙ h) in
        no_strides z.sides shape.strides (e ∙ none) ∙ ap row_major (sym none)

    -- the buffer of a window is that of its name
    window_type : (x : ℕ) (coords : List Coord) (cell : Cell) → has_cell cell (sort_in scope x) ≡ true → (z : Seen) → window s.scene x coords ≡ Some z → HasType cell z
    window_type x coords cell h z w shape b =
        let p = then_gives (s.scene.views x) (λ seen. option_map (λ sides. record { buffer = seen.buffer; sides = sides }) (narrowed s.scene seen.sides coords)) z w in
        let q = map_gives (narrowed s.scene p.0.sides coords) (λ sides. record { buffer = p.0.buffer; sides = sides }) z p.2 in
        seen_type x cell h p.0 p.1 shape (ap (λ (y : Seen). s.scene.buffers y.buffer) q.2 ∙ b)

    tensor_whole : (x rank : ℕ) (z : Seen) → s.scene.views x ≡ Some z → (t : Bool) → (rank == 0) ≡ t → (t || is_dense (sort_in scope x)) ≡ true → IsRowMajor rank z
    tensor_whole x rank z v true e h = single rank z (eqb-true rank 0 e)
    tensor_whole x rank z v false e h = seen_dense x h z v rank

    given_matches : (kind : ParamKind) (a : Argument) → is_for fields scope kind a ≡ true → IfSome (given s.scene a) (Matches kind)
    given_matches (ControlParam kind) (ControlArg e) h = λ u. number_of_kind with_both scope s.scene kind (ControlArg e) (number s.scene e) h refl u
    given_matches (ControlParam kind) (ConditionArg c) h = λ u. number_of_kind with_both scope s.scene kind (ConditionArg c) (truth (holds s.scene c)) h refl u
    given_matches (ControlParam kind) (Whole x) h = absurd (true≢false (sym h))
    given_matches (ControlParam kind) (Window x coords) h = absurd (true≢false (sym h))
    given_matches (TensorParam cell dims memory) (ControlArg e) h = absurd (true≢false (sym h))
    given_matches (TensorParam cell dims memory) (ConditionArg c) h = absurd (true≢false (sym h))
    given_matches (TensorParam cell dims memory) (Whole x) h =
        let p = and_parts (has_cell cell (sort_in scope x)) _ h in
        let q = and_parts (has_rank (length dims) (sort_in scope x)) _ p.1 in
        if_map (λ z. s.scene.views x ≡ Some z) (Matches (TensorParam cell dims memory)) (s.scene.views x) GivenView (here (s.scene.views x)) (λ z v. (seen_type x cell p.0 z v, tensor_whole x (length dims) z v (length dims == 0) refl q.1))
    given_matches (TensorParam cell dims memory) (Window x coords) h =
        let p = and_parts (has_cell cell (sort_in scope x)) _ h in
        let q = and_parts (is_window fields scope x coords) _ p.1 in
        let r = and_parts (length dims == 0) _ q.1 in
        if_map (λ z. window s.scene x coords ≡ Some z) (Matches (TensorParam cell dims memory)) (window s.scene x coords) GivenView (here (window s.scene x coords)) (λ z w. (window_type x coords cell p.0 z w, single (length dims) z (eqb-true (length dims) 0 r.0)))
    given_matches (WindowParam cell dims memory) (ControlArg e) h = absurd (true≢false (sym h))
    given_matches (WindowParam cell dims memory) (ConditionArg c) h = absurd (true≢false (sym h))
    given_matches (WindowParam cell dims memory) (Whole x) h =
        let p = and_parts (has_cell cell (sort_in scope x)) _ h in
        if_map (λ z. s.scene.views x ≡ Some z) (Matches (WindowParam cell dims memory)) (s.scene.views x) GivenView (here (s.scene.views x)) (λ z v. seen_type x cell p.0 z v)
    given_matches (WindowParam cell dims memory) (Window x coords) h =
        let p = and_parts (has_cell cell (sort_in scope x)) _ h in
        if_map (λ z. window s.scene x coords ≡ Some z) (Matches (WindowParam cell dims memory)) (window s.scene x coords) GivenView (here (window s.scene x coords)) (λ z w. window_type x coords cell p.0 z w)

    pub all_match : (ps : List Param) (args : List Argument) → are_for fields scope ps args ≡ true → IfSome (all_given s.scene args) (AllMatch ps)
    all_match [] args h = if_weaken (λ gs. Unit {0}) (λ gs. Unit {0}) (all_given s.scene args) (any (all_given s.scene args)) (λ gs u. tt)
    all_match (p ∷ ps) [] h = absurd (true≢false (sym h))
    all_match (p ∷ ps) (a ∷ args) h =
        let q = and_parts (is_for fields scope p.kind a) (are_for fields scope ps args) h in
        if_then (Matches p.kind) (AllMatch (p ∷ ps)) (given s.scene a) _ (given_matches p.kind a q.0) (λ g k. if_map (AllMatch ps) (AllMatch (p ∷ ps)) (all_given s.scene args) (λ gs. g ∷ gs) (all_match ps args q.1) (λ gs l. (k, l)))

    -- ---- the numbers

    abbrev OfKind : ParamKind → ℤ → Type 0
    OfKind (ControlParam kind) n = IsOfKind kind n
    OfKind (TensorParam cell dims memory) n = Unit {0}
    OfKind (WindowParam cell dims memory) n = Unit {0}

    abbrev OfKinds : List Param → (ℕ → ℤ) → Type 0
    OfKinds [] c = Unit {0}
    OfKinds (p ∷ ps) c = OfKind p.kind (c p.binder.id) × OfKinds ps c

    abbrev Numbers : List Param → (ℕ → ℤ) → (ℕ → ℤ) → Type 0
    Numbers ps before c = ((x : ℕ) → is_buffer_of x ps ≡ false → c x ≡ before x) × OfKinds ps c

    abbrev OneNumber : ℕ → ParamKind → (ℕ → ℤ) → (ℕ → ℤ) → Type 0
    OneNumber x kind before c = ((y : ℕ) → (y == x) ≡ false → c y ≡ before y) × OfKind kind (c x)

    one_number : (x : ℕ) (kind : ParamKind) (g : Given) (before : ℕ → ℤ) → Matches kind g → IfSome (bind_number x kind g before) (OneNumber x kind before)
    one_number x (ControlParam kind) (GivenNumber n) before m = go (suits kind n) refl
      where
        go : (t : Bool) → suits kind n ≡ t → IfSome (where_true t (Some (updated before x n))) (OneNumber x (ControlParam kind) before)
        go true e = (λ y h. updated_other before x n y h, subst (IsOfKind kind) (sym (ap (λ t. cond t n (before x)) (eq-eqb x x refl))) (m e))
        go false e = tt
    one_number x (ControlParam kind) (GivenView z) before m = absurd m
    one_number x (TensorParam cell dims memory) g before m = (λ y h. refl, tt)
    one_number x (WindowParam cell dims memory) g before m = (λ y h. refl, tt)

    numbers_bound : (ps : List Param) (gs : List Given) (before : ℕ → ℤ) → Differ ps → AllMatch ps gs → IfSome (bind_numbers ps gs before) (Numbers ps before)
    numbers_bound [] [] before d m = (λ x h. refl, tt)
    numbers_bound [] (g ∷ gs) before d m = tt
    numbers_bound (p ∷ ps) [] before d m = tt
    numbers_bound (p ∷ ps) (g ∷ gs) before d m =
        if_then (OneNumber p.binder.id p.kind before) (Numbers (p ∷ ps) before) (bind_number p.binder.id p.kind g before) (bind_numbers ps gs) (one_number p.binder.id p.kind g before m.0) (λ c k.
        if_weaken (Numbers ps c) (Numbers (p ∷ ps) before) (bind_numbers ps gs c) (numbers_bound ps gs c d.1 m.1) (λ e l.
        (λ x h. let q = or_parts (x == p.binder.id) (is_buffer_of x ps) h in l.0 x q.1 ∙ k.0 x q.0, (subst (OfKind p.kind) (sym (l.0 p.binder.id d.0)) k.1, l.1))))

    -- ---- the buffers

    abbrev IsMade : Scene → ℕ → ParamKind → Type 0
    IsMade scene x (ControlParam kind) = (scene.buffers x ≡ None) × (scene.views x ≡ None)
    IsMade scene x (TensorParam cell dims memory) = IsBuffer scene x (record { cell = cell; dims = numbers scene dims; strides = row_major (numbers scene dims) })
    IsMade scene x (WindowParam cell dims memory) = (strides : List ℤ) × IsBuffer scene x (record { cell = cell; dims = numbers scene dims; strides = strides })

    abbrev AreMade : Scene → List Param → Type 0
    AreMade scene [] = Unit {0}
    AreMade scene (p ∷ ps) = IsMade scene p.binder.id p.kind × AreMade scene ps

    -- the ids of the list stand for nothing yet
    abbrev AreOpen : List Param → State → Type 0
    AreOpen ps t = (x : ℕ) → is_buffer_of x ps ≡ true → (t.scene.buffers x ≡ None) × (t.scene.views x ≡ None)

    record Extends (Same : ℕ → Type 0) (t u : State) : Type 0 where
      control : u.scene.control ≡ t.scene.control
      fields_are : u.scene.fields ≡ t.scene.fields
      buffers : (x : ℕ) → Same x → u.scene.buffers x ≡ t.scene.buffers x
      views : (x : ℕ) → Same x → u.scene.views x ≡ t.scene.views x
      cells : CellsFit t → CellsFit u
      tidy : IsTidy t → IsTidy u

    abbrev Elsewhere : ℕ → ℕ → Type 0
    Elsewhere x y = (y == x) ≡ false

    record OneMade (x : ℕ) (kind : ParamKind) (t u : State) : Type 0 where
      extends : Extends (Elsewhere x) t u
      made : IsMade u.scene x kind

    record AllMade (ps : List Param) (t u : State) : Type 0 where
      extends : Extends (λ x. is_buffer_of x ps ≡ false) t u
      made : AreMade u.scene ps

    module _ (sound : IsSound s) (memories : ℕ) where
      -- what a copy of a window holds fits its type
      copy_fits : (cell : Cell) (z : Seen) → HasType cell z → (at : List ℤ) → FitsCell cell (contents s.cells z at)
      copy_fits cell z h at = by_buffer (s.scene.buffers z.buffer) refl (cell_at z.sides at)
        where
          by_buffer : (o : Option Shape) → s.scene.buffers z.buffer ≡ o → (p : Option (List ℤ)) → FitsCell cell (held_at (s.cells z.buffer) p)
          by_buffer o e None = tt
          by_buffer None e (Some q) = subst (FitsCell cell) (sym (sound.tidy z.buffer e q)) tt
          by_buffer (Some shape) e (Some q) = subst (λ (y : Cell). FitsCell y (s.cells z.buffer q)) (sym (h shape e)) (sorted.cells z.buffer shape e q)

      module _ (x : ℕ) (cell : Cell) (ds : List ℤ) (z : Seen) (h : HasType cell z) (t : State) where
        abbrev shape_of : Shape
        shape_of = record { cell = cell; dims = ds; strides = strides_seen s.scene z }

        abbrev with_copy : State
        with_copy = with_contents x (contents s.cells z) (on_scene (with_buffer x shape_of) t)

        copy_extends : Extends (Elsewhere x) t with_copy
        copy_extends = record {
          control = refl;
          fields_are = refl;
          buffers = λ y e. updated_other t.scene.buffers x (Some shape_of) y e;
          views = λ y e. updated_other t.scene.views x (Some (record { buffer = x; sides = whole ds })) y e;
          cells = λ fit b shape e at. fits (b == x) b shape at (fit b shape) e;
          tidy = λ tidy b e at. still (b == x) b at (tidy b) e;
        }
          where
            fits : (q : Bool) (b : ℕ) (shape : Shape) (at : List ℤ) → (t.scene.buffers b ≡ Some shape → (at : List ℤ) → FitsCell shape.cell (t.cells b at)) → cond q (Some shape_of) (t.scene.buffers b) ≡ Some shape → FitsCell shape.cell (cond {A = List ℤ → Value} q (contents s.cells z) (t.cells b) at)
            fits true b shape at fit e = subst (λ (y : Shape). FitsCell y.cell (contents s.cells z at)) (some_injective shape_of shape e) (copy_fits cell z h at)
            fits false b shape at fit e = fit e at

            still : (q : Bool) (b : ℕ) (at : List ℤ) → (t.scene.buffers b ≡ None → (at : List ℤ) → t.cells b at ≡ Undefined) → cond q (Some shape_of) (t.scene.buffers b) ≡ None → cond {A = List ℤ → Value} q (contents s.cells z) (t.cells b) at ≡ Undefined
            still true b at tidy e = absurd (none_some (sym e))
            still false b at tidy e = tidy e at

        copy_buffer : with_copy.scene.buffers x ≡ Some shape_of
        copy_buffer = ap (λ q. cond q (Some shape_of) (t.scene.buffers x)) (eq-eqb x x refl)

        copy_view : with_copy.scene.views x ≡ Some (record { buffer = x; sides = whole ds })
        copy_view = ap (λ q. cond q (Some (record { buffer = x; sides = whole ds })) (t.scene.views x)) (eq-eqb x x refl)

      row_major_seen : (rank : ℕ) (z : Seen) (ds : List ℤ) → IsSome (s.scene.buffers z.buffer) → IsRowMajor rank z → length ds ≡ rank → extents z.sides ≡ ds → strides_seen s.scene z ≡ row_major ds
      row_major_seen rank z ds i m l e = go (s.scene.buffers z.buffer) refl i
        where
          go : (o : Option Shape) → s.scene.buffers z.buffer ≡ o → IsSome o → strides_seen s.scene z ≡ row_major ds
          go None k i = absurd (true≢false (sym i))
          go (Some shape) k i = ap (λ o. elim o as (λ o. List ℤ) [ None ↦ [] | Some shape ↦ strides_of z.sides shape.strides ]) k ∙ m shape k ds l e

      one_made : (x : ℕ) (kind : ParamKind) (pscope : Scope) → is_param_kind fields memories pscope kind ≡ true → (g : Given) (t : State) → Matches kind g → IsThere s g → t.scene.buffers x ≡ None → t.scene.views x ≡ None → IfSome (bind_buffer s x kind g t) (OneMade x kind t)
      one_made x (ControlParam kind) pscope plain g t m i b v = record {
        extends = record { control = refl; fields_are = refl; buffers = λ y e. refl; views = λ y e. refl; cells = λ fit. fit; tidy = λ h. h };
        made = (b, v);
      }
      one_made x (TensorParam cell dims memory) pscope plain (GivenNumber n) t m i b v = tt
      one_made x (TensorParam cell dims memory) pscope plain (GivenView z) t m i b v = go (same_index (numbers t.scene dims) (extents z.sides) && all_positive (numbers t.scene dims)) refl
        where
          go : (q : Bool) → (same_index (numbers t.scene dims) (extents z.sides) && all_positive (numbers t.scene dims)) ≡ q → IfSome (where_true q (Some (with_copy x cell (numbers t.scene dims) z m.0 t))) (OneMade x (TensorParam cell dims memory) t)
          go false e = tt
          go true e =
              let p = and_parts (same_index (numbers t.scene dims) (extents z.sides)) (all_positive (numbers t.scene dims)) e in
              let same = same_index_is (numbers t.scene dims) (extents z.sides) p.0 in
              let u = with_copy x cell (numbers t.scene dims) z m.0 t in
              let again : numbers t.scene dims ≡ numbers u.scene dims = numbers_plain fields pscope t.scene u.scene refl dims (and_parts (are_controls fields plainly pscope dims) _ plain).0 in
              let rows = row_major_seen (length dims) z (numbers t.scene dims) i m.1 (numbers_length t.scene dims) (sym same) in
              record {
                extends = copy_extends x cell (numbers t.scene dims) z m.0 t;
                made = (copy_buffer x cell (numbers t.scene dims) z m.0 t ∙ ap (λ r. Some (record { cell = cell; dims = numbers t.scene dims; strides = r })) rows ∙ ap (λ es. Some (record { cell = cell; dims = es; strides = row_major es })) again, copy_view x cell (numbers t.scene dims) z m.0 t ∙ ap (λ es. Some (record { buffer = x; sides = whole es })) again);
              }
      one_made x (WindowParam cell dims memory) pscope plain (GivenNumber n) t m i b v = tt
      one_made x (WindowParam cell dims memory) pscope plain (GivenView z) t m i b v =
          let u = with_copy x cell (numbers t.scene dims) z m t in
          let again : numbers t.scene dims ≡ numbers u.scene dims = numbers_plain fields pscope t.scene u.scene refl dims (and_parts (are_controls fields plainly pscope dims) _ plain).0 in
          let made : OneMade x (WindowParam cell dims memory) t u = record {
            extends = copy_extends x cell (numbers t.scene dims) z m t;
            made = (strides_seen s.scene z, (copy_buffer x cell (numbers t.scene dims) z m t ∙ ap (λ es. Some (record { cell = cell; dims = es; strides = strides_seen s.scene z })) again, copy_view x cell (numbers t.scene dims) z m t ∙ ap (λ es. Some (record { buffer = x; sides = whole es })) again));
          } in
          if_where (OneMade x (WindowParam cell dims memory) t) (same_index (numbers t.scene dims) (extents z.sides) && all_positive (numbers t.scene dims)) (Some u) made

      kept_made : (kind : ParamKind) (x : ℕ) (pscope : Scope) → is_param_kind fields memories pscope kind ≡ true → (a b : Scene) → b.control ≡ a.control → b.buffers x ≡ a.buffers x → b.views x ≡ a.views x → IsMade a x kind → IsMade b x kind
      kept_made (ControlParam kind) x pscope plain a b c e v m = (e ∙ m.0, v ∙ m.1)
      kept_made (TensorParam cell dims memory) x pscope plain a b c e v m =
          let again = numbers_plain fields pscope a b (sym c) dims (and_parts (are_controls fields plainly pscope dims) _ plain).0 in
          (e ∙ m.0 ∙ ap (λ es. Some (record { cell = cell; dims = es; strides = row_major es })) again, v ∙ m.1 ∙ ap (λ es. Some (record { buffer = x; sides = whole es })) again)
      kept_made (WindowParam cell dims memory) x pscope plain a b c e v m =
          let again = numbers_plain fields pscope a b (sym c) dims (and_parts (are_controls fields plainly pscope dims) _ plain).0 in
          (m.0, (e ∙ m.1.0 ∙ ap (λ es. Some (record { cell = cell; dims = es; strides = m.0 })) again, v ∙ m.1.1 ∙ ap (λ es. Some (record { buffer = x; sides = whole es })) again))

      -- an id of the rest is not that of the first
      not_first : (p : Param) (ps : List Param) → is_buffer_of p.binder.id ps ≡ false → (x : ℕ) → is_buffer_of x ps ≡ true → (x == p.binder.id) ≡ false
      not_first p ps d x k = go (x == p.binder.id) (eqb-true x p.binder.id)
        where
          go : (t : Bool) → (t ≡ true → x ≡ p.binder.id) → t ≡ false
          go true same = absurd (true≢false (sym k ∙ ap (λ y. is_buffer_of y ps) (same refl) ∙ d))
          go false same = refl

      all_made : (ps : List Param) (pscope : Scope) → are_params fields memories pscope ps ≡ true → Differ ps → (gs : List Given) (t : State) → AllMatch ps gs → AreThere s gs → AreOpen ps t → IfSome (bind_buffers s ps gs t) (AllMade ps t)
      all_made [] pscope plain d gs t m i o = record { extends = record { control = refl; fields_are = refl; buffers = λ y e. refl; views = λ y e. refl; cells = λ fit. fit; tidy = λ h. h }; made = tt }
      all_made (p ∷ ps) pscope plain d [] t m i o = tt
      all_made (p ∷ ps) pscope plain d (g ∷ gs) t m i o =
          let inner : Scope = with_name pscope p.binder (param_sort p.kind) in
          let q = and_parts (is_new pscope p.binder) (is_param_kind fields memories pscope p.kind && are_params fields memories inner ps) plain in
          let r = and_parts (is_param_kind fields memories pscope p.kind) (are_params fields memories inner ps) q.1 in
          let at_p : is_buffer_of p.binder.id (p ∷ ps) ≡ true = ap (λ z. z || is_buffer_of p.binder.id ps) (eq-eqb p.binder.id p.binder.id refl) in
          if_then (OneMade p.binder.id p.kind t) (AllMade (p ∷ ps) t) (bind_buffer s p.binder.id p.kind g t) (bind_buffers s ps gs) (one_made p.binder.id p.kind pscope r.0 g t m.0 i.0 (o p.binder.id at_p).0 (o p.binder.id at_p).1) (λ u k.
          if_weaken (AllMade ps u) (AllMade (p ∷ ps) t) (bind_buffers s ps gs u)
          (all_made ps inner r.1 d.1 gs u m.1 i.1 (λ x j.
          let other = not_first p ps d.0 x j in
          let was = o x (ap (λ z. z || is_buffer_of x ps) other ∙ j) in
          (k.extends.buffers x other ∙ was.0, k.extends.views x other ∙ was.1)))
          (λ w l. record {
            extends = record {
              control = l.extends.control ∙ k.extends.control;
              fields_are = l.extends.fields_are ∙ k.extends.fields_are;
              buffers = λ x e. let z = or_parts (x == p.binder.id) (is_buffer_of x ps) e in l.extends.buffers x z.1 ∙ k.extends.buffers x z.0;
              views = λ x e. let z = or_parts (x == p.binder.id) (is_buffer_of x ps) e in l.extends.views x z.1 ∙ k.extends.views x z.0;
              cells = λ fit. l.extends.cells (k.extends.cells fit);
              tidy = λ h. l.extends.tidy (k.extends.tidy h);
            };
            made = (kept_made p.kind p.binder.id pscope r.0 u.scene w.scene l.extends.control (l.extends.buffers p.binder.id d.0) (l.extends.views p.binder.id d.0) k.made, l.made);
          }))

      -- ---- the first state

      as_arguments : (ps : List Param) (scene : Scene) (c : ℕ → ℤ) → scene.control ≡ c → OfKinds ps c → AreMade scene ps → AreArguments scene ps
      as_arguments [] scene c e k m = tt
      as_arguments (p ∷ ps) scene c e k m = (one p.kind k.0 m.0, as_arguments ps scene c e k.1 m.1)
        where
          one : (kind : ParamKind) → OfKind kind (c p.binder.id) → IsMade scene p.binder.id kind → IsArgument scene p.binder.id kind
          one (ControlParam kind) k m = (subst (λ (f : ℕ → ℤ). IsOfKind kind (f p.binder.id)) (sym e) k, m.0, m.1)
          one (TensorParam cell dims memory) k m = m
          one (WindowParam cell dims memory) k m = m

      pub enters : (world : World) → world.kinds ≡ kinds → (q : Procedure) → are_params fields memories [] q.params ≡ true → (gs : List Given) → AllMatch q.params gs → AreThere s gs → IfSome (entered q.params gs s) (λ inner. all_hold inner.scene q.asserts ≡ true → IsAdmissible world q inner)
      enters world same q plain gs m i =
          let d = params_differ fields memories q.params [] plain in
          let Good = λ (inner : State). all_hold inner.scene q.asserts ≡ true → IsAdmissible world q inner in
          if_then (Numbers q.params (λ x. pos 0)) Good (bind_numbers q.params gs (λ x. pos 0)) _ (numbers_bound q.params gs (λ x. pos 0) d m) (λ c k.
          if_weaken (AllMade q.params (bare c s.scene.fields)) Good (bind_buffers s q.params gs (bare c s.scene.fields)) (all_made q.params [] plain d gs (bare c s.scene.fields) m i (λ x j. (refl, refl))) (λ inner l hold. record {
            arguments = as_arguments q.params inner.scene c l.extends.control k.1 l.made;
            no_others = λ x e. (ap (λ (f : ℕ → ℤ). f x) l.extends.control ∙ k.0 x e, l.extends.buffers x e, l.extends.views x e);
            cells = l.extends.cells (λ b shape e. absurd (none_some e));
            tidy = l.extends.tidy (λ b e at. refl);
            fields = λ f. subst (λ (g : ℕ → ℤ). IsOfKind (world.kinds f) (g f)) (sym l.extends.fields_are) (subst (λ (g : ℕ → Kind). IsOfKind (g f) (s.scene.fields f)) (sym same) (sorted.fields f));
            asserts = hold;
          }))

pub first_state_law : FirstStateLaw
first_state_law fields memories world scope root s inner c args gs same sound sorted plain call given_is entered_is hold =
    let kind = field_kind fields in
    let p = and_parts (are_for kind scope c.procedure.params args) _ call in
    let m = if_gives (AllMatch kind world.kinds scope s sorted c.procedure.params) (all_given s.scene args) gs (all_match kind world.kinds scope s sorted c.procedure.params args p.0) given_is in
    let i = if_gives (AreThere s) (all_given s.scene args) gs (all_there s args sound) given_is in
    if_gives (λ (z : State). all_hold z.scene c.procedure.asserts ≡ true → IsAdmissible world c.procedure z) (entered c.procedure.params gs s) inner (enters kind world.kinds scope s sorted sound memories world refl c.procedure plain gs m i) entered_is hold
