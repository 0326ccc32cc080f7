-- A run under other ids.
use Rattle.std.proofs.Common.{◌≡◌, ℕ, ℤ, pos, neg_ℤ, ◌+ℤ◌, ◌-ℤ◌, ◌*ℤ◌, ◌==◌, int_lt, int_le, Bool, true, false, cond, not, ◌&&◌, ◌||◌, List, [], ◌∷◌, Option, Some, None, option_map, refl, sym, ap, ap₂, ◌∙◌, eqb-true, eq-eqb}
use Rattle.std.proofs.Math.Path.{fun_ext}
use Rattle.std.specs.Ordering.{int_eq}
use Rattle.std.specs.Int.{int_div_euclid, int_rem_euclid}
use Rattle.std.specs.Bool.{one_answer}
use Rattle.exo_tree.specs.Tree.{Cell, Param, ParamKind, ControlParam, TensorParam, WindowParam, Control, Lit, Var, Field, StrideOf, Neg, Add, Sub, Mul, Div, Mod, Condition, True, False, Flag, FieldFlag, Lt, Le, Gt, Ge, Eq, And, Or, Datum, Const, Read, Negated, Relu, Plus, Minus, Times, Select, Coord, At, Span, Argument, ControlArg, ConditionArg, Whole, Window, Statement, Assign, Reduce, Config, Pass, If, For, Alloc, View, Call, Block, end, next}
use Rattle.exo_meaning.specs.Value.{Value, Undefined, stored_as, on_one, on_two, on_four, relu, selected}
use Rattle.exo_meaning.specs.Scene.{is_set, Shape, Seen, Side, Point, Range, Scene, then_do, number, numbers, holds, stride_at, strides_seen, where_true, window, narrowed, all_meet, cell_at, updated, is_below, whole, extents, index_of}
use Rattle.exo_meaning.specs.State.{State, Cells, Place, place, held, same_index, changed, put, value, left, scoped, on_scene, with_control, with_field, with_view, with_contents, with_buffer}
use Rattle.exo_meaning.specs.Calls.{Callee, given_apart, apart_from, all_apart, given_all_apart, keeps_apart, copied_call, Given, GivenNumber, GivenView, given, all_given, truth, suits, all_positive, bind_number, bind_numbers, copy_in, bind_buffer, bind_buffers, bare, entered, held_at, value_or, copy_back, copied_back, returned, run_asserted}
use Rattle.exo_meaning.specs.Run.{World, run, step, allocate, call_to, turn, turns, turns_of, range, count, choose, argument_number, tensor}
use Rattle.exo_meaning.specs.Renaming.{RunsRename, Renaming, re_control, re_controls, re_condition, re_datum, re_coords, re_argument, re_arguments, re_statement, re_block, re_seen, re_scene, re_state, re_place}

module _ (r : Renaming) where
  module _ (scene : Scene) where
    view_re : (x : ℕ) → (re_scene r scene).views (r.to x) ≡ option_map (re_seen r) (scene.views x)
    view_re x = ap (λ y. option_map (re_seen r) (scene.views y)) (r.from_to x)

    stride_re : (o : Option Seen) (k : ℕ) → stride_at (re_scene r scene) (option_map (re_seen r) o) k ≡ stride_at scene o k
    stride_re None k = refl
    stride_re (Some seen) k = ap (λ y. stride_at scene (Some (record { buffer = y; sides = seen.sides })) k) (r.from_to seen.buffer)

    number_re : (e : Control) → number (re_scene r scene) (re_control r e) ≡ number scene e
    number_re (Lit n) = refl
    number_re (Var x) = ap scene.control (r.from_to x)
    number_re (Field f) = refl
    number_re (StrideOf x k) = ap (λ o. stride_at (re_scene r scene) o k) (view_re x) ∙ stride_re (scene.views x) k
    number_re (Neg a) = ap neg_ℤ (number_re a)
    number_re (Add a b) = ap₂ ◌+ℤ◌ (number_re a) (number_re b)
    number_re (Sub a b) = ap₂ ◌-ℤ◌ (number_re a) (number_re b)
    number_re (Mul a b) = ap₂ ◌*ℤ◌ (number_re a) (number_re b)
    number_re (Div a c) = ap (λ n. int_div_euclid n c) (number_re a)
    number_re (Mod a c) = ap (λ n. int_rem_euclid n c) (number_re a)

    numbers_re : (es : List Control) → numbers (re_scene r scene) (re_controls r es) ≡ numbers scene es
    numbers_re [] = refl
    numbers_re (e ∷ es) = ap₂ ◌∷◌ (number_re e) (numbers_re es)

    holds_re : (c : Condition) → holds (re_scene r scene) (re_condition r c) ≡ holds scene c
    holds_re True = refl
    holds_re False = refl
    holds_re (Flag x) = ap (λ y. is_set (scene.control y)) (r.from_to x)
    holds_re (FieldFlag f) = refl
    holds_re (Lt a b) = ap₂ int_lt (number_re a) (number_re b)
    holds_re (Le a b) = ap₂ int_le (number_re a) (number_re b)
    holds_re (Gt a b) = ap₂ int_lt (number_re b) (number_re a)
    holds_re (Ge a b) = ap₂ int_le (number_re b) (number_re a)
    holds_re (Eq a b) = ap₂ int_eq (number_re a) (number_re b)
    holds_re (And c d) = ap₂ ◌&&◌ (holds_re c) (holds_re d)
    holds_re (Or c d) = ap₂ ◌||◌ (holds_re c) (holds_re d)

    narrowed_re : (sides : List Side) (coords : List Coord) → narrowed (re_scene r scene) sides (re_coords r coords) ≡ narrowed scene sides coords
    narrowed_re [] [] = refl
    narrowed_re [] (At a ∷ cs) = refl
    narrowed_re [] (Span a b ∷ cs) = refl
    narrowed_re (Point p ∷ sides) cs = ap (option_map (λ rest. Point p ∷ rest)) (narrowed_re sides cs)
    narrowed_re (Range lo n ∷ sides) [] = refl
    narrowed_re (Range lo n ∷ sides) (At a ∷ cs) = ap₂ (λ i o. where_true (is_below i n) (option_map (λ rest. Point (lo +ℤ i) ∷ rest) o)) (number_re a) (narrowed_re sides cs)
    narrowed_re (Range lo n ∷ sides) (Span a b ∷ cs) =
        ap (λ i. where_true (int_le (pos 0) i && int_lt i (number (re_scene r scene) (re_control r b)) && int_le (number (re_scene r scene) (re_control r b)) n) (option_map (λ rest. Range (lo +ℤ i) (number (re_scene r scene) (re_control r b) -ℤ i) ∷ rest) (narrowed (re_scene r scene) sides (re_coords r cs)))) (number_re a)
        ∙ ap₂ (λ j o. where_true (int_le (pos 0) (number scene a) && int_lt (number scene a) j && int_le j n) (option_map (λ rest. Range (lo +ℤ number scene a) (j -ℤ number scene a) ∷ rest) o)) (number_re b) (narrowed_re sides cs)

    window_re : (x : ℕ) (coords : List Coord) → window (re_scene r scene) (r.to x) (re_coords r coords) ≡ option_map (re_seen r) (window scene x coords)
    window_re x coords = ap (λ o. then_do o (λ seen. option_map (λ sides. record { buffer = seen.buffer; sides = sides }) (narrowed (re_scene r scene) seen.sides (re_coords r coords)))) (view_re x) ∙ go (scene.views x)
      where
        inner : (seen : Seen) (o : Option (List Side)) → option_map (λ sides. record { buffer = r.to seen.buffer; sides = sides }) o ≡ option_map (re_seen r) (option_map (λ sides. record { buffer = seen.buffer; sides = sides }) o)
        inner seen None = refl
        inner seen (Some sides) = refl

        go : (o : Option Seen) → then_do (option_map (re_seen r) o) (λ seen. option_map (λ sides. record { buffer = seen.buffer; sides = sides }) (narrowed (re_scene r scene) seen.sides (re_coords r coords))) ≡ option_map (re_seen r) (then_do o (λ seen. option_map (λ sides. record { buffer = seen.buffer; sides = sides }) (narrowed scene seen.sides coords)))
        go None = refl
        go (Some seen) = ap (option_map (λ sides. record { buffer = r.to seen.buffer; sides = sides })) (narrowed_re seen.sides coords) ∙ inner seen (narrowed scene seen.sides coords)

    place_re : (x : ℕ) (is : List Control) → place (re_scene r scene) (r.to x) (re_controls r is) ≡ option_map (re_place r) (place scene x is)
    place_re x is = ap₂ (λ o js. then_do o (λ seen. option_map (λ at. record { buffer = seen.buffer; at = at }) (cell_at seen.sides js))) (view_re x) (numbers_re is) ∙ go (scene.views x)
      where
        inner : (seen : Seen) (o : Option (List ℤ)) → option_map (λ at. record { buffer = r.to seen.buffer; at = at }) o ≡ option_map (re_place r) (option_map (λ at. record { buffer = seen.buffer; at = at }) o)
        inner seen None = refl
        inner seen (Some at) = refl

        go : (o : Option Seen) → then_do (option_map (re_seen r) o) (λ seen. option_map (λ at. record { buffer = seen.buffer; at = at }) (cell_at seen.sides (numbers scene is))) ≡ option_map (re_place r) (then_do o (λ seen. option_map (λ at. record { buffer = seen.buffer; at = at }) (cell_at seen.sides (numbers scene is))))
        go None = refl
        go (Some seen) = inner seen (cell_at seen.sides (numbers scene is))

  -- ---- changes under other ids

  same_test : (x k : ℕ) → (x == r.to k) ≡ (r.from x == k)
  same_test x k = one_answer {P = r.from x ≡ k} (x == r.to k) (r.from x == k) ((λ e. ap r.from (eqb-true x (r.to k) e) ∙ r.from_to k), (λ e. eq-eqb x (r.to k) (sym (r.to_from x) ∙ ap r.to e))) (eqb-true (r.from x) k, eq-eqb (r.from x) k)

  updated_re : {A : Type 0} (f : ℕ → A) (k : ℕ) (v : A) → updated (λ x. f (r.from x)) (r.to k) v ≡ (λ x. updated f k v (r.from x))
  updated_re f k v = fun_ext (λ x. ap (λ t. cond t v (f (r.from x))) (same_test x k))

  views_re : (f : ℕ → Option Seen) (k : ℕ) (v : Seen) → updated (λ x. option_map (re_seen r) (f (r.from x))) (r.to k) (Some (re_seen r v)) ≡ (λ x. option_map (re_seen r) (updated f k (Some v) (r.from x)))
  views_re f k v = fun_ext (λ x. ap (λ t. cond t (Some (re_seen r v)) (option_map (re_seen r) (f (r.from x)))) (same_test x k) ∙ go x (r.from x == k))
    where
      go : (x : ℕ) (t : Bool) → cond t (Some (re_seen r v)) (option_map (re_seen r) (f (r.from x))) ≡ option_map (re_seen r) (cond t (Some v) (f (r.from x)))
      go x true = refl
      go x false = refl

  changed_re : (c : Cells) (p : Place) (f : Value → Value) → changed (λ b. c (r.from b)) (re_place r p) f ≡ (λ b. changed c p f (r.from b))
  changed_re c p f = fun_ext (λ b. fun_ext (λ at. ap (λ t. cond (t && same_index at p.at) (f (c (r.from b) at)) (c (r.from b) at)) (same_test b p.buffer)))

  control_re : (i : ℕ) (n : ℤ) (s : State) → on_scene (with_control (r.to i) n) (re_state r s) ≡ re_state r (on_scene (with_control i n) s)
  control_re i n s = ap (λ f. record { scene = record (re_scene r s.scene) { control = f }; cells = λ b. s.cells (r.from b) }) (updated_re s.scene.control i n)

  made_re : (x : ℕ) (shape : Shape) (s : State) → with_contents (r.to x) (λ at. Undefined) (on_scene (with_buffer (r.to x) shape) (re_state r s)) ≡ re_state r (with_contents x (λ at. Undefined) (on_scene (with_buffer x shape) s))
  made_re x shape s =
      ap₂ (λ b c. record { scene = record { control = λ y. s.scene.control (r.from y); buffers = b; views = updated (λ y. option_map (re_seen r) (s.scene.views (r.from y))) (r.to x) (Some (record { buffer = r.to x; sides = whole shape.dims })); fields = s.scene.fields }; cells = c }) (updated_re s.scene.buffers x (Some shape)) (updated_re s.cells x (λ at. Undefined))
      ∙ ap (λ v. record { scene = record { control = λ y. s.scene.control (r.from y); buffers = λ y. updated s.scene.buffers x (Some shape) (r.from y); views = v; fields = s.scene.fields }; cells = λ y. updated s.cells x (λ at. Undefined) (r.from y) }) (views_re s.scene.views x (record { buffer = x; sides = whole shape.dims }))

  seen_re : (w : ℕ) (seen : Seen) (s : State) → on_scene (with_view (r.to w) (re_seen r seen)) (re_state r s) ≡ re_state r (on_scene (with_view w seen) s)
  seen_re w seen s = ap (λ v. record { scene = record (re_scene r s.scene) { views = v }; cells = λ b. s.cells (r.from b) }) (views_re s.scene.views w seen)

  -- ---- values and stores

  held_re : (c : Cells) (o : Option Place) → option_map (held (λ b. c (r.from b))) (option_map (re_place r) o) ≡ option_map (held c) o
  held_re c None = refl
  held_re c (Some p) = ap (λ b. Some (c b p.at)) (r.from_to p.buffer)

  value_re : (s : State) (e : Datum) → value (re_state r s) (re_datum r e) ≡ value s e
  value_re s (Const n) = refl
  value_re s (Read x is) = ap (option_map (held (λ b. s.cells (r.from b)))) (place_re s.scene x is) ∙ held_re s.cells (place s.scene x is)
  value_re s (Negated a) = ap (option_map (on_one (λ m. pos 0 -ℤ m))) (value_re s a)
  value_re s (Relu a) = ap (option_map (on_one relu)) (value_re s a)
  value_re s (Plus a b) = ap₂ (λ o q. then_do o (λ u. option_map (on_two ◌+ℤ◌ u) q)) (value_re s a) (value_re s b)
  value_re s (Minus a b) = ap₂ (λ o q. then_do o (λ u. option_map (on_two ◌-ℤ◌ u) q)) (value_re s a) (value_re s b)
  value_re s (Times a b) = ap₂ (λ o q. then_do o (λ u. option_map (on_two ◌*ℤ◌ u) q)) (value_re s a) (value_re s b)
  value_re s (Select a b c e) =
      ap₂ (λ o q. then_do o (λ x. then_do q (λ v. then_do (value (re_state r s) (re_datum r c)) (λ y. option_map (on_four selected x v y) (value (re_state r s) (re_datum r e)))))) (value_re s a) (value_re s b)
      ∙ ap₂ (λ o q. then_do (value s a) (λ x. then_do (value s b) (λ v. then_do o (λ y. option_map (on_four selected x v y) q)))) (value_re s c) (value_re s e)

  put_re : (s : State) (f : Value → Value) (p : Place) → put (re_state r s) f (re_place r p) ≡ option_map (re_state r) (put s f p)
  put_re s f p = ap (λ b. option_map (λ shape. record (re_state r s) { cells = changed (λ b. s.cells (r.from b)) (re_place r p) (λ old. stored_as shape.cell (f old)) }) (s.scene.buffers b)) (r.from_to p.buffer) ∙ go (s.scene.buffers p.buffer)
    where
      go : (o : Option Shape) → option_map (λ shape. record (re_state r s) { cells = changed (λ b. s.cells (r.from b)) (re_place r p) (λ old. stored_as shape.cell (f old)) }) o ≡ option_map (re_state r) (option_map (λ shape. record s { cells = changed s.cells p (λ old. stored_as shape.cell (f old)) }) o)
      go None = refl
      go (Some shape) = ap (λ c. Some (record (re_state r s) { cells = c })) (changed_re s.cells p (λ old. stored_as shape.cell (f old)))

  store_re : (s : State) (x : ℕ) (is : List Control) (e : Datum) (f : Value → Value → Value) → then_do (place (re_scene r s.scene) (r.to x) (re_controls r is)) (λ p. then_do (value (re_state r s) (re_datum r e)) (λ v. put (re_state r s) (f v) p)) ≡ option_map (re_state r) (then_do (place s.scene x is) (λ p. then_do (value s e) (λ v. put s (f v) p)))
  store_re s x is e f = ap₂ (λ o q. then_do o (λ p. then_do q (λ v. put (re_state r s) (f v) p))) (place_re s.scene x is) (value_re s e) ∙ go (place s.scene x is) (value s e)
    where
      go : (o : Option Place) (q : Option Value) → then_do (option_map (re_place r) o) (λ p. then_do q (λ v. put (re_state r s) (f v) p)) ≡ option_map (re_state r) (then_do o (λ p. then_do q (λ v. put s (f v) p)))
      go None q = refl
      go (Some p) None = refl
      go (Some p) (Some v) = put_re s (f v) p

  -- ---- calls

  abbrev re_given : Given → Given
  re_given (GivenNumber n) = GivenNumber n
  re_given (GivenView seen) = GivenView (re_seen r seen)

  abbrev re_givens : List Given → List Given
  re_givens [] = []
  re_givens (g ∷ gs) = re_given g ∷ re_givens gs

  given_re : (scene : Scene) (a : Argument) → given (re_scene r scene) (re_argument r a) ≡ option_map re_given (given scene a)
  given_re scene (ControlArg a) = ap (λ n. Some (GivenNumber n)) (number_re scene a)
  given_re scene (ConditionArg c) = ap (λ t. Some (GivenNumber (truth t))) (holds_re scene c)
  given_re scene (Whole x) = ap (option_map GivenView) (view_re scene x) ∙ go (scene.views x)
    where
      go : (o : Option Seen) → option_map GivenView (option_map (re_seen r) o) ≡ option_map re_given (option_map GivenView o)
      go None = refl
      go (Some seen) = refl
  given_re scene (Window x coords) = ap (option_map GivenView) (window_re scene x coords) ∙ go (window scene x coords)
    where
      go : (o : Option Seen) → option_map GivenView (option_map (re_seen r) o) ≡ option_map re_given (option_map GivenView o)
      go None = refl
      go (Some seen) = refl

  all_given_re : (scene : Scene) (args : List Argument) → all_given (re_scene r scene) (re_arguments r args) ≡ option_map re_givens (all_given scene args)
  all_given_re scene [] = refl
  all_given_re scene (a ∷ args) = ap₂ (λ o q. then_do o (λ g. option_map (λ gs. g ∷ gs) q)) (given_re scene a) (all_given_re scene args) ∙ go (given scene a) (all_given scene args)
    where
      go : (o : Option Given) (q : Option (List Given)) → then_do (option_map re_given o) (λ g. option_map (λ gs. g ∷ gs) (option_map re_givens q)) ≡ option_map re_givens (then_do o (λ g. option_map (λ gs. g ∷ gs) q))
      go None q = refl
      go (Some g) None = refl
      go (Some g) (Some gs) = refl

  bind_number_re : (x : ℕ) (kind : ParamKind) (g : Given) (c : ℕ → ℤ) → bind_number x kind (re_given g) c ≡ bind_number x kind g c
  bind_number_re x (ControlParam k) (GivenNumber n) c = refl
  bind_number_re x (ControlParam k) (GivenView seen) c = refl
  bind_number_re x (TensorParam cell dims memory) g c = refl
  bind_number_re x (WindowParam cell dims memory) g c = refl

  bind_numbers_re : (ps : List Param) (gs : List Given) (c : ℕ → ℤ) → bind_numbers ps (re_givens gs) c ≡ bind_numbers ps gs c
  bind_numbers_re [] [] c = refl
  bind_numbers_re [] (g ∷ gs) c = refl
  bind_numbers_re (p ∷ ps) [] c = refl
  bind_numbers_re (p ∷ ps) (g ∷ gs) c = ap₂ (λ o f. then_do o f) (bind_number_re p.binder.id p.kind g c) (fun_ext (bind_numbers_re ps gs))

  module _ (outer : State) where
    copy_in_re : (x : ℕ) (cell : Cell) (dims : List ℤ) (g : Given) (s : State) → copy_in (re_state r outer) x cell dims (re_given g) s ≡ copy_in outer x cell dims g s
    copy_in_re x cell dims (GivenNumber n) s = refl
    copy_in_re x cell dims (GivenView seen) s =
        ap (λ b. where_true (same_index dims (extents seen.sides) && all_positive dims) (Some (with_contents x (λ is. held_at (outer.cells b) (cell_at seen.sides is)) (on_scene (with_buffer x (record { cell = cell; dims = dims; strides = strides_seen outer.scene (record { buffer = b; sides = seen.sides }) })) s)))) (r.from_to seen.buffer)

    bind_buffer_re : (x : ℕ) (kind : ParamKind) (g : Given) (s : State) → bind_buffer (re_state r outer) x kind (re_given g) s ≡ bind_buffer outer x kind g s
    bind_buffer_re x (ControlParam k) g s = refl
    bind_buffer_re x (TensorParam cell dims memory) g s = copy_in_re x cell (numbers s.scene dims) g s
    bind_buffer_re x (WindowParam cell dims memory) g s = copy_in_re x cell (numbers s.scene dims) g s

    bind_buffers_re : (ps : List Param) (gs : List Given) (s : State) → bind_buffers (re_state r outer) ps (re_givens gs) s ≡ bind_buffers outer ps gs s
    bind_buffers_re [] gs s = refl
    bind_buffers_re (p ∷ ps) [] s = refl
    bind_buffers_re (p ∷ ps) (g ∷ gs) s = ap₂ (λ o f. then_do o f) (bind_buffer_re p.binder.id p.kind g s) (fun_ext (bind_buffers_re ps gs))

    entered_re : (ps : List Param) (gs : List Given) → entered ps (re_givens gs) (re_state r outer) ≡ entered ps gs outer
    entered_re ps gs = ap₂ (λ o f. then_do o f) (bind_numbers_re ps gs (λ x. pos 0)) (fun_ext (λ c. bind_buffers_re ps gs (bare c outer.scene.fields)))

  back_re : (t : Bool) (g : Given) (copy : List ℤ → Value) (c : Cells) → copy_back t (re_given g) copy (λ b. c (r.from b)) ≡ (λ b. copy_back t g copy c (r.from b))
  back_re false g copy c = refl
  back_re true (GivenNumber n) copy c = refl
  back_re true (GivenView seen) copy c = fun_ext (λ b. fun_ext (λ at. ap (λ t. cond t (value_or (index_of seen.sides at) copy (c (r.from b) at)) (c (r.from b) at)) (same_test b seen.buffer)))

  all_back_re : (w : ℕ → Bool) (ps : List Param) (gs : List Given) (copies c : Cells) → copied_back w ps (re_givens gs) copies (λ b. c (r.from b)) ≡ (λ b. copied_back w ps gs copies c (r.from b))
  all_back_re w [] gs copies c = refl
  all_back_re w (p ∷ ps) [] copies c = refl
  all_back_re w (p ∷ ps) (g ∷ gs) copies c = ap (copied_back w ps (re_givens gs) copies) (back_re (w p.binder.id) g (copies p.binder.id) c) ∙ all_back_re w ps gs copies (copy_back (w p.binder.id) g (copies p.binder.id) c)

  copied_re : (callee : Callee) (args : List Argument) (s : State) → copied_call callee (re_arguments r args) (re_state r s) ≡ option_map (re_state r) (copied_call callee args s)
  copied_re callee args s = ap (λ o. then_do o (λ gs. then_do (entered callee.procedure.params gs (re_state r s)) (λ inner. option_map (returned callee gs (re_state r s)) (run_asserted callee inner)))) (all_given_re s.scene args) ∙ by_given (all_given s.scene args)
    where
      by_run : (gs : List Given) (o : Option State) → option_map (returned callee (re_givens gs) (re_state r s)) o ≡ option_map (re_state r) (option_map (returned callee gs s) o)
      by_run gs None = refl
      by_run gs (Some done) = ap (λ c. Some (record { scene = record (re_scene r s.scene) { fields = done.scene.fields }; cells = c })) (all_back_re callee.writes callee.procedure.params gs done.cells s.cells)

      by_entered : (gs : List Given) (o : Option State) → then_do o (λ inner. option_map (returned callee (re_givens gs) (re_state r s)) (run_asserted callee inner)) ≡ option_map (re_state r) (then_do o (λ inner. option_map (returned callee gs s) (run_asserted callee inner)))
      by_entered gs None = refl
      by_entered gs (Some inner) = by_run gs (run_asserted callee inner)

      by_given : (o : Option (List Given)) → then_do (option_map re_givens o) (λ gs. then_do (entered callee.procedure.params gs (re_state r s)) (λ inner. option_map (returned callee gs (re_state r s)) (run_asserted callee inner))) ≡ option_map (re_state r) (then_do o (λ gs. then_do (entered callee.procedure.params gs s) (λ inner. option_map (returned callee gs s) (run_asserted callee inner))))
      by_given None = refl
      by_given (Some gs) = ap (λ o. then_do o (λ inner. option_map (returned callee (re_givens gs) (re_state r s)) (run_asserted callee inner))) (entered_re s callee.procedure.params gs) ∙ by_entered gs (entered callee.procedure.params gs s)

  apart_re : (g h : Given) → given_apart (re_given g) (re_given h) ≡ given_apart g h
  apart_re (GivenNumber n) h = refl
  apart_re (GivenView z) (GivenNumber n) = refl
  apart_re (GivenView z) (GivenView y) = ap (λ t. not (t && all_meet z.sides y.sides)) (same_test (r.to z.buffer) y.buffer ∙ ap (λ b. b == y.buffer) (r.from_to z.buffer))

  apart_from_re : (w : ℕ → Bool) (x : ℕ) (g : Given) (ps : List Param) (gs : List Given) → apart_from w x (re_given g) ps (re_givens gs) ≡ apart_from w x g ps gs
  apart_from_re w x g [] gs = refl
  apart_from_re w x g (q ∷ qs) [] = refl
  apart_from_re w x g (q ∷ qs) (h ∷ hs) = ap₂ (λ t u. (not (w x || w q.binder.id) || t) && u) (apart_re g h) (apart_from_re w x g qs hs)

  all_apart_re : (w : ℕ → Bool) (ps : List Param) (gs : List Given) → all_apart w ps (re_givens gs) ≡ all_apart w ps gs
  all_apart_re w [] gs = refl
  all_apart_re w (p ∷ ps) [] = refl
  all_apart_re w (p ∷ ps) (g ∷ gs) = ap₂ (λ t u. t && u) (apart_from_re w p.binder.id g ps gs) (all_apart_re w ps gs)

  keeps_apart_re : (callee : Callee) (scene : Scene) (args : List Argument) → keeps_apart callee (re_scene r scene) (re_arguments r args) ≡ keeps_apart callee scene args
  keeps_apart_re callee scene args = ap (given_all_apart callee.writes callee.procedure.params) (all_given_re scene args) ∙ go (all_given scene args)
    where
      go : (o : Option (List Given)) → given_all_apart callee.writes callee.procedure.params (option_map re_givens o) ≡ given_all_apart callee.writes callee.procedure.params o
      go None = refl
      go (Some gs) = all_apart_re callee.writes callee.procedure.params gs

  call_re : (o : Option Callee) (args : List Argument) (s : State) → call_to o (re_arguments r args) (re_state r s) ≡ option_map (re_state r) (call_to o args s)
  call_re None args s = refl
  call_re (Some callee) args s = ap₂ where_true (keeps_apart_re callee s.scene args) (copied_re callee args s) ∙ by_test (keeps_apart callee s.scene args)
    where
      by_test : (t : Bool) → where_true t (option_map (re_state r) (copied_call callee args s)) ≡ option_map (re_state r) (where_true t (copied_call callee args s))
      by_test true = refl
      by_test false = refl

  -- ---- trees

  Renames : (State → Option State) → (State → Option State) → Type 0
  Renames f g = (s : State) → f (re_state r s) ≡ option_map (re_state r) (g s)

  then_re : (o : Option State) (f g : State → Option State) → Renames f g → then_do (option_map (re_state r) o) f ≡ option_map (re_state r) (then_do o g)
  unfolding Renames
  then_re None f g h = refl
  then_re (Some t) f g h = h t

  left_re : (s : State) (o : Option State) → option_map (left (re_state r s)) (option_map (re_state r) o) ≡ option_map (re_state r) (option_map (left s) o)
  left_re s None = refl
  left_re s (Some t) = refl

  turn_re : (i : ℕ) (f g : State → Option State) (n : ℤ) → Renames f g → Renames (turn (r.to i) f n) (turn i g n)
  unfolding Renames
  turn_re i f g n h s = ap (λ t. option_map (left (re_state r s)) (f t)) (control_re i n s) ∙ ap (option_map (left (re_state r s))) (h (on_scene (with_control i n) s)) ∙ left_re s (g (on_scene (with_control i n) s))

  turns_re : (i : ℕ) (f g : State → Option State) → Renames f g → (ns : List ℤ) → Renames (turns (turn (r.to i) f) ns) (turns (turn i g) ns)
  unfolding Renames
  turns_re i f g h [] s = refl
  turns_re i f g h (n ∷ ns) s = ap (λ o. then_do o (turns (turn (r.to i) f) ns)) (turn_re i f g n h s) ∙ then_re (turn i g n s) (turns (turn (r.to i) f) ns) (turns (turn i g) ns) (turns_re i f g h ns)

  choose_re : (t : Bool) (a a' b b' : State → Option State) → Renames a a' → Renames b b' → Renames (choose t a b) (choose t a' b')
  unfolding Renames
  choose_re true a a' b b' h k = h
  choose_re false a a' b b' h k = k

  argument_re : (scene : Scene) (a : Argument) → argument_number (re_scene r scene) (re_argument r a) ≡ argument_number scene a
  argument_re scene (ControlArg a) = ap Some (number_re scene a)
  argument_re scene (ConditionArg c) = ap (λ t. Some (truth t)) (holds_re scene c)
  argument_re scene (Whole x) = refl
  argument_re scene (Window x coords) = refl

  configure_re : (world : World) (f : ℕ) (s : State) (o : Option ℤ) → then_do o (λ n. where_true (suits (world.kinds f) n) (Some (on_scene (with_field f n) (re_state r s)))) ≡ option_map (re_state r) (then_do o (λ n. where_true (suits (world.kinds f) n) (Some (on_scene (with_field f n) s))))
  configure_re world f s None = refl
  configure_re world f s (Some n) = go (suits (world.kinds f) n)
    where
      go : (t : Bool) → where_true t (Some (on_scene (with_field f n) (re_state r s))) ≡ option_map (re_state r) (where_true t (Some (on_scene (with_field f n) s)))
      go false = refl
      go true = refl

  allocate_re : (x : ℕ) (cell : Cell) (dims : List ℤ) → Renames (allocate (r.to x) cell dims) (allocate x cell dims)
  unfolding Renames
  allocate_re x cell dims s = go (all_positive dims)
    where
      go : (t : Bool) → where_true t (Some (with_contents (r.to x) (λ at. Undefined) (on_scene (with_buffer (r.to x) (tensor cell dims)) (re_state r s)))) ≡ option_map (re_state r) (where_true t (Some (with_contents x (λ at. Undefined) (on_scene (with_buffer x (tensor cell dims)) s))))
      go false = refl
      go true = ap Some (made_re x (tensor cell dims) s)

  view_re' : (w : ℕ) (s : State) (o : Option Seen) → then_do (option_map (re_seen r) o) (λ seen. Some (on_scene (with_view (r.to w) seen) (re_state r s))) ≡ option_map (re_state r) (then_do o (λ seen. Some (on_scene (with_view w seen) s)))
  view_re' w s None = refl
  view_re' w s (Some seen) = ap Some (seen_re w seen s)

  module _ (world : World) where
    mutual
      unfolding Renames

      run_re : (b : Block) → Renames (run world (re_block r b)) (run world b)
      run_re end = λ s. refl
      run_re (next a b) = λ s. ap (λ o. then_do o (run world (re_block r b))) (step_re a s) ∙ then_re (step world a s) (run world (re_block r b)) (run world b) (run_re b)

      step_re : (a : Statement) → Renames (step world (re_statement r a)) (step world a)
      step_re (Assign x is e) = λ s. store_re s x is e (λ v old. v)
      step_re (Reduce x is e) = λ s. store_re s x is e (λ v old. on_two ◌+ℤ◌ old v)
      step_re (Config f a) = λ s. ap (λ o. then_do o (λ n. where_true (suits (world.kinds f) n) (Some (on_scene (with_field f n) (re_state r s))))) (argument_re s.scene a) ∙ configure_re world f s (argument_number s.scene a)
      step_re Pass = λ s. refl
      step_re (If c a b) = λ s.
          ap (λ t. scoped (choose t (run world (re_block r a)) (run world (re_block r b))) (re_state r s)) (holds_re s.scene c)
          ∙ ap (option_map (left (re_state r s))) (choose_re (holds s.scene c) (run world (re_block r a)) (run world a) (run world (re_block r b)) (run world b) (run_re a) (run_re b) s)
          ∙ left_re s (choose (holds s.scene c) (run world a) (run world b) s)
      step_re (For i lo hi b) = λ s.
          ap₂ (λ m n. turns (turn (r.to i.id) (run world (re_block r b))) (range m (count (n -ℤ m))) (re_state r s)) (number_re s.scene lo) (number_re s.scene hi)
          ∙ turns_re i.id (run world (re_block r b)) (run world b) (run_re b) (turns_of s.scene lo hi) s
      step_re (Alloc x cell dims memory) = λ s. ap (λ ds. allocate (r.to x.id) cell ds (re_state r s)) (numbers_re s.scene dims) ∙ allocate_re x.id cell (numbers s.scene dims) s
      step_re (View w x coords) = λ s. ap (λ o. then_do o (λ seen. Some (on_scene (with_view (r.to w.id) seen) (re_state r s)))) (window_re s.scene x coords) ∙ view_re' w.id s (window s.scene x coords)
      step_re (Call k args) = call_re (world.callees k) args

pub runs_rename : RunsRename
unfolding Renames
runs_rename r world b s = run_re r world b s
