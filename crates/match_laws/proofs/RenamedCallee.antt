-- A call of a callee with other ids is a call of the callee.
use Rattle.std.proofs.Common.{◌≡◌, ℕ, ℤ, pos, neg_ℤ, ◌+ℤ◌, ◌-ℤ◌, ◌*ℤ◌, ◌==◌, int_lt, int_le, Bool}
use Rattle.std.proofs.Common.{true, false, not, cond, ◌&&◌, ◌||◌, List, [], ◌∷◌, Option, Some, None}
use Rattle.std.proofs.Common.{option_map, refl, sym, ap, ap₂, ◌∙◌, eqb-true, eq-eqb}
use Rattle.std.proofs.Math.Path.{fun_ext}
use Rattle.std.specs.Bool.{one_answer}
use Rattle.std.specs.Ordering.{int_eq}
use Rattle.std.specs.Int.{int_div_euclid, int_rem_euclid}
use Rattle.exo_tree.specs.Tree.{Cell, Control, Lit, Var, Field, StrideOf, Neg, Add, Sub, Mul, Div}
use Rattle.exo_tree.specs.Tree.{Mod, Condition, True, False, Flag, FieldFlag, Lt, Le, Gt, Ge, Eq}
use Rattle.exo_tree.specs.Tree.{And}
use Rattle.exo_tree.specs.Tree.{Or, Argument, ControlArg, ConditionArg, Whole, Window, Statement}
use Rattle.exo_tree.specs.Tree.{Assign, Reduce, Config, Pass, If, For, Alloc, View, Call, Block}
use Rattle.exo_tree.specs.Tree.{end}
use Rattle.exo_tree.specs.Tree.{next, ParamKind, ControlParam, TensorParam, WindowParam, Param}
use Rattle.exo_tree.specs.Tree.{Procedure}
use Rattle.exo_meaning.specs.Value.{Value}
use Rattle.exo_meaning.specs.Scene.{is_set, Shape, Seen, Scene, then_do, number, numbers, holds}
use Rattle.exo_meaning.specs.Scene.{stride_at, strides_seen, where_true, updated, whole, extents}
use Rattle.exo_meaning.specs.State.{State, Cells, same_index, on_scene, with_contents, with_buffer}
use Rattle.exo_meaning.specs.Calls.{Callee, Given, GivenNumber, GivenView, all_given, suits}
use Rattle.exo_meaning.specs.Calls.{all_positive, bind_number, bind_numbers, copy_in, bind_buffer}
use Rattle.exo_meaning.specs.Calls.{bind_buffers, bare, entered, contents, copy_back, copied_back}
use Rattle.exo_meaning.specs.Calls.{returned, all_hold, run_asserted, given_apart, apart_from}
use Rattle.exo_meaning.specs.Calls.{all_apart, given_all_apart}
use Rattle.exo_meaning.specs.Run.{World, run, call_to, callee_in, writes, step_writes, roots_after}
use Rattle.exo_meaning.specs.Run.{is_root, call_writes, call_to_writes}
use Rattle.exo_meaning.specs.Renaming.{Renaming, re_control, re_controls, re_condition, re_argument}
use Rattle.exo_meaning.specs.Renaming.{re_arguments, re_statement, re_block, re_seen, re_scene}
use Rattle.exo_meaning.specs.Renaming.{re_state}
use Rattle.exo_meaning.proofs.Renamed.{runs_rename}
use Rattle.match_laws.specs.RenamedCallee.{re_kind, re_params, re_conditions}
use Rattle.match_laws.specs.RenamedCallee.{re_procedure, RenamedCallee}

module _ (r : Renaming) where
  -- ---- ids

  same_test : (x k : ℕ) → (x == r.to k) ≡ (r.from x == k)
  same_test x k = one_answer {P = r.from x ≡ k} (x == r.to k) (r.from x == k) (
    (λ e. ap r.from (eqb-true x (r.to k) e) ∙ r.from_to k),
    (λ e. eq-eqb x (r.to k) (sym (r.to_from x) ∙ ap r.to e)),
  ) (eqb-true (r.from x) k, eq-eqb (r.from x) k)

  pub same_ids : (x k : ℕ) → (r.to x == r.to k) ≡ (x == k)
  same_ids x k = same_test (r.to x) k ∙ ap (λ y. y == k) (r.from_to x)

  updated_re : {A : Type 0} (f : ℕ → A) (k : ℕ) (v : A)
      → updated (λ x. f (r.from x)) (r.to k) v ≡ (λ x. updated f k v (r.from x))
  updated_re f k v = fun_ext (λ x. ap (λ t. cond t v (f (r.from x))) (same_test x k))

  -- ---- numbers

  module _ (scene : Scene) where
    view_re : (x : ℕ)
        → (re_scene r scene).views (r.to x) ≡ option_map (re_seen r) (scene.views x)
    view_re x = ap (λ y. option_map (re_seen r) (scene.views y)) (r.from_to x)

    stride_re : (o : Option Seen) (k : ℕ)
        → stride_at (re_scene r scene) (option_map (re_seen r) o) k ≡ stride_at scene o k
    stride_re None k = refl
    stride_re (Some seen) k =
        ap (λ y. stride_at scene (Some (record { buffer = y; sides = seen.sides })) k)
        (r.from_to seen.buffer)

    number_re : (e : Control) → number (re_scene r scene) (re_control r e) ≡ number scene e
    number_re (Lit n) = refl
    number_re (Var x) = ap scene.control (r.from_to x)
    number_re (Field f) = refl
    number_re (StrideOf x k) =
        ap (λ o. stride_at (re_scene r scene) o k) (view_re x) ∙ stride_re (scene.views x) k
    number_re (Neg a) = ap neg_ℤ (number_re a)
    number_re (Add a b) = ap₂ ◌+ℤ◌ (number_re a) (number_re b)
    number_re (Sub a b) = ap₂ ◌-ℤ◌ (number_re a) (number_re b)
    number_re (Mul a b) = ap₂ ◌*ℤ◌ (number_re a) (number_re b)
    number_re (Div a c) = ap (λ n. int_div_euclid n c) (number_re a)
    number_re (Mod a c) = ap (λ n. int_rem_euclid n c) (number_re a)

    numbers_re : (es : List Control)
        → numbers (re_scene r scene) (re_controls r es) ≡ numbers scene es
    numbers_re [] = refl
    numbers_re (e ∷ es) = ap₂ ◌∷◌ (number_re e) (numbers_re es)

    holds_re : (c : Condition) → holds (re_scene r scene) (re_condition r c) ≡ holds scene c
    holds_re True = refl
    holds_re False = refl
    holds_re (Flag x) = ap (λ y. is_set (scene.control y)) (r.from_to x)
    holds_re (FieldFlag f) = refl
    holds_re (Lt a b) = ap₂ int_lt (number_re a) (number_re b)
    holds_re (Le a b) = ap₂ int_le (number_re a) (number_re b)
    holds_re (Gt a b) = ap₂ int_lt (number_re b) (number_re a)
    holds_re (Ge a b) = ap₂ int_le (number_re b) (number_re a)
    holds_re (Eq a b) = ap₂ int_eq (number_re a) (number_re b)
    holds_re (And c d) = ap₂ ◌&&◌ (holds_re c) (holds_re d)
    holds_re (Or c d) = ap₂ ◌||◌ (holds_re c) (holds_re d)

    all_hold_re : (cs : List Condition)
        → all_hold (re_scene r scene) (re_conditions r cs) ≡ all_hold scene cs
    all_hold_re [] = refl
    all_hold_re (c ∷ cs) = ap₂ ◌&&◌ (holds_re c) (all_hold_re cs)

  -- ---- the first state

  abbrev re_numbers : (ℕ → ℤ) → ℕ → ℤ
  re_numbers c x = c (r.from x)

  where_re : {A B : Type 0} (f : A → B) (t : Bool) (a : A)
      → where_true t (Some (f a)) ≡ option_map f (where_true t (Some a))
  where_re f true a = refl
  where_re f false a = refl

  number_bound : (x : ℕ) (kind : ParamKind) (g : Given) (c : ℕ → ℤ)
      → bind_number (r.to x) (re_kind r kind) g (re_numbers c)
      ≡ option_map re_numbers (bind_number x kind g c)
  number_bound x (ControlParam kind) (GivenNumber n) c =
      ap (λ f. where_true (suits kind n) (Some f)) (updated_re c x n)
      ∙ where_re re_numbers (suits kind n) (updated c x n)
  number_bound x (ControlParam kind) (GivenView seen) c = refl
  number_bound x (TensorParam cell dims memory) g c = refl
  number_bound x (WindowParam cell dims memory) g c = refl

  numbers_bound : (ps : List Param) (gs : List Given) (c : ℕ → ℤ)
      → bind_numbers (re_params r ps) gs (re_numbers c)
      ≡ option_map re_numbers (bind_numbers ps gs c)
  numbers_bound [] [] c = refl
  numbers_bound [] (g ∷ gs) c = refl
  numbers_bound (p ∷ ps) [] c = refl
  numbers_bound (p ∷ ps) (g ∷ gs) c =
      ap (λ o. then_do o (bind_numbers (re_params r ps) gs)) (number_bound p.binder.id p.kind g c)
      ∙ go (λ d. numbers_bound ps gs d) (bind_number p.binder.id p.kind g c)
    where
      go : ((d : ℕ → ℤ) → bind_numbers (re_params r ps) gs (re_numbers d)
          ≡ option_map re_numbers (bind_numbers ps gs d))
          → (o : Option (ℕ → ℤ))
          → then_do (option_map re_numbers o) (bind_numbers (re_params r ps) gs)
          ≡ option_map re_numbers (then_do o (bind_numbers ps gs))
      go again None = refl
      go again (Some d) = again d

  made_re : (x : ℕ) (shape : Shape) (held : List ℤ → Value) (s : State)
      → with_contents (r.to x) held (on_scene (with_buffer (r.to x) shape) (re_state r s))
      ≡ re_state r (with_contents x held (on_scene (with_buffer x shape) s))
  made_re x shape held s =
      λ i. record {
        scene = record {
          control = λ y. s.scene.control (r.from y);
          buffers = updated_re s.scene.buffers x (Some shape) i;
          views = views i;
          fields = s.scene.fields;
        };
        cells = updated_re s.cells x held i;
      }
    where
      views : updated (λ y. option_map (re_seen r) (s.scene.views (r.from y))) (r.to x)
          (Some (record { buffer = r.to x; sides = whole shape.dims }))
          ≡ (λ y. option_map (re_seen r) (updated s.scene.views x
          (Some (record { buffer = x; sides = whole shape.dims })) (r.from y)))
      views = fun_ext (λ y. ap (λ t. cond t
          (Some (record { buffer = r.to x; sides = whole shape.dims }))
          (option_map (re_seen r) (s.scene.views (r.from y)))) (same_test y x)
          ∙ go y (r.from y == x))
        where
          go : (y : ℕ) (t : Bool) → cond t
              (Some (record { buffer = r.to x; sides = whole shape.dims }))
              (option_map (re_seen r) (s.scene.views (r.from y)))
              ≡ option_map (re_seen r) (cond t
              (Some (record { buffer = x; sides = whole shape.dims })) (s.scene.views (r.from y)))
          go y true = refl
          go y false = refl

  module _ (outer : State) where
    copied_re : (x : ℕ) (cell : Cell) (dims : List ℤ) (g : Given) (s : State)
        → copy_in outer (r.to x) cell dims g (re_state r s)
        ≡ option_map (re_state r) (copy_in outer x cell dims g s)
    copied_re x cell dims (GivenNumber n) s = refl
    copied_re x cell dims (GivenView seen) s =
        let shape : Shape = record {
          cell = cell;
          dims = dims;
          strides = strides_seen outer.scene seen;
        } in
        let made : State =
        with_contents x (contents outer.cells seen) (on_scene (with_buffer x shape) s) in
        ap (λ z. where_true (same_index dims (extents seen.sides) && all_positive dims) (Some z))
        (made_re x shape (contents outer.cells seen) s)
        ∙ where_re (re_state r) (same_index dims (extents seen.sides) && all_positive dims) made

    buffer_bound : (x : ℕ) (kind : ParamKind) (g : Given) (s : State)
        → bind_buffer outer (r.to x) (re_kind r kind) g (re_state r s)
        ≡ option_map (re_state r) (bind_buffer outer x kind g s)
    buffer_bound x (ControlParam kind) g s = refl
    buffer_bound x (TensorParam cell dims memory) g s =
        ap (λ ns. copy_in outer (r.to x) cell ns g (re_state r s)) (numbers_re s.scene dims)
        ∙ copied_re x cell (numbers s.scene dims) g s
    buffer_bound x (WindowParam cell dims memory) g s =
        ap (λ ns. copy_in outer (r.to x) cell ns g (re_state r s)) (numbers_re s.scene dims)
        ∙ copied_re x cell (numbers s.scene dims) g s

    buffers_bound : (ps : List Param) (gs : List Given) (s : State)
        → bind_buffers outer (re_params r ps) gs (re_state r s)
        ≡ option_map (re_state r) (bind_buffers outer ps gs s)
    buffers_bound [] gs s = refl
    buffers_bound (p ∷ ps) [] s = refl
    buffers_bound (p ∷ ps) (g ∷ gs) s =
        ap (λ o. then_do o (bind_buffers outer (re_params r ps) gs))
        (buffer_bound p.binder.id p.kind g s)
        ∙ go (λ t. buffers_bound ps gs t) (bind_buffer outer p.binder.id p.kind g s)
      where
        go : ((t : State) → bind_buffers outer (re_params r ps) gs (re_state r t)
            ≡ option_map (re_state r) (bind_buffers outer ps gs t))
            → (o : Option State)
            → then_do (option_map (re_state r) o) (bind_buffers outer (re_params r ps) gs)
            ≡ option_map (re_state r) (then_do o (bind_buffers outer ps gs))
        go again None = refl
        go again (Some t) = again t

    entered_re : (ps : List Param) (gs : List Given)
        → entered (re_params r ps) gs outer ≡ option_map (re_state r) (entered ps gs outer)
    entered_re ps gs =
        ap (λ o. then_do o
        (λ c. bind_buffers outer (re_params r ps) gs (bare c outer.scene.fields)))
        (numbers_bound ps gs (λ x. pos 0))
        ∙ go (bind_numbers ps gs (λ x. pos 0))
      where
        go : (o : Option (ℕ → ℤ))
            → then_do (option_map re_numbers o)
            (λ c. bind_buffers outer (re_params r ps) gs (bare c outer.scene.fields))
            ≡ option_map (re_state r)
            (then_do o (λ c. bind_buffers outer ps gs (bare c outer.scene.fields)))
        go None = refl
        go (Some c) = buffers_bound ps gs (bare c outer.scene.fields)

  -- ---- what the callee may store in

  module _ (world : World) where
    -- the roots under other ids
    abbrev re_roots : (ℕ → ℕ) → ℕ → ℕ
    re_roots root x = r.to (root (r.from x))

    root_re : (root : ℕ → ℕ) (x : ℕ) → re_roots root (r.to x) ≡ r.to (root x)
    root_re root x = ap (λ y. r.to (root y)) (r.from_to x)

    is_at : (root : ℕ → ℕ) (y x : ℕ) → (r.to y == re_roots root (r.to x)) ≡ (y == root x)
    is_at root y x = ap (λ z. r.to y == z) (root_re root x) ∙ same_ids y (root x)

    with_root : (root : ℕ → ℕ) (w x : ℕ)
        → updated (re_roots root) (r.to w) (r.to x) ≡ re_roots (updated root w x)
    with_root root w x = fun_ext (λ y. ap (λ t. cond t (r.to x) (r.to (root (r.from y))))
        (same_test y w) ∙ go y (r.from y == w))
      where
        go : (y : ℕ) (t : Bool)
            → cond t (r.to x) (r.to (root (r.from y))) ≡ r.to (cond t x (root (r.from y)))
        go y true = refl
        go y false = refl

    roots_re : (a : Statement) (root : ℕ → ℕ)
        → roots_after (re_statement r a) (re_roots root) ≡ re_roots (roots_after a root)
    roots_re (Assign x is e) root = refl
    roots_re (Reduce x is e) root = refl
    roots_re (Config f a) root = refl
    roots_re Pass root = refl
    roots_re (If c a b) root = refl
    roots_re (For i lo hi b) root = refl
    roots_re (Alloc x cell dims memory) root = with_root root x.id x.id
    roots_re (View w x coords) root =
        ap (λ z. updated (re_roots root) (r.to w.id) z) (root_re root x)
        ∙ with_root root w.id (root x)
    roots_re (Call k args) root = refl

    is_root_re : (root : ℕ → ℕ) (y : ℕ) (a : Argument)
        → is_root (re_roots root) (r.to y) (re_argument r a) ≡ is_root root y a
    is_root_re root y (ControlArg e) = refl
    is_root_re root y (ConditionArg c) = refl
    is_root_re root y (Whole x) = is_at root y x
    is_root_re root y (Window x coords) = is_at root y x

    call_writes_re : (w : ℕ → Bool) (root : ℕ → ℕ) (y : ℕ) (ps : List Param)
        (args : List Argument)
        → call_writes w (re_roots root) (r.to y) ps (re_arguments r args)
        ≡ call_writes w root y ps args
    call_writes_re w root y [] args = refl
    call_writes_re w root y (p ∷ ps) [] = refl
    call_writes_re w root y (p ∷ ps) (a ∷ args) =
        ap₂ (λ s t. (w p.binder.id && s) || t) (is_root_re root y a)
        (call_writes_re w root y ps args)

    call_to_writes_re : (o : Option Callee) (root : ℕ → ℕ) (y : ℕ) (args : List Argument)
        → call_to_writes o (re_roots root) (r.to y) (re_arguments r args)
        ≡ call_to_writes o root y args
    call_to_writes_re None root y args = refl
    call_to_writes_re (Some callee) root y args =
        call_writes_re callee.writes root y callee.procedure.params args

    mutual
      writes_re : (b : Block) (root : ℕ → ℕ) (y : ℕ)
          → writes world (re_roots root) (re_block r b) (r.to y) ≡ writes world root b y
      writes_re end root y = refl
      writes_re (next a b) root y =
          ap₂ ◌||◌ (step_writes_re a root y)
          (ap (λ f. writes world f (re_block r b) (r.to y)) (roots_re a root)
          ∙ writes_re b (roots_after a root) y)

      step_writes_re : (a : Statement) (root : ℕ → ℕ) (y : ℕ)
          → step_writes world (re_roots root) (re_statement r a) (r.to y)
          ≡ step_writes world root a y
      step_writes_re (Assign x is e) root y = is_at root y x
      step_writes_re (Reduce x is e) root y = is_at root y x
      step_writes_re (Config f a) root y = refl
      step_writes_re Pass root y = refl
      step_writes_re (If c a b) root y = ap₂ ◌||◌ (writes_re a root y) (writes_re b root y)
      step_writes_re (For i lo hi b) root y = writes_re b root y
      step_writes_re (Alloc x cell dims memory) root y = same_ids y x.id
      step_writes_re (View w x coords) root y = refl
      step_writes_re (Call k args) root y = call_to_writes_re (world.callees k) root y args

    own_writes : (b : Block) (y : ℕ)
        → writes world (λ x. x) (re_block r b) (r.to y) ≡ writes world (λ x. x) b y
    own_writes b y =
        ap (λ f. writes world f (re_block r b) (r.to y)) (sym (fun_ext r.to_from))
        ∙ writes_re b (λ x. x) y

  -- ---- the way back

  copied_back_re : (w v : ℕ → Bool) → ((x : ℕ) → w (r.to x) ≡ v x)
      → (ps : List Param) (gs : List Given) (copies cells : Cells)
      → copied_back w (re_params r ps) gs (λ b. copies (r.from b)) cells
      ≡ copied_back v ps gs copies cells
  copied_back_re w v same [] gs copies cells = refl
  copied_back_re w v same (p ∷ ps) [] copies cells = refl
  copied_back_re w v same (p ∷ ps) (g ∷ gs) copies cells =
      ap₂ (λ t x. copied_back w (re_params r ps) gs (λ b. copies (r.from b))
      (copy_back t g (copies x) cells)) (same p.binder.id) (r.from_to p.binder.id)
      ∙ copied_back_re w v same ps gs copies
      (copy_back (v p.binder.id) g (copies p.binder.id) cells)

  -- ---- windows of one call

  apart_from_re : (w v : ℕ → Bool) → ((x : ℕ) → w (r.to x) ≡ v x)
      → (x : ℕ) (g : Given) (ps : List Param) (gs : List Given)
      → apart_from w (r.to x) g (re_params r ps) gs ≡ apart_from v x g ps gs
  apart_from_re w v same x g [] gs = refl
  apart_from_re w v same x g (q ∷ qs) [] = refl
  apart_from_re w v same x g (q ∷ qs) (h ∷ hs) =
      ap₂ ◌&&◌ (ap₂ (λ s t. not (s || t) || given_apart g h) (same x) (same q.binder.id))
      (apart_from_re w v same x g qs hs)

  all_apart_re : (w v : ℕ → Bool) → ((x : ℕ) → w (r.to x) ≡ v x)
      → (ps : List Param) (gs : List Given)
      → all_apart w (re_params r ps) gs ≡ all_apart v ps gs
  all_apart_re w v same [] gs = refl
  all_apart_re w v same (p ∷ ps) [] = refl
  all_apart_re w v same (p ∷ ps) (g ∷ gs) =
      ap₂ ◌&&◌ (apart_from_re w v same p.binder.id g ps gs) (all_apart_re w v same ps gs)

  module _ (above : World) (q : Procedure) where
    abbrev renamed : Callee
    renamed = callee_in above (re_procedure r q)

    abbrev callee : Callee
    callee = callee_in above q

    returned_re : (gs : List Given) (s t : State)
        → returned renamed gs s (re_state r t) ≡ returned callee gs s t
    returned_re gs s t =
        ap (λ (c : Cells). record {
          scene = record s.scene { fields = t.scene.fields };
          cells = c;
        }) (copied_back_re renamed.writes callee.writes (own_writes above q.body) q.params gs
        t.cells s.cells)

    asserted_re : (t : State)
        → run_asserted renamed (re_state r t) ≡ option_map (re_state r) (run_asserted callee t)
    asserted_re t =
        ap₂ where_true (all_hold_re t.scene q.asserts) (runs_rename r above q.body t)
        ∙ go (all_hold t.scene q.asserts)
      where
        go : (h : Bool) → where_true h (option_map (re_state r) (run above q.body t))
            ≡ option_map (re_state r) (where_true h (run above q.body t))
        go true = refl
        go false = refl

    ends_re : (gs : List Given) (s : State) (o : Option State)
        → option_map (returned renamed gs s) (option_map (re_state r) o)
        ≡ option_map (returned callee gs s) o
    ends_re gs s None = refl
    ends_re gs s (Some t) = ap Some (returned_re gs s t)

    given_re : (s : State) (gs : List Given)
        → then_do (entered (re_params r q.params) gs s)
        (λ inner. option_map (returned renamed gs s) (run_asserted renamed inner))
        ≡ then_do (entered q.params gs s)
        (λ inner. option_map (returned callee gs s) (run_asserted callee inner))
    given_re s gs =
        ap (λ o. then_do o
        (λ inner. option_map (returned renamed gs s) (run_asserted renamed inner)))
        (entered_re s q.params gs)
        ∙ go (entered q.params gs s)
      where
        go : (o : Option State)
            → then_do (option_map (re_state r) o)
            (λ inner. option_map (returned renamed gs s) (run_asserted renamed inner))
            ≡ then_do o (λ inner. option_map (returned callee gs s) (run_asserted callee inner))
        go None = refl
        go (Some t) =
            ap (option_map (returned renamed gs s)) (asserted_re t)
            ∙ ends_re gs s (run_asserted callee t)

    tested_re : (o : Option (List Given))
        → given_all_apart renamed.writes (re_params r q.params) o
        ≡ given_all_apart callee.writes q.params o
    tested_re None = refl
    tested_re (Some gs) =
        all_apart_re renamed.writes callee.writes (own_writes above q.body) q.params gs

    call_re : (args : List Argument) (s : State)
        → call_to (Some renamed) args s ≡ call_to (Some callee) args s
    call_re args s = ap₂ where_true (tested_re (all_given s.scene args))
        (ap (then_do (all_given s.scene args)) (fun_ext (given_re s)))

pub renamed_callee : RenamedCallee
renamed_callee r above q args s = call_re r above q args s
