-- A call in two states that differ in strides.
use Rattle.std.proofs.Common.{◌≡◌, ℕ, ℤ, pos, ◌==◌, Bool, true, false, true≢false, ◌&&◌, ◌||◌, cond}
use Rattle.std.proofs.Common.{List, [], ◌∷◌, Option, Some, None, IfSome, option_map, refl, sym, ap}
use Rattle.std.proofs.Common.{ap₂, ◌∙◌, subst, eq-eqb, eqb-true}
use Rattle.exo_tree.specs.Tree.{Cell, Param, ParamKind, ControlParam, TensorParam, WindowParam}
use Rattle.exo_tree.specs.Tree.{Control, Argument, ControlArg, ConditionArg, Whole, Window}
use Rattle.exo_meaning.specs.Scene.{where_true}
use Rattle.exo_meaning.specs.Scene.{Shape, Seen, then_do, numbers, strides_seen, window}
use Rattle.exo_meaning.specs.Scene.{updated, whole, extents}
use Rattle.exo_meaning.specs.State.{State, same_index, on_scene, with_contents, with_buffer}
use Rattle.exo_meaning.specs.Calls.{given_all_apart}
use Rattle.exo_meaning.specs.Calls.{Callee, Given, GivenNumber, GivenView, given, all_given, contents}
use Rattle.exo_meaning.specs.Calls.{all_positive, bind_numbers, copy_in, bind_buffer, bind_buffers}
use Rattle.exo_meaning.specs.Calls.{bare, entered, copied_back, returned, run_asserted, all_hold}
use Rattle.exo_meaning.specs.Laws.{HasRoots}
use Rattle.exo_meaning.specs.Refines.{Both}
use Rattle.exo_meaning.specs.Run.{is_root, call_writes, call_to}
use Rattle.exo_meaning.proofs.Frame.{if_then, if_map, if_weaken, any, root_of, window_root}
use Rattle.exo_meaning.proofs.Windows.{none_is_some, one_value}
use Rattle.inplace_laws.specs.Uses.{in_controls}
use Rattle.buffer_laws.specs.Stride.Strides.{arguments_use, kind_uses, params_use}
use Rattle.buffer_laws.specs.Stride.Strides.{HaveOneSize, SameButStrides, WhereBoth, UsesNone}
use Rattle.buffer_laws.specs.Stride.Strides.{CalleeIsBlind}
use Rattle.buffer_laws.proofs.OfStride.Strides.{where_then, where_map, where_tests}
use Rattle.buffer_laws.proofs.OfStride.Strides.{where_equal, first_none, second_none, strides_same}
use Rattle.buffer_laws.proofs.OfStride.Strides.{numbers_same, all_given_same}
use Rattle.buffer_laws.specs.Staging.Alone.{has_root}
use Rattle.inplace_laws.specs.CallInPlace.{no_name}

-- ---- parameters that get a part of a blind buffer

abbrev is_blind : (ℕ → Bool) → Given → Bool
is_blind blind (GivenNumber n) = false
is_blind blind (GivenView seen) = blind seen.buffer

abbrev passed : (ℕ → Bool) → List Param → List Given → ℕ → Bool
passed blind [] gs x = false
passed blind (p ∷ ps) [] x = false
passed blind (p ∷ ps) (g ∷ gs) x =
    ((x == p.binder.id) && is_blind blind g) || passed blind ps gs x

left_false : (p q : Bool) → (p && q) ≡ false → q ≡ true → p ≡ false
left_false true q e k = absurd (true≢false (sym k ∙ e))
left_false false q e k = refl

-- the callee looks at no stride of those
module _ (sees : ℕ → Bool) (root : ℕ → ℕ) (blind : ℕ → Bool) (s : State)
    (roots : HasRoots root s.scene) where
  abbrev Told : List Param → List Given → Type 0
  Told ps gs = (x : ℕ) → passed blind ps gs x ≡ true → sees x ≡ false

  abbrev IsTold : ℕ → Given → Type 0
  IsTold x g = is_blind blind g ≡ true → sees x ≡ false

  told_at : (x y : ℕ) (seen : Seen) → UsesNone blind (λ z. sees x && (z == root y))
      → seen.buffer ≡ root y → IsTold x (GivenView seen)
  told_at x y seen u e k = left_false (sees x) (seen.buffer == root y) (u seen.buffer k)
      (eq-eqb seen.buffer (root y) e)

  told_one : (x : ℕ) (a : Argument) → UsesNone blind (λ y. sees x && is_root root y a)
      → IfSome (given s.scene a) (IsTold x)
  told_one x (ControlArg e) u = λ k. absurd (true≢false (sym k))
  told_one x (ConditionArg c) u = λ k. absurd (true≢false (sym k))
  told_one x (Whole y) u = if_map (λ seen. seen.buffer ≡ root y) (IsTold x) (s.scene.views y)
      GivenView (root_of root s.scene roots y) (λ seen e. told_at x y seen u e)
  told_one x (Window y coords) u = if_map (λ seen. seen.buffer ≡ root y) (IsTold x)
      (window s.scene y coords) GivenView (window_root root s.scene roots y coords)
      (λ seen e. told_at x y seen u e)

  told_next : (p : Param) (ps : List Param) (g : Given) (gs : List Given) → IsTold p.binder.id g
      → Told ps gs → Told (p ∷ ps) (g ∷ gs)
  told_next p ps g gs one rest x = go (x == p.binder.id) refl (is_blind blind g) refl
    where
      go : (t : Bool) → (x == p.binder.id) ≡ t → (b : Bool) → is_blind blind g ≡ b
          → ((t && b) || passed blind ps gs x) ≡ true → sees x ≡ false
      go true e true k m = ap sees (eqb-true x p.binder.id e) ∙ one k
      go true e false k m = rest x m
      go false e b k m = rest x m

  pub all_told : (ps : List Param) (args : List Argument)
      → UsesNone blind (λ y. call_writes sees root y ps args)
      → IfSome (all_given s.scene args) (Told ps)
  all_told [] args u = if_weaken (λ gs. Unit {0}) (Told []) (all_given s.scene args)
      (any (all_given s.scene args)) (λ gs v x k. absurd (true≢false (sym k)))
  all_told (p ∷ ps) [] u = λ x k. absurd (true≢false (sym k))
  all_told (p ∷ ps) (a ∷ rest) u =
      let one = λ (y : ℕ). sees p.binder.id && is_root root y a in
      let others = λ (y : ℕ). call_writes sees root y ps rest in
      if_then (IsTold p.binder.id) (Told (p ∷ ps)) (given s.scene a)
      (λ g. option_map (λ gs. g ∷ gs) (all_given s.scene rest))
      (told_one p.binder.id a (first_none blind one others u))
      (λ g i. if_map (Told ps) (Told (p ∷ ps)) (all_given s.scene rest) (λ gs. g ∷ gs)
      (all_told ps rest (second_none blind one others u)) (λ gs j. told_next p ps g gs i j))

-- ---- the callees' first states

module _ (root : ℕ → ℕ) (blind : ℕ → Bool) (s t : State) (roots : HasRoots root s.scene)
    (h : SameButStrides blind s t) where
  -- the names of the callee are its parameters, and inner is what is blind there
  module _ (inner : ℕ → Bool) where
    abbrev Enters : State → State → Type 0
    Enters i j = HasRoots (λ x. x) i.scene × SameButStrides inner i j

    abbrev IsLess : List Param → List Given → Type 0
    IsLess ps gs = (x : ℕ) → passed blind ps gs x ≡ true → inner x ≡ true

    module _ (i j : State) (e : Enters i j) (x : ℕ) (cell : Cell) (dims : List ℤ) (seen : Seen)
        (less : blind seen.buffer ≡ true → inner x ≡ true) where
      abbrev shape_in : State → Shape
      shape_in o = record { cell = cell; dims = dims; strides = strides_seen o.scene seen }

      abbrev made : State → State → State
      made o k = with_contents x (contents o.cells seen) (on_scene (with_buffer x (shape_in o)) k)

      shapes : (b : Bool) → blind seen.buffer ≡ b → inner x ≡ false → shape_in s ≡ shape_in t
      shapes true k m = absurd (true≢false (sym (less k) ∙ m))
      shapes false k m = ap (λ l. record { cell = cell; dims = dims; strides = l })
          (strides_same root blind s t roots h seen k)

      own : HasRoots (λ y. y) (made s i).scene
      own y z = go (y == x) refl
        where
          go : (b : Bool) → (y == x) ≡ b
              → cond b (Some (record { buffer = x; sides = whole dims })) (i.scene.views y) ≡ Some z
              → z.buffer ≡ y
          go true k m = ap (λ (w : Seen). w.buffer)
              (sym (one_value (record { buffer = x; sides = whole dims }) z m))
              ∙ sym (eqb-true y x k)
          go false k m = e.0 y z m

      pub made_enters : Enters (made s i) (made t j)
      made_enters = (
        own,
        record {
          control = e.1.control;
          fields = e.1.fields;
          views = ap (λ v. updated v x (Some (record { buffer = x; sides = whole dims }))) e.1.views;
          cells = ap₂ (λ c d. updated c x (contents d seen)) e.1.cells h.cells;
          buffers = λ y k. one y k (y == x) refl;
          sizes = λ y. size y (y == x);
        },
      )
        where
          one : (y : ℕ) → inner y ≡ false → (b : Bool) → (y == x) ≡ b
              → cond b (Some (shape_in s)) (i.scene.buffers y)
              ≡ cond b (Some (shape_in t)) (j.scene.buffers y)
          one y k true m = ap Some (shapes (blind seen.buffer) refl
              (ap inner (sym (eqb-true y x m)) ∙ k))
          one y k false m = e.1.buffers y k

          size : (y : ℕ) (b : Bool) → Both HaveOneSize
              (cond b (Some (shape_in s)) (i.scene.buffers y))
              (cond b (Some (shape_in t)) (j.scene.buffers y))
          size y true = record { cell = refl; dims = refl }
          size y false = e.1.sizes y

    copy_enters : (i j : State) → Enters i j → (x : ℕ) (cell : Cell) (dims es : List ℤ)
        (g : Given) → dims ≡ es → (is_blind blind g ≡ true → inner x ≡ true)
        → WhereBoth Enters (copy_in s x cell dims g i) (copy_in t x cell es g j)
    copy_enters i j e x cell dims es (GivenNumber n) k less = tt
    copy_enters i j e x cell dims es (GivenView seen) k less =
        subst (λ ds. WhereBoth Enters (copy_in s x cell dims (GivenView seen) i)
        (copy_in t x cell ds (GivenView seen) j)) k
        (where_tests Enters (same_index dims (extents seen.sides) && all_positive dims)
        (same_index dims (extents seen.sides) && all_positive dims)
        (Some (made i j e x cell dims seen less s i)) (Some (made i j e x cell dims seen less t j))
        (made_enters i j e x cell dims seen less))

    dims_same : (i j : State) → Enters i j → (dims : List Control)
        → UsesNone inner (λ y. in_controls no_name (has_root (λ x. x) y) dims)
        → numbers i.scene dims ≡ numbers j.scene dims
    dims_same i j e dims u = numbers_same (λ x. x) inner i j e.0 e.1 dims u

    buffer_enters : (i j : State) → Enters i j → (x : ℕ) (kind : ParamKind) (g : Given)
        → UsesNone inner (λ y. kind_uses y kind) → (is_blind blind g ≡ true → inner x ≡ true)
        → WhereBoth Enters (bind_buffer s x kind g i) (bind_buffer t x kind g j)
    buffer_enters i j e x (ControlParam kind) g u less = e
    buffer_enters i j e x (TensorParam cell dims memory) g u less =
        copy_enters i j e x cell (numbers i.scene dims) (numbers j.scene dims) g
        (dims_same i j e dims u) less
    buffer_enters i j e x (WindowParam cell dims memory) g u less =
        copy_enters i j e x cell (numbers i.scene dims) (numbers j.scene dims) g
        (dims_same i j e dims u) less

    less_one : (p : Param) (ps : List Param) (g : Given) (gs : List Given)
        → IsLess (p ∷ ps) (g ∷ gs) → is_blind blind g ≡ true → inner p.binder.id ≡ true
    less_one p ps g gs less k = less p.binder.id (ap₂ (λ a b. (a && b)
        || passed blind ps gs p.binder.id) (eq-eqb p.binder.id p.binder.id refl) k)

    less_rest : (p : Param) (ps : List Param) (g : Given) (gs : List Given)
        → IsLess (p ∷ ps) (g ∷ gs) → IsLess ps gs
    less_rest p ps g gs less x k = less x (go ((x == p.binder.id) && is_blind blind g) _ k)
      where
        go : (a b : Bool) → b ≡ true → (a || b) ≡ true
        go true b e = refl
        go false b e = e

    buffers_enter : (ps : List Param) (gs : List Given) → IsLess ps gs
        → UsesNone inner (λ y. params_use y ps) → (i j : State) → Enters i j
        → WhereBoth Enters (bind_buffers s ps gs i) (bind_buffers t ps gs j)
    buffers_enter [] gs less u i j e = e
    buffers_enter (p ∷ ps) [] less u i j e = tt
    buffers_enter (p ∷ ps) (g ∷ gs) less u i j e = where_then Enters Enters
        (bind_buffer s p.binder.id p.kind g i) (bind_buffer t p.binder.id p.kind g j)
        (bind_buffers s ps gs) (bind_buffers t ps gs)
        (buffer_enters i j e p.binder.id p.kind g
        (first_none inner (λ y. kind_uses y p.kind) (λ y. params_use y ps) u)
        (less_one p ps g gs less))
        (λ a b k. buffers_enter ps gs (less_rest p ps g gs less)
        (second_none inner (λ y. kind_uses y p.kind) (λ y. params_use y ps) u) a b k)

    bare_enters : (control : ℕ → ℤ) → Enters (bare control s.scene.fields)
        (bare control t.scene.fields)
    bare_enters control = (
      λ x z k. absurd (none_is_some k),
      record {
        control = refl;
        views = refl;
        fields = h.fields;
        cells = refl;
        buffers = λ b k. refl;
        sizes = λ b. tt;
      },
    )

    entered_both : (ps : List Param) (gs : List Given) → IsLess ps gs
        → UsesNone inner (λ y. params_use y ps)
        → WhereBoth Enters (entered ps gs s) (entered ps gs t)
    entered_both ps gs less u = where_then (λ a b. a ≡ b) Enters
        (bind_numbers ps gs (λ x. pos 0)) (bind_numbers ps gs (λ x. pos 0))
        (λ control. bind_buffers s ps gs (bare control s.scene.fields))
        (λ control. bind_buffers t ps gs (bare control t.scene.fields))
        (where_equal _ _ refl) (λ a b k. subst (λ c. WhereBoth Enters
        (bind_buffers s ps gs (bare a s.scene.fields))
        (bind_buffers t ps gs (bare c t.scene.fields))) k
        (buffers_enter ps gs less u (bare a s.scene.fields) (bare a t.scene.fields)
        (bare_enters a)))

  -- ---- the call

  returned_same : (c : Callee) (gs : List Given) (inner : ℕ → Bool) (a b : State)
      → SameButStrides inner a b → SameButStrides blind (returned c gs s a) (returned c gs t b)
  returned_same c gs inner a b k = record {
    control = h.control;
    views = h.views;
    fields = k.fields;
    buffers = h.buffers;
    sizes = h.sizes;
    cells = ap₂ (λ copies cells. copied_back c.writes c.procedure.params gs copies cells) k.cells
        h.cells;
  }

  module _ (c : Callee) (sees : ℕ → Bool) (runs : CalleeIsBlind sees c)
      (dims : (y : ℕ) → sees y ≡ false → params_use y c.procedure.params ≡ false) where
    with_given : (gs : List Given) → Told sees root blind s roots c.procedure.params gs
        → WhereBoth (SameButStrides blind)
        (then_do (entered c.procedure.params gs s) (λ i. option_map (returned c gs s)
        (run_asserted c i)))
        (then_do (entered c.procedure.params gs t) (λ i. option_map (returned c gs t)
        (run_asserted c i)))
    with_given gs told =
        let inner = passed blind c.procedure.params gs in
        where_then (Enters inner) (SameButStrides blind) (entered c.procedure.params gs s)
        (entered c.procedure.params gs t) (λ i. option_map (returned c gs s) (run_asserted c i))
        (λ i. option_map (returned c gs t) (run_asserted c i))
        (entered_both inner c.procedure.params gs (λ x k. k) (λ y k. dims y (told y k)))
        (λ i j e. where_map (SameButStrides inner) (SameButStrides blind) (run_asserted c i)
        (run_asserted c j) (returned c gs s) (returned c gs t)
        (where_tests (SameButStrides inner) (all_hold i.scene c.procedure.asserts)
        (all_hold j.scene c.procedure.asserts) (c.run i) (c.run j)
        (runs inner i j told e.0 e.1))
        (λ a b k. returned_same c gs inner a b k))

    pub call_both : (args : List Argument) → UsesNone blind (λ y. arguments_use root y args)
        → UsesNone blind (λ y. call_writes sees root y c.procedure.params args)
        → WhereBoth (SameButStrides blind) (call_to (Some c) args s) (call_to (Some c) args t)
    call_both args u v = go (all_given s.scene args) (all_given t.scene args)
        (all_given_same root blind s t roots h args u)
        (all_told sees root blind s roots c.procedure.params args v)
      where
        go : (o q : Option (List Given)) → o ≡ q
            → IfSome o (Told sees root blind s roots c.procedure.params)
            → WhereBoth (SameButStrides blind)
            (where_true (given_all_apart c.writes c.procedure.params o)
            (then_do o (λ gs. then_do (entered c.procedure.params gs s) (λ i.
            option_map (returned c gs s) (run_asserted c i)))))
            (where_true (given_all_apart c.writes c.procedure.params q)
            (then_do q (λ gs. then_do (entered c.procedure.params gs t) (λ i.
            option_map (returned c gs t) (run_asserted c i)))))
        go o q k told = subst (λ z. WhereBoth (SameButStrides blind)
            (where_true (given_all_apart c.writes c.procedure.params o)
            (then_do o (λ gs. then_do (entered c.procedure.params gs s) (λ i.
            option_map (returned c gs s) (run_asserted c i)))))
            (where_true (given_all_apart c.writes c.procedure.params z)
            (then_do z (λ gs. then_do (entered c.procedure.params gs t) (λ i.
            option_map (returned c gs t) (run_asserted c i)))))) k
            (where_tests (SameButStrides blind) (given_all_apart c.writes c.procedure.params o)
            (given_all_apart c.writes c.procedure.params o) _ _ (at_once o told))
          where
            at_once : (o : Option (List Given))
                → IfSome o (Told sees root blind s roots c.procedure.params)
                → WhereBoth (SameButStrides blind)
                (then_do o (λ gs. then_do (entered c.procedure.params gs s) (λ i.
                option_map (returned c gs s) (run_asserted c i))))
                (then_do o (λ gs. then_do (entered c.procedure.params gs t) (λ i.
                option_map (returned c gs t) (run_asserted c i))))
            at_once None told = tt
            at_once (Some gs) told = with_given gs told
