-- What a block sets does not depend on what it does not look at.
use Rattle.std.proofs.Common.{◌≡◌, ℕ, zero, suc, ℤ, pos, ◌+ℤ◌, ◌-ℤ◌, ◌*ℤ◌, ◌==◌, Bool, true, false}
use Rattle.std.proofs.Common.{true≢false, cond, ◌&&◌, ◌||◌, List, [], ◌∷◌, ◌++◌, Option, Some, None}
use Rattle.std.proofs.Common.{IfSome, option_map, refl, sym, ap, ap₂, ◌∙◌, subst, eqb-true, eq-eqb}
use Rattle.std.specs.Prelude.{slice_get}
use Rattle.std.proofs.Math.Path.{fun_ext}
use Rattle.exo_tree.specs.Tree.{Cell, Kind, Control, Condition, Datum, Const, Read, Negated, Relu}
use Rattle.exo_tree.specs.Tree.{Plus, Minus, Times, Select, Argument, ControlArg, ConditionArg}
use Rattle.exo_tree.specs.Tree.{Whole, Window, Statement, Assign, Reduce, Config, Pass, If, For}
use Rattle.exo_tree.specs.Tree.{Alloc, View, Call, Block, end, next, Param, ParamKind, ControlParam}
use Rattle.exo_tree.specs.Tree.{TensorParam, WindowParam, Procedure, ConfigField}
use Rattle.exo_meaning.specs.Value.{Value, Undefined, stored_as, on_one, on_two, on_four, relu}
use Rattle.exo_meaning.specs.Value.{selected}
use Rattle.exo_meaning.specs.Scene.{Shape, Seen, Scene, then_do, where_true, updated, numbers}
use Rattle.exo_meaning.specs.Scene.{holds, window, whole, cell_at, index_of, extents, strides_seen}
use Rattle.exo_meaning.specs.State.{State, Cells, Place, place, is_there, held, changed, put, value}
use Rattle.exo_meaning.specs.State.{kept, left, scoped, same_index, on_scene, with_control}
use Rattle.exo_meaning.specs.State.{with_field, with_view, with_contents, with_buffer}
use Rattle.exo_meaning.specs.Calls.{given_all_apart, keeps_apart, copied_call}
use Rattle.exo_meaning.specs.Calls.{Callee, Given, GivenNumber, GivenView, given, all_given, truth}
use Rattle.exo_meaning.specs.Calls.{suits, all_positive, held_at, contents, bind_number}
use Rattle.exo_meaning.specs.Calls.{bind_numbers, copy_in, bind_buffer, bind_buffers, bare, entered}
use Rattle.exo_meaning.specs.Calls.{value_or, copy_back, copied_back, returned, all_hold}
use Rattle.exo_meaning.specs.Calls.{run_asserted}
use Rattle.exo_meaning.specs.Run.{World, run, step, call_to, turn, turns, turns_of, range, count}
use Rattle.exo_meaning.specs.Run.{choose, argument_number, tensor, allocate, roots_after, is_root}
use Rattle.exo_meaning.specs.Run.{call_writes, world_of, callee_in, callees, kinds_of, unit_world}
use Rattle.exo_meaning.specs.Inputs.{is_buffer_of}
use Rattle.exo_meaning.specs.Laws.{HasRoots}
use Rattle.exo_meaning.specs.Refines.{Both}
use Rattle.exo_meaning.specs.Units.{field_kind, AreProcedures}
use Rattle.exo_meaning.proofs.Both.{both_then, both_map, both_where}
use Rattle.exo_meaning.proofs.Cells.{there_is}
use Rattle.exo_meaning.proofs.Frame.{if_then, if_map, if_where, any, if_weaken, or_parts}
use Rattle.exo_meaning.proofs.Frame.{updated_other, root_of, place_root, window_root}
use Rattle.exo_meaning.proofs.Windows.{cell_at_index}
use Rattle.meaning_laws.specs.Live.{read_by_control, read_by_controls, read_by_condition}
use Rattle.meaning_laws.specs.Live.{read_by_datum, read_by_coords, read_by_argument}
use Rattle.meaning_laws.specs.Live.{read_by_arguments, live, live_step, Agree}
use Rattle.meaning_laws.specs.UnitFields.{read_by_conditions, read_by_kind, read_by_params}
use Rattle.meaning_laws.specs.UnitFields.{live_before, live_at, all_live, unit_live}
use Rattle.meaning_laws.specs.Touched.{Mode, Reading, Reducing, Modes, reads_from, call_has}
use Rattle.meaning_laws.specs.Touched.{has_mode, step_has_mode, modes_at, modes_in, all_modes}
use Rattle.meaning_laws.specs.Touched.{unit_modes}
use Rattle.meaning_laws.proofs.Parts.{none_some, some_injective}
use Rattle.meaning_laws.proofs.Names.{if_gives}
use Rattle.meaning_laws.proofs.Facts.{or_left, or_right}
use Rattle.meaning_laws.proofs.FirstState.{Differ, params_differ}
use Rattle.meaning_laws.proofs.Live.{fewer, left_of, right_of, number_live, numbers_live, two_live}
use Rattle.meaning_laws.proofs.Live.{holds_live, window_live, place_live, argument_live}
use Rattle.place_laws.proofs.OfScope.Roots.{roots_next}
use Rattle.place_laws.specs.Order.Overwrite.{SetOrKept, AreSet, AreKept, DifferIn, SetAlike, OverwriteLaw}

-- ---- set or kept

module _ {T : Type 0} where
  then_set : {u v x y p q : T} → SetOrKept u v x y → SetOrKept x y p q → SetOrKept u v p q
  then_set h (AreSet e) = AreSet e
  then_set (AreSet e) (AreKept a b) = AreSet (a ∙ e ∙ sym b)
  then_set (AreKept c d) (AreKept a b) = AreKept (a ∙ c) (b ∙ d)

  same_after : {u v x y : T} → SetOrKept u v x y → v ≡ u → y ≡ x
  same_after (AreSet e) k = sym e
  same_after (AreKept a b) k = b ∙ k ∙ sym a

-- ---- sets of names that are not looked at

abbrev Free : (ℕ → Bool) → (ℕ → Bool) → Type 0
Free hidden test = (y : ℕ) → hidden y ≡ true → test y ≡ false

abbrev Off : (ℕ → Bool) → Cells → Cells → Type 0
Off hidden c d = (x : ℕ) → hidden x ≡ false → d x ≡ c x

module _ (hidden : ℕ → Bool) where
  first_free : (a b : ℕ → Bool) → Free hidden (λ y. a y || b y) → Free hidden a
  first_free a b h y k = (or_parts (a y) (b y) (h y k)).0

  rest_free : (a b : ℕ → Bool) → Free hidden (λ y. a y || b y) → Free hidden b
  rest_free a b h y k = (or_parts (a y) (b y) (h y k)).1

  -- a root that is not among them
  not_hidden : (b r : ℕ) → b ≡ r → Free hidden (λ y. y == r) → hidden b ≡ false
  not_hidden b r e h = go (hidden b) refl
    where
      go : (t : Bool) → hidden b ≡ t → t ≡ false
      go false k = refl
      go true k = absurd (true≢false (sym (eq-eqb b r e) ∙ h b k))

-- ---- two states

abbrev redone : (ℕ → ℤ) → Cells → State → State
redone g d s = record { scene = record s.scene { fields = g }; cells = d }

-- from fields f and cells c, and from g and d
record Done (out : ℕ → Bool) (f : ℕ → ℤ) (c : Cells) (g : ℕ → ℤ) (d : Cells) (t w : State) : Type 0
  where
    fields : ℕ → ℤ
    values : Cells
    same : w ≡ redone fields values t
    agree : Agree out t.scene.fields fields
    numbers : (z : ℕ) → SetOrKept (f z) (g z) (t.scene.fields z) (fields z)
    cells : (x : ℕ) (at : List ℤ) → SetOrKept (c x at) (d x at) (t.cells x at) (values x at)

both_goes : {A B : Type 0} (R S : A → B → Type 0) (o : Option A) (p : Option B) → Both R o p
    → ((a : A) (b : B) → R a b → S a b) → Both S o p
both_goes R S None None h k = tt
both_goes R S None (Some b) h k = h
both_goes R S (Some a) None h k = h
both_goes R S (Some a) (Some b) h k = k a b h

module _ (hidden : ℕ → Bool) where
  off_after : (c d t w : Cells) → Off hidden c d
      → ((x : ℕ) (at : List ℤ) → SetOrKept (c x at) (d x at) (t x at) (w x at)) → Off hidden t w
  off_after c d t w off h x k = fun_ext (λ at. same_after (h x at) (ap (λ y. y at) (off x k)))

  abbrev Overwrites : (ℕ → ℕ) → (ℕ → Bool) → (ℕ → Bool) → (State → Option State) → Type 0
  Overwrites root before out k = (s : State) (g : ℕ → ℤ) (d : Cells) → HasRoots root s.scene
      → Agree before s.scene.fields g → Off hidden s.cells d
      → Both (Done out s.scene.fields s.cells g d) (k s) (k (redone g d s))

  onward : (mid out : ℕ → Bool) (f : ℕ → ℤ) (c : Cells) (g : ℕ → ℤ) (d : Cells) (t w a b : State)
      → (m : Done mid f c g d t w) → Done out t.scene.fields t.cells m.fields m.values a b
      → Done out f c g d a b
  onward mid out f c g d t w a b m n = record {
    fields = n.fields;
    values = n.values;
    same = n.same;
    agree = n.agree;
    numbers = λ z. then_set (m.numbers z) (n.numbers z);
    cells = λ x at. then_set (m.cells x at) (n.cells x at);
  }

  module _ (mid out : ℕ → Bool) (f : ℕ → ℤ) (c : Cells) (g : ℕ → ℤ) (d : Cells)
      (off : Off hidden c d) where
    then_done : (o p : Option State) (k : State → Option State) → Both (Done mid f c g d) o p
        → ((t : State) (h : ℕ → ℤ) (e : Cells) → o ≡ Some t → Agree mid t.scene.fields h
        → Off hidden t.cells e → Both (Done out t.scene.fields t.cells h e) (k t)
        (k (redone h e t))) → Both (Done out f c g d) (then_do o k) (then_do p k)
    then_done None None k h j = tt
    then_done None (Some w) k h j = absurd h
    then_done (Some t) None k h j = absurd h
    then_done (Some t) (Some w) k h j =
        subst (λ z. Both (Done out f c g d) (k t) (k z)) (sym h.same)
        (both_goes (Done out t.scene.fields t.cells h.fields h.values) (Done out f c g d) (k t)
        (k (redone h.fields h.values t)) (j t h.fields h.values refl h.agree
        (off_after c d t.cells h.values off h.cells))
        (λ a b n. onward mid out f c g d t w a b h n))

module _ (out : ℕ → Bool) (s : State) (g : ℕ → ℤ) (d : Cells) where
  abbrev DoneFrom : State → State → Type 0
  DoneFrom = Done out s.scene.fields s.cells g d

  unchanged : (t : State) → t.scene.fields ≡ s.scene.fields → t.cells ≡ s.cells
      → Agree out s.scene.fields g → DoneFrom t (redone g d t)
  unchanged t e c h = record {
    fields = g;
    values = d;
    same = refl;
    agree = λ z k. ap (λ y. y z) e ∙ h z k;
    numbers = λ z. AreKept (ap (λ y. y z) e) refl;
    cells = λ x at. AreKept (ap (λ y. y x at) c) refl;
  }

  left_done : (o p : Option State) → Both DoneFrom o p
      → Both DoneFrom (option_map (left s) o) (option_map (left (redone g d s)) p)
  left_done o p h = both_map DoneFrom DoneFrom o p (left s) (left (redone g d s)) h
      (λ a b n. record {
        fields = n.fields;
        values = λ x. kept (s.scene.buffers x) (n.values x);
        same = ap (left (redone g d s)) n.same;
        agree = n.agree;
        numbers = n.numbers;
        cells = λ x at. go x at a b n (s.scene.buffers x);
      })
    where
      go : (x : ℕ) (at : List ℤ) (a b : State) (n : DoneFrom a b) (o : Option Shape)
          → SetOrKept (s.cells x at) (d x at) (kept o (a.cells x) at) (kept o (n.values x) at)
      go x at a b n None = AreSet refl
      go x at a b n (Some shape) = n.cells x at

  chosen_done : (a b : State → Option State) → Both DoneFrom (a s) (a (redone g d s))
      → Both DoneFrom (b s) (b (redone g d s)) → (t : Bool)
      → Both DoneFrom (scoped (choose t a b) s) (scoped (choose t a b) (redone g d s))
  chosen_done a b h k true = left_done (a s) (a (redone g d s)) h
  chosen_done a b h k false = left_done (b s) (b (redone g d s)) k

  configured_done : (world : World) (z : ℕ)
      → Agree (λ f. cond (f == z) false (out f)) s.scene.fields g → (o : Option ℤ)
      → Both DoneFrom (then_do o (λ n. where_true (suits (world.kinds z) n)
      (Some (on_scene (with_field z n) s))))
      (then_do o (λ n. where_true (suits (world.kinds z) n)
      (Some (on_scene (with_field z n) (redone g d s)))))
  configured_done world z h None = tt
  configured_done world z h (Some n) = go (suits (world.kinds z) n)
    where
      agree : (f : ℕ) (t : Bool) → (f == z) ≡ t → out f ≡ true
          → cond t n (s.scene.fields f) ≡ cond t n (g f)
      agree f true e k = refl
      agree f false e k = h f (ap (λ t. cond t false (out f)) e ∙ k)

      set : (f : ℕ) (t : Bool) → SetOrKept (s.scene.fields f) (g f) (cond t n (s.scene.fields f))
          (cond t n (g f))
      set f true = AreSet refl
      set f false = AreKept refl refl

      go : (t : Bool) → Both DoneFrom (where_true t (Some (on_scene (with_field z n) s)))
          (where_true t (Some (on_scene (with_field z n) (redone g d s))))
      go true = record {
        fields = updated g z n;
        values = d;
        same = refl;
        agree = λ f k. agree f
            (f == z) refl k;
        numbers = λ f. set f (f == z);
        cells = λ x at. AreKept refl refl;
      }
      go false = tt

  allocated_done : (x : ℕ) (cell : Cell) (dims : List ℤ) → Agree out s.scene.fields g → (t : Bool)
      → Both DoneFrom (where_true t (Some (with_contents x (λ at. Undefined)
      (on_scene (with_buffer x (tensor cell dims)) s))))
      (where_true t (Some (with_contents x (λ at. Undefined)
      (on_scene (with_buffer x (tensor cell dims)) (redone g d s)))))
  allocated_done x cell dims h false = tt
  allocated_done x cell dims h true = record {
    fields = g;
    values = updated d x (λ at. Undefined);
    same = refl;
    agree = h;
    numbers = λ z. AreKept refl refl;
    cells = λ b at. go b at (b == x);
  }
    where
      go : (b : ℕ) (at : List ℤ) (t : Bool) → SetOrKept (s.cells b at) (d b at)
          (cond {A = List ℤ → Value} t (λ at. Undefined) (s.cells b) at)
          (cond {A = List ℤ → Value} t (λ at. Undefined) (d b) at)
      go b at true = AreSet refl
      go b at false = AreKept refl refl

  viewed_done : (w : ℕ) → Agree out s.scene.fields g → (o : Option Seen)
      → Both DoneFrom (then_do o (λ seen. Some (on_scene (with_view w seen) s)))
      (then_do o (λ seen. Some (on_scene (with_view w seen) (redone g d s))))
  viewed_done w h None = tt
  viewed_done w h (Some seen) = unchanged (on_scene (with_view w seen) s) refl refl h

  -- a store, where what is stored does not go by what is not looked at
  stored_done : (k : Value → Value → Value) (q : Option Value) → Agree out s.scene.fields g
      → (o : Option Place) → IfSome o (λ p. (v : Value) (at : List ℤ)
      → k v (s.cells p.buffer at) ≡ k v (d p.buffer at))
      → Both DoneFrom (then_do o (λ p. then_do q (λ v. put s (k v) p)))
      (then_do o (λ p. then_do q (λ v. put (redone g d s) (k v) p)))
  stored_done k None h None st = tt
  stored_done k (Some v) h None st = tt
  stored_done k None h (Some p) st = tt
  stored_done k (Some v) h (Some p) st = go (s.scene.buffers p.buffer)
    where
      cell : (shape : Shape) (b : ℕ) (at : List ℤ) (t : Bool)
          → (t ≡ true → (b ≡ p.buffer) × (at ≡ p.at))
          → SetOrKept (s.cells b at) (d b at) (cond t (stored_as shape.cell (k v (s.cells b at)))
          (s.cells b at)) (cond t (stored_as shape.cell (k v (d b at))) (d b at))
      cell shape b at false e = AreKept refl refl
      cell shape b at true e = AreSet (ap (stored_as shape.cell)
          (subst (λ y. k v (s.cells y at) ≡ k v (d y at)) (sym (e refl).0) (st v at)))

      go : (o : Option Shape) → Both DoneFrom (option_map
          (λ shape. record s { cells = changed s.cells p (λ old. stored_as shape.cell (k v old)) })
          o) (option_map (λ shape. record (redone g d s)
          { cells = changed d p (λ old. stored_as shape.cell (k v old)) }) o)
      go None = tt
      go (Some shape) = record {
        fields = g;
        values = changed d p (λ old. stored_as shape.cell (k v old));
        same = refl;
        agree = h;
        numbers = λ z. AreKept refl refl;
        cells = λ b at. cell shape b at (is_there p b at) (there_is p b at);
      }

-- ---- values

module _ (hidden : ℕ → Bool) (root : ℕ → ℕ) (s : State) (roots : HasRoots root s.scene) (d : Cells)
    (off : Off hidden s.cells d) where
  module _ (g : ℕ → ℤ) where
    -- of two operands
    abbrev SeesBoth : (ℕ → Bool) → (ℕ → Bool) → (ℕ → Bool) → (ℕ → Bool) → Type 0
    SeesBoth a b x y = Free hidden (λ z. a z || b z) × Agree (λ f. x f || y f) s.scene.fields g

    abbrev SeesIn : (ℕ → Bool) → (ℕ → Bool) → Type 0
    SeesIn a x = Free hidden a × Agree x s.scene.fields g

    one : (a b x y : ℕ → Bool) → SeesBoth a b x y → SeesIn a x
    one a b x y h = (first_free hidden a b h.0, left_of g s.scene x y h.1)

    two : (a b x y : ℕ → Bool) → SeesBoth a b x y → SeesIn b y
    two a b x y h = (rest_free hidden a b h.0, right_of g s.scene x y h.1)

    abbrev root_reads : Datum → ℕ → Bool
    root_reads e y = reads_from root e y

    abbrev field_reads : Datum → ℕ → Bool
    field_reads e f = read_by_datum f e

    value_done : (e : Datum) → SeesIn (root_reads e) (field_reads e)
        → value (redone g d s) e ≡ value s e
    value_done (Const n) h = refl
    value_done (Read x is) h = ap (option_map (held d)) (place_live g s.scene x is h.1)
        ∙ go (place s.scene x is) (place_root root s.scene roots x is)
      where
        go : (o : Option Place) → IfSome o (λ p. p.buffer ≡ root x)
            → option_map (held d) o ≡ option_map (held s.cells) o
        go None e = refl
        go (Some p) e = ap (λ (y : List ℤ → Value). Some (y p.at))
            (off p.buffer (not_hidden hidden p.buffer (root x) e h.0))
    value_done (Negated a) h = ap (option_map (on_one (λ m. pos 0 -ℤ m))) (value_done a h)
    value_done (Relu a) h = ap (option_map (on_one relu)) (value_done a h)
    value_done (Plus a b) h = ap₂ (λ o q. then_do o (λ u. option_map (on_two ◌+ℤ◌ u) q))
        (value_done a (one (root_reads a) (root_reads b) (field_reads a) (field_reads b) h))
        (value_done b (two (root_reads a) (root_reads b) (field_reads a) (field_reads b) h))
    value_done (Minus a b) h = ap₂ (λ o q. then_do o (λ u. option_map (on_two ◌-ℤ◌ u) q))
        (value_done a (one (root_reads a) (root_reads b) (field_reads a) (field_reads b) h))
        (value_done b (two (root_reads a) (root_reads b) (field_reads a) (field_reads b) h))
    value_done (Times a b) h = ap₂ (λ o q. then_do o (λ u. option_map (on_two ◌*ℤ◌ u) q))
        (value_done a (one (root_reads a) (root_reads b) (field_reads a) (field_reads b) h))
        (value_done b (two (root_reads a) (root_reads b) (field_reads a) (field_reads b) h))
    value_done (Select a b c e) h =
        let in_ce = λ (y : ℕ). root_reads c y || root_reads e y in
        let of_ce = λ (f : ℕ). field_reads c f || field_reads e f in
        let in_bce = λ (y : ℕ). root_reads b y || (root_reads c y || root_reads e y) in
        let of_bce = λ (f : ℕ). field_reads b f || (field_reads c f || field_reads e f) in
        let p = two (root_reads a) in_bce (field_reads a) of_bce h in
        let q = two (root_reads b) in_ce (field_reads b) of_ce p in
        ap₂ (λ o w. then_do o (λ x. then_do w (λ v. then_do (value (redone g d s) c)
        (λ y. option_map (on_four selected x v y) (value (redone g d s) e)))))
        (value_done a (one (root_reads a) in_bce (field_reads a) of_bce h))
        (value_done b (one (root_reads b) in_ce (field_reads b) of_ce p))
        ∙ ap₂ (λ o w. then_do (value s a) (λ x. then_do (value s b)
        (λ v. then_do o (λ y. option_map (on_four selected x v y) w))))
        (value_done c (one (root_reads c) (root_reads e) (field_reads c) (field_reads e) q))
        (value_done e (two (root_reads c) (root_reads e) (field_reads c) (field_reads e) q))

  -- a whole assignment or reduction
  store_done : (out : ℕ → Bool) (g : ℕ → ℤ) (k : Value → Value → Value) (x : ℕ) (is : List Control)
      (e : Datum) → Free hidden (reads_from root e)
      → ((b : ℕ) → b ≡ root x → (v : Value) (at : List ℤ) → k v (s.cells b at) ≡ k v (d b at))
      → Agree (λ f. (read_by_controls f is || read_by_datum f e) || out f) s.scene.fields g
      → Both (Done out s.scene.fields s.cells g d)
      (then_do (place s.scene x is) (λ p. then_do (value s e) (λ v. put s (k v) p)))
      (then_do (place (redone g d s).scene x is)
      (λ p. then_do (value (redone g d s) e) (λ v. put (redone g d s) (k v) p)))
  store_done out g k x is e h st a =
      let reads = left_of g s.scene (λ f. read_by_controls f is || read_by_datum f e) out a in
      subst (λ o. Both (Done out s.scene.fields s.cells g d)
      (then_do (place s.scene x is) (λ p. then_do (value s e) (λ v. put s (k v) p)))
      (then_do o (λ p. then_do (value (redone g d s) e) (λ v. put (redone g d s) (k v) p))))
      (sym (place_live g s.scene x is (left_of g s.scene (λ f. read_by_controls f is)
      (λ f. read_by_datum f e) reads)))
      (subst (λ q. Both (Done out s.scene.fields s.cells g d)
      (then_do (place s.scene x is) (λ p. then_do (value s e) (λ v. put s (k v) p)))
      (then_do (place s.scene x is) (λ p. then_do q (λ v. put (redone g d s) (k v) p))))
      (sym (value_done g e (
        h,
        right_of g s.scene (λ f. read_by_controls f is)
            (λ f. read_by_datum f e) reads,
      )))
      (stored_done out s g d k (value s e) (right_of g s.scene
      (λ f. read_by_controls f is || read_by_datum f e) out a) (place s.scene x is)
      (if_weaken (λ p. p.buffer ≡ root x) (λ p. (v : Value) (at : List ℤ)
      → k v (s.cells p.buffer at) ≡ k v (d p.buffer at)) (place s.scene x is)
      (place_root root s.scene roots x is) (λ p r. st p.buffer r))))

-- ---- loops

left_roots : (root : ℕ → ℕ) (s s' : State) (body : State → Option State) → HasRoots root s.scene
    → IfSome (option_map (left s) (body s')) (λ t. HasRoots root t.scene)
left_roots root s s' body h = if_map (λ t. Unit {0}) (λ (t : State). HasRoots root t.scene)
    (body s') (left s) (any (body s')) (λ t u. h)

module _ (hidden : ℕ → Bool) (root : ℕ → ℕ) (out : ℕ → Bool) (i : ℕ) (body : State → Option State)
    (ok : Overwrites hidden root out out body) where
  turns_done : (ns : List ℤ) → Overwrites hidden root out out (turns (turn i body) ns)
  turns_done [] = λ s g d r h off. unchanged out s g d s refl refl h
  turns_done (n ∷ ns) = λ s g d r h off.
      then_done hidden out out s.scene.fields s.cells g d off (turn i body n s)
      (turn i body n (redone g d s)) (turns (turn i body) ns)
      (left_done out s g d (body (on_scene (with_control i n) s))
      (body (on_scene (with_control i n) (redone g d s)))
      (ok (on_scene (with_control i n) s) g d r h off))
      (λ t z e is k o. turns_done ns t z e (if_gives (λ (t : State). HasRoots root t.scene)
      (turn i body n s) t (left_roots root s (on_scene (with_control i n) s) body r) is) k o)

-- ---- arguments

module _ (g : ℕ → ℤ) (d : Cells) (s : State) where
  given_done : (a : Argument) → Agree (λ f. read_by_argument f a) s.scene.fields g
      → given (redone g d s).scene a ≡ given s.scene a
  given_done (ControlArg a) h = ap (λ n. Some (GivenNumber n)) (number_live g s.scene a h)
  given_done (ConditionArg c) h = ap (λ t. Some (GivenNumber (truth t))) (holds_live g s.scene c h)
  given_done (Whole x) h = refl
  given_done (Window x coords) h = ap (option_map GivenView) (window_live g s.scene x coords h)

  all_given_done : (args : List Argument) → Agree (λ f. read_by_arguments f args) s.scene.fields g
      → all_given (redone g d s).scene args ≡ all_given s.scene args
  all_given_done [] h = refl
  all_given_done (a ∷ args) h = ap₂ (λ o r. then_do o (λ y. option_map (λ ys. y ∷ ys) r))
      (given_done a (left_of g s.scene (λ f. read_by_argument f a) (λ f. read_by_arguments f args)
      h)) (all_given_done args (right_of g s.scene (λ f. read_by_argument f a)
      (λ f. read_by_arguments f args) h))

all_hold_done : (g : ℕ → ℤ) (scene : Scene) (cs : List Condition)
    → Agree (λ f. read_by_conditions f cs) scene.fields g
    → all_hold (record scene { fields = g }) cs ≡ all_hold scene cs
all_hold_done g scene [] h = refl
all_hold_done g scene (c ∷ cs) h = ap₂ (λ a b. a && b)
    (holds_live g scene c (left_of g scene (λ f. read_by_condition f c)
    (λ f. read_by_conditions f cs) h)) (all_hold_done g scene cs
    (right_of g scene (λ f. read_by_condition f c) (λ f. read_by_conditions f cs) h))

-- ---- parameters whose argument is a part of a buffer that is not looked at

module _ (hidden : ℕ → Bool) where
  abbrev sees : Given → Bool
  sees (GivenNumber n) = false
  sees (GivenView z) = hidden z.buffer

  abbrev hides : List Param → List Given → ℕ → Bool
  hides [] gs x = false
  hides (p ∷ ps) [] x = false
  hides (p ∷ ps) (g ∷ gs) x = ((x == p.binder.id) && sees g) || hides ps gs x

  abbrev AllHidden : (ℕ → Bool) → List Param → List Given → Type 0
  AllHidden inner [] gs = Unit {0}
  AllHidden inner (p ∷ ps) [] = Unit {0}
  AllHidden inner (p ∷ ps) (g ∷ gs) = (sees g ≡ true → inner p.binder.id ≡ true) × AllHidden inner
      ps gs

  all_hidden : (inner : ℕ → Bool) (ps : List Param) (gs : List Given)
      → ((x : ℕ) → hides ps gs x ≡ true → inner x ≡ true) → AllHidden inner ps gs
  all_hidden inner [] gs h = tt
  all_hidden inner (p ∷ ps) [] h = tt
  all_hidden inner (p ∷ ps) (g ∷ gs) h = (
    λ k. h p.binder.id (or_left ((p.binder.id == p.binder.id) && sees g)
        (hides ps gs p.binder.id) (ap₂ (λ a b. a && b) (eq-eqb p.binder.id p.binder.id refl) k)),
    all_hidden inner ps gs (λ x k. h x (or_right ((x == p.binder.id) && sees g) (hides ps gs x)
        k)),
  )

  module _ (root : ℕ → ℕ) (scene : Scene) (roots : HasRoots root scene) (mode : ℕ → Bool) where
    seen_free : (x r : ℕ) (b : ℕ) → b ≡ r → Free hidden (λ y. mode x && (y == r)) → hidden b ≡ true
        → mode x ≡ false
    seen_free x r b e h k = go (mode x) refl
      where
        go : (t : Bool) → mode x ≡ t → t ≡ false
        go false m = refl
        go true m = absurd (true≢false (sym (ap₂ (λ a c. a && c) m (eq-eqb b r e)) ∙ h b k))

    one_free : (x : ℕ) (a : Argument) → Free hidden (λ y. mode x && is_root root y a)
        → IfSome (given scene a) (λ g. sees g ≡ true → mode x ≡ false)
    one_free x (ControlArg a) h = λ k. absurd (true≢false (sym k))
    one_free x (ConditionArg a) h = λ k. absurd (true≢false (sym k))
    one_free x (Whole y) h = if_map (λ seen. seen.buffer ≡ root y)
        (λ g. sees g ≡ true → mode x ≡ false) (scene.views y) GivenView (root_of root scene roots y)
        (λ seen e k. seen_free x (root y) seen.buffer e h k)
    one_free x (Window y coords) h = if_map (λ seen. seen.buffer ≡ root y)
        (λ g. sees g ≡ true → mode x ≡ false) (window scene y coords) GivenView
        (window_root root scene roots y coords) (λ seen e k. seen_free x (root y) seen.buffer e h k)

    all_free : (ps : List Param) (args : List Argument)
        → Free hidden (λ y. call_writes mode root y ps args)
        → IfSome (all_given scene args) (λ gs. Free (hides ps gs) mode)
    all_free [] args h = if_weaken (λ gs. Unit {0}) (λ gs. Free (hides [] gs) mode)
        (all_given scene args) (any (all_given scene args))
        (λ gs u x k. absurd (true≢false (sym k)))
    all_free (p ∷ ps) [] h = λ x k. absurd (true≢false (sym k))
    all_free (p ∷ ps) (a ∷ args) h =
        if_then (λ g. sees g ≡ true → mode p.binder.id ≡ false)
        (λ gs. Free (hides (p ∷ ps) gs) mode) (given scene a) _
        (one_free p.binder.id a (first_free hidden (λ y. mode p.binder.id && is_root root y a)
        (λ y. call_writes mode root y ps args) h)) (λ g one.
        if_map (λ gs. Free (hides ps gs) mode) (λ gs. Free (hides (p ∷ ps) gs) mode)
        (all_given scene args) (λ gs. g ∷ gs)
        (all_free ps args (rest_free hidden (λ y. mode p.binder.id && is_root root y a)
        (λ y. call_writes mode root y ps args) h))
        (λ gs rest x k. go g one gs rest x (x == p.binder.id) (eqb-true x p.binder.id) k))
      where
        go : (g : Given) → (sees g ≡ true → mode p.binder.id ≡ false) → (gs : List Given)
            → Free (hides ps gs) mode → (x : ℕ) (t : Bool) → (t ≡ true → x ≡ p.binder.id)
            → ((t && sees g) || hides ps gs x) ≡ true → mode x ≡ false
        go g one gs rest x false same k = rest x k
        go g one gs rest x true same k = or_case (sees g) refl k
          where
            or_case : (u : Bool) → sees g ≡ u → (u || hides ps gs x) ≡ true → mode x ≡ false
            or_case true e k = ap mode (same refl) ∙ one e
            or_case false e k = rest x k

-- ---- the callee's first state

-- u and w are the first states of one call, from states that differ where nothing is looked at
record Entered (inner : ℕ → Bool) (fields g : ℕ → ℤ) (u w : State) : Type 0 where
  values : Cells
  same : w ≡ redone g values u
  off : Off inner u.cells values
  roots : HasRoots (λ x. x) u.scene
  first : u.scene.fields ≡ fields

own_root : (scene : Scene) (x : ℕ) (shape : Shape) → HasRoots (λ y. y) scene
    → HasRoots (λ y. y) (with_buffer x shape scene)
own_root scene x shape h y seen e = go (y == x) (eqb-true y x) e
  where
    go : (t : Bool) → (t ≡ true → y ≡ x) → cond t
        (Some (record { buffer = x; sides = whole shape.dims })) (scene.views y) ≡ Some seen
        → seen.buffer ≡ y
    go true same k = ap (λ (z : Seen). z.buffer)
        (sym (some_injective (record { buffer = x; sides = whole shape.dims }) seen k))
        ∙ sym (same refl)
    go false same k = h y seen k

module _ (hidden inner : ℕ → Bool) (s : State) (g : ℕ → ℤ) (d : Cells) (off : Off hidden s.cells d)
  where
    abbrev Enters : State → State → Type 0
    Enters = Entered inner s.scene.fields g

    same_contents : (z : Seen) → hidden z.buffer ≡ false → contents d z ≡ contents s.cells z
    same_contents z h = fun_ext (λ is. ap (λ (y : List ℤ → Value). held_at y (cell_at z.sides is))
        (off z.buffer h))

    module _ (t : State) (e : Cells) (k : Off inner t.cells e) (roots : HasRoots (λ x. x) t.scene)
        (first : t.scene.fields ≡ s.scene.fields) where
      copy_done : (x : ℕ) (cell : Cell) (ds : List ℤ) (y : Given)
          → (sees hidden y ≡ true → inner x ≡ true)
          → Both Enters (copy_in s x cell ds y t)
          (copy_in (redone g d s) x cell ds y (redone g e t))
      copy_done x cell ds (GivenNumber n) h = tt
      copy_done x cell ds (GivenView z) h = go (same_index ds (extents z.sides) && all_positive ds)
        where
          shape : Shape
          shape = record { cell = cell; dims = ds; strides = strides_seen s.scene z }

          look : (t : Bool) → hidden z.buffer ≡ t → inner x ≡ false
              → contents d z ≡ contents s.cells z
          look true e k = absurd (true≢false (sym (h e) ∙ k))
          look false e k = same_contents z e

          at_name : (b : ℕ) (q : Bool) → (q ≡ true → b ≡ x) → inner b ≡ false
              → cond {A = List ℤ → Value} q (contents d z) (e b) ≡ cond q (contents s.cells z)
              (t.cells b)
          at_name b false same j = k b j
          at_name b true same j = look (hidden z.buffer) refl (ap inner (sym (same refl)) ∙ j)

          go : (test : Bool) → Both Enters (where_true test
              (Some (with_contents x (contents s.cells z) (on_scene (with_buffer x shape) t))))
              (where_true test (Some (with_contents x (contents d z)
              (on_scene (with_buffer x shape) (redone g e t)))))
          go false = tt
          go true = record {
            values = updated e x (contents d z);
            same = refl;
            off = λ b j. at_name b (b == x) (eqb-true b x) j;
            roots = own_root t.scene x shape roots;
            first = first;
          }

      bound_done : (x : ℕ) (kind : ParamKind) (y : Given) → (sees hidden y ≡ true → inner x ≡ true)
          → Agree (λ f. read_by_kind f kind) s.scene.fields g
          → Both Enters (bind_buffer s x kind y t)
          (bind_buffer (redone g d s) x kind y (redone g e t))
      bound_done x (ControlParam kind) y h a = record
          { values = e; same = refl; off = k; roots = roots; first = first }
      bound_done x (TensorParam cell dims memory) y h a = subst
          (λ ds. Both Enters (bind_buffer s x (TensorParam cell dims memory) y t)
          (copy_in (redone g d s) x cell ds y (redone g e t)))
          (sym (numbers_live g t.scene dims (subst (λ q. Agree (λ f. read_by_controls f dims) q g)
          (sym first) a))) (copy_done x cell (numbers t.scene dims) y h)
      bound_done x (WindowParam cell dims memory) y h a = subst
          (λ ds. Both Enters (bind_buffer s x (WindowParam cell dims memory) y t)
          (copy_in (redone g d s) x cell ds y (redone g e t)))
          (sym (numbers_live g t.scene dims (subst (λ q. Agree (λ f. read_by_controls f dims) q g)
          (sym first) a))) (copy_done x cell (numbers t.scene dims) y h)

    all_bound_done : (ps : List Param) (gs : List Given) → AllHidden hidden inner ps gs
        → Agree (λ f. read_by_params f ps) s.scene.fields g → (t : State) (e : Cells)
        → Off inner t.cells e → HasRoots (λ x. x) t.scene → t.scene.fields ≡ s.scene.fields
        → Both Enters (bind_buffers s ps gs t) (bind_buffers (redone g d s) ps gs (redone g e t))
    all_bound_done [] gs h a t e k roots first = record
        { values = e; same = refl; off = k; roots = roots; first = first }
    all_bound_done (p ∷ ps) [] h a t e k roots first = tt
    all_bound_done (p ∷ ps) (y ∷ gs) h a t e k roots first =
        both_then Enters Enters (bind_buffer s p.binder.id p.kind y t)
        (bind_buffer (redone g d s) p.binder.id p.kind y (redone g e t)) (bind_buffers s ps gs)
        (bind_buffers (redone g d s) ps gs)
        (bound_done t e k roots first p.binder.id p.kind y h.0
        (left_of g s.scene (λ f. read_by_kind f p.kind) (λ f. read_by_params f ps) a))
        (λ u w n. subst (λ z. Both Enters (bind_buffers s ps gs u)
        (bind_buffers (redone g d s) ps gs z)) (sym n.same)
        (all_bound_done ps gs h.1 (right_of g s.scene (λ f. read_by_kind f p.kind)
        (λ f. read_by_params f ps) a) u n.values n.off n.roots n.first))

    entered_done : (ps : List Param) (gs : List Given) → AllHidden hidden inner ps gs
        → Agree (λ f. read_by_params f ps) s.scene.fields g
        → Both Enters (entered ps gs s) (entered ps gs (redone g d s))
    entered_done ps gs h a = go (bind_numbers ps gs (λ x. pos 0))
      where
        go : (o : Option (ℕ → ℤ)) → Both Enters (then_do o
            (λ control. bind_buffers s ps gs (bare control s.scene.fields)))
            (then_do o (λ control. bind_buffers (redone g d s) ps gs (bare control g)))
        go None = tt
        go (Some c) = all_bound_done ps gs h a (bare c s.scene.fields) (λ b at. Undefined)
            (λ x k. refl) (λ x seen e. absurd (none_some e)) refl

-- ---- what the copies hold

abbrev Fits : ParamKind → Given → Type 0
Fits (ControlParam kind) (GivenNumber n) = Unit {0}
Fits (ControlParam kind) (GivenView z) = ⊥
Fits (TensorParam cell dims memory) g = Unit {0}
Fits (WindowParam cell dims memory) g = Unit {0}

abbrev AllFit : List Param → List Given → Type 0
AllFit [] gs = Unit {0}
AllFit (p ∷ ps) [] = Unit {0}
AllFit (p ∷ ps) (g ∷ gs) = Fits p.kind g × AllFit ps gs

number_fits : (x : ℕ) (kind : ParamKind) (g : Given) (control : ℕ → ℤ)
    → IfSome (bind_number x kind g control) (λ c. Fits kind g)
number_fits x (ControlParam kind) (GivenNumber n) control = if_where (λ c. Unit {0}) (suits kind n)
    (Some (updated control x n)) tt
number_fits x (ControlParam kind) (GivenView z) control = tt
number_fits x (TensorParam cell dims memory) g control = tt
number_fits x (WindowParam cell dims memory) g control = tt

numbers_fit : (ps : List Param) (gs : List Given) (control : ℕ → ℤ)
    → IfSome (bind_numbers ps gs control) (λ c. AllFit ps gs)
numbers_fit [] [] control = tt
numbers_fit [] (g ∷ gs) control = tt
numbers_fit (p ∷ ps) [] control = tt
numbers_fit (p ∷ ps) (g ∷ gs) control = if_then (λ c. Fits p.kind g) (λ c. AllFit (p ∷ ps) (g ∷ gs))
    (bind_number p.binder.id p.kind g control) (bind_numbers ps gs)
    (number_fits p.binder.id p.kind g control)
    (λ c h. if_weaken (λ c. AllFit ps gs) (λ c. AllFit (p ∷ ps) (g ∷ gs)) (bind_numbers ps gs c)
    (numbers_fit ps gs c) (λ c k. (h, k)))

module _ (s : State) where
  abbrev IsCopy : ParamKind → Given → (List ℤ → Value) → Type 0
  IsCopy (ControlParam kind) g f = Unit {0}
  IsCopy (TensorParam cell dims memory) (GivenNumber n) f = Unit {0}
  IsCopy (TensorParam cell dims memory) (GivenView z) f = f ≡ contents s.cells z
  IsCopy (WindowParam cell dims memory) (GivenNumber n) f = Unit {0}
  IsCopy (WindowParam cell dims memory) (GivenView z) f = f ≡ contents s.cells z

  abbrev AreCopies : List Param → List Given → Cells → Type 0
  AreCopies [] gs c = Unit {0}
  AreCopies (p ∷ ps) [] c = Unit {0}
  AreCopies (p ∷ ps) (g ∷ gs) c = IsCopy p.kind g (c p.binder.id) × AreCopies ps gs c

  abbrev OneCopied : ℕ → ParamKind → Given → State → State → Type 0
  OneCopied x kind g t u = ((b : ℕ) → (b == x) ≡ false → u.cells b ≡ t.cells b) × IsCopy kind g
      (u.cells x)

  one_copied : (x : ℕ) (kind : ParamKind) (g : Given) (t : State)
      → IfSome (bind_buffer s x kind g t) (OneCopied x kind g t)
  one_copied x (ControlParam kind) g t = (λ b e. refl, tt)
  one_copied x (TensorParam cell dims memory) (GivenNumber n) t = tt
  one_copied x (TensorParam cell dims memory) (GivenView z) t = if_where
      (OneCopied x (TensorParam cell dims memory) (GivenView z) t)
      (same_index (numbers t.scene dims) (extents z.sides) && all_positive (numbers t.scene dims))
      (Some (with_contents x (contents s.cells z)
      (on_scene (with_buffer x (record {
        cell = cell;
        dims = numbers t.scene dims;
        strides =
            strides_seen s.scene z;
      })) t))) (
        λ b e. updated_other t.cells x (contents s.cells z) b e,
        ap
            (λ q. cond {A = List ℤ → Value} q (contents s.cells z) (t.cells x)) (eq-eqb x x refl),
      )
  one_copied x (WindowParam cell dims memory) (GivenNumber n) t = tt
  one_copied x (WindowParam cell dims memory) (GivenView z) t = if_where
      (OneCopied x (WindowParam cell dims memory) (GivenView z) t)
      (same_index (numbers t.scene dims) (extents z.sides) && all_positive (numbers t.scene dims))
      (Some (with_contents x (contents s.cells z)
      (on_scene (with_buffer x (record {
        cell = cell;
        dims = numbers t.scene dims;
        strides =
            strides_seen s.scene z;
      })) t))) (
        λ b e. updated_other t.cells x (contents s.cells z) b e,
        ap
            (λ q. cond {A = List ℤ → Value} q (contents s.cells z) (t.cells x)) (eq-eqb x x refl),
      )

  abbrev Copied : List Param → List Given → State → State → Type 0
  Copied ps gs t u = ((b : ℕ) → is_buffer_of b ps ≡ false → u.cells b ≡ t.cells b) × AreCopies ps gs
      u.cells

  all_copied : (ps : List Param) (gs : List Given) (t : State) → Differ ps
      → IfSome (bind_buffers s ps gs t) (Copied ps gs t)
  all_copied [] gs t df = (λ b e. refl, tt)
  all_copied (p ∷ ps) [] t df = tt
  all_copied (p ∷ ps) (g ∷ gs) t df =
      if_then (OneCopied p.binder.id p.kind g t) (Copied (p ∷ ps) (g ∷ gs) t)
      (bind_buffer s p.binder.id p.kind g t) (bind_buffers s ps gs)
      (one_copied p.binder.id p.kind g t) (λ u k.
      if_weaken (Copied ps gs u) (Copied (p ∷ ps) (g ∷ gs) t) (bind_buffers s ps gs u)
      (all_copied ps gs u df.1) (λ w l. (
        λ b e. let q = or_parts (b == p.binder.id) (is_buffer_of b ps) e in l.0 b q.1
            ∙ k.0 b q.0,
        (subst (IsCopy p.kind g) (sym (l.0 p.binder.id df.0)) k.1, l.1),
      )))

  entered_copied : (ps : List Param) (gs : List Given) → Differ ps
      → IfSome (entered ps gs s) (λ inner. AllFit ps gs × AreCopies ps gs inner.cells)
  entered_copied ps gs df = if_then (λ c. AllFit ps gs)
      (λ (inner : State). AllFit ps gs × AreCopies ps gs inner.cells)
      (bind_numbers ps gs (λ x. pos 0)) _ (numbers_fit ps gs (λ x. pos 0))
      (λ c fit. if_weaken (Copied ps gs (bare c s.scene.fields))
      (λ (inner : State). AllFit ps gs × AreCopies ps gs inner.cells)
      (bind_buffers s ps gs (bare c s.scene.fields)) (all_copied ps gs (bare c s.scene.fields) df)
      (λ inner k. (fit, k.1)))

copy_is : (s : State) (kind : ParamKind) (z : Seen) (f : List ℤ → Value) → Fits kind (GivenView z)
    → IsCopy s kind (GivenView z) f → f ≡ contents s.cells z
copy_is s (ControlParam kind) z f p c = absurd p
copy_is s (TensorParam cell dims memory) z f p c = c
copy_is s (WindowParam cell dims memory) z f p c = c

-- ---- the way back

abbrev AllSet : Cells → Cells → Cells → Cells → Type 0
AllSet c d t w = (x : ℕ) (at : List ℤ) → SetOrKept (c x at) (d x at) (t x at) (w x at)

module _ (s : State) (g : ℕ → ℤ) (d : Cells) (u w t v : Cells) (ends : AllSet u w t v) where
  -- a cell that the window sees
  copied_cell : (kind : ParamKind) (x : ℕ) (z : Seen) → Fits kind (GivenView z)
      → IsCopy s kind (GivenView z) (u x) → IsCopy (redone g d s) kind (GivenView z) (w x)
      → (at is : List ℤ) → index_of z.sides at ≡ Some is
      → SetOrKept (s.cells z.buffer at) (d z.buffer at) (t x is) (v x is)
  copied_cell kind x z fit k l at is e =
      subst (λ q. SetOrKept q (d z.buffer at) (t x is) (v x is)) (held kind s (u x) fit k)
      (subst (λ q. SetOrKept (u x is) q (t x is) (v x is)) (held kind (redone g d s) (w x) fit l)
      (ends x is))
    where
      held : (kind : ParamKind) (q : State) (f : List ℤ → Value) → Fits kind (GivenView z)
          → IsCopy q kind (GivenView z) f → f is ≡ q.cells z.buffer at
      held kind q f fit k = ap (λ (y : List ℤ → Value). y is) (copy_is q kind z f fit k)
          ∙ ap (held_at (q.cells z.buffer)) (cell_at_index z.sides at is e)

  one_back : (test : Bool) (kind : ParamKind) (x : ℕ) (y : Given) → Fits kind y
      → IsCopy s kind y (u x) → IsCopy (redone g d s) kind y (w x) → (b e : Cells)
      → AllSet s.cells d b e → AllSet s.cells d (copy_back test y (t x) b)
      (copy_back test y (v x) e)
  one_back false kind x y fit k l b e h = h
  one_back true kind x (GivenNumber n) fit k l b e h = h
  one_back true kind x (GivenView z) fit k l b e h = λ c at. go c at (c == z.buffer)
      (eqb-true c z.buffer) (index_of z.sides at) refl
    where
      go : (c : ℕ) (at : List ℤ) (q : Bool) → (q ≡ true → c ≡ z.buffer) → (o : Option (List ℤ))
          → index_of z.sides at ≡ o → SetOrKept (s.cells c at) (d c at)
          (cond q (value_or o (t x) (b c at)) (b c at))
          (cond q (value_or o (v x) (e c at)) (e c at))
      go c at false same o i = h c at
      go c at true same None i = h c at
      go c at true same (Some is) i = subst (λ y. SetOrKept (s.cells y at) (d y at) (t x is)
          (v x is)) (sym (same refl)) (copied_cell kind x z fit k l at is i)

  all_back : (test : ℕ → Bool) (ps : List Param) (gs : List Given) → AllFit ps gs
      → AreCopies s ps gs u → AreCopies (redone g d s) ps gs w → (b e : Cells)
      → AllSet s.cells d b e → AllSet s.cells d (copied_back test ps gs t b)
      (copied_back test ps gs v e)
  all_back test [] gs fit k l b e h = h
  all_back test (p ∷ ps) [] fit k l b e h = h
  all_back test (p ∷ ps) (y ∷ gs) fit k l b e h = all_back test ps gs fit.1 k.1 l.1
      (copy_back (test p.binder.id) y (t p.binder.id) b)
      (copy_back (test p.binder.id) y (v p.binder.id) e)
      (one_back (test p.binder.id) p.kind p.binder.id y fit.0 k.0 l.0 b e h)

-- ---- calls

-- a procedure that can be called, by its modes and the fields that are live before a call of it
record Sets (c : Callee) (modes : Modes) (before : ℕ → Bool → Bool) : Type 0 where
  differ : Differ c.procedure.params
  params : (f : ℕ) (o : Bool) → read_by_params f c.procedure.params ≡ true → before f o ≡ true
  asserts : (f : ℕ) (o : Bool) → read_by_conditions f c.procedure.asserts ≡ true → before f o ≡ true
  runs : (hidden : ℕ → Bool) → Free hidden (modes Reading) → Free hidden (modes Reducing)
      → (out : ℕ → Bool) → Overwrites hidden (λ x. x) (λ f. before f (out f)) out c.run

both_with : {A B : Type 0} (R : A → B → Type 0) (P : A → Type 0) (Q : B → Type 0) (o : Option A)
    (p : Option B) → Both R o p → IfSome o P → IfSome p Q → Both (λ a b. R a b × (P a × Q b)) o p
both_with R P Q None None h k l = tt
both_with R P Q None (Some b) h k l = h
both_with R P Q (Some a) None h k l = h
both_with R P Q (Some a) (Some b) h k l = (h, (k, l))

module _ (hidden : ℕ → Bool) (c : Callee) (modes : Modes) (before : ℕ → Bool → Bool)
    (well : Sets c modes before) (out : ℕ → Bool) (s : State) (g : ℕ → ℤ) (d : Cells)
    (off : Off hidden s.cells d) (alive : Agree (λ f. before f (out f)) s.scene.fields g) where
  abbrev Returns : State → State → Type 0
  Returns = Done out s.scene.fields s.cells g d

  module _ (gs : List Given) (inner w : State)
      (n : Entered (hides hidden c.procedure.params gs) s.scene.fields g inner w)
      (fit : AllFit c.procedure.params gs) (k : AreCopies s c.procedure.params gs inner.cells)
      (l : AreCopies (redone g d s) c.procedure.params gs w.cells) where
    at_end : (o p : Option State) → Both (Done out inner.scene.fields inner.cells g n.values) o p
        → Both Returns (option_map (returned c gs s) o)
        (option_map (returned c gs (redone g d s)) p)
    at_end o p h = both_map (Done out inner.scene.fields inner.cells g n.values) Returns o p
        (returned c gs s) (returned c gs (redone g d s)) h (λ t v m. record {
          fields = m.fields;
          values = copied_back c.writes c.procedure.params gs m.values d;
          same = ap (returned c gs (redone g d s)) m.same;
          agree = m.agree;
          numbers = λ z. subst (λ q. SetOrKept (q z) (g z) (t.scene.fields z) (m.fields z)) n.first
              (m.numbers z);
          cells = all_back s g d inner.cells n.values t.cells m.values m.cells c.writes
              c.procedure.params gs fit k (subst (λ (q : State). AreCopies (redone g d s)
              c.procedure.params gs q.cells) n.same l) s.cells d (λ x at. AreKept refl refl);
        })

    ends : Free (hides hidden c.procedure.params gs) (modes Reading)
        → Free (hides hidden c.procedure.params gs) (modes Reducing)
        → Both Returns (option_map (returned c gs s) (run_asserted c inner))
        (option_map (returned c gs (redone g d s)) (run_asserted c w))
    ends reads reduces =
        let known : Agree (λ f. before f (out f)) inner.scene.fields g = subst
        (λ q. Agree (λ f. before f (out f)) q g) (sym n.first) alive in
        subst (λ z. Both Returns (option_map (returned c gs s) (run_asserted c inner))
        (option_map (returned c gs (redone g d s)) (run_asserted c z))) (sym n.same)
        (subst (λ q. Both Returns (option_map (returned c gs s) (run_asserted c inner))
        (option_map (returned c gs (redone g d s))
        (where_true q (c.run (redone g n.values inner)))))
        (sym (all_hold_done g inner.scene c.procedure.asserts
        (λ f e. known f (well.asserts f (out f) e))))
        (go (all_hold inner.scene c.procedure.asserts)
        (well.runs (hides hidden c.procedure.params gs) reads reduces out inner g n.values
        n.roots known n.off)))
      where
        go : (q : Bool) → Both (Done out inner.scene.fields inner.cells g n.values) (c.run inner)
            (c.run (redone g n.values inner)) → Both Returns
            (option_map (returned c gs s) (where_true q (c.run inner)))
            (option_map (returned c gs (redone g d s))
            (where_true q (c.run (redone g n.values inner))))
        go false h = tt
        go true h = at_end (c.run inner) (c.run (redone g n.values inner)) h

  with_givens : (o : Option (List Given)) → IfSome o
      (λ gs. Free (hides hidden c.procedure.params gs) (modes Reading))
      → IfSome o (λ gs. Free (hides hidden c.procedure.params gs) (modes Reducing))
      → Both Returns (then_do o (λ gs. then_do (entered c.procedure.params gs s)
      (λ inner. option_map (returned c gs s) (run_asserted c inner))))
      (then_do o (λ gs. then_do (entered c.procedure.params gs (redone g d s))
      (λ inner. option_map (returned c gs (redone g d s)) (run_asserted c inner))))
  with_givens None h k = tt
  with_givens (Some gs) h k =
      let ps = c.procedure.params in
      let inner = hides hidden ps gs in
      let P = λ (u : State). AllFit ps gs × AreCopies s ps gs u.cells in
      let Q = λ (u : State). AllFit ps gs × AreCopies (redone g d s) ps gs u.cells in
      both_then (λ u w. Entered inner s.scene.fields g u w × (P u × Q w)) Returns (entered ps gs s)
      (entered ps gs (redone g d s)) (λ inner. option_map (returned c gs s)
      (run_asserted c inner)) (λ inner. option_map (returned c gs (redone g d s))
      (run_asserted c inner))
      (both_with (Entered inner s.scene.fields g) P Q (entered ps gs s)
      (entered ps gs (redone g d s))
      (entered_done hidden inner s g d off ps gs (all_hidden hidden inner ps gs (λ x e. e))
      (λ f e. alive f (well.params f (out f) e)))
      (entered_copied s ps gs well.differ)
      (entered_copied (redone g d s) ps gs well.differ))
      (λ u w n. ends gs u w n.0 n.1.0.0 n.1.0.1 n.1.1.1 h k)

call_done : (hidden : ℕ → Bool) (o : Option Callee) (modes : Modes) (before : ℕ → Bool → Bool)
    → ((c : Callee) → o ≡ Some c → Sets c modes before) → (root : ℕ → ℕ) (args : List Argument)
    → Free hidden (λ y. call_has o (modes Reading) root y args)
    → Free hidden (λ y. call_has o (modes Reducing) root y args) → (out : ℕ → Bool)
    → Overwrites hidden root (λ f. read_by_arguments f args || before f (out f)) out
    (call_to o args)
call_done hidden None modes before well root args reads reduces out s g d roots alive off = tt
call_done hidden (Some c) modes before well root args reads reduces out s g d roots alive off =
    let ps = c.procedure.params in
    subst (λ q. Both (Done out s.scene.fields s.cells g d) (call_to (Some c) args s)
    (where_true (given_all_apart c.writes ps q)
    (then_do q (λ gs. then_do (entered ps gs (redone g d s))
    (λ inner. option_map (returned c gs (redone g d s)) (run_asserted c inner))))))
    (sym (all_given_done g d s args (left_of g s.scene (λ f. read_by_arguments f args)
    (λ f. before f (out f)) alive)))
    (both_where (Done out s.scene.fields s.cells g d) (keeps_apart c s.scene args)
    (copied_call c args s) _
    (with_givens hidden c modes before (well c refl) out s g d off
    (right_of g s.scene (λ f. read_by_arguments f args) (λ f. before f (out f)) alive)
    (all_given s.scene args)
    (all_free hidden root s.scene roots (modes Reading) ps args reads)
    (all_free hidden root s.scene roots (modes Reducing) ps args reduces)))

-- ---- trees

module _ (world : World) (modes : ℕ → Modes) (calls : ℕ → ℕ → Bool → Bool)
    (well : (k : ℕ) (c : Callee) → world.callees k ≡ Some c → Sets c (modes k) (calls k))
    (hidden : ℕ → Bool) where
  abbrev mode : Mode → (ℕ → ℕ) → Block → ℕ → Bool
  mode m root b y = has_mode world.callees modes m root b y

  abbrev step_mode : Mode → (ℕ → ℕ) → Statement → ℕ → Bool
  step_mode m root a y = step_has_mode world.callees modes m root a y

  -- live at the head of a loop
  abbrev at_head : Block → (ℕ → Bool) → ℕ → Bool
  at_head b out f = out f || live calls f b false

  head_live : (b : Block) (out : ℕ → Bool) (f : ℕ) → live calls f b (at_head b out f) ≡ true
      → at_head b out f ≡ true
  head_live b out f h = go (at_head b out f) refl h
    where
      go : (t : Bool) → at_head b out f ≡ t → live calls f b t ≡ true → at_head b out f ≡ true
      go true e h = e
      go false e h = or_right (out f) (live calls f b false) h

  fewer_done : (more out : ℕ → Bool) → ((f : ℕ) → out f ≡ true → more f ≡ true)
      → (f : ℕ → ℤ) (c : Cells) (g : ℕ → ℤ) (d : Cells) (t w : State) → Done more f c g d t w
      → Done out f c g d t w
  fewer_done more out k f c g d t w n = record {
    fields = n.fields;
    values = n.values;
    same = n.same;
    agree = λ z e. n.agree z (k z e);
    numbers = n.numbers;
    cells = n.cells;
  }

  mutual
    run_done : (b : Block) (root : ℕ → ℕ) → Free hidden (mode Reading root b)
        → Free hidden (mode Reducing root b) → (out : ℕ → Bool)
        → Overwrites hidden root (λ f. live calls f b (out f)) out (run world b)
    run_done end root reads reduces out = λ s g d roots h off. unchanged out s g d s refl refl h
    run_done (next a b) root reads reduces out = λ s g d roots h off.
        let after = roots_after a root in
        let mid = λ (f : ℕ). live calls f b (out f) in
        then_done hidden mid out s.scene.fields s.cells g d off (step world a s)
        (step world a (redone g d s)) (run world b)
        (step_done a root (first_free hidden (step_mode Reading root a) (mode Reading after b)
        reads) (first_free hidden (step_mode Reducing root a) (mode Reducing after b) reduces)
        mid s g d roots h off)
        (λ t z e is k o. run_done b after (rest_free hidden (step_mode Reading root a)
        (mode Reading after b) reads) (rest_free hidden (step_mode Reducing root a)
        (mode Reducing after b) reduces) out t z e
        (if_gives (λ (t : State). HasRoots after t.scene) (step world a s) t
        (roots_next world a root s roots) is) k o)

    step_done : (a : Statement) (root : ℕ → ℕ) → Free hidden (step_mode Reading root a)
        → Free hidden (step_mode Reducing root a) → (out : ℕ → Bool)
        → Overwrites hidden root (λ f. live_step calls f a (out f)) out (step world a)
    step_done (Assign x is e) root reads reduces out = λ s g d roots h off. store_done hidden root s
        roots d off out g (λ v old. v) x is e reads (λ b k v at. refl) h
    step_done (Reduce x is e) root reads reduces out = λ s g d roots h off. store_done hidden root s
        roots d off out g (λ v old. on_two ◌+ℤ◌ old v) x is e reads
        (λ b k v at. ap (λ (y : List ℤ → Value). on_two ◌+ℤ◌ (y at) v)
        (sym (off b (not_hidden hidden b (root x) k reduces)))) h
    step_done (Config z a) root reads reduces out = λ s g d roots h off.
        subst (λ o. Both (Done out s.scene.fields s.cells g d) (step world (Config z a) s)
        (then_do o (λ n. where_true (suits (world.kinds z) n)
        (Some (on_scene (with_field z n) (redone g d s))))))
        (sym (argument_live g s.scene a (left_of g s.scene (λ f. read_by_argument f a)
        (λ f. cond (f == z) false (out f)) h)))
        (configured_done out s g d world z (right_of g s.scene (λ f. read_by_argument f a)
        (λ f. cond (f == z) false (out f)) h) (argument_number s.scene a))
    step_done Pass root reads reduces out = λ s g d roots h off. unchanged out s g d s refl refl h
    step_done (If c a b) root reads reduces out = λ s g d roots h off.
        let in_a = λ (f : ℕ). live calls f a (out f) in
        let in_b = λ (f : ℕ). live calls f b (out f) in
        let rest = right_of g s.scene (λ f. read_by_condition f c)
        (λ f. live calls f a (out f) || live calls f b (out f)) h in
        subst (λ t. Both (Done out s.scene.fields s.cells g d) (step world (If c a b) s)
        (scoped (choose t (run world a) (run world b)) (redone g d s)))
        (sym (holds_live g s.scene c (left_of g s.scene (λ f. read_by_condition f c)
        (λ f. live calls f a (out f) || live calls f b (out f)) h)))
        (chosen_done out s g d (run world a) (run world b)
        (run_done a root (first_free hidden (mode Reading root a) (mode Reading root b) reads)
        (first_free hidden (mode Reducing root a) (mode Reducing root b) reduces) out s g d
        roots (left_of g s.scene in_a in_b rest) off)
        (run_done b root (rest_free hidden (mode Reading root a) (mode Reading root b) reads)
        (rest_free hidden (mode Reducing root a) (mode Reducing root b) reduces) out s g d roots
        (right_of g s.scene in_a in_b rest) off)
        (holds s.scene c))
    step_done (For i lo hi b) root reads reduces out = λ s g d roots h off.
        let bounds = left_of g s.scene (λ f. read_by_control f lo || read_by_control f hi)
        (at_head b out) h in
        let rest = right_of g s.scene (λ f. read_by_control f lo || read_by_control f hi)
        (at_head b out) h in
        let ns = turns_of s.scene lo hi in
        subst (λ ns. Both (Done out s.scene.fields s.cells g d) (step world (For i lo hi b) s)
        (turns (turn i.id (run world b)) ns (redone g d s)))
        (sym (two_live g s.scene (λ m n. range m (count (n -ℤ m))) lo hi bounds))
        (both_goes (Done (at_head b out) s.scene.fields s.cells g d)
        (Done out s.scene.fields s.cells g d) (turns (turn i.id (run world b)) ns s)
        (turns (turn i.id (run world b)) ns (redone g d s))
        (turns_done hidden root (at_head b out) i.id (run world b)
        (λ t k e r j o. run_done b root reads reduces (at_head b out) t k e r
        (fewer (λ f. live calls f b (at_head b out f)) (at_head b out) (head_live b out)
        t.scene.fields k j) o) ns s g d roots rest off)
        (fewer_done (at_head b out) out (λ f k. or_left (out f) (live calls f b false) k)
        s.scene.fields s.cells g d))
    step_done (Alloc x cell dims memory) root reads reduces out = λ s g d roots h off.
        subst (λ ds. Both (Done out s.scene.fields s.cells g d)
        (step world (Alloc x cell dims memory) s) (allocate x.id cell ds (redone g d s)))
        (sym (numbers_live g s.scene dims (left_of g s.scene (λ f. read_by_controls f dims) out
        h)))
        (allocated_done out s g d x.id cell (numbers s.scene dims)
        (right_of g s.scene (λ f. read_by_controls f dims) out h)
        (all_positive (numbers s.scene dims)))
    step_done (View w x coords) root reads reduces out = λ s g d roots h off.
        subst (λ o. Both (Done out s.scene.fields s.cells g d) (step world (View w x coords) s)
        (then_do o (λ seen. Some (on_scene (with_view w.id seen) (redone g d s)))))
        (sym (window_live g s.scene x coords
        (left_of g s.scene (λ f. read_by_coords f coords) out h)))
        (viewed_done out s g d w.id (right_of g s.scene (λ f. read_by_coords f coords) out h)
        (window s.scene x coords))
    step_done (Call k args) root reads reduces out = λ s g d roots h off. call_done hidden
        (world.callees k) (modes k) (calls k) (well k) root args reads reduces out s g d roots h off

-- ---- units

abbrev AllSets : List Callee → List Modes → List (ℕ → Bool → Bool) → Type 0
AllSets [] [] [] = Unit {0}
AllSets [] [] (l ∷ ls) = ⊥
AllSets [] (m ∷ ms) ls = ⊥
AllSets (c ∷ cs) [] ls = ⊥
AllSets (c ∷ cs) (m ∷ ms) [] = ⊥
AllSets (c ∷ cs) (m ∷ ms) (l ∷ ls) = Sets c m l × AllSets cs ms ls

sets_at : (cs : List Callee) (ms : List Modes) (ls : List (ℕ → Bool → Bool)) → AllSets cs ms ls
    → (k : ℕ) (c : Callee) → slice_get cs k ≡ Some c → Sets c (modes_at ms k) (live_at ls k)
sets_at [] ms ls h zero c e = absurd (none_some e)
sets_at [] ms ls h (suc k) c e = absurd (none_some e)
sets_at (x ∷ cs) [] ls h k c e = absurd h
sets_at (x ∷ cs) (m ∷ ms) [] h k c e = absurd h
sets_at (x ∷ cs) (m ∷ ms) (l ∷ ls) h zero c e = subst (λ y. Sets y m l) (some_injective x c e) h.0
sets_at (x ∷ cs) (m ∷ ms) (l ∷ ls) h (suc k) c e = sets_at cs ms ls h.1 k c e

sets_more : (cs : List Callee) (ms : List Modes) (ls : List (ℕ → Bool → Bool)) (c : Callee)
    (m : Modes) (l : ℕ → Bool → Bool) → AllSets cs ms ls → Sets c m l
    → AllSets (cs ++ c ∷ []) (ms ++ m ∷ []) (ls ++ l ∷ [])
sets_more [] [] [] c m l h w = (w, tt)
sets_more [] [] (k ∷ ls) c m l h w = absurd h
sets_more [] (n ∷ ms) ls c m l h w = absurd h
sets_more (x ∷ cs) [] ls c m l h w = absurd h
sets_more (x ∷ cs) (n ∷ ms) [] c m l h w = absurd h
sets_more (x ∷ cs) (n ∷ ms) (k ∷ ls) c m l h w = (h.0, sets_more cs ms ls c m l h.1 w)

procedure_sets : (kinds : ℕ → Kind) (above : List Callee) (ms : List Modes)
    (ls : List (ℕ → Bool → Bool)) (p : Procedure) → Differ p.params → AllSets above ms ls
    → Sets (callee_in (world_of kinds above) p) (modes_in (world_of kinds above) (modes_at ms) p)
    (live_before (live_at ls) p)
procedure_sets kinds above ms ls p differ well = record {
  differ = differ;
  params = λ f o k. or_left (read_by_params f p.params)
      (read_by_conditions f p.asserts || live (live_at ls) f p.body o) k;
  asserts = λ f o k. or_right (read_by_params f p.params)
      (read_by_conditions f p.asserts || live (live_at ls) f p.body o)
      (or_left (read_by_conditions f p.asserts) (live (live_at ls) f p.body o) k);
  runs = λ hidden reads reduces out s g d roots h off. run_done (world_of kinds above) (modes_at ms)
      (live_at ls) (sets_at above ms ls well) hidden p.body (λ x. x) reads reduces out s g d roots
      (λ f k. h f (or_right (read_by_params f p.params)
      (read_by_conditions f p.asserts || live (live_at ls) f p.body (out f))
      (or_right (read_by_conditions f p.asserts) (live (live_at ls) f p.body (out f)) k))) off;
}

all_sets : (fields : List ConfigField) (memories : ℕ) (above : List Callee) (ms : List Modes)
    (ls : List (ℕ → Bool → Bool)) (ps : List Procedure) → AllSets above ms ls
    → AreProcedures fields memories above ps
    → let kinds = kinds_of fields in AllSets (callees kinds above ps) (all_modes kinds above ms ps)
    (all_live ls ps)
all_sets fields memories above ms ls [] h unit = h
all_sets fields memories above ms ls (p ∷ ps) h unit =
    let kinds = kinds_of fields in
    let c = callee_in (world_of kinds above) p in
    let m = modes_in (world_of kinds above) (modes_at ms) p in
    let l = live_before (live_at ls) p in
    all_sets fields memories (above ++ c ∷ []) (ms ++ m ∷ []) (ls ++ l ∷ []) ps
    (sets_more above ms ls c m l h (procedure_sets kinds above ms ls p
    (params_differ (field_kind fields) memories p.params [] unit.0.params) h)) unit.1

pub blocks_overwrite : OverwriteLaw
blocks_overwrite fields memories ps root b buffers out s t away roots differ =
    let kinds = kinds_of fields in
    let world = unit_world kinds ps in
    let well = all_sets fields memories [] [] [] ps tt away.unit in
    let off : Off buffers s.cells t.cells = differ.cells in
    let is : redone t.scene.fields t.cells s ≡ t = ap
    (λ scene. record { scene = scene; cells = t.cells }) (sym differ.names) in
    subst (λ z. Both (λ u v. SetAlike s t u v × DifferIn out buffers u v) (run world b s)
    (run world b z)) is
    (both_goes (Done out s.scene.fields s.cells t.scene.fields t.cells)
    (λ u v. SetAlike s t u v × DifferIn out buffers u v) (run world b s)
    (run world b (redone t.scene.fields t.cells s))
    (run_done world (unit_modes kinds ps) (unit_live ps)
    (sets_at (callees kinds [] ps) (all_modes kinds [] [] ps) (all_live [] ps) well) buffers b
    root away.reads away.reduces out s t.scene.fields t.cells roots differ.fields off)
    (λ u v n. subst (λ v. SetAlike s t u v × DifferIn out buffers u v) (sym n.same) (
      record { names = refl; fields = n.numbers; cells = n.cells },
      record {
        names = refl;
        fields = n.agree;
        cells = off_after buffers s.cells t.cells u.cells n.values
            off n.cells;
      },
    )))
