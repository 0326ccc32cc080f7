-- The C of blocks follows their runs.
use Rattle.std.proofs.Common.{◌≡◌, ℕ, ℤ, ◌+ℤ◌, Bool, true, false, ◌==◌, cond, List, length, Some, option_map, refl, sym, ap, ap₂, ◌∙◌, subst, nat_lt, eqb-true, eq-eqb}
use Rattle.std.specs.Ordering.{int_eq}
use Rattle.std.proofs.lemmas.Bool.{and_parts, and_from}
use Rattle.std.specs.Cmp.Rules.{signed_items}
use Rattle.std.specs.Cmp.{signed_Decides}
use Rattle.exo_tree.specs.Cells.{same_itself}
use Rattle.exo_tree.specs.Tree.{Cell, Control, Datum, Const, Read, Negated, Relu, Plus, Minus, Times, Select}
use Rattle.exo_meaning.specs.Value.{Value, stored_as, on_two}
use Rattle.exo_meaning.specs.Scene.{Shape}
use Rattle.exo_meaning.specs.State.{State, Place, place, held, is_there, changed, put, value, same_index}
use Rattle.exo_meaning.specs.Units.{same_cell}
use Rattle.exo_meaning.specs.Run.{assign, reduce}
use Rattle.c_unit_laws.specs.Follows.Machine.Machine.{Done, Pointer, Machine, number32, with_two}
use Rattle.c_unit_laws.specs.Follows.Machine.Machine.{as_unsigned, is_spot, typed_spot, holds_cells}
use Rattle.c_unit_laws.specs.Follows.Machine.CRun.{store, add_to, put32, into_object}
use Rattle.c_lowering.specs.Made.Lowered.{Forms, cell_at_of, number32_of}
use Rattle.c_unit_laws.specs.Follows.Simulation.{Ground, Follows, Layout, Matches, IsHeld, IsRead}
use Rattle.c_unit_laws.specs.Follows.Simulation.{in_range, spot_of, Ran, IsOutside}
use Rattle.c_unit_laws.specs.Follows.Good.{IsBuffer, AreGood, IsGoodDatum}
use Rattle.std.proofs.Math.Nat.{le_refl}
use Rattle.c_unit_laws.proofs.OfFollows.Data.{sum_read, difference_read, product_read}
use Rattle.c_unit_laws.proofs.OfFollows.Data.{negation_read, relu_read, select_read, literal_read}
use Rattle.c_unit_laws.proofs.OfFollows.Data.{cell_read, stored_held}
use Rattle.c_unit_laws.proofs.OfFollows.Steps.{follows_then, follows_map, follows_both}
use Rattle.c_unit_laws.proofs.OfFollows.Steps.{follows_good}
use Rattle.c_unit_laws.proofs.OfFollows.Places.{AreOne, cell_follows}

-- ---- one change on both sides

same_test : (t u : Bool) → (t ≡ true → u ≡ true) → (u ≡ true → t ≡ true) → t ≡ u
same_test true true h k = refl
same_test true false h k = sym (h refl)
same_test false true h k = k refl
same_test false false h k = refl

-- the test of pointers decides their equality
there_is : (p : Place) (b : ℕ) (at : List ℤ) → is_there p b at ≡ true → (b ≡ p.buffer) × (at ≡ p.at)
there_is p b at h =
    let parts = and_parts (b == p.buffer) (same_index at p.at) h in
    (eqb-true b p.buffer parts.0, (signed_items at p.at).0 parts.1)

is_there_at : (p : Place) (b : ℕ) (at : List ℤ) → b ≡ p.buffer → at ≡ p.at → is_there p b at ≡ true
is_there_at p b at h k = and_from (b == p.buffer) (same_index at p.at) (eq-eqb b p.buffer h) ((signed_items at p.at).1 k)

signed : (a b : ℤ) → int_eq a b ≡ true → a ≡ b
signed a b h = (signed_Decides a b).0 h

signed_from : (a b : ℤ) → a ≡ b → int_eq a b ≡ true
signed_from a b h = (signed_Decides a b).1 h

spot_is : (q : Pointer) (o : ℕ) (k : ℤ) → is_spot q o k ≡ true → record { object = o; offset = k } ≡ q
spot_is q o k h =
    let parts = and_parts (o == q.object) (int_eq k q.offset) h in
    ap₂ (λ x y. record { object = x; offset = y }) (eqb-true o q.object parts.0) (signed k q.offset parts.1)

is_spot_at : (p q : Pointer) → p ≡ q → is_spot q p.object p.offset ≡ true
is_spot_at p q h = and_from (p.object == q.object) (int_eq p.offset q.offset) (eq-eqb p.object q.object (ap (λ r. r.object) h)) (signed_from p.offset q.offset (ap (λ r. r.offset) h))

some_same : {A : Type 0} {a b : A} → Some a ≡ Some b → a ≡ b
some_same e = cc

cond_held : (t u : Bool) (a b c d : Value) → t ≡ u → IsHeld a b → IsHeld c d → IsHeld (cond t a c) (cond u b d)
cond_held true u a b c d e h k = subst (λ v. IsHeld a (cond v b d)) e h
cond_held false u a b c d e h k = subst (λ v. IsHeld c (cond v b d)) e k

module _ (g : Ground) (forms : Forms) (most : ℕ → ℕ) (root : ℕ → ℕ) (layout : Layout) where
  abbrev Match : State → Machine → Type 0
  Match = Matches g forms most root layout

  -- ---- data

  module _ (Few : Type 0) (s : State) (m : Machine) (match : Match s m) where
    abbrev Next : State → Machine → Type 0
    Next = Ran g forms most root layout s m

    held_there : {base : ℕ} {cell : Cell} (p : Place) (q : Pointer) (one : AreOne layout s.scene m.setting base cell p q) → IsHeld (held s.cells p) (m.contents q.object q.offset)
    held_there p q one = subst (λ r. IsHeld (held s.cells p) (m.contents r.object r.offset)) one.lies (match.cells p.buffer one.shape one.buffer p.at one.in_buffer)

    value_follows : (e : Datum) → IsGoodDatum forms most e → Follows Few IsRead (value s e) (number32 m (number32_of g.naming forms e))
    value_follows (Const n) h = literal_read n h
    value_follows (Read x is) h = follows_map Few (AreOne layout s.scene m.setting (root x) h.0.0) IsRead _ _ _ _ (cell_follows g.naming forms most layout s.scene m.setting match.names match.placed root match.roots Few x is h.0 h.1) (λ p q one. cell_read _ _ (held_there p q one))
    value_follows (Negated a) h = follows_map Few IsRead IsRead _ _ _ _ (value_follows a h) negation_read
    value_follows (Relu a) h = follows_map Few IsRead IsRead _ _ _ _ (value_follows a h) relu_read
    value_follows (Plus a b) h = follows_then Few IsRead IsRead _ _ _ _ (value_follows a h.0) (λ u v e i. follows_map Few IsRead IsRead _ _ _ _ (value_follows b h.1) (sum_read u v i))
    value_follows (Minus a b) h = follows_then Few IsRead IsRead _ _ _ _ (value_follows a h.0) (λ u v e i. follows_map Few IsRead IsRead _ _ _ _ (value_follows b h.1) (difference_read u v i))
    value_follows (Times a b) h = follows_then Few IsRead IsRead _ _ _ _ (value_follows a h.0) (λ u v e i. follows_map Few IsRead IsRead _ _ _ _ (value_follows b h.1) (product_read u v i))
    value_follows (Select a b c d) h =
        follows_then Few IsRead IsRead _ _ _ _ (value_follows a h.0) (λ x x' e i. follows_then Few IsRead IsRead _ _ _ _ (value_follows b h.1) (λ v v' f j. follows_then Few IsRead IsRead _ _ _ _ (value_follows c h.2) (λ y y' g k. follows_map Few IsRead IsRead _ _ _ _ (value_follows d h.3) (λ z z' l. select_read x v y z x' v' y' z' i j k l))))

    -- ---- stores

    module _ (base : ℕ) (may : g.stored base ≡ true) (cell : Cell) (p : Place) (q : Pointer) (one : AreOne layout s.scene m.setting base cell p q) where
      may_store : g.stored p.buffer ≡ true
      may_store = ap g.stored one.of_root ∙ may

      same_shape : (b : ℕ) (shape : Shape) → b ≡ p.buffer → s.scene.buffers b ≡ Some shape → shape ≡ one.shape
      same_shape b shape h k = some_same (sym k ∙ ap s.scene.buffers h ∙ one.buffer)

      lies_there : (b : ℕ) (shape : Shape) (at : List ℤ) → s.scene.buffers b ≡ Some shape → is_there p b at ≡ true → spot_of layout b shape at ≡ q
      lies_there b shape at k h =
          let e = there_is p b at h in
          ap₂ (λ x y. spot_of layout x shape y) e.0 e.1 ∙ ap (λ z. spot_of layout p.buffer z p.at) (same_shape b shape e.0 k) ∙ one.lies

      same_place : (b : ℕ) (shape : Shape) (at : List ℤ) → s.scene.buffers b ≡ Some shape → in_range at shape.dims ≡ true → is_there p b at ≡ is_spot q (spot_of layout b shape at).object (spot_of layout b shape at).offset
      same_place b shape at k r =
          same_test _ _
          (λ h. is_spot_at _ q (lies_there b shape at k h))
          (λ h. let e = match.apart b p.buffer shape one.shape k one.buffer may_store at p.at r one.in_buffer (spot_is q _ _ h ∙ sym one.lies) in is_there_at p b at e.0 e.1)

      stored_there : (u v : Value) → IsRead u v → IsHeld (stored_as one.shape.cell u) (into_object (m.setting.objects q.object) (stored_as cell v))
      stored_there u v h =
          subst (λ c. IsHeld (stored_as c u) (into_object (m.setting.objects q.object) (stored_as cell v))) (sym one.cell_here)
          (subst (λ o. IsHeld (stored_as cell u) (into_object o (stored_as cell v))) (sym one.there)
          (subst (λ c. IsHeld (stored_as cell u) (stored_as c (stored_as cell v))) (sym one.cell_there) (stored_held cell u v h)))

      kept : (f g : Value → Value) → ((u v : Value) → IsHeld u v → IsRead (f u) (g v)) → Match (record s { cells = changed s.cells p (λ old. stored_as one.shape.cell (f old)) }) (put32 m cell g q)
      kept f g k = record {
        names = match.names;
        fields = match.fields;
        cells = λ b shape e at r. cond_held _ _ _ _ _ _ (same_place b shape at e r) (stored_there _ _ (k _ _ (match.cells b shape e at r))) (match.cells b shape e at r);
        functions = match.functions;
        known = match.known;
        placed = match.placed;
        apart = match.apart;
        roots = match.roots;
      }

      -- the C changes that one spot
      elsewhere : (to : Cell) (f : Value → Value) (o : ℕ) (k : ℤ) → nat_lt o m.setting.free ≡ true → IsOutside g.stored layout s o k → (put32 m to f q).contents o k ≡ m.contents o k
      elsewhere to f o k h out = go (is_spot q o k) refl
        where
          go : (t : Bool) → is_spot q o k ≡ t → cond t (into_object (m.setting.objects q.object) (stored_as to (f (m.contents o k)))) (m.contents o k) ≡ m.contents o k
          go false e = refl
          go true e = absurd (out p.buffer one.shape one.buffer may_store p.at one.in_buffer (one.lies ∙ sym (spot_is q o k e)))

      put_is : (f : Value → Value) → put s f p ≡ Some (record s { cells = changed s.cells p (λ old. stored_as one.shape.cell (f old)) })
      put_is f = ap (option_map (λ shape. record s { cells = changed s.cells p (λ old. stored_as shape.cell (f old)) })) one.buffer

      put_follows : (f g : Value → Value) → ((u v : Value) → IsHeld u v → IsRead (f u) (g v)) → Follows Few Next (put s f p) (Done (put32 m cell g q))
      put_follows f g k = follows_both Few Next _ _ _ _ (put_is f) refl (record { matches = kept f g k; kept = record { buffers = λ b shape e. e; objects = λ o h. refl; free = le_refl m.setting.free; untouched = elsewhere cell g }; control = refl; names = refl; same_buffers = refl })

    -- the type of the cell is that of the store
    typed_follows : (x : ℕ) (is : List Control) (h : IsBuffer forms x (length is)) → AreGood forms most is → Follows Few (AreOne layout s.scene m.setting (root x) h.0) (place s.scene x is) (typed_spot h.0 m.setting (cell_at_of g.naming forms x is))
    typed_follows x is h i =
        follows_good Few (AreOne layout s.scene m.setting (root x) h.0) (λ p. holds_cells (m.setting.objects p.object) h.0) _ _ (cell_follows g.naming forms most layout s.scene m.setting match.names match.placed root match.roots Few x is h i)
        (λ p q one. ap (λ o. holds_cells o h.0) one.there ∙ ap (λ c. same_cell c h.0) one.cell_there ∙ same_itself h.0)

    pub assign_follows : (x : ℕ) (is : List Control) (e : Datum) (h : IsBuffer forms x (length is)) → AreGood forms most is → IsGoodDatum forms most e → g.stored (root x) ≡ true → Follows Few Next (assign x is e s) (store h.0 (cell_at_of g.naming forms x is) (number32_of g.naming forms e) m)
    assign_follows x is e h i j may =
        follows_then Few (AreOne layout s.scene m.setting (root x) h.0) Next _ _ _ _ (typed_follows x is h i)
        (λ p q at one. follows_then Few IsRead Next _ _ _ _ (value_follows e j) (λ u v is_value r. put_follows (root x) may h.0 p q one (λ old. u) (λ old. v) (λ w y held. r)))

    pub reduce_follows : (x : ℕ) (is : List Control) (e : Datum) (h : IsBuffer forms x (length is)) → AreGood forms most is → IsGoodDatum forms most e → g.stored (root x) ≡ true → Follows Few Next (reduce x is e s) (add_to h.0 (cell_at_of g.naming forms x is) (number32_of g.naming forms e) m)
    reduce_follows x is e h i j may =
        follows_then Few (AreOne layout s.scene m.setting (root x) h.0) Next _ _ _ _ (typed_follows x is h i)
        (λ p q at one. follows_then Few IsRead Next _ _ _ _ (value_follows e j) (λ u v is_value r. put_follows (root x) may h.0 p q one (λ old. on_two ◌+ℤ◌ old u) (λ old. with_two ◌+ℤ◌ (as_unsigned old) v) (λ w y held. sum_read w (as_unsigned y) (cell_read w y held) u v r)))
