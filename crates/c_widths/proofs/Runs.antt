-- Names stay within their bounds along a run.
use Rattle.std.proofs.Common.{◌≡◌, ◌≤◌, ◌*◌, ◌^◌, ℕ, zero, suc, ℤ, pos, negsuc, ◌+ℤ◌, ◌-ℤ◌, ◌*ℤ◌, ◌≤ℤ◌, ◌==◌, int_le, Bool, true, false, ◌&&◌, if◌then◌else◌, List, [], ◌∷◌, Option, Some, None, option_map, max, refl, sym, subst, arith, true≢false, unsigned_abs}
use Rattle.std.specs.Prelude.{⊤}
use Rattle.std.proofs.lemmas.Int.{ints}
use Rattle.std.proofs.lemmas.Bool.{and_parts, leb-true}
use Rattle.std.proofs.lemmas.Nat.{mul-le}
use Rattle.std.proofs.Math.Nat.{le_trans, le_refl, le-max_left, le-max_right}
use Rattle.exo_tree.specs.Tree.{Argument, ControlArg, ConditionArg, Whole, Window, Condition, Statement, Assign, Reduce, Config, Pass, If, For, Alloc, View, Call, Block, end, next, MemoryKind}
use Rattle.exo_meaning.specs.Scene as scene
use Rattle.exo_meaning.specs.Scene.{Scene, Shape, Seen, updated, number, holds, then_do, where_true, window}
use Rattle.exo_meaning.specs.State.{State, place, value, left, on_scene, with_control, with_field, with_buffer}
use Rattle.exo_meaning.specs.Calls.{truth, suits, all_positive}
use Rattle.exo_meaning.specs.Run.{World, product, row_major, tensor, range, count, turn, turns, turns_of, choose, run, step}
use Rattle.exo_meaning.specs.Orders.{Each}
use Rattle.exo_meaning.specs.Inputs.{IsBetween}
use Rattle.c_widths.specs.Magnitude.{magnitude, is_narrow}
use Rattle.c_widths.specs.Widths.{with_bounds, is_narrow_test, is_narrow_setting, is_narrow_block, is_narrow_statement, have_narrow_dims, are_narrow_tests, most_of}
use Rattle.c_widths.specs.Laws.{is_over, is_setting_over, is_block_over, is_statement_over, IsWithin, EachTurn, AllocatesFew, StatementAllocatesFew, StaysWithin, StatementStaysWithin, controls, RunsLaw}
use Rattle.c_widths.proofs.Values.{values_within}
use Rattle.c_widths.proofs.Starts.{starts_within}

-- ---- what is there

abbrev Every : {A : Type 0} → (A → Type 0) → Option A → Type 0
Every P None = ⊤
Every P (Some a) = P a

every : {A : Type 0} (P : A → Type 0) (o : Option A) → ((a : A) → o ≡ Some a → P a) → Every P o
every P None h = tt
every P (Some a) h = h a refl

every_then : {A B : Type 0} (P : B → Type 0) (f : A → Option B) (o : Option A) → ((a : A) → o ≡ Some a → Every P (f a)) → Every P (then_do o f)
every_then P f None h = tt
every_then P f (Some a) h = h a refl

every_map : {A B : Type 0} (P : B → Type 0) (f : A → B) (o : Option A) → Every (λ a. P (f a)) o → Every P (option_map f o)
every_map P f None h = tt
every_map P f (Some a) h = h

every_where : {A : Type 0} (P : A → Type 0) (b : Bool) (a : A) → (b ≡ true → P a) → Every P (where_true b (Some a))
every_where P true a h = h refl
every_where P false a h = tt

-- ---- numbers

between : (z lo hi : ℤ) (m : ℕ) → lo ≤ℤ z → z ≤ℤ hi → unsigned_abs lo ≤ m → unsigned_abs hi ≤ m → unsigned_abs z ≤ m
between (pos z) lo (pos hi) m l u a b = omega (arith, ints)
between (pos z) lo (negsuc hi) m l u a b = absurd (omega (arith, ints))
between (negsuc z) (pos lo) hi m l u a b = absurd (omega (arith, ints))
between (negsuc z) (negsuc lo) hi m l u a b = omega (arith, ints)

range_small : (k : ℕ) (at lo hi : ℤ) (m : ℕ) → lo ≤ℤ at → (at +ℤ pos k) ≤ℤ hi → unsigned_abs lo ≤ m → unsigned_abs hi ≤ m → Each (λ n. unsigned_abs n ≤ m) (range at k)
range_small zero at lo hi m l u a b = tt
range_small (suc k) at lo hi m l u a b = (between at lo hi m l (omega (arith, ints)) a b, range_small k (at +ℤ pos 1) lo hi m (omega (arith, ints)) (omega (arith, ints)) a b)

turns_small : (lo hi : ℤ) (m : ℕ) (d : ℤ) → (hi -ℤ lo) ≡ d → unsigned_abs lo ≤ m → unsigned_abs hi ≤ m → Each (λ n. unsigned_abs n ≤ m) (range lo (count d))
turns_small lo hi m (pos k) e a b = range_small k lo lo hi m (omega (arith, ints)) (omega (arith, ints)) a b
turns_small lo hi m (negsuc k) e a b = tt

positive_product : (ds : List ℤ) → all_positive ds ≡ true → int_le (pos 1) (product ds) ≡ true
positive_product [] h = refl
positive_product (d ∷ ds) h = let p = and_parts (int_le (pos 1) d) (all_positive ds) h in both d (product ds) p.0 (positive_product ds p.1)
  where
    both : (x y : ℤ) → int_le (pos 1) x ≡ true → int_le (pos 1) y ≡ true → int_le (pos 1) (x *ℤ y) ≡ true
    both (pos zero) y h k = absurd (true≢false (sym h))
    both (pos (suc x)) (pos zero) h k = absurd (true≢false (sym k))
    both (pos (suc x)) (pos (suc y)) h k = grind (arith, ints)
    both (pos (suc x)) (negsuc y) h k = absurd (true≢false (sym k))
    both (negsuc x) y h k = absurd (true≢false (sym h))

part_small : (x y : ℤ) → int_le (pos 1) x ≡ true → int_le (pos 1) y ≡ true → (x *ℤ y) ≤ℤ pos (2 ^ 48) → IsBetween (pos 0) (pos (2 ^ 48)) y
part_small (pos zero) y h k l = absurd (true≢false (sym h))
part_small (pos (suc x)) (pos y) h k l = let p : 1 * y ≤ suc x * y = mul-le 1 y (suc x) y (omega arith) (le_refl y) in (omega (arith, ints), omega (arith, ints))
part_small (pos (suc x)) (negsuc y) h k l = absurd (true≢false (sym k))
part_small (negsuc x) y h k l = absurd (true≢false (sym h))

rows_small : (ds : List ℤ) → all_positive ds ≡ true → product ds ≤ℤ pos (2 ^ 48) → Each (IsBetween (pos 0) (pos (2 ^ 48))) (row_major ds)
rows_small [] h l = tt
rows_small (d ∷ ds) h l =
    let p = and_parts (int_le (pos 1) d) (all_positive ds) h in
    let small = part_small d (product ds) p.0 (positive_product ds p.1) l in
    (small, rows_small ds p.1 small.1)

truth_small : (b : Bool) → unsigned_abs (truth b) ≤ 2 ^ 48
truth_small true = omega arith
truth_small false = omega arith

-- ---- scenes

control_within : (numbers : ℕ → Bool) (most : ℕ → ℕ) (scene : Scene) → IsWithin numbers most scene → (i : ℕ) (n : ℤ) (m : ℕ) → unsigned_abs n ≤ m → IsWithin (updated numbers i true) (updated most i m) (with_control i n scene)
control_within numbers most scene w i n m h = record { control = λ x. here x (x == i); fields = w.fields; strides = w.strides }
  where
    here : (x : ℕ) (t : Bool) → (if t then true else numbers x) ≡ true → unsigned_abs (if t then n else scene.control x) ≤ (if t then m else most x)
    here x true g = h
    here x false g = w.control x g

field_within : (numbers : ℕ → Bool) (most : ℕ → ℕ) (scene : Scene) → IsWithin numbers most scene → (f : ℕ) (n : ℤ) → unsigned_abs n ≤ 2 ^ 48 → IsWithin numbers most (with_field f n scene)
field_within numbers most scene w f n h = record { control = w.control; fields = λ g. here g (g == f); strides = w.strides }
  where
    here : (g : ℕ) (t : Bool) → unsigned_abs (if t then n else scene.fields g) ≤ 2 ^ 48
    here g true = h
    here g false = w.fields g

buffer_within : (numbers : ℕ → Bool) (most : ℕ → ℕ) (scene : Scene) → IsWithin numbers most scene → (x : ℕ) (own : Shape) → Each (IsBetween (pos 0) (pos (2 ^ 48))) own.strides → IsWithin numbers most (with_buffer x own scene)
buffer_within numbers most scene w x own h = record { control = w.control; fields = w.fields; strides = λ b shape. here b shape (b == x) }
  where
    here : (b : ℕ) (shape : Shape) (t : Bool) → (if t then Some own else scene.buffers b) ≡ Some shape → Each (IsBetween (pos 0) (pos (2 ^ 48))) shape.strides
    here b shape true e = subst (Every (λ (z : Shape). Each (IsBetween (pos 0) (pos (2 ^ 48))) z.strides)) e h
    here b shape false e = w.strides b shape e

module _ (world : World) (memories : List MemoryKind) where
  abbrev Holds : (ℕ → Bool) → (ℕ → ℕ) → State → Type 0
  Holds numbers most t = IsWithin numbers most t.scene

  -- a scope's end brings the names back
  left_within : (numbers inner : ℕ → Bool) (most within : ℕ → ℕ) (s u : State) → Holds numbers most s → Holds inner within u → Holds numbers most (left s u)
  left_within numbers inner most within s u w v = record { control = w.control; fields = v.fields; strides = w.strides }

  scope_within : (numbers inner : ℕ → Bool) (most within : ℕ → ℕ) (s : State) (o : Option State) → Holds numbers most s → Every (Holds inner within) o → Every (Holds numbers most) (option_map (left s) o)
  scope_within numbers inner most within s None w h = tt
  scope_within numbers inner most within s (Some u) w h = left_within numbers inner most within s u w h

  abbrev Goes : (ℕ → Bool) → (ℕ → ℕ) → Block → State → Type 0
  Goes numbers most b s = StaysWithin world numbers most b s × Every (Holds numbers most) (run world b s)

  branches_within : (numbers : ℕ → Bool) (most : ℕ → ℕ) (c : Condition) (a b : Block) (s : State) → Holds numbers most s → (holds s.scene c ≡ true → Goes numbers most a s) → (holds s.scene c ≡ false → Goes numbers most b s) → StatementStaysWithin world numbers most (If c a b) s × Every (Holds numbers most) (step world (If c a b) s)
  branches_within numbers most c a b s w f g = (((λ e. (f e).0), (λ e. (g e).0)), scope_within numbers numbers most most s _ w (here (holds s.scene c) refl))
    where
      here : (t : Bool) → holds s.scene c ≡ t → Every (Holds numbers most) (choose t (run world a) (run world b) s)
      here true e = (f e).1
      here false e = (g e).1

  turns_within : (numbers : ℕ → Bool) (most : ℕ → ℕ) (i m : ℕ) (b : Block) → ((t : State) → Holds (updated numbers i true) (updated most i m) t → AllocatesFew world b t → Goes (updated numbers i true) (updated most i m) b t) → (ns : List ℤ) → Each (λ n. unsigned_abs n ≤ m) ns → (t : State) → Holds numbers most t → EachTurn (turn i (run world b)) (λ n u. AllocatesFew world b (on_scene (with_control i n) u)) ns t
      → EachTurn (turn i (run world b)) (λ n u. StaysWithin world (updated numbers i true) (updated most i m) b (on_scene (with_control i n) u)) ns t × Every (Holds numbers most) (turns (turn i (run world b)) ns t)
  turns_within numbers most i m b body [] h t w few = (tt, w)
  turns_within numbers most i m b body (n ∷ ns) h t w few =
      let first = body (on_scene (with_control i n) t) (control_within numbers most t.scene w i n m h.0) few.0 in
      let after = scope_within numbers (updated numbers i true) most (updated most i m) t (run world b (on_scene (with_control i n) t)) w first.1 in
      let later = λ (u : State) (e : turn i (run world b) n t ≡ Some u). turns_within numbers most i m b body ns h.1 u (subst (Every (Holds numbers most)) e after) (few.1 u e) in
      ((first.0, λ u e. (later u e).0), every_then (Holds numbers most) (turns (turn i (run world b)) ns) (turn i (run world b) n t) (λ u e. (later u e).1))

  setting_within : (numbers : ℕ → Bool) (most : ℕ → ℕ) (f : ℕ) (a : Argument) → is_narrow_setting most a ≡ true → is_setting_over numbers a ≡ true → (s : State) → Holds numbers most s → Every (Holds numbers most) (step world (Config f a) s)
  setting_within numbers most f (ControlArg a) n o s w =
      let small = le_trans (values_within numbers most s.scene a w o) (leb-true (magnitude most a) (2 ^ 48) (and_parts (is_narrow most a) _ n).1) in
      every_where (Holds numbers most) (suits (world.kinds f) (number s.scene a)) _ (λ e. field_within numbers most s.scene w f (number s.scene a) small)
  setting_within numbers most f (ConditionArg c) n o s w = every_where (Holds numbers most) (suits (world.kinds f) (truth (holds s.scene c))) _ (λ e. field_within numbers most s.scene w f (truth (holds s.scene c)) (truth_small (holds s.scene c)))
  setting_within numbers most f (Whole x) n o s w = tt
  setting_within numbers most f (Window x coords) n o s w = tt

  mutual
    block_within : (numbers : ℕ → Bool) (most : ℕ → ℕ) (b : Block) → is_narrow_block memories most b ≡ true → is_block_over numbers b ≡ true → (s : State) → Holds numbers most s → AllocatesFew world b s → Goes numbers most b s
    block_within numbers most end n o s w few = (w, w)
    block_within numbers most (next a b) n o s w few =
        let narrow = and_parts (is_narrow_statement memories most a) (is_narrow_block memories most b) n in
        let over = and_parts (is_statement_over numbers a) (is_block_over numbers b) o in
        let first = statement_within numbers most a narrow.0 over.0 s w few.0 in
        let later = λ (t : State) (e : step world a s ≡ Some t). block_within numbers most b narrow.1 over.1 t (subst (Every (Holds numbers most)) e first.1) (few.1 t e) in
        ((w, first.0, λ t e. (later t e).0), every_then (Holds numbers most) (run world b) (step world a s) (λ t e. (later t e).1))

    statement_within : (numbers : ℕ → Bool) (most : ℕ → ℕ) (a : Statement) → is_narrow_statement memories most a ≡ true → is_statement_over numbers a ≡ true → (s : State) → Holds numbers most s → StatementAllocatesFew world a s → StatementStaysWithin world numbers most a s × Every (Holds numbers most) (step world a s)
    statement_within numbers most (Assign x is e) n o s w few = (tt, every_then (Holds numbers most) _ (place s.scene x is) (λ p q. every_then (Holds numbers most) _ (value s e) (λ v r. every_map (Holds numbers most) _ (s.scene.buffers p.buffer) (every (λ (shape : Shape). Holds numbers most s) (s.scene.buffers p.buffer) (λ shape k. w)))))
    statement_within numbers most (Reduce x is e) n o s w few = (tt, every_then (Holds numbers most) _ (place s.scene x is) (λ p q. every_then (Holds numbers most) _ (value s e) (λ v r. every_map (Holds numbers most) _ (s.scene.buffers p.buffer) (every (λ (shape : Shape). Holds numbers most s) (s.scene.buffers p.buffer) (λ shape k. w)))))
    statement_within numbers most (Config f a) n o s w few = (tt, setting_within numbers most f a n o s w)
    statement_within numbers most Pass n o s w few = (tt, w)
    statement_within numbers most (If c a b) n o s w few =
        let head = and_parts (is_narrow_test most c && is_narrow_block memories most a) (is_narrow_block memories most b) n in
        let first = and_parts (is_narrow_test most c) (is_narrow_block memories most a) head.0 in
        let over = and_parts (is_block_over numbers a) (is_block_over numbers b) o in
        branches_within numbers most c a b s w (λ e. block_within numbers most a first.1 over.0 s w (few.0 e)) (λ e. block_within numbers most b head.1 over.1 s w (few.1 e))
    statement_within numbers most (For i lo hi b) n o s w few =
        let m = max (magnitude most lo) (magnitude most hi) in
        let narrow = (and_parts (is_narrow most lo && is_narrow most hi) (is_narrow_block memories (with_bounds most i.id lo hi) b) n).1 in
        let over = and_parts (is_over numbers lo && is_over numbers hi) (is_block_over (updated numbers i.id true) b) o in
        let ends = and_parts (is_over numbers lo) (is_over numbers hi) over.0 in
        let below = le_trans (values_within numbers most s.scene lo w ends.0) (le-max_left (magnitude most lo) (magnitude most hi)) in
        let above = le_trans (values_within numbers most s.scene hi w ends.1) (le-max_right (magnitude most lo) (magnitude most hi)) in
        turns_within numbers most i.id m b (λ t. block_within (updated numbers i.id true) (updated most i.id m) b narrow over.1 t) (turns_of s.scene lo hi)
        (turns_small (number s.scene lo) (number s.scene hi) m (number s.scene hi -ℤ number s.scene lo) refl below above) s w few
    statement_within numbers most (Alloc x cell dims memory) n o s w few =
        (tt, every_where (Holds numbers most) (all_positive (scene.numbers s.scene dims)) _ (λ e. buffer_within numbers most s.scene w x.id (tensor cell (scene.numbers s.scene dims)) (rows_small (scene.numbers s.scene dims) e few)))
    statement_within numbers most (View x y coords) n o s w few = (tt, every_then (Holds numbers most) _ (window s.scene y coords) (λ seen e. record { control = w.control; fields = w.fields; strides = w.strides }))
    statement_within numbers most (Call k args) n o s w few = absurd (true≢false (sym o))

pub runs_stay_within : RunsLaw
runs_stay_within memories world p s n o valid few =
    let body = and_parts (have_narrow_dims (most_of p.params) p.params && are_narrow_tests (most_of p.params) p.asserts) (is_narrow_block memories (most_of p.params) p.body) n in
    (block_within world memories (controls p.params) (most_of p.params) p.body body.1 o s (starts_within world p s valid) few).0
