-- Two loops, one in the other.
use Rattle.std.proofs.Common.{◌≡◌, ◌<ℤ◌, ℕ, zero, suc, ℤ, pos, ◌+ℤ◌, ◌==◌, Bool, true, false, cond, List, [], ◌∷◌, ◌++◌, Option, Some, None, IfSome, option_map, refl, sym, ap, ap₂, ◌∙◌, true≢false, eqb-true, eq-eqb, arith}
use Rattle.std.proofs.Math.Path.{fun_ext}
use Rattle.std.proofs.lemmas.Int.{ints}
use Rattle.exo_tree.specs.Tree.{Binder, Control, For, Block, end, next}
use Rattle.exo_meaning.specs.Value.{Value}
use Rattle.exo_meaning.specs.Scene.{Shape, Scene, then_do}
use Rattle.exo_meaning.specs.State.{State, Cells, kept, left, on_scene, with_control}
use Rattle.exo_meaning.specs.Run.{World, run, turn, turns, turns_of, range}
use Rattle.exo_meaning.specs.Footprint.{IsTidy}
use Rattle.exo_meaning.specs.Orders.{Stays, Crosses, Each, Ascends, row, column, by_rows, by_columns}
use Rattle.exo_meaning.specs.Nests.{both_turns, IsAt, LoopsReorder}
use Rattle.exo_meaning.proofs.Compose.{then_assoc, then_cong}
use Rattle.exo_meaning.proofs.Orders.{turns_reorder, transposed}
use Rattle.exo_meaning.proofs.Frame.{if_then}

pub kept_twice : (o : Option Shape) (f : List ℤ → Value) (at : List ℤ) → kept o (λ at. kept o f at) at ≡ kept o f at
kept_twice None f at = refl
kept_twice (Some shape) f at = refl

-- what is left of a tidy state with the same names is that state
pub left_same : (s w : State) → w.scene ≡ record s.scene { fields = w.scene.fields } → IsTidy w → left s w ≡ w
left_same s w e tidy = ap₂ (λ scene cells. record { scene = scene; cells = cells }) (sym e) (fun_ext (λ b. fun_ext (λ at. go b at (s.scene.buffers b) (ap (λ z. z.buffers b) e))))
  where
    go : (b : ℕ) (at : List ℤ) (o : Option Shape) → w.scene.buffers b ≡ o → kept o (w.cells b) at ≡ w.cells b at
    go b at None k = sym (tidy b k at)
    go b at (Some shape) k = refl

pub left_tidy : (s t : State) → IsTidy (left s t)
left_tidy s t x d at = ap (λ o. kept o (t.cells x) at) d

module _ (i j : ℕ) (body : State → Option State) (n : ℤ) where
  inside : State → State
  inside s = on_scene (with_control i n) s

  -- the scope of a turn of the outer loop may be put round each inner turn
  pub pulled : (s : State) (ms : List ℤ) (w : State) → w.scene ≡ record s.scene { fields = w.scene.fields } → IsTidy w → option_map (left s) (turns (turn j body) ms (on_scene (with_control i n) w)) ≡ turns (λ m. turn i (turn j body m) n) ms w
  pulled s [] w e tidy = ap Some (left_same s w e tidy)
  pulled s (m ∷ ms) w e tidy = go (λ x k. pulled s ms x k) (body (on_scene (with_control j m) (on_scene (with_control i n) w)))
    where
      go : ((x : State) → x.scene ≡ record s.scene { fields = x.scene.fields } → IsTidy x → option_map (left s) (turns (turn j body) ms (on_scene (with_control i n) x)) ≡ turns (λ m. turn i (turn j body m) n) ms x) → (o : Option State) → option_map (left s) (then_do (option_map (left (on_scene (with_control i n) w)) o) (turns (turn j body) ms)) ≡ then_do (option_map (left w) (option_map (left (on_scene (with_control i n) w)) o)) (turns (λ m. turn i (turn j body m) n) ms)
      go ih None = refl
      go ih (Some x) =
          let v = left (on_scene (with_control i n) w) x in
          let same : v ≡ on_scene (with_control i n) (left w v) = ap {A = Cells} {B = State} (λ c. record { scene = record (with_control i n w.scene) { fields = x.scene.fields }; cells = c }) (sym (fun_ext (λ b. fun_ext (λ at. kept_twice (w.scene.buffers b) (x.cells b) at)))) in
          ap (λ z. option_map (left s) (turns (turn j body) ms z)) same
          ∙ ih (left w v) (ap (λ (z : Scene). record z { fields = x.scene.fields }) e) (left_tidy w v)

-- ---- lists of turns

pub turns_append : {T : Type 0} (go : T → State → Option State) (xs ys : List T) (s : State) → turns go (xs ++ ys) s ≡ then_do (turns go xs s) (turns go ys)
turns_append go [] ys s = refl
turns_append go (x ∷ xs) ys s = then_cong (go x s) (turns go (xs ++ ys)) (λ t. then_do (turns go xs t) (turns go ys)) (turns_append go xs ys) ∙ sym (then_assoc (go x s) (turns go xs) (turns go ys))

pub turns_row : (go : ℤ × ℤ → State → Option State) (n : ℤ) (ms : List ℤ) (s : State) → turns (λ m. go (n, m)) ms s ≡ turns go (row n ms) s
turns_row go n [] s = refl
turns_row go n (m ∷ ms) s = then_cong (go (n, m) s) (turns (λ m. go (n, m)) ms) (turns go (row n ms)) (turns_row go n ms)

turns_column : (go : ℤ × ℤ → State → Option State) (m : ℤ) (ns : List ℤ) (s : State) → turns (λ n. go (n, m)) ns s ≡ turns go (column ns m) s
turns_column go m [] s = refl
turns_column go m (n ∷ ns) s = then_cong (go (n, m) s) (turns (λ n. go (n, m)) ns) (turns go (column ns m)) (turns_column go m ns)

pub turns_cong : {T : Type 0} (f g : T → State → Option State) → ((x : T) (s : State) → f x s ≡ g x s) → (xs : List T) (s : State) → turns f xs s ≡ turns g xs s
turns_cong f g h [] s = refl
turns_cong f g h (x ∷ xs) s = ap (λ o. then_do o (turns f xs)) (h x s) ∙ then_cong (g x s) (turns f xs) (turns g xs) (turns_cong f g h xs)

pub turns_stay : {T : Type 0} (Good : State → Type 0) (go : T → State → Option State) → Stays Good go → (xs : List T) (s : State) → Good s → IfSome (turns go xs s) Good
turns_stay Good go k [] s h = h
turns_stay Good go k (x ∷ xs) s h = if_then Good Good (go x s) (turns go xs) (k x s h) (turns_stay Good go k xs)

pub then_cong_if : {A B : Type 0} (P : A → Type 0) (o : Option A) (f g : A → Option B) → IfSome o P → ((a : A) → P a → f a ≡ g a) → then_do o f ≡ then_do o g
then_cong_if P None f g h k = refl
then_cong_if P (Some a) f g h k = k a h

pub then_some : {A : Type 0} (o : Option A) → then_do o (λ a. Some a) ≡ o
then_some None = refl
then_some (Some a) = refl

-- ---- the two orders

controls_swap : (i j : ℕ) → (i == j) ≡ false → (m n : ℤ) (s : State) → on_scene (with_control i n) (on_scene (with_control j m) s) ≡ on_scene (with_control j m) (on_scene (with_control i n) s)
controls_swap i j h m n s = ap (λ f. record { scene = record s.scene { control = f }; cells = s.cells }) (fun_ext (λ x. go x (x == i) (x == j) (eqb-true x i) (eqb-true x j)))
  where
    go : (x : ℕ) (a b : Bool) → (a ≡ true → x ≡ i) → (b ≡ true → x ≡ j) → cond a n (cond b m (s.scene.control x)) ≡ cond b m (cond a n (s.scene.control x))
    go x true true k l = absurd (true≢false (sym (eq-eqb i j (sym (k refl) ∙ l refl)) ∙ h))
    go x true false k l = refl
    go x false true k l = refl
    go x false false k l = refl

turns_swap : (i j : ℕ) → (i == j) ≡ false → (body : State → Option State) (m n : ℤ) (s : State) → turn j (turn i body n) m s ≡ turn i (turn j body m) n s
turns_swap i j h body m n s = ap (λ z. option_map (left s) (option_map (left (on_scene (with_control j m) s)) (body z))) (controls_swap i j h m n s) ∙ go (body (on_scene (with_control j m) (on_scene (with_control i n) s)))
  where
    go : (o : Option State) → option_map (left s) (option_map (left (on_scene (with_control j m) s)) o) ≡ option_map (left s) (option_map (left (on_scene (with_control i n) s)) o)
    go None = refl
    go (Some x) = refl

module _ (world : World) (i j : Binder) (lo hi c d : Control) (b : Block) (s : State) (differ : (i.id == j.id) ≡ false) (inner : (n : ℤ) → turns_of (with_control i.id n s.scene) c d ≡ turns_of s.scene c d) (outer : (n : ℤ) → turns_of (with_control j.id n s.scene) lo hi ≡ turns_of s.scene lo hi) (stays : Stays (IsAt s) (both_turns i.id j.id (run world b))) where
  abbrev pub pair : ℤ × ℤ → State → Option State
  pair = both_turns i.id j.id (run world b)

  abbrev pub ns : List ℤ
  ns = turns_of s.scene lo hi

  abbrev pub ms : List ℤ
  ms = turns_of s.scene c d

  one_row : (n : ℤ) (t : State) → IsAt s t → turn i.id (run world (next (For j c d b) end)) n t ≡ turns pair (row n ms) t
  one_row n t k =
      ap (λ ls. option_map (left t) (then_do (turns (turn j.id (run world b)) ls (on_scene (with_control i.id n) t)) (λ u. Some u))) (ap (λ z. turns_of (with_control i.id n z) c d) k.0 ∙ inner n)
      ∙ ap (option_map (left t)) (then_some (turns (turn j.id (run world b)) ms (on_scene (with_control i.id n) t)))
      ∙ pulled i.id j.id (run world b) n t ms t refl k.1 ∙ turns_row pair n ms t

  one_column : (m : ℤ) (t : State) → IsAt s t → turn j.id (run world (next (For i lo hi b) end)) m t ≡ turns pair (column ns m) t
  one_column m t k =
      ap (λ ls. option_map (left t) (then_do (turns (turn i.id (run world b)) ls (on_scene (with_control j.id m) t)) (λ u. Some u))) (ap (λ z. turns_of (with_control j.id m z) lo hi) k.0 ∙ outer m)
      ∙ ap (option_map (left t)) (then_some (turns (turn i.id (run world b)) ns (on_scene (with_control j.id m) t)))
      ∙ pulled j.id i.id (run world b) m t ns t refl k.1
      ∙ turns_cong (λ n. turn j.id (turn i.id (run world b) n) m) (λ n. pair (n, m)) (λ n u. turns_swap i.id j.id differ (run world b) m n u) ns t ∙ turns_column pair m ns t

  pub all_rows : (xs : List ℤ) (t : State) → IsAt s t → turns (turn i.id (run world (next (For j c d b) end))) xs t ≡ turns pair (by_rows xs ms) t
  all_rows [] t k = refl
  all_rows (n ∷ xs) t k =
      ap (λ o. then_do o (turns (turn i.id (run world (next (For j c d b) end))) xs)) (one_row n t k)
      ∙ then_cong_if (IsAt s) (turns pair (row n ms) t) (turns (turn i.id (run world (next (For j c d b) end))) xs) (turns pair (by_rows xs ms)) (turns_stay (IsAt s) pair stays (row n ms) t k) (all_rows xs)
      ∙ sym (turns_append pair (row n ms) (by_rows xs ms) t)

  pub all_columns : (ys : List ℤ) (t : State) → IsAt s t → turns (turn j.id (run world (next (For i lo hi b) end))) ys t ≡ turns pair (by_columns ns ys) t
  all_columns [] t k = refl
  all_columns (m ∷ ys) t k =
      ap (λ o. then_do o (turns (turn j.id (run world (next (For i lo hi b) end))) ys)) (one_column m t k)
      ∙ then_cong_if (IsAt s) (turns pair (column ns m) t) (turns (turn j.id (run world (next (For i lo hi b) end))) ys) (turns pair (by_columns ns ys)) (turns_stay (IsAt s) pair stays (column ns m) t k) (all_columns ys)
      ∙ sym (turns_append pair (column ns m) (by_columns ns ys) t)

each_above : (a lo : ℤ) → a <ℤ lo → (n : ℕ) → Each (λ x. a <ℤ x) (range lo n)
each_above a lo h zero = tt
each_above a lo h (suc n) = (h, let k : a <ℤ (lo +ℤ pos 1) = omega (arith, ints) in each_above a (lo +ℤ pos 1) k n)

pub range_ascends : (lo : ℤ) (n : ℕ) → Ascends ◌<ℤ◌ (range lo n)
range_ascends lo zero = tt
range_ascends lo (suc n) = (let k : lo <ℤ (lo +ℤ pos 1) = omega (arith, ints) in each_above lo (lo +ℤ pos 1) k n, range_ascends (lo +ℤ pos 1) n)

pub loops_reorder : LoopsReorder
loops_reorder world i j lo hi c d b s differ tidy inner outer stays commute =
    all_rows world i j lo hi c d b s differ inner outer stays (turns_of s.scene lo hi) s (refl, tidy)
    ∙ turns_reorder (Crosses ◌<ℤ◌ ◌<ℤ◌) (IsAt s) (both_turns i.id j.id (run world b)) stays commute (by_rows (turns_of s.scene lo hi) (turns_of s.scene c d)) (by_columns (turns_of s.scene lo hi) (turns_of s.scene c d)) (transposed ◌<ℤ◌ ◌<ℤ◌ (turns_of s.scene lo hi) (turns_of s.scene c d) (range_ascends _ _) (range_ascends _ _)) s (refl, tidy)
    ∙ sym (all_columns world i j lo hi c d b s differ inner outer stays (turns_of s.scene c d) s (refl, tidy))
