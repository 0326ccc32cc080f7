-- Runs of a block whose accesses lie within a window, and of the same through a view of the window.
use Rattle.std.proofs.Common.{◌≡◌, ℕ, ℤ, ◌+ℤ◌, ◌-ℤ◌, ◌==◌, ◌||◌, Bool, true, false, true≢false}
use Rattle.std.proofs.Common.{cond, List, [], ◌∷◌, Option, Some, None, option_map}
use Rattle.std.proofs.Common.{refl, sym, ap, ap₂, ◌∙◌, subst, eqb-true}
use Rattle.std.proofs.Math.Path.{fun_ext}
use Rattle.exo_tree.specs.Tree.{Cell, Control, Coord, Window, Statement, Assign, Reduce, Config, Pass}
use Rattle.exo_tree.specs.Tree.{If, For, Alloc, View, Call, Block, end, next}
use Rattle.exo_tree.specs.Context.{Context, Here, After, InLoop, InThen, InElse, fill}
use Rattle.exo_meaning.specs.Value.{Undefined, on_two}
use Rattle.exo_meaning.specs.Scene.{Seen, then_do, numbers, holds, window}
use Rattle.exo_meaning.specs.Scene.{where_true, updated, whole}
use Rattle.exo_meaning.specs.State.{State, left, on_scene, with_control, with_field, with_view}
use Rattle.exo_meaning.specs.State.{with_buffer, with_contents, put, place, value}
use Rattle.exo_meaning.specs.Calls.{suits, all_positive}
use Rattle.exo_meaning.specs.Run.{World, run, step, argument_number, turn, turns, turns_of, choose}
use Rattle.exo_meaning.specs.Run.{range, count, allocate, tensor}
use Rattle.exo_meaning.specs.Unseen.{in_control as control_mentions}
use Rattle.exo_meaning.specs.Unseen.{in_controls as controls_mention}
use Rattle.exo_meaning.specs.Unseen.{in_condition as condition_mentions, in_datum as datum_mentions}
use Rattle.exo_meaning.specs.Unseen.{in_coords as coords_mention, in_block as mentions}
use Rattle.exo_meaning.specs.Unseen.{in_statement as statement_mentions}
use Rattle.exo_meaning.proofs.Frame.{or_parts}
use Rattle.meaning_laws.specs.Context.{ComesTo, ComesToTurn, now, later}
use Rattle.meaning_laws.specs.Scoped.{has_binder, step_has_binder}
use Rattle.meaning_laws.specs.Sound.{binds, IsSameName}
use Rattle.meaning_laws.proofs.Apart.{binds_less}
use Rattle.meaning_laws.proofs.Names.{if_gives, step_names, come_to_turn_names}
use Rattle.inplace_laws.specs.Windows.{are_plain, coords_have}
use Rattle.inplace_laws.proofs.Windows.{view_kept}
use Rattle.buffer_laws.specs.Staging.Converted.{converted_statement, converted}
use Rattle.buffer_laws.specs.Staging.Converted.{converted_arguments}
use Rattle.buffer_laws.specs.Staging.Converted.{StatementFits}
use Rattle.buffer_laws.specs.StageMem.{asked_of_indices, asked_of_datum, asked_of_statement}
use Rattle.buffer_laws.specs.Stride.OnView.{AllHold, OnViewLaw}
use Rattle.buffer_laws.proofs.OfStride.InView.{number_same, numbers_same, holds_same}
use Rattle.buffer_laws.proofs.OfStride.OnView.{hold_parts, place_on, window_on, number_on, all_on, value_on}
use Rattle.buffer_laws.proofs.OfStride.OnView.{store_on, call_on}

-- two entries changed in either order
swap_updates : {A : Type 0} (f : ℕ → A) (i j : ℕ) (u v : A) → (i == j) ≡ false
    → updated (updated f j v) i u ≡ updated (updated f i u) j v
swap_updates f i j u v e = fun_ext (λ k. go k (k == i) (k == j) refl refl)
  where
    go : (k : ℕ) (p q : Bool) → (k == i) ≡ p → (k == j) ≡ q
        → cond p u (cond q v (f k)) ≡ cond q v (cond p u (f k))
    go k true true m n = absurd (true≢false (sym n ∙ ap (λ h. h == j) (eqb-true k i m) ∙ e))
    go k true false m n = refl
    go k false true m n = refl
    go k false false m n = refl

-- turns whose bodies do the same through a map of states that keeps the names of before
turns_on : (f : State → State) (i : ℕ) (body other : State → Option State)
    → ((s : State) (n : ℤ) → on_scene (with_control i n) (f s) ≡ f (on_scene (with_control i n) s))
    → ((s : State) (o : Option State)
    → option_map (left (f s)) (option_map f o) ≡ option_map f (option_map (left s) o))
    → (ns : List ℤ) (s : State)
    → ((n : ℤ) (u : State) → ComesToTurn (turn i body) ns s n u
    → other (f (on_scene (with_control i n) u))
    ≡ option_map f (body (on_scene (with_control i n) u)))
    → turns (turn i other) ns (f s) ≡ option_map f (turns (turn i body) ns s)
turns_on f i body other inner outer [] s h = refl
turns_on f i body other inner outer (n ∷ ns) s h =
    ap (λ o. then_do o (turns (turn i other) ns)) one
    ∙ go (turn i body n s) refl (λ u e. turns_on f i body other inner outer ns u
    (λ m v come. h m v (later e come)))
  where
    one : turn i other n (f s) ≡ option_map f (turn i body n s)
    one = ap (λ z. option_map (left (f s)) (other z)) (inner s n)
        ∙ ap (option_map (left (f s))) (h n s now)
        ∙ outer s (body (on_scene (with_control i n) s))

    go : (o : Option State) → turn i body n s ≡ o
        → ((u : State) → turn i body n s ≡ Some u
        → turns (turn i other) ns (f u) ≡ option_map f (turns (turn i body) ns u))
        → then_do (option_map f o) (turns (turn i other) ns)
        ≡ option_map f (then_do o (turns (turn i body) ns))
    go None e k = refl
    go (Some u) e k = k u e

module _ (world : World) (a x : ℕ) (seen : Seen) (dims : List Control) (coords : List Coord)
    (spots : coords_mention (λ y. y == a) coords ≡ false) (plain : are_plain coords ≡ true) where
  abbrev new : ℕ → Bool
  new y = y == a

  abbrev W : State → State
  W = on_scene (with_view a seen)

  -- the state behind a scope
  left_on : (s : State) (o : Option State)
      → option_map (left (W s)) (option_map W o) ≡ option_map W (option_map (left s) o)
  left_on s None = refl
  left_on s (Some t) = refl

  choose_on : (q : Bool) (f g h k : State → Option State) (s : State)
      → (q ≡ true → h (W s) ≡ option_map W (f s)) → (q ≡ false → k (W s) ≡ option_map W (g s))
      → choose q h k (W s) ≡ option_map W (choose q f g s)
  choose_on true f g h k s i j = i refl
  choose_on false f g h k s i j = j refl

  -- ---- what is known along the way

  abbrev Keeps : Block → State → Type 0
  Keeps b s = (c : Context) (d : Statement) (u : State) → b ≡ fill c (next d end)
      → ComesTo world (next d end) c s u
      → StatementFits x coords u.scene d
      × AllHold u.scene (asked_of_statement x dims coords d)

  abbrev There : State → Type 0
  There s = window s.scene x coords ≡ Some seen

  abbrev LeavesWindow : (ℕ → Bool) → Type 0
  LeavesWindow bound = (bound x ≡ false)
      × ((y : ℕ) → coords_have coords y ≡ true → bound y ≡ false)

  first_leaves : (f g : ℕ → Bool) → LeavesWindow (λ y. f y || g y) → LeavesWindow f
  first_leaves f g h = ((or_parts (f x) (g x) h.0).0, λ y e. (or_parts (f y) (g y) (h.1 y e)).0)

  second_leaves : (f g : ℕ → Bool) → LeavesWindow (λ y. f y || g y) → LeavesWindow g
  second_leaves f g h = ((or_parts (f x) (g x) h.0).1, λ y e. (or_parts (f y) (g y) (h.1 y e)).1)

  still_there : (bound : ℕ → Bool) (s u : State)
      → ((y : ℕ) → bound y ≡ false → IsSameName y s u) → LeavesWindow bound → There s → There u
  still_there bound s u names h there =
      sym (view_kept x (Window x coords) plain (Window x coords) s.scene u.scene plain
      (names x h.0).views (λ y e. (names y (h.1 y e)).control)) ∙ there

  same_binds : (d : Statement) (y : ℕ) → binds (converted_statement a x coords d) y ≡ binds d y
  same_binds (Assign z is e) y = refl
  same_binds (Reduce z is e) y = refl
  same_binds (Config f g) y = refl
  same_binds Pass y = refl
  same_binds (If c b d) y = refl
  same_binds (For i lo hi b) y = refl
  same_binds (Alloc z cell ds memory) y = refl
  same_binds (View w z ds) y = refl
  same_binds (Call k gs) y = refl

  there_behind : (d : Statement) (s u : State)
      → LeavesWindow (step_has_binder (converted_statement a x coords d)) → There s
      → step world d s ≡ Some u → There u
  there_behind d s u h there e =
      still_there (step_has_binder (converted_statement a x coords d)) s u (λ y k.
      if_gives (λ v. (y : ℕ) → binds d y ≡ false → IsSameName y s v) (step world d s) u
      (step_names world d s) e y
      (sym (same_binds d y) ∙ binds_less (converted_statement a x coords d) y k)) h there

  there_in_turn : (i : ℕ) (b : Block) (ns : List ℤ) (s u : State) (n : ℤ) (bound : ℕ → Bool)
      → LeavesWindow (λ y. (y == i) || bound y) → There s
      → ComesToTurn (turn i (run world b)) ns s n u → There (on_scene (with_control i n) u)
  there_in_turn i b ns s u n bound h there come =
      still_there (λ y. (y == i) || bound y) s (on_scene (with_control i n) u) (λ y k.
      let same = come_to_turn_names i (run world b) ns s n u come y in
      record {
        control = same.control
            ∙ sym (ap (λ q. cond q n (u.scene.control y)) (or_parts (y == i) (bound y) k).0);
        buffers = same.buffers;
        views = same.views;
      }) h there

  -- ---- names that are made

  allocated_on : (y : ℕ) (cell : Cell) (ns : List ℤ) (s : State) → new y ≡ false
      → allocate y cell ns (W s) ≡ option_map W (allocate y cell ns s)
  allocated_on y cell ns s other = go (all_positive ns)
    where
      made : with_contents y (λ at. Undefined) (on_scene (with_buffer y (tensor cell ns)) (W s))
          ≡ W (with_contents y (λ at. Undefined) (on_scene (with_buffer y (tensor cell ns)) s))
      made = ap (λ views. record {
        scene = record {
          control = s.scene.control;
          buffers = updated s.scene.buffers y (Some (tensor cell ns));
          views = views;
          fields = s.scene.fields;
        };
        cells = updated s.cells y (λ at. Undefined);
      }) (swap_updates s.scene.views y a (Some (record { buffer = y; sides = whole ns }))
          (Some seen) other)

      go : (t : Bool) → where_true t (Some (with_contents y (λ at. Undefined)
          (on_scene (with_buffer y (tensor cell ns)) (W s))))
          ≡ option_map W (where_true t (Some (with_contents y (λ at. Undefined)
          (on_scene (with_buffer y (tensor cell ns)) s))))
      go true = ap Some made
      go false = refl

  seen_on : (w : ℕ) (s : State) (o : Option Seen) → new w ≡ false
      → then_do o (λ z. Some (on_scene (with_view w z) (W s)))
      ≡ option_map W (then_do o (λ z. Some (on_scene (with_view w z) s)))
  seen_on w s None other = refl
  seen_on w s (Some z) other = ap (λ views. Some (record {
    scene = record {
      control = s.scene.control;
      buffers = s.scene.buffers;
      views = views;
      fields = s.scene.fields;
    };
    cells = s.cells;
  })) (swap_updates s.scene.views w a (Some z) (Some seen) other)

  configured : (f : ℕ) (s : State) (o : Option ℤ)
      → then_do o (λ n. where_true (suits (world.kinds f) n) (Some (on_scene (with_field f n) (W s))))
      ≡ option_map W (then_do o (λ n. where_true (suits (world.kinds f) n)
      (Some (on_scene (with_field f n) s))))
  configured f s None = refl
  configured f s (Some n) = go (suits (world.kinds f) n)
    where
      go : (t : Bool) → where_true t (Some (on_scene (with_field f n) (W s)))
          ≡ option_map W (where_true t (Some (on_scene (with_field f n) s)))
      go true = refl
      go false = refl

  next_on : (o : Option State) (f g : State → Option State)
      → ((u : State) → o ≡ Some u → g (W u) ≡ option_map W (f u))
      → then_do (option_map W o) g ≡ option_map W (then_do o f)
  next_on None f g h = refl
  next_on (Some u) f g h = h u refl

  -- ---- trees

  mutual
    run_on : (b : Block) (s : State) → mentions new b ≡ false
        → LeavesWindow (has_binder (converted a x coords b)) → Keeps b s → There s
        → run world (converted a x coords b) (W s) ≡ option_map W (run world b s)
    run_on end s h leaves keeps there = refl
    run_on (next d b) s h leaves keeps there =
        let p = or_parts (statement_mentions new d) (mentions new b) h in
        let here = step_has_binder (converted_statement a x coords d) in
        let after = has_binder (converted a x coords b) in
        ap (λ o. then_do o (run world (converted a x coords b)))
        (step_on d b s p.0 (first_leaves here after leaves) keeps there)
        ∙ next_on (step world d s) (run world b) (run world (converted a x coords b))
        (λ u e. run_on b u p.1 (second_leaves here after leaves)
        (λ c f v same come. keeps (After d c) f v (ap (next d) same) (u, e, come))
        (there_behind d s u (first_leaves here after leaves) there e))

    step_on : (d : Statement) (rest : Block) (s : State) → statement_mentions new d ≡ false
        → LeavesWindow (step_has_binder (converted_statement a x coords d))
        → Keeps (next d rest) s → There s
        → step world (converted_statement a x coords d) (W s) ≡ option_map W (step world d s)
    step_on (Assign y is d) rest s h leaves keeps there =
        let p = or_parts (new y) (controls_mention new is || datum_mentions new d) h in
        let q = or_parts (controls_mention new is) (datum_mentions new d) p.1 in
        let k = keeps (Here rest) (Assign y is d) s refl refl in
        let r = hold_parts s.scene (cond (y == x) (asked_of_indices coords is) [])
        (asked_of_datum x dims coords d) k.1 in
        ap₂ (λ o w. then_do o (λ z. then_do w (λ v. put (W s) (λ old. v) z)))
        (place_on a x seen dims coords spots s.scene there y is p.0 q.0 k.0.0 r.0)
        (value_on a x seen dims coords spots s there d q.1 k.0.1 r.1)
        ∙ store_on a x seen dims coords spots s (λ v old. v) (place s.scene y is) (value s d)
    step_on (Reduce y is d) rest s h leaves keeps there =
        let p = or_parts (new y) (controls_mention new is || datum_mentions new d) h in
        let q = or_parts (controls_mention new is) (datum_mentions new d) p.1 in
        let k = keeps (Here rest) (Reduce y is d) s refl refl in
        let r = hold_parts s.scene (cond (y == x) (asked_of_indices coords is) [])
        (asked_of_datum x dims coords d) k.1 in
        ap₂ (λ o w. then_do o (λ z. then_do w (λ v. put (W s) (λ old. on_two ◌+ℤ◌ old v) z)))
        (place_on a x seen dims coords spots s.scene there y is p.0 q.0 k.0.0 r.0)
        (value_on a x seen dims coords spots s there d q.1 k.0.1 r.1)
        ∙ store_on a x seen dims coords spots s (λ v old. on_two ◌+ℤ◌ old v)
        (place s.scene y is) (value s d)
    step_on (Config f g) rest s h leaves keeps there =
        ap (λ o. then_do o (λ n. where_true (suits (world.kinds f) n)
        (Some (on_scene (with_field f n) (W s)))))
        (number_on a x seen dims coords spots s.scene there g h)
        ∙ configured f s (argument_number s.scene g)
    step_on Pass rest s h leaves keeps there = refl
    step_on (If c b d) rest s h leaves keeps there =
        let p = or_parts (condition_mentions new c) (mentions new b || mentions new d) h in
        let q = or_parts (mentions new b) (mentions new d) p.1 in
        let in_b = has_binder (converted a x coords b) in
        let in_d = has_binder (converted a x coords d) in
        ap (λ t. option_map (left (W s)) (choose t (run world (converted a x coords b))
        (run world (converted a x coords d)) (W s))) (holds_same a seen s.scene c p.0)
        ∙ ap (option_map (left (W s))) (choose_on (holds s.scene c) (run world b) (run world d)
        (run world (converted a x coords b)) (run world (converted a x coords d)) s
        (λ i. run_on b s q.0 (first_leaves in_b in_d leaves) (λ k f v same come.
        keeps (InThen c k d rest) f v (ap (λ z. next (If c z d) rest) same) (i, come)) there)
        (λ i. run_on d s q.1 (second_leaves in_b in_d leaves) (λ k f v same come.
        keeps (InElse c b k rest) f v (ap (λ z. next (If c b z) rest) same) (i, come)) there))
        ∙ left_on s (choose (holds s.scene c) (run world b) (run world d) s)
    step_on (For i lo hi b) rest s h leaves keeps there =
        let p = or_parts (new i.id) _ h in
        let q = or_parts (control_mentions new lo) _ p.1 in
        let r = or_parts (control_mentions new hi) (mentions new b) q.1 in
        let inner = converted a x coords b in
        ap₂ (λ m n. turns (turn i.id (run world inner)) (range m (count (n -ℤ m))) (W s))
        (number_same a seen s.scene lo q.0) (number_same a seen s.scene hi r.0)
        ∙ turns_on W i.id (run world b) (run world inner) (λ t n. refl) left_on
        (turns_of s.scene lo hi) s (λ n u come.
        run_on b (on_scene (with_control i.id n) u) r.1
        (second_leaves (λ y. y == i.id) (has_binder inner) leaves)
        (λ k f v same z. keeps (InLoop i lo hi k rest) f v
        (ap (λ w. next (For i lo hi w) rest) same) (
          n,
          u,
          subst (λ w. ComesToTurn (turn i.id (run world w)) (turns_of s.scene lo hi) s
              n u) same come,
          z,
        ))
        (there_in_turn i.id b (turns_of s.scene lo hi) s u n (has_binder inner) leaves there
        come))
    step_on (Alloc y cell ds memory) rest s h leaves keeps there =
        let p = or_parts (new y.id) (controls_mention new ds) h in
        ap (λ ns. allocate y.id cell ns (W s)) (numbers_same a seen s.scene ds p.1)
        ∙ allocated_on y.id cell (numbers s.scene ds) s p.0
    step_on (View w y ds) rest s h leaves keeps there =
        let p = or_parts (new w.id) (new y || coords_mention new ds) h in
        let q = or_parts (new y) (coords_mention new ds) p.1 in
        let k = keeps (Here rest) (View w y ds) s refl refl in
        ap (λ o. then_do o (λ z. Some (on_scene (with_view w.id z) (W s))))
        (window_on a x seen dims coords spots s.scene there y ds q.0 q.1 k.0 k.1)
        ∙ seen_on w.id s (window s.scene y ds) p.0
    step_on (Call k gs) rest s h leaves keeps there =
        let c = keeps (Here rest) (Call k gs) s refl refl in
        call_on a x seen dims coords spots s (world.callees k) gs
        (converted_arguments a x coords gs)
        (all_on a x seen dims coords spots s.scene there gs h c.0 c.1)

pub on_view_law : OnViewLaw
on_view_law world a x seen dims coords b s may lies =
    run_on world a x seen dims coords may.new.spots may.between.plain b s may.new.block
    (may.between.name, may.between.variables)
    (λ c d u is come. (may.fit c d u is come, lies c d u is come)) may.window
