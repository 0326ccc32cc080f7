-- A run changes cells as its footprint says.
use Rattle.std.proofs.Common.{◌≡◌, ℕ, ℤ, ◌+ℤ◌, ◌==◌, Bool, true, false, cond, ◌||◌, List, [], ◌∷◌, ◌++◌, Option, Some, None, IfSome, option_map, refl, sym, ap, ap₂, ◌∙◌, subst}
use Rattle.std.proofs.Math.Path.{fun_ext}
use Rattle.exo_tree.specs.Tree.{Cell, Argument, Statement, Assign, Reduce, Config, Pass, If, For, Alloc, View, Call, Block, end, next}
use Rattle.exo_meaning.specs.Value.{Value, Undefined, stored_as, on_two}
use Rattle.exo_meaning.specs.Scene.{Shape, then_do, numbers, holds, window}
use Rattle.exo_meaning.specs.State.{State, Place, place, is_there, changed, put, value, kept, left, on_scene, with_control, with_field, with_view, with_contents, with_buffer}
use Rattle.exo_meaning.specs.Calls.{suits, all_positive}
use Rattle.exo_meaning.specs.Run.{World, run, step, call_to, turn, turns, turns_of, choose, argument_number, tensor}
use Rattle.exo_meaning.specs.Footprint.{Writes, Reduces, Entry, Made, all_read, written, reduced_as, reduced, reads, IsFixed, further, chosen, turns_touch, footprint, step_footprint, under, stores_one, stores, overwrites_one, overwrites, IsTidy, added, added_all, IsSum, ChangesBy}
use Rattle.exo_meaning.proofs.Cells.{there_is}
use Rattle.exo_meaning.proofs.Frame.{if_then, if_map, if_where, any, if_weaken, or_parts, updated_other}

none_some : {A : Type 0} {a : A} → None ≡ Some a → ⊥
none_some e = cc

some_injective : {A : Type 0} (a b : A) → Some a ≡ Some b → a ≡ b
some_injective a b e = cc

-- ---- footprints in a row

pub stores_parts : (p : Place) (xs ys : List Entry) → stores p (xs ++ ys) ≡ false → (stores p xs ≡ false) × (stores p ys ≡ false)
stores_parts p [] ys h = (refl, h)
stores_parts p (x ∷ xs) ys h =
    let t = or_parts (stores_one p x) (stores p (xs ++ ys)) h in
    let u = stores_parts p xs ys t.1 in
    (ap₂ (λ a b. a || b) t.0 u.0, u.1)

pub overwrites_parts : (p : Place) (xs ys : List Entry) → overwrites p (xs ++ ys) ≡ false → (overwrites p xs ≡ false) × (overwrites p ys ≡ false)
overwrites_parts p [] ys h = (refl, h)
overwrites_parts p (x ∷ xs) ys h =
    let t = or_parts (overwrites_one p x) (overwrites p (xs ++ ys)) h in
    let u = overwrites_parts p xs ys t.1 in
    (ap₂ (λ a b. a || b) t.0 u.0, u.1)

added_all-append : (cell : Cell) (us ws : List Value) (v : Value) → added_all cell (us ++ ws) v ≡ added_all cell ws (added_all cell us v)
added_all-append cell [] ws v = refl
added_all-append cell (u ∷ us) ws v = added_all-append cell us ws (added cell u v)

pub changes_then : (xs ys : List Entry) (s t u : State) → ChangesBy xs s t → ChangesBy ys t u → ChangesBy (xs ++ ys) s u
changes_then xs ys s t u m n = record {
  change = λ b at v. n.change b at (m.change b at v);
  cells = n.cells ∙ ap (under n.change) m.cells;
  idle = λ p h v. let parts = stores_parts p xs ys h in ap (n.change p.buffer p.at) (m.idle p parts.0 v) ∙ n.idle p parts.1 v;
  sums = λ p shape e h.
      let parts = overwrites_parts p xs ys h in
      let a = m.sums p shape e parts.0 in
      let b = n.sums p shape (m.shapes p parts.0 ∙ e) parts.1 in
      (a.0 ++ b.0, λ v. ap (n.change p.buffer p.at) (a.1 v) ∙ b.1 (added_all shape.cell a.0 v) ∙ sym (added_all-append shape.cell a.0 b.0 v));
  shapes = λ p h. let parts = overwrites_parts p xs ys h in n.shapes p parts.1 ∙ m.shapes p parts.0;
  tidy = n.tidy;
}

-- no change of cells
pub changes_none : (es : List Entry) (s t : State) → t.cells ≡ s.cells → t.scene.buffers ≡ s.scene.buffers → IsTidy s → ChangesBy es s t
changes_none es s t e f h = record {
  change = λ b at v. v;
  cells = e;
  idle = λ p k v. refl;
  sums = λ p shape i k. ([], λ v. refl);
  shapes = λ p k. ap (λ g. g p.buffer) f;
  tidy = λ x d at. ap (λ c. c x at) e ∙ h x (ap (λ g. g x) (sym f) ∙ d) at;
}

pub changes_further : (xs : List Entry) (s : State) (o : Option State) (g : State → Option State) (touch : State → List Entry) → IfSome o (ChangesBy xs s) → ((t : State) → IsTidy t → IfSome (g t) (ChangesBy (touch t) t)) → IfSome (then_do o g) (ChangesBy (xs ++ further o touch) s)
changes_further xs s None g touch m k = tt
changes_further xs s (Some t) g touch m k = if_weaken (ChangesBy (touch t) t) (ChangesBy (xs ++ touch t) s) (g t) (k t m.tidy) (λ u n. changes_then xs (touch t) s t u m n)

-- ---- one cell

all_read_store : (p : Place) (ps : List Place) (ys : List Entry) → stores p (all_read ps ++ ys) ≡ stores p ys
all_read_store p [] ys = refl
all_read_store p (q ∷ ps) ys = all_read_store p ps ys

all_read_overwrite : (p : Place) (ps : List Place) (ys : List Entry) → overwrites p (all_read ps ++ ys) ≡ overwrites p ys
all_read_overwrite p [] ys = refl
all_read_overwrite p (q ∷ ps) ys = all_read_overwrite p ps ys

or_false : (a : Bool) → (a || false) ≡ false → a ≡ false
or_false true h = h
or_false false h = h

pub changed_tidy : (s : State) (p : Place) (shape : Shape) (f : Value → Value) → s.scene.buffers p.buffer ≡ Some shape → IsTidy s → (x : ℕ) → s.scene.buffers x ≡ None → (at : List ℤ) → changed s.cells p f x at ≡ Undefined
changed_tidy s p shape f e h x d at = go (is_there p x at) (there_is p x at)
  where
    go : (t : Bool) → (t ≡ true → (x ≡ p.buffer) × (at ≡ p.at)) → cond t (f (s.cells x at)) (s.cells x at) ≡ Undefined
    go true k = absurd (none_some (sym d ∙ ap s.scene.buffers (k refl).0 ∙ e))
    go false k = h x d at

module _ (s : State) (p : Place) (shape : Shape) (at_p : s.scene.buffers p.buffer ≡ Some shape) (tidy : IsTidy s) (rs : List Place) where
  stored_changes : (v : Value) → ChangesBy (all_read rs ++ Writes p ∷ []) s (record s { cells = changed s.cells p (λ old. v) })
  stored_changes v = record {
    change = λ b at old. cond (is_there p b at) v old;
    cells = refl;
    idle = λ q h w. ap (λ t. cond t v w) (or_false (is_there p q.buffer q.at) (sym (all_read_store q rs (Writes p ∷ [])) ∙ h));
    sums = λ q sh e h. ([], λ w. ap (λ t. cond t v w) (or_false (is_there p q.buffer q.at) (sym (all_read_overwrite q rs (Writes p ∷ [])) ∙ h)));
    shapes = λ q h. refl;
    tidy = changed_tidy s p shape (λ old. v) at_p tidy;
  }

  added_changes : (u : Value) → ChangesBy (all_read rs ++ Reduces shape.cell p ∷ []) s (record s { cells = changed s.cells p (added shape.cell u) })
  added_changes u = record {
    change = λ b at old. cond (is_there p b at) (added shape.cell u old) old;
    cells = refl;
    idle = λ q h w. ap (λ t. cond t (added shape.cell u w) w) (or_false (is_there p q.buffer q.at) (sym (all_read_store q rs (Reduces shape.cell p ∷ [])) ∙ h));
    sums = λ q sh e h. go q sh e (is_there p q.buffer q.at) (there_is p q.buffer q.at);
    shapes = λ q h. refl;
    tidy = changed_tidy s p shape (added shape.cell u) at_p tidy;
  }
    where
      go : (q : Place) (sh : Shape) → s.scene.buffers q.buffer ≡ Some sh → (t : Bool) → (t ≡ true → (q.buffer ≡ p.buffer) × (q.at ≡ p.at)) → IsSum sh.cell (λ old. cond t (added shape.cell u old) old)
      go q sh e false k = ([], λ v. refl)
      go q sh e true k =
          let same : shape ≡ sh = some_injective shape sh (sym at_p ∙ ap s.scene.buffers (sym (k refl).0) ∙ e) in
          (u ∷ [], λ v. ap (λ z. added z.cell u v) same)

module _ (s : State) (tidy : IsTidy s) (rs : List Place) where
  pub assigned : (o : Option Place) (r : Option Value) → IfSome (then_do o (λ p. then_do r (λ v. put s (λ old. v) p))) (ChangesBy (all_read rs ++ written o) s)
  assigned None r = tt
  assigned (Some p) None = tt
  assigned (Some p) (Some v) = go (s.scene.buffers p.buffer) refl
    where
      go : (o : Option Shape) → s.scene.buffers p.buffer ≡ o → IfSome (option_map (λ shape. record s { cells = changed s.cells p (λ old. stored_as shape.cell v) }) o) (ChangesBy (all_read rs ++ Writes p ∷ []) s)
      go None e = tt
      go (Some shape) e = stored_changes s p shape e tidy rs (stored_as shape.cell v)

  pub reduced_to : (o : Option Place) (r : Option Value) → IfSome (then_do o (λ p. then_do r (λ v. put s (λ old. on_two ◌+ℤ◌ old v) p))) (ChangesBy (all_read rs ++ reduced s.scene o) s)
  reduced_to None r = tt
  reduced_to (Some p) None = tt
  reduced_to (Some p) (Some v) = go (s.scene.buffers p.buffer) refl
    where
      go : (o : Option Shape) → s.scene.buffers p.buffer ≡ o → IfSome (option_map (λ shape. record s { cells = changed s.cells p (λ old. stored_as shape.cell (on_two ◌+ℤ◌ old v)) }) o) (ChangesBy (all_read rs ++ reduced_as p o) s)
      go None e = tt
      go (Some shape) e = added_changes s p shape e tidy rs v

-- ---- scopes

-- the change, where the buffer was there before
abbrev lived : Option Shape → (List ℤ → Value → Value) → List ℤ → Value → Value
lived None f at v = v
lived (Some shape) f at v = f at v

-- a run in a scope of its own touches no buffer that was not there
pub record ScopedChanges (es : List Entry) (s t : State) : Type 0 where
  pub changes : ChangesBy es s t
  pub dead : (p : Place) → s.scene.buffers p.buffer ≡ None → IsFixed changes.change p
  pub buffers : t.scene.buffers ≡ s.scene.buffers

pub left_changes : (es : List Entry) (s s' t : State) → IsTidy s → s'.cells ≡ s.cells → s'.scene.buffers ≡ s.scene.buffers → ChangesBy es s' t → ScopedChanges es s (left s t)
left_changes es s s' t tidy ec eb m = record {
  changes = record {
    change = λ b. lived (s.scene.buffers b) (m.change b);
    cells = fun_ext (λ b. fun_ext (λ at. cell b at (s.scene.buffers b) refl));
    idle = λ p h v. idle_at p h v (s.scene.buffers p.buffer);
    sums = λ p shape e h. subst (λ o. IsSum shape.cell (lived o (m.change p.buffer) p.at)) (sym e) (m.sums p shape (ap (λ g. g p.buffer) eb ∙ e) h);
    shapes = λ p h. refl;
    tidy = λ x d at. ap (λ o. kept o (t.cells x) at) d;
  };
  dead = λ p e v. ap (λ o. lived o (m.change p.buffer) p.at v) e;
  buffers = refl;
}
  where
    cell : (b : ℕ) (at : List ℤ) (o : Option Shape) → s.scene.buffers b ≡ o → kept o (t.cells b) at ≡ lived o (m.change b) at (s.cells b at)
    cell b at None e = sym (tidy b e at)
    cell b at (Some shape) e = ap (λ c. c b at) m.cells ∙ ap (λ c. m.change b at (c b at)) ec

    idle_at : (p : Place) → stores p es ≡ false → (v : Value) (o : Option Shape) → lived o (m.change p.buffer) p.at v ≡ v
    idle_at p h v None = refl
    idle_at p h v (Some shape) = m.idle p h v

tidy_inside : (s : State) (i : ℕ) (n : ℤ) → IsTidy s → IsTidy (on_scene (with_control i n) s)
tidy_inside s i n h = h

pub scoped_changes : (es : List Entry) (f : State → Option State) (s s' : State) → IsTidy s → s'.cells ≡ s.cells → s'.scene.buffers ≡ s.scene.buffers → IfSome (f s') (ChangesBy es s') → IfSome (option_map (left s) (f s')) (ScopedChanges es s)
scoped_changes es f s s' tidy ec eb m = if_map (ChangesBy es s') (ScopedChanges es s) (f s') (left s) m (λ t c. left_changes es s s' t tidy ec eb c)

pub choose_changes : (t : Bool) (a b : State → Option State) (fa fb : List Entry) (s : State) → IfSome (a s) (ChangesBy fa s) → IfSome (b s) (ChangesBy fb s) → IfSome (choose t a b s) (ChangesBy (chosen t fa fb) s)
choose_changes true a b fa fb s h k = h
choose_changes false a b fa fb s h k = k

turns_change : (i : ℕ) (body : State → Option State) (touch : State → List Entry) → ((t : State) → IsTidy t → IfSome (body t) (ChangesBy (touch t) t)) → (ns : List ℤ) (s : State) → IsTidy s → IfSome (turns (turn i body) ns s) (ChangesBy (turns_touch (turn i body) (λ n t. touch (on_scene (with_control i n) t)) ns s) s)
turns_change i body touch k [] s h = changes_none [] s s refl refl h
turns_change i body touch k (n ∷ ns) s h =
    let inner = on_scene (with_control i n) s in
    changes_further (touch inner) s (turn i body n s) (turns (turn i body) ns) (turns_touch (turn i body) (λ n t. touch (on_scene (with_control i n) t)) ns)
    (if_weaken (ScopedChanges (touch inner) s) (ChangesBy (touch inner) s) (turn i body n s) (scoped_changes (touch inner) body s inner h refl refl (k inner h)) (λ t c. c.changes))
    (turns_change i body touch k ns)

pub made_changes : (s : State) (x : ℕ) (shape : Shape) → IsTidy s → ChangesBy (Made x ∷ []) s (with_contents x (λ at. Undefined) (on_scene (with_buffer x shape) s))
made_changes s x shape h = record {
  change = λ b at v. cond (b == x) Undefined v;
  cells = fun_ext (λ b. fun_ext (λ at. inside (b == x) b at));
  idle = λ p k v. ap (λ t. cond t Undefined v) (or_false (p.buffer == x) k);
  sums = λ p sh e k. ([], λ v. ap (λ t. cond t Undefined v) (or_false (p.buffer == x) k));
  shapes = λ p k. updated_other s.scene.buffers x (Some shape) p.buffer (or_false (p.buffer == x) k);
  tidy = λ y d at. still (y == x) y at d;
}
  where
    inside : (t : Bool) (b : ℕ) (at : List ℤ) → cond {A = List ℤ → Value} t (λ at. Undefined) (s.cells b) at ≡ cond t Undefined (s.cells b at)
    inside true b at = refl
    inside false b at = refl

    still : (t : Bool) (y : ℕ) (at : List ℤ) → cond t (Some shape) (s.scene.buffers y) ≡ None → cond {A = List ℤ → Value} t (λ at. Undefined) (s.cells y) at ≡ Undefined
    still true y at d = refl
    still false y at d = h y d at

module _ (world : World) (calls : ℕ → List Argument → State → List Entry) (call_changes : (k : ℕ) (args : List Argument) (s : State) → IsTidy s → IfSome (call_to (world.callees k) args s) (ChangesBy (calls k args s) s)) where
  mutual
    pub run_changes : (b : Block) (s : State) → IsTidy s → IfSome (run world b s) (ChangesBy (footprint world calls b s) s)
    run_changes end s h = changes_none [] s s refl refl h
    run_changes (next a b) s h = changes_further (step_footprint world calls a s) s (step world a s) (run world b) (footprint world calls b) (step_changes a s h) (run_changes b)

    step_changes : (a : Statement) (s : State) → IsTidy s → IfSome (step world a s) (ChangesBy (step_footprint world calls a s) s)
    step_changes (Assign x is e) s h = assigned s h (reads s.scene e) (place s.scene x is) (value s e)
    step_changes (Reduce x is e) s h = reduced_to s h (reads s.scene e) (place s.scene x is) (value s e)
    step_changes (Config f a) s h =
        if_then (λ n. Unit {0}) (ChangesBy [] s) (argument_number s.scene a) _ (any (argument_number s.scene a)) (λ n u. if_where (ChangesBy [] s) (suits (world.kinds f) n) (Some (on_scene (with_field f n) s)) (changes_none [] s (on_scene (with_field f n) s) refl refl h))
    step_changes Pass s h = changes_none [] s s refl refl h
    step_changes (If c a b) s h =
        let es = chosen (holds s.scene c) (footprint world calls a s) (footprint world calls b s) in
        if_weaken (ScopedChanges es s) (ChangesBy es s) (step world (If c a b) s) (scoped_changes es (choose (holds s.scene c) (run world a) (run world b)) s s h refl refl (choose_changes (holds s.scene c) (run world a) (run world b) (footprint world calls a s) (footprint world calls b s) s (run_changes a s h) (run_changes b s h))) (λ t c. c.changes)
    step_changes (For i lo hi b) s h = turns_change i.id (run world b) (footprint world calls b) (run_changes b) (turns_of s.scene lo hi) s h
    step_changes (Alloc x cell dims memory) s h =
        if_where (ChangesBy (Made x.id ∷ []) s) (all_positive (numbers s.scene dims)) (Some (with_contents x.id (λ at. Undefined) (on_scene (with_buffer x.id (tensor cell (numbers s.scene dims))) s))) (made_changes s x.id (tensor cell (numbers s.scene dims)) h)
    step_changes (View w x coords) s h = if_then (λ seen. Unit {0}) (ChangesBy [] s) (window s.scene x coords) _ (any (window s.scene x coords)) (λ seen u. changes_none [] s (on_scene (with_view w.id seen) s) refl refl h)
    step_changes (Call k args) s h = call_changes k args s h
