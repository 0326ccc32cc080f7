-- A run exchanges with a change of cells that it does not see.
use Rattle.std.proofs.Common.{◌≡◌, ℕ, ℤ, pos, ◌+ℤ◌, ◌-ℤ◌, ◌*ℤ◌, ◌==◌, Bool, true, false, cond, List, [], ◌∷◌, ◌++◌, Option, Some, None, IfSome, option_map, refl, sym, ap, ap₂, ◌∙◌, subst, eqb-true}
use Rattle.std.proofs.Math.Path.{fun_ext}
use Rattle.exo_tree.specs.Tree.{Control, Datum, Const, Read, Negated, Relu, Plus, Minus, Times, Select, Argument, Statement, Assign, Reduce, Config, Pass, If, For, Alloc, View, Call, Block, end, next}
use Rattle.exo_meaning.specs.Value.{Value, Undefined, stored_as, on_one, on_two, on_four, relu, selected}
use Rattle.exo_meaning.specs.Scene.{Shape, Seen, then_do, numbers, holds, where_true, window, updated}
use Rattle.exo_meaning.specs.State.{State, Cells, Place, place, held, is_there, changed, put, value, kept, left, scoped, on_scene, with_control, with_field, with_view, with_contents, with_buffer}
use Rattle.exo_meaning.specs.Calls.{Callee, keeps_apart, copied_call, all_given, entered, returned, run_asserted, suits, all_positive}
use Rattle.exo_meaning.specs.Run.{World, run, step, assign, reduce, call_to, turn, turns, turns_of, choose, argument_number, tensor}
use Rattle.exo_meaning.specs.Footprint.{Entry, listed, all_read, written, reduced_as, reduced, reads, IsFixed, further, chosen, turns_touch, footprint, step_footprint, Change, under, changed_by, Passes, LeavesOthers, Exchanges}
use Rattle.exo_meaning.specs.Orders.{Each}
use Rattle.exo_meaning.proofs.Cells.{there_is}
use Rattle.exo_meaning.proofs.Frame.{if_then, if_map, if_where, any, if_weaken}

pub each_append : {T : Type 0} (P : T → Type 0) (xs ys : List T) → Each P (xs ++ ys) → Each P xs × Each P ys
each_append P [] ys h = (tt, h)
each_append P (x ∷ xs) ys h = let t = each_append P xs ys h.1 in ((h.0, t.0), t.1)

none_some : {A : Type 0} {a : A} → None ≡ Some a → ⊥
none_some e = cc

-- ---- buffers stay

abbrev pub Grows : State → State → Type 0
Grows s t = (x : ℕ) → t.scene.buffers x ≡ None → s.scene.buffers x ≡ None

pub scoped_grows : (f : State → Option State) (s : State) → IfSome (scoped f s) (Grows s)
scoped_grows f s = if_map (λ t. Unit {0}) (Grows s) (f s) (left s) (any (f s)) (λ t u x e. e)

put_grows : (s : State) (f : Value → Value) (p : Place) → IfSome (put s f p) (Grows s)
put_grows s f p = if_map (λ t. Unit {0}) (Grows s) (s.scene.buffers p.buffer) _ (any (s.scene.buffers p.buffer)) (λ t u x e. e)

store_grows : (s : State) (o : Option Place) (r : Option Value) (f : Value → Value → Value) → IfSome (then_do o (λ p. then_do r (λ v. put s (f v) p))) (Grows s)
store_grows s o r f = if_then (λ p. Unit {0}) (Grows s) o _ (any o) (λ p u. if_then (λ v. Unit {0}) (Grows s) r _ (any r) (λ v w. put_grows s (f v) p))

pub turns_grow : (i : ℕ) (body : State → Option State) (ns : List ℤ) (s : State) → IfSome (turns (turn i body) ns s) (Grows s)
turns_grow i body [] s = λ x e. e
turns_grow i body (n ∷ ns) s = if_then (Grows s) (Grows s) (turn i body n s) (turns (turn i body) ns) (if_map (λ t. Unit {0}) (Grows s) (body (on_scene (with_control i n) s)) (left s) (any (body (on_scene (with_control i n) s))) (λ t u x e. e)) (λ t g. if_weaken (Grows t) (Grows s) (turns (turn i body) ns t) (turns_grow i body ns t) (λ u k x e. g x (k x e)))

call_grows : (o : Option Callee) (args : List Argument) (s : State) → IfSome (call_to o args s) (Grows s)
call_grows None args s = tt
call_grows (Some c) args s = if_where (Grows s) (keeps_apart c s.scene args) (copied_call c args s) (if_then (λ gs. Unit {0}) (Grows s) (all_given s.scene args) _ (any (all_given s.scene args)) (λ gs u. if_then (λ t. Unit {0}) (Grows s) (entered c.procedure.params gs s) _ (any (entered c.procedure.params gs s)) (λ t v. if_map (λ w. Unit {0}) (Grows s) (run_asserted c t) (returned c gs s) (any (run_asserted c t)) (λ w z x e. e))))

made_grows : (views : Option Shape) (t : Bool) (shape : Shape) → cond t (Some shape) views ≡ None → views ≡ None
made_grows o true shape e = absurd (none_some (sym e))
made_grows o false shape e = e

pub step_grows : (world : World) (a : Statement) (s : State) → IfSome (step world a s) (Grows s)
step_grows world (Assign x is e) s = store_grows s (place s.scene x is) (value s e) (λ v old. v)
step_grows world (Reduce x is e) s = store_grows s (place s.scene x is) (value s e) (λ v old. on_two ◌+ℤ◌ old v)
step_grows world (Config f a) s = if_then (λ n. Unit {0}) (Grows s) (argument_number s.scene a) _ (any (argument_number s.scene a)) (λ n u. if_where (Grows s) (suits (world.kinds f) n) (Some (on_scene (with_field f n) s)) (λ x e. e))
step_grows world Pass s = λ x e. e
step_grows world (If c a b) s = scoped_grows (choose (holds s.scene c) (run world a) (run world b)) s
step_grows world (For i lo hi b) s = turns_grow i.id (run world b) (turns_of s.scene lo hi) s
step_grows world (Alloc x cell dims memory) s = if_where (Grows s) (all_positive (numbers s.scene dims)) (Some (with_contents x.id (λ at. Undefined) (on_scene (with_buffer x.id (tensor cell (numbers s.scene dims))) s))) (λ y e. made_grows (s.scene.buffers y) (y == x.id) (tensor cell (numbers s.scene dims)) e)
step_grows world (View w x coords) s = if_then (λ n. Unit {0}) (Grows s) (window s.scene x coords) _ (any (window s.scene x coords)) (λ seen u x e. e)
step_grows world (Call k args) s = call_grows (world.callees k) args s

module _ (d : Change) where
  -- ---- steps in a row

  pub exchange_then : (f : State → Option State) (g : State → Option State) (s : State) → Exchanges d f s → ((t : State) → f s ≡ Some t → Exchanges d g t) → Exchanges d (λ s. then_do (f s) g) s
  exchange_then f g s h k = ap (λ o. then_do o g) h ∙ go (f s) k
    where
      go : (o : Option State) → ((t : State) → o ≡ Some t → Exchanges d g t) → then_do (option_map (changed_by d) o) g ≡ option_map (changed_by d) (then_do o g)
      go None k = refl
      go (Some t) k = k t refl

  pub exchange_where : (test : Bool) (o r : Option State) → o ≡ option_map (changed_by d) r → where_true test o ≡ option_map (changed_by d) (where_true test r)
  exchange_where false o r h = refl
  exchange_where true o r h = h

  -- what is known of each result
  pub each_further : (P : Entry → Type 0) (o : Option State) (f : State → List Entry) → Each P (further o f) → (t : State) → o ≡ Some t → Each P (f t)
  each_further P None f h t e = absurd (none_some e)
  each_further P (Some u) f h t e = subst (λ x. Each P (f x)) (some_injective u t e) h
    where
      some_injective : {A : Type 0} (a b : A) → Some a ≡ Some b → a ≡ b
      some_injective a b e = cc

  -- ---- values

  held_same : (c : Cells) (o : Option Place) → Each (IsFixed d) (listed o) → option_map (held (under d c)) o ≡ option_map (held c) o
  held_same c None h = refl
  held_same c (Some p) h = ap Some (h.0 (c p.buffer p.at))

  value_same : (s : State) (e : Datum) → Each (IsFixed d) (reads s.scene e) → value (changed_by d s) e ≡ value s e
  value_same s (Const n) h = refl
  value_same s (Read x is) h = held_same s.cells (place s.scene x is) h
  value_same s (Negated a) h = ap (option_map (on_one (λ m. pos 0 -ℤ m))) (value_same s a h)
  value_same s (Relu a) h = ap (option_map (on_one relu)) (value_same s a h)
  value_same s (Plus a b) h = let t = each_append (IsFixed d) (reads s.scene a) (reads s.scene b) h in ap₂ (λ o r. then_do o (λ u. option_map (on_two ◌+ℤ◌ u) r)) (value_same s a t.0) (value_same s b t.1)
  value_same s (Minus a b) h = let t = each_append (IsFixed d) (reads s.scene a) (reads s.scene b) h in ap₂ (λ o r. then_do o (λ u. option_map (on_two ◌-ℤ◌ u) r)) (value_same s a t.0) (value_same s b t.1)
  value_same s (Times a b) h = let t = each_append (IsFixed d) (reads s.scene a) (reads s.scene b) h in ap₂ (λ o r. then_do o (λ u. option_map (on_two ◌*ℤ◌ u) r)) (value_same s a t.0) (value_same s b t.1)
  value_same s (Select a b c e) h =
      let t = each_append (IsFixed d) (reads s.scene a) (reads s.scene b ++ (reads s.scene c ++ reads s.scene e)) h in
      let t' = each_append (IsFixed d) (reads s.scene b) (reads s.scene c ++ reads s.scene e) t.1 in
      let t'' = each_append (IsFixed d) (reads s.scene c) (reads s.scene e) t'.1 in
      ap₂ (λ o r. then_do o (λ x. then_do r (λ v. then_do (value (changed_by d s) c) (λ y. option_map (on_four selected x v y) (value (changed_by d s) e))))) (value_same s a t.0) (value_same s b t'.0)
      ∙ ap₂ (λ o r. then_do (value s a) (λ x. then_do (value s b) (λ v. then_do o (λ y. option_map (on_four selected x v y) r)))) (value_same s c t''.0) (value_same s e t''.1)

  all_fixed : (ps : List Place) → Each (Passes d) (all_read ps) → Each (IsFixed d) ps
  all_fixed [] h = tt
  all_fixed (p ∷ ps) h = (h.0, all_fixed ps h.1)

  -- ---- one cell

  -- a change of the cell that exchanges with the outer one there
  cells_exchange : (c : Cells) (p : Place) (f : Value → Value) → ((v : Value) → f (d p.buffer p.at v) ≡ d p.buffer p.at (f v)) → changed (under d c) p f ≡ under d (changed c p f)
  cells_exchange c p f h = fun_ext (λ b. fun_ext (λ at. go b at (is_there p b at) (there_is p b at)))
    where
      go : (b : ℕ) (at : List ℤ) (t : Bool) → (t ≡ true → (b ≡ p.buffer) × (at ≡ p.at)) → cond t (f (d b at (c b at))) (d b at (c b at)) ≡ d b at (cond t (f (c b at)) (c b at))
      go b at false k = refl
      go b at true k =
          let same = k refl in
          subst (λ x. f (d x at (c b at)) ≡ d x at (f (c b at))) (sym same.0) (subst (λ y. f (d p.buffer y (c b at)) ≡ d p.buffer y (f (c b at))) (sym same.1) (h (c b at)))

  put_exchanges : (s : State) (f : Value → Value) (p : Place) → ((shape : Shape) → s.scene.buffers p.buffer ≡ Some shape → (v : Value) → stored_as shape.cell (f (d p.buffer p.at v)) ≡ d p.buffer p.at (stored_as shape.cell (f v))) → put (changed_by d s) f p ≡ option_map (changed_by d) (put s f p)
  put_exchanges s f p h = go (s.scene.buffers p.buffer) h
    where
      go : (o : Option Shape) → ((shape : Shape) → o ≡ Some shape → (v : Value) → stored_as shape.cell (f (d p.buffer p.at v)) ≡ d p.buffer p.at (stored_as shape.cell (f v))) → option_map (λ shape. record s { cells = changed (under d s.cells) p (λ old. stored_as shape.cell (f old)) }) o ≡ option_map (changed_by d) (option_map (λ shape. record s { cells = changed s.cells p (λ old. stored_as shape.cell (f old)) }) o)
      go None h = refl
      go (Some shape) h = ap (λ c. Some (record s { cells = c })) (cells_exchange s.cells p (λ old. stored_as shape.cell (f old)) (h shape refl))

  pub assign_exchanges : (x : ℕ) (is : List Control) (e : Datum) (s : State) → Each (Passes d) (all_read (reads s.scene e) ++ written (place s.scene x is)) → Exchanges d (assign x is e) s
  assign_exchanges x is e s h =
      let parts = each_append (Passes d) (all_read (reads s.scene e)) (written (place s.scene x is)) h in
      ap (λ o. then_do (place s.scene x is) (λ p. then_do o (λ v. put (changed_by d s) (λ old. v) p))) (value_same s e (all_fixed (reads s.scene e) parts.0)) ∙ at_place (place s.scene x is) parts.1 (value s e)
    where
      at_value : (p : Place) → IsFixed d p → (o : Option Value) → then_do o (λ v. put (changed_by d s) (λ old. v) p) ≡ option_map (changed_by d) (then_do o (λ v. put s (λ old. v) p))
      at_value p k None = refl
      at_value p k (Some v) = put_exchanges s (λ old. v) p (λ shape i w. sym (k (stored_as shape.cell v)))

      at_place : (o : Option Place) → Each (Passes d) (written o) → (r : Option Value) → then_do o (λ p. then_do r (λ v. put (changed_by d s) (λ old. v) p)) ≡ option_map (changed_by d) (then_do o (λ p. then_do r (λ v. put s (λ old. v) p)))
      at_place None k r = refl
      at_place (Some p) k r = at_value p k.0 r

  pub reduce_exchanges : (x : ℕ) (is : List Control) (e : Datum) (s : State) → Each (Passes d) (all_read (reads s.scene e) ++ reduced s.scene (place s.scene x is)) → Exchanges d (reduce x is e) s
  reduce_exchanges x is e s h =
      let parts = each_append (Passes d) (all_read (reads s.scene e)) (reduced s.scene (place s.scene x is)) h in
      ap (λ o. then_do (place s.scene x is) (λ p. then_do o (λ v. put (changed_by d s) (λ old. on_two ◌+ℤ◌ old v) p))) (value_same s e (all_fixed (reads s.scene e) parts.0)) ∙ at_place (place s.scene x is) parts.1 (value s e)
    where
      at_value : (p : Place) → Each (Passes d) (reduced_as p (s.scene.buffers p.buffer)) → (o : Option Value) → then_do o (λ v. put (changed_by d s) (λ old. on_two ◌+ℤ◌ old v) p) ≡ option_map (changed_by d) (then_do o (λ v. put s (λ old. on_two ◌+ℤ◌ old v) p))
      at_value p k None = refl
      at_value p k (Some v) = put_exchanges s (λ old. on_two ◌+ℤ◌ old v) p (λ shape i w. sym ((subst (λ o. Each (Passes d) (reduced_as p o)) i k).0 v w))

      at_place : (o : Option Place) → Each (Passes d) (reduced s.scene o) → (r : Option Value) → then_do o (λ p. then_do r (λ v. put (changed_by d s) (λ old. on_two ◌+ℤ◌ old v) p)) ≡ option_map (changed_by d) (then_do o (λ p. then_do r (λ v. put s (λ old. on_two ◌+ℤ◌ old v) p)))
      at_place None k r = refl
      at_place (Some p) k r = at_value p k r

  -- ---- scopes and loops

  kept_exchanges : (o : Option Shape) (f : List ℤ → Value) (b : ℕ) (at : List ℤ) → (o ≡ None → d b at Undefined ≡ Undefined) → kept o (λ at. d b at (f at)) at ≡ d b at (kept o f at)
  kept_exchanges None f b at h = sym (h refl)
  kept_exchanges (Some shape) f b at h = refl

  left_exchanges : (s t : State) → LeavesOthers d s.scene → left (changed_by d s) (changed_by d t) ≡ changed_by d (left s t)
  left_exchanges s t h = ap (λ c. record { scene = record s.scene { fields = t.scene.fields }; cells = c }) (fun_ext (λ b. fun_ext (λ at. kept_exchanges (s.scene.buffers b) (t.cells b) b at (λ e. h b e at))))

  pub scoped_exchanges : (f : State → Option State) (s s' : State) → LeavesOthers d s.scene → f (changed_by d s') ≡ option_map (changed_by d) (f s') → option_map (left (changed_by d s)) (f (changed_by d s')) ≡ option_map (changed_by d) (option_map (left s) (f s'))
  scoped_exchanges f s s' l h = ap (option_map (left (changed_by d s))) h ∙ go (f s')
    where
      go : (o : Option State) → option_map (left (changed_by d s)) (option_map (changed_by d) o) ≡ option_map (changed_by d) (option_map (left s) o)
      go None = refl
      go (Some t) = ap Some (left_exchanges s t l)

  pub others_later : (s : State) (o : Option State) → LeavesOthers d s.scene → IfSome o (Grows s) → (t : State) → o ≡ Some t → LeavesOthers d t.scene
  others_later s None l g t e = absurd (none_some e)
  others_later s (Some u) l g t e = λ x n. l x (g x (subst (λ (z : State). z.scene.buffers x ≡ None) (sym (some_injective u t e)) n))
    where
      some_injective : {A : Type 0} (a b : A) → Some a ≡ Some b → a ≡ b
      some_injective a b e = cc

  pub made_exchanges : (x : ℕ) (c : Cells) → ((at : List ℤ) (v : Value) → d x at v ≡ v) → updated (under d c) x (λ at. Undefined) ≡ under d (updated c x (λ at. Undefined))
  made_exchanges x c h = fun_ext (λ b. fun_ext (λ at. go b at (b == x) (eqb-true b x)))
    where
      go : (b : ℕ) (at : List ℤ) (t : Bool) → (t ≡ true → b ≡ x) → cond {A = List ℤ → Value} t (λ at. Undefined) (λ at. d b at (c b at)) at ≡ d b at (cond {A = List ℤ → Value} t (λ at. Undefined) (c b) at)
      go b at false k = refl
      go b at true k = subst (λ z. Undefined ≡ d z at Undefined) (sym (k refl)) (sym (h at Undefined))

  pub configure_exchanges : (world : World) (f : ℕ) (s : State) (o : Option ℤ) → then_do o (λ n. where_true (suits (world.kinds f) n) (Some (on_scene (with_field f n) (changed_by d s)))) ≡ option_map (changed_by d) (then_do o (λ n. where_true (suits (world.kinds f) n) (Some (on_scene (with_field f n) s))))
  configure_exchanges world f s None = refl
  configure_exchanges world f s (Some n) = exchange_where (suits (world.kinds f) n) _ (Some (on_scene (with_field f n) s)) refl

  pub view_exchanges : (w : ℕ) (s : State) (o : Option Seen) → then_do o (λ seen. Some (on_scene (with_view w seen) (changed_by d s))) ≡ option_map (changed_by d) (then_do o (λ seen. Some (on_scene (with_view w seen) s)))
  view_exchanges w s None = refl
  view_exchanges w s (Some seen) = refl

  pub choose_exchanges : (t : Bool) (a b : State → Option State) (fa fb : List Entry) (s : State) → (Each (Passes d) fa → Exchanges d a s) → (Each (Passes d) fb → Exchanges d b s) → Each (Passes d) (chosen t fa fb) → Exchanges d (choose t a b) s
  choose_exchanges true a b fa fb s ha hb h = ha h
  choose_exchanges false a b fa fb s ha hb h = hb h

  turns_exchange : (i : ℕ) (body : State → Option State) (touch : State → List Entry) → ((t : State) → LeavesOthers d t.scene → Each (Passes d) (touch t) → Exchanges d body t) → (ns : List ℤ) (s : State) → LeavesOthers d s.scene → Each (Passes d) (turns_touch (turn i body) (λ n t. touch (on_scene (with_control i n) t)) ns s) → Exchanges d (turns (turn i body) ns) s
  turns_exchange i body touch k [] s l h = refl
  turns_exchange i body touch k (n ∷ ns) s l h =
      let parts = each_append (Passes d) (touch (on_scene (with_control i n) s)) (further (turn i body n s) (turns_touch (turn i body) (λ n t. touch (on_scene (with_control i n) t)) ns)) h in
      exchange_then (turn i body n) (turns (turn i body) ns) s (scoped_exchanges body s (on_scene (with_control i n) s) l (k (on_scene (with_control i n) s) l parts.0)) (λ t e.
      turns_exchange i body touch k ns t (others_later s (turn i body n s) l (if_map (λ t. Unit {0}) (Grows s) (body (on_scene (with_control i n) s)) (left s) (any (body (on_scene (with_control i n) s))) (λ t u x e. e)) t e) (each_further (Passes d) (turn i body n s) (turns_touch (turn i body) (λ n t. touch (on_scene (with_control i n) t)) ns) parts.1 t e))

  module _ (world : World) (calls : ℕ → List Argument → State → List Entry) (call_exchanges : (k : ℕ) (args : List Argument) (s : State) → LeavesOthers d s.scene → Each (Passes d) (calls k args s) → Exchanges d (call_to (world.callees k) args) s) where
    mutual
      pub run_exchanges : (b : Block) (s : State) → LeavesOthers d s.scene → Each (Passes d) (footprint world calls b s) → Exchanges d (run world b) s
      run_exchanges end s l h = refl
      run_exchanges (next a b) s l h =
          let parts = each_append (Passes d) (step_footprint world calls a s) (further (step world a s) (footprint world calls b)) h in
          exchange_then (step world a) (run world b) s (step_exchanges a s l parts.0) (λ t e. run_exchanges b t (others_later s (step world a s) l (step_grows world a s) t e) (each_further (Passes d) (step world a s) (footprint world calls b) parts.1 t e))

      step_exchanges : (a : Statement) (s : State) → LeavesOthers d s.scene → Each (Passes d) (step_footprint world calls a s) → Exchanges d (step world a) s
      step_exchanges (Assign x is e) s l h = assign_exchanges x is e s h
      step_exchanges (Reduce x is e) s l h = reduce_exchanges x is e s h
      step_exchanges (Config f a) s l h = configure_exchanges world f s (argument_number s.scene a)
      step_exchanges Pass s l h = refl
      step_exchanges (If c a b) s l h =
          scoped_exchanges (choose (holds s.scene c) (run world a) (run world b)) s s l (choose_exchanges (holds s.scene c) (run world a) (run world b) (footprint world calls a s) (footprint world calls b s) s (run_exchanges a s l) (run_exchanges b s l) h)
      step_exchanges (For i lo hi b) s l h = turns_exchange i.id (run world b) (footprint world calls b) (run_exchanges b) (turns_of s.scene lo hi) s l h
      step_exchanges (Alloc x cell dims memory) s l h =
          exchange_where (all_positive (numbers s.scene dims)) _ (Some (with_contents x.id (λ at. Undefined) (on_scene (with_buffer x.id (tensor cell (numbers s.scene dims))) s))) (ap (λ c. Some (record { scene = with_buffer x.id (tensor cell (numbers s.scene dims)) s.scene; cells = c })) (made_exchanges x.id s.cells h.0))
      step_exchanges (View w x coords) s l h = view_exchanges w.id s (window s.scene x coords)
      step_exchanges (Call k args) s l h = call_exchanges k args s l h
