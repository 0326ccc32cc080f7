-- Names on the way to a place.
use Rattle.std.proofs.Common.{◌≡◌, ℕ, ℤ, ◌+ℤ◌, ◌==◌, Bool, false, List, [], ◌∷◌, Option, Some, None, IfSome, refl, sym, ◌∙◌, subst}
use Rattle.exo_tree.specs.Tree.{Argument, Statement, Assign, Reduce, Config, Pass, If, For, Alloc, View, Call, Block}
use Rattle.exo_meaning.specs.Value.{Value, Undefined, on_two}
use Rattle.exo_meaning.specs.Scene.{then_do, numbers, holds, window, whole}
use Rattle.exo_meaning.specs.State.{State, Place, place, put, value, left, scoped, on_scene, with_control, with_field, with_contents, with_buffer}
use Rattle.exo_meaning.specs.Calls.{keeps_apart, copied_call, Callee, all_given, entered, returned, run_asserted, suits, all_positive}
use Rattle.exo_meaning.specs.Run.{World, run, step, call_to, turn, turns, turns_of, choose, argument_number, tensor}
use Rattle.exo_meaning.proofs.Frame.{if_then, if_map, if_where, any, if_weaken, updated_other, or_parts}
use Rattle.exo_tree.specs.Context.{Context, Here, After, InLoop, InThen, InElse, fill}
use Rattle.meaning_laws.specs.Context.{ComesToTurn, now, later, ComesTo}
use Rattle.meaning_laws.specs.Sound.{binds, on_way, IsSameName}

pub if_gives : {A : Type 0} (P : A → Type 0) (o : Option A) (a : A) → IfSome o P → o ≡ Some a → P a
if_gives P o a h e = subst (λ q. IfSome q P) e h

pub name_same : (x : ℕ) (s : State) → IsSameName x s s
name_same x s = record { control = refl; buffers = refl; views = refl }

pub name_on : (x : ℕ) (s t u : State) → IsSameName x s t → IsSameName x t u → IsSameName x s u
name_on x s t u h k = record { control = h.control ∙ k.control; buffers = h.buffers ∙ k.buffers; views = h.views ∙ k.views }

-- all names but these stand for the same
abbrev pub Others : (ℕ → Bool) → State → State → Type 0
Others bound s t = (x : ℕ) → bound x ≡ false → IsSameName x s t

abbrev None_bound : ℕ → Bool
None_bound x = false

store_names : (s : State) (o : Option Place) (r : Option Value) (f : Value → Value → Value) → IfSome (then_do o (λ p. then_do r (λ v. put s (f v) p))) (Others None_bound s)
store_names s o r f = if_then (λ p. Unit {0}) (Others None_bound s) o _ (any o) (λ p u. if_then (λ v. Unit {0}) (Others None_bound s) r _ (any r) (λ v w.
    if_map (λ t. Unit {0}) (Others None_bound s) (s.scene.buffers p.buffer) _ (any (s.scene.buffers p.buffer)) (λ t u x e. record { control = refl; buffers = refl; views = refl })))

scoped_names : (f : State → Option State) (s : State) → IfSome (scoped f s) (Others None_bound s)
scoped_names f s = if_map (λ t. Unit {0}) (Others None_bound s) (f s) (left s) (any (f s)) (λ t u x e. record { control = refl; buffers = refl; views = refl })

pub turn_names : (i : ℕ) (body : State → Option State) (n : ℤ) (s : State) → IfSome (turn i body n s) (λ t. (x : ℕ) → IsSameName x s t)
turn_names i body n s = if_map (λ t. Unit {0}) (λ t. (x : ℕ) → IsSameName x s t) (body (on_scene (with_control i n) s)) (left s) (any (body (on_scene (with_control i n) s))) (λ t u x. record { control = refl; buffers = refl; views = refl })

pub turns_names : (i : ℕ) (body : State → Option State) (ns : List ℤ) (s : State) → IfSome (turns (turn i body) ns s) (λ t. (x : ℕ) → IsSameName x s t)
turns_names i body [] s = λ x. name_same x s
turns_names i body (n ∷ ns) s = if_then (λ t. (x : ℕ) → IsSameName x s t) (λ t. (x : ℕ) → IsSameName x s t) (turn i body n s) (turns (turn i body) ns) (turn_names i body n s) (λ t g.
    if_weaken (λ u. (x : ℕ) → IsSameName x t u) (λ u. (x : ℕ) → IsSameName x s u) (turns (turn i body) ns t) (turns_names i body ns t) (λ u k x. name_on x s t u (g x) (k x)))

call_names : (o : Option Callee) (args : List Argument) (s : State) → IfSome (call_to o args s) (Others None_bound s)
call_names None args s = tt
call_names (Some c) args s = if_where (Others None_bound s) (keeps_apart c s.scene args) (copied_call c args s) (if_then (λ gs. Unit {0}) (Others None_bound s) (all_given s.scene args) _ (any (all_given s.scene args)) (λ gs u. if_then (λ t. Unit {0}) (Others None_bound s) (entered c.procedure.params gs s) _ (any (entered c.procedure.params gs s)) (λ t v. if_map (λ w. Unit {0}) (Others None_bound s) (run_asserted c t) (returned c gs s) (any (run_asserted c t)) (λ w z x e. record { control = refl; buffers = refl; views = refl }))))

pub step_names : (world : World) (a : Statement) (s : State) → IfSome (step world a s) (Others (binds a) s)
step_names world (Assign x is e) s = store_names s (place s.scene x is) (value s e) (λ v old. v)
step_names world (Reduce x is e) s = store_names s (place s.scene x is) (value s e) (λ v old. on_two ◌+ℤ◌ old v)
step_names world (Config f a) s = if_then (λ n. Unit {0}) (Others None_bound s) (argument_number s.scene a) _ (any (argument_number s.scene a)) (λ n u. if_where (Others None_bound s) (suits (world.kinds f) n) (Some (on_scene (with_field f n) s)) (λ x e. record { control = refl; buffers = refl; views = refl }))
step_names world Pass s = λ x e. name_same x s
step_names world (If c a b) s = scoped_names (choose (holds s.scene c) (run world a) (run world b)) s
step_names world (For i lo hi b) s = if_weaken (λ t. (x : ℕ) → IsSameName x s t) (Others None_bound s) (turns (turn i.id (run world b)) (turns_of s.scene lo hi) s) (turns_names i.id (run world b) (turns_of s.scene lo hi) s) (λ t h x e. h x)
step_names world (Alloc x cell dims memory) s =
    let shape = tensor cell (numbers s.scene dims) in
    if_where (Others (binds (Alloc x cell dims memory)) s) (all_positive (numbers s.scene dims)) (Some (with_contents x.id (λ at. Undefined) (on_scene (with_buffer x.id shape) s))) (λ y e. record {
      control = refl;
      buffers = sym (updated_other s.scene.buffers x.id (Some shape) y e);
      views = sym (updated_other s.scene.views x.id (Some (record { buffer = x.id; sides = whole shape.dims })) y e);
    })
step_names world (View w x coords) s = if_then (λ n. Unit {0}) (Others (binds (View w x coords)) s) (window s.scene x coords) _ (any (window s.scene x coords)) (λ seen u y e. record {
  control = refl;
  buffers = refl;
  views = sym (updated_other s.scene.views w.id (Some seen) y e);
})
step_names world (Call k args) s = call_names (world.callees k) args s

-- ---- on the way

pub come_to_turn_names : (i : ℕ) (body : State → Option State) (ns : List ℤ) (s : State) (n : ℤ) (u : State) → ComesToTurn (turn i body) ns s n u → (x : ℕ) → IsSameName x s u
come_to_turn_names i body [] s n u z = elim z [ ]
come_to_turn_names i body (m ∷ ns) s n u now = λ x. name_same x s
come_to_turn_names i body (m ∷ ns) s n u (later {t} e z) = λ x. name_on x s t u (if_gives (λ t. (x : ℕ) → IsSameName x s t) (turn i body m s) t (turn_names i body m s) e x) (come_to_turn_names i body ns t n u z x)

module _ (world : World) (old : Block) where
  pub come_names : (c : Context) (s u : State) → ComesTo world old c s u → (x : ℕ) → on_way c x ≡ false → IsSameName x s u
  come_names (Here rest) s u z x k = subst (λ t. IsSameName x s t) (sym z) (name_same x s)
  come_names (After a c) s u z x k =
      let p = or_parts (binds a x) (on_way c x) k in
      name_on x s z.0 u (if_gives (Others (binds a) s) (step world a s) z.0 (step_names world a s) z.1 x p.0) (come_names c z.0 u z.2 x p.1)
  come_names (InLoop i lo hi c rest) s u z x k =
      let p = or_parts (x == i.id) (on_way c x) k in
      let v = on_scene (with_control i.id z.0) z.1 in
      let inside : IsSameName x z.1 v = record { control = sym (updated_other z.1.scene.control i.id z.0 x p.0); buffers = refl; views = refl } in
      name_on x s z.1 u (come_to_turn_names i.id (run world (fill c old)) (turns_of s.scene lo hi) s z.0 z.1 z.2 x) (name_on x z.1 v u inside (come_names c v u z.3 x p.1))
  come_names (InThen test c other rest) s u z x k = come_names c s u z.1 x k
  come_names (InElse test other c rest) s u z x k = come_names c s u z.1 x k

-- ---- control values

-- a statement leaves all control values as they are: a loop's variable is gone after the loop
abbrev pub SameControl : State → State → Type 0
SameControl s t = (x : ℕ) → t.scene.control x ≡ s.scene.control x

store_control : (s : State) (o : Option Place) (r : Option Value) (f : Value → Value → Value) → IfSome (then_do o (λ p. then_do r (λ v. put s (f v) p))) (SameControl s)
store_control s o r f = if_then (λ p. Unit {0}) (SameControl s) o _ (any o) (λ p u. if_then (λ v. Unit {0}) (SameControl s) r _ (any r) (λ v w. if_map (λ t. Unit {0}) (SameControl s) (s.scene.buffers p.buffer) _ (any (s.scene.buffers p.buffer)) (λ t u x. refl)))

call_control : (o : Option Callee) (args : List Argument) (s : State) → IfSome (call_to o args s) (SameControl s)
call_control None args s = tt
call_control (Some c) args s = if_where (SameControl s) (keeps_apart c s.scene args) (copied_call c args s) (if_then (λ gs. Unit {0}) (SameControl s) (all_given s.scene args) _ (any (all_given s.scene args)) (λ gs u. if_then (λ t. Unit {0}) (SameControl s) (entered c.procedure.params gs s) _ (any (entered c.procedure.params gs s)) (λ t v. if_map (λ w. Unit {0}) (SameControl s) (run_asserted c t) (returned c gs s) (any (run_asserted c t)) (λ w z x. refl))))

pub step_control : (world : World) (a : Statement) (s : State) → IfSome (step world a s) (SameControl s)
step_control world (Assign x is e) s = store_control s (place s.scene x is) (value s e) (λ v old. v)
step_control world (Reduce x is e) s = store_control s (place s.scene x is) (value s e) (λ v old. on_two ◌+ℤ◌ old v)
step_control world (Config f a) s = if_then (λ n. Unit {0}) (SameControl s) (argument_number s.scene a) _ (any (argument_number s.scene a)) (λ n u. if_where (SameControl s) (suits (world.kinds f) n) (Some (on_scene (with_field f n) s)) (λ x. refl))
step_control world Pass s = λ x. refl
step_control world (If c a b) s = if_map (λ t. Unit {0}) (SameControl s) (choose (holds s.scene c) (run world a) (run world b) s) (left s) (any (choose (holds s.scene c) (run world a) (run world b) s)) (λ t u x. refl)
step_control world (For i lo hi b) s = if_weaken (λ t. (x : ℕ) → IsSameName x s t) (SameControl s) (turns (turn i.id (run world b)) (turns_of s.scene lo hi) s) (turns_names i.id (run world b) (turns_of s.scene lo hi) s) (λ t h x. sym (h x).control)
step_control world (Alloc x cell dims memory) s = if_where (SameControl s) (all_positive (numbers s.scene dims)) (Some (with_contents x.id (λ at. Undefined) (on_scene (with_buffer x.id (tensor cell (numbers s.scene dims))) s))) (λ y. refl)
step_control world (View w x coords) s = if_then (λ n. Unit {0}) (SameControl s) (window s.scene x coords) _ (any (window s.scene x coords)) (λ seen u y. refl)
step_control world (Call k args) s = call_control (world.callees k) args s
