-- Sound states stay sound.
use Rattle.std.proofs.Common.{◌≡◌, ℕ, ℤ, ◌+ℤ◌, ◌==◌, Bool, true, false, cond, List, [], ◌∷◌, Option, Some, None, IfSome, refl, sym, ap, ◌∙◌, subst, true≢false, eqb-true, eq-eqb}
use Rattle.std.specs.Prelude.{IsSome}
use Rattle.exo_tree.specs.Tree.{Coord, Argument, ControlArg, ConditionArg, Whole, Window, Statement, Assign, Reduce, Config, Pass, If, For, Alloc, View, Call, Block, end, next, Param}
use Rattle.exo_meaning.specs.Value.{Value, Undefined, on_two, stored_as}
use Rattle.exo_meaning.specs.Scene.{Shape, Seen, then_do, numbers, holds, window, narrowed, whole, index_of}
use Rattle.exo_meaning.specs.State.{State, Cells, Place, place, put, value, left, scoped, on_scene, with_control, with_field, with_contents, with_buffer}
use Rattle.exo_meaning.specs.Calls.{keeps_apart, copied_call, Callee, Given, GivenNumber, GivenView, given, all_given, entered, returned, run_asserted, suits, all_positive, copy_back, copied_back, value_or}
use Rattle.exo_meaning.specs.Run.{World, run, step, call_to, turn, turns, turns_of, choose, argument_number, tensor}
use Rattle.exo_meaning.proofs.Frame.{if_then, if_map, if_where, any, if_weaken, here}
use Rattle.exo_meaning.proofs.Changes.{changed_tidy}
use Rattle.exo_meaning.proofs.Nested.{left_tidy}
use Rattle.exo_tree.specs.Context.{Context, Here, After, InLoop, InThen, InElse, fill}
use Rattle.meaning_laws.specs.Context.{ComesToTurn, now, later, ComesTo}
use Rattle.meaning_laws.specs.Sound.{IsSound}
use Rattle.meaning_laws.proofs.Parts.{some_injective}
use Rattle.meaning_laws.proofs.Names.{if_gives}

pub left_sound : (s t : State) → IsSound s → IsSound (left s t)
left_sound s t h = record { tidy = left_tidy s t; seen = h.seen }

put_sound : (s : State) (f : Value → Value) (p : Place) → IsSound s → IfSome (put s f p) IsSound
put_sound s f p h = if_map (λ shape. s.scene.buffers p.buffer ≡ Some shape) IsSound (s.scene.buffers p.buffer) _ (here (s.scene.buffers p.buffer)) (λ shape e. record { tidy = changed_tidy s p shape (λ old. stored_as shape.cell (f old)) e h.tidy; seen = h.seen })

store_sound : (s : State) (o : Option Place) (r : Option Value) (f : Value → Value → Value) → IsSound s → IfSome (then_do o (λ p. then_do r (λ v. put s (f v) p))) IsSound
store_sound s o r f h = if_then (λ p. Unit {0}) IsSound o _ (any o) (λ p u. if_then (λ v. Unit {0}) IsSound r _ (any r) (λ v w. put_sound s (f v) p h))

scoped_sound : (f : State → Option State) (s : State) → IsSound s → IfSome (scoped f s) IsSound
scoped_sound f s h = if_map (λ t. Unit {0}) IsSound (f s) (left s) (any (f s)) (λ t u. left_sound s t h)

pub turn_sound : (i : ℕ) (body : State → Option State) (n : ℤ) (s : State) → IsSound s → IfSome (turn i body n s) IsSound
turn_sound i body n s h = if_map (λ t. Unit {0}) IsSound (body (on_scene (with_control i n) s)) (left s) (any (body (on_scene (with_control i n) s))) (λ t u. left_sound s t h)

pub turns_sound : (i : ℕ) (body : State → Option State) (ns : List ℤ) (s : State) → IsSound s → IfSome (turns (turn i body) ns s) IsSound
turns_sound i body [] s h = h
turns_sound i body (n ∷ ns) s h = if_then IsSound IsSound (turn i body n s) (turns (turn i body) ns) (turn_sound i body n s h) (turns_sound i body ns)

pub some_there : {A : Type 0} (o : Option A) (a : A) → o ≡ Some a → IsSome o
some_there o a e = subst IsSome (sym e) refl

made_sound : (s : State) (x : ℕ) (shape : Shape) → IsSound s → IsSound (with_contents x (λ at. Undefined) (on_scene (with_buffer x shape) s))
made_sound s x shape h = record {
  tidy = λ y d at. still (y == x) y at d;
  seen = λ y z e. by_name y z (y == x) e;
}
  where
    still : (t : Bool) (y : ℕ) (at : List ℤ) → cond t (Some shape) (s.scene.buffers y) ≡ None → cond {A = List ℤ → Value} t (λ at. Undefined) (s.cells y) at ≡ Undefined
    still true y at d = refl
    still false y at d = h.tidy y d at

    by_buffer : (t : Bool) (b : ℕ) → IsSome (s.scene.buffers b) → IsSome (cond t (Some shape) (s.scene.buffers b))
    by_buffer true b k = refl
    by_buffer false b k = k

    by_name : (y : ℕ) (z : Seen) (t : Bool) → cond t (Some (record { buffer = x; sides = whole shape.dims })) (s.scene.views y) ≡ Some z → IsSome (cond (z.buffer == x) (Some shape) (s.scene.buffers z.buffer))
    by_name y z true e =
        let same : x ≡ z.buffer = ap (λ (w : Seen). w.buffer) (some_injective (record { buffer = x; sides = whole shape.dims }) z e) in
        subst (λ t. IsSome (cond t (Some shape) (s.scene.buffers z.buffer))) (sym (eq-eqb z.buffer x (sym same))) refl
    by_name y z false e = by_buffer (z.buffer == x) z.buffer (h.seen y z e)

pub window_there : (s : State) (x : ℕ) (coords : List Coord) → IsSound s → IfSome (window s.scene x coords) (λ seen. IsSome (s.scene.buffers seen.buffer))
window_there s x coords h = if_then (λ seen. IsSome (s.scene.buffers seen.buffer)) (λ seen. IsSome (s.scene.buffers seen.buffer)) (s.scene.views x) _ (if_weaken (λ seen. s.scene.views x ≡ Some seen) (λ seen. IsSome (s.scene.buffers seen.buffer)) (s.scene.views x) (here (s.scene.views x)) (λ seen e. h.seen x seen e)) (λ seen k.
    if_map (λ sides. Unit {0}) (λ z. IsSome (s.scene.buffers z.buffer)) (narrowed s.scene seen.sides coords) (λ sides. record { buffer = seen.buffer; sides = sides }) (any (narrowed s.scene seen.sides coords)) (λ sides u. k))

-- ---- calls

abbrev pub IsThere : State → Given → Type 0
IsThere s (GivenNumber n) = Unit {0}
IsThere s (GivenView seen) = IsSome (s.scene.buffers seen.buffer)

abbrev pub AreThere : State → List Given → Type 0
AreThere s [] = Unit {0}
AreThere s (g ∷ gs) = IsThere s g × AreThere s gs

pub given_there : (s : State) (a : Argument) → IsSound s → IfSome (given s.scene a) (IsThere s)
given_there s (ControlArg a) h = tt
given_there s (ConditionArg c) h = tt
given_there s (Whole x) h = if_map (λ z. s.scene.views x ≡ Some z) (IsThere s) (s.scene.views x) GivenView (here (s.scene.views x)) (λ z e. h.seen x z e)
given_there s (Window x coords) h = if_map (λ z. IsSome (s.scene.buffers z.buffer)) (IsThere s) (window s.scene x coords) GivenView (window_there s x coords h) (λ z k. k)

pub all_there : (s : State) (args : List Argument) → IsSound s → IfSome (all_given s.scene args) (AreThere s)
all_there s [] h = tt
all_there s (a ∷ args) h = if_then (IsThere s) (AreThere s) (given s.scene a) _ (given_there s a h) (λ g k. if_map (AreThere s) (AreThere s) (all_given s.scene args) (λ gs. g ∷ gs) (all_there s args h) (λ gs j. (k, j)))

back_same : (s : State) (t : Bool) (g : Given) (copy : List ℤ → Value) (c : Cells) → IsThere s g → (y : ℕ) → s.scene.buffers y ≡ None → (at : List ℤ) → copy_back t g copy c y at ≡ c y at
back_same s false g copy c k y d at = refl
back_same s true (GivenNumber n) copy c k y d at = refl
back_same s true (GivenView seen) copy c k y d at = go (y == seen.buffer) (eqb-true y seen.buffer)
  where
    go : (t : Bool) → (t ≡ true → y ≡ seen.buffer) → cond t (value_or (index_of seen.sides at) copy (c y at)) (c y at) ≡ c y at
    go true e = absurd (true≢false (sym (subst IsSome (ap s.scene.buffers (sym (e refl)) ∙ d) k)))
    go false e = refl

pub all_back_same : (s : State) (w : ℕ → Bool) (ps : List Param) (gs : List Given) (copies c : Cells) → AreThere s gs → (y : ℕ) → s.scene.buffers y ≡ None → (at : List ℤ) → copied_back w ps gs copies c y at ≡ c y at
all_back_same s w [] gs copies c k y d at = refl
all_back_same s w (p ∷ ps) [] copies c k y d at = refl
all_back_same s w (p ∷ ps) (g ∷ gs) copies c k y d at = all_back_same s w ps gs copies (copy_back (w p.binder.id) g (copies p.binder.id) c) k.1 y d at ∙ back_same s (w p.binder.id) g (copies p.binder.id) c k.0 y d at

call_sound : (o : Option Callee) (args : List Argument) (s : State) → IsSound s → IfSome (call_to o args s) IsSound
call_sound None args s h = tt
call_sound (Some c) args s h = if_where IsSound (keeps_apart c s.scene args) (copied_call c args s) (if_then (AreThere s) IsSound (all_given s.scene args) _ (all_there s args h) (λ gs u. if_then (λ t. Unit {0}) IsSound (entered c.procedure.params gs s) _ (any (entered c.procedure.params gs s)) (λ t v. if_map (λ w. Unit {0}) IsSound (run_asserted c t) (returned c gs s) (any (run_asserted c t)) (λ w z. record {
  tidy = λ y d at. all_back_same s c.writes c.procedure.params gs w.cells s.cells u y d at ∙ h.tidy y d at;
  seen = h.seen;
}))))

-- ---- statements

pub step_sound : (world : World) (a : Statement) (s : State) → IsSound s → IfSome (step world a s) IsSound
step_sound world (Assign x is e) s h = store_sound s (place s.scene x is) (value s e) (λ v old. v) h
step_sound world (Reduce x is e) s h = store_sound s (place s.scene x is) (value s e) (λ v old. on_two ◌+ℤ◌ old v) h
step_sound world (Config f a) s h = if_then (λ n. Unit {0}) IsSound (argument_number s.scene a) _ (any (argument_number s.scene a)) (λ n u. if_where IsSound (suits (world.kinds f) n) (Some (on_scene (with_field f n) s)) (record { tidy = h.tidy; seen = h.seen }))
step_sound world Pass s h = h
step_sound world (If c a b) s h = scoped_sound (choose (holds s.scene c) (run world a) (run world b)) s h
step_sound world (For i lo hi b) s h = turns_sound i.id (run world b) (turns_of s.scene lo hi) s h
step_sound world (Alloc x cell dims memory) s h =
    let shape = tensor cell (numbers s.scene dims) in
    if_where IsSound (all_positive (numbers s.scene dims)) (Some (with_contents x.id (λ at. Undefined) (on_scene (with_buffer x.id shape) s))) (made_sound s x.id shape h)
step_sound world (View w x coords) s h = if_then (λ seen. IsSome (s.scene.buffers seen.buffer)) IsSound (window s.scene x coords) _ (window_there s x coords h) (λ seen k. record {
  tidy = h.tidy;
  seen = λ y z e. go y z seen k (y == w.id) e;
})
  where
    go : (y : ℕ) (z seen : Seen) → IsSome (s.scene.buffers seen.buffer) → (t : Bool) → cond t (Some seen) (s.scene.views y) ≡ Some z → IsSome (s.scene.buffers z.buffer)
    go y z seen k true e = subst (λ (v : Seen). IsSome (s.scene.buffers v.buffer)) (some_injective seen z e) k
    go y z seen k false e = h.seen y z e
step_sound world (Call k args) s h = call_sound (world.callees k) args s h

pub run_sound : (world : World) (b : Block) (s : State) → IsSound s → IfSome (run world b s) IsSound
run_sound world end s h = h
run_sound world (next a b) s h = if_then IsSound IsSound (step world a s) (run world b) (step_sound world a s h) (run_sound world b)

-- ---- on the way

pub come_to_turn_sound : (i : ℕ) (body : State → Option State) (ns : List ℤ) (s : State) (n : ℤ) (u : State) → ComesToTurn (turn i body) ns s n u → IsSound s → IsSound u
come_to_turn_sound i body [] s n u z = elim z [ ]
come_to_turn_sound i body (m ∷ ns) s n u now = λ h. h
come_to_turn_sound i body (m ∷ ns) s n u (later {t} e z) = λ h. come_to_turn_sound i body ns t n u z (if_gives IsSound (turn i body m s) t (turn_sound i body m s h) e)

module _ (world : World) (old : Block) where
  pub come_sound : (c : Context) (s u : State) → ComesTo world old c s u → IsSound s → IsSound u
  come_sound (Here rest) s u z h = subst IsSound (sym z) h
  come_sound (After a c) s u z h = come_sound c z.0 u z.2 (if_gives IsSound (step world a s) z.0 (step_sound world a s h) z.1)
  come_sound (InLoop i lo hi c rest) s u z h =
      let k = come_to_turn_sound i.id (run world (fill c old)) (turns_of s.scene lo hi) s z.0 z.1 z.2 h in
      come_sound c (on_scene (with_control i.id z.0) z.1) u z.3 (record { tidy = k.tidy; seen = k.seen })
  come_sound (InThen test c other rest) s u z h = come_sound c s u z.1 h
  come_sound (InElse test other c rest) s u z h = come_sound c s u z.1 h
