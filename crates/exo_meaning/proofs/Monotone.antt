-- Runs are monotone.
use Rattle.std.proofs.Common.{◌≡◌, ℕ, ℤ, pos, ◌+ℤ◌, ◌-ℤ◌, ◌*ℤ◌, ◌==◌, Bool, true, false, cond, List, [], ◌∷◌, ◌++◌, Option, Some, None, slice_get, IfSome, zero, suc, refl, ap, ap₂, ◌∙◌, subst}
use Rattle.exo_tree.specs.Tree.{Cell, Control, Argument, Datum, Const, Read, Negated, Relu, Plus, Minus, Times, Select, Statement, Assign, Reduce, Config, Pass, If, For, Alloc, View, Call, Block, end, next, Param, ParamKind, ControlParam, TensorParam, WindowParam, Kind, Procedure}
use Rattle.exo_meaning.specs.Value.{Value, Undefined, Number, IsRefinedBy, stored_as, on_one, on_two, on_four, relu, selected}
use Rattle.exo_meaning.specs.Scene.{Shape, Scene, numbers, holds, cell_at, index_of, where_true, window}
use Rattle.exo_meaning.specs.State.{State, Cells, Place, place, held, is_there, put, value, kept, left, scoped, with_control}
use Rattle.exo_meaning.specs.Calls.{Callee, keeps_apart, Given, GivenNumber, GivenView, held_at, copy_in, bind_buffer, bind_buffers, bind_numbers, entered, value_or, copy_back, copied_back, all_hold, run_asserted, call, all_given}
use Rattle.exo_meaning.specs.Run.{unit_world, World, run, step, assign, reduce, configure, view, call_to, turn, turns, turns_of, choose, argument_number, callees, callee_in, world_of}
use Rattle.exo_meaning.specs.Refines.{Both, AreRelated, StatesRelated, Respects, CalleesRespect}
use Rattle.exo_meaning.specs.Laws.{RunsAreMonotone, DataIsApart}
use Rattle.exo_meaning.proofs.Both.{both_then, both_map, both_then_same, both_map_same, both_where}

pub none_some : {A : Type 0} {a : A} → None ≡ Some a → ⊥
none_some e = cc

-- ---- values

one_refined : (f : ℤ → ℤ) (u v : Value) → IsRefinedBy u v → IsRefinedBy (on_one f u) (on_one f v)
one_refined f Undefined v h = tt
one_refined f (Number m) v h = ap (on_one f) h

two_refined : (f : ℤ → ℤ → ℤ) (u v w x : Value) → IsRefinedBy u v → IsRefinedBy w x → IsRefinedBy (on_two f u w) (on_two f v x)
two_refined f Undefined v w x h k = tt
two_refined f (Number m) v Undefined x h k = tt
two_refined f (Number m) v (Number n) x h k = ap₂ (on_two f) h k

stored_refined : (cell : Cell) (u v : Value) → IsRefinedBy u v → IsRefinedBy (stored_as cell u) (stored_as cell v)
stored_refined cell Undefined v h = tt
stored_refined cell (Number m) v h = ap (stored_as cell) h

four_refined : (f : ℤ → ℤ → ℤ → ℤ → ℤ) (k l m n k' l' m' n' : Value) → IsRefinedBy k k' → IsRefinedBy l l' → IsRefinedBy m m' → IsRefinedBy n n' → IsRefinedBy (on_four f k l m n) (on_four f k' l' m' n')
four_refined f Undefined l m n k' l' m' n' h i j o = tt
four_refined f (Number a) Undefined m n k' l' m' n' h i j o = tt
four_refined f (Number a) (Number b) Undefined n k' l' m' n' h i j o = tt
four_refined f (Number a) (Number b) (Number c) Undefined k' l' m' n' h i j o = tt
four_refined f (Number a) (Number b) (Number c) (Number d) k' l' m' n' h i j o =
    ap₂ (λ x y. on_four f x y (Number c) (Number d)) h i ∙ ap₂ (λ x y. on_four f k' l' x y) j o

-- a relation between values that each operation keeps
pub record IsClosed (V : Value → Value → Type 0) : Type 0 where
  undefined : V Undefined Undefined
  constant : (n : ℤ) → V (Number n) (Number n)
  one : (f : ℤ → ℤ) (u v : Value) → V u v → V (on_one f u) (on_one f v)
  two : (f : ℤ → ℤ → ℤ) (u v w x : Value) → V u v → V w x → V (on_two f u w) (on_two f v x)
  four : (f : ℤ → ℤ → ℤ → ℤ → ℤ) (k l m n k' l' m' n' : Value) → V k k' → V l l' → V m m' → V n n' → V (on_four f k l m n) (on_four f k' l' m' n')
  stored : (cell : Cell) (u v : Value) → V u v → V (stored_as cell u) (stored_as cell v)

module _ (V : Value → Value → Type 0) (closed : IsClosed V) where
  cond_refined : (t : Bool) (u v w x : Value) → V u v → V w x → V (cond t u w) (cond t v x)
  cond_refined true u v w x h k = h
  cond_refined false u v w x h k = k

  -- ---- data

  abbrev at_scene : Scene → Cells → State
  at_scene scene cells = record { scene = scene; cells = cells }

  module _ (scene : Scene) (c d : Cells) (h : AreRelated V c d) where
    value_refined : (e : Datum) → Both V (value (at_scene scene c) e) (value (at_scene scene d) e)
    value_refined (Const n) = closed.constant n
    value_refined (Read x is) = both_map_same V (place scene x is) (held c) (held d) (λ p. h p.buffer p.at)
    value_refined (Negated a) = both_map V V _ _ _ _ (value_refined a) (closed.one (λ m. pos 0 -ℤ m))
    value_refined (Relu a) = both_map V V _ _ _ _ (value_refined a) (closed.one relu)
    value_refined (Plus a b) = both_then V V _ _ _ _ (value_refined a) (λ u v k. both_map V V _ _ _ _ (value_refined b) (λ w x. closed.two ◌+ℤ◌ u v w x k))
    value_refined (Minus a b) = both_then V V _ _ _ _ (value_refined a) (λ u v k. both_map V V _ _ _ _ (value_refined b) (λ w x. closed.two ◌-ℤ◌ u v w x k))
    value_refined (Times a b) = both_then V V _ _ _ _ (value_refined a) (λ u v k. both_map V V _ _ _ _ (value_refined b) (λ w x. closed.two ◌*ℤ◌ u v w x k))
    value_refined (Select a b e f) =
        both_then V V _ _ _ _ (value_refined a) (λ k k' hk. both_then V V _ _ _ _ (value_refined b) (λ l l' hl. both_then V V _ _ _ _ (value_refined e) (λ m m' hm. both_map V V _ _ _ _ (value_refined f) (λ n n' hn. closed.four selected k l m n k' l' m' n' hk hl hm hn))))

    put_refined : (f g : Value → Value) (p : Place) → ((u v : Value) → V u v → V (f u) (g v)) → Both (StatesRelated V) (put (at_scene scene c) f p) (put (at_scene scene d) g p)
    put_refined f g p k = both_map_same (StatesRelated V) (scene.buffers p.buffer) _ _ (λ shape. record {
      scene = refl;
      cells = λ b at. cond_refined (is_there p b at) _ _ _ _ (closed.stored shape.cell _ _ (k _ _ (h b at))) (h b at);
    })

    assign_refined : (x : ℕ) (is : List Control) (e : Datum) → Both (StatesRelated V) (assign x is e (at_scene scene c)) (assign x is e (at_scene scene d))
    assign_refined x is e = both_then_same (StatesRelated V) (place scene x is) _ _ (λ p. both_then V (StatesRelated V) _ _ _ _ (value_refined e) (λ u v k. put_refined (λ old. u) (λ old. v) p (λ w x l. k)))

    reduce_refined : (x : ℕ) (is : List Control) (e : Datum) → Both (StatesRelated V) (reduce x is e (at_scene scene c)) (reduce x is e (at_scene scene d))
    reduce_refined x is e = both_then_same (StatesRelated V) (place scene x is) _ _ (λ p. both_then V (StatesRelated V) _ _ _ _ (value_refined e) (λ u v k. put_refined (λ old. on_two ◌+ℤ◌ old u) (λ old. on_two ◌+ℤ◌ old v) p (λ w x l. closed.two ◌+ℤ◌ w x u v l k)))

  where_refined : (t : Bool) (scene : Scene) (c d : Cells) → AreRelated V c d → Both (StatesRelated V) (where_true t (Some (at_scene scene c))) (where_true t (Some (at_scene scene d)))
  where_refined t scene c d h = let k : (StatesRelated V) (at_scene scene c) (at_scene scene d) = record { scene = refl; cells = h } in both_where (StatesRelated V) t _ _ k

  -- ---- from one scene to two equal ones

  to_equal_scenes : (f : State → Option State) → ((scene : Scene) (c d : Cells) → AreRelated V c d → Both (StatesRelated V) (f (at_scene scene c)) (f (at_scene scene d))) → Respects (StatesRelated V) f
  to_equal_scenes f k s t h = subst (λ scene. Both (StatesRelated V) (f s) (f (at_scene scene t.cells))) h.scene (k s.scene s.cells t.cells h.cells)

  -- ---- scopes and loops

  kept_refined : (o : Option Shape) (f g : List ℤ → Value) (at : List ℤ) → V (f at) (g at) → V (kept o f at) (kept o g at)
  kept_refined None f g at h = closed.undefined
  kept_refined (Some shape) f g at h = h

  pub left_refined : (scene : Scene) (c d : Cells) (a b : State) → (StatesRelated V) a b → (StatesRelated V) (left (at_scene scene c) a) (left (at_scene scene d) b)
  left_refined scene c d a b h = record {
    scene = ap (λ sc. record scene { fields = sc.fields }) h.scene;
    cells = λ x at. kept_refined (scene.buffers x) (a.cells x) (b.cells x) at (h.cells x at);
  }

  at_same : (f : State → Option State) → Respects (StatesRelated V) f → (scene : Scene) (c d : Cells) → AreRelated V c d → Both (StatesRelated V) (f (at_scene scene c)) (f (at_scene scene d))
  at_same f k scene c d h = k _ _ (record { scene = refl; cells = h })

  scoped_same : (f : State → Option State) → Respects (StatesRelated V) f → (scene : Scene) (c d : Cells) → AreRelated V c d → Both (StatesRelated V) (scoped f (at_scene scene c)) (scoped f (at_scene scene d))
  scoped_same f k scene c d h = both_map (StatesRelated V) (StatesRelated V) _ _ _ _ (at_same f k scene c d h) (left_refined scene c d)

  pub turn_respects : (i : ℕ) (body : State → Option State) (n : ℤ) → Respects (StatesRelated V) body → Respects (StatesRelated V) (turn i body n)
  turn_respects i body n k =
      to_equal_scenes (turn i body n) (λ scene c d h. both_map (StatesRelated V) (StatesRelated V) _ _ _ _ (at_same body k (with_control i n scene) c d h) (left_refined scene c d))

  pub turns_respects : (go : ℤ → State → Option State) → ((n : ℤ) → Respects (StatesRelated V) (go n)) → (ns : List ℤ) → Respects (StatesRelated V) (turns go ns)
  turns_respects go k [] s t h = h
  turns_respects go k (n ∷ ns) s t h = both_then (StatesRelated V) (StatesRelated V) _ _ _ _ (k n s t h) (turns_respects go k ns)

  choose_respects : (test : Bool) (a b : State → Option State) → Respects (StatesRelated V) a → Respects (StatesRelated V) b → Respects (StatesRelated V) (choose test a b)
  choose_respects true a b h k = h
  choose_respects false a b h k = k

  -- ---- calls

  held_refined : (f g : List ℤ → Value) → ((at : List ℤ) → V (f at) (g at)) → (o : Option (List ℤ)) → V (held_at f o) (held_at g o)
  held_refined f g h None = closed.undefined
  held_refined f g h (Some at) = h at

  updated_refined : (c d : Cells) (x : ℕ) (f g : List ℤ → Value) → AreRelated V c d → ((at : List ℤ) → V (f at) (g at)) → AreRelated V (λ b at. cond (b == x) f (c b) at) (λ b at. cond (b == x) g (d b) at)
  updated_refined c d x f g h k b at = go (b == x)
    where
      go : (t : Bool) → V (cond t f (c b) at) (cond t g (d b) at)
      go true = k at
      go false = h b at

  module _ (scene : Scene) (c d : Cells) (h : AreRelated V c d) where
    copy_in_refined : (x : ℕ) (cell : Cell) (dims : List ℤ) (g : Given) (inner : Scene) (e f : Cells) → AreRelated V e f → Both (StatesRelated V) (copy_in (at_scene scene c) x cell dims g (at_scene inner e)) (copy_in (at_scene scene d) x cell dims g (at_scene inner f))
    copy_in_refined x cell dims (GivenNumber n) inner e f k = tt
    copy_in_refined x cell dims (GivenView seen) inner e f k = where_refined _ _ _ _ (updated_refined e f x _ _ k (λ is. held_refined (c seen.buffer) (d seen.buffer) (h seen.buffer) (cell_at seen.sides is)))

    bind_refined : (x : ℕ) (kind : ParamKind) (g : Given) (inner : Scene) (e f : Cells) → AreRelated V e f → Both (StatesRelated V) (bind_buffer (at_scene scene c) x kind g (at_scene inner e)) (bind_buffer (at_scene scene d) x kind g (at_scene inner f))
    bind_refined x (ControlParam kind) g inner e f k = record { scene = refl; cells = k }
    bind_refined x (TensorParam cell dims memory) g inner e f k = copy_in_refined x cell (numbers inner dims) g inner e f k
    bind_refined x (WindowParam cell dims memory) g inner e f k = copy_in_refined x cell (numbers inner dims) g inner e f k

    -- at two states of one scene
    bound_refined : (ps : List Param) (gs : List Given) (s t : State) → (StatesRelated V) s t → Both (StatesRelated V) (bind_buffers (at_scene scene c) ps gs s) (bind_buffers (at_scene scene d) ps gs t)
    bound_refined [] gs s t k = k
    bound_refined (p ∷ ps) [] s t k = tt
    bound_refined (p ∷ ps) (g ∷ gs) s t k =
        both_then (StatesRelated V) (StatesRelated V) _ _ _ _
        (subst (λ sc. Both (StatesRelated V) (bind_buffer (at_scene scene c) p.binder.id p.kind g s) (bind_buffer (at_scene scene d) p.binder.id p.kind g (at_scene sc t.cells))) k.scene (bind_refined p.binder.id p.kind g s.scene s.cells t.cells k.cells))
        (bound_refined ps gs)

    entered_refined : (ps : List Param) (gs : List Given) → Both (StatesRelated V) (entered ps gs (at_scene scene c)) (entered ps gs (at_scene scene d))
    entered_refined ps gs = both_then_same (StatesRelated V) (bind_numbers ps gs (λ x. pos 0)) _ _ (λ control. bound_refined ps gs _ _ (record { scene = refl; cells = λ b at. closed.undefined }))

  value_or_refined : (o : Option (List ℤ)) (f g : List ℤ → Value) (u v : Value) → ((at : List ℤ) → V (f at) (g at)) → V u v → V (value_or o f u) (value_or o g v)
  value_or_refined None f g u v h k = k
  value_or_refined (Some is) f g u v h k = h is

  back_refined : (writes : Bool) (g : Given) (e f : List ℤ → Value) (c d : Cells) → ((at : List ℤ) → V (e at) (f at)) → AreRelated V c d → AreRelated V (copy_back writes g e c) (copy_back writes g f d)
  back_refined false g e f c d h k = k
  back_refined true (GivenNumber n) e f c d h k = k
  back_refined true (GivenView seen) e f c d h k = λ b at. cond_refined (b == seen.buffer) _ _ _ _ (value_or_refined (index_of seen.sides at) e f _ _ h (k b at)) (k b at)

  all_back_refined : (writes : ℕ → Bool) (ps : List Param) (gs : List Given) (e f c d : Cells) → AreRelated V e f → AreRelated V c d → AreRelated V (copied_back writes ps gs e c) (copied_back writes ps gs f d)
  all_back_refined writes [] gs e f c d h k = k
  all_back_refined writes (p ∷ ps) [] e f c d h k = k
  all_back_refined writes (p ∷ ps) (g ∷ gs) e f c d h k = all_back_refined writes ps gs e f _ _ h (back_refined (writes p.binder.id) g (e p.binder.id) (f p.binder.id) c d (h p.binder.id) k)

  asserted_respects : (callee : Callee) → Respects (StatesRelated V) callee.run → Respects (StatesRelated V) (run_asserted callee)
  asserted_respects callee k = to_equal_scenes (run_asserted callee) (λ scene c d h. both_where (StatesRelated V) (all_hold scene callee.procedure.asserts) _ _ (at_same callee.run k scene c d h))

  call_respects : (callee : Callee) (args : List Argument) → Respects (StatesRelated V) callee.run → Respects (StatesRelated V) (call callee args)
  call_respects callee args k = to_equal_scenes (call callee args) (λ scene c d h.
      both_where (StatesRelated V) (keeps_apart callee scene args) _ _ (both_then_same (StatesRelated V) (all_given scene args) _ _ (λ gs.
      both_then (StatesRelated V) (StatesRelated V) _ _ _ _ (entered_refined scene c d h callee.procedure.params gs) (λ s t st.
      both_map (StatesRelated V) (StatesRelated V) _ _ _ _ (asserted_respects callee k s t st) (λ a b ab. record {
        scene = ap (λ sc. record scene { fields = sc.fields }) ab.scene;
        cells = all_back_refined callee.writes callee.procedure.params gs a.cells b.cells c d ab.cells h;
      })))))

  -- ---- trees

  module _ (world : World) (callees : CalleesRespect (StatesRelated V) world) where
    call_to_respects : (o : Option Callee) (args : List Argument) → ((c : Callee) → o ≡ Some c → Respects (StatesRelated V) c.run) → Respects (StatesRelated V) (call_to o args)
    call_to_respects None args k s t h = tt
    call_to_respects (Some callee) args k s t h = call_respects callee args (k callee refl) s t h

    mutual
      pub run_respects : (b : Block) → Respects (StatesRelated V) (run world b)
      run_respects end s t h = h
      run_respects (next a b) s t h = both_then (StatesRelated V) (StatesRelated V) _ _ _ _ (step_respects a s t h) (run_respects b)

      pub step_respects : (a : Statement) → Respects (StatesRelated V) (step world a)
      step_respects (Assign x is e) = to_equal_scenes (assign x is e) (λ scene c d h. assign_refined scene c d h x is e)
      step_respects (Reduce x is e) = to_equal_scenes (reduce x is e) (λ scene c d h. reduce_refined scene c d h x is e)
      step_respects (Config f a) = to_equal_scenes (configure world f a) (λ scene c d h. both_then_same (StatesRelated V) (argument_number scene a) _ _ (λ n. where_refined _ _ _ _ h))
      step_respects Pass = λ s t h. h
      step_respects (If c a b) = to_equal_scenes (step world (If c a b)) (λ scene. scoped_same (choose (holds scene c) (run world a) (run world b)) (choose_respects (holds scene c) (run world a) (run world b) (run_respects a) (run_respects b)) scene)
      step_respects (For i lo hi b) = to_equal_scenes (step world (For i lo hi b)) (λ scene. at_same (turns (turn i.id (run world b)) (turns_of scene lo hi)) (turns_respects (turn i.id (run world b)) (λ n. turn_respects i.id (run world b) n (run_respects b)) (turns_of scene lo hi)) scene)
      step_respects (Alloc x cell dims memory) = to_equal_scenes (step world (Alloc x cell dims memory)) (λ scene c d h. where_refined _ _ _ _ (updated_refined c d x.id _ _ h (λ at. closed.undefined)))
      step_respects (View w x coords) = to_equal_scenes (view w.id x coords) (λ scene c d h. both_then_same (StatesRelated V) (window scene x coords) _ _ (λ seen. record { scene = refl; cells = h }))
      step_respects (Call k args) = call_to_respects (world.callees k) args (callees k)

  -- ---- the procedures of a unit

  abbrev AllRespect : List Callee → Type 0
  AllRespect cs = (k : ℕ) (c : Callee) → slice_get cs k ≡ Some c → Respects (StatesRelated V) c.run

  all_respect_more : (cs : List Callee) (c : Callee) → AllRespect cs → Respects (StatesRelated V) c.run → AllRespect (cs ++ c ∷ [])
  all_respect_more [] c h k zero d e = subst (λ o. IfSome o (λ x. Respects (StatesRelated V) x.run)) e k
  all_respect_more [] c h k (suc n) d e = absurd (none_some e)
  all_respect_more (x ∷ cs) c h k zero d e = h zero d e
  all_respect_more (x ∷ cs) c h k (suc n) d e = all_respect_more cs c (λ m. h (suc m)) k n d e

  pub all_respect : (kinds : ℕ → Kind) (above : List Callee) (ps : List Procedure) → AllRespect above → AllRespect (callees kinds above ps)
  all_respect kinds above [] h = h
  all_respect kinds above (p ∷ ps) h = all_respect kinds (above ++ callee_in (world_of kinds above) p ∷ []) ps (all_respect_more above (callee_in (world_of kinds above) p) h (run_respects (world_of kinds above) h p.body))

  runs_respect : (kinds : ℕ → Kind) (ps : List Procedure) (b : Block) → Respects (StatesRelated V) (run (unit_world kinds ps) b)
  runs_respect kinds ps b = run_respects (unit_world kinds ps) (all_respect kinds [] ps (λ k c e. absurd (none_some e))) b

-- ---- two relations

pub refined_closed : IsClosed IsRefinedBy
refined_closed = record { undefined = tt; constant = λ n. refl; one = one_refined; two = two_refined; four = four_refined; stored = stored_refined }

pub runs_are_monotone : RunsAreMonotone
runs_are_monotone = runs_respect IsRefinedBy refined_closed

any_closed : IsClosed (λ u v. Unit {0})
any_closed = record { undefined = tt; constant = λ n. tt; one = λ f u v h. tt; two = λ f u v w x h k. tt; four = λ f k l m n k' l' m' n' a b c d. tt; stored = λ cell u v h. tt }

pub data_is_apart : DataIsApart
data_is_apart = runs_respect (λ u v. Unit {0}) any_closed
