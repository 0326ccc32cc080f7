-- Loops that fill a buffer.
use Rattle.std.proofs.Common.{◌≡◌, ◌<◌, ◌+◌, ℕ, zero, suc, ℤ, pos, ◌+ℤ◌, ◌-ℤ◌, ◌==◌, ◌&&◌, ◌||◌, Bool, true, false, cond, List, [], ◌∷◌, Option, Some, None, IsSome, option_map, refl, sym, ap, ◌∙◌, subst, true≢false, eqb-true, arith}
use Rattle.std.proofs.Math.Path.{fun_ext}
use Rattle.std.proofs.lemmas.Int.{ints}
use Rattle.exo_tree.specs.Tree.{Statement}
use Rattle.exo_meaning.specs.Value.{Value, Undefined}
use Rattle.exo_meaning.specs.Scene.{Shape, Scene, then_do, number}
use Rattle.exo_meaning.specs.State.{State, Cells, with_control, left, kept}
use Rattle.exo_meaning.specs.Run.{World, run, step, turn, turns, range, count}
use Rattle.exo_meaning.proofs.Nested.{then_some}
use Rattle.inplace_laws.specs.Filled.{Loop, nest, any_of, at_cells, filled, Fills, nest_hits, AtEach}

module _ (x : ℕ) (goal : List ℤ → Value) (cells : Cells) where
  -- what is filled twice
  filled_more : (f g : List ℤ → Bool) (c : Cells) → filled x goal g (filled x goal f c) ≡ filled x goal (λ at. f at || g at) c
  filled_more f g c = fun_ext (λ b. fun_ext (λ at. go (b == x) (f at) (g at) (goal at) (c b at)))
    where
      go : (t p q : Bool) (u v : Value) → cond (t && q) u (cond (t && p) u v) ≡ cond (t && (p || q)) u v
      go false p q u v = refl
      go true true true u v = refl
      go true true false u v = refl
      go true false true u v = refl
      go true false false u v = refl

  filled_none : (c : Cells) → filled x goal (λ at. false) c ≡ c
  filled_none c = fun_ext (λ b. fun_ext (λ at. go (b == x) (goal at) (c b at)))
    where
      go : (t : Bool) (u v : Value) → cond (t && false) u v ≡ v
      go false u v = refl
      go true u v = refl

  filled_else : (f : List ℤ → Bool) (c : Cells) → ((b : ℕ) → (b == x) ≡ false → c b ≡ cells b) → (b : ℕ) → (b == x) ≡ false → filled x goal f c b ≡ cells b
  filled_else f c k b e = fun_ext (λ at. ap (λ t. cond (t && f at) (goal at) (c b at)) e) ∙ k b e

  module _ (scene : Scene) (there : IsSome (scene.buffers x)) (tidy : (b : ℕ) → scene.buffers b ≡ None → (at : List ℤ) → cells b at ≡ Undefined) where
    -- what is left at the end of a turn
    kept_filled : (f : List ℤ → Bool) (c : Cells) → ((b : ℕ) → (b == x) ≡ false → c b ≡ cells b) → (λ b. kept (scene.buffers b) (filled x goal f c b)) ≡ filled x goal f c
    kept_filled f c k = fun_ext (λ b. fun_ext (λ at. go b at (scene.buffers b) refl))
      where
        other : (b : ℕ) → scene.buffers b ≡ None → (t : Bool) → (b == x) ≡ t → t ≡ false
        other b e false i = refl
        other b e true i = absurd (true≢false (sym (subst IsSome (ap scene.buffers (sym (eqb-true b x i)) ∙ e) there)))

        go : (b : ℕ) (at : List ℤ) (o : Option Shape) → scene.buffers b ≡ o → kept o (filled x goal f c b) at ≡ filled x goal f c b at
        go b at (Some shape) e = refl
        go b at None e = sym (ap (λ d. d at) (filled_else f c k b (other b e (b == x) refl)) ∙ tidy b e at)

    turn_fills : (i : ℕ) (f : State → Option State) (n : ℤ) (hits : List ℤ → Bool) → Fills x goal cells (with_control i n scene) f hits → Fills x goal cells scene (turn i f n) hits
    turn_fills i f n hits h c k = ap (option_map (left (at_cells scene c))) (h c k) ∙ ap (λ d. Some (at_cells scene d)) (kept_filled hits c k)

    -- by the numbers from lo on
    range_fills : (i : ℕ) (f : State → Option State) (lo : ℕ) (m : ℕ) (hits : ℤ → List ℤ → Bool) → ((n : ℤ) (j : ℕ) → n ≡ pos j → j < lo + m → Fills x goal cells (with_control i n scene) f (hits n)) → Fills x goal cells scene (turns (turn i f) (range (pos lo) m)) (λ at. any_of (range (pos lo) m) (λ n. hits n at))
    range_fills i f lo zero hits h c k = ap (λ d. Some (at_cells scene d)) (sym (filled_none c))
    range_fills i f lo (suc m) hits h c k =
        ap (λ o. then_do o (turns (turn i f) (range (pos lo +ℤ pos 1) m))) (turn_fills i f (pos lo) (hits (pos lo)) (h (pos lo) lo refl (omega arith)) c k)
        ∙ ap (λ z. turns (turn i f) (range z m) (at_cells scene (filled x goal (hits (pos lo)) c))) next_is
        ∙ range_fills i f (suc lo) m hits (λ n j e b. h n j e (more j b)) (filled x goal (hits (pos lo)) c) (filled_else (hits (pos lo)) c k)
        ∙ ap (λ d. Some (at_cells scene d)) (filled_more (hits (pos lo)) (λ at. any_of (range (pos (suc lo)) m) (λ n. hits n at)) c)
        ∙ ap (λ z. Some (at_cells scene (filled x goal (λ at. hits (pos lo) at || any_of (range z m) (λ n. hits n at)) c))) (sym next_is)
      where
        more : (j : ℕ) → j < suc lo + m → j < lo + suc m
        more j b = omega arith

        next_is : pos lo +ℤ pos 1 ≡ pos (suc lo)
        next_is = omega (arith, ints)

  -- a nest fills what its statement fills at each turn
  pub nest_fills : (world : World) (ls : List Loop) (a : Statement) (hits : Scene → List ℤ → Bool) (scene : Scene) → IsSome (scene.buffers x) → ((b : ℕ) → scene.buffers b ≡ None → (at : List ℤ) → cells b at ≡ Undefined) → AtEach ls (λ z. Fills x goal cells z (step world a) (hits z)) scene → Fills x goal cells scene (run world (nest ls a)) (nest_hits ls hits scene)
  nest_fills world [] a hits scene there tidy h c k = then_some (step world a (at_cells scene c)) ∙ h c k
  nest_fills world (l ∷ ls) a hits scene there tidy h c k =
      then_some (turns (turn l.binder.id (run world (nest ls a))) (range (pos 0) (count (number scene l.extent -ℤ pos 0))) (at_cells scene c))
      ∙ ap (λ z. turns (turn l.binder.id (run world (nest ls a))) (range (pos 0) (count z)) (at_cells scene c)) same
      ∙ range_fills scene there tidy l.binder.id (run world (nest ls a)) zero (count (number scene l.extent)) (λ n. nest_hits ls hits (with_control l.binder.id n scene)) (λ n j e b. nest_fills world ls a hits (with_control l.binder.id n scene) there tidy (h n j e (less j b))) c k
    where
      less : (j : ℕ) → j < 0 + count (number scene l.extent) → j < count (number scene l.extent)
      less j b = omega arith

      same : number scene l.extent -ℤ pos 0 ≡ number scene l.extent
      same = omega (arith, ints)
