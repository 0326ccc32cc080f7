-- Blocks whose statements do the same wherever a run comes to them.
use Rattle.std.proofs.Common.{◌≡◌, ℕ, ℤ, ◌-ℤ◌, Bool, true, false, List, [], ◌∷◌, Option, Some, None, option_map, refl, ap, ap₂, ◌∙◌}
use Rattle.exo_tree.specs.Tree.{Statement, Block}
use Rattle.exo_meaning.specs.Scene.{then_do, holds}
use Rattle.exo_meaning.specs.State.{State, on_scene, with_control, left}
use Rattle.exo_meaning.specs.Run.{World, run, step, turn, turns, turns_of, range, count, choose}
use Rattle.meaning_laws.specs.Context.{ComesToTurn, now, later}
use Rattle.inplace_laws.specs.Along.{SameAlong, both_end, both_next, SameThere, at_once, in_branches, in_turns, AlongLaw}

then_same : {A B : Type 0} (o : Option A) (f g : A → Option B) → ((a : A) → o ≡ Some a → f a ≡ g a) → then_do o f ≡ then_do o g
then_same None f g h = refl
then_same (Some a) f g h = h a refl

turns_same : (i : ℕ) (f g : State → Option State) (ns : List ℤ) (s : State) → ((n : ℤ) (u : State) → ComesToTurn (turn i f) ns s n u → f (on_scene (with_control i n) u) ≡ g (on_scene (with_control i n) u)) → turns (turn i f) ns s ≡ turns (turn i g) ns s
turns_same i f g [] s h = refl
turns_same i f g (n ∷ ns) s h =
    then_same (turn i f n s) (turns (turn i f) ns) (turns (turn i g) ns) (λ t e. turns_same i f g ns t (λ m u c. h m u (later e c)))
    ∙ ap (λ o. then_do o (turns (turn i g) ns)) (ap (option_map (left s)) (h n s now))

choose_same : (t : Bool) (f g f' g' : State → Option State) (s : State) → (t ≡ true → f s ≡ f' s) → (t ≡ false → g s ≡ g' s) → choose t f g s ≡ choose t f' g' s
choose_same true f g f' g' s h k = h refl
choose_same false f g f' g' s h k = k refl

module _ (world : World) where
  mutual
    run_same : (b d : Block) (s : State) → SameAlong world b d s → run world b s ≡ run world d s
    run_same b d s both_end = refl
    run_same x y s (both_next {a} {c} {b} {d} h k) = then_same (step world a s) (run world b) (run world d) (λ t e. run_same b d t (k t e)) ∙ ap (λ o. then_do o (run world d)) (step_same a c s h)

    step_same : (a c : Statement) (s : State) → SameThere world a c s → step world a s ≡ step world c s
    step_same a c s (at_once h) = h
    step_same x y s (in_branches {t} {r} {a} {b} {c} {d} e h k) =
        ap (option_map (left s)) (choose_same (holds s.scene t) (run world a) (run world b) (run world c) (run world d) s (λ i. run_same a c s (h i)) (λ i. run_same b d s (k i)) ∙ ap (λ q. choose q (run world c) (run world d) s) e)
    step_same x y s (in_turns {i} {lo} {hi} {l} {h} {b} {d} e f k) =
        turns_same i.id (run world b) (run world d) (turns_of s.scene lo hi) s (λ n u z. run_same b d (on_scene (with_control i.id n) u) (k n u z))
        ∙ ap₂ (λ m n. turns (turn i.id (run world d)) (range m (count (n -ℤ m))) s) e f

pub along_law : AlongLaw
along_law world b d s h = run_same world b d s h
