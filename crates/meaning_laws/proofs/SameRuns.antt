-- Blocks that do the same in any context.
use Rattle.std.proofs.Common.{◌≡◌, ℕ, ℤ, Bool, true, false, List, [], ◌∷◌, Option, Some, None, option_map, refl, sym, ap, ◌∙◌}
use Rattle.exo_tree.specs.Tree.{Block}
use Rattle.exo_meaning.specs.Scene.{then_do, holds, where_true}
use Rattle.exo_meaning.specs.State.{State, left, on_scene, with_control}
use Rattle.exo_meaning.specs.Run.{World, run, step, turn, turns, turns_of, choose}
use Rattle.std.proofs.Common.{subst}
use Rattle.exo_meaning.specs.Value.{IsRefinedBy}
use Rattle.meaning_laws.proofs.Parts.{some_injective}
use Rattle.meaning_laws.proofs.Refined.{refined_same}
use Rattle.exo_meaning.specs.Inputs.{IsAdmissible, run_procedure, all_have_extents}
use Rattle.exo_meaning.proofs.Compose.{compose}
use Rattle.exo_tree.specs.Context.{Context, Here, After, InLoop, InThen, InElse, fill}
use Rattle.meaning_laws.specs.Context.{ComesToTurn, now, later, ComesTo, SameRunsRefineLaw, SameRunsLaw}

then_same : {A B : Type 0} (o : Option A) (f g : A → Option B) → ((a : A) → o ≡ Some a → f a ≡ g a) → then_do o f ≡ then_do o g
then_same None f g h = refl
then_same (Some a) f g h = h a refl

module _ (world : World) (old new : Block) where
  abbrev Same : State → Type 0
  Same u = run world old u ≡ run world new u

  module _ (i : ℕ) (c : Context) where
    turns_same : ((s : State) → ((u : State) → ComesTo world old c s u → Same u) → run world (fill c old) s ≡ run world (fill c new) s) → (ns : List ℤ) (s : State) → ((n : ℤ) (v : State) → ComesToTurn (turn i (run world (fill c old))) ns s n v → (u : State) → ComesTo world old c (on_scene (with_control i n) v) u → Same u) → turns (turn i (run world (fill c old))) ns s ≡ turns (turn i (run world (fill c new))) ns s
    turns_same body [] s h = refl
    turns_same body (n ∷ ns) s h =
        then_same (turn i (run world (fill c old)) n s) (turns (turn i (run world (fill c old))) ns) (turns (turn i (run world (fill c new))) ns) (λ t e. turns_same body ns t (λ m v z. h m v (later e z)))
        ∙ ap (λ o. then_do (option_map (left s) o) (turns (turn i (run world (fill c new))) ns)) (body (on_scene (with_control i n) s) (h n s now))

  pub runs_same : (c : Context) (s : State) → ((u : State) → ComesTo world old c s u → Same u) → run world (fill c old) s ≡ run world (fill c new) s
  runs_same (Here rest) s h = compose world old rest s ∙ ap (λ o. then_do o (run world rest)) (h s refl) ∙ sym (compose world new rest s)
  runs_same (After x c) s h = then_same (step world x s) (run world (fill c old)) (run world (fill c new)) (λ t e. runs_same c t (λ u z. h u (t, e, z)))
  runs_same (InLoop i lo hi c rest) s h = ap (λ o. then_do o (run world rest)) (turns_same i.id c (runs_same c) (turns_of s.scene lo hi) s (λ n v z u w. h u (n, v, z, w)))
  runs_same (InThen test c other rest) s h = ap (λ o. then_do (option_map (left s) o) (run world rest)) (go (λ e. runs_same c s (λ u z. h u (e, z))) (holds s.scene test) refl)
    where
      go : (holds s.scene test ≡ true → run world (fill c old) s ≡ run world (fill c new) s) → (t : Bool) → holds s.scene test ≡ t → choose t (run world (fill c old)) (run world other) s ≡ choose t (run world (fill c new)) (run world other) s
      go k true e = k e
      go k false e = refl
  runs_same (InElse test other c rest) s h = ap (λ o. then_do (option_map (left s) o) (run world rest)) (go (λ e. runs_same c s (λ u z. h u (e, z))) (holds s.scene test) refl)
    where
      go : (holds s.scene test ≡ false → run world (fill c old) s ≡ run world (fill c new) s) → (t : Bool) → holds s.scene test ≡ t → choose t (run world other) (run world (fill c old)) s ≡ choose t (run world other) (run world (fill c new)) s
      go k true e = refl
      go k false e = k e

pub same_runs_law : SameRunsLaw
same_runs_law world c old new p was h s good =
    ap (λ b. where_true (all_have_extents s.scene p.params) (run world b s)) was
    ∙ ap (where_true (all_have_extents s.scene p.params)) (runs_same world old new c s (λ u z. h s u good z))

pub same_runs_refine : SameRunsRefineLaw
same_runs_refine world c old new p was h = record {
  cells = λ s t u good i j b there at. subst (λ z. IsRefinedBy (t.cells b at) (z.cells b at)) (one s t u good i j) (refined_same (t.cells b at));
  fields = λ s t u good i j f out. ap (λ (z : State). z.scene.fields f) (one s t u good i j);
}
  where
    one : (s t u : State) → IsAdmissible world p s → run_procedure world p s ≡ Some t → run_procedure world (record p { body = fill c new }) s ≡ Some u → t ≡ u
    one s t u good i j = some_injective t u (sym i ∙ same_runs_law world c old new p was h s good ∙ j)
