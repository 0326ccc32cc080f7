-- A run of two blocks.
use Rattle.std.proofs.Common.{◌≡◌, Option, Some, None, refl, sym, ◌∙◌}
use Rattle.exo_meaning.specs.Scene.{then_do}
use Rattle.exo_tree.specs.Tree.{Block, end, next, joined}
use Rattle.exo_meaning.specs.State.{State}
use Rattle.exo_meaning.specs.Run.{World, run, step}
use Rattle.exo_meaning.specs.Laws.{RunsCompose}

pub then_assoc : {A B C : Type 0} (o : Option A) (f : A → Option B) (g : B → Option C) → then_do (then_do o f) g ≡ then_do o (λ a. then_do (f a) g)
then_assoc None f g = refl
then_assoc (Some a) f g = refl

pub then_cong : {A B : Type 0} (o : Option A) (f g : A → Option B) → ((a : A) → f a ≡ g a) → then_do o f ≡ then_do o g
then_cong None f g h = refl
then_cong (Some a) f g h = h a

pub compose : (world : World) (a b : Block) (s : State) → run world (joined a b) s ≡ then_do (run world a s) (run world b)
compose world end b s = refl
compose world (next x a) b s =
    then_cong (step world x s) (run world (joined a b)) (λ t. then_do (run world a t) (run world b)) (compose world a b) ∙ sym (then_assoc (step world x s) (run world a) (run world b))

pub runs_compose : RunsCompose
runs_compose = compose
