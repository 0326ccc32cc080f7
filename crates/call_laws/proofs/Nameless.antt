-- Names of binders are of no account for what is read.
use Rattle.std.proofs.Common.{◌≡◌, Option, Some, None, refl, sym, ap, ◌∙◌, subst}
use Rattle.exo_tree.specs.Tree.{Control, Statement, Assign, Reduce, Config, Pass, If, For, Alloc}
use Rattle.exo_tree.specs.Tree.{View, Call, Block, end, next}
use Rattle.exo_meaning.specs.Scene.{Scene, then_do}
use Rattle.exo_meaning.specs.State.{State, on_scene, with_control}
use Rattle.exo_meaning.specs.Run.{World, run, step, turn, turns_of}
use Rattle.meaning_laws.specs.Context.{ComesToTurn}
use Rattle.match_laws.specs.Simplify.SameControls.{OfStatement}
use Rattle.match_laws.specs.Simplify.SimplifiedBlocks.{IsRead}
use Rattle.match_laws.specs.Alike.{nameless, nameless_statement}
use Rattle.match_laws.proofs.Alike.{run_nameless}
use Rattle.match_laws.proofs.OfSimplify.Along.{AtEach, Along, Inside, along_of, each_of}
use Rattle.call_laws.specs.Nameless.{OfEachNameless}

pub of_nameless : (Q : Control → Type 0) (a : Statement) → OfStatement Q a
    → OfStatement Q (nameless_statement a)
of_nameless Q (Assign x is e) h = h
of_nameless Q (Reduce x is e) h = h
of_nameless Q (Config g a) h = h
of_nameless Q Pass h = h
of_nameless Q (If c a b) h = h
of_nameless Q (For i lo hi b) h = h
of_nameless Q (Alloc x cell dims memory) h = h
of_nameless Q (View w x cs) h = h
of_nameless Q (Call k args) h = h

-- Q: what is so of a statement under other names of its binders too
module _ (world : World) (Q : Scene → Statement → Type 0)
    (keeps : (scene : Scene) (a : Statement) → Q scene a → Q scene (nameless_statement a)) where
  -- ---- under other names of binders

  whole_step : (o : Option State) → then_do o (run world end) ≡ o
  whole_step None = refl
  whole_step (Some s) = refl

  same_step : (a : Statement) (s : State)
      → step world (nameless_statement a) s ≡ step world a s
  same_step a s =
      sym (whole_step (step world (nameless_statement a) s))
      ∙ ap (λ f. f s) (run_nameless world (next a end))
      ∙ whole_step (step world a s)

  mutual
    nameless_along : (b : Block) (s : State) → Along world Q b s → Along world Q (nameless b) s
    nameless_along end s h = tt
    nameless_along (next a b) s h = (
      keeps s.scene a h.0,
      nameless_inside a s h.1,
      λ u e. nameless_along b u (h.2 u (sym (same_step a s) ∙ e)),
    )

    nameless_inside : (a : Statement) (s : State) → Inside world Q a s
        → Inside world Q (nameless_statement a) s
    nameless_inside (Assign x is e) s h = tt
    nameless_inside (Reduce x is e) s h = tt
    nameless_inside (Config g a) s h = tt
    nameless_inside Pass s h = tt
    nameless_inside (If t x y) s h =
        (λ k. nameless_along x s (h.0 k), λ k. nameless_along y s (h.1 k))
    nameless_inside (For i lo hi x) s h = λ n u go.
        nameless_along x (on_scene (with_control i.id n) u)
        (h n u (subst (λ f. ComesToTurn (turn i.id f) (turns_of s.scene lo hi) s n u)
        (run_nameless world x) go))
    nameless_inside (Alloc x cell dims memory) s h = tt
    nameless_inside (View w x cs) s h = tt
    nameless_inside (Call k args) s h = tt

  -- of each statement, wherever the run comes
  pub each_nameless : (b : Block) (s : State) → AtEach world Q b s → AtEach world Q (nameless b) s
  each_nameless b s of =
      each_of world Q (nameless b) s (nameless_along b s (along_of world Q b s of))

pub of_each_nameless : OfEachNameless
of_each_nameless world at b s of =
    each_nameless world (λ scene a. OfStatement (IsRead at scene) a)
    (λ scene a h. of_nameless (IsRead at scene) a h) b s of
