-- Runs without the names of binders.
use Rattle.std.proofs.Common.{◌≡◌, refl, sym, ap, ap₂, ◌∙◌}
use Rattle.std.proofs.Math.Path.{fun_ext}
use Rattle.exo_tree.specs.Tree.{Statement, Assign, Reduce, Config, Pass, If, For, Alloc, View, Call}
use Rattle.exo_tree.specs.Tree.{Block, end, next}
use Rattle.exo_meaning.specs.Scene.{then_do, holds, where_true}
use Rattle.exo_meaning.specs.State.{State, scoped}
use Rattle.exo_meaning.specs.Run.{World, run, step, choose, turn, turns, turns_of}
use Rattle.exo_meaning.specs.Inputs.{run_procedure, all_have_extents}
use Rattle.place_laws.specs.Scope.Bare.{bare, bare_statement, NamesIgnored, SameButForNames}
use Rattle.place_laws.specs.Scope.Bare.{NamesKeepRefinement}

module _ (world : World) where
  mutual
    bare_step : (a : Statement) → step world (bare_statement a) ≡ step world a
    bare_step (Assign x is e) = refl
    bare_step (Reduce x is e) = refl
    bare_step (Config f a) = refl
    bare_step Pass = refl
    bare_step (If c a b) =
        fun_ext (λ s. ap₂ (λ f g. scoped (choose (holds s.scene c) f g) s) (bare_run a)
        (bare_run b))
    bare_step (For i lo hi b) = fun_ext (λ s. ap (λ f. turns (turn i.id f) (turns_of s.scene lo hi)
        s) (bare_run b))
    bare_step (Alloc x cell dims memory) = refl
    bare_step (View w x coords) = refl
    bare_step (Call k args) = refl

    pub bare_run : (b : Block) → run world (bare b) ≡ run world b
    bare_run end = refl
    bare_run (next a b) = fun_ext (λ s. ap₂ (λ f g. then_do (f s) g) (bare_step a) (bare_run b))

pub names_ignored : NamesIgnored
names_ignored world b = bare_run world b

pub same_but_for_names : SameButForNames
same_but_for_names world a b same = sym (bare_run world a) ∙ ap (run world) same ∙ bare_run world b

pub names_keep_refinement : NamesKeepRefinement
names_keep_refinement world p q named but same refined = record {
  cells = λ s t u good i j. refined.cells s t u good i (alike s ∙ j);
  fields = λ s t u good i j. refined.fields s t u good i (alike s ∙ j);
}
  where
    alike : (s : State) → run_procedure world q s ≡ run_procedure world (record q { body = named })
        s
    alike s =
        ap (λ f. where_true (all_have_extents s.scene q.params) (f s))
        (sym (same_but_for_names world named q.body same))
