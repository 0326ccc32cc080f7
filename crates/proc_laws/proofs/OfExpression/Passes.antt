-- The rule that deletes passes is lawful.
use Rattle.std.proofs.Common.{◌≡◌, [], refl, sym, ap, ap₂, ◌∙◌, subst}
use Rattle.std.proofs.Math.Path.{fun_ext}
use Rattle.exo_tree.specs.Tree.{Statement, Assign, Reduce, Config, Pass, If, For, Alloc, View, Call}
use Rattle.exo_tree.specs.Tree.{Block, end, next}
use Rattle.exo_tree.specs.Context.{Context}
use Rattle.exo_tree.specs.Places.{Main}
use Rattle.tree_edits.specs.Made.Passes.{or_pass, or_one_pass}
use Rattle.cursor_forward.specs.Forwards.{Carries}
use Rattle.step_rules.proofs.Shapes.{or_pass_next}
use Rattle.exo_meaning.specs.Scene.{then_do, holds}
use Rattle.exo_meaning.specs.State.{scoped}
use Rattle.exo_meaning.specs.Run.{World, run, step, choose, turn, turns, turns_of}
use Rattle.step_rules.specs.Rule.{Got}
use Rattle.step_rules.specs.Lawful.{old, world_of, same, IsLawful, IsCarrying, around}
use Rattle.proc_laws.specs.Expression.Passes.{without, before, cleared, shifted_block}
use Rattle.proc_laws.specs.Expression.Passes.{delete_pass_rule}
use Rattle.proc_laws.proofs.OfExpression.Carried.{deleted_carries}
use Rattle.proc_laws.proofs.OfExpression.Apart.{deleted_apart}

module _ (world : World) where
  one_pass_run : (b : Block) → run world (or_one_pass b) ≡ run world b
  one_pass_run end = fun_ext (λ s. refl)
  one_pass_run (next a b) = refl

  mutual
    without_run : (b : Block) → run world (without b) ≡ run world b
    without_run end = refl
    without_run (next a b) =
        before_run a (without b) ∙ fun_ext (λ s. ap (then_do (step world a s)) (without_run b))

    before_run : (a : Statement) (rest : Block)
        → run world (before a rest) ≡ run world (next a rest)
    before_run (Assign x is e) rest = refl
    before_run (Reduce x is e) rest = refl
    before_run (Config f a) rest = refl
    before_run Pass rest = fun_ext (λ s. refl)
    before_run (If c a b) rest =
        fun_ext (λ s. ap₂ (λ f g. then_do (scoped (choose (holds s.scene c) f g) s)
        (run world rest)) (cleared_run a) (cleared_run b))
    before_run (For i lo hi b) rest =
        fun_ext (λ s. ap (λ f. then_do (turns (turn i.id f) (turns_of s.scene lo hi) s)
        (run world rest)) (cleared_run b))
    before_run (Alloc x cell dims memory) rest = refl
    before_run (View w x coords) rest = refl
    before_run (Call k args) rest = refl

    pub cleared_run : (b : Block) → run world (cleared b) ≡ run world b
    cleared_run end = refl
    cleared_run (next a b) =
        one_pass_run (before a (without b)) ∙ before_run a (without b)
        ∙ fun_ext (λ s. ap (then_do (step world a s)) (without_run b))

same_block : {b d : Block} → Got b ≡ Got d → b ≡ d
same_block h = cc

pub delete_pass_is_lawful : IsLawful delete_pass_rule
delete_pass_is_lawful = record {
  replaces = λ a is versions met. same (λ first u good come stands.
      sym (ap (λ f. f u) (cleared_run (world_of a.spot) (old a.spot)))
      ∙ ap (λ b. run (world_of a.spot) b u) (same_block is.drafted));
}

pub delete_pass_is_carrying : IsCarrying delete_pass_rule
delete_pass_is_carrying = record {
  carries = λ a is. carried (around a.spot) (old a.spot) a.draft (same_block is.drafted);
  apart = λ a is. deleted_apart (old a.spot);
}
  where
    kept : (c : Context) (b : Block) → or_pass c (or_one_pass b) ≡ or_one_pass b
    kept c end = or_pass_next c Pass end
    kept c (next a b) = or_pass_next c a b

    carried : (c : Context) (b d : Block) → cleared b ≡ d
        → Carries (shifted_block [] [] Main b) b (or_pass c d)
    carried c end d e = tt
    carried c (next a b) d e =
        subst (λ x. Carries (shifted_block [] [] Main (next a b)) (next a b) (or_pass c x)) e
        (subst (Carries (shifted_block [] [] Main (next a b)) (next a b))
        (sym (kept c (before a (without b)))) (deleted_carries (next a b)))
