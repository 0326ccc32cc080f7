use Rattle.std.proofs.Common.{◌≡◌, pos, List, IfOk, subst}
use Rattle.exo_tree.specs.Tree.{Statement, Control, Lit, Mod, Gt, Block, end, block}
use Rattle.place_laws.specs.Scope.BranchesAtPlaces.{only_branch}
use Rattle.step_targets.specs.PlainLoop.{plain_loop}
use Rattle.loop_rewrites.proofs.dividing.Dividing.guarded_tail.Goals as goal

pub returns : goal.returns
returns c base =
    subst
    (λ (x : Block). IfOk c.branch-alloc.result
    (λ (b : List Statement). block b ≡ only_branch (Gt (Mod (plain_loop c.args.l.now).hi c.args.self.now.by) (Lit (pos 0))) x end))
    (c.in_ok-turns.ensures base)
    (subst
    (λ (y : Control). IfOk c.branch-alloc.result
    (λ (b : List Statement). block b ≡ only_branch (Gt y (Lit (pos 0))) (block c.in_ok-turns.turns) end))
    c.in_ok-count.ensures c.branch-alloc.ensures)
