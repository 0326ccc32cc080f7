use Rattle.std.proofs.Common.{◌≡◌, List, IfOk, subst}
use Rattle.exo_tree.specs.Tree.{Statement, Control, Block, block}
use Rattle.exo_tree.specs.PlainControl.{control}
use Rattle.exo_tree.specs.Tree.{Lt, end}
use Rattle.place_laws.specs.Scope.BranchesAtPlaces.{only_branch}
use Rattle.loop_laws.specs.DivideLoop.{nest, turn_in_group, body_in_group}
use Rattle.step_targets.specs.PlainLoop.{plain_loop}
use Rattle.loop_rewrites.specs.PlainTail.{division}
use Rattle.loop_rewrites.proofs.dividing.Dividing.guarded_groups.Goals as goal

pub returns : goal.returns
returns c =
    let d = division c.args.self.now in
    let l = plain_loop c.args.l.now in
    let n = c.args.outer.0 in
    subst
    (λ (x : Control). IfOk c.nest.result (λ (b : List Statement). block b ≡ nest d l n x (only_branch (Lt (turn_in_group d l n) l.hi) (body_in_group d l n) end)))
    c.in_ok-groups.ensures
    (subst
    (λ (x : Block). IfOk c.nest.result (λ (b : List Statement). block b ≡ nest d l n (control c.in_ok-groups.groups) x))
    c.in_ok-body.ensures (c.nest.ensures l))
