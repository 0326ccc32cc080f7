use Rattle.std.proofs.Common.{◌≡◌, ℕ, List, IfOk, ap, ◌∙◌, subst}
use Rattle.exo_tree.specs.Tree.{Statement, Control, Lit, Var, Add, Mul, Block, block}
use Rattle.exo_tree.specs.Substitution.{in_block}
use Rattle.exo_tree.specs.PlainControl.{control}
use Rattle.loop_laws.specs.DivideLoop.{nest, body_in_group}
use Rattle.step_targets.specs.PlainLoop.{plain_loop}
use Rattle.loop_rewrites.specs.PlainTail.{division}
use Rattle.loop_rewrites.proofs.dividing.Dividing.whole_groups.Goals as goal

pub returns : goal.returns
returns c =
    let d = division c.args.self.now in
    let l = plain_loop c.args.l.now in
    let n = c.args.outer.0 in
    let body : block c.in_ok-body.body ≡ body_in_group d l n =
    c.in_ok-body.ensures
    ∙ ap (λ (k : ℕ). in_block l.binder.id (Add (Mul (Lit c.args.self.now.by) (Var n)) (Var k)) l.body) c.requires in
    subst
    (λ (x : Control). IfOk c.nest.result (λ (b : List Statement). block b ≡ nest d l n x (body_in_group d l n)))
    c.in_ok-groups.ensures
    (subst
    (λ (x : Block). IfOk c.nest.result (λ (b : List Statement). block b ≡ nest d l n (control c.in_ok-groups.groups) x))
    body (c.nest.ensures l))
