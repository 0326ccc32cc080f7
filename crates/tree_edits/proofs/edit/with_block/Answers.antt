use Rattle.std.proofs.Common.{◌≡◌, ap, subst, ◌∙◌}
use Rattle.std.specs.Prelude.{IfOk}
use Rattle.exo_tree.specs.Tree as tree
use Rattle.exo_tree.specs.Tree.{block}
use Rattle.exo_tree.specs.PlainControl.{condition}
use Rattle.exo_tree.specs.PlainPlace.{branch_taken}
use Rattle.exo_tree.specs.PlainStatement.{statement}
use Rattle.exo_tree.specs.declared.block.Stmt.{Stmt}
use Rattle.tree_edits.proofs.Joined.{if_main, if_else, for_main, cost_main, cost_else, cost_for}
use Rattle.tree_edits.proofs.edit.with_block.Goals as goal

pub returns-in_ok-same-in-If-Main-clause-with : goal.returns-in_ok-same-in-If-Main-clause-with
returns-in_ok-same-in-If-Main-clause-with g c =
    subst (λ (x : tree.Statement). IfOk c.branch_of.result (λ (a : Stmt). statement a ≡ x))
    (ap (λ e. tree.If (condition c.in-If-Main.c) (block c.args.changed) (block e)) c.in_ok-same-in-If-Main.ensures.same
    ∙ if_main _ _ _ (block c.args.changed) (statement c.args.s.now) (branch_taken c.args.which)
    (ap statement c.in-If-Main.is-0) (ap branch_taken c.in-If-Main.is-1)) c.branch_of.ensures

pub returns-in_ok-same-in-If-Main-clause-cost : goal.returns-in_ok-same-in-If-Main-clause-cost
returns-in_ok-same-in-If-Main-clause-cost g c =
    cost_main _ _ c.in-If-Main.else_part (statement c.args.s.now) (branch_taken c.args.which) c.same.new.made
    c.args.made.now
    (ap statement c.in-If-Main.is-0) (ap branch_taken c.in-If-Main.is-1) c.in_ok-same-in-If-Main.ensures.cost

pub returns-in_ok-same-in-If-Else-clause-with : goal.returns-in_ok-same-in-If-Else-clause-with
returns-in_ok-same-in-If-Else-clause-with g c =
    subst (λ (x : tree.Statement). IfOk c.branch_of-in-If-Else.result (λ (a : Stmt). statement a ≡ x))
    (ap (λ e. tree.If (condition c.in-If-Else.c) (block e) (block c.args.changed)) c.in_ok-same-in-If-Else.ensures.same
    ∙ if_else _ _ _ (block c.args.changed) (statement c.args.s.now) (branch_taken c.args.which)
    (ap statement c.in-If-Else.is-0) (ap branch_taken c.in-If-Else.is-1)) c.branch_of-in-If-Else.ensures

pub returns-in_ok-same-in-If-Else-clause-cost : goal.returns-in_ok-same-in-If-Else-clause-cost
returns-in_ok-same-in-If-Else-clause-cost g c =
    cost_else _ _ c.in-If-Else.then_part (statement c.args.s.now) (branch_taken c.args.which) c.same-in-If-Else.new.made
    c.args.made.now (ap statement c.in-If-Else.is-0) (ap branch_taken c.in-If-Else.is-1)
    c.in_ok-same-in-If-Else.ensures.cost

pub returns-in-For-Main-clause-with : goal.returns-in-For-Main-clause-with
returns-in-For-Main-clause-with g c =
    subst (λ (x : tree.Statement). IfOk c.loop_with.result (λ (a : Stmt). statement a ≡ x))
    (for_main _ _ _ _ (block c.args.changed) (statement c.args.s.now) (branch_taken c.args.which)
    (ap statement c.in-For-Main.is-0) (ap branch_taken c.in-For-Main.is-1)) c.loop_with.ensures

pub returns-in-For-Main-clause-cost : goal.returns-in-For-Main-clause-cost
returns-in-For-Main-clause-cost g c =
    cost_for _ _ _ _ (statement c.args.s.now) (branch_taken c.args.which) c.args.made.now
    (ap statement c.in-For-Main.is-0) (ap branch_taken c.in-For-Main.is-1)

pub returns-in_err-same-in-If-Main-clause-cost : goal.returns-in_err-same-in-If-Main-clause-cost
returns-in_err-same-in-If-Main-clause-cost g c =
    cost_main _ _ c.in-If-Main.else_part (statement c.args.s.now) (branch_taken c.args.which) c.same.new.made
    c.args.made.now
    (ap statement c.in-If-Main.is-0) (ap branch_taken c.in-If-Main.is-1) c.same.ensures.cost

pub returns-in_err-same-in-If-Else-clause-cost : goal.returns-in_err-same-in-If-Else-clause-cost
returns-in_err-same-in-If-Else-clause-cost g c =
    cost_else _ _ c.in-If-Else.then_part (statement c.args.s.now) (branch_taken c.args.which) c.same-in-If-Else.new.made
    c.args.made.now (ap statement c.in-If-Else.is-0) (ap branch_taken c.in-If-Else.is-1) c.same-in-If-Else.ensures.cost
