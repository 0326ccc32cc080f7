use Rattle.std.proofs.Common.{◌+◌, drop, sym, ap, ◌∙◌}
use Rattle.std.proofs.lemmas.Option.{IfSome_then}
use Rattle.exo_tree.specs.Tree.{block}
use Rattle.exo_tree.specs.PlainBinder.{binding}
use Rattle.exo_tree.specs.PlainControl.{control, condition}
use Rattle.exo_tree.specs.PlainPlace.{branch_taken}
use Rattle.exo_tree.specs.PlainStatement.{statement}
use Rattle.schedule_run.specs.Changed.{same_binder}
use Rattle.schedule_run.proofs.Changing.{in_block, in_loops, in_first_branches, in_second_branches}
use Rattle.schedule_run.proofs.changed.+changed.Goals as goal

pub changed_in-returns : goal.changed_in-returns
changed_in-returns t c =
    IfSome_then c.changed_at.result c.changed_at.ensures
    (λ found s. in_block c.args.outer.now c.below-path.result found (branch_taken c.args.branch)
    c.same_first-index.result c.args.old.now c.args.new.now
    (drop (c.same_first-index.result + 1) c.args.old.now)
    (drop (c.same_first-index.result + 1) c.args.new.now) (statement c.statement.result.now)
    (statement c.statement-2.result.now) c.below-path.ensures c.same_first-index.ensures
    c.statement.ensures.value c.statement-2.ensures.value
    (c.same_from.ensures c.if-not-same_from.false) s)

pub changed_at-returns-then-same_control-2 : goal.changed_at-returns-then-same_control-2
changed_at-returns-then-same_control-2 t c =
    let w = c.in-For-For in
    IfSome_then c.changed_in.result c.changed_in.ensures
    (λ found h. in_loops c.args.path.now found (statement c.args.a.now) (statement c.args.b.now)
    (block w.b) (block w.c) (binding w.i) (binding w.j) (control w.lo) (control w.hi)
    (control w.low) (control w.high) (ap statement w.is-0) (ap statement w.is-1)
    (◌∙◌ {a = same_binder (binding w.i) (binding w.j)} (sym c.same_binder.ensures)
    c.if-same_binder.true)
    (sym c.same_control.ensures ∙ c.if-same_control.true)
    (sym c.same_control-then-same_control.ensures ∙ c.if-same_control-2.true) h)

pub changed_at-returns-then-same_from : goal.changed_at-returns-then-same_from
changed_at-returns-then-same_from t c =
    let w = c.in-If-If in
    IfSome_then c.changed_in-then-same_from.result c.changed_in-then-same_from.ensures
    (λ found h. in_first_branches c.args.path.now found (statement c.args.a.now)
    (statement c.args.b.now) (block w.a) (block w.p) (condition w.c) (condition w.d)
    (block w.b) (block w.q)
    (sym c.same_condition.ensures ∙ c.if-not-same_condition.false)
    (ap block (c.same_from.ensures c.if-same_from.true)) (ap statement w.is-0)
    (ap statement w.is-1) h)

pub changed_at-returns-then-same_from-2 : goal.changed_at-returns-then-same_from-2
changed_at-returns-then-same_from-2 t c =
    let w = c.in-If-If in
    IfSome_then c.changed_in-then-same_from-2.result c.changed_in-then-same_from-2.ensures
    (λ found h. in_second_branches c.args.path.now found (statement c.args.a.now)
    (statement c.args.b.now) (block w.b) (block w.q) (condition w.c) (condition w.d)
    (block w.a) (block w.p)
    (sym c.same_condition.ensures ∙ c.if-not-same_condition.false)
    (ap block (c.same_from-in-If-If.ensures c.if-same_from-2.true)) (ap statement w.is-0)
    (ap statement w.is-1) h)
