use Rattle.std.proofs.Common.{sym, ◌∙◌}
use Rattle.affine_systems.specs.Outcomes.{plain_obligation}
use Rattle.schedule_laws.specs.Owed.Stores.{stands_at}
use Rattle.schedule_run.proofs.Counted.{passed_none, passed_more, passed_until, passed_all}
use Rattle.schedule_run.proofs.splicing.count_before.Goals as goal

pub loop-k-init : goal.loop-k-init
loop-k-init c = passed_none plain_obligation (stands_at c.args.path.now) c.args.kept.now

pub returns-then-is_same_path : goal.returns-then-is_same_path
returns-then-is_same_path c =
    passed_until plain_obligation (stands_at c.args.path.now) c.args.kept.now c.loop-k.k
    c.index-kept-k.result c.index-kept-k.is c.loop-k-test.true
    (sym c.is_same_path.ensures ∙ c.if-is_same_path.true) c.loop-k.invariant

pub loop-k-preserved : goal.loop-k-preserved
loop-k-preserved c =
    passed_more plain_obligation (stands_at c.args.path.now) c.args.kept.now c.loop-k.k
    c.index-kept-k.result c.index-kept-k.is c.loop-k-test.true
    (sym c.is_same_path.ensures ∙ c.if-is_same_path.false) c.loop-k.invariant

pub returns : goal.returns
returns c =
    passed_all plain_obligation (stands_at c.args.path.now) c.args.kept.now c.loop-k.k
    c.loop-k.auto.k-end c.loop-k-test.false c.loop-k.invariant
