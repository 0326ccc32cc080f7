use Rattle.step_driver.specs.PlainTarget.{target}
use Rattle.step_driver.proofs.Means.{answers_kept, answers_mean, answers_move}
use Rattle.step_driver.proofs.driver.propose.Goals as goal

pub returns-clause-kept : goal.returns-clause-kept
returns-clause-kept g c =
    answers_kept (g.O.Operator.rule c.args.op.now) (target c.args.on.now) c.args.at.now c.answered.result
    c.proposals_are_kept.ensures c.requires.target c.answered.ensures

pub returns-clause-meaning : goal.returns-clause-meaning
returns-clause-meaning g c =
    answers_mean (g.O.Operator.rule c.args.op.now) (target c.args.on.now) c.args.at.now c.answered.result
    c.lawful_rules_keep_meaning.ensures (g.met.O.Operator.lawful c.args.op.now) c.requires.target c.answered.ensures

pub returns-clause-moves : goal.returns-clause-moves
returns-clause-moves g c =
    answers_move (g.O.Operator.rule c.args.op.now) (target c.args.on.now) c.args.at.now c.answered.result
    c.carrying_rules_forward.ensures (g.met.O.Operator.carrying c.args.op.now) c.requires.target c.answered.ensures
