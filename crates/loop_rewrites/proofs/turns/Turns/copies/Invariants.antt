-- What is made, and the copies of the turns that are left, are the copies of all.
use Rattle.match_laws.specs.Simplify.Simplified.{literal}
use Rattle.step_targets.specs.PlainLoop.{plain_loop}
use Rattle.loop_rewrites.proofs.Written.{AreWritten}
use Rattle.loop_rewrites.proofs.turns.Turns.copies.Given as goal

abbrev pub invariant-loop-k : goal.invariant-loop-k
invariant-loop-k l =
    AreWritten literal (plain_loop l.self.looping) l.self.first l.self.count l.fn.fresh l.k l.made l.fresh
