use Rattle.std.proofs.Common.{arith}
use Rattle.check_claims.proofs.Placing.{past}
use Rattle.check_claims.proofs.parts.Window.is_past.Goals as goal

pub returns : goal.returns
returns c more os is =
    past c.args.self.now (omega (arith, c.if-self-gt0.false)) (omega (arith, c.if-self-gt0-2.false)) more os is
