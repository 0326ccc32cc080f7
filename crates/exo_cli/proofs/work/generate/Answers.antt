use Rattle.std.proofs.Common.{codes}
use Rattle.compile_stages.specs.Stages.{Generates}
use Rattle.exo_cli.specs.Answer.{answer_of}
use Rattle.exo_cli.specs.Replies.{plain}
use Rattle.exo_cli.proofs.Endings.{generated-answers, answered}
use Rattle.compile_stages.proofs.Running.{if-ok}
use Rattle.exo_cli.proofs.work.generate.Goals as goal

pub returns : goal.returns
returns g c =
    if-ok c.replied.result _ _ (λ reply is.
    generated-answers c.args.n (plain reply)
    (answered _ (Generates c.args.n) (answer_of (codes "gen-procs") (codes "gen-schedule")) (plain reply)
    c.generated.ensures is))
    c.replied.ensures
