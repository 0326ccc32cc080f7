use Rattle.std.proofs.Common.{◌∷◌, []}
use Rattle.exo_tree.specs.PlainProcedure.{procedure}
use Rattle.schedule_run.proofs.running.Running.push.Goals as goal

pub extend-requires : goal.extend-requires
extend-requires c = (
  c.args.self.now.session.unit.procs,
  procedure c.args.proc ∷ [],
  c.in_ok-push.ensures.pushed,
  c.requires.running.modes,
)
