use Rattle.exo_tree.specs.PlainUnit.{program}
use Rattle.schedule_run.proofs.session.Session.matched.Goals as goal

pub find-requires : goal.find-requires
find-requires c =
    c.units_are_searchable.ensures (program c.args.self.now.unit) c.args.j.0 c.requires
