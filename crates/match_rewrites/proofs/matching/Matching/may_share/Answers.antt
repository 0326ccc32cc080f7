use Rattle.std.proofs.Common.{ap, ◌∙◌}
use Rattle.exo_tree.specs.Places.{opened}
use Rattle.exo_tree.specs.PlainProcedure.{procedure}
use Rattle.exo_modes.specs.Aliases.{roots_in}
use Rattle.exo_modes.specs.Seen.{table_says}
use Rattle.step_driver.specs.PlainTarget.{target}
use Rattle.match_rewrites.proofs.Shared.{shares_same}
use Rattle.match_rewrites.proofs.matching.Matching.may_share.Goals as goal

pub returns : goal.returns
returns c =
    let m = c.args.self.now in
    let t = target m.on.now in
    c.gives_apart.ensures
    ∙ shares_same t (opened m.piece.now.count m.piece.now.path t.proc.body) m.number.0
    (procedure m.callee.now) c.args.args.now (table_says m.on.now.modes.now)
    (roots_in c.deref.result.now) c.requires.modes
    (ap roots_in c.deref.ensures.value ∙ c.in_ok-aliases.ensures)
