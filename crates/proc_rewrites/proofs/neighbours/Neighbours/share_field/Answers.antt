use Rattle.std.proofs.Common.{◌∙◌}
use Rattle.exo_tree.specs.PlainStatement.{statement}
use Rattle.exo_tree.specs.PlainUnit.{program}
use Rattle.proc_rewrites.proofs.Neighbouring.{first_holds, second_counts, one_shared}
use Rattle.proc_rewrites.proofs.neighbours.Neighbours.share_field.Goals as goal

pub returns-then-by_first : goal.returns-then-by_first
returns-then-by_first c =
    let s = c.in_ok-by_first.by_first in
    let t = c.in_ok-by_second.by_second in
    first_holds s t c.if-by_first.true
    ∙ one_shared (program c.args.unit.now) (statement c.args.self.now.first.now) (statement c.args.self.now.second.now)
    s t c.in_ok-by_first.ensures c.in_ok-by_second.ensures

pub returns-else-by_first : goal.returns-else-by_first
returns-else-by_first c =
    let s = c.in_ok-by_first.by_first in
    let t = c.in_ok-by_second.by_second in
    second_counts s t c.if-by_first.false
    ∙ one_shared (program c.args.unit.now) (statement c.args.self.now.first.now) (statement c.args.self.now.second.now)
    s t c.in_ok-by_first.ensures c.in_ok-by_second.ensures
