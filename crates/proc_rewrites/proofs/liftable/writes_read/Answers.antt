use Rattle.std.proofs.Common.{length}
use Rattle.exo_tree.specs.Tree.{block}
use Rattle.exo_tree.specs.PlainControl.{condition}
use Rattle.exo_tree.specs.PlainUnit.{program}
use Rattle.meaning_laws.specs.Live.{read_by_condition}
use Rattle.config_state.specs.Steps.Fields.{written_in}
use Rattle.proc_rewrites.proofs.liftable.writes_read.Goals as goal

pub returns : goal.returns
returns c =
    let u = program c.args.unit.now in
    c.have_common.ensures (length u.fields) (λ f. read_by_condition f (condition c.args.c.now))
    (written_in u (block c.args.b.now)) c.in_ok-read.ensures c.in_ok-written.ensures
