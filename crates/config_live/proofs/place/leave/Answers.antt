use Rattle.exo_tree.specs.PlainStatement.{statement}
use Rattle.config_live.proofs.Branches.{leaves_from}
use Rattle.config_live.proofs.Statements.{on_ok}
use Rattle.config_live.proofs.place.leave.Goals as goal

pub returns : goal.returns
returns c =
    on_ok c.go.result _ _
    (λ h. leaves_from c.args.table.now c.args.b.now c.args.index (statement c.statement.result.now)
    c.args.way.now c.next_turn.new.way c.go.new.way c.args.added.now c.go.new.added
    c.statement.ensures.value c.in_ok-next_turn.ensures h)
    c.go.ensures
