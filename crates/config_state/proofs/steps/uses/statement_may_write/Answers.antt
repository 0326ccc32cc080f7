use Rattle.std.proofs.Common.{length, false, ap, ◌∙◌}
use Rattle.std.specs.Prelude.{replicate}
use Rattle.exo_tree.specs.PlainStatement.{statement}
use Rattle.exo_tree.specs.PlainUnit.{program}
use Rattle.config_state.proofs.OfSteps.Sets.{written_alone}
use Rattle.config_state.proofs.steps.uses.statement_may_write.Goals as goal

pub returns : goal.returns
returns c =
    let unit = program c.args.unit.now in
    written_alone (length unit.fields) c.args.writes.now unit (statement c.args.s.now) c.in_ok-set.set
    c.add_written_by.new.set c.requires
    (c.in_ok-set.ensures ∙ ap (λ n. replicate n false) c.len.ensures) c.add_written_by.ensures
