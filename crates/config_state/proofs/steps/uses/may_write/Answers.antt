use Rattle.std.proofs.Common.{length, false, ap, ◌∙◌}
use Rattle.std.specs.Prelude.{replicate}
use Rattle.exo_tree.specs.Tree.{block}
use Rattle.exo_tree.specs.PlainUnit.{program}
use Rattle.config_state.proofs.OfSteps.Sets.{written_set}
use Rattle.config_state.proofs.steps.uses.may_write.Goals as goal

pub returns : goal.returns
returns c =
    let unit = program c.args.unit.now in
    written_set (length unit.fields) c.args.writes.now unit (block c.args.b.now) c.in_ok-set.set c.add_written.new.set c.requires
    (c.in_ok-set.ensures ∙ ap (λ n. replicate n false) c.len.ensures) c.add_written.ensures
