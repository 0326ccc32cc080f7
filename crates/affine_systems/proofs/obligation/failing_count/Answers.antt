use Rattle.std.proofs.Common.{◌∙◌}
use Rattle.affine_forms.specs.PlainFormulas.{plain_formula}
use Rattle.affine_systems.proofs.Counts.{count_next}
use Rattle.affine_systems.proofs.obligation.failing_count.Goals as goal

pub returns : goal.returns
returns c = c.min.ensures ∙ count_next c.args.ctx.now (plain_formula c.args.denied.now) c.count_together.result c.case_count.result c.count_together.ensures c.case_count.ensures
