use Rattle.std.proofs.Common.{ap, ◌∙◌}
use Rattle.exo_effects.proofs.Names.{parts_by, parts_pushed}
use Rattle.exo_effects.proofs.parts.Parts.set.Goals as goal

pub returns-clause-set : goal.returns-clause-set
returns-clause-set c = ap parts_by c.in_ok-push.ensures.items ∙ parts_pushed c.args.self.now.names.items _
