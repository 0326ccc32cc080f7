use Rattle.std.proofs.Common.{ap, ◌∙◌}
use Rattle.c_lowering.specs.Scope.{forms_in}
use Rattle.c_lowering.proofs.Scopes.{forms_more}
use Rattle.c_lowering.proofs.scope.enter.Goals as goal

pub returns-clause-forms : goal.returns-clause-forms
returns-clause-forms c = ap forms_in c.in_ok-push.ensures.items ∙ forms_more c.args.scope.now.items (record { id = c.args.id; form = c.args.form })
