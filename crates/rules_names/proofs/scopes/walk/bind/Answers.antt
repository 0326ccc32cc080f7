use Rattle.std.proofs.Common.{ap, ◌∙◌}
use Rattle.exo_tree.specs.PlainBinder.{binding}
use Rattle.rules_names.specs.Names.{named_in}
use Rattle.rules_names.proofs.OfScopes.Fresh.{nothing_named}
use Rattle.rules_names.proofs.scopes.walk.bind.Goals as goal

pub push-requires : goal.push-requires
push-requires c = ap (named_in c.args.scope.now) c.as_str.ensures ∙ nothing_named c.args.scope.now (binding c.args.x.now) c.requires
