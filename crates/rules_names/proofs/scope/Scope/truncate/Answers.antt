use Rattle.std.proofs.Common.{ap, ◌∙◌, ◌-◌, drop, length}
use Rattle.rules_names.proofs.InScope.{seen, seen_take}
use Rattle.rules_names.proofs.scope.Scope.truncate.Goals as goal

pub returns : goal.returns
returns c =
    ap seen c.truncate.ensures.entries ∙ seen_take c.self.inside.table.entries c.args.len ∙ ap (λ s. drop (length s - c.args.len) s) c.self.view_is
