use Rattle.std.proofs.Common.{sym, ap, ◌∙◌, option_map}
use Rattle.rules_names.specs.Names.{named_in}
use Rattle.rules_names.specs.Tables.{named}
use Rattle.rules_names.proofs.InScope.{found_in}
use Rattle.rules_names.proofs.scope.Scope.get.Goals as goal

pub returns : goal.returns
returns c =
    let kept = found_in c.self.inside.table.entries c.args.name.now c.self.invariant in
    ap (option_map (named c.args.name.now)) (c.copied.ensures ∙ c.get.ensures.value) ∙ sym kept ∙ ap (λ s. named_in s c.args.name.now) c.self.view_is
