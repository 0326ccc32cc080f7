use Rattle.std.proofs.Common.{ap, ◌∙◌, ◌∷◌}
use Rattle.indexmap.proofs.CallerLemmas.{insert_entry-new}
use Rattle.std.specs.Str.{bytes_eq}
use Rattle.rules_names.specs.Names.{named_in}
use Rattle.rules_names.specs.Tables.{named}
use Rattle.rules_names.proofs.InScope.{absent, seen, seen_push}
use Rattle.rules_names.proofs.scope.Scope.push.Goals as goal

pub returns-clause-pushed : goal.returns-clause-pushed
returns-clause-pushed c =
    let gone = absent c.self.inside.table.entries c.args.name.now c.self.invariant (ap (λ s. named_in s c.args.name.now) c.self.view_is ∙ c.requires) in
    ap seen (c.in_ok-insert.ensures.entries ∙ insert_entry-new (λ x y. bytes_eq x.now y.now) c.self.inside.table c.args.name c.args.meant gone)
    ∙ seen_push c.self.inside.table.entries (c.args.name, c.args.meant) ∙ ap (λ s. named c.args.name.now c.args.meant ∷ s) c.self.view_is
