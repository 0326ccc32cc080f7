use Rattle.std.proofs.Common.{ap, ◌∙◌, map, ◌++◌, [], ◌∷◌, ◌&&◌}
use Rattle.std.proofs.lemmas.List.{map-append}
use Rattle.std.specs.Str.{bytes_eq}
use Rattle.indexmap.proofs.CallerLemmas.{insert_entry-new}
use Rattle.rules_names.specs.Names.{field_from}
use Rattle.rules_names.specs.Tables.{field_entry}
use Rattle.rules_names.proofs.Tables.{FieldEntry, no_field}
use Rattle.rules_names.proofs.table.FieldTable.push.Goals as goal

pub returns-clause-pushed : goal.returns-clause-pushed
returns-clause-pushed c =
    let es = c.self.inside.table.entries in
    let e : FieldEntry = ((c.args.config, c.args.name), c.args.kind) in
    let gone = no_field es c.args.config.now c.args.name.now (ap (λ s. field_from 0 s c.args.config.now c.args.name.now) c.self.view_is ∙ c.requires.new) in
    ap (map field_entry) (c.in_ok-insert.ensures.entries ∙ insert_entry-new (λ x y. bytes_eq x.0.now y.0.now && bytes_eq x.1.now y.1.now) c.self.inside.table e.0 e.1 gone)
    ∙ map-append field_entry es (e ∷ []) ∙ ap (λ s. s ++ field_entry e ∷ []) c.self.view_is
