use Rattle.std.proofs.Common.{ap, ◌∙◌, map, ◌++◌, [], ◌∷◌, if◌then◌else◌}
use Rattle.std.proofs.lemmas.List.{map-append}
use Rattle.rules_names.specs.Names.{name_number}
use Rattle.rules_names.proofs.Tables.{no_name}
use Rattle.rules_names.proofs.table.NameTable.push.Goals as goal

pub returns-clause-pushed : goal.returns-clause-pushed
returns-clause-pushed c =
    let ks = c.self.inside.names.keys in
    let gone = no_name ks c.args.name.now (ap (λ s. name_number s c.args.name.now) c.self.view_is ∙ c.requires) in
    ap (map (λ k. k.now)) (c.in_ok-insert.ensures.keys ∙ ap (λ t. if t then ks else (ks ++ c.args.name ∷ [])) gone)
    ∙ map-append (λ k. k.now) ks (c.args.name ∷ []) ∙ ap (λ s. s ++ c.args.name.now ∷ []) c.self.view_is
