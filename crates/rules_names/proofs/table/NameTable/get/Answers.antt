use Rattle.std.proofs.Common.{sym, ap, ◌∙◌}
use Rattle.rules_names.specs.Names.{name_number}
use Rattle.rules_names.proofs.Tables.{name_found}
use Rattle.rules_names.proofs.table.NameTable.get.Goals as goal

pub returns : goal.returns
returns c = c.get_index_of.ensures.index ∙ sym (name_found c.self.inside.names.keys c.args.name.now) ∙ ap (λ s. name_number s c.args.name.now) c.self.view_is
