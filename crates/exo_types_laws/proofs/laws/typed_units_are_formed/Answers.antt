use Rattle.exo_types_laws.proofs.Units.{units_formed}
use Rattle.exo_types_laws.proofs.laws.typed_units_are_formed.Goals as goal

pub returns : goal.returns
returns c =
    units_formed
    (record {
      controls = c.controls_keep_rules.ensures;
      lists = c.lists_keep_rules.ensures;
      conditions = c.conditions_keep_rules.ensures;
      cells = c.data_keep_rules.ensures;
      windows = c.windows_keep_rules.ensures;
      scopes = c.scopes_keep_ids.ensures;
    })
    c.signatures_agree.ensures
