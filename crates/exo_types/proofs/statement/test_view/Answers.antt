use Rattle.std.proofs.Common.{◌+◌, map, ap, sym, ◌∙◌}
use Rattle.exo_reader.specs.Views.{plain_coordinate}
use Rattle.rules_names.specs.Faults.{charged}
use Rattle.rules_names.specs.WindowRules.{window_faults}
use Rattle.rules_names.specs.Names.{named_in, sort_of}
use Rattle.rules_names.specs.ExpressionRules.{is_buffer}
use Rattle.exo_types.proofs.statement.test_view.Goals as goal

pub returns-clause-charge : goal.returns-clause-charge
returns-clause-charge c =
    let sort = c.sort-sort.ensures ∙ ap (λ y. sort_of (named_in c.args.walk.now.scope y)) c.as_str.ensures in
    let seen = ap (λ y. is_buffer (sort_of (named_in c.args.walk.now.scope y))) c.as_str-2.ensures in
    let fits = seen ∙ sym (c.is_buffer.ensures ∙ ap is_buffer sort) in
    let window = c.test_window-end.ensures.charge is_buffer fits ∙ ap (λ y. charged (window_faults c.args.context.now.fields.now is_buffer c.args.walk.now.scope (c.args.n + 2) y (map plain_coordinate c.args.coords.now))) c.as_str-2.ensures in
    c.and.ensures _ _ c.binder_charge-name.ensures window
