use Rattle.std.proofs.Common.{◌+◌, ◌++◌, length, map, sym, ap, ◌∙◌}
use Rattle.std.proofs.lemmas.List.{length-map}
use Rattle.exo_reader.specs.Views.{plain_coordinate}
use Rattle.rules_names.specs.Faults.{charged}
use Rattle.rules_names.specs.Names.{named_in, sort_of}
use Rattle.rules_names.specs.ExpressionRules.{name_faults, rank_faults}
use Rattle.rules_names.specs.WindowRules.{coordinates_faults}
use Rattle.rules_names.proofs.window.test_window.Goals as goal

pub returns-clause-charge : goal.returns-clause-charge
returns-clause-charge c = λ test fits.
    let rest = coordinates_faults c.args.names.now.fields.now c.args.names.now.scope.now (c.args.n + 2) (map plain_coordinate c.args.list.now) in
    let name = c.name_charge-named.ensures test (ap test c.sort-sort.ensures ∙ fits) in
    let made = c.and-2.ensures _ _ name (c.and.ensures _ _ c.rank_charge-rank.ensures c.test_coordinates-end.ensures.charge) in
    made
    ∙ ap (λ s. charged (name_faults test s c.args.n ++ (rank_faults s (length c.args.list.now) c.args.n ++ rest))) c.sort-sort.ensures
    ∙ ap (λ k. charged (name_faults test (sort_of (named_in c.args.names.now.scope.now c.args.name.now)) c.args.n ++ (rank_faults (sort_of (named_in c.args.names.now.scope.now c.args.name.now)) k c.args.n ++ rest))) (sym (length-map c.args.list.now plain_coordinate))
