use Rattle.std.proofs.Common.{◌+◌, ◌++◌, length, map, sym, ap, ◌∙◌}
use Rattle.std.proofs.lemmas.List.{length-map}
use Rattle.exo_meaning.specs.Units.{plainly}
use Rattle.text_expressions.specs.Views.{tree_of}
use Rattle.rules_names.specs.Faults.{charged, parts_then_whole}
use Rattle.rules_names.specs.Names.{named_in, sort_of}
use Rattle.rules_names.specs.ExpressionRules.{is_buffer, name_faults, rank_faults, controls_faults}
use Rattle.rules_names.proofs.datum.test_access.Goals as goal

pub returns-clause-charge : goal.returns-clause-charge
returns-clause-charge c =
    let same = c.sort-sort.ensures ∙ ap (λ y. sort_of (named_in c.args.names.now.scope.now y)) c.as_str.ensures in
    let name = c.name_charge-name.ensures is_buffer (sym c.is_buffer.ensures) in
    c.value.ensures.charge ∙ c.then_whole.ensures _ _ (c.and.ensures _ _ name c.test_controls-end.ensures.charge) c.rank_charge-whole.ensures
    ∙ ap (λ s. charged (parts_then_whole (name_faults is_buffer s c.args.n ++ controls_faults c.args.names.now.fields.now plainly c.args.names.now.scope.now (c.args.n + 2) (map tree_of c.args.indices.now)) (rank_faults s (length c.args.indices.now) c.args.n))) same
    ∙ ap (λ k. charged (parts_then_whole (name_faults is_buffer (sort_of (named_in c.args.names.now.scope.now c.args.x.now)) c.args.n ++ controls_faults c.args.names.now.fields.now plainly c.args.names.now.scope.now (c.args.n + 2) (map tree_of c.args.indices.now)) (rank_faults (sort_of (named_in c.args.names.now.scope.now c.args.x.now)) k c.args.n)))
    (sym (length-map c.args.indices.now tree_of))
