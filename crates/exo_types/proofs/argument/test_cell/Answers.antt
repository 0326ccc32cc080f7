use Rattle.std.proofs.Common.{ap, sym, ◌∙◌, length}
use Rattle.std.proofs.lemmas.List.{length-map}
use Rattle.text_expressions.specs.Views.{tree_of}
use Rattle.rules_names.specs.Faults.{charged}
use Rattle.rules_names.specs.Names.{named_in, sort_of}
use Rattle.rules_names.specs.ExpressionRules.{name_faults, rank_faults}
use Rattle.exo_types.proofs.argument.test_cell.Goals as goal

pub returns : goal.returns
returns c test more h w =
    let scope = c.args.names.now.scope.now in
    let s = c.sort-sort.ensures ∙ ap (λ y. sort_of (named_in scope y)) c.as_str.ensures in
    let named = c.name_charge-name.ensures test (ap test s ∙ h) ∙ ap (λ o. charged (name_faults test o c.args.n)) s in
    let ranked = c.rank_charge-rank.ensures ∙ ap (λ o. charged (rank_faults o (length c.args.indices.now) c.args.n)) s ∙ ap (λ k. charged (rank_faults (sort_of (named_in scope c.args.x.now)) k c.args.n)) (sym (length-map c.args.indices.now tree_of)) in
    c.then_whole.ensures _ _ (c.and.ensures _ _ named c.test_controls-end.ensures.charge) (c.and-2.ensures _ _ ranked w)
