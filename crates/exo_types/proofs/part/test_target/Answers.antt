use Rattle.std.proofs.Common.{◌≡◌, ◌+◌, ap, sym, ◌∙◌, map, length, arith}
use Rattle.std.proofs.lemmas.List.{length-map}
use Rattle.exo_meaning.specs.Units.{plainly}
use Rattle.text_expressions.specs.Views.{tree_of}
use Rattle.rules_names.specs.Faults.{charged}
use Rattle.rules_names.specs.Names.{named_in, sort_of}
use Rattle.rules_names.specs.ExpressionRules.{name_faults, rank_faults, is_buffer, controls_faults}
use Rattle.exo_types.proofs.Parts.{cell_faults}
use Rattle.exo_types.proofs.part.test_target.Goals as goal

pub returns-clause-charge : goal.returns-clause-charge
returns-clause-charge c =
    let fields = c.args.names.now.fields.now in
    let scope = c.args.names.now.scope.now in
    let es = map tree_of c.args.dims.now in
    let s = c.sort-sort.ensures ∙ ap (λ y. sort_of (named_in scope y)) c.as_str.ensures in
    let named = c.name_charge-name.ensures is_buffer (sym c.is_buffer.ensures) ∙ ap (λ o. charged (name_faults is_buffer o c.args.n)) s in
    let ranked = c.rank_charge-rank.ensures ∙ ap (λ o. charged (rank_faults o (length c.args.dims.now) c.args.n)) s ∙ ap (λ k. charged (rank_faults (sort_of (named_in scope c.args.x.now)) k c.args.n)) (sym (length-map c.args.dims.now tree_of)) in
    let first : c.args.n + 1 + 1 ≡ c.args.n + 2 = omega arith in
    let parts = c.test_dims-end.ensures.charge ∙ ap (λ k. charged (controls_faults fields plainly scope k es)) first in
    c.and-2.ensures _ _ named (c.and.ensures _ _ ranked parts)
    ∙ ap charged (sym (cell_faults fields is_buffer scope c.args.n c.args.x.now es))
