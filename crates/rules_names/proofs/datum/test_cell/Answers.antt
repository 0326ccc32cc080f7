use Rattle.std.proofs.Common.{sym, ap, ◌∙◌}
use Rattle.std.proofs.lemmas.List.{append-nil}
use Rattle.rules_names.specs.Faults.{charged, parts_then_whole}
use Rattle.rules_names.specs.Names.{named_in, sort_of}
use Rattle.rules_names.specs.ExpressionRules.{is_buffer, suits, name_faults, rank_faults}
use Rattle.rules_names.proofs.datum.test_cell.Goals as goal

pub returns-clause-charge : goal.returns-clause-charge
returns-clause-charge c =
    let same = c.sort-sort.ensures ∙ ap (λ y. sort_of (named_in c.args.names.now.scope.now y)) c.as_str.ensures in
    let name = c.name_charge-parts.ensures is_buffer (sym c.is_buffer-fits.ensures) in
    c.named.ensures.charge ∙ c.then_whole.ensures _ _ name c.rank_charge.ensures
    ∙ ap (λ s. charged (parts_then_whole (name_faults is_buffer s c.args.n) (rank_faults s 0 c.args.n))) same
    ∙ ap (λ l. charged (parts_then_whole l (rank_faults (sort_of (named_in c.args.names.now.scope.now c.args.x.now)) 0 c.args.n))) (sym (append-nil _))

pub returns-clause-form : goal.returns-clause-form
returns-clause-form c =
    let same = c.sort-sort.ensures ∙ ap (λ y. sort_of (named_in c.args.names.now.scope.now y)) c.as_str.ensures in
    c.named.ensures.form ∙ c.suits.ensures is_buffer (sym c.is_buffer-fits.ensures) ∙ ap (suits is_buffer) same
