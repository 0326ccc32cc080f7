use Rattle.std.proofs.Common.{ap, ◌∙◌, arith}
use Rattle.std.proofs.lemmas.List.{take_all}
use Rattle.std.proofs.lemmas.List.Sums.{sum_by_more, sum_by_more_le}
use Rattle.affine_forms.specs.System.{plain_system}
use Rattle.affine_systems.specs.Limits.{system_terms}
use Rattle.affine_systems.specs.declared.obligation.Obligation.{Obligation}
use Rattle.affine_systems.proofs.Within.{all_terms, all_terms_few, terms_by_system}
use Rattle.affine_systems.proofs.list.terms_of.Goals as goal

pub overflow_add-count : goal.overflow_add-count
overflow_add-count c =
    let os = c.args.owed.now in
    let o = c.o-item.result in
    let total = sum_by_more_le (λ (q : Obligation). system_terms (plain_system q.system)) os c.loop-o.o-index o c.loop-o-test.true in
    let same = ap (λ (q : Obligation). system_terms (plain_system q.system)) c.o-item.is in
    omega (arith, total, same, c.loop-o.invariant, c.system_terms-count.ensures, all_terms_few os, c.requires)

pub loop-o-preserved : goal.loop-o-preserved
loop-o-preserved c =
    let os = c.args.owed.now in
    let o = c.o-item.result in
    let total = sum_by_more (λ (q : Obligation). system_terms (plain_system q.system)) os c.loop-o.o-index o c.loop-o-test.true in
    let same = ap (λ (q : Obligation). system_terms (plain_system q.system)) c.o-item.is in
    omega (arith, total, same, c.loop-o.invariant, c.system_terms-count.ensures)

pub returns : goal.returns
returns c =
    c.loop-o.invariant
    ∙ ap all_terms (take_all c.loop-o.o-index c.args.owed.now c.loop-o-test.false)
    ∙ terms_by_system c.args.owed.now
