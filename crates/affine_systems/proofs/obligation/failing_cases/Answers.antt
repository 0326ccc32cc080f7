use Rattle.std.proofs.Common.{◌≡◌, ◌∙◌, sym, ap, subst}
use Rattle.std.specs.Prelude.{IfOk}
use Rattle.affine_forms.specs.Formulas.{product, cases}
use Rattle.affine_forms.specs.PlainFormulas.{plain_formula}
use Rattle.affine_systems.specs.PlainCases.{plain_cases}
use Rattle.affine_systems.proofs.Products.{cases_last}
use Rattle.affine_systems.proofs.obligation.failing_cases.Goals as goal

pub returns : goal.returns
returns c = subst (λ ks. IfOk c.with_cases.result (λ v. plain_cases v.items ≡ ks)) (ap (λ ks. product ks (cases (plain_formula c.args.denied.now))) c.in_ok-cases.ensures ∙ sym (cases_last c.args.ctx.now (plain_formula c.args.denied.now))) c.with_cases.ensures
