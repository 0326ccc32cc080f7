use Rattle.std.proofs.Common.{◌≡◌, ◌∙◌, ◌++◌, sym, ap, ap₂, subst}
use Rattle.std.specs.Prelude.{IfOk}
use Rattle.affine_forms.specs.Formulas.{product, cases}
use Rattle.affine_forms.specs.Formulas as plain
use Rattle.affine_forms.specs.PlainFormulas.{plain_formula}
use Rattle.affine_systems.specs.PlainCases.{plain_cases}
use Rattle.affine_systems.proofs.Products.{product_one, product_assoc, product_empty}
use Rattle.affine_systems.proofs.CaseLists.{plain_append}
use Rattle.affine_systems.proofs.case.+with_cases.Goals as goal

pub returns-in-AtLeastZero : goal.returns-in-AtLeastZero
returns-in-AtLeastZero t c =
    let ps = plain_cases c.args.prefixes.items in
    subst (λ ks. IfOk c.with_constraint.result (λ v. plain_cases v.items ≡ ks)) (sym (product_one ps (plain.AtLeastZero c.in-AtLeastZero.sum)) ∙ ap (λ f. product ps (cases (plain_formula f))) (sym c.in-AtLeastZero.is)) c.with_constraint.ensures

pub returns-in-IsZero : goal.returns-in-IsZero
returns-in-IsZero t c =
    let ps = plain_cases c.args.prefixes.items in
    subst (λ ks. IfOk c.with_constraint-in-IsZero.result (λ v. plain_cases v.items ≡ ks)) (sym (product_one ps (plain.IsZero c.in-IsZero.sum)) ∙ ap (λ f. product ps (cases (plain_formula f))) (sym c.in-IsZero.is)) c.with_constraint-in-IsZero.ensures

pub returns-in-Both : goal.returns-in-Both
returns-in-Both t c =
    let ps = plain_cases c.args.prefixes.items in
    let fs = cases (plain_formula c.in-Both.f.value) in
    let gs = cases (plain_formula c.in-Both.g.value) in
    let first : plain_cases c.in_ok-first-in-Both.first.items ≡ product ps fs = c.in_ok-first-in-Both.ensures ∙ ap (λ f. product ps (cases (plain_formula f))) c.deref.ensures in
    subst (λ ks. IfOk c.with_cases-in-Both.result (λ v. plain_cases v.items ≡ ks)) (ap₂ (λ a f. product a (cases (plain_formula f))) first c.deref-in-Both.ensures ∙ product_assoc ps fs gs ∙ ap (λ f. product ps (cases (plain_formula f))) (sym c.in-Both.is)) c.with_cases-in-Both.ensures

pub returns : goal.returns
returns t c =
    let ps = plain_cases c.args.prefixes.items in
    let fs = cases (plain_formula c.in-Either.f.value) in
    let gs = cases (plain_formula c.in-Either.g.value) in
    let first : plain_cases c.in_ok-each-in-Either.each.items ≡ fs = c.in_ok-each-in-Either.ensures ∙ ap₂ (λ a f. product a (cases (plain_formula f))) c.in_ok-empty_case-in-Either.ensures c.deref-in-Either.ensures ∙ product_empty fs in
    let second : plain_cases c.in_ok-others-in-Either.others.items ≡ gs = c.in_ok-others-in-Either.ensures ∙ ap₂ (λ a f. product a (cases (plain_formula f))) c.in_ok-empty_case-in-Either-2.ensures c.deref-in-Either-2.ensures ∙ product_empty gs in
    let both = ap plain_cases (c.deref-in-Either-4.ensures.value ∙ c.in_ok-append-in-Either.ensures.items) ∙ plain_append c.in_ok-each-in-Either.each.items c.in_ok-others-in-Either.others.items ∙ ap₂ (λ a b. a ++ b) first second in
    subst (λ ks. IfOk c.product.result (λ v. plain_cases v.items ≡ ks)) (ap₂ (λ a b. product a b) (ap plain_cases c.deref-in-Either-3.ensures.value) both ∙ ap (λ f. product ps (cases (plain_formula f))) (sym c.in-Either.is)) c.product.ensures
