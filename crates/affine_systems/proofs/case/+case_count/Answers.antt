use Rattle.std.proofs.Common.{◌≡◌, ◌∙◌, ◌*◌, min, length, sym, ap, ap₂}
use Rattle.affine_forms.specs.Formulas.{cases}
use Rattle.affine_forms.specs.PlainFormulas.{plain_formula}
use Rattle.affine_systems.proofs.Products.{length_product}
use Rattle.affine_systems.proofs.Counts.{min_times}
use Rattle.affine_systems.proofs.case.+case_count.Goals as goal

pub returns-in-Both : goal.returns-in-Both
returns-in-Both t c =
    let fs = cases (plain_formula c.in-Both.f.value) in
    let gs = cases (plain_formula c.in-Both.g.value) in
    let first : c.case_count.result ≡ min (length fs) 65 = c.case_count.ensures ∙ ap (λ f. min (length (cases (plain_formula f))) 65) c.deref.ensures in
    let second : c.case_count-in-Both.result ≡ min (length gs) 65 = c.case_count-in-Both.ensures ∙ ap (λ f. min (length (cases (plain_formula f))) 65) c.deref-in-Both.ensures in
    c.min.ensures ∙ ap₂ (λ a b. min (a * b) 65) first second ∙ min_times (length fs) (length gs) ∙ ap (λ n. min n 65) (sym (length_product fs gs)) ∙ ap (λ f. min (length (cases (plain_formula f))) 65) (sym c.in-Both.is)
