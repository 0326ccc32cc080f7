-- Lists of formulas of the program as plain ones.
use Rattle.std.proofs.Common.{◌≡◌, ℕ, ◌+◌, ◌*◌, ◌<◌, min, List, [], ◌∷◌, ◌++◌, map, length, get_or, take, sym, ap, ◌∙◌}
use Rattle.std.proofs.lemmas.List.{map-append, take_more}
use Rattle.affine_forms.specs.Formulas.{product, cases, cases_of_all}
use Rattle.affine_forms.specs.PlainFormulas.{plain_formula}
use Rattle.affine_forms.specs.declared.formula.Formula.{Formula as RsFormula}
use Rattle.affine_systems.proofs.Products.{cases_last}
use Rattle.affine_systems.proofs.Counts.{count_next}

taken : (fs : List RsFormula) (i : ℕ) (f : RsFormula) → i < length fs → f ≡ get_or fs i f → map plain_formula (take i fs) ++ plain_formula f ∷ [] ≡ map plain_formula (take (i + 1) fs)
taken fs i f l is = ap (λ g. map plain_formula (take i fs) ++ plain_formula g ∷ []) is ∙ sym (ap (map plain_formula) (take_more fs i f l) ∙ map-append plain_formula (take i fs) (get_or fs i f ∷ []))

pub cases_next : (fs : List RsFormula) (i : ℕ) (f : RsFormula) → i < length fs → f ≡ get_or fs i f → product (cases_of_all (map plain_formula (take i fs))) (cases (plain_formula f)) ≡ cases_of_all (map plain_formula (take (i + 1) fs))
cases_next fs i f l is = sym (cases_last (map plain_formula (take i fs)) (plain_formula f)) ∙ ap cases_of_all (taken fs i f l is)

pub counted_next : (fs : List RsFormula) (i : ℕ) (f : RsFormula) (c d e : ℕ) → i < length fs → f ≡ get_or fs i f → c ≡ min (length (cases_of_all (map plain_formula (take i fs)))) 65 → d ≡ min (length (cases (plain_formula f))) 65 → e ≡ min (c * d) 65 → e ≡ min (length (cases_of_all (map plain_formula (take (i + 1) fs)))) 65
counted_next fs i f c d e l is h j k = k ∙ count_next (map plain_formula (take i fs)) (plain_formula f) c d h j ∙ ap (λ gs. min (length (cases_of_all gs)) 65) (taken fs i f l is)
