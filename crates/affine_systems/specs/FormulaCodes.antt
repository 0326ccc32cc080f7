-- Codes of formulas, by which a proof tells two of them apart.
use Rattle.std.specs.Prelude.{◌≡◌}
use Rattle.std.specs.Coded.{Coded}
use Rattle.std.proofs.Common.{ap, ap₂, arith}
use base.Stored.{Gv, gnum, gcons}
use Rattle.exo_tree.specs.CodeParts.{left, right, tag}
use Rattle.affine_forms.specs.AtomCodes.{linear_code}
use Rattle.affine_forms.specs.Formulas.{Constraint, AtLeastZero, IsZero, Formula, Says, Both, Either}

abbrev pub code_constraint : Constraint → Gv
code_constraint (AtLeastZero l) = gcons (gnum 0) (linear_code.code l)
code_constraint (IsZero l) = gcons (gnum 1) (linear_code.code l)

same_constraint : (c d : Constraint) → code_constraint c ≡ code_constraint d → c ≡ d
same_constraint (AtLeastZero k) (AtLeastZero l) p = ap AtLeastZero (linear_code.inj k l (ap right p))
same_constraint (IsZero k) (IsZero l) p = ap IsZero (linear_code.inj k l (ap right p))
same_constraint _ _ p = let e = ap tag p in absurd (omega arith)

abbrev pub code_formula : Formula → Gv
code_formula (Says c) = gcons (gnum 0) (code_constraint c)
code_formula (Both f g) = gcons (gnum 1) (gcons (code_formula f) (code_formula g))
code_formula (Either f g) = gcons (gnum 2) (gcons (code_formula f) (code_formula g))

pub same_formula : (f g : Formula) → code_formula f ≡ code_formula g → f ≡ g
same_formula (Says c) (Says d) p = ap Says (same_constraint c d (ap right p))
same_formula (Both f g) (Both h k) p = ap₂ Both (same_formula f h (ap (λ z. left (right z)) p))
    (same_formula g k (ap (λ z. right (right z)) p))
same_formula (Either f g) (Either h k) p = ap₂ Either (same_formula f h (ap (λ z. left (right z)) p))
    (same_formula g k (ap (λ z. right (right z)) p))
same_formula _ _ p = let e = ap tag p in absurd (omega arith)

abbrev pub formula_code : Coded Formula
formula_code = record { code = code_formula; inj = same_formula }
