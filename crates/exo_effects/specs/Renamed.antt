-- The same forms over other variables.
use Rattle.std.specs.Prelude.{ℕ}
use Rattle.affine_forms.specs.Atoms.{Atom, Variable, EntryField, UnknownField, OpaqueStride}
use Rattle.affine_forms.specs.Atoms.{Quotient, Terms, none, term, Linear}
use Rattle.affine_forms.specs.Formulas.{Constraint, AtLeastZero, IsZero, Formula, Says, Both, Either}

module _ (r : ℕ → ℕ) where
  abbrev mutual
    pub re_atom : Atom → Atom
    re_atom (Variable x) = Variable (r x)
    re_atom (EntryField f kind) = EntryField f kind
    re_atom (UnknownField f kind path) = UnknownField f kind path
    re_atom (OpaqueStride x k) = OpaqueStride x k
    re_atom (Quotient n ts c) = Quotient n (re_terms ts) c

    pub re_terms : Terms → Terms
    re_terms none = none
    re_terms (term c a ts) = term c (re_atom a) (re_terms ts)

  abbrev pub re_linear : Linear → Linear
  re_linear l = record { constant = l.constant; terms = re_terms l.terms }

  abbrev pub re_constraint : Constraint → Constraint
  re_constraint (AtLeastZero l) = AtLeastZero (re_linear l)
  re_constraint (IsZero l) = IsZero (re_linear l)

  abbrev pub re_formula : Formula → Formula
  re_formula (Says c) = Says (re_constraint c)
  re_formula (Both f g) = Both (re_formula f) (re_formula g)
  re_formula (Either f g) = Either (re_formula f) (re_formula g)
