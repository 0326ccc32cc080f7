-- The first number past all variables of forms.
use Rattle.std.specs.Prelude.{ℕ, zero, suc, max, List, [], ◌∷◌}
use Rattle.affine_forms.specs.Atoms.{Atom, Variable, EntryField, UnknownField, OpaqueStride}
use Rattle.affine_forms.specs.Atoms.{Quotient, Terms, none, term, Linear}
use Rattle.affine_forms.specs.Formulas.{Constraint, AtLeastZero, IsZero, Formula, Says, Both, Either}
use Rattle.exo_effects.specs.Accesses.{AccessCoord, At, Range, Access}
use Rattle.exo_effects.specs.Orders.{Turn, Order}

abbrev mutual
  pub past_atom : Atom → ℕ
  past_atom (Variable x) = suc x
  past_atom (EntryField f kind) = zero
  past_atom (UnknownField f kind path) = zero
  past_atom (OpaqueStride x k) = zero
  past_atom (Quotient n ts c) = past_terms ts

  pub past_terms : Terms → ℕ
  past_terms none = zero
  past_terms (term c a ts) = max (past_atom a) (past_terms ts)

abbrev pub past_linear : Linear → ℕ
past_linear l = past_terms l.terms

abbrev pub past_constraint : Constraint → ℕ
past_constraint (AtLeastZero l) = past_linear l
past_constraint (IsZero l) = past_linear l

abbrev pub past_formula : Formula → ℕ
past_formula (Says c) = past_constraint c
past_formula (Both f g) = max (past_formula f) (past_formula g)
past_formula (Either f g) = max (past_formula f) (past_formula g)

-- past all of a list
abbrev pub past_all : {T : Type 0} → (T → ℕ) → List T → ℕ
past_all past [] = zero
past_all past (x ∷ xs) = max (past x) (past_all past xs)

abbrev pub past_coord : AccessCoord → ℕ
past_coord (At e) = past_linear e
past_coord (Range a b) = max (past_linear a) (past_linear b)

abbrev pub past_access : Access → ℕ
past_access x =
    max (past_all past_formula x.guards) (max (past_all past_coord x.coords) (past_all suc x.own))

abbrev pub past_turn : Turn → ℕ
past_turn t = max (suc t.variable) (max (past_linear t.lower) (past_linear t.upper))

abbrev pub past_order : Order → ℕ
past_order o = max (past_all past_turn o.first) (past_all past_turn o.second)
