-- Claims over atoms as systems over numbered variables: the hypotheses and the denied claim in
-- disjunctive normal form, and for each of its cases a system of linear constraints, with rows that
-- say what a quotient is (as W. Pugh, The Omega test, 1991, does for floors in Presburger
-- arithmetic).
use Rattle.std.specs.Prelude.{ℕ, zero, suc, ◌+◌, nat_le, ℤ, pos, ◌+ℤ◌, ◌-ℤ◌, Bool, true, false}
use Rattle.std.specs.Prelude.{◌&&◌, if◌then◌else◌, List, [], ◌∷◌, ◌++◌, map, length}
use Rattle.std.specs.List.{AllByRecursion, list_any, list_all, position_or_len}
use Rattle.std.specs.Int.{is_positive}
use Rattle.exo_tree.specs.Tree.{Kind, Size, Index, Truth, Stride}
use Rattle.exo_tree.specs.Places.{Path}
use Rattle.exo_meaning.specs.Inputs.{IsOfKind}
use Rattle.affine_forms.specs.Affine.{Affine, Constraints, HasNoIntegerPoint}
use Rattle.affine_forms.specs.Atoms.{Atom, Variable, EntryField, UnknownField, OpaqueStride}
use Rattle.affine_forms.specs.Atoms.{Quotient, Terms, none, term, Linear, Valuation, same_atom}
use Rattle.affine_forms.specs.Atoms.{only, constantly, scaled, subtracted}
use Rattle.affine_forms.specs.Formulas.{Constraint, AtLeastZero, IsZero, Formula, moved, negation}
use Rattle.affine_forms.specs.Formulas.{cases_of_all}

-- the constraints so far, and the atoms that stand in them by first appearance
pub record Made : Type 0 where
  pub atoms : List Atom
  pub constraints : List Constraint

abbrev pub stands_in : List Atom → Atom → Bool
stands_in atoms a = list_any (same_atom a) atoms

-- ---- constraints, each with its atoms

abbrev pub with_atom : List Atom → Atom → List Atom
with_atom atoms a = if stands_in atoms a then atoms else atoms ++ a ∷ []

abbrev pub with_atoms : List Atom → Terms → List Atom
with_atoms atoms none = atoms
with_atoms atoms (term c a ts) = with_atoms (with_atom atoms a) ts

abbrev pub sum_of : Constraint → Linear
sum_of (AtLeastZero l) = l
sum_of (IsZero l) = l

-- it says that its sum is 0
abbrev pub is_equation : Constraint → Bool
is_equation (AtLeastZero l) = false
is_equation (IsZero l) = true

abbrev pub with_constraint : Made → Constraint → Made
with_constraint made c = record {
  atoms = with_atoms made.atoms (sum_of c).terms;
  constraints = made.constraints ++ c ∷ [];
}

abbrev pub with_constraints : Made → List Constraint → Made
with_constraints made [] = made
with_constraints made (c ∷ cs) = with_constraints (with_constraint made c) cs

-- ---- what an atom is, said at its first appearance

-- a quotient q of e by c: e - c * q, and c * q + c - 1 - e. A literal of a quotient is at least 1
abbrev pub quotient_rows : Linear → Linear → ℤ → List Constraint
quotient_rows e q c =
    if is_positive c
    then AtLeastZero (subtracted e (scaled c q))
    ∷ AtLeastZero (subtracted (moved (pos 1 -ℤ c) (scaled c q)) e)
    ∷ []
    else []

-- a size is at least 1, and a bool is 0 or 1
abbrev pub kind_rows : Kind → Linear → List Constraint
kind_rows Size f = AtLeastZero (moved (pos 1) f) ∷ []
kind_rows Index f = []
kind_rows Truth f = AtLeastZero f ∷ AtLeastZero (subtracted (constantly (pos 1)) f) ∷ []
kind_rows Stride f = []

abbrev pub own_rows : Atom → List Constraint
own_rows (Variable x) = []
own_rows (EntryField f kind) = kind_rows kind (only (EntryField f kind))
own_rows (UnknownField f kind path) = kind_rows kind (only (UnknownField f kind path))
own_rows (OpaqueStride x k) = []
own_rows (Quotient n ts c) =
    quotient_rows (record { constant = n; terms = ts }) (only (Quotient n ts c)) c

-- the rows of the atoms inside come before the atom's own
abbrev mutual
  pub explained : Atom → Made → Made
  explained (Variable x) made = made
  explained (EntryField f kind) made =
      if stands_in made.atoms (EntryField f kind)
      then made
      else with_constraints made (own_rows (EntryField f kind))
  explained (UnknownField f kind path) made =
      if stands_in made.atoms (UnknownField f kind path)
      then made
      else with_constraints made (own_rows (UnknownField f kind path))
  explained (OpaqueStride x k) made = made
  explained (Quotient n ts c) made =
      if stands_in made.atoms (Quotient n ts c)
      then made
      else with_constraints (all_explained ts made) (own_rows (Quotient n ts c))

  pub all_explained : Terms → Made → Made
  all_explained none made = made
  all_explained (term c a ts) made = all_explained ts (explained a made)

-- each constraint after the rows of the atoms that appear in it first
abbrev pub made_of : Made → List Constraint → Made
made_of made [] = made
made_of made (c ∷ cs) = made_of (with_constraint (all_explained (sum_of c).terms made) c) cs

-- ---- numbers

-- adds to the k-th number of a list
abbrev pub added_at : ℕ → ℤ → List ℤ → List ℤ
added_at k z [] = []
added_at zero z (c ∷ cs) = (z +ℤ c) ∷ cs
added_at (suc k) z (c ∷ cs) = c ∷ added_at k z cs

-- each term adds its coefficient at the number of its atom
abbrev pub numbered_onto : List Atom → List ℤ → Terms → List ℤ
numbered_onto atoms cs none = cs
numbered_onto atoms cs (term c a ts) =
    numbered_onto atoms (added_at (position_or_len (same_atom a) atoms) c cs) ts

-- the coefficient of each atom
abbrev pub numbered : List Atom → Terms → List ℤ
numbered atoms ts = numbered_onto atoms (map (λ a. pos 0) atoms) ts

abbrev pub affine : List Atom → Linear → Affine
affine atoms l = record { constant = l.constant; coefficients = numbered atoms l.terms }

abbrev pub equations_of : List Atom → List Constraint → List Affine
equations_of atoms [] = []
equations_of atoms (AtLeastZero l ∷ cs) = equations_of atoms cs
equations_of atoms (IsZero l ∷ cs) = affine atoms l ∷ equations_of atoms cs

abbrev pub rows_of : List Atom → List Constraint → List Affine
rows_of atoms [] = []
rows_of atoms (AtLeastZero l ∷ cs) = affine atoms l ∷ rows_of atoms cs
rows_of atoms (IsZero l ∷ cs) = rows_of atoms cs

abbrev pub system_of : Made → Constraints
system_of made = record {
  variables = length made.atoms;
  equations = equations_of made.atoms made.constraints;
  rows = rows_of made.atoms made.constraints;
}

abbrev pub nothing : Made
nothing = record { atoms = []; constraints = [] }

-- the system of one case
abbrev pub system : List Constraint → Constraints
system cs = system_of (made_of nothing cs)

-- formulas: one system for each case in which all of them hold
abbrev pub systems_of : List Formula → List Constraints
systems_of fs = map system (cases_of_all fs)

-- no integers meet all of them
abbrev pub HaveNoPoint : List Formula → Type 0
HaveNoPoint fs = AllByRecursion HasNoIntegerPoint (systems_of fs)

-- where a claim fails: the formulas hold, and what it is denied to
abbrev pub failing : List Formula → Formula → List Formula
failing context claim = context ++ negation claim ∷ []

-- the cases in which formulas hold and a claim does not
abbrev pub failing_cases : List Formula → Formula → List (List Constraint)
failing_cases context claim = cases_of_all (failing context claim)

-- a claim where formulas hold: one system for each case in which they do and the claim does not
abbrev pub systems : List Formula → Formula → List Constraints
systems context claim = systems_of (failing context claim)

-- no system has an integer point
abbrev pub IsShown : List Formula → Formula → Type 0
IsShown context claim = HaveNoPoint (failing context claim)

-- ---- limits

-- at most 64 variables, and at most 512 rows and equations together
abbrev pub is_small : Constraints → Bool
is_small s = nat_le s.variables 64 && nat_le (length s.equations + length s.rows) 512

-- what can be said of formulas: too many cases (more than 64) come before a system that is too
-- large
pub data Stated : Type 0 where
  CasesPassed SizePassed : Stated
  Listed : List Constraints → Stated

abbrev pub stated_in : List (List Constraint) → Stated
stated_in css =
    if nat_le (length css) 64
    then (if list_all is_small (map system css) then Listed (map system css) else SizePassed)
    else CasesPassed

-- of formulas that no integers are to meet together
abbrev pub cases_stated : List Formula → Stated
cases_stated fs = stated_in (cases_of_all fs)

-- of a claim where formulas hold
abbrev pub stated : List Formula → Formula → Stated
stated context claim = cases_stated (failing context claim)

-- ---- valuations that keep the kinds of fields

pub record KeepsKinds (v : Valuation) : Type 0 where
  pub entry : (f : ℕ) (kind : Kind) → IsOfKind kind (v.entry f kind)
  pub unknown : (f : ℕ) (kind : Kind) (path : Path) → IsOfKind kind (v.unknown f kind path)
