-- Forms over other variables twice, and forms whose variables stay.
use Rattle.std.proofs.Common.{◌≡◌, ◌<◌, ◌≤◌, ℕ, max, List, [], ◌∷◌, map, refl, ap, ap₂, arith}
use Rattle.std.proofs.Math.Nat.{le-max_left, le-max_right}
use Rattle.affine_forms.specs.Atoms.{Atom, Variable, EntryField, UnknownField, OpaqueStride, Quotient, Terms, none, term, Linear}
use Rattle.affine_forms.specs.Formulas.{Constraint, AtLeastZero, IsZero, Formula, Says, Both, Either}
use Rattle.exo_effects.specs.Accesses.{AccessCoord, At, Range}
use Rattle.exo_effects.specs.Conflicts.{re_coord}
use Rattle.exo_effects.specs.Fresh.{past_atom, past_terms, past_linear, past_constraint, past_formula, past_all, past_coord}
use Rattle.exo_effects.specs.Renamed.{re_atom, re_terms, re_linear, re_constraint, re_formula}

pub left_of : (a b z : ℕ) → max a b ≤ z → a ≤ z
left_of a b z h = omega (arith, h, le-max_left a b)

pub right_of : (a b z : ℕ) → max a b ≤ z → b ≤ z
right_of a b z h = omega (arith, h, le-max_right a b)

-- one after the other is another one, for variables below a number
module _ (n : ℕ) (t r s : ℕ → ℕ) (agree : (x : ℕ) → x < n → t (r x) ≡ s x) where
  mutual
    atom_twice : (a : Atom) → past_atom a ≤ n → re_atom t (re_atom r a) ≡ re_atom s a
    atom_twice (Variable x) h = ap Variable (agree x (omega (arith, h)))
    atom_twice (EntryField f kind) h = refl
    atom_twice (UnknownField f kind path) h = refl
    atom_twice (OpaqueStride x k) h = refl
    atom_twice (Quotient m ts c) h = ap (λ us. Quotient m us c) (terms_twice ts h)

    terms_twice : (ts : Terms) → past_terms ts ≤ n → re_terms t (re_terms r ts) ≡ re_terms s ts
    terms_twice none h = refl
    terms_twice (term c a ts) h = ap₂ (term c) (atom_twice a (left_of (past_atom a) (past_terms ts) n h)) (terms_twice ts (right_of (past_atom a) (past_terms ts) n h))

  pub linear_twice : (l : Linear) → past_linear l ≤ n → re_linear t (re_linear r l) ≡ re_linear s l
  linear_twice l h = ap (λ ts. record { constant = l.constant; terms = ts }) (terms_twice l.terms h)

  constraint_twice : (c : Constraint) → past_constraint c ≤ n → re_constraint t (re_constraint r c) ≡ re_constraint s c
  constraint_twice (AtLeastZero l) h = ap AtLeastZero (linear_twice l h)
  constraint_twice (IsZero l) h = ap IsZero (linear_twice l h)

  formula_twice : (f : Formula) → past_formula f ≤ n → re_formula t (re_formula r f) ≡ re_formula s f
  formula_twice (Says c) h = ap Says (constraint_twice c h)
  formula_twice (Both f g) h = ap₂ Both (formula_twice f (left_of (past_formula f) (past_formula g) n h)) (formula_twice g (right_of (past_formula f) (past_formula g) n h))
  formula_twice (Either f g) h = ap₂ Either (formula_twice f (left_of (past_formula f) (past_formula g) n h)) (formula_twice g (right_of (past_formula f) (past_formula g) n h))

  pub formulas_twice : (fs : List Formula) → past_all past_formula fs ≤ n → map (re_formula t) (map (re_formula r) fs) ≡ map (re_formula s) fs
  formulas_twice [] h = refl
  formulas_twice (f ∷ fs) h = ap₂ (λ a vs. a ∷ vs) (formula_twice f (left_of (past_formula f) (past_all past_formula fs) n h)) (formulas_twice fs (right_of (past_formula f) (past_all past_formula fs) n h))

  coord_twice : (c : AccessCoord) → past_coord c ≤ n → re_coord t (re_coord r c) ≡ re_coord s c
  coord_twice (At e) h = ap At (linear_twice e h)
  coord_twice (Range a b) h = ap₂ Range (linear_twice a (left_of (past_linear a) (past_linear b) n h)) (linear_twice b (right_of (past_linear a) (past_linear b) n h))

  pub coords_twice : (cs : List AccessCoord) → past_all past_coord cs ≤ n → map (re_coord t) (map (re_coord r) cs) ≡ map (re_coord s) cs
  coords_twice [] h = refl
  coords_twice (c ∷ cs) h = ap₂ (λ a vs. a ∷ vs) (coord_twice c (left_of (past_coord c) (past_all past_coord cs) n h)) (coords_twice cs (right_of (past_coord c) (past_all past_coord cs) n h))

-- the variables below a number stay
module _ (n : ℕ) (t : ℕ → ℕ) (stay : (x : ℕ) → x < n → t x ≡ x) where
  mutual
    atom_stays : (a : Atom) → past_atom a ≤ n → re_atom t a ≡ a
    atom_stays (Variable x) h = ap Variable (stay x (omega (arith, h)))
    atom_stays (EntryField f kind) h = refl
    atom_stays (UnknownField f kind path) h = refl
    atom_stays (OpaqueStride x k) h = refl
    atom_stays (Quotient m ts c) h = ap (λ us. Quotient m us c) (terms_stay ts h)

    terms_stay : (ts : Terms) → past_terms ts ≤ n → re_terms t ts ≡ ts
    terms_stay none h = refl
    terms_stay (term c a ts) h = ap₂ (term c) (atom_stays a (left_of (past_atom a) (past_terms ts) n h)) (terms_stay ts (right_of (past_atom a) (past_terms ts) n h))

  linear_stays : (l : Linear) → past_linear l ≤ n → re_linear t l ≡ l
  linear_stays l h = ap (λ ts. record { constant = l.constant; terms = ts }) (terms_stay l.terms h)

  constraint_stays : (c : Constraint) → past_constraint c ≤ n → re_constraint t c ≡ c
  constraint_stays (AtLeastZero l) h = ap AtLeastZero (linear_stays l h)
  constraint_stays (IsZero l) h = ap IsZero (linear_stays l h)

  formula_stays : (f : Formula) → past_formula f ≤ n → re_formula t f ≡ f
  formula_stays (Says c) h = ap Says (constraint_stays c h)
  formula_stays (Both f g) h = ap₂ Both (formula_stays f (left_of (past_formula f) (past_formula g) n h)) (formula_stays g (right_of (past_formula f) (past_formula g) n h))
  formula_stays (Either f g) h = ap₂ Either (formula_stays f (left_of (past_formula f) (past_formula g) n h)) (formula_stays g (right_of (past_formula f) (past_formula g) n h))

  pub formulas_stay : (fs : List Formula) → past_all past_formula fs ≤ n → map (re_formula t) fs ≡ fs
  formulas_stay [] h = refl
  formulas_stay (f ∷ fs) h = ap₂ (λ a vs. a ∷ vs) (formula_stays f (left_of (past_formula f) (past_all past_formula fs) n h)) (formulas_stay fs (right_of (past_formula f) (past_all past_formula fs) n h))

-- alike below a number
module _ (n : ℕ) (r s : ℕ → ℕ) (agree : (x : ℕ) → x < n → r x ≡ s x) where
  mutual
    atom_alike : (a : Atom) → past_atom a ≤ n → re_atom r a ≡ re_atom s a
    atom_alike (Variable x) h = ap Variable (agree x (omega (arith, h)))
    atom_alike (EntryField f kind) h = refl
    atom_alike (UnknownField f kind path) h = refl
    atom_alike (OpaqueStride x k) h = refl
    atom_alike (Quotient m ts c) h = ap (λ us. Quotient m us c) (terms_alike ts h)

    terms_alike : (ts : Terms) → past_terms ts ≤ n → re_terms r ts ≡ re_terms s ts
    terms_alike none h = refl
    terms_alike (term c a ts) h = ap₂ (term c) (atom_alike a (left_of (past_atom a) (past_terms ts) n h)) (terms_alike ts (right_of (past_atom a) (past_terms ts) n h))

  pub linear_alike : (l : Linear) → past_linear l ≤ n → re_linear r l ≡ re_linear s l
  linear_alike l h = ap (λ ts. record { constant = l.constant; terms = ts }) (terms_alike l.terms h)

  constraint_alike : (c : Constraint) → past_constraint c ≤ n → re_constraint r c ≡ re_constraint s c
  constraint_alike (AtLeastZero l) h = ap AtLeastZero (linear_alike l h)
  constraint_alike (IsZero l) h = ap IsZero (linear_alike l h)

  pub formula_alike : (f : Formula) → past_formula f ≤ n → re_formula r f ≡ re_formula s f
  formula_alike (Says c) h = ap Says (constraint_alike c h)
  formula_alike (Both f g) h = ap₂ Both (formula_alike f (left_of (past_formula f) (past_formula g) n h)) (formula_alike g (right_of (past_formula f) (past_formula g) n h))
  formula_alike (Either f g) h = ap₂ Either (formula_alike f (left_of (past_formula f) (past_formula g) n h)) (formula_alike g (right_of (past_formula f) (past_formula g) n h))
