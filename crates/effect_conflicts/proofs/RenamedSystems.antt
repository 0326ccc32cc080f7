-- The systems of formulas over other variables, where different variables stay different, are the same.
use Rattle.std.proofs.Common.{◌≡◌, ◌+◌, zero, ℕ, ℤ, pos, ◌-ℤ◌, Bool, true, false, not, cond, ◌||◌, nat_le, List, [], ◌∷◌, ◌++◌, map, length, refl, sym, ap, ap₂, ◌∙◌}
use Rattle.std.proofs.lemmas.List.{length-map, map-append}
use Rattle.std.specs.List.{list_all, position_or_len}
use Rattle.std.specs.Int.{is_positive}
use Rattle.exo_tree.specs.Tree.{Size, Index, Truth, Stride}
use Rattle.affine_forms.specs.Atoms.{Atom, Variable, EntryField, UnknownField, OpaqueStride, Quotient, Terms, none, term, Linear, same_atom, only, scaled, subtracted}
use Rattle.affine_forms.specs.Formulas.{Constraint, AtLeastZero, IsZero, Formula, Says, Both, Either, moved, product, cases, cases_of_all}
use Rattle.affine_systems.specs.Systems.{Made, stands_in, with_atom, with_atoms, with_constraint, with_constraints, own_rows, explained, all_explained, made_of, added_at, numbered_onto, affine, equations_of, rows_of, system_of, nothing, system, systems_of, is_small, cases_stated, Listed, SizePassed, CasesPassed}
use Rattle.exo_effects.specs.Renamed.{re_atom, re_terms, re_linear, re_constraint, re_formula}
use Rattle.effect_conflicts.proofs.RenamedTerms.{KeepsApart, re_same_atom, re_subtracted}

module _ (r : ℕ → ℕ) (apart : KeepsApart r) where
  abbrev re_made : Made → Made
  re_made m = record { atoms = map (re_atom r) m.atoms; constraints = map (re_constraint r) m.constraints }

  stands : (atoms : List Atom) (a : Atom) → stands_in (map (re_atom r) atoms) (re_atom r a) ≡ stands_in atoms a
  stands [] a = refl
  stands (b ∷ bs) a = ap₂ (λ s t. s || t) (re_same_atom r apart a b) (stands bs a)

  re_with_atom : (atoms : List Atom) (a : Atom) → map (re_atom r) (with_atom atoms a) ≡ with_atom (map (re_atom r) atoms) (re_atom r a)
  re_with_atom atoms a = go (stands_in atoms a) ∙ ap (λ t. cond t (map (re_atom r) atoms) (map (re_atom r) atoms ++ re_atom r a ∷ [])) (sym (stands atoms a))
    where
      go : (t : Bool) → map (re_atom r) (cond t atoms (atoms ++ a ∷ [])) ≡ cond t (map (re_atom r) atoms) (map (re_atom r) atoms ++ re_atom r a ∷ [])
      go true = refl
      go false = map-append (re_atom r) atoms (a ∷ [])

  re_with_atoms : (atoms : List Atom) (ts : Terms) → map (re_atom r) (with_atoms atoms ts) ≡ with_atoms (map (re_atom r) atoms) (re_terms r ts)
  re_with_atoms atoms none = refl
  re_with_atoms atoms (term c a ts) = re_with_atoms (with_atom atoms a) ts ∙ ap (λ bs. with_atoms bs (re_terms r ts)) (re_with_atom atoms a)

  re_with_constraint : (made : Made) (c : Constraint) → re_made (with_constraint made c) ≡ with_constraint (re_made made) (re_constraint r c)
  re_with_constraint made (AtLeastZero l) = ap₂ (λ a k. record { atoms = a; constraints = k }) (re_with_atoms made.atoms l.terms) (map-append (re_constraint r) made.constraints (AtLeastZero l ∷ []))
  re_with_constraint made (IsZero l) = ap₂ (λ a k. record { atoms = a; constraints = k }) (re_with_atoms made.atoms l.terms) (map-append (re_constraint r) made.constraints (IsZero l ∷ []))

  re_with_constraints : (made : Made) (cs : List Constraint) → re_made (with_constraints made cs) ≡ with_constraints (re_made made) (map (re_constraint r) cs)
  re_with_constraints made [] = refl
  re_with_constraints made (c ∷ cs) = re_with_constraints (with_constraint made c) cs ∙ ap (λ m. with_constraints m (map (re_constraint r) cs)) (re_with_constraint made c)

  -- ---- what an atom is

  abbrev numerator : ℤ → Terms → Linear
  numerator n ts = record { constant = n; terms = ts }

  re_quotient_rows : (n : ℤ) (ts : Terms) (c : ℤ) → map (re_constraint r) (own_rows (Quotient n ts c)) ≡ own_rows (Quotient n (re_terms r ts) c)
  re_quotient_rows n ts c = go (is_positive c)
    where
      go : (t : Bool) → map (re_constraint r) (cond t (AtLeastZero (subtracted (numerator n ts) (scaled c (only (Quotient n ts c)))) ∷ AtLeastZero (subtracted (moved (pos 1 -ℤ c) (scaled c (only (Quotient n ts c)))) (numerator n ts)) ∷ []) []) ≡ cond t (AtLeastZero (subtracted (numerator n (re_terms r ts)) (scaled c (only (Quotient n (re_terms r ts) c)))) ∷ AtLeastZero (subtracted (moved (pos 1 -ℤ c) (scaled c (only (Quotient n (re_terms r ts) c)))) (numerator n (re_terms r ts))) ∷ []) []
      go true = ap₂ (λ k l. AtLeastZero k ∷ AtLeastZero l ∷ []) (re_subtracted r apart (numerator n ts) (scaled c (only (Quotient n ts c)))) (re_subtracted r apart (moved (pos 1 -ℤ c) (scaled c (only (Quotient n ts c)))) (numerator n ts))
      go false = refl

  re_own_rows : (a : Atom) → map (re_constraint r) (own_rows a) ≡ own_rows (re_atom r a)
  re_own_rows (Variable x) = refl
  re_own_rows (EntryField f Size) = refl
  re_own_rows (EntryField f Index) = refl
  re_own_rows (EntryField f Truth) = refl
  re_own_rows (EntryField f Stride) = refl
  re_own_rows (UnknownField f Size path) = refl
  re_own_rows (UnknownField f Index path) = refl
  re_own_rows (UnknownField f Truth path) = refl
  re_own_rows (UnknownField f Stride path) = refl
  re_own_rows (OpaqueStride x k) = refl
  re_own_rows (Quotient n ts c) = re_quotient_rows n ts c

  -- nothing more where it stands there already
  unless_there : (a : Atom) (made next other : Made) → re_made next ≡ other → re_made (cond (stands_in made.atoms a) made next) ≡ cond (stands_in (map (re_atom r) made.atoms) (re_atom r a)) (re_made made) other
  unless_there a made next other h = go (stands_in made.atoms a) ∙ ap (λ t. cond t (re_made made) other) (sym (stands made.atoms a))
    where
      go : (t : Bool) → re_made (cond t made next) ≡ cond t (re_made made) other
      go true = refl
      go false = h

  with_rows : (a : Atom) (made : Made) → re_made (with_constraints made (own_rows a)) ≡ with_constraints (re_made made) (own_rows (re_atom r a))
  with_rows a made = re_with_constraints made (own_rows a) ∙ ap (with_constraints (re_made made)) (re_own_rows a)

  mutual
    re_explained : (a : Atom) (made : Made) → re_made (explained a made) ≡ explained (re_atom r a) (re_made made)
    re_explained (Variable x) made = refl
    re_explained (EntryField f kind) made = unless_there (EntryField f kind) made (with_constraints made (own_rows (EntryField f kind))) (with_constraints (re_made made) (own_rows (EntryField f kind))) (with_rows (EntryField f kind) made)
    re_explained (UnknownField f kind path) made = unless_there (UnknownField f kind path) made (with_constraints made (own_rows (UnknownField f kind path))) (with_constraints (re_made made) (own_rows (UnknownField f kind path))) (with_rows (UnknownField f kind path) made)
    re_explained (OpaqueStride x k) made = refl
    re_explained (Quotient n ts c) made =
        unless_there (Quotient n ts c) made (with_constraints (all_explained ts made) (own_rows (Quotient n ts c))) (with_constraints (all_explained (re_terms r ts) (re_made made)) (own_rows (Quotient n (re_terms r ts) c)))
        (with_rows (Quotient n ts c) (all_explained ts made) ∙ ap (λ m. with_constraints m (own_rows (Quotient n (re_terms r ts) c))) (re_all_explained ts made))

    re_all_explained : (ts : Terms) (made : Made) → re_made (all_explained ts made) ≡ all_explained (re_terms r ts) (re_made made)
    re_all_explained none made = refl
    re_all_explained (term c a ts) made = re_all_explained ts (explained a made) ∙ ap (all_explained (re_terms r ts)) (re_explained a made)

  re_made_of : (made : Made) (cs : List Constraint) → re_made (made_of made cs) ≡ made_of (re_made made) (map (re_constraint r) cs)
  re_made_of made [] = refl
  re_made_of made (AtLeastZero l ∷ cs) =
      re_made_of (with_constraint (all_explained l.terms made) (AtLeastZero l)) cs
      ∙ ap (λ m. made_of m (map (re_constraint r) cs)) (re_with_constraint (all_explained l.terms made) (AtLeastZero l) ∙ ap (λ m. with_constraint m (AtLeastZero (re_linear r l))) (re_all_explained l.terms made))
  re_made_of made (IsZero l ∷ cs) =
      re_made_of (with_constraint (all_explained l.terms made) (IsZero l)) cs
      ∙ ap (λ m. made_of m (map (re_constraint r) cs)) (re_with_constraint (all_explained l.terms made) (IsZero l) ∙ ap (λ m. with_constraint m (IsZero (re_linear r l))) (re_all_explained l.terms made))

  -- ---- numbers

  re_position : (a : Atom) (atoms : List Atom) → position_or_len (same_atom (re_atom r a)) (map (re_atom r) atoms) ≡ position_or_len (same_atom a) atoms
  re_position a [] = refl
  re_position a (b ∷ bs) = ap₂ (λ t n. cond (not t) (1 + n) zero) (re_same_atom r apart a b) (re_position a bs)

  re_numbered_onto : (atoms : List Atom) (cs : List ℤ) (ts : Terms) → numbered_onto (map (re_atom r) atoms) cs (re_terms r ts) ≡ numbered_onto atoms cs ts
  re_numbered_onto atoms cs none = refl
  re_numbered_onto atoms cs (term c a ts) = ap (λ k. numbered_onto (map (re_atom r) atoms) (added_at k c cs) (re_terms r ts)) (re_position a atoms) ∙ re_numbered_onto atoms (added_at (position_or_len (same_atom a) atoms) c cs) ts

  zeros : (atoms : List Atom) → map (λ a. pos 0) (map (re_atom r) atoms) ≡ map (λ a. pos 0) atoms
  zeros [] = refl
  zeros (a ∷ atoms) = ap (λ zs. pos 0 ∷ zs) (zeros atoms)

  re_affine : (atoms : List Atom) (l : Linear) → affine (map (re_atom r) atoms) (re_linear r l) ≡ affine atoms l
  re_affine atoms l =
      ap (λ cs. record { constant = l.constant; coefficients = cs })
      (ap (λ zs. numbered_onto (map (re_atom r) atoms) zs (re_terms r l.terms)) (zeros atoms) ∙ re_numbered_onto atoms (map (λ a. pos 0) atoms) l.terms)

  re_equations_of : (atoms : List Atom) (cs : List Constraint) → equations_of (map (re_atom r) atoms) (map (re_constraint r) cs) ≡ equations_of atoms cs
  re_equations_of atoms [] = refl
  re_equations_of atoms (AtLeastZero l ∷ cs) = re_equations_of atoms cs
  re_equations_of atoms (IsZero l ∷ cs) = ap₂ (λ a vs. a ∷ vs) (re_affine atoms l) (re_equations_of atoms cs)

  re_rows_of : (atoms : List Atom) (cs : List Constraint) → rows_of (map (re_atom r) atoms) (map (re_constraint r) cs) ≡ rows_of atoms cs
  re_rows_of atoms [] = refl
  re_rows_of atoms (AtLeastZero l ∷ cs) = ap₂ (λ a vs. a ∷ vs) (re_affine atoms l) (re_rows_of atoms cs)
  re_rows_of atoms (IsZero l ∷ cs) = re_rows_of atoms cs

  re_system_of : (made : Made) → system_of (re_made made) ≡ system_of made
  re_system_of made =
      ap (λ n. record { variables = n; equations = equations_of (map (re_atom r) made.atoms) (map (re_constraint r) made.constraints); rows = rows_of (map (re_atom r) made.atoms) (map (re_constraint r) made.constraints) }) (length-map made.atoms (re_atom r))
      ∙ ap₂ (λ es rs. record { variables = length made.atoms; equations = es; rows = rs }) (re_equations_of made.atoms made.constraints) (re_rows_of made.atoms made.constraints)

  re_system : (cs : List Constraint) → system (map (re_constraint r) cs) ≡ system cs
  re_system cs = ap system_of (sym (re_made_of nothing cs)) ∙ re_system_of (made_of nothing cs)

  -- ---- cases

  abbrev re_case : List Constraint → List Constraint
  re_case cs = map (re_constraint r) cs

  re_behind : (x : List Constraint) (ys : List (List Constraint)) → map (λ y. re_case x ++ y) (map re_case ys) ≡ map re_case (map (λ y. x ++ y) ys)
  re_behind x [] = refl
  re_behind x (y ∷ ys) = ap₂ (λ a vs. a ∷ vs) (sym (map-append (re_constraint r) x y)) (re_behind x ys)

  re_product : (xs ys : List (List Constraint)) → product (map re_case xs) (map re_case ys) ≡ map re_case (product xs ys)
  re_product [] ys = refl
  re_product (x ∷ xs) ys = ap₂ (λ a b. a ++ b) (re_behind x ys) (re_product xs ys) ∙ sym (map-append re_case (map (λ y. x ++ y) ys) (product xs ys))

  re_cases : (f : Formula) → cases (re_formula r f) ≡ map re_case (cases f)
  re_cases (Says c) = refl
  re_cases (Both f g) = ap₂ product (re_cases f) (re_cases g) ∙ re_product (cases f) (cases g)
  re_cases (Either f g) = ap₂ (λ a b. a ++ b) (re_cases f) (re_cases g) ∙ sym (map-append re_case (cases f) (cases g))

  re_cases_of_all : (fs : List Formula) → cases_of_all (map (re_formula r) fs) ≡ map re_case (cases_of_all fs)
  re_cases_of_all [] = refl
  re_cases_of_all (f ∷ fs) = ap₂ product (re_cases f) (re_cases_of_all fs) ∙ re_product (cases f) (cases_of_all fs)

  re_systems : (css : List (List Constraint)) → map system (map re_case css) ≡ map system css
  re_systems [] = refl
  re_systems (cs ∷ css) = ap₂ (λ s ss. s ∷ ss) (re_system cs) (re_systems css)

  pub re_systems_of : (fs : List Formula) → systems_of (map (re_formula r) fs) ≡ systems_of fs
  re_systems_of fs = ap (map system) (re_cases_of_all fs) ∙ re_systems (cases_of_all fs)

  pub re_cases_stated : (fs : List Formula) → cases_stated (map (re_formula r) fs) ≡ cases_stated fs
  re_cases_stated fs =
      ap₂ (λ n ss. cond (nat_le n 64) (cond (list_all is_small ss) (Listed ss) SizePassed) CasesPassed)
      (ap length (re_cases_of_all fs) ∙ length-map (cases_of_all fs) re_case) (re_systems_of fs)
