-- Values that meet formulas are a point of the system of one of their cases.
use Rattle.std.proofs.Common.{◌≡◌, ◌≤ℤ◌, ℤ, pos, negsuc, true, List, [], ◌∷◌, ◌++◌, map, refl, sym, ap, ap₂, ◌∙◌, subst, inl, inr}
use Rattle.std.specs.List.{AllByRecursion}
use Rattle.affine_forms.specs.Affine as sums
use Rattle.affine_forms.specs.Affine.{Affine, Constraints, IsIntegerPoint, HasNoIntegerPoint}
use Rattle.affine_forms.specs.Atoms.{Atom, Valuation, atom_value, constantly}
use Rattle.affine_forms.specs.Formulas.{Constraint, AtLeastZero, IsZero, Formula, Says, row, product, cases, cases_of_all, all_met}
use Rattle.affine_systems.specs.Systems.{Made, made_of, nothing, with_constraint, all_explained, sum_of, affine, equations_of, rows_of, system_of, system, systems_of, KeepsKinds}
use Rattle.affine_systems.specs.Laws.{HasPointIn, SystemsLaw}

-- a row that holds always, and a claim that never does
abbrev idle : Constraint
idle = AtLeastZero (constantly (pos 0))

abbrev never : Formula
never = row (constantly (negsuc 0))

made_behind : (made : Made) (cs : List Constraint) → made_of made (cs ++ idle ∷ []) ≡ with_constraint (made_of made cs) idle
made_behind made [] = refl
made_behind made (c ∷ cs) = made_behind (with_constraint (all_explained (sum_of c).terms made) c) cs

equations_behind : (atoms : List Atom) (cs : List Constraint) → equations_of atoms (cs ++ idle ∷ []) ≡ equations_of atoms cs
equations_behind atoms [] = refl
equations_behind atoms (AtLeastZero l ∷ cs) = equations_behind atoms cs
equations_behind atoms (IsZero l ∷ cs) = ap (λ es. affine atoms l ∷ es) (equations_behind atoms cs)

rows_behind : (P : Affine → Type 0) (atoms : List Atom) (cs : List Constraint) → AllByRecursion P (rows_of atoms (cs ++ idle ∷ [])) → AllByRecursion P (rows_of atoms cs)
rows_behind P atoms [] h = tt
rows_behind P atoms (AtLeastZero l ∷ cs) h = (h.0, rows_behind P atoms cs h.1)
rows_behind P atoms (IsZero l ∷ cs) h = rows_behind P atoms cs h

point_before : (made : Made) (point : List ℤ) → IsIntegerPoint (system_of (with_constraint made idle)) point → IsIntegerPoint (system_of made) point
point_before made point h = record {
  one_each = h.one_each;
  equations_hold = subst (AllByRecursion (λ e. sums.value e point ≡ pos 0)) (equations_behind made.atoms made.constraints) h.equations_hold;
  rows_hold = rows_behind (λ r. pos 0 ≤ℤ sums.value r point) made.atoms made.constraints h.rows_hold;
}

module _ (v : Valuation) where
  IsPointOf : Made → Type 0
  IsPointOf made = IsIntegerPoint (system_of made) (map (atom_value v) made.atoms)

  case_before : (cs : List Constraint) → IsPointOf (made_of nothing (cs ++ idle ∷ [])) → IsPointOf (made_of nothing cs)
  unfolding IsPointOf
  case_before cs h = point_before (made_of nothing cs) (map (atom_value v) (made_of nothing cs).atoms) (subst IsPointOf (made_behind nothing cs) h)

  -- in some of these there is one
  before : (css : List (List Constraint)) → HasPointIn v (map (λ cs. cs ++ idle ∷ []) css) → HasPointIn v css
  unfolding IsPointOf
  before [] h = h
  before (cs ∷ css) (inl h) = inl (case_before cs h)
  before (cs ∷ css) (inr h) = inr (before css h)

  append_cases : (xs ys : List (List Constraint)) → map (λ cs. cs ++ idle ∷ []) (xs ++ ys) ≡ map (λ cs. cs ++ idle ∷ []) xs ++ map (λ cs. cs ++ idle ∷ []) ys
  append_cases [] ys = refl
  append_cases (x ∷ xs) ys = ap (λ zs. (x ++ idle ∷ []) ∷ zs) (append_cases xs ys)

  append_behind : (xs ys : List Constraint) → xs ++ (ys ++ idle ∷ []) ≡ (xs ++ ys) ++ idle ∷ []
  append_behind [] ys = refl
  append_behind (x ∷ xs) ys = ap (λ zs. x ∷ zs) (append_behind xs ys)

  one_behind : (x : List Constraint) (ys : List (List Constraint)) → map (λ y. x ++ y) (map (λ cs. cs ++ idle ∷ []) ys) ≡ map (λ cs. cs ++ idle ∷ []) (map (λ y. x ++ y) ys)
  one_behind x [] = refl
  one_behind x (y ∷ ys) = ap₂ (λ z zs. z ∷ zs) (append_behind x y) (one_behind x ys)

  product_behind : (xs ys : List (List Constraint)) → product xs (map (λ cs. cs ++ idle ∷ []) ys) ≡ map (λ cs. cs ++ idle ∷ []) (product xs ys)
  product_behind [] ys = refl
  product_behind (x ∷ xs) ys = ap₂ (λ a b. a ++ b) (one_behind x ys) (product_behind xs ys) ∙ sym (append_cases (map (λ y. x ++ y) ys) (product xs ys))

  cases_behind : (fs : List Formula) → cases_of_all (fs ++ Says idle ∷ []) ≡ map (λ cs. cs ++ idle ∷ []) (cases_of_all fs)
  cases_behind [] = refl
  cases_behind (f ∷ fs) = ap (product (cases f)) (cases_behind fs) ∙ product_behind (cases f) (cases_of_all fs)

  no_point : (css : List (List Constraint)) → AllByRecursion HasNoIntegerPoint (map system css) → HasPointIn v css → ⊥
  no_point [] h k = k
  no_point (cs ∷ css) h (inl k) = h.0 (map (atom_value v) (made_of nothing cs).atoms) k
  no_point (cs ∷ css) h (inr k) = no_point css h.1 k

  -- formulas whose systems have no point are not all met
  pub not_all_met : SystemsLaw → KeepsKinds v → (fs : List Formula) → AllByRecursion HasNoIntegerPoint (systems_of fs) → all_met v fs ≡ true → ⊥
  not_all_met points keeps fs shown met = no_point (cases_of_all fs) shown (before (cases_of_all fs) (subst (HasPointIn v) (cases_behind fs) (points v fs never keeps met refl)))
