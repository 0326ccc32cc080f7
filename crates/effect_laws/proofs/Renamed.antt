-- Forms over other variables have their values where these have those of the first.
use Rattle.std.proofs.Common.{◌≡◌, ◌<◌, ◌≤◌, ℕ, max, ℤ, pos, ◌+ℤ◌, ◌*ℤ◌, int_le, ◌&&◌, ◌||◌, List, [], ◌∷◌, map, refl, ap, ap₂, arith}
use Rattle.std.proofs.Math.Nat.{le-max_left, le-max_right}
use Rattle.std.specs.Int.{int_div_euclid}
use Rattle.std.specs.Ordering.{int_eq}
use Rattle.affine_forms.specs.Atoms.{Atom, Variable, EntryField, UnknownField, OpaqueStride, Quotient, Terms, none, term, Linear, Valuation, atom_value, terms_value, value}
use Rattle.affine_forms.specs.Formulas.{Constraint, AtLeastZero, IsZero, Formula, Says, Both, Either, is_kept, is_met, all_met}
use Rattle.exo_effects.specs.Renamed.{re_atom, re_terms, re_linear, re_constraint, re_formula}
use Rattle.exo_effects.specs.Fresh.{past_atom, past_terms, past_linear, past_constraint, past_formula, past_all}

pub left_of : (a b z : ℕ) → max a b ≤ z → a ≤ z
left_of a b z h = omega (arith, h, le-max_left a b)

pub right_of : (a b z : ℕ) → max a b ≤ z → b ≤ z
right_of a b z h = omega (arith, h, le-max_right a b)

-- values with these numbers for variables
abbrev pub with_numbers : Valuation → (ℕ → ℤ) → Valuation
with_numbers v f = record v { variable = f }

-- variables below the bound have under f, renamed, the numbers that they have under g
module _ (v : Valuation) (r : ℕ → ℕ) (f g : ℕ → ℤ) (bound : ℕ) (same : (z : ℕ) → z < bound → f (r z) ≡ g z) where
  mutual
    pub re_atom_value : (a : Atom) → past_atom a ≤ bound → atom_value (with_numbers v f) (re_atom r a) ≡ atom_value (with_numbers v g) a
    re_atom_value (Variable x) h = same x (omega (arith, h))
    re_atom_value (EntryField x kind) h = refl
    re_atom_value (UnknownField x kind path) h = refl
    re_atom_value (OpaqueStride x k) h = refl
    re_atom_value (Quotient n ts c) h = ap (λ t. int_div_euclid (n +ℤ t) c) (re_terms_value ts h)

    pub re_terms_value : (ts : Terms) → past_terms ts ≤ bound → terms_value (with_numbers v f) (re_terms r ts) ≡ terms_value (with_numbers v g) ts
    re_terms_value none h = refl
    re_terms_value (term c a ts) h = ap₂ (λ m n. (c *ℤ m) +ℤ n) (re_atom_value a (left_of (past_atom a) (past_terms ts) bound h)) (re_terms_value ts (right_of (past_atom a) (past_terms ts) bound h))

  pub re_value : (l : Linear) → past_linear l ≤ bound → value (with_numbers v f) (re_linear r l) ≡ value (with_numbers v g) l
  re_value l h = ap (λ n. l.constant +ℤ n) (re_terms_value l.terms h)

  re_kept : (c : Constraint) → past_constraint c ≤ bound → is_kept (with_numbers v f) (re_constraint r c) ≡ is_kept (with_numbers v g) c
  re_kept (AtLeastZero l) h = ap (int_le (pos 0)) (re_value l h)
  re_kept (IsZero l) h = ap (λ n. int_eq n (pos 0)) (re_value l h)

  pub re_met : (k : Formula) → past_formula k ≤ bound → is_met (with_numbers v f) (re_formula r k) ≡ is_met (with_numbers v g) k
  re_met (Says c) h = re_kept c h
  re_met (Both j k) h = ap₂ (λ a b. a && b) (re_met j (left_of (past_formula j) (past_formula k) bound h)) (re_met k (right_of (past_formula j) (past_formula k) bound h))
  re_met (Either j k) h = ap₂ (λ a b. a || b) (re_met j (left_of (past_formula j) (past_formula k) bound h)) (re_met k (right_of (past_formula j) (past_formula k) bound h))

  pub re_all_met : (ks : List Formula) → past_all past_formula ks ≤ bound → all_met (with_numbers v f) (map (re_formula r) ks) ≡ all_met (with_numbers v g) ks
  re_all_met [] h = refl
  re_all_met (k ∷ ks) h = ap₂ (λ a b. a && b) (re_met k (left_of (past_formula k) (past_all past_formula ks) bound h)) (re_all_met ks (right_of (past_formula k) (past_all past_formula ks) bound h))

-- ---- without another variable

mutual
  same_atom : (a : Atom) → re_atom (λ x. x) a ≡ a
  same_atom (Variable x) = refl
  same_atom (EntryField x kind) = refl
  same_atom (UnknownField x kind path) = refl
  same_atom (OpaqueStride x k) = refl
  same_atom (Quotient n ts c) = ap (λ us. Quotient n us c) (same_terms ts)

  same_terms : (ts : Terms) → re_terms (λ x. x) ts ≡ ts
  same_terms none = refl
  same_terms (term c a ts) = ap₂ (term c) (same_atom a) (same_terms ts)

same_constraint : (c : Constraint) → re_constraint (λ x. x) c ≡ c
same_constraint (AtLeastZero l) = ap (λ ts. AtLeastZero (record { constant = l.constant; terms = ts })) (same_terms l.terms)
same_constraint (IsZero l) = ap (λ ts. IsZero (record { constant = l.constant; terms = ts })) (same_terms l.terms)

same_formula : (k : Formula) → re_formula (λ x. x) k ≡ k
same_formula (Says c) = ap Says (same_constraint c)
same_formula (Both j k) = ap₂ Both (same_formula j) (same_formula k)
same_formula (Either j k) = ap₂ Either (same_formula j) (same_formula k)

pub same_formulas : (ks : List Formula) → map (re_formula (λ x. x)) ks ≡ ks
same_formulas [] = refl
same_formulas (k ∷ ks) = ap₂ (λ j js. j ∷ js) (same_formula k) (same_formulas ks)
