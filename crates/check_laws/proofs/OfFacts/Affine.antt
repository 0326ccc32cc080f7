-- Affine expressions: which are, and that scenes that agree on what they read give them the same number.
use Rattle.std.proofs.Common.{◌≡◌, ℕ, ℤ, pos, neg_ℤ, ◌+ℤ◌, ◌-ℤ◌, ◌*ℤ◌, int_lt, int_le, true, ◌&&◌, ◌||◌, List, [], ◌∷◌, Option, refl, ap, ap₂}
use Rattle.std.specs.Int.{is_positive, int_div_euclid, int_rem_euclid}
use Rattle.std.specs.Ordering.{int_eq}
use Rattle.exo_tree.specs.Tree.{Kind, Control, Lit, Var, Field, StrideOf, Neg, Add, Sub, Mul, Div, Mod, Condition, True, False, Flag, FieldFlag, Lt, Le, Gt, Ge, Eq, And, Or}
use Rattle.exo_meaning.specs.Scene.{Scene, number, numbers, holds, is_set, stride_at}
use Rattle.exo_meaning.specs.Units as units
use Rattle.exo_meaning.specs.Units.{Scope, Reads, with_both, sort_in, is_number, is_flag, has_dimension, is_of_literals, is_literal_number, is_control, are_controls, is_condition, field_kind}
use Rattle.affine_forms.specs.Forms.{Allowed, is_affine}
use Rattle.affine_forms.specs.Formulas.{AllowedFlags, is_affine_condition}
use Rattle.affine_forms.specs.Strides.{all_affine}
use Rattle.check_laws.specs.Facts.Laws.{allowed_in, WellFormedIsAllowed}
use Rattle.check_laws.proofs.OfFacts.Truths.{parts, joined}

-- ---- scenes that agree on what is allowed

pub record Agrees (may : Allowed) (s t : Scene) : Type 0 where
  pub control : (x : ℕ) → may.variable x ≡ true → s.control x ≡ t.control x
  pub fields : (f : ℕ) → may.field f ≡ true → s.fields f ≡ t.fields f
  pub strides : (x k : ℕ) → may.stride x k ≡ true → stride_at s (s.views x) k ≡ stride_at t (t.views x) k

module _ (may : Allowed) (s t : Scene) (same : Agrees may s t) where
  two : {A : Type 0} (op : ℤ → ℤ → A) (a b : Control) → (is_affine may a && is_affine may b) ≡ true → (is_affine may a ≡ true → number s a ≡ number t a) → (is_affine may b ≡ true → number s b ≡ number t b) → op (number s a) (number s b) ≡ op (number t a) (number t b)
  two op a b h one other = let p = parts (is_affine may a) (is_affine may b) h in ap₂ op (one p.0) (other p.1)

  pub same_number : (e : Control) → is_affine may e ≡ true → number s e ≡ number t e
  same_number (Lit n) h = refl
  same_number (Var x) h = same.control x h
  same_number (Field f) h = same.fields f h
  same_number (StrideOf x k) h = same.strides x k h
  same_number (Neg a) h = ap neg_ℤ (same_number a h)
  same_number (Add a b) h = two ◌+ℤ◌ a b h (same_number a) (same_number b)
  same_number (Sub a b) h = two ◌-ℤ◌ a b h (same_number a) (same_number b)
  same_number (Mul a b) h = two ◌*ℤ◌ a b (parts (is_of_literals a || is_of_literals b) (is_affine may a && is_affine may b) h).1 (same_number a) (same_number b)
  same_number (Div a c) h = ap (λ n. int_div_euclid n c) (same_number a (parts (is_positive c) (is_affine may a) h).1)
  same_number (Mod a c) h = ap (λ n. int_rem_euclid n c) (same_number a (parts (is_positive c) (is_affine may a) h).1)

  pub same_numbers : (es : List Control) → all_affine may es ≡ true → numbers s es ≡ numbers t es
  same_numbers [] h = refl
  same_numbers (e ∷ es) h = let p = parts (is_affine may e) (all_affine may es) h in ap₂ (λ n ns. n ∷ ns) (same_number e p.0) (same_numbers es p.1)

module _ (may : AllowedFlags) (s t : Scene) (same : Agrees may.numbers s t) (flags : (x : ℕ) → may.variable x ≡ true → s.control x ≡ t.control x) (fields : (f : ℕ) → may.field f ≡ true → s.fields f ≡ t.fields f) where
  sides : {A : Type 0} (op : ℤ → ℤ → A) (a b : Control) → (is_affine may.numbers a && is_affine may.numbers b) ≡ true → op (number s a) (number s b) ≡ op (number t a) (number t b)
  sides op a b h = two may.numbers s t same op a b h (same_number may.numbers s t same a) (same_number may.numbers s t same b)

  pub same_truth : (c : Condition) → is_affine_condition may c ≡ true → holds s c ≡ holds t c
  same_truth True h = refl
  same_truth False h = refl
  same_truth (Flag x) h = ap is_set (flags x h)
  same_truth (FieldFlag f) h = ap is_set (fields f h)
  same_truth (Lt a b) h = sides int_lt a b h
  same_truth (Le a b) h = sides int_le a b h
  same_truth (Gt a b) h = sides (λ m n. int_lt n m) a b h
  same_truth (Ge a b) h = sides (λ m n. int_le n m) a b h
  same_truth (Eq a b) h = sides int_eq a b h
  same_truth (And c d) h = let p = parts (is_affine_condition may c) (is_affine_condition may d) h in ap₂ ◌&&◌ (same_truth c p.0) (same_truth d p.1)
  same_truth (Or c d) h = let p = parts (is_affine_condition may c) (is_affine_condition may d) h in ap₂ ◌||◌ (same_truth c p.0) (same_truth d p.1)

-- ---- what is allowed may grow

pub record Grows (may more : Allowed) : Type 0 where
  pub variables : (x : ℕ) → may.variable x ≡ true → more.variable x ≡ true
  pub fields : (f : ℕ) → may.field f ≡ true → more.field f ≡ true
  pub strides : (x k : ℕ) → may.stride x k ≡ true → more.stride x k ≡ true

module _ (may more : Allowed) (grows : Grows may more) where
  pub more_affine : (e : Control) → is_affine may e ≡ true → is_affine more e ≡ true
  more_affine (Lit n) h = refl
  more_affine (Var x) h = grows.variables x h
  more_affine (Field f) h = grows.fields f h
  more_affine (StrideOf x k) h = grows.strides x k h
  more_affine (Neg a) h = more_affine a h
  more_affine (Add a b) h = let p = parts (is_affine may a) (is_affine may b) h in joined (is_affine more a) (is_affine more b) (more_affine a p.0) (more_affine b p.1)
  more_affine (Sub a b) h = let p = parts (is_affine may a) (is_affine may b) h in joined (is_affine more a) (is_affine more b) (more_affine a p.0) (more_affine b p.1)
  more_affine (Mul a b) h =
      let q = parts (is_of_literals a || is_of_literals b) (is_affine may a && is_affine may b) h in
      let p = parts (is_affine may a) (is_affine may b) q.1 in
      joined (is_of_literals a || is_of_literals b) (is_affine more a && is_affine more b) q.0 (joined (is_affine more a) (is_affine more b) (more_affine a p.0) (more_affine b p.1))
  more_affine (Div a c) h = let p = parts (is_positive c) (is_affine may a) h in joined (is_positive c) (is_affine more a) p.0 (more_affine a p.1)
  more_affine (Mod a c) h = let p = parts (is_positive c) (is_affine may a) h in joined (is_positive c) (is_affine more a) p.0 (more_affine a p.1)

  pub more_sides : (a b : Control) → (is_affine may a && is_affine may b) ≡ true → (is_affine more a && is_affine more b) ≡ true
  more_sides a b h = let p = parts (is_affine may a) (is_affine may b) h in joined (is_affine more a) (is_affine more b) (more_affine a p.0) (more_affine b p.1)

module _ (may more : AllowedFlags) (grows : Grows may.numbers more.numbers) (flags : (x : ℕ) → may.variable x ≡ true → more.variable x ≡ true) (fields : (f : ℕ) → may.field f ≡ true → more.field f ≡ true) where
  pub more_affine_condition : (c : Condition) → is_affine_condition may c ≡ true → is_affine_condition more c ≡ true
  more_affine_condition True h = refl
  more_affine_condition False h = refl
  more_affine_condition (Flag x) h = flags x h
  more_affine_condition (FieldFlag f) h = fields f h
  more_affine_condition (Lt a b) h = more_sides may.numbers more.numbers grows a b h
  more_affine_condition (Le a b) h = more_sides may.numbers more.numbers grows a b h
  more_affine_condition (Gt a b) h = more_sides may.numbers more.numbers grows a b h
  more_affine_condition (Ge a b) h = more_sides may.numbers more.numbers grows a b h
  more_affine_condition (Eq a b) h = more_sides may.numbers more.numbers grows a b h
  more_affine_condition (And c d) h = let p = parts (is_affine_condition may c) (is_affine_condition may d) h in joined (is_affine_condition more c) (is_affine_condition more d) (more_affine_condition c p.0) (more_affine_condition d p.1)
  more_affine_condition (Or c d) h = let p = parts (is_affine_condition may c) (is_affine_condition may d) h in joined (is_affine_condition more c) (is_affine_condition more d) (more_affine_condition c p.0) (more_affine_condition d p.1)

-- ---- well-formed expressions are affine

-- all that a scope lets an expression read is allowed
pub record Allows (fields : ℕ → Option Kind) (reads : Reads) (scope : Scope) (may : Allowed) : Type 0 where
  pub variables : (x : ℕ) → is_number (sort_in scope x) ≡ true → may.variable x ≡ true
  pub of_fields : (f : ℕ) → (reads.fields && units.is_number_field fields (fields f)) ≡ true → may.field f ≡ true
  pub strides : (x k : ℕ) → (reads.strides && has_dimension k (sort_in scope x)) ≡ true → may.stride x k ≡ true

module _ (fields : ℕ → Option Kind) (reads : Reads) (scope : Scope) (may : Allowed) (allows : Allows fields reads scope may) where
  pub affine : (e : Control) → is_control fields reads scope e ≡ true → is_affine may e ≡ true
  affine (Lit n) h = refl
  affine (Var x) h = allows.variables x h
  affine (Field f) h = allows.of_fields f h
  affine (StrideOf x k) h = allows.strides x k h
  affine (Neg a) h = affine a h
  affine (Add a b) h = let p = parts (is_control fields reads scope a) (is_control fields reads scope b) h in joined (is_affine may a) (is_affine may b) (affine a p.0) (affine b p.1)
  affine (Sub a b) h = let p = parts (is_control fields reads scope a) (is_control fields reads scope b) h in joined (is_affine may a) (is_affine may b) (affine a p.0) (affine b p.1)
  affine (Mul a b) h =
      let q = parts (is_control fields reads scope a && is_control fields reads scope b) (is_of_literals a || is_of_literals b) h in
      let p = parts (is_control fields reads scope a) (is_control fields reads scope b) q.0 in
      joined (is_of_literals a || is_of_literals b) (is_affine may a && is_affine may b) q.1 (joined (is_affine may a) (is_affine may b) (affine a p.0) (affine b p.1))
  affine (Div a c) h = let p = parts (is_control fields reads scope a) (is_literal_number c && int_lt (pos 0) c) h in joined (is_positive c) (is_affine may a) (parts (is_literal_number c) (int_lt (pos 0) c) p.1).1 (affine a p.0)
  affine (Mod a c) h = let p = parts (is_control fields reads scope a) (is_literal_number c && int_lt (pos 0) c) h in joined (is_positive c) (is_affine may a) (parts (is_literal_number c) (int_lt (pos 0) c) p.1).1 (affine a p.0)

  pub affine_sides : (a b : Control) → (is_control fields reads scope a && is_control fields reads scope b) ≡ true → (is_affine may a && is_affine may b) ≡ true
  affine_sides a b h = let p = parts (is_control fields reads scope a) (is_control fields reads scope b) h in joined (is_affine may a) (is_affine may b) (affine a p.0) (affine b p.1)

  pub all_are_affine : (es : List Control) → are_controls fields reads scope es ≡ true → all_affine may es ≡ true
  all_are_affine [] h = refl
  all_are_affine (e ∷ es) h = let p = parts (is_control fields reads scope e) (are_controls fields reads scope es) h in joined (is_affine may e) (all_affine may es) (affine e p.0) (all_are_affine es p.1)

module _ (fields : ℕ → Option Kind) (reads : Reads) (scope : Scope) (may : AllowedFlags) (allows : Allows fields reads scope may.numbers) (flags : (x : ℕ) → is_flag (sort_in scope x) ≡ true → may.variable x ≡ true) (flag_fields : (f : ℕ) → (reads.fields && units.is_flag_field fields (fields f)) ≡ true → may.field f ≡ true) where
  pub affine_condition : (c : Condition) → is_condition fields reads scope c ≡ true → is_affine_condition may c ≡ true
  affine_condition True h = refl
  affine_condition False h = refl
  affine_condition (Flag x) h = flags x h
  affine_condition (FieldFlag f) h = flag_fields f h
  affine_condition (Lt a b) h = affine_sides fields reads scope may.numbers allows a b h
  affine_condition (Le a b) h = affine_sides fields reads scope may.numbers allows a b h
  affine_condition (Gt a b) h = affine_sides fields reads scope may.numbers allows a b h
  affine_condition (Ge a b) h = affine_sides fields reads scope may.numbers allows a b h
  affine_condition (Eq a b) h = affine_sides fields reads scope may.numbers allows a b h
  affine_condition (And c d) h = let p = parts (is_condition fields reads scope c) (is_condition fields reads scope d) h in joined (is_affine_condition may c) (is_affine_condition may d) (affine_condition c p.0) (affine_condition d p.1)
  affine_condition (Or c d) h = let p = parts (is_condition fields reads scope c) (is_condition fields reads scope d) h in joined (is_affine_condition may c) (is_affine_condition may d) (affine_condition c p.0) (affine_condition d p.1)

pub well_formed_is_allowed : WellFormedIsAllowed
well_formed_is_allowed fields scope =
    let allows : Allows (field_kind fields) with_both scope (allowed_in fields scope).numbers = record { variables = λ x h. refl; of_fields = λ f h. h; strides = λ x k h. h } in
    (affine (field_kind fields) with_both scope (allowed_in fields scope).numbers allows, affine_condition (field_kind fields) with_both scope (allowed_in fields scope) allows (λ x h. h) (λ f h. h))
