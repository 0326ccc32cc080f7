-- The variables of a form are below a number where those of its expression are.
use Rattle.std.proofs.Common.{◌≡◌, ◌<◌, ◌≤◌, zero, suc, ℕ, max, nat_lt, ℤ, pos, negsuc, ◌+ℤ◌, Bool, true, false, cond, ◌&&◌, ◌||◌, refl, ap, ap₂, arith}
use Rattle.std.proofs.lemmas.Bool.Decides.{nat_tests}
use Rattle.std.specs.Int.{int_div_euclid, int_rem_euclid, is_positive}
use Rattle.std.specs.Ordering.{int_eq}
use Rattle.exo_tree.specs.Tree.{Control, Lit, Var, Field, StrideOf, Neg, Add, Sub, Mul, Div, Mod, Condition, True, False, Flag, FieldFlag, Lt, Le, Gt, Ge, Eq, And, Or}
use Rattle.exo_meaning.specs.Units.{is_of_literals}
use Rattle.affine_forms.specs.Atoms.{Atom, Variable, only, Terms, none, term, Linear, same_atom, with_term, terms_added, terms_scaled, added, scaled, subtracted, present, divides, divided, undivided, quotient_of, quotient}
use Rattle.affine_forms.specs.Forms.{Reading, form, normal, times, is_affine, keeps_rules}
use Rattle.affine_forms.specs.Formulas.{Constraint, AtLeastZero, IsZero, Formula, Says, Both, Either, Flags, own_flag, formula, difference, denied, negation, is_affine_condition, condition_keeps_rules}
use Rattle.affine_places.specs.Readings.{extent_reading}
use Rattle.exo_effects.specs.Accesses.{own_flags, plain_form, plain_formula}
use Rattle.effect_conflicts.specs.Copies.{numbers_below, names_below}
use Rattle.exo_effects.specs.Fresh.{past_atom, past_terms, past_linear, past_constraint, past_formula}
use Rattle.effect_conflicts.proofs.RenamedTwice.{left_of, right_of}

pub max_within : (a b n : ℕ) → a ≤ n → b ≤ n → max a b ≤ n
max_within a b n h k = grind arith

pub lt_from : (x n : ℕ) → nat_lt x n ≡ true → x < n
lt_from x n h = grind (arith, nat_tests)

pub both_true : (s t : Bool) → (s && t) ≡ true → (s ≡ true) × (t ≡ true)
both_true true t h = (refl, h)
both_true false t h = absurd (let e : false ≡ true = h in cc)

module _ (n : ℕ) where
  scaled_terms_past : (z : ℤ) (ts : Terms) → past_terms (terms_scaled z ts) ≡ past_terms ts
  scaled_terms_past z none = refl
  scaled_terms_past z (term c a ts) = ap (max (past_atom a)) (scaled_terms_past z ts)

  with_term_past : (c : ℤ) (a : Atom) (ts : Terms) → past_atom a ≤ n → past_terms ts ≤ n → past_terms (with_term c a ts) ≤ n
  with_term_past c a none h k = max_within (past_atom a) zero n h (omega arith)
  with_term_past c a (term d b ts) h k = go (same_atom a b) (with_term_past c a ts h (right_of (past_atom b) (past_terms ts) n k))
    where
      go : (t : Bool) → past_terms (with_term c a ts) ≤ n → past_terms (cond t (term (c +ℤ d) b ts) (term d b (with_term c a ts))) ≤ n
      go true m = k
      go false m = max_within (past_atom b) (past_terms (with_term c a ts)) n (left_of (past_atom b) (past_terms ts) n k) m

  terms_added_past : (ts us : Terms) → past_terms ts ≤ n → past_terms us ≤ n → past_terms (terms_added ts us) ≤ n
  terms_added_past ts none h k = h
  terms_added_past ts (term c a us) h k = terms_added_past (with_term c a ts) us (with_term_past c a ts (left_of (past_atom a) (past_terms us) n k) h) (right_of (past_atom a) (past_terms us) n k)

  scaled_past : (z : ℤ) (l : Linear) → past_linear l ≤ n → past_linear (scaled z l) ≤ n
  scaled_past z l h = omega (arith, h, scaled_terms_past z l.terms)

  added_past : (k l : Linear) → past_linear k ≤ n → past_linear l ≤ n → past_linear (added k l) ≤ n
  added_past k l g h = terms_added_past k.terms l.terms g h

  subtracted_past : (k l : Linear) → past_linear k ≤ n → past_linear l ≤ n → past_linear (subtracted k l) ≤ n
  subtracted_past k l g h = added_past k (scaled (negsuc 0) l) g (scaled_past (negsuc 0) l h)

  present_past : (ts : Terms) → past_terms ts ≤ n → past_terms (present ts) ≤ n
  present_past none h = h
  present_past (term c a ts) h = go (int_eq c (pos 0)) (present_past ts (right_of (past_atom a) (past_terms ts) n h))
    where
      go : (t : Bool) → past_terms (present ts) ≤ n → past_terms (cond t (present ts) (term c a (present ts))) ≤ n
      go true m = m
      go false m = max_within (past_atom a) (past_terms (present ts)) n (left_of (past_atom a) (past_terms ts) n h) m

  divided_past : (z : ℤ) (ts : Terms) → past_terms ts ≤ n → past_terms (divided z ts) ≤ n
  divided_past z none h = h
  divided_past z (term c a ts) h = go (divides z c) (divided_past z ts (right_of (past_atom a) (past_terms ts) n h))
    where
      go : (t : Bool) → past_terms (divided z ts) ≤ n → past_terms (cond t (term (int_div_euclid c z) a (divided z ts)) (divided z ts)) ≤ n
      go true m = max_within (past_atom a) (past_terms (divided z ts)) n (left_of (past_atom a) (past_terms ts) n h) m
      go false m = m

  undivided_past : (z : ℤ) (ts : Terms) → past_terms ts ≤ n → past_terms (undivided z ts) ≤ n
  undivided_past z none h = h
  undivided_past z (term c a ts) h = go (divides z c) (undivided_past z ts (right_of (past_atom a) (past_terms ts) n h))
    where
      go : (t : Bool) → past_terms (undivided z ts) ≤ n → past_terms (cond t (undivided z ts) (term c a (undivided z ts))) ≤ n
      go true m = m
      go false m = max_within (past_atom a) (past_terms (undivided z ts)) n (left_of (past_atom a) (past_terms ts) n h) m

  quotient_of_past : (m : ℤ) (ts : Terms) (z : ℤ) → past_terms ts ≤ n → past_terms (quotient_of m ts z) ≤ n
  quotient_of_past m none z h = h
  quotient_of_past m (term c a ts) z h = max_within (past_terms (term c a ts)) zero n h (omega arith)

  quotient_past : (l : Linear) (z : ℤ) → past_linear l ≤ n → past_linear (quotient l z) ≤ n
  quotient_past l z h =
      terms_added_past (divided z l.terms) (quotient_of (int_rem_euclid l.constant z) (undivided z l.terms) z) (divided_past z l.terms h)
      (quotient_of_past (int_rem_euclid l.constant z) (undivided z l.terms) z (undivided_past z l.terms h))

  pub times_past : (by_left : Bool) (k l : Linear) → past_linear k ≤ n → past_linear l ≤ n → past_linear (times by_left k l) ≤ n
  times_past true k l g h = scaled_past k.constant l h
  times_past false k l g h = scaled_past l.constant k g

  -- what stands for variables, fields and strides is so
  pub record IsPast (at : Reading) : Type 0 where
    pub variable : (x : ℕ) → x < n → past_linear (at.variable x) ≤ n
    pub field : (f : ℕ) → past_linear (at.field f) ≤ n
    pub stride : (x k : ℕ) → past_linear (at.stride x k) ≤ n

  module _ (at : Reading) (past : IsPast at) where
    pub form_past : (e : Control) → is_affine (numbers_below n) e ≡ true → past_linear (form at e) ≤ n
    form_past (Lit m) h = omega arith
    form_past (Var x) h = past.variable x (lt_from x n h)
    form_past (Field f) h = past.field f
    form_past (StrideOf x k) h = past.stride x k
    form_past (Neg a) h = scaled_past (negsuc 0) (form at a) (form_past a h)
    form_past (Add a b) h =
        let p = both_true (is_affine (numbers_below n) a) (is_affine (numbers_below n) b) h in
        added_past (form at a) (form at b) (form_past a p.0) (form_past b p.1)
    form_past (Sub a b) h =
        let p = both_true (is_affine (numbers_below n) a) (is_affine (numbers_below n) b) h in
        subtracted_past (form at a) (form at b) (form_past a p.0) (form_past b p.1)
    form_past (Mul a b) h =
        let q = both_true (is_of_literals a || is_of_literals b) (is_affine (numbers_below n) a && is_affine (numbers_below n) b) h in
        let p = both_true (is_affine (numbers_below n) a) (is_affine (numbers_below n) b) q.1 in
        times_past (is_of_literals a) (form at a) (form at b) (form_past a p.0) (form_past b p.1)
    form_past (Div a c) h =
        let p = both_true (is_positive c) (is_affine (numbers_below n) a) h in
        quotient_past (form at a) c (form_past a p.1)
    form_past (Mod a c) h =
        let p = both_true (is_positive c) (is_affine (numbers_below n) a) h in
        let l = form at a in
        subtracted_past l (scaled c (quotient l c)) (form_past a p.1) (scaled_past c (quotient l c) (quotient_past l c (form_past a p.1)))

    pub normal_past : (e : Control) → is_affine (numbers_below n) e ≡ true → past_linear (normal at e) ≤ n
    normal_past e h = present_past (form at e).terms (form_past e h)

  -- ---- formulas

  difference_past : (k l : Linear) → past_linear k ≤ n → past_linear l ≤ n → past_linear (difference k l) ≤ n
  difference_past k l g h = present_past (subtracted k l).terms (subtracted_past k l g h)

  denied_past : (c : Constraint) → past_constraint c ≤ n → past_formula (denied c) ≤ n
  denied_past (AtLeastZero l) h = scaled_past (negsuc 0) l h
  denied_past (IsZero l) h = max_within (past_linear (scaled (negsuc 0) l)) (past_linear l) n (scaled_past (negsuc 0) l h) h

  pub negation_past : (f : Formula) → past_formula f ≤ n → past_formula (negation f) ≤ n
  negation_past (Says c) h = denied_past c h
  negation_past (Both f g) h = max_within (past_formula (negation f)) (past_formula (negation g)) n (negation_past f (left_of (past_formula f) (past_formula g) n h)) (negation_past g (right_of (past_formula f) (past_formula g) n h))
  negation_past (Either f g) h = max_within (past_formula (negation f)) (past_formula (negation g)) n (negation_past f (left_of (past_formula f) (past_formula g) n h)) (negation_past g (right_of (past_formula f) (past_formula g) n h))

  abbrev allowed : Condition → Bool
  allowed c = is_affine_condition (names_below n) c

  module _ (at : Reading) (past : IsPast at) where
    sides_past : (a b : Control) → (is_affine (numbers_below n) a && is_affine (numbers_below n) b) ≡ true → past_linear (difference (normal at a) (normal at b)) ≤ n
    sides_past a b h =
        let p = both_true (is_affine (numbers_below n) a) (is_affine (numbers_below n) b) h in
        difference_past (normal at a) (normal at b) (normal_past at past a p.0) (normal_past at past b p.1)

    other_past : (a b : Control) → (is_affine (numbers_below n) a && is_affine (numbers_below n) b) ≡ true → past_linear (difference (normal at b) (normal at a)) ≤ n
    other_past a b h =
        let p = both_true (is_affine (numbers_below n) a) (is_affine (numbers_below n) b) h in
        difference_past (normal at b) (normal at a) (normal_past at past b p.1) (normal_past at past a p.0)

    module _
        (flags : Flags)
        (variable : (x : ℕ) → x < n → past_formula (flags.variable x) ≤ n)
        (field : (f : ℕ) → past_formula (flags.field f) ≤ n)
      where
        pub formula_past : (c : Condition) → is_affine_condition (names_below n) c ≡ true → past_formula (formula at flags c) ≤ n
        formula_past True h = omega arith
        formula_past False h = omega arith
        formula_past (Flag x) h = variable x (lt_from x n h)
        formula_past (FieldFlag f) h = field f
        formula_past (Lt a b) h = other_past a b h
        formula_past (Le a b) h = other_past a b h
        formula_past (Gt a b) h = sides_past a b h
        formula_past (Ge a b) h = sides_past a b h
        formula_past (Eq a b) h = sides_past a b h
        formula_past (And c d) h =
            let p = both_true (allowed c) (allowed d) h in
            max_within (past_formula (formula at flags c)) (past_formula (formula at flags d)) n (formula_past c p.0) (formula_past d p.1)
        formula_past (Or c d) h =
            let p = both_true (allowed c) (allowed d) h in
            max_within (past_formula (formula at flags c)) (past_formula (formula at flags d)) n (formula_past c p.0) (formula_past d p.1)

  -- ---- over variables alone

  pub only_past : (x : ℕ) → x < n → past_linear (only (Variable x)) ≤ n
  only_past x h = max_within (suc x) zero n (omega (arith, h)) (omega arith)

  pub own_flag_past : (x : ℕ) → x < n → past_formula (own_flag x) ≤ n
  own_flag_past x h = only_past x h

  pub extents_past : IsPast extent_reading
  extents_past = record {
    variable = only_past;
    field = λ f. omega arith;
    stride = λ x k. omega arith;
  }

  pub plain_past : (e : Control) → is_affine (numbers_below n) e ≡ true → past_linear (plain_form e) ≤ n
  plain_past e h = normal_past extent_reading extents_past e h

  pub plain_formula_past : (c : Condition) → is_affine_condition (names_below n) c ≡ true → past_formula (plain_formula c) ≤ n
  plain_formula_past c h = formula_past extent_reading extents_past own_flags own_flag_past (λ f. omega arith) c h

  -- ---- what keeps the rules

  pub rules_kept : (e : Control) → is_affine (numbers_below n) e ≡ true → keeps_rules e ≡ true
  rules_kept (Lit m) h = refl
  rules_kept (Var x) h = refl
  rules_kept (Field f) h = refl
  rules_kept (StrideOf x k) h = refl
  rules_kept (Neg a) h = rules_kept a h
  rules_kept (Add a b) h =
      let p = both_true (is_affine (numbers_below n) a) (is_affine (numbers_below n) b) h in
      ap₂ (λ s t. s && t) (rules_kept a p.0) (rules_kept b p.1)
  rules_kept (Sub a b) h =
      let p = both_true (is_affine (numbers_below n) a) (is_affine (numbers_below n) b) h in
      ap₂ (λ s t. s && t) (rules_kept a p.0) (rules_kept b p.1)
  rules_kept (Mul a b) h =
      let q = both_true (is_of_literals a || is_of_literals b) (is_affine (numbers_below n) a && is_affine (numbers_below n) b) h in
      let p = both_true (is_affine (numbers_below n) a) (is_affine (numbers_below n) b) q.1 in
      ap₂ (λ s t. s && t) q.0 (ap₂ (λ s t. s && t) (rules_kept a p.0) (rules_kept b p.1))
  rules_kept (Div a c) h =
      let p = both_true (is_positive c) (is_affine (numbers_below n) a) h in
      ap₂ (λ s t. s && t) p.0 (rules_kept a p.1)
  rules_kept (Mod a c) h =
      let p = both_true (is_positive c) (is_affine (numbers_below n) a) h in
      ap₂ (λ s t. s && t) p.0 (rules_kept a p.1)

  sides_kept : (a b : Control) → (is_affine (numbers_below n) a && is_affine (numbers_below n) b) ≡ true → (keeps_rules a && keeps_rules b) ≡ true
  sides_kept a b h =
      let p = both_true (is_affine (numbers_below n) a) (is_affine (numbers_below n) b) h in
      ap₂ (λ s t. s && t) (rules_kept a p.0) (rules_kept b p.1)

  pub condition_rules_kept : (c : Condition) → is_affine_condition (names_below n) c ≡ true → condition_keeps_rules c ≡ true
  condition_rules_kept True h = refl
  condition_rules_kept False h = refl
  condition_rules_kept (Flag x) h = refl
  condition_rules_kept (FieldFlag f) h = refl
  condition_rules_kept (Lt a b) h = sides_kept a b h
  condition_rules_kept (Le a b) h = sides_kept a b h
  condition_rules_kept (Gt a b) h = sides_kept a b h
  condition_rules_kept (Ge a b) h = sides_kept a b h
  condition_rules_kept (Eq a b) h = sides_kept a b h
  condition_rules_kept (And c d) h =
      let p = both_true (allowed c) (allowed d) h in
      ap₂ (λ s t. s && t) (condition_rules_kept c p.0) (condition_rules_kept d p.1)
  condition_rules_kept (Or c d) h =
      let p = both_true (allowed c) (allowed d) h in
      ap₂ (λ s t. s && t) (condition_rules_kept c p.0) (condition_rules_kept d p.1)
