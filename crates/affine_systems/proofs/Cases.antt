-- What does not hold, and the cases of what holds.
use Rattle.std.proofs.Common.{◌≡◌, zero, suc, ℤ, pos, negsuc, ◌-ℤ◌, neg_ℤ, int_le, Bool, true, false, not, ◌&&◌, ◌||◌, List, [], ◌∷◌, ◌++◌, map, arith, refl, sym, ap, ap₂, ◌∙◌}
use Rattle.std.proofs.lemmas.Int.{ints}
use Rattle.std.specs.List.{list_any}
use Rattle.std.specs.Ordering.{int_eq}
use Rattle.affine_forms.specs.Atoms.{Linear, Valuation, value, scaled}
use Rattle.affine_forms.specs.Formulas.{Constraint, AtLeastZero, IsZero, Formula, Says, Both, Either, moved, denied, negation, is_kept, is_met, all_met, all_kept, product, cases, cases_of_all}
use Rattle.affine_forms.proofs.Values.{negated_value}

below_zero : (z : ℤ) → int_le (pos 0) (neg_ℤ z -ℤ pos 1) ≡ not (int_le (pos 0) z)
below_zero (pos n) = grind (arith, ints)
below_zero (negsuc n) = grind (arith, ints)

other_than_zero : (z : ℤ) → (int_le (pos 0) (neg_ℤ z -ℤ pos 1) || int_le (pos 0) (z -ℤ pos 1)) ≡ not (int_eq z (pos 0))
other_than_zero (pos zero) = refl
other_than_zero (pos (suc n)) = grind (arith, ints)
other_than_zero (negsuc n) = grind (arith, ints)

module _ (v : Valuation) where
  pub moved_value : (n : ℤ) (l : Linear) → value v (moved n l) ≡ value v l -ℤ n
  moved_value n l = omega (arith, ints)

  below_value : (l : Linear) → value v (moved (pos 1) (scaled (negsuc 0) l)) ≡ neg_ℤ (value v l) -ℤ pos 1
  below_value l = moved_value (pos 1) (scaled (negsuc 0) l) ∙ ap (λ z. z -ℤ pos 1) (negated_value v l)

  denied_met : (c : Constraint) → is_met v (denied c) ≡ not (is_kept v c)
  denied_met (AtLeastZero l) = ap (int_le (pos 0)) (below_value l) ∙ below_zero (value v l)
  denied_met (IsZero l) = ap₂ (λ x y. int_le (pos 0) x || int_le (pos 0) y) (below_value l) (moved_value (pos 1) l) ∙ other_than_zero (value v l)

  not_and : (a b : Bool) → (not a || not b) ≡ not (a && b)
  not_and true b = refl
  not_and false b = refl

  not_or : (a b : Bool) → (not a && not b) ≡ not (a || b)
  not_or true b = refl
  not_or false b = refl

  pub negation_met : (f : Formula) → is_met v (negation f) ≡ not (is_met v f)
  negation_met (Says c) = denied_met c
  negation_met (Both f g) = ap₂ (λ a b. a || b) (negation_met f) (negation_met g) ∙ not_and (is_met v f) (is_met v g)
  negation_met (Either f g) = ap₂ (λ a b. a && b) (negation_met f) (negation_met g) ∙ not_or (is_met v f) (is_met v g)

  -- ---- cases

  and_assoc : (a b c : Bool) → ((a && b) && c) ≡ (a && (b && c))
  and_assoc true b c = refl
  and_assoc false b c = refl

  all_append : (xs ys : List Constraint) → all_kept v (xs ++ ys) ≡ (all_kept v xs && all_kept v ys)
  all_append [] ys = refl
  all_append (x ∷ xs) ys = ap (λ t. is_kept v x && t) (all_append xs ys) ∙ sym (and_assoc (is_kept v x) (all_kept v xs) (all_kept v ys))

  abbrev pub some_kept : List (List Constraint) → Bool
  some_kept css = list_any (all_kept v) css

  or_assoc : (a b c : Bool) → ((a || b) || c) ≡ (a || (b || c))
  or_assoc true b c = refl
  or_assoc false b c = refl

  some_append : (xs ys : List (List Constraint)) → some_kept (xs ++ ys) ≡ (some_kept xs || some_kept ys)
  some_append [] ys = refl
  some_append (x ∷ xs) ys = ap (λ t. all_kept v x || t) (some_append xs ys) ∙ sym (or_assoc (all_kept v x) (some_kept xs) (some_kept ys))

  and_or : (a b c : Bool) → ((a && b) || (a && c)) ≡ (a && (b || c))
  and_or true b c = refl
  and_or false b c = refl

  or_and : (a b c : Bool) → ((a && c) || (b && c)) ≡ ((a || b) && c)
  or_and true true true = refl
  or_and true true false = refl
  or_and true false true = refl
  or_and true false false = refl
  or_and false b c = refl

  and_false : (a : Bool) → false ≡ (a && false)
  and_false true = refl
  and_false false = refl

  some_each : (x : List Constraint) (ys : List (List Constraint)) → some_kept (map (λ y. x ++ y) ys) ≡ (all_kept v x && some_kept ys)
  some_each x [] = and_false (all_kept v x)
  some_each x (y ∷ ys) = ap₂ (λ a b. a || b) (all_append x y) (some_each x ys) ∙ and_or (all_kept v x) (all_kept v y) (some_kept ys)

  some_product : (xs ys : List (List Constraint)) → some_kept (product xs ys) ≡ (some_kept xs && some_kept ys)
  some_product [] ys = refl
  some_product (x ∷ xs) ys = some_append (map (λ y. x ++ y) ys) (product xs ys) ∙ ap₂ (λ a b. a || b) (some_each x ys) (some_product xs ys) ∙ or_and (all_kept v x) (some_kept xs) (some_kept ys)

  and_true : (a : Bool) → (a && true) ≡ a
  and_true true = refl
  and_true false = refl

  or_false : (a : Bool) → (a || false) ≡ a
  or_false true = refl
  or_false false = refl

  -- a formula holds where one of its cases does
  pub cases_met : (f : Formula) → some_kept (cases f) ≡ is_met v f
  cases_met (Says c) = or_false (is_kept v c && true) ∙ and_true (is_kept v c)
  cases_met (Both f g) = some_product (cases f) (cases g) ∙ ap₂ (λ a b. a && b) (cases_met f) (cases_met g)
  cases_met (Either f g) = some_append (cases f) (cases g) ∙ ap₂ (λ a b. a || b) (cases_met f) (cases_met g)

  pub all_cases_met : (fs : List Formula) → some_kept (cases_of_all fs) ≡ all_met v fs
  all_cases_met [] = refl
  all_cases_met (f ∷ fs) = some_product (cases f) (cases_of_all fs) ∙ ap₂ (λ a b. a && b) (cases_met f) (all_cases_met fs)

  pub all_met_append : (fs gs : List Formula) → all_met v (fs ++ gs) ≡ (all_met v fs && all_met v gs)
  all_met_append [] gs = refl
  all_met_append (f ∷ fs) gs = ap (λ t. is_met v f && t) (all_met_append fs gs) ∙ sym (and_assoc (is_met v f) (all_met v fs) (all_met v gs))
