-- The forms of expressions of a copy are those of the expressions over its variables.
use Rattle.std.proofs.Common.{◌≡◌, ◌<◌, ◌≤◌, ◌==◌, ◌+◌, ◌*◌, suc, ℕ, nat_lt, Bool, true, false, cond, ◌&&◌, ◌||◌, List, [], ◌∷◌, length, Option, Some, None, option_map, refl, sym, ap, ap₂, ◌∙◌, arith, negsuc}
use Rattle.std.proofs.lemmas.Bool.Decides.{nat_tests}
use Rattle.std.specs.Int.{is_positive}
use Rattle.exo_tree.specs.Tree.{Control, Lit, Var, Field, StrideOf, Neg, Add, Sub, Mul, Div, Mod, Condition, True, False, Flag, FieldFlag, Lt, Le, Gt, Ge, Eq, And, Or}
use Rattle.exo_meaning.specs.Units.{is_of_literals}
use Rattle.affine_forms.specs.Atoms.{Linear, Variable, only, added, scaled, subtracted, quotient}
use Rattle.affine_forms.specs.Forms.{form, normal, times, without_zeros, is_short_form, is_affine, is_writable}
use Rattle.affine_forms.specs.Formulas.{Formula, Both, Either, less, at_most, equal, formula, own_flag, is_affine_condition, is_writable_condition}
use Rattle.exo_effects.specs.Accesses.{plain_form, plain_fits, plain_formula, plain_formula_fits}
use Rattle.exo_effects.specs.Conflicts.{place_in, turn_number, own_number, apart}
use Rattle.effect_conflicts.specs.Copies.{reading_by, flags_by, numbers_below, names_below}
use Rattle.exo_effects.specs.Renamed.{re_linear, re_formula}
use Rattle.effect_conflicts.proofs.RenamedTerms.{KeepsApart}
use Rattle.effect_conflicts.proofs.RenamedForms.{re_normal, re_writable, re_plain_formula}
use Rattle.effect_conflicts.proofs.RenamedForms.{re_condition_writable}
use Rattle.effect_conflicts.proofs.RenamedTwice.{linear_alike, formula_alike}
use Rattle.effect_conflicts.proofs.PastForms.{both_true, lt_from, plain_past, plain_formula_past}

-- ---- readings that agree below a number

module _ (n : ℕ) (r s : ℕ → ℕ) (agree : (x : ℕ) → x < n → r x ≡ s x) where
  form_alike : (e : Control) → is_affine (numbers_below n) e ≡ true → form (reading_by r) e ≡ form (reading_by s) e
  form_alike (Lit m) h = refl
  form_alike (Var x) h = ap (λ y. only (Variable y)) (agree x (lt_from x n h))
  form_alike (Field f) h = refl
  form_alike (StrideOf x k) h = refl
  form_alike (Neg a) h = ap (scaled (negsuc 0)) (form_alike a h)
  form_alike (Add a b) h =
      let p = both_true (is_affine (numbers_below n) a) (is_affine (numbers_below n) b) h in
      ap₂ added (form_alike a p.0) (form_alike b p.1)
  form_alike (Sub a b) h =
      let p = both_true (is_affine (numbers_below n) a) (is_affine (numbers_below n) b) h in
      ap₂ subtracted (form_alike a p.0) (form_alike b p.1)
  form_alike (Mul a b) h =
      let q = both_true (is_of_literals a || is_of_literals b) (is_affine (numbers_below n) a && is_affine (numbers_below n) b) h in
      let p = both_true (is_affine (numbers_below n) a) (is_affine (numbers_below n) b) q.1 in
      ap₂ (times (is_of_literals a)) (form_alike a p.0) (form_alike b p.1)
  form_alike (Div a c) h =
      let p = both_true (is_positive c) (is_affine (numbers_below n) a) h in
      ap (λ l. quotient l c) (form_alike a p.1)
  form_alike (Mod a c) h =
      let p = both_true (is_positive c) (is_affine (numbers_below n) a) h in
      ap (λ l. subtracted l (scaled c (quotient l c))) (form_alike a p.1)

  normal_alike : (e : Control) → is_affine (numbers_below n) e ≡ true → normal (reading_by r) e ≡ normal (reading_by s) e
  normal_alike e h = ap without_zeros (form_alike e h)

  writable_alike : (e : Control) → is_affine (numbers_below n) e ≡ true → is_writable (reading_by r) e ≡ is_writable (reading_by s) e
  writable_alike (Lit m) h = refl
  writable_alike (Var x) h = ap is_short_form (form_alike (Var x) h)
  writable_alike (Field f) h = refl
  writable_alike (StrideOf x k) h = refl
  writable_alike (Neg a) h = ap₂ (λ t u. t && u) (writable_alike a h) (ap is_short_form (form_alike (Neg a) h))
  writable_alike (Add a b) h =
      let p = both_true (is_affine (numbers_below n) a) (is_affine (numbers_below n) b) h in
      ap₂ (λ t u. t && u) (ap₂ (λ t u. t && u) (writable_alike a p.0) (writable_alike b p.1)) (ap is_short_form (form_alike (Add a b) h))
  writable_alike (Sub a b) h =
      let p = both_true (is_affine (numbers_below n) a) (is_affine (numbers_below n) b) h in
      ap₂ (λ t u. t && u) (ap₂ (λ t u. t && u) (writable_alike a p.0) (writable_alike b p.1)) (ap is_short_form (form_alike (Sub a b) h))
  writable_alike (Mul a b) h =
      let q = both_true (is_of_literals a || is_of_literals b) (is_affine (numbers_below n) a && is_affine (numbers_below n) b) h in
      let p = both_true (is_affine (numbers_below n) a) (is_affine (numbers_below n) b) q.1 in
      ap₂ (λ t u. t && u) (ap₂ (λ t u. t && u) (writable_alike a p.0) (writable_alike b p.1)) (ap is_short_form (form_alike (Mul a b) h))
  writable_alike (Div a c) h =
      let p = both_true (is_positive c) (is_affine (numbers_below n) a) h in
      ap₂ (λ t u. t && u) (writable_alike a p.1) (ap is_short_form (form_alike (Div a c) h))
  writable_alike (Mod a c) h =
      let p = both_true (is_positive c) (is_affine (numbers_below n) a) h in
      ap₂ (λ t l. t && ((is_short_form (quotient l c) && is_short_form (scaled c (quotient l c))) && is_short_form (subtracted l (scaled c (quotient l c))))) (writable_alike a p.1) (form_alike a p.1)

  abbrev affine_sides : Control → Control → Type 0
  affine_sides a b = (is_affine (numbers_below n) a && is_affine (numbers_below n) b) ≡ true

  along : (f : Linear → Linear → Formula) (a b : Control) → affine_sides a b → f (normal (reading_by r) a) (normal (reading_by r) b) ≡ f (normal (reading_by s) a) (normal (reading_by s) b)
  along f a b h =
      let p = both_true (is_affine (numbers_below n) a) (is_affine (numbers_below n) b) h in
      ap₂ f (normal_alike a p.0) (normal_alike b p.1)

  formula_read_alike : (c : Condition) → is_affine_condition (names_below n) c ≡ true → formula (reading_by r) (flags_by r) c ≡ formula (reading_by s) (flags_by s) c
  formula_read_alike True h = refl
  formula_read_alike False h = refl
  formula_read_alike (Flag x) h = ap own_flag (agree x (lt_from x n h))
  formula_read_alike (FieldFlag f) h = refl
  formula_read_alike (Lt a b) h = along less a b h
  formula_read_alike (Le a b) h = along at_most a b h
  formula_read_alike (Gt a b) h = along (λ k l. less l k) a b h
  formula_read_alike (Ge a b) h = along (λ k l. at_most l k) a b h
  formula_read_alike (Eq a b) h = along equal a b h
  formula_read_alike (And c d) h =
      let p = both_true (is_affine_condition (names_below n) c) (is_affine_condition (names_below n) d) h in
      ap₂ Both (formula_read_alike c p.0) (formula_read_alike d p.1)
  formula_read_alike (Or c d) h =
      let p = both_true (is_affine_condition (names_below n) c) (is_affine_condition (names_below n) d) h in
      ap₂ Either (formula_read_alike c p.0) (formula_read_alike d p.1)

  sides_writable : (a b : Control) → affine_sides a b → (is_writable (reading_by r) a && is_writable (reading_by r) b) ≡ (is_writable (reading_by s) a && is_writable (reading_by s) b)
  sides_writable a b h =
      let p = both_true (is_affine (numbers_below n) a) (is_affine (numbers_below n) b) h in
      ap₂ (λ t u. t && u) (writable_alike a p.0) (writable_alike b p.1)

  other_writable : (a b : Control) → affine_sides a b → (is_writable (reading_by r) b && is_writable (reading_by r) a) ≡ (is_writable (reading_by s) b && is_writable (reading_by s) a)
  other_writable a b h =
      let p = both_true (is_affine (numbers_below n) a) (is_affine (numbers_below n) b) h in
      ap₂ (λ t u. t && u) (writable_alike b p.1) (writable_alike a p.0)

  condition_writable_alike : (c : Condition) → is_affine_condition (names_below n) c ≡ true → is_writable_condition (reading_by r) (λ f. true) c ≡ is_writable_condition (reading_by s) (λ f. true) c
  condition_writable_alike True h = refl
  condition_writable_alike False h = refl
  condition_writable_alike (Flag x) h = refl
  condition_writable_alike (FieldFlag f) h = refl
  condition_writable_alike (Lt a b) h = sides_writable a b h
  condition_writable_alike (Le a b) h = sides_writable a b h
  condition_writable_alike (Gt a b) h = other_writable a b h
  condition_writable_alike (Ge a b) h = other_writable a b h
  condition_writable_alike (Eq a b) h = sides_writable a b h
  condition_writable_alike (And c d) h =
      let p = both_true (is_affine_condition (names_below n) c) (is_affine_condition (names_below n) d) h in
      ap₂ (λ t u. t && u) (condition_writable_alike c p.0) (condition_writable_alike d p.1)
  condition_writable_alike (Or c d) h =
      let p = both_true (is_affine_condition (names_below n) c) (is_affine_condition (names_below n) d) h in
      ap₂ (λ t u. t && u) (condition_writable_alike c p.0) (condition_writable_alike d p.1)

-- ---- the numbers of a copy

-- of two variables with one place
place_same : (xs : List ℕ) (x y k : ℕ) → place_in xs x ≡ Some k → place_in xs y ≡ Some k → x ≡ y
place_same [] x y k p q = absurd (let e : None ≡ Some k = p in cc)
place_same (z ∷ zs) x y k p q = go (λ m. place_same zs x y m) (x == z) refl (y == z) refl (place_in zs x) refl (place_in zs y) refl p q
  where
    go : ((m : ℕ) → place_in zs x ≡ Some m → place_in zs y ≡ Some m → x ≡ y) → (s : Bool) → (x == z) ≡ s → (t : Bool) → (y == z) ≡ t → (o : Option ℕ) → place_in zs x ≡ o → (u : Option ℕ) → place_in zs y ≡ u → cond s (Some 0) (option_map suc o) ≡ Some k → cond t (Some 0) (option_map suc u) ≡ Some k → x ≡ y
    go again true a true b o i u j p q = grind (arith, nat_tests)
    go again true a false b o i None j p q = absurd (let e : None ≡ Some k = q in cc)
    go again true a false b o i (Some m) j p q = absurd (let e : Some 0 ≡ Some (suc m) = p ∙ sym q in let z : 0 ≡ suc m = cc in omega (arith, z))
    go again false a true b None i u j p q = absurd (let e : None ≡ Some k = p in cc)
    go again false a true b (Some m) i u j p q = absurd (let e : Some (suc m) ≡ Some 0 = p ∙ sym q in let z : suc m ≡ 0 = cc in omega (arith, z))
    go again false a false b None i u j p q = absurd (let e : None ≡ Some k = p in cc)
    go again false a false b (Some m) i None j p q = absurd (let e : None ≡ Some k = q in cc)
    go again false a false b (Some m) i (Some l) j p q =
        let e : Some (suc m) ≡ Some (suc l) = p ∙ sym q in
        let w : suc m ≡ suc l = cc in
        let z : m ≡ l = omega (arith, w) in
        again m i (j ∙ ap Some (sym z))

pub place_less : (xs : List ℕ) (x k : ℕ) → place_in xs x ≡ Some k → k < length xs
place_less [] x k p = absurd (let e : None ≡ Some k = p in cc)
place_less (z ∷ zs) x k p = go (λ m. place_less zs x m) (x == z) (place_in zs x) refl p
  where
    go : ((m : ℕ) → place_in zs x ≡ Some m → m < length zs) → (s : Bool) (o : Option ℕ) → place_in zs x ≡ o → cond s (Some 0) (option_map suc o) ≡ Some k → k < suc (length zs)
    go again true o i p = let z : 0 ≡ k = cc in omega (arith, z)
    go again false None i p = absurd (let e : None ≡ Some k = p in cc)
    go again false (Some m) i p = let z : suc m ≡ k = cc in omega (arith, z, again m i)

equal_tests : (f : ℕ → ℕ) → ((x y : ℕ) → f x ≡ f y → x ≡ y) → KeepsApart f
equal_tests f inj x y = go (x == y) refl (f x == f y) refl
  where
    go : (s : Bool) → (x == y) ≡ s → (t : Bool) → (f x == f y) ≡ t → t ≡ s
    go true a true b = refl
    go false a false b = refl
    go true a false b = absurd (let e : x ≡ y = grind (arith, nat_tests) in let g : f x ≡ f y = ap f e in (grind (arith, nat_tests)))
    go false a true b = absurd (let g : f x ≡ f y = grind (arith, nat_tests) in let e : x ≡ y = inj x y g in (grind (arith, nat_tests)))

module _ (base side : ℕ) (turns own : List ℕ) (sides : side ≤ 1) where
  abbrev r : ℕ → ℕ
  r x = apart base side turns own x

  -- far past all numbers of the copy
  abbrev far : ℕ
  far = 6 * (length own + length turns)

  -- the same below the base, and apart from all else
  abbrev s : ℕ → ℕ
  s x = cond (nat_lt x base) (r x) (x + far)

  agree : (x : ℕ) → x < base → r x ≡ s x
  agree x h = let e : nat_lt x base ≡ true = grind (arith, nat_tests) in sym (ap (λ t. cond t (r x) (x + far)) e)

  -- what the copy makes of a variable, by its places
  abbrev of_places : ℕ → Option ℕ → Option ℕ → ℕ
  of_places x o p = elim o [ None ↦ elim p [ None ↦ x | Some k ↦ turn_number base side k ] | Some k ↦ own_number base side k ]

  far_off : (x : ℕ) (o p : Option ℕ) → x < base → place_in own x ≡ o → place_in turns x ≡ p → of_places x o p < base + far
  far_off x None None h i j = omega (arith, h)
  far_off x None (Some k) h i j = omega (arith, sides, place_less turns x k j)
  far_off x (Some k) p h i j = omega (arith, sides, place_less own x k i)

  inside : (x y : ℕ) (o p u v : Option ℕ) → x < base → y < base → place_in own x ≡ o → place_in turns x ≡ p → place_in own y ≡ u → place_in turns y ≡ v → of_places x o p ≡ of_places y u v → x ≡ y
  inside x y None None None None h k a b c d e = e
  inside x y None None None (Some n) h k a b c d e = absurd (omega (arith, h, e))
  inside x y None None (Some n) v h k a b c d e = absurd (omega (arith, h, e))
  inside x y None (Some m) None None h k a b c d e = absurd (omega (arith, k, e))
  inside x y None (Some m) None (Some n) h k a b c d e = let z : m ≡ n = omega (arith, e) in place_same turns x y m b (d ∙ ap Some (sym z))
  inside x y None (Some m) (Some n) v h k a b c d e = absurd (omega (arith, e))
  inside x y (Some m) p None None h k a b c d e = absurd (omega (arith, k, e))
  inside x y (Some m) p None (Some n) h k a b c d e = absurd (omega (arith, e))
  inside x y (Some m) p (Some n) v h k a b c d e = let z : m ≡ n = omega (arith, e) in place_same own x y m a (c ∙ ap Some (sym z))

  injective : (x y : ℕ) → s x ≡ s y → x ≡ y
  injective x y e = go (nat_lt x base) refl (nat_lt y base) refl e
    where
      go : (a : Bool) → nat_lt x base ≡ a → (b : Bool) → nat_lt y base ≡ b → cond a (r x) (x + far) ≡ cond b (r y) (y + far) → x ≡ y
      go true a true b e = inside x y (place_in own x) (place_in turns x) (place_in own y) (place_in turns y) (grind (arith, nat_tests)) (grind (arith, nat_tests)) refl refl refl refl e
      go true a false b e = let z : x < base = grind (arith, nat_tests) in let w : base ≤ y = grind (arith, nat_tests) in absurd (omega (arith, e, w, far_off x (place_in own x) (place_in turns x) z refl refl))
      go false a true b e = let z : y < base = grind (arith, nat_tests) in let w : base ≤ x = grind (arith, nat_tests) in absurd (omega (arith, e, w, far_off y (place_in own y) (place_in turns y) z refl refl))
      go false a false b e = omega (arith, e)

  kept_apart : KeepsApart s
  kept_apart = equal_tests s injective

  pub copy_normal : (e : Control) → is_affine (numbers_below base) e ≡ true → normal (reading_by (apart base side turns own)) e ≡ re_linear (apart base side turns own) (plain_form e)
  copy_normal e h = normal_alike base r s agree e h ∙ sym (re_normal s kept_apart e) ∙ sym (linear_alike base r s agree (plain_form e) (plain_past base e h))

  pub copy_writable : (e : Control) → is_affine (numbers_below base) e ≡ true → is_writable (reading_by (apart base side turns own)) e ≡ plain_fits e
  copy_writable e h = writable_alike base r s agree e h ∙ re_writable s kept_apart e

  pub copy_formula : (c : Condition) → is_affine_condition (names_below base) c ≡ true → formula (reading_by (apart base side turns own)) (flags_by (apart base side turns own)) c ≡ re_formula (apart base side turns own) (plain_formula c)
  copy_formula c h = formula_read_alike base r s agree c h ∙ sym (re_plain_formula s kept_apart c) ∙ sym (formula_alike base r s agree (plain_formula c) (plain_formula_past base c h))

  pub copy_condition_writable : (c : Condition) → is_affine_condition (names_below base) c ≡ true → is_writable_condition (reading_by (apart base side turns own)) (λ f. true) c ≡ plain_formula_fits c
  copy_condition_writable c h = condition_writable_alike base r s agree c h ∙ re_condition_writable s kept_apart c

  -- what the bounds of a loop say
  pub copy_le : (e : Control) (x : ℕ) → is_affine_condition (names_below base) (Le e (Var x)) ≡ true → at_most (re_linear (apart base side turns own) (plain_form e)) (only (Variable (apart base side turns own x))) ≡ re_formula (apart base side turns own) (plain_formula (Le e (Var x)))
  copy_le e x h =
      let p = both_true (is_affine (numbers_below base) e) (is_affine (numbers_below base) (Var x)) h in
      ap (λ l. at_most l (only (Variable (r x)))) (sym (copy_normal e p.0)) ∙ copy_formula (Le e (Var x)) h

  pub copy_lt : (x : ℕ) (e : Control) → is_affine_condition (names_below base) (Lt (Var x) e) ≡ true → less (only (Variable (apart base side turns own x))) (re_linear (apart base side turns own) (plain_form e)) ≡ re_formula (apart base side turns own) (plain_formula (Lt (Var x) e))
  copy_lt x e h =
      let p = both_true (is_affine (numbers_below base) (Var x)) (is_affine (numbers_below base) e) h in
      ap (less (only (Variable (r x)))) (sym (copy_normal e p.1)) ∙ copy_formula (Lt (Var x) e) h
