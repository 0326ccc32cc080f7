-- What is owed for a list of pairs does not depend on the number from which the copies have their variables.
use Rattle.std.proofs.Common.{◌≡◌, ◌≤◌, ◌+◌, ◌^◌, suc, ℕ, max, nat_lt, Bool, true, false, ◌&&◌, List, [], ◌∷◌, ◌++◌, map, if◌then◌else◌, Some, refl, ap, ap₂, ◌∙◌, arith}
use Rattle.std.proofs.lemmas.Bool.Decides.{nat_tests}
use Rattle.std.specs.Prelude.{filter}
use Rattle.std.specs.List.{AllByRecursion, list_all}
use Rattle.exo_tree.specs.Places.{Path}
use Rattle.exo_tree.specs.Tree as tree
use Rattle.exo_tree.specs.Tree.{Coord}
use Rattle.exo_tree.specs.PlainControl.{control}
use Rattle.meaning_laws.specs.Facts.{Fact, Holds, Fails}
use Rattle.affine_forms.specs.Forms.{is_affine}
use Rattle.affine_forms.specs.Formulas.{Formula}
use Rattle.affine_systems.specs.Outcomes.{Owed, owed}
use Rattle.exo_effects.specs.Accesses.{Access, access_of, guard_of, coord_form, plain_form, plain_formula}
use Rattle.exo_effects.specs.Conflicts.{may_clash, clashing, against, WideForm, ManySystems, Refuses}
use Rattle.exo_effects.specs.Conflicts.{owed_for, stated_fault, pair_fits, pair_fault, owed_behind}
use Rattle.exo_effects.specs.Fresh.{past_linear, past_formula, past_all, past_coord, past_access, past_turn, past_order}
use Rattle.exo_effects.specs.Limits.{are_within, unless_refused}
use Rattle.exo_effects.specs.Orders.{Order}
use Rattle.exo_effects.specs.Uses.{Use}
use Rattle.effect_conflicts.specs.Copies.{numbers_below}
use Rattle.exo_effects.specs.Low.{fact_is_low, coord_is_low, use_is_low}
use Rattle.effect_conflicts.specs.PlainCopies.{turn_is_low, plain_turn}
use Rattle.effect_conflicts.specs.declared.twin.Turn.{Turn}
use Rattle.effect_conflicts.proofs.RenamedTwice.{left_of, right_of}
use Rattle.effect_conflicts.proofs.PastForms.{max_within, both_true, lt_from, plain_past}
use Rattle.effect_conflicts.proofs.PastForms.{plain_formula_past, negation_past}
use Rattle.effect_conflicts.proofs.MeetingNumbers.{systems_up, stated_up}

abbrev AreBelow : ℕ → Access × Access → Type 0
AreBelow b p = (past_access p.0 ≤ b) × (past_access p.1 ≤ b)

module _ (fits : Bool) (ctx : List Formula) (order : Order) (place : Path) (b d : ℕ) (p : past_all past_formula ctx ≤ b) (q : past_order order ≤ b) where
  owed_up : (xy : Access × Access) → AreBelow b xy → owed_for ctx order place b xy ≡ owed_for ctx order place (b + d) xy
  owed_up xy h = ap (map (owed (against xy) place)) (systems_up b d ctx order xy.0 xy.1 p q h.0 h.1)

  fault_up : (xy : Access × Access) → AreBelow b xy → pair_fault fits ctx order place b xy ≡ pair_fault fits ctx order place (b + d) xy
  fault_up xy h = ap (λ s. if pair_fits fits order xy then stated_fault s else Some WideForm) (stated_up b d ctx order xy.0 xy.1 p q h.0 h.1)

  pub behind_up : (os : List Owed) (ps : List (Access × Access)) → AllByRecursion (AreBelow b) ps → owed_behind fits ctx order place b os ps ≡ owed_behind fits ctx order place (b + d) os ps
  behind_up os [] h = refl
  behind_up os (xy ∷ ps) h =
      let more = owed_for ctx order place (b + d) xy in
      ap₂ (λ f ws. unless_refused Refuses ManySystems f (are_within (os ++ ws)) (owed_behind fits ctx order place b (os ++ ws) ps)) (fault_up xy h.0) (owed_up xy h.0)
      ∙ ap (unless_refused Refuses ManySystems (pair_fault fits ctx order place (b + d) xy) (are_within (os ++ more))) (behind_up (os ++ more) ps h.1)

-- ---- the pairs of two lists

module _ (b : ℕ) where
  all_append : (ps qs : List (Access × Access)) → AllByRecursion (AreBelow b) ps → AllByRecursion (AreBelow b) qs → AllByRecursion (AreBelow b) (ps ++ qs)
  all_append [] qs h k = k
  all_append (p ∷ ps) qs h k = (h.0, all_append ps qs h.1 k)

  all_with : (x : Access) (ys : List Access) → past_access x ≤ b → past_all past_access ys ≤ b → AllByRecursion (AreBelow b) (map (λ y. (x, y)) (filter (λ y. may_clash x y) ys))
  all_with x [] h k = tt
  all_with x (y ∷ ys) h k = go (may_clash x y) refl (all_with x ys h (right_of (past_access y) (past_all past_access ys) b k))
    where
      go : (t : Bool) → may_clash x y ≡ t → AllByRecursion (AreBelow b) (map (λ y. (x, y)) (filter (λ y. may_clash x y) ys)) → AllByRecursion (AreBelow b) (map (λ y. (x, y)) (filter (λ y. may_clash x y) (y ∷ ys)))
      go true e m = rw e ((h, left_of (past_access y) (past_all past_access ys) b k), m)
      go false e m = rw e m

  pub all_clashing : (xs ys : List Access) → past_all past_access xs ≤ b → past_all past_access ys ≤ b → AllByRecursion (AreBelow b) (clashing xs ys)
  all_clashing [] ys h k = tt
  all_clashing (x ∷ xs) ys h k =
      all_append (map (λ y. (x, y)) (filter (λ y. may_clash x y) ys)) (clashing xs ys)
      (all_with x ys (left_of (past_access x) (past_all past_access xs) b h) k)
      (all_clashing xs ys (right_of (past_access x) (past_all past_access xs) b h) k)

-- ---- uses whose variables are below 2^31

facts_past : (fs : List Fact) → list_all fact_is_low fs ≡ true → past_all past_formula (map guard_of fs) ≤ 2 ^ 31
facts_past [] h = omega arith
facts_past (f ∷ fs) h =
    let p = both_true (fact_is_low f) (list_all fact_is_low fs) h in
    max_within (past_formula (guard_of f)) (past_all past_formula (map guard_of fs)) (2 ^ 31) (one f p.0) (facts_past fs p.1)
  where
    one : (f : Fact) → fact_is_low f ≡ true → past_formula (guard_of f) ≤ 2 ^ 31
    one (Holds c) h = plain_formula_past (2 ^ 31) c h
    one (Fails c) h = negation_past (2 ^ 31) (plain_formula c) (plain_formula_past (2 ^ 31) c h)

coords_past : (cs : List Coord) → list_all coord_is_low cs ≡ true → past_all past_coord (map coord_form cs) ≤ 2 ^ 31
coords_past [] h = omega arith
coords_past (c ∷ cs) h =
    let p = both_true (coord_is_low c) (list_all coord_is_low cs) h in
    max_within (past_coord (coord_form c)) (past_all past_coord (map coord_form cs)) (2 ^ 31) (one c p.0) (coords_past cs p.1)
  where
    one : (c : Coord) → coord_is_low c ≡ true → past_coord (coord_form c) ≤ 2 ^ 31
    one (tree.At e) h = plain_past (2 ^ 31) e h
    one (tree.Span u v) h =
        let p = both_true (is_affine (numbers_below (2 ^ 31)) u) (is_affine (numbers_below (2 ^ 31)) v) h in
        max_within (past_linear (plain_form u)) (past_linear (plain_form v)) (2 ^ 31) (plain_past (2 ^ 31) u p.0) (plain_past (2 ^ 31) v p.1)

own_past : (n : ℕ) (xs : List ℕ) → list_all (λ y. nat_lt y n) xs ≡ true → past_all suc xs ≤ n
own_past n [] h = omega arith
own_past n (x ∷ xs) h =
    let p = both_true (nat_lt x n) (list_all (λ y. nat_lt y n) xs) h in
    max_within (suc x) (past_all suc xs) n (low p.0) (own_past n xs p.1)
  where
    low : nat_lt x n ≡ true → suc x ≤ n
    low h = grind (arith, nat_tests)

pub use_past : (x : Use) → use_is_low x ≡ true → past_access (access_of x) ≤ 2 ^ 31
use_past x h =
    let p = both_true (list_all fact_is_low x.round) (list_all coord_is_low x.coords && list_all (λ y. nat_lt y (2 ^ 31)) x.own) h in
    let q = both_true (list_all coord_is_low x.coords) (list_all (λ y. nat_lt y (2 ^ 31)) x.own) p.1 in
    let a = access_of x in
    max_within (past_all past_formula a.guards) (max (past_all past_coord a.coords) (past_all suc a.own)) (2 ^ 31) (facts_past x.round p.0)
    (max_within (past_all past_coord a.coords) (past_all suc a.own) (2 ^ 31) (coords_past x.coords q.0) (own_past (2 ^ 31) x.own q.1))

pub uses_past : (xs : List Use) → list_all use_is_low xs ≡ true → past_all past_access (map access_of xs) ≤ 2 ^ 31
uses_past [] h = omega arith
uses_past (x ∷ xs) h =
    let p = both_true (use_is_low x) (list_all use_is_low xs) h in
    max_within (past_access (access_of x)) (past_all past_access (map access_of xs)) (2 ^ 31) (use_past x p.0) (uses_past xs p.1)

-- ---- loops whose variables are below 2^31

pub turns_past : (ts : List Turn) → list_all turn_is_low ts ≡ true → past_all past_turn (map plain_turn ts) ≤ 2 ^ 31
turns_past [] h = omega arith
turns_past (t ∷ ts) h =
    let p = both_true (turn_is_low t) (list_all turn_is_low ts) h in
    let q = both_true (nat_lt t.variable.0 (2 ^ 31)) (is_affine (numbers_below (2 ^ 31)) (control t.lower.now) && is_affine (numbers_below (2 ^ 31)) (control t.upper.now)) p.0 in
    let r = both_true (is_affine (numbers_below (2 ^ 31)) (control t.lower.now)) (is_affine (numbers_below (2 ^ 31)) (control t.upper.now)) q.1 in
    let u = plain_turn t in
    max_within (past_turn u) (past_all past_turn (map plain_turn ts)) (2 ^ 31)
    (max_within (suc u.variable) (max (past_linear u.lower) (past_linear u.upper)) (2 ^ 31) (omega (arith, lt_from t.variable.0 (2 ^ 31) q.0))
    (max_within (past_linear u.lower) (past_linear u.upper) (2 ^ 31) (plain_past (2 ^ 31) (control t.lower.now) r.0) (plain_past (2 ^ 31) (control t.upper.now) r.1)))
    (turns_past ts p.1)
