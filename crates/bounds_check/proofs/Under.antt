-- Affine arguments put into affine expressions leave them affine.
use Rattle.std.proofs.Common.{◌≡◌, ℕ, ◌==◌, Bool, true, false, ◌&&◌, ◌||◌, if◌then◌else◌, List, [], ◌∷◌, Option, Some, None, refl, sym, true≢false}
use Rattle.std.specs.List.{list_all}
use Rattle.std.specs.Int.{is_positive}
use Rattle.std.proofs.lemmas.Bool.{and_parts, and_from}
use Rattle.exo_tree.specs.Tree.{Control, Lit, Var, Field, StrideOf, Neg, Add, Sub, Mul, Div, Mod, Condition, True, False, Flag, FieldFlag, Lt, Le, Gt, Ge, Eq, And, Or, Argument, ControlArg, ConditionArg, Whole, Window, Param}
use Rattle.exo_meaning.specs.Units.{is_of_literals}
use Rattle.affine_forms.specs.Forms.{keeps_rules}
use Rattle.affine_forms.specs.Formulas.{condition_keeps_rules}
use Rattle.check_claims.specs.Arguments.{passed_for, number_for, truth_for, stride_for, control_under, condition_under}
use Rattle.bounds_check.proofs.Affine.{argument_keeps_rules}

abbrev passed_keeps_rules : Option Argument → Bool
passed_keeps_rules None = true
passed_keeps_rules (Some a) = argument_keeps_rules a

passed_affine : (ps : List Param) (args : List Argument) (x : ℕ) → list_all argument_keeps_rules args ≡ true → passed_keeps_rules (passed_for ps args x) ≡ true
passed_affine [] args x h = refl
passed_affine (p ∷ ps) [] x h = refl
passed_affine (p ∷ ps) (a ∷ args) x h =
    let q = and_parts (argument_keeps_rules a) (list_all argument_keeps_rules args) h in
    go (p.binder.id == x) q.0 (passed_affine ps args x q.1)
  where
    go : (t : Bool) → argument_keeps_rules a ≡ true → passed_keeps_rules (passed_for ps args x) ≡ true → passed_keeps_rules (if t then Some a else passed_for ps args x) ≡ true
    go true k l = k
    go false k l = l

number_affine : (x : ℕ) (o : Option Argument) → passed_keeps_rules o ≡ true → keeps_rules (number_for x o) ≡ true
number_affine x None h = refl
number_affine x (Some (ControlArg a)) h = h
number_affine x (Some (ConditionArg c)) h = refl
number_affine x (Some (Whole y)) h = refl
number_affine x (Some (Window y coords)) h = refl

truth_affine : (x : ℕ) (o : Option Argument) → passed_keeps_rules o ≡ true → condition_keeps_rules (truth_for x o) ≡ true
truth_affine x None h = refl
truth_affine x (Some (ControlArg a)) h = refl
truth_affine x (Some (ConditionArg c)) h = h
truth_affine x (Some (Whole y)) h = refl
truth_affine x (Some (Window y coords)) h = refl

stride_affine : (x k : ℕ) (o : Option Argument) → keeps_rules (stride_for x k o) ≡ true
stride_affine x k None = refl
stride_affine x k (Some (ControlArg a)) = refl
stride_affine x k (Some (ConditionArg c)) = refl
stride_affine x k (Some (Whole y)) = refl
stride_affine x k (Some (Window y coords)) = refl

either_kept : (a b c d : Bool) → (a ≡ true → c ≡ true) → (b ≡ true → d ≡ true) → (a || b) ≡ true → (c || d) ≡ true
either_kept true b true d f g h = refl
either_kept true b false d f g h = absurd (true≢false (sym (f refl)))
either_kept false true true d f g h = refl
either_kept false true false d f g h = g refl
either_kept false false c d f g h = absurd (true≢false (sym h))

both_kept : (a b c d : Bool) → (a ≡ true → c ≡ true) → (b ≡ true → d ≡ true) → (a && b) ≡ true → (c && d) ≡ true
both_kept a b c d f g h = let p = and_parts a b h in and_from c d (f p.0) (g p.1)

module _ (ps : List Param) (args : List Argument) where
  literal_under : (e : Control) → is_of_literals e ≡ true → is_of_literals (control_under ps args e) ≡ true
  literal_under (Lit n) h = refl
  literal_under (Var x) h = absurd (true≢false (sym h))
  literal_under (Field f) h = absurd (true≢false (sym h))
  literal_under (StrideOf x k) h = absurd (true≢false (sym h))
  literal_under (Neg a) h = literal_under a h
  literal_under (Add a b) h = let p = and_parts (is_of_literals a) (is_of_literals b) h in and_from (is_of_literals (control_under ps args a)) (is_of_literals (control_under ps args b)) (literal_under a p.0) (literal_under b p.1)
  literal_under (Sub a b) h = let p = and_parts (is_of_literals a) (is_of_literals b) h in and_from (is_of_literals (control_under ps args a)) (is_of_literals (control_under ps args b)) (literal_under a p.0) (literal_under b p.1)
  literal_under (Mul a b) h = let p = and_parts (is_of_literals a) (is_of_literals b) h in and_from (is_of_literals (control_under ps args a)) (is_of_literals (control_under ps args b)) (literal_under a p.0) (literal_under b p.1)
  literal_under (Div a c) h = literal_under a h
  literal_under (Mod a c) h = literal_under a h

  module _ (given : list_all argument_keeps_rules args ≡ true) where
    pub control_affine : (e : Control) → keeps_rules e ≡ true → keeps_rules (control_under ps args e) ≡ true
    control_affine (Lit n) h = refl
    control_affine (Var x) h = number_affine x (passed_for ps args x) (passed_affine ps args x given)
    control_affine (Field f) h = refl
    control_affine (StrideOf x k) h = stride_affine x k (passed_for ps args x)
    control_affine (Neg a) h = control_affine a h
    control_affine (Add a b) h = both_kept (keeps_rules a) (keeps_rules b) (keeps_rules (control_under ps args a)) (keeps_rules (control_under ps args b)) (control_affine a) (control_affine b) h
    control_affine (Sub a b) h = both_kept (keeps_rules a) (keeps_rules b) (keeps_rules (control_under ps args a)) (keeps_rules (control_under ps args b)) (control_affine a) (control_affine b) h
    control_affine (Mul a b) h =
        let p = and_parts (is_of_literals a || is_of_literals b) (keeps_rules a && keeps_rules b) h in
        and_from (is_of_literals (control_under ps args a) || is_of_literals (control_under ps args b)) (keeps_rules (control_under ps args a) && keeps_rules (control_under ps args b))
        (either_kept (is_of_literals a) (is_of_literals b) (is_of_literals (control_under ps args a)) (is_of_literals (control_under ps args b)) (literal_under a) (literal_under b) p.0)
        (both_kept (keeps_rules a) (keeps_rules b) (keeps_rules (control_under ps args a)) (keeps_rules (control_under ps args b)) (control_affine a) (control_affine b) p.1)
    control_affine (Div a c) h = let p = and_parts (is_positive c) (keeps_rules a) h in and_from (is_positive c) (keeps_rules (control_under ps args a)) p.0 (control_affine a p.1)
    control_affine (Mod a c) h = let p = and_parts (is_positive c) (keeps_rules a) h in and_from (is_positive c) (keeps_rules (control_under ps args a)) p.0 (control_affine a p.1)

    sides_affine : (a b : Control) → (keeps_rules a && keeps_rules b) ≡ true → (keeps_rules (control_under ps args a) && keeps_rules (control_under ps args b)) ≡ true
    sides_affine a b h = both_kept (keeps_rules a) (keeps_rules b) (keeps_rules (control_under ps args a)) (keeps_rules (control_under ps args b)) (control_affine a) (control_affine b) h

    pub condition_under_affine : (c : Condition) → condition_keeps_rules c ≡ true → condition_keeps_rules (condition_under ps args c) ≡ true
    condition_under_affine True h = refl
    condition_under_affine False h = refl
    condition_under_affine (Flag x) h = truth_affine x (passed_for ps args x) (passed_affine ps args x given)
    condition_under_affine (FieldFlag f) h = refl
    condition_under_affine (Lt a b) h = sides_affine a b h
    condition_under_affine (Le a b) h = sides_affine a b h
    condition_under_affine (Gt a b) h = sides_affine a b h
    condition_under_affine (Ge a b) h = sides_affine a b h
    condition_under_affine (Eq a b) h = sides_affine a b h
    condition_under_affine (And c d) h = both_kept (condition_keeps_rules c) (condition_keeps_rules d) (condition_keeps_rules (condition_under ps args c)) (condition_keeps_rules (condition_under ps args d)) (condition_under_affine c) (condition_under_affine d) h
    condition_under_affine (Or c d) h = both_kept (condition_keeps_rules c) (condition_keeps_rules d) (condition_keeps_rules (condition_under ps args c)) (condition_keeps_rules (condition_under ps args d)) (condition_under_affine c) (condition_under_affine d) h
