-- What the tests of control values and conditions tell, from the tests of their sides; and lists of control values.
use Rattle.std.proofs.Common.{◌≡◌, ℕ, ◌+◌, ◌==◌, ◌<◌, Bool, true, false, not, ◌&&◌, List, [], ◌∷◌, ◌++◌, map, drop, length, get_or, append_assoc, refl, sym, ap, ◌∙◌, arith, if◌then◌else◌}
use Rattle.std.proofs.lemmas.List.{append-nil as append_nil}
use Rattle.std.proofs.lemmas.Bool.Decides.{nat_tests}
use Rattle.exo_tree.specs.Tree.{ConfigField}
use Rattle.exo_meaning.specs.Units.{Scope, Reads}
use Rattle.text_expressions.specs.Expression.{Tree, binary}
use Rattle.text_expressions.specs.Views.{tree_of}
use Rattle.text_expressions.specs.declared.source.Infix.{Infix}
use Rattle.text_expressions.specs.declared.source.Infix.TheVariants.{Or, And, Lt, Le, Gt, Ge, Eq, Add, Sub, Mul, Div, Mod}
use Rattle.text_expressions.specs.declared.source.SourceExpr.{SourceExpr}
use Rattle.rules_names.specs.declared.fault.Fault.{Fault}
use Rattle.rules_names.specs.declared.fault.Charge.{Charge}
use Rattle.rules_names.specs.declared.tested.Tested.{Tested}
use Rattle.rules_names.specs.Faults.{charged, parts_then_whole}
use Rattle.rules_names.specs.Tests.{Tells}
use Rattle.rules_names.specs.ExpressionRules.{width, is_arithmetic, is_quotient, data_faults, may_be_data, joins_conditions, has_variables, is_divisor, affine_faults, may_be_control, may_be_condition, wrong_form, control_faults, controls_faults, condition_faults}
use Rattle.rules_names.proofs.Told.{behind, told_end}
use Rattle.rules_names.proofs.Rests.{rest_of}

-- the one of two that a test picks
picked : {A : Type 0} (b : Bool) (x y : A) → b ≡ true → x ≡ (if b then x else y)
picked b x y h = sym (ap (λ t. if t then x else y) h)

other : {A : Type 0} (b : Bool) (x y : A) → b ≡ false → y ≡ (if b then x else y)
other b x y h = sym (ap (λ t. if t then x else y) h)

pub joins_no_arithmetic : (o : Infix) → joins_conditions o ≡ true → is_arithmetic o ≡ false
joins_no_arithmetic Or h = refl
joins_no_arithmetic And h = refl
joins_no_arithmetic Lt h = refl
joins_no_arithmetic Le h = refl
joins_no_arithmetic Gt h = refl
joins_no_arithmetic Ge h = refl
joins_no_arithmetic Eq h = refl
joins_no_arithmetic Add h = sym h
joins_no_arithmetic Sub h = sym h
joins_no_arithmetic Mul h = sym h
joins_no_arithmetic Div h = sym h
joins_no_arithmetic Mod h = sym h

module _ (fields : List ConfigField) (may : Reads) (scope : Scope) where
  pub told_arithmetic : (t left right : Tested) (f g : Bool) (n : ℕ) (o : Infix) (l r : Tree) → is_arithmetic o ≡ true
      → t.charge ≡ charged (parts_then_whole (control_faults fields may scope n l ++ control_faults fields may scope (left.end + 1) r) (affine_faults o n (left.end + 1) (has_variables l && has_variables r) (is_divisor r)))
      → t.end ≡ right.end → t.fits ≡ true → Tells left (control_faults fields may scope n l) f n l → Tells right (control_faults fields may scope (left.end + 1) r) g (left.end + 1) r
      → Tells t (control_faults fields may scope n (binary o l r)) (may_be_control fields scope (binary o l r)) n (binary o l r)
  told_arithmetic t left right f g n o l r h p q s x y = record {
    charge =
        p
        ∙ ap (λ k. charged (parts_then_whole (control_faults fields may scope n l ++ control_faults fields may scope k r) (affine_faults o n k (has_variables l && has_variables r) (is_divisor r)))) (behind left _ f n l x)
        ∙ ap charged (picked (is_arithmetic o) _ _ h);
    end = told_end t left right _ _ f g n o l r q x y;
    form = s ∙ sym h;
  }

  pub told_condition : (t left right : Tested) (f g : Bool) (n : ℕ) (o : Infix) (l r : Tree) → joins_conditions o ≡ true
      → t.charge ≡ charged (condition_faults fields may scope n l ++ condition_faults fields may scope (left.end + 1) r)
      → t.end ≡ right.end → t.fits ≡ true → Tells left (condition_faults fields may scope n l) f n l → Tells right (condition_faults fields may scope (left.end + 1) r) g (left.end + 1) r
      → Tells t (condition_faults fields may scope n (binary o l r)) (may_be_condition fields scope (binary o l r)) n (binary o l r)
  told_condition t left right f g n o l r h p q s x y =
      let apart = joins_no_arithmetic o h in
      record {
        charge =
            p ∙ ap (λ k. charged (condition_faults fields may scope n l ++ condition_faults fields may scope k r)) (behind left _ f n l x)
            ∙ ap charged (picked (joins_conditions o) _ (control_faults fields may scope n l ++ control_faults fields may scope (n + width l + 1) r) h ∙ other (is_arithmetic o) (wrong_form fields scope n (binary o l r)) _ apart);
        end = told_end t left right _ _ f g n o l r q x y;
        form = s ∙ sym (ap not apart);
      }

  pub told_comparison : (t left right : Tested) (f g : Bool) (n : ℕ) (o : Infix) (l r : Tree) → joins_conditions o ≡ false → is_arithmetic o ≡ false
      → t.charge ≡ charged (control_faults fields may scope n l ++ control_faults fields may scope (left.end + 1) r)
      → t.end ≡ right.end → t.fits ≡ true → Tells left (control_faults fields may scope n l) f n l → Tells right (control_faults fields may scope (left.end + 1) r) g (left.end + 1) r
      → Tells t (condition_faults fields may scope n (binary o l r)) (may_be_condition fields scope (binary o l r)) n (binary o l r)
  told_comparison t left right f g n o l r h apart p q s x y = record {
    charge =
        p ∙ ap (λ k. charged (control_faults fields may scope n l ++ control_faults fields may scope k r)) (behind left _ f n l x)
        ∙ ap charged (other (joins_conditions o) (condition_faults fields may scope n l ++ condition_faults fields may scope (n + width l + 1) r) _ h ∙ other (is_arithmetic o) (wrong_form fields scope n (binary o l r)) _ apart);
    end = told_end t left right _ _ f g n o l r q x y;
    form = s ∙ sym (ap not apart);
  }

  -- one expression of a list, and those behind it
  pub controls_next : (xs : List SourceExpr) (i : ℕ) (d : SourceExpr) (n m : ℕ) → i < length xs → d ≡ get_or xs i d → m ≡ n + width (tree_of d)
      → controls_faults fields may scope n (map tree_of (drop i xs)) ≡ control_faults fields may scope n (tree_of d) ++ controls_faults fields may scope (m + 1) (map tree_of (drop (i + 1) xs))
  controls_next xs i d n m h e p =
      ap (λ l. controls_faults fields may scope n (map tree_of l)) (rest_of xs i d h e)
      ∙ ap (λ k. control_faults fields may scope n (tree_of d) ++ controls_faults fields may scope (k + 1) (map tree_of (drop (i + 1) xs))) (sym p)

  -- of no expressions nothing is wrong
  pub no_controls : (n : ℕ) (xs : List SourceExpr) → (length xs == 0) ≡ true → charged [] ≡ charged (controls_faults fields may scope n (map tree_of xs))
  no_controls n [] h = refl
  no_controls n (x ∷ xs) h = grind (arith, nat_tests)

pub told_sum : (fields : List ConfigField) (scope : Scope) (t left right : Tested) (f g : Bool) (n : ℕ) (o : Infix) (l r : Tree) → (is_arithmetic o && not (is_quotient o)) ≡ true
    → t.charge ≡ charged (data_faults fields scope n l ++ data_faults fields scope (left.end + 1) r)
    → t.end ≡ right.end → t.fits ≡ true → Tells left (data_faults fields scope n l) f n l → Tells right (data_faults fields scope (left.end + 1) r) g (left.end + 1) r
    → Tells t (data_faults fields scope n (binary o l r)) (may_be_data fields scope (binary o l r)) n (binary o l r)
told_sum fields scope t left right f g n o l r h p q s x y = record {
  charge =
      p ∙ ap (λ k. charged (data_faults fields scope n l ++ data_faults fields scope k r)) (behind left _ f n l x)
      ∙ ap charged (picked (is_arithmetic o && not (is_quotient o)) _ _ h);
  end = told_end t left right _ _ f g n o l r q x y;
  form = s ∙ sym h;
}

-- the faults of what a loop has gone through, and of what is left
pub record Gone (charge : Charge) (rest whole : List Fault) : Type 0 where
  pub done : List Fault
  pub told : charge ≡ charged done
  pub all : done ++ rest ≡ whole

pub gone_first : (charge : Charge) (whole : List Fault) → charge ≡ charged [] → Gone charge whole whole
gone_first charge whole p = record { done = []; told = p; all = refl }

pub gone_next : (charge later : Charge) (first rest more whole : List Fault) → ((a b : List Fault) → charge ≡ charged a → b ≡ first → later ≡ charged (a ++ b)) → rest ≡ first ++ more → Gone charge rest whole → Gone later more whole
gone_next charge later first rest more whole f p g = record {
  done = g.done ++ first;
  told = f g.done first g.told refl;
  all = append_assoc g.done first more ∙ ap (λ r. g.done ++ r) (sym p) ∙ g.all;
}

pub gone_all : (charge : Charge) (rest whole : List Fault) → rest ≡ [] → Gone charge rest whole → charge ≡ charged whole
gone_all charge rest whole p g = g.told ∙ ap charged (sym (append_nil g.done) ∙ ap (λ r. g.done ++ r) (sym p) ∙ g.all)
