-- Calls are judged by what their callees ask alone.
use Rattle.std.proofs.Common.{◌≡◌, ℕ, suc, ◌+◌, ◌==◌, Bool, not, List, [], ◌∷◌, ◌++◌, length, Some, refl, ap, ap₂, ◌∙◌}
use Rattle.exo_tree.specs.Tree as tree
use Rattle.exo_tree.specs.Tree.{ConfigField, ParamKind, ControlParam, TensorParam, WindowParam, Param}
use Rattle.exo_meaning.specs.Units.{Scope, has_cell, is_whole, root_of, field_kind}
use Rattle.exo_reader.specs.Source.{Argument, value, window}
use Rattle.rules_names.specs.declared.error.TypeKind.TheVariants.{RankMismatch, SharedArgument}
use Rattle.rules_names.specs.declared.fault.Fault.{Fault}
use Rattle.rules_names.specs.Faults.{unless}
use Rattle.rules_names.specs.WindowRules.{window_faults}
use Rattle.exo_types.specs.declared.call.Passed.{Passed}
use Rattle.exo_types.specs.ArgumentRules.{Signature, argument_width, passed_for, is_passed, cell_takes, spans, tensor_faults, strided_faults, argument_faults, argument_of, arguments_of, arguments_faults, call_faults}
use Rattle.exo_types_laws.specs.Shown.Again.{SameKind, AreAlike, IsAlike}

module _ (fields : List ConfigField) (scope : Scope) where
  argument_alike : (k j : ParamKind) (a : Argument) → SameKind k j → argument_of fields scope k a ≡ argument_of fields scope j a
  argument_alike (ControlParam k) (ControlParam j) a same = ap (λ (q : tree.Kind). argument_of fields scope (ControlParam q) a) same
  argument_alike (TensorParam c ds m) (TensorParam d es n) (value e) same = refl
  argument_alike (TensorParam c ds m) (TensorParam d es n) (window x cs) same = refl
  argument_alike (WindowParam c ds m) (WindowParam d es n) (value e) same = refl
  argument_alike (WindowParam c ds m) (WindowParam d es n) (window x cs) same = refl
  argument_alike (ControlParam k) (TensorParam d es n) a same = absurd same
  argument_alike (ControlParam k) (WindowParam d es n) a same = absurd same
  argument_alike (TensorParam c ds m) (ControlParam j) a same = absurd same
  argument_alike (TensorParam c ds m) (WindowParam d es n) a same = absurd same
  argument_alike (WindowParam c ds m) (ControlParam j) a same = absurd same
  argument_alike (WindowParam c ds m) (TensorParam d es n) a same = absurd same

  faults_alike : (k j : ParamKind) (n : ℕ) (a : Argument) → SameKind k j → argument_faults fields scope k n a ≡ argument_faults fields scope j n a
  faults_alike (ControlParam k) (ControlParam j) n a same = ap (λ (q : tree.Kind). argument_faults fields scope (ControlParam q) n a) same
  faults_alike (TensorParam c ds m) (TensorParam d es o) n (value e) same = ap₂ (λ (q : tree.Cell) (l : ℕ). tensor_faults fields scope q l n e) same.0 same.1
  faults_alike (TensorParam c ds m) (TensorParam d es o) n (window x cs) same =
      ap₂ (λ (q : tree.Cell) (l : ℕ). window_faults fields (cell_takes q l) scope n x cs ++ unless (spans cs == l) RankMismatch n) same.0 same.1
  faults_alike (WindowParam c ds m) (WindowParam d es o) n (value e) same = ap₂ (λ (q : tree.Cell) (l : ℕ). strided_faults fields scope q l n n e) same.0 same.1
  faults_alike (WindowParam c ds m) (WindowParam d es o) n (window x cs) same =
      ap₂ (λ (q : tree.Cell) (l : ℕ). window_faults fields (has_cell q) scope n x cs ++ unless (spans cs == l) RankMismatch n) same.0 same.1
  faults_alike (ControlParam k) (TensorParam d es o) n a same = absurd same
  faults_alike (ControlParam k) (WindowParam d es o) n a same = absurd same
  faults_alike (TensorParam c ds m) (ControlParam j) n a same = absurd same
  faults_alike (TensorParam c ds m) (WindowParam d es o) n a same = absurd same
  faults_alike (WindowParam c ds m) (ControlParam j) n a same = absurd same
  faults_alike (WindowParam c ds m) (TensorParam d es o) n a same = absurd same

  whole_alike : (k j : ParamKind) → SameKind k j → is_whole k ≡ is_whole j
  whole_alike (ControlParam k) (ControlParam j) same = refl
  whole_alike (TensorParam c ds m) (TensorParam d es o) same = ap (λ l. not (l == 0)) same.1
  whole_alike (WindowParam c ds m) (WindowParam d es o) same = refl
  whole_alike (ControlParam k) (TensorParam d es o) same = absurd same
  whole_alike (ControlParam k) (WindowParam d es o) same = absurd same
  whole_alike (TensorParam c ds m) (ControlParam j) same = absurd same
  whole_alike (TensorParam c ds m) (WindowParam d es o) same = absurd same
  whole_alike (WindowParam c ds m) (ControlParam j) same = absurd same
  whole_alike (WindowParam c ds m) (TensorParam d es o) same = absurd same

  pub arguments_alike : (writes others : ℕ → Bool) (ps qs : List Param) (args : List Argument) → AreAlike writes others ps qs → arguments_of fields scope ps args ≡ arguments_of fields scope qs args
  arguments_alike writes others [] [] args alike = refl
  arguments_alike writes others [] (q ∷ qs) args alike = absurd alike
  arguments_alike writes others (p ∷ ps) [] args alike = absurd alike
  arguments_alike writes others (p ∷ ps) (q ∷ qs) [] alike = refl
  arguments_alike writes others (p ∷ ps) (q ∷ qs) (a ∷ args) alike = ap₂ ◌∷◌ (argument_alike p.kind q.kind a alike.0) (arguments_alike writes others ps qs args alike.2)

  module _ (root : ℕ → ℕ) where
    all_faults_alike : (writes others : ℕ → Bool) (passed : List Passed) (ps qs : List Param) (n : ℕ) (args : List Argument) → AreAlike writes others ps qs → arguments_faults fields writes scope root passed ps n args ≡ arguments_faults fields others scope root passed qs n args
    all_faults_alike writes others passed [] [] n args alike = refl
    all_faults_alike writes others passed [] (q ∷ qs) n args alike = absurd alike
    all_faults_alike writes others passed (p ∷ ps) [] n args alike = absurd alike
    all_faults_alike writes others passed (p ∷ ps) (q ∷ qs) n [] alike = refl
    all_faults_alike writes others passed (p ∷ ps) (q ∷ qs) n (a ∷ args) alike =
        let m : ℕ = n + argument_width a + 1 in
        let now : Passed = passed_for others q (root_of (field_kind fields) root (argument_of fields scope q.kind a)) in
        let roots = ap (root_of (field_kind fields) root) (argument_alike p.kind q.kind a alike.0) in
        ap₂ (λ (fs : List Fault) (e : Passed). fs ++ (unless (not (is_passed e passed)) SharedArgument n ++ arguments_faults fields writes scope root (passed ++ e ∷ []) ps m args))
        (faults_alike p.kind q.kind n a alike.0)
        (λ i. record { root = roots i; written = alike.1 i; whole = whole_alike p.kind q.kind alike.0 i })
        ∙ ap (λ (fs : List Fault). argument_faults fields scope q.kind n a ++ (unless (not (is_passed now passed)) SharedArgument n ++ fs))
        (all_faults_alike writes others (passed ++ now ∷ []) ps qs m args alike.2)

lengths_alike : (writes others : ℕ → Bool) (ps qs : List Param) → AreAlike writes others ps qs → length ps ≡ length qs
lengths_alike writes others [] [] alike = refl
lengths_alike writes others [] (q ∷ qs) alike = absurd alike
lengths_alike writes others (p ∷ ps) [] alike = absurd alike
lengths_alike writes others (p ∷ ps) (q ∷ qs) alike = ap suc (lengths_alike writes others ps qs alike.2)

pub call_alike : (fields : List ConfigField) (scope : Scope) (root : ℕ → ℕ) (a b : Signature) (n : ℕ) (args : List Argument) → IsAlike a b → call_faults fields (Some a) scope root n args ≡ call_faults fields (Some b) scope root n args
call_alike fields scope root a b n args alike =
    ap₂ ◌++◌ (ap (λ (l : ℕ). unless (length args == l) RankMismatch n) (lengths_alike a.writes b.writes a.params b.params alike)) (all_faults_alike fields scope root a.writes b.writes [] a.params b.params (n + 2) args alike)

-- the same is alike
same_kind : (k : ParamKind) → SameKind k k
same_kind (ControlParam k) = refl
same_kind (TensorParam c ds m) = (refl, refl)
same_kind (WindowParam c ds m) = (refl, refl)

pub same_alike : (writes : ℕ → Bool) (ps : List Param) → AreAlike writes writes ps ps
same_alike writes [] = tt
same_alike writes (p ∷ ps) = (same_kind p.kind, refl, same_alike writes ps)
