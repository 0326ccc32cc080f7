-- Arguments, as many as there are both parameters and arguments.
use Rattle.std.proofs.Common.{◌≡◌, ℕ, zero, suc, ◌+◌, ◌<◌, ◌≤◌, Bool, not, min, List, [], ◌∷◌, ◌++◌, append_assoc, length, map, drop, get_or, refl, ap, sym, ◌∙◌, arith}
use Rattle.std.proofs.lemmas.List.{drop_all}
use Rattle.exo_tree.specs.Tree.{ConfigField, Param}
use Rattle.exo_meaning.specs.Units.{Scope, root_of, field_kind}
use Rattle.exo_reader.specs.Source.{Argument}
use Rattle.rules_names.specs.declared.fault.Fault.{Fault}
use Rattle.exo_types.specs.ArgumentRules.{argument_of, arguments_of, argument_faults, arguments_faults, passed_for, is_passed, spaced_width, argument_width}
use Rattle.rules_names.specs.declared.error.TypeKind.TheVariants.{SharedArgument}
use Rattle.rules_names.specs.Faults.{unless}
use Rattle.exo_types.specs.declared.call.Passed.{Passed}
use Rattle.exo_types.proofs.Lists.{drop_read}

module _ (fields : List ConfigField) where
  no_more : (scope : Scope) (ps : List Param) → arguments_of fields scope ps [] ≡ []
  no_more scope [] = refl
  no_more scope (p ∷ ps) = refl

  pub none_left : (scope : Scope) (ps : List Param) (args : List Argument) (k : ℕ) → min (length ps) (length args) ≤ k → arguments_of fields scope (drop k ps) (drop k args) ≡ []
  none_left scope [] args zero h = refl
  none_left scope [] args (suc k) h = refl
  none_left scope (p ∷ ps) [] zero h = refl
  none_left scope (p ∷ ps) [] (suc k) h = no_more scope (drop k ps)
  none_left scope (p ∷ ps) (a ∷ args) zero h = absurd (omega (arith, h))
  none_left scope (p ∷ ps) (a ∷ args) (suc k) h = none_left scope ps args k (omega (arith, h))

  no_faults : (writes : ℕ → Bool) (scope : Scope) (root : ℕ → ℕ) (passed : List Passed) (ps : List Param) (n : ℕ) → arguments_faults fields writes scope root passed ps n [] ≡ []
  no_faults writes scope root passed [] n = refl
  no_faults writes scope root passed (p ∷ ps) n = refl

  pub none_broken : (writes : ℕ → Bool) (scope : Scope) (root : ℕ → ℕ) (passed : List Passed) (ps : List Param) (n : ℕ) (args : List Argument) (k : ℕ) → min (length ps) (length args) ≤ k → arguments_faults fields writes scope root passed (drop k ps) n (drop k args) ≡ []
  none_broken writes scope root passed [] n args zero h = refl
  none_broken writes scope root passed [] n args (suc k) h = refl
  none_broken writes scope root passed (p ∷ ps) n [] zero h = refl
  none_broken writes scope root passed (p ∷ ps) n [] (suc k) h = no_faults writes scope root passed (drop k ps) n
  none_broken writes scope root passed (p ∷ ps) n (a ∷ args) zero h = absurd (omega (arith, h))
  none_broken writes scope root passed (p ∷ ps) n (a ∷ args) (suc k) h = none_broken writes scope root passed ps n args k (omega (arith, h))

module _ (fields : List ConfigField) (writes : ℕ → Bool) (scope : Scope) (root : ℕ → ℕ) where
  abbrev faults : List Passed → List Param → ℕ → List Argument → List Fault
  faults passed ps n args = arguments_faults fields writes scope root passed ps n args

  -- one argument, and what is left
  pub one_more : (passed after : List Passed) (n next : ℕ) (p : Param) (ps more : List Param) (a : Argument) (args rest : List Argument) (now : Passed)
      → ps ≡ p ∷ more
      → args ≡ a ∷ rest
      → now ≡ passed_for writes p (root_of (field_kind fields) root (argument_of fields scope p.kind a))
      → after ≡ passed ++ now ∷ []
      → next ≡ n + argument_width a + 1
      → faults passed ps n args ≡ (argument_faults fields scope p.kind n a ++ unless (not (is_passed now passed)) SharedArgument n) ++ faults after more next rest
  one_more passed after n next p ps more a args rest now d e eo ea en =
      let own = argument_faults fields scope p.kind n a in
      let shared : Passed → List Fault = λ o. unless (not (is_passed o passed)) SharedArgument n in
      (λ i. faults passed (d i) n (e i))
      ∙ (λ i. own ++ (shared (sym eo i) ++ faults (passed ++ sym eo i ∷ []) more (sym en i) rest))
      ∙ ap (λ x. own ++ (shared now ++ faults x more next rest)) (sym ea)
      ∙ sym (append_assoc own (shared now) (faults after more next rest))

-- the arguments that are left
pub spaced_read : {X : Type 0} (f : X → Argument) (xs : List X) (k : ℕ) (x : X) → x ≡ get_or xs k x → k < length xs → spaced_width (map f (drop k xs)) ≡ argument_width (f x) + suc (spaced_width (map f (drop (k + 1) xs)))
spaced_read f xs k x e h = ap (λ l. spaced_width (map f l)) (drop_read xs k x e h)

pub nothing_spaced : {X : Type 0} (f : X → Argument) (xs : List X) (k : ℕ) → length xs ≤ k → spaced_width (map f (drop k xs)) ≡ 0
nothing_spaced f xs k h = ap (λ l. spaced_width (map f l)) (drop_all k xs h)
