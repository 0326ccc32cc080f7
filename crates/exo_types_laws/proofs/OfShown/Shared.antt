-- A written call breaks no rule: its arguments are of their parameters, and share no buffer that is written.
use Rattle.std.proofs.Common.{◌≡◌, ℕ, suc, ◌+◌, ◌==◌, Bool, true, false, not, ◌&&◌, ◌||◌, List, [], ◌∷◌, ◌++◌, length, map, Option, Some, None, option_map, refl, sym, ap, ap₂, ◌∙◌, true≢false, eqb-true, eq-eqb}
use Rattle.std.proofs.lemmas.List.{length-map, map-append}
use Rattle.exo_tree.specs.Tree.{Kind, ConfigField, Argument, ControlArg, ConditionArg, Whole, Window, Param}
use Rattle.exo_meaning.specs.Units as units
use Rattle.exo_meaning.specs.Units.{Scope, is_for, are_for, share_nothing_written, is_shared, is_whole, field_kind, root_of}
use Rattle.exo_meaning.specs.Renaming.{Renaming, re_argument, re_arguments}
use Rattle.rules_names.specs.declared.error.TypeKind.TheVariants.{SharedArgument}
use Rattle.rules_names.specs.Faults.{unless}
use Rattle.text_show.specs.Words.{Words}
use Rattle.exo_types.specs.declared.call.Passed.{Passed}
use Rattle.exo_types.specs.ArgumentRules.{passed_for, is_passed, argument_width, argument_of, arguments_of, arguments_faults, call_faults}
use Rattle.exo_types_laws.specs.Shown.Written as written
use Rattle.exo_types_laws.specs.Shown.Names.{Each}
use Rattle.exo_types_laws.proofs.OfShown.Scoped.{Finds, re_scope, both, neither, denied}
use Rattle.exo_types_laws.proofs.OfShown.Resolved.{FindsFields, unless_fine, joined_fine}
use Rattle.exo_types_laws.proofs.OfShown.Numbered.{one_to_one}
use Rattle.exo_types_laws.proofs.OfShown.Passed.{HasCoords, argument_same, argument_fine}
use Rattle.exo_modes.specs.Aliases.{same_buffer}

pub same_ids : (r : Renaming) (x y : ℕ) → (r.to x == r.to y) ≡ (x == y)
same_ids r x y = by (x == y) refl
  where
    by : (t : Bool) → (x == y) ≡ t → (r.to x == r.to y) ≡ t
    by true p = eq-eqb (r.to x) (r.to y) (ap r.to (eqb-true x y p))
    by false p = one_to_one r x y p

pub as_many : (ps : List Param) (args : List Argument) (kinds : ℕ → Option Kind) (scope : Scope) → are_for kinds scope ps args ≡ true → length args ≡ length ps
as_many [] [] kinds scope h = refl
as_many [] (a ∷ args) kinds scope h = absurd (true≢false (sym h))
as_many (p ∷ ps) [] kinds scope h = absurd (true≢false (sym h))
as_many (p ∷ ps) (a ∷ args) kinds scope h = ap suc (as_many ps args kinds scope (both (is_for kinds scope p.kind a) _ h).1)

module _ (w : Words) (fields : List ConfigField) (r : Renaming) (scope : Scope) (finds : Finds w r scope) (finds_fields : FindsFields fields) where
  abbrev there : Scope
  there = re_scope r scope

  abbrev kinds : ℕ → Option Kind
  kinds = field_kind fields

  pub arguments_same : (ps : List Param) (args : List Argument) → are_for kinds scope ps args ≡ true → Each HasCoords args → arguments_of fields there ps (map (written.argument_of w fields) args) ≡ re_arguments r args
  arguments_same [] [] h some = refl
  arguments_same [] (a ∷ args) h some = absurd (true≢false (sym h))
  arguments_same (p ∷ ps) [] h some = refl
  arguments_same (p ∷ ps) (a ∷ args) h some =
      let s = both (is_for kinds scope p.kind a) _ h in
      ap₂ ◌∷◌ (argument_same w fields r scope finds finds_fields p.kind a s.0 some.0) (arguments_same ps args s.1 some.1)

  module _ (writes : ℕ → Bool) (root root' : ℕ → ℕ) (roots : (x : ℕ) → root' (r.to x) ≡ r.to (root x)) where
    -- what was passed may share no buffer with that parameter
    abbrev forbids : Passed → Param → Bool
    forbids e q = (e.written || writes q.binder.id) && (e.whole || is_whole q.kind)

    -- what was passed shares its buffer with a later argument
    abbrev shared : Passed → List Param → List Argument → Bool
    shared e [] args = false
    shared e (q ∷ qs) [] = false
    shared e (q ∷ qs) (a ∷ args) = (units.same_root kinds e.root (root_of kinds root a) && forbids e q) || shared e qs args

    shared_is : (p : Param) (o : Option ℕ) (qs : List Param) (args : List Argument) → is_shared kinds writes root p o qs args ≡ shared (passed_for writes p o) qs args
    shared_is p o [] args = refl
    shared_is p o (q ∷ qs) [] = refl
    shared_is p o (q ∷ qs) (a ∷ args) = ap (λ t. (units.same_root kinds o (root_of kinds root a) && forbids (passed_for writes p o) q) || t) (shared_is p o qs args)

    abbrev re_passed : Passed → Passed
    re_passed e = record e { root = option_map r.to e.root }

    root_re : (a : Argument) → root_of kinds root' (re_argument r a) ≡ option_map r.to (root_of kinds root a)
    root_re (ControlArg e) = refl
    root_re (ConditionArg c) = refl
    root_re (Whole x) = ap Some (roots x)
    root_re (Window x cs) = ap Some (roots x)

    same_re : (o u : Option ℕ) → same_buffer (option_map r.to o) (option_map r.to u) ≡ units.same_root kinds o u
    same_re None u = refl
    same_re (Some x) None = refl
    same_re (Some x) (Some y) = same_ids r x y

    -- nothing that was passed before is shared
    abbrev Clear : List Passed → List Param → List Argument → Type 0
    Clear [] ps args = Unit {0}
    Clear (e ∷ passed) ps args = (shared e ps args ≡ false) × Clear passed ps args

    passed_fine : (passed : List Passed) (p : Param) (ps : List Param) (a : Argument) (args : List Argument) → Clear passed (p ∷ ps) (a ∷ args) → is_passed (passed_for writes p (option_map r.to (root_of kinds root a))) (map re_passed passed) ≡ false
    passed_fine [] p ps a args clear = refl
    passed_fine (e ∷ passed) p ps a args clear =
        let s = neither (units.same_root kinds e.root (root_of kinds root a) && forbids e p) _ clear.0 in
        ap₂ ◌||◌ (ap (λ t. t && forbids e p) (same_re e.root (root_of kinds root a)) ∙ s.0) (passed_fine passed p ps a args clear.1)

    clear_rest : (passed : List Passed) (p : Param) (ps : List Param) (a : Argument) (args : List Argument) → Clear passed (p ∷ ps) (a ∷ args) → Clear passed ps args
    clear_rest [] p ps a args clear = tt
    clear_rest (e ∷ passed) p ps a args clear = ((neither (units.same_root kinds e.root (root_of kinds root a) && forbids e p) _ clear.0).1, clear_rest passed p ps a args clear.1)

    clear_more : (passed : List Passed) (e : Passed) (ps : List Param) (args : List Argument) → Clear passed ps args → shared e ps args ≡ false → Clear (passed ++ e ∷ []) ps args
    clear_more [] e ps args clear h = (h, tt)
    clear_more (f ∷ passed) e ps args clear h = (clear.0, clear_more passed e ps args clear.1 h)

    arguments_fine : (ps : List Param) (args : List Argument) (passed : List Passed) → are_for kinds scope ps args ≡ true → share_nothing_written kinds writes root ps args ≡ true → Each HasCoords args → Clear passed ps args → (n : ℕ) → arguments_faults fields writes there root' (map re_passed passed) ps n (map (written.argument_of w fields) args) ≡ []
    arguments_fine [] args passed h apart some clear n = refl
    arguments_fine (p ∷ ps) [] passed h apart some clear n = refl
    arguments_fine (p ∷ ps) (a ∷ args) passed h apart some clear n =
        let s = both (is_for kinds scope p.kind a) _ h in
        let t = both (not (is_shared kinds writes root p (root_of kinds root a) ps args)) _ apart in
        let same = argument_same w fields r scope finds finds_fields p.kind a s.0 some.0 in
        let o : root_of kinds root' (argument_of fields there p.kind (written.argument_of w fields a)) ≡ option_map r.to (root_of kinds root a) = ap (root_of kinds root') same ∙ root_re a in
        let entry : Passed = passed_for writes p (root_of kinds root a) in
        let fresh : shared entry ps args ≡ false = sym (shared_is p (root_of kinds root a) ps args) ∙ denied _ t.0 in
        joined_fine _ _ (argument_fine w fields r scope finds finds_fields p.kind a s.0 some.0 n)
        (joined_fine _ _
        (ap (λ u. unless (not (is_passed (passed_for writes p u) (map re_passed passed))) SharedArgument n) o ∙ unless_fine _ _ n (ap not (passed_fine passed p ps a args clear)))
        (ap (λ u. arguments_faults fields writes there root' (map re_passed passed ++ passed_for writes p u ∷ []) ps (n + argument_width (written.argument_of w fields a) + 1) (map (written.argument_of w fields) args)) o
        ∙ ap (λ l. arguments_faults fields writes there root' l ps (n + argument_width (written.argument_of w fields a) + 1) (map (written.argument_of w fields) args)) (sym (map-append re_passed passed (entry ∷ [])))
        ∙ arguments_fine ps args (passed ++ entry ∷ []) s.1 t.1 some.1 (clear_more passed entry ps args (clear_rest passed p ps a args clear) fresh) _))

    pub call_fine : (ps : List Param) (args : List Argument) → are_for kinds scope ps args ≡ true → share_nothing_written kinds writes root ps args ≡ true → Each HasCoords args → (n : ℕ) → call_faults fields (Some (record { params = ps; writes = writes })) there root' n (map (written.argument_of w fields) args) ≡ []
    call_fine ps args h apart some n =
        joined_fine _ _
        (unless_fine _ _ n (eq-eqb _ _ (length-map args (written.argument_of w fields) ∙ as_many ps args kinds scope h)))
        (arguments_fine ps args [] h apart some tt (n + 2))
