-- The context of a place is met, and what is read there is what it is, in each state that a run comes to.
use Rattle.std.proofs.Common.{◌≡◌, ◌≤ℤ◌, ℕ, zero, ℤ, pos, true, false, true≢false, not, ◌&&◌, List, [], ◌∷◌, ◌++◌, length, map, Option, Some, None, refl, sym, ap, ap₂, ◌∙◌, subst}
use Rattle.std.specs.Prelude.{get_or}
use Rattle.exo_tree.specs.Tree.{Kind, Truth, Control, Condition, ControlArg, ConditionArg, Whole, Window, Block, end, next, joined, Procedure, Program}
use Rattle.exo_tree.specs.Context.{Here, fill}
use Rattle.exo_tree.specs.Places.{Main, Path, Opened, opened}
use Rattle.exo_meaning.specs.Scene.{Scene, number, holds, is_set, stride_at}
use Rattle.exo_meaning.specs.State.{State}
use Rattle.exo_meaning.specs.Run.{program_world}
use Rattle.exo_meaning.specs.Inputs.{IsAdmissible, IsOfKind, is_buffer_of}
use Rattle.exo_meaning.specs.Orders.{Each}
use Rattle.exo_meaning.specs.Units as units
use Rattle.exo_meaning.specs.Units.{Scope, sort_in, has_dimension, is_flag, scope_of, field_kind, is_block, IsProcedure}
use Rattle.meaning_laws.specs.Context.{ComesTo}
use Rattle.meaning_laws.specs.Scoped.{is_param, is_scoped}
use Rattle.meaning_laws.specs.Sorted.{MayRun, scope_at, scope_there}
use Rattle.meaning_laws.specs.Facts.{Fact, Holds, Fails}
use Rattle.meaning_laws.specs.Known.{params_facts}
use Rattle.meaning_laws.specs.KnownFields.{FieldValue, AtEntry, Known, UnknownAt, KnownFields, at_entry, known_fields}
use Rattle.meaning_laws.specs.PlaceFacts.{PlaceFact, facts_round, place_facts, Numbers, field_number, with_known, IsTrueIn, AreWritten, is_written, Strides, HasStrides, StridesStand, in_scope, PlaceFactsLaw, PlainTelling}
use Rattle.meaning_laws.specs.Places.{OpenedLaw}
use Rattle.meaning_laws.specs.WellFormed.{WellScoped}
use Rattle.meaning_laws.specs.Made.{MadeLaw}
use Rattle.affine_forms.specs.Atoms.{Valuation, value}
use Rattle.affine_forms.specs.Forms.{is_affine, normal}
use Rattle.affine_forms.specs.Formulas.{AllowedFlags, is_affine_condition, is_met, all_met}
use Rattle.affine_systems.specs.Systems.{KeepsKinds}
use Rattle.affine_systems.proofs.Cases.{negation_met}
use Rattle.affine_places.specs.Roots.{roots_of, has_extents}
use Rattle.affine_places.specs.Facts.{kind_of}
use Rattle.affine_places.specs.Readings.{entry_reading, place_reading}
use Rattle.affine_places.specs.Laws.{but_fields, but_flag_fields, stride_in, IsTold, IsFlagTold, IsPlaceOfFlags, NormalAtPlace, FormulaAtPlace}
use Rattle.affine_places.specs.Laws.{WellFormedIsAffine}
use Rattle.check_facts.specs.Contexts.{values_agree, telling, told, condition_formula, fact_formula, formulas, facts_at, known_at_place}
use Rattle.check_laws.specs.Facts.Laws.{ComesToPlace, allowed_in, ContextsHold}
use Rattle.check_laws.proofs.OfFacts.Truths.{parts, one_of}
use Rattle.check_laws.proofs.OfFacts.Affine.{Agrees, Grows, same_number, same_truth, more_affine, more_affine_condition}
use Rattle.check_laws.proofs.OfFacts.Rooted.{Agrees as TableAgrees, ParamsAgree, block_is_told, params_are_told}
use Rattle.check_laws.proofs.OfFacts.Standing.{Names, params_stand, way_stands}
use Rattle.check_laws.proofs.OfFacts.Founded.{AllFounded, all_founded}
use Rattle.check_laws.proofs.OfFacts.Model.{model, model_is_made, model_sees, model_strides, strides, standing_strides}
use Rattle.check_laws.proofs.OfFacts.Told.{dimension_is_buffer, buffer_has_sort, flag_has_sort, named_params, flags_at_least, names_at, allowed, may, Covers, first_facts_allowed, block_written, around, params_are_covered, FactAllowed}
use Rattle.check_laws.proofs.OfFacts.Agreement.{rooted_some, agree_well}
use Rattle.check_laws.proofs.OfFacts.Facts.{fact_for, fact_is, kind_is, kinds_are_kind, fitted, fitted_own, fitted_fits, number_field, flag_field, truth_is_set, at_least}

-- the names of the parameters
params_named : (p : Procedure) → Names (is_param p) (scope_of [] p.params)
params_named p x h = one_of (is_buffer_of x p.params) false (named_params p.params [] x h) (λ k. k) (λ k. absurd (true≢false (sym k)))

flag_param : (p : Procedure) (x : ℕ) → is_flag (sort_in (scope_of [] p.params) x) ≡ true → is_param p x ≡ true
flag_param p x h = params_named p x (flag_has_sort (sort_in (scope_of [] p.params) x) h)

-- ---- numbers at a place

-- what a procedure says of its own names
record Own (p : Procedure) : Type 0 where
  scoped : is_scoped (is_param p) p.body ≡ true
  body : TableAgrees (roots_of p) p.body
  params : ParamsAgree (roots_of p) p.params
  extents : has_extents p ≡ true
  founded : (x : ℕ) → AllFounded (roots_of p) x

module _ (normal_law : NormalAtPlace) (formula_law : FormulaAtPlace) (u : Program) (p : Procedure) (own : Own p) (first now : State) where
  abbrev names : Scope
  names = scope_of [] p.params

  abbrev all : AllowedFlags
  all = allowed u.fields (roots_of p) names

  abbrev steps : Strides
  steps = strides (roots_of p) own.founded first.scene

  -- numbers whose fields are of their kinds, and whose bools are 0 or more
  record Fit (v : Numbers) : Type 0 where
    strides : HasStrides steps v.scene
    entry : (f : ℕ) → IsOfKind (kind_of u.fields f) (v.scene.fields f)
    unknown : (f : ℕ) (path : Path) → IsOfKind (kind_of u.fields f) (v.unknown f path)
    flags : (x : ℕ) → is_flag (sort_in names x) ≡ true → pos 0 ≤ℤ v.scene.control x

  module _ (v : Numbers) (fit : Fit v) where
    abbrev scene : KnownFields → Scene
    scene known = model (roots_of p) own.founded first.scene v.scene.control (λ f. field_number v f (known f))

    abbrev atoms : Valuation
    atoms = record { variable = v.scene.control; entry = λ f kind. fitted (kind_of u.fields f) kind (v.scene.fields f); unknown = λ f kind path. fitted (kind_of u.fields f) kind (v.unknown f path); stride = stride_in (scene at_entry) }

    atoms_fit : KeepsKinds atoms
    atoms_fit = record { entry = λ f kind. fitted_fits (kind_of u.fields f) kind (v.scene.fields f) (fit.entry f); unknown = λ f kind path. fitted_fits (kind_of u.fields f) kind (v.unknown f path) (fit.unknown f path) }

    bool_field : (f : ℕ) (n : ℤ) → field_kind u.fields f ≡ Some Truth → IsOfKind (kind_of u.fields f) n → pos 0 ≤ℤ n
    bool_field f n h = at_least (kind_of u.fields f) n (sym (kinds_are_kind u.fields f) ∙ kind_is u.fields f Truth h)

    same_strides : (known : KnownFields) (x k : ℕ) → stride_at (scene known) ((scene known).views x) k ≡ stride_at v.scene (v.scene.views x) k
    same_strides known x k = model_strides (roots_of p) own.founded first.scene v.scene.control (λ f. field_number v f (known f)) x k ∙ sym (fit.strides x k)

    -- a known value reads no field
    written_agrees : (known : KnownFields) → Agrees (but_fields all.numbers) (scene known) v.scene
    written_agrees known = record { control = λ x k. refl; fields = λ f k. absurd (true≢false (sym k)); strides = λ x j k. same_strides known x j }

    number_told : (known : KnownFields) (f : ℕ) (kind : Kind) → units.is_number_field (field_kind u.fields) (field_kind u.fields f) ≡ true → (o : FieldValue) → known f ≡ o → is_written (may u.fields (roots_of p) names) f o ≡ true → IsTold u.fields all.numbers atoms (scene known) f (fact_for o)
    number_told known f kind h AtEntry e w = fitted_own (kind_of u.fields f) (v.scene.fields f) ∙ sym (ap (field_number v f) e)
    number_told known f kind h (Known (ControlArg a)) e w =
        let affine = (parts (units.is_number_field (field_kind u.fields) (field_kind u.fields f)) (is_affine (but_fields all.numbers) a) w).1 in
        (affine, same_number (but_fields all.numbers) (scene known) v.scene (written_agrees known) a affine ∙ sym (ap (field_number v f) e))
    number_told known f kind h (Known (ConditionArg c)) e w = absurd (both (field_kind u.fields f) h (parts (units.is_flag_field (field_kind u.fields) (field_kind u.fields f)) (is_affine_condition (but_flag_fields all) c) w).0)
      where
        both : (o : Option Kind) → units.is_number_field (field_kind u.fields) o ≡ true → units.is_flag_field (field_kind u.fields) o ≡ true → ⊥
        both None m n = true≢false (sym m)
        both (Some k) m n = true≢false (sym m ∙ ap not n)
    number_told known f kind h (Known (Whole x)) e w = absurd (true≢false (sym w))
    number_told known f kind h (Known (Window x cs)) e w = absurd (true≢false (sym w))
    number_told known f kind h (UnknownAt path) e w = fitted_own (kind_of u.fields f) (v.unknown f path) ∙ sym (ap (field_number v f) e)

    flag_told : (known : KnownFields) (f : ℕ) → field_kind u.fields f ≡ Some Truth → (o : FieldValue) → known f ≡ o → is_written (may u.fields (roots_of p) names) f o ≡ true → IsFlagTold u.fields all atoms (scene known) f (fact_for o)
    flag_told known f h AtEntry e w = let is = ap (field_number v f) e in (fitted_own (kind_of u.fields f) (v.scene.fields f) ∙ sym is, subst (λ n. pos 0 ≤ℤ n) (sym is) (bool_field f (v.scene.fields f) h (fit.entry f)))
    flag_told known f h (Known (ControlArg a)) e w = absurd (true≢false (sym (parts (units.is_number_field (field_kind u.fields) (field_kind u.fields f)) (is_affine (but_fields all.numbers) a) w).0 ∙ ap (λ o. units.is_number_field (field_kind u.fields) o) h))
    flag_told known f h (Known (ConditionArg c)) e w =
        let affine = (parts (units.is_flag_field (field_kind u.fields) (field_kind u.fields f)) (is_affine_condition (but_flag_fields all) c) w).1 in
        (affine, same_truth (but_flag_fields all) (scene known) v.scene (written_agrees known) (λ x k. refl) (λ g k. absurd (true≢false (sym k))) c affine ∙ sym (truth_is_set (holds v.scene c)) ∙ sym (ap (λ z. is_set (field_number v f z)) e))
    flag_told known f h (Known (Whole x)) e w = absurd (true≢false (sym w))
    flag_told known f h (Known (Window x cs)) e w = absurd (true≢false (sym w))
    flag_told known f h (UnknownAt path) e w = let is = ap (field_number v f) e in (fitted_own (kind_of u.fields f) (v.unknown f path) ∙ sym is, subst (λ n. pos 0 ≤ℤ n) (sym is) (bool_field f (v.unknown f path) h (fit.unknown f path)))

    is_place : (known : KnownFields) → AreWritten (may u.fields (roots_of p) names) known → IsPlaceOfFlags u.fields p (told u.fields known) all atoms (scene known)
    is_place known written = record {
      numbers = record {
        variables = λ x. refl;
        buffers = λ b d. refl;
        made = model_is_made (roots_of p) own.founded first.scene v.scene.control (λ f. field_number v f (known f));
        strides = λ x k h. model_sees (roots_of p) own.founded first.scene v.scene.control (λ f. field_number v f (known f)) x (rooted_some (roots_of p x) h);
        told = λ f h. let k = number_field (field_kind u.fields) (field_kind u.fields f) h in subst (IsTold u.fields all.numbers atoms (scene known) f) (sym (fact_is u.fields known f k.0 k.1)) (number_told known f k.0 h (known f) refl (written f));
      };
      variables = fit.flags;
      told = λ f h. let k = flag_field (field_kind u.fields) (field_kind u.fields f) h in subst (IsFlagTold u.fields all atoms (scene known) f) (sym (fact_is u.fields known f Truth k)) (flag_told known f k (known f) refl (written f));
    }

    -- ---- facts

    known_agrees : (known : KnownFields) → Agrees all.numbers (scene known) (with_known v known)
    known_agrees known = record { control = λ x k. refl; fields = λ f k. refl; strides = λ x j k. same_strides known x j }

    condition_is : (known : KnownFields) → AreWritten (may u.fields (roots_of p) names) known → (c : Condition) → is_affine_condition all c ≡ true → is_met atoms (condition_formula u p known c) ≡ holds (with_known v known) c
    condition_is known written c h =
        formula_law u.fields p (told u.fields known) all atoms (scene known) c own.extents (is_place known written) h
        ∙ same_truth all (scene known) (with_known v known) (known_agrees known) (λ x k. refl) (λ f k. refl) c h

    fact_met : (known : KnownFields) (fact : Fact) → AreWritten (may u.fields (roots_of p) names) known → FactAllowed u.fields (roots_of p) names fact → IsTrueIn v (record { known = known; fact = fact }) → is_met atoms (fact_formula u p known fact) ≡ true
    fact_met known (Holds c) written h true_there = condition_is known written c h ∙ true_there
    fact_met known (Fails c) written h false_there = negation_met atoms (condition_formula u p known c) ∙ ap not (condition_is known written c h ∙ false_there)

    facts_met : (es : List PlaceFact) → Each (IsTrueIn v) es → Each (λ (e : PlaceFact). AreWritten (may u.fields (roots_of p) names) e.known) es → Each (λ (e : PlaceFact). FactAllowed u.fields (roots_of p) names e.fact) es → all_met atoms (formulas u p es) ≡ true
    facts_met [] facts written affine = refl
    facts_met (e ∷ es) facts written affine = ap₂ ◌&&◌ (fact_met e.known e.fact written.0 affine.0 facts.0) (facts_met es facts.1 written.1 affine.1)

    -- ---- expressions over the names in scope

    module _ (scope : Scope) (covers : Covers u.fields (roots_of p) names scope) (known : KnownFields) (written : AreWritten (may u.fields (roots_of p) names) known) (control : (x : ℕ) → v.scene.control x ≡ now.scene.control x) (fields_are : (f : ℕ) → now.scene.fields f ≡ field_number v f (known f)) (strides_are : (x k : ℕ) → has_dimension k (sort_in scope x) ≡ true → stride_at now.scene (now.scene.views x) k ≡ get_or (steps v.scene.control x) k (pos 0)) where
      grows : Grows (allowed_in u.fields scope).numbers all.numbers
      grows = record { variables = λ x k. refl; fields = λ f k. k; strides = λ x j k. covers.buffers x (dimension_is_buffer j (sort_in scope x) k) }

      there_agrees : Agrees (allowed_in u.fields scope).numbers (scene known) now.scene
      there_agrees = record {
        control = λ x k. control x;
        fields = λ f k. sym (fields_are f);
        strides = λ x j k. model_strides (roots_of p) own.founded first.scene v.scene.control (λ f. field_number v f (known f)) x j ∙ sym (strides_are x j k);
      }

      number_there : (e : Control) → is_affine (allowed_in u.fields scope).numbers e ≡ true → value atoms (normal (place_reading u.fields (roots_of p) (told u.fields known)) e) ≡ number now.scene e
      number_there e h =
          normal_law u.fields p (told u.fields known) all.numbers atoms (scene known) e own.extents (is_place known written).numbers (more_affine (allowed_in u.fields scope).numbers all.numbers grows e h)
          ∙ same_number (allowed_in u.fields scope).numbers (scene known) now.scene there_agrees e h

      condition_there : (c : Condition) → is_affine_condition (allowed_in u.fields scope) c ≡ true → is_met atoms (condition_formula u p known c) ≡ holds now.scene c
      condition_there c h =
          formula_law u.fields p (told u.fields known) all atoms (scene known) c own.extents (is_place known written) (more_affine_condition (allowed_in u.fields scope) all grows covers.flags (λ f k. k) c h)
          ∙ same_truth (allowed_in u.fields scope) (scene known) now.scene there_agrees (λ x k. control x) (λ f k. sym (fields_are f)) c h

-- ---- at a place

-- what is asked of an opened place
record At (u : Program) (p : Procedure) (o : Option Opened) (t : State) (v : Valuation) : Type 0 where
  kinds : KeepsKinds v
  context : all_met v (formulas u p (facts_at u p o)) ≡ true
  numbers : (e : Control) → is_affine (allowed_in u.fields (scope_there p o)).numbers e ≡ true → value v (normal (place_reading u.fields (roots_of p) (told u.fields (known_at_place u p o))) e) ≡ number t.scene e
  conditions : (c : Condition) → is_affine_condition (allowed_in u.fields (scope_there p o)) c ≡ true → is_met v (condition_formula u p (known_at_place u p o) c) ≡ holds t.scene c

each_join : {A : Type 0} (P : A → Type 0) (xs ys : List A) → Each P xs → Each P ys → Each P (xs ++ ys)
each_join P [] ys h k = k
each_join P (x ∷ xs) ys h k = (h.0, each_join P xs ys h.1 k)

joined_end : (b : Block) → joined b end ≡ b
joined_end end = refl
joined_end (next a b) = ap (next a) (joined_end b)

module _ (place_law : PlaceFactsLaw) (plain_law : PlainTelling) (made_law : MadeLaw) (opened_law : OpenedLaw) (scoped_law : WellScoped) (affine_law : WellFormedIsAffine) (normal_law : NormalAtPlace) (formula_law : FormulaAtPlace) where
  at_context : (u : Program) (p : Procedure) → MayRun u.fields (length u.memories) u.procedures p → (o : Opened) (s t : State) → p.body ≡ fill o.around o.piece → IsAdmissible (program_world u) p s → ComesTo (program_world u) o.piece o.around s t → (v : Valuation) × At u p (Some o) t v
  at_context u p may_run o s t was good come =
      let c = o.around in
      let old = o.piece in
      let fields = field_kind u.fields in
      let memories = length u.memories in
      let world = program_world u in
      let keeps = may_run.procedure in
      let scope = scope_of [] p.params in
      let scoped = (scoped_law fields memories world.callees p keeps).0 in
      let body = block_is_told p scoped keeps.distinct in
      let params = params_are_told p keeps.distinct in
      let extents = (parts (has_extents p) _ (affine_law fields memories world.callees p keeps)).0 in
      let own : Own p = record { scoped = scoped; body = body; params = params; extents = extents; founded = all_founded p scoped params body extents } in
      let steps : Strides = strides (roots_of p) own.founded s.scene in
      let stand : StridesStand world p s steps = λ d there v here came values same x k bound. (
      let n = made_law fields memories world.callees world p d there s v keeps here good came in
      standing_strides (roots_of p) own.founded s.scene values v.scene (in_scope p d) x k same
      (way_stands fields memories world.callees (roots_of p) s.scene v.scene there d (is_param p) scope (λ y. y) (params_named p)
      (subst (λ b. is_block fields memories world.callees scope (λ y. y) b ≡ true) here keeps.body)
      (subst (λ b. is_scoped (is_param p) b ≡ true) here scoped)
      (subst (TableAgrees (roots_of p)) here body) n.made
      (params_stand fields memories world.callees (roots_of p) s.scene v.scene (is_param p) p.params [] (λ y j. absurd (true≢false (sym j))) (λ y j. j) keeps.params params good.arguments (λ y j. (n.params y j).control) (λ y j. ((n.params y j).buffers, (n.params y j).views))) x bound)
      ) in
      let covers = params_are_covered u.fields (roots_of p) p.params params in
      let set = may u.fields (roots_of p) scope in
      let agree = values_agree (entry_reading u.fields (roots_of p)) in
      let found = place_law u.fields memories u.procedures p may_run (λ a. a) agree set (plain_law u.fields memories u.procedures p may_run) (block_written u.fields (roots_of p) scope memories world.callees p.body scope (λ y. y) keeps.body body covers) s steps good stand (agree_well normal_law u p scope extents own.founded s.scene) c old t was come in
      let v = found.0 in
      let is = found.1 in
      let n = made_law fields memories world.callees world p c old s t keeps was good come in
      let fit : Fit normal_law formula_law u p own s t v = record {
        strides = is.strides;
        entry = λ f. subst (λ k. IsOfKind k (v.scene.fields f)) (kinds_are_kind u.fields f) (subst (IsOfKind (world.kinds f)) (sym (is.entry f)) (good.fields f));
        unknown = λ f path. subst (λ k. IsOfKind k (v.unknown f path)) (kinds_are_kind u.fields f) (is.kinds f path);
        flags = λ x h. subst (λ z. pos 0 ≤ℤ z) ((n.params x (flag_param p x h)).control ∙ sym (is.control x)) (flags_at_least s.scene p.params [] good.arguments (λ y j. absurd (true≢false (sym j))) x h);
      } in
      let round = around u.fields (roots_of p) scope memories world.callees (telling u p) old c [] Main zero at_entry scope (λ y. y) (subst (λ b. is_block fields memories world.callees scope (λ y. y) b ≡ true) was keeps.body) (subst (TableAgrees (roots_of p)) was body) covers in
      let known = known_fields (telling u p) c old in
      let there = names_at c (is_param p) scope (params_named p) in
      let steps_there = λ (x k : ℕ) (h : has_dimension k (sort_in (scope_at c scope) x) ≡ true). stand c old t was come v.scene.control (λ y j. is.control y) x k (there x (buffer_has_sort (sort_in (scope_at c scope) x) (dimension_is_buffer k (sort_in (scope_at c scope) x) h))) in (
        atoms normal_law formula_law u p own s t v fit,
        record {
          kinds = atoms_fit normal_law formula_law u p own s t v fit;
          context = facts_met normal_law formula_law u p own s t v fit (place_facts (telling u p) p c old) is.facts is.facts_written (each_join (λ (e : PlaceFact). FactAllowed u.fields (roots_of p) scope e.fact) (map (λ fact. record { known = at_entry; fact = fact }) (params_facts p.params ++ map Holds p.asserts)) (facts_round (telling u p) [] Main zero c old at_entry) (first_facts_allowed u.fields (roots_of p) scope at_entry p.params scope covers p.asserts keeps.asserts) round.facts);
          numbers = number_there normal_law formula_law u p own s t v fit (scope_at c scope) round.covers known is.written is.control is.fields steps_there;
          conditions = condition_there normal_law formula_law u p own s t v fit (scope_at c scope) round.covers known is.written is.control is.fields steps_there;
        },
      )

  pub contexts_hold : ContextsHold
  contexts_hold u p may_run path s t good come =
      let found = go (opened 1 path p.body) refl come in
      (found.0, record { kinds = found.1.kinds; context = found.1.context; numbers = found.1.numbers; conditions = found.1.conditions })
    where
      go : (o : Option Opened) → opened 1 path p.body ≡ o → ComesToPlace (program_world u) o s t → (v : Valuation) × At u p o t v
      go None e z =
          let found = at_context u p may_run (record { around = Here end; piece = p.body }) s t (sym (joined_end p.body)) good z in
          (found.0, record { kinds = found.1.kinds; context = found.1.context; numbers = found.1.numbers; conditions = found.1.conditions })
      go (Some o) e z = at_context u p may_run o s t (sym (opened_law 1 path p.body o e)) good z
