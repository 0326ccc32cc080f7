-- In a well-formed procedure all variables of the context of a place are below 2^31.
use Rattle.std.proofs.Common.{◌≡◌, ◌≤◌, ◌^◌, ℕ, zero, suc, nat_lt, ◌==◌, Bool, true, false, cond}
use Rattle.std.proofs.Common.{◌&&◌, List, [], ◌∷◌, ◌++◌, map, length, Option, Some, None, refl, ap}
use Rattle.std.proofs.Common.{ap₂, ◌∙◌, arith}
use Rattle.std.specs.List.{list_all}
use Rattle.exo_tree.specs.Tree.{Condition, ControlArg, ConditionArg, Whole}
use Rattle.exo_tree.specs.Tree.{Window, end, Procedure, Program}
use Rattle.exo_tree.specs.Context.{Here}
use Rattle.exo_tree.specs.Places.{Opened, opened}
use Rattle.exo_meaning.specs.Binders.{binders}
use Rattle.exo_meaning.specs.Orders.{Each}
use Rattle.exo_meaning.specs.Units.{is_short}
use Rattle.meaning_laws.specs.Facts.{Fact, Holds, Fails}
use Rattle.meaning_laws.specs.KnownFields as known
use Rattle.meaning_laws.specs.KnownFields.{KnownFields, FieldValue, AtEntry}
use Rattle.meaning_laws.specs.PlaceFacts.{PlaceFact, all_written, is_written}
use Rattle.meaning_laws.specs.Scoped.{UnmentionedLaw}
use Rattle.meaning_laws.specs.WellFormed.{WellScoped}
use Rattle.meaning_laws.proofs.Places.{opened_law}
use Rattle.affine_forms.specs.Forms.{Reading}
use Rattle.affine_forms.specs.Formulas.{condition_keeps_rules}
use Rattle.affine_forms.proofs.Values.{and_parts}
use Rattle.affine_places.specs.Facts.{Known, UnknownAt, FieldFact, fact_of}
use Rattle.affine_places.specs.Facts as facts
use Rattle.affine_places.specs.Laws.{WellFormedIsAffine}
use Rattle.affine_places.specs.Readings.{entry_reading, entry_flags, place_reading, place_flags}
use Rattle.affine_places.specs.Readings.{field_form, field_formula}
use Rattle.affine_places.specs.Roots.{roots_of, has_extents}
use Rattle.affine_places.specs.Rules.{block_keeps_rules}
use Rattle.check_facts.specs.Contexts.{with_value, facts_from, told, condition_formula}
use Rattle.check_facts.specs.Contexts.{fact_formula, formulas, facts_at}
use Rattle.exo_effects.specs.Fresh.{past_linear, past_formula, past_all}
use Rattle.exo_effects.specs.Low.{condition_is_low, fact_is_low, kind_is_low, block_is_low}
use Rattle.exo_effects.specs.Low.{procedure_is_low, LowLaw}
use Rattle.effect_conflicts.proofs.PastForms.{IsPast, only_past, own_flag_past, form_past}
use Rattle.effect_conflicts.proofs.PastForms.{formula_past}
use Rattle.effect_conflicts.proofs.PastForms.{negation_past, max_within}
use Rattle.effect_laws.specs.Bounds.Laws.{ContextLowLaw}
use Rattle.effect_laws.proofs.OfBounds.LowKnown.{KnownLow, IsLow, facts_low}
use Rattle.effect_laws.proofs.OfBounds.LowNames.{value_is_low, may_be_written, asserts_low}
use Rattle.effect_laws.proofs.OfBounds.LowNames.{body_writes_low}
use Rattle.effect_laws.proofs.OfBounds.LowRoots.{RootsLow, roots_low, stride_past}

-- ---- what is told of fields

abbrev fact_low : facts.Fact → Bool
fact_low (Known a) = value_is_low a
fact_low (UnknownAt path) = true

abbrev told_low : Option facts.Fact → Bool
told_low None = true
told_low (Some x) = fact_low x

abbrev all_low : List FieldFact → Bool
all_low es = list_all (λ e. fact_low e.fact) es

fact_of_low : (es : List FieldFact) (f : ℕ) → all_low es ≡ true → told_low (fact_of es f) ≡ true
fact_of_low [] f h = refl
fact_of_low (e ∷ es) f h =
    let q = and_parts (fact_low e.fact) (all_low es) h in
    go (e.field == f) q.0 (fact_of_low es f q.1)
  where
    go :
        (t : Bool) → fact_low e.fact ≡ true → told_low (fact_of es f) ≡ true
        → told_low (cond t (Some e.fact) (fact_of es f)) ≡ true
    go true h k = h
    go false h k = k

with_low :
    (f : ℕ) (v : FieldValue) (rest : List FieldFact)
    → is_written may_be_written f v ≡ true → all_low rest ≡ true → all_low (with_value f v rest) ≡ true
with_low f AtEntry rest h k = k
with_low f (known.Known a) rest h k = ap₂ ◌&&◌ h k
with_low f (known.UnknownAt path) rest h k = k

facts_from_low :
    (f count : ℕ) (k : KnownFields) → KnownLow k → all_low (facts_from f count k) ≡ true
facts_from_low f zero k h = refl
facts_from_low f (suc count) k h =
    with_low f (k f) (facts_from (suc f) count k) (h f) (facts_from_low (suc f) count k h)

-- ---- the formulas of facts

abbrev limit : ℕ
limit = 2 ^ 31

module _ (u : Program) (p : Procedure) (low : RootsLow (roots_of p)) where
  abbrev at_first : Reading
  at_first = entry_reading u.fields (roots_of p)

  entry_past : IsPast limit at_first
  entry_past = record {
    variable = only_past limit;
    field = λ f. omega arith;
    stride = λ x k. stride_past (roots_of p x) k (low x);
  }

  field_past :
      (f : ℕ) (o : Option facts.Fact)
      → told_low o ≡ true → past_linear (field_form u.fields (roots_of p) f o) ≤ limit
  field_past f None h = omega arith
  field_past f (Some (Known (ControlArg e))) h = form_past limit at_first entry_past e h
  field_past f (Some (Known (ConditionArg c))) h = omega arith
  field_past f (Some (Known (Whole x))) h = omega arith
  field_past f (Some (Known (Window x cs))) h = omega arith
  field_past f (Some (UnknownAt path)) h = omega arith

  flag_past :
      (f : ℕ) (o : Option facts.Fact)
      → told_low o ≡ true → past_formula (field_formula u.fields (roots_of p) f o) ≤ limit
  flag_past f None h = omega arith
  flag_past f (Some (Known (ControlArg e))) h = omega arith
  flag_past f (Some (Known (ConditionArg c))) h =
      formula_past limit at_first entry_past (entry_flags u.fields) (own_flag_past limit)
      (λ g. omega arith) c h
  flag_past f (Some (Known (Whole x))) h = omega arith
  flag_past f (Some (Known (Window x cs))) h = omega arith
  flag_past f (Some (UnknownAt path)) h = omega arith

  module _ (k : KnownFields) (h : KnownLow k) where
    there : (f : ℕ) → told_low (fact_of (told u.fields k) f) ≡ true
    there f = fact_of_low (told u.fields k) f (facts_from_low zero (length u.fields) k h)

    place_past : IsPast limit (place_reading u.fields (roots_of p) (told u.fields k))
    place_past = record {
      variable = only_past limit;
      field = λ f. field_past f (fact_of (told u.fields k) f) (there f);
      stride = λ x j. stride_past (roots_of p x) j (low x);
    }

    condition_past :
        (c : Condition)
        → condition_is_low c ≡ true → past_formula (condition_formula u p k c) ≤ limit
    condition_past c l =
        formula_past limit (place_reading u.fields (roots_of p) (told u.fields k)) place_past
        (place_flags u.fields (roots_of p) (told u.fields k)) (own_flag_past limit)
        (λ f. flag_past f (fact_of (told u.fields k) f) (there f)) c l

    fact_past :
        (e : Fact) → fact_is_low e ≡ true → past_formula (fact_formula u p k e) ≤ limit
    fact_past (Holds c) l = condition_past c l
    fact_past (Fails c) l = negation_past limit (condition_formula u p k c) (condition_past c l)

  formulas_past :
      (es : List PlaceFact) → Each IsLow es → past_all past_formula (formulas u p es) ≤ limit
  formulas_past [] h = omega arith
  formulas_past (e ∷ es) h =
      max_within (past_formula (fact_formula u p e.known e.fact))
      (past_all past_formula (formulas u p es)) limit (fact_past e.known h.0.0 e.fact h.0.1)
      (formulas_past es h.1)

-- ---- all of them

ids_low :
    (xs ys : List ℕ)
    → list_all (λ x. nat_lt x limit) (xs ++ ys) ≡ true → list_all (λ x. nat_lt x limit) xs ≡ true
ids_low [] ys h = refl
ids_low (x ∷ xs) ys h =
    let q = and_parts (nat_lt x limit) (list_all (λ x. nat_lt x limit) (xs ++ ys)) h in
    ap₂ ◌&&◌ q.0 (ids_low xs ys q.1)

pub context_low : WellScoped → UnmentionedLaw → WellFormedIsAffine → LowLaw → ContextLowLaw
context_low scoped unmentioned affine low fields memories callees u p path good =
    formulas_past u p (roots_low p is_low) (facts_at u p (opened 1 path p.body))
    (found (opened 1 path p.body) refl)
  where
    is_low : procedure_is_low p ≡ true
    is_low = low fields memories callees p good

    body_low : block_is_low p.body ≡ true
    body_low =
        (and_parts (list_all (λ q. kind_is_low q.kind) p.params) (block_is_low p.body) is_low).1

    rules : (list_all condition_keeps_rules p.asserts ≡ true) × (block_keeps_rules p.body ≡ true)
    rules =
        let asserts = list_all condition_keeps_rules p.asserts in
        let inner = is_short p.body && block_keeps_rules p.body in
        let q = and_parts (has_extents p) (asserts && inner) (affine fields memories callees p good) in
        let r = and_parts asserts inner q.1 in
        (r.0, (and_parts (is_short p.body) (block_keeps_rules p.body) r.1).1)

    written : all_written may_be_written p.body ≡ true
    written =
        body_writes_low unmentioned p good.ids (scoped fields memories callees p good).0 rules.1

    ids : list_all (λ x. nat_lt x limit) (map (λ q. q.binder.id) p.params) ≡ true
    ids = ids_low (map (λ q. q.binder.id) p.params) (binders p.body) good.ids

    asserts : list_all fact_is_low (map Holds p.asserts) ≡ true
    asserts =
        asserts_low unmentioned p good.ids p.asserts (scoped fields memories callees p good).1 rules.0

    found : (o : Option Opened) → opened 1 path p.body ≡ o → Each IsLow (facts_at u p o)
    found None e = facts_low u p (Here end) end ids asserts refl refl
    found (Some o) e =
        let there = opened_law 1 path p.body o e in
        facts_low u p o.around o.piece ids asserts (ap (all_written may_be_written) there ∙ written)
        (ap block_is_low there ∙ body_low)
