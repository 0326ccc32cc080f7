-- Formulas of facts, one after the other.
use Rattle.std.proofs.Common.{◌≡◌, Bool, true, false, ◌&&◌, List, [], ◌∷◌, ◌++◌, length, append_assoc, arith, refl, sym, ap, ◌∙◌, subst, Result, Ok, Err, IsErrAnd}
use Rattle.std.proofs.lemmas.List.{map-append}
use Rattle.exo_tree.specs.Tree.{Condition, Program, Procedure}
use Rattle.exo_tree.specs.PlainProcedure.{procedure}
use Rattle.exo_tree.specs.PlainUnit.{program}
use Rattle.meaning_laws.specs.Facts.{Fact, Holds, Fails}
use Rattle.meaning_laws.specs.KnownFields.{KnownFields}
use Rattle.meaning_laws.specs.PlaceFacts.{PlaceFact}
use Rattle.affine_forms.specs.declared.error.FormError.{FormError}
use Rattle.affine_forms.specs.declared.error.FormError.TheVariants.{TooManyCases, SystemTooLarge, WideNumber, TooManySystems, Memory}
use Rattle.affine_forms.specs.Formulas.{Formula, formula, negation, is_writable_condition}
use Rattle.affine_forms.specs.Outcomes.{IsWide}
use Rattle.affine_places.specs.Facts.{FieldFact, fact_of}
use Rattle.affine_places.specs.Roots.{roots_of}
use Rattle.affine_places.specs.Readings.{place_reading, place_flags, field_formula_fits}
use Rattle.check_facts.specs.Contexts.{told, fact_formula, fact_fits, formulas, all_fit}
use Rattle.check_facts.specs.Walks.{SameBelow, Added}
use Rattle.check_facts.specs.declared.basis.Basis.{Basis}
use Rattle.check_facts.proofs.Fields.{facts_same}

-- ---- one formula

and_true : (s : Bool) → (s && true) ≡ s
and_true true = refl
and_true false = refl

pub told_same : (g : Basis) (known other : KnownFields) → SameBelow g.count known other → told (program g.unit.now).fields known ≡ told (program g.unit.now).fields other
told_same g known other h =
    let n = length (program g.unit.now).fields in
    let c : g.count ≡ n = g.counted in
    facts_same 0 n n known other (omega arith) (λ f lt. h f (omega arith))

module _ (u : Program) (p : Procedure) where
  abbrev fits_with : Condition → List FieldFact → Bool
  fits_with c t = is_writable_condition (place_reading u.fields (roots_of p) t) (λ f. field_formula_fits u.fields (roots_of p) (fact_of t f)) c

  abbrev made_with : Condition → List FieldFact → Formula
  made_with c t = formula (place_reading u.fields (roots_of p) t) (place_flags u.fields (roots_of p) t) c

  same_fits : (known first : KnownFields) → told u.fields known ≡ told u.fields first → (fact : Fact) → fact_fits u p known fact ≡ fact_fits u p first fact
  same_fits known first h (Holds c) = ap (fits_with c) h
  same_fits known first h (Fails c) = ap (fits_with c) h

  same_formula : (known first : KnownFields) → told u.fields known ≡ told u.fields first → (fact : Fact) → fact_formula u p known fact ≡ fact_formula u p first fact
  same_formula known first h (Holds c) = ap (made_with c) h
  same_formula known first h (Fails c) = ap (λ t. negation (made_with c t)) h

pub fits_one : (g : Basis) (known first : KnownFields) (fact : Fact) → SameBelow g.count known first → fact_fits (program g.unit.now) (procedure g.proc.now) known fact ≡ all_fit (program g.unit.now) (procedure g.proc.now) (record { known = first; fact = fact } ∷ [])
fits_one g known first fact h = same_fits (program g.unit.now) (procedure g.proc.now) known first (told_same g known first h) fact ∙ sym (and_true (fact_fits (program g.unit.now) (procedure g.proc.now) first fact))

pub formula_one : (g : Basis) (known first : KnownFields) (fact : Fact) → SameBelow g.count known first → fact_formula (program g.unit.now) (procedure g.proc.now) known fact ∷ [] ≡ formulas (program g.unit.now) (procedure g.proc.now) (record { known = first; fact = fact } ∷ [])
formula_one g known first fact h = ap (λ f. f ∷ []) (same_formula (program g.unit.now) (procedure g.proc.now) known first (told_same g known first h) fact)

-- it is refused
pub refused_one : (g : Basis) (known first : KnownFields) (fact : Fact) (e : FormError) → SameBelow g.count known first → IsWide e (fact_fits (program g.unit.now) (procedure g.proc.now) known fact) → IsWide e (all_fit (program g.unit.now) (procedure g.proc.now) (record { known = first; fact = fact } ∷ []))
refused_one g known first fact e h w = subst (IsWide e) (fits_one g known first fact h) w

-- it comes behind the others
abbrev pub Came : Basis → List PlaceFact → List Formula → List Formula → Type 0
Came g es old new = (all_fit (program g.unit.now) (procedure g.proc.now) es ≡ true) × (new ≡ old ++ formulas (program g.unit.now) (procedure g.proc.now) es)

pub added_one : (g : Basis) (known first : KnownFields) (fact : Fact) (old new : List Formula) (f : Formula) → SameBelow g.count known first → fact_fits (program g.unit.now) (procedure g.proc.now) known fact ≡ true → f ≡ fact_formula (program g.unit.now) (procedure g.proc.now) known fact → new ≡ old ++ f ∷ [] → Came g (record { known = first; fact = fact } ∷ []) old new
added_one g known first fact old new f h fits made pushed =
    (sym (fits_one g known first fact h) ∙ fits, pushed ∙ ap (λ k. old ++ k ∷ []) made ∙ ap (λ fs. old ++ fs) (formula_one g known first fact h))

-- what a `?` returns
pub left_early : {A : Type 0} (r : Result A FormError) (e : FormError) (g : Basis) (es : List PlaceFact) (old new : List Formula) → IsErrAnd r (λ x. x ≡ e) → IsWide e (all_fit (program g.unit.now) (procedure g.proc.now) es) → Added r g es old new
left_early (Ok x) e g es old new is w = absurd is
left_early (Err x) e g es old new is w = subst (λ y. IsWide y (all_fit (program g.unit.now) (procedure g.proc.now) es)) (sym is) w

-- ---- more formulas

no_end : (xs : List Formula) → xs ++ [] ≡ xs
no_end [] = refl
no_end (x ∷ xs) = ap (λ ys. x ∷ ys) (no_end xs)

pub none_added : (g : Basis) (old new : List Formula) → new ≡ old → Came g [] old new
none_added g old new e = (refl, e ∙ sym (no_end old))

all_fit_joined : (g : Basis) (es fs : List PlaceFact) → all_fit (program g.unit.now) (procedure g.proc.now) (es ++ fs) ≡ (all_fit (program g.unit.now) (procedure g.proc.now) es && all_fit (program g.unit.now) (procedure g.proc.now) fs)
all_fit_joined g [] fs = refl
all_fit_joined g (e ∷ es) fs = ap (λ t. fact_fits (program g.unit.now) (procedure g.proc.now) e.known e.fact && t) (all_fit_joined g es fs) ∙ assoc (fact_fits (program g.unit.now) (procedure g.proc.now) e.known e.fact)
  where
    assoc : (s : Bool) → (s && (all_fit (program g.unit.now) (procedure g.proc.now) es && all_fit (program g.unit.now) (procedure g.proc.now) fs)) ≡ ((s && all_fit (program g.unit.now) (procedure g.proc.now) es) && all_fit (program g.unit.now) (procedure g.proc.now) fs)
    assoc true = refl
    assoc false = refl

wide_first : (e : FormError) (s t : Bool) → IsWide e s → IsWide e (s && t)
wide_first TooManyCases s t h = h
wide_first SystemTooLarge s t h = h
wide_first WideNumber s t h = ap (λ b. b && t) h
wide_first TooManySystems s t h = h
wide_first Memory s t h = tt

-- a refusal among the first is one of all
pub refused_first : (g : Basis) (es fs : List PlaceFact) (e : FormError) → IsWide e (all_fit (program g.unit.now) (procedure g.proc.now) es) → IsWide e (all_fit (program g.unit.now) (procedure g.proc.now) (es ++ fs))
refused_first g es fs e h = subst (IsWide e) (sym (all_fit_joined g es fs)) (wide_first e (all_fit (program g.unit.now) (procedure g.proc.now) es) (all_fit (program g.unit.now) (procedure g.proc.now) fs) h)

-- others behind the first
pub added_more : {A : Type 0} (r : Result A FormError) (g : Basis) (es fs : List PlaceFact) (old now new : List Formula) → Came g es old now → Added r g fs now new → Added r g (es ++ fs) old new
added_more (Ok t) g es fs old now new first h = (
  all_fit_joined g es fs ∙ ap (λ b. b && all_fit (program g.unit.now) (procedure g.proc.now) fs) first.0 ∙ h.0,
  h.1 ∙ ap (λ xs. xs ++ formulas (program g.unit.now) (procedure g.proc.now) fs) first.1 ∙ append_assoc old (formulas (program g.unit.now) (procedure g.proc.now) es) (formulas (program g.unit.now) (procedure g.proc.now) fs) ∙ ap (λ xs. old ++ xs) (sym (map-append (λ e. fact_formula (program g.unit.now) (procedure g.proc.now) e.known e.fact) es fs)),
)
added_more (Err e) g es fs old now new first h =
    subst (IsWide e) (sym (all_fit_joined g es fs ∙ ap (λ b. b && all_fit (program g.unit.now) (procedure g.proc.now) fs) first.0)) h

-- a refusal among the others is one of all
pub refused_second : (g : Basis) (es fs : List PlaceFact) (old now : List Formula) (e : FormError) → Came g es old now → IsWide e (all_fit (program g.unit.now) (procedure g.proc.now) fs) → IsWide e (all_fit (program g.unit.now) (procedure g.proc.now) (es ++ fs))
refused_second g es fs old now e first h = subst (IsWide e) (sym (all_fit_joined g es fs ∙ ap (λ b. b && all_fit (program g.unit.now) (procedure g.proc.now) fs) first.0)) h
