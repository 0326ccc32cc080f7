-- What one claim owes, and why it is refused.
use Rattle.std.proofs.Common.{◌≡◌, ℕ, nat_le, Bool, true, false, ◌&&◌, if◌then◌else◌, List, [], ◌∷◌, ◌++◌, map, length, Option, Some, None, Result, Ok, Err, Vec, append-nil, append_assoc, refl, sym, ap, ◌∙◌, subst}
use Rattle.std.specs.List.{list_all, flat_map}
use Rattle.std.specs.Result.{IsErrAnd}
use Rattle.exo_tree.specs.Tree.{Condition, Procedure, ConfigField, Program}
use Rattle.exo_tree.specs.Places.{Path}
use Rattle.affine_forms.specs.declared.error.FormError.{FormError}
use Rattle.affine_forms.specs.declared.error.FormError.TheVariants as form
use Rattle.affine_forms.specs.Formulas.{Formula, formula, is_writable_condition}
use Rattle.affine_forms.specs.Outcomes.{IsWide}
use Rattle.affine_places.specs.Facts.{FieldFact, fact_of}
use Rattle.affine_places.specs.Roots.{Roots, roots_of}
use Rattle.affine_places.specs.Readings.{place_reading, place_flags, field_formula_fits}
use Rattle.affine_systems.specs.Systems.{Stated, CasesPassed, SizePassed, Listed, systems, stated, is_small, failing_cases}
use Rattle.affine_systems.specs.Limits.{are_within, Appended}
use Rattle.affine_systems.specs.Outcomes as stating
use Rattle.affine_systems.specs.Outcomes.{Owed, owed, plain_obligation, AreOwed}
use Rattle.affine_systems.specs.declared.obligation.Obligation.{Obligation}
use Rattle.check_claims.specs.Claim.{Claim, Is, Apart, Placed}
use Rattle.check_facts.specs.Contexts.{context_of, context_fits, facts_of}
use Rattle.bounds_check.specs.Errors.{error_of}
use Rattle.effect_conflicts.specs.Outcomes.{IsListed}
use Rattle.effect_conflicts.specs.declared.standing.Standing.{Standing}
use Rattle.exo_effects.specs.Accesses.{Access, access_of}
use Rattle.exo_effects.specs.Conflicts as conflict
use Rattle.exo_effects.specs.Conflicts.{Listing, Lists, Refuses, clashing, past_these, pair_fault, owed_behind, conflicts_of}
use Rattle.exo_effects.specs.Limits as limits
use Rattle.exo_effects.specs.Orders.{Order, no_order}
use Rattle.exo_effects.specs.Uses.{Use, argument_at}
use Rattle.bounds_check.specs.Obligations.{Fault, Wide, ManyCases, LargeSystem, formula_at}
use Rattle.bounds_check.specs.Obligations.{argument_accesses, owed_for, owed_for_all, said_fits, claim_fits}
use Rattle.bounds_check.specs.Obligations.{stated_fault, conflict_fault, listing_fault, unless_refused, said_fault, claim_fault}
use Rattle.bounds_check.specs.Obligations.{first_fault}
use Rattle.bounds_check.specs.Outcomes.{IsRefusal, Owes}
use Rattle.bounds_check.specs.Sites.{unit_at, proc_at, IsTold}
use Rattle.bounds_check.specs.declared.error.CheckError.{CheckError}

-- a condition as it is read with roots and facts
abbrev pub formula_read : Condition → List ConfigField → Roots → List FieldFact → Formula
formula_read says fields roots facts = formula (place_reading fields roots facts) (place_flags fields roots facts) says

abbrev pub fits_read : Condition → List ConfigField → Roots → List FieldFact → Bool
fits_read says fields roots facts = is_writable_condition (place_reading fields roots facts) (λ f. field_formula_fits fields roots (fact_of facts f)) says

-- no fault of a claim with these systems, which are all its systems
systems_owed : (context : List Formula) (claim : Formula) (os : List Obligation) (what : List ℕ) (place : Path) → AreOwed os (stated context claim) what place → (stated_fault (stated context claim) ≡ None) × (map plain_obligation os ≡ map (owed what place) (systems context claim))
systems_owed context claim os what place = go (nat_le (length (failing_cases context claim)) 64) (list_all is_small (systems context claim))
  where
    go : (few small : Bool) → AreOwed os (if few then (if small then Listed (systems context claim) else SizePassed) else CasesPassed) what place
        → (stated_fault (if few then (if small then Listed (systems context claim) else SizePassed) else CasesPassed) ≡ None) × (map plain_obligation os ≡ map (owed what place) (systems context claim))
    go true true h = (refl, h)
    go true false h = absurd h
    go false small h = absurd h

-- the pairs that are owed for, where none of them is refused
lists_are : (fits : Bool) (ctx : List Formula) (order : Order) (place : Path) (base : ℕ)
    (os : List Owed) (ps : List (Access × Access)) (ws : List Owed)
    → owed_behind fits ctx order place base os ps ≡ Lists ws
    → ws ≡ os ++ flat_map (conflict.owed_for ctx order place base) ps
lists_are fits ctx order place base os [] ws h =
    let same : os ≡ ws = cc in
    sym same ∙ sym (append-nil os)
lists_are fits ctx order place base os (q ∷ ps) ws h =
    by (pair_fault fits ctx order place base q) (are_within (os ++ here)) h
    (lists_are fits ctx order place base (os ++ here) ps ws)
  where
    here : List Owed
    here = conflict.owed_for ctx order place base q

    others : List Owed
    others = flat_map (conflict.owed_for ctx order place base) ps

    rest : Listing
    rest = owed_behind fits ctx order place base (os ++ here) ps

    by : (f : Option conflict.Fault) (within : Bool)
        → limits.unless_refused Refuses conflict.ManySystems f within rest ≡ Lists ws
        → (rest ≡ Lists ws → ws ≡ (os ++ here) ++ others) → ws ≡ os ++ (here ++ others)
    by (Some f) within e k = cc
    by None true e k = k e ∙ append_assoc os here others
    by None false e k = cc

-- ---- one claim of a place

module _ (u : Program) (p : Procedure) (place : Path) (c : Claim) where
  abbrev it : Placed
  it = record { place = place; claim = c }

  unfit : claim_fits u p it ≡ false → claim_fault u p it ≡ Some Wide
  unfit h = ap (λ b. if b then said_fault u p place c else Some Wide) h

  fit : (why : Option Fault) → claim_fits u p it ≡ true → said_fault u p place c ≡ why → claim_fault u p it ≡ why
  fit why h k = ap (λ b. if b then said_fault u p place c else Some Wide) h ∙ k

  pub fits_where : (t : Bool) → context_fits u p place ≡ true → said_fits u p place c ≡ t → claim_fits u p it ≡ t
  fits_where t h k = ap (λ b. b && said_fits u p place c) h ∙ k

  module _ (old : List Owed) where
    faulty : (f : Fault) → claim_fault u p it ≡ Some f → first_fault u p old (it ∷ []) ≡ Some f
    faulty f h = ap (λ o. unless_refused o (are_within (old ++ owed_for u p it)) None) h

    -- the error that is told is such a refusal
    pub refused : {X : Type 0} (result : Result X CheckError) (new : List Owed) (e : CheckError)
        → IsErrAnd result (λ r. r ≡ e) → IsRefusal e (first_fault u p old (it ∷ [])) → Owes result u p (it ∷ []) old new
    refused {X} result new e is h = by result is
      where
        by : (r : Result X CheckError) → IsErrAnd r (λ y. y ≡ e) → Owes r u p (it ∷ []) old new
        by (Ok x) w = absurd w
        by (Err y) w = subst (λ z. IsRefusal z (first_fault u p old (it ∷ []))) (sym w) h

    -- these are what it owes
    module _ (os : List Owed) (h : (claim_fault u p it ≡ None) × (os ≡ owed_for u p it)) where
      first : (t : Bool) → are_within (old ++ os) ≡ t → first_fault u p old (it ∷ []) ≡ unless_refused None t None
      first t w i = unless_refused (h.0 i) ((ap (λ l. are_within (old ++ l)) (sym h.1) ∙ w) i) None

      -- they come last
      pub owes_all : (new : List Owed) → (are_within (old ++ os) ≡ true) × (new ≡ old ++ os)
          → (first_fault u p old (it ∷ []) ≡ None) × (new ≡ old ++ owed_for_all u p (it ∷ []))
      owes_all new w = (first true w.0, w.1 ∙ ap (λ l. old ++ l) (h.1 ∙ sym (append-nil (owed_for u p it))))

      -- or they are too many
      pub too_many : (e : FormError) (new : List Owed) → Appended {A = Unit {0}} (Err e) old os new
          → IsRefusal (error_of e) (first_fault u p old (it ∷ []))
      too_many form.TooManyCases new w = absurd w
      too_many form.SystemTooLarge new w = absurd w
      too_many form.WideNumber new w = absurd w
      too_many form.TooManySystems new w = first false w
      too_many form.Memory new w = tt

-- ---- a condition

module _ (u : Program) (p : Procedure) (place : Path) (says : Condition) (text : List ℕ) where
  abbrev is : Claim
  is = Is says text

  abbrev told : Stated
  told = stated (context_of u p place) (formula_at u p place says)

  module _ (fields : List ConfigField) (roots : Roots) (facts : List FieldFact) (e : u.fields ≡ fields) (f : roots ≡ roots_of p) (g : facts ≡ facts_of u p place) where
    pub same_formula : formula_read says fields roots facts ≡ formula_at u p place says
    same_formula i = formula_read says (sym e i) (f i) (g i)

    pub same_fits : fits_read says fields roots facts ≡ said_fits u p place is
    same_fits i = fits_read says (sym e i) (f i) (g i)

  -- its formula is too wide
  pub refused_form : (old : List Owed) (e : FormError) (fits : Bool) → IsWide e fits → context_fits u p place ≡ true
      → fits ≡ said_fits u p place is → IsRefusal (error_of e) (first_fault u p old (it u p place is ∷ []))
  refused_form old e fits h k l = by e h
    where
      by : (y : FormError) → IsWide y fits → IsRefusal (error_of y) (first_fault u p old (it u p place is ∷ []))
      by form.TooManyCases w = absurd w
      by form.SystemTooLarge w = absurd w
      by form.WideNumber w = faulty u p place is old Wide (unfit u p place is (fits_where u p place is false k (sym l ∙ w)))
      by form.TooManySystems w = absurd w
      by form.Memory w = tt

  -- its systems are too many or too large
  pub refused_systems : (old : List Owed) (e : FormError) → stating.IsRefusal e told → claim_fits u p (it u p place is) ≡ true
      → IsRefusal (error_of e) (first_fault u p old (it u p place is ∷ []))
  refused_systems old e h k = by e h
    where
      by : (y : FormError) → stating.IsRefusal y told → IsRefusal (error_of y) (first_fault u p old (it u p place is ∷ []))
      by form.TooManyCases w = faulty u p place is old ManyCases (fit u p place is (Some ManyCases) k (ap stated_fault w))
      by form.SystemTooLarge w = faulty u p place is old LargeSystem (fit u p place is (Some LargeSystem) k (ap stated_fault w))
      by form.WideNumber w = absurd w
      by form.TooManySystems w = absurd w
      by form.Memory w = tt

  -- or these are what it owes
  pub condition_owes : (os : List Obligation) → AreOwed os told text place → claim_fits u p (it u p place is) ≡ true
      → (claim_fault u p (it u p place is) ≡ None) × (map plain_obligation os ≡ owed_for u p (it u p place is))
  condition_owes os h k =
      let all = systems_owed (context_of u p place) (formula_at u p place says) os text place h in
      (fit u p place is None k all.0, all.1)

-- as it is read at a place
module _ (s : Standing) (says : Condition) (text : List ℕ) (fields : List ConfigField) (roots : Roots)
    (facts : List FieldFact) (context : List Formula) (t : IsTold s fields roots facts context) where
  abbrev here : Placed
  here = record { place = s.path.now; claim = Is says text }

  fits_there : fits_read says fields roots facts ≡ said_fits (unit_at s) (proc_at s) s.path.now (Is says text)
  fits_there =
      same_fits (unit_at s) (proc_at s) s.path.now says text fields roots facts t.fields_are t.roots_are t.facts_are

  pub form_refused : (old : List Owed) (e : FormError) → IsWide e (fits_read says fields roots facts)
      → IsRefusal (error_of e) (first_fault (unit_at s) (proc_at s) old (here ∷ []))
  form_refused old e h =
      refused_form (unit_at s) (proc_at s) s.path.now says text old e (fits_read says fields roots facts) h t.fits_is fits_there

  module _ (f : Formula) (made : (fits_read says fields roots facts ≡ true) × (f ≡ formula_read says fields roots facts)) where
    same_told : stated context f ≡ told (unit_at s) (proc_at s) s.path.now says text
    same_told i =
        stated (t.context_is i)
        ((made.1
        ∙ same_formula (unit_at s) (proc_at s) s.path.now says text fields roots facts t.fields_are t.roots_are t.facts_are) i)

    fits : claim_fits (unit_at s) (proc_at s) here ≡ true
    fits = fits_where (unit_at s) (proc_at s) s.path.now (Is says text) true t.fits_is (sym fits_there ∙ made.0)

    pub systems_refused : (old : List Owed) (e : FormError) → stating.IsRefusal e (stated context f)
        → IsRefusal (error_of e) (first_fault (unit_at s) (proc_at s) old (here ∷ []))
    systems_refused old e h =
        refused_systems (unit_at s) (proc_at s) s.path.now says text old e (subst (stating.IsRefusal e) same_told h) fits

    pub systems_owe : (os : List Obligation) (what : List ℕ) → what ≡ text → AreOwed os (stated context f) what s.path.now
        → (claim_fault (unit_at s) (proc_at s) here ≡ None)
        × (map plain_obligation os ≡ owed_for (unit_at s) (proc_at s) here)
    systems_owe os what same h =
        condition_owes (unit_at s) (proc_at s) s.path.now says text os
        (subst (λ q. AreOwed os q text s.path.now) same_told (subst (λ w. AreOwed os (stated context f) w s.path.now) same h))
        fits

-- ---- two arguments

module _ (u : Program) (p : Procedure) (place : Path) (j k : ℕ) (h : context_fits u p place ≡ true) where
  abbrev apart : Claim
  apart = Apart j k

  abbrev pub pair_listing : Listing
  pair_listing =
      conflicts_of (context_fits u p place) (context_of u p place) no_order place
      (argument_accesses u p place j) (argument_accesses u p place k)

  -- what is answered of uses that are these
  pub answered : {A : Type 0} (r : Result (Vec Obligation A) FormError) (us vs : List Use)
      → us ≡ argument_at u p place j → vs ≡ argument_at u p place k
      → IsListed r (conflicts_of (context_fits u p place) (context_of u p place) no_order place
      (map access_of us) (map access_of vs))
      → IsListed r pair_listing
  answered r us vs e f =
      subst (λ (q : List Use × List Use). IsListed r (conflicts_of (context_fits u p place)
      (context_of u p place) no_order place (map access_of q.0) (map access_of q.1))) (λ i. (e i, f i))

  refused_for : (old : List Owed) (why : conflict.Fault) → pair_listing ≡ Refuses why
      → first_fault u p old (it u p place apart ∷ []) ≡ Some (conflict_fault why)
  refused_for old why w =
      faulty u p place apart old (conflict_fault why)
      (fit u p place apart (Some (conflict_fault why)) (fits_where u p place apart true h refl) (ap listing_fault w))

  -- the list is refused
  pub refused_pair : (old : List Owed) (e : FormError) → IsListed {A = Unit {0}} (Err e) pair_listing
      → IsRefusal (error_of e) (first_fault u p old (it u p place apart ∷ []))
  refused_pair old form.TooManyCases w = refused_for old conflict.ManyCases w
  refused_pair old form.SystemTooLarge w = refused_for old conflict.LargeSystem w
  refused_pair old form.WideNumber w = refused_for old conflict.WideForm w
  refused_pair old form.TooManySystems w = refused_for old conflict.ManySystems w
  refused_pair old form.Memory w = tt

  -- or it is what they owe
  pub pair_owes : {A : Type 0} (os : Vec Obligation A) → IsListed (Ok os) pair_listing
      → (claim_fault u p (it u p place apart) ≡ None) × (map plain_obligation os.items ≡ owed_for u p (it u p place apart))
  pair_owes os w =
      let ctx = context_of u p place in
      let xs = argument_accesses u p place j in
      let ys = argument_accesses u p place k in (
        fit u p place apart None (fits_where u p place apart true h refl) (ap listing_fault w),
        lists_are (context_fits u p place) ctx no_order place (past_these ctx no_order xs ys) [] (clashing xs ys)
            (map plain_obligation os.items) w,
      )
