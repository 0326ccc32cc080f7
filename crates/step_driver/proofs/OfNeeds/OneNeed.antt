-- What one need owes, and why it is refused.
use Rattle.std.proofs.Common.{◌≡◌, nat_le, Bool, true, false, ◌&&◌, if◌then◌else◌, List, ◌∷◌, ◌++◌, map, length}
use Rattle.std.proofs.Common.{Option, Some, None, Result, Ok, Err, refl, sym, ap, ap₂, ◌∙◌, subst}
use Rattle.std.specs.Prelude.{option_map}
use Rattle.std.specs.List.{list_all}
use Rattle.std.specs.Result.{IsErrAnd}
use Rattle.exo_tree.specs.Tree.{Condition, ConfigField, Procedure, Program}
use Rattle.exo_tree.specs.Places.{Path, opened}
use Rattle.meaning_laws.specs.Facts.{Fact, Holds, Fails}
use Rattle.meaning_laws.specs.KnownFields.{KnownFields}
use Rattle.affine_forms.specs.declared.error.FormError.{FormError}
use Rattle.affine_forms.specs.declared.error.FormError.TheVariants as form
use Rattle.affine_forms.specs.Formulas.{Formula, formula, is_writable_condition}
use Rattle.affine_forms.specs.Outcomes.{IsWide}
use Rattle.affine_places.specs.Facts.{FieldFact, fact_of}
use Rattle.affine_places.specs.Roots.{Roots, roots_of}
use Rattle.affine_places.specs.Readings.{place_reading, place_flags, field_formula_fits}
use Rattle.affine_systems.specs.Systems.{Stated, CasesPassed, SizePassed, Listed, systems, stated, is_small, failing_cases}
use Rattle.affine_systems.specs.Limits.{are_within, Appended}
use Rattle.affine_systems.specs.Outcomes as stating
use Rattle.affine_systems.specs.Outcomes.{Owed, owed, plain_obligation, AreOwed}
use Rattle.affine_systems.specs.declared.obligation.Obligation.{Obligation}
use Rattle.check_facts.specs.Contexts.{context_of, context_fits, fact_fits, condition_fits, condition_formula}
use Rattle.check_facts.specs.Contexts.{fact_formula, facts_of, facts_at, formulas, all_fit, known_at_place}
use Rattle.check_facts.specs.Contexts as contexts
use Rattle.cursor_forward.specs.Causes.{Cause, FormFault, WideNumber, TooManyCases, SystemTooLarge, TooManySystems, Form}
use Rattle.cursor_forward.specs.PlainProposal.{fault_of, cause_of}
use Rattle.cursor_forward.specs.declared.proposal.StepError.{StepError}
use Rattle.cursor_forward.specs.declared.proposal.StepError.TheVariants.{Memory}
use Rattle.step_rules.specs.Rule.{Tried, Not, Target, Need, Says}
use Rattle.step_rules.specs.Owing.{condition_of, known_for, fact_text, claim_of, owed_for, stated_fault, need_fault}
use Rattle.step_rules.specs.Owing.{refused, owed_behind}
use Rattle.effect_laws.specs.Words.{unless_refused}
use Rattle.step_driver.specs.Needs.Outcomes.{IsCause, RefusedBy, Tries}
use Rattle.text_show.specs.Words.{words_of}
use Rattle.step_driver.specs.Needs.Owing.{cause_for, Puts, PutsAll, said, text_by}

-- ---- a fact as it is read

-- a condition as it is read with roots and facts
abbrev pub formula_read : List ConfigField → Roots → List FieldFact → Condition → Formula
formula_read fields roots facts c =
    formula (place_reading fields roots facts) (place_flags fields roots facts) c

abbrev pub fits_read : List ConfigField → Roots → List FieldFact → Condition → Bool
fits_read fields roots facts c =
    is_writable_condition (place_reading fields roots facts)
    (λ f. field_formula_fits fields roots (fact_of facts f)) c

fits_fact : (u : Program) (p : Procedure) (known : KnownFields) (fact : Fact)
    → condition_fits u p known (condition_of fact) ≡ fact_fits u p known fact
fits_fact u p known (Holds c) = refl
fits_fact u p known (Fails c) = refl

said_fact : (u : Program) (p : Procedure) (known : KnownFields) (fact : Fact)
    → said fact (condition_formula u p known (condition_of fact)) ≡ fact_formula u p known fact
said_fact u p known (Holds c) = refl
said_fact u p known (Fails c) = refl

pub text_said : (t : Target) (fact : Fact) → text_by (words_of t.unit t.proc) fact ≡ fact_text t fact
text_said t (Holds c) = refl
text_said t (Fails c) = refl

-- ---- one need

module _ (t : Target) (n : Need) (old : List Owed) where
  abbrev pub why : Option Cause
  why = cause_for (need_fault t n) (are_within (old ++ owed_for t n))

  pub faulty : (f : FormFault) → need_fault t n ≡ Some f → why ≡ Some (Form f)
  faulty f h = ap (λ (o : Option FormFault). cause_for o (are_within (old ++ owed_for t n))) h

  module _ {X : Type 0} (result : Result X StepError) (new : List Owed) where
    pub refused_by : (cause : Option Cause) → IsErrAnd result (λ r. cause_of r ≡ cause) → IsCause why cause
        → Puts result t n old new
    refused_by cause is h = by result is
      where
        by : (r : Result X StepError) → IsErrAnd r (λ y. cause_of y ≡ cause) → Puts r t n old new
        by (Ok x) w = absurd w
        by (Err y) w = subst (IsCause why) (sym w) h

    -- there is no memory
    pub refused_memory : IsErrAnd result (λ r. r ≡ Memory) → Puts result t n old new
    refused_memory is = by result is
      where
        by : (r : Result X StepError) → IsErrAnd r (λ y. y ≡ Memory) → Puts r t n old new
        by (Ok x) w = absurd w
        by (Err y) w = subst (λ (z : StepError). IsCause why (cause_of z)) (sym w) tt

  -- these are what it owes
  module _ (os : List Owed) (h : (need_fault t n ≡ None) × (os ≡ owed_for t n)) where
    not_refused : (within : Bool) → are_within (old ++ os) ≡ within → why ≡ cause_for None within
    not_refused within w i = cause_for (h.0 i) ((ap (λ (l : List Owed). are_within (old ++ l)) (sym h.1) ∙ w) i)

    -- they come last
    pub puts_systems : (new : List Owed) → (are_within (old ++ os) ≡ true) × (new ≡ old ++ os)
        → (why ≡ None) × (new ≡ old ++ owed_for t n)
    puts_systems new w = (not_refused true w.0, w.1 ∙ ap (λ (l : List Owed). old ++ l) h.1)

    -- or they are too many
    pub refused_list : {X : Type 0} (result : Result X StepError) (e : FormError) (new : List Owed)
        → IsErrAnd result (λ r. cause_of r ≡ option_map Form (fault_of e))
        → Appended {A = Unit {0}} (Err e) old os new → Puts result t n old new
    refused_list result e new is w = refused_by result new (option_map Form (fault_of e)) is (by e w)
      where
        by : (y : FormError) → Appended {A = Unit {0}} (Err y) old os new
            → IsCause why (option_map Form (fault_of y))
        by form.TooManyCases v = absurd v
        by form.SystemTooLarge v = absurd v
        by form.WideNumber v = absurd v
        by form.TooManySystems v = not_refused false v
        by form.Memory v = tt

-- ---- one fact

module _ (t : Target) (path : Path) (fact : Fact) where
  abbrev pub fits_all : Bool
  fits_all = context_fits t.unit t.proc path && fact_fits t.unit t.proc (known_for t path) fact

  abbrev context : List Formula
  context = context_of t.unit t.proc path

  abbrev claim : Formula
  claim = claim_of t path fact

  abbrev pub told : Stated
  told = stated context claim

  unfit : fits_all ≡ false → need_fault t (Says path fact) ≡ Some WideNumber
  unfit h = ap (λ (b : Bool). if b then stated_fault t told else Some WideNumber) h

  fit : (s : Stated) → fits_all ≡ true → told ≡ s → need_fault t (Says path fact) ≡ stated_fault t s
  fit s h k =
      ap (λ (b : Bool). if b then stated_fault t told else Some WideNumber) h ∙ ap (stated_fault t) k

  -- no fault where these are all systems
  systems_owed : (os : List Obligation) → AreOwed os told (fact_text t fact) path
      → (stated_fault t told ≡ None) × (map plain_obligation os ≡ owed_for t (Says path fact))
  systems_owed os = by (nat_le (length (failing_cases context claim)) 64) (list_all is_small (systems context claim))
    where
      by : (few small : Bool)
          → AreOwed os (if few then (if small then Listed (systems context claim) else SizePassed) else CasesPassed)
          (fact_text t fact) path
          → (stated_fault t (if few then (if small then Listed (systems context claim) else SizePassed) else CasesPassed)
          ≡ None) × (map plain_obligation os ≡ map (owed (fact_text t fact) path) (systems context claim))
      by true true h = (refl, h)
      by true false h = absurd h
      by false small h = absurd h

  pub all_owed : (os : List Obligation) → AreOwed os told (fact_text t fact) path → fits_all ≡ true
      → (need_fault t (Says path fact) ≡ None) × (map plain_obligation os ≡ owed_for t (Says path fact))
  all_owed os h k = let all = systems_owed os h in (fit told k refl ∙ all.0, all.1)

  pub unfit_context : context_fits t.unit t.proc path ≡ false → fits_all ≡ false
  unfit_context h = ap (λ (b : Bool). b && fact_fits t.unit t.proc (known_for t path) fact) h

  module _ (old : List Owed) {X : Type 0} (result : Result X StepError) (new : List Owed) where
    -- a form is too wide
    pub refused_form : (e : FormError) (fits : Bool)
        → IsErrAnd result (λ r. cause_of r ≡ option_map Form (fault_of e)) → IsWide e fits
        → (fits ≡ false → fits_all ≡ false) → Puts result t (Says path fact) old new
    refused_form e fits is h k = refused_by t (Says path fact) old result new (option_map Form (fault_of e)) is (by e h)
      where
        by : (y : FormError) → IsWide y fits → IsCause (why t (Says path fact) old) (option_map Form (fault_of y))
        by form.TooManyCases w = absurd w
        by form.SystemTooLarge w = absurd w
        by form.WideNumber w = faulty t (Says path fact) old WideNumber (unfit (k w))
        by form.TooManySystems w = absurd w
        by form.Memory w = tt

    -- its systems are too many or too large
    pub refused_systems : (e : FormError)
        → IsErrAnd result (λ r. cause_of r ≡ option_map Form (fault_of e)) → stating.IsRefusal e told
        → fits_all ≡ true → Puts result t (Says path fact) old new
    refused_systems e is h k = refused_by t (Says path fact) old result new (option_map Form (fault_of e)) is (by e h)
      where
        by : (y : FormError) → stating.IsRefusal y told
            → IsCause (why t (Says path fact) old) (option_map Form (fault_of y))
        by form.TooManyCases w = faulty t (Says path fact) old TooManyCases (fit CasesPassed k w)
        by form.SystemTooLarge w = faulty t (Says path fact) old SystemTooLarge (fit SizePassed k w)
        by form.WideNumber w = absurd w
        by form.TooManySystems w = absurd w
        by form.Memory w = tt

  -- as it is read with these
  module _ (fields : List ConfigField) (roots : Roots) (facts : List FieldFact) (e : t.unit.fields ≡ fields)
      (f : roots ≡ roots_of t.proc) (g : facts ≡ facts_of t.unit t.proc path) where
    read_fits : fits_read fields roots facts (condition_of fact) ≡ fact_fits t.unit t.proc (known_for t path) fact
    read_fits = (λ i. fits_read (sym e i) (f i) (g i) (condition_of fact)) ∙ fits_fact t.unit t.proc (known_for t path) fact

    pub all_fit_where : (b : Bool) → context_fits t.unit t.proc path ≡ true
        → fits_read fields roots facts (condition_of fact) ≡ b → fits_all ≡ b
    all_fit_where b h k = ap₂ ◌&&◌ h (sym read_fits ∙ k)

    pub claim_read : said fact (formula_read fields roots facts (condition_of fact)) ≡ claim_of t path fact
    claim_read =
        (λ i. said fact (formula_read (sym e i) (f i) (g i) (condition_of fact)))
        ∙ said_fact t.unit t.proc (known_for t path) fact

-- ---- places

-- the place may be told by another path that leads there
pub same_context : (u : Program) (p : Procedure) (a b : Path) → opened 1 a p.body ≡ opened 1 b p.body
    → (context_of u p a ≡ context_of u p b) × ((context_fits u p a ≡ context_fits u p b)
    × (facts_of u p a ≡ facts_of u p b))
same_context u p a b same = (
  ap (λ o. formulas u p (facts_at u p o)) same,
  (ap (λ o. all_fit u p (facts_at u p o)) same, ap (λ o. contexts.told u.fields (known_at_place u p o)) same),
)

-- ---- one need after the other

module _ (t : Target) where
  goes_on : (fault : Option FormFault) (within : Bool) (rest : Tried (List Owed))
      → cause_for fault within ≡ None → unless_refused refused TooManySystems fault within rest ≡ rest
  goes_on (Some f) within rest h = cc
  goes_on None true rest h = refl
  goes_on None false rest h = cc

  stops : (fault : Option FormFault) (within : Bool) (rest : Tried (List Owed)) (why : Option Cause)
      → IsCause (cause_for fault within) why
      → RefusedBy (unless_refused refused TooManySystems fault within rest) why
  stops fault within rest None h = tt
  stops (Some f) within rest (Some cause) h = let same : Form f ≡ cause = cc in ap Not same
  stops None true rest (Some cause) h = cc
  stops None false rest (Some cause) h = let same : Form TooManySystems ≡ cause = cc in ap Not same

  pub owed_then : (old new : List Owed) (n : Need) (ns : List Need)
      → cause_for (need_fault t n) (are_within (old ++ owed_for t n)) ≡ None → new ≡ old ++ owed_for t n
      → owed_behind t old (n ∷ ns) ≡ owed_behind t new ns
  owed_then old new n ns h e =
      goes_on (need_fault t n) (are_within (old ++ owed_for t n)) (owed_behind t (old ++ owed_for t n) ns) h
      ∙ ap (λ (os : List Owed). owed_behind t os ns) (sym e)

  pub owed_not : (old : List Owed) (n : Need) (ns : List Need) (why : Option Cause)
      → IsCause (cause_for (need_fault t n) (are_within (old ++ owed_for t n))) why
      → RefusedBy (owed_behind t old (n ∷ ns)) why
  owed_not old n ns why h =
      stops (need_fault t n) (are_within (old ++ owed_for t n)) (owed_behind t (old ++ owed_for t n) ns) why h

  module _ {X : Type 0} (result : Result X StepError) (n : Need) (ns : List Need) where
    -- the first one is refused
    pub stopped : (e : StepError) (old new : List Owed) → IsErrAnd result (λ r. r ≡ e)
        → IsCause (cause_for (need_fault t n) (are_within (old ++ owed_for t n))) (cause_of e)
        → PutsAll result t (n ∷ ns) old new
    stopped e old new is h = by result is
      where
        by : (r : Result X StepError) → IsErrAnd r (λ y. y ≡ e) → PutsAll r t (n ∷ ns) old new
        by (Ok x) w = absurd w
        by (Err y) w =
            subst (λ (z : StepError). RefusedBy (owed_behind t old (n ∷ ns)) (cause_of z)) (sym w)
            (owed_not old n ns (cause_of e) h)

    -- or the others come behind what it owes
    pub went_on : (old mid new : List Owed)
        → (cause_for (need_fault t n) (are_within (old ++ owed_for t n)) ≡ None) × (mid ≡ old ++ owed_for t n)
        → PutsAll result t ns mid new → PutsAll result t (n ∷ ns) old new
    went_on old mid new p h = by result h
      where
        by : (r : Result X StepError) → PutsAll r t ns mid new → PutsAll r t (n ∷ ns) old new
        by (Ok x) w = owed_then old mid n ns p.0 p.1 ∙ w
        by (Err e) w =
            subst (λ (x : Tried (List Owed)). RefusedBy x (cause_of e)) (sym (owed_then old mid n ns p.0 p.1)) w

-- a refusal on the way is that of the whole
pub refused_all : {X T : Type 0} (plain : X → T) (result : Result X StepError) (e : StepError) (owes : Tried T)
    → IsErrAnd result (λ r. r ≡ e) → RefusedBy owes (cause_of e) → Tries plain owes result
refused_all plain (Ok x) e owes is h = absurd is
refused_all plain (Err y) e owes is h =
    subst (λ (z : StepError). RefusedBy owes (cause_of z)) (sym is) h
