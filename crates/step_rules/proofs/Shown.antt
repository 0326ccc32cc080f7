-- What a need says holds where nothing that is owed for it has an integer point.
use Rattle.std.proofs.Common.{◌≡◌, Bool, true, false, List, [], ◌∷◌, ◌++◌, All, suc, map, refl}
use Rattle.std.proofs.Common.{not, sym, ◌∙◌, subst, arith, Option, Some, None}
use Rattle.std.specs.List.{AllByRecursion}
use Rattle.exo_tree.specs.Places.{Path, opened}
use Rattle.exo_meaning.specs.State.{State}
use Rattle.exo_meaning.specs.Run.{program_world}
use Rattle.exo_meaning.specs.Inputs.{IsAdmissible}
use Rattle.exo_meaning.specs.Orders.{Each}
use Rattle.meaning_laws.specs.Facts.{Fact, Holds, Fails, IsTrueAt}
use Rattle.meaning_laws.specs.Sorted.{scope_there}
use Rattle.affine_forms.specs.Affine.{HasNoIntegerPoint}
use Rattle.affine_forms.specs.Formulas.{is_affine_condition}
use Rattle.affine_systems.specs.Systems.{IsShown, systems}
use Rattle.affine_systems.specs.Outcomes.{Owed, owed}
use Rattle.affine_systems.specs.Laws.{ShownLaw}
use Rattle.affine_systems.proofs.Cases.{negation_met}
use Rattle.effect_laws.specs.Apart.{Conflict, conflict_listing, are_shown_apart, ApartIsMet}
use Rattle.effect_laws.specs.Words.{context_of, ComesToPlace, ContextsHold}
use Rattle.effect_laws.specs.Words.{allowed_in, are_within, unless_refused, Listing, Lists, Refuses}
use Rattle.cursor_forward.specs.Causes.{FormFault, TooManySystems}
use Rattle.step_rules.specs.Rule.{Tried, Got, Target, Need, Says, Apart}
use Rattle.step_rules.specs.Owing.{condition_of, claim_of, owed_for, need_fault}
use Rattle.step_rules.specs.Owing.{fact_text, refused, owed_behind, findings_of_need}
use Rattle.step_rules.specs.Owing.{findings_of_needs, listed, listing_fault}
use Rattle.step_rules.specs.Lawful.{IsMet, MayRunIn}
use Rattle.step_rules.specs.Laws.{NeedsHold}
use Rattle.step_rules.proofs.Formed.{HasShape, shape_parts}
use Rattle.step_rules.proofs.Shaped.{shape_is_affine}

abbrev IsClosed : Owed → Type 0
IsClosed o = HasNoIntegerPoint o.system

-- ---- lists

pub each_of_all : {A : Type 0} (P : A → Type 0) (xs : List A) → All P xs → Each P xs
each_of_all P [] h = tt
each_of_all P (x ∷ xs) h = (h 0 x (omega arith), each_of_all P xs (λ k d less. h (suc k) d (omega arith)))

pub each_front : {A : Type 0} (P : A → Type 0) (xs ys : List A) → Each P (xs ++ ys) → Each P xs
each_front P [] ys h = tt
each_front P (x ∷ xs) ys h = (h.0, each_front P xs ys h.1)

pub each_back : {A : Type 0} (P : A → Type 0) (xs ys : List A) → Each P (xs ++ ys) → Each P ys
each_back P [] ys h = h
each_back P (x ∷ xs) ys h = each_back P xs ys h.1

closed_systems : (what : _) (path : Path) (ss : List _) → Each IsClosed (map (owed what path) ss)
    → AllByRecursion HasNoIntegerPoint ss
closed_systems what path [] h = tt
closed_systems what path (s ∷ ss) h = (h.0, closed_systems what path ss h.1)

-- a need that is not refused, where nothing that it owes has an integer point
abbrev IsOwed : Target → Need → Type 0
IsOwed t n = (need_fault t n ≡ None) × Each IsClosed (owed_for t n)

-- ---- one fact

not_true : (b : Bool) → not b ≡ true → b ≡ false
not_true true h = sym h
not_true false h = refl

module _ (context_law : ContextsHold) (shown_law : ShownLaw)
    (t : Target) (may : MayRunIn t t.proc) (path : Path) where
  pub fact_holds : (fact : Fact)
      → is_affine_condition (allowed_in t.unit.fields
      (scope_there t.proc (opened 1 path t.proc.body))) (condition_of fact)
      ≡ true
      → IsShown (context_of t.unit t.proc path) (claim_of t path fact)
      → (s u : State) → IsAdmissible (program_world t.unit) t.proc s
      → ComesToPlace (program_world t.unit) (opened 1 path t.proc.body) s u
      → IsTrueAt u.scene fact
  fact_holds (Holds c) formed none s u good come =
      let found = context_law t.unit t.proc may path s u good come in
      let is = found.1.conditions c formed in
      sym is ∙ shown_law found.0 (context_of t.unit t.proc path) (claim_of t path (Holds c))
      found.1.kinds none found.1.context
  fact_holds (Fails c) formed none s u good come =
      let found = context_law t.unit t.proc may path s u good come in
      let is = found.1.conditions c formed in
      let met = shown_law found.0 (context_of t.unit t.proc path) (claim_of t path (Fails c))
      found.1.kinds none found.1.context in
      sym is ∙ not_true _ (sym (negation_met found.0 (claim_of t path (Holds c))) ∙ met)

-- ---- one conflict

conflict_shown : (t : Target) (path : Path) (k : Conflict)
    → need_fault t (Apart path k) ≡ None → Each IsClosed (owed_for t (Apart path k))
    → are_shown_apart t.unit t.proc path k
conflict_shown t path k faultless closed =
    by (conflict_listing t.unit t.proc path k) refl faultless closed
  where
    by : (l : Listing) → conflict_listing t.unit t.proc path k ≡ l → listing_fault l ≡ None
        → Each IsClosed (listed l) → are_shown_apart t.unit t.proc path k
    by (Lists os) same none shown = (os, same, shown)
    by (Refuses fault) same none shown = cc

-- ---- all needs

module _ (context_law : ContextsHold) (shown_law : ShownLaw) (apart_law : ApartIsMet)
    (t : Target) (may : MayRunIn t t.proc) where
  need_met : (n : Need) → HasShape (findings_of_need t n) → IsOwed t n → IsMet t n
  need_met (Says path fact) shape owes =
      let scope = scope_there t.proc (opened 1 path t.proc.body) in
      fact_holds context_law shown_law t may path fact
      (shape_is_affine t.unit.fields scope (condition_of fact) shape)
      (closed_systems (fact_text t fact) path
      (systems (context_of t.unit t.proc path) (claim_of t path fact)) owes.1)
  need_met (Apart path k) shape owes =
      apart_law t.unit t.proc path k may (conflict_shown t path k owes.0 owes.1)

  needs_met : (ns : List Need) → HasShape (findings_of_needs t ns) → Each (IsOwed t) ns
      → Each (IsMet t) ns
  needs_met [] shape owes = tt
  needs_met (n ∷ ns) shape owes =
      let k = shape_parts (findings_of_need t n) (findings_of_needs t ns) shape in
      (need_met n k.0 owes.0, needs_met ns k.1 owes.1)

module _ (t : Target) where
  goes_on : (fault : Option FormFault) (within : Bool) (rest : Tried (List Owed))
      (must : List Owed)
      → unless_refused refused TooManySystems fault within rest ≡ Got must
      → (fault ≡ None) × (rest ≡ Got must)
  goes_on (Some f) within rest must h = cc
  goes_on None true rest must h = (refl, h)
  goes_on None false rest must h = cc

  got_same : {os must : List Owed} → Got os ≡ Got must → os ≡ must
  got_same h = cc

  -- what is owed before is owed at the end, and so is what each need owes
  all_owed : (os : List Owed) (ns : List Need) (must : List Owed)
      → owed_behind t os ns ≡ Got must → Each IsClosed must
      → Each IsClosed os × Each (IsOwed t) ns
  all_owed os [] must h closed = (subst (Each IsClosed) (sym (got_same h)) closed, tt)
  all_owed os (n ∷ ns) must h closed =
      let more = os ++ owed_for t n in
      let on = goes_on (need_fault t n) (are_within more) (owed_behind t more ns) must h in
      let rest = all_owed more ns must on.1 closed in (
        each_front IsClosed os (owed_for t n) rest.0,
        ((on.0, each_back IsClosed os (owed_for t n) rest.0), rest.1),
      )

pub needs_hold : ContextsHold → ShownLaw → ApartIsMet → NeedsHold
needs_hold context_law shown_law apart_law t needs must may shape owes shown =
    needs_met context_law shown_law apart_law t may needs shape
    (all_owed t [] needs must owes (each_of_all IsClosed must shown)).1
