-- What a step has to show: each need with its systems, in the context of its place.
use Rattle.std.specs.Prelude.{◌^◌, nat_le, nat_lt, Bool, true, false, ◌&&◌, if◌then◌else◌, All, List}
use Rattle.std.specs.Prelude.{[], ◌∷◌, ◌++◌, map, length, codes, Option, Some, None}
use Rattle.std.specs.List.{list_all}
use Rattle.exo_tree.specs.Tree.{Condition}
use Rattle.exo_tree.specs.Places.{Path, opened}
use Rattle.exo_meaning.specs.Units.{field_kind, with_both}
use Rattle.meaning_laws.specs.Facts.{Fact, Holds, Fails}
use Rattle.meaning_laws.specs.KnownFields.{KnownFields}
use Rattle.meaning_laws.specs.Sorted.{scope_there}
use Rattle.affine_forms.specs.Affine.{HasNoIntegerPoint}
use Rattle.affine_forms.specs.Formulas.{Formula}
use Rattle.affine_systems.specs.Systems.{Stated, CasesPassed, SizePassed, Listed, systems, stated}
use Rattle.affine_systems.specs.Outcomes.{Owed, owed}
use Rattle.text_show.specs.Layout.{Text}
use Rattle.text_show.specs.Words.{words_of}
use Rattle.text_show.specs.ControlText.{condition_text}
use Rattle.effect_laws.specs.Apart.{Turns, Conflict, conflict_listing}
use Rattle.effect_laws.specs.Words.{fact_formula, fact_fits, context_of, context_fits}
use Rattle.effect_laws.specs.Words.{known_at_place, are_within, unless_refused}
use Rattle.effect_laws.specs.Words.{is_low, Header}
use Rattle.effect_laws.specs.Words.{Fault, WideForm, ManyCases, LargeSystem, ManySystems}
use Rattle.effect_laws.specs.Words.{Listing, Lists, Refuses}
use Rattle.tree_findings.specs.declared.findings.Findings.{Findings}
use Rattle.tree_findings.specs.Classes.{fine, all_of}
use Rattle.tree_findings.specs.Findings.{findings_of_condition}
use Rattle.cursor_forward.specs.Causes.{FormFault, WideNumber, TooManyCases, SystemTooLarge}
use Rattle.cursor_forward.specs.Causes.{TooManySystems, Form}
use Rattle.step_rules.specs.Rule.{Tried, Got, Not, Target, Need, Says, Apart}

-- the rules and the scope alone
abbrev pub shape_alone : Findings → Findings
shape_alone f = record f { names = true; limits = true }

abbrev pub condition_of : Fact → Condition
condition_of (Holds c) = c
condition_of (Fails c) = c

-- ---- conflicts

abbrev pub listed : Listing → List Owed
listed (Lists os) = os
listed (Refuses fault) = []

abbrev pub fault_of : Fault → FormFault
fault_of WideForm = WideNumber
fault_of ManyCases = TooManyCases
fault_of LargeSystem = SystemTooLarge
fault_of ManySystems = TooManySystems

abbrev pub listing_fault : Listing → Option FormFault
listing_fault (Lists os) = None
listing_fault (Refuses fault) = Some (fault_of fault)

-- its variable is below 2^31, and its ends are affine over such variables
abbrev pub header_is_low : Header → Bool
header_is_low h = nat_lt h.binder.id (2 ^ 31) && (is_low h.lo && is_low h.hi)

-- the loops round a piece are so, and few; those of a well-formed procedure always are
abbrev pub turns_are_low : Turns → Bool
turns_are_low k = list_all header_is_low k.loops && nat_le (length k.loops) (2 ^ 20)

abbrev pub conflict_is_low : Conflict → Bool
conflict_is_low k = turns_are_low k.first && turns_are_low k.second

-- nothing owed has an integer point
abbrev pub AreShown : List Owed → Type 0
AreShown os = All (λ o. HasNoIntegerPoint o.system) os

abbrev pub refused : FormFault → Tried (List Owed)
refused fault = Not (Form fault)

module _ (t : Target) where
  -- what is known of configuration fields there
  abbrev pub known_for : Path → KnownFields
  known_for path = known_at_place t.unit t.proc (opened 1 path t.proc.body)

  -- ---- one need

  abbrev pub fact_text : Fact → Text
  fact_text (Holds c) = condition_text (words_of t.unit t.proc) c
  fact_text (Fails c) =
      codes "not (" ++ condition_text (words_of t.unit t.proc) c ++ codes ")"

  -- that the fact is true there
  abbrev pub claim_of : Path → Fact → Formula
  claim_of path fact = fact_formula t.unit t.proc (known_for path) fact

  abbrev pub owed_for : Need → List Owed
  owed_for (Says path fact) =
      map (owed (fact_text fact) path) (systems (context_of t.unit t.proc path) (claim_of path fact))
  owed_for (Apart path k) = listed (conflict_listing t.unit t.proc path k)

  -- ---- refusals

  abbrev pub stated_fault : Stated → Option FormFault
  stated_fault CasesPassed = Some TooManyCases
  stated_fault SizePassed = Some SystemTooLarge
  stated_fault (Listed ss) = None

  -- of a fact first its forms, then its cases, then the size of its systems; of pieces that do not
  -- meet so pair by pair
  abbrev pub need_fault : Need → Option FormFault
  need_fault (Says path fact) =
      if context_fits t.unit t.proc path && fact_fits t.unit t.proc (known_for path) fact
      then stated_fault (stated (context_of t.unit t.proc path) (claim_of path fact))
      else Some WideNumber
  need_fault (Apart path k) = listing_fault (conflict_listing t.unit t.proc path k)

  -- ---- all of them

  -- behind what is owed already; the first need that is refused is told
  abbrev pub owed_behind : List Owed → List Need → Tried (List Owed)
  owed_behind os [] = Got os
  owed_behind os (n ∷ ns) =
      let more = os ++ owed_for n in
      unless_refused refused TooManySystems (need_fault n) (are_within more) (owed_behind more ns)

  abbrev pub owed_needs : List Need → Tried (List Owed)
  owed_needs needs = owed_behind [] needs

  -- what is found of the conditions that have to be shown, and of the loops of conflicts
  abbrev pub findings_of_need : Need → Findings
  findings_of_need (Says path fact) =
      findings_of_condition (field_kind t.unit.fields) with_both
      (scope_there t.proc (opened 1 path t.proc.body)) (condition_of fact)
  findings_of_need (Apart path k) = record fine { rules = conflict_is_low k }

  abbrev pub findings_of_needs : List Need → Findings
  findings_of_needs needs = all_of findings_of_need needs
