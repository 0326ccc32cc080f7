-- What stands behind what the stages make.
use Rattle.std.proofs.Common.{◌≡◌, ◌<◌, ◌≤◌, ◌^◌, ◌==◌, ◌||◌, nat_lt, ℕ, suc, Bool, true, false, true≢false}
use Rattle.std.proofs.Common.{eqb-true, List, [], ◌∷◌, map, length, Option, Some, None, refl, sym, ap, ◌∙◌}
use Rattle.std.proofs.Common.{subst, arith, ⊎_elim}
use Rattle.std.specs.Prelude.{slice_get, Result}
use Rattle.std.proofs.lemmas.Bool.{and_parts}
use Rattle.compile_stages.specs.Samples.Texts.{unit_text, schedule_text}
use Rattle.text_phrases.specs.Limits.{in_size}
use Rattle.text_phrases.specs.Text.{IsText}
use Rattle.exo_tree.specs.Tree.{Procedure, Program}
use Rattle.exo_meaning.specs.Units.{IsUnit}
use Rattle.exo_reader.specs.Items.{unit}
use Rattle.exo_reader.specs.Texts.{tokens_of, ReadsUnit}
use Rattle.exo_reader.specs.declared.unit.ReadError.{ReadError}
use Rattle.exo_reader.specs.declared.unit.Source.{Source}
use Rattle.exo_types.specs.UnitRules.{unit_of}
use Rattle.text_show.specs.ProcedureText.{shown as text_shown}
use Rattle.exo_types_laws.specs.Shown.Laws.{ShownIsRead}
use Rattle.exo_types_laws.specs.Shown.Naming.{ReadUnitsAreNamed, NamedUnitsAreWritable}
use Rattle.exo_types_laws.specs.Shown.Writable.{IsWritable}
use Rattle.memory_kinds.specs.declared.error.KindError.{KindError}
use Rattle.memory_kinds.specs.Faults.{fault_of}
use Rattle.c_tree.specs.CText.{text_of}
use Rattle.c_lowering.specs.Made.LoweredUnit.{Printing, is_listed, lowered}
use Rattle.c_printer.specs.Refusals.{too_wide, name_clash}
use Rattle.c_unit_laws.specs.Follows.Units.{AreLowered}
use Rattle.c_unit_laws.specs.Listings.{PrintingsAreListings}
use Rattle.unit_check.specs.Checked.{Shown, checked}
use Rattle.unit_check.specs.Faults.{NothingFaults}
use Rattle.unit_check.specs.Laws.{CheckedUnitsDoNotFault}
use Rattle.schedule_text.specs.Tree as tree
use Rattle.schedule_text.specs.Grammar as grammar
use Rattle.schedule_laws.specs.Versions.Versions.{Versions, started, version_at, version_of}
use Rattle.schedule_laws.specs.Versions.Lines.{Outcome, Done}
use Rattle.schedule_laws.specs.Versions.Lines as lines
use Rattle.schedule_laws.specs.Versions.Laws.{HasRoom}
use Rattle.schedule_laws.specs.Versions.Behind.{RunsHoldVersions}
use Rattle.schedule_run.specs.Runs.{LinesRun}
use Rattle.schedule_run.specs.Laws.{SchedulesKeep, SmallUnitsHaveRoom, AreKept}
use Rattle.compile_stages.specs.Printings.{printing_of, is_emitted, printings_of, or_later, memory_fault}
use Rattle.compile_stages.specs.Stages.{Stage, Passed, Stopped, Typed, IsTyped, then_do, shown, Schedule}
use Rattle.schedule_laws.specs.Names.Schedules.{LinesGiveNames, SchedulesKeepNames}
use Rattle.compile_stages.specs.Stages.{IsScheduled, ended, IsRan, Made, made, kept, if_kept, narrow, if_narrow}
use Rattle.compile_stages.specs.Stages.{named, if_named, text, lowered_text, printed, displayed, Leads}
use Rattle.compile_stages.specs.Stages.{Schedules, Compiles, Displays, Generates, summary, Checks, counted}
use Rattle.compile_stages.specs.Stops as stop
use Rattle.compile_stages.specs.Messages as messages
use Rattle.compile_stages.specs.Undeclared.{UndeclaredFieldsStay}
use Rattle.compile_stages.specs.Promise.{AreMade, ComesFrom, IsPrinted, Promise}
use Rattle.compile_stages.specs.Shown.{Displayed}
use Rattle.compile_stages.specs.Counted.{IsCounted}
use Rattle.compile_stages.specs.Generated.{Generated}
use Rattle.compile_stages.specs.Laws.{CompiledIsPromised, DisplayedIsPromised, GeneratedIsPromised}
use Rattle.compile_stages.specs.Laws.{CheckedIsCounted}
use Rattle.compile_stages.proofs.Running.{led, passed_then, passed_is, stopped_is_not_passed}
use Rattle.compile_stages.proofs.Typing.{Formed, typed_is_formed, all_shown}
use Rattle.compile_stages.proofs.Listing.{nothing_there, some_is, few_printings}
use Rattle.compile_stages.proofs.Printed.{FileLaws, at_place, origin_of, comes_from, each_printed}
use Rattle.compile_stages.proofs.Lines.{runs_hold, runs_keep_names}

-- the laws of lower crates on which all that is promised rests
pub record LawsBelow : Type 0 where
  pub safe : CheckedUnitsDoNotFault
  pub keeps : SchedulesKeep
  pub room : SmallUnitsHaveRoom
  pub hold : RunsHoldVersions

-- ---- what the last stages ask

-- what passed them keeps the rules on memories and is narrow, and has names that C keeps
record IsPrintable (m : Made) (out : List ℕ) : Type 0 where
  pub memories : memory_fault m.program m.what ≡ None
  pub narrow : too_wide m.program m.what ≡ None
  pub named : name_clash m.program m.what ≡ None
  pub text : out ≡ text_of (lowered m.program m.what)

printable : (m : Made) (out : List ℕ) → printed m ≡ Passed out → IsPrintable m out
printable m out e =
    let a = passed_then (kept m) lowered_text out e in
    let is_kept = if_is_kept (memory_fault m.program m.what) a.1 in
    let low = subst (λ (x : Made). lowered_text x ≡ Passed out) (sym is_kept.1) a.2 in
    let b = passed_then (narrow m) (λ b. then_do (named b) text) out low in
    let is_narrow = if_is_narrow (too_wide m.program m.what) b.1 in
    let rest = subst (λ (x : Made). then_do (named x) text ≡ Passed out) (sym is_narrow.1) b.2 in
    let c = passed_then (named m) text out rest in
    let is_named = if_is_named (name_clash m.program m.what) c.1 in
    record {
      memories = is_kept.0;
      narrow = is_narrow.0;
      named = is_named.0;
      text = sym (passed_is (subst (λ (x : Made). text x ≡ Passed out) (sym is_named.1) c.2));
    }
  where
    if_is_kept : (o : Option (ℕ × KindError)) {a : Made} → if_kept m o ≡ Passed a → (o ≡ None) × (m ≡ a)
    if_is_kept None e = (refl, passed_is e)
    if_is_kept (Some f) e = absurd (stopped_is_not_passed e)

    if_is_narrow : (o : Option ℕ) {b : Made} → if_narrow m o ≡ Passed b → (o ≡ None) × (m ≡ b)
    if_is_narrow None e = (refl, passed_is e)
    if_is_narrow (Some k) e = absurd (stopped_is_not_passed e)

    if_is_named : (o : Option (List ℕ)) {c : Made} → if_named m o ≡ Passed c → (o ≡ None) × (m ≡ c)
    if_is_named None e = (refl, passed_is e)
    if_is_named (Some name) e = absurd (stopped_is_not_passed e)

-- so each listed procedure keeps the rules on memories
each_kept : (program : Program) (what : List Printing) (k : ℕ) → memory_fault program what ≡ None
    → is_listed what k ≡ true → fault_of program k ≡ None
each_kept program [] k h l = absurd (true≢false (sym l))
each_kept program (w ∷ ws) k h l =
    go (each_kept program ws k) (fault_of program w.proc) refl h (k == w.proc) refl l
  where
    go : (memory_fault program ws ≡ None → is_listed ws k ≡ true → fault_of program k ≡ None)
        → (o : Option KindError) → fault_of program w.proc ≡ o
        → or_later w.proc o (memory_fault program ws) ≡ None
        → (t : Bool) → (k == w.proc) ≡ t → (t || is_listed ws k) ≡ true → fault_of program k ≡ None
    go rest (Some e) own h t same l = absurd (nothing_there (sym h))
    go rest None own h true same l = ap (fault_of program) (eqb-true k w.proc same) ∙ own
    go rest None own h false same l = rest h l

few_procedures : (program : Program) → IsUnit program → length program.procedures < 2 ^ 31
few_procedures program formed =
    let q = and_parts (nat_lt (length program.procedures) (2 ^ 31)) _ formed.counts in
    grind (arith, q.0)

-- ---- what a schedule makes

read_is : (bytes : List ℕ) (s : Schedule) → IsScheduled bytes (Passed s)
    → IsText grammar.schedule (tokens_of bytes) s.lines
read_is bytes s =
    ⊎_elim (λ h. absurd (stopped_is_not_passed (sym h.2)))
    (λ h. subst (λ (x : Schedule). IsText grammar.schedule (tokens_of bytes) x.lines)
    (sym (passed_is h.2)) h.1)

ran_is : (program : Program) (count : ℕ) (s : Schedule) (v : Versions) → IsRan program count s (Passed v)
    → LinesRun 0 s.lines (started program count) (Done v)
ran_is program count s v h = go h.0 h.1 h.2
  where
    go : (end : Outcome) → LinesRun 0 s.lines (started program count) end → Passed v ≡ ended s end
        → LinesRun 0 s.lines (started program count) (Done v)
    go (Done w) runs e =
        subst (λ x. LinesRun 0 s.lines (started program count) (Done x)) (sym (passed_is e)) runs
    go (lines.Stopped k why) runs e = absurd (stopped_is_not_passed (sym e))

-- the versions that a schedule makes, and all that is known of them
record Known (laws : LawsBelow) (source schedule : List ℕ) (v : Versions) : Type 0 where
  pub typed : Typed
  pub formed : Formed source typed
  pub made : AreMade source schedule formed.items v
  pub kept : AreKept (unit_of formed.items) v

known : (laws : LawsBelow) (source schedule : List ℕ) (v : Versions)
    → Schedules source schedule (Passed v) → Known laws source schedule v
known laws source schedule v h =
    let a = led (IsTyped source) _ v h in
    let u = a.0 in
    let formed = typed_is_formed source u a.1 in
    let text = unit_of formed.items in
    let b = led (λ s. s ≡ shown u) _ v a.2 in
    let count = b.0 in
    let all = ap checked (sym formed.is) ∙ all_shown u count (sym b.1) in
    let safe = laws.safe text count formed.formed all in
    let c = led (IsScheduled schedule) _ v b.2 in
    let s = c.0 in
    let read = read_is schedule s c.1 in
    let ran = subst (λ p. LinesRun 0 s.lines (started p count) (Done v)) formed.is
    (ran_is u.program count s v c.2) in
    let room = laws.room text count (length s.lines) formed.low.procedures formed.low.ids
    (read.fits in_size).1.1 in
    let kept = laws.keeps text count s.lines v
    (record { formed = formed.formed; quiet = safe; room = room; ran = ran }) in
    record {
      typed = u;
      formed = formed;
      made = record {
        count = count;
        lines = s.lines;
        spelled = formed.spelled;
        keeps = formed.keeps;
        shown = all;
        formed = formed.formed;
        no_fault = safe;
        read = read;
        ran = ran;
        all_formed = kept.derived.formed;
        none_faults = kept.derived.quiet;
      };
      kept = kept;
    }

-- ---- compiled

-- the C that is printed of the versions that a schedule makes keeps the promise of these versions
promised : LawsBelow → FileLaws → PrintingsAreListings → UndeclaredFieldsStay
    → (source schedule out : List ℕ) (v : Versions) → Schedules source schedule (Passed v)
    → printed (made v) ≡ Passed out → (p : Promise source schedule out) × (p.versions ≡ v)
promised laws files listings undeclared source schedule out v runs prints =
    let k = known laws source schedule v runs in
    let text = unit_of k.formed.items in
    let is = printable (made v) out prints in
    let few = few_printings v in
    let all = few_procedures v.unit k.kept.derived.formed in
    let lowers : AreLowered fault_of v.unit (printings_of v) = record {
      listing = listings v.unit (is_emitted v.emitted) (printing_of v) (λ j. refl) k.kept.derived.formed;
      memories = λ j listed. each_kept v.unit (printings_of v) j is.memories listed;
      narrow = is.narrow;
      named = is.named;
      few = omega (arith, few, all);
    } in (
      record {
        items = k.formed.items;
        versions = v;
        what = printings_of v;
        made = k.made;
        printings = refl;
        listing = lowers.listing;
        memories = is.memories;
        narrow = is.narrow;
        named = is.named;
        text = is.text;
        each = each_printed text v k.formed.formed k.made.no_fault k.kept files undeclared lowers;
      },
      refl,
    )

pub compiled_is_promised : LawsBelow → FileLaws → PrintingsAreListings → UndeclaredFieldsStay
    → CompiledIsPromised
compiled_is_promised laws files listings undeclared source schedule out h =
    let a = led (Schedules source schedule) _ out h in
    (promised laws files listings undeclared source schedule out a.0 a.1 (sym a.2)).0

-- ---- generated

pub generated_is_promised : LawsBelow → FileLaws → PrintingsAreListings → UndeclaredFieldsStay
    → GeneratedIsPromised
generated_is_promised laws files listings undeclared n report h =
    let source = unit_text n in
    let schedule = schedule_text n in
    let a = led (Schedules source schedule) _ report h in
    let v = a.0 in
    let b = passed_then (printed (made v)) (λ text. Passed (summary n v text)) report (sym a.2) in
    let p = promised laws files listings undeclared source schedule b.0 v a.1 b.1 in
    record {
      printed = b.0;
      kept = p.0;
      is_report = sym (passed_is b.2) ∙ ap (λ (w : Versions). summary n w b.0) (sym p.1);
    }

-- ---- displayed

-- the laws on names on which it rests that the text of a version is read
pub record NameLaws : Type 0 where
  pub reads : ShownIsRead
  pub named : ReadUnitsAreNamed
  pub give : LinesGiveNames
  pub keep : SchedulesKeepNames
  pub writable : NamedUnitsAreWritable

module _ (laws : LawsBelow) (names : NameLaws) (source schedule name out : List ℕ) (v : Versions)
    (k : Known laws source schedule v) where
  writable : (j : ℕ) (q : Procedure) → version_at v j ≡ Some q → IsWritable v.unit q
  writable j q there =
      let text = unit_of k.formed.items in
      names.writable v.unit j q k.kept.derived.formed
      (runs_keep_names names.give names.keep text k.made.count k.made.lines v
      (names.named source k.formed.items k.formed.spelled) k.made.ran) there

  none_held : (j : ℕ) → version_of v name ≡ Some j → version_at v j ≡ None → ⊥
  none_held j held there =
      let low = runs_hold laws.hold (unit_of k.formed.items) k.made.count k.made.lines v name j k.made.ran held in
      let one = at_place v.unit.procedures j low in
      nothing_there (sym there ∙ one.1)

  number_known : (o : Option ℕ) → version_of v name ≡ o
      → Passed out ≡ (elim o as (λ o. Stage (List ℕ)) [
        | None ↦ Stopped (stop.NoVersion name)
        | Some j ↦ Passed (text_shown v.unit j)
      ]) → Displayed source schedule name out
  number_known None held e = absurd (stopped_is_not_passed (sym e))
  number_known (Some j) held e = by (version_at v j) refl
    where
      by : (o : Option Procedure) → version_at v j ≡ o → Displayed source schedule name out
      by None there = absurd (none_held j held there)
      by (Some q) there =
          let text = unit_of k.formed.items in
          let is = passed_is e in
          record {
            items = k.formed.items;
            versions = v;
            number = j;
            version = q;
            origin = origin_of text v k.kept j q there;
            made = k.made;
            held = held;
            comes = comes_from text v k.kept j q there;
            is_text = is;
            reads = λ within result read.
                names.reads v.unit j q there (writable j q there) within result
                (subst (λ t. ReadsUnit t result) is read);
          }

pub displayed_is_promised : LawsBelow → NameLaws → DisplayedIsPromised
displayed_is_promised laws names source schedule name out h =
    let a = led (Schedules source schedule) _ out h in
    number_known laws names source schedule name out a.0 (known laws source schedule a.0 a.1)
    (version_of a.0 name) refl a.2

-- ---- checked

pub checked_is_counted : CheckedUnitsDoNotFault → CheckedIsCounted
checked_is_counted safe source report h =
    let a = led (IsTyped source) _ report h in
    let u = a.0 in
    let formed = typed_is_formed source u a.1 in
    let b = passed_then (shown u) (λ count. Passed (messages.checked count)) report (sym a.2) in
    let all = ap checked (sym formed.is) ∙ all_shown u b.0 b.1 in
    record {
      items = formed.items;
      count = b.0;
      spelled = formed.spelled;
      keeps = formed.keeps;
      formed = formed.formed;
      shown = all;
      no_fault = safe (unit_of formed.items) b.0 formed.formed all;
      is_report = sym (passed_is b.2);
    }
