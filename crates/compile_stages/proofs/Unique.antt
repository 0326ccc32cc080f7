-- Each way comes to one end.
use Rattle.std.proofs.Common.{◌≡◌, ℕ, List, Option, Some, None, refl, sym, ap, ◌∙◌, subst, ⊎_elim}
use Rattle.compile_stages.specs.Samples.Texts.{unit_text, schedule_text}
use Rattle.text_phrases.specs.Limits.{in_size}
use Rattle.text_phrases.specs.Text.{IsText}
use Rattle.text_lexer.specs.declared.place.Place.{Place}
use Rattle.exo_tree.specs.Tree.{Program}
use Rattle.exo_reader.specs.Source.{Item}
use Rattle.exo_reader.specs.Items.{unit}
use Rattle.exo_reader.specs.Texts.{tokens_of, places_of, TextsAreOne}
use Rattle.rules_names.specs.declared.error.TypeError.{TypeError}
use Rattle.rules_names.specs.declared.fault.Fault.{Fault}
use Rattle.exo_types.specs.UnitBuilder.{IsErrorAt}
use Rattle.exo_types.specs.UnitRules.{unit_fault}
use Rattle.schedule_text.specs.Tree as tree
use Rattle.schedule_text.specs.Grammar as grammar
use Rattle.schedule_text.specs.Texts.{line_numbers}
use Rattle.schedule_laws.specs.Versions.Versions.{Versions, started}
use Rattle.schedule_run.specs.Laws.{LinesRunOnce}
use Rattle.compile_stages.specs.Stops as stop
use Rattle.compile_stages.specs.Stages.{Stage, Passed, Stopped, Typed, IsUnread, IsRuled, IsRead, IsTyped}
use Rattle.compile_stages.specs.Stages.{shown, Schedule, IsNoSchedule, IsSchedule, IsScheduled, ended}
use Rattle.compile_stages.specs.Stages.{IsRan, made, printed, displayed, summed, Schedules, counted, EndsAreOne}
use Rattle.compile_stages.proofs.Running.{leads_once}

same_error : (a b : TypeError) → a.line ≡ b.line → a.column ≡ b.column → a.kind ≡ b.kind → a ≡ b
same_error a b line column kind =
    ap (λ l. record { line = l; column = a.column; kind = a.kind }) line
    ∙ ap (λ c. record { line = b.line; column = c; kind = a.kind }) column
    ∙ ap (λ k. record { line = b.line; column = b.column; kind = k }) kind

same_place : {a b : Place} → Some a ≡ Some b → a ≡ b
same_place e = cc

-- a rule is broken at one place
broken_once : (places : List Place) (f : Fault) (a b : TypeError) → IsErrorAt places f a
    → IsErrorAt places f b → a ≡ b
broken_once places f a b h k =
    let same : h.place ≡ k.place = same_place (sym h.there ∙ k.there) in
    same_error a b
    (h.line ∙ ap (λ (p : Place). p.line) same ∙ sym k.line)
    (h.column ∙ ap (λ (p : Place). p.column) same ∙ sym k.column)
    (h.kind ∙ sym k.kind)

module _ (units : TextsAreOne unit) (schedules : TextsAreOne grammar.schedule) (runs : LinesRunOnce) where
  -- a text is one unit, or has one error
  module _ (text : List ℕ) where
    ruled_once : (items : List Item) (o : Option Fault) (a b : Stage Typed)
        → IsRuled (places_of text) items o a → IsRuled (places_of text) items o b → a ≡ b
    ruled_once items None a b h k = h ∙ sym k
    ruled_once items (Some f) a b h k =
        h.2 ∙ ap (λ e. Stopped (stop.Broken e)) (broken_once (places_of text) f h.0 k.0 h.1 k.1)
        ∙ sym k.2

    unread_once : (a b : Stage Typed) → IsUnread text a → IsUnread text b → a ≡ b
    unread_once a b h k =
        h.2 ∙ ap (λ e. Stopped (stop.Unread e))
        (units.error (tokens_of text) (places_of text) h.0 k.0 h.1 k.1) ∙ sym k.2

    never_both : (a b : Stage Typed) → IsUnread text a → IsRead text b → ⊥
    never_both a b h k = units.no_error (tokens_of text) (places_of text) k.0 h.0 k.1 h.1

    read_once : (a b : Stage Typed) → IsRead text a → IsRead text b → a ≡ b
    read_once a b h k =
        let same = units.tree (tokens_of text) h.0 k.0 h.1 k.1 in
        ruled_once k.0 (unit_fault k.0) a b
        (subst (λ items. IsRuled (places_of text) items (unit_fault items) a) same h.4) k.4

    typed_once : (a b : Stage Typed) → IsTyped text a → IsTyped text b → a ≡ b
    typed_once a b =
        ⊎_elim
        (λ h. ⊎_elim (unread_once a b h) (λ k. absurd (never_both a b h k)))
        (λ h. ⊎_elim (λ k. absurd (never_both b a k h)) (read_once a b h))

  -- and it is one schedule, or has one error
  module _ (text : List ℕ) where
    refused_once : (a b : Stage Schedule) → IsNoSchedule text a → IsNoSchedule text b → a ≡ b
    refused_once a b h k =
        h.2 ∙ ap (λ e. Stopped (stop.NoSchedule e))
        (schedules.error (tokens_of text) (places_of text) h.0 k.0 h.1 k.1) ∙ sym k.2

    not_both : (a b : Stage Schedule) → IsNoSchedule text a → IsSchedule text b → ⊥
    not_both a b h k = schedules.no_error (tokens_of text) (places_of text) k.0 h.0 k.1 h.1

    lines_once : (a b : Stage Schedule) → IsSchedule text a → IsSchedule text b → a ≡ b
    lines_once a b h k =
        let same = schedules.tree (tokens_of text) h.0 k.0 h.1 k.1 in
        h.2
        ∙ ap (λ ls. Passed (record { lines = ls; numbers = line_numbers (places_of text) ls })) same
        ∙ sym k.2

    scheduled_once : (a b : Stage Schedule) → IsScheduled text a → IsScheduled text b → a ≡ b
    scheduled_once a b =
        ⊎_elim
        (λ h. ⊎_elim (refused_once a b h) (λ k. absurd (not_both a b h k)))
        (λ h. ⊎_elim (λ k. absurd (not_both b a k h)) (lines_once a b h))

  ran_once : (program : Program) (count : ℕ) (s : Schedule) (a b : Stage Versions)
      → IsRan program count s a → IsRan program count s b → a ≡ b
  ran_once program count s a b h k =
      h.2 ∙ ap (ended s) (runs.end 0 s.lines (started program count) h.0 k.0 h.1 k.1) ∙ sym k.2

  same_end : {T : Type 0} (s a b : Stage T) → a ≡ s → b ≡ s → a ≡ b
  same_end s a b h k = h ∙ sym k

  made_once : (source schedule : List ℕ) (a b : Stage Versions)
      → Schedules source schedule a → Schedules source schedule b → a ≡ b
  made_once source schedule =
      leads_once _ _ (typed_once source) (λ u.
      leads_once _ _ (same_end (shown u)) (λ count.
      leads_once _ _ (scheduled_once schedule) (λ s.
      ran_once u.program count s)))

  pub ends_are_one : EndsAreOne
  ends_are_one = record {
    compiles = λ source schedule.
        leads_once _ _ (made_once source schedule) (λ v. same_end (printed (made v)));
    displays = λ source schedule name.
        leads_once _ _ (made_once source schedule) (λ v. same_end (displayed name v));
    generates = λ n.
        leads_once _ _ (made_once (unit_text n) (schedule_text n)) (λ v. same_end (summed n v));
    checks = λ source. leads_once _ _ (typed_once source) (λ u. same_end (counted u));
  }
