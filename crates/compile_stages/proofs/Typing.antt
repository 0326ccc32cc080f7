-- A unit that passed the reader and the rules is well formed.
use Rattle.std.proofs.Common.{◌≡◌, ℕ, List, Option, Some, None, refl, sym, ap, ◌∙◌, ⊎_elim}
use Rattle.text_phrases.specs.Text.{IsText}
use Rattle.exo_meaning.specs.Units.{IsUnit}
use Rattle.exo_reader.specs.Source.{Item}
use Rattle.exo_reader.specs.Items.{unit}
use Rattle.exo_reader.specs.Texts.{tokens_of, places_of}
use Rattle.rules_names.specs.declared.fault.Fault.{Fault}
use Rattle.exo_types.specs.UnitRules.{unit_fault, unit_of}
use Rattle.exo_types_laws.specs.Laws.{IsLow}
use Rattle.unit_check.specs.Checked.{Checked, Shown, Refused, checked}
use Rattle.compile_stages.specs.Stages.{Stage, Passed, Typed, IsTyped, IsRuled, judged, shown}
use Rattle.compile_stages.proofs.Running.{passed_is, stopped_is_not_passed}

pub record Formed (text : List ℕ) (u : Typed) : Type 0 where
  pub items : List Item
  pub spelled : IsText unit (tokens_of text) items
  pub keeps : unit_fault items ≡ None
  pub formed : IsUnit (unit_of items)
  pub low : IsLow (unit_of items)
  pub is : u.program ≡ unit_of items

module _ (text : List ℕ) (stage : Stage Typed) (u : Typed) (passed : stage ≡ Passed u) where
  by_rules : (items : List Item) → IsText unit (tokens_of text) items
      → (unit_fault items ≡ None → IsUnit (unit_of items)) → IsLow (unit_of items)
      → (o : Option Fault) → unit_fault items ≡ o → IsRuled (places_of text) items o stage
      → Formed text u
  by_rules items spelled formed low None keeps h = record {
    items = items;
    spelled = spelled;
    keeps = keeps;
    formed = formed keeps;
    low = low;
    is = ap (λ (t : Typed). t.program) (passed_is (sym passed ∙ h));
  }
  by_rules items spelled formed low (Some f) keeps h =
      absurd (stopped_is_not_passed (sym h.2 ∙ passed))

  by_text : IsTyped text stage → Formed text u
  by_text =
      ⊎_elim (λ h. absurd (stopped_is_not_passed (sym h.2 ∙ passed)))
      (λ h. by_rules h.0 h.1 h.2 h.3 (unit_fault h.0) refl h.4)

pub typed_is_formed : (text : List ℕ) (u : Typed) → IsTyped text (Passed u) → Formed text u
typed_is_formed text u typed = by_text text (Passed u) u refl typed

-- a count that passed is that of what is shown
pub all_shown : (u : Typed) (count : ℕ) → shown u ≡ Passed count → checked u.program ≡ Shown count
all_shown u count = go (checked u.program)
  where
    go : (c : Checked) → judged u c ≡ Passed count → c ≡ Shown count
    go (Shown n) e = ap Shown (passed_is e)
    go (Refused k cause) e = absurd (stopped_is_not_passed e)
