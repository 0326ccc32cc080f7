-- What the calls on needs answer.
use Rattle.std.specs.Prelude.{◌≡◌, ℕ, Bool, List, ◌++◌, codes, Option, Some, None}
use Rattle.std.specs.Prelude.{Result, MatchResult}
use Rattle.exo_tree.specs.Tree.{Procedure, Program}
use Rattle.meaning_laws.specs.Facts.{Fact, Holds, Fails}
use Rattle.affine_forms.specs.Formulas.{Formula, negation, condition_keeps_rules}
use Rattle.affine_systems.specs.Limits.{are_within}
use Rattle.affine_systems.specs.Outcomes.{Owed}
use Rattle.effect_laws.specs.Words.{unless_refused}
use Rattle.text_show.specs.Layout.{Text}
use Rattle.text_show.specs.Words.{Words}
use Rattle.text_show.specs.ControlText.{condition_text}
use Rattle.config_laws.specs.Differing.{Origin}
use Rattle.cursor_forward.specs.Causes.{Cause, FormFault, TooManySystems, Form}
use Rattle.cursor_forward.specs.PlainProposal.{cause_of}
use Rattle.cursor_forward.specs.declared.proposal.StepError.{StepError}
use Rattle.step_rules.specs.Rule.{Got, Target, Need, Says, Apart}
use Rattle.step_rules.specs.Owing.{condition_of, conflict_is_low, owed_for, need_fault, owed_behind}
use Rattle.step_driver.specs.Needs.Outcomes.{RefusedBy, IsCause}

-- a number, and how the procedures of a unit were made
abbrev pub Numbered : Type 0
Numbered = ℕ × List Origin

-- a procedure of a unit, under any number
abbrev pub target_in : Program × Procedure → Numbered → Target
target_in it k = record { unit = it.0; origins = k.1; number = k.0; proc = it.1 }

-- ---- facts

-- what a fact says in these words
abbrev pub text_by : Words → Fact → Text
text_by words (Holds c) = condition_text words c
text_by words (Fails c) = codes "not (" ++ condition_text words c ++ codes ")"

-- what a fact says, by the formula of its condition
abbrev pub said : Fact → Formula → Formula
said (Holds c) f = f
said (Fails c) f = negation f

-- what has to be shown is affine; the loops of a conflict have low variables
abbrev pub is_affine : Need → Bool
is_affine (Says path fact) = condition_keeps_rules (condition_of fact)
is_affine (Apart path k) = conflict_is_low k

-- ---- refusals

-- why a need is refused, behind what is owed already
abbrev pub cause_for : Option FormFault → Bool → Option Cause
cause_for fault within = unless_refused (λ f. Some (Form f)) TooManySystems fault within None

-- ---- what comes of needs

-- what a need owes comes behind the others, exactly where it is not refused
abbrev pub Puts :
    {A : Type 0} → Result A StepError → Target → Need → List Owed → List Owed → Type 0
Puts result t n old new =
    let why = cause_for (need_fault t n) (are_within (old ++ owed_for t n)) in
    MatchResult result (λ x. (why ≡ None) × (new ≡ old ++ owed_for t n))
    (λ e. IsCause why (cause_of e))

-- the same of needs in their order
abbrev pub PutsAll :
    {A : Type 0} → Result A StepError → Target → List Need → List Owed → List Owed → Type 0
PutsAll result t ns old new =
    MatchResult result (λ x. owed_behind t old ns ≡ Got new)
    (λ e. RefusedBy (owed_behind t old ns) (cause_of e))
