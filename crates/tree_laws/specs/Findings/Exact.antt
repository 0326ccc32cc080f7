-- What is found in a block are the rules of well-formed units.
use Rattle.std.specs.Prelude.{◌≡◌, ℕ, true, Option}
use Rattle.exo_tree.specs.Tree.{Kind, Control, Condition, Block}
use Rattle.exo_meaning.specs.Calls.{Callee}
use Rattle.exo_meaning.specs.Units.{Scope, Reads, is_control, is_condition, is_block}
use Rattle.tree_findings.specs.Classes.{all_kept, all_but_names}
use Rattle.tree_findings.specs.Findings.{findings_of_control, findings_of_condition}
use Rattle.tree_findings.specs.Findings.{findings_of_block}
use Rattle.tree_findings.specs.Obeys.{obeys}

-- a control expression keeps the rules of its place
abbrev pub ControlLaw : Type 0
ControlLaw =
    (fields : ℕ → Option Kind) (may : Reads) (scope : Scope) (e : Control)
    → all_but_names (findings_of_control fields may scope e) ≡ true
    → is_control fields may scope e ≡ true

-- so does a condition
abbrev pub ConditionLaw : Type 0
ConditionLaw =
    (fields : ℕ → Option Kind) (may : Reads) (scope : Scope) (c : Condition)
    → all_but_names (findings_of_condition fields may scope c) ≡ true
    → is_condition fields may scope c ≡ true

-- a block keeps the rules but for the names of its binders, where those are not asked
abbrev pub ObeysLaw : Type 0
ObeysLaw =
    (fields : ℕ → Option Kind) (memories : ℕ) (callees : ℕ → Option Callee)
    → (scope : Scope) (root : ℕ → ℕ) (b : Block)
    → all_but_names (findings_of_block fields memories callees scope root b) ≡ true
    → obeys fields memories callees scope root b ≡ true

-- and all rules, where they are
abbrev pub ExactLaw : Type 0
ExactLaw =
    (fields : ℕ → Option Kind) (memories : ℕ) (callees : ℕ → Option Callee)
    → (scope : Scope) (root : ℕ → ℕ) (b : Block)
    → all_kept (findings_of_block fields memories callees scope root b) ≡ true
    → is_block fields memories callees scope root b ≡ true
