-- The laws of contexts, each the contract of a function.
use Rattle.std.specs.Prelude.{◌≡◌, ℕ, true, Option}
use Rattle.exo_tree.specs.Tree.{Kind, Procedure}
use Rattle.exo_meaning.specs.Calls.{Callee}
use Rattle.exo_meaning.specs.Units.{IsProcedure}
use Rattle.check_facts.specs.Contexts.{may_be_walked}

-- each place of a well-formed procedure has a context, if its forms can be written down
abbrev pub WellFormedMayBeWalked : Type 0
WellFormedMayBeWalked =
    (fields : ℕ → Option Kind) (memories : ℕ) (callees : ℕ → Option Callee) (p : Procedure)
    → IsProcedure fields memories callees p
    → may_be_walked p ≡ true
