-- How large the variables in a well-formed procedure's contexts and accesses are, and how long its
-- accesses.
use Rattle.std.specs.Prelude.{◌≡◌, ◌≤◌, ◌^◌, ℕ, true, List, Option}
use Rattle.std.specs.List.{list_all}
use Rattle.exo_tree.specs.Tree.{Kind, Procedure, Program}
use Rattle.exo_tree.specs.Places.{Path}
use Rattle.exo_meaning.specs.Calls.{Callee}
use Rattle.exo_meaning.specs.Units.{IsProcedure}
use Rattle.check_facts.specs.Contexts.{context_of}
use Rattle.exo_effects.specs.Fresh.{past_all, past_formula}
use Rattle.exo_effects.specs.PlainUses.{plain_uses}
use Rattle.exo_effects.specs.Uses.{uses_at, argument_at}
use Rattle.exo_effects.specs.declared.access.Access.{Access}
use Rattle.effect_conflicts.specs.Outcomes.{access_is_low}

-- in a well-formed procedure all variables of the context of a place are below 2^31
abbrev pub ContextLowLaw : Type 0
ContextLowLaw =
    (fields : ℕ → Option Kind) (memories : ℕ) (callees : ℕ → Option Callee)
    (u : Program) (p : Procedure) (path : Path)
    → IsProcedure fields memories callees p
    → past_all past_formula (context_of u p path) ≤ 2 ^ 31

-- the program's accesses of a piece have variables below 2^31, and are not long
abbrev pub AccessesLowLaw : Type 0
AccessesLowLaw =
    (fields : ℕ → Option Kind) (memories : ℕ) (callees : ℕ → Option Callee)
    (u : Program) (p : Procedure) (path : Path) (count : ℕ) (l : List Access)
    → IsProcedure fields memories callees p
    → plain_uses l ≡ uses_at u p path count
    → list_all access_is_low l ≡ true

-- and so have its accesses of what a call passes
abbrev pub ArgumentsLowLaw : Type 0
ArgumentsLowLaw =
    (fields : ℕ → Option Kind) (memories : ℕ) (callees : ℕ → Option Callee)
    (u : Program) (p : Procedure) (path : Path) (k : ℕ) (l : List Access)
    → IsProcedure fields memories callees p
    → plain_uses l ≡ argument_at u p path k
    → list_all access_is_low l ≡ true
