-- The callee with new ids is the callee under a renaming, whatever the new ids are.
use Rattle.std.specs.Prelude.{◌≡◌, ℕ, Bool, true, List, length, Option}
use Rattle.exo_tree.specs.Tree.{Kind, Argument, Block, Procedure}
use Rattle.exo_tree.specs.Context.{Context}
use Rattle.exo_tree.specs.Renaming.{fresh_id}
use Rattle.exo_meaning.specs.Calls.{Callee}
use Rattle.exo_meaning.specs.Run.{unit_world}
use Rattle.exo_meaning.specs.Renaming.{Renaming}
use Rattle.exo_meaning.specs.Units.{IsProcedure}
use Rattle.meaning_laws.specs.FreshCopies.{is_within}
use Rattle.inplace_laws.specs.Inline.{MayInline}
use Rattle.match_laws.specs.RenamedCallee.{re_procedure}
use Rattle.match_laws.specs.Inline.InlineRule.{with_fresh_ids}
use Rattle.match_laws.specs.Inline.InlineConditions.{IsInlinable, StandThere}
use Rattle.match_laws.specs.Inline.FreshCallee.{ids_of}
use Rattle.call_laws.specs.Calls.Names.Renamings.{is_among, IsInjectiveOn}
use Rattle.call_laws.specs.Calls.Callees.{StandsAt}

-- each of the ids gets one of the new numbers, and no two the same
pub record AreNumbered (is : List ℕ) (n : ℕ) : Type 0 where
  pub within : (x : ℕ) → is_among is x ≡ true → is_within n (length is) (fresh_id is n x) ≡ true
  pub once : IsInjectiveOn is (fresh_id is n)

abbrev pub FreshIds : Type 0
FreshIds = (is : List ℕ) (n : ℕ) → AreNumbered is n

-- the renaming gives each id of the procedure its new number
pub record IsRenamed (n : ℕ) (q : Procedure) (r : Renaming) : Type 0 where
  pub ids : (x : ℕ) → is_among (ids_of q) x ≡ true → r.to x ≡ fresh_id (ids_of q) n x
  pub is_copy : with_fresh_ids n q ≡ re_procedure r q

-- a procedure that keeps the rules may have ids among the new ones
abbrev pub FreshAnywhere : Type 0
FreshAnywhere =
    (fields : ℕ → Option Kind) (memories : ℕ) (callees : ℕ → Option Callee) (q : Procedure) (n : ℕ)
    → IsProcedure fields memories callees q
    → (r : Renaming) × IsRenamed n q r

-- so the callee with new ids may be inlined
abbrev pub FreshConditionsAnywhere : Type 0
FreshConditionsAnywhere =
    (fields : ℕ → Option Kind) (memories : ℕ) (callees : ℕ → Option Callee)
    (kinds : ℕ → Kind) (ps : List Procedure) (k : ℕ) (callee : Procedure)
    (at : StandsAt ps k callee)
    (n : ℕ) (own : ℕ → Bool) (p : Procedure) (c : Context) (old : Block)
    (args : List Argument)
    → let above = unit_world kinds at.before in
    let world = unit_world kinds ps in
    let q = with_fresh_ids n callee in
    IsProcedure fields memories callees callee
    → IsInlinable own p q c args
    → StandThere world p q c old args
    → MayInline world above own p q c old k args
