-- What holds of all versions of a schedule.
use Rattle.std.specs.Prelude.{◌≡◌, ◌≤◌, ◌<◌, ◌+◌, ◌*◌, ◌^◌, ⊤, ℕ, List, length}
use Rattle.std.specs.Prelude.{true, Some, slice_get, Contains}
use Rattle.exo_tree.specs.Tree.{Procedure, Program}
use Rattle.exo_meaning.specs.Run.{program_world}
use Rattle.exo_meaning.specs.Inputs.{Refines}
use Rattle.exo_meaning.specs.Orders.{Each}
use Rattle.exo_meaning.specs.Units.{IsUnit}
use Rattle.meaning_laws.specs.Chain.{HasHead}
use Rattle.tree_edits.specs.Made.Ids.{next_id}
use Rattle.config_laws.specs.Differing.{step_fields, is_descendant, differing}
use Rattle.unit_check.specs.Faults.{NothingFaults}
use Rattle.cursor_forward.specs.Cursors.{Cursor}
use Rattle.step_rules.specs.Lawful.{IsLawful}
use Rattle.step_rules.specs.Rule.{Target, Got, Spot, Rule}
use Rattle.schedule_laws.specs.Versions.Versions.{Versions, started}
use Rattle.schedule_laws.specs.Versions.Places.{parent_at}
use Rattle.schedule_laws.specs.Versions.Lines.{Ruled, Call, Act, Faulty, Apply, Search, Moved, Emit}
use Rattle.schedule_laws.specs.Versions.Lines.{Done, run_acts}

-- the fields that a rule says may differ are fields of the unit
abbrev pub NamesFields : Rule → Type 0
NamesFields r = (s : Spot) → Each (λ f. f < length s.target.unit.fields) (r.fields s)

-- each rule by which an operator works
abbrev pub EachRule : (Rule → Type 0) → Call → Type 0
EachRule Holds call =
    (v : Versions) (t : Target) (cs : List Cursor) (r : Ruled)
    → call.rule v t cs ≡ Got r
    → Holds r.rule

-- what they are
pub record IsLawfulCall (call : Call) : Type 0 where
  pub lawful : EachRule IsLawful call
  pub fields : EachRule NamesFields call

abbrev pub IsLawfulAct : Act → Type 0
IsLawfulAct (Faulty why) = ⊤
IsLawfulAct (Apply name of call) = IsLawfulCall call
IsLawfulAct (Search name of pattern nth moves) = ⊤
IsLawfulAct (Moved name of moves) = ⊤
IsLawfulAct (Emit name) = ⊤

-- the fields of one step, as the report tells them
abbrev pub fields_of_step : Versions → ℕ → List ℕ
fields_of_step v k = step_fields v.unit.procedures v.origins k

-- version k was made of version j in one step, whose procedures these are
pub record IsMade (v : Versions) (j k : ℕ) (p q : Procedure) : Type 0 where
  pub before : j < k
  pub head : HasHead p q
  pub refines : Refines (program_world v.unit) p q (fields_of_step v k)

-- the versions make a well-formed unit of which nothing faults, and each refines that of which it
-- was made
pub record AreDerived (v : Versions) : Type 0 where
  pub formed : IsUnit v.unit
  pub quiet : NothingFaults v.unit
  pub count : length v.origins ≡ length v.unit.procedures
  pub made :
      (j k : ℕ) (q : Procedure)
      → parent_at v k ≡ Some j
      → slice_get v.unit.procedures k ≡ Some q
      → (p : Procedure) × (slice_get v.unit.procedures j ≡ Some p) × IsMade v j k p q
  pub fields : (k f : ℕ) → Contains (fields_of_step v k) f → f < length v.unit.fields

-- there are numbers and ids left for so many steps
pub record HasRoom (v : Versions) (steps : ℕ) : Type 0 where
  pub numbers : length v.unit.procedures + steps + 1 < 2 ^ 31
  pub ids :
      (k : ℕ) (p : Procedure)
      → slice_get v.unit.procedures k ≡ Some p
      → next_id p + 65536 * steps ≤ 2 ^ 31

-- before the first line
abbrev pub StartedIsDerived : Type 0
StartedIsDerived =
    (unit : Program) (shown : ℕ) → IsUnit unit → NothingFaults unit → AreDerived (started unit shown)

-- and behind all lines, whatever lawful operators they name
abbrev pub RunIsDerived : Type 0
RunIsDerived =
    (acts : List Act) (v w : Versions)
    → Each IsLawfulAct acts
    → AreDerived v
    → HasRoom v (length acts)
    → run_acts acts v ≡ Done w
    → AreDerived w

-- each version refines all of which it was made, but for the fields that the report names
abbrev pub VersionsRefine : Type 0
VersionsRefine =
    (v : Versions) (from k : ℕ) (p q : Procedure)
    → AreDerived v
    → is_descendant v.origins k from ≡ true
    → slice_get v.unit.procedures from ≡ Some p
    → slice_get v.unit.procedures k ≡ Some q
    → Refines (program_world v.unit) p q (differing v.unit v.origins k from)

-- and has the parameters and assertions of each
abbrev pub VersionsKeepHeads : Type 0
VersionsKeepHeads =
    (v : Versions) (from k : ℕ) (p q : Procedure)
    → AreDerived v
    → is_descendant v.origins k from ≡ true
    → slice_get v.unit.procedures from ≡ Some p
    → slice_get v.unit.procedures k ≡ Some q
    → HasHead p q
