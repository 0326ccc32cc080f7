-- Versions of a schedule, whose lines ask for names of the grammar.
use Rattle.std.specs.Prelude.{◌≡◌, ⊤, ℕ, List, length, map, Some, slice_get}
use Rattle.exo_tree.specs.Tree.{Procedure, Program}
use Rattle.exo_meaning.specs.Orders.{Each}
use Rattle.exo_meaning.specs.Units.{IsUnit}
use Rattle.exo_types_laws.specs.Shown.Names.{IsName}
use Rattle.exo_types_laws.specs.Shown.Named.{AreNamed}
use Rattle.exo_types_laws.specs.Shown.Writable.{IsWritable}
use Rattle.unit_check.specs.Faults.{NothingFaults}
use Rattle.schedule_text.specs.Tree as tree
use Rattle.schedule_calls.specs.Requests.{Request, Apply, Search, Moved, Emit}
use Rattle.schedule_calls.specs.Readings.{Asks}
use Rattle.schedule_laws.specs.Versions.Versions.{Versions, started}
use Rattle.schedule_laws.specs.Versions.Lines.{Done, run_acts}
use Rattle.schedule_laws.specs.Versions.Laws.{HasRoom}
use Rattle.schedule_laws.specs.Operators.Operators.{act_of}
use Rattle.schedule_laws.specs.Operators.Rules.{Takes}

-- the names that a line gives to an operator are of the grammar
abbrev pub GivesNames : Request → Type 0
GivesNames (Apply bind of o) = Takes IsName o
GivesNames (Search bind of pattern nth moves) = ⊤
GivesNames (Moved bind of moves) = ⊤
GivesNames (Emit name) = ⊤

-- so they are in each line of a schedule
abbrev pub LinesGiveNames : Type 0
LinesGiveNames = (line : tree.Line) (r : Request) → Asks line r → GivesNames r

-- all versions of a unit with names of the grammar have such names
abbrev pub SchedulesKeepNames : Type 0
SchedulesKeepNames =
    (unit : Program) (shown : ℕ) (requests : List Request) (v : Versions)
    → AreNamed unit
    → Each GivesNames requests
    → run_acts (map act_of requests) (started unit shown) ≡ Done v
    → AreNamed v.unit

-- and each of them can be written down
abbrev pub VersionsAreWritable : Type 0
VersionsAreWritable =
    (unit : Program) (shown : ℕ) (requests : List Request) (v : Versions) (k : ℕ) (p : Procedure)
    → IsUnit unit
    → NothingFaults unit
    → HasRoom (started unit shown) (length requests)
    → AreNamed unit
    → Each GivesNames requests
    → run_acts (map act_of requests) (started unit shown) ≡ Done v
    → slice_get v.unit.procedures k ≡ Some p
    → IsWritable v.unit p
