-- What holds of the operators, and so of schedules.
use Rattle.std.specs.Prelude.{◌≡◌, ℕ, List, length, map}
use Rattle.exo_tree.specs.Tree.{Program}
use Rattle.exo_meaning.specs.Units.{IsUnit}
use Rattle.unit_check.specs.Faults.{NothingFaults}
use Rattle.schedule_calls.specs.Requests.{Operation, Request}
use Rattle.schedule_laws.specs.Versions.Versions.{Versions, started}
use Rattle.schedule_laws.specs.Versions.Lines.{Done, run_acts}
use Rattle.schedule_laws.specs.Versions.Laws.{IsLawfulCall, AreDerived, HasRoom}
use Rattle.schedule_laws.specs.Operators.Operators.{call_of, act_of}

-- every operator works by lawful rules
abbrev pub OperatorsAreLawful : Type 0
OperatorsAreLawful = (o : Operation) → IsLawfulCall (call_of o)

-- so what a schedule makes of a unit of which nothing faults is derived
abbrev pub SchedulesDerive : Type 0
SchedulesDerive =
    (unit : Program) (shown : ℕ) (requests : List Request) (v : Versions)
    → IsUnit unit
    → NothingFaults unit
    → HasRoom (started unit shown) (length requests)
    → run_acts (map act_of requests) (started unit shown) ≡ Done v
    → AreDerived v
