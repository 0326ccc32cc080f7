-- What holds behind all lines of a schedule: names hold versions that are there.
use Rattle.std.specs.Prelude.{◌≡◌, ◌<◌, ℕ, List, length, Some}
use Rattle.exo_tree.specs.Tree.{Program}
use Rattle.schedule_laws.specs.Versions.Versions.{Versions, started, version_of}
use Rattle.schedule_laws.specs.Versions.Lines.{Act, Done, run_acts}

abbrev pub RunsHoldVersions : Type 0
RunsHoldVersions =
    (text : Program) (shown : ℕ) (acts : List Act) (v : Versions) (name : List ℕ) (k : ℕ)
    → run_acts acts (started text shown) ≡ Done v
    → version_of v name ≡ Some k
    → k < length v.unit.procedures
