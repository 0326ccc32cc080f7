-- What calls answer where a rule says it.
pub use Rattle.step_driver.specs.Needs.Outcomes.{RefusedBy, Tries, IsCause, Refuses}
use Rattle.std.specs.Prelude.{◌≡◌, true}
use Rattle.exo_meaning.specs.Inputs.{Refines}
use Rattle.exo_meaning.specs.Run.{program_world}
use Rattle.exo_meaning.specs.Units.{IsUnit}
use Rattle.tree_laws.specs.Findings.Versions.{has_room, with_version}
use Rattle.cursor_forward.specs.Forwards.{Forwards}
use Rattle.cursor_forward.specs.Shifts.{move_of}
use Rattle.cursor_forward.specs.Proposals.{Plan}
use Rattle.config_laws.specs.Differing.{VersionsStand}
use Rattle.step_rules.specs.Rule.{Target}
use Rattle.step_rules.specs.Owing.{AreShown}
use Rattle.step_rules.specs.Lawful.{differ_at_end}

-- ---- what is known of a proposal

-- it may stand behind the procedures of the unit
abbrev pub IsKept : Target → Plan → Type 0
IsKept t m = has_room t.unit ≡ true → IsUnit (with_version t.unit m.proc)

-- where the unit's procedures refine those that they were made from and all that is owed is shown,
-- the procedure is refined by the result, but for the fields that may differ
abbrev pub KeepsMeaning : Target → Plan → Type 0
KeepsMeaning t m =
    VersionsStand t.unit t.origins
    → AreShown m.must
    → Refines (program_world t.unit) t.proc m.proc
    (differ_at_end t m.proc.body m.place m.side m.fields)

-- its statements go to statements of their kinds, and no two to one place
abbrev pub Moves : Target → Plan → Type 0
Moves t m = Forwards (move_of m.edits) t.proc m.proc
