-- What follows for all rules.
use Rattle.std.specs.Prelude.{◌≡◌, true, List}
use Rattle.exo_tree.specs.Places.{Path}
use Rattle.exo_meaning.specs.Inputs.{Refines}
use Rattle.exo_meaning.specs.Run.{program_world}
use Rattle.exo_meaning.specs.Orders.{Each}
use Rattle.affine_systems.specs.Outcomes.{Owed}
use Rattle.exo_meaning.specs.Units.{IsUnit}
use Rattle.tree_findings.specs.Classes.{all_kept}
use Rattle.tree_laws.specs.Findings.Versions.{has_room, with_version}
use Rattle.cursor_forward.specs.Forwards.{Forwards}
use Rattle.cursor_forward.specs.Shifts.{move_of}
use Rattle.cursor_forward.specs.Proposals.{Plan}
use Rattle.config_laws.specs.Differing.{VersionsStand}
use Rattle.step_rules.specs.Rule.{Target, Need, Got, Rule}
use Rattle.step_rules.specs.Owing.{AreShown, shape_alone, owed_needs, findings_of_needs}
use Rattle.step_rules.specs.Answer.{proposed}
use Rattle.step_rules.specs.Lawful.{IsMet, IsTarget, MayRunIn, differ_at_end, IsLawful, IsCarrying}

-- needs that break no rule, over names in scope, are met where nothing that is owed for them has an
-- integer point
abbrev pub NeedsHold : Type 0
NeedsHold =
    (t : Target) (needs : List Need) (must : List Owed)
    → MayRunIn t t.proc
    → all_kept (shape_alone (findings_of_needs t needs)) ≡ true
    → owed_needs t needs ≡ Got must
    → AreShown must
    → Each (IsMet t) needs

-- what any rule proposes may stand behind the procedures of the unit
abbrev pub KeptLaw : Type 0
KeptLaw =
    (r : Rule) (t : Target) (at : Path) (m : Plan)
    → IsTarget t
    → has_room t.unit ≡ true
    → proposed r t at ≡ Got m
    → IsUnit (with_version t.unit m.proc)

-- where a lawful rule proposes something and what it owes is shown, the procedure is refined by the
-- result but for the fields that may differ from the point on and are not written again
abbrev pub MeaningLaw : Type 0
MeaningLaw =
    (r : Rule) (t : Target) (at : Path) (m : Plan)
    → IsLawful r
    → IsTarget t
    → VersionsStand t.unit t.origins
    → proposed r t at ≡ Got m
    → AreShown m.must
    → Refines (program_world t.unit) t.proc m.proc
    (differ_at_end t m.proc.body m.place m.side m.fields)

-- what a carrying rule proposes takes the statements of the procedure to statements of their kinds, and no two to one place
abbrev pub ForwardsLaw : Type 0
ForwardsLaw =
    (r : Rule) (t : Target) (at : Path) (m : Plan)
    → IsCarrying r
    → IsTarget t
    → proposed r t at ≡ Got m
    → Forwards (move_of m.edits) t.proc m.proc
