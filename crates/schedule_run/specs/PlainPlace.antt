-- Places, statements in blocks and gaps in memory, as plain ones.
use Rattle.exo_tree.specs.PlainPlace.{branch_taken}
use Rattle.cursor_forward.specs.PlainCursor.{plain_cursor, plain_side}
use Rattle.schedule_laws.specs.Versions.Places as plain
use Rattle.schedule_laws.specs.Operators.Places as operators
use Rattle.schedule_run.specs.declared.cursors.Place.{Place}
use Rattle.schedule_run.specs.declared.placing.Within.{Within}
use Rattle.schedule_run.specs.declared.placing.Beside.{Beside}
use Rattle.schedule_run.specs.declared.placing.GapIn.{GapIn}

abbrev pub plain_place : Place → plain.Place
plain_place p = record { version = p.version.0; cursor = plain_cursor p.cursor }

abbrev pub plain_within : Within → operators.Within
plain_within w =
    record { around = w.around; branch = branch_taken w.branch; index = w.index }

abbrev pub plain_beside : Beside → operators.Beside
plain_beside b = record { path = b.path; side = plain_side b.side }

abbrev pub plain_gap : GapIn → operators.GapIn
plain_gap g = record { around = g.around; before = g.before }
