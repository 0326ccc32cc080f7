-- The plain forms of cursors.
use Rattle.cursor_forward.specs.Cursors as plain
use Rattle.cursor_forward.specs.declared.cursor.Side.{Side}
use Rattle.cursor_forward.specs.declared.cursor.Side.TheVariants.{Before, After}
use Rattle.cursor_forward.specs.declared.cursor.Cursor.{Cursor}
use Rattle.cursor_forward.specs.declared.cursor.Cursor.TheVariants.{Node, Block, Gap}
use Rattle.cursor_forward.specs.declared.moves.Ends.{Ends}

abbrev pub plain_side : Side → plain.Side
plain_side Before = plain.Before
plain_side After = plain.After

abbrev pub plain_cursor : Cursor → plain.Cursor
plain_cursor (Node path) = plain.Node path
plain_cursor (Block path count) = plain.Range path count
plain_cursor (Gap path side) = plain.Gap path (plain_side side)

abbrev pub plain_ends : Ends → plain.Ends
plain_ends e = record { first = e.first; last = e.last }
