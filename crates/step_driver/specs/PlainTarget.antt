-- The plain forms of targets and pieces.
use Rattle.std.specs.Prelude.{map}
use Rattle.exo_tree.specs.PlainProcedure.{procedure}
use Rattle.exo_tree.specs.PlainUnit.{program}
use Rattle.config_live.specs.Origins.{origin}
use Rattle.step_rules.specs.Rule as rule
use Rattle.step_driver.specs.declared.target.Target.{Target}
use Rattle.step_driver.specs.declared.target.Piece.{Piece}

abbrev pub target : Target → rule.Target
target t = record {
  unit = program t.unit.now;
  origins = map origin t.origins.now;
  number = t.number.0;
  proc = procedure t.proc.now;
}

abbrev pub plain_piece : Piece → rule.Piece
plain_piece p = record { path = p.path; count = p.count }
