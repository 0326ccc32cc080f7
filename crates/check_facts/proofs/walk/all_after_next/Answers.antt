use Rattle.std.proofs.Common.{arith}
use Rattle.exo_tree.specs.PlainPlace.{branch_taken}
use Rattle.exo_tree.specs.PlainStatement.{statement}
use Rattle.exo_meaning.specs.Units.{step_levels}
use Rattle.check_facts.proofs.Rooms.{room_inside}
use Rattle.check_facts.proofs.walk.all_after_next.Goals as goal

pub path_in-path-requires-clause-room : goal.path_in-path-requires-clause-room
path_in-path-requires-clause-room c = let r = c.requires.room in omega arith

pub all_after-requires-clause-room : goal.all_after-requires-clause-room
all_after-requires-clause-room c =
    room_inside c.args.outer.now c.path_in-path.result (branch_taken c.args.branch) c.args.k
    (step_levels (statement c.args.s.now)) c.path_in-path.ensures c.requires.room
