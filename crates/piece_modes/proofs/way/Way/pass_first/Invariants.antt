-- The names behind the first statements.
use Rattle.std.proofs.Common.{◌≡◌, take}
use Rattle.piece_modes.specs.Way.{passed_all}
use Rattle.piece_modes.specs.PlainWay.{plain_way}
use Rattle.piece_modes.proofs.way.Way.pass_first.Given as goal

abbrev pub invariant-loop-k : goal.invariant-loop-k
invariant-loop-k l = plain_way l.self ≡ passed_all (take l.k l.b) (plain_way l.initial.self)
