use Rattle.std.proofs.Common.{map, arith}
use Rattle.std.proofs.lemmas.Grind.{common_steps}
use Rattle.block_matches.specs.Pairs.PlainPair.{plain_pair}
use Rattle.block_matches.specs.PlainUse.{plain_use}
use Rattle.block_matches.proofs.Accesses.{uses_one, uses_all}
use Rattle.block_matches.proofs.uses.uses_of.Goals as goal
use Rattle.block_matches.proofs.uses.uses_of.Goals.{in-Some+in_ok-push, in_default}

pub loop-pair-preserved : goal.loop-pair-preserved
loop-pair-preserved c =
    elim c.match-use_in.branch [
      | in-Some+in_ok-push w ↦ grind (arith, common_steps, uses_one, w.in-Some.ensures)
      | in_default w ↦ grind (arith, common_steps, uses_one, w.in_default.ensures)
    ]

pub returns : goal.returns
returns c =
    uses_all plain_pair c.args.x.0 c.args.pairs.now c.loop-pair.pair-index (map plain_use c.loop-pair.uses.items)
    c.loop-pair-test.false c.loop-pair.invariant
