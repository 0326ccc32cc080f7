use Rattle.std.proofs.Common.{map, ap}
use Rattle.block_matches.specs.PlainUse.{plain_use}
use Rattle.block_matches.proofs.Named.{named_more}
use Rattle.block_matches.proofs.arguments.+all_of_name.Goals as goal

pub returns-then-u-y : goal.returns-then-u-y
returns-then-u-y t c at m bound =
    named_more at m bound c.args.y.0 (plain_use c.in-Some.u.now)
    (map plain_use c.in-Some.later.now) (map plain_use c.args.uses.now) c.all_of_name.result
    (ap (map plain_use) c.in-Some.ensures.cases.0) c.if-u-y.true (c.all_of_name.ensures at m bound)
