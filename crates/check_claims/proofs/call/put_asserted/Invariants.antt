-- The claims so far, and the other assertions.
use Rattle.std.proofs.Common.{◌≡◌, ◌++◌, drop, map}
use Rattle.exo_tree.specs.PlainControl.{condition}
use Rattle.text_show.specs.Seen.{words_in}
use Rattle.check_claims.specs.Claims.{asserted}
use Rattle.check_claims.proofs.call.put_asserted.Given as goal

abbrev pub invariant-loop-c : goal.invariant-loop-c
invariant-loop-c l =
    let f = asserted (words_in l.callee) l.passed.params.now l.passed.args.now in
    l.out ++ map f (map condition (drop l.c-index l.asserts)) ≡ l.initial.out ++ map f (map condition l.asserts)
