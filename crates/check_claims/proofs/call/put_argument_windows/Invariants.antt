-- The claims so far, and those of the other arguments.
use Rattle.std.proofs.Common.{◌≡◌, ◌++◌, drop, map, flat_map}
use Rattle.exo_tree.specs.PlainArgument.{argument}
use Rattle.text_show.specs.Seen.{words_in}
use Rattle.check_claims.specs.Claims.{argument_window}
use Rattle.check_claims.specs.Seen.{extents_in}
use Rattle.check_claims.proofs.call.put_argument_windows.Given as goal

abbrev pub invariant-loop-a : goal.invariant-loop-a
invariant-loop-a l =
    let f = argument_window (words_in l.site.words.now) (extents_in l.site.extents.now) in
    l.out ++ flat_map f (map argument (drop l.a-index l.args)) ≡ l.initial.out ++ flat_map f (map argument l.args)
