use Rattle.std.proofs.Common.{◌≡◌, drop}
use Rattle.exo_tree.specs.Tree.{block}
use Rattle.exo_tree.specs.Renaming.{binders}
use Rattle.call_rewrites.specs.Numbered.{with_ids}
use Rattle.call_rewrites.specs.PlainIds.{numbered}
use Rattle.call_rewrites.proofs.ids.NewIds.+binders.Given as goal

abbrev pub invariant-meet_block-loop-k : goal.invariant-meet_block-loop-k
invariant-meet_block-loop-k l =
    with_ids (binders (block (drop l.k l.b))) (numbered l.self)
    ≡ with_ids (binders (block l.b)) (numbered l.initial.self)
