use Rattle.std.proofs.Common.{◌++◌, slice_range, map, ap, ◌∙◌}
use Rattle.exo_tree.specs.PlainStatement.{statement}
use Rattle.exo_tree.proofs.Trees.{range_of_map}
use Rattle.exo_tree.proofs.block.Block.append_each.Goals as goal

pub returns : goal.returns
returns c =
    let part = ap (map (λ r. statement r.value)) c.deref.ensures.value ∙ c.list.ensures ∙ c.part.view_is in
    let range = range_of_map (λ r. statement r.value) c.deref.result.now c.args.from c.args.to c.loop-s.s-index c.loop-s-test.false in
    c.loop-s.invariant ∙ ap (λ ss. c.args.self.now ++ ss) (range ∙ ap (λ ss. slice_range ss c.args.from c.args.to) part)
