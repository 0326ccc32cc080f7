use Rattle.std.proofs.Common.{ap, ◌∙◌}
use Rattle.exo_tree.specs.Tree.{block}
use Rattle.exo_tree.specs.Places.{opened}
use Rattle.exo_tree.specs.PlainProcedure.{procedure}
use Rattle.exo_modes.specs.Aliases.{roots_in}
use Rattle.buffer_laws.specs.StageMem.{roots_behind}
use Rattle.stage_rewrites.proofs.OfTested.Shaped.{used_same}
use Rattle.stage_rewrites.proofs.tested.staging.Staging.is_view_used.Goals as goal

pub returns : goal.returns
returns c =
    let b = block c.in_ok-block.block in
    let p = c.args.piece.now in
    let x = c.args.self.now.root.0 in
    let before = ap roots_in c.deref.ensures.value ∙ c.in_ok-aliases.ensures in
    c.is_mentioned_after.ensures
    ∙ used_same (opened p.count p.path (procedure c.args.on.now.proc.now).body) x b
    (roots_in c.deref-2.result.now) c.root-buffer.result
    c.in_ok-block.ensures
    (ap roots_in c.deref-2.ensures.value ∙ c.in_ok-pass_all.ensures
    ∙ ap (roots_behind b) c.in_ok-aliases.ensures)
    (c.root-buffer.ensures ∙ (λ i. before i x))
