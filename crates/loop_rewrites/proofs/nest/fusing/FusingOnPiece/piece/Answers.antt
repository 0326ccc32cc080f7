use Rattle.std.proofs.Common.{ap, ◌∙◌}
use Rattle.exo_tree.specs.Tree.{block}
use Rattle.exo_tree.specs.Places.{Path, opened}
use Rattle.loop_laws.specs.Nest.Fuse.{Two}
use Rattle.step_rules.specs.Rule.{Tried, Got, Piece}
use Rattle.step_driver.specs.PlainTarget.{target, plain_piece}
use Rattle.step_driver.specs.Spots.{or_nothing}
use Rattle.loop_rewrites.proofs.OfNest.Fused.{refused_at}
use Rattle.loop_rewrites.proofs.nest.fusing.FusingOnPiece.piece.Goals as goal

pub returns-in_err-fusable : goal.returns-in_err-fusable
returns-in_err-fusable c =
    let t = target c.args.on.now in
    let k : Two → Tried Piece = λ p. Got (record { path = c.args.at.now; count = 2 }) in
    refused_at (opened 2 c.args.at.now t.proc.body) k plain_piece (block c.in_ok-old.old) c.from_residual-in_err-fusable.result
    c.in_err-fusable.field-0.0 c.from_residual-in_err-fusable.ensures.1
    (c.in_ok-old.ensures ∙ ap (λ (p : Path). (or_nothing (opened 2 p t.proc.body)).piece) c.duplicate.ensures) c.in_err-fusable.ensures
