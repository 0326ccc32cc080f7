use Rattle.std.proofs.Common.{refl, ap, ◌∙◌}
use Rattle.exo_tree.specs.Tree.{block}
use Rattle.exo_tree.specs.Places.{Path, opened}
use Rattle.tree_edits.specs.Made.Ids.{next_id}
use Rattle.loop_laws.specs.Nest.Fuse.{Two}
use Rattle.loop_laws.specs.JoinLoops.{joining}
use Rattle.step_rules.specs.Rule.{Tried, Got, Piece}
use Rattle.step_driver.specs.PlainTarget.{target, plain_piece}
use Rattle.step_driver.specs.Spots.{or_nothing}
use Rattle.loop_rewrites.proofs.Asked.{refused_found}
use Rattle.loop_rewrites.proofs.nest.joining.JoiningOnPiece.piece.Goals as goal

pub returns-in_err-joinable : goal.returns-in_err-joinable
returns-in_err-joinable c =
    let t = target c.args.on.now in
    let k : Two → Tried Piece = λ n. Got (record { path = c.args.at.now; count = 2 }) in
    refused_found (joining (next_id t.proc)) (opened 2 c.args.at.now t.proc.body) k plain_piece
    (block c.in_ok-old.old) c.from_residual-in_err-joinable.result c.in_err-joinable.field-0.0 refl
    c.from_residual-in_err-joinable.ensures.1
    (c.in_ok-old.ensures ∙ ap (λ (p : Path). (or_nothing (opened 2 p t.proc.body)).piece) c.duplicate.ensures)
    c.in_err-joinable.ensures
