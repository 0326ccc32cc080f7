use Rattle.std.proofs.Common.{◌≡◌, Bool, Some, if◌then◌else◌, ap, sym, ◌∙◌}
use Rattle.exo_tree.specs.Tree.{block}
use Rattle.exo_tree.specs.Places.{Path, opened}
use Rattle.cursor_forward.specs.Causes.{WrongShape}
use Rattle.step_rules.specs.Rule.{Piece, Got, Not}
use Rattle.step_driver.specs.PlainTarget.{target}
use Rattle.step_driver.specs.Spots.{or_nothing}
use Rattle.loop_rewrites.proofs.Specialized.{mentioned, piece_tried}
use Rattle.loop_rewrites.proofs.specializing.SpecializingOnPiece.piece.Goals as goal

pub returns : goal.returns
returns c =
    let t = target c.args.on.now in
    let n = c.args.self.now.count in
    let there = opened n c.args.at.now t.proc.body in
    let old = block c.in_ok-old.old in
    let piece : Piece = record { path = c.args.at.now; count = n } in
    let is : old ≡ (or_nothing there).piece =
    c.in_ok-old.ensures
    ∙ ap (λ (p : Path). (or_nothing (opened n p t.proc.body)).piece) c.duplicate.ensures in
    let used : Some c.in-Some.used ≡ mentioned old there =
    sym c.in-Some.is ∙ c.is_mentioned_after.ensures in
    piece_tried there old piece c.in-Some.used is used
    ∙ ap (λ (b : Bool). if b then Not WrongShape else Got piece) c.if-used.false
    ∙ ap (λ (p : Path). Got (record { path = p; count = n })) (sym c.duplicate.ensures)
