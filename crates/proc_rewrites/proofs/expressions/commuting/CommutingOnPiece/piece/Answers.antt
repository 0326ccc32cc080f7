use Rattle.std.proofs.Common.{refl, ap, sym, ◌∙◌}
use Rattle.exo_tree.specs.Tree.{end, next, block}
use Rattle.cursor_forward.specs.Search.PlainPattern.{plain_expr_pattern}
use Rattle.step_rules.specs.Rule.{Got, Piece}
use Rattle.step_rules.specs.Shapes.{tried}
use Rattle.proc_laws.specs.Expression.Commute.{commuted_alone}
use Rattle.step_driver.specs.PlainTarget.{target}
use Rattle.step_driver.specs.Spots.{spot_at}
use Rattle.proc_rewrites.proofs.OfExpressions.Commuted.{one_tried, found_again}
use Rattle.proc_rewrites.proofs.expressions.commuting.CommutingOnPiece.piece.Goals as goal

pub returns : goal.returns
returns c =
    let x = plain_expr_pattern c.args.self.now.pattern.now in
    let t = target c.args.on.now in
    let one : Piece = record { path = c.args.at.now; count = 1 } in
    let made =
    ap (λ (p : Piece). tried (commuted_alone x (spot_at t p).opened.piece) (λ a. next a end)) (sym c.one-piece.ensures)
    ∙ c.in_ok-commuted_block.ensures in
    one_tried (commuted_alone x) t c.args.at.now refl
    ∙ found_again (commuted_alone x (spot_at t one).opened.piece) (λ a. next a end) one (block c.in_ok-commuted_block.field-0) made
    ∙ ap Got (sym c.one-piece.ensures)
