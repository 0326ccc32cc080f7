use Rattle.std.proofs.Common.{ℕ, length, ap, sym, ◌∙◌}
use Rattle.cursor_forward.specs.Shifts.{at_index}
use Rattle.step_rules.specs.Rule.{Got}
use Rattle.step_driver.proofs.Placed.{statements_of}
use Rattle.proc_rewrites.proofs.expressions.deleting.DeletingOnPiece.piece.Goals as goal

pub returns : goal.returns
returns c =
    ap (λ (n : ℕ). Got (record { path = at_index 0; count = n }))
    (ap length (statements_of c.args.on.now.proc.now.body) ∙ sym c.len-count.ensures)
    ∙ ap Got (sym c.first.ensures)
