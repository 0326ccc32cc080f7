use Rattle.std.proofs.Common.{◌≡◌, ap, sym, ◌∙◌}
use Rattle.exo_tree.specs.Places.{opened}
use Rattle.loop_laws.specs.UnrollLoop.{Unrolling, unrolling}
use Rattle.step_rules.specs.Rule.{Tried, Got, Piece}
use Rattle.step_driver.specs.PlainTarget.{target}
use Rattle.step_driver.specs.Spots.{spot_at}
use Rattle.loop_rewrites.specs.PlainTurns.{plain_turns}
use Rattle.loop_rewrites.proofs.Unrolled.{unrolled_at, then_got}
use Rattle.loop_rewrites.proofs.unrolling.UnrollingOnPiece.piece.Goals as goal

pub returns : goal.returns
returns c =
    let t = target c.args.on.now in
    let one : Piece = record { path = c.args.at.now; count = 1 } in
    let k : Unrolling → Tried Piece = λ u. Got one in
    let found : unrolling (spot_at t one).opened.piece ≡ Got (plain_turns c.in_ok-turns_at.field-0) =
    ap (λ (p : Piece). unrolling (spot_at t p).opened.piece) (sym c.one-piece.ensures)
    ∙ c.in_ok-turns_at.ensures in
    unrolled_at (opened 1 c.args.at.now t.proc.body) k
    ∙ then_got (unrolling (spot_at t one).opened.piece) k (plain_turns c.in_ok-turns_at.field-0) found
    ∙ ap Got (sym c.one-piece.ensures)
