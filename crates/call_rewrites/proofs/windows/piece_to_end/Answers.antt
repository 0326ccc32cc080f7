use Rattle.std.proofs.Common.{ℕ, ◌+◌, ◌-◌, ap, sym, ◌∙◌}
use Rattle.exo_tree.specs.Places.{Path}
use Rattle.step_rules.specs.Rule.{Piece, Got}
use Rattle.step_driver.specs.PlainTarget.{target}
use Rattle.call_rewrites.proofs.Viewed.{some_to_end}
use Rattle.call_rewrites.proofs.windows.piece_to_end.Goals as goal

pub returns : goal.returns
returns c =
    let t = target c.args.on.now in
    let r = c.in-Some.rest in
    let n = c.len.result - r.from + 1 in
    let by_path : Path → Piece = λ p. record { path = p; count = n } in
    some_to_end t c.args.at.now r.block.now r.from n c.in-Some.ensures
    (ap (λ (m : ℕ). m - r.from + 1) c.len.ensures)
    ∙ ap (λ (p : Path). Got (by_path p)) (sym c.duplicate.ensures)
