use Rattle.std.proofs.Common.{◌<◌, ◌≤◌, ◌+◌, length, refl, arith}
use Rattle.exo_tree.specs.PlainPlace.{step_taken}
use Rattle.exo_effects.specs.PlainParts.{parts_in}
use Rattle.exo_effects.specs.declared.piece.PieceStart.{PieceStart}
use Rattle.exo_effects.proofs.Spots.{last_missing, last_there}
use Rattle.exo_effects.proofs.piece.arrive.Goals as goal
use Rattle.exo_effects.proofs.piece.arrive.Goals.{then-from-len-via-then-from-len, then-from-len-via-else-from-len+then-count-len}

pub returns-then-from-len : goal.returns-then-from-len
returns-then-from-len c =
    let short : length c.args.b.now < c.args.step.index + c.args.count =
    elim c.then-from-len.branch [
      | then-from-len-via-then-from-len w ↦ omega (arith, w.if-from-len.true, c.len.ensures)
      | then-from-len-via-else-from-len+then-count-len w ↦
          omega (arith, w.if-from-len.false, w.if-count-len.true, c.len.ensures, w.len-else-from-len.ensures)
    ] in
    last_missing c.args.count (step_taken c.args.step) c.args.b.now short

pub returns : goal.returns
returns c =
    let spot : PieceStart = record { block = c.args.b; from = c.args.step.index } in
    let long : c.args.step.index + c.args.count ≤ length c.args.b.now =
    omega (arith, c.if-from-len.false, c.if-count-len.false, c.len.ensures, c.len-else-from-len.ensures) in
    last_there c.args.count (step_taken c.args.step) c.args.b.now spot
    (parts_in c.args.parts.now) (parts_in c.pass_first.new.parts) refl refl long c.in_ok-pass_first.ensures
