use Rattle.std.proofs.Common.{ap, sym, ◌∙◌}
use Rattle.exo_tree.specs.PlainStatement.{statement}
use Rattle.exo_effects.specs.Parts.{passed}
use Rattle.exo_effects.specs.PlainParts.{parts_in}
use Rattle.exo_effects.proofs.Spots.{one_passed}
use Rattle.exo_effects.proofs.piece.pass_first.Goals as goal

pub loop-k-preserved : goal.loop-k-preserved
loop-k-preserved c =
    let s = statement c.statement.result.now in
    c.in_ok-pass.ensures ∙ ap (passed s) c.loop-k.invariant
    ∙ sym (one_passed c.args.b.now c.loop-k.k s _ (parts_in c.args.parts.now) c.statement.ensures.value)
