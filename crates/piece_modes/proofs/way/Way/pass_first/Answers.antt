use Rattle.std.proofs.Common.{ap, sym, ◌∙◌}
use Rattle.exo_tree.specs.PlainStatement.{statement}
use Rattle.piece_modes.specs.Way.{passed}
use Rattle.piece_modes.specs.PlainWay.{plain_way}
use Rattle.piece_modes.proofs.Ways.{one_passed}
use Rattle.piece_modes.proofs.way.Way.pass_first.Goals as goal

pub loop-k-preserved : goal.loop-k-preserved
loop-k-preserved c =
    let s = statement c.statement.result.now in
    c.in_ok-pass.ensures ∙ ap (passed s) c.loop-k.invariant
    ∙ sym (one_passed c.args.b.now c.loop-k.k s _ (plain_way c.args.self.now) c.statement.ensures.value)
