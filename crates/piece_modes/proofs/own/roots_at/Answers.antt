use Rattle.std.proofs.Common.{ap, ◌∙◌}
use Rattle.exo_tree.specs.PlainProcedure.{procedure}
use Rattle.exo_tree.specs.Places.{opened}
use Rattle.piece_modes.specs.Way as plain
use Rattle.piece_modes.specs.Way.{at_start, around_of}
use Rattle.piece_modes.proofs.Outside.{led_roots}
use Rattle.piece_modes.proofs.own.roots_at.Goals as goal

pub returns : goal.returns
returns c =
    let p = procedure c.args.p.now in
    ap (λ (w : plain.Way). w.roots) c.in_ok-aliases.ensures
    ∙ led_roots (around_of (opened c.args.count c.args.path.now p.body)) (at_start p.params)
