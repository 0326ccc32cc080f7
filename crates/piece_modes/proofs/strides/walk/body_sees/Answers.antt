use Rattle.std.proofs.Common.{length, ap, ◌∙◌}
use Rattle.exo_tree.specs.Tree.{block}
use Rattle.exo_tree.specs.PlainUnit.{program}
use Rattle.exo_modes.specs.Aliases.{roots_in}
use Rattle.piece_modes.specs.Strides.Seen.{block_sees}
use Rattle.piece_modes.proofs.strides.walk.body_sees.Goals as goal

pub returns : goal.returns
returns c =
    c.in_ok-found.ensures.sees
    ∙ ap (λ xs. block_sees (program c.args.above.now.unit.now) (length c.args.above.now.rows.now) (roots_in xs) (block c.args.body.now) c.args.y) c.new-aliases.ensures.items
