use Rattle.std.proofs.Common.{ap, ◌∙◌}
use Rattle.exo_tree.specs.PlainUnit.{program}
use Rattle.piece_modes.specs.Strides.Table.{word_at}
use Rattle.piece_modes.proofs.OfStrides.Rows.{word_is}
use Rattle.piece_modes.proofs.strides.table.stride_seen.Goals as goal

pub returns : goal.returns
returns c =
    c.get.ensures
    ∙ ap (λ rows. word_at rows c.args.p.0 c.args.param) c.requires
    ∙ word_is (program c.args.unit.now) c.args.p.0 c.args.param
