use Rattle.std.proofs.Common.{◌∙◌, arith}
use Rattle.c_tree.specs.Names.Binders.{name_in}
use Rattle.c_lowering.proofs.Offsets.{window_stride_is, no_window_stride}
use Rattle.c_lowering.proofs.numbers.window_stride.Goals as goal

pub returns-then-k-rank : goal.returns-then-k-rank
returns-then-k-rank c = no_window_stride (name_in c.args.names.now.binders.now c.args.w.0) c.args.rank c.args.k c.if-k-rank.true

pub returns : goal.returns
returns c = c.in_ok-stride.ensures ∙ window_stride_is (name_in c.args.names.now.binders.now c.args.w.0) c.args.rank c.args.k (omega (arith, c.if-k-rank.false))
