use Rattle.std.proofs.Common.{◌∙◌, map}
use Rattle.exo_tree.specs.PlainControl.{control}
use Rattle.c_lowering.proofs.Offsets.{own_front}
use Rattle.c_lowering.proofs.numbers.own.Goals as goal

pub returns : goal.returns
returns c = c.front.ensures ∙ own_front (map control c.args.list.now) c.args.lanes c.if-lanes-eq0.false
