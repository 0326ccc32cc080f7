use Rattle.c_widths.proofs.Covered.{raises_cover}
use Rattle.c_widths.proofs.laws.raises_cover.Goals as goal

pub returns : goal.returns
returns c = raises_cover
