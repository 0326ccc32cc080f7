use Rattle.tree_uses.proofs.IsPut.{putting_fits}
use Rattle.tree_uses.proofs.laws.what_is_put_fits.Goals as goal

pub returns : goal.returns
returns c = putting_fits
