use Rattle.std.proofs.Common.{length}
use Rattle.affine_forms.proofs.row.+are_shares.Given as goal

abbrev pub decreases-are_shares : goal.decreases-are_shares
decreases-are_shares l = length l.shares.now
