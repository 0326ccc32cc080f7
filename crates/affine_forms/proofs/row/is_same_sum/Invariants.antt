use Rattle.std.proofs.Common.{◌≡◌, drop}
use Rattle.affine_forms.specs.Tables.{known_sum}
use Rattle.affine_forms.specs.PlainTables.{plain_shares}
use Rattle.affine_forms.proofs.row.is_same_sum.Given as goal

abbrev pub invariant-loop-s : goal.invariant-loop-s
invariant-loop-s l = known_sum l.lines (plain_shares l.shares) (plain_shares l.others) ≡ known_sum l.lines (plain_shares (drop l.s-index l.shares)) (plain_shares l.left.items)
