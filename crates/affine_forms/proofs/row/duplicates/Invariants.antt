use Rattle.std.proofs.Common.{◌≡◌, take}
use Rattle.affine_forms.specs.PlainTables.{plain_shares}
use Rattle.affine_forms.proofs.row.duplicates.Given as goal

abbrev pub invariant-loop-s : goal.invariant-loop-s
invariant-loop-s l = plain_shares l.made.items ≡ plain_shares (take l.s-index l.shares)
