use Rattle.std.proofs.Common.{◌≡◌, map, take}
use Rattle.affine_forms.specs.Tables.{moved_share}
use Rattle.affine_forms.specs.PlainTables.{plain_share, plain_shares}
use Rattle.affine_forms.proofs.row.QuotientRow.moved.Given as goal

abbrev pub invariant-loop-s : goal.invariant-loop-s
invariant-loop-s l = plain_shares l.terms.items ≡ map (λ s. moved_share l.numbers (plain_share s)) (take l.s-index l.s-items)
