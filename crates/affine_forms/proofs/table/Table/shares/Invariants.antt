use Rattle.std.proofs.Common.{◌≡◌, true, length, take}
use Rattle.affine_forms.specs.Tables.{Extends, are_earlier, sum_of}
use Rattle.affine_forms.specs.PlainAtoms.{plain_terms}
use Rattle.affine_forms.specs.PlainTables.{plain_shares}
use Rattle.affine_forms.proofs.table.Table.shares.Given as goal

abbrev pub invariant-loop-w : goal.invariant-loop-w
invariant-loop-w l = record {
  grown : Extends l.fn.self l.self;
  earlier : are_earlier (length l.self) (plain_shares l.made.items) ≡ true;
  value : sum_of l.self (plain_shares l.made.items) ≡ plain_terms (take l.w-index l.w-items);
}
