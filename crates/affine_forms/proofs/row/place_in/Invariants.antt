use Rattle.std.proofs.Common.{◌≡◌, ◌≤◌, ◌++◌, take, drop, length, option_map}
use Rattle.affine_forms.specs.Tables.{share_taken}
use Rattle.affine_forms.specs.PlainTables.{plain_share, plain_shares}
use Rattle.affine_forms.proofs.row.place_in.Given as goal

abbrev pub invariant-loop-k : goal.invariant-loop-k
invariant-loop-k l = record {
  taken : share_taken l.lines (plain_share l.s) (plain_shares l.shares) ≡ option_map (λ us. take l.k (plain_shares l.shares) ++ us) (share_taken l.lines (plain_share l.s) (drop l.k (plain_shares l.shares)));
  inside : l.k ≤ length l.shares;
}
