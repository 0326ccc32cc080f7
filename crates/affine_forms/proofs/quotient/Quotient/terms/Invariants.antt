use Rattle.std.proofs.Common.{◌≡◌, drop}
use Rattle.affine_forms.specs.Tables.{sum_of}
use Rattle.affine_forms.specs.TermBounds.{joined_terms}
use Rattle.affine_forms.specs.PlainTables.{plain_shares}
use Rattle.affine_forms.proofs.quotient.Quotient.terms.Given as goal

abbrev pub invariant-loop-s : goal.invariant-loop-s
invariant-loop-s l = joined_terms l.made (sum_of l.self-inside.table.value (plain_shares (drop l.s-index l.s-items))) ≡ l.self.terms
