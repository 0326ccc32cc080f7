use Rattle.std.proofs.Common.{ap, sym, ◌∙◌}
use Rattle.affine_prover.specs.RowSets.Rows.{gcd}
use Rattle.affine_prover.proofs.OfRowSets.Divisors.{gcd-zero, gcd-mod}
use Rattle.affine_prover.proofs.row_sets.number.+wide_gcd.Goals as goal

pub returns-then-b-eq0 : goal.returns-then-b-eq0
returns-then-b-eq0 t c = sym (gcd-zero c.args.a) ∙ ap (gcd c.args.a) (sym c.if-b-eq0.true)

pub returns-else-a-lt-WORD : goal.returns-else-a-lt-WORD
returns-else-a-lt-WORD t c = c.wide_gcd.ensures ∙ gcd-mod c.args.a c.args.b
