use Rattle.std.proofs.Common.{arith, ap, sym, ◌∙◌}
use Rattle.affine_prover.specs.RowSets.Rows.{gcd}
use Rattle.affine_prover.proofs.OfRowSets.Divisors.{gcd-positive, zero-gcd}
use Rattle.affine_prover.proofs.row_sets.number.gcd.Goals as goal

pub returns-then-a-eq0-clause-value : goal.returns-then-a-eq0-clause-value
returns-then-a-eq0-clause-value c = sym (zero-gcd c.args.b) ∙ ap (λ a. gcd a c.args.b) (sym c.if-a-eq0.true)

pub returns-else-a-eq0-clause-positive : goal.returns-else-a-eq0-clause-positive
returns-else-a-eq0-clause-positive c = λ h. omega (arith, c.wide_gcd.ensures, gcd-positive c.args.a c.args.b h)
