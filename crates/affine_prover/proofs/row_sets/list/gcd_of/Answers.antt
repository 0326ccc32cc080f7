use Rattle.std.proofs.Common.{arith, rules, ap, sym, ◌∙◌, get_or, take, pos}
use Rattle.std.proofs.lemmas.Int.{to_z-of_z}
use Rattle.std.specs.Int.{w128}
use Rattle.std.specs.Int.RustNames.{FitsSigned}
use Rattle.affine_prover.specs.RowSets.Rows.{gcd, gcd_of}
use Rattle.affine_prover.proofs.OfRowSets.Lists.{gcd_of-stuck, gcd_of-more}
use Rattle.affine_prover.proofs.row_sets.list.gcd_of.Goals as goal

pub returns-then-g-eq1 : goal.returns-then-g-eq1
returns-then-g-eq1 c =
    let fx : FitsSigned w128 (get_or c.args.cs.now c.loop-c.c-index (pos 0)) = search rules in
    let h = simp to_z-of_z at c.unsigned_abs.ensures.value in
    gcd_of-stuck c.args.cs.now c.loop-c.c-index (omega arith)
    (ap (λ a. gcd a (gcd_of (take c.loop-c.c-index c.args.cs.now))) (sym h) ∙ ap (λ b. gcd c.unsigned_abs.result b) (sym c.loop-c.invariant) ∙ sym c.gcd-g.ensures.value ∙ c.if-g-eq1.true)

pub loop-c-preserved : goal.loop-c-preserved
loop-c-preserved c =
    let fx : FitsSigned w128 (get_or c.args.cs.now c.loop-c.c-index (pos 0)) = search rules in
    let h = simp to_z-of_z at c.unsigned_abs.ensures.value in
    c.gcd-g.ensures.value ∙ ap (λ a. gcd a c.loop-c.g) h
    ∙ gcd_of-more c.args.cs.now c.loop-c.c-index c.loop-c.g (omega arith) c.loop-c.invariant
