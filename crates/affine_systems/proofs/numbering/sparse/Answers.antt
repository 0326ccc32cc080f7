use Rattle.std.proofs.Common.{◌≡◌, ◌∙◌, ◌+◌, length, get_or, pos, arith, sym, ap, subst}
use Rattle.std.proofs.lemmas.Int.{to_z-of_z}
use Rattle.std.specs.Int.{w128}
use mir.Val.{to_z, of_z}
use Rattle.affine_systems.proofs.Sparse.{IsSparse, sparse_with, sparse_without, narrow_at, narrow_fits}
use Rattle.affine_systems.proofs.Sparse.{are_under, sparse_all, present}
use Rattle.affine_systems.proofs.numbering.sparse.Goals as goal

pub loop-k-preserved-then-c-eq0 : goal.loop-k-preserved-then-c-eq0
loop-k-preserved-then-c-eq0 c =
    let z = get_or c.args.coefficients.now c.loop-k.k (pos 0) in
    let f = narrow_fits z (narrow_at c.args.coefficients.now c.loop-k.k c.requires.narrow c.loop-k-test.true) in
    let zero : z ≡ pos 0 = sym (to_z-of_z w128 z f) ∙ ap (to_z w128) c.if-c-eq0.true in
    record { sparse = sparse_without c.loop-k.terms.items c.loop-k.k c.args.coefficients.now c.loop-k.invariant.sparse c.loop-k-test.true zero; inside = omega (arith, c.loop-k-test.true) }

pub new-requires-clause-narrow : goal.new-requires-clause-narrow
new-requires-clause-narrow c =
    let z = get_or c.args.coefficients.now c.loop-k.k (pos 0) in
    let n = narrow_at c.args.coefficients.now c.loop-k.k c.requires.narrow c.loop-k-test.true in
    rw (to_z-of_z w128 z (narrow_fits z n)) n

pub loop-k-preserved : goal.loop-k-preserved
loop-k-preserved c =
    let k = c.loop-k.k in
    let z = get_or c.args.coefficients.now k (pos 0) in
    let f = narrow_fits z (narrow_at c.args.coefficients.now k c.requires.narrow c.loop-k-test.true) in
    let coefficient = simp to_z-of_z at c.new.ensures.coefficient in
    record {
      sparse = subst (λ ts. IsSparse ts (k + 1) c.args.coefficients.now) (sym c.in_ok-push.ensures.items) (sparse_with c.loop-k.terms.items k c.args.coefficients.now c.new.result c.loop-k.invariant.sparse c.loop-k-test.true c.new.ensures.variable coefficient);
      inside = omega (arith, c.loop-k-test.true);
    }

pub new-requires-clause-present : goal.new-requires-clause-present
new-requires-clause-present c =
    let z = get_or c.args.coefficients.now c.loop-k.k (pos 0) in
    let n = narrow_at c.args.coefficients.now c.loop-k.k c.requires.narrow c.loop-k-test.true in
    rw (to_z-of_z w128 z (narrow_fits z n)) (present z (λ e. c.if-c-eq0.false (ap (of_z w128) e)))

pub returns-clause-value : goal.returns-clause-value
returns-clause-value c =
    let sparse = c.loop-k.invariant.sparse in
    let end : c.loop-k.k ≡ length c.args.coefficients.now = omega
    (arith, c.loop-k.invariant.inside, c.loop-k-test.false) in
    sparse_all c.loop-k.terms.items c.loop-k.k c.args.coefficients.now sparse end

pub returns-clause-below : goal.returns-clause-below
returns-clause-below c =
    let end : c.loop-k.k ≡ length c.args.coefficients.now = omega
    (arith, c.loop-k.invariant.inside, c.loop-k-test.false) in
    ap (λ n. are_under n c.loop-k.terms.items) (sym end) ∙ c.loop-k.invariant.sparse.under
