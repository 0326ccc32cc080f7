use Rattle.std.proofs.Common.{◌++◌, map, length, arith, ap, sym, ◌∙◌}
use Rattle.std.proofs.lemmas.List.{take_all}
use Rattle.std.proofs.lemmas.Bool.{false≢true}
use Rattle.std.specs.List.{list_all}
use Rattle.affine_forms.specs.Affine.{Affine}
use Rattle.affine_prover.specs.RowSets.Rows.{combination, is_narrow_combination}
use Rattle.affine_prover.proofs.OfRowSets.Narrow.{none-kept}
use Rattle.affine_prover.proofs.OfRowSets.Filtering.{appended-next, all-fails}
use Rattle.affine_prover.proofs.row_sets.combine.combine_with.Goals as goal

pub returns-in-None : goal.returns-in-None
returns-in-None c =
    let wide = none-kept (is_narrow_combination c.args.v c.args.p.now c.q-item.result) (combination c.args.v c.args.p.now c.q-item.result) (sym c.in-None.is ∙ c.in_ok-row.ensures) in (
      sym (all-fails (is_narrow_combination c.args.v c.args.p.now) c.args.upper.now c.loop-q.q-index c.q-item.result (omega arith) c.q-item.is wide),
      λ t. absurd (false≢true t),
    )

pub loop-q-preserved : goal.loop-q-preserved
loop-q-preserved c =
    let both = appended-next (combination c.args.v c.args.p.now) (is_narrow_combination c.args.v c.args.p.now) c.args.upper.now c.loop-q.q-index c.q-item.result c.in-Some.row c.args.next.now.items c.loop-q.next.items c.push.new.self.items (omega arith) c.q-item.is (sym c.in-Some.is ∙ c.in_ok-row.ensures) c.loop-q.invariant.made c.loop-q.invariant.narrow c.in_ok-push-in-Some.ensures.items in
    record { made = both.0; narrow = both.1 }

pub returns : goal.returns
returns c =
    let whole = take_all c.loop-q.q-index c.args.upper.now c.loop-q-test.false in (
      sym (ap (list_all (is_narrow_combination c.args.v c.args.p.now)) (sym whole) ∙ c.loop-q.invariant.narrow),
      λ _. c.loop-q.invariant.made ∙ ap (λ qs. c.args.next.now.items ++ map (combination c.args.v c.args.p.now) qs)
          whole,
    )

pub combination-requires-clause-wide : goal.combination-requires-clause-wide
combination-requires-clause-wide c =
    sym (ap (λ (r : Affine). length r.coefficients) c.q-item.is
    ∙ c.requires.wide c.loop-q.q-index c.q-item.result c.loop-q-test.true)

pub combination-requires-clause-below : goal.combination-requires-clause-below
combination-requires-clause-below c = c.requires.below
