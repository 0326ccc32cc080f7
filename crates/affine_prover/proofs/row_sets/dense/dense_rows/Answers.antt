use Rattle.std.proofs.Common.{ap, sym, ◌∙◌, map, take, ◌++◌, ◌∷◌, []}
use Rattle.std.proofs.lemmas.List.{map_more, take_all}
use Rattle.affine_forms.specs.System.{plain_row}
use Rattle.affine_prover.proofs.row_sets.dense.dense_rows.Goals as goal

pub loop-row-preserved : goal.loop-row-preserved
loop-row-preserved c =
    let f = plain_row c.args.n in
    let rows = c.args.rows.now in
    c.in_ok-push_dense.ensures ∙ ap (λ ds. ds ++ f c.row-item.result ∷ []) c.loop-row.invariant
    ∙ ap (λ r. map f (take c.loop-row.row-index rows) ++ f r ∷ []) c.row-item.is
    ∙ sym (map_more f rows c.loop-row.row-index c.row-item.result c.loop-row-test.true)

pub returns : goal.returns
returns c = c.loop-row.invariant ∙ ap (map (plain_row c.args.n)) (take_all c.loop-row.row-index c.args.rows.now c.loop-row-test.false)
