use Rattle.std.proofs.Common.{◌+◌, ◌∷◌, ◌++◌, [], ap, sym, ◌∙◌, map}
use Rattle.text_expressions.specs.Views.{tree_of}
use Rattle.rules_names.specs.Faults.{least}
use Rattle.rules_names.specs.Names.{id_in}
use Rattle.exo_types.proofs.Broken.{exit, refuses_first, refuses_same, kept_none, kept_err}
use Rattle.exo_types.proofs.Plain.{written, written_faults, written_width}
use Rattle.exo_types.proofs.Walked.{put}
use Rattle.exo_types.proofs.statement.add_store.Goals as goal

pub returns-in_err-keep : goal.returns-in_err-keep
returns-in_err-keep c =
    let own = ap least (written_faults c.args.context.now c.args.walk.now c.args.n c.args.reduces c.args.x.now (map tree_of c.args.dims.now) (tree_of c.args.e.now)) in
    exit _ _ _ _ c.from_residual.ensures.1 (refuses_first _ _ _ (refuses_same _ _ _ (sym own) (kept_err _ _ _ c.test_store-end.ensures.charge c.in_err-keep.ensures)))

pub returns : goal.returns
returns c =
    let walk = c.args.walk.now in
    let ds = map tree_of c.args.dims.now in
    let e = tree_of c.args.e.now in
    let own = ap least (written_faults c.args.context.now walk c.args.n c.args.reduces c.args.x.now ds e) in
    put c.args.context.now walk walk _ _ _ c.args.n _ _
    (written c.args.context.now walk c.args.n c.args.reduces c.args.x.now ds e _ _ _
    (own ∙ kept_none _ _ c.test_store-end.ensures.charge c.in_ok-keep.ensures)
    (c.id_in.ensures ∙ ap (id_in walk.scope) c.as_str.ensures) c.in_ok-indices.ensures c.in_ok-value.ensures)
    (c.in_ok-push.ensures.pushed ∙ ap (λ t. c.args.made.now ++ t ∷ []) c.stored.ensures)
    (c.test_store-end.ensures.end ∙ ap (λ k. c.args.n + k) (sym (written_width c.args.reduces c.args.x.now ds e)))
