use Rattle.std.proofs.Common.{◌+◌, option_map, ap, sym, ◌∙◌, arith}
use Rattle.text_expressions.specs.Views.{tree_of}
use Rattle.rules_names.specs.Faults.{charged, least}
use Rattle.rules_names.specs.Names.{field_in}
use Rattle.rules_names.specs.Tables.{found_field}
use Rattle.exo_types.specs.StatementRules.{write_faults}
use Rattle.exo_types.proofs.Broken.{exit, refuses_first, refuses_same, kept_none, kept_err}
use Rattle.exo_types.proofs.Plain.{configured}
use Rattle.exo_types.proofs.Walked.{put}
use Rattle.exo_types.proofs.statement.add_config.Goals as goal

pub returns-in_default : goal.returns-in_default
returns-in_default c =
    let fields = c.args.context.now.fields.now in
    let none = (λ i. field_in fields (sym c.as_str.ensures i) (sym c.as_str-2.ensures i)) ∙ sym c.get.ensures ∙ ap (option_map found_field) c.in_default.is in
    refuses_first _ _ _ (refuses_same _ _ _ (ap (λ o. least (write_faults fields o c.args.walk.now.scope c.args.n (c.args.n + 4) (tree_of c.args.e.now))) (sym none)) c.unknown_name.ensures)

pub returns-in_err-keep : goal.returns-in_err-keep
returns-in_err-keep c =
    let fields = c.args.context.now.fields.now in
    let found = (λ i. field_in fields (sym c.as_str.ensures i) (sym c.as_str-2.ensures i)) ∙ sym c.get.ensures ∙ ap (option_map found_field) c.in-Some.is in
    let own = c.test_kind-tested.ensures.charge ∙ ap (λ o. charged (write_faults fields o c.args.walk.now.scope c.args.n (c.args.n + 4) (tree_of c.args.e.now))) (sym found) in
    exit _ _ _ _ c.from_residual.ensures.1 (refuses_first _ _ _ (kept_err _ _ _ own c.in_err-keep.ensures))

pub returns : goal.returns
returns c =
    let fields = c.args.context.now.fields.now in
    let found = (λ i. field_in fields (sym c.as_str.ensures i) (sym c.as_str-2.ensures i)) ∙ sym c.get.ensures ∙ ap (option_map found_field) c.in-Some.is in
    let own = c.test_kind-tested.ensures.charge ∙ ap (λ o. charged (write_faults fields o c.args.walk.now.scope c.args.n (c.args.n + 4) (tree_of c.args.e.now))) (sym found) in
    put c.args.context.now c.args.walk.now c.args.walk.now _ _ _ c.args.n _ _
    (configured c.args.context.now c.args.walk.now c.args.n c.args.config.now c.args.field.now (tree_of c.args.e.now) _ _ found (kept_none _ _ own c.in_ok-keep.ensures) c.in_ok-value.ensures)
    c.in_ok-push.ensures.pushed (omega (arith, c.test_kind-tested.ensures.end))
