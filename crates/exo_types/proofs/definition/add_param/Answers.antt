use Rattle.std.proofs.Common.{ap, ◌∙◌}
use Rattle.exo_tree.specs.PlainParam.{parameter_kind}
use Rattle.exo_reader.specs.Views.{plain_parameter}
use Rattle.rules_names.specs.Names.{named_in}
use Rattle.exo_types.proofs.Broken.{exit, kept_none, kept_err, is_free}
use Rattle.exo_types.proofs.Params.{is_param, put}
use Rattle.exo_types.proofs.definition.add_param.Goals as goal

pub returns-in_err-keep : goal.returns-in_err-keep
returns-in_err-keep c = exit _ _ _ _ c.from_residual.ensures.1 (kept_err _ _ _ c.test_param-end.ensures.charge c.in_err-keep.ensures)

pub bind-requires-clause-new : goal.bind-requires-clause-new
bind-requires-clause-new c =
    ap (named_in c.args.walk.now.scope) c.as_str.ensures
    ∙ is_free c.args.walk.now.scope c.args.n c.args.param.now.name _ (kept_none _ _ c.test_param-end.ensures.charge c.in_ok-keep.ensures)

pub returns : goal.returns
returns c =
    put c.args.context.now c.args.walk.now c.bind.new.self _ _ _ c.args.n _ _
    (is_param c.args.context.now c.args.walk.now c.bind.new.self c.args.n _ (plain_parameter c.args.param.now) c.as_str.result.now (parameter_kind c.in_ok-kind.kind) _
    (kept_none _ _ c.test_param-end.ensures.charge c.in_ok-keep.ensures)
    c.in_ok-binder.ensures.binder c.as_str.ensures c.in_ok-kind.ensures c.param_sort.ensures
    c.in_ok-binder.ensures.scope c.in_ok-binder.ensures.next c.in_ok-binder.ensures.aliases c.in_ok-binder.ensures.lines)
    c.in_ok-push.ensures.pushed c.test_param-end.ensures.end
