use Rattle.std.proofs.Common.{◌≡◌, ◌∙◌, map, max, get_or, ap₂}
use Rattle.exo_tree.specs.PlainParam.{parameter, parameter_kind}
use Rattle.c_widths.specs.Widths.{most_of_param}
use Rattle.c_widths.specs.Raises.{most_from}
use Rattle.c_widths.proofs.Growing.{next_bound, all_bounds, nothing_left}
use Rattle.c_widths.proofs.procedures.bounds_of.Goals as goal

pub loop-i-preserved : goal.loop-i-preserved
loop-i-preserved c =
    let given = c.args.given.now in
    let greater : c.max.result
    ≡ max (most_of_param (parameter_kind c.index-params-i.result.kind)) (get_or given c.loop-i.i 0) =
    c.max.ensures ∙ ap₂ max c.most_of_param.ensures c.given_at.ensures in
    next_bound c.args.params.now (λ n. get_or given n 0) c.loop-i.i c.index-params-i.result c.loop-i.bounds.items c.push.new.self.items c.max.result (most_from (map parameter c.args.params.now) (λ n. get_or given n 0)) c.loop-i-test.true c.index-params-i.is greater c.in_ok-push.ensures.items c.loop-i.invariant

pub returns : goal.returns
returns c = all_bounds c.args.params.now (λ n. get_or c.args.given.now n 0) c.loop-i.i c.loop-i.bounds.items (most_from (map parameter c.args.params.now) (λ n. get_or c.args.given.now n 0)) (nothing_left c.loop-i.i c.args.params.now c.loop-i-test.false) c.loop-i.invariant
