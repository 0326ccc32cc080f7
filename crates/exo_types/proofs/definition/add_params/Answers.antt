use Rattle.std.proofs.Common.{List, drop, map, ap, subst, ◌+◌, arith}
use Rattle.exo_reader.specs.Source.{Parameter}
use Rattle.exo_reader.specs.Views.{plain_parameter}
use Rattle.exo_types.proofs.Lists.{drop_read}
use Rattle.exo_types.proofs.Defining.{SoFar, so_first, so_on, room_for}
use Rattle.exo_types.proofs.definition.add_params.Goals as goal

pub loop-param-init : goal.loop-param-init
loop-param-init c = so_first c.args.context.now c.args.walk.now _ c.args.n _ _ c.requires.empty c.requires.room

pub loop-param-preserved : goal.loop-param-preserved
loop-param-preserved c =
    let context = c.args.context.now in
    let first = c.args.walk.now in
    let l = c.loop-param in
    let whole = map plain_parameter c.args.params.now in
    let p = plain_parameter c.param-item.result in
    let more = map plain_parameter (drop (l.param-index + 1) c.args.params.now) in
    let read = ap (map plain_parameter) (drop_read c.args.params.now l.param-index c.param-item.result c.param-item.is c.loop-param-test.true) in
    let step = c.in_ok-next.ensures in
    so_on context first l.walk c.add_param.new.walk l.made c.add_param.new.made c.args.n l.next _ whole p more step.made
    (subst (λ (r : List Parameter). SoFar context first l.walk l.made c.args.n l.next whole r) read l.invariant)
    step.one (ap (λ k. k + 1) step.ends) step.last

pub overflow_add-next : goal.overflow_add-next
overflow_add-next c =
    let context = c.args.context.now in
    let first = c.args.walk.now in
    let l = c.loop-param in
    let whole = map plain_parameter c.args.params.now in
    let p = plain_parameter c.param-item.result in
    let more = map plain_parameter (drop (l.param-index + 1) c.args.params.now) in
    let read = ap (map plain_parameter)
    (drop_read c.args.params.now l.param-index c.param-item.result c.param-item.is c.loop-param-test.true) in
    let room = room_for context first l.walk l.made c.args.n l.next whole p more c.requires.room
    (subst (λ (r : List Parameter). SoFar context first l.walk l.made c.args.n l.next whole r) read l.invariant) in
    omega (arith, room.tokens, room.few, c.in_ok-next.ensures.ends)
