use Rattle.std.proofs.Common.{map, refl, ◌<◌, length, arith}
use Rattle.exo_tree.specs.PlainControl.{coordinate}
use Rattle.match_laws.specs.Inline.AtOnce.{put_coords}
use Rattle.tree_uses.proofs.Listed.{coords_at, coords_span, nothing}
use Rattle.tree_uses.proofs.puts.+put_coords.Goals as goal

pub returns-in-None : goal.returns-in-None
returns-in-None g t c =
    let put = g.P.Puts.put c.args.puts.now in
    nothing (λ cs. put_coords put (map coordinate cs)) c.args.at.now c.args.made.now c.in-None.ensures.cases refl

pub returns-in_ok-push-in-Some-At-default : goal.returns-in_ok-push-in-Some-At-default
returns-in_ok-push-in-Some-At-default g t c =
    let put = g.P.Puts.put c.args.puts.now in
    coords_at c.put_coords.result put c.args.at.now c.in-Some-At-default.rest.now c.in-Some-At-default.field-0-0.now
    c.in-Some-At-default.a c.in_ok-put_control-in-Some-At-default.field-0
    c.put_coords.new.made c.push.new.self c.args.made.now c.in-Some-At-default.ensures.cases.0
    c.in-Some-At-default.field-0-0-is
    c.in_ok-put_control-in-Some-At-default.ensures c.in_ok-push-in-Some-At-default.ensures.pushed c.put_coords.ensures

pub returns-in_ok-push-in-Some-Span-default : goal.returns-in_ok-push-in-Some-Span-default
returns-in_ok-push-in-Some-Span-default g t c =
    let put = g.P.Puts.put c.args.puts.now in
    coords_span c.put_coords-in-Some-Span-default.result put c.args.at.now c.in-Some-Span-default.rest.now
    c.in-Some-Span-default.field-0-0.now c.in-Some-Span-default.a c.in-Some-Span-default.b
    c.in_ok-low-in-Some-Span-default.low
    c.in_ok-put_control-in-Some-Span-default.field-0 c.put_coords-in-Some-Span-default.new.made
    c.push-in-Some-Span-default.new.self c.args.made.now c.in-Some-Span-default.ensures.cases.0
    c.in-Some-Span-default.field-0-0-is
    c.in_ok-low-in-Some-Span-default.ensures c.in_ok-put_control-in-Some-Span-default.ensures
    c.in_ok-push-in-Some-Span-default.ensures.pushed c.put_coords-in-Some-Span-default.ensures

pub put_coords-requires : goal.put_coords-requires
put_coords-requires g t c =
    let less : length c.in-Some-At-default.rest.now < t = omega
    (arith, c.decreases, c.in-Some-At-default.ensures.cases.1) in
    λ κs h. (less, h)

pub put_coords-requires-in-Some-Span-default : goal.put_coords-requires-in-Some-Span-default
put_coords-requires-in-Some-Span-default g t c =
    let less : length c.in-Some-Span-default.rest.now < t = omega
    (arith, c.decreases, c.in-Some-Span-default.ensures.cases.1) in
    λ κs h. (less, h)
