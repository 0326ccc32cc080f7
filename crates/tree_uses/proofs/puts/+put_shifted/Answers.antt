use Rattle.std.proofs.Common.{map, ◌<◌, length, arith}
use Rattle.exo_tree.specs.PlainControl.{control, coordinate}
use Rattle.inplace_laws.specs.Windows.{shifted}
use Rattle.match_laws.specs.Inline.AtOnce.{put_controls}
use Rattle.tree_uses.proofs.Listed.{shifted_at, shifted_span, none_shifted, unshifted}
use Rattle.tree_uses.proofs.puts.+put_shifted.Goals as goal

pub returns-in-None : goal.returns-in-None
returns-in-None g t c =
    let put = g.P.Puts.put c.args.puts.now in
    unshifted c.put_controls.result (λ cs. shifted (map coordinate cs) (put_controls put (map control c.args.at.now)))
    c.args.coords.now
    c.put_controls.new.made c.args.made.now c.in-None.ensures.cases c.put_controls.ensures

pub returns-in-None-split_first : goal.returns-in-None-split_first
returns-in-None-split_first g t c =
    let put = g.P.Puts.put c.args.puts.now in
    none_shifted put c.args.coords.now c.in-Some-Span-default.rest.now c.in-Some-Span-default.field-0-0.now
    c.in-Some-Span-default.a c.in-Some-Span-default.field-0-0-1 c.args.at.now c.args.made.now
    c.in-Some-Span-default.ensures.cases.0 c.in-Some-Span-default.field-0-0-is c.in-None-split_first.ensures.cases

pub returns-in_ok-push-in-Some-At-default : goal.returns-in_ok-push-in-Some-At-default
returns-in_ok-push-in-Some-At-default g t c =
    let put = g.P.Puts.put c.args.puts.now in
    shifted_at c.put_shifted.result c.args.coords.now c.in-Some-At-default.rest.now c.in-Some-At-default.field-0-0.now
    c.in-Some-At-default.a c.in_ok-duplicate-in-Some-At-default.field-0
    (put_controls put (map control c.args.at.now)) c.put_shifted.new.made c.push.new.self c.args.made.now
    c.in-Some-At-default.ensures.cases.0 c.in-Some-At-default.field-0-0-is
    c.in_ok-duplicate-in-Some-At-default.ensures c.in_ok-push-in-Some-At-default.ensures.pushed c.put_shifted.ensures

pub returns-in_ok-push-in-Some : goal.returns-in_ok-push-in-Some
returns-in_ok-push-in-Some g t c =
    let put = g.P.Puts.put c.args.puts.now in
    shifted_span c.put_shifted-in-Some.result put c.args.coords.now c.in-Some-Span-default.rest.now
    c.in-Some-Span-default.field-0-0.now c.in-Some-Span-default.a c.in-Some-Span-default.field-0-0-1
    c.in-Some-Span-default.ensures.cases.0 c.in-Some-Span-default.field-0-0-is
    c.args.at.now c.in-Some.more.now c.in-Some.i.now c.in_ok-sum-in-Some.field-0 c.put_shifted-in-Some.new.made
    c.push-in-Some.new.self c.args.made.now c.in-Some.ensures.cases.0 c.in_ok-sum-in-Some.ensures
    c.in_ok-push-in-Some.ensures.pushed c.put_shifted-in-Some.ensures

pub put_shifted-requires : goal.put_shifted-requires
put_shifted-requires g t c =
    let less : length c.in-Some-At-default.rest.now < t = omega
    (arith, c.decreases, c.in-Some-At-default.ensures.cases.1) in
    λ κs h. (less, h)

pub put_shifted-requires-in-Some : goal.put_shifted-requires-in-Some
put_shifted-requires-in-Some g t c =
    let less : length c.in-Some-Span-default.rest.now < t = omega
    (arith, c.decreases, c.in-Some-Span-default.ensures.cases.1) in
    λ κs h. (less, h)
