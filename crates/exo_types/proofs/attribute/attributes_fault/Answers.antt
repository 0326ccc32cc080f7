use Rattle.std.proofs.Common.{◌+◌, ap, sym, ◌∙◌, arith}
use Rattle.exo_types.proofs.Attributes.{stops, goes_on, width_read}
use Rattle.exo_types.proofs.attribute.attributes_fault.Goals as goal

pub returns-then-is_some-clause-fault : goal.returns-then-is_some-clause-fault
returns-then-is_some-clause-fault c =
    stops c.args.attributes.now _ c.loop-k.k c.loop-k.next c.index-attributes-k.result c.in_ok-own.own _ (grind arith) c.index-attributes-k.is c.loop-k-test.true c.in_ok-own.ensures (sym c.is_some.ensures ∙ c.if-is_some.true) c.loop-k.invariant.left

pub loop-k-preserved : goal.loop-k-preserved
loop-k-preserved c =
    let w = width_read c.args.attributes.now c.loop-k.k c.index-attributes-k.result c.index-attributes-k.is c.loop-k-test.true in
    record {
      count = omega (arith, w, c.loop-k.invariant.count, c.width-next.ensures);
      left = goes_on c.args.attributes.now _ c.loop-k.k c.loop-k.next (c.loop-k.next + c.width-next.result) c.index-attributes-k.result c.in_ok-own.own _ (grind arith) c.index-attributes-k.is c.loop-k-test.true c.in_ok-own.ensures (sym c.is_some.ensures ∙ c.if-is_some.false) (ap (λ k. c.loop-k.next + k) c.width-next.ensures) c.loop-k.invariant.left;
    }

pub overflow_add-next : goal.overflow_add-next
overflow_add-next c =
    let w = width_read c.args.attributes.now c.loop-k.k c.index-attributes-k.result c.index-attributes-k.is
    c.loop-k-test.true in
    omega (arith, w, c.loop-k.invariant.count, c.width-next.ensures, c.requires)
