use Rattle.std.proofs.Common.{◌≡◌, ◌++◌, ◌∷◌, [], length, sym, ap, ap₂, ◌∙◌, arith}
use Rattle.field_rewrites.proofs.Named.{next_argument, all_arguments, many}
use Rattle.field_rewrites.proofs.arguments.with_field.Goals as goal

pub loop-k-preserved : goal.loop-k-preserved
loop-k-preserved c =
    let items = c.as_slice-a-items.result.now in
    let as_many : length items ≡ length c.args.args.now =
    sym (many items) ∙ ap length c.as_slice-a-items.ensures in
    record {
      made =
          c.in_ok-push.ensures.pushed
          ∙ ap₂ (λ m b. m ++ b ∷ []) c.loop-k.invariant.made c.in_ok-field_or.ensures
          ∙ sym (next_argument c.args.f.0 c.args.index items c.args.args.now c.loop-k.k c.a-item.result
          c.as_slice-a-items.ensures c.a-item.is c.loop-k-test.true);
      inside = let h = c.loop-k-test.true in omega (arith, h, as_many);
    }

pub returns : goal.returns
returns c =
    let items = c.as_slice-a-items.result.now in
    let as_many : length items ≡ length c.args.args.now =
    sym (many items) ∙ ap length c.as_slice-a-items.ensures in
    c.loop-k.invariant.made
    ∙ all_arguments c.args.f.0 c.args.index c.args.args.now c.loop-k.k
    (let h = c.loop-k-test.false in let l = c.loop-k.invariant.inside in omega (arith, h, l, as_many))
