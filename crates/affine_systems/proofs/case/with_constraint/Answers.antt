use Rattle.std.proofs.Common.{◌≡◌, ◌∙◌, ap, arith, length}
use Rattle.affine_systems.specs.PlainCases.{plain_constraint, plain_cases}
use Rattle.affine_systems.proofs.Products.{behind, behind_all}
use Rattle.affine_systems.proofs.CaseLists.{pushed_behind, plain_length, set_length}
use Rattle.affine_systems.proofs.case.with_constraint.Goals as goal

pub loop-k-preserved : goal.loop-k-preserved
loop-k-preserved c = record {
  done = pushed_behind c.loop-k.cases.items c.loop-k.k c.index_mut.result.now c.push.new.self c.args.c (plain_cases c.args.cases.items) (omega (arith, c.loop-k-test.true, c.loop-k.invariant.len, c.len-k-end.ensures)) c.index_mut.ensures.value c.in_ok-push.ensures.items c.loop-k.invariant.done (omega (arith, c.loop-k-test.true, plain_length c.args.cases.items, c.len-k-end.ensures));
  len = set_length c.loop-k.cases.items c.loop-k.k c.push.new.self ∙ c.loop-k.invariant.len;
  inside = omega (arith, c.loop-k-test.true, c.len-k-end.ensures);
}

pub returns : goal.returns
returns c =
    let end : c.loop-k.k ≡ length (plain_cases c.args.cases.items) = omega (arith, c.loop-k-test.false, c.loop-k.invariant.inside, c.len-k-end.ensures, plain_length c.args.cases.items) in
    c.loop-k.invariant.done ∙ ap (λ n. behind n (plain_constraint c.args.c) (plain_cases c.args.cases.items)) end ∙ behind_all (plain_cases c.args.cases.items) (plain_constraint c.args.c)
