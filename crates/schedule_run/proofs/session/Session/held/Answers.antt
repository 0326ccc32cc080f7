use Rattle.std.proofs.Common.{◌≡◌, ◌<◌, ◌-◌, suc, true, false, length, sym, ◌∙◌, arith}
use Rattle.schedule_run.proofs.Names.{held_at}
use Rattle.schedule_run.proofs.session.Session.held.Goals as goal

pub returns-then-is_named : goal.returns-then-is_named
returns-then-is_named c =
    let items = c.args.self.now.names.items in
    let k = c.loop-k.k in
    let one : k ≡ suc (k - 1) = omega (arith, c.loop-k-test.true) in
    let less : k - 1 < length items = omega (arith, c.loop-k-test.true, c.loop-k.invariant.within) in
    sym
    (c.loop-k.invariant.same
    ∙ held_at items (k - 1) k c.index-binding.result.now c.args.name.now true one
    c.index-binding.ensures less (sym c.is_named.ensures ∙ c.if-is_named.true))

pub loop-k-preserved : goal.loop-k-preserved
loop-k-preserved c =
    let items = c.args.self.now.names.items in
    let k = c.loop-k.k in
    let one : k ≡ suc (k - 1) = omega (arith, c.loop-k-test.true) in
    let less : k - 1 < length items = omega (arith, c.loop-k-test.true, c.loop-k.invariant.within) in
    record {
      within = omega (arith, less);
      same =
          c.loop-k.invariant.same
          ∙ held_at items (k - 1) k c.index-binding.result.now c.args.name.now false one
          c.index-binding.ensures less (sym c.is_named.ensures ∙ c.if-is_named.false);
    }
