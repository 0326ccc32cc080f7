use Rattle.std.proofs.Common.{◌∷◌, [], ◌++◌, map, take, length, sym, subst}
use Rattle.exo_tree.specs.PlainProcedure.{procedure}
use Rattle.schedule_run.specs.Running.{AreWrites}
use Rattle.schedule_run.proofs.Lists.{taken_mapped}
use Rattle.schedule_run.proofs.writes.writes_of.Goals as goal

pub loop-p-preserved : goal.loop-p-preserved
loop-p-preserved c =
    let items = c.as_slice-p-items.result.now in
    let k = c.loop-p.p-index in
    let done = take k (map procedure items) in
    let n = length c.args.unit.now.fields in
    let old = subst (λ m. AreWrites m done c.loop-p.table) (sym c.len.ensures) c.loop-p.invariant in
    let new = c.in_ok-add_writes.ensures done old in
    subst (λ ps. AreWrites n ps c.add_writes.new.table)
    (sym (taken_mapped procedure items k c.p-item.result c.p-item.is c.loop-p-test.true))
    (subst (λ m. AreWrites m (done ++ procedure c.p-item.result ∷ []) c.add_writes.new.table)
    c.len.ensures new)
