use Rattle.std.proofs.Common.{◌<◌, length, arith}
use Rattle.std.proofs.lemmas.Result.{err_from_is_err_and}
use Rattle.exo_tree.specs.PlainUnit.{program}
use Rattle.unit_check.specs.Checked.{checked}
use Rattle.unit_check.proofs.Checking.{memory_stops, went_on, stopped, more_hold, all_hold, nothing_faults}
use Rattle.unit_check.proofs.Caching.{one_more, all_of_them}
use Rattle.unit_check.proofs.check.check_unit.Goals as goal

pub returns-in-Err-clause-exact : goal.returns-in-Err-clause-exact
returns-in-Err-clause-exact g c = memory_stops c.out_of_memory.result (checked (program c.args.unit.now)) c.out_of_memory.ensures

pub returns-in_err-count-clause-exact : goal.returns-in_err-count-clause-exact
returns-in_err-count-clause-exact g c =
    let within : c.loop-k.k < length (program c.args.unit.now).procedures = omega (arith, c.len-k-end.ensures) in
    let p = err_from_is_err_and c.from_residual.result c.from_residual.ensures.1 in
    rw (p.1, p.2) (stopped (program c.args.unit.now) c.loop-k.k c.loop-k.count c.in_err-count.field-0.0 within c.loop-k.invariant.so_far c.in_err-count.ensures.exact)

pub loop-k-preserved : goal.loop-k-preserved
loop-k-preserved g c =
    let within : c.loop-k.k < length (program c.args.unit.now).procedures = omega (arith, c.len-k-end.ensures) in
    record {
      so_far = went_on (program c.args.unit.now) c.loop-k.k c.loop-k.count c.in_ok-count.field-0 within c.loop-k.invariant.so_far c.in_ok-count.ensures.exact c.in_ok-count.ensures.count;
      few = omega (arith, c.loop-k.invariant.few, c.in_ok-count.ensures.few);
      cached = one_more (program c.args.unit.now) c.loop-k.k _ _ _ within c.loop-k.invariant.cached c.in_ok-count.ensures.cache;
      shown = more_hold (program c.args.unit.now) c.loop-k.k within c.loop-k.invariant.shown c.in_ok-count.ensures.shown;
    }

pub returns-clause-shown : goal.returns-clause-shown
returns-clause-shown g c = all_hold (program c.args.unit.now) c.loop-k.k (omega (arith, c.len-k-end.ensures)) c.loop-k.invariant.shown

pub returns-clause-no_fault : goal.returns-clause-no_fault
returns-clause-no_fault g c =
    let all = all_hold (program c.args.unit.now) c.loop-k.k (omega (arith, c.len-k-end.ensures)) c.loop-k.invariant.shown in
    nothing_faults c.shown_procedures_do_not_fault.ensures (program c.args.unit.now) c.requires all

pub returns-clause-cache : goal.returns-clause-cache
returns-clause-cache g c =
    all_of_them (program c.args.unit.now) c.loop-k.k _ _ (omega (arith, c.len-k-end.ensures)) c.loop-k.invariant.cached
