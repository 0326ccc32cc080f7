use Rattle.std.proofs.Common.{◌≡◌, [], ◌∷◌, ◌+◌, drop, length, map, sym, subst}
use Rattle.std.proofs.lemmas.List.{drop_all}
use Rattle.exo_tree.specs.PlainProcedure.{procedure}
use Rattle.config_state.proofs.Sets.{drop_item}
use Rattle.config_live.specs.Ways.{IsStart}
use Rattle.config_live.proofs.Units.{SoFar, start, step_on, all_read, all_written}
use Rattle.config_live.proofs.table.LiveTable.new.Goals as goal

pub loop-p-preserved : goal.loop-p-preserved
loop-p-preserved c =
    let n = length c.args.unit.now.fields in
    let procs = c.args.unit.now.procs in
    let items = c.as_slice-p-items.result.now in
    let calls = c.loop-p.table.calls.items in
    let rest = map procedure (drop (c.loop-p.p-index + 1) items) in
    let made = c.in_ok-add.ensures.calls n c.loop-p.invariant.1 in
    let one : drop c.loop-p.p-index items ≡ c.p-item.result ∷ drop (c.loop-p.p-index + 1) items =
    drop_item items c.loop-p.p-index c.p-item.result c.loop-p-test.true c.p-item.is in (
      subst (λ t. SoFar n t rest procs) (sym c.in_ok-add.ensures.last)
          (step_on n calls (procedure c.p-item.result) rest procs c.in_ok-add.ensures.entry
          made.0.reads made.0.writes
          (subst (λ z. SoFar n calls (map procedure z) procs) one c.loop-p.invariant.0)),
      made.1,
    )

pub returns : goal.returns
returns c =
    let n = length c.args.unit.now.fields in
    let procs = c.args.unit.now.procs in
    let calls = c.loop-p.table.calls.items in
    let whole = subst (λ z. SoFar n calls (map procedure z) procs) (drop_all c.loop-p.p-index c.as_slice-p-items.result.now c.loop-p-test.false) c.loop-p.invariant.0 in
    record {
      read_first = all_read n calls procs whole;
      surely_written = all_written n calls procs whole;
    }

pub loop-p-init : goal.loop-p-init
loop-p-init c =
    let n = length c.args.unit.now.fields in
    let procs = c.args.unit.now.procs in (
      subst (λ t. SoFar n t (map procedure c.as_slice-p-items.result.now) procs) (sym c.new.ensures.items)
          (subst (λ r. SoFar n [] r procs) (sym c.as_slice-p-items.ensures) (start n procs)),
      subst (λ m. IsStart m c.in_ok-way.way) c.len.ensures c.in_ok-way.ensures,
    )
