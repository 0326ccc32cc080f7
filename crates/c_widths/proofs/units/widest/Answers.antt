use Rattle.std.proofs.Common.{◌≡◌, ◌∙◌, ◌-◌, ◌+◌, length, sym, ap, subst, true, false}
use Rattle.exo_tree.specs.PlainProcedure.{procedure}
use Rattle.exo_tree.specs.PlainUnit.{program}
use Rattle.exo_modes.specs.Calls.Marked.{contains}
use Rattle.c_widths.specs.Raises.{most_from, is_narrow_by, memories_for}
use Rattle.c_widths.specs.Given.{given_in}
use Rattle.c_widths.proofs.Searching.{IsDone, fits_by, done_start, done_with, done_without, wide_here}
use Rattle.c_widths.proofs.units.widest.Goals as goal
use Rattle.c_widths.proofs.units.widest.Goals.{else-has-via-then-has+in_ok-fits_procedure+else-not-branch, else-has-via-else-has}

pub loop-n-init : goal.loop-n-init
loop-n-init c = done_start (program c.args.unit.now) (contains c.args.printed.now) (contains c.args.counted.now) procedure c.as_slice-procs.result.now c.as_slice-procs.ensures c.in_ok-given.given c.in_ok-given.ensures

pub loop-n-preserved : goal.loop-n-preserved
loop-n-preserved c =
    let whole = program c.args.unit.now in
    let printed = contains c.args.printed.now in
    let counted = contains c.args.counted.now in
    let xs = c.as_slice-procs.result.now in
    let k = c.loop-n.n in
    let memories : c.memories_for-memories.result.now ≡ memories_for (printed (length xs - 1 - k)) whole.memories = c.memories_for-memories.ensures ∙ ap (λ t. memories_for t whole.memories) c.has.ensures in
    elim c.else-has.branch [
      | else-has-via-then-has+in_ok-fits_procedure+else-not-branch w ↦
          let fits : fits_by whole printed counted c.loop-n.given (length xs - 1 - k) (procedure w.index-procs-k.result) ≡ true = ap (λ m. is_narrow_by m (most_from (procedure w.index-procs-k.result).params (given_in c.loop-n.given (length xs - 1 - k))) (procedure w.index-procs-k.result)) (sym memories) ∙ sym w.in_ok-fits_procedure.ensures.narrow ∙ w.if-not-branch.false in
          subst (λ rows. IsDone whole printed counted (length xs - (k + 1)) rows) (sym w.given-is)
          (done_with whole printed counted procedure xs c.as_slice-procs.ensures k w.index-procs-k.result c.loop-n.given w.fits_procedure.new.given c.loop-n-test.true w.index-procs-k.is (sym c.has-in-loop-n.ensures ∙ w.if-has.true) fits (w.in_ok-fits_procedure.ensures.given w.if-not-branch.false) c.loop-n.invariant)
      | else-has-via-else-has w ↦
          subst (λ rows. IsDone whole printed counted (length xs - (k + 1)) rows) (sym w.given-is)
          (done_without whole printed counted procedure xs c.as_slice-procs.ensures k c.loop-n.given c.loop-n-test.true (sym c.has-in-loop-n.ensures ∙ w.if-has.false) c.loop-n.invariant)
    ]

pub returns-then-not-branch : goal.returns-then-not-branch
returns-then-not-branch c =
    let whole = program c.args.unit.now in
    let printed = contains c.args.printed.now in
    let counted = contains c.args.counted.now in
    let xs = c.as_slice-procs.result.now in
    let k = c.loop-n.n in
    let memories : c.memories_for-memories.result.now ≡ memories_for (printed (length xs - 1 - k)) whole.memories = c.memories_for-memories.ensures ∙ ap (λ t. memories_for t whole.memories) c.has.ensures in
    let wide : fits_by whole printed counted c.loop-n.given (length xs - 1 - k) (procedure c.index-procs-k.result) ≡ false = ap (λ m. is_narrow_by m (most_from (procedure c.index-procs-k.result).params (given_in c.loop-n.given (length xs - 1 - k))) (procedure c.index-procs-k.result)) (sym memories) ∙ sym c.in_ok-fits_procedure.ensures.narrow ∙ c.if-not-branch.true in
    sym (wide_here whole printed counted procedure xs c.as_slice-procs.ensures k c.index-procs-k.result c.loop-n.given c.loop-n-test.true c.index-procs-k.is (sym c.has-in-loop-n.ensures ∙ c.if-has.true) wide c.loop-n.invariant)
