use Rattle.std.proofs.Common.{◌∙◌, ◌+◌, ◌*◌, min, map, drop, sym, ap, arith}
use Rattle.exo_tree.specs.PlainControl.{control}
use Rattle.c_widths.specs.Bounds.{most_in}
use Rattle.c_widths.proofs.Growing.{drop_here, drop_none, nothing_left}
use Rattle.c_widths.proofs.Stack.{fit_times, fit_once, fit_no_more, fit_more}
use Rattle.c_widths.proofs.statements.fits_cells.Goals as goal

pub loop-d-init : goal.loop-d-init
loop-d-init c =
    let most = most_in c.args.bounds.now in
    ap (λ l. fit_times most 1 (map control l)) (drop_none c.args.dims.now)
    ∙ fit_once most (map control c.args.dims.now)

pub loop-d-preserved : goal.loop-d-preserved
loop-d-preserved c =
    let most = most_in c.args.bounds.now in
    let d = control c.d-item.result in
    let rest = map control (drop (c.loop-d.d-index + 1) c.args.dims.now) in
    let here = drop_here c.args.dims.now c.loop-d.d-index c.d-item.result c.loop-d-test.true c.d-item.is in
    fit_more most c.loop-d.cells c.saturating_mul-cells.result d rest
    (c.saturating_mul-cells.ensures ∙ ap (λ m. min (c.loop-d.cells * m) 18446744073709551615) c.in-Some.ensures.value)
    (sym c.in-Some.ensures.there)
    ∙ sym (ap (λ l. fit_times most c.loop-d.cells (map control l)) here)
    ∙ c.loop-d.invariant

pub returns : goal.returns
returns c =
    let most = most_in c.args.bounds.now in
    c.is_some.ensures
    ∙ c.within.ensures.there
    ∙ fit_no_more most c.loop-d.cells
    ∙ sym (ap (λ l. fit_times most c.loop-d.cells (map control l)) (nothing_left c.loop-d.d-index c.args.dims.now (omega arith)))
    ∙ c.loop-d.invariant
