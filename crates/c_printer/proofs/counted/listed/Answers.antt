use Rattle.std.proofs.Common.{◌∙◌, List, Bool, false, replicate, sym, ap, subst, map, drop, arith}
use Rattle.exo_modes.specs.Calls.Marked.{Marked}
use Rattle.exo_modes.proofs.OfCalls.Sets.{marked_none}
use Rattle.c_lowering.specs.Made.LoweredUnit.{Printing, is_listed}
use Rattle.c_printer.specs.PlainPrinted.{printing}
use Rattle.c_printer.proofs.Lists.{mapped_next, none_mapped}
use Rattle.c_printer.proofs.Listing.{listed_next}
use Rattle.c_printer.proofs.counted.listed.Goals as goal

pub loop-w-preserved : goal.loop-w-preserved
loop-w-preserved c = λ new h. c.loop-w.invariant new (listed_next (printing c.w-item.result) _ _ c.loop-w.marks c.insert.new.self new (mapped_next printing c.args.what.now c.loop-w.w-index c.w-item.result c.loop-w-test.true c.w-item.is) c.insert.ensures h)

pub returns : goal.returns
returns c =
    let what = c.args.what.now in
    let set = c.loop-w.marks in
    let none = c.in_ok-marks.ensures ∙ ap (λ n. replicate n false) c.len.ensures in
    let nothing : Marked (is_listed (map printing (drop c.loop-w.w-index what))) set set = subst (λ (l : List Printing). Marked (is_listed l) set set) (sym (none_mapped printing what c.loop-w.w-index (omega arith))) (marked_none set) in
    subst (λ (s : List Bool). Marked (is_listed (map printing what)) s set) none (c.loop-w.invariant set nothing)
