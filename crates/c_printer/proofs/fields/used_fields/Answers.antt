use Rattle.std.proofs.Common.{◌∙◌, ◌+◌, List, Bool, false, replicate, sym, ap, subst, map, drop, arith}
use Rattle.exo_tree.specs.Tree.{Procedure}
use Rattle.exo_tree.specs.PlainProcedure.{procedure}
use Rattle.exo_modes.specs.Calls.Marked.{contains, Marked}
use Rattle.exo_modes.proofs.OfCalls.Sets.{marked_none}
use Rattle.c_lowering.specs.Made.LoweredUnit.{is_used_from}
use Rattle.c_widths.proofs.Growing.{drop_none}
use Rattle.c_printer.proofs.Lists.{mapped_next, none_mapped}
use Rattle.c_printer.proofs.Marking.{procedures_marked}
use Rattle.c_printer.proofs.fields.used_fields.Goals as goal

pub loop-k-init : goal.loop-k-init
loop-k-init c = λ new h. subst (λ (ps : List Procedure). Marked (λ f. is_used_from (contains c.args.counted.now) f 0 ps) c.in_ok-marks.marks new) (ap (map procedure) (drop_none c.as_slice-p-items.result.now) ∙ c.as_slice-p-items.ensures) h

pub loop-k-preserved : goal.loop-k-preserved
loop-k-preserved c = λ new h.
    let all = c.as_slice-p-items.result.now in
    let k = c.loop-k.k in
    c.loop-k.invariant new (procedures_marked (contains c.args.counted.now) k (k + 1) c.has.result (procedure c.p-item.result) (map procedure (drop (k + 1) all)) (map procedure (drop k all)) c.loop-k.marks c.mark_counted.new.marks new (omega arith) c.has.ensures (mapped_next procedure all k c.p-item.result c.loop-k-test.true c.p-item.is) c.mark_counted.ensures h)

pub returns : goal.returns
returns c =
    let all = c.as_slice-p-items.result.now in
    let k = c.loop-k.k in
    let set = c.loop-k.marks in
    let counted = contains c.args.counted.now in
    let none = c.in_ok-marks.ensures ∙ ap (λ n. replicate n false) c.len.ensures in
    let nothing : Marked (λ f. is_used_from counted f k (map procedure (drop k all))) set set = subst (λ (ps : List Procedure). Marked (λ f. is_used_from counted f k ps) set set) (sym (none_mapped procedure all k (omega arith))) (marked_none set) in
    subst (λ (s : List Bool). Marked (λ f. is_used_from counted f 0 c.args.unit.now.procs) s set) none (c.loop-k.invariant set nothing)
