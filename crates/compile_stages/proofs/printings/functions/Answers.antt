use Rattle.std.proofs.Common.{◌≡◌, ◌+◌, ◌++◌, ◌∷◌, [], drop, map, sym, ap, ◌∙◌}
use Rattle.std.proofs.lemmas.List.{map-append}
use Rattle.exo_tree.specs.PlainProcedure.{procedure}
use Rattle.exo_modes.specs.Calls.Marked.{contains}
use Rattle.c_printer.specs.PlainPrinted.{printing}
use Rattle.schedule_run.specs.PlainVersions.{versions}
use Rattle.compile_stages.specs.Printings.{printing_of}
use Rattle.compile_stages.proofs.Listing.{behind, one_printed, none_printed}
use Rattle.compile_stages.proofs.printings.functions.Goals.{then-is_printed+in_ok-printed+in_ok-push, else-is_printed}
use Rattle.compile_stages.proofs.printings.functions.Goals as goal

pub loop-k-preserved : goal.loop-k-preserved
loop-k-preserved c =
    let v = versions c.args.session.now in
    let procedures = v.unit.procedures in
    let p = procedure c.index-procs-k.result in
    let front = c.loop-k.what.items in
    let rest = behind procedure c.as_slice-procs.result.now procedures c.loop-k.k c.index-procs-k.result c.as_slice-procs.ensures c.loop-k-test.true c.index-procs-k.is in
    elim c.if-is_printed.branch [
      | then-is_printed+in_ok-printed+in_ok-push w ↦
          one_printed (contains c.args.marks.now) (printing_of v) c.loop-k.k (map printing front) (map printing c.if-is_printed.what.items) _ p
          (drop (c.loop-k.k + 1) procedures) (drop c.loop-k.k procedures) rest (sym c.is_printed.ensures ∙ w.if-is_printed.true)
          (ap (λ v. map printing v.items) w.what-is
          ∙ (ap (map printing) w.in_ok-push.ensures.items
          ∙ (map-append printing front (_ ∷ []) ∙ ap (λ z. map printing front ++ z ∷ []) w.in_ok-printed.ensures)))
          c.loop-k.invariant
      | else-is_printed w ↦
          none_printed (contains c.args.marks.now) (printing_of v) c.loop-k.k (map printing front) (map printing c.if-is_printed.what.items) _ p
          (drop (c.loop-k.k + 1) procedures) (drop c.loop-k.k procedures) rest (sym c.is_printed.ensures ∙ w.if-is_printed.false)
          (ap (λ v. map printing v.items) w.what-is) c.loop-k.invariant
    ]
