use Rattle.std.proofs.Common.{◌≡◌, List, ◌∙◌, arith, subst}
use Rattle.exo_tree.specs.declared.number.ProcId.{ProcId}
use Rattle.exo_modes.specs.Calls.Closed.{closed}
use Rattle.exo_modes.specs.Calls.Marked.{contains}
use Rattle.exo_modes.specs.Calls.Passed.{is_function}
use Rattle.schedule_run.specs.PlainVersions.{versions}
use Rattle.compile_stages.specs.Printings.{is_emitted, printing_of}
use Rattle.compile_stages.proofs.Listing.{numbers_of, same_printings}
use Rattle.compile_stages.proofs.Running.{if-ok}
use Rattle.compile_stages.proofs.printings.printings.Goals as goal

pub returns : goal.returns
returns c =
    let v = versions c.args.session.now in
    if-ok c.functions.result _ _ (λ what is.
    is ∙ same_printings (contains c.in_ok-marks.marks)
    (closed is_function (is_emitted v.emitted) 0 v.unit.procedures) (printing_of v) 0 v.unit.procedures
    (λ j h. subst (λ (l : List ProcId). contains c.in_ok-marks.marks j ≡ closed is_function (is_emitted (numbers_of l)) 0 v.unit.procedures j)
    c.deref.ensures.value (c.in_ok-marks.ensures j (omega (arith, h)))))
    c.functions.ensures
