use Rattle.std.proofs.Common.{◌++◌, codes, arith, rules}
use Rattle.std.proofs.Output.{has_written_append}
use Rattle.c_tree.specs.CText.{actual_text}
use Rattle.c_tree.specs.Plain.{plain_actual}
use Rattle.c_tree.proofs.Listed.{one_listed}
use Rattle.c_tree.proofs.show.ActualsDisplay.fmt.Goals as goal

pub loop-actual-preserved : goal.loop-actual-preserved
loop-actual-preserved g c = λ plain.
    let now = c.loop-actual.invariant plain in
    let text = actual_text (plain_actual c.actual-item.result) in
    (now.0 ++ (codes ", " ++ text), has_written_append _ _ _ _ _ _ now.1 (search rules), one_listed actual_text plain_actual (codes ", ") c.in-Some.rest.now c.loop-actual.actual-index c.actual-item.result now.0 _ (omega arith) c.actual-item.is now.2)
