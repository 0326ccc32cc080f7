use Rattle.std.proofs.Common.{◌++◌, codes, arith, rules}
use Rattle.std.proofs.Output.{has_written_append}
use Rattle.c_tree.specs.CText.{number64_text}
use Rattle.c_tree.specs.Plain.{plain_number}
use Rattle.c_tree.proofs.Listed.{one_listed}
use Rattle.c_tree.proofs.show.NumbersDisplay.fmt.Goals as goal

pub loop-number-preserved : goal.loop-number-preserved
loop-number-preserved g c = λ plain.
    let now = c.loop-number.invariant plain in
    let text = number64_text (plain_number c.number-item.result) in
    (now.0 ++ (codes ", " ++ text), has_written_append _ _ _ _ _ _ now.1 (search rules), one_listed number64_text plain_number (codes ", ") c.in-Some.rest.now c.loop-number.number-index c.number-item.result now.0 _ (omega arith) c.number-item.is now.2)
