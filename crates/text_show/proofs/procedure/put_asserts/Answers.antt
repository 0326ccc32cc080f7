use Rattle.std.proofs.Common.{string_bytes}
use Rattle.exo_tree.specs.PlainControl.{condition}
use Rattle.text_show.specs.ProcedureText.{assert_text}
use Rattle.text_show.specs.Seen.{words_in}
use Rattle.text_show.proofs.Appends.{walked_on}
use Rattle.text_show.proofs.procedure.put_asserts.Goals as goal

pub loop-c-preserved : goal.loop-c-preserved
loop-c-preserved c =
    walked_on (assert_text (words_in c.args.words.now)) condition c.args.asserts.now c.loop-c.c-index c.c-item.result
    (string_bytes c.loop-c.out) (string_bytes c.put_assert.new.out) _
    c.loop-c-test.true c.c-item.is c.in_ok-put_assert.ensures c.loop-c.invariant
