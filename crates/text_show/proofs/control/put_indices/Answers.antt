use Rattle.std.proofs.Common.{string_bytes}
use Rattle.exo_tree.specs.PlainControl.{control}
use Rattle.text_show.specs.ControlText.{control_text}
use Rattle.text_show.specs.Seen.{words_in}
use Rattle.text_show.proofs.Appends.{listed_on}
use Rattle.text_show.proofs.control.put_indices.Goals as goal

pub loop-e-preserved : goal.loop-e-preserved
loop-e-preserved c =
    listed_on (control_text (words_in c.args.words.now)) control c.in-Some.rest.now c.loop-e.e-index c.e-item.result
    (string_bytes c.loop-e.out) (string_bytes c.push_str-in-loop-e.new.self) (string_bytes c.put_control-in-loop-e.new.out) _
    c.loop-e-test.true c.e-item.is c.in_ok-push_str-2.ensures.bytes c.in_ok-put_control-2.ensures c.loop-e.invariant
