use Rattle.std.proofs.Common.{string_bytes}
use Rattle.exo_tree.specs.PlainControl.{coordinate}
use Rattle.text_show.specs.ControlText.{coord_text}
use Rattle.text_show.specs.Seen.{words_in}
use Rattle.text_show.proofs.Appends.{listed_on}
use Rattle.text_show.proofs.control.put_window.Goals as goal

pub loop-c-preserved : goal.loop-c-preserved
loop-c-preserved c =
    listed_on (coord_text (words_in c.args.words.now)) coordinate c.in-Some.rest.now c.loop-c.c-index c.c-item.result
    (string_bytes c.loop-c.out) (string_bytes c.push_str-in-loop-c.new.self) (string_bytes c.put_coord-in-loop-c.new.out) _
    c.loop-c-test.true c.c-item.is c.in_ok-push_str-2.ensures.bytes c.in_ok-put_coord-2.ensures c.loop-c.invariant
