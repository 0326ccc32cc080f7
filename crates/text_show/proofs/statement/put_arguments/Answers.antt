use Rattle.std.proofs.Common.{string_bytes}
use Rattle.exo_tree.specs.PlainArgument.{argument}
use Rattle.text_show.specs.StatementText.{argument_text}
use Rattle.text_show.specs.Seen.{words_in}
use Rattle.text_show.proofs.Appends.{listed_on}
use Rattle.text_show.proofs.statement.put_arguments.Goals as goal

pub loop-a-preserved : goal.loop-a-preserved
loop-a-preserved c =
    listed_on (argument_text (words_in c.args.words.now)) argument c.in-Some.rest.now c.loop-a.a-index c.a-item.result
    (string_bytes c.loop-a.out) (string_bytes c.push_str.new.self) (string_bytes c.put_argument-in-loop-a.new.out) _
    c.loop-a-test.true c.a-item.is c.in_ok-push_str.ensures.bytes c.in_ok-put_argument-2.ensures c.loop-a.invariant
