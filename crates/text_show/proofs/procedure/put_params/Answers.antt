use Rattle.std.proofs.Common.{string_bytes}
use Rattle.exo_tree.specs.PlainParam.{parameter}
use Rattle.text_show.specs.ProcedureText.{param_text}
use Rattle.text_show.specs.Seen.{words_in}
use Rattle.text_show.proofs.Appends.{listed_on}
use Rattle.text_show.proofs.procedure.put_params.Goals as goal

pub loop-p-preserved : goal.loop-p-preserved
loop-p-preserved c =
    listed_on (param_text (words_in c.args.words.now)) parameter c.in-Some.rest.now c.loop-p.p-index c.p-item.result
    (string_bytes c.loop-p.out) (string_bytes c.push_str.new.self) (string_bytes c.put_param-in-loop-p.new.out) _
    c.loop-p-test.true c.p-item.is c.in_ok-push_str.ensures.bytes c.in_ok-put_param-2.ensures c.loop-p.invariant
