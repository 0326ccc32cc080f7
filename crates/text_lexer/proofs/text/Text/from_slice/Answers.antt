use Rattle.std.proofs.Common.{◌∙◌, take_all}
use Rattle.text_lexer.proofs.Pushed.{pushed_take}
use Rattle.text_lexer.proofs.text.Text.from_slice.Goals as goal

pub loop-byte-preserved : goal.loop-byte-preserved
loop-byte-preserved c =
    pushed_take c.args.bytes.now c.loop-byte.text c.push.new.self c.loop-byte.byte-index c.loop-byte-test.true
    c.in_ok-push.ensures c.loop-byte.invariant

pub returns : goal.returns
returns c = c.loop-byte.invariant ∙ take_all c.loop-byte.byte-index c.args.bytes.now c.loop-byte-test.false
