use Rattle.std.proofs.Common.{arith, sym, ◌∙◌}
use Rattle.text_lexer.specs.Bytes.{goes_on_name}
use Rattle.text_lexer.proofs.Ascii.{ascii_more, ascii_front, run_more}
use Rattle.text_lexer.proofs.bytes.name_at.Goals as goal

pub loop-count-preserved : goal.loop-count-preserved
loop-count-preserved c =
    let goes_on = sym c.goes_on_name.ensures ∙ c.if-goes_on_name.true in
    record {
      ascii = ascii_more c.args.bytes.now c.loop-count.count c.loop-count.invariant.ascii goes_on;
      within = omega (arith, c.loop-count-test.true);
      run = run_more goes_on_name c.args.bytes.now c.loop-count.count c.loop-count-test.true goes_on
          c.loop-count.invariant.run;
    }

pub returns-clause-ascii : goal.returns-clause-ascii
returns-clause-ascii c = ascii_front c.args.bytes.now c.loop-count.count c.loop-count.invariant.within c.loop-count.invariant.ascii
