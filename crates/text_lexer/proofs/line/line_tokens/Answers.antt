use Rattle.std.proofs.Common.{arith, ◌≤◌, List, length, sym, ap, ◌∙◌, subst}
use Rattle.text_lexer.specs.declared.place.Placed.{Placed}
use Rattle.text_lexer.specs.Lexeme.{lexeme_of}
use Rattle.text_lexer.proofs.Lines.{line_blank, line_past, line_comment, line_fault, rest_whole, rest_some}
use Rattle.text_lexer.proofs.Lines.{lexeme_within, pushed_few, blank_few, blank_within, few_within, fault_few}
use Rattle.text_lexer.proofs.Lines.{next_whole}
use Rattle.text_lexer.proofs.line.line_tokens.Goals as goal
use Rattle.text_lexer.proofs.line.line_tokens.Goals.{else-loop-start-test}
use Rattle.text_lexer.proofs.line.line_tokens.Goals.{then-loop-start-test+else-byte-eq32+then-byte-eq35}
use Rattle.text_lexer.proofs.line.line_tokens.Goals.{then-loop-start-test+else-byte-eq32+else-byte-eq35+in_ok-lexeme+in_ok-tokens-2+then-fault}

pub loop-start-preserved : goal.loop-start-preserved
loop-start-preserved c = record {
  few = pushed_few c.loop-start.tokens.items c.in_ok-tokens-2.tokens.items _ c.loop-start.start c.in_ok-lexeme.lexeme.width
      c.in_ok-tokens-2.ensures c.loop-start.invariant.few
      (c.in_ok-lexeme.ensures.progress (rest_some c.loop-start.start c.args.bytes.now c.loop-start-test.true));
  within = lexeme_within c.loop-start.start c.in_ok-lexeme.lexeme.width c.args.bytes.now c.loop-start-test.true
      c.in_ok-lexeme.ensures.within;
  whole = next_whole c.args.line c.loop-start.start c.args.bytes.now c.in_ok-lexeme.lexeme c.loop-start.tokens.items
      c.in_ok-tokens-2.tokens.items c.in_ok-tokens-2.ensures c.loop-start-test.true c.if-byte-eq32.false c.if-byte-eq35.false
      (c.in_ok-lexeme.ensures.value ∙ ap lexeme_of (rest_whole c.loop-start.start c.args.bytes.now))
      (c.in_ok-lexeme.ensures.progress (rest_some c.loop-start.start c.args.bytes.now c.loop-start-test.true))
      (sym c.if-fault.ensures) c.loop-start.invariant.whole;
}

pub loop-start-smaller : goal.loop-start-smaller
loop-start-smaller c =
    omega (
      arith,
      c.loop-start-test.true,
      c.in_ok-lexeme.ensures.progress (rest_some c.loop-start.start c.args.bytes.now c.loop-start-test.true),
    )

pub loop-start-preserved-then-byte-eq32 : goal.loop-start-preserved-then-byte-eq32
loop-start-preserved-then-byte-eq32 c = record {
  few = blank_few c.loop-start.tokens.items c.loop-start.start c.loop-start.invariant.few;
  within = blank_within c.loop-start.start c.args.bytes.now c.loop-start-test.true;
  whole = line_blank c.args.line c.loop-start.start c.args.bytes.now c.loop-start.tokens.items c.loop-start-test.true
      c.if-byte-eq32.true c.loop-start.invariant.whole;
}

pub returns-clause-value : goal.returns-clause-value
returns-clause-value c =
    elim c.loop-start-test.branch [
      | else-loop-start-test w ↦ ap (λ v. v.items) w.tokens-is
          ∙ line_past c.args.line c.loop-start.start c.args.bytes.now c.loop-start.tokens.items w.loop-start-test.false
          c.loop-start.invariant.whole
      | then-loop-start-test+else-byte-eq32+then-byte-eq35 w ↦ ap (λ v. v.items) w.tokens-is
          ∙ line_comment c.args.line c.loop-start.start c.args.bytes.now c.loop-start.tokens.items w.loop-start-test.true
          w.if-byte-eq32.false w.if-byte-eq35.true c.loop-start.invariant.whole
      | then-loop-start-test+else-byte-eq32+else-byte-eq35+in_ok-lexeme+in_ok-tokens-2+then-fault w ↦ ap (λ v. v.items)
          w.tokens-is
          ∙ line_fault c.args.line c.loop-start.start c.args.bytes.now w.in_ok-lexeme.lexeme c.loop-start.tokens.items
          w.in_ok-tokens-2.tokens.items w.loop-start-test.true w.if-byte-eq32.false w.if-byte-eq35.false
          (w.in_ok-lexeme.ensures.value ∙ ap lexeme_of (rest_whole c.loop-start.start c.args.bytes.now))
          (w.in_ok-lexeme.ensures.progress (rest_some c.loop-start.start c.args.bytes.now w.loop-start-test.true))
          (sym w.if-fault.ensures) w.in_ok-tokens-2.ensures c.loop-start.invariant.whole
    ]

pub returns-clause-bound : goal.returns-clause-bound
returns-clause-bound c =
    elim c.loop-start-test.branch [
      | else-loop-start-test w ↦ subst (λ (ts : List Placed). length ts ≤ length c.args.bytes.now)
          (sym (ap (λ v. v.items) w.tokens-is))
          (few_within c.loop-start.tokens.items c.loop-start.start c.args.bytes.now c.loop-start.invariant.few
          c.loop-start.invariant.within)
      | then-loop-start-test+else-byte-eq32+then-byte-eq35 w ↦ subst (λ (ts : List Placed). length ts ≤ length
          c.args.bytes.now)
          (sym (ap (λ v. v.items) w.tokens-is))
          (few_within c.loop-start.tokens.items c.loop-start.start c.args.bytes.now c.loop-start.invariant.few
          c.loop-start.invariant.within)
      | then-loop-start-test+else-byte-eq32+else-byte-eq35+in_ok-lexeme+in_ok-tokens-2+then-fault w ↦
          subst (λ (ts : List Placed). length ts ≤ length c.args.bytes.now) (sym (ap (λ v. v.items) w.tokens-is))
          (fault_few c.loop-start.tokens.items w.in_ok-tokens-2.tokens.items _ c.loop-start.start c.args.bytes.now
          w.in_ok-tokens-2.ensures c.loop-start.invariant.few w.loop-start-test.true)
    ]
