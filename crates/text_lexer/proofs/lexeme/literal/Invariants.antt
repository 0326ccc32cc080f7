-- the digits that were passed write the value
use Rattle.std.proofs.Common.{◌≡◌, ◌<◌, drop}
use Rattle.text_lexer.specs.Lexeme.{decimal}
use Rattle.text_lexer.proofs.lexeme.literal.Given as goal

abbrev pub invariant-loop-digit : goal.invariant-loop-digit
invariant-loop-digit l = record {
  small : l.value < 0x80000000;
  so_far : decimal 0 l.digits ≡ decimal l.value (drop l.digit-index l.digits);
}
