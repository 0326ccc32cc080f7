use Rattle.std.proofs.Common.{◌≡◌, take}
use Rattle.text_lexer.proofs.text.Text.from_slice.Given as goal

abbrev pub invariant-loop-byte : goal.invariant-loop-byte
invariant-loop-byte l = l.text ≡ take l.byte-index l.bytes
