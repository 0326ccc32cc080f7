use Rattle.std.proofs.Common.{◌≡◌, ◌++◌, map}
use Rattle.text_lexer.specs.Layout.{token_of, place_of}
use Rattle.text_lexer.proofs.lexer.give.Given as goal

abbrev pub invariant-loop-one : goal.invariant-loop-one
invariant-loop-one l = record {
  tokens : l.lexed.tokens.items ≡ l.fn.lexed.tokens.items ++ map token_of l.yielded;
  places : l.lexed.places.items ≡ l.fn.lexed.places.items ++ map place_of l.yielded;
}
