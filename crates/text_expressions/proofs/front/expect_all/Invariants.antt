use Rattle.std.proofs.Common.{◌≡◌, ◌++◌, take, map}
use Rattle.text_expressions.specs.Front.Fixed.{token_of}
use Rattle.text_expressions.proofs.front.expect_all.Given as goal

abbrev pub invariant-loop-word : goal.invariant-loop-word
invariant-loop-word l = l.tokens ≡ map token_of (take l.word-index l.words) ++ l.rest
