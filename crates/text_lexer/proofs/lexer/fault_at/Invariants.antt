-- no fault was passed
use Rattle.std.proofs.Common.{◌≡◌, ◌++◌, take, drop}
use Rattle.text_lexer.specs.Layout.{is_sound, up_to_fault}
use Rattle.text_lexer.proofs.lexer.fault_at.Given as goal

abbrev pub invariant-loop-k : goal.invariant-loop-k
invariant-loop-k l = record {
  sound : is_sound l.tokens ≡ is_sound (drop l.k l.tokens);
  cut : up_to_fault l.tokens ≡ take l.k l.tokens ++ up_to_fault (drop l.k l.tokens);
}
