-- the words that are left decide
use Rattle.std.proofs.Common.{◌≡◌, length, map}
use Rattle.text_lexer.specs.Lexeme.{word_of}
use Rattle.text_lexer.proofs.Words.{word_in}
use Rattle.text_lexer.proofs.lexeme.word_of.Given as goal

abbrev pub invariant-loop-words : goal.invariant-loop-words
invariant-loop-words l = word_in (map (λ w. (w.0.now, w.1)) l.words) l.text ≡ word_of l.text

abbrev pub decreases-loop-words : goal.decreases-loop-words
decreases-loop-words l = length l.words
