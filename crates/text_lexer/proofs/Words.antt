-- The words that are no names.
use Rattle.std.proofs.Common.{ℕ, List, [], ◌∷◌, cond}
use Rattle.std.specs.Prelude.{Option, Some, None, bytes_eq}
use Rattle.text_lexer.specs.declared.token.Word.{Word}

-- the first of the words that is written so
abbrev pub word_in : List (List ℕ × Word) → List ℕ → Option Word
word_in [] text = None
word_in (w ∷ words) text = cond (bytes_eq text w.0) (Some w.1) (word_in words text)
