-- What a word is, for the function that tests it.
use Rattle.std.proofs.Common.{◌≡◌, refl}
use Rattle.c_tree.specs.Names.Words.{Name, is_listed, is_word}

pub word_is : (x : Name) → is_word x ≡ is_listed x
unfolding is_word
word_is x = refl
