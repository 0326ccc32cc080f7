-- Names as the grammar has them.
use Rattle.std.specs.Prelude.{◌≡◌, ℕ, true, false, List, [], ◌∷◌, None, codes, bytes_eq}
use Rattle.text_lexer.specs.Bytes.{begins_name, goes_on_name}
use Rattle.text_lexer.specs.Lexeme.{word_of}

-- letters, digits and `_`
abbrev pub AreNameBytes : List ℕ → Type 0
AreNameBytes [] = Unit {0}
AreNameBytes (b ∷ more) = (goes_on_name b ≡ true) × AreNameBytes more

abbrev pub BeginsName : List ℕ → Type 0
BeginsName [] = ⊥
BeginsName (b ∷ more) = begins_name b ≡ true

-- letters, digits and `_`, no digit first; neither `_` alone nor a word of the grammar
pub record IsName (x : List ℕ) : Type 0 where
  pub begins : BeginsName x
  pub bytes : AreNameBytes x
  pub some : bytes_eq x (codes "_") ≡ false
  pub free : word_of x ≡ None

abbrev pub Each : {A : Type 0} → (A → Type 0) → List A → Type 0
Each P [] = Unit {0}
Each P (x ∷ xs) = P x × Each P xs
