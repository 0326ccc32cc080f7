-- Closed expressions.
use Rattle.std.proofs.Common.{ℕ, suc, [], ◌∷◌, true, refl, arith}
use Rattle.text_phrases.specs.Phrase.{Taken}
use Rattle.text_phrases.specs.Text.{IsText}
use Rattle.text_phrases.proofs.Texts.{text_ok}
use Rattle.text_lexer.specs.declared.token.Literal.TheVariants.{Value}
use Rattle.text_lexer.specs.declared.token.Token.{Token}
use Rattle.text_lexer.specs.declared.token.Token.TheVariants.{Int, Word}
use Rattle.text_lexer.specs.declared.token.Word.TheVariants.{True}
use Rattle.text_expressions.specs.Expression.{Tree, number, truth, operand, control}
use Rattle.text_expressions.specs.Expression.{control_room, most_depth, HasPlace}
use Rattle.text_expressions.proofs.Chains.{begun_of_taken, taken_of_begun}
use Rattle.text_expressions.proofs.Atoms.{taken_number, taken_true}

place : HasPlace (control_room most_depth)
place = record { depth = omega arith; nodes = omega arith }

-- one token that is an expression by itself
alone : (t : Token) (e : Tree) → Taken (operand 5 (control_room most_depth)) (t ∷ []) e []
    → IsText control (t ∷ []) e
alone t e taken =
    text_ok control (t ∷ []) [] e tt
    (looser 0 (looser 1 (looser 2 (looser 3 (looser 4 taken))))) refl
  where
    looser : (level : ℕ) → Taken (operand (suc level) (control_room most_depth)) (t ∷ []) e []
        → Taken (operand level (control_room most_depth)) (t ∷ []) e []
    looser level tighter =
        taken_of_begun level (control_room most_depth) (t ∷ []) e []
        (begun_of_taken level (control_room most_depth) (t ∷ []) e [] tighter)
        (λ o same at. cc (same))

pub five : IsText control (Int (Value 5) ∷ []) (number (Value 5))
five = alone (Int (Value 5)) (number (Value 5)) (taken_number (control_room most_depth) 5 [] place)

pub yes : IsText control (Word True ∷ []) (truth true)
yes = alone (Word True) (truth true) (taken_true (control_room most_depth) [] place)
