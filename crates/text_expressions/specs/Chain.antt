-- An operand of a level that is being read from the left.
use Rattle.std.specs.Prelude.{◌≡◌, ℕ, suc, List, [], ◌∷◌, ◌++◌}
use Rattle.text_phrases.specs.Limits.{Limits}
use Rattle.text_phrases.specs.Phrase.{first}
use Rattle.text_expressions.specs.Expression.{Tree, binary, level_of, Stands, spelling, operand}
use Rattle.text_expressions.specs.declared.source.Infix.{Infix}
use Rattle.text_lexer.specs.declared.token.Token.{Token}
use Rattle.text_expressions.specs.declared.expression.Room.{Room}

-- an operator and its right side
pub record Link : Type 0 where
  pub operator : Infix
  pub right : Tree

abbrev pub with_links : Tree → List Link → Tree
with_links left [] = left
with_links left (l ∷ links) = with_links (binary l.operator left l.right) links

abbrev pub LinksAt : ℕ → List Link → Type 0
LinksAt level [] = Unit {0}
LinksAt level (l ∷ links) =
    (level_of l.operator ≡ level) × Stands (suc level) l.right × LinksAt level links

-- the tree goes on from the left one by links
pub record Extends (level : ℕ) (left other : Tree) : Type 0 where
  pub links : List Link
  pub at : LinksAt level links
  pub is : other ≡ with_links left links

-- the left tree is read, and links may come
pub record Begun (level : ℕ) (room : Room) (tokens : List Token) (left : Tree)
    (rest : List Token) : Type 0 where
  pub fits : (limits : Limits) → (operand level room).Fits limits left
  pub whole : tokens ≡ spelling left ++ rest
  pub only :
      (limits : Limits) (other : Tree) (x y : List Token)
      → first rest ≡ first x
      → (operand level room).Fits limits other
      → (operand level room).Follows (first y)
      → spelling left ++ x ≡ spelling other ++ y
      → Extends level left other
