-- The grammar of expressions, with its limits.
use Rattle.std.specs.Prelude.{◌≡◌, ℕ, suc, ◌+◌, ◌-◌, ◌≤◌, ◌<◌, max, Bool, true, false, List, []}
use Rattle.std.specs.Prelude.{◌∷◌, ◌++◌, length, Option, Some, None}
use Rattle.text_phrases.specs.Limits.{Limits, Keeps}
use Rattle.text_phrases.specs.Phrase.{first, Phrase}
use Rattle.text_phrases.specs.Sequence.{exactly, then}
use Rattle.text_phrases.specs.Commas.{listing}
use Rattle.text_expressions.specs.Front.Values.{IsShortName, IsValue}
use Rattle.text_expressions.specs.declared.source.Infix.{Infix}
use Rattle.text_expressions.specs.declared.source.Infix.TheVariants.{Or, And, Lt, Le, Gt, Ge, Eq}
use Rattle.text_expressions.specs.declared.source.Infix.TheVariants.{Add, Sub, Mul, Div, Mod}
use Rattle.text_lexer.specs.declared.token.Literal.{Literal}
use Rattle.text_lexer.specs.declared.token.Sign.{Sign}
use Rattle.text_lexer.specs.declared.token.Sign.TheVariants as s
use Rattle.text_lexer.specs.declared.token.Word.{Word}
use Rattle.text_lexer.specs.declared.token.Word.TheVariants as w
use Rattle.text_lexer.specs.declared.token.Token.{Token}
use Rattle.text_lexer.specs.declared.token.Token.TheVariants as t
use Rattle.text_expressions.specs.declared.expression.Room.{Room}

-- An expression as it is written, without where it lies in memory. A list of indices is written
-- out, since a type holds no lists of itself.
mutual
  pub data Tree : Type 0 where
    number : Literal → Tree
    truth : Bool → Tree
    variable : List ℕ → Tree
    -- a cell, with its indices
    access : List ℕ → Trees → Tree
    -- a field of a configuration
    field : List ℕ → List ℕ → Tree
    -- the stride of a tensor in a dimension
    stride : List ℕ → Literal → Tree
    relu : Tree → Tree
    select : Tree → Tree → Tree → Tree → Tree
    negative : Tree → Tree
    parens : Tree → Tree
    binary : Infix → Tree → Tree → Tree

  pub data Trees : Type 0 where
    end : Trees
    next : Tree → Trees → Trees

abbrev pub trees : List Tree → Trees
trees [] = end
trees (tree ∷ more) = next tree (trees more)

-- how tightly an operator binds: or, and, comparisons, sums, products
abbrev pub level_of : Infix → ℕ
level_of Or = 0
level_of And = 1
level_of Lt = 2
level_of Le = 2
level_of Gt = 2
level_of Ge = 2
level_of Eq = 2
level_of Add = 3
level_of Sub = 3
level_of Mul = 4
level_of Div = 4
level_of Mod = 4

-- which level its left side has: all but comparisons chain
abbrev pub left_level : Infix → ℕ
left_level Or = 0
left_level And = 1
left_level Lt = 3
left_level Le = 3
left_level Gt = 3
left_level Ge = 3
left_level Eq = 3
left_level Add = 3
left_level Sub = 3
left_level Mul = 4
left_level Div = 4
left_level Mod = 4

abbrev pub sign : Infix → Token
sign Or = t.Word w.Or
sign And = t.Word w.And
sign Lt = t.Sign s.Less
sign Le = t.Sign s.LessEqual
sign Gt = t.Sign s.Greater
sign Ge = t.Sign s.GreaterEqual
sign Eq = t.Sign s.Equal
sign Add = t.Sign s.Plus
sign Sub = t.Sign s.Minus
sign Mul = t.Sign s.Times
sign Div = t.Sign s.Divide
sign Mod = t.Sign s.Modulo

-- the operator of a token between two expressions
abbrev pub joins_by_sign : Sign → Option Infix
joins_by_sign s.Less = Some Lt
joins_by_sign s.LessEqual = Some Le
joins_by_sign s.Greater = Some Gt
joins_by_sign s.GreaterEqual = Some Ge
joins_by_sign s.Equal = Some Eq
joins_by_sign s.Plus = Some Add
joins_by_sign s.Minus = Some Sub
joins_by_sign s.Times = Some Mul
joins_by_sign s.Divide = Some Div
joins_by_sign s.Modulo = Some Mod
joins_by_sign other = None

abbrev pub joins_by_word : Word → Option Infix
joins_by_word w.Or = Some Or
joins_by_word w.And = Some And
joins_by_word other = None

abbrev pub joins : Token → Option Infix
joins (t.Sign x) = joins_by_sign x
joins (t.Word x) = joins_by_word x
joins other = None

-- the depth of a tree, where a leaf has 1, a pair of parentheses is a level, and an access is
-- deeper than its indices
abbrev mutual
  pub depth : Tree → ℕ
  depth (number n) = 1
  depth (truth b) = 1
  depth (variable x) = 1
  depth (access x indices) = suc (deepest indices)
  depth (field x f) = 1
  depth (stride x n) = 1
  depth (relu inner) = suc (depth inner)
  depth (select a b c d) = suc (max (max (depth a) (depth b)) (max (depth c) (depth d)))
  depth (negative inner) = suc (depth inner)
  depth (parens inner) = suc (depth inner)
  depth (binary operator left right) = suc (max (depth left) (depth right))

  pub deepest : Trees → ℕ
  deepest end = 0
  deepest (next tree more) = max (depth tree) (deepest more)

-- how many nodes it has; parentheses are none, and an index is an expression of its own
abbrev pub nodes : Tree → ℕ
nodes (number n) = 1
nodes (truth b) = 1
nodes (variable x) = 1
nodes (access x indices) = 1
nodes (field x f) = 1
nodes (stride x n) = 1
nodes (relu inner) = suc (nodes inner)
nodes (select a b c d) = suc (nodes a + nodes b + nodes c + nodes d)
nodes (negative inner) = suc (nodes inner)
nodes (parens inner) = nodes inner
nodes (binary operator left right) = suc (nodes left + nodes right)

abbrev pub count : Trees → ℕ
count end = 0
count (next tree more) = suc (count more)

-- the most nodes of an index, a bound, a dimension, a coordinate or a condition
abbrev pub control_nodes : ℕ
control_nodes = 256

-- the most dimensions
abbrev pub most_dimensions : ℕ
most_dimensions = 8

-- what the tree names is short, and so are its lists of indices and each of these
abbrev mutual
  pub IsShort : Tree → Type 0
  IsShort (number n) = Unit {0}
  IsShort (truth b) = Unit {0}
  IsShort (variable x) = IsShortName x
  IsShort (access x indices) = IsShortName x × (count indices ≤ most_dimensions) × AreShort indices
  IsShort (field x f) = IsShortName x × IsShortName f
  IsShort (stride x n) = IsShortName x
  IsShort (relu inner) = IsShort inner
  IsShort (select a b c d) = IsShort a × IsShort b × IsShort c × IsShort d
  IsShort (negative inner) = IsShort inner
  IsShort (parens inner) = IsShort inner
  IsShort (binary operator left right) = IsShort left × IsShort right

  pub AreShort : Trees → Type 0
  AreShort end = Unit {0}
  AreShort (next tree more) = (nodes tree ≤ control_nodes) × IsShort tree × AreShort more

-- its literals are small
abbrev mutual
  pub IsSmall : Tree → Type 0
  IsSmall (number n) = IsValue n
  IsSmall (truth b) = Unit {0}
  IsSmall (variable x) = Unit {0}
  IsSmall (access x indices) = AreSmall indices
  IsSmall (field x f) = Unit {0}
  IsSmall (stride x n) = IsValue n
  IsSmall (relu inner) = IsSmall inner
  IsSmall (select a b c d) = IsSmall a × IsSmall b × IsSmall c × IsSmall d
  IsSmall (negative inner) = IsSmall inner
  IsSmall (parens inner) = IsSmall inner
  IsSmall (binary operator left right) = IsSmall left × IsSmall right

  pub AreSmall : Trees → Type 0
  AreSmall end = Unit {0}
  AreSmall (next tree more) = IsSmall tree × AreSmall more

-- there is an index
abbrev pub HasIndex : Trees → Type 0
HasIndex end = ⊥
HasIndex (next tree more) = Unit {0}

-- the tree stands without parentheses where an operand of this level is asked
abbrev mutual
  pub Stands : ℕ → Tree → Type 0
  Stands level (number n) = Unit {0}
  Stands level (truth b) = Unit {0}
  Stands level (variable x) = Unit {0}
  Stands level (access x indices) = HasIndex indices × AllStand indices
  Stands level (field x f) = Unit {0}
  Stands level (stride x n) = Unit {0}
  Stands level (relu inner) = Stands 0 inner
  Stands level (select a b c d) = Stands 0 a × Stands 0 b × Stands 0 c × Stands 0 d
  Stands level (negative inner) = Stands 5 inner
  Stands level (parens inner) = Stands 0 inner
  Stands level (binary operator left right) =
      (level ≤ level_of operator)
      × Stands (left_level operator) left
      × Stands (suc (level_of operator)) right

  pub AllStand : Trees → Type 0
  AllStand end = Unit {0}
  AllStand (next tree more) = Stands 0 tree × AllStand more

abbrev pub word_of : Bool → Token
word_of true = t.Word w.True
word_of false = t.Word w.False

abbrev mutual
  pub spelling : Tree → List Token
  spelling (number n) = t.Int n ∷ []
  spelling (truth b) = word_of b ∷ []
  spelling (variable x) = t.Name x ∷ []
  spelling (access x indices) =
      t.Name x ∷ t.Sign s.OpenBracket ∷ (spelling_list indices ++ (t.Sign s.CloseBracket ∷ []))
  spelling (field x f) = t.Name x ∷ t.Sign s.Dot ∷ t.Name f ∷ []
  spelling (stride x n) =
      t.Word w.Stride ∷ t.Sign s.Open ∷ t.Name x ∷ t.Sign s.Comma ∷ t.Int n ∷ t.Sign s.Close ∷ []
  spelling (relu inner) = t.Word w.Relu ∷ t.Sign s.Open ∷ (spelling inner ++ (t.Sign s.Close ∷ []))
  spelling (select a b c d) =
      t.Word w.Select ∷ t.Sign s.Open ∷ (spelling a
      ++ (t.Sign s.Comma ∷ (spelling b
      ++ (t.Sign s.Comma ∷ (spelling c
      ++ (t.Sign s.Comma ∷ (spelling d ++ (t.Sign s.Close ∷ []))))))))
  spelling (negative inner) = t.Sign s.Minus ∷ spelling inner
  spelling (parens inner) = t.Sign s.Open ∷ (spelling inner ++ (t.Sign s.Close ∷ []))
  spelling (binary operator left right) = spelling left ++ (sign operator ∷ spelling right)

  pub spelling_list : Trees → List Token
  spelling_list end = []
  spelling_list (next tree more) = spelling tree ++ spelling_more more

  pub spelling_more : Trees → List Token
  spelling_more end = []
  spelling_more (next tree more) = t.Sign s.Comma ∷ (spelling tree ++ spelling_more more)

-- a token that ends every expression before it
abbrev pub Closes : Token → Type 0
Closes (t.Sign s.Close) = Unit {0}
Closes (t.Sign s.CloseBracket) = Unit {0}
Closes (t.Sign s.Comma) = Unit {0}
Closes (t.Sign s.Colon) = Unit {0}
Closes t.NewLine = Unit {0}
Closes other = ⊥

abbrev pub FollowsBy : ℕ → Token → Option Infix → Type 0
FollowsBy level token (Some operator) = level_of operator < level
FollowsBy level token None = Closes token

-- what may stand behind an operand of a level: a looser operator, or what ends the expression
abbrev pub FollowsOperand : ℕ → Option Token → Type 0
FollowsOperand level (Some token) = FollowsBy level token (joins token)
FollowsOperand level None = Unit {0}

-- a leaf fits
pub record HasPlace (room : Room) : Type 0 where
  pub depth : 1 ≤ room.depth
  pub nodes : 1 ≤ room.nodes

-- where these limits count, the tree is so deep at most and has so many nodes at most, and it is
-- short and small
abbrev pub Within : Limits → Room → Tree → Type 0
Within limits room tree =
    Keeps limits (depth tree ≤ room.depth) ((nodes tree ≤ room.nodes) × IsShort tree) (IsSmall tree)

-- an operand of a level within a room: level 0 is a whole expression, and 5 what no operator splits
abbrev pub operand : ℕ → Room → Phrase Token Tree
operand level room = record {
  Fits = λ limits tree. Stands level tree × Within limits room tree;
  spell = spelling;
  Follows = FollowsOperand level;
}

-- a whole expression within a room, and the sign that ends it
abbrev pub ended_by : Sign → Room → Phrase Token (Tree × (Unit {0}))
ended_by sign room = then (operand 0 room) (exactly (t.Sign sign ∷ []))

-- the room one level below, where so many nodes are taken
abbrev pub under : ℕ → Room → Room
under taken room = record { depth = room.depth - 1; nodes = room.nodes - taken }

-- the room of an index, a bound, a dimension or a coordinate that may be so deep
abbrev pub control_room : ℕ → Room
control_room depth = record { depth = depth; nodes = control_nodes }

-- how deep an expression may be
abbrev pub most_depth : ℕ
most_depth = 64

-- an index, a bound, a dimension or a condition
abbrev pub control : Phrase Token Tree
control = operand 0 (control_room most_depth)

-- what is stored in a cell
abbrev pub data_room : Room
data_room = record { depth = most_depth; nodes = 1024 }

abbrev pub datum : Phrase Token Tree
datum = operand 0 data_room

abbrev pub FewDimensions : {A : Type 0} → List A → Type 0
FewDimensions list = length list ≤ most_dimensions

abbrev pub EndsList : Option Token → Type 0
EndsList o = o ≡ Some (t.Sign s.CloseBracket)

-- indices, or dimensions, that may be so deep, before the bracket that ends them
abbrev pub indices : ℕ → Phrase Token (List Tree)
indices depth = listing (operand 0 (control_room depth)) (t.Sign s.Comma) FewDimensions EndsList

-- no operator of this level stands first
abbrev pub NoSign : ℕ → List Token → Type 0
NoSign level tokens =
    (operator : Infix) → first tokens ≡ Some (sign operator) → level_of operator ≡ level → ⊥
