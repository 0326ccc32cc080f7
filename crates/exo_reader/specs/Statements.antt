-- The grammar of statements and blocks.
use Rattle.std.specs.Prelude.{ℕ, ◌+◌, ◌<◌, List, [], ◌∷◌, ◌++◌, Option, Some, Bool, true, false}
use Rattle.text_phrases.specs.Limits.{Limits, Keeps}
use Rattle.text_phrases.specs.Phrase.{Phrase}
use Rattle.text_phrases.specs.Sequence.{then, exactly}
use Rattle.text_phrases.specs.Commas.{listing}
use Rattle.text_expressions.specs.Values.{name}
use Rattle.text_expressions.specs.Expression.{Tree, control, datum, FewDimensions, EndsList}
use Rattle.text_expressions.specs.Expression.{FollowsOperand}
use Rattle.text_lexer.specs.declared.token.Token.{Token}
use Rattle.text_lexer.specs.declared.token.Token.TheVariants.{Name, Sign, Word, NewLine, Indent}
use Rattle.text_lexer.specs.declared.token.Token.TheVariants.{Dedent}
use Rattle.text_lexer.specs.declared.token.Sign.TheVariants.{Open, Close, OpenBracket, CloseBracket}
use Rattle.text_lexer.specs.declared.token.Sign.TheVariants.{Comma, Colon, Dot, Assign, Reduce}
use Rattle.text_lexer.specs.declared.token.Word.TheVariants as w
use Rattle.exo_reader.specs.Source.{Coordinate, point, span, Argument, value, window, Statement}
use Rattle.exo_reader.specs.Source.{pass, branch, loop, allocate, call, configure, assign, reduce}
use Rattle.exo_reader.specs.Source.{view, Block, end, next, block_of}
use Rattle.exo_reader.specs.Parts.{Is, IsNot, some_of, spell_enclosed, enclosed, maybe_dims}
use Rattle.exo_reader.specs.Parts.{type_name, maybe_memory}

-- a coordinate of a window
abbrev pub CoordinateFits : Limits → Coordinate → Type 0
CoordinateFits limits (point e) = control.Fits limits e
CoordinateFits limits (span a b) = control.Fits limits a × control.Fits limits b

abbrev pub spell_coordinate : Coordinate → List Token
spell_coordinate (point e) = control.spell e
spell_coordinate (span a b) = control.spell a ++ (Sign Colon ∷ control.spell b)

abbrev pub FollowsCoordinate : Option Token → Type 0
FollowsCoordinate (Some (Sign Comma)) = Unit {0}
FollowsCoordinate (Some (Sign CloseBracket)) = Unit {0}
FollowsCoordinate other = ⊥

abbrev pub coordinate : Phrase Token Coordinate
coordinate = record { Fits = CoordinateFits; spell = spell_coordinate; Follows = FollowsCoordinate }

abbrev pub coordinates : Phrase Token (List Coordinate)
coordinates = listing coordinate (Sign Comma) FewDimensions EndsList

abbrev pub HasSpan : List Coordinate → Type 0
HasSpan [] = ⊥
HasSpan (point e ∷ more) = HasSpan more
HasSpan (span a b ∷ more) = Unit {0}

-- an expression of some kind; or a window, with at least one span
abbrev pub ArgumentFits : Phrase Token Tree → Limits → Argument → Type 0
ArgumentFits P limits (value e) = P.Fits limits e
ArgumentFits P limits (window x cs) = name.Fits limits x × coordinates.Fits limits cs × HasSpan cs

abbrev pub spell_argument : Phrase Token Tree → Argument → List Token
spell_argument P (value e) = P.spell e
spell_argument P (window x cs) =
    Name x ∷ Sign OpenBracket ∷ (coordinates.spell cs ++ (Sign CloseBracket ∷ []))

abbrev pub argument_of : Phrase Token Tree → Phrase Token Argument
argument_of P =
    record { Fits = ArgumentFits P; spell = spell_argument P; Follows = FollowsOperand 0 }

-- an argument of a call
abbrev pub argument : Phrase Token Argument
argument = argument_of control

abbrev pub AnyNumber : List Argument → Type 0
AnyNumber more = Unit {0}

abbrev pub arguments : Phrase Token (List Argument × Bool)
arguments = enclosed argument AnyNumber

-- what may stand behind `NAME =`
abbrev pub right : Phrase Token Argument
right = argument_of datum

-- a block behind its header: a colon, a line end, and lines that are indented
abbrev pub indented : List Token → List Token
indented lines = Sign Colon ∷ NewLine ∷ Indent ∷ (lines ++ (Dedent ∷ []))

abbrev mutual
  pub spelling : Statement → List Token
  spelling pass = Word w.Pass ∷ NewLine ∷ []
  spelling (branch c a b) =
      Word w.If ∷ (control.spell c ++ (indented (spelling_all a) ++ spelling_else b))
  spelling (loop i low high a) =
      Word w.For ∷ Name i ∷ Word w.In ∷ Word w.Seq ∷ Sign Open
      ∷ (control.spell low
      ++ (Sign Comma ∷ (control.spell high
      ++ (Sign Close ∷ indented (spelling_all a)))))
  spelling (allocate x kind ds m) =
      Name x ∷ Sign Colon
      ∷ (type_name.spell kind
      ++ (maybe_dims.spell ds
      ++ (maybe_memory.spell m
      ++ (NewLine ∷ []))))
  spelling (call f list trailing) =
      Name f ∷ Sign Open
      ∷ (spell_enclosed argument list trailing
      ++ (Sign Close ∷ NewLine ∷ []))
  spelling (configure c f e) =
      Name c ∷ Sign Dot ∷ Name f ∷ Sign Assign ∷ (control.spell e ++ (NewLine ∷ []))
  spelling (assign x ds e) =
      Name x ∷ (maybe_dims.spell ds ++ (Sign Assign ∷ (datum.spell e ++ (NewLine ∷ []))))
  spelling (reduce x ds e) =
      Name x ∷ (maybe_dims.spell ds ++ (Sign Reduce ∷ (datum.spell e ++ (NewLine ∷ []))))
  spelling (view y x cs) = Name y ∷ Sign Assign ∷ (right.spell (window x cs) ++ (NewLine ∷ []))

  pub spelling_all : Block → List Token
  spelling_all end = []
  spelling_all (next s more) = spelling s ++ spelling_all more

  pub spelling_else : Block → List Token
  spelling_else end = []
  spelling_else (next s more) = Word w.Else ∷ indented (spelling s ++ spelling_all more)

-- a block may stand in one of this nesting; at most 24 stand inside one another
abbrev pub Nests : Limits → ℕ → Type 0
Nests limits nesting = Keeps limits (nesting < 24) (Unit {0}) (Unit {0})

abbrev pub IsSome : Block → Type 0
IsSome end = ⊥
IsSome (next s more) = Unit {0}

-- the statement is of the grammar in a block of this nesting
abbrev mutual
  pub StatementFits : Limits → ℕ → Statement → Type 0
  StatementFits limits nesting pass = Unit {0}
  StatementFits limits nesting (branch c a b) =
      Nests limits nesting
      × control.Fits limits c
      × IsSome a
      × BlockFits limits (nesting + 1) a
      × BlockFits limits (nesting + 1) b
  StatementFits limits nesting (loop i low high a) =
      Nests limits nesting
      × name.Fits limits i
      × control.Fits limits low
      × control.Fits limits high
      × IsSome a
      × BlockFits limits (nesting + 1) a
  StatementFits limits nesting (allocate x kind ds m) =
      name.Fits limits x
      × type_name.Fits limits kind
      × maybe_dims.Fits limits ds
      × maybe_memory.Fits limits m
  StatementFits limits nesting (call f list trailing) =
      name.Fits limits f
      × arguments.Fits limits (list, trailing)
  StatementFits limits nesting (configure c f e) =
      name.Fits limits c
      × name.Fits limits f
      × control.Fits limits e
  StatementFits limits nesting (assign x ds e) =
      name.Fits limits x
      × maybe_dims.Fits limits ds
      × datum.Fits limits e
  StatementFits limits nesting (reduce x ds e) =
      name.Fits limits x
      × maybe_dims.Fits limits ds
      × datum.Fits limits e
  StatementFits limits nesting (view y x cs) = name.Fits limits y × right.Fits limits (window x cs)

  pub BlockFits : Limits → ℕ → Block → Type 0
  BlockFits limits nesting end = Unit {0}
  BlockFits limits nesting (next s more) =
      StatementFits limits nesting s
      × BlockFits limits nesting more

-- a statement in a block of this nesting; an `else` behind it would belong to it
abbrev pub statement : ℕ → Phrase Token Statement
statement nesting = record {
  Fits = λ limits s. StatementFits limits nesting s;
  spell = spelling;
  Follows = IsNot (Word w.Else);
}

-- one statement or more of this nesting, and the end of their block
abbrev pub body : ℕ → Phrase Token (List Statement × (Unit {0}))
body nesting = then (some_of (statement nesting) (Is Dedent)) (exactly (Dedent ∷ []))

-- a block of this nesting behind its header
abbrev pub block : ℕ → Phrase Token (List Statement)
block nesting =
    record {
      Fits = λ limits ss. IsSome (block_of ss) × BlockFits limits nesting (block_of ss);
      spell = λ ss. indented (spelling_all (block_of ss));
      Follows = λ o. Unit {0};
    }

-- `else` and a block of this nesting, or nothing
abbrev pub otherwise : ℕ → Phrase Token (List Statement)
otherwise nesting =
    record {
      Fits = λ limits ss. BlockFits limits nesting (block_of ss);
      spell = λ ss. spelling_else (block_of ss);
      Follows = IsNot (Word w.Else);
    }

-- `=` or `+=`, what is stored, and the end of the line; the first part says whether it is `+=`
abbrev pub sign_of : Bool → Token
sign_of true = Sign Reduce
sign_of false = Sign Assign

abbrev pub store : Phrase Token (Bool × Tree)
store = record {
  Fits = λ limits p. datum.Fits limits p.1;
  spell = λ p. sign_of p.0 ∷ (datum.spell p.1 ++ (NewLine ∷ []));
  Follows = λ o. Unit {0};
}

abbrev pub stored_by : List ℕ → List Tree → Bool → Tree → Statement
stored_by x ds true e = reduce x ds e
stored_by x ds false e = assign x ds e

-- the statement of a name and what stands behind `=`
abbrev pub equated : List ℕ → Argument → Statement
equated x (value e) = assign x [] e
equated x (window y cs) = view x y cs

-- the token is none of those with which a statement begins that is no name
abbrev pub IsNoHead : Option Token → Type 0
IsNoHead (Some (Word w.Pass)) = ⊥
IsNoHead (Some (Word w.If)) = ⊥
IsNoHead (Some (Word w.For)) = ⊥
IsNoHead other = Unit {0}

-- what stands behind the name of a statement begins neither an allocation nor a call nor a write of
-- a field nor an equation
abbrev pub BeginsStore : Option Token → Type 0
BeginsStore (Some (Sign Colon)) = ⊥
BeginsStore (Some (Sign Open)) = ⊥
BeginsStore (Some (Sign Dot)) = ⊥
BeginsStore (Some (Sign Assign)) = ⊥
BeginsStore other = Unit {0}
