-- How a line asks for something: the strings in it are patterns and names, and the arguments of an
-- operator have its forms.
use Rattle.std.specs.Prelude.{◌≡◌, ℕ, Bool, true, false, ◌||◌, not, List, [], ◌∷◌}
use Rattle.std.specs.Prelude.{Option, Some, None, map}
use Rattle.std.specs.List.{list_all}
use Rattle.exo_tree.specs.Places.{Branch}
use Rattle.text_lexer.specs.declared.token.Literal.{Literal}
use Rattle.text_lexer.specs.declared.token.Literal.TheVariants.{Value}
use Rattle.text_phrases.specs.Text.{IsText}
use Rattle.text_expressions.specs.Expression.{Tree, control}
use Rattle.exo_reader.specs.Items.{joined}
use Rattle.exo_reader.specs.Strings.{line_tokens_of, window}
use Rattle.rules_names.specs.Arguments.{is_control_form, is_condition_form}
use Rattle.rules_names.specs.Arguments.{is_coordinate_form}
use Rattle.schedule_text.specs.Tree as tree
use Rattle.schedule_text.specs.declared.source.Direction.{Direction}
use Rattle.schedule_text.specs.declared.source.Direction.TheVariants as way
use Rattle.schedule_text.specs.Patterns.Grammar.{statement, meant, expression, form_meant}
use Rattle.schedule_text.specs.Patterns.Names.{name_fault}
use Rattle.schedule_text.specs.Patterns.Texts.{IsPattern}
use Rattle.cursor_forward.specs.Search.Patterns.{Pattern, ExprPattern}
use Rattle.schedule_calls.specs.Requests.{Move, Parent, Next, Prev, Body, Before, After, Expand}
use Rattle.schedule_calls.specs.Requests.{Item}
use Rattle.schedule_calls.specs.Requests.{Asked, Under, Found, Here, Division, Window}
use Rattle.schedule_calls.specs.Requests.{Change, Alone, WithControl, WithWord, MultLoops}
use Rattle.schedule_calls.specs.Requests.{Specialize, CommuteExpr, BindExpr, ExpandDim, StageMem}
use Rattle.schedule_calls.specs.Requests.{WriteConfig, BindConfig, DivideLoop, EliminateDeadCode}
use Rattle.schedule_calls.specs.Requests.{Operation, At, Whole, Rename}
use Rattle.schedule_calls.specs.Requests.{Request, Apply, Search, Moved, Emit}
use Rattle.schedule_calls.specs.Keys.{tail_in, keep_in, accum_in}
use Rattle.schedule_calls.specs.Operators.{operator_of, is_operator}
use Rattle.schedule_calls.specs.declared.operator.CursorOperator.{CursorOperator}
use Rattle.schedule_calls.specs.declared.operator.ControlOperator.{ControlOperator}
use Rattle.schedule_calls.specs.declared.operator.WordOperator.{WordOperator}
use Rattle.schedule_calls.specs.declared.operator.WholeOperator.{WholeOperator}
use Rattle.schedule_calls.specs.declared.operator.ChangeOperator.{ChangeOperator}
use Rattle.schedule_calls.specs.declared.operator.ChangeOperator.TheVariants as kind
use Rattle.schedule_calls.specs.declared.operator.OperatorName.{OperatorName}
use Rattle.schedule_calls.specs.declared.operator.OperatorName.TheVariants as operator

-- ---- moves

abbrev pub number_of : Literal → ℕ
number_of (Value n) = n
number_of other = 0

abbrev pub direction : Direction → Move
direction way.Parent = Parent
direction way.Next = Next
direction way.Prev = Prev
direction way.Body = Body
direction way.Before = Before
direction way.After = After

abbrev pub move : tree.Move → Move
move (tree.go d) = direction d
move (tree.expand a b) = Expand (number_of a) (number_of b)
move (tree.item k) = Item (number_of k)

abbrev pub moves : List tree.Move → List Move
moves ms = map move ms

-- ---- strings

-- quoted pieces beside one another are a pattern of statements with a number
abbrev pub IsPatternOf : List (List ℕ) → Pattern → ℕ → Type 0
IsPatternOf pieces p nth = IsPattern statement meant (joined pieces) p nth

abbrev pub IsPatternIn : List (List ℕ) → Pattern × ℕ → Type 0
IsPatternIn pieces found = IsPatternOf pieces found.0 found.1

abbrev pub IsExprPatternOf : List (List ℕ) → ExprPattern → Type 0
IsExprPatternOf pieces x = IsPattern expression form_meant (joined pieces) x.form x.nth

abbrev pub IsNameOf : List (List ℕ) → List ℕ → Type 0
IsNameOf pieces name = (name ≡ joined pieces) × (name_fault (joined pieces) ≡ None)

-- an expression, with the limits of a bound or a condition
abbrev pub IsExpressionOf : List (List ℕ) → Tree → Type 0
IsExpressionOf pieces e = IsText control (line_tokens_of (joined pieces)) e

pub record IsControlOf (pieces : List (List ℕ)) (e : Tree) : Type 0 where
  pub written : IsExpressionOf pieces e
  pub form : is_control_form e ≡ true

pub record IsConditionOf (pieces : List (List ℕ)) (e : Tree) : Type 0 where
  pub written : IsExpressionOf pieces e
  pub form : is_condition_form e ≡ true

-- of either form
pub record IsEitherOf (pieces : List (List ℕ)) (e : Tree) : Type 0 where
  pub written : IsExpressionOf pieces e
  pub form : (is_control_form e || is_condition_form e) ≡ true

-- a window, with the limits of an argument's
abbrev pub IsAnyWindowOf : List (List ℕ) → Window → Type 0
IsAnyWindowOf pieces w = IsText window (line_tokens_of (joined pieces)) w

-- with control values as its coordinates
pub record IsWindowOf (pieces : List (List ℕ)) (w : Window) : Type 0 where
  pub written : IsAnyWindowOf pieces w
  pub form : list_all is_coordinate_form w.1 ≡ true

-- ---- arguments

-- a name and nothing more
abbrev pub IsWord : tree.Argument → List ℕ → Type 0
IsWord (tree.cursor (tree.held x [])) name = name ≡ x
IsWord other name = ⊥

-- a cursor that a name holds, a match, or a string: a match in the version that is given
pub data AsksCursor : tree.Argument → Asked → Type 0 where
  under : (x : List ℕ) (ms : List tree.Move)
      → AsksCursor (tree.cursor (tree.held x ms)) (record { source = Under x; moves = moves ms })
  found : (f : tree.Found) (p : Pattern) (nth : ℕ)
      → IsPatternOf f.pattern p nth
      → AsksCursor (tree.cursor (tree.found f))
      (record { source = Found f.version p nth; moves = moves f.moves })
  here : (pieces : List (List ℕ)) (p : Pattern) (nth : ℕ)
      → IsPatternOf pieces p nth
      → AsksCursor (tree.string pieces) (record { source = Here p nth; moves = [] })

abbrev pub AsksExpression : tree.Argument → ExprPattern → Type 0
AsksExpression (tree.string pieces) x = IsExprPatternOf pieces x
AsksExpression other x = ⊥

abbrev pub AsksName : tree.Argument → List ℕ → Type 0
AsksName (tree.string pieces) name = IsNameOf pieces name
AsksName other name = ⊥

abbrev pub AsksNames : tree.Argument → List ℕ × List ℕ → Type 0
AsksNames (tree.pair a b) names = IsNameOf a names.0 × IsNameOf b names.1
AsksNames other names = ⊥

abbrev pub AsksControl : tree.Argument → Tree → Type 0
AsksControl (tree.string pieces) e = IsControlOf pieces e
AsksControl other e = ⊥

abbrev pub AsksCondition : tree.Argument → Tree → Type 0
AsksCondition (tree.string pieces) e = IsConditionOf pieces e
AsksCondition other e = ⊥

abbrev pub AsksEither : tree.Argument → Tree → Type 0
AsksEither (tree.string pieces) e = IsEitherOf pieces e
AsksEither other e = ⊥

abbrev pub AsksWindow : tree.Argument → Window → Type 0
AsksWindow (tree.string pieces) w = IsWindowOf pieces w
AsksWindow other w = ⊥

abbrev pub number_in : tree.Argument → Option ℕ
number_in (tree.int n) = Some (number_of n)
number_in other = None

-- a number, a pair of names, and arguments with keys
pub record AsksDivision (a b : tree.Argument) (keys : List tree.Argument) (d : Division)
    : Type 0 where
  pub by : number_in a ≡ Some d.by
  pub names : AsksNames b (d.outer, d.inner)
  pub tail : tail_in keys ≡ Some d.tail

-- ---- operators

-- what an operator asks at a cursor, by its arguments behind that one
pub data AsksChange : ChangeOperator → List tree.Argument → Change → Type 0 where
  alone : (o : CursorOperator) → AsksChange (kind.Alone o) [] (Alone o)
  with_control : (o : ControlOperator) (a : tree.Argument) (e : Tree)
      → AsksControl a e
      → AsksChange (kind.WithControl o) (a ∷ []) (WithControl o e)
  with_word : (o : WordOperator) (a : tree.Argument) (word : List ℕ)
      → IsWord a word
      → AsksChange (kind.WithWord o) (a ∷ []) (WithWord o word)
  mult_loops : (a : tree.Argument) (name : List ℕ)
      → AsksName a name
      → AsksChange kind.MultLoops (a ∷ []) (MultLoops name)
  specialize : (a : tree.Argument) (c : Tree)
      → AsksCondition a c
      → AsksChange kind.Specialize (a ∷ []) (Specialize c)
  commute_expr : (a : tree.Argument) (x : ExprPattern)
      → AsksExpression a x
      → AsksChange kind.CommuteExpr (a ∷ []) (CommuteExpr x)
  bind_expr : (a b : tree.Argument) (x : ExprPattern) (name : List ℕ)
      → AsksExpression a x
      → AsksName b name
      → AsksChange kind.BindExpr (a ∷ b ∷ []) (BindExpr x name)
  expand_dim : (a b : tree.Argument) (size point : Tree)
      → AsksControl a size
      → AsksControl b point
      → AsksChange kind.ExpandDim (a ∷ b ∷ []) (ExpandDim size point)
  stage_mem : (a b : tree.Argument) (keys : List tree.Argument)
      → (w : Window) (name : List ℕ) (accum : Bool)
      → AsksWindow a w
      → AsksName b name
      → accum_in keys ≡ Some accum
      → AsksChange kind.StageMem (a ∷ b ∷ keys) (StageMem w name accum)
  write_config : (a b c : tree.Argument) (config field : List ℕ) (e : Tree)
      → IsWord a config
      → AsksName b field
      → AsksEither c e
      → AsksChange kind.WriteConfig (a ∷ b ∷ c ∷ []) (WriteConfig config field e)
  bind_config : (a b c : tree.Argument) (param config field : List ℕ)
      → AsksName a param
      → IsWord b config
      → AsksName c field
      → AsksChange kind.BindConfig (a ∷ b ∷ c ∷ []) (BindConfig param config field)
  divide_loop : (a b : tree.Argument) (keys : List tree.Argument) (d : Division)
      → AsksDivision a b keys d
      → AsksChange kind.DivideLoop (a ∷ b ∷ keys) (DivideLoop d)
  eliminate_dead_code : (keys : List tree.Argument) (keep : Option Branch)
      → keep_in keys ≡ Some keep
      → AsksChange kind.EliminateDeadCode keys (EliminateDeadCode keep)

-- what an operator asks, by its arguments behind the first
pub data AsksOperation : OperatorName → List tree.Argument → Operation → Type 0 where
  at : (o : ChangeOperator) (a : tree.Argument) (more : List tree.Argument)
      → (asked : Asked) (change : Change)
      → AsksCursor a asked
      → AsksChange o more change
      → AsksOperation (operator.At o) (a ∷ more) (At asked change)
  whole : (o : WholeOperator) → AsksOperation (operator.Whole o) [] (Whole o)
  rename : (a : tree.Argument) (name : List ℕ)
      → AsksName a name
      → AsksOperation operator.Rename (a ∷ []) (Rename name)

-- ---- lines

pub data Asks : tree.Line → Request → Type 0 where
  apply : (bind name of : List ℕ) (args : tree.Arguments) (o : OperatorName) (operation : Operation)
      → operator_of name ≡ Some o
      → IsWord args.head of
      → AsksOperation o args.more operation
      → Asks (tree.bind bind (tree.operation name args)) (Apply bind of operation)
  search : (bind : List ℕ) (f : tree.Found) (p : Pattern) (nth : ℕ)
      → IsPatternOf f.pattern p nth
      → Asks (tree.bind bind (tree.search f)) (Search bind f.version p nth (moves f.moves))
  moved : (bind of : List ℕ) (m : tree.Move) (ms : List tree.Move)
      → Asks (tree.bind bind (tree.moved of m ms)) (Moved bind of (move m ∷ moves ms))
  emit : (name : List ℕ) → Asks (tree.emit name) (Emit name)

-- a line names an operator that is not there
abbrev pub is_unknown : tree.Line → Bool
is_unknown (tree.bind bind (tree.operation name args)) = not (is_operator name)
is_unknown other = false
