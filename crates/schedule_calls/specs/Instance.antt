-- Lines of which the laws speak: one of each form, and some that ask for nothing.
use Rattle.std.specs.Prelude.{◌≡◌, ℕ, Bool, true, false, not, ◌&&◌, List, [], ◌∷◌}
use Rattle.std.specs.Prelude.{Option, Some, None, codes}
use Rattle.std.specs.Option.{is_some}
use Rattle.exo_tree.specs.Places.{Branch, Main, Else}
use Rattle.text_lexer.specs.declared.token.Literal.TheVariants.{Value}
use Rattle.text_expressions.specs.Expression.{number, truth, variable}
use Rattle.exo_reader.specs.Source.{Coordinate, span}
use Rattle.cursor_forward.specs.Search.Patterns.{Loop, Read}
use Rattle.schedule_text.specs.Tree as tree
use Rattle.schedule_text.specs.declared.source.Direction.TheVariants as way
use Rattle.schedule_calls.specs.Requests.{Parent, Item, Asked, Under, Here}
use Rattle.schedule_calls.specs.Requests.{Tail, Guard, CutAndGuard, Perfect}
use Rattle.schedule_calls.specs.Requests.{Change, Alone, WithControl, WithWord, MultLoops}
use Rattle.schedule_calls.specs.Requests.{Specialize, CommuteExpr, BindExpr, ExpandDim, StageMem}
use Rattle.schedule_calls.specs.Requests.{WriteConfig, BindConfig, DivideLoop, EliminateDeadCode}
use Rattle.schedule_calls.specs.Requests.{Operation, At, Whole, Rename}
use Rattle.schedule_calls.specs.Requests.{Request, Apply, Search, Moved, Emit}
use Rattle.schedule_calls.specs.Readings.{AsksChange, AsksOperation, Asks, is_unknown}
use Rattle.schedule_calls.specs.Operators.{rows, operator_among}
use Rattle.schedule_calls.specs.declared.operator.CursorOperator.{CursorOperator}
use Rattle.schedule_calls.specs.declared.operator.CursorOperator.TheVariants.{UnrollLoop}
use Rattle.schedule_calls.specs.declared.operator.ControlOperator.TheVariants.{CutLoop, ShiftLoop}
use Rattle.schedule_calls.specs.declared.operator.WordOperator.{WordOperator}
use Rattle.schedule_calls.specs.declared.operator.WholeOperator.{WholeOperator}
use Rattle.schedule_calls.specs.declared.operator.WholeOperator.TheVariants.{DeletePass}
use Rattle.schedule_calls.specs.declared.operator.ChangeOperator.TheVariants as kind
use Rattle.schedule_calls.specs.declared.operator.OperatorName.{OperatorName}
use Rattle.schedule_calls.specs.declared.operator.OperatorName.TheVariants as operator

-- no two rows have one name
abbrev pub names_differ : List (List ℕ × OperatorName) → Bool
names_differ [] = true
names_differ (row ∷ more) = not (is_some (operator_among more row.0)) && names_differ more

-- `p` and arguments behind it
abbrev pub on_p : List tree.Argument → tree.Arguments
on_p more =
    record { head = tree.cursor (tree.held (codes "p") []); more = more; trailing = false }

-- `q = OPERATOR(p, ..)`
abbrev pub line_of : List ℕ → List tree.Argument → tree.Line
line_of operator more = tree.bind (codes "q") (tree.operation operator (on_p more))

abbrev pub asks : Operation → Request
asks o = Apply (codes "q") (codes "p") o

-- `c`
abbrev pub held_c : tree.Argument
held_c = tree.cursor (tree.held (codes "c") [])

abbrev pub at_c : Asked
at_c = record { source = Under (codes "c"); moves = [] }

abbrev pub asks_at_c : Change → Request
asks_at_c change = asks (At at_c change)

-- a string, and a name and nothing more
abbrev pub text : List ℕ → tree.Argument
text s = tree.string (s ∷ [])

abbrev pub word : List ℕ → tree.Argument
word name = tree.cursor (tree.held name [])

-- `q = divide_loop(p, c, 8, ['io', 'ii'], KEYS)`
abbrev pub divide_line : List tree.Argument → tree.Line
divide_line keys =
    line_of (codes "divide_loop")
    (held_c
    ∷ tree.int (Value 8)
    ∷ tree.pair (codes "io" ∷ []) (codes "ii" ∷ [])
    ∷ keys)

abbrev pub asks_divided : Tail → Request
asks_divided t =
    asks_at_c
    (DivideLoop (record { by = 8; outer = codes "io"; inner = codes "ii"; tail = t }))

-- `tail='cut_and_guard'`, `perfect=True`, `perfect=False`
abbrev pub tail_key : tree.Argument
tail_key = tree.key (codes "tail") (tree.text (codes "cut_and_guard" ∷ []))

abbrev pub perfect_key : tree.KeyValue → tree.Argument
perfect_key value = tree.key (codes "perfect") value

-- `q = eliminate_dead_code(p, c, KEYS)`
abbrev pub eliminate_line : List tree.Argument → tree.Line
eliminate_line keys = line_of (codes "eliminate_dead_code") (held_c ∷ keys)

abbrev pub asks_eliminated : Option Branch → Request
asks_eliminated keep = asks_at_c (EliminateDeadCode keep)

-- `keep='VALUE'`
abbrev pub keep_key : List ℕ → tree.Argument
keep_key value = tree.key (codes "keep") (tree.text (value ∷ []))

-- `accum=VALUE`
abbrev pub accum_key : tree.KeyValue → tree.Argument
accum_key value = tree.key (codes "accum") value

abbrev pub i_to_j : Coordinate
i_to_j = span (variable (codes "i")) (variable (codes "j"))

-- `q = stage_mem(p, c, 'x[i:j]', NAME, KEYS)`
abbrev pub stage_line : tree.Argument → List tree.Argument → tree.Line
stage_line name keys =
    line_of (codes "stage_mem") (held_c ∷ text (codes "x[i:j]") ∷ name ∷ keys)

abbrev pub asks_staged : Bool → Request
asks_staged accum = asks_at_c (StageMem (codes "x", i_to_j ∷ []) (codes "a") accum)

-- `q = OPERATOR(p, c, STRING)`
abbrev pub on_c : List ℕ → List ℕ → tree.Line
on_c operator s = line_of operator (held_c ∷ text s ∷ [])

-- its operator is there, and it asks for nothing
pub record AsksNothing (line : tree.Line) : Type 0 where
  pub known : is_unknown line ≡ false
  pub none : (r : Request) → Asks line r → ⊥

pub record LinesInstance : Type 0 where
  pub names : names_differ rows ≡ true
  -- `emit(p)`
  pub emitted : Asks (tree.emit (codes "p")) (Emit (codes "p"))
  -- `c = find(p, 'i #1').parent()`
  pub found :
      Asks
      (tree.bind (codes "c")
      (tree.search
      (record {
        version = codes "p";
        pattern = codes "i #1" ∷ [];
        moves = tree.go way.Parent ∷ [];
      })))
      (Search (codes "c") (codes "p") (Loop (Some (codes "i"))) 1 (Parent ∷ []))
  -- `d = c[2]`
  pub moved :
      Asks (tree.bind (codes "d") (tree.moved (codes "c") (tree.item (Value 2)) []))
      (Moved (codes "d") (codes "c") (Item 2 ∷ []))
  -- `q = divide_loop(p, c, 8, ['io', 'ii'])`, and with keys in either order
  pub divided : Asks (divide_line []) (asks_divided Guard)
  pub divided_cut :
      Asks (divide_line (perfect_key tree.no ∷ tail_key ∷ [])) (asks_divided CutAndGuard)
  pub divided_perfect :
      Asks (divide_line (tail_key ∷ perfect_key tree.yes ∷ [])) (asks_divided Perfect)
  -- `q = cut_loop(p, c, '5')` and `q = shift_loop(p, c, '5')`
  pub cut :
      Asks (on_c (codes "cut_loop") (codes "5"))
      (asks_at_c (WithControl CutLoop (number (Value 5))))
  pub shifted :
      Asks (on_c (codes "shift_loop") (codes "5"))
      (asks_at_c (WithControl ShiftLoop (number (Value 5))))
  -- `q = mult_loops(p, c, 'k')`
  pub multiplied :
      Asks (on_c (codes "mult_loops") (codes "k")) (asks_at_c (MultLoops (codes "k")))
  -- `q = unroll_loop(p, 'i #1')`
  pub unrolled :
      Asks (line_of (codes "unroll_loop") (text (codes "i #1") ∷ []))
      (asks
      (At (record { source = Here (Loop (Some (codes "i"))) 1; moves = [] })
      (Alone UnrollLoop)))
  -- `q = specialize(p, c, 'True')`
  pub specialized :
      Asks (on_c (codes "specialize") (codes "True")) (asks_at_c (Specialize (truth true)))
  -- `q = eliminate_dead_code(p, c)`, and with its key
  pub eliminated : Asks (eliminate_line []) (asks_eliminated None)
  pub body_kept : Asks (eliminate_line (keep_key (codes "body") ∷ [])) (asks_eliminated (Some Main))
  pub else_kept :
      Asks (eliminate_line (keep_key (codes "orelse") ∷ [])) (asks_eliminated (Some Else))
  -- `q = commute_expr(p, c, ' _ ')`
  pub commuted :
      Asks (on_c (codes "commute_expr") (codes " _ "))
      (asks_at_c (CommuteExpr (record { form = Read None; nth = 0 })))
  -- `q = stage_mem(p, c, 'x[i:j]', 'a')`, and with its key
  pub staged : Asks (stage_line (text (codes "a")) []) (asks_staged false)
  pub added_up :
      Asks (stage_line (text (codes "a")) (accum_key tree.yes ∷ [])) (asks_staged true)
  -- `q = rename(p, 'i')`
  pub renamed : Asks (line_of (codes "rename") (text (codes "i") ∷ [])) (asks (Rename (codes "i")))
  -- `q = delete_pass(p)`
  pub deleted : Asks (line_of (codes "delete_pass") []) (asks (Whole DeletePass))
  -- `q = vanish(p)`
  pub unknown : is_unknown (line_of (codes "vanish") []) ≡ true
  -- `q = rename(p)`
  pub bare : AsksNothing (line_of (codes "rename") [])
  -- a key stands once
  pub twice : AsksNothing (divide_line (tail_key ∷ tail_key ∷ []))
  pub kept_twice :
      AsksNothing (eliminate_line (keep_key (codes "body") ∷ keep_key (codes "body") ∷ []))
  -- neither branch, no key of this operator, and no key
  pub no_branch : AsksNothing (eliminate_line (keep_key (codes "else") ∷ []))
  pub no_keep : AsksNothing (eliminate_line (tail_key ∷ []))
  pub no_key : AsksNothing (eliminate_line (text (codes "body") ∷ []))
  pub staged_twice :
      AsksNothing
      (stage_line (text (codes "a")) (accum_key tree.yes ∷ accum_key tree.yes ∷ []))
  -- `q = reorder_loops(p)` and `q = reorder_loops(p, c, c)`
  pub no_cursor : AsksNothing (line_of (codes "reorder_loops") [])
  pub two_cursors : AsksNothing (line_of (codes "reorder_loops") (held_c ∷ held_c ∷ []))
  -- two names are no expression, a truth value is no control value, and a number no condition
  pub no_expression : AsksNothing (on_c (codes "cut_loop") (codes "i j"))
  pub no_control : AsksNothing (on_c (codes "cut_loop") (codes "True"))
  pub no_start : AsksNothing (on_c (codes "shift_loop") (codes "True"))
  pub no_condition : AsksNothing (on_c (codes "specialize") (codes "5"))
  -- a number is no name
  pub no_name : AsksNothing (on_c (codes "mult_loops") (codes "5"))

-- forms of arguments, whatever operators have them
pub record FormsInstance : Type 0 where
  -- `(p, c)` and `(p)`
  pub alone :
      (o : CursorOperator)
      → AsksOperation (operator.At (kind.Alone o)) (held_c ∷ []) (At at_c (Alone o))
  pub whole : (o : WholeOperator) → AsksOperation (operator.Whole o) [] (Whole o)
  -- behind a cursor: `M`
  pub with_word : (o : WordOperator)
      → AsksChange (kind.WithWord o) (word (codes "M") ∷ []) (WithWord o (codes "M"))
  -- `' _ ', 'a'`
  pub bound :
      AsksChange kind.BindExpr (text (codes " _ ") ∷ text (codes "a") ∷ [])
      (BindExpr (record { form = Read None; nth = 0 }) (codes "a"))
  -- `'5', '5'`
  pub expanded :
      AsksChange kind.ExpandDim (text (codes "5") ∷ text (codes "5") ∷ [])
      (ExpandDim (number (Value 5)) (number (Value 5)))
  -- `'x[i:j]', 'a'`, and with `accum=True`
  pub staged :
      AsksChange kind.StageMem (text (codes "x[i:j]") ∷ text (codes "a") ∷ [])
      (StageMem (codes "x", i_to_j ∷ []) (codes "a") false)
  pub added_up :
      AsksChange kind.StageMem
      (text (codes "x[i:j]") ∷ text (codes "a") ∷ accum_key tree.yes ∷ [])
      (StageMem (codes "x", i_to_j ∷ []) (codes "a") true)
  -- `C, 'f', '5'` and `C, 'f', 'True'`
  pub number_written :
      AsksChange kind.WriteConfig (word (codes "C") ∷ text (codes "f") ∷ text (codes "5") ∷ [])
      (WriteConfig (codes "C") (codes "f") (number (Value 5)))
  pub truth_written :
      AsksChange kind.WriteConfig (word (codes "C") ∷ text (codes "f") ∷ text (codes "True") ∷ [])
      (WriteConfig (codes "C") (codes "f") (truth true))
  -- `'n', C, 'f'`
  pub field_bound :
      AsksChange kind.BindConfig (text (codes "n") ∷ word (codes "C") ∷ text (codes "f") ∷ [])
      (BindConfig (codes "n") (codes "C") (codes "f"))
  -- no argument, and one too many
  pub no_cursor :
      (o : CursorOperator) (x : Operation) → AsksOperation (operator.At (kind.Alone o)) [] x → ⊥
  pub more : (o : CursorOperator) (x : Change) → AsksChange (kind.Alone o) (held_c ∷ []) x → ⊥
  -- a string is no word, and a word no name
  pub no_word :
      (o : WordOperator) (x : Change) → AsksChange (kind.WithWord o) (text (codes "M") ∷ []) x → ⊥
  pub no_name :
      (x : Change)
      → AsksChange kind.BindConfig (word (codes "n") ∷ word (codes "C") ∷ text (codes "f") ∷ []) x
      → ⊥
  -- `'x[i]', 'a'`: a window has a span
  pub no_span :
      (x : Change) → AsksChange kind.StageMem (text (codes "x[i]") ∷ text (codes "a") ∷ []) x → ⊥
  -- `accum='True'` is no truth value, and `perfect` no key of this form
  pub no_truth :
      (x : Change)
      → AsksChange kind.StageMem
      (text (codes "x[i:j]") ∷ text (codes "a") ∷ accum_key (tree.text (codes "True" ∷ [])) ∷ []) x
      → ⊥
  pub no_accum :
      (x : Change)
      → AsksChange kind.StageMem
      (text (codes "x[i:j]") ∷ text (codes "a") ∷ perfect_key tree.yes ∷ []) x
      → ⊥
