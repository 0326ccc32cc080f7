-- The source trees of procedures are of the grammar.
use Rattle.std.proofs.Common.{◌≡◌, ℕ, ◌+◌, ◌≤◌, ℤ, pos, negsuc, List, [], ◌∷◌, map, length, Bool, true, false, cond, ltb, Option, Some, None, codes, refl, sym, ap, append-nil, arith, subst}
use Rattle.std.proofs.lemmas.Bool.Decides.{nat_tests}
use Rattle.text_phrases.specs.Limits.{Limits, unlimited, in_depth, in_length, in_size, Keeps}
use Rattle.text_phrases.specs.Phrase.{Phrase}
use Rattle.text_phrases.specs.Sequence.{AllFit, MaybeFits}
use Rattle.exo_tree.specs.Tree as tree
use Rattle.exo_tree.specs.Tree.{Cell, Kind, Control, Lit, Var, Field, StrideOf, Neg, Add, Sub, Mul, Div, Mod, Condition, Flag, FieldFlag, Lt, Le, Gt, Ge, Eq, And, Or, Datum, Const, Read, Negated, Relu, Plus, Minus, Times, Select, Coord, At, Span, Argument, ControlArg, ConditionArg, Whole, Window, Statement, Assign, Reduce, Config, Pass, If, For, Alloc, View, Call, Block, end, next, ParamKind, ControlParam, TensorParam, WindowParam, Param, Procedure, Program}
use Rattle.exo_tree.specs.Named.{cell_word}
use Rattle.text_expressions.specs.Values.{IsShortName, name}
use Rattle.text_expressions.specs.Expression.{Tree, trees, parens, Stands, AllStand, IsSmall, AreSmall, Within, operand, control, datum, control_room, data_room, most_depth}
use Rattle.text_expressions.specs.declared.expression.Room.{Room}
use Rattle.exo_reader.specs.Source as source
use Rattle.exo_reader.specs.Parts.{HasSome as SomeItem, MaybeDimsFit, dims, memory, TypeNameFits, form, parameter, parameters}
use Rattle.exo_reader.specs.Statements.{HasSpan, coordinate, argument, argument_of as argument_phrase, arguments, statement, StatementFits, BlockFits, IsSome as SomeStatement}
use Rattle.text_lexer.specs.declared.token.Token.{Token}
use Rattle.exo_reader.specs.Items.{assertion, definition, item}
use Rattle.text_show.specs.Layout.{Text}
use Rattle.text_show.specs.Names.{names_of}
use Rattle.text_show.specs.Words.{Words, words_with, words_of}
use Rattle.text_show.specs.ControlText.{precedence_of, condition_precedence}
use Rattle.text_show.specs.DatumText.{datum_precedence}
use Rattle.exo_types_laws.specs.Shown.Names.{Each}
use Rattle.exo_types_laws.specs.Shown.Written.{literal_tree, placed, access_tree, has_span}
use Rattle.exo_types_laws.specs.Shown.Written.{kind_name, control_tree, condition_tree, datum_tree}
use Rattle.exo_types_laws.specs.Shown.Written.{coordinate_of, low_tree, argument_of, stored_tree}
use Rattle.exo_types_laws.specs.Shown.Written.{statement_of, block_of, form_of, parameter_of}
use Rattle.exo_types_laws.specs.Shown.Written.{definition_of, marked, written}
use Rattle.exo_types_laws.specs.Shown.Writable.{IsLiteral, HasSome, IsSome, IsControl, IsCondition}
use Rattle.exo_types_laws.specs.Shown.Writable.{IsDatum, IsCoord, IsArgument, IsStored, IsStatement}
use Rattle.exo_types_laws.specs.Shown.Writable.{IsBlock, IsParamKind, IsParam, IsWritable}
use Rattle.exo_types_laws.specs.Shown.Sizes.{IsWithin, IsWithinControl, IsWithinDims}
use Rattle.exo_types_laws.specs.Shown.Sizes.{IsWithinCoordinate, IsWithinWindow, IsWithinArgument}
use Rattle.exo_types_laws.specs.Shown.Sizes.{IsShortMemory, IsWithinStatement, IsWithinBlock}
use Rattle.exo_types_laws.specs.Shown.Sizes.{dims_of, IsWithinParameter, IsWithinDefinition}
use Rattle.exo_types_laws.specs.Shown.Sizes.{IsWithinItem}

keeps : (limits : Limits) (A B C : Type 0) → A → B → C → Keeps limits A B C
keeps unlimited A B C a b c = tt
keeps in_depth A B C a b c = a
keeps in_length A B C a b c = (a, b)
keeps in_size A B C a b c = (a, b, c)

short_name : (limits : Limits) (x : List ℕ) → IsShortName x → name.Fits limits x
short_name limits x short = keeps limits (Unit {0}) (IsShortName x) (Unit {0}) tt short tt

within : (limits : Limits) (room : Room) (e : Tree) → IsWithin room e → IsSmall e → Within limits room e
within limits room e is small = keeps limits _ _ _ is.depth (is.nodes, is.short) small

memory_fits : (limits : Limits) (m : Option (List ℕ)) → IsShortMemory m → MaybeFits memory limits m
memory_fits limits None k = tt
memory_fits limits (Some x) k = short_name limits x k

cell_short : (limits : Limits) (cell : Cell) → name.Fits limits (cell_word cell)
cell_short limits tree.I8 = short_name limits (codes "i8") (omega arith)
cell_short limits tree.I16 = short_name limits (codes "i16") (omega arith)
cell_short limits tree.I32 = short_name limits (codes "i32") (omega arith)
cell_short limits tree.Ui8 = short_name limits (codes "ui8") (omega arith)

kind_short : (limits : Limits) (kind : Kind) → TypeNameFits limits (kind_name kind)
kind_short limits tree.Size = short_name limits (codes "size") (omega arith)
kind_short limits tree.Index = short_name limits (codes "index") (omega arith)
kind_short limits tree.Truth = short_name limits (codes "bool") (omega arith)
kind_short limits tree.Stride = tt

block_back : (b : source.Block) → source.block_of (source.statements b) ≡ b
block_back source.end = refl
block_back (source.next a more) = ap (source.next a) (block_back more)

all_statements : (limits : Limits) (nesting : ℕ) (b : source.Block) → BlockFits limits nesting b → AllFit (statement nesting) limits (source.statements b)
all_statements limits nesting source.end h = tt
all_statements limits nesting (source.next a more) h = (h.0, all_statements limits nesting more h.1)

-- ---- precedence

literal_small : (n : ℤ) → IsSmall (literal_tree n)
literal_small (pos n) = tt
literal_small (negsuc n) = tt

literal_stands : (n : ℤ) → IsLiteral n → (level : ℕ) → Stands level (literal_tree n)
literal_stands (pos n) h level = tt
literal_stands (negsuc n) h level = absurd h

small_by : (q : Bool) (e : Tree) → IsSmall e → IsSmall (cond q (parens e) e)
small_by true e h = h
small_by false e h = h

stands_by : (q : Bool) (place precedence : ℕ) (e : Tree) → ltb precedence place ≡ q → ((level : ℕ) → level ≤ precedence → Stands level e) → Stands place (cond q (parens e) e)
stands_by true place precedence e is h = h 0 (omega arith)
stands_by false place precedence e is h = h place (grind (arith, nat_tests, is))

placed_stands : (place precedence : ℕ) (e : Tree) → ((level : ℕ) → level ≤ precedence → Stands level e) → Stands place (placed place precedence e)
placed_stands place precedence e h = stands_by (ltb precedence place) place precedence e refl h

placed_small : (place precedence : ℕ) (e : Tree) → IsSmall e → IsSmall (placed place precedence e)
placed_small place precedence e h = small_by (ltb precedence place) e h

module _ (program : Program) (names : ℕ → Text) where
  abbrev words : Words
  words = words_with program names

  abbrev of_control : Control → Tree
  of_control e = control_tree words program.fields e

  abbrev of_condition : Condition → Tree
  of_condition c = condition_tree words program.fields c

  abbrev of_datum : Datum → Tree
  of_datum e = datum_tree words program.fields e

  control_stands : (e : Control) → IsControl program names e → (level : ℕ) → level ≤ precedence_of e → Stands level (of_control e)
  control_stands (Lit n) h level l = literal_stands n h level
  control_stands (Var x) h level l = tt
  control_stands (Field f) h level l = tt
  control_stands (StrideOf x k) h level l = tt
  control_stands (Neg a) h level l = placed_stands 5 (precedence_of a) (of_control a) (control_stands a h)
  control_stands (Add a b) h level l = (l, placed_stands 3 (precedence_of a) (of_control a) (control_stands a h.0), placed_stands 4 (precedence_of b) (of_control b) (control_stands b h.1))
  control_stands (Sub a b) h level l = (l, placed_stands 3 (precedence_of a) (of_control a) (control_stands a h.0), placed_stands 4 (precedence_of b) (of_control b) (control_stands b h.1))
  control_stands (Mul a b) h level l = (l, placed_stands 4 (precedence_of a) (of_control a) (control_stands a h.0), placed_stands 5 (precedence_of b) (of_control b) (control_stands b h.1))
  control_stands (Div a n) h level l = (l, placed_stands 4 (precedence_of a) (of_control a) (control_stands a h.0), literal_stands n h.1 5)
  control_stands (Mod a n) h level l = (l, placed_stands 4 (precedence_of a) (of_control a) (control_stands a h.0), literal_stands n h.1 5)

  control_small : (e : Control) → IsSmall (of_control e)
  control_small (Lit n) = literal_small n
  control_small (Var x) = tt
  control_small (Field f) = tt
  control_small (StrideOf x k) = tt
  control_small (Neg a) = placed_small 5 (precedence_of a) (of_control a) (control_small a)
  control_small (Add a b) = (placed_small 3 (precedence_of a) (of_control a) (control_small a), placed_small 4 (precedence_of b) (of_control b) (control_small b))
  control_small (Sub a b) = (placed_small 3 (precedence_of a) (of_control a) (control_small a), placed_small 4 (precedence_of b) (of_control b) (control_small b))
  control_small (Mul a b) = (placed_small 4 (precedence_of a) (of_control a) (control_small a), placed_small 5 (precedence_of b) (of_control b) (control_small b))
  control_small (Div a n) = (placed_small 4 (precedence_of a) (of_control a) (control_small a), literal_small n)
  control_small (Mod a n) = (placed_small 4 (precedence_of a) (of_control a) (control_small a), literal_small n)

  -- sums bind tighter than comparisons
  sum_at_least : (e : Control) → 3 ≤ precedence_of e
  sum_at_least (Lit n) = omega arith
  sum_at_least (Var x) = omega arith
  sum_at_least (Field f) = omega arith
  sum_at_least (StrideOf x k) = omega arith
  sum_at_least (Neg a) = omega arith
  sum_at_least (Add a b) = omega arith
  sum_at_least (Sub a b) = omega arith
  sum_at_least (Mul a b) = omega arith
  sum_at_least (Div a n) = omega arith
  sum_at_least (Mod a n) = omega arith

  side : (e : Control) → IsControl program names e → Stands 3 (of_control e)
  side e h = control_stands e h 3 (sum_at_least e)

  condition_stands : (c : Condition) → IsCondition program names c → (level : ℕ) → level ≤ condition_precedence c → Stands level (of_condition c)
  condition_stands tree.True h level l = tt
  condition_stands tree.False h level l = tt
  condition_stands (Flag x) h level l = tt
  condition_stands (FieldFlag f) h level l = tt
  condition_stands (Lt a b) h level l = (l, side a h.0, side b h.1)
  condition_stands (Le a b) h level l = (l, side a h.0, side b h.1)
  condition_stands (Gt a b) h level l = (l, side a h.0, side b h.1)
  condition_stands (Ge a b) h level l = (l, side a h.0, side b h.1)
  condition_stands (Eq a b) h level l = (l, side a h.0, side b h.1)
  condition_stands (And a b) h level l = (l, placed_stands 1 (condition_precedence a) (of_condition a) (condition_stands a h.0), placed_stands 2 (condition_precedence b) (of_condition b) (condition_stands b h.1))
  condition_stands (Or a b) h level l = (l, placed_stands 0 (condition_precedence a) (of_condition a) (condition_stands a h.0), placed_stands 1 (condition_precedence b) (of_condition b) (condition_stands b h.1))

  condition_small : (c : Condition) → IsSmall (of_condition c)
  condition_small tree.True = tt
  condition_small tree.False = tt
  condition_small (Flag x) = tt
  condition_small (FieldFlag f) = tt
  condition_small (Lt a b) = (control_small a, control_small b)
  condition_small (Le a b) = (control_small a, control_small b)
  condition_small (Gt a b) = (control_small a, control_small b)
  condition_small (Ge a b) = (control_small a, control_small b)
  condition_small (Eq a b) = (control_small a, control_small b)
  condition_small (And a b) = (placed_small 1 (condition_precedence a) (of_condition a) (condition_small a), placed_small 2 (condition_precedence b) (of_condition b) (condition_small b))
  condition_small (Or a b) = (placed_small 0 (condition_precedence a) (of_condition a) (condition_small a), placed_small 1 (condition_precedence b) (of_condition b) (condition_small b))

  all_stand : (is : List Control) → Each (IsControl program names) is → AllStand (trees (map of_control is))
  all_stand [] h = tt
  all_stand (e ∷ is) h = (control_stands e h.0 0 (omega arith), all_stand is h.1)

  all_small : (is : List Control) → AreSmall (trees (map of_control is))
  all_small [] = tt
  all_small (e ∷ is) = (control_small e, all_small is)

  access_stands : (x : List ℕ) (is : List Control) → Each (IsControl program names) is → (level : ℕ) → Stands level (access_tree x (map of_control is))
  access_stands x [] h level = tt
  access_stands x (e ∷ is) h level = (tt, all_stand (e ∷ is) h)

  access_small : (x : List ℕ) (is : List Control) → IsSmall (access_tree x (map of_control is))
  access_small x [] = tt
  access_small x (e ∷ is) = all_small (e ∷ is)

  datum_stands : (e : Datum) → IsDatum program names e → (level : ℕ) → level ≤ datum_precedence e → Stands level (of_datum e)
  datum_stands (Const n) h level l = literal_stands n h level
  datum_stands (Read x is) h level l = access_stands (names x) is h.1 level
  datum_stands (Negated a) h level l = placed_stands 5 (datum_precedence a) (of_datum a) (datum_stands a h)
  datum_stands (Plus a b) h level l = (l, placed_stands 3 (datum_precedence a) (of_datum a) (datum_stands a h.0), placed_stands 4 (datum_precedence b) (of_datum b) (datum_stands b h.1))
  datum_stands (Minus a b) h level l = (l, placed_stands 3 (datum_precedence a) (of_datum a) (datum_stands a h.0), placed_stands 4 (datum_precedence b) (of_datum b) (datum_stands b h.1))
  datum_stands (Times a b) h level l = (l, placed_stands 4 (datum_precedence a) (of_datum a) (datum_stands a h.0), placed_stands 5 (datum_precedence b) (of_datum b) (datum_stands b h.1))
  datum_stands (Relu a) h level l = datum_stands a h 0 (omega arith)
  datum_stands (Select a b c d) h level l = (datum_stands a h.0 0 (omega arith), datum_stands b h.1 0 (omega arith), datum_stands c h.2 0 (omega arith), datum_stands d h.3 0 (omega arith))

  datum_small : (e : Datum) → IsSmall (of_datum e)
  datum_small (Const n) = literal_small n
  datum_small (Read x is) = access_small (names x) is
  datum_small (Negated a) = placed_small 5 (datum_precedence a) (of_datum a) (datum_small a)
  datum_small (Plus a b) = (placed_small 3 (datum_precedence a) (of_datum a) (datum_small a), placed_small 4 (datum_precedence b) (of_datum b) (datum_small b))
  datum_small (Minus a b) = (placed_small 3 (datum_precedence a) (of_datum a) (datum_small a), placed_small 4 (datum_precedence b) (of_datum b) (datum_small b))
  datum_small (Times a b) = (placed_small 4 (datum_precedence a) (of_datum a) (datum_small a), placed_small 5 (datum_precedence b) (of_datum b) (datum_small b))
  datum_small (Relu a) = datum_small a
  datum_small (Select a b c d) = (datum_small a, datum_small b, datum_small c, datum_small d)

  -- ---- expressions within the limits

  control_fits : (limits : Limits) (e : Control) → IsControl program names e → IsWithinControl (of_control e) → control.Fits limits (of_control e)
  control_fits limits e h is = (control_stands e h 0 (omega arith), within limits (control_room most_depth) (of_control e) is (control_small e))

  condition_fits : (limits : Limits) (c : Condition) → IsCondition program names c → IsWithinControl (of_condition c) → control.Fits limits (of_condition c)
  condition_fits limits c h is = (condition_stands c h 0 (omega arith), within limits (control_room most_depth) (of_condition c) is (condition_small c))

  datum_fits : (limits : Limits) (e : Datum) → IsDatum program names e → IsWithin data_room (of_datum e) → datum.Fits limits (of_datum e)
  datum_fits limits e h is = (datum_stands e h 0 (omega arith), within limits data_room (of_datum e) is (datum_small e))

  all_fit : (limits : Limits) (is : List Control) → Each (IsControl program names) is → Each IsWithinControl (map of_control is) → AllFit (operand 0 (control_room most_depth)) limits (map of_control is)
  all_fit limits [] h k = tt
  all_fit limits (e ∷ is) h k = (control_fits limits e h.0 k.0, all_fit limits is h.1 k.1)

  dims_fit : (limits : Limits) (is : List Control) → Each (IsControl program names) is → HasSome is → IsWithinDims (map of_control is) → dims.Fits limits (map of_control is)
  dims_fit limits [] h some is = absurd some
  dims_fit limits (e ∷ is) h some k = (control_fits limits e h.0 k.1.0, all_fit limits is h.1 k.1.1, keeps limits _ _ _ tt k.0 tt)

  maybe_fit : (limits : Limits) (is : List Control) → Each (IsControl program names) is → IsWithinDims (map of_control is) → MaybeDimsFit limits (map of_control is)
  maybe_fit limits [] h k = tt
  maybe_fit limits (e ∷ is) h k = dims_fit limits (e ∷ is) h tt k

  -- ---- windows and arguments

  coord_fits : (limits : Limits) (c : Coord) → IsCoord program names c → IsWithinCoordinate (coordinate_of words program.fields c) → coordinate.Fits limits (coordinate_of words program.fields c)
  coord_fits limits (At a) h k = control_fits limits a h k
  coord_fits limits (Span a b) h k = (control_fits limits a h.0 k.0, control_fits limits b h.1 k.1)

  coords_fit : (limits : Limits) (cs : List Coord) → Each (IsCoord program names) cs → Each IsWithinCoordinate (map (coordinate_of words program.fields) cs) → AllFit coordinate limits (map (coordinate_of words program.fields) cs)
  coords_fit limits [] h k = tt
  coords_fit limits (c ∷ cs) h k = (coord_fits limits c h.0 k.0, coords_fit limits cs h.1 k.1)

  has_spans : (cs : List Coord) → has_span cs ≡ true → HasSpan (map (coordinate_of words program.fields) cs)
  has_spans [] e = absurd (grind (arith, e))
  has_spans (At a ∷ cs) e = has_spans cs e
  has_spans (Span a b ∷ cs) e = tt

  window_fits : (P : Phrase Token Tree) (limits : Limits) (x : List ℕ) (cs : List Coord) → Each (IsCoord program names) cs → has_span cs ≡ true → IsWithinWindow x (map (coordinate_of words program.fields) cs) → (argument_phrase P).Fits limits (source.window x (map (coordinate_of words program.fields) cs))
  window_fits P limits x [] h e k = absurd (grind (arith, e))
  window_fits P limits x (c ∷ cs) h e k =
      (short_name limits x k.0, (coord_fits limits c h.0 k.2.0, coords_fit limits cs h.1 k.2.1, keeps limits _ _ _ tt k.1 tt), has_spans (c ∷ cs) e)

  low_stands : (c : Coord) → IsCoord program names c → Stands 0 (low_tree words program.fields c)
  low_stands (At a) h = control_stands a h 0 (omega arith)
  low_stands (Span a b) h = control_stands a h.0 0 (omega arith)

  low_small : (c : Coord) → IsSmall (low_tree words program.fields c)
  low_small (At a) = control_small a
  low_small (Span a b) = control_small a

  lows_stand : (cs : List Coord) → Each (IsCoord program names) cs → AllStand (trees (map (low_tree words program.fields) cs))
  lows_stand [] h = tt
  lows_stand (c ∷ cs) h = (low_stands c h.0, lows_stand cs h.1)

  lows_small : (cs : List Coord) → AreSmall (trees (map (low_tree words program.fields) cs))
  lows_small [] = tt
  lows_small (c ∷ cs) = (low_small c, lows_small cs)

  cell_fits : (limits : Limits) (x : List ℕ) (cs : List Coord) → Each (IsCoord program names) cs → IsWithinControl (access_tree x (map (low_tree words program.fields) cs)) → control.Fits limits (access_tree x (map (low_tree words program.fields) cs))
  cell_fits limits x [] h k = (tt, within limits (control_room most_depth) (access_tree x []) k tt)
  cell_fits limits x (c ∷ cs) h k = ((tt, lows_stand (c ∷ cs) h), within limits (control_room most_depth) (access_tree x (map (low_tree words program.fields) (c ∷ cs))) k (lows_small (c ∷ cs)))

  window_by : (limits : Limits) (x : List ℕ) (cs : List Coord) (q : Bool) → has_span cs ≡ q → Each (IsCoord program names) cs
      → IsWithinArgument (cond q (source.window x (map (coordinate_of words program.fields) cs)) (source.value (access_tree x (map (low_tree words program.fields) cs))))
      → argument.Fits limits (cond q (source.window x (map (coordinate_of words program.fields) cs)) (source.value (access_tree x (map (low_tree words program.fields) cs))))
  window_by limits x cs true e h k = window_fits control limits x cs h e k
  window_by limits x cs false e h k = cell_fits limits x cs h k

  variable_fits : (limits : Limits) (x : List ℕ) → IsWithinControl (access_tree x []) → control.Fits limits (access_tree x [])
  variable_fits limits x k = (tt, within limits (control_room most_depth) (access_tree x []) k tt)

  argument_fits : (limits : Limits) (a : Argument) → IsArgument program names a → IsWithinArgument (argument_of words program.fields a) → argument.Fits limits (argument_of words program.fields a)
  argument_fits limits (ControlArg e) h k = control_fits limits e h k
  argument_fits limits (ConditionArg c) h k = condition_fits limits c h k
  argument_fits limits (Whole x) h k = variable_fits limits (names x) k
  argument_fits limits (Window x coords) h k = window_by limits (names x) coords (has_span coords) refl h.1 k

  arguments_fit : (limits : Limits) (args : List Argument) → Each (IsArgument program names) args → Each IsWithinArgument (map (argument_of words program.fields) args) → AllFit argument limits (map (argument_of words program.fields) args)
  arguments_fit limits [] h k = tt
  arguments_fit limits (a ∷ args) h k = (argument_fits limits a h.0 k.0, arguments_fit limits args h.1 k.1)

  enclosed_fit : (limits : Limits) (args : List Argument) → Each (IsArgument program names) args → Each IsWithinArgument (map (argument_of words program.fields) args) → arguments.Fits limits (map (argument_of words program.fields) args, false)
  enclosed_fit limits [] h k = tt
  enclosed_fit limits (a ∷ args) h k = (argument_fits limits a h.0 k.0, (arguments_fit limits args h.1 k.1, keeps limits _ _ _ tt tt tt))

  stored_fits : (limits : Limits) (a : Argument) → IsStored program names a → IsWithinControl (stored_tree words program.fields a) → control.Fits limits (stored_tree words program.fields a)
  stored_fits limits (ControlArg e) h k = control_fits limits e h k
  stored_fits limits (ConditionArg c) h k = condition_fits limits c h k
  stored_fits limits (Whole x) h k = absurd h
  stored_fits limits (Window x coords) h k = absurd h

  -- ---- statements

  some_block : (b : Block) → IsSome b → SomeStatement (block_of words program.fields b)
  some_block end some = absurd some
  some_block (next a b) some = tt

  mutual
    statement_fits : (a : Statement) → IsStatement program names a → (limits : Limits) (nesting : ℕ) → IsWithinStatement nesting (statement_of words program.fields a) → StatementFits limits nesting (statement_of words program.fields a)
    statement_fits (Assign x is e) h limits nesting k = (short_name limits (names x) k.0, maybe_fit limits is h.0.1 k.1, datum_fits limits e h.1 k.2)
    statement_fits (Reduce x is e) h limits nesting k = (short_name limits (names x) k.0, maybe_fit limits is h.0.1 k.1, datum_fits limits e h.1 k.2)
    statement_fits (Config f a) h limits nesting k = (short_name limits _ k.0, short_name limits _ k.1, stored_fits limits a h.1 k.2)
    statement_fits Pass h limits nesting k = tt
    statement_fits (If c a b) h limits nesting k = (keeps limits _ _ _ k.0 tt tt, condition_fits limits c h.0 k.1, some_block a h.1, block_fits a h.2 limits (nesting + 1) k.2, block_fits b h.3 limits (nesting + 1) k.3)
    statement_fits (For i lo hi b) h limits nesting k = (keeps limits _ _ _ k.0 tt tt, short_name limits i.name k.1, control_fits limits lo h.1 k.2, control_fits limits hi h.2 k.3, some_block b h.3, block_fits b h.4 limits (nesting + 1) k.4)
    statement_fits (Alloc x cell dims m) h limits nesting k = (short_name limits x.name k.0, cell_short limits cell, maybe_fit limits dims h.1 k.1, memory_fits limits _ k.2)
    statement_fits (View v x coords) h limits nesting k = (short_name limits v.name k.0, window_fits datum limits (names x) coords h.2 h.3 k.1)
    statement_fits (Call f args) h limits nesting k = (short_name limits _ k.0, enclosed_fit limits args h.1 k.1)

    block_fits : (b : Block) → IsBlock program names b → (limits : Limits) (nesting : ℕ) → IsWithinBlock nesting (block_of words program.fields b) → BlockFits limits nesting (block_of words program.fields b)
    block_fits end h limits nesting k = tt
    block_fits (next a b) h limits nesting k = (statement_fits a h.0 limits nesting k.0, block_fits b h.1 limits nesting k.1)

  -- ---- parameters and the whole procedure

  form_fits : (limits : Limits) (kind : ParamKind) → IsParamKind program names kind → IsWithinDims (dims_of (form_of words program.fields kind)) → form.Fits limits (form_of words program.fields kind)
  form_fits limits (ControlParam kind) h k = (kind_short limits kind, tt)
  form_fits limits (TensorParam cell dims m) h k = (cell_short limits cell, maybe_fit limits dims h.0 k)
  form_fits limits (WindowParam cell dims m) h k = (cell_short limits cell, dims_fit limits dims h.0 h.1 k)

  param_fits : (limits : Limits) (p : Param) → IsParam program names p → IsWithinParameter (parameter_of words program.fields p) → parameter.Fits limits (parameter_of words program.fields p)
  param_fits limits p h k = (short_name limits p.binder.name k.name, form_fits limits p.kind h.1 k.dims, memory_fits limits _ k.memory)

  params_fit : (limits : Limits) (ps : List Param) → Each (IsParam program names) ps → Each IsWithinParameter (map (parameter_of words program.fields) ps) → AllFit parameter limits (map (parameter_of words program.fields) ps)
  params_fit limits [] h k = tt
  params_fit limits (p ∷ ps) h k = (param_fits limits p h.0 k.0, params_fit limits ps h.1 k.1)

  parameters_fit : (limits : Limits) (ps : List Param) → Each (IsParam program names) ps → length (map (parameter_of words program.fields) ps) ≤ 32 → Each IsWithinParameter (map (parameter_of words program.fields) ps) → parameters.Fits limits (map (parameter_of words program.fields) ps, false)
  parameters_fit limits [] h few k = tt
  parameters_fit limits (p ∷ ps) h few k = (param_fits limits p h.0 k.0, (params_fit limits ps h.1 k.1, keeps limits _ _ _ tt (omega (arith, few)) tt))

  asserts_fit : (limits : Limits) (cs : List Condition) → Each (IsCondition program names) cs → Each IsWithinControl (map of_condition cs) → AllFit assertion limits (map of_condition cs)
  asserts_fit limits [] h k = tt
  asserts_fit limits (c ∷ cs) h k = (condition_fits limits c h.0 k.0, asserts_fit limits cs h.1 k.1)

  some_statements : (b : Block) → IsSome b → SomeItem (source.statements (block_of words program.fields b))
  some_statements end some = absurd some
  some_statements (next a b) some = tt

  definition_fits : (limits : Limits) (p : Procedure) → Each (IsParam program names) p.params → Each (IsCondition program names) p.asserts → IsSome p.body → IsBlock program names p.body → IsWithinDefinition (definition_of words program.fields p) → definition.Fits limits (definition_of words program.fields p)
  definition_fits limits p h g some is k =
      let body : IsWithinBlock 1 (block_of words program.fields p.body) = subst (IsWithinBlock 1) (block_back (block_of words program.fields p.body)) k.body in
      (short_name limits p.name k.name, parameters_fit limits p.params h k.few k.params, asserts_fit limits p.asserts g k.asserts, ((all_statements limits 1 (block_of words program.fields p.body) (block_fits p.body is limits 1 body), some_statements p.body some), tt))

marked_fits : (limits : Limits) (template : Option (List ℕ)) (p : source.Definition) → (IsWithinDefinition p → definition.Fits limits p) → IsWithinItem (marked template p) → item.Fits limits (marked template p)
marked_fits limits None p h k = h k
marked_fits limits (Some template) p h k = (((((tt, tt), keeps limits _ _ _ tt (subst (λ (x : List ℕ). length x ≤ 1024) (sym (append-nil template)) k.0) tt), tt)), h k.1)

pub written_fits : (program : Program) (p : Procedure) → IsWritable program p → IsWithinItem (written program p) → (limits : Limits) → item.Fits limits (written program p)
written_fits program p h k limits = marked_fits limits p.template (definition_of (words_of program p) program.fields p) (λ is. definition_fits program (names_of p) limits p h.params h.asserts h.some h.body is) k
