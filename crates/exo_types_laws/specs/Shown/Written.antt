-- The source trees that the shown text of a procedure spells.
use Rattle.std.specs.Prelude.{ℕ, suc, ℤ, pos, negsuc, Bool, true, false, nat_lt, if◌then◌else◌}
use Rattle.std.specs.Prelude.{◌==◌, List, [], ◌∷◌, map, Option, Some, None, slice_get}
use Rattle.exo_tree.specs.Tree as tree
use Rattle.exo_tree.specs.Tree.{Cell, Kind, Control, Lit, Var, Field, StrideOf, Neg, Add, Sub, Mul}
use Rattle.exo_tree.specs.Tree.{Div, Mod, Condition, Flag, FieldFlag, Lt, Le, Gt, Ge, Eq, And, Or}
use Rattle.exo_tree.specs.Tree.{Datum, Const, Read, Negated, Relu, Plus, Minus, Times, Select}
use Rattle.exo_tree.specs.Tree.{Coord, At, Span, Argument, ControlArg, ConditionArg, Whole, Window}
use Rattle.exo_tree.specs.Tree.{Statement, Assign, Reduce, Config, Pass, If, For, Alloc, View, Call}
use Rattle.exo_tree.specs.Tree.{Block, end, next, ParamKind, ControlParam, TensorParam, WindowParam}
use Rattle.exo_tree.specs.Tree.{Param, ConfigField, Procedure, Program}
use Rattle.exo_tree.specs.Named.{cell_word}
use Rattle.text_lexer.specs.declared.token.Literal.TheVariants.{Value}
use Rattle.text_expressions.specs.declared.source.Infix.TheVariants as o
use Rattle.text_expressions.specs.Expression.{Tree, number, truth, variable, access, field, stride}
use Rattle.text_expressions.specs.Expression.{relu, select, negative, parens, binary, trees}
use Rattle.exo_reader.specs.Source as source
use Rattle.exo_reader.specs.Source.{Coordinate, point, span, TypeName, named, Form, Parameter}
use Rattle.exo_reader.specs.Source.{Definition, Item}
use Rattle.text_show.specs.Names.{unknown}
use Rattle.text_show.specs.Words.{Words, words_of, kind_word}
use Rattle.text_show.specs.ControlText.{precedence_of, condition_precedence}
use Rattle.text_show.specs.DatumText.{datum_precedence}
use Rattle.text_show.specs.declared.precedence.TheConstants.{DISJUNCTION, CONJUNCTION, COMPARISON}
use Rattle.text_show.specs.declared.precedence.TheConstants.{SUM, PRODUCT, UNARY}

-- a number; show writes a sign before one below 0
abbrev pub literal_tree : ℤ → Tree
literal_tree (pos n) = number (Value n)
literal_tree (negsuc n) = negative (number (Value (suc n)))

-- an operand of that precedence in its place, which has parentheses where it binds more loosely than the place asks
abbrev pub placed : ℕ → ℕ → Tree → Tree
placed place precedence e = if nat_lt precedence place then parens e else e

-- the bare name where there is no index
abbrev pub access_tree : List ℕ → List Tree → Tree
access_tree x [] = variable x
access_tree x (e ∷ more) = access x (trees (e ∷ more))

-- the configuration of a field, and its name in that
abbrev pub config_of : ℕ → Option ConfigField → List ℕ
config_of f None = unknown f
config_of f (Some x) = x.config

abbrev pub field_of : ℕ → Option ConfigField → List ℕ
field_of f None = unknown f
field_of f (Some x) = x.name

abbrev pub config_word : List ConfigField → ℕ → List ℕ
config_word fields f = config_of f (slice_get fields f)

abbrev pub field_word : List ConfigField → ℕ → List ℕ
field_word fields f = field_of f (slice_get fields f)

-- some coordinate is a span
abbrev pub has_span : List Coord → Bool
has_span [] = false
has_span (At a ∷ more) = has_span more
has_span (Span a b ∷ more) = true

-- a template is one string
abbrev pub marked : Option (List ℕ) → Definition → Item
marked None d = source.procedure d
marked (Some template) d = source.instruction (template ∷ []) d

-- `stride` is a word of the grammar, other kinds are names
abbrev pub kind_name : Kind → TypeName
kind_name tree.Size = named (kind_word tree.Size)
kind_name tree.Index = named (kind_word tree.Index)
kind_name tree.Truth = named (kind_word tree.Truth)
kind_name tree.Stride = source.stride

-- the words of names, memories and callees, and the fields of configurations
module _ (w : Words) (fields : List ConfigField) where
  abbrev pub field_tree : ℕ → Tree
  field_tree f = field (config_word fields f) (field_word fields f)

  abbrev pub control_tree : Control → Tree
  control_tree (Lit n) = literal_tree n
  control_tree (Var x) = variable (w.name x)
  control_tree (Field f) = field_tree f
  control_tree (StrideOf x k) = stride (w.name x) (Value k)
  control_tree (Neg a) = negative (placed UNARY (precedence_of a) (control_tree a))
  control_tree (Add a b) =
      binary o.Add (placed SUM (precedence_of a) (control_tree a))
      (placed PRODUCT (precedence_of b) (control_tree b))
  control_tree (Sub a b) =
      binary o.Sub (placed SUM (precedence_of a) (control_tree a))
      (placed PRODUCT (precedence_of b) (control_tree b))
  control_tree (Mul a b) =
      binary o.Mul (placed PRODUCT (precedence_of a) (control_tree a))
      (placed UNARY (precedence_of b) (control_tree b))
  control_tree (Div a n) =
      binary o.Div (placed PRODUCT (precedence_of a) (control_tree a)) (literal_tree n)
  control_tree (Mod a n) =
      binary o.Mod (placed PRODUCT (precedence_of a) (control_tree a)) (literal_tree n)

  abbrev pub condition_tree : Condition → Tree
  condition_tree tree.True = truth true
  condition_tree tree.False = truth false
  condition_tree (Flag x) = variable (w.name x)
  condition_tree (FieldFlag f) = field_tree f
  condition_tree (Lt a b) = binary o.Lt (control_tree a) (control_tree b)
  condition_tree (Le a b) = binary o.Le (control_tree a) (control_tree b)
  condition_tree (Gt a b) = binary o.Gt (control_tree a) (control_tree b)
  condition_tree (Ge a b) = binary o.Ge (control_tree a) (control_tree b)
  condition_tree (Eq a b) = binary o.Eq (control_tree a) (control_tree b)
  condition_tree (And a b) =
      binary o.And (placed CONJUNCTION (condition_precedence a) (condition_tree a))
      (placed COMPARISON (condition_precedence b) (condition_tree b))
  condition_tree (Or a b) =
      binary o.Or (placed DISJUNCTION (condition_precedence a) (condition_tree a))
      (placed CONJUNCTION (condition_precedence b) (condition_tree b))

  abbrev pub datum_tree : Datum → Tree
  datum_tree (Const n) = literal_tree n
  datum_tree (Read x is) = access_tree (w.name x) (map control_tree is)
  datum_tree (Negated a) = negative (placed UNARY (datum_precedence a) (datum_tree a))
  datum_tree (Plus a b) =
      binary o.Add (placed SUM (datum_precedence a) (datum_tree a))
      (placed PRODUCT (datum_precedence b) (datum_tree b))
  datum_tree (Minus a b) =
      binary o.Sub (placed SUM (datum_precedence a) (datum_tree a))
      (placed PRODUCT (datum_precedence b) (datum_tree b))
  datum_tree (Times a b) =
      binary o.Mul (placed PRODUCT (datum_precedence a) (datum_tree a))
      (placed UNARY (datum_precedence b) (datum_tree b))
  datum_tree (Relu a) = relu (datum_tree a)
  datum_tree (Select a b c d) = select (datum_tree a) (datum_tree b) (datum_tree c) (datum_tree d)

  abbrev pub coordinate_of : Coord → Coordinate
  coordinate_of (At a) = point (control_tree a)
  coordinate_of (Span a b) = span (control_tree a) (control_tree b)

  -- where a coordinate stands or begins
  abbrev pub low_tree : Coord → Tree
  low_tree (At a) = control_tree a
  low_tree (Span a b) = control_tree a

  -- a window; where all its coordinates are points, a cell
  abbrev pub window_of : List ℕ → List Coord → source.Argument
  window_of x coords =
      if has_span coords then source.window x (map coordinate_of coords)
      else source.value (access_tree x (map low_tree coords))

  abbrev pub argument_of : Argument → source.Argument
  argument_of (ControlArg e) = source.value (control_tree e)
  argument_of (ConditionArg c) = source.value (condition_tree c)
  argument_of (Whole x) = source.value (variable (w.name x))
  argument_of (Window x coords) = window_of (w.name x) coords

  -- what a configuration write stores
  abbrev pub stored_tree : Argument → Tree
  stored_tree (ControlArg e) = control_tree e
  stored_tree (ConditionArg c) = condition_tree c
  stored_tree (Whole x) = variable (w.name x)
  stored_tree (Window x coords) = access_tree (w.name x) (map low_tree coords)

  -- memory 0 is the default, which is not written
  abbrev pub memory_of : ℕ → Option (List ℕ)
  memory_of m = if m == 0 then None else Some (w.memory m)

  abbrev mutual
    pub statement_of : Statement → source.Statement
    statement_of (Assign x is e) = source.assign (w.name x) (map control_tree is) (datum_tree e)
    statement_of (Reduce x is e) = source.reduce (w.name x) (map control_tree is) (datum_tree e)
    statement_of (Config f a) =
        source.configure (config_word fields f) (field_word fields f) (stored_tree a)
    statement_of Pass = source.pass
    statement_of (If c a b) = source.branch (condition_tree c) (block_of a) (block_of b)
    statement_of (For i lo hi b) =
        source.loop i.name (control_tree lo) (control_tree hi) (block_of b)
    statement_of (Alloc x cell dims memory) =
        source.allocate x.name (named (cell_word cell)) (map control_tree dims) (memory_of memory)
    statement_of (View v x coords) = source.view v.name (w.name x) (map coordinate_of coords)
    statement_of (Call k args) = source.call (w.callee k) (map argument_of args) false

    pub block_of : Block → source.Block
    block_of end = source.end
    block_of (next a b) = source.next (statement_of a) (block_of b)

  abbrev pub form_of : ParamKind → Form
  form_of (ControlParam kind) = source.plain (kind_name kind) []
  form_of (TensorParam cell dims memory) =
      source.plain (named (cell_word cell)) (map control_tree dims)
  form_of (WindowParam cell dims memory) =
      source.strided (named (cell_word cell)) (map control_tree dims)

  abbrev pub param_memory : ParamKind → Option (List ℕ)
  param_memory (ControlParam kind) = None
  param_memory (TensorParam cell dims memory) = memory_of memory
  param_memory (WindowParam cell dims memory) = memory_of memory

  abbrev pub parameter_of : Param → Parameter
  parameter_of p =
      record { name = p.binder.name; form = form_of p.kind; memory = param_memory p.kind }

  abbrev pub definition_of : Procedure → Definition
  definition_of p =
      record {
        name = p.name;
        params = map parameter_of p.params;
        trailing = false;
        asserts = map condition_tree p.asserts;
        body = source.statements (block_of p.body);
      }

  abbrev pub item_of : Procedure → Item
  item_of p = marked p.template (definition_of p)

-- a procedure of a program
abbrev pub written : Program → Procedure → Item
written program p = item_of (words_of program p) program.fields p
