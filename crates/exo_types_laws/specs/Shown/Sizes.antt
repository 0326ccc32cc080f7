-- The limits of the grammar that a written procedure keeps where each counts.
use Rattle.std.specs.Prelude.{ℕ, ◌+◌, ◌≤◌, ◌<◌, List, [], ◌∷◌, length, Option, Some, None}
use Rattle.text_expressions.specs.Values.{IsShortName}
use Rattle.text_expressions.specs.Expression.{Tree, depth, nodes, IsShort, control_room, data_room}
use Rattle.text_expressions.specs.Expression.{most_depth, FewDimensions}
use Rattle.text_expressions.specs.declared.expression.Room.{Room}
use Rattle.exo_reader.specs.Source.{Coordinate, point, span, Argument, value, window, Statement}
use Rattle.exo_reader.specs.Source.{pass, branch, loop, allocate, call, configure, assign, reduce}
use Rattle.exo_reader.specs.Source.{view, Block, end, next, block_of, Form, plain, strided}
use Rattle.exo_reader.specs.Source.{Parameter, Definition, Item, procedure, instruction}
use Rattle.exo_types_laws.specs.Shown.Names.{Each}

-- neither deeper nor of more nodes than the room, with short names and lists
pub record IsWithin (room : Room) (e : Tree) : Type 0 where
  pub depth : depth e ≤ room.depth
  pub nodes : nodes e ≤ room.nodes
  pub short : IsShort e

abbrev pub IsWithinControl : Tree → Type 0
IsWithinControl e = IsWithin (control_room most_depth) e

abbrev pub IsWithinDims : List Tree → Type 0
IsWithinDims ds = FewDimensions ds × Each IsWithinControl ds

abbrev pub IsWithinCoordinate : Coordinate → Type 0
IsWithinCoordinate (point e) = IsWithinControl e
IsWithinCoordinate (span a b) = IsWithinControl a × IsWithinControl b

abbrev pub IsWithinWindow : List ℕ → List Coordinate → Type 0
IsWithinWindow x cs = IsShortName x × FewDimensions cs × Each IsWithinCoordinate cs

abbrev pub IsWithinArgument : Argument → Type 0
IsWithinArgument (value e) = IsWithinControl e
IsWithinArgument (window x cs) = IsWithinWindow x cs

abbrev pub IsShortMemory : Option (List ℕ) → Type 0
IsShortMemory None = Unit {0}
IsShortMemory (Some x) = IsShortName x

-- in a block of that nesting; at most 24 stand inside one another
abbrev mutual
  pub IsWithinStatement : ℕ → Statement → Type 0
  IsWithinStatement nesting pass = Unit {0}
  IsWithinStatement nesting (branch c a b) =
      (nesting < 24)
      × IsWithinControl c
      × IsWithinBlock (nesting + 1) a
      × IsWithinBlock (nesting + 1) b
  IsWithinStatement nesting (loop i low high a) =
      (nesting < 24)
      × IsShortName i
      × IsWithinControl low
      × IsWithinControl high
      × IsWithinBlock (nesting + 1) a
  IsWithinStatement nesting (allocate x kind ds m) =
      IsShortName x × IsWithinDims ds × IsShortMemory m
  IsWithinStatement nesting (call f list trailing) = IsShortName f × Each IsWithinArgument list
  IsWithinStatement nesting (configure c f e) = IsShortName c × IsShortName f × IsWithinControl e
  IsWithinStatement nesting (assign x ds e) = IsShortName x × IsWithinDims ds × IsWithin data_room e
  IsWithinStatement nesting (reduce x ds e) = IsShortName x × IsWithinDims ds × IsWithin data_room e
  IsWithinStatement nesting (view y x cs) = IsShortName y × IsWithinWindow x cs

  pub IsWithinBlock : ℕ → Block → Type 0
  IsWithinBlock nesting end = Unit {0}
  IsWithinBlock nesting (next s more) = IsWithinStatement nesting s × IsWithinBlock nesting more

abbrev pub dims_of : Form → List Tree
dims_of (plain kind ds) = ds
dims_of (strided kind ds) = ds

pub record IsWithinParameter (p : Parameter) : Type 0 where
  pub name : IsShortName p.name
  pub dims : IsWithinDims (dims_of p.form)
  pub memory : IsShortMemory p.memory

-- at most 32 parameters
pub record IsWithinDefinition (p : Definition) : Type 0 where
  pub name : IsShortName p.name
  pub few : length p.params ≤ 32
  pub params : Each IsWithinParameter p.params
  pub asserts : Each IsWithinControl p.asserts
  pub body : IsWithinBlock 1 (block_of p.body)

-- a template of at most 1,024 bytes
abbrev pub IsWithinItem : Item → Type 0
IsWithinItem (procedure p) = IsWithinDefinition p
IsWithinItem (instruction (template ∷ []) p) = (length template ≤ 1024) × IsWithinDefinition p
IsWithinItem other = ⊥
