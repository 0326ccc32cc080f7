-- Blocks whose C follows them: what is asked of their expressions, names and memories.
use Rattle.std.specs.Prelude.{◌≡◌, ◌≤◌, ◌<◌, ◌^◌, ℕ, zero, suc, ℤ, pos, ◌≤ℤ◌, Bool, true, false}
use Rattle.std.specs.Prelude.{List, [], ◌∷◌, length, Option, Some, None, ◌⊎◌, ⊤}
use Rattle.exo_tree.specs.Tree.{Cell, I32, Control, Lit, Var, Field, StrideOf, Neg, Add, Sub, Mul}
use Rattle.exo_tree.specs.Tree.{Div, Mod, Condition, True, False, Flag, FieldFlag, Lt, Le, Gt, Ge}
use Rattle.exo_tree.specs.Tree.{Eq, And, Or, Datum, Const, Read, Negated, Relu, Plus, Minus, Times}
use Rattle.exo_tree.specs.Tree.{Select, Coord, At, Span, Statement, Assign, Reduce, Config, Pass}
use Rattle.exo_tree.specs.Tree.{If, For, Alloc, View, Call, Argument, ControlArg, ConditionArg}
use Rattle.exo_tree.specs.Tree.{Whole, Window, Block, end, next, Param, ParamKind, ControlParam}
use Rattle.exo_tree.specs.Tree.{TensorParam, WindowParam}
use Rattle.exo_meaning.specs.Value.{wrap}
use Rattle.exo_meaning.specs.Scene.{updated}
use Rattle.exo_meaning.specs.Units.{spans}
use Rattle.exo_meaning.specs.Run.{World, writes}
use Rattle.c_tree.specs.CTree.{Name}
use Rattle.c_unit_laws.specs.Follows.Machine.Machine.{same_name}
use Rattle.c_widths.specs.Magnitude.{magnitude}
use Rattle.c_widths.specs.Widths.{with_bounds, fits_cells}
use Rattle.c_lowering.specs.Made.Lowered.{Memory, Hole, Naming, NoForm, NumberForm, TensorForm}
use Rattle.c_lowering.specs.Made.Lowered.{WindowForm, Forms, forms_after, without_lanes}
use Rattle.c_unit_laws.specs.Follows.Magnitude.{IsNarrow, AreNarrow}
use Rattle.c_unit_laws.specs.Follows.Simulation.{Declared, Ground, IsPlain, ArePlain}

-- ---- buffers

-- a buffer of that type and rank, and with so many lanes: a tensor, or a window, which has none
abbrev pub IsAnyBuffer : Forms → ℕ → Cell → ℕ → ℕ → Type 0
IsAnyBuffer forms x cell rank lanes =
    ((forms x ≡ WindowForm cell rank) × (lanes ≡ 0))
    ⊎ ((dims : List Control) × (forms x ≡ TensorForm cell dims lanes) × (length dims ≡ rank))

-- one whose cells the C reads and writes
abbrev pub IsBufferOf : Forms → ℕ → Cell → ℕ → Type 0
IsBufferOf forms x cell rank = IsAnyBuffer forms x cell rank 0

abbrev pub IsBuffer : Forms → ℕ → ℕ → Type 0
IsBuffer forms x rank = (cell : Cell) × IsBufferOf forms x cell rank

-- ---- expressions

-- a buffer of more dimensions
abbrev pub HasStride : Forms → ℕ → ℕ → Type 0
HasStride forms x k =
    (cell : Cell)
    × (rank : ℕ)
    × (lanes : ℕ)
    × IsAnyBuffer forms x cell rank lanes
    × (k < rank)

-- they may read fields and strides
abbrev pub IsOpen : Declared → Forms → Control → Type 0
IsOpen declared forms (Lit n) = ⊤
IsOpen declared forms (Var x) = forms x ≡ NumberForm
IsOpen declared forms (Field f) = declared f ≡ true
IsOpen declared forms (StrideOf x k) = HasStride forms x k
IsOpen declared forms (Neg a) = IsOpen declared forms a
IsOpen declared forms (Add a b) = IsOpen declared forms a × IsOpen declared forms b
IsOpen declared forms (Sub a b) = IsOpen declared forms a × IsOpen declared forms b
IsOpen declared forms (Mul a b) = IsOpen declared forms a × IsOpen declared forms b
IsOpen declared forms (Div a c) = IsOpen declared forms a × (pos 1 ≤ℤ c)
IsOpen declared forms (Mod a c) = IsOpen declared forms a × (pos 1 ≤ℤ c)

abbrev pub AreGood : Forms → (ℕ → ℕ) → List Control → Type 0
AreGood forms most es = ArePlain forms es × AreNarrow most es

abbrev pub IsGood : Forms → (ℕ → ℕ) → Control → Type 0
IsGood forms most e = IsPlain forms e × IsNarrow most e

abbrev pub IsGoodDatum : Forms → (ℕ → ℕ) → Datum → Type 0
IsGoodDatum forms most (Const n) = wrap I32 n ≡ n
IsGoodDatum forms most (Read x is) = IsBuffer forms x (length is) × AreGood forms most is
IsGoodDatum forms most (Negated a) = IsGoodDatum forms most a
IsGoodDatum forms most (Relu a) = IsGoodDatum forms most a
IsGoodDatum forms most (Plus a b) = IsGoodDatum forms most a × IsGoodDatum forms most b
IsGoodDatum forms most (Minus a b) = IsGoodDatum forms most a × IsGoodDatum forms most b
IsGoodDatum forms most (Times a b) = IsGoodDatum forms most a × IsGoodDatum forms most b
IsGoodDatum forms most (Select a b c d) =
    IsGoodDatum forms most a
    × IsGoodDatum forms most b
    × IsGoodDatum forms most c
    × IsGoodDatum forms most d

abbrev pub IsGoodOpen : Declared → Forms → (ℕ → ℕ) → Control → Type 0
IsGoodOpen declared forms most e = IsOpen declared forms e × IsNarrow most e

abbrev pub IsGoodTest : Declared → Forms → (ℕ → ℕ) → Condition → Type 0
IsGoodTest declared forms most True = ⊤
IsGoodTest declared forms most False = ⊤
IsGoodTest declared forms most (Flag x) = forms x ≡ NumberForm
IsGoodTest declared forms most (FieldFlag f) = declared f ≡ true
IsGoodTest declared forms most (Lt a b) =
    IsGoodOpen declared forms most a
    × IsGoodOpen declared forms most b
IsGoodTest declared forms most (Le a b) =
    IsGoodOpen declared forms most a
    × IsGoodOpen declared forms most b
IsGoodTest declared forms most (Gt a b) =
    IsGoodOpen declared forms most a
    × IsGoodOpen declared forms most b
IsGoodTest declared forms most (Ge a b) =
    IsGoodOpen declared forms most a
    × IsGoodOpen declared forms most b
IsGoodTest declared forms most (Eq a b) =
    IsGoodOpen declared forms most a
    × IsGoodOpen declared forms most b
IsGoodTest declared forms most (And c d) =
    IsGoodTest declared forms most c
    × IsGoodTest declared forms most d
IsGoodTest declared forms most (Or c d) =
    IsGoodTest declared forms most c
    × IsGoodTest declared forms most d

-- what a field is set to: a number of at most 2 ^ 48, or whether a condition holds
abbrev pub IsGoodSetting : Declared → Forms → (ℕ → ℕ) → Argument → Type 0
IsGoodSetting declared forms most (ControlArg a) =
    IsGoodOpen declared forms most a
    × (magnitude most a ≤ 2 ^ 48)
IsGoodSetting declared forms most (ConditionArg c) = IsGoodTest declared forms most c
IsGoodSetting declared forms most (Whole x) = ⊥
IsGoodSetting declared forms most (Window x coords) = ⊥

abbrev pub IsGoodCoord : Forms → (ℕ → ℕ) → Coord → Type 0
IsGoodCoord forms most (At a) = IsGood forms most a
IsGoodCoord forms most (Span a b) = IsGood forms most a × IsGood forms most b

abbrev pub AreGoodCoords : Forms → (ℕ → ℕ) → List Coord → Type 0
AreGoodCoords forms most [] = ⊤
AreGoodCoords forms most (c ∷ cs) = IsGoodCoord forms most c × AreGoodCoords forms most cs

-- ---- arguments

-- the last span is all lanes, where there are any
abbrev pub EndsInSpan : ℕ → List Coord → Type 0
EndsInSpan zero cs = ⊤
EndsInSpan (suc n) [] = ⊥
EndsInSpan (suc n) (c ∷ []) = c ≡ Span (Lit (pos 0)) (Lit (pos (suc n)))
EndsInSpan (suc n) (c ∷ (d ∷ cs)) = EndsInSpan (suc n) (d ∷ cs)

-- A buffer for a parameter of that type. A function takes none with lanes.
abbrev pub IsHandedWhole : Forms → Bool → Cell → ℕ → ℕ → Type 0
IsHandedWhole forms function cell rank x =
    (lanes : ℕ)
    × IsAnyBuffer forms x cell rank lanes
    × (function ≡ true → lanes ≡ 0)

-- a part of a buffer that has so many dimensions
abbrev pub IsHandedPart : Forms → (ℕ → ℕ) → Bool → Cell → ℕ → ℕ → List Coord → Type 0
IsHandedPart forms most function cell rank x coords =
    (lanes : ℕ)
    × IsAnyBuffer forms x cell (length coords) lanes
    × (function ≡ true → lanes ≡ 0)
    × AreGoodCoords forms most coords
    × (spans coords ≡ rank)
    × EndsInSpan lanes coords

-- a whole dense tensor of one dimension or more
abbrev pub IsHandedTensor : Forms → Bool → Cell → ℕ → ℕ → Type 0
IsHandedTensor forms function cell rank x =
    (dims : List Control)
    × (lanes : ℕ)
    × (forms x ≡ TensorForm cell dims lanes)
    × (length dims ≡ rank)
    × (function ≡ true → lanes ≡ 0)

-- by how large the parameter may be, and whether it is one of a function
abbrev pub IsGoodArgument : Declared → Forms → (ℕ → ℕ) → ℕ → Bool → ParamKind → Argument → Type 0
IsGoodArgument declared forms most bound function (ControlParam kind) (ControlArg a) =
    IsGoodOpen declared forms most a
    × (magnitude most a ≤ bound)
IsGoodArgument declared forms most bound function (ControlParam kind) (ConditionArg c) =
    IsGoodTest declared forms most c
    × (1 ≤ bound)
IsGoodArgument declared forms most bound function (TensorParam cell [] memory) (Whole x) =
    IsBufferOf forms x cell 0
IsGoodArgument declared forms most bound function (TensorParam cell [] memory) (Window x coords) =
    IsBufferOf forms x cell (length coords)
    × AreGoodCoords forms most coords
    × (spans coords ≡ 0)
IsGoodArgument declared forms most bound function (TensorParam cell (d ∷ ds) memory) (Whole x) =
    IsHandedTensor forms function cell (length (d ∷ ds)) x
IsGoodArgument declared forms most bound function (WindowParam cell ds memory) (Whole x) =
    IsHandedWhole forms function cell (length ds) x
IsGoodArgument declared forms most bound function (WindowParam cell ds memory) (Window x coords) =
    IsHandedPart forms most function cell (length ds) x coords
IsGoodArgument declared forms most bound function kind a = ⊥

-- by how large each parameter may be
abbrev pub AreGoodArguments :
    Declared → Forms → (ℕ → ℕ) → (ℕ → ℕ) → Bool → List Param → List Argument → Type 0
AreGoodArguments declared forms most bounds function [] [] = ⊤
AreGoodArguments declared forms most bounds function [] (a ∷ args) = ⊥
AreGoodArguments declared forms most bounds function (p ∷ ps) [] = ⊥
AreGoodArguments declared forms most bounds function (p ∷ ps) (a ∷ args) =
    IsGoodArgument declared forms most (bounds p.binder.id) function p.kind a
    × AreGoodArguments declared forms most bounds function ps args

abbrev pub is_function : Option (List Hole) → Bool
is_function None = true
is_function (Some holes) = false

abbrev pub IsGoodCall : Ground → Forms → (ℕ → ℕ) → ℕ → List Argument → Type 0
IsGoodCall g forms most k args =
    (g.called k ≡ true)
    × AreGoodArguments g.declared forms most (g.bounds k)
    (is_function (g.naming.routine k).template) (g.naming.routine k).params args

-- ---- names

-- no other field that the C declares has its C name
abbrev pub IsAlone : Naming → Declared → ℕ → Type 0
IsAlone naming declared f =
    (h : ℕ)
    → declared h ≡ true
    → (h ≡ f) ⊎ (same_name (naming.field h) (naming.field f) ≡ false)

-- a binder that is not in scope, and whose C name no name in scope, no field and no function has
pub record IsFresh (g : Ground) (forms : Forms) (i : ℕ) : Type 0 where
  pub not_there : forms i ≡ NoForm
  pub other_name :
      (x : ℕ)
      → (forms x ≡ NoForm) ⊎ (same_name (g.naming.binder x) (g.naming.binder i) ≡ false)
  pub no_field :
      (f : ℕ)
      → g.declared f ≡ true
      → same_name (g.naming.field f) (g.naming.binder i) ≡ false
  pub no_function : (f : Name) → g.function f ≡ true → same_name f (g.naming.binder i) ≡ false

-- ---- allocations

abbrev pub AreLiterals : List Control → Type 0
AreLiterals [] = ⊤
AreLiterals (d ∷ ds) = ((n : ℤ) × (d ≡ Lit n)) × AreLiterals ds

-- the last dimension is the number of lanes, where there are any
abbrev pub EndsInLanes : ℕ → List Control → Type 0
EndsInLanes zero ds = ⊤
EndsInLanes (suc n) [] = ⊥
EndsInLanes (suc n) (d ∷ []) = d ≡ Lit (pos (suc n))
EndsInLanes (suc n) (d ∷ (e ∷ ds)) = EndsInLanes (suc n) (e ∷ ds)

-- On the stack the dimensions are literals, and the number of cells, or of vectors, fits.
pub record FitsMemory (memory : Memory) (most : ℕ → ℕ) (dims : List Control) : Type 0 where
  pub last : EndsInLanes memory.lanes dims
  pub literals : memory.stack ≡ true → AreLiterals dims
  pub small : memory.stack ≡ true → fits_cells most (without_lanes memory.lanes dims) ≡ true

-- ---- statements and blocks

abbrev mutual
  pub IsGoodBlock : Ground → Forms → (ℕ → ℕ) → Block → Type 0
  IsGoodBlock g forms most end = ⊤
  IsGoodBlock g forms most (next a b) =
      IsGoodStatement g forms most a
      × IsGoodBlock g (forms_after g.naming a forms) most b

  pub IsGoodStatement : Ground → Forms → (ℕ → ℕ) → Statement → Type 0
  IsGoodStatement g forms most (Assign x is e) =
      IsBuffer forms x (length is)
      × AreGood forms most is
      × IsGoodDatum forms most e
  IsGoodStatement g forms most (Reduce x is e) =
      IsBuffer forms x (length is)
      × AreGood forms most is
      × IsGoodDatum forms most e
  IsGoodStatement g forms most (Config f a) =
      IsGoodSetting g.declared forms most a
      × (g.declared f ≡ true)
      × IsAlone g.naming g.declared f
  IsGoodStatement g forms most Pass = ⊤
  IsGoodStatement g forms most (If c a b) =
      IsGoodTest g.declared forms most c
      × IsGoodBlock g forms most a
      × IsGoodBlock g forms most b
  IsGoodStatement g forms most (For i lo hi b) =
      IsGood forms most lo
      × IsGood forms most hi
      × IsFresh g forms i.id
      × IsGoodBlock g (updated forms i.id NumberForm) (with_bounds most i.id lo hi) b
  IsGoodStatement g forms most (Alloc x cell dims memory) =
      AreGood forms most dims
      × IsFresh g forms x.id
      × FitsMemory (g.naming.memory memory) most dims
  IsGoodStatement g forms most (View w x coords) =
      IsBuffer forms x (length coords)
      × AreGoodCoords forms most coords
      × (0 < spans coords)
      × IsFresh g forms w.id
  IsGoodStatement g forms most (Call k args) = IsGoodCall g forms most k args

-- ---- what depends on callees

-- the block makes, writes and reduces no other buffers than these
abbrev pub MayStore : (ℕ → Bool) → World → (ℕ → ℕ) → Block → Type 0
MayStore stored world root b = (y : ℕ) → writes world root b y ≡ true → stored y ≡ true

-- ---- parameters

-- dimensions without fields and strides
abbrev pub IsGoodParam : Forms → (ℕ → ℕ) → ParamKind → Type 0
IsGoodParam forms most (ControlParam kind) = ⊤
IsGoodParam forms most (TensorParam cell dims memory) = AreGood forms most dims
IsGoodParam forms most (WindowParam cell dims memory) = AreGood forms most dims

abbrev pub AreGoodParams : Forms → (ℕ → ℕ) → List Param → Type 0
AreGoodParams forms most [] = ⊤
AreGoodParams forms most (p ∷ ps) = IsGoodParam forms most p.kind × AreGoodParams forms most ps

-- the C names of the names in scope differ from each other and from those of fields and functions
pub record AreNamedApart (g : Ground) (forms : Forms) : Type 0 where
  pub others :
      (x y : ℕ)
      → (forms x ≡ NoForm)
      ⊎ ((forms y ≡ NoForm)
      ⊎ ((x ≡ y) ⊎ (same_name (g.naming.binder x) (g.naming.binder y) ≡ false)))
  pub no_field :
      (x f : ℕ)
      → g.declared f ≡ true
      → (forms x ≡ NoForm) ⊎ (same_name (g.naming.field f) (g.naming.binder x) ≡ false)
  pub no_function :
      (x : ℕ) (f : Name)
      → g.function f ≡ true
      → (forms x ≡ NoForm) ⊎ (same_name f (g.naming.binder x) ≡ false)
