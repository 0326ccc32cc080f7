-- Runs of blocks: a state, or None, a fault.
use Rattle.std.specs.Prelude.{ℕ, zero, suc, ℤ, pos, negsuc, ◌+ℤ◌, ◌-ℤ◌, ◌*ℤ◌, ◌==◌, Bool, true}
use Rattle.std.specs.Prelude.{false, ◌&&◌, ◌||◌, List, [], ◌∷◌, ◌++◌, Option, Some, None, slice_get}
use Rattle.exo_tree.specs.Tree.{Cell, Kind, Index, Control, Coord, Argument, ControlArg}
use Rattle.exo_tree.specs.Tree.{ConditionArg, Whole, Window, Datum, Statement, Assign, Reduce}
use Rattle.exo_tree.specs.Tree.{Config, Pass, If, For, Alloc, View, Call, Block, end, next, Param}
use Rattle.exo_tree.specs.Tree.{Procedure, ConfigField, Program}
use Rattle.exo_meaning.specs.Value.{Undefined, on_two}
use Rattle.exo_meaning.specs.Scene.{then_do, Shape, Scene, updated, number, numbers, holds, window}
use Rattle.exo_meaning.specs.Scene.{where_true}
use Rattle.exo_meaning.specs.State.{State, place, put, value, with_control, with_field, with_view}
use Rattle.exo_meaning.specs.State.{with_buffer, with_contents, on_scene, scoped}
use Rattle.exo_meaning.specs.Calls.{Callee, truth, suits, all_positive, call}

-- what a run stands on: the kinds of the fields, and the procedures above in the text
pub record World : Type 0 where
  pub kinds : ℕ → Kind
  pub callees : ℕ → Option Callee

-- ---- single statements

abbrev pub assign : ℕ → List Control → Datum → State → Option State
assign x is e s = then_do (place s.scene x is) (λ p. then_do (value s e) (λ v. put s (λ old. v) p))

abbrev pub reduce : ℕ → List Control → Datum → State → Option State
reduce x is e s =
    then_do (place s.scene x is)
    (λ p. then_do (value s e) (λ v. put s (λ old. on_two ◌+ℤ◌ old v) p))

-- None where an argument is a buffer
abbrev pub argument_number : Scene → Argument → Option ℤ
argument_number scene (ControlArg a) = Some (number scene a)
argument_number scene (ConditionArg c) = Some (truth (holds scene c))
argument_number scene (Whole x) = None
argument_number scene (Window x coords) = None

abbrev pub configure : World → ℕ → Argument → State → Option State
configure world f a s =
    then_do (argument_number s.scene a)
    (λ n. where_true (suits (world.kinds f) n) (Some (on_scene (with_field f n) s)))

abbrev pub product : List ℤ → ℤ
product [] = pos 1
product (d ∷ ds) = d *ℤ product ds

abbrev pub row_major : List ℤ → List ℤ
row_major [] = []
row_major (d ∷ ds) = product ds ∷ row_major ds

abbrev pub tensor : Cell → List ℤ → Shape
tensor cell dims = record { cell = cell; dims = dims; strides = row_major dims }

abbrev pub allocate : ℕ → Cell → List ℤ → State → Option State
allocate x cell dims s =
    where_true (all_positive dims)
    (Some (with_contents x (λ at. Undefined) (on_scene (with_buffer x (tensor cell dims)) s)))

abbrev pub view : ℕ → ℕ → List Coord → State → Option State
view w x coords s = then_do (window s.scene x coords) (λ seen. Some (on_scene (with_view w seen) s))

abbrev pub call_to : Option Callee → List Argument → State → Option State
call_to None args s = None
call_to (Some callee) args s = call callee args s

-- ---- loops

-- the numbers from lo on
abbrev pub range : ℤ → ℕ → List ℤ
range lo zero = []
range lo (suc n) = lo ∷ range (lo +ℤ pos 1) n

abbrev pub count : ℤ → ℕ
count (pos n) = n
count (negsuc n) = zero

abbrev pub turns_of : Scene → Control → Control → List ℤ
turns_of scene lo hi = range (number scene lo) (count (number scene hi -ℤ number scene lo))

-- one turn, in a scope of its own
abbrev pub turn : ℕ → (State → Option State) → ℤ → State → Option State
turn i body n = scoped (λ s. body (on_scene (with_control i n) s))

-- turns in this order
abbrev pub turns : {T : Type 0} → (T → State → Option State) → List T → State → Option State
turns go [] s = Some s
turns go (n ∷ ns) s = then_do (go n s) (turns go ns)

-- ---- trees

abbrev pub choose : Bool → (State → Option State) → (State → Option State) → State → Option State
choose true a b s = a s
choose false a b s = b s

abbrev mutual
  pub run : World → Block → State → Option State
  run world end s = Some s
  run world (next a b) s = then_do (step world a s) (run world b)

  pub step : World → Statement → State → Option State
  step world (Assign x is e) s = assign x is e s
  step world (Reduce x is e) s = reduce x is e s
  step world (Config f a) s = configure world f a s
  step world Pass s = Some s
  step world (If c a b) s = scoped (choose (holds s.scene c) (run world a) (run world b)) s
  step world (For i lo hi b) s = turns (turn i.id (run world b)) (turns_of s.scene lo hi) s
  step world (Alloc x cell dims memory) s = allocate x.id cell (numbers s.scene dims) s
  step world (View w x coords) s = view w.id x coords s
  step world (Call k args) s = call_to (world.callees k) args s

-- ---- what a block may store in

-- the buffer of each name after a statement, by the buffers before it
abbrev pub roots_after : Statement → (ℕ → ℕ) → ℕ → ℕ
roots_after (Alloc x cell dims memory) root = updated root x.id x.id
roots_after (View w x coords) root = updated root w.id (root x)
roots_after _ root = root

abbrev pub is_root : (ℕ → ℕ) → ℕ → Argument → Bool
is_root root y (ControlArg a) = false
is_root root y (ConditionArg c) = false
is_root root y (Whole x) = y == root x
is_root root y (Window x coords) = y == root x

abbrev pub call_writes : (ℕ → Bool) → (ℕ → ℕ) → ℕ → List Param → List Argument → Bool
call_writes writes root y [] args = false
call_writes writes root y (p ∷ ps) [] = false
call_writes writes root y (p ∷ ps) (a ∷ rest) =
    (writes p.binder.id && is_root root y a) || call_writes writes root y ps rest

abbrev pub call_to_writes : Option Callee → (ℕ → ℕ) → ℕ → List Argument → Bool
call_to_writes None root y args = false
call_to_writes (Some callee) root y args =
    call_writes callee.writes root y callee.procedure.params args

-- whether buffer y may be made, written or reduced, by the buffer of each name
abbrev mutual
  pub writes : World → (ℕ → ℕ) → Block → ℕ → Bool
  writes world root end y = false
  writes world root (next a b) y =
      step_writes world root a y || writes world (roots_after a root) b y

  pub step_writes : World → (ℕ → ℕ) → Statement → ℕ → Bool
  step_writes world root (Assign x is e) y = y == root x
  step_writes world root (Reduce x is e) y = y == root x
  step_writes world root (Config f a) y = false
  step_writes world root Pass y = false
  step_writes world root (If c a b) y = writes world root a y || writes world root b y
  step_writes world root (For i lo hi b) y = writes world root b y
  step_writes world root (Alloc x cell dims memory) y = y == x.id
  step_writes world root (View w x coords) y = false
  step_writes world root (Call k args) y = call_to_writes (world.callees k) root y args

-- ---- the procedures of a unit

abbrev pub world_of : (ℕ → Kind) → List Callee → World
world_of kinds above = record { kinds = kinds; callees = slice_get above }

abbrev pub callee_in : World → Procedure → Callee
callee_in world p = record {
  procedure = p;
  run = run world p.body;
  writes = writes world (λ x. x) p.body;
}

-- each procedure calls those above it
abbrev pub callees : (ℕ → Kind) → List Callee → List Procedure → List Callee
callees kinds above [] = above
callees kinds above (p ∷ ps) = callees kinds (above ++ callee_in (world_of kinds above) p ∷ []) ps

-- the procedures of a unit as they stand below each other
abbrev pub unit_world : (ℕ → Kind) → List Procedure → World
unit_world kinds ps = world_of kinds (callees kinds [] ps)

-- the kind of each field by its number; no number past the list is a field
abbrev pub kinds_of : List ConfigField → ℕ → Kind
kinds_of [] f = Index
kinds_of (field ∷ fields) zero = field.kind
kinds_of (field ∷ fields) (suc f) = kinds_of fields f

abbrev pub program_world : Program → World
program_world program = unit_world (kinds_of program.fields) program.procedures
