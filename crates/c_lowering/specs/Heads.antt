-- A statement's C in two parts: the statement that stands in its place, and what stands at the end
-- of its block.
use Rattle.std.specs.Prelude.{ℕ, Bool, true, false, ◌||◌, List, [], ◌∷◌}
use Rattle.exo_tree.specs.Tree.{Cell, I32, Index, Control, Statement, Assign, Reduce, Config}
use Rattle.exo_tree.specs.Tree.{Pass, If, For, Alloc, View, Call, ControlParam}
use Rattle.exo_meaning.specs.Scene.{updated}
use Rattle.c_tree.specs.CTree.{Element, CStatement, Store, AddTo, SetField, Empty, Branch, Loop}
use Rattle.c_tree.specs.CTree.{Array, Malloc, Free, CBlock, stop, first, followed_by}
use Rattle.c_lowering.specs.Made.Lowered.{Memory, Naming, Forms, NumberForm, cell_in, cell_at_of}
use Rattle.c_lowering.specs.Made.Lowered.{number32_of, number_of, test_of, actual_of, window_of}
use Rattle.c_lowering.specs.Made.Lowered.{bind_of, call_of, dims_of, product_of, without_lanes}
use Rattle.c_lowering.specs.Made.Lowered.{stack_count, element_of, is_empty, block_of}

-- an allocation is on the stack where its memory is, or where it is one cell
abbrev pub is_on_stack : Memory → List Control → Bool
is_on_stack memory dims = memory.stack || is_empty dims

-- an array of its own, or one by `malloc`
abbrev pub made : Bool → CStatement → CStatement → CStatement
made true array heap = array
made false array heap = heap

abbrev pub allocated_as : Naming → Bool → Element → ℕ → List Control → CStatement
allocated_as naming on_stack element x own =
    made on_stack
    (Array element (naming.binder x) (stack_count own))
    (Malloc element (naming.binder x) (product_of (dims_of naming own)))

abbrev pub buffer_of : Naming → ℕ → Cell → List Control → Memory → CStatement
buffer_of naming x cell dims memory =
    allocated_as naming (is_on_stack memory dims) (element_of memory cell) x
    (without_lanes memory.lanes dims)

abbrev pub head_of : Naming → Forms → Statement → CStatement
head_of naming forms (Assign x is e) =
    Store (cell_in (forms x) I32) (cell_at_of naming forms x is) (number32_of naming forms e)
head_of naming forms (Reduce x is e) =
    AddTo (cell_in (forms x) I32) (cell_at_of naming forms x is) (number32_of naming forms e)
head_of naming forms (Config f a) =
    SetField (naming.field f) (actual_of naming forms (ControlParam Index) a)
head_of naming forms Pass = Empty
head_of naming forms (If c a b) =
    Branch (test_of naming forms c) (block_of naming forms a) (block_of naming forms b)
head_of naming forms (For i lo hi b) =
    Loop (naming.binder i.id) (number_of naming forms lo) (number_of naming forms hi)
    (block_of naming (updated forms i.id NumberForm) b)
head_of naming forms (Alloc x cell dims memory) =
    buffer_of naming x.id cell dims (naming.memory memory)
head_of naming forms (View w x coords) =
    bind_of (naming.binder w.id) (window_of naming forms x (cell_in (forms x) I32) coords)
head_of naming forms (Call k args) = call_of naming forms k (naming.routine k) args

-- the buffer that a statement puts on the heap
abbrev pub kept : Bool → ℕ → List ℕ
kept true x = []
kept false x = x ∷ []

abbrev pub heaped : Naming → Statement → List ℕ
heaped naming (Alloc x cell dims memory) = kept (is_on_stack (naming.memory memory) dims) x.id
heaped naming a = []

-- the buffers of a block are freed, the last first
abbrev pub frees : Naming → List ℕ → CBlock
frees naming [] = stop
frees naming (x ∷ xs) = followed_by (frees naming xs) (first (Free (naming.binder x)) stop)
