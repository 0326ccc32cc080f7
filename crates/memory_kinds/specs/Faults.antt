-- The rules on memories, and the first one in the order of the text that a procedure breaks.
use Rattle.std.specs.Prelude.{ℕ, ◌==◌, ◌-◌, pos, Bool, true, false, not, ◌&&◌, List, [], ◌∷◌}
use Rattle.std.specs.Prelude.{length, Option, Some, None, slice_get}
use Rattle.std.specs.Ordering.{int_eq}
use Rattle.exo_tree.specs.Tree.{Cell, Control, Lit}
use Rattle.exo_tree.specs.Tree.{Datum, Const, Read, Negated, Relu, Plus, Minus, Times, Select}
use Rattle.exo_tree.specs.Tree.{Coord, At, Span, Argument, ControlArg, ConditionArg, Whole, Window}
use Rattle.exo_tree.specs.Tree.{Statement, Assign, Reduce, Config, Pass, If, For, Alloc, View, Call}
use Rattle.exo_tree.specs.Tree.{Block, end, next, Param, ParamKind, Procedure, MemoryKind, Program}
use Rattle.exo_meaning.specs.Units.{same_cell, is_literal}
use Rattle.memory_kinds.specs.declared.error.KindError.{KindError}
use Rattle.memory_kinds.specs.declared.error.KindError.TheVariants.{NotReadable, NotWritable}
use Rattle.memory_kinds.specs.declared.error.KindError.TheVariants.{NotReducible, MemoryMismatch}
use Rattle.memory_kinds.specs.declared.error.KindError.TheVariants.{PrecisionMismatch, LaneMismatch}
use Rattle.memory_kinds.specs.declared.error.KindError.TheVariants.{NotLiteral}
use Rattle.memory_kinds.specs.Homes.{Homes, memory_of_kind, param_homes, homes_after}

abbrev pub fault_where : Bool → KindError → Option KindError
fault_where false e = None
fault_where true e = Some e

-- what is broken first, of two places or two rules in their order
abbrev pub or_first : Option KindError → Option KindError → Option KindError
or_first None later = later
or_first (Some e) later = Some e

-- ---- literals

-- the literal of that number, as a tree
abbrev pub is_literal_of : ℕ → Control → Bool
is_literal_of m (Lit n) = int_eq n (pos m)
is_literal_of m _ = false

abbrev pub are_literals : List Control → Bool
are_literals [] = true
are_literals (d ∷ ds) = is_literal d && are_literals ds

abbrev pub last_is_literal : ℕ → List Control → Bool
last_is_literal m dims =
    elim (slice_get dims (length dims - 1)) [ None ↦ false | Some d ↦ is_literal_of m d ]

-- the span from 0 to the number
abbrev pub is_full_span : ℕ → Coord → Bool
is_full_span m (At a) = false
is_full_span m (Span a b) = is_literal_of 0 a && is_literal_of m b

abbrev pub last_is_full : ℕ → List Coord → Bool
last_is_full m coords =
    elim (slice_get coords (length coords - 1)) [ None ↦ false | Some c ↦ is_full_span m c ]

-- ---- the rules of one memory

abbrev pub has_lanes : MemoryKind → Bool
has_lanes m = not (m.lanes == 0)

abbrev pub takes : Option Cell → Cell → Bool
takes None cell = true
takes (Some c) cell = same_cell c cell

abbrev pub param_fault : MemoryKind → Option KindError
param_fault m = fault_where (has_lanes m) MemoryMismatch

abbrev pub alloc_fault : Cell → List Control → MemoryKind → Option KindError
alloc_fault cell dims m =
    or_first (fault_where (not (takes m.cell cell)) PrecisionMismatch)
    (or_first (fault_where (has_lanes m && not (last_is_literal m.lanes dims)) LaneMismatch)
    (fault_where (m.stack && not (are_literals dims)) NotLiteral))

abbrev pub read_fault : MemoryKind → Option KindError
read_fault m = fault_where (not m.read) NotReadable

abbrev pub write_fault : MemoryKind → Option KindError
write_fault m = fault_where (not m.write) NotWritable

abbrev pub reduce_fault : MemoryKind → Option KindError
reduce_fault m = fault_where (not m.reduce) NotReducible

abbrev pub view_fault : MemoryKind → Option KindError
view_fault m = fault_where (has_lanes m) LaneMismatch

abbrev pub window_fault : List Coord → MemoryKind → Option KindError
window_fault coords m = fault_where (has_lanes m && not (last_is_full m.lanes coords)) LaneMismatch

-- ---- statements

module _ (memories : List MemoryKind) where
  -- the rule for that memory; of one that the unit has not, none is asked
  abbrev pub in_memory : ℕ → (MemoryKind → Option KindError) → Option KindError
  in_memory k rule = elim (slice_get memories k) [ None ↦ None | Some m ↦ rule m ]

  -- the reads of an expression, from left to right
  abbrev pub reads_fault : Homes → Datum → Option KindError
  reads_fault home (Const n) = None
  reads_fault home (Read x is) = in_memory (home x) read_fault
  reads_fault home (Negated a) = reads_fault home a
  reads_fault home (Relu a) = reads_fault home a
  reads_fault home (Plus a b) = or_first (reads_fault home a) (reads_fault home b)
  reads_fault home (Minus a b) = or_first (reads_fault home a) (reads_fault home b)
  reads_fault home (Times a b) = or_first (reads_fault home a) (reads_fault home b)
  reads_fault home (Select a b c d) =
      or_first (reads_fault home a)
      (or_first (reads_fault home b)
      (or_first (reads_fault home c) (reads_fault home d)))

  -- a buffer given to a parameter in that memory
  abbrev pub given_fault : Homes → ℕ → Argument → Option KindError
  given_fault home memory (ControlArg a) = None
  given_fault home memory (ConditionArg c) = None
  given_fault home memory (Whole x) = fault_where (not (home x == memory)) MemoryMismatch
  given_fault home memory (Window x coords) =
      or_first (fault_where (not (home x == memory)) MemoryMismatch)
      (in_memory (home x) (window_fault coords))

  abbrev pub argument_fault : Homes → Param → Argument → Option KindError
  argument_fault home p a =
      elim (memory_of_kind p.kind) [ None ↦ None | Some memory ↦ given_fault home memory a ]

  abbrev pub arguments_fault : Homes → List Param → List Argument → Option KindError
  arguments_fault home [] args = None
  arguments_fault home (p ∷ ps) [] = None
  arguments_fault home (p ∷ ps) (a ∷ rest) =
      or_first (argument_fault home p a) (arguments_fault home ps rest)

  abbrev pub kind_fault : ParamKind → Option KindError
  kind_fault kind =
      elim (memory_of_kind kind) [ None ↦ None | Some memory ↦ in_memory memory param_fault ]

  abbrev pub params_fault : List Param → Option KindError
  params_fault [] = None
  params_fault (p ∷ ps) = or_first (kind_fault p.kind) (params_fault ps)

-- ---- procedures

module _ (procedures : List Procedure) (memories : List MemoryKind) where
  abbrev pub call_fault : Homes → ℕ → List Argument → Option KindError
  call_fault home k args =
      elim (slice_get procedures k) [
        | None ↦ None
        | Some p ↦ arguments_fault memories home p.params args
      ]

  abbrev mutual
    pub block_fault : Homes → Block → Option KindError
    block_fault home end = None
    block_fault home (next a b) = or_first (step_fault home a) (block_fault (homes_after home a) b)

    pub step_fault : Homes → Statement → Option KindError
    step_fault home (Assign x is e) =
        or_first (in_memory memories (home x) write_fault) (reads_fault memories home e)
    step_fault home (Reduce x is e) =
        or_first (in_memory memories (home x) reduce_fault) (reads_fault memories home e)
    step_fault home (Config f a) = None
    step_fault home Pass = None
    step_fault home (If c a b) = or_first (block_fault home a) (block_fault home b)
    step_fault home (For i lo hi b) = block_fault home b
    step_fault home (Alloc x cell dims memory) = in_memory memories memory (alloc_fault cell dims)
    step_fault home (View w x coords) = in_memory memories (home x) view_fault
    step_fault home (Call k args) = call_fault home k args

  abbrev pub procedure_fault : Procedure → Option KindError
  procedure_fault p =
      or_first (params_fault memories p.params) (block_fault (param_homes p.params) p.body)

-- the first rule that the procedure of that number breaks; None where there is no such procedure
abbrev pub fault_of : Program → ℕ → Option KindError
fault_of program k =
    elim (slice_get program.procedures k) [
      | None ↦ None
      | Some p ↦ procedure_fault program.procedures program.memories p
    ]
