-- A part of an expression, stored before it is used, at a place of a well-formed procedure.
use Rattle.std.specs.Prelude.{◌≡◌, ℕ, Bool, false, List, [], Some}
use Rattle.exo_tree.specs.Tree.{Cell, Control, Datum, Read, Block, Procedure, ConfigField}
use Rattle.exo_tree.specs.Context.{Context, fill}
use Rattle.exo_meaning.specs.Value.{Value}
use Rattle.exo_meaning.specs.State.{State, value}
use Rattle.exo_meaning.specs.Inputs.{IsAdmissible, FitsCell, Refines}
use Rattle.exo_meaning.specs.Run.{unit_world, kinds_of}
use Rattle.exo_meaning.specs.Units.{Scope, BufferName, sort_in, scope_of}
use Rattle.exo_meaning.specs.Unseen.{in_statement as mentions}
use Rattle.meaning_laws.specs.Context.{ComesTo}
use Rattle.meaning_laws.specs.Sorted.{MayRun, scope_at}
use Rattle.place_laws.specs.Scope.Opened.{MayLeave}
use Rattle.buffer_laws.specs.Bound.{Hole, filled, stores, bound, bound_cell}
use Rattle.buffer_laws.specs.Bound.{IsShort}
use Rattle.buffer_laws.specs.Buffers.{Buffer, is_buffer}
use Rattle.place_laws.specs.Order.Statements.{one}

abbrev pub IsBufferIn : Scope → ℕ → Cell → Type 0
IsBufferIn scope y cell =
    (rank : ℕ) × (dense : Bool) × (sort_in scope y ≡ Some (BufferName cell rank dense))

-- of a single read, the name is a buffer's of that cell type
abbrev pub ReadsCell : Scope → (ℕ → Cell) → Datum → Type 0
ReadsCell scope cells e =
    (y : ℕ) (is : List Control) → e ≡ Read y is → IsBufferIn scope y (cells y)

-- wherever a run comes to the place, the value fits the cell type that is made for it
abbrev pub BoundFitsAtPlace : Type 0
BoundFitsAtPlace =
    (fields : List ConfigField) (memories : ℕ) (ps : List Procedure) (p : Procedure) (c : Context)
    (old : Block) (cells : ℕ → Cell) (e : Datum) (s u : State) (v : Value)
    → MayRun fields memories ps p
    → p.body ≡ fill c old
    → ReadsCell (scope_at c (scope_of [] p.params)) cells e
    → IsShort e
    → let world = unit_world (kinds_of fields) ps in
    IsAdmissible world p s
    → ComesTo world old c s u
    → value u e ≡ Some v
    → FitsCell (bound_cell cells e) v

-- so tests on the trees and the types are enough for the step
abbrev pub BindAtPlace : Type 0
BindAtPlace =
    (fields : List ConfigField) (memories : ℕ) (ps : List Procedure) (p : Procedure) (c : Context)
    (cells : ℕ → Cell) (x : Buffer) (reduces : Bool) (y : ℕ) (is : List Control) (h : Hole)
    (e : Datum)
    → let old = one (stores reduces y is (filled h e)) in
    MayRun fields memories ps p
    → p.body ≡ fill c old
    → MayLeave p c (is_buffer x)
    → x.dims ≡ []
    → x.cell ≡ bound_cell cells e
    → mentions (is_buffer x) (stores reduces y is (filled h e)) ≡ false
    → ReadsCell (scope_at c (scope_of [] p.params)) cells e
    → IsShort e
    → Refines (unit_world (kinds_of fields) ps) p
    (record p { body = fill c (bound x reduces y is h e) }) []
