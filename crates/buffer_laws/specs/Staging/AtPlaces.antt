-- What is known of names and cells wherever a run comes to, for a block that is staged there.
use Rattle.std.specs.Prelude.{◌≡◌, ℕ, Bool, List, [], Some}
use Rattle.exo_tree.specs.Tree.{Cell, Binder, Coord, Block, Procedure, ConfigField}
use Rattle.exo_tree.specs.Context.{Context, fill}
use Rattle.exo_meaning.specs.State.{State}
use Rattle.exo_meaning.specs.Run.{unit_world, kinds_of}
use Rattle.exo_meaning.specs.Inputs.{IsAdmissible}
use Rattle.exo_meaning.specs.Units.{BufferName, sort_in, scope_of}
use Rattle.meaning_laws.specs.Context.{ComesTo}
use Rattle.meaning_laws.specs.Copies.{IsFree}
use Rattle.meaning_laws.specs.Sorted.{MayRun, scope_at}
use Rattle.place_laws.specs.Scope.Roots.{own_roots_at}
use Rattle.buffer_laws.specs.Staging.Alone.{AreRoots}
use Rattle.buffer_laws.specs.Staging.Converted.{FitsWithin}
use Rattle.buffer_laws.specs.Staging.Known.{IsKnown}

-- each buffer that is there is its own root
abbrev pub OwnRootsLaw : Type 0
OwnRootsLaw =
    (fields : List ConfigField) (memories : ℕ) (ps : List Procedure) (p : Procedure) (c : Context)
    (old : Block) (s u : State)
    → MayRun fields memories ps p
    → p.body ≡ fill c old
    → let world = unit_world (kinds_of fields) ps in
    IsAdmissible world p s
    → ComesTo world old c s u
    → AreRoots (own_roots_at c) u

-- x is a buffer's name of that cell type there, a is free, and the accesses of x meet its points:
-- then all is known that a staged block has to know of the state
abbrev pub KnownAtPlace : Type 0
KnownAtPlace =
    (fields : List ConfigField) (memories : ℕ) (ps : List Procedure) (p : Procedure) (c : Context)
    (a : Binder) (cell : Cell) (rank : ℕ) (dense : Bool) (x : ℕ) (coords : List Coord)
    (b : Block) (s u : State)
    → MayRun fields memories ps p
    → p.body ≡ fill c b
    → IsFree p c a.id
    → sort_in (scope_at c (scope_of [] p.params)) x ≡ Some (BufferName cell rank dense)
    → let world = unit_world (kinds_of fields) ps in
    IsAdmissible world p s
    → ComesTo world b c s u
    → FitsWithin world x coords b u
    → IsKnown world (own_roots_at c) a cell x coords b u
