-- Procedures of a unit meet what the laws on their C ask, and so the C of files does what they do.
use Rattle.std.specs.Prelude.{◌≡◌, ℕ, true, List, Some, slice_get}
use Rattle.exo_tree.specs.Tree.{Procedure, Program}
use Rattle.exo_meaning.specs.Run.{World}
use Rattle.exo_meaning.specs.Units.{IsUnit}
use Rattle.inplace_laws.specs.CallInPlace.{AreDistinct}
use Rattle.memory_kinds.specs.Faults.{fault_of}
use Rattle.c_lowering.specs.Made.Lowered.{param_forms}
use Rattle.c_lowering.specs.Made.LoweredUnit.{Printing, is_listed, counts}
use Rattle.c_unit_laws.specs.Follows.Simulation.{Ground}
use Rattle.c_unit_laws.specs.Follows.Good.{IsGoodBlock, MayStore, AreGoodParams, AreNamedApart}
use Rattle.c_unit_laws.specs.Follows.Bodies.{bodies_of}
use Rattle.c_unit_laws.specs.Follows.Templates.{TemplatesDoTheirBodies}
use Rattle.c_unit_laws.specs.Follows.Units.{AreLowered, UnitsFollow}
use Rattle.c_unit_laws.specs.Follows.Grounds.{world_above, bounds_in, printed_ground, plain_ground}

-- What the laws on functions and blocks ask of a procedure and its names in the C.
pub record IsGoodProcedure (g : Ground) (most : ℕ → ℕ) (world : World)
    (p : Procedure) : Type 0 where
  pub named : AreNamedApart g (param_forms p.params)
  pub distinct : AreDistinct p.params
  pub params : AreGoodParams (param_forms p.params) most p.params
  pub body : IsGoodBlock g (param_forms p.params) most p.body
  pub may : MayStore g.stored world (λ x. x) p.body

-- Each printed procedure of a unit that has a C meets it.
abbrev pub PrintedProceduresAreGood : Type 0
PrintedProceduresAreGood =
    (program : Program) (what : List Printing) (k : ℕ) (p : Procedure)
    → IsUnit program
    → AreLowered fault_of program what
    → slice_get program.procedures k ≡ Some p
    → is_listed what k ≡ true
    → IsGoodProcedure (printed_ground program what k p) (bounds_in program what k)
    (world_above program k) p

-- So does the body of each that is printed or called, directly or through others.
abbrev pub BodiesAreGood : Type 0
BodiesAreGood =
    (program : Program) (what : List Printing) (k : ℕ) (p : Procedure)
    → IsUnit program
    → AreLowered fault_of program what
    → slice_get program.procedures k ≡ Some p
    → counts program what k ≡ true
    → IsGoodProcedure (plain_ground program what k p) (bounds_in program what k)
    (world_above program k) p

-- The bodies of instructions are templates that do what their bodies say.
abbrev pub BodiesAreTemplates : Type 0
BodiesAreTemplates =
    (program : Program) (what : List Printing)
    → IsUnit program
    → AreLowered fault_of program what
    → TemplatesDoTheirBodies program what (slice_get (bodies_of program what))

-- From the same valid input a call of a function of the file ends well where its procedure does
-- not fault: it does not fault, leaves the same where it is done, and is done where no allocation
-- is large.
abbrev pub FilesFollow : Type 0
FilesFollow = UnitsFollow fault_of
