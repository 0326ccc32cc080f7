-- What the templates of instructions are to do where they are called: what their bodies say.
use Rattle.std.specs.Prelude.{◌≡◌, ℕ, true, List, Option, Some, slice_get}
use Rattle.exo_tree.specs.Tree.{Procedure, Program}
use Rattle.exo_tree.specs.Calls.{calls}
use Rattle.exo_meaning.specs.State.{State}
use Rattle.exo_meaning.specs.Calls.{all_hold}
use Rattle.exo_meaning.specs.Run.{run}
use Rattle.c_widths.specs.Few.{fewness_of}
use Rattle.c_unit_laws.specs.Follows.Machine.Machine.{Machine}
use Rattle.c_unit_laws.specs.Follows.Machine.CRun.{Behaviour}
use Rattle.c_lowering.specs.Made.Lowered.{param_forms}
use Rattle.c_lowering.specs.Made.LoweredUnit.{Printing, formals_of}
use Rattle.c_unit_laws.specs.Follows.Simulation.{Follows, Layout, Matches, Ends}
use Rattle.c_unit_laws.specs.Follows.Grounds.{world_above, bounds_in, plain_naming, plain_ground}

-- A template takes what its body takes. Wherever it begins with the same arguments, fields and
-- cells as the body, and the body's assertions hold, it does what the body does: it does not fault
-- where the body does not, leaves the same, and touches no other cells. Elsewhere it may do
-- anything.
pub record DoesItsBody (program : Program) (what : List Printing) (k : ℕ) (p : Procedure)
    (f : Behaviour) : Type 0 where
  pub formals : f.formals ≡ formals_of (plain_naming program what p) p.params
  pub follows :
      (layout : Layout) (s : State) (m : Machine)
      → let g = plain_ground program what k p in
      let forms = param_forms p.params in
      Matches g forms (bounds_in program what k) (λ x. x) layout s m
      → all_hold s.scene p.asserts ≡ true
      → Follows (fewness_of program k s) (Ends g forms layout s m)
      (run (world_above program k) p.body s) (f.run m)

-- The template of each instruction that a printed procedure calls does what its body says.
abbrev pub TemplatesDoTheirBodies : Program → List Printing → (ℕ → Option Behaviour) → Type 0
TemplatesDoTheirBodies program what templates =
    (i k : ℕ) (w : Printing) (caller p : Procedure) (text : List ℕ)
    → slice_get what i ≡ Some w
    → slice_get program.procedures w.proc ≡ Some caller
    → calls k caller.body ≡ true
    → slice_get program.procedures k ≡ Some p
    → p.template ≡ Some text
    → (f : Behaviour) × (templates k ≡ Some f) × DoesItsBody program what k p f
