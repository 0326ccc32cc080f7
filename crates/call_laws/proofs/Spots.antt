-- What is read in the piece of a spot.
use Rattle.exo_meaning.specs.State.{State}
use Rattle.exo_meaning.specs.Inputs.{IsAdmissible}
use Rattle.meaning_laws.specs.Context.{ComesTo}
use Rattle.step_rules.specs.Rule.{Spot}
use Rattle.step_rules.specs.Lawful.{old, around, world_of, IsSpot}
use Rattle.call_laws.specs.Places.{IsThere, reading_in}
use Rattle.call_laws.specs.Spots.{PiecesAreRead}
use Rattle.call_laws.proofs.Each.{each_is_read}
use Rattle.call_laws.proofs.Nameless.{of_each_nameless}

-- a run comes to the piece of a spot
pub comes_there : (s : Spot) → IsSpot s → (first u : State)
    → IsAdmissible (world_of s) s.target.proc first
    → ComesTo (world_of s) (old s) (around s) first u
    → IsThere s.target.unit s.target.proc (around s) (old s) u
comes_there s is first u good come =
    record { may = is.runs; body = is.body; first = first; good = good; comes = come }

pub pieces_are_read : PiecesAreRead
pieces_are_read s is first u good come stands =
    let read = each_is_read s.target.unit s.target.proc (around s) (old s) u
    (comes_there s is first u good come) in (
      read,
      of_each_nameless (world_of s) (reading_in s.target.unit s.target.proc) (old s) u read,
    )
