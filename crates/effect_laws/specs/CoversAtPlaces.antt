-- The accesses of a piece cover what it touches from each state that is like one in which a run
-- comes to it.
use Rattle.std.specs.Prelude.{◌≡◌, ℕ, suc, Some, length}
use Rattle.exo_tree.specs.Tree.{Procedure, Program}
use Rattle.exo_tree.specs.Places.{Path, Opened, opened}
use Rattle.exo_meaning.specs.State.{State}
use Rattle.exo_meaning.specs.Run.{program_world}
use Rattle.exo_meaning.specs.Inputs.{IsAdmissible}
use Rattle.meaning_laws.specs.Sorted.{MayRun}
use Rattle.meaning_laws.specs.Touched.{touched}
use Rattle.check_laws.specs.Facts.Laws.{ComesToPlace}
use Rattle.exo_effects.specs.Accesses.{accesses_of}
use Rattle.exo_effects.specs.Uses.{modes_of}
use Rattle.effect_laws.specs.Covers.{Covers}

-- of one statement and more of a procedure of a well-formed unit: where a run on an admissible
-- input comes to the first of them in a, and t has the control values, dimensions, strides and
-- views of a
abbrev pub CoversAtPlaces : Type 0
CoversAtPlaces =
    (u : Program) (p : Procedure) (path : Path) (n : ℕ) (o : Opened) (s a t : State)
    → MayRun u.fields (length u.memories) u.procedures p
    → opened (suc n) path p.body ≡ Some o
    → IsAdmissible (program_world u) p s
    → ComesToPlace (program_world u) (opened 1 path p.body) s a
    → t.scene ≡ a.scene
    → Covers t.scene (accesses_of u p path (suc n))
    (touched (program_world u) (modes_of u) o.piece t)
