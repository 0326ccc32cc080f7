-- Arguments of a call whose conflicts have no integer point have no cell in common.
use Rattle.std.specs.Prelude.{◌≡◌, ℕ, true, length, map, flat_map, Some}
use Rattle.exo_tree.specs.Tree.{Procedure, Program}
use Rattle.exo_tree.specs.Calls.{call_arguments}
use Rattle.exo_tree.specs.Places.{Path, Opened, opened}
use Rattle.exo_meaning.specs.State.{State}
use Rattle.exo_meaning.specs.Calls.{are_apart_at}
use Rattle.exo_meaning.specs.Run.{program_world}
use Rattle.exo_meaning.specs.Inputs.{IsAdmissible}
use Rattle.exo_meaning.specs.Orders.{Each}
use Rattle.meaning_laws.specs.Context.{ComesTo}
use Rattle.meaning_laws.specs.Sorted.{MayRun}
use Rattle.affine_forms.specs.Affine.{HasNoIntegerPoint}
use Rattle.check_laws.specs.Facts.Laws.{context_of}
use Rattle.exo_effects.specs.Accesses.{access_of}
use Rattle.exo_effects.specs.Orders.{no_order}
use Rattle.exo_effects.specs.Conflicts.{clashing, past_these, owed_for}
use Rattle.exo_effects.specs.Uses.{argument_at}

-- nothing that is owed for two arguments of the call at the place has an integer point
abbrev pub IsPairShown : Program → Procedure → Path → ℕ → ℕ → Type 0
IsPairShown u p place j k =
    let ctx = context_of u p place in
    let xs = map access_of (argument_at u p place j) in
    let ys = map access_of (argument_at u p place k) in
    Each (λ o. HasNoIntegerPoint o.system)
    (flat_map (owed_for ctx no_order place (past_these ctx no_order xs ys)) (clashing xs ys))

-- so they have no cell in common wherever a run comes to the call
abbrev pub PairsAreApart : Type 0
PairsAreApart =
    (u : Program) (p : Procedure) (place : Path) (o : Opened) (j k : ℕ)
    → MayRun u.fields (length u.memories) u.procedures p
    → opened 1 place p.body ≡ Some o
    → IsPairShown u p place j k
    → (s t : State)
    → IsAdmissible (program_world u) p s
    → ComesTo (program_world u) o.piece o.around s t
    → are_apart_at t.scene (call_arguments o.piece) j k ≡ true
