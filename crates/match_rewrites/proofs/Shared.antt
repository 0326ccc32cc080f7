-- What a procedure of the unit writes is what the table of its modes says.
use Rattle.std.proofs.Common.{◌≡◌, ℕ, zero, suc, List, [], ◌∷◌, Option, Some, None, refl, ap, sym, ◌∙◌}
use Rattle.std.specs.Prelude.{slice_get}
use Rattle.exo_tree.specs.Tree.{Argument, Procedure}
use Rattle.exo_tree.specs.Places.{Opened}
use Rattle.exo_meaning.specs.Calls.{Callee}
use Rattle.exo_meaning.specs.Modes.{Modes, modes_at}
use Rattle.exo_meaning.specs.Run.{kinds_of, program_world}
use Rattle.exo_meaning.specs.Units.{field_kind, share_nothing_written}
use Rattle.exo_modes.specs.Marks.{writing, modes_of}
use Rattle.piece_modes.specs.Way.{around_of}
use Rattle.place_laws.specs.Scope.Roots.{own_roots_at}
use Rattle.step_driver.specs.Spots.{or_nothing}
use Rattle.step_rules.specs.Rule.{Target}
use Rattle.tree_findings.proofs.Callees.{Agree, all_agree}
use Rattle.call_laws.specs.Replace.Rule.{written_by, may_share}

written : (cs : List Callee) (fs : List Modes) (k : ℕ) → Agree cs fs
    → writing (modes_at fs k) ≡ written_by (slice_get cs k)
written [] [] zero all = refl
written [] [] (suc k) all = refl
written [] (f ∷ fs) k all = absurd all
written (c ∷ cs) [] k all = absurd all
written (c ∷ cs) (f ∷ fs) zero all = λ i y. sym (all.0.is y) i
written (c ∷ cs) (f ∷ fs) (suc k) all = written cs fs k all.1

around_same : (x : Option Opened) → around_of x ≡ (or_nothing x).around
around_same None = refl
around_same (Some o) = refl

pub shares_same : (t : Target) (x : Option Opened) (k : ℕ) (q : Procedure) (args : List Argument)
    → (ms : List Modes) (roots : ℕ → ℕ)
    → ms ≡ modes_of t.unit
    → roots ≡ own_roots_at (around_of x)
    → share_nothing_written (field_kind t.unit.fields) (writing (modes_at ms k)) roots q.params args
    ≡ may_share t (or_nothing x) k q args
shares_same t x k q args ms roots are stand =
    let kinds = kinds_of t.unit.fields in
    let shared = share_nothing_written (field_kind t.unit.fields) in
    ap (λ fs. shared (writing (modes_at fs k)) roots q.params args) are
    ∙ ap (λ w. shared w roots q.params args)
    (written _ (modes_of t.unit) k (all_agree kinds [] [] t.unit.procedures tt))
    ∙ ap (λ r. shared (written_by ((program_world t.unit).callees k)) r q.params args) (stand ∙ ap own_roots_at (around_same x))
