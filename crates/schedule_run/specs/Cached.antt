-- What the cache holds behind lines.
use Rattle.std.specs.Prelude.{◌≡◌, ℕ, List, [], ◌∷◌, ◌++◌, Option, Some, None}
use Rattle.affine_forms.specs.Affine.{Constraints}
use Rattle.affine_systems.specs.Outcomes.{Owed}
use Rattle.affine_prover.specs.declared.answer.Verdict.{Verdict}
use Rattle.bounds_check.specs.Obligations.{obligations_of}
use Rattle.unit_check.specs.Cached.{discharged_all}
use Rattle.cursor_forward.specs.Proposals.{Plan}
use Rattle.tree_laws.specs.Findings.Versions.{with_version}
use Rattle.schedule_text.specs.Tree as tree
use Rattle.schedule_laws.specs.Versions.Versions.{Versions, version_of}
use Rattle.schedule_laws.specs.Versions.Lines.{Act, Apply, Call, Went, performed}
use Rattle.schedule_run.specs.Runs.{IsAct}
use Rattle.schedule_run.specs.Planned.{Made, Got, Not, planned_of}

-- what is discharged for a step: what it owes by itself, and what its result owes in the longer
-- unit
abbrev pub lists_for : Versions → Plan → List (List Owed)
lists_for v m = m.must ∷ obligations_of (with_version v.unit m.proc) m.proc ∷ []

abbrev pub lists_made : Versions → Made Plan → List (List Owed)
lists_made v (Got m) = lists_for v m
lists_made v (Not why) = []

abbrev pub lists_called : Versions → Call → Option ℕ → List (List Owed)
lists_called v call None = []
lists_called v call (Some k) = lists_made v (planned_of v call k)

-- what is discharged for an act that is done
abbrev pub lists_of : Versions → Act → List (List Owed)
lists_of v (Apply name of call) = lists_called v call (version_of v of)
lists_of v other = []

-- what is discharged for lines, one after the other
pub data LinesOwe : List tree.Line → Versions → List (List Owed) → Type 0 where
  no_line : (v : Versions) → LinesOwe [] v []
  one_line : (line : tree.Line) (rest : List tree.Line) (v w : Versions) (a : Act)
      (lists : List (List Owed))
      → IsAct line a
      → performed v a ≡ Went w
      → LinesOwe rest w lists
      → LinesOwe (line ∷ rest) v (lists_of v a ++ lists)

-- from what it held before to what it holds behind a line, and behind lines
abbrev pub LineCached :
    tree.Line → Versions → Versions
    → List (Constraints × Verdict) → List (Constraints × Verdict) → Type 0
LineCached line v w before after =
    (a : Act)
    × IsAct line a
    × (performed v a ≡ Went w)
    × (after ≡ discharged_all before (lists_of v a))

abbrev pub LinesCached :
    List tree.Line → Versions
    → List (Constraints × Verdict) → List (Constraints × Verdict) → Type 0
LinesCached lines v before after =
    (lists : List (List Owed)) × LinesOwe lines v lists × (after ≡ discharged_all before lists)
