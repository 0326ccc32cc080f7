-- What a cache holds, as a list of systems with their verdicts: the one that was asked for or kept last comes first.
use Rattle.std.specs.Prelude.{◌==◌, Bool, ◌&&◌, if◌then◌else◌, List, fold, filter, is_none}
use Rattle.std.specs.Ordering.{int_eq}
use Rattle.std.specs.Cmp.Lexicographic.{pointwise}
use Rattle.std.specs.Map.{lookup}
use Rattle.lru.specs.LruCache.{lru_cache, promoted, put_entries}
use Rattle.affine_forms.specs.Affine.{Affine, Constraints}
use Rattle.affine_prover.specs.declared.answer.Verdict.{Verdict}
use Rattle.affine_prover.specs.Elimination.{elimination}
use Rattle.ob_check.specs.Truth.{is_small}

-- two sums, and two systems, are the same
abbrev pub same_sum : Affine → Affine → Bool
same_sum a b = int_eq a.constant b.constant && pointwise int_eq a.coefficients b.coefficients

abbrev pub same_system : Constraints → Constraints → Bool
same_system s t = (s.variables == t.variables) && (pointwise same_sum s.equations t.equations && pointwise same_sum s.rows t.rows)

-- asked for a system: it comes first, if it is there
abbrev pub asked : List (Constraints × Verdict) → Constraints → List (Constraints × Verdict)
asked es s = promoted (same_system s) es

-- the system is not there
abbrev pub is_missing : List (Constraints × Verdict) → Constraints → Bool
is_missing es s = is_none (lookup (same_system s) es)

-- with the verdict on a small system, which comes first: of 1,024 others the last one goes
unfoldable pub kept : List (Constraints × Verdict) → Constraints → List (Constraints × Verdict)
kept es s = if is_small s then put_entries same_system (lru_cache es 1024) s (elimination s) else es

-- an entry is put in as it stands
abbrev pub put_back :
    List (Constraints × Verdict) → Constraints × Verdict → List (Constraints × Verdict)
put_back es e = put_entries same_system (lru_cache es 1024) e.0 e.1

-- once a list of systems is discharged: each is looked up in order, and then those that were missing are kept in order
abbrev pub discharged : List (Constraints × Verdict) → List Constraints → List (Constraints × Verdict)
discharged es ss = fold kept (fold asked es ss) (filter (is_missing es) ss)
