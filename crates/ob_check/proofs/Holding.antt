-- What a cache of the program's systems holds, as constraints with their verdicts.
use Rattle.std.proofs.Common.{◌≡◌, ◌==◌, true, false, not, ◌&&◌, if◌then◌else◌, List, map, sym, ap, ◌∙◌}
use Rattle.std.specs.Prelude.{is_none}
use Rattle.std.specs.Bool.{Decides}
use Rattle.std.specs.Ordering.{int_eq}
use Rattle.std.specs.Cmp.Lexicographic.{pointwise, pointwise_decides}
use Rattle.std.specs.Map.{lookup}
use Rattle.std.proofs.lemmas.Bool.Decides.{Decides-eqb, Decides-int_eq, Decides-and, Decides-like, same_from_decides}
use Rattle.lru.specs.LruCache.{lru_cache, promoted, put_entries}
use Rattle.affine_forms.specs.Affine.{Affine, Constraints}
use Rattle.affine_forms.specs.System.{plain_system}
use Rattle.affine_forms.specs.declared.system.System.{System}
use Rattle.affine_prover.specs.declared.answer.Verdict.{Verdict}
use Rattle.affine_prover.specs.Elimination.{elimination}
use Rattle.ob_check.specs.Truth.{is_small}
use Rattle.ob_check.specs.Entries.{same_sum, same_system, asked, is_missing, kept}
use Rattle.ob_check.proofs.Keys.{systems_equal, systems_decide}
use Rattle.ob_check.proofs.Keyed.{lookup-keyed, promoted-keyed, put_entries-keyed, lookup-promoted}

sums_decide : (a b : Affine) → Decides (same_sum a b) (a ≡ b)
sums_decide a b =
    Decides-like (same_sum a b) (λ p i. record { constant = p.0 i; coefficients = p.1 i }) (λ e. (ap (λ s. s.constant) e, ap (λ s. s.coefficients) e)) (Decides-and (int_eq a.constant b.constant) (pointwise int_eq a.coefficients b.coefficients) (Decides-int_eq a.constant b.constant) (pointwise_decides Decides-int_eq a.coefficients b.coefficients))

pub constraints_decide : (s t : Constraints) → Decides (same_system s t) (s ≡ t)
constraints_decide s t =
    Decides-like (same_system s t) (λ p i. record { variables = p.0 i; equations = p.1.0 i; rows = p.1.1 i }) (λ e. (ap (λ c. c.variables) e, (ap (λ c. c.equations) e, ap (λ c. c.rows) e)))
    (Decides-and (s.variables == t.variables) (pointwise same_sum s.equations t.equations && pointwise same_sum s.rows t.rows) (Decides-eqb s.variables t.variables) (Decides-and (pointwise same_sum s.equations t.equations) (pointwise same_sum s.rows t.rows) (pointwise_decides sums_decide s.equations t.equations) (pointwise_decides sums_decide s.rows t.rows)))

-- `==` on the program's systems is sameness of the constraints
pub agree : (s t : System) → systems_equal s t ≡ same_system (plain_system s) (plain_system t)
agree s t = same_from_decides (systems_equal s t) (same_system (plain_system s) (plain_system t)) (systems_decide s t) (constraints_decide (plain_system s) (plain_system t))

abbrev pub as_held : List (System × Verdict) → List (Constraints × Verdict)
as_held es = map (λ e. (plain_system e.0, e.1)) es

pub asked-held : (s : System) (es : List (System × Verdict)) → as_held (promoted (systems_equal s) es) ≡ asked (as_held es) (plain_system s)
asked-held s es = sym (promoted-keyed plain_system systems_equal same_system agree s es)

pub is_missing-held : (s : System) (es : List (System × Verdict)) → is_none (lookup (systems_equal s) es) ≡ is_missing (as_held es) (plain_system s)
is_missing-held s es = sym (ap is_none (lookup-keyed plain_system systems_equal same_system agree s es))

pub kept-held : (es : List (System × Verdict)) (k : System) (v : Verdict) (s : Constraints) → plain_system k ≡ s → v ≡ elimination s → is_small s ≡ true → as_held (put_entries systems_equal (lru_cache es 1024) k v) ≡ kept (as_held es) s
unfolding kept
kept-held es k v s same exact small =
    sym (put_entries-keyed plain_system systems_equal same_system agree k v 1024 es)
    ∙ ap (λ c. put_entries same_system (lru_cache (as_held es) 1024) c v) same
    ∙ ap (put_entries same_system (lru_cache (as_held es) 1024) s) exact
    ∙ sym (ap (λ b. if b then put_entries same_system (lru_cache (as_held es) 1024) s (elimination s) else as_held es) small)

pub not_kept : (es : List (Constraints × Verdict)) (s : Constraints) → is_small s ≡ false → kept es s ≡ es
unfolding kept
not_kept es s large = ap (λ b. if b then put_entries same_system (lru_cache es 1024) s (elimination s) else es) large

-- a system that is missing stays so, whatever is asked for
pub is_missing-asked : (es : List (Constraints × Verdict)) (t s : Constraints) → is_missing (asked es t) s ≡ is_missing es s
is_missing-asked es t s = ap not (lookup-promoted (same_system s) (same_system t) es)
