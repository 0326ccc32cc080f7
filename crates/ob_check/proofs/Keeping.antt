-- Verdicts that are to be kept in a cache can wait in an empty one.
use Rattle.std.proofs.Common.{◌≡◌, suc, ◌++◌, ◌≤◌, Bool, true, false, if◌then◌else◌, List, [], ◌∷◌, length, refl, sym, ap, ◌∙◌}
use Rattle.std.specs.Prelude.{fold, reverse}
use Rattle.std.specs.List.{AllByRecursion, IsDistinct}
use Rattle.std.specs.Map.{keys_of}
use Rattle.std.proofs.lemmas.List.{map-append, reverse-append}
use Rattle.std.proofs.lemmas.Map.{NonePasses}
use Rattle.std.proofs.lemmas.Map.Keys.{IsDistinct-head, IsDistinct-tail}
use Rattle.lru.specs.LruCache.{lru_cache, put_entries}
use Rattle.affine_forms.specs.Affine.{Constraints}
use Rattle.affine_forms.specs.System.{plain_system}
use Rattle.affine_forms.specs.declared.system.System.{System}
use Rattle.affine_prover.specs.declared.answer.Verdict.{Verdict}
use Rattle.affine_prover.specs.Elimination.{elimination}
use Rattle.ob_check.specs.Truth.{is_small}
use Rattle.ob_check.specs.Entries.{same_system, kept, put_back}
use Rattle.ob_check.proofs.Keys.{systems_equal}
use Rattle.ob_check.proofs.Keyed.{put_entries-keyed}
use Rattle.ob_check.proofs.Holding.{as_held, agree, constraints_decide}
use Rattle.ob_check.proofs.Stack.{AreApart, puts-by_kept}

-- the small ones of the systems, with their verdicts
with_verdicts : List Constraints → List (Constraints × Verdict)
with_verdicts [] = []
with_verdicts (s ∷ ss) = if is_small s then (s, elimination s) ∷ with_verdicts ss else with_verdicts ss

kept-put_back : (ss : List Constraints) (es : List (Constraints × Verdict)) → fold kept es ss ≡ fold put_back es (with_verdicts ss)
unfolding kept with_verdicts
kept-put_back [] es = refl
kept-put_back (s ∷ ss) es = by (is_small s) (λ fs. kept-put_back ss fs) where
  by : (b : Bool) → ((fs : List (Constraints × Verdict)) → fold kept fs ss ≡ fold put_back fs (with_verdicts ss)) → fold kept (if b then put_back es (s, elimination s) else es) ss ≡ fold put_back es (if b then (s, elimination s) ∷ with_verdicts ss else with_verdicts ss)
  by true rest = rest (put_back es (s, elimination s))
  by false rest = rest es

-- to keep systems is to put in, the oldest first, what an empty cache kept of them
pub kept-by_pending : (es pending : List (Constraints × Verdict)) (ss : List Constraints) → AreApart same_system es → length es ≤ 1024 → pending ≡ fold kept [] ss → fold put_back es (reverse pending) ≡ fold kept es ss
kept-by_pending es pending ss apart few is =
    ap (λ r. fold put_back es (reverse r)) (is ∙ kept-put_back ss [])
    ∙ sym (puts-by_kept same_system constraints_decide 1023 es (with_verdicts ss) apart few)
    ∙ sym (kept-put_back ss es)

-- no two keys of the program's cache are the same system
none-held : (s : System) (es : List (System × Verdict)) → AllByRecursion (λ t. systems_equal s t ≡ false) (keys_of es) → NonePasses (same_system (plain_system s)) (as_held es)
none-held s [] h = tt
none-held s (e ∷ es) h = (sym (agree s e.0) ∙ h.0, none-held s es h.1)

pub AreApart-held : (es : List (System × Verdict)) → IsDistinct systems_equal (keys_of es) → AreApart same_system (as_held es)
AreApart-held [] h = tt
AreApart-held (e ∷ es) h =
    (none-held e.0 es (IsDistinct-head systems_equal e.0 (keys_of es) h), AreApart-held es (IsDistinct-tail systems_equal e.0 (keys_of es) h))

pub length-held : (es : List (System × Verdict)) → length (as_held es) ≡ length es
length-held [] = refl
length-held (e ∷ es) = ap (λ n. suc n) (length-held es)

pub put_back-held : (es : List (System × Verdict)) (k : System) (v : Verdict) → as_held (put_entries systems_equal (lru_cache es 1024) k v) ≡ put_back (as_held es) (plain_system k, v)
put_back-held es k v = sym (put_entries-keyed plain_system systems_equal same_system agree k v 1024 es)

pub reverse-held : (es : List (System × Verdict)) → as_held (reverse es) ≡ reverse (as_held es)
reverse-held [] = refl
reverse-held (e ∷ es) =
    ap as_held (reverse-append (e ∷ []) es)
    ∙ map-append (λ f. (plain_system f.0, f.1)) (reverse es) (e ∷ [])
    ∙ ap (λ r. r ++ (plain_system e.0, e.1) ∷ []) (reverse-held es)
    ∙ sym (reverse-append ((plain_system e.0, e.1) ∷ []) (as_held es))
