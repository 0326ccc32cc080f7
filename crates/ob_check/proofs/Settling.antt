-- A list whose systems a cache knows changes nothing more once it is discharged: the systems come first, the last one before
-- the others, and asking for them again leaves them there.
use Rattle.std.proofs.Common.{◌≡◌, Bool, true, false, not, ◌&&◌, cond, List, [], ◌∷◌, ◌++◌, refl, sym, ap, ◌∙◌, subst}
use Rattle.std.specs.Prelude.{fold, filter}
use Rattle.std.specs.List.{list_all}
use Rattle.std.specs.Map.{lookup_entry, remove_entry}
use Rattle.std.proofs.lemmas.List.Sums.{fold-append}
use Rattle.affine_forms.specs.Affine.{Constraints}
use Rattle.affine_prover.specs.declared.answer.Verdict.{Verdict}
use Rattle.ob_check.specs.Entries.{same_system, asked, is_missing, kept, discharged}
use Rattle.ob_check.specs.Settled.{knows_all, KnownListsSettle}
use Rattle.ob_check.proofs.Holding.{constraints_decide, is_missing-asked}
use Rattle.ob_check.proofs.Promoting.{IsApart, AreAlike, promoted-alike, alike-promoted, others-alike}

abbrev Entries : Type 0
Entries = List (Constraints × Verdict)

abbrev Alike : Constraints → Entries → Entries → Type 0
Alike s xs ys = AreAlike (same_system s) xs ys

-- ---- asking

apart : (s t : Constraints) → same_system s t ≡ false → IsApart (same_system s) (same_system t)
apart s t off k is = by (same_system s k) refl where
  by : (b : Bool) → same_system s k ≡ b → b ≡ false
  by false h = refl
  by true h =
      let both : s ≡ t = (constraints_decide s k).0 h ∙ sym ((constraints_decide t k).0 is) in
      let on : same_system s t ≡ true = (constraints_decide s t).1 both in
      cc

turned : (s t : Constraints) → same_system s t ≡ false → same_system t s ≡ false
turned s t off = by (same_system t s) refl where
  by : (b : Bool) → same_system t s ≡ b → b ≡ false
  by false h = refl
  by true h =
      let on : same_system s t ≡ true = (constraints_decide s t).1 (sym ((constraints_decide t s).0 h)) in
      cc

alike-asked : (s t : Constraints) (xs ys : Entries) → Alike s xs ys → Alike s (asked xs t) (asked ys t)
alike-asked s t xs ys alike = by (same_system s t) refl where
  by : (b : Bool) → same_system s t ≡ b → Alike s (asked xs t) (asked ys t)
  by true h =
      let is : s ≡ t = (constraints_decide s t).0 h in
      let same : asked xs t ≡ asked ys t =
      promoted-alike (same_system t) xs ys (subst (λ r. Alike r xs ys) is alike) in
      record { found = ap (lookup_entry (same_system s)) same; others = ap (remove_entry (same_system s)) same }
  by false h =
      others-alike (same_system s) (same_system t) (apart s t h) (apart t s (turned s t h)) xs ys alike

alike-all : (s : Constraints) (ts : List Constraints) (xs ys : Entries) → Alike s xs ys → Alike s (fold asked xs ts) (fold asked ys ts)
alike-all s [] xs ys alike = alike
alike-all s (t ∷ ts) xs ys alike = alike-all s ts (asked xs t) (asked ys t) (alike-asked s t xs ys alike)

-- a system that is asked for later need not be asked for before
twice : (ss ts : List Constraints) (es : Entries) → fold asked (fold asked (fold asked es ss) ts) ss ≡ fold asked (fold asked es ts) ss
twice [] ts es = refl
twice (s ∷ ss) ts es =
    ap (λ x. fold asked x ss)
    (promoted-alike (same_system s) (fold asked (fold asked (asked es s) ss) ts) (fold asked (fold asked es ss) ts)
    (alike-all s ts _ _ (alike-all s ss _ _ (alike-promoted (same_system s) es)))
    ∙ sym (fold-append asked (fold asked es ss) ts (s ∷ [])))
    ∙ twice ss (ts ++ s ∷ []) es
    ∙ ap (λ x. fold asked x ss) (fold-append asked es ts (s ∷ []))

-- ---- nothing is missing

unmissed : (m : Constraints → Bool) (ss : List Constraints) → list_all (λ s. not (m s)) ss ≡ true → filter m ss ≡ []
unmissed m [] h = refl
unmissed m (s ∷ ss) h = by (m s) h (unmissed m ss) where
  by : (b : Bool) → (not b && list_all (λ s. not (m s)) ss) ≡ true → (list_all (λ s. not (m s)) ss ≡ true → filter m ss ≡ []) → cond b (s ∷ filter m ss) (filter m ss) ≡ []
  by true g rest = cc
  by false g rest = rest g

only_asked : (es : Entries) (ss : List Constraints) → knows_all es ss ≡ true → discharged es ss ≡ fold asked es ss
only_asked es ss h = ap (λ l. fold kept (fold asked es ss) l) (unmissed (is_missing es) ss h)

missing-asked : (es : Entries) (ts : List Constraints) (s : Constraints) → is_missing (fold asked es ts) s ≡ is_missing es s
missing-asked es [] s = refl
missing-asked es (t ∷ ts) s = missing-asked (asked es t) ts s ∙ is_missing-asked es t s

pub known_settles : KnownListsSettle
known_settles es ss known =
    let once : discharged es ss ≡ fold asked es ss = only_asked es ss known in
    let still : knows_all (fold asked es ss) ss ≡ true =
    (λ i. list_all (λ s. not (missing-asked es ss s i)) ss) ∙ known in
    ap (λ x. discharged x ss) once ∙ only_asked (fold asked es ss) ss still ∙ twice ss [] es ∙ sym once
