-- What verdicts come to, in order.
use Rattle.std.proofs.Common.{◌≡◌, ℕ, suc, ◌+◌, ◌<◌, true, false, cond, not, List, [], ◌∷◌, ◌++◌, map, drop, take, length, get_or, Some, None, All, refl, sym, ap, ◌∙◌, subst, arith, add-one, append_assoc, length-append}
use Rattle.std.specs.Prelude.{slice_get}
use Rattle.std.specs.List.{AllByRecursion, position_or_len}
use Rattle.std.proofs.lemmas.List.{drop-drop, map-append, take-append-drop, length-take-le}
use Rattle.std.proofs.Math.Seq.{take-append_seam, take-suc}
use Rattle.std.proofs.lemmas.List.Elements.{All-map, All-weaker, All-push, recursion_from_All}
use Rattle.affine_forms.specs.Affine.{HasNoIntegerPoint}
use Rattle.affine_prover.specs.declared.answer.Verdict.{Verdict}
use Rattle.affine_prover.specs.declared.answer.Verdict.TheVariants.{Shown, Open, TooMany, TooWide}
use Rattle.affine_prover.specs.Elimination.{elimination}
use Rattle.ob_check.specs.declared.answer.Answer.TheVariants.{AllShown, First}
use Rattle.ob_check.specs.declared.known.KnownSystem.{KnownSystem}
use Rattle.ob_check.specs.declared.found.Found.{Found}
use Rattle.ob_check.specs.declared.found.Found.TheVariants.{Kept, Missing}
use Rattle.ob_check.specs.Truth.{IsTrueOf}
use Rattle.ob_check.specs.Systems.{system_found, system_known, missing_of, ComesFirst, own_count}
use Rattle.ob_check.proofs.Lists.{item_at}
use Rattle.ob_check.specs.Answers.{is_refused, answer_at, answer_of}

-- ---- the decided systems, where they go on

first_missing : (f : Found) (fs : List Found) (ds : List KnownSystem) → map system_known ds ≡ missing_of (f ∷ fs) → ComesFirst f ds × (map system_known (drop (own_count f) ds) ≡ missing_of fs)
first_missing (Kept k) fs ds e = (tt, e)
first_missing (Missing s) fs [] e = cc
first_missing (Missing s) fs (d ∷ ds) e = (cc, cc)

pub next_missing : (f : Found) (fs : List Found) (ds : List KnownSystem) (next : ℕ) → map system_known (drop next ds) ≡ missing_of (f ∷ fs) → ComesFirst f (drop next ds) × (map system_known (drop (next + own_count f) ds) ≡ missing_of fs)
next_missing f fs ds next e =
    let h = first_missing f fs (drop next ds) e in
    (h.0, ap (map system_known) (sym (drop-drop (own_count f) next ds)) ∙ h.1)

-- ---- the first that is refused

AreShown : List Verdict → Type 0
AreShown = AllByRecursion (λ v. v ≡ Shown)

position_after : (vs : List Verdict) (v : Verdict) (ws : List Verdict) → AreShown vs → is_refused v ≡ true → position_or_len is_refused (vs ++ v ∷ ws) ≡ length vs
unfolding AreShown
position_after [] v ws h r = ap (λ b. cond (not b) (1 + position_or_len is_refused ws) 0) r
position_after (x ∷ xs) v ws h r =
    ap (λ y. cond (not (is_refused y)) (1 + position_or_len is_refused (xs ++ v ∷ ws)) 0) h.0 ∙ (let k = position_after xs v ws h.1 r in omega arith)

position_none : (vs : List Verdict) → AreShown vs → position_or_len is_refused vs ≡ length vs
unfolding AreShown
position_none [] h = refl
position_none (x ∷ xs) h = ap (λ y. cond (not (is_refused y)) (1 + position_or_len is_refused xs) 0) h.0 ∙ (let k = position_none xs h.1 in omega arith)

get_behind : (vs : List Verdict) (v : Verdict) (ws : List Verdict) → slice_get (vs ++ v ∷ ws) (length vs) ≡ Some v
get_behind [] v ws = refl
get_behind (x ∷ xs) v ws = get_behind xs v ws

get_past : (vs : List Verdict) → slice_get vs (length vs) ≡ None
get_past [] = refl
get_past (x ∷ xs) = get_past xs

answer_after : (vs : List Verdict) (v : Verdict) (ws : List Verdict) → AreShown vs → is_refused v ≡ true → answer_of (vs ++ v ∷ ws) ≡ First (length vs) v
answer_after vs v ws h r =
    ap (λ i. answer_at i (slice_get (vs ++ v ∷ ws) i)) (position_after vs v ws h r) ∙ ap (answer_at (length vs)) (get_behind vs v ws)

answer_none : (vs : List Verdict) → AreShown vs → answer_of vs ≡ AllShown
answer_none vs h = ap (λ i. answer_at i (slice_get vs i)) (position_none vs h) ∙ ap (answer_at (length vs)) (get_past vs)

-- ---- the answer on what was found

abbrev pub IsShown : Found → Type 0
IsShown f = IsTrueOf (system_found f) Shown

abbrev eliminations : List Found → List Verdict
eliminations fs = map elimination (map system_found fs)

are_shown : (fs : List Found) → AllByRecursion IsShown fs → AreShown (eliminations fs)
unfolding AreShown
are_shown [] h = tt
are_shown (f ∷ fs) h = (sym h.0.exact, are_shown fs h.1)

lengths : (fs : List Found) → length (eliminations fs) ≡ length fs
lengths [] = refl
lengths (f ∷ fs) = ap suc (lengths fs)

joined : (gs : List Found) (f : Found) (rest : List Found) → eliminations (gs ++ f ∷ rest) ≡ eliminations gs ++ elimination (system_found f) ∷ eliminations rest
joined [] f rest = refl
joined (g ∷ gs) f rest = ap (λ vs. elimination (system_found g) ∷ vs) (joined gs f rest)

-- the first system whose verdict is not `Shown`
pub answer_first : (gs : List Found) (f : Found) (rest : List Found) (v : Verdict) → All IsShown gs → IsTrueOf (system_found f) v → is_refused v ≡ true → First (length gs) v ≡ answer_of (eliminations (gs ++ f ∷ rest))
answer_first gs f rest v shown true_of refused =
    let after = answer_after (eliminations gs) v (eliminations rest) (are_shown gs (recursion_from_All IsShown gs shown)) refused in
    sym (
    ap answer_of (joined gs f rest)
    ∙ ap (λ w. answer_of (eliminations gs ++ w ∷ eliminations rest)) (sym true_of.exact)
    ∙ after
    ∙ ap (λ n. First n v) (lengths gs)
    )

pub answer_all : (fs : List Found) → All IsShown fs → AllShown ≡ answer_of (eliminations fs)
answer_all fs shown = sym (answer_none (eliminations fs) (are_shown fs (recursion_from_All IsShown fs shown)))

pub no_points : (fs : List Found) → All IsShown fs → All HasNoIntegerPoint (map system_found fs)
no_points fs shown = All-map HasNoIntegerPoint system_found fs (All-weaker IsShown (λ f. HasNoIntegerPoint (system_found f)) (λ f t. t.shown_has_no_point refl) fs shown)

-- ---- one system more

pub only_shown : (v : Verdict) → is_refused v ≡ false → v ≡ Shown
only_shown Shown h = refl
only_shown Open h = cc
only_shown TooMany h = cc
only_shown TooWide h = cc

whole : (fs : List Found) (i : ℕ) (f : Found) → i < length fs → f ≡ get_or fs i f → take i fs ++ f ∷ drop (i + 1) fs ≡ fs
whole fs i f h e = ap (λ gs. take i fs ++ gs) (sym (item_at fs i f h e)) ∙ take-append-drop i fs

pub first_at : (fs : List Found) (i : ℕ) (f : Found) (v : Verdict) → i < length fs → f ≡ get_or fs i f → All IsShown (take i fs) → IsTrueOf (system_found f) v → is_refused v ≡ true → First i v ≡ answer_of (map elimination (map system_found fs))
first_at fs i f v h e shown true_of refused =
    let n : length (take i fs) ≡ i = length-take-le i fs (omega (arith, h)) in
    sym (ap (λ k. First k v) n) ∙ answer_first (take i fs) f (drop (i + 1) fs) v shown true_of refused ∙ ap (λ gs. answer_of (eliminations gs)) (whole fs i f h e)

pub rest_missing : (fs : List Found) (i : ℕ) (f : Found) (ds : List KnownSystem) (next own : ℕ) → i < length fs → f ≡ get_or fs i f → own ≡ own_count f → map system_known (drop next ds) ≡ missing_of (drop i fs) → map system_known (drop (next + own) ds) ≡ missing_of (drop (i + 1) fs)
rest_missing fs i f ds next own h e o m = ap (λ k. map system_known (drop (next + k) ds)) o ∙ (next_missing f (drop (i + 1) fs) ds next (m ∙ ap missing_of (item_at fs i f h e))).1

pub more_shown : (fs : List Found) (i : ℕ) (f : Found) (v : Verdict) → i < length fs → f ≡ get_or fs i f → All IsShown (take i fs) → IsTrueOf (system_found f) v → is_refused v ≡ false → All IsShown (take (i + 1) fs)
more_shown fs i f v h e shown true_of kept =
    let n : length (take i fs) ≡ i = length-take-le i fs (omega (arith, h)) in
    let one : IsShown f = subst (IsTrueOf (system_found f)) (only_shown v kept) true_of in
    let parts : take (i + 1) fs ≡ take i fs ++ f ∷ [] = ap (take (i + 1)) (sym (whole fs i f h e)) ∙ front (take i fs) f (drop (i + 1) fs) (i + 1) (ap (λ k. k + 1) n) in
    subst (All IsShown) (sym parts) (All-push IsShown (take i fs) f shown one)
  where
    front : (gs : List Found) (f : Found) (rest : List Found) (n : ℕ) → length gs + 1 ≡ n → take n (gs ++ f ∷ rest) ≡ gs ++ f ∷ []
    front gs f rest n e = ap (λ k. take k (gs ++ f ∷ rest)) (sym e ∙ sym (length-append gs (f ∷ []))) ∙ ap (take (length (gs ++ f ∷ []))) (sym (append_assoc gs (f ∷ []) rest)) ∙ take-append_seam (gs ++ f ∷ []) rest

-- one more with its verdict
pub one_known : (fs : List Found) (i : ℕ) (f : Found) (ks ls : List KnownSystem) (k : KnownSystem) → i < length fs → f ≡ get_or fs i f → ls ≡ ks ++ k ∷ [] → system_known k ≡ system_found f → map system_known ks ≡ map system_found (take i fs) → map system_known ls ≡ map system_found (take (i + 1) fs)
one_known fs i f ks ls k h e is same so_far =
    ap (map system_known) is
    ∙ map-append system_known ks (k ∷ [])
    ∙ ap (λ ss. map system_known ks ++ ss ∷ []) same
    ∙ ap (λ ss. ss ++ system_found f ∷ []) so_far
    ∙ sym (map-append system_found (take i fs) (f ∷ []))
    ∙ sym (ap (map system_found) (ap (λ n. take n fs) (add-one i) ∙ take-suc fs i f h ∙ ap (λ g. take i fs ++ g ∷ []) (sym e)))
