-- What a round comes to, from what the code has computed.
use Rattle.std.proofs.Common.{ℕ, zero, suc, ◌+◌, ◌<◌, ◌≡◌, ◌&&◌, Bool, true, false, not, cond, List, [], ◌∷◌, ◌++◌, map, length, get_or, Some, None, arith, ap, sym, subst, ◌∙◌, refl}
use Rattle.std.proofs.Common.{ltb, ◌⊎◌, inl, inr}
use Rattle.std.proofs.lemmas.Bool.Decides.{nat_tests}
use Rattle.std.specs.List.{AllByRecursion, filter, flat_map, find, list_any, list_all, remove, position, position_or_len}
use Rattle.std.proofs.lemmas.List.Quantifiers.{position-Some}
use Rattle.std.proofs.lemmas.List.Sums.{position_or_len_is}
use Rattle.std.proofs.lemmas.List.Elements.{All-from_recursion, recursion_from_All}
use Rattle.std.proofs.Math.Bool.{and-false}
use Rattle.affine_prover.specs.declared.answer.Verdict.TheVariants.{Shown, TooWide}
use Rattle.affine_forms.specs.Affine.{Affine}
use Rattle.affine_prover.specs.RowSets.Shapes.{AreWide}
use Rattle.affine_prover.specs.Elimination.{put_in, round_of, round_on, round, Round}
use Rattle.affine_prover.specs.RowSets.Rows.{is_constant, is_impossible, tightened, has_unit}
use Rattle.affine_prover.specs.RowSets.Rows.{unit_place, substituted, is_narrow_substituted}
use Rattle.affine_prover.specs.RowSets.Rows.{negated, reduced}
use Rattle.affine_prover.specs.Elimination.Round.{Finished, Solved, Unsolved}
use Rattle.affine_prover.proofs.OfRowSets.Narrow.{some-kept, none-kept}
use Rattle.affine_prover.proofs.OfRowSets.Everywhere.{everywhere-map, everywhere-filter}
use Rattle.affine_prover.proofs.OfRowSets.Everywhere.{everywhere-like}
use Rattle.affine_prover.proofs.OfRowSets.Widths.{IsWide, tightened-wide}

find-first : {X : Type 0} (p : X → Bool) (xs : List X) (i : ℕ) (x : X) → i < length xs → x ≡ get_or xs i x → p x ≡ true → ((k : ℕ) → k < i → p (get_or xs k x) ≡ false) → find p xs ≡ Some x
find-first p [] i x l e h n = absurd (omega arith)
find-first p (y ∷ ys) zero x l e h n = ap (λ z. cond (p z) (Some z) (find p ys)) (sym e) ∙ ap (λ b. cond b (Some x) (find p ys)) h
find-first p (y ∷ ys) (suc i) x l e h n = ap (λ b. cond b (Some y) (find p ys)) (n 0 (omega arith)) ∙ find-first p ys i x (omega arith) e h (λ k q. n (suc k) (omega arith))

pub found : {X : Type 0} (p : X → Bool) (xs : List X) (i : ℕ) (x : X) → position p xs ≡ Some i → x ≡ get_or xs i x → (find p xs ≡ Some x) × (position_or_len p xs ≡ i) × (i < length xs) × (p x ≡ true)
found p xs i x h e =
    let at = position-Some p xs i x h in
    let here : p x ≡ true = ap p e ∙ at.1 in
    (find-first p xs i x at.0 e here at.2, position_or_len_is p xs i x (omega (arith, at.0)) at.2 (λ l. at.1), at.0, here)

body : Affine → ℕ → List Affine → List Affine → Round
unfolding put_in
body e v others rows = cond (list_all (is_narrow_substituted v e) others && list_all (is_narrow_substituted v e) rows) (Solved (map (substituted v e) others) (map (substituted v e) rows)) (Finished TooWide)

body-is : (es rows others : List Affine) (e : Affine) (i v : ℕ) → find has_unit es ≡ Some e → position_or_len has_unit es ≡ i → v ≡ unit_place e → others ≡ remove es i → body e v others rows ≡ round_of es rows (find has_unit es)
unfolding body put_in
body-is es rows others e i v f p q o =
    ap (λ w. body e w others rows) q ∙ ap (λ os. body e (unit_place e) os rows) (o ∙ ap (remove es) (sym p)) ∙ sym (ap (round_of es rows) f)

pub solved-both : (es rows others next rest : List Affine) (e : Affine) (i v : ℕ) → find has_unit es ≡ Some e → position_or_len has_unit es ≡ i → v ≡ unit_place e → others ≡ remove es i → Some next ≡ cond (list_all (is_narrow_substituted v e) others) (Some (map (substituted v e) others)) None → Some rest ≡ cond (list_all (is_narrow_substituted v e) rows) (Some (map (substituted v e) rows)) None → Solved next rest ≡ round_of es rows (find has_unit es)
unfolding body
solved-both es rows others next rest e i v f p q o h k =
    let one = some-kept (list_all (is_narrow_substituted v e) others) (map (substituted v e) others) next h in
    let two = some-kept (list_all (is_narrow_substituted v e) rows) (map (substituted v e) rows) rest k in
    ap (λ a. Solved a rest) one.1 ∙ ap (λ b. Solved (map (substituted v e) others) b) two.1
    ∙ sym (ap (λ t. cond (t && list_all (is_narrow_substituted v e) rows) (Solved (map (substituted v e) others) (map (substituted v e) rows)) (Finished TooWide)) one.0 ∙ ap (λ t. cond t (Solved (map (substituted v e) others) (map (substituted v e) rows)) (Finished TooWide)) two.0)
    ∙ body-is es rows others e i v f p q o

pub wide-others : (es rows others : List Affine) (e : Affine) (i v : ℕ) → find has_unit es ≡ Some e → position_or_len has_unit es ≡ i → v ≡ unit_place e → others ≡ remove es i → None ≡ cond (list_all (is_narrow_substituted v e) others) (Some (map (substituted v e) others)) None → Finished TooWide ≡ round_of es rows (find has_unit es)
unfolding body
wide-others es rows others e i v f p q o h =
    let one = none-kept (list_all (is_narrow_substituted v e) others) (map (substituted v e) others) h in
    sym (ap (λ t. cond (t && list_all (is_narrow_substituted v e) rows) (Solved (map (substituted v e) others) (map (substituted v e) rows)) (Finished TooWide)) one) ∙ body-is es rows others e i v f p q o

pub wide-rows : (es rows others : List Affine) (e : Affine) (i v : ℕ) → find has_unit es ≡ Some e → position_or_len has_unit es ≡ i → v ≡ unit_place e → others ≡ remove es i → None ≡ cond (list_all (is_narrow_substituted v e) rows) (Some (map (substituted v e) rows)) None → Finished TooWide ≡ round_of es rows (find has_unit es)
unfolding body
wide-rows es rows others e i v f p q o h =
    let two = none-kept (list_all (is_narrow_substituted v e) rows) (map (substituted v e) rows) h in
    sym (ap (λ t. cond (list_all (is_narrow_substituted v e) others && t) (Solved (map (substituted v e) others) (map (substituted v e) rows)) (Finished TooWide)) two ∙ ap (λ t. cond t (Solved (map (substituted v e) others) (map (substituted v e) rows)) (Finished TooWide)) (and-false (list_all (is_narrow_substituted v e) others))) ∙ body-is es rows others e i v f p q o

-- ---- a whole round
pub round-none : (es rows : List Affine) → None ≡ reduced es → Finished Shown ≡ round es rows
unfolding round
round-none es rows e = ap (round_on rows) e

pub round-some : (es rows kept : List Affine) → Some kept ≡ reduced es → round_of kept rows (find has_unit kept) ≡ round es rows
unfolding round
round-some es rows kept e = ap (round_on rows) e

place-le : (p : Affine → Bool) (xs : List Affine) → (position_or_len p xs < length xs) ⊎ (find p xs ≡ None)
place-le p [] = inr refl
place-le p (x ∷ xs) = by (p x) (place-le p xs)
  where
    by : (b : Bool) → (position_or_len p xs < length xs) ⊎ (find p xs ≡ None) → (cond (not b) (1 + position_or_len p xs) 0 < suc (length xs)) ⊎ (cond b (Some x) (find p xs) ≡ None)
    by true h = inl (omega arith)
    by false (inl h) = inl (omega arith)
    by false (inr h) = inr h

pub not_found : (p : Affine → Bool) (xs : List Affine) → None ≡ position p xs → find p xs ≡ None
not_found p xs e = by (place-le p xs)
  where
    fails : ltb (position_or_len p xs) (length xs) ≡ false
    fails = none-kept (ltb (position_or_len p xs) (length xs)) (position_or_len p xs) e

    by : (position_or_len p xs < length xs) ⊎ (find p xs ≡ None) → find p xs ≡ None
    by (inl h) = absurd (let f = fails in grind (arith, nat_tests))
    by (inr h) = h

pub round-unsolved : (es rows kept all : List Affine) → Some kept ≡ reduced es → find has_unit kept ≡ None → all ≡ rows ++ flat_map (λ e. e ∷ negated e ∷ []) kept → Unsolved all ≡ round es rows
round-unsolved es rows kept all e f a = ap Unsolved a ∙ ap (round_of kept rows) (sym f) ∙ round-some es rows kept e

-- ---- how many coefficients
pub reduced-wide : (n : ℕ) (es kept : List Affine) → AreWide n es → Some kept ≡ reduced es → AreWide n kept
unfolding reduced
reduced-wide n es kept w e =
    let is = some-kept (not (list_any is_impossible es)) (filter (λ x. not (is_constant x)) (map tightened es)) kept (e ∙ flip (list_any is_impossible es)) in
    All-from_recursion (IsWide n) kept (subst (AllByRecursion (IsWide n)) (sym is.1)
    (everywhere-like (λ x. IsWide n x × (not (is_constant x) ≡ true)) (IsWide n) (λ x p. p.0) (filter (λ x. not (is_constant x)) (map tightened es)) (everywhere-filter (IsWide n) (λ x. not (is_constant x)) (map tightened es) (everywhere-map (IsWide n) (IsWide n) tightened (tightened-wide n) es (recursion_from_All (IsWide n) es w)))))
  where
    flip : (b : Bool) → cond b None (Some (filter (λ x. not (is_constant x)) (map tightened es))) ≡ cond (not b) (Some (filter (λ x. not (is_constant x)) (map tightened es))) None
    flip true = refl
    flip false = refl
