-- The steps of the loops that merge and normalize rows.
use Rattle.std.proofs.Common.{ℕ, zero, suc, ◌+◌, ◌<◌, ◌≤◌, ◌≡◌, Bool, true, false, not, cond, ◌||◌, List, [], ◌∷◌, ◌++◌, map, length, take, drop, set, get_or, Some, None, arith, ap, sym, ◌∙◌, refl, append_assoc}
use Rattle.std.specs.List.{filter, fold, list_any}
use Rattle.std.specs.Int.{int_min}
use Rattle.std.proofs.lemmas.List.{drop_more, take_more, drop_all, take_all, set_split}
use Rattle.std.proofs.Common.{add-one}
use Rattle.affine_forms.specs.Affine.{Affine}
use Rattle.affine_prover.specs.RowSets.Rows.{joined, tightened, is_constant, is_false, same_list}
use Rattle.affine_prover.specs.RowSets.Rows.{is_impossible, reduced}
use Rattle.affine_prover.specs.RowSets.Settled.{normalized_onto}
use Rattle.std.proofs.Math.Bool.{or-true}

pub joined-past : (ks : List Affine) (r k : Affine) (i : ℕ) → i < length ks → k ≡ get_or ks i k → same_list k.coefficients r.coefficients ≡ false → take i ks ++ joined (drop i ks) r ≡ take (i + 1) ks ++ joined (drop (i + 1) ks) r
joined-past ks r k i l e h =
    ap (λ xs. take i ks ++ joined xs r) (drop_more ks i k l)
    ∙ ap (λ x. take i ks ++ joined (x ∷ drop (i + 1) ks) r) (sym e)
    ∙ ap (λ t. take i ks ++ cond t ((record k { constant = int_min k.constant r.constant }) ∷ drop (i + 1) ks) (k ∷ joined (drop (i + 1) ks) r)) h
    ∙ sym (append_assoc (take i ks) (k ∷ []) (joined (drop (i + 1) ks) r))
    ∙ ap (λ xs. xs ++ joined (drop (i + 1) ks) r) (ap (λ x. take i ks ++ x ∷ []) e ∙ sym (take_more ks i k l))

pub joined-here : (ks : List Affine) (r k : Affine) (i : ℕ) → i < length ks → k ≡ get_or ks i k → same_list k.coefficients r.coefficients ≡ true → set ks i (record k { constant = int_min k.constant r.constant }) ≡ take i ks ++ joined (drop i ks) r
joined-here ks r k i l e h =
    let low : Affine = record k { constant = int_min k.constant r.constant } in
    set_split ks i low l
    ∙ ap (λ n. take i ks ++ low ∷ drop n ks) (sym (add-one i))
    ∙ sym (ap (λ xs. take i ks ++ joined xs r) (drop_more ks i k l)
    ∙ ap (λ x. take i ks ++ joined (x ∷ drop (i + 1) ks) r) (sym e)
    ∙ ap (λ t. take i ks ++ cond t (low ∷ drop (i + 1) ks) (k ∷ joined (drop (i + 1) ks) r)) h)

pub joined-end : (ks : List Affine) (r : Affine) (i : ℕ) → length ks ≤ i → ks ++ r ∷ [] ≡ take i ks ++ joined (drop i ks) r
joined-end ks r i l = sym (ap (λ xs. xs ++ joined (drop i ks) r) (take_all i ks l) ∙ ap (λ xs. ks ++ joined xs r) (drop_all i ks l))

-- ---- normalizing
pub any_at : (rows : List Affine) (i : ℕ) (r : Affine) → i < length rows → r ≡ get_or rows i r → is_false (tightened r) ≡ true → list_any is_false (map tightened rows) ≡ true
any_at [] i r l e h = absurd (omega arith)
any_at (x ∷ xs) zero r l e h = ap (λ y. is_false (tightened y) || list_any is_false (map tightened xs)) (sym e) ∙ ap (λ t. t || list_any is_false (map tightened xs)) h
any_at (x ∷ xs) (suc i) r l e h = ap (λ t. is_false (tightened x) || t) (any_at xs i r (omega arith) e h) ∙ or_true (is_false (tightened x))
  where
    or_true : (t : Bool) → (t || true) ≡ true
    or_true true = refl
    or_true false = refl

pub normalized_onto-none : (kept rows : List Affine) → list_any is_false (map tightened rows) ≡ true → None ≡ normalized_onto kept rows
unfolding normalized_onto
normalized_onto-none kept rows h = sym (ap (λ t. cond t None (Some (fold joined kept (filter (λ r. not (is_constant r)) (map tightened rows))))) h)

pub normalized_onto-some : (kept rows all : List Affine) → all ≡ fold joined kept (filter (λ r. not (is_constant r)) (map tightened rows)) → list_any is_false (map tightened rows) ≡ false → Some all ≡ normalized_onto kept rows
unfolding normalized_onto
normalized_onto-some kept rows all e h = ap Some e ∙ sym (ap (λ t. cond t None (Some (fold joined kept (filter (λ r. not (is_constant r)) (map tightened rows))))) h)

-- ---- reducing
pub impossible_at : (es : List Affine) (i : ℕ) (e : Affine) → i < length es → e ≡ get_or es i e → is_impossible e ≡ true → list_any is_impossible es ≡ true
impossible_at [] i e l q h = absurd (omega arith)
impossible_at (x ∷ xs) zero e l q h = ap (λ y. is_impossible y || list_any is_impossible xs) (sym q) ∙ ap (λ t. t || list_any is_impossible xs) h
impossible_at (x ∷ xs) (suc i) e l q h = ap (λ t. is_impossible x || t) (impossible_at xs i e (omega arith) q h) ∙ or-true (is_impossible x)

pub reduced-none : (es : List Affine) → list_any is_impossible es ≡ true → None ≡ reduced es
unfolding reduced
reduced-none es h = sym (ap (λ t. cond t None (Some (filter (λ e. not (is_constant e)) (map tightened es)))) h)

pub reduced-some : (es kept : List Affine) → kept ≡ filter (λ e. not (is_constant e)) (map tightened es) → list_any is_impossible es ≡ false → Some kept ≡ reduced es
unfolding reduced
reduced-some es kept e h = ap Some e ∙ sym (ap (λ t. cond t None (Some (filter (λ e. not (is_constant e)) (map tightened es)))) h)
