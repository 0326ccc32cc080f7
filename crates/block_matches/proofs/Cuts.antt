-- The walk is cut where it ends.
use Rattle.std.proofs.Common.{◌≡◌, ℕ, zero, suc, ◌+◌, ◌<◌, length, get_or, drop, arith, Bool, true, false, cond, map, List, [], ◌∷◌, ◌++◌, take, Option, Some, None, refl, ap, sym, ◌∙◌}
use Rattle.std.specs.Prelude.{slice_get, option_map}
use Rattle.std.proofs.lemmas.List.{take-map, map-append}
use Rattle.std.proofs.lemmas.Option.{slice_get-map}
use Rattle.match_laws.specs.Pairs.{Pair, Unlike}
use Rattle.match_laws.specs.Matched.{known_by, seen_with, ends_at, path_of, walked}
use Rattle.block_matches.specs.Kept.{kept, cut_at}
use Rattle.block_matches.proofs.Tables.{next_item}

-- behind a pair
cut_more : (n : ℕ) (a : Pair) (pairs : List Pair)
    → a ∷ cut_at n pairs ≡ cut_at (suc n) (a ∷ pairs)
cut_more n a pairs = go (slice_get pairs n)
  where
    go : (o : Option Pair)
        → a ∷ elim o [ None ↦ pairs | Some b ↦ take n pairs ++ Unlike (path_of b) ∷ [] ]
        ≡ elim o [ None ↦ a ∷ pairs | Some b ↦ take (suc n) (a ∷ pairs) ++ Unlike (path_of b) ∷ [] ]
    go None = refl
    go (Some b) = refl

module _ (params bound : ℕ → Bool) (to : ℕ → Option ℕ) where
  pub walk_is_cut : (seen : ℕ → Bool) (pairs : List Pair)
      → walked params bound to seen pairs ≡ cut_at (kept params bound to seen pairs) pairs
  walk_is_cut seen [] = refl
  walk_is_cut seen (a ∷ pairs) =
      by_end (ends_at params bound to seen a) (walk_is_cut (seen_with (known_by params a) seen) pairs)
    where
      by_end : (t : Bool)
          → walked params bound to (seen_with (known_by params a) seen) pairs
          ≡ cut_at (kept params bound to (seen_with (known_by params a) seen) pairs) pairs
          → cond t (Unlike (path_of a) ∷ []) (a ∷ walked params bound to (seen_with (known_by params a) seen) pairs)
          ≡ cut_at (cond t zero (suc (kept params bound to (seen_with (known_by params a) seen) pairs))) (a ∷ pairs)
      by_end true h = refl
      by_end false h =
          ap (λ l. a ∷ l) h
          ∙ cut_more (kept params bound to (seen_with (known_by params a) seen) pairs) a pairs

-- a list with another view
cut_there : {A : Type 0} (f : A → Pair) (n : ℕ) (xs : List A) (a : A)
    → slice_get xs n ≡ Some a
    → map f (take n xs) ++ Unlike (path_of (f a)) ∷ [] ≡ cut_at n (map f xs)
cut_there f n xs a h =
    ap (λ l. l ++ Unlike (path_of (f a)) ∷ []) (sym (take-map f n xs))
    ∙ sym (ap (λ o. elim o [
      | None ↦ map f xs
      | Some b ↦ take n (map f xs) ++ Unlike (path_of b) ∷ []
    ]) (slice_get-map f xs n ∙ ap (option_map f) h))

pub cut_pushed : {A : Type 0} (f : A → Pair) (n : ℕ) (xs ys : List A) (a last : A)
    → slice_get xs n ≡ Some a → f last ≡ Unlike (path_of (f a)) → ys ≡ take n xs ++ last ∷ []
    → map f ys ≡ cut_at n (map f xs)
cut_pushed f n xs ys a last h l e =
    ap (map f) e ∙ (map-append f (take n xs) (last ∷ [])
    ∙ (ap (λ b. map f (take n xs) ++ b ∷ []) l ∙ cut_there f n xs a h))

pub cut_all : (params bound : ℕ → Bool) (to : ℕ → Option ℕ) (seen : ℕ → Bool)
    (pairs done : List Pair) (n : ℕ)
    → done ≡ cut_at n pairs → n ≡ kept params bound to seen pairs → seen ≡ (λ x. false)
    → done ≡ walked params bound to (λ x. false) pairs
cut_all params bound to seen pairs done n h k e =
    h ∙ (ap (λ m. cut_at m pairs) k
    ∙ (ap (λ s. cut_at (kept params bound to s pairs) pairs) e
    ∙ sym (walk_is_cut params bound to (λ x. false) pairs)))

-- ---- a pair more is before the end

pub kept_step : {A : Type 0} (f : A → Pair) (params bound : ℕ → Bool) (to : ℕ → Option ℕ)
    (seen next : ℕ → Bool) (xs : List A) (k total : ℕ) (a : A)
    → k < length xs → a ≡ get_or xs k a
    → ends_at params bound to seen (f a) ≡ false
    → next ≡ seen_with (known_by params (f a)) seen
    → k + kept params bound to seen (map f (drop k xs)) ≡ total
    → (k + 1) + kept params bound to next (map f (drop (k + 1) xs)) ≡ total
kept_step f params bound to seen next xs k total a h item ends same inv =
    let rest = map f (drop (k + 1) xs) in
    let parts = next_item xs k a h item in
    let more : kept params bound to seen (map f (drop k xs)) ≡ suc (kept params bound to next rest) =
    ap (λ l. kept params bound to seen (map f l)) parts
    ∙ (ap (λ t. cond t zero (suc (kept params bound to (seen_with (known_by params (f a)) seen) rest))) ends
    ∙ ap (λ s. suc (kept params bound to s rest)) (sym same)) in
    omega (arith, more, inv)
