-- The stack property of a cache that keeps the pairs that were put last: what pairs make of any cache is what those make of
-- it that an empty cache has kept of them, the oldest first.
use Rattle.std.proofs.Common.{◌≡◌, ℕ, zero, suc, ◌-◌, ◌==◌, ◌≤◌, Bool, true, false, cond, not, List, [], ◌∷◌, ◌++◌, take, length, Option, Some, None, refl, sym, ap, ◌∙◌, subst, inl, inr, arith}
use Rattle.std.specs.Prelude.{fold, filter, reverse, ⊤}
use Rattle.std.specs.Bool.{Decides}
use Rattle.std.specs.Option.{option_map_or}
use Rattle.std.specs.Map.{lookup_entry, remove_entry}
use Rattle.std.proofs.lemmas.List.{take_all, take-append-le, length-take-le, reverse-append}
use Rattle.std.proofs.lemmas.List.Elements.{filter-append}
use Rattle.std.proofs.lemmas.List.Sums.{fold_push}
use Rattle.std.proofs.lemmas.Map.{NonePasses}
use Rattle.std.proofs.lemmas.Bool.{cases_lt}
use Rattle.std.proofs.lemmas.Bool.Decides.{Decides-eqb}
use Rattle.lru.specs.LruCache.{lru_cache, put_entries}
use Rattle.lru.proofs.CallerLemmas.{Contains-lookup_entry}

module _ {K V : Type 0} (eq : K → K → Bool) where
  -- ---- the pairs but for those with a key

  abbrev others : K → List (K × V) → List (K × V)
  others k es = filter (λ e. not (eq k e.0)) es

  others-in : (k : K) (e : K × V) (es : List (K × V)) → eq k e.0 ≡ true → others k (e ∷ es) ≡ others k es
  others-in k e es h = ap (λ b. cond (not b) (e ∷ others k es) (others k es)) h

  others-out : (k : K) (e : K × V) (es : List (K × V)) → eq k e.0 ≡ false → others k (e ∷ es) ≡ e ∷ others k es
  others-out k e es h = ap (λ b. cond (not b) (e ∷ others k es) (others k es)) h

  -- the pairs but for those whose key is the first one's do not have it
  none-others : (k : K) (es : List (K × V)) → NonePasses (eq k) (others k es)
  none-others k [] = tt
  none-others k (e ∷ es) = by (eq k e.0) refl (none-others k es) where
    by : (b : Bool) → eq k e.0 ≡ b → NonePasses (eq k) (others k es) → NonePasses (eq k) (cond (not b) (e ∷ others k es) (others k es))
    by true h rest = rest
    by false h rest = (h, rest)

  none-others_more : (j k : K) (es : List (K × V)) → NonePasses (eq j) es → NonePasses (eq j) (others k es)
  none-others_more j k [] h = tt
  none-others_more j k (e ∷ es) h = by (eq k e.0) (none-others_more j k es h.1) where
    by : (b : Bool) → NonePasses (eq j) (others k es) → NonePasses (eq j) (cond (not b) (e ∷ others k es) (others k es))
    by true rest = rest
    by false rest = (h.0, rest)

  none-take : (k : K) (n : ℕ) (es : List (K × V)) → NonePasses (eq k) es → NonePasses (eq k) (take n es)
  none-take k zero es h = tt
  none-take k (suc n) [] h = tt
  none-take k (suc n) (e ∷ es) h = (h.0, none-take k n es h.1)

  others-none : (k : K) (es : List (K × V)) → NonePasses (eq k) es → others k es ≡ es
  others-none k [] h = refl
  others-none k (e ∷ es) h = others-out k e es h.0 ∙ ap (λ r. e ∷ r) (others-none k es h.1)

  others-twice : (k : K) (es : List (K × V)) → others k (others k es) ≡ others k es
  others-twice k es = others-none k (others k es) (none-others k es)

  others-swap : (j k : K) (es : List (K × V)) → others j (others k es) ≡ others k (others j es)
  others-swap j k [] = refl
  others-swap j k (e ∷ es) = by (eq j e.0) (eq k e.0) refl refl (others-swap j k es) where
    by : (b c : Bool) → eq j e.0 ≡ b → eq k e.0 ≡ c → others j (others k es) ≡ others k (others j es) → others j (others k (e ∷ es)) ≡ others k (others j (e ∷ es))
    by true true h i rest = ap (others j) (others-in k e es i) ∙ rest ∙ sym (ap (others k) (others-in j e es h))
    by true false h i rest = ap (others j) (others-out k e es i) ∙ others-in j e (others k es) h ∙ rest ∙ sym (ap (others k) (others-in j e es h))
    by false true h i rest = ap (others j) (others-in k e es i) ∙ rest ∙ sym (others-in k e (others j es) i) ∙ sym (ap (others k) (others-out j e es h))
    by false false h i rest =
        ap (others j) (others-out k e es i)
        ∙ others-out j e (others k es) h
        ∙ ap (λ r. e ∷ r) rest
        ∙ sym (others-out k e (others j es) i)
        ∙ sym (ap (others k) (others-out j e es h))

  -- ---- pairs of which no two have a key

  abbrev pub AreApart : List (K × V) → Type 0
  AreApart [] = ⊤
  AreApart (e ∷ es) = NonePasses (eq e.0) es × AreApart es

  AreApart-others : (k : K) (es : List (K × V)) → AreApart es → AreApart (others k es)
  AreApart-others k [] h = tt
  AreApart-others k (e ∷ es) h = by (eq k e.0) (AreApart-others k es h.1) where
    by : (b : Bool) → AreApart (others k es) → AreApart (cond (not b) (e ∷ others k es) (others k es))
    by true rest = rest
    by false rest = (none-others_more e.0 k es h.0, rest)

  AreApart-take : (n : ℕ) (es : List (K × V)) → AreApart es → AreApart (take n es)
  AreApart-take zero es h = tt
  AreApart-take (suc n) [] h = tt
  AreApart-take (suc n) (e ∷ es) h = (none-take e.0 n es h.0, AreApart-take n es h.1)

  -- ---- with no bound on their number: the pairs by when they were put

  -- the pair goes first, and none other has its key
  abbrev first : List (K × V) → K × V → List (K × V)
  first es e = e ∷ others e.0 es

  AreApart-first : (es : List (K × V)) (e : K × V) → AreApart es → AreApart (first es e)
  AreApart-first es e h = (none-others e.0 es, AreApart-others e.0 es h)

  AreApart-firsts : (ds es : List (K × V)) → AreApart es → AreApart (fold first es ds)
  AreApart-firsts [] es h = h
  AreApart-firsts (d ∷ ds) es h = AreApart-firsts ds (first es d) (AreApart-first es d h)

  -- the last of ds goes first, and so on
  abbrev onto : List (K × V) → List (K × V) → List (K × V)
  onto [] es = es
  onto (d ∷ ds) es = first (onto ds es) d

  onto-reverse : (ds es : List (K × V)) → fold first es (reverse ds) ≡ onto ds es
  onto-reverse [] es = refl
  onto-reverse (d ∷ ds) es = ap (fold first es) (reverse-append (d ∷ []) ds) ∙ fold_push first es (reverse ds) d ∙ ap (λ r. first r d) (onto-reverse ds es)

  module _ (same : (j k : K) → Decides (eq j k) (j ≡ k)) where
    -- the pairs with the key of one that comes anew need not be put before
    others-onto : (k : K) (ds es : List (K × V)) → others k (onto ds es) ≡ others k (onto (others k ds) es)
    others-onto k [] es = refl
    others-onto k (d ∷ ds) es = by (eq k d.0) refl (others-onto k ds es) where
      by : (b : Bool) → eq k d.0 ≡ b → others k (onto ds es) ≡ others k (onto (others k ds) es) → others k (onto (d ∷ ds) es) ≡ others k (onto (others k (d ∷ ds)) es)
      by true h rest =
          others-in k d (others d.0 (onto ds es)) h
          ∙ ap (λ j. others k (others j (onto ds es))) (sym ((same k d.0).0 h))
          ∙ others-twice k (onto ds es)
          ∙ rest
          ∙ sym (ap (λ r. others k (onto r es)) (others-in k d ds h))
      by false h rest =
          others-out k d (others d.0 (onto ds es)) h
          ∙ ap (λ r. d ∷ r) (others-swap k d.0 (onto ds es))
          ∙ ap (λ r. d ∷ others d.0 r) rest
          ∙ ap (λ r. d ∷ r) (others-swap d.0 k (onto (others k ds) es))
          ∙ sym (others-out k d (others d.0 (onto (others k ds) es)) h)
          ∙ sym (ap (λ r. others k (onto r es)) (others-out k d ds h))

    firsts-onto : (ms ds es : List (K × V)) → fold first (onto ds es) ms ≡ onto (fold first ds ms) es
    firsts-onto [] ds es = refl
    firsts-onto (m ∷ ms) ds es = ap (λ r. fold first (m ∷ r) ms) (others-onto m.0 ds es) ∙ firsts-onto ms (first ds m) es

    -- ---- the first of them

    beyond : (ds es : List (K × V)) → AreApart ds → (rest : List (K × V)) × (onto ds es ≡ ds ++ rest)
    beyond [] es h = (es, refl)
    beyond (d ∷ ds) es h =
        let more = beyond ds es h.1 in (
          others d.0 more.0,
          ap (λ r. d ∷ others d.0 r) more.1
              ∙ ap (λ r. d ∷ r) (filter-append (λ e. not (eq d.0 e.0)) ds more.0)
              ∙ ap (λ r. d ∷ (r ++ others d.0 more.0)) (others-none d.0 ds h.0),
        )

    take-onto_long : (n : ℕ) (ds es : List (K × V)) → AreApart ds → n ≤ length ds → take n (onto ds es) ≡ take n ds
    take-onto_long n ds es h l =
        let more = beyond ds es h in
        ap (take n) more.1 ∙ take-append-le n ds more.0 l

    take-onto : (n : ℕ) (ds es : List (K × V)) → AreApart ds → take n (onto (take n ds) es) ≡ take n (onto ds es)
    take-onto n ds es h = elim (cases_lt (length ds) n) [
      | inl short ↦ ap (λ r. take n (onto r es)) (take_all n ds (omega arith))
      | inr long ↦
          let all : length (take n ds) ≡ n = length-take-le n ds long in
          take-onto_long n (take n ds) es (AreApart-take n ds h) (omega arith)
          ∙ take_all n (take n ds) (omega arith)
          ∙ sym (take-onto_long n ds es h long)
    ]

    -- ---- a cache that holds one pair more than n

    -- what stays behind the pair that is put
    abbrev stays : K → List (K × V) → List (K × V) → List (K × V)
    stays k es pushed = option_map_or (λ _. remove_entry (eq k) es) (lookup_entry (eq k) es) pushed

    stays-others : (k : K) (n : ℕ) (es : List (K × V)) → AreApart es → stays k (take (suc n) es) (take n (take (suc n) es)) ≡ take n (others k es)
    stays-others k zero [] h = refl
    stays-others k (suc n) [] h = refl
    stays-others k zero (x ∷ xs) h = by (eq k x.0) where
      by : (b : Bool) → option_map_or (λ _. cond b [] (x ∷ [])) (cond b (Some x) None) [] ≡ []
      by true = refl
      by false = refl
    stays-others k (suc n) (x ∷ xs) h = by (eq k x.0) refl (stays-others k n xs h.1) where
      first_out : (o : Option (K × V)) (rest pushed : List (K × V)) → option_map_or (λ _. x ∷ rest) o (x ∷ pushed) ≡ x ∷ option_map_or (λ _. rest) o pushed
      first_out None rest pushed = refl
      first_out (Some e) rest pushed = refl

      by : (b : Bool) → eq k x.0 ≡ b → stays k (take (suc n) xs) (take n (take (suc n) xs)) ≡ take n (others k xs) → option_map_or (λ _. cond b (take (suc n) xs) (x ∷ remove_entry (eq k) (take (suc n) xs))) (cond b (Some x) (lookup_entry (eq k) (take (suc n) xs))) (x ∷ take n (take (suc n) xs)) ≡ take (suc n) (cond (not b) (x ∷ others k xs) (others k xs))
      by true e rest = ap (take (suc n)) (sym (others-none k xs (subst (λ j. NonePasses (eq j) xs) (sym ((same k x.0).0 e)) h.0)))
      by false e rest = first_out (lookup_entry (eq k) (take (suc n) xs)) (remove_entry (eq k) (take (suc n) xs)) (take n (take (suc n) xs)) ∙ ap (λ r. x ∷ r) rest

    put_first : (n : ℕ) (es : List (K × V)) (e : K × V) → AreApart es → put_entries eq (lru_cache (take (suc n) es) (suc n)) e.0 e.1 ≡ take (suc n) (first es e)
    put_first n es e h =
        ap (λ m. option_map_or (λ f. (f.0, e.1) ∷ remove_entry (eq e.0) (take (suc n) es)) (lookup_entry (eq e.0) (take (suc n) es)) (e ∷ take m (take (suc n) es))) (one n)
        ∙ by (lookup_entry (eq e.0) (take (suc n) es)) refl (remove_entry (eq e.0) (take (suc n) es)) (take n (take (suc n) es))
        ∙ ap (λ r. e ∷ r) (stays-others e.0 n es h)
      where
        one : (n : ℕ) → suc n - 1 ≡ n
        one n = omega arith

        by : (o : Option (K × V)) → lookup_entry (eq e.0) (take (suc n) es) ≡ o → (rest pushed : List (K × V)) → option_map_or (λ f. (f.0, e.1) ∷ rest) o (e ∷ pushed) ≡ e ∷ option_map_or (λ _. rest) o pushed
        by None g rest pushed = refl
        by (Some f) g rest pushed = ap (λ k. (k, e.1) ∷ rest) (sym ((same e.0 f.0).0 (Contains-lookup_entry (eq e.0) (take (suc n) es) f g).1))

    abbrev pub put : ℕ → List (K × V) → K × V → List (K × V)
    put n es e = put_entries eq (lru_cache es (suc n)) e.0 e.1

    puts : (n : ℕ) (ms es : List (K × V)) → AreApart es → fold (put n) (take (suc n) es) ms ≡ take (suc n) (fold first es ms)
    puts n [] es h = refl
    puts n (m ∷ ms) es h = ap (λ r. fold (put n) r ms) (put_first n es m h) ∙ puts n ms (first es m) (AreApart-first es m h)

    pub puts-by_kept : (n : ℕ) (es ms : List (K × V)) → AreApart es → length es ≤ suc n → fold (put n) es ms ≡ fold (put n) es (reverse (fold (put n) [] ms))
    puts-by_kept n es ms h l =
        let whole : take (suc n) es ≡ es = take_all (suc n) es l in
        let ds = fold first [] ms in
        let kept : fold (put n) [] ms ≡ take (suc n) ds = puts n ms [] tt in
        ap (λ r. fold (put n) r ms) (sym whole)
        ∙ puts n ms es h
        ∙ ap (take (suc n)) (firsts-onto ms [] es)
        ∙ sym (take-onto (suc n) ds es (AreApart-firsts ms [] tt))
        ∙ ap (take (suc n)) (sym (onto-reverse (take (suc n) ds) es))
        ∙ sym (puts n (reverse (take (suc n) ds)) es h)
        ∙ ap (λ r. fold (put n) r (reverse (take (suc n) ds))) whole
        ∙ ap (λ r. fold (put n) es (reverse r)) (sym kept)

-- ---- a closed instance: numbers as keys, and room for two pairs

before : List (ℕ × ℕ)
before = (1, 10) ∷ (2, 20) ∷ []

changes : List (ℕ × ℕ)
changes = (3, 30) ∷ (3, 31) ∷ []

instance-whole : fold (put (λ j k. j == k) Decides-eqb 1) before changes ≡ (3, 31) ∷ (1, 10) ∷ []
unfolding before changes
instance-whole = refl

instance-kept : fold (put (λ j k. j == k) Decides-eqb 1) [] changes ≡ (3, 31) ∷ []
unfolding changes
instance-kept = refl

instance : fold (put (λ j k. j == k) Decides-eqb 1) before ((3, 31) ∷ []) ≡ (3, 31) ∷ (1, 10) ∷ []
unfolding before
instance = sym (ap (λ es. fold (put (λ j k. j == k) Decides-eqb 1) before (reverse es)) instance-kept) ∙ sym (puts-by_kept (λ j k. j == k) Decides-eqb 1 before changes ((refl, tt), (tt, tt)) (omega arith)) ∙ instance-whole
