-- The dimensions of roots and views, one by one.
use Rattle.std.proofs.Common.{◌≡◌, ℕ, zero, suc, ◌+◌, ◌<◌, ◌≤◌, min, true, false, cond, List, [], ◌∷◌, ◌++◌, length, drop, get_or, refl, ap, sym, ◌∙◌, add-one, drop-cons, arith, append_assoc, append-nil}
use Rattle.std.specs.List.{range_with_len}
use Rattle.exo_tree.specs.Tree.{Coord}
use Rattle.exo_tree.specs.Spans.{is_span}
use Rattle.affine_places.specs.Roots.{spanned}

last : (a n j : ℕ) → a + n ≡ j → range_with_len a (suc n) ≡ range_with_len a n ++ j ∷ []
last a zero j e = let same : a ≡ j = omega arith in ap (λ k. k ∷ []) same
last a (suc n) j e = ap (λ l. a ∷ l) (last (a + 1) n j (omega arith))

pub one_more : (n : ℕ) → range_with_len 0 (n + 1) ≡ range_with_len 0 n ++ n ∷ []
one_more n = ap (range_with_len 0) (add-one n) ∙ last 0 n n (omega arith)

pub read_on : {X : Type 0} (xs : List X) (k : ℕ) (x : X) → x ≡ get_or xs k x → k < length xs → drop k xs ≡ x ∷ drop (k + 1) xs
read_on xs k x r h = drop-cons xs k x h ∙ ap (λ y. y ∷ drop (suc k) xs) (sym r) ∙ ap (λ n. x ∷ drop n xs) (sym (add-one k))

pub read_number : (xs : List ℕ) (k : ℕ) → k < length xs → drop k xs ≡ get_or xs k 0 ∷ drop (k + 1) xs
read_number xs k h = drop-cons xs k 0 h ∙ ap (λ n. get_or xs k 0 ∷ drop n xs) (sym (add-one k))

-- a span is kept
pub kept_on : (kept whole : List ℕ) (c : Coord) (d : ℕ) (cs more : List Coord) (ds rest : List ℕ) → cs ≡ c ∷ more → ds ≡ d ∷ rest → is_span c ≡ true → kept ++ spanned cs ds ≡ whole → (kept ++ d ∷ []) ++ spanned more rest ≡ whole
kept_on kept whole c d cs more ds rest p q s w =
    append_assoc kept (d ∷ []) (spanned more rest)
    ∙ ap (λ b. kept ++ cond b (d ∷ spanned more rest) (spanned more rest)) (sym s)
    ∙ ap (kept ++◌) (λ i. spanned (sym p i) (sym q i))
    ∙ w

-- a point is dropped
pub dropped_on : (kept whole : List ℕ) (c : Coord) (d : ℕ) (cs more : List Coord) (ds rest : List ℕ) → cs ≡ c ∷ more → ds ≡ d ∷ rest → is_span c ≡ false → kept ++ spanned cs ds ≡ whole → kept ++ spanned more rest ≡ whole
dropped_on kept whole c d cs more ds rest p q s w =
    ap (λ b. kept ++ cond b (d ∷ spanned more rest) (spanned more rest)) (sym s)
    ∙ ap (kept ++◌) (λ i. spanned (sym p i) (sym q i))
    ∙ w

none_left : (cs : List Coord) (ds : List ℕ) (k : ℕ) → min (length cs) (length ds) ≤ k → spanned (drop k cs) (drop k ds) ≡ []
none_left [] ds zero h = refl
none_left [] ds (suc k) h = refl
none_left (c ∷ cs) [] zero h = refl
none_left (c ∷ cs) [] (suc k) h = nothing (drop k cs)
  where
    nothing : (es : List Coord) → spanned es [] ≡ []
    nothing [] = refl
    nothing (e ∷ es) = refl
none_left (c ∷ cs) (d ∷ ds) zero h = absurd (omega (arith, h))
none_left (c ∷ cs) (d ∷ ds) (suc k) h = none_left cs ds k (omega (arith, h))

pub kept_all : (kept whole : List ℕ) (cs : List Coord) (ds : List ℕ) (k : ℕ) → min (length cs) (length ds) ≤ k → kept ++ spanned (drop k cs) (drop k ds) ≡ whole → kept ≡ whole
kept_all kept whole cs ds k h w = sym (append-nil kept) ∙ ap (kept ++◌) (sym (none_left cs ds k h)) ∙ w
