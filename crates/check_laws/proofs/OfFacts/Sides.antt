-- The dimensions that names see.
use Rattle.std.proofs.Common.{◌≡◌, ℕ, zero, suc, ◌+◌, ℤ, pos, ◌+ℤ◌, ◌-ℤ◌, int_le, int_lt, Bool, true, false, cond, ◌&&◌, List, [], ◌∷◌, length, map, get_or, Option, Some, None, option_map, slice_get, arith, refl, sym, ap, ap₂, ◌∙◌}
use Rattle.std.specs.List.{range_with_len}
use Rattle.std.proofs.lemmas.Option.{slice_get-map}
use Rattle.exo_tree.specs.Tree.{Control, Coord, At, Span}
use Rattle.exo_meaning.specs.Scene.{Scene, Side, Point, Range, number, numbers, where_true, is_below, narrowed, strides_of, whole}
use Rattle.exo_tree.specs.Spans.{is_span}
use Rattle.affine_places.specs.Roots.{spanned}
use Rattle.affine_places.specs.Laws.{ranges}
use Rattle.check_laws.proofs.OfFacts.Truths.{none_some, some_injective}

pub map_gives : {A B : Type 0} (o : Option A) (f : A → B) (b : B) → option_map f o ≡ Some b → (a : A) × (o ≡ Some a) × (f a ≡ b)
map_gives None f b e = absurd (none_some e)
map_gives (Some a) f b e = (a, refl, some_injective (f a) b e)

where_gives : {A : Type 0} (t : Bool) (o : Option A) (a : A) → where_true t o ≡ Some a → o ≡ Some a
where_gives false o a e = absurd (none_some e)
where_gives true o a e = e

-- ---- the whole of a buffer

shifted : (a b n : ℕ) → suc a ≡ b → map suc (range_with_len a n) ≡ range_with_len b n
shifted a b zero e = refl
shifted a b (suc n) e = ap₂ (λ k ks. k ∷ ks) e (shifted (a + 1) (b + 1) n (omega (arith, e)))

pub ranges_whole : (scene : Scene) (es : List Control) → ranges (whole (numbers scene es)) ≡ range_with_len 0 (length es)
ranges_whole scene [] = refl
ranges_whole scene (e ∷ es) = ap (λ ks. 0 ∷ ks) (ap (map suc) (ranges_whole scene es) ∙ shifted 0 (0 + 1) (length es) (omega arith))

-- ---- a part of a part

spanned_map : (cs : List Coord) (ds : List ℕ) → spanned cs (map suc ds) ≡ map suc (spanned cs ds)
spanned_map [] ds = refl
spanned_map (c ∷ cs) [] = refl
spanned_map (c ∷ cs) (d ∷ ds) = go (is_span c) (spanned_map cs ds)
  where
    go : (t : Bool) → spanned cs (map suc ds) ≡ map suc (spanned cs ds) → cond t (suc d ∷ spanned cs (map suc ds)) (spanned cs (map suc ds)) ≡ map suc (cond t (d ∷ spanned cs ds) (spanned cs ds))
    go true rest = ap (λ l. suc d ∷ l) rest
    go false rest = rest

pub ranges_narrowed : (scene : Scene) (sides : List Side) (cs : List Coord) (part : List Side) → narrowed scene sides cs ≡ Some part → ranges part ≡ spanned cs (ranges sides)
ranges_narrowed scene [] [] part e = ap ranges (sym (some_injective [] part e))
ranges_narrowed scene [] (c ∷ cs) part e = absurd (none_some e)
ranges_narrowed scene (Point p ∷ sides) cs part e =
    let m = map_gives (narrowed scene sides cs) (λ rest. Point p ∷ rest) part e in
    ap ranges (sym m.2) ∙ ap (map suc) (ranges_narrowed scene sides cs m.0 m.1) ∙ sym (spanned_map cs (ranges sides))
ranges_narrowed scene (Range lo n ∷ sides) [] part e = absurd (none_some e)
ranges_narrowed scene (Range lo n ∷ sides) (At a ∷ cs) part e =
    let i = number scene a in
    let m = map_gives (narrowed scene sides cs) (λ rest. Point (lo +ℤ i) ∷ rest) part (where_gives (is_below i n) (option_map (λ rest. Point (lo +ℤ i) ∷ rest) (narrowed scene sides cs)) part e) in
    ap ranges (sym m.2) ∙ ap (map suc) (ranges_narrowed scene sides cs m.0 m.1) ∙ sym (spanned_map cs (ranges sides))
ranges_narrowed scene (Range lo n ∷ sides) (Span a b ∷ cs) part e =
    let i = number scene a in
    let j = number scene b in
    let m = map_gives (narrowed scene sides cs) (λ rest. Range (lo +ℤ i) (j -ℤ i) ∷ rest) part (where_gives (int_le (pos 0) i && int_lt i j && int_le j n) (option_map (λ rest. Range (lo +ℤ i) (j -ℤ i) ∷ rest) (narrowed scene sides cs)) part e) in
    ap ranges (sym m.2) ∙ ap (λ l. 0 ∷ l) (ap (map suc) (ranges_narrowed scene sides cs m.0 m.1) ∙ sym (spanned_map cs (ranges sides)))

-- sides that see the dimensions that a window keeps
abbrev pub thinned : List Coord → List Side → List Side
thinned [] sides = []
thinned (c ∷ cs) [] = []
thinned (c ∷ cs) (Point p ∷ sides) = Point p ∷ thinned (c ∷ cs) sides
thinned (c ∷ cs) (Range lo n ∷ sides) = cond (is_span c) (Range lo n) (Point lo) ∷ thinned cs sides

pub ranges_thinned : (cs : List Coord) (sides : List Side) → ranges (thinned cs sides) ≡ spanned cs (ranges sides)
ranges_thinned [] sides = refl
ranges_thinned (c ∷ cs) [] = refl
ranges_thinned (c ∷ cs) (Point p ∷ sides) = ap (map suc) (ranges_thinned (c ∷ cs) sides) ∙ sym (spanned_map (c ∷ cs) (ranges sides))
ranges_thinned (c ∷ cs) (Range lo n ∷ sides) = go (is_span c) (ap (map suc) (ranges_thinned cs sides) ∙ sym (spanned_map cs (ranges sides)))
  where
    go : (t : Bool) → map suc (ranges (thinned cs sides)) ≡ spanned cs (map suc (ranges sides)) → ranges (cond t (Range lo n) (Point lo) ∷ thinned cs sides) ≡ cond t (0 ∷ spanned cs (map suc (ranges sides))) (spanned cs (map suc (ranges sides)))
    go true rest = ap (λ l. 0 ∷ l) rest
    go false rest = rest

-- ---- the stride of a dimension

pub over : List ℤ → Option ℕ → ℤ
over strides None = pos 0
over strides (Some d) = get_or strides d (pos 0)

over_nothing : (o : Option ℕ) → over [] o ≡ pos 0
unfolding over
over_nothing None = refl
over_nothing (Some d) = refl

over_later : (t : ℤ) (strides : List ℤ) (o : Option ℕ) → over (t ∷ strides) (option_map suc o) ≡ over strides o
unfolding over
over_later t strides None = refl
over_later t strides (Some d) = refl

later : (t : ℤ) (sides : List Side) (strides : List ℤ) (k : ℕ) → over (t ∷ strides) (slice_get (map suc (ranges sides)) k) ≡ over strides (slice_get (ranges sides) k)
later t sides strides k = ap (over (t ∷ strides)) (slice_get-map suc (ranges sides) k) ∙ over_later t strides (slice_get (ranges sides) k)

pub picked : (sides : List Side) (strides : List ℤ) (k : ℕ) → get_or (strides_of sides strides) k (pos 0) ≡ over strides (slice_get (ranges sides) k)
unfolding over
picked [] strides k = refl
picked (side ∷ sides) [] k = sym (over_nothing (slice_get (ranges (side ∷ sides)) k))
picked (Point p ∷ sides) (t ∷ strides) k = picked sides strides k ∙ sym (later t sides strides k)
picked (Range lo n ∷ sides) (t ∷ strides) zero = refl
picked (Range lo n ∷ sides) (t ∷ strides) (suc k) = picked sides strides k ∙ sym (later t sides strides k)
