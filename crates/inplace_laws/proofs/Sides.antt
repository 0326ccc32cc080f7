-- Parts of parts.
use Rattle.std.proofs.Common.{◌≡◌, ◌≤ℤ◌, ℤ, pos, ◌+ℤ◌, ◌-ℤ◌, int_le, int_lt, ◌&&◌, Bool, true, false, List, [], ◌∷◌, Option, Some, None, IfSome, option_map, refl, sym, ap, ap₂, ◌∙◌, subst, arith}
use Rattle.std.proofs.lemmas.Int.{ints}
use Rattle.exo_tree.specs.Tree.{Coord, At, Span}
use Rattle.exo_meaning.specs.Scene.{Scene, then_do, Side, Point, Range, number, cell_at, index_of, is_below, where_true, composed, LieWithin, extents, strides_of, narrowed, whole}
use Rattle.exo_meaning.proofs.Windows.{where_parts, map_parts, below_further, sum_is, none_is_some, one_value, cell_at_index, index_at_cell, cell_at_composed}

none_none : {A B : Type 0} (f : A → B) (o : Option A) → option_map f o ≡ None → o ≡ None
none_none f None h = refl
none_none f (Some a) h = absurd (none_is_some (sym h))

-- each cell of the part of a part is a cell of the part
pub within_seen : (ss ts : List Side) (is at : List ℤ) → LieWithin ss ts → cell_at ts is ≡ Some at → (r : List ℤ) × (cell_at ss at ≡ Some r)
within_seen [] [] [] at h e = subst (λ z. (r : List ℤ) × (cell_at [] z ≡ Some r)) (one_value [] at e) ([], refl)
within_seen [] [] (i ∷ is) at h e = absurd (none_is_some e)
within_seen [] (t ∷ ts) is at h e = absurd h
within_seen (Point p ∷ ss) ts is at h e = let k = within_seen ss ts is at h e in (p ∷ k.0, ap (option_map (λ rest. p ∷ rest)) k.1)
within_seen (Range lo n ∷ ss) [] is at h e = absurd h
within_seen (Range lo n ∷ ss) (Point q ∷ ts) is at h e =
    let m = map_parts (λ rest. q ∷ rest) (cell_at ts is) at e in
    let k = within_seen ss ts is m.0 h.1 m.1 in
    subst (λ z. (r : List ℤ) × (cell_at (Range lo n ∷ ss) z ≡ Some r)) m.2 ((lo +ℤ q) ∷ k.0, ap (λ t. where_true t (option_map (λ rest. (lo +ℤ q) ∷ rest) (cell_at ss m.0))) h.0 ∙ ap (option_map (λ rest. (lo +ℤ q) ∷ rest)) k.1)
within_seen (Range lo n ∷ ss) (Range mo m ∷ ts) [] at h e = absurd (none_is_some e)
within_seen (Range lo n ∷ ss) (Range mo m ∷ ts) (i ∷ is) at h e =
    let w = where_parts (is_below i m) (option_map (λ rest. (mo +ℤ i) ∷ rest) (cell_at ts is)) at e in
    let p = map_parts (λ rest. (mo +ℤ i) ∷ rest) (cell_at ts is) at w.1 in
    let k = within_seen ss ts is p.0 h.2 p.1 in
    subst (λ z. (r : List ℤ) × (cell_at (Range lo n ∷ ss) z ≡ Some r)) p.2 ((lo +ℤ (mo +ℤ i)) ∷ k.0, ap (λ t. where_true t (option_map (λ rest. (lo +ℤ (mo +ℤ i)) ∷ rest) (cell_at ss p.0))) (below_further i mo m n w.0 h.0 h.1) ∙ ap (option_map (λ rest. (lo +ℤ (mo +ℤ i)) ∷ rest)) k.1)

pub extents_composed : (ss ts : List Side) → LieWithin ss ts → extents (composed ss ts) ≡ extents ts
extents_composed [] [] h = refl
extents_composed [] (t ∷ ts) h = absurd h
extents_composed (Point p ∷ ss) ts h = extents_composed ss ts h
extents_composed (Range lo n ∷ ss) [] h = absurd h
extents_composed (Range lo n ∷ ss) (Point q ∷ ts) h = extents_composed ss ts h.1
extents_composed (Range lo n ∷ ss) (Range mo m ∷ ts) h = ap (λ l. m ∷ l) (extents_composed ss ts h.2)

no_strides : (ts : List Side) → strides_of ts [] ≡ []
no_strides [] = refl
no_strides (t ∷ ts) = refl

pub strides_composed : (ss ts : List Side) (strides : List ℤ) → LieWithin ss ts → strides_of (composed ss ts) strides ≡ strides_of ts (strides_of ss strides)
strides_composed [] [] strides h = refl
strides_composed [] (t ∷ ts) strides h = absurd h
strides_composed (Point p ∷ ss) ts [] h = sym (no_strides ts)
strides_composed (Point p ∷ ss) ts (t ∷ strides) h = strides_composed ss ts strides h
strides_composed (Range lo n ∷ ss) [] strides h = absurd h
strides_composed (Range lo n ∷ ss) (Point q ∷ ts) [] h = refl
strides_composed (Range lo n ∷ ss) (Point q ∷ ts) (t ∷ strides) h = strides_composed ss ts strides h.1
strides_composed (Range lo n ∷ ss) (Range mo m ∷ ts) [] h = refl
strides_composed (Range lo n ∷ ss) (Range mo m ∷ ts) (t ∷ strides) h = ap (λ l. t ∷ l) (strides_composed ss ts strides h.2)

-- ---- all of a part

pub whole_within : (ss : List Side) → LieWithin ss (whole (extents ss))
whole_within [] = tt
whole_within (Point p ∷ ss) = whole_within ss
whole_within (Range lo n ∷ ss) = (omega (arith, ints), omega (arith, ints), whole_within ss)

pub composed_whole : (ss : List Side) → composed ss (whole (extents ss)) ≡ ss
composed_whole [] = refl
composed_whole (Point p ∷ ss) = ap (λ l. Point p ∷ l) (composed_whole ss)
composed_whole (Range lo n ∷ ss) = ap₂ (λ m l. Range m n ∷ l) zero_more (composed_whole ss)
  where
    zero_more : lo +ℤ pos 0 ≡ lo
    zero_more = omega (arith, ints)

-- ---- a window of a part

module _ (scene : Scene) where
  more : (i mo m n : ℤ) → is_below i m ≡ true → pos 0 ≤ℤ mo → (mo +ℤ m) ≤ℤ n → is_below (mo +ℤ i) n ≡ true
  more = below_further

  low : (i j mo m n : ℤ) → (int_le (pos 0) i && int_lt i j && int_le j m) ≡ true → pos 0 ≤ℤ mo → pos 0 ≤ℤ (mo +ℤ i)
  low i j mo m n t h = grind (arith, ints)

  high : (i j mo m n : ℤ) → (int_le (pos 0) i && int_lt i j && int_le j m) ≡ true → (mo +ℤ m) ≤ℤ n → ((mo +ℤ i) +ℤ (j -ℤ i)) ≤ℤ n
  high i j mo m n t h = grind (arith, ints)

  pub narrowed_composed : (ss ts : List Side) (cs : List Coord) → LieWithin ss ts → narrowed scene (composed ss ts) cs ≡ option_map (composed ss) (narrowed scene ts cs)
  narrowed_composed [] [] [] h = refl
  narrowed_composed [] [] (c ∷ cs) h = refl
  narrowed_composed [] (t ∷ ts) cs h = absurd h
  narrowed_composed (Point p ∷ ss) ts cs h = ap (option_map (λ rest. Point p ∷ rest)) (narrowed_composed ss ts cs h) ∙ go (narrowed scene ts cs)
    where
      go : (o : Option (List Side)) → option_map (λ rest. Point p ∷ rest) (option_map (composed ss) o) ≡ option_map (composed (Point p ∷ ss)) o
      go None = refl
      go (Some l) = refl
  narrowed_composed (Range lo n ∷ ss) [] cs h = absurd h
  narrowed_composed (Range lo n ∷ ss) (Point q ∷ ts) cs h = ap (option_map (λ rest. Point (lo +ℤ q) ∷ rest)) (narrowed_composed ss ts cs h.1) ∙ go (narrowed scene ts cs)
    where
      go : (o : Option (List Side)) → option_map (λ rest. Point (lo +ℤ q) ∷ rest) (option_map (composed ss) o) ≡ option_map (composed (Range lo n ∷ ss)) (option_map (λ rest. Point q ∷ rest) o)
      go None = refl
      go (Some l) = refl
  narrowed_composed (Range lo n ∷ ss) (Range mo m ∷ ts) [] h = refl
  narrowed_composed (Range lo n ∷ ss) (Range mo m ∷ ts) (At a ∷ cs) h =
      let i = number scene a in
      ap₂ (λ j o. where_true (is_below i m) (option_map (λ rest. Point j ∷ rest) o)) (sum_is lo mo i) (narrowed_composed ss ts cs h.2) ∙ go i (is_below i m) (narrowed scene ts cs)
    where
      go : (i : ℤ) (t : Bool) (o : Option (List Side)) → where_true t (option_map (λ rest. Point (lo +ℤ (mo +ℤ i)) ∷ rest) (option_map (composed ss) o)) ≡ option_map (composed (Range lo n ∷ ss)) (where_true t (option_map (λ rest. Point (mo +ℤ i) ∷ rest) o))
      go i false o = refl
      go i true None = refl
      go i true (Some l) = refl
  narrowed_composed (Range lo n ∷ ss) (Range mo m ∷ ts) (Span a b ∷ cs) h =
      let i = number scene a in
      let j = number scene b in
      ap₂ (λ k o. where_true (int_le (pos 0) i && int_lt i j && int_le j m) (option_map (λ rest. Range k (j -ℤ i) ∷ rest) o)) (sum_is lo mo i) (narrowed_composed ss ts cs h.2) ∙ go i (j -ℤ i) (int_le (pos 0) i && int_lt i j && int_le j m) (narrowed scene ts cs)
    where
      go : (i l : ℤ) (t : Bool) (o : Option (List Side)) → where_true t (option_map (λ rest. Range (lo +ℤ (mo +ℤ i)) l ∷ rest) (option_map (composed ss) o)) ≡ option_map (composed (Range lo n ∷ ss)) (where_true t (option_map (λ rest. Range (mo +ℤ i) l ∷ rest) o))
      go i l false o = refl
      go i l true None = refl
      go i l true (Some k) = refl

  if_map_to : (P Q : List Side → Type 0) (o : Option (List Side)) (f : List Side → List Side) → IfSome o P → ((l : List Side) → P l → Q (f l)) → IfSome (option_map f o) Q
  if_map_to P Q None f h k = tt
  if_map_to P Q (Some l) f h k = k l h

  pub narrowed_within : (ss ts : List Side) (cs : List Coord) → LieWithin ss ts → IfSome (narrowed scene ts cs) (LieWithin ss)
  narrowed_within [] [] [] h = tt
  narrowed_within [] [] (c ∷ cs) h = tt
  narrowed_within [] (t ∷ ts) cs h = absurd h
  narrowed_within (Point p ∷ ss) ts cs h = narrowed_within ss ts cs h
  narrowed_within (Range lo n ∷ ss) [] cs h = absurd h
  narrowed_within (Range lo n ∷ ss) (Point q ∷ ts) cs h = if_map_to (LieWithin ss) (LieWithin (Range lo n ∷ ss)) (narrowed scene ts cs) (λ rest. Point q ∷ rest) (narrowed_within ss ts cs h.1) (λ l k. (h.0, k))
  narrowed_within (Range lo n ∷ ss) (Range mo m ∷ ts) [] h = tt
  narrowed_within (Range lo n ∷ ss) (Range mo m ∷ ts) (At a ∷ cs) h = go (number scene a) (is_below (number scene a) m) refl (narrowed_within ss ts cs h.2)
    where
      go : (i : ℤ) (t : Bool) → is_below i m ≡ t → IfSome (narrowed scene ts cs) (LieWithin ss) → IfSome (where_true t (option_map (λ rest. Point (mo +ℤ i) ∷ rest) (narrowed scene ts cs))) (LieWithin (Range lo n ∷ ss))
      go i false e k = tt
      go i true e k = if_map_to (LieWithin ss) (LieWithin (Range lo n ∷ ss)) (narrowed scene ts cs) (λ rest. Point (mo +ℤ i) ∷ rest) k (λ l w. (below_further i mo m n e h.0 h.1, w))
  narrowed_within (Range lo n ∷ ss) (Range mo m ∷ ts) (Span a b ∷ cs) h = go (number scene a) (number scene b) (int_le (pos 0) (number scene a) && int_lt (number scene a) (number scene b) && int_le (number scene b) m) refl (narrowed_within ss ts cs h.2)
    where
      go : (i j : ℤ) (t : Bool) → (int_le (pos 0) i && int_lt i j && int_le j m) ≡ t → IfSome (narrowed scene ts cs) (LieWithin ss) → IfSome (where_true t (option_map (λ rest. Range (mo +ℤ i) (j -ℤ i) ∷ rest) (narrowed scene ts cs))) (LieWithin (Range lo n ∷ ss))
      go i j false e k = tt
      go i j true e k = if_map_to (LieWithin ss) (LieWithin (Range lo n ∷ ss)) (narrowed scene ts cs) (λ rest. Range (mo +ℤ i) (j -ℤ i) ∷ rest) k (λ l w. (low i j mo m n e h.0, high i j mo m n e h.1, w))

-- ---- indices of a part of a part

pub index_unseen : (ss ts : List Side) (r js : List ℤ) → LieWithin ss ts → index_of (composed ss ts) r ≡ Some js → (at : List ℤ) × (cell_at ts js ≡ Some at) × (cell_at ss at ≡ Some r)
index_unseen ss ts r js h e = go (cell_at ts js) refl (sym (cell_at_composed ss ts js h) ∙ cell_at_index (composed ss ts) r js e)
  where
    go : (o : Option (List ℤ)) → cell_at ts js ≡ o → then_do o (cell_at ss) ≡ Some r → (at : List ℤ) × (cell_at ts js ≡ Some at) × (cell_at ss at ≡ Some r)
    go None k i = absurd (none_is_some i)
    go (Some at) k i = (at, k, i)

pub index_through : (ss ts : List Side) (at r : List ℤ) → LieWithin ss ts → cell_at ss at ≡ Some r → index_of (composed ss ts) r ≡ index_of ts at
index_through ss ts at r h e = go (index_of ts at) refl (index_of (composed ss ts) r) refl
  where
    go : (o : Option (List ℤ)) → index_of ts at ≡ o → (q : Option (List ℤ)) → index_of (composed ss ts) r ≡ q → q ≡ o
    go (Some js) i q k = sym k ∙ index_at_cell (composed ss ts) js r (cell_at_composed ss ts js h ∙ ap (λ o. then_do o (cell_at ss)) (cell_at_index ts at js i) ∙ e)
    go None i None k = refl
    go None i (Some js) k =
        let u = index_unseen ss ts r js h k in
        let same : u.0 ≡ at = one_value u.0 at (sym (index_at_cell ss u.0 r u.2) ∙ index_at_cell ss at r e) in
        absurd (none_is_some (sym i ∙ index_at_cell ts js at (u.1 ∙ ap Some same)))

pub index_outside : (ss ts : List Side) (at : List ℤ) → LieWithin ss ts → cell_at ss at ≡ None → index_of ts at ≡ None
index_outside ss ts at h e = go (index_of ts at) refl
  where
    go : (o : Option (List ℤ)) → index_of ts at ≡ o → o ≡ None
    go None i = refl
    go (Some js) i = let w = within_seen ss ts js at h (cell_at_index ts at js i) in absurd (none_is_some (sym e ∙ w.1))
