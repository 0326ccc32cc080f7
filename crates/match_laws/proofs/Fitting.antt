-- Where a list of positions fits, the accesses of the parameter on the argument are the block's.
use Rattle.std.proofs.Common.{◌≡◌, ◌∙◌, ℕ, suc, ℤ, ◌+ℤ◌, ◌-ℤ◌, pos, int_le, int_lt, Bool, true}
use Rattle.std.proofs.Common.{false, ◌&&◌, List, [], ◌∷◌, length, Option, Some, None, IfSome}
use Rattle.std.proofs.Common.{IsSome}
use Rattle.std.proofs.Common.{if◌then◌else◌, option_map, refl, sym, ap, ap₂, subst, true≢false}
use Rattle.std.proofs.Common.{arith}
use Rattle.std.proofs.lemmas.Int.{ints}
use Rattle.exo_tree.specs.Tree.{Control, Add, Sub, Coord, At, Span}
use Rattle.exo_meaning.specs.Orders.{Each}
use Rattle.exo_meaning.specs.Scene.{Side, Point, Range, Seen, Scene, then_do, number, numbers}
use Rattle.exo_meaning.specs.Scene.{narrowed, cell_at, is_below, where_true}
use Rattle.affine_forms.specs.Forms.{Reading, Allowed, is_affine}
use Rattle.affine_forms.specs.Laws.{ReadsAt}
use Rattle.affine_forms.proofs.Values.{and_parts, some_injective, none_some}
use Rattle.inplace_laws.specs.Windows.{shifted, joined_coords}
use Rattle.match_laws.specs.Simplify.Simplified.{values_in}
use Rattle.match_laws.specs.Simplify.SameControls.{OfCoords}
use Rattle.match_laws.specs.Pairs.{points}
use Rattle.match_laws.specs.Moved.{Moving, both, one, moved, agree, simpler}
use Rattle.match_laws.specs.Windows as w
use Rattle.match_laws.specs.Windows.{Use, Spot, Offset, coords_from, fitting, spots, same_spots}
use Rattle.match_laws.specs.Windows.{are_as, all_as, are_free, if_agree}
use Rattle.match_laws.specs.Fitting.{coords_moved, SameCoords, SameWindows}
use Rattle.match_laws.specs.Fitting.{SamePlaces, IsAffine, OfSpots, IsComposed, FittingLaw}
use Rattle.match_laws.proofs.Agree.{agree_law, simpler_law}

no : {P : Type 0} → false ≡ true → P
no h = absurd (true≢false (sym h))

-- ---- the same coordinates

narrowed_same : (scene : Scene) (sides : List Side) (cs ds : List Coord) → SameCoords scene cs ds
    → narrowed scene sides cs ≡ narrowed scene sides ds
narrowed_same scene (Point p ∷ sides) cs ds h =
    ap (option_map (λ rest. Point p ∷ rest)) (narrowed_same scene sides cs ds h)
narrowed_same scene [] [] [] h = refl
narrowed_same scene (Range lo n ∷ sides) [] [] h = refl
narrowed_same scene [] (At a ∷ cs) (At b ∷ ds) h = refl
narrowed_same scene [] (Span a b ∷ cs) (Span c d ∷ ds) h = refl
narrowed_same scene (Range lo n ∷ sides) (At a ∷ cs) (At b ∷ ds) h =
    ap₂ (λ k o. where_true (is_below k n) (option_map (λ rest. Point (lo +ℤ k) ∷ rest) o))
    h.0 (narrowed_same scene sides cs ds h.1)
narrowed_same scene (Range lo n ∷ sides) (Span a b ∷ cs) (Span c d ∷ ds) h =
    ap₂ (λ k o. where_true
    (int_le (pos 0) k && int_lt k (number scene b) && int_le (number scene b) n)
    (option_map (λ rest. Range (lo +ℤ k) (number scene b -ℤ k) ∷ rest) o))
    h.0 (narrowed_same scene sides cs ds h.2)
    ∙ ap (λ m. where_true
    (int_le (pos 0) (number scene c) && int_lt (number scene c) m && int_le m n)
    (option_map (λ rest. Range (lo +ℤ number scene c) (m -ℤ number scene c) ∷ rest)
    (narrowed scene sides ds))) h.1
narrowed_same scene sides [] (d ∷ ds) h = absurd h
narrowed_same scene sides (At a ∷ cs) [] h = absurd h
narrowed_same scene sides (Span a b ∷ cs) [] h = absurd h
narrowed_same scene sides (At a ∷ cs) (Span c d ∷ ds) h = absurd h
narrowed_same scene sides (Span a b ∷ cs) (At d ∷ ds) h = absurd h

abbrev sided : Seen → List Side → Seen
sided seen sides = record { buffer = seen.buffer; sides = sides }

pub same_windows : SameWindows
same_windows scene x cs ds h = go (scene.views x)
  where
    go : (o : Option Seen)
        → then_do o (λ seen. option_map (sided seen) (narrowed scene seen.sides cs))
        ≡ then_do o (λ seen. option_map (sided seen) (narrowed scene seen.sides ds))
    go None = refl
    go (Some seen) = ap (option_map (sided seen)) (narrowed_same scene seen.sides cs ds h)

numbers_same : (scene : Scene) (cs : List Coord) (is js : List Control)
    → SameCoords scene (joined_coords cs (points is)) (points js)
    → numbers scene (shifted cs is) ≡ numbers scene js
numbers_same scene [] [] [] h = refl
numbers_same scene [] [] (j ∷ js) h = absurd h
numbers_same scene [] (i ∷ is) [] h = absurd h
numbers_same scene [] (i ∷ is) (j ∷ js) h = ap₂ ◌∷◌ h.0 (numbers_same scene [] is js h.1)
numbers_same scene (At a ∷ cs) is [] h = absurd h
numbers_same scene (At a ∷ cs) is (j ∷ js) h = ap₂ ◌∷◌ h.0 (numbers_same scene cs is js h.1)
numbers_same scene (Span a b ∷ cs) [] [] h = refl
numbers_same scene (Span a b ∷ cs) [] (j ∷ js) h = absurd h
numbers_same scene (Span a b ∷ cs) (i ∷ is) [] h = absurd h
numbers_same scene (Span a b ∷ cs) (i ∷ is) (j ∷ js) h =
    ap₂ ◌∷◌ h.0 (numbers_same scene cs is js h.1)

pub same_places : SamePlaces
same_places scene x cs is js h =
    ap (λ ns. then_do (scene.views x) (λ seen. option_map
    (λ at. record { buffer = seen.buffer; at = at }) (cell_at seen.sides ns)))
    (numbers_same scene cs is js h)

-- ---- numbers of ends

back : (g e : ℤ) → (g -ℤ e) +ℤ e ≡ g
back g e = omega (arith, ints)

outer : (g e f : ℤ) → (g -ℤ e) +ℤ f ≡ g +ℤ (f -ℤ e)
outer g e f = omega (arith, ints)

there : (g h : ℤ) → g +ℤ (h -ℤ g) ≡ h
there g h = omega (arith, ints)

upper : (g e f h : ℤ) → h -ℤ g ≡ f -ℤ e → (g -ℤ e) +ℤ f ≡ h
upper g e f h same = outer g e f ∙ ap (λ z. g +ℤ z) (sym same) ∙ there g h

-- ---- where a list fits

module _ (may : Allowed) (at : Reading) (m : Moving) (bound : ℕ → Bool) (scene : Scene)
    (reads : ReadsAt may (values_in scene) at scene) where
  abbrev pub Affine : Control → Type 0
  Affine = IsAffine may

  both_affine : (a b : Control) → Affine a → Affine b → (is_affine may a && is_affine may b) ≡ true
  both_affine a b i j = ap₂ ◌&&◌ i j

  -- the spots have the numbers of the first ones
  abbrev SameSpots : List Spot → List Spot → Type 0
  SameSpots [] [] = Unit {0}
  SameSpots (Offset a ∷ ss) (Offset b ∷ ts) = (number scene a ≡ number scene b) × SameSpots ss ts
  SameSpots (w.Point a ∷ ss) (w.Point b ∷ ts) =
      (number scene a ≡ number scene b) × SameSpots ss ts
  SameSpots ss ts = ⊥

  spots_refl : (ss : List Spot) → SameSpots ss ss
  spots_refl [] = tt
  spots_refl (Offset a ∷ ss) = (refl, spots_refl ss)
  spots_refl (w.Point a ∷ ss) = (refl, spots_refl ss)

  spots_same : (ss ts : List Spot) → same_spots at m bound ss ts ≡ true → OfSpots Affine ss
      → OfSpots Affine ts → SameSpots ss ts
  spots_same [] [] h i j = tt
  spots_same [] (t ∷ ts) h i j = no h
  spots_same (Offset a ∷ ss) [] h i j = no h
  spots_same (w.Point a ∷ ss) [] h i j = no h
  spots_same (Offset a ∷ ss) (Offset b ∷ ts) h i j =
      let p = and_parts (agree at a b) (same_spots at m bound ss ts) h in
      (agree_law may at scene a b reads i.0 j.0 p.0, spots_same ss ts p.1 i.1 j.1)
  spots_same (w.Point a ∷ ss) (w.Point b ∷ ts) h i j =
      let p = and_parts (agree at a b) (same_spots at m bound ss ts) h in
      (agree_law may at scene a b reads i.0 j.0 p.0, spots_same ss ts p.1 i.1 j.1)
  spots_same (Offset a ∷ ss) (w.Point b ∷ ts) h i j = no h
  spots_same (w.Point a ∷ ss) (Offset b ∷ ts) h i j = no h

  -- an index on the argument
  lower : (o e g : Control) → Affine o → number scene o ≡ number scene (Sub g e)
      → number scene (Add (simpler at o) e) ≡ number scene g
  lower o e g i same =
      ap (λ n. n +ℤ number scene e) (simpler_law may at scene o reads i ∙ same)
      ∙ back (number scene g) (number scene e)

  -- the end of a span
  higher : (o e g f h : Control) → Affine o → number scene o ≡ number scene (Sub g e)
      → number scene (Sub h g) ≡ number scene (Sub f e)
      → number scene (Add (simpler at o) f) ≡ number scene h
  higher o e g f h i same ends =
      ap (λ n. n +ℤ number scene f) (simpler_law may at scene o reads i ∙ same)
      ∙ upper (number scene g) (number scene e) (number scene f) (number scene h) ends

  -- ---- spots of affine coordinates are affine

  abbrev pub Spotted : Option (List Spot) → Option (List Coord) → List Coord → Type 0
  Spotted p q gs =
      IfSome p (λ ss. IfSome q (λ cs. OfCoords Affine cs → OfCoords Affine gs
      → OfSpots Affine ss))

  abbrev with_offset : Control → Option Control → Option (List Spot) → Option (List Spot)
  with_offset g o p = both (λ s rest. s ∷ rest) (one (λ f. Offset (Sub g f)) o) p

  at_spotted : (g : Control) (o : Option Control) (p : Option (List Spot))
      (q : Option (List Coord)) (gs : List Coord) → Spotted p q gs
      → Spotted (with_offset g o p) (both ◌∷◌ (one At o) q) (At g ∷ gs)
  at_spotted g None p q gs ih = tt
  at_spotted g (Some f) None q gs ih = tt
  at_spotted g (Some f) (Some ss) None gs ih = tt
  at_spotted g (Some f) (Some ss) (Some cs) gs ih =
      λ i j. (both_affine g f j.0 i.0, ih i.1 j.1)

  span_if : (t : Bool) (g h e f : Control) (p : Option (List Spot)) (q : Option (List Coord))
      (gs : List Coord) → Spotted p q gs
      → Spotted (if t then with_offset g (Some e) p else None)
      (both ◌∷◌ (Some (Span e f)) q) (Span g h ∷ gs)
  span_if false g h e f p q gs ih = tt
  span_if true g h e f None q gs ih = tt
  span_if true g h e f (Some ss) None gs ih = tt
  span_if true g h e f (Some ss) (Some cs) gs ih =
      λ i j. (both_affine g e j.0 i.0, ih i.2 j.2)

  span_spotted : (g h : Control) (oe of : Option Control) (p : Option (List Spot))
      (q : Option (List Coord)) (gs : List Coord) → Spotted p q gs
      → Spotted (if_agree at m bound (Sub h g) (both Sub of oe) (with_offset g oe p))
      (both ◌∷◌ (both Span oe of) q) (Span g h ∷ gs)
  span_spotted g h None None p q gs ih = tt
  span_spotted g h None (Some f) p q gs ih = tt
  span_spotted g h (Some e) None p q gs ih = tt
  span_spotted g h (Some e) (Some f) p q gs ih =
      span_if (agree at (Sub h g) (Sub f e)) g h e f p q gs ih

  point_spotted : (g : Control) (p : Option (List Spot)) (q : Option (List Coord))
      (gs : List Coord) → Spotted p q gs
      → Spotted (one (λ rest. w.Point g ∷ rest) p) q (At g ∷ gs)
  point_spotted g None q gs ih = tt
  point_spotted g (Some ss) None gs ih = tt
  point_spotted g (Some ss) (Some cs) gs ih = λ i j. (j.0, ih i j.1)

  pub spotted : (listed : List Bool) (cs gs : List Coord)
      → Spotted (spots at m bound listed cs gs) (coords_moved m cs) gs
  spotted [] [] [] = λ i j. tt
  spotted (true ∷ listed) (At e ∷ cs) (At g ∷ gs) =
      at_spotted g (moved m e) (spots at m bound listed cs gs) (coords_moved m cs) gs
      (spotted listed cs gs)
  spotted (true ∷ listed) (Span e f ∷ cs) (Span g h ∷ gs) =
      span_spotted g h (moved m e) (moved m f) (spots at m bound listed cs gs)
      (coords_moved m cs) gs (spotted listed cs gs)
  spotted (false ∷ listed) cs (At g ∷ gs) =
      point_spotted g (spots at m bound listed cs gs) (coords_moved m cs) gs
      (spotted listed cs gs)
  spotted listed cs gs = tt

  -- ---- coordinates on the argument

  abbrev Composed : List Spot → List Control → Option (List Spot) → Option (List Coord)
      → List Coord → Type 0
  Composed first ds p q gs =
      IfSome p (λ ss. IfSome q (λ cs. OfCoords Affine cs → OfCoords Affine gs
      → SameSpots first ss
      → SameCoords scene (joined_coords (coords_from at m bound first ds) cs) gs))

  -- for spots and dimensions that are left
  abbrev Goes : ℕ → Option (List Spot) → Option (List Coord) → List Coord → Type 0
  Goes n p q gs =
      (first : List Spot) (ds : List Control) → n ≡ length ds → OfSpots Affine first
      → Composed first ds p q gs

  zero_suc : (n : ℕ) → suc n ≡ 0 → ⊥
  zero_suc n h = cc

  suc_same : (a b : ℕ) → suc a ≡ suc b → a ≡ b
  suc_same a b h = cc

  at_composed : (n : ℕ) (g : Control) (o : Option Control) (p : Option (List Spot))
      (q : Option (List Coord)) (gs : List Coord) → Goes n p q gs
      → Goes (suc n) (with_offset g o p) (both ◌∷◌ (one At o) q) (At g ∷ gs)
  at_composed n g None p q gs ih first ds len aff = tt
  at_composed n g (Some f) None q gs ih first ds len aff = tt
  at_composed n g (Some f) (Some ss) None gs ih first ds len aff = tt
  at_composed n g (Some f) (Some ss) (Some cs) gs ih [] ds len aff = λ i j same. absurd same
  at_composed n g (Some f) (Some ss) (Some cs) gs ih (w.Point a ∷ first) ds len aff =
      λ i j same. absurd same
  at_composed n g (Some f) (Some ss) (Some cs) gs ih (Offset o ∷ first) [] len aff =
      absurd (zero_suc n len)
  at_composed n g (Some f) (Some ss) (Some cs) gs ih (Offset o ∷ first) (d ∷ ds) len aff =
      λ i j same. (
        lower o f g aff.0 same.0,
        ih first ds (suc_same n (length ds) len) aff.1 i.1 j.1 same.1,
      )

  span_where : (t : Bool) (n : ℕ) (g h e f : Control) (p : Option (List Spot))
      (q : Option (List Coord)) (gs : List Coord) → agree at (Sub h g) (Sub f e) ≡ t
      → Goes n p q gs
      → Goes (suc n) (if t then with_offset g (Some e) p else None)
      (both ◌∷◌ (Some (Span e f)) q) (Span g h ∷ gs)
  span_where false n g h e f p q gs so ih first ds len aff = tt
  span_where true n g h e f None q gs so ih first ds len aff = tt
  span_where true n g h e f (Some ss) None gs so ih first ds len aff = tt
  span_where true n g h e f (Some ss) (Some cs) gs so ih [] ds len aff =
      λ i j same. absurd same
  span_where true n g h e f (Some ss) (Some cs) gs so ih (w.Point a ∷ first) ds len aff =
      λ i j same. absurd same
  span_where true n g h e f (Some ss) (Some cs) gs so ih (Offset o ∷ first) [] len aff =
      absurd (zero_suc n len)
  span_where true n g h e f (Some ss) (Some cs) gs so ih (Offset o ∷ first) (d ∷ ds) len aff =
      λ i j same. (
        lower o e g aff.0 same.0,
        higher o e g f h aff.0 same.0 (agree_law may at scene (Sub h g) (Sub f e) reads
            (both_affine h g j.1 j.0) (both_affine f e i.1 i.0) so),
        ih first ds (suc_same n (length ds) len) aff.1 i.2 j.2 same.1,
      )

  span_composed : (n : ℕ) (g h : Control) (oe of : Option Control) (p : Option (List Spot))
      (q : Option (List Coord)) (gs : List Coord) → Goes n p q gs
      → Goes (suc n) (if_agree at m bound (Sub h g) (both Sub of oe) (with_offset g oe p))
      (both ◌∷◌ (both Span oe of) q) (Span g h ∷ gs)
  span_composed n g h None None p q gs ih first ds len aff = tt
  span_composed n g h None (Some f) p q gs ih first ds len aff = tt
  span_composed n g h (Some e) None p q gs ih first ds len aff = tt
  span_composed n g h (Some e) (Some f) p q gs ih first ds len aff =
      span_where (agree at (Sub h g) (Sub f e)) n g h e f p q gs refl ih first ds len aff

  point_composed : (n : ℕ) (g : Control) (p : Option (List Spot)) (q : Option (List Coord))
      (gs : List Coord) → Goes n p q gs
      → Goes n (one (λ rest. w.Point g ∷ rest) p) q (At g ∷ gs)
  point_composed n g None q gs ih first ds len aff = tt
  point_composed n g (Some ss) None gs ih first ds len aff = tt
  point_composed n g (Some ss) (Some cs) gs ih [] ds len aff = λ i j same. absurd same
  point_composed n g (Some ss) (Some cs) gs ih (Offset o ∷ first) ds len aff =
      λ i j same. absurd same
  point_composed n g (Some ss) (Some cs) gs ih (w.Point a ∷ first) ds len aff =
      λ i j same. (same.0, ih first ds len aff.1 i j.1 same.1)

  composed : (listed : List Bool) (cs gs : List Coord)
      → Goes (length cs) (spots at m bound listed cs gs) (coords_moved m cs) gs
  composed [] [] [] [] ds len aff = λ i j same. tt
  composed [] [] [] (Offset o ∷ first) ds len aff = λ i j same. absurd same
  composed [] [] [] (w.Point a ∷ first) ds len aff = λ i j same. absurd same
  composed (true ∷ listed) (At e ∷ cs) (At g ∷ gs) first ds len aff =
      at_composed (length cs) g (moved m e) (spots at m bound listed cs gs) (coords_moved m cs)
      gs (composed listed cs gs) first ds len aff
  composed (true ∷ listed) (Span e f ∷ cs) (Span g h ∷ gs) first ds len aff =
      span_composed (length cs) g h (moved m e) (moved m f) (spots at m bound listed cs gs)
      (coords_moved m cs) gs (composed listed cs gs) first ds len aff
  composed (false ∷ listed) cs (At g ∷ gs) first ds len aff =
      point_composed (length cs) g (spots at m bound listed cs gs) (coords_moved m cs) gs
      (composed listed cs gs) first ds len aff
  composed listed cs gs first ds len aff = tt

  -- ---- each use

  abbrev One : List Spot → List Control → Use → Type 0
  One first ds = IsComposed may m scene (length ds) (coords_from at m bound first ds)

  use_by : (first : List Spot) (ds : List Control) (u : Use) (p : Option (List Spot))
      (q : Option (List Coord)) → OfSpots Affine first → Spotted p q u.theirs
      → (length u.ours ≡ length ds → Composed first ds p q u.theirs)
      → ((ss : List Spot) → p ≡ Some ss → OfSpots Affine ss → SameSpots first ss)
      → IsSome p
      → IfSome q (λ cs. length u.ours ≡ length ds → OfCoords Affine cs
      → OfCoords Affine u.theirs
      → SameCoords scene (joined_coords (coords_from at m bound first ds) cs) u.theirs)
  use_by first ds u None q aff spot goes same some = no some
  use_by first ds u (Some ss) None aff spot goes same some = tt
  use_by first ds u (Some ss) (Some cs) aff spot goes same some =
      λ len i j. goes len i j (same ss refl (spot i j))

  one_use : (listed : List Bool) (first : List Spot) (ds : List Control) (u : Use)
      → OfSpots Affine first
      → ((ss : List Spot) → spots at m bound listed u.ours u.theirs ≡ Some ss
      → OfSpots Affine ss → SameSpots first ss)
      → IsSome (spots at m bound listed u.ours u.theirs) → One first ds u
  one_use listed first ds u aff same some =
      use_by first ds u (spots at m bound listed u.ours u.theirs) (coords_moved m u.ours) aff
      (spotted listed u.ours u.theirs)
      (λ len. composed listed u.ours u.theirs first ds len aff) same some

  are_as_parts : (first : List Spot) (o : Option (List Spot))
      → are_as at m bound first o ≡ true → OfSpots Affine first
      → IsSome o × ((ss : List Spot) → o ≡ Some ss → OfSpots Affine ss → SameSpots first ss)
  are_as_parts first None h aff = no h
  are_as_parts first (Some ts) h aff = (
    refl,
    λ ss e i. subst (λ z. SameSpots first z) (some_injective ts ss e)
        (spots_same first ts h aff (subst (λ z. OfSpots Affine z)
        (sym (some_injective ts ss e)) i)),
  )

  each_use : (listed : List Bool) (first : List Spot) (ds : List Control) (us : List Use)
      → all_as at m bound listed first us ≡ true → OfSpots Affine first
      → Each (One first ds) us
  each_use listed first ds [] h aff = tt
  each_use listed first ds (u ∷ us) h aff =
      let o = spots at m bound listed u.ours u.theirs in
      let p = and_parts (are_as at m bound first o) (all_as at m bound listed first us) h in
      let q = are_as_parts first o p.0 aff in
      (one_use listed first ds u aff q.1 q.0, each_use listed first ds us p.1 aff)

  fits : (listed : List Bool) (u : Use) (us : List Use) (first : List Spot) (ds : List Control)
      (o : Option (List Spot)) → spots at m bound listed u.ours u.theirs ≡ o
      → elim o [
        | None ↦ None
        | Some ss ↦ if are_free at m bound ss && all_as at m bound listed ss us then Some ss
            else None
      ] ≡ Some first → OfSpots Affine first → Each (One first ds) (u ∷ us)
  fits listed u us first ds None e h aff = absurd (none_some h)
  fits listed u us first ds (Some ss) e h aff = go (are_free at m bound ss
      && all_as at m bound listed ss us) refl h
    where
      go : (t : Bool) → (are_free at m bound ss && all_as at m bound listed ss us) ≡ t
          → (if t then Some ss else None) ≡ Some first → Each (One first ds) (u ∷ us)
      go false so f = absurd (none_some f)
      go true so f =
          let same = some_injective ss first f in
          let p = and_parts (are_free at m bound ss) (all_as at m bound listed ss us) so in (
            one_use listed first ds u aff
                (λ ts k i. subst (λ z. SameSpots first z)
                (sym same ∙ some_injective ss ts (sym e ∙ k)) (spots_refl first))
                (subst (λ z. IsSome z) (sym e) refl),
            subst (λ z. Each (One z ds) us) same
                (each_use listed ss ds us p.1 (subst (λ z. OfSpots Affine z) (sym same) aff)),
          )

pub fitting_law : FittingLaw
fitting_law may at m bound scene listed u us first ds h reads aff =
    fits may at m bound scene reads listed u us first ds
    (spots at m bound listed u.ours u.theirs) refl h aff
