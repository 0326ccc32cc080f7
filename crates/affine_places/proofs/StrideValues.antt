-- The stride that is read for a coordinate of a name has its number.
use Rattle.std.proofs.Common.{◌≡◌, ℕ, zero, suc, ◌<◌, ◌≤◌, ℤ, pos, ◌*ℤ◌, nat_lt, Bool, true, false, cond, List, [], ◌∷◌, map, length, drop, get_or, Option, Some, None, IsSome, option_map, slice_get, arith, refl, sym, ap, ◌∙◌, true≢false}
use Rattle.std.proofs.lemmas.Int.{ints}
use Rattle.std.proofs.lemmas.Bool.Decides.{nat_tests}
use Rattle.std.proofs.lemmas.Option.{slice_get-map}
use Rattle.exo_tree.specs.Tree.{Control}
use Rattle.exo_meaning.specs.Scene.{Shape, Side, Point, Range, Seen, Scene, number, numbers, strides_of, stride_at}
use Rattle.exo_meaning.specs.Run.{product, row_major}
use Rattle.exo_meaning.specs.Units.{is_rank}
use Rattle.affine_forms.specs.Atoms.{Atom, Variable, OpaqueStride, Valuation, atom_value, value, constantly, only}
use Rattle.affine_forms.specs.Forms.{is_affine}
use Rattle.affine_forms.specs.Strides.{is_one_open, product_form, dense_stride, all_affine, product_of}
use Rattle.affine_forms.specs.Laws.{ReadsAt}
use Rattle.affine_forms.proofs.Values.{and_parts}
use Rattle.affine_forms.proofs.Strides.{stride_law}
use Rattle.affine_places.specs.Roots.{Layout, Dense, Strided, Rooted, Roots, variables, are_extents}
use Rattle.affine_places.specs.Readings.{extent_reading, root_stride, stride_over, stride_of}
use Rattle.affine_places.specs.Laws.{ranges, IsDeclared, IsMade, AreMade, stride_in}
use Rattle.affine_places.proofs.PlainRoots.{HasExtents, HaveExtents}

pub only_value : (v : Valuation) (a : Atom) → value v (only a) ≡ atom_value v a
only_value v a = omega (arith, ints)

-- ---- the dimension over which a coordinate runs

over : List ℤ → Option ℕ → ℤ
over strides None = pos 0
over strides (Some d) = get_or strides d (pos 0)

over_nothing : (o : Option ℕ) → over [] o ≡ pos 0
unfolding over
over_nothing None = refl
over_nothing (Some d) = refl

over_later : (t : ℤ) (strides : List ℤ) (o : Option ℕ) → over (t ∷ strides) (option_map suc o) ≡ over strides o
unfolding over
over_later t strides None = refl
over_later t strides (Some d) = refl

later : (t : ℤ) (sides : List Side) (strides : List ℤ) (k : ℕ) → over (t ∷ strides) (slice_get (map suc (ranges sides)) k) ≡ over strides (slice_get (ranges sides) k)
later t sides strides k = ap (over (t ∷ strides)) (slice_get-map suc (ranges sides) k) ∙ over_later t strides (slice_get (ranges sides) k)

picked : (sides : List Side) (strides : List ℤ) (k : ℕ) → get_or (strides_of sides strides) k (pos 0) ≡ over strides (slice_get (ranges sides) k)
unfolding over
picked [] strides k = refl
picked (side ∷ sides) [] k = sym (over_nothing (slice_get (ranges (side ∷ sides)) k))
picked (Point p ∷ sides) (t ∷ strides) k = picked sides strides k ∙ sym (later t sides strides k)
picked (Range lo n ∷ sides) (t ∷ strides) zero = refl
picked (Range lo n ∷ sides) (t ∷ strides) (suc k) = picked sides strides k ∙ sym (later t sides strides k)

-- ---- dense roots

affine_drop : (n : ℕ) (es : List Control) → all_affine variables es ≡ true → all_affine variables (drop n es) ≡ true
affine_drop zero es h = h
affine_drop (suc n) [] h = refl
affine_drop (suc n) (e ∷ es) h = affine_drop n es (and_parts (is_affine variables e) (all_affine variables es) h).1

module _ (scene : Scene) where
  product_is : (es : List Control) → product (numbers scene es) ≡ product_of scene es
  product_is [] = refl
  product_is (e ∷ es) = ap (λ z. number scene e *ℤ z) (product_is es)

  major : (es : List Control) (d : ℕ) → d < length es → get_or (row_major (numbers scene es)) d (pos 0) ≡ product_of scene (drop (suc d) es)
  major [] d h = absurd (omega arith)
  major (e ∷ es) zero h = product_is es
  major (e ∷ es) (suc d) h = major es d (omega arith)

  past : (es : List Control) (d : ℕ) → length es ≤ d → get_or (row_major (numbers scene es)) d (pos 0) ≡ pos 0
  past [] d h = refl
  past (e ∷ es) zero h = absurd (omega arith)
  past (e ∷ es) (suc d) h = past es d (omega arith)

inside : (d n : ℕ) → nat_lt d n ≡ true → d < n
inside d n h = grind (arith, nat_tests)

outside : (d n : ℕ) → nat_lt d n ≡ false → n ≤ d
outside d n h = grind (arith, nat_tests)

module _ (v : Valuation) (scene : Scene) (variable : (x : ℕ) → v.variable x ≡ scene.control x) (stride : (b d : ℕ) → v.stride b d ≡ stride_in scene b d) where
  reads_variables : ReadsAt variables v extent_reading scene
  reads_variables = record {
    variables = λ x h. only_value v (Variable x) ∙ variable x;
    fields = λ f h. absurd (true≢false (sym h));
    strides = λ x k h. absurd (true≢false (sym h));
  }

  opaque : (root d : ℕ) (shape : Shape) → scene.buffers root ≡ Some shape → value v (only (OpaqueStride root d)) ≡ get_or shape.strides d (pos 0)
  opaque root d shape e = only_value v (OpaqueStride root d) ∙ stride root d ∙ ap (λ o. elim o [ None ↦ pos 0 | Some s ↦ get_or s.strides d (pos 0) ]) e

  dense : (root d : ℕ) (es : List Control) (shape : Shape) → are_extents es ≡ true → scene.buffers root ≡ Some shape → shape.strides ≡ row_major (numbers scene es) → (t : Bool) → nat_lt d (length es) ≡ t → value v (cond t (dense_stride extent_reading root d es) (constantly (pos 0))) ≡ get_or shape.strides d (pos 0)
  dense root d es shape h e s false t = sym (ap (λ ts. get_or ts d (pos 0)) s ∙ past scene es d (outside d (length es) t))
  dense root d es shape h e s true t = go (is_one_open (drop (suc d) es)) refl
    where
      go : (o : Bool) → is_one_open (drop (suc d) es) ≡ o → value v (cond o (product_form extent_reading (drop (suc d) es)) (only (OpaqueStride root d))) ≡ get_or shape.strides d (pos 0)
      go true o =
          stride_law variables v extent_reading scene (drop (suc d) es) reads_variables (affine_drop (suc d) es (and_parts (is_rank (length es)) (all_affine variables es) h).1) o
          ∙ sym (ap (λ ts. get_or ts d (pos 0)) s ∙ major scene es d (inside d (length es) t))
      go false o = opaque root d shape e

  root_value : (root d : ℕ) (layout : Layout) (shape : Shape) → HasExtents layout → scene.buffers root ≡ Some shape → IsDeclared scene layout shape → value v (root_stride root d layout) ≡ get_or shape.strides d (pos 0)
  root_value root d (Dense es) shape h e s = dense root d es shape h e (s.1 ∙ ap row_major s.0) (nat_lt d (length es)) refl
  root_value root d Strided shape h e s = opaque root d shape e

  over_value : (r : Rooted) (shape : Shape) → HasExtents r.layout → scene.buffers r.root ≡ Some shape → IsDeclared scene r.layout shape → (o : Option ℕ) → value v (stride_over r o) ≡ over shape.strides o
  unfolding over
  over_value r shape h e s None = refl
  over_value r shape h e s (Some d) = root_value r.root d r.layout shape h e s

  seen_value : (r : Rooted) (seen : Seen) (k : ℕ) → HasExtents r.layout → IsMade scene r seen → value v (stride_of (Some r) k) ≡ stride_at scene (Some seen) k
  seen_value r seen k h m =
      over_value r m.shape h m.there m.declared (slice_get r.dims k)
      ∙ ap (λ ds. over m.shape.strides (slice_get ds k)) (sym m.dims)
      ∙ sym (picked seen.sides m.shape.strides k)
      ∙ ap (λ o. get_or (elim o [ None ↦ [] | Some s ↦ strides_of seen.sides s.strides ]) k (pos 0)) (sym (ap scene.buffers m.root ∙ m.there))

  pub stride_value : (roots : Roots) → HaveExtents roots → AreMade roots scene → (x k : ℕ) → IsSome (scene.views x) → value v (stride_of (roots x) k) ≡ stride_at scene (scene.views x) k
  stride_value roots h made x k there = go (scene.views x) refl there
    where
      go : (o : Option Seen) → scene.views x ≡ o → IsSome o → value v (stride_of (roots x) k) ≡ stride_at scene o k
      go None e i = absurd (true≢false (sym i))
      go (Some seen) e i =
          let m = made x seen e in
          ap (λ o. value v (stride_of o k)) m.1 ∙ seen_value m.0 seen k (h x m.0 m.1) m.2
