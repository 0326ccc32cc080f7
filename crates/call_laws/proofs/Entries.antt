-- What is read of variables, fields and strides has their numbers wherever a run comes to.
use Rattle.std.proofs.Common.{◌≡◌, ◌<◌, ℕ, zero, suc, ℤ, pos, Bool, true, false, cond, nat_lt}
use Rattle.std.proofs.Common.{List, [], ◌∷◌, length, drop, get_or, slice_get, Option}
use Rattle.std.proofs.Common.{Some, None, IsSome, arith, refl, sym, ap, ◌∙◌, subst}
use Rattle.std.proofs.Common.{true≢false}
use Rattle.std.specs.List.{range_with_len}
use Rattle.std.proofs.lemmas.Bool.Decides.{nat_tests}
use Rattle.exo_tree.specs.Tree.{Control, Block, Procedure, Program}
use Rattle.exo_tree.specs.Context.{Context}
use Rattle.exo_meaning.specs.Scene.{Shape, Seen, Scene, numbers, stride_at, strides_of, whole}
use Rattle.exo_meaning.specs.State.{State}
use Rattle.exo_meaning.specs.Units.{sort_in, has_dimension, field_kind}
use Rattle.meaning_laws.specs.PlaceFacts.{in_scope}
use Rattle.affine_forms.specs.Atoms.{Variable, OpaqueStride, Valuation, value, constantly}
use Rattle.affine_forms.specs.Atoms.{only}
use Rattle.affine_forms.specs.Forms.{is_affine}
use Rattle.affine_forms.specs.Strides.{is_one_open, product_form, dense_stride, all_affine}
use Rattle.affine_forms.specs.Laws.{ReadsAt}
use Rattle.affine_forms.proofs.Strides.{stride_law}
use Rattle.affine_places.specs.Roots.{Layout, Dense, Strided, Rooted, own_root, variables, roots_of}
use Rattle.affine_places.specs.Readings.{extent_reading, root_stride, stride_over, stride_of}
use Rattle.affine_places.specs.Readings.{entry_atom}
use Rattle.affine_places.specs.Laws.{stride_in}
use Rattle.affine_places.proofs.PlainRoots.{roots_have_extents}
use Rattle.affine_places.proofs.StrideValues.{only_value, stride_value}
use Rattle.check_laws.proofs.OfFacts.Affine.{Allows, affine}
use Rattle.check_laws.proofs.OfFacts.Founded.{all_founded}
use Rattle.check_laws.proofs.OfFacts.Sides.{over, picked, ranges_whole}
use Rattle.check_laws.proofs.OfFacts.Standing.{NameStands}
use Rattle.check_laws.proofs.OfFacts.Truths.{parts, none_some}
use Rattle.match_laws.specs.Simplify.Simplified.{values_in}
use Rattle.match_laws.specs.Simplify.SimplifiedBlocks.{is_seen, standing}
use Rattle.call_laws.specs.Places.{IsThere, scope_in, EntryReads, ReadsThere}
use Rattle.call_laws.proofs.Owned.{Owned, all_owned, each_get}
use Rattle.call_laws.proofs.Places.{Own, own, name_stands, name_unbound, made_there}
use Rattle.call_laws.proofs.Places.{places_stand}

affine_drop : (n : ℕ) (es : List Control) → all_affine variables es ≡ true
    → all_affine variables (drop n es) ≡ true
affine_drop zero es h = h
affine_drop (suc n) [] h = refl
affine_drop (suc n) (e ∷ es) h =
    affine_drop n es (parts (is_affine variables e) (all_affine variables es) h).1

inside : (d n : ℕ) → nat_lt d n ≡ true → d < n
inside d n h = grind (arith, nat_tests)

length_numbers : (scene : Scene) (es : List Control) → length (numbers scene es) ≡ length es
length_numbers scene [] = refl
length_numbers scene (e ∷ es) = ap suc (length_numbers scene es)

whole_strides : (ds strides : List ℤ) (d : ℕ) → d < length ds
    → get_or (strides_of (whole ds) strides) d (pos 0) ≡ get_or strides d (pos 0)
whole_strides [] strides d h = absurd (omega (arith, h))
whole_strides (n ∷ ds) [] d h = refl
whole_strides (n ∷ ds) (t ∷ strides) zero h = refl
whole_strides (n ∷ ds) (t ∷ strides) (suc d) h = whole_strides ds strides d (omega (arith, h))

-- of a name that sees all dimensions, each has the stride of the buffer
whole_over : (scene : Scene) (es : List Control) (strides : List ℤ) (d : ℕ) → d < length es
    → over strides (slice_get (range_with_len 0 (length es)) d) ≡ get_or strides d (pos 0)
whole_over scene es strides d h =
    ap (λ ds. over strides (slice_get ds d)) (sym (ranges_whole scene es))
    ∙ sym (picked (whole (numbers scene es)) strides d)
    ∙ whole_strides (numbers scene es) strides d
    (subst (λ n. d < n) (sym (length_numbers scene es)) h)

-- ---- two ways to number the strides of buffers

-- by the buffers
abbrev by_buffers : Scene → Valuation
by_buffers scene = record (values_in scene) { stride = stride_in scene }

extents_read : (v : Valuation) (scene : Scene) → ((x : ℕ) → v.variable x ≡ scene.control x)
    → ReadsAt variables v extent_reading scene
extents_read v scene h = record {
  variables = λ x k. only_value v (Variable x) ∙ h x;
  fields = λ f k. absurd (true≢false (sym k));
  strides = λ x j k. absurd (true≢false (sym k));
}

-- where the root's own name has the strides of its buffer, its dimensions have one stride by both
module _ (scene : Scene) (root n : ℕ)
    (same : (d : ℕ) → d < n → stride_at scene (scene.views root) d ≡ stride_in scene root d) where
  abbrev v : Valuation
  v = values_in scene

  abbrev w : Valuation
  w = by_buffers scene

  opaque : (d : ℕ) → d < n
      → value v (only (OpaqueStride root d)) ≡ value w (only (OpaqueStride root d))
  opaque d h =
      only_value v (OpaqueStride root d) ∙ same d h ∙ sym (only_value w (OpaqueStride root d))

  product_same : (es : List Control) → all_affine variables es ≡ true → is_one_open es ≡ true
      → value v (product_form extent_reading es) ≡ value w (product_form extent_reading es)
  product_same es h o =
      stride_law variables v extent_reading scene es (extents_read v scene (λ x. refl)) h o
      ∙ sym (stride_law variables w extent_reading scene es (extents_read w scene (λ x. refl)) h o)

  dense_same : (d : ℕ) (es : List Control) → all_affine variables es ≡ true → d < n
      → (t : Bool)
      → value v (cond t (dense_stride extent_reading root d es) (constantly (pos 0)))
      ≡ value w (cond t (dense_stride extent_reading root d es) (constantly (pos 0)))
  dense_same d es h k false = refl
  dense_same d es h k true = go (is_one_open (drop (suc d) es)) refl
    where
      go : (o : Bool) → is_one_open (drop (suc d) es) ≡ o
          → value v (cond o (product_form extent_reading (drop (suc d) es))
          (only (OpaqueStride root d)))
          ≡ value w (cond o (product_form extent_reading (drop (suc d) es))
          (only (OpaqueStride root d)))
      go true o = product_same (drop (suc d) es) (affine_drop (suc d) es h) o
      go false o = opaque d k

  root_same : (d : ℕ) (layout : Layout)
      → ((es : List Control) → layout ≡ Dense es → all_affine variables es ≡ true) → d < n
      → value v (root_stride root d layout) ≡ value w (root_stride root d layout)
  root_same d (Dense es) h k = dense_same d es (h es refl) k (nat_lt d (length es))
  root_same d Strided h k = opaque d k

  pub over_same : (r : Rooted) → r.root ≡ root
      → ((es : List Control) → r.layout ≡ Dense es → all_affine variables es ≡ true)
      → (o : Option ℕ) → ((d : ℕ) → o ≡ Some d → d < n)
      → value v (stride_over r o) ≡ value w (stride_over r o)
  over_same r e h None k = refl
  over_same r e h (Some d) k =
      subst (λ b. value v (root_stride b d r.layout) ≡ value w (root_stride b d r.layout)) (sym e)
      (root_same d r.layout h (k d refl))

-- ---- at a place

module _ (u : Program) (p : Procedure) (c : Context) (old : Block) (t : State)
    (there : IsThere u p c old t) where
  abbrev here : Own p
  here = own u p c old t there

  -- the own name of a root that is there has the strides of its buffer
  root_strides : (r : Rooted) (shape : Shape) (owned : Owned (roots_of p) r)
      → t.scene.buffers r.root ≡ Some shape
      → (d : ℕ) → d < length owned.extents
      → stride_at t.scene (t.scene.views r.root) d ≡ stride_in t.scene r.root d
  root_strides r shape owned e d h = go (in_scope p c r.root) refl
    where
      seen : (h : NameStands there.first.scene (in_scope p c) t.scene r.root
          (Some (own_root r.root r.layout (length owned.extents))))
          → stride_at t.scene (t.scene.views r.root) d ≡ stride_in t.scene r.root d
      seen s =
          ap (λ v. stride_at t.scene v d) s.1
          ∙ ap (λ o. get_or (elim o as (λ o. List ℤ) [
            | None ↦ []
            | Some q ↦ strides_of s.0.sides q.strides
          ]) d (pos 0))
          (ap t.scene.buffers s.2.made.root ∙ e)
          ∙ picked s.0.sides shape.strides d
          ∙ ap (λ ds. over shape.strides (slice_get ds d)) s.2.made.dims
          ∙ whole_over t.scene owned.extents shape.strides d h
          ∙ sym (ap (λ o. elim o as (λ o. ℤ) [
            | None ↦ pos 0
            | Some q ↦ get_or q.strides d (pos 0)
          ]) e)

      go : (b : Bool) → in_scope p c r.root ≡ b
          → stride_at t.scene (t.scene.views r.root) d ≡ stride_in t.scene r.root d
      go true i =
          seen (subst (NameStands there.first.scene (in_scope p c) t.scene r.root) owned.there
          (name_stands u p c old t there r.root i))
      go false i = absurd (none_some (sym (name_unbound u p c old t there r.root i).buffers ∙ e))

  stride_read : (x k : ℕ) (o : Option Seen) → t.scene.views x ≡ o → is_seen o ≡ true
      → value (values_in t.scene) (stride_of (roots_of p x) k)
      ≡ stride_at t.scene (t.scene.views x) k
  stride_read x k None e i = absurd (true≢false (sym i))
  stride_read x k (Some seen) e i =
      let m = made_there u p c old t there x seen e in
      let r = m.0 in
      let owned = all_owned p here.scoped here.params here.body x r m.1 in
      let founded = all_founded p here.scoped here.params here.body here.extents x r m.1 in
      let both : value (values_in t.scene) (stride_of (Some r) k)
      ≡ value (by_buffers t.scene) (stride_of (Some r) k) =
      over_same t.scene r.root (length owned.extents)
      (root_strides r m.2.shape owned m.2.there) r refl founded.affine (slice_get r.dims k)
      (λ d j. each_get (λ d. d < length owned.extents) r.dims k d owned.below j) in
      ap (λ o. value (values_in t.scene) (stride_of o k)) m.1
      ∙ both
      ∙ sym (ap (λ o. value (by_buffers t.scene) (stride_of o k)) m.1)
      ∙ stride_value (by_buffers t.scene) t.scene (λ y. refl) (λ b d. refl) (roots_of p)
      (roots_have_extents p here.extents) (made_there u p c old t there) x k
      (subst IsSome (sym e) refl)

pub entry_reads : EntryReads
entry_reads u p c old t there = record {
  variables = λ x h. only_value (values_in t.scene) (Variable x);
  fields = λ f h. only_value (values_in t.scene) (entry_atom u.fields f);
  strides = λ x k h. stride_read u p c old t there x k (t.scene.views x) refl h;
}

pub some_is_seen : (o : Option Seen) → IsSome o → is_seen o ≡ true
some_is_seen None h = absurd (true≢false (sym h))
some_is_seen (Some seen) h = refl

pub reads_there : ReadsThere
reads_there u p c old t reads e there keeps =
    let see = places_stand u p c old t there in
    let allows : Allows (field_kind u.fields) reads (scope_in p c) (standing t.scene) = record {
      variables = λ x h. refl;
      of_fields = λ f h. refl;
      strides = λ x k h. some_is_seen (t.scene.views x)
          (see.seen x k (parts reads.strides (has_dimension k (sort_in (scope_in p c) x)) h).1);
    } in (
      entry_reads u p c old t there,
      affine (field_kind u.fields) reads (scope_in p c) (standing t.scene) allows e keeps,
    )
