-- A scene in which every name that has a root is made, whatever the control values are.
use Rattle.std.proofs.Common.{◌≡◌, ℕ, ℤ, pos, Bool, true, true≢false, List, [], get_or, Option, Some, None, option_map, slice_get, refl, sym, ap, ◌∙◌, subst}
use Rattle.std.specs.Prelude.{IsSome}
use Rattle.exo_tree.specs.Tree.{I8, Control}
use Rattle.exo_meaning.specs.Scene.{Shape, Seen, Scene, numbers, strides_of, strides_seen, stride_at}
use Rattle.exo_meaning.specs.Run.{tensor, row_major}
use Rattle.affine_forms.specs.Strides.{all_affine}
use Rattle.affine_places.specs.Roots.{Layout, Dense, Strided, Rooted, Roots, variables}
use Rattle.affine_places.specs.Laws.{ranges, IsDeclared, IsMade, AreMade}
use Rattle.check_laws.proofs.OfFacts.Truths.{none_some, some_injective}
use Rattle.check_laws.proofs.OfFacts.Affine.{same_numbers}
use Rattle.check_laws.proofs.OfFacts.Sides.{over, picked}
use Rattle.check_laws.proofs.OfFacts.Standing.{only_values, Stands, NameStands}
use Rattle.check_laws.proofs.OfFacts.Founded.{Founded, AllFounded}

-- a root that is dense has its extents by the values; another is as in the first scene
abbrev shape_for : (ℕ → ℤ) → Option Shape → Layout → Shape
shape_for values given (Dense es) = tensor I8 (numbers (only_values values) es)
shape_for values given Strided = elim given [ None ↦ record { cell = I8; dims = []; strides = [] } | Some shape ↦ shape ]

module _ (table : Roots) (founded : (x : ℕ) → AllFounded table x) (first : Scene) where
  abbrev part_of : (x : ℕ) (o : Option Rooted) → table x ≡ o → Option Seen
  part_of x None e = None
  part_of x (Some r) e = Some (record { buffer = r.root; sides = (founded x r e).sides })

  abbrev buffer_of : (ℕ → ℤ) → ℕ → Option Shape
  buffer_of values b = option_map (λ q. shape_for values (first.buffers b) q.layout) (table b)

  abbrev pub model : (ℕ → ℤ) → (ℕ → ℤ) → Scene
  model values fields = record {
    control = values;
    buffers = buffer_of values;
    views = λ x. part_of x (table x) refl;
    fields = fields;
  }

  root_there : (values : ℕ → ℤ) (r : Rooted) → Founded table r → buffer_of values r.root ≡ Some (shape_for values (first.buffers r.root) r.layout)
  root_there values r f = ap (option_map (λ q. shape_for values (first.buffers r.root) q.layout)) f.there ∙ ap (λ l. Some (shape_for values (first.buffers r.root) l)) f.layout

  declared_there : (values fields : ℕ → ℤ) (given : Option Shape) (layout : Layout) → ((es : List Control) → layout ≡ Dense es → all_affine variables es ≡ true) → IsDeclared (model values fields) layout (shape_for values given layout)
  declared_there values fields given (Dense es) affine = (same_numbers variables (only_values values) (model values fields) (record { control = λ x k. refl; fields = λ f k. absurd (true≢false (sym k)); strides = λ x j k. absurd (true≢false (sym k)) }) es (affine es refl), refl)
  declared_there values fields given Strided affine = tt

  pub model_is_made : (values fields : ℕ → ℤ) → AreMade table (model values fields)
  model_is_made values fields x seen e = go (table x) refl e
    where
      go : (o : Option Rooted) (i : table x ≡ o) → part_of x o i ≡ Some seen → (r : Rooted) × (table x ≡ Some r) × IsMade (model values fields) r seen
      go None i k = absurd (none_some k)
      go (Some r) i k =
          let f = founded x r i in
          (r, i, subst (IsMade (model values fields) r) (some_injective (record { buffer = r.root; sides = f.sides }) seen k) (record { root = refl; dims = f.dims; shape = shape_for values (first.buffers r.root) r.layout; there = root_there values r f; declared = declared_there values fields (first.buffers r.root) r.layout f.affine }))

  -- a name with a root sees something
  pub model_sees : (values fields : ℕ → ℤ) (x : ℕ) → IsSome (table x) → IsSome ((model values fields).views x)
  model_sees values fields x h = go (table x) refl h
    where
      go : (o : Option Rooted) (i : table x ≡ o) → IsSome o → IsSome (part_of x o i)
      go None i k = absurd (true≢false (sym k))
      go (Some r) i k = refl

  -- ---- its strides

  seen_strides : (ℕ → ℤ) → Option Seen → List ℤ
  seen_strides values o = elim o [ None ↦ [] | Some seen ↦ strides_seen (model values (λ f. pos 0)) seen ]

  pub strides : (ℕ → ℤ) → ℕ → List ℤ
  strides values x = seen_strides values (part_of x (table x) refl)

  pub model_strides : (values fields : ℕ → ℤ) (x k : ℕ) → stride_at (model values fields) ((model values fields).views x) k ≡ get_or (strides values x) k (pos 0)
  unfolding strides seen_strides
  model_strides values fields x k = go (part_of x (table x) refl)
    where
      go : (o : Option Seen) → stride_at (model values fields) o k ≡ get_or (seen_strides values o) k (pos 0)
      go None = refl
      go (Some seen) = refl

  shape_strides : (values : ℕ → ℤ) (u : Scene) (r : Rooted) (bound : ℕ → Bool) (seen : Seen) → ((y : ℕ) → bound y ≡ true → values y ≡ u.control y) → (h : Stands first bound u r seen) → (shape_for values (first.buffers r.root) r.layout).strides ≡ h.made.shape.strides
  shape_strides values u r bound seen same h = go r.layout refl h.made.declared
    where
      go : (l : Layout) → r.layout ≡ l → IsDeclared u l h.made.shape → (shape_for values (first.buffers r.root) l).strides ≡ h.made.shape.strides
      go (Dense es) e d = ap row_major (h.extents values same es e) ∙ sym (ap row_major d.0) ∙ sym d.1
      go Strided e d = ap (λ o. (elim o as (λ o. Shape) [ None ↦ record { cell = I8; dims = []; strides = [] } | Some shape ↦ shape ]).strides) (sym (h.given e) ∙ h.made.there)

  -- names that stand have the strides of the model by the same values
  pub standing_strides : (values : ℕ → ℤ) (u : Scene) (bound : ℕ → Bool) (x k : ℕ) → ((y : ℕ) → bound y ≡ true → values y ≡ u.control y) → NameStands first bound u x (table x) → stride_at u (u.views x) k ≡ get_or (strides values x) k (pos 0)
  unfolding strides seen_strides
  standing_strides values u bound x k same h = go (table x) refl h
    where
      go : (o : Option Rooted) (i : table x ≡ o) → NameStands first bound u x o → stride_at u (u.views x) k ≡ get_or (seen_strides values (part_of x o i)) k (pos 0)
      go None i h = ap (λ v. stride_at u v k) h
      go (Some r) i h =
          let f = founded x r i in
          let m = h.2.made in
          ap (λ v. stride_at u v k) h.1
          ∙ ap (λ o. get_or (elim o as (λ o. List ℤ) [ None ↦ [] | Some s ↦ strides_of h.0.sides s.strides ]) k (pos 0)) (ap u.buffers m.root ∙ m.there)
          ∙ picked h.0.sides m.shape.strides k
          ∙ ap (λ ds. over m.shape.strides (slice_get ds k)) (m.dims ∙ sym f.dims)
          ∙ ap (λ ts. over ts (slice_get (ranges f.sides) k)) (sym (shape_strides values u r bound h.0 same h.2))
          ∙ sym (picked f.sides (shape_for values (first.buffers r.root) r.layout).strides k)
          ∙ sym (ap (λ o. get_or (elim o as (λ o. List ℤ) [ None ↦ [] | Some s ↦ strides_of f.sides s.strides ]) k (pos 0)) (root_there values r f))
