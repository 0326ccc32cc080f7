-- Each root that the table tells is a parameter or an allocation, and its layout is told of it too.
use Rattle.std.proofs.Common.{◌≡◌, ℕ, pos, ◌==◌, Bool, true, false, not, ◌&&◌, ◌||◌, List, [], ◌∷◌, length, Some, refl, sym, ap, ◌∙◌, subst, true≢false, eqb-true}
use Rattle.exo_tree.specs.Tree.{Control, Statement, Assign, Reduce, Config, Pass, If, For, Alloc, View, Call, Block, end, next, Param, ParamKind, ControlParam, TensorParam, WindowParam, Procedure}
use Rattle.exo_meaning.specs.Scene.{Side, numbers, whole}
use Rattle.exo_meaning.specs.Inputs.{is_buffer_of}
use Rattle.exo_meaning.specs.Unseen.{in_control, in_condition, in_coords}
use Rattle.exo_meaning.specs.Units.{is_rank}
use Rattle.meaning_laws.specs.Sound.{binds}
use Rattle.meaning_laws.specs.Scoped.{is_not, is_param, is_scoped, step_is_scoped, has_binder, step_has_binder}
use Rattle.affine_forms.specs.Strides.{all_affine}
use Rattle.affine_places.specs.Roots.{Layout, Dense, Strided, Rooted, Roots, own_root, spanned, seen_through, roots_of, variables, are_extents, kind_has_extents, params_have_extents, block_has_extents, statement_has_extents, has_extents}
use Rattle.affine_places.specs.Laws.{ranges}
use Rattle.check_laws.proofs.OfFacts.Truths.{parts, one_of, none_some, some_injective}
use Rattle.check_laws.proofs.OfFacts.Binders.{binds_less}
use Rattle.check_laws.proofs.OfFacts.Rooted.{Agrees, StepAgrees, KindAgrees, ParamsAgree, no_root}
use Rattle.check_laws.proofs.OfFacts.Sides.{map_gives, ranges_whole, thinned, ranges_thinned}
use Rattle.check_laws.proofs.OfFacts.Standing.{only_values}

pub record Founded (table : Roots) (r : Rooted) : Type 0 where
  pub own : Rooted
  pub there : table r.root ≡ Some own
  pub layout : own.layout ≡ r.layout
  pub sides : List Side
  pub dims : ranges sides ≡ r.dims
  pub affine : (es : List Control) → r.layout ≡ Dense es → all_affine variables es ≡ true

abbrev pub AllFounded : Roots → ℕ → Type 0
AllFounded table x = (r : Rooted) → table x ≡ Some r → Founded table r

dense_same : (es fs : List Control) → Dense es ≡ Dense fs → es ≡ fs
dense_same es fs e = cc

strided_apart : (es : List Control) → Strided ≡ Dense es → ⊥
strided_apart es e = cc

module _ (table : Roots) where
  own_founded : (x : ℕ) (layout : Layout) (es : List Control) → table x ≡ Some (own_root x layout (length es)) → ((fs : List Control) → layout ≡ Dense fs → all_affine variables fs ≡ true) → AllFounded table x
  own_founded x layout es agrees affine r e = subst (Founded table) (some_injective (own_root x layout (length es)) r (sym agrees ∙ e)) (record {
    own = own_root x layout (length es);
    there = agrees;
    layout = refl;
    sides = whole (numbers (only_values (λ y. pos 0)) es);
    dims = ranges_whole (only_values (λ y. pos 0)) es;
    affine = affine;
  })

  dense_affine : (es : List Control) → are_extents es ≡ true → (fs : List Control) → Dense es ≡ Dense fs → all_affine variables fs ≡ true
  dense_affine es h fs e = ap (all_affine variables) (sym (dense_same es fs e)) ∙ (parts (is_rank (length es)) (all_affine variables es) h).1

  mutual
    block_founded : (b : Block) (bound : ℕ → Bool) → is_scoped bound b ≡ true → Agrees table b → block_has_extents b ≡ true → ((x : ℕ) → bound x ≡ true → AllFounded table x) → (x : ℕ) → has_binder b x ≡ true → AllFounded table x
    block_founded end bound scoped agrees h known x k = absurd (true≢false (sym k))
    block_founded (next a b) bound scoped agrees h known x k =
        let s = parts (step_is_scoped bound a) (is_scoped (λ y. binds a y || bound y) b) scoped in
        let p = parts (statement_has_extents a) (block_has_extents b) h in
        one_of (step_has_binder a x) (has_binder b x) k (step_founded a bound s.0 agrees.0 p.0 known x)
        (block_founded b (λ y. binds a y || bound y) s.1 agrees.1 p.1 (λ y j. one_of (binds a y) (bound y) j (λ i. step_founded a bound s.0 agrees.0 p.0 known y (binds_less a y i)) (known y)) x)

    step_founded : (a : Statement) (bound : ℕ → Bool) → step_is_scoped bound a ≡ true → StepAgrees table a → statement_has_extents a ≡ true → ((x : ℕ) → bound x ≡ true → AllFounded table x) → (x : ℕ) → step_has_binder a x ≡ true → AllFounded table x
    step_founded (Assign y is e) bound scoped agrees h known x k = absurd (true≢false (sym k))
    step_founded (Reduce y is e) bound scoped agrees h known x k = absurd (true≢false (sym k))
    step_founded (Config f a) bound scoped agrees h known x k = absurd (true≢false (sym k))
    step_founded Pass bound scoped agrees h known x k = absurd (true≢false (sym k))
    step_founded (If c a b) bound scoped agrees h known x k =
        let s = parts (is_scoped bound a) (is_scoped bound b) (parts (not (in_condition (is_not bound) c)) (is_scoped bound a && is_scoped bound b) scoped).1 in
        let p = parts (block_has_extents a) (block_has_extents b) h in
        one_of (has_binder a x) (has_binder b x) k (block_founded a bound s.0 agrees.0 p.0 known x) (block_founded b bound s.1 agrees.1 p.1 known x)
    step_founded (For i lo hi b) bound scoped agrees h known x k =
        let s = parts (not (in_control (is_not bound) lo || in_control (is_not bound) hi)) (is_scoped (λ y. (y == i.id) || bound y) b) (parts (not (bound i.id)) (not (in_control (is_not bound) lo || in_control (is_not bound) hi) && is_scoped (λ y. (y == i.id) || bound y) b) scoped).1 in
        let own : (y : ℕ) → (y == i.id) ≡ true → AllFounded table y = λ y e r j. absurd (none_some (sym agrees.0 ∙ ap table (sym (eqb-true y i.id e)) ∙ j)) in
        one_of (x == i.id) (has_binder b x) k (own x) (block_founded b (λ y. (y == i.id) || bound y) s.1 agrees.1 h (λ y j. one_of (y == i.id) (bound y) j (own y) (known y)) x)
    step_founded (Alloc y cell es memory) bound scoped agrees h known x k = subst (AllFounded table) (sym (eqb-true x y.id k)) (own_founded y.id (Dense es) es agrees (dense_affine es h))
    step_founded (View w y coords) bound scoped agrees h known x k =
        let there = (parts (bound y) (not (in_coords (is_not bound) coords)) (parts (not (bound w.id)) (bound y && not (in_coords (is_not bound) coords)) scoped).1).0 in
        subst (AllFounded table) (sym (eqb-true x w.id k)) (λ r e. go (map_gives (table y) (seen_through coords) r (sym agrees ∙ e)) there)
      where
        go : {r : Rooted} → (q : Rooted) × (table y ≡ Some q) × (seen_through coords q ≡ r) → bound y ≡ true → Founded table r
        go m there = let f = known y there m.0 m.1 in subst (Founded table) m.2 (record { own = f.own; there = f.there; layout = f.layout; sides = thinned coords f.sides; dims = ranges_thinned coords f.sides ∙ ap (λ ds. spanned coords ds) f.dims; affine = f.affine })
    step_founded (Call n args) bound scoped agrees h known x k = absurd (true≢false (sym k))

  kind_founded : (x : ℕ) (kind : ParamKind) → KindAgrees table x kind → kind_has_extents kind ≡ true → AllFounded table x
  kind_founded x (ControlParam kind) agrees h = λ r e. absurd (none_some (sym agrees ∙ e))
  kind_founded x (TensorParam cell es memory) agrees h = own_founded x (Dense es) es agrees (dense_affine es h)
  kind_founded x (WindowParam cell es memory) agrees h = own_founded x Strided es agrees (λ fs e. absurd (strided_apart fs e))

  params_founded : (ps : List Param) → ParamsAgree table ps → params_have_extents ps ≡ true → (x : ℕ) → is_buffer_of x ps ≡ true → AllFounded table x
  params_founded [] agrees h x k = absurd (true≢false (sym k))
  params_founded (p ∷ ps) agrees h x k =
      let q = parts (kind_has_extents p.kind) (params_have_extents ps) h in
      one_of (x == p.binder.id) (is_buffer_of x ps) k (λ e. subst (AllFounded table) (sym (eqb-true x p.binder.id e)) (kind_founded p.binder.id p.kind agrees.0 q.0)) (params_founded ps agrees.1 q.1 x)

pub all_founded : (p : Procedure) → is_scoped (is_param p) p.body ≡ true → ParamsAgree (roots_of p) p.params → Agrees (roots_of p) p.body → has_extents p ≡ true → (x : ℕ) → AllFounded (roots_of p) x
all_founded p scoped params agrees h x = go (is_param p x) refl (has_binder p.body x) refl
  where
    q : (params_have_extents p.params ≡ true) × (block_has_extents p.body ≡ true)
    q = parts (params_have_extents p.params) (block_has_extents p.body) h

    of_params : (y : ℕ) → is_param p y ≡ true → AllFounded (roots_of p) y
    of_params = params_founded (roots_of p) p.params params q.0

    go : (s : Bool) → is_param p x ≡ s → (t : Bool) → has_binder p.body x ≡ t → AllFounded (roots_of p) x
    go true e t i = of_params x e
    go false e true i = block_founded (roots_of p) p.body (is_param p) scoped agrees q.1 of_params x i
    go false e false i = λ r j. absurd (none_some (sym (no_root p x e i) ∙ j))
