-- Each root of a table is its own root, and sees all of its dimensions.
use Rattle.std.proofs.Common.{◌≡◌, ◌≤◌, ◌<◌, ℕ, zero, suc, ◌+◌, ◌==◌, Bool, true, false, cond, not}
use Rattle.std.proofs.Common.{◌&&◌, ◌||◌, List, [], ◌∷◌, length, Some, slice_get, arith}
use Rattle.std.proofs.Common.{refl, sym, ap, ◌∙◌, subst, true≢false, eqb-true}
use Rattle.std.specs.List.{range_with_len}
use Rattle.exo_tree.specs.Spans.{is_span}
use Rattle.exo_tree.specs.Tree.{Control, Coord, Statement, Assign, Reduce, Config, Pass, If, For}
use Rattle.exo_tree.specs.Tree.{Alloc, View, Call, Block, end, next, Param, ParamKind, ControlParam}
use Rattle.exo_tree.specs.Tree.{TensorParam, WindowParam, Procedure}
use Rattle.exo_meaning.specs.Inputs.{is_buffer_of}
use Rattle.exo_meaning.specs.Orders.{Each}
use Rattle.exo_meaning.specs.Unseen.{in_control, in_condition, in_coords}
use Rattle.meaning_laws.specs.Sound.{binds}
use Rattle.meaning_laws.specs.Scoped.{is_not, is_param, is_scoped, step_is_scoped, has_binder}
use Rattle.meaning_laws.specs.Scoped.{step_has_binder}
use Rattle.affine_places.specs.Roots.{Layout, Dense, Strided, Rooted, Roots, own_root, spanned}
use Rattle.affine_places.specs.Roots.{seen_through, roots_of}
use Rattle.check_laws.proofs.OfFacts.Truths.{parts, one_of, none_some, some_injective}
use Rattle.check_laws.proofs.OfFacts.Binders.{binds_less}
use Rattle.check_laws.proofs.OfFacts.Rooted.{Agrees, StepAgrees, KindAgrees, ParamsAgree, no_root}
use Rattle.check_laws.proofs.OfFacts.Sides.{map_gives}

-- its root is its own, with so many dimensions, of which it sees some
pub record Owned (table : Roots) (r : Rooted) : Type 0 where
  pub extents : List Control
  pub there : table r.root ≡ Some (own_root r.root r.layout (length extents))
  pub below : Each (λ d. d < length extents) r.dims

abbrev pub AllOwned : Roots → ℕ → Type 0
AllOwned table x = (r : Rooted) → table x ≡ Some r → Owned table r

-- ---- dimensions

range_below : (a n rank : ℕ) → a + n ≤ rank → Each (λ d. d < rank) (range_with_len a n)
range_below a zero rank h = tt
range_below a (suc n) rank h = (omega (arith, h), range_below (a + 1) n rank (omega (arith, h)))

spanned_each : (P : ℕ → Type 0) (cs : List Coord) (ds : List ℕ) → Each P ds
    → Each P (spanned cs ds)
spanned_each P [] ds h = tt
spanned_each P (c ∷ cs) [] h = tt
spanned_each P (c ∷ cs) (d ∷ ds) h = go (is_span c) (spanned_each P cs ds h.1)
  where
    go : (t : Bool) → Each P (spanned cs ds)
        → Each P (cond t (d ∷ spanned cs ds) (spanned cs ds))
    go true rest = (h.0, rest)
    go false rest = rest

pub each_get : (P : ℕ → Type 0) (ds : List ℕ) (k d : ℕ) → Each P ds → slice_get ds k ≡ Some d → P d
each_get P [] k d h e = absurd (none_some e)
each_get P (x ∷ ds) zero d h e = subst P (some_injective x d e) h.0
each_get P (x ∷ ds) (suc k) d h e = each_get P ds k d h.1 e

-- ---- in a table

module _ (table : Roots) where
  own_owned : (x : ℕ) (layout : Layout) (es : List Control)
      → table x ≡ Some (own_root x layout (length es)) → AllOwned table x
  own_owned x layout es agrees r e =
      subst (Owned table) (some_injective (own_root x layout (length es)) r (sym agrees ∙ e))
      (record {
        extents = es;
        there = agrees;
        below = range_below 0 (length es) (length es) (omega arith);
      })

  mutual
    block_owned : (b : Block) (bound : ℕ → Bool) → is_scoped bound b ≡ true → Agrees table b
        → ((x : ℕ) → bound x ≡ true → AllOwned table x)
        → (x : ℕ) → has_binder b x ≡ true → AllOwned table x
    block_owned end bound scoped agrees known x k = absurd (true≢false (sym k))
    block_owned (next a b) bound scoped agrees known x k =
        let s = parts (step_is_scoped bound a) (is_scoped (λ y. binds a y || bound y) b) scoped in
        one_of (step_has_binder a x) (has_binder b x) k
        (step_owned a bound s.0 agrees.0 known x)
        (block_owned b (λ y. binds a y || bound y) s.1 agrees.1
        (λ y j. one_of (binds a y) (bound y) j
        (λ i. step_owned a bound s.0 agrees.0 known y (binds_less a y i)) (known y)) x)

    step_owned : (a : Statement) (bound : ℕ → Bool) → step_is_scoped bound a ≡ true
        → StepAgrees table a → ((x : ℕ) → bound x ≡ true → AllOwned table x)
        → (x : ℕ) → step_has_binder a x ≡ true → AllOwned table x
    step_owned (Assign y is e) bound scoped agrees known x k = absurd (true≢false (sym k))
    step_owned (Reduce y is e) bound scoped agrees known x k = absurd (true≢false (sym k))
    step_owned (Config f a) bound scoped agrees known x k = absurd (true≢false (sym k))
    step_owned Pass bound scoped agrees known x k = absurd (true≢false (sym k))
    step_owned (If c a b) bound scoped agrees known x k =
        let s = parts (is_scoped bound a) (is_scoped bound b)
        (parts (not (in_condition (is_not bound) c)) (is_scoped bound a && is_scoped bound b)
        scoped).1 in
        one_of (has_binder a x) (has_binder b x) k (block_owned a bound s.0 agrees.0 known x)
        (block_owned b bound s.1 agrees.1 known x)
    step_owned (For i lo hi b) bound scoped agrees known x k =
        let outside = not (in_control (is_not bound) lo || in_control (is_not bound) hi) in
        let within = is_scoped (λ y. (y == i.id) || bound y) b in
        let s = parts outside within (parts (not (bound i.id)) (outside && within) scoped).1 in
        let own : (y : ℕ) → (y == i.id) ≡ true → AllOwned table y =
        λ y e r j. absurd (none_some (sym agrees.0 ∙ ap table (sym (eqb-true y i.id e)) ∙ j)) in
        one_of (x == i.id) (has_binder b x) k (own x)
        (block_owned b (λ y. (y == i.id) || bound y) s.1 agrees.1
        (λ y j. one_of (y == i.id) (bound y) j (own y) (known y)) x)
    step_owned (Alloc y cell es memory) bound scoped agrees known x k =
        subst (AllOwned table) (sym (eqb-true x y.id k))
        (own_owned y.id (Dense es) es agrees)
    step_owned (View w y coords) bound scoped agrees known x k =
        let there = (parts (bound y) (not (in_coords (is_not bound) coords))
        (parts (not (bound w.id)) (bound y && not (in_coords (is_not bound) coords)) scoped).1).0 in
        subst (AllOwned table) (sym (eqb-true x w.id k))
        (λ r e. go (map_gives (table y) (seen_through coords) r (sym agrees ∙ e)) there)
      where
        go : {r : Rooted}
            → (q : Rooted) × (table y ≡ Some q) × (seen_through coords q ≡ r)
            → bound y ≡ true → Owned table r
        go m there =
            let f = known y there m.0 m.1 in
            subst (Owned table) m.2 (record {
              extents = f.extents;
              there = f.there;
              below = spanned_each (λ d. d < length f.extents) coords m.0.dims f.below;
            })
    step_owned (Call n args) bound scoped agrees known x k = absurd (true≢false (sym k))

  kind_owned : (x : ℕ) (kind : ParamKind) → KindAgrees table x kind → AllOwned table x
  kind_owned x (ControlParam kind) agrees = λ r e. absurd (none_some (sym agrees ∙ e))
  kind_owned x (TensorParam cell es memory) agrees = own_owned x (Dense es) es agrees
  kind_owned x (WindowParam cell es memory) agrees = own_owned x Strided es agrees

  params_owned : (ps : List Param) → ParamsAgree table ps
      → (x : ℕ) → is_buffer_of x ps ≡ true → AllOwned table x
  params_owned [] agrees x k = absurd (true≢false (sym k))
  params_owned (p ∷ ps) agrees x k =
      one_of (x == p.binder.id) (is_buffer_of x ps) k
      (λ e. subst (AllOwned table) (sym (eqb-true x p.binder.id e))
      (kind_owned p.binder.id p.kind agrees.0))
      (params_owned ps agrees.1 x)

pub all_owned : (p : Procedure) → is_scoped (is_param p) p.body ≡ true
    → ParamsAgree (roots_of p) p.params → Agrees (roots_of p) p.body
    → (x : ℕ) → AllOwned (roots_of p) x
all_owned p scoped params agrees x = go (is_param p x) refl (has_binder p.body x) refl
  where
    of_params : (y : ℕ) → is_param p y ≡ true → AllOwned (roots_of p) y
    of_params = params_owned (roots_of p) p.params params

    go : (s : Bool) → is_param p x ≡ s → (t : Bool) → has_binder p.body x ≡ t
        → AllOwned (roots_of p) x
    go true e t i = of_params x e
    go false e true i =
        block_owned (roots_of p) p.body (is_param p) scoped agrees of_params x i
    go false e false i = λ r j. absurd (none_some (sym (no_root p x e i) ∙ j))
