-- Binders are free where their block stands.
use Rattle.std.proofs.Common.{◌≡◌, ℕ, ◌==◌, ◌&&◌, ◌||◌, not, Bool, true, false, refl, sym, ap, ◌∙◌, true≢false, eqb-true}
use Rattle.exo_tree.specs.Tree.{Statement, Assign, Reduce, Config, Pass, If, For, Alloc, View, Call, Block, end, next, joined}
use Rattle.exo_meaning.specs.Unseen.{in_control, in_controls, in_condition, in_coords}
use Rattle.exo_meaning.proofs.Frame.{or_parts}
use Rattle.exo_tree.specs.Context.{Context, Here, After, InLoop, InThen, InElse, fill}
use Rattle.meaning_laws.specs.Sound.{binds, on_way}
use Rattle.meaning_laws.specs.Scoped.{is_not, is_scoped, step_is_scoped, is_param, has_binder, step_has_binder, BindersLaw, FreshLaw}
use Rattle.meaning_laws.proofs.Substitute.{and_parts}
use Rattle.meaning_laws.proofs.Scoped.{not_true, or_elim, both_false}

-- a binder of a block whose names are in scope is not bound before it
mutual
  pub binder_new : (bound : ℕ → Bool) (b : Block) (x : ℕ) → is_scoped bound b ≡ true → has_binder b x ≡ true → bound x ≡ false
  binder_new bound end x h k = absurd (true≢false (sym k))
  binder_new bound (next a b) x h k =
      let p = and_parts (step_is_scoped bound a) (is_scoped (λ y. binds a y || bound y) b) h in
      or_elim (step_has_binder a x) (has_binder b x) k (step_binder_new bound a x p.0) (λ j. (or_parts (binds a x) (bound x) (binder_new (λ y. binds a y || bound y) b x p.1 j)).1)

  pub step_binder_new : (bound : ℕ → Bool) (a : Statement) (x : ℕ) → step_is_scoped bound a ≡ true → step_has_binder a x ≡ true → bound x ≡ false
  step_binder_new bound (Assign y is e) x h k = absurd (true≢false (sym k))
  step_binder_new bound (Reduce y is e) x h k = absurd (true≢false (sym k))
  step_binder_new bound (Config f a) x h k = absurd (true≢false (sym k))
  step_binder_new bound Pass x h k = absurd (true≢false (sym k))
  step_binder_new bound (If c a b) x h k =
      let p = and_parts (is_scoped bound a) (is_scoped bound b) (and_parts (not (in_condition (is_not bound) c)) (is_scoped bound a && is_scoped bound b) h).1 in
      or_elim (has_binder a x) (has_binder b x) k (binder_new bound a x p.0) (binder_new bound b x p.1)
  step_binder_new bound (For i lo hi b) x h k =
      let q = and_parts (not (bound i.id)) (not (in_control (is_not bound) lo || in_control (is_not bound) hi) && is_scoped (λ y. (y == i.id) || bound y) b) h in
      let r = and_parts (not (in_control (is_not bound) lo || in_control (is_not bound) hi)) (is_scoped (λ y. (y == i.id) || bound y) b) q.1 in
      or_elim (x == i.id) (has_binder b x) k (λ e. ap bound (eqb-true x i.id e) ∙ not_true (bound i.id) q.0) (λ j. (or_parts (x == i.id) (bound x) (binder_new (λ y. (y == i.id) || bound y) b x r.1 j)).1)
  step_binder_new bound (Alloc y cell dims memory) x h k = ap bound (eqb-true x y.id k) ∙ not_true (bound y.id) (and_parts (not (bound y.id)) (not (in_controls (is_not bound) dims)) h).0
  step_binder_new bound (View w y coords) x h k = ap bound (eqb-true x w.id k) ∙ not_true (bound w.id) (and_parts (not (bound w.id)) (bound y && not (in_coords (is_not bound) coords)) h).0
  step_binder_new bound (Call n args) x h k = absurd (true≢false (sym k))

left_binder : (a rest : Block) (x : ℕ) → has_binder a x ≡ true → has_binder (joined a rest) x ≡ true
left_binder end rest x h = absurd (true≢false (sym h))
left_binder (next s a) rest x h = go (step_has_binder s x) (left_binder a rest x) h
  where
    go : (t : Bool) → (has_binder a x ≡ true → has_binder (joined a rest) x ≡ true) → (t || has_binder a x) ≡ true → (t || has_binder (joined a rest) x) ≡ true
    go true below h = refl
    go false below h = below h

-- in the hole: neither bound before the block nor on the way
module _ (old : Block) (x : ℕ) (has : has_binder old x ≡ true) where
  free_there : (c : Context) (bound : ℕ → Bool) → is_scoped bound (fill c old) ≡ true → (bound x ≡ false) × (on_way c x ≡ false)
  free_there (Here rest) bound h = (binder_new bound (joined old rest) x h (left_binder old rest x has), refl)
  free_there (After a c) bound h =
      let p = and_parts (step_is_scoped bound a) (is_scoped (λ y. binds a y || bound y) (fill c old)) h in
      let q = free_there c (λ y. binds a y || bound y) p.1 in
      let r = or_parts (binds a x) (bound x) q.0 in
      (r.1, both_false (binds a x) (on_way c x) r.0 q.1)
  free_there (InLoop i lo hi c rest) bound h =
      let p = and_parts (step_is_scoped bound (For i lo hi (fill c old))) (is_scoped (λ y. binds (For i lo hi (fill c old)) y || bound y) rest) h in
      let q = and_parts (not (bound i.id)) (not (in_control (is_not bound) lo || in_control (is_not bound) hi) && is_scoped (λ y. (y == i.id) || bound y) (fill c old)) p.0 in
      let r = and_parts (not (in_control (is_not bound) lo || in_control (is_not bound) hi)) (is_scoped (λ y. (y == i.id) || bound y) (fill c old)) q.1 in
      let w = free_there c (λ y. (y == i.id) || bound y) r.1 in
      let v = or_parts (x == i.id) (bound x) w.0 in
      (v.1, both_false (x == i.id) (on_way c x) v.0 w.1)
  free_there (InThen t c other rest) bound h =
      let p = and_parts (step_is_scoped bound (If t (fill c old) other)) (is_scoped (λ y. binds (If t (fill c old) other) y || bound y) rest) h in
      let q = and_parts (not (in_condition (is_not bound) t)) (is_scoped bound (fill c old) && is_scoped bound other) p.0 in
      free_there c bound (and_parts (is_scoped bound (fill c old)) (is_scoped bound other) q.1).0
  free_there (InElse t other c rest) bound h =
      let p = and_parts (step_is_scoped bound (If t other (fill c old))) (is_scoped (λ y. binds (If t other (fill c old)) y || bound y) rest) h in
      let q = and_parts (not (in_condition (is_not bound) t)) (is_scoped bound other && is_scoped bound (fill c old)) p.0 in
      free_there c bound (and_parts (is_scoped bound other) (is_scoped bound (fill c old)) q.1).1

pub binders_law : BindersLaw
binders_law p c old x scoped has = free_there old x has c (is_param p) scoped

-- ---- names that are not bound

way_binder : (old : Block) (x : ℕ) (c : Context) → has_binder (fill c old) x ≡ false → on_way c x ≡ false
way_binder old x (Here rest) h = refl
way_binder old x (After a c) h = let p = or_parts (step_has_binder a x) (has_binder (fill c old) x) h in both_false (binds a x) (on_way c x) (less a p.0) (way_binder old x c p.1)
  where
    less : (a : Statement) → step_has_binder a x ≡ false → binds a x ≡ false
    less (Assign y is e) h = refl
    less (Reduce y is e) h = refl
    less (Config f a) h = refl
    less Pass h = refl
    less (If c a b) h = refl
    less (For i lo hi b) h = refl
    less (Alloc y cell dims memory) h = h
    less (View w y coords) h = h
    less (Call n args) h = refl
way_binder old x (InLoop i lo hi c rest) h =
    let p = or_parts ((x == i.id) || has_binder (fill c old) x) (has_binder rest x) h in
    let q = or_parts (x == i.id) (has_binder (fill c old) x) p.0 in
    both_false (x == i.id) (on_way c x) q.0 (way_binder old x c q.1)
way_binder old x (InThen t c other rest) h = way_binder old x c (or_parts (has_binder (fill c old) x) (has_binder other x) (or_parts (has_binder (fill c old) x || has_binder other x) (has_binder rest x) h).0).0
way_binder old x (InElse t other c rest) h = way_binder old x c (or_parts (has_binder other x) (has_binder (fill c old) x) (or_parts (has_binder other x || has_binder (fill c old) x) (has_binder rest x) h).0).1

pub fresh_law : FreshLaw
fresh_law p c old x out none = (out, way_binder old x c none)
