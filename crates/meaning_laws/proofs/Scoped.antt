-- Names in scope.
use Rattle.std.proofs.Common.{◌≡◌, ℕ, ◌==◌, ◌&&◌, ◌||◌, not, Bool, true, false, List, [], ◌∷◌, refl, sym, ap, ◌∙◌, true≢false, eqb-true}
use Rattle.exo_tree.specs.Tree.{Control, Lit, Var, Field, StrideOf, Neg, Add, Sub, Mul, Div, Mod, Condition, True, False, Flag, FieldFlag, Lt, Le, Gt, Ge, Eq, And, Or, Statement, Assign, Reduce, Config, Pass, If, For, Alloc, View, Call, Block}
use Rattle.exo_meaning.specs.Orders.{Each}
use Rattle.exo_meaning.specs.Unseen.{in_control, in_controls, in_condition, in_coords}
use Rattle.exo_meaning.proofs.Frame.{or_parts}
use Rattle.exo_tree.specs.Context.{Context, Here, After, InLoop, InThen, InElse, fill}
use Rattle.meaning_laws.specs.Sound.{binds, on_way}
use Rattle.meaning_laws.specs.Substitute.{has_variable}
use Rattle.meaning_laws.specs.Facts.{condition_has, IsSteady, AreSteady}
use Rattle.meaning_laws.specs.Scoped.{is_not, is_scoped, step_is_scoped, is_param, HasPlainBounds, ScopeLaw}
use Rattle.meaning_laws.proofs.Substitute.{and_parts}
use Rattle.meaning_laws.proofs.Facts.{or_left, or_right}

pub not_true : (a : Bool) → not a ≡ true → a ≡ false
not_true true h = absurd (true≢false (sym h))
not_true false h = refl

pub not_false : (a : Bool) → not a ≡ false → a ≡ true
not_false true h = refl
not_false false h = absurd (true≢false h)

pub or_elim : (a b : Bool) {P : Type 0} → (a || b) ≡ true → (a ≡ true → P) → (b ≡ true → P) → P
or_elim true b h f g = f refl
or_elim false b h f g = g h

-- a tree that does not use a hidden name does not have it
module _ (hidden : ℕ → Bool) (x : ℕ) where
  in_sides : (a b : Bool) (p q : Bool) → (a || b) ≡ false → (p || q) ≡ true → (a ≡ false → p ≡ true → hidden x ≡ false) → (b ≡ false → q ≡ true → hidden x ≡ false) → hidden x ≡ false
  in_sides a b p q h k f g = let n = or_parts a b h in or_elim p q k (f n.0) (g n.1)

  pub control_open : (a : Control) → in_control hidden a ≡ false → has_variable a x ≡ true → hidden x ≡ false
  control_open (Lit n) h k = absurd (true≢false (sym k))
  control_open (Var y) h k = ap hidden (eqb-true x y k) ∙ h
  control_open (Field f) h k = absurd (true≢false (sym k))
  control_open (StrideOf y n) h k = absurd (true≢false (sym k))
  control_open (Neg a) h k = control_open a h k
  control_open (Add a b) h k = in_sides (in_control hidden a) (in_control hidden b) (has_variable a x) (has_variable b x) h k (control_open a) (control_open b)
  control_open (Sub a b) h k = in_sides (in_control hidden a) (in_control hidden b) (has_variable a x) (has_variable b x) h k (control_open a) (control_open b)
  control_open (Mul a b) h k = in_sides (in_control hidden a) (in_control hidden b) (has_variable a x) (has_variable b x) h k (control_open a) (control_open b)
  control_open (Div a c) h k = control_open a h k
  control_open (Mod a c) h k = control_open a h k

  two_open : (a b : Control) → (in_control hidden a || in_control hidden b) ≡ false → (has_variable a x || has_variable b x) ≡ true → hidden x ≡ false
  two_open a b h k = in_sides (in_control hidden a) (in_control hidden b) (has_variable a x) (has_variable b x) h k (control_open a) (control_open b)

  pub condition_open : (c : Condition) → in_condition hidden c ≡ false → condition_has c x ≡ true → hidden x ≡ false
  condition_open True h k = absurd (true≢false (sym k))
  condition_open False h k = absurd (true≢false (sym k))
  condition_open (Flag y) h k = ap hidden (eqb-true x y k) ∙ h
  condition_open (FieldFlag f) h k = absurd (true≢false (sym k))
  condition_open (Lt a b) h k = two_open a b h k
  condition_open (Le a b) h k = two_open a b h k
  condition_open (Gt a b) h k = two_open a b h k
  condition_open (Ge a b) h k = two_open a b h k
  condition_open (Eq a b) h k = two_open a b h k
  condition_open (And c d) h k = in_sides (in_condition hidden c) (in_condition hidden d) (condition_has c x) (condition_has d x) h k (condition_open c) (condition_open d)
  condition_open (Or c d) h k = in_sides (in_condition hidden c) (in_condition hidden d) (condition_has c x) (condition_has d x) h k (condition_open c) (condition_open d)

-- ---- binders are new

new_name : (bound : ℕ → Bool) (x y : ℕ) → not (bound y) ≡ true → bound x ≡ true → (x == y) ≡ false
new_name bound x y h k = go (x == y) refl
  where
    go : (t : Bool) → (x == y) ≡ t → (x == y) ≡ false
    go true e = absurd (true≢false (sym k ∙ ap bound (eqb-true x y e) ∙ not_true (bound y) h))
    go false e = e

pub binders_new : (bound : ℕ → Bool) (a : Statement) (x : ℕ) → step_is_scoped bound a ≡ true → bound x ≡ true → binds a x ≡ false
binders_new bound (Assign y is e) x h k = refl
binders_new bound (Reduce y is e) x h k = refl
binders_new bound (Config f a) x h k = refl
binders_new bound Pass x h k = refl
binders_new bound (If c a b) x h k = refl
binders_new bound (For i lo hi b) x h k = refl
binders_new bound (Alloc y cell dims memory) x h k = new_name bound x y.id (and_parts (not (bound y.id)) (not (in_controls (is_not bound) dims)) h).0 k
binders_new bound (View w y coords) x h k = new_name bound x w.id (and_parts (not (bound w.id)) (bound y && not (in_coords (is_not bound) coords)) h).0 k
binders_new bound (Call n args) x h k = refl

pub both_false : (a b : Bool) → a ≡ false → b ≡ false → (a || b) ≡ false
both_false true b h k = h
both_false false b h k = k

module _ (old : Block) where
  pub way_new : (c : Context) (bound : ℕ → Bool) (x : ℕ) → is_scoped bound (fill c old) ≡ true → bound x ≡ true → on_way c x ≡ false
  way_new (Here rest) bound x h k = refl
  way_new (After a c) bound x h k =
      let p = and_parts (step_is_scoped bound a) (is_scoped (λ y. binds a y || bound y) (fill c old)) h in
      both_false (binds a x) (on_way c x) (binders_new bound a x p.0 k) (way_new c (λ y. binds a y || bound y) x p.1 (or_right (binds a x) (bound x) k))
  way_new (InLoop i lo hi c rest) bound x h k =
      let p = and_parts (step_is_scoped bound (For i lo hi (fill c old))) (is_scoped (λ y. binds (For i lo hi (fill c old)) y || bound y) rest) h in
      let q = and_parts (not (bound i.id)) (not (in_control (is_not bound) lo || in_control (is_not bound) hi) && is_scoped (λ y. (y == i.id) || bound y) (fill c old)) p.0 in
      let r = and_parts (not (in_control (is_not bound) lo || in_control (is_not bound) hi)) (is_scoped (λ y. (y == i.id) || bound y) (fill c old)) q.1 in
      both_false (x == i.id) (on_way c x) (new_name bound x i.id q.0 k) (way_new c (λ y. (y == i.id) || bound y) x r.1 (or_right (x == i.id) (bound x) k))
  way_new (InThen t c other rest) bound x h k =
      let p = and_parts (step_is_scoped bound (If t (fill c old) other)) (is_scoped (λ y. binds (If t (fill c old) other) y || bound y) rest) h in
      let q = and_parts (not (in_condition (is_not bound) t)) (is_scoped bound (fill c old) && is_scoped bound other) p.0 in
      way_new c bound x (and_parts (is_scoped bound (fill c old)) (is_scoped bound other) q.1).0 k
  way_new (InElse t other c rest) bound x h k =
      let p = and_parts (step_is_scoped bound (If t other (fill c old))) (is_scoped (λ y. binds (If t other (fill c old)) y || bound y) rest) h in
      let q = and_parts (not (in_condition (is_not bound) t)) (is_scoped bound other && is_scoped bound (fill c old)) p.0 in
      way_new c bound x (and_parts (is_scoped bound other) (is_scoped bound (fill c old)) q.1).1 k

  steady : (c : Context) (bound : ℕ → Bool) (t : Condition) → is_scoped bound (fill c old) ≡ true → in_condition (is_not bound) t ≡ false → IsSteady c t
  steady c bound t h k x e = way_new c bound x h (not_false (bound x) (condition_open (is_not bound) x t k e))

  pub all_steady : (c : Context) (bound : ℕ → Bool) → is_scoped bound (fill c old) ≡ true → HasPlainBounds c → AreSteady c
  all_steady (Here rest) bound h b = tt
  all_steady (After a c) bound h b = all_steady c (λ y. binds a y || bound y) (and_parts (step_is_scoped bound a) (is_scoped (λ y. binds a y || bound y) (fill c old)) h).1 b
  all_steady (InLoop i lo hi c rest) bound h b =
      let p = and_parts (step_is_scoped bound (For i lo hi (fill c old))) (is_scoped (λ y. binds (For i lo hi (fill c old)) y || bound y) rest) h in
      let q = and_parts (not (bound i.id)) (not (in_control (is_not bound) lo || in_control (is_not bound) hi) && is_scoped (λ y. (y == i.id) || bound y) (fill c old)) p.0 in
      let r = and_parts (not (in_control (is_not bound) lo || in_control (is_not bound) hi)) (is_scoped (λ y. (y == i.id) || bound y) (fill c old)) q.1 in
      let n = or_parts (in_control (is_not bound) lo) (in_control (is_not bound) hi) (not_true (in_control (is_not bound) lo || in_control (is_not bound) hi) r.0) in
      (b.0, b.1, without lo n.0 q.0, without hi n.1 q.0, bounds (way_new c (λ y. (y == i.id) || bound y)) lo n.0 r.1, (λ x e. bounds (way_new c (λ y. (y == i.id) || bound y)) hi n.1 r.1 x (turned (x == i.id) (has_variable hi x) e)), all_steady c (λ y. (y == i.id) || bound y) r.1 b.2)
    where
      -- a variable that is new is not in a bound
      without : (a : Control) → in_control (is_not bound) a ≡ false → not (bound i.id) ≡ true → has_variable a i.id ≡ false
      without a k new = go (has_variable a i.id) refl
        where
          go : (t : Bool) → has_variable a i.id ≡ t → has_variable a i.id ≡ false
          go true e = absurd (true≢false (sym (not_false (bound i.id) (control_open (is_not bound) i.id a k e)) ∙ not_true (bound i.id) new))
          go false e = e

      turned : (a b : Bool) → (a || b) ≡ true → (b || a) ≡ true
      turned true b h = or_right b true refl
      turned false b h = or_left b false h

      bounds : ((x : ℕ) → is_scoped (λ y. (y == i.id) || bound y) (fill c old) ≡ true → ((x == i.id) || bound x) ≡ true → on_way c x ≡ false) → (a : Control) → in_control (is_not bound) a ≡ false → is_scoped (λ y. (y == i.id) || bound y) (fill c old) ≡ true → (x : ℕ) → (has_variable a x || (x == i.id)) ≡ true → on_way c x ≡ false
      bounds new a k s x e = or_elim (has_variable a x) (x == i.id) e (λ j. new x s (or_right (x == i.id) (bound x) (not_false (bound x) (control_open (is_not bound) x a k j)))) (λ j. new x s (or_left (x == i.id) (bound x) j))
  all_steady (InThen t c other rest) bound h b =
      let p = and_parts (step_is_scoped bound (If t (fill c old) other)) (is_scoped (λ y. binds (If t (fill c old) other) y || bound y) rest) h in
      let q = and_parts (not (in_condition (is_not bound) t)) (is_scoped bound (fill c old) && is_scoped bound other) p.0 in
      let r = and_parts (is_scoped bound (fill c old)) (is_scoped bound other) q.1 in
      (steady c bound t r.0 (not_true (in_condition (is_not bound) t) q.0), all_steady c bound r.0 b)
  all_steady (InElse t other c rest) bound h b =
      let p = and_parts (step_is_scoped bound (If t other (fill c old))) (is_scoped (λ y. binds (If t other (fill c old)) y || bound y) rest) h in
      let q = and_parts (not (in_condition (is_not bound) t)) (is_scoped bound other && is_scoped bound (fill c old)) p.0 in
      let r = and_parts (is_scoped bound other) (is_scoped bound (fill c old)) q.1 in
      (steady c bound t r.1 (not_true (in_condition (is_not bound) t) q.0), all_steady c bound r.1 b)

  asserts_steady : (c : Context) (bound : ℕ → Bool) → is_scoped bound (fill c old) ≡ true → (ts : List Condition) → Each (λ t. in_condition (is_not bound) t ≡ false) ts → Each (IsSteady c) ts
  asserts_steady c bound h [] k = tt
  asserts_steady c bound h (t ∷ ts) k = (steady c bound t h k.0, asserts_steady c bound h ts k.1)

pub scope_law : ScopeLaw
scope_law p c old was scoped asserts bounds =
    let h : is_scoped (is_param p) (fill c old) ≡ true = ap (is_scoped (is_param p)) (sym was) ∙ scoped in
    record { params = λ x k. way_new old c (is_param p) x h k; asserts = asserts_steady old c (is_param p) h p.asserts asserts; facts = all_steady old c (is_param p) h bounds }
