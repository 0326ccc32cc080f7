-- Windows that are passed together, seen through parts; and what a call that is made says of them.
use Rattle.std.proofs.Common.{◌≡◌, ◌⊎◌, ⊎_elim, ℕ, ℤ, pos, ◌==◌, Bool, true, false, cond, not, ◌||◌, List, [], ◌∷◌, Option, Some, None, refl, sym, ap, ◌∙◌, subst, true≢false, eqb-true, eq-eqb}
use Rattle.std.proofs.lemmas.Bool.{and_parts}
use Rattle.exo_tree.specs.Tree.{Param}
use Rattle.exo_meaning.specs.Scene.{Point, Range, Seen, then_do, cell_at, are_apart, AreApart}
use Rattle.exo_meaning.specs.State.{State}
use Rattle.exo_meaning.specs.Calls.{Given, GivenNumber, GivenView, given_apart, apart_from, all_apart}
use Rattle.meaning_laws.proofs.Parts.{then_gives}
use Rattle.inplace_laws.specs.InPlace.{buffer_through, cell_through, through, IsWithin, IsPlacing}
use Rattle.inplace_laws.specs.CallInPlace.{base_of, seen_of}
use Rattle.inplace_laws.specs.Passed.{PassedLaw}
use Rattle.inplace_laws.proofs.Bulk.{cell_at_through, seen_through, one_cell, apart_through}
use Rattle.exo_meaning.proofs.Tested.{test_law}

-- ---- through parts

module _ (hidden written blind strided : ℕ → Bool) (base : ℕ → Option Seen) (first : State) (placing : IsPlacing hidden written strided base) where
  abbrev Through : Seen → Seen
  Through a = through (base a.buffer) a

  module _ (a b : Seen) (shown : hidden a.buffer ≡ false) (also : hidden b.buffer ≡ false) (in_a : IsWithin (base a.buffer) a.sides) (in_b : IsWithin (base b.buffer) b.sides) where
    on_parts : (written a.buffer ≡ true) ⊎ (written b.buffer ≡ true) → AreApart a b → AreApart (Through a) (Through b)
    on_parts w apart is js at e f g =
        let m = then_gives (cell_at a.sides is) (cell_through (base a.buffer)) at (sym (cell_at_through (base a.buffer) a.sides is in_a) ∙ f) in
        let n = then_gives (cell_at b.sides js) (cell_through (base b.buffer)) at (sym (cell_at_through (base b.buffer) b.sides js in_b) ∙ g) in
        go m.0 m.1 m.2 n.0 n.1 n.2 (a.buffer == b.buffer) refl
      where
        turned : (t : Bool) → (b.buffer == a.buffer) ≡ t → (a.buffer == b.buffer) ≡ false → t ≡ false
        turned false u v = refl
        turned true u v = absurd (true≢false (sym (eq-eqb a.buffer b.buffer (sym (eqb-true b.buffer a.buffer u))) ∙ v))

        go : (p : List ℤ) → cell_at a.sides is ≡ Some p → cell_through (base a.buffer) p ≡ Some at → (q : List ℤ) → cell_at b.sides js ≡ Some q → cell_through (base b.buffer) q ≡ Some at → (t : Bool) → (a.buffer == b.buffer) ≡ t → ⊥
        go p i j q k l true u =
            let same = eqb-true a.buffer b.buffer u in
            apart is js p same i (k ∙ ap Some (sym (one_cell (base a.buffer) p q at j (subst (λ x. cell_through (base x) q ≡ Some at) (sym same) l))))
        go p i j q k l false u = ⊎_elim
            (λ v. apart_through hidden written blind strided base first placing a.buffer b.buffer shown also v u p q at e j l)
            (λ v. apart_through hidden written blind strided base first placing b.buffer a.buffer also shown v (turned (b.buffer == a.buffer) refl u) q p at (sym e) l j) w

    on_wholes : AreApart (Through a) (Through b) → AreApart a b
    on_wholes apart is js at e f g =
        let r = seen_through (base a.buffer) a.sides is at in_a f in
        let same : base a.buffer ≡ base b.buffer = ap base e in
        apart is js r.0 (ap (λ x. buffer_through (base x) x) e)
        (cell_at_through (base a.buffer) a.sides is in_a ∙ ap (λ o. then_do o (cell_through (base a.buffer))) f ∙ r.1)
        (cell_at_through (base b.buffer) b.sides js in_b ∙ ap (λ o. then_do o (cell_through (base b.buffer))) g ∙ ap (λ o. cell_through o at) (sym same) ∙ r.1)

    pub apart_same : (written a.buffer ≡ true) ⊎ (written b.buffer ≡ true) → are_apart a b ≡ are_apart (Through a) (Through b)
    apart_same w = go (are_apart a b) refl (are_apart (Through a) (Through b)) refl
      where
        go : (t : Bool) → are_apart a b ≡ t → (u : Bool) → are_apart (Through a) (Through b) ≡ u → t ≡ u
        go true e true f = refl
        go true e false f = sym ((test_law (Through a) (Through b)).1 (on_parts w ((test_law a b).0 e))) ∙ f
        go false e true f = sym e ∙ (test_law a b).1 (on_wholes ((test_law (Through a) (Through b)).0 f))
        go false e false f = refl

-- ---- what a call that is made says

none_some : {A : Type 0} {a : A} → None ≡ Some a → ⊥
none_some e = cc

or_left : (a b : Bool) → a ≡ true → (a || b) ≡ true
or_left true b h = refl
or_left false b h = absurd (true≢false (sym h))

or_right : (a b : Bool) → b ≡ true → (a || b) ≡ true
or_right true b h = refl
or_right false b h = h

module _ (w : ℕ → Bool) where
  told : (g h : Given) (z y : Seen) → given_apart g h ≡ true → seen_of g ≡ Some z → seen_of h ≡ Some y → AreApart z y
  told (GivenNumber n) h z y t i j = absurd (none_some i)
  told (GivenView a) (GivenNumber n) z y t i j = absurd (none_some j)
  told (GivenView a) (GivenView b) z y t i j = subst (λ (v : Seen). AreApart v y) (one i) (subst (AreApart a) (one j) ((test_law a b).0 t))
    where
      one : {A : Type 0} {x y : A} → Some x ≡ Some y → x ≡ y
      one e = cc

  flipped : (z y : Seen) → AreApart z y → AreApart y z
  flipped z y k is js at e f g = k js is at (sym e) g f

  known : (x q : ℕ) (t : Bool) → (not (w x || w q) || t) ≡ true → (w x || w q) ≡ true → t ≡ true
  known x q t h v = go (w x || w q) v h
    where
      go : (u : Bool) → u ≡ true → (not u || t) ≡ true → t ≡ true
      go true v h = h
      go false v h = absurd (true≢false (sym v))

  from_first : (x : ℕ) (g : Given) (z : Seen) → seen_of g ≡ Some z → (ps : List Param) (gs : List Given) (c : ℕ) (y : Seen) → apart_from w x g ps gs ≡ true → (w x || w c) ≡ true → base_of ps gs c ≡ Some y → AreApart z y
  from_first x g z i [] gs c y t v j = absurd (none_some j)
  from_first x g z i (q ∷ qs) [] c y t v j = absurd (none_some j)
  from_first x g z i (q ∷ qs) (h ∷ hs) c y t v j =
      let p = and_parts (not (w x || w q.binder.id) || given_apart g h) (apart_from w x g qs hs) t in
      go p.0 (from_first x g z i qs hs c y p.1 v) (c == q.binder.id) refl j
    where
      go : (not (w x || w q.binder.id) || given_apart g h) ≡ true → (base_of qs hs c ≡ Some y → AreApart z y) → (u : Bool) → (c == q.binder.id) ≡ u → cond u (seen_of h) (base_of qs hs c) ≡ Some y → AreApart z y
      go k rest true e f = told g h z y (known x q.binder.id (given_apart g h) k (ap (λ n. w x || w n) (sym (eqb-true c q.binder.id e)) ∙ v)) i f
      go k rest false e f = rest f

  -- no argument that is written meets another one
  none_meet : (ps : List Param) (gs : List Given) → all_apart w ps gs ≡ true → (b c : ℕ) (z y : Seen) → w b ≡ true → (b == c) ≡ false → base_of ps gs b ≡ Some z → base_of ps gs c ≡ Some y → AreApart z y
  none_meet [] gs t b c z y v n i j = absurd (none_some i)
  none_meet (p ∷ ps) [] t b c z y v n i j = absurd (none_some i)
  none_meet (p ∷ ps) (g ∷ gs) t b c z y v n i j =
      let parts = and_parts (apart_from w p.binder.id g ps gs) (all_apart w ps gs) t in
      go parts.0 (none_meet ps gs parts.1 b c z y v n) (b == p.binder.id) refl (c == p.binder.id) refl i j
    where
      go : apart_from w p.binder.id g ps gs ≡ true → (base_of ps gs b ≡ Some z → base_of ps gs c ≡ Some y → AreApart z y) → (s : Bool) → (b == p.binder.id) ≡ s → (u : Bool) → (c == p.binder.id) ≡ u → cond s (seen_of g) (base_of ps gs b) ≡ Some z → cond u (seen_of g) (base_of ps gs c) ≡ Some y → AreApart z y
      go k rest true e true f i j = absurd (true≢false (sym (eq-eqb b c (eqb-true b p.binder.id e ∙ sym (eqb-true c p.binder.id f))) ∙ n))
      go k rest true e false f i j = from_first p.binder.id g z i ps gs c y k (or_left (w p.binder.id) (w c) (ap w (sym (eqb-true b p.binder.id e)) ∙ v)) j
      go k rest false e true f i j = flipped y z (from_first p.binder.id g y j ps gs b z k (or_right (w p.binder.id) (w b) v) i)
      go k rest false e false f i j = rest i j

pub passed_apart : PassedLaw
passed_apart = none_meet

-- ---- x[0:4] and x[4:8] are apart, x[0:4] and x[3:7] are not, and neither are a row and a column that cross

part : ℤ → ℤ → Given
part lo n = GivenView (record { buffer = 10; sides = Range lo n ∷ [] })

halves : given_apart (part (pos 0) (pos 4)) (part (pos 4) (pos 4)) ≡ true
unfolding part
halves = refl

overlapping : given_apart (part (pos 0) (pos 4)) (part (pos 3) (pos 4)) ≡ false
unfolding part
overlapping = refl

crossing : are_apart (record { buffer = 10; sides = Point (pos 0) ∷ Range (pos 0) (pos 4) ∷ [] }) (record { buffer = 10; sides = Range (pos 0) (pos 4) ∷ Point (pos 1) ∷ [] }) ≡ false
crossing = refl

columns : are_apart (record { buffer = 10; sides = Range (pos 0) (pos 4) ∷ Point (pos 0) ∷ [] }) (record { buffer = 10; sides = Range (pos 0) (pos 4) ∷ Point (pos 1) ∷ [] }) ≡ true
columns = refl
