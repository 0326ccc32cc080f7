-- Changes of a buffer, seen on the buffer of which it is a part.
use Rattle.std.proofs.Common.{◌≡◌, ℕ, ℤ, ◌==◌, Bool, true, false, cond, ◌&&◌, List, Option, Some, None, IfSome, IsSome, option_map, refl, sym, ap, ◌∙◌, subst, true≢false, eqb-true, eq-eqb}
use Rattle.std.proofs.Math.Path.{fun_ext}
use Rattle.std.specs.Cmp.Rules.{signed_items}
use Rattle.exo_tree.specs.Tree.{Coord}
use Rattle.exo_meaning.specs.Value.{Value, Undefined}
use Rattle.exo_meaning.specs.Scene.{Side, Seen, Scene, then_do, cell_at, index_of, narrowed, extents}
use Rattle.exo_meaning.specs.State.{State, Cells, Place, changed, same_index}
use Rattle.exo_meaning.specs.Calls.{held_at, value_or}
use Rattle.exo_meaning.proofs.Windows.{one_value, none_is_some, index_at_cell, cell_at_composed}
use Rattle.inplace_laws.specs.InPlace.{buffer_through, sides_through, cell_through, held_through, IsWithin, IsPlacing, IsLeft, CellsStand}
use Rattle.inplace_laws.proofs.Sides.{within_seen, extents_composed, narrowed_composed, narrowed_within, index_unseen, index_through, index_outside}

-- ---- through a part, or through nothing

pub cell_at_through : (o : Option Seen) (ts : List Side) (is : List ℤ) → IsWithin o ts → cell_at (sides_through o ts) is ≡ then_do (cell_at ts is) (cell_through o)
cell_at_through None ts is h = go (cell_at ts is)
  where
    go : (o : Option (List ℤ)) → o ≡ then_do o Some
    go None = refl
    go (Some at) = refl
cell_at_through (Some z) ts is h = cell_at_composed z.sides ts is h

pub seen_through : (o : Option Seen) (ts : List Side) (is at : List ℤ) → IsWithin o ts → cell_at ts is ≡ Some at → (r : List ℤ) × (cell_through o at ≡ Some r)
seen_through None ts is at h e = (at, refl)
seen_through (Some z) ts is at h e = within_seen z.sides ts is at h e

pub extents_through : (o : Option Seen) (ts : List Side) → IsWithin o ts → extents (sides_through o ts) ≡ extents ts
extents_through None ts h = refl
extents_through (Some z) ts h = extents_composed z.sides ts h

pub narrowed_through : (scene : Scene) (o : Option Seen) (ts : List Side) (cs : List Coord) → IsWithin o ts → narrowed scene (sides_through o ts) cs ≡ option_map (sides_through o) (narrowed scene ts cs)
narrowed_through scene None ts cs h = go (narrowed scene ts cs)
  where
    go : (o : Option (List Side)) → o ≡ option_map (λ l. l) o
    go None = refl
    go (Some l) = refl
narrowed_through scene (Some z) ts cs h = narrowed_composed scene z.sides ts cs h

pub within_through : (scene : Scene) (o : Option Seen) (ts : List Side) (cs : List Coord) → IsWithin o ts → IfSome (narrowed scene ts cs) (IsWithin o)
within_through scene None ts cs h = go (narrowed scene ts cs)
  where
    go : (o : Option (List Side)) → IfSome o (λ l. Unit {0})
    go None = tt
    go (Some l) = tt
within_through scene (Some z) ts cs h = narrowed_within scene z.sides ts cs h

pub one_cell : (o : Option Seen) (a b r : List ℤ) → cell_through o a ≡ Some r → cell_through o b ≡ Some r → a ≡ b
one_cell None a b r i j = one_value a r i ∙ sym (one_value b r j)
one_cell (Some z) a b r i j = one_value a b (sym (index_at_cell z.sides a r i) ∙ index_at_cell z.sides b r j)

index_on : (o : Option Seen) (ts : List Side) (at r : List ℤ) → IsWithin o ts → cell_through o at ≡ Some r → index_of (sides_through o ts) r ≡ index_of ts at
index_on None ts at r h e = ap (index_of ts) (sym (one_value at r e))
index_on (Some z) ts at r h e = index_through z.sides ts at r h e

index_not : (o : Option Seen) (ts : List Side) (at : List ℤ) → IsWithin o ts → cell_through o at ≡ None → index_of ts at ≡ None
index_not None ts at h e = absurd (none_is_some (sym e))
index_not (Some z) ts at h e = index_outside z.sides ts at h e

index_none : (o : Option Seen) (ts : List Side) (r : List ℤ) → IsWithin o ts → ((at : List ℤ) → cell_through o at ≡ Some r → ⊥) → index_of (sides_through o ts) r ≡ None
index_none o ts r h k = go (index_of (sides_through o ts) r) refl
  where
    found : (o : Option Seen) (js : List ℤ) → IsWithin o ts → index_of (sides_through o ts) r ≡ Some js → (at : List ℤ) × (cell_through o at ≡ Some r)
    found None js h e = (r, refl)
    found (Some z) js h e = let u = index_unseen z.sides ts r js h e in (u.0, u.2)

    go : (q : Option (List ℤ)) → index_of (sides_through o ts) r ≡ q → q ≡ None
    go None e = refl
    go (Some js) e = let f = found o js h e in absurd (k f.0 f.1)

-- ---- a change of a whole buffer, index by index

abbrev pub at_buffer : ℕ → (List ℤ → Value → Value) → Cells → Cells
at_buffer x g c b at = cond (b == x) (g at (c b at)) (c b at)

-- a change, and what it is on the other buffer
pub record IsSeenAs (o : Option Seen) (g h : List ℤ → Value → Value) : Type 0 where
  pub inside : (at r : List ℤ) → cell_through o at ≡ Some r → (v : Value) → g at v ≡ h r v
  pub outside : (at : List ℤ) → cell_through o at ≡ None → (v : Value) → g at v ≡ v
  pub unseen : (r : List ℤ) → ((at : List ℤ) → cell_through o at ≡ Some r → ⊥) → (v : Value) → h r v ≡ v

pub back_seen : (o : Option Seen) (ts : List Side) (copy : List ℤ → Value) → IsWithin o ts → IsSeenAs o (λ at v. value_or (index_of ts at) copy v) (λ r v. value_or (index_of (sides_through o ts) r) copy v)
back_seen o ts copy h = record {
  inside = λ at r e v. ap (λ q. value_or q copy v) (sym (index_on o ts at r h e));
  outside = λ at e v. ap (λ q. value_or q copy v) (index_not o ts at h e);
  unseen = λ r k v. ap (λ q. value_or q copy v) (index_none o ts r h k);
}

same_false : (a b : List ℤ) → (a ≡ b → ⊥) → same_index a b ≡ false
same_false a b k = go (same_index a b) refl
  where
    go : (t : Bool) → same_index a b ≡ t → t ≡ false
    go false e = refl
    go true e = absurd (k ((signed_items a b).0 e))

pub one_seen : (o : Option Seen) (at q : List ℤ) (f : Value → Value) → cell_through o at ≡ Some q → IsSeenAs o (λ is v. cond (same_index is at) (f v) v) (λ r v. cond (same_index r q) (f v) v)
one_seen o at q f e = record {
  inside = λ is r i v. ap (λ t. cond t (f v) v) (alike is r i (same_index is at) refl);
  outside = λ is i v. ap (λ t. cond t (f v) v) (same_false is at (λ k. none_is_some (sym i ∙ ap (cell_through o) k ∙ e)));
  unseen = λ r k v. ap (λ t. cond t (f v) v) (same_false r q (λ i. k at (e ∙ ap Some (sym i))));
}
  where
    alike : (is r : List ℤ) → cell_through o is ≡ Some r → (t : Bool) → same_index is at ≡ t → t ≡ same_index r q
    alike is r i true k = sym ((signed_items r q).1 (one_value r q (sym i ∙ ap (cell_through o) ((signed_items is at).0 k) ∙ e)))
    alike is r i false k = sym (same_false r q (λ j. true≢false (sym ((signed_items is at).1 (one_cell o is at r i (e ∙ ap Some (sym j)))) ∙ k)))

pub changed_is : (c : Cells) (p : Place) (f : Value → Value) → changed c p f ≡ at_buffer p.buffer (λ at v. cond (same_index at p.at) (f v) v) c
changed_is c p f = fun_ext (λ b. fun_ext (λ at. go (b == p.buffer) (same_index at p.at) (f (c b at)) (c b at)))
  where
    go : (x y : Bool) (u v : Value) → cond (x && y) u v ≡ cond x (cond y u v) v
    go true y u v = refl
    go false y u v = refl

-- ---- cells that stand for others

module _ (hidden written blind strided : ℕ → Bool) (base : ℕ → Option Seen) (first : State) (placing : IsPlacing hidden written strided base) where
  pub differ : (a b : ℕ) → hidden a ≡ true → hidden b ≡ false → a ≡ b → ⊥
  differ a b i j e = true≢false (sym i ∙ ap hidden e ∙ j)

  not_same : (a b : ℕ) → (a ≡ b → ⊥) → (a == b) ≡ false
  not_same a b k = go (a == b) refl
    where
      go : (t : Bool) → (a == b) ≡ t → t ≡ false
      go false e = refl
      go true e = absurd (k (eqb-true a b e))

  pub apart_through : (b c : ℕ) → hidden b ≡ false → hidden c ≡ false → written b ≡ true → (b == c) ≡ false → (is js r : List ℤ) → buffer_through (base b) b ≡ buffer_through (base c) c → cell_through (base b) is ≡ Some r → cell_through (base c) js ≡ Some r → ⊥
  apart_through b c i j w d is js r e k l = go (base b) refl (base c) refl e k l
    where
      go : (o : Option Seen) → base b ≡ o → (q : Option Seen) → base c ≡ q → buffer_through o b ≡ buffer_through q c → cell_through o is ≡ Some r → cell_through q js ≡ Some r → ⊥
      go None u None v e k l = true≢false (sym (eq-eqb b c e) ∙ d)
      go None u (Some y) v e k l = differ y.buffer b (placing.outside c y v) i (sym e)
      go (Some z) u None v e k l = differ z.buffer c (placing.outside b z u) j e
      go (Some z) u (Some y) v e k l = placing.apart b c z y w d u v is js r e k l

  abbrev target : ℕ → ℕ
  target x = buffer_through (base x) x

  -- a change of a buffer that is written
  pub bulk_stands : (x : ℕ) (g h : List ℤ → Value → Value) (c d : Cells) → hidden x ≡ false → written x ≡ true → IsSeenAs (base x) g h → CellsStand hidden written blind strided base first c d → CellsStand hidden written blind strided base first (at_buffer x g c) (at_buffer (buffer_through (base x) x) h d)
  bulk_stands x g h c d i w k stands = record {
    own = λ b j at. by_name b j at (b == x) refl;
    left = λ b at j s l. kept b at j s l (b == buffer_through (base x) x) refl;
  }
    where
      mine : (at : List ℤ) (q : Option (List ℤ)) → cell_through (base x) at ≡ q → g at (held_at (d (target x)) q) ≡ held_at (λ r. cond (target x == target x) (h r (d (target x) r)) (d (target x) r)) q
      mine at None e = k.outside at e Undefined
      mine at (Some r) e = k.inside at r e (d (target x) r) ∙ ap (λ t. cond t (h r (d (target x) r)) (d (target x) r)) (sym (eq-eqb (target x) (target x) refl))

      other : (b : ℕ) (at : List ℤ) → hidden b ≡ false → (b == x) ≡ false → (q : Option (List ℤ)) → cell_through (base b) at ≡ q → (t : Bool) → (buffer_through (base b) b == target x) ≡ t → held_at (d (buffer_through (base b) b)) q ≡ held_at (λ r. cond t (h r (d (buffer_through (base b) b) r)) (d (buffer_through (base b) b) r)) q
      other b at j n None e t m = refl
      other b at j n (Some r) e false m = refl
      other b at j n (Some r) e true m = sym (k.unseen r (λ is u. apart_through x b i j w (swapped (x == b) refl) is at r (sym (eqb-true (buffer_through (base b) b) (target x) m)) u e) (d (buffer_through (base b) b) r))
        where
          swapped : (t : Bool) → (x == b) ≡ t → t ≡ false
          swapped false u = refl
          swapped true u = absurd (true≢false (sym (eq-eqb b x (sym (eqb-true x b u))) ∙ n))

      by_name : (b : ℕ) → hidden b ≡ false → (at : List ℤ) (t : Bool) → (b == x) ≡ t → cond t (g at (c b at)) (c b at) ≡ held_through (base b) (at_buffer (target x) h d) b at
      by_name b j at true e =
          subst (λ y. g at (c y at) ≡ held_through (base y) (at_buffer (target x) h d) y at) (sym (eqb-true b x e))
          (ap (g at) (stands.own x i at) ∙ mine at (cell_through (base x) at) refl)
      by_name b j at false e = stands.own b j at ∙ other b at j e (cell_through (base b) at) refl (buffer_through (base b) b == target x) refl

      kept : (b : ℕ) (at : List ℤ) → hidden b ≡ true → IsSome (first.scene.buffers b) → IsLeft hidden written blind strided base first b at → (t : Bool) → (b == target x) ≡ t → cond t (h at (d b at)) (d b at) ≡ first.cells b at
      kept b at j s l false e = stands.left b at j s l
      kept b at j s l true e = k.unseen at (λ is u. no (base x) refl is u (eqb-true b (target x) e)) (d b at) ∙ stands.left b at j s l
        where
          no : (o : Option Seen) → base x ≡ o → (is : List ℤ) → cell_through o is ≡ Some at → b ≡ buffer_through o x → ⊥
          no None u is v m = differ b x j i m
          no (Some z) u is v m = none_is_some (sym (l x z w u (sym m)) ∙ index_at_cell z.sides is at v)
