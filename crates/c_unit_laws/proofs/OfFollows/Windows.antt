-- Parts of buffers: their cells in the object, and the C text of their offsets.
use Rattle.std.proofs.Common.{◌≡◌, ◌≤◌, ◌+◌, ◌*◌, ◌^◌, ℕ, zero, suc, ℤ, pos, negsuc, ◌+ℤ◌, ◌*ℤ◌, ◌≤ℤ◌, Bool, true, false, List, [], ◌∷◌, length, Option, Some, None, option_map, refl, sym, ap, ap₂, ◌∙◌, subst, arith, true≢false, int_lt, int_le}
use Rattle.std.proofs.lemmas.Int.{ints}
use Rattle.std.proofs.lemmas.Bool.{and_from, and_parts}
use Rattle.std.proofs.Math.IntN.{+ℤ_assoc, *ℤ_comm, *ℤ-zero, suc_ℤ-*ℤ}
use Rattle.exo_meaning.specs.Scene.{where_true, Scene, Shape, Side, Point, Range, is_below, cell_at, whole, extents, strides_of, LieWithin}
use Rattle.exo_meaning.specs.Inputs.{IsBetween}
use Rattle.exo_meaning.specs.Orders.{Each}
use Rattle.c_tree.specs.CTree.{Name, Number64, Sum, Product}
use Rattle.c_unit_laws.specs.Follows.Machine.Machine.{Done, Pointer, IsWindow, Setting, number64}
use Rattle.c_unit_laws.specs.Follows.Machine.Machine.{stride_in, stride_under}
use Rattle.c_lowering.specs.Made.Lowered.{window_strides, scaled, scaled_from}
use Rattle.c_unit_laws.specs.Follows.Simulation.{Layout, IsPlaced, HaveNumbers, dot, in_range}
use Rattle.c_unit_laws.specs.Follows.Simulation.{lower_ends}
use Rattle.c_unit_laws.proofs.OfFollows.Offsets.{index_of, pos_of}
use Rattle.c_unit_laws.proofs.OfFollows.Numbers.{on_both_done}

abbrev pub ArePlaced : Layout → Scene → Setting → Type 0
ArePlaced layout scene setting = (b : ℕ) (shape : Shape) → scene.buffers b ≡ Some shape → IsPlaced layout setting.objects setting.free b shape

-- ---- numbers from 0 on

abbrev pub AreNatural : List ℤ → Type 0
AreNatural [] = Unit {0}
AreNatural (t ∷ ts) = (n : ℕ) × (t ≡ pos n) × AreNatural ts

pub natural_strides : (ts : List ℤ) → Each (IsBetween (pos 0) (pos (2 ^ 48))) ts → AreNatural ts
natural_strides [] h = tt
natural_strides (pos n ∷ ts) h = (n, refl, natural_strides ts h.1)
natural_strides (negsuc n ∷ ts) h = absurd (omega (arith, ints, h.0.0))

pub natural_indices : (at ds : List ℤ) → in_range at ds ≡ true → AreNatural at
natural_indices [] ds h = tt
natural_indices (i ∷ at) [] h = absurd (true≢false (sym h))
natural_indices (i ∷ at) (d ∷ ds) h =
    let parts = and_parts (is_below i d) (in_range at ds) h in
    let x = index_of i d parts.0 in
    (x.at, x.at_is, natural_indices at ds parts.1)

pub natural_dot : (is ts : List ℤ) → AreNatural is → AreNatural ts → (n : ℕ) × (dot is ts ≡ pos n)
natural_dot [] ts h k = (0, refl)
natural_dot (i ∷ is) [] h k = (0, refl)
natural_dot (i ∷ is) (t ∷ ts) h k =
    let rest = natural_dot is ts h.2 k.2 in
    (h.0 * k.0 + rest.0, ap₂ (λ a b. a +ℤ b) (ap₂ (λ a b. a *ℤ b) h.1 k.1) rest.1)

-- ---- the cells of a part

pub some_same : {A : Type 0} {a b : A} → Some a ≡ Some b → a ≡ b
some_same e = cc

pub no_some : {A : Type 0} {a : A} → None ≡ Some a → ⊥
no_some e = cc

pub mapped : {A B : Type 0} (f : A → B) (o : Option A) (b : B) → option_map f o ≡ Some b → (a : A) × (o ≡ Some a) × (b ≡ f a)
mapped f None b h = absurd (no_some h)
mapped f (Some a) b h = (a, refl, sym (some_same h))

pub tested : {A : Type 0} (t : Bool) (o : Option A) (a : A) → where_true t o ≡ Some a → (t ≡ true) × (o ≡ Some a)
tested false o a h = absurd (no_some h)
tested true o a h = (refl, h)

-- the indices of a cell that a part has
pub natural_seen : (sides : List Side) (is at : List ℤ) → cell_at sides is ≡ Some at → AreNatural is
natural_seen [] [] at e = tt
natural_seen [] (i ∷ is) at e = absurd (no_some e)
natural_seen (Point p ∷ sides) is at e = let m = mapped (λ rest. p ∷ rest) (cell_at sides is) at e in natural_seen sides is m.0 m.1
natural_seen (Range lo n ∷ sides) [] at e = absurd (no_some e)
natural_seen (Range lo n ∷ sides) (i ∷ is) at e =
    let h = tested (is_below i n) _ at e in
    let m = mapped (λ rest. (lo +ℤ i) ∷ rest) (cell_at sides is) at h.1 in
    let x = index_of i n h.0 in
    (x.at, x.at_is, natural_seen sides is m.0 m.1)

at_least : (a b : ℤ) → a ≤ℤ b → int_le a b ≡ true
at_least a b h = grind (arith, ints)

less : (a b : ℤ) → (a +ℤ pos 1) ≤ℤ b → int_lt a b ≡ true
less a b h = grind (arith, ints)

within_side : (lo i n d : ℤ) → is_below i n ≡ true → pos 0 ≤ℤ lo → (lo +ℤ n) ≤ℤ d → is_below (lo +ℤ i) d ≡ true
within_side lo i n d h k l =
    let x = index_of i n h in
    let from_0 : pos 0 ≤ℤ i = subst (λ z. pos 0 ≤ℤ z) (sym x.at_is) (omega (arith, ints)) in
    let up_to : (i +ℤ pos 1) ≤ℤ n = subst (λ z. (z +ℤ pos 1) ≤ℤ n) (sym x.at_is) (subst (λ z. (pos x.at +ℤ pos 1) ≤ℤ z) (sym x.of_is) (omega (arith, ints, x.below))) in
    and_from (int_le (pos 0) (lo +ℤ i)) (int_lt (lo +ℤ i) d) (at_least (pos 0) (lo +ℤ i) (omega (arith, ints))) (less (lo +ℤ i) d (omega (arith, ints)))

-- a cell of a part is one of the buffer
pub seen_in_range : (ds : List ℤ) (sides : List Side) (is at : List ℤ) → LieWithin (whole ds) sides → cell_at sides is ≡ Some at → in_range at ds ≡ true
seen_in_range [] [] [] at h e = ap (λ x. in_range x []) (sym (some_same e))
seen_in_range [] [] (i ∷ is) at h e = absurd (no_some e)
seen_in_range [] (side ∷ sides) is at h e = absurd h
seen_in_range (d ∷ ds) [] is at h e = absurd h
seen_in_range (d ∷ ds) (Point q ∷ sides) is at h e =
    let m = mapped (λ rest. q ∷ rest) (cell_at sides is) at e in
    ap (λ x. in_range x (d ∷ ds)) m.2 ∙ and_from (is_below q d) (in_range m.0 ds) h.0 (seen_in_range ds sides is m.0 h.1 m.1)
seen_in_range (d ∷ ds) (Range lo n ∷ sides) [] at h e = absurd (no_some e)
seen_in_range (d ∷ ds) (Range lo n ∷ sides) (i ∷ is) at h e =
    let t = tested (is_below i n) _ at e in
    let m = mapped (λ rest. (lo +ℤ i) ∷ rest) (cell_at sides is) at t.1 in
    ap (λ x. in_range x (d ∷ ds)) m.2 ∙ and_from (is_below (lo +ℤ i) d) (in_range m.0 ds) (within_side lo i n d t.0 h.0 h.1) (seen_in_range ds sides is m.0 h.2 m.1)

-- ---- the offset of a cell, by the indices of the part

times_suc : (x : ℤ) (n : ℕ) → x *ℤ pos (suc n) ≡ (x *ℤ pos n) +ℤ x
times_suc x n = *ℤ_comm x (pos (suc n)) ∙ suc_ℤ-*ℤ (pos n) x ∙ ap (λ z. z +ℤ x) (*ℤ_comm (pos n) x)

regroup : (x y a b : ℤ) → (x +ℤ y) +ℤ (a +ℤ b) ≡ (x +ℤ a) +ℤ (y +ℤ b)
regroup x y a b = omega (arith, ints)

distrib : (a b : ℤ) (n : ℕ) → (a +ℤ b) *ℤ pos n ≡ (a *ℤ pos n) +ℤ (b *ℤ pos n)
distrib a b zero = *ℤ-zero (a +ℤ b) ∙ sym (ap₂ (λ x y. x +ℤ y) (*ℤ-zero a) (*ℤ-zero b))
distrib a b (suc n) = times_suc (a +ℤ b) n ∙ ap (λ z. z +ℤ (a +ℤ b)) (distrib a b n) ∙ regroup (a *ℤ pos n) (b *ℤ pos n) a b ∙ sym (ap₂ (λ x y. x +ℤ y) (times_suc a n) (times_suc b n))

dot_none : (is : List ℤ) → dot is [] ≡ pos 0
dot_none [] = refl
dot_none (i ∷ is) = refl

pub window_offset : (sides : List Side) (strides is at : List ℤ) → AreNatural strides → cell_at sides is ≡ Some at → dot at strides ≡ dot (lower_ends sides) strides +ℤ dot is (strides_of sides strides)
window_offset [] ts [] at h e = ap (λ x. dot x ts) (sym (some_same e))
window_offset [] ts (i ∷ is) at h e = absurd (no_some e)
window_offset (side ∷ sides) [] is at h e = dot_none at ∙ sym (ap₂ (λ x y. x +ℤ y) (dot_none (lower_ends (side ∷ sides))) (dot_none is))
window_offset (Point p ∷ sides) (t ∷ ts) is at h e =
    let m = mapped (λ rest. p ∷ rest) (cell_at sides is) at e in
    ap (λ x. dot x (t ∷ ts)) m.2 ∙ ap (λ z. (p *ℤ t) +ℤ z) (window_offset sides ts is m.0 h.2 m.1) ∙ sym (+ℤ_assoc (p *ℤ t) (dot (lower_ends sides) ts) (dot is (strides_of sides ts)))
window_offset (Range lo n ∷ sides) (t ∷ ts) [] at h e = absurd (no_some e)
window_offset (Range lo n ∷ sides) (t ∷ ts) (i ∷ is) at h e =
    let m = mapped (λ rest. (lo +ℤ i) ∷ rest) (cell_at sides is) at (tested (is_below i n) _ at e).1 in
    ap (λ x. dot x (t ∷ ts)) m.2 ∙ ap₂ (λ y z. y +ℤ z) (ap (λ s. (lo +ℤ i) *ℤ s) h.1 ∙ distrib lo i h.0 ∙ sym (ap (λ s. (lo *ℤ s) +ℤ (i *ℤ s)) h.1)) (window_offset sides ts is m.0 h.2 m.1)
    ∙ regroup (lo *ℤ t) (i *ℤ t) (dot (lower_ends sides) ts) (dot is (strides_of sides ts))

pub natural_part : (sides : List Side) (strides : List ℤ) → AreNatural strides → AreNatural (strides_of sides strides)
natural_part [] ts h = tt
natural_part (side ∷ sides) [] h = tt
natural_part (Point p ∷ sides) (t ∷ ts) h = natural_part sides ts h.2
natural_part (Range lo n ∷ sides) (t ∷ ts) h = (h.0, h.1, natural_part sides ts h.2)

-- where a part begins
pub natural_lower : (ds : List ℤ) (sides : List Side) → LieWithin (whole ds) sides → AreNatural (lower_ends sides)
natural_lower [] [] h = tt
natural_lower [] (side ∷ sides) h = absurd h
natural_lower (d ∷ ds) [] h = absurd h
natural_lower (d ∷ ds) (Point q ∷ sides) h = let x = index_of q d h.0 in (x.at, x.at_is, natural_lower ds sides h.1)
natural_lower (d ∷ ds) (Range (pos m) n ∷ sides) h = (m, refl, natural_lower ds sides h.2)
natural_lower (d ∷ ds) (Range (negsuc m) n ∷ sides) h = absurd (omega (arith, ints, h.0))

-- a stride for each dimension of a part
pub strides_length : (ds ts : List ℤ) (sides : List Side) → LieWithin (whole ds) sides → length ts ≡ length ds → length (strides_of sides ts) ≡ length (extents sides)
strides_length [] ts [] h e = refl
strides_length [] ts (side ∷ sides) h e = absurd h
strides_length (d ∷ ds) ts [] h e = absurd h
strides_length (d ∷ ds) [] (side ∷ sides) h e = absurd (omega (arith, e))
strides_length (d ∷ ds) (t ∷ ts) (Point q ∷ sides) h e = strides_length ds ts sides h.1 (omega (arith, e))
strides_length (d ∷ ds) (t ∷ ts) (Range lo n ∷ sides) h e = ap suc (strides_length ds ts sides h.2 (omega (arith, e)))

-- ---- the C text of the offset in a window

module _ (s : Setting) where
  scaled_from_value : (a : Number64) (n : ℕ) (es ts : List Number64) (is strides : List ℤ) → number64 s a ≡ Done (pos n) → HaveNumbers s es is → HaveNumbers s ts strides → AreNatural is → AreNatural strides → (all : ℕ) → (pos n +ℤ dot is strides) ≡ pos all → all ≤ 2 ^ 48 → number64 s (scaled_from a es ts) ≡ Done (pos all)
  scaled_from_value a n [] ts [] strides h k l u v all e few = h ∙ ap (λ z. Done z) (omega (arith, ints, e))
  scaled_from_value a n [] ts (i ∷ is) strides h k l u v all e few = absurd k
  scaled_from_value a n (c ∷ es) ts [] strides h k l u v all e few = absurd k
  scaled_from_value a n (c ∷ es) [] (i ∷ is) [] h k l u v all e few = h ∙ ap (λ z. Done z) (omega (arith, ints, e))
  scaled_from_value a n (c ∷ es) [] (i ∷ is) (z ∷ strides) h k l u v all e few = absurd l
  scaled_from_value a n (c ∷ es) (t ∷ ts) (i ∷ is) [] h k l u v all e few = absurd l
  scaled_from_value a n (c ∷ es) (t ∷ ts) (i ∷ is) (z ∷ strides) h k l u v all e few =
      let rest = natural_dot is strides u.2 v.2 in
      let whole_is : n + (u.0 * v.0 + rest.0) ≡ all = pos_of _ _ (sym (ap (λ w. pos n +ℤ w) (ap₂ (λ x y. x +ℤ y) (ap₂ (λ x y. x *ℤ y) u.1 v.1) rest.1)) ∙ e) in
      let product : number64 s (Product c t) ≡ Done (pos (u.0 * v.0)) = on_both_done ◌*ℤ◌ _ _ _ _ (k.0 ∙ ap Done u.1) (l.0 ∙ ap Done v.1) (omega arith) in
      let sum : number64 s (Sum a (Product c t)) ≡ Done (pos (n + u.0 * v.0)) = on_both_done ◌+ℤ◌ _ _ _ _ h product (omega arith) in
      let left : n + u.0 * v.0 + rest.0 ≡ all = omega arith in
      scaled_from_value (Sum a (Product c t)) (n + u.0 * v.0) es ts is strides sum k.1 l.1 u.2 v.2 all (ap (λ w. pos (n + u.0 * v.0) +ℤ w) rest.1 ∙ ap pos left) few

  pub scaled_value : (es ts : List Number64) (is strides : List ℤ) → HaveNumbers s es is → HaveNumbers s ts strides → AreNatural is → AreNatural strides → dot is strides ≤ℤ pos (2 ^ 48) → number64 s (scaled es ts) ≡ Done (dot is strides)
  scaled_value [] ts [] strides k l u v few = refl
  scaled_value [] ts (i ∷ is) strides k l u v few = absurd k
  scaled_value (c ∷ es) ts [] strides k l u v few = absurd k
  scaled_value (c ∷ es) [] (i ∷ is) [] k l u v few = refl
  scaled_value (c ∷ es) [] (i ∷ is) (z ∷ strides) k l u v few = absurd l
  scaled_value (c ∷ es) (t ∷ ts) (i ∷ is) [] k l u v few = absurd l
  scaled_value (c ∷ es) (t ∷ ts) (i ∷ is) (z ∷ strides) k l u v few =
      let rest = natural_dot is strides u.2 v.2 in
      let all_is : dot (i ∷ is) (z ∷ strides) ≡ pos (u.0 * v.0 + rest.0) = ap₂ (λ x y. x +ℤ y) (ap₂ (λ x y. x *ℤ y) u.1 v.1) rest.1 in
      let few_here : pos (u.0 * v.0 + rest.0) ≤ℤ pos (2 ^ 48) = subst (λ w. w ≤ℤ pos (2 ^ 48)) all_is few in
      let few_all : u.0 * v.0 + rest.0 ≤ 2 ^ 48 = omega (arith, ints) in
      let product : number64 s (Product c t) ≡ Done (pos (u.0 * v.0)) = on_both_done ◌*ℤ◌ _ _ _ _ (k.0 ∙ ap Done u.1) (l.0 ∙ ap Done v.1) (omega arith) in
      scaled_from_value (Product c t) (u.0 * v.0) es ts is strides product k.1 l.1 u.2 v.2 (u.0 * v.0 + rest.0) (ap (λ w. pos (u.0 * v.0) +ℤ w) rest.1) few_all ∙ ap Done (sym all_is)

  -- the strides of a window are in its struct
  module _ (w : Name) (p : Pointer) (all : List ℤ) (name : s.names w ≡ Some (IsWindow p all)) where
    stride_values : (k : ℕ) (ts : List ℤ) → ((j : ℕ) → stride_in all (k + j) ≡ stride_in ts j) → HaveNumbers s (window_strides w k (length ts)) ts
    stride_values k [] h = tt
    stride_values k (t ∷ ts) h = (
      ap (λ o. stride_under o k) name ∙ subst (λ j. stride_in all j ≡ Done t) (plus_zero k) (h 0),
      stride_values (suc k) ts (λ j. subst (λ i. stride_in all i ≡ stride_in ts j) (plus_suc k j) (h (suc j))),
    )
      where
        plus_zero : (n : ℕ) → n + 0 ≡ n
        plus_zero n = omega arith

        plus_suc : (n j : ℕ) → n + suc j ≡ suc n + j
        plus_suc n j = omega arith

    pub window_strides_are : HaveNumbers s (window_strides w 0 (length all)) all
    window_strides_are = stride_values 0 all (λ j. ap (stride_in all) (zero_plus j))
      where
        zero_plus : (n : ℕ) → 0 + n ≡ n
        zero_plus n = omega arith
