-- Control expressions that may read fields and strides have the same number on both sides.
use Rattle.std.proofs.Common.{◌≡◌, ◌≤◌, ◌<◌, ◌^◌, ◌+◌, ℕ, zero, suc, ℤ, pos, negsuc, neg_ℤ, ◌+ℤ◌, ◌-ℤ◌, ◌*ℤ◌, ◌≤ℤ◌, true, List, [], ◌∷◌, length, get_or, Option, Some, None, refl, sym, ap, ◌∙◌, subst, arith, int_le, unsigned_abs, ⊎_elim}
use Rattle.std.specs.Int.{int_div_euclid, int_rem_euclid}
use Rattle.std.proofs.lemmas.Int.{ints, unsigned_abs-mul}
use Rattle.std.proofs.lemmas.Bool.{and_parts}
use Rattle.std.proofs.lemmas.Nat.{mul-le}
use Rattle.std.proofs.Math.Nat.{le_trans}
use Rattle.exo_tree.specs.Tree.{Cell, Control, Lit, Var, Field, StrideOf, Neg, Add, Sub, Mul, Div, Mod}
use Rattle.exo_meaning.specs.Scene.{Scene, Side, Point, Range, number, numbers, whole, strides_of, stride_at}
use Rattle.exo_meaning.specs.Inputs.{IsBetween}
use Rattle.exo_meaning.specs.Orders.{Each}
use Rattle.exo_meaning.specs.Calls.{all_positive}
use Rattle.exo_meaning.specs.Run.{product, row_major}
use Rattle.c_tree.specs.CTree.{Name, Number64, Literal, Named, StrideIn, Opposite, Sum, Difference, Product, Quotient, Remainder}
use Rattle.c_unit_laws.specs.Follows.Machine.Machine.{Outcome, Done, after, where_good, checked}
use Rattle.c_unit_laws.specs.Follows.Machine.Machine.{number64, number_under, stride_in}
use Rattle.c_unit_laws.specs.Follows.Machine.Machine.{stride_under, Setting, Pointer, Thing}
use Rattle.c_unit_laws.specs.Follows.Machine.Machine.{IsNumber, IsField, IsFunction, IsArray}
use Rattle.c_unit_laws.specs.Follows.Machine.Machine.{IsVectors, IsWindow}
use Rattle.c_unit_laws.specs.Follows.Machine.CRun.{thing_alone, number_thing}
use Rattle.c_lowering.specs.Made.Lowered.{Naming, Forms, number_with, number_of, dims_of}
use Rattle.c_lowering.specs.Made.Lowered.{product_of, product_from, row_strides, strides_in}
use Rattle.c_lowering.specs.Made.Lowered.{window_strides, or_one}
use Rattle.c_widths.specs.Magnitude.{magnitude}
use Rattle.c_unit_laws.specs.Follows.Magnitude.{IsNarrow, AreNarrow}
use Rattle.c_unit_laws.specs.Follows.Simulation.{Declared, AreSameFields, HaveForms, IsTensor}
use Rattle.c_unit_laws.specs.Follows.Simulation.{IsWindowName, IsPlain, ArePlain, HaveNumbers}
use Rattle.c_unit_laws.specs.Follows.Simulation.{Layout, beginning}
use Rattle.c_unit_laws.specs.Follows.Good.{HasStride, IsOpen}
use Rattle.c_unit_laws.proofs.OfFollows.Extents.{both_positive, positive_product, times_assoc}
use Rattle.c_unit_laws.proofs.OfFollows.Extents.{left_factor, right_factor, abs_within}
use Rattle.c_unit_laws.proofs.OfFollows.Steps.{fault_is_not_done}
use Rattle.c_unit_laws.proofs.OfFollows.Numbers.{same_number, counter, narrow, checked_small}
use Rattle.c_unit_laws.proofs.OfFollows.Numbers.{on_both_done, abs_add, abs_sub, abs_neg, positive}
use Rattle.c_unit_laws.proofs.OfFollows.Numbers.{div_bounded, rem_bounded}
use Rattle.c_unit_laws.proofs.OfFollows.Places.{tensor_here, window_here}
use Rattle.c_unit_laws.proofs.OfFollows.Windows.{ArePlaced, strides_length}

-- a buffer that is seen whole has all its strides
pub whole_strides : (ds : List ℤ) → strides_of (whole ds) (row_major ds) ≡ row_major ds
whole_strides [] = refl
whole_strides (d ∷ ds) = ap (λ ts. product ds ∷ ts) (whole_strides ds)

more_room : (m n : ℕ) → m ≤ 2 ^ 48 → m ≤ 2 ^ 62
more_room m n h = omega arith

at_most_48 : (a b : ℤ) → a ≤ℤ b → b ≤ℤ pos (2 ^ 48) → a ≤ℤ pos (2 ^ 48)
at_most_48 a b h k = omega (arith, ints)

-- a number that is done is what it gives as an argument
number_given : (s : Setting) (e : Number64) (n : ℤ) → number64 s e ≡ Done n → number_thing s e ≡ Done (IsNumber n)
number_given s e n h = go e h
  where
    as_thing : {o : Outcome ℤ} → o ≡ Done n → after o (λ k. Done (IsNumber k)) ≡ Done (IsNumber n)
    as_thing i = ap (λ o. after o (λ k. Done (IsNumber k))) i

    alone : (x : Name) (t : Option Thing) → number_under s.fields x t ≡ Done n → thing_alone s x t ≡ Done (IsNumber n)
    alone x None i = absurd (fault_is_not_done i)
    alone x (Some (IsNumber k)) i = as_thing i
    alone x (Some IsField) i = as_thing i
    alone x (Some IsFunction) i = absurd (fault_is_not_done i)
    alone x (Some (IsArray p)) i = absurd (fault_is_not_done i)
    alone x (Some (IsVectors p lanes)) i = absurd (fault_is_not_done i)
    alone x (Some (IsWindow p strides)) i = absurd (fault_is_not_done i)

    go : (e : Number64) → number64 s e ≡ Done n → number_thing s e ≡ Done (IsNumber n)
    go (Literal k) i = as_thing i
    go (Named x) i = alone x (s.names x) i
    go (StrideIn w k) i = as_thing i
    go (Opposite a) i = as_thing i
    go (Sum a b) i = as_thing i
    go (Difference a b) i = as_thing i
    go (Product a b) i = as_thing i
    go (Quotient a c) i = as_thing i
    go (Remainder a c) i = as_thing i

module _ (naming : Naming) (forms : Forms) (most : ℕ → ℕ) (layout : Layout) (scene : Scene) (setting : Setting) (match : HaveForms naming forms most layout scene setting.names) (placed : ArePlaced layout scene setting) where
  -- ---- products of dimensions

  abbrev text : Control → Number64
  text = number_with naming (λ x k. Literal (pos 1))

  value : (e : Control) → IsPlain forms e → IsNarrow most e → number64 setting (text e) ≡ Done (number scene e)
  value e h k = same_number naming forms most layout scene setting match (λ x k. Literal (pos 1)) e h k

  chain_value : (a : Number64) (v : ℤ) (ds : List Control) → ArePlain forms ds → AreNarrow most ds → int_le (pos 1) v ≡ true → all_positive (numbers scene ds) ≡ true → (v *ℤ product (numbers scene ds)) ≤ℤ pos (2 ^ 48) → number64 setting a ≡ Done v → number64 setting (product_from a (dims_of naming ds)) ≡ Done (v *ℤ product (numbers scene ds))
  chain_value a v [] h k p q room r = r ∙ ap Done (times_one v)
    where
      times_one : (z : ℤ) → z ≡ z *ℤ pos 1
      times_one z = omega (arith, ints)
  chain_value a v (d ∷ ds) h k p q room r =
      let n = number scene d in
      let rest = product (numbers scene ds) in
      let parts = and_parts (int_le (pos 1) n) (all_positive (numbers scene ds)) q in
      let more = positive_product (numbers scene ds) parts.1 in
      let both = both_positive v n p parts.0 in
      let same = times_assoc v n rest p parts.0 more in
      let few : ((v *ℤ n) *ℤ rest) ≤ℤ pos (2 ^ 48) = subst (λ z. z ≤ℤ pos (2 ^ 48)) (sym same) room in
      let small = abs_within (v *ℤ n) (2 ^ 48) both (at_most_48 _ _ (left_factor (v *ℤ n) rest both more) few) in
      chain_value (Product a (text d)) (v *ℤ n) ds h.1 k.1 both parts.1 few (on_both_done ◌*ℤ◌ _ _ _ _ r (value d h.0 k.0) (more_room _ 0 small))
      ∙ ap Done same

  product_value : (ds : List Control) → ArePlain forms ds → AreNarrow most ds → all_positive (numbers scene ds) ≡ true → product (numbers scene ds) ≤ℤ pos (2 ^ 48) → number64 setting (product_of (dims_of naming ds)) ≡ Done (product (numbers scene ds))
  product_value [] h k q room = refl
  product_value (d ∷ ds) h k q room =
      let parts = and_parts (int_le (pos 1) (number scene d)) (all_positive (numbers scene ds)) q in
      chain_value (text d) (number scene d) ds h.1 k.1 parts.0 parts.1 room (value d h.0 k.0)

  -- ---- strides

  -- what holds of all dimensions holds of the later ones
  later : (d : Control) (ds : List Control) → all_positive (numbers scene (d ∷ ds)) ≡ true → product (numbers scene (d ∷ ds)) ≤ℤ pos (2 ^ 48) → (all_positive (numbers scene ds) ≡ true) × (int_le (pos 1) (product (numbers scene ds)) ≡ true) × (product (numbers scene ds) ≤ℤ pos (2 ^ 48))
  later d ds q room =
      let parts = and_parts (int_le (pos 1) (number scene d)) (all_positive (numbers scene ds)) q in
      let more = positive_product (numbers scene ds) parts.1 in
      (parts.1, more, at_most_48 _ _ (right_factor (number scene d) (product (numbers scene ds)) parts.0 more) room)

  row_value : (ds : List Control) (k : ℕ) → k < length ds → ArePlain forms ds → AreNarrow most ds → all_positive (numbers scene ds) ≡ true → product (numbers scene ds) ≤ℤ pos (2 ^ 48) → (number64 setting (or_one (row_strides (dims_of naming ds)) k) ≡ Done (get_or (row_major (numbers scene ds)) k (pos 0))) × (unsigned_abs (get_or (row_major (numbers scene ds)) k (pos 0)) ≤ 2 ^ 48)
  row_value [] k below h i q room = absurd (omega arith)
  row_value (d ∷ ds) zero below h i q room = let r = later d ds q room in (product_value ds h.1 i.1 r.0 r.2, abs_within _ _ r.1 r.2)
  row_value (d ∷ ds) (suc k) below h i q room = let r = later d ds q room in row_value ds k (omega arith) h.1 i.1 r.0 r.2

  -- all of them
  pub rows_have : (ds : List Control) → ArePlain forms ds → AreNarrow most ds → all_positive (numbers scene ds) ≡ true → product (numbers scene ds) ≤ℤ pos (2 ^ 48) → HaveNumbers setting (row_strides (dims_of naming ds)) (row_major (numbers scene ds))
  rows_have [] h i q room = tt
  rows_have (d ∷ ds) h i q room = let r = later d ds q room in (product_value ds h.1 i.1 r.0 r.2, rows_have ds h.1 i.1 r.0 r.2)

  abbrev StrideIs : ℕ → ℕ → Number64 → Type 0
  StrideIs x k e = (number64 setting e ≡ Done (number scene (StrideOf x k))) × (unsigned_abs (number scene (StrideOf x k)) ≤ 2 ^ 48)

  tensor_stride : (x k : ℕ) (cell : Cell) (dims : List Control) (lanes : ℕ) → k < length dims → IsTensor naming forms most layout scene.control scene.buffers scene.views setting.names x cell dims lanes → StrideIs x k (or_one (row_strides (dims_of naming dims)) k)
  tensor_stride x k cell dims lanes below t =
      let seen : stride_at scene (scene.views x) k ≡ get_or (row_major (numbers scene dims)) k (pos 0) =
      ap (λ o. stride_at scene o k) t.view
      ∙ ap (λ o. get_or (elim o [ None ↦ [] | Some shape ↦ strides_of (whole t.extents) shape.strides ]) k (pos 0)) t.shape
      ∙ ap (λ ts. get_or ts k (pos 0)) (whole_strides t.extents)
      ∙ ap (λ ns. get_or (row_major ns) k (pos 0)) (sym (t.numbers_are scene refl)) in
      let row = row_value dims k below t.plain t.narrow (ap all_positive (t.numbers_are scene refl) ∙ t.positive) (subst (λ ns. product ns ≤ℤ pos (2 ^ 48)) (sym (t.numbers_are scene refl)) t.few) in
      (row.0 ∙ ap Done (sym seen), subst (λ z. unsigned_abs z ≤ 2 ^ 48) (sym seen) row.1)

  -- a window has its strides in its struct
  window_stride : (x k : ℕ) (cell : Cell) (rank : ℕ) → k < rank → IsWindowName naming forms most layout scene.control scene.buffers scene.views setting.names x cell rank → StrideIs x k (or_one (window_strides (naming.binder x) 0 rank) k)
  window_stride x k cell rank below w =
      let here = placed w.seen.buffer w.shape w.buffer in
      let strides = strides_of w.seen.sides w.shape.strides in
      let rank_is = strides_length w.shape.dims w.shape.strides w.seen.sides w.within here.ranks ∙ w.rank_is in
      let seen : stride_at scene (scene.views x) k ≡ get_or strides k (pos 0) =
      ap (λ o. stride_at scene o k) w.view
      ∙ ap (λ o. get_or (elim o [ None ↦ [] | Some shape ↦ strides_of w.seen.sides shape.strides ]) k (pos 0)) w.buffer in
      let small = part_strides w.seen.sides w.shape.strides here.strides in (
        stride_number rank 0 k below ∙ stride_found strides k (subst (λ n. k < n) (sym rank_is) below) (beginning layout w.shape w.seen) w.name ∙ ap Done (sym seen),
        subst (λ z. unsigned_abs z ≤ 2 ^ 48) (sym seen) (each_small strides small k),
      )
    where
      number_is : (j i : ℕ) → j ≡ i → number64 setting (StrideIn (naming.binder x) j) ≡ number64 setting (StrideIn (naming.binder x) i)
      number_is j i e = ap (λ n. number64 setting (StrideIn (naming.binder x) n)) e

      from_first : (j i : ℕ) → suc j + i ≡ j + suc i
      from_first j i = omega arith

      plus_zero : (n : ℕ) → n ≡ n + 0
      plus_zero n = omega arith

      stride_number : (n j i : ℕ) → i < n → number64 setting (or_one (window_strides (naming.binder x) j n) i) ≡ number64 setting (StrideIn (naming.binder x) (j + i))
      stride_number zero j i h = absurd (omega arith)
      stride_number (suc n) j zero h = number_is j (j + 0) (plus_zero j)
      stride_number (suc n) j (suc i) h = stride_number n (suc j) i (omega arith) ∙ number_is (suc j + i) (j + suc i) (from_first j i)

      found : (ts : List ℤ) (i : ℕ) → i < length ts → stride_in ts i ≡ Done (get_or ts i (pos 0))
      found [] i h = absurd (omega arith)
      found (t ∷ ts) zero h = refl
      found (t ∷ ts) (suc i) h = found ts i (omega arith)

      stride_found : (ts : List ℤ) (i : ℕ) → i < length ts → (p : Pointer) → setting.names (naming.binder x) ≡ Some (IsWindow p ts) → number64 setting (StrideIn (naming.binder x) (0 + i)) ≡ Done (get_or ts i (pos 0))
      stride_found ts i h p e = number_is (0 + i) i (omega arith) ∙ ap (λ o. stride_under o i) e ∙ found ts i h

      part_strides : (sides : List Side) (ts : List ℤ) → Each (IsBetween (pos 0) (pos (2 ^ 48))) ts → Each (IsBetween (pos 0) (pos (2 ^ 48))) (strides_of sides ts)
      part_strides [] ts h = tt
      part_strides (side ∷ sides) [] h = tt
      part_strides (Point q ∷ sides) (t ∷ ts) h = part_strides sides ts h.1
      part_strides (Range lo n ∷ sides) (t ∷ ts) h = (h.0, part_strides sides ts h.1)

      one_small : (z : ℤ) → IsBetween (pos 0) (pos (2 ^ 48)) z → unsigned_abs z ≤ 2 ^ 48
      one_small (pos n) h = omega (arith, ints, h.1)
      one_small (negsuc n) h = absurd (omega (arith, ints, h.0))

      each_small : (ts : List ℤ) → Each (IsBetween (pos 0) (pos (2 ^ 48))) ts → (i : ℕ) → unsigned_abs (get_or ts i (pos 0)) ≤ 2 ^ 48
      each_small [] h i = omega arith
      each_small (t ∷ ts) h zero = one_small t h.0
      each_small (t ∷ ts) h (suc i) = each_small ts h.1 i

  stride : (x k : ℕ) → HasStride forms x k → StrideIs x k (or_one (strides_in naming x (forms x)) k)
  stride x k h =
      ⊎_elim
      (λ w. subst (λ f. StrideIs x k (or_one (strides_in naming x f) k)) (sym w.0) (window_stride x k h.0 h.1 h.4 (window_here naming forms most layout scene setting match x h.0 h.1 w.0)))
      (λ t. subst (λ f. StrideIs x k (or_one (strides_in naming x f) k)) (sym t.1) (tensor_stride x k h.0 t.0 h.2 (subst (λ n. k < n) (sym t.2) h.4) (tensor_here naming forms most layout scene setting match x h.0 t.0 h.2 t.1)))
      h.3

  -- ---- expressions

  module _ (declared : Declared) (fields : AreSameFields naming declared scene.fields setting.names setting.fields) where
    pub open_bounded : (e : Control) → IsOpen declared forms e → unsigned_abs (number scene e) ≤ magnitude most e
    open_bounded (Lit n) h = omega arith
    open_bounded (Var x) h = (counter naming forms most layout scene setting match x h).small
    open_bounded (Field f) h = (fields f h).small
    open_bounded (StrideOf x k) h = (stride x k h).1
    open_bounded (Neg a) h = subst (λ n. n ≤ magnitude most a) (sym (abs_neg (number scene a))) (open_bounded a h)
    open_bounded (Add a b) h = let p = abs_add (number scene a) (number scene b) in let q = open_bounded a h.0 in let r = open_bounded b h.1 in omega arith
    open_bounded (Sub a b) h = let p = abs_sub (number scene a) (number scene b) in let q = open_bounded a h.0 in let r = open_bounded b h.1 in omega arith
    open_bounded (Mul a b) h =
        let e = unsigned_abs-mul (number scene a) (number scene b) in
        let p = mul-le _ _ _ _ (open_bounded a h.0) (open_bounded b h.1) in omega arith
    open_bounded (Div a c) h = div_bounded (number scene a) c (magnitude most a) h.1 (open_bounded a h.0)
    open_bounded (Mod a c) h = rem_bounded (number scene a) c h.1

    pub open_number : (e : Control) → IsOpen declared forms e → IsNarrow most e → number64 setting (number_of naming forms e) ≡ Done (number scene e)
    open_number (Lit n) h k = checked_small n k
    open_number (Var x) h k = ap (number_under setting.fields (naming.binder x)) (counter naming forms most layout scene setting match x h).name
    open_number (Field f) h k = ap (number_under setting.fields (naming.field f)) (fields f h).name ∙ ap Done (fields f h).same
    open_number (StrideOf x j) h k = (stride x j h).0
    open_number (Neg a) h k = ap (λ o. after o (λ n. checked (neg_ℤ n))) (open_number a h k) ∙ checked_small _ (le_trans (open_bounded (Neg a) h) (narrow most a k))
    open_number (Add a b) h k = on_both_done ◌+ℤ◌ _ _ _ _ (open_number a h.0 k.0) (open_number b h.1 k.1) (le_trans (open_bounded (Add a b) h) k.2)
    open_number (Sub a b) h k = on_both_done ◌-ℤ◌ _ _ _ _ (open_number a h.0 k.0) (open_number b h.1 k.1) (le_trans (open_bounded (Sub a b) h) k.2)
    open_number (Mul a b) h k = on_both_done ◌*ℤ◌ _ _ _ _ (open_number a h.0 k.0) (open_number b h.1 k.1) (le_trans (open_bounded (Mul a b) h) k.2)
    open_number (Div a c) h k =
        let p = positive c h.1 in
        ap (λ t. where_good t (after (number64 setting (number_of naming forms a)) (λ n. checked (int_div_euclid n c)))) p.3
        ∙ ap (λ o. after o (λ n. checked (int_div_euclid n c))) (open_number a h.0 k.0) ∙ checked_small _ (le_trans (open_bounded (Div a c) h) k.1)
    open_number (Mod a c) h k =
        let p = positive c h.1 in
        ap (λ t. where_good t (after (number64 setting (number_of naming forms a)) (λ n. checked (int_rem_euclid n c)))) p.3
        ∙ ap (λ o. after o (λ n. checked (int_rem_euclid n c))) (open_number a h.0 k.0) ∙ checked_small _ (le_trans (open_bounded (Mod a c) h) k.1)

    -- as an argument
    pub open_given : (e : Control) → IsOpen declared forms e → IsNarrow most e → number_thing setting (number_of naming forms e) ≡ Done (IsNumber (number scene e))
    open_given e h k = number_given setting (number_of naming forms e) (number scene e) (open_number e h k)
