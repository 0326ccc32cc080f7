-- 64-bit arithmetic that does not overflow.
use Rattle.std.proofs.Common.{◌≡◌, ◌≤◌, ◌<◌, ◌+◌, ◌-◌, ◌*◌, ◌/◌, ◌^◌, ℕ, suc, ℤ, pos, negsuc, neg_ℤ, ◌+ℤ◌, ◌-ℤ◌, ◌*ℤ◌, ◌≤ℤ◌, true, List, [], ◌∷◌, refl, sym, ap, ap₂, ◌∙◌, subst, arith, true≢false, unsigned_abs, mod-lt, int_le}
use Rattle.std.specs.Int.{int_div_euclid, int_rem_euclid}
use Rattle.std.proofs.lemmas.Int.{ints, unsigned_abs-mul}
use Rattle.std.proofs.lemmas.Bool.{and_parts}
use Rattle.std.proofs.lemmas.Nat.{le-div, mul-le}
use Rattle.std.proofs.Math.Nat.{div-mul-le_self, le_trans, le_refl}
use Rattle.exo_tree.specs.Tree.{Control, Lit, Var, Field, StrideOf, Neg, Add, Sub, Mul, Div, Mod}
use Rattle.exo_meaning.specs.Scene.{is_below, Scene, number, numbers}
use Rattle.exo_meaning.specs.Run.{product, row_major}
use Rattle.c_tree.specs.CTree.{Number64, Sum, Product}
use Rattle.c_unit_laws.specs.Follows.Machine.Machine.{Outcome, Done, after, where_good, fits64}
use Rattle.c_unit_laws.specs.Follows.Machine.Machine.{checked, on_both, number64, number_under}
use Rattle.c_unit_laws.specs.Follows.Machine.Machine.{Setting}
use Rattle.c_lowering.specs.Made.Lowered.{Naming, Forms, NumberForm, number_with, numbers_with}
use Rattle.c_lowering.specs.Made.Lowered.{horner, offset}
use Rattle.c_widths.specs.Magnitude.{magnitude, rounded_up}
use Rattle.c_unit_laws.specs.Follows.Magnitude.{IsNarrow, AreNarrow}
use Rattle.c_unit_laws.specs.Follows.Simulation.{dot, in_range, HaveNumbers, IsPlain, ArePlain}
use Rattle.c_unit_laws.specs.Follows.Simulation.{IsCounter, HasForm, HaveForms, Layout}
use Rattle.c_unit_laws.proofs.OfFollows.Offsets.{index_of, flat, pos_of}

pub fits_small : (z : ℤ) → unsigned_abs z ≤ 2 ^ 62 → fits64 z ≡ true
fits_small (pos n) h = grind (arith, ints)
fits_small (negsuc n) h = grind (arith, ints)

pub checked_small : (z : ℤ) → unsigned_abs z ≤ 2 ^ 62 → checked z ≡ Done z
checked_small z h = ap (λ t. where_good t (Done z)) (fits_small z h)

pub abs_add : (a b : ℤ) → unsigned_abs (a +ℤ b) ≤ unsigned_abs a + unsigned_abs b
abs_add a b = grind (arith, ints)

pub abs_sub : (a b : ℤ) → unsigned_abs (a -ℤ b) ≤ unsigned_abs a + unsigned_abs b
abs_sub a b = grind (arith, ints)

pub abs_neg : (a : ℤ) → unsigned_abs (neg_ℤ a) ≡ unsigned_abs a
abs_neg a = grind (arith, ints)

abs_div : (a : ℤ) (c : ℕ) → 0 < c → unsigned_abs (int_div_euclid a (pos c)) ≤ rounded_up (unsigned_abs a) c
abs_div (pos a) c h = let k = div-mul-le_self a c in le-div (a / c) (a + (c - 1)) c h (omega arith)
abs_div (negsuc a) c h = let k = div-mul-le_self a c in let e : suc (a / c) * c ≡ a / c * c + c = omega arith in le-div (suc (a / c)) (suc a + (c - 1)) c h (omega arith)

abs_rem : (a : ℤ) (c : ℕ) → 0 < c → unsigned_abs (int_rem_euclid a (pos c)) ≤ c - 1
abs_rem (pos a) c h = let k = mod-lt a h in omega arith
abs_rem (negsuc a) c h = omega arith

-- a divisor
pub positive : (c : ℤ) → pos 1 ≤ℤ c → (n : ℕ) × (c ≡ pos n) × (0 < n) × (int_le (pos 1) c ≡ true)
positive (pos n) h = (n, refl, omega (arith, ints), grind (arith, ints))
positive (negsuc n) h = absurd (omega (arith, ints))

rounded_more : (m n c : ℕ) → 0 < c → m ≤ n → rounded_up m c ≤ rounded_up n c
rounded_more m n c h k = let e = div-mul-le_self (m + (c - 1)) c in le-div (rounded_up m c) (n + (c - 1)) c h (omega arith)

pub div_bounded : (a c : ℤ) (n : ℕ) → pos 1 ≤ℤ c → unsigned_abs a ≤ n → unsigned_abs (int_div_euclid a c) ≤ rounded_up n (unsigned_abs c)
div_bounded a (pos c) n h k = let p = (positive (pos c) h) in let q : 0 < c = omega (arith, ints) in le_trans (abs_div a c q) (rounded_more (unsigned_abs a) n c q k)
div_bounded a (negsuc c) n h k = absurd (omega (arith, ints))

pub rem_bounded : (a c : ℤ) → pos 1 ≤ℤ c → unsigned_abs (int_rem_euclid a c) ≤ unsigned_abs c - 1
rem_bounded a (pos c) h = abs_rem a c (omega (arith, ints))
rem_bounded a (negsuc c) h = absurd (omega (arith, ints))

pub on_both_done : (f : ℤ → ℤ → ℤ) (o p : Outcome ℤ) (m n : ℤ) → o ≡ Done m → p ≡ Done n → unsigned_abs (f m n) ≤ 2 ^ 62 → on_both f o p ≡ Done (f m n)
on_both_done f o p m n h k l = ap₂ (λ x y. on_both f x y) h k ∙ checked_small (f m n) l

pub narrow : (most : ℕ → ℕ) (e : Control) → IsNarrow most e → magnitude most e ≤ 2 ^ 62
narrow most (Lit n) h = h
narrow most (Var x) h = h
narrow most (Field f) h = h
narrow most (StrideOf x k) h = h
narrow most (Neg a) h = narrow most a h
narrow most (Add a b) h = h.2
narrow most (Sub a b) h = h.2
narrow most (Mul a b) h = h.2
narrow most (Div a c) h = h.1
narrow most (Mod a c) h = h.1

module _ (naming : Naming) (forms : Forms) (most : ℕ → ℕ) (layout : Layout) (scene : Scene) (setting : Setting) (match : HaveForms naming forms most layout scene setting.names) where
  pub counter : (x : ℕ) → forms x ≡ NumberForm → IsCounter naming forms most layout scene.control scene.buffers scene.views setting.names x
  counter x h = subst (HasForm naming forms most layout scene.control scene.buffers scene.views setting.names x) h (match x)

  -- no control value passes its magnitude
  pub bounded : (e : Control) → IsPlain forms e → unsigned_abs (number scene e) ≤ magnitude most e
  bounded (Lit n) h = omega arith
  bounded (Var x) h = (counter x h).small
  bounded (Field f) h = absurd h
  bounded (StrideOf x k) h = absurd h
  bounded (Neg a) h = subst (λ n. n ≤ magnitude most a) (sym (abs_neg (number scene a))) (bounded a h)
  bounded (Add a b) h = let p = abs_add (number scene a) (number scene b) in let q = bounded a h.0 in let r = bounded b h.1 in omega arith
  bounded (Sub a b) h = let p = abs_sub (number scene a) (number scene b) in let q = bounded a h.0 in let r = bounded b h.1 in omega arith
  bounded (Mul a b) h =
      let e = unsigned_abs-mul (number scene a) (number scene b) in
      let p = mul-le _ _ _ _ (bounded a h.0) (bounded b h.1) in omega arith
  bounded (Div a c) h = div_bounded (number scene a) c (magnitude most a) h.1 (bounded a h.0)
  bounded (Mod a c) h = rem_bounded (number scene a) c h.1

  -- and so the C has it
  pub same_number : (strides : ℕ → ℕ → Number64) (e : Control) → IsPlain forms e → IsNarrow most e → number64 setting (number_with naming strides e) ≡ Done (number scene e)
  same_number strides (Lit n) h k = checked_small n k
  same_number strides (Var x) h k = ap (number_under setting.fields (naming.binder x)) (counter x h).name
  same_number strides (Field f) h k = absurd h
  same_number strides (StrideOf x j) h k = absurd h
  same_number strides (Neg a) h k = ap (λ o. after o (λ n. checked (neg_ℤ n))) (same_number strides a h k) ∙ checked_small _ (le_trans (bounded (Neg a) h) (narrow most a k))
  same_number strides (Add a b) h k = on_both_done ◌+ℤ◌ _ _ _ _ (same_number strides a h.0 k.0) (same_number strides b h.1 k.1) (le_trans (bounded (Add a b) h) k.2)
  same_number strides (Sub a b) h k = on_both_done ◌-ℤ◌ _ _ _ _ (same_number strides a h.0 k.0) (same_number strides b h.1 k.1) (le_trans (bounded (Sub a b) h) k.2)
  same_number strides (Mul a b) h k = on_both_done ◌*ℤ◌ _ _ _ _ (same_number strides a h.0 k.0) (same_number strides b h.1 k.1) (le_trans (bounded (Mul a b) h) k.2)
  same_number strides (Div a c) h k =
      let p = positive c h.1 in
      ap (λ t. where_good t (after (number64 setting (number_with naming strides a)) (λ n. checked (int_div_euclid n c)))) p.3
      ∙ ap (λ o. after o (λ n. checked (int_div_euclid n c))) (same_number strides a h.0 k.0) ∙ checked_small _ (le_trans (bounded (Div a c) h) k.1)
  same_number strides (Mod a c) h k =
      let p = positive c h.1 in
      ap (λ t. where_good t (after (number64 setting (number_with naming strides a)) (λ n. checked (int_rem_euclid n c)))) p.3
      ∙ ap (λ o. after o (λ n. checked (int_rem_euclid n c))) (same_number strides a h.0 k.0) ∙ checked_small _ (le_trans (bounded (Mod a c) h) k.1)

  pub same_numbers : (strides : ℕ → ℕ → Number64) (es : List Control) → ArePlain forms es → AreNarrow most es → HaveNumbers setting (numbers_with naming strides es) (numbers scene es)
  same_numbers strides [] h k = tt
  same_numbers strides (e ∷ es) h k = (same_number strides e h.0 k.0, same_numbers strides es h.1 k.1)

-- ---- offsets

grown : (n d i size all : ℕ) → i < d → all ≡ d * size → (n + 1) * all ≤ 2 ^ 48 → (n * d + i + 1) * size ≤ 2 ^ 48
grown n d i size all h e k =
    let p : n * d + i + 1 ≤ (n + 1) * d = omega arith in
    let q : (n * d + i + 1) * size ≤ (n + 1) * d * size = mul-le _ _ _ _ p (le_refl size) in
    let r : (n + 1) * d * size ≡ (n + 1) * all = rw e (omega arith) in
    omega arith

below_48 : (n size : ℕ) → 0 < size → (n + 1) * size ≤ 2 ^ 48 → n < 2 ^ 48
below_48 n size h k = let p : (n + 1) * 1 ≤ (n + 1) * size = mul-le _ _ _ _ (le_refl (n + 1)) h in omega arith

regroup : (n d i size rest all : ℕ) → all ≡ d * size → (n * d + i) * size + rest ≡ n * all + (i * size + rest)
regroup n d i size rest all e = rw e (omega arith)

module _ (s : Setting) where
  horner_value : (a : Number64) (n : ℕ) (es dims : List Number64) (is ds : List ℤ) → number64 s a ≡ Done (pos n) → HaveNumbers s es is → HaveNumbers s dims ds → in_range is ds ≡ true → (size : ℕ) → product ds ≡ pos size → (n + 1) * size ≤ 2 ^ 48 → number64 s (horner a es dims) ≡ Done (pos (n * size) +ℤ dot is (row_major ds))
  horner_value a n [] [] [] [] h k l r size e g = let one : 1 ≡ size = pos_of _ _ e in let kept : n ≡ n * size + 0 = omega (arith, ap (λ z. n * z) one) in h ∙ ap (λ x. Done (pos x)) kept
  horner_value a n [] dims [] (d ∷ ds) h k l r size e g = absurd (true≢false (sym r))
  horner_value a n [] dims (i ∷ is) ds h k l r size e g = absurd k
  horner_value a n [] (d ∷ dims) [] [] h k l r size e g = absurd l
  horner_value a n (c ∷ es) dims [] ds h k l r size e g = absurd k
  horner_value a n (c ∷ es) dims (i ∷ is) [] h k l r size e g = absurd (true≢false (sym r))
  horner_value a n (c ∷ es) [] (i ∷ is) (d ∷ ds) h k l r size e g = absurd l
  horner_value a n (c ∷ es) (b ∷ dims) (i ∷ is) (d ∷ ds) h k l r size e g =
      let parts = and_parts (is_below i d) (in_range is ds) r in
      let x = index_of i d parts.0 in
      let f = flat is ds parts.1 in
      let all : size ≡ x.of * f.size = pos_of _ _ (sym e ∙ ap₂ (λ p q. p *ℤ q) x.of_is f.size_is) in
      let room = grown n x.of x.at f.size size x.below all g in
      let small = below_48 (n * x.of + x.at) f.size (omega (arith, f.below)) room in
      let product : number64 s (Product a b) ≡ Done (pos (n * x.of)) = on_both_done ◌*ℤ◌ _ _ _ _ h (l.0 ∙ ap Done x.of_is) (omega arith) in
      let sum : number64 s (Sum (Product a b) c) ≡ Done (pos (n * x.of + x.at)) = on_both_done ◌+ℤ◌ _ _ _ _ product (k.0 ∙ ap Done x.at_is) (omega arith) in
      horner_value (Sum (Product a b) c) (n * x.of + x.at) es dims is ds sum k.1 l.1 parts.1 f.size f.size_is room
      ∙ ap (λ z. Done (pos ((n * x.of + x.at) * f.size) +ℤ z)) f.offset_is
      ∙ ap (λ z. Done (pos z)) (regroup n x.of x.at f.size f.offset size all)
      ∙ ap (λ z. Done (pos (n * size) +ℤ z)) (sym (ap₂ (λ p q. p +ℤ q) (ap₂ (λ p q. p *ℤ q) x.at_is f.size_is) f.offset_is))

  -- the C text of an offset has its number
  pub offset_value : (es dims : List Number64) (is ds : List ℤ) → HaveNumbers s es is → HaveNumbers s dims ds → in_range is ds ≡ true → product ds ≤ℤ pos (2 ^ 48) → number64 s (offset es dims) ≡ Done (dot is (row_major ds))
  offset_value [] dims [] ds h k r few = refl
  offset_value [] dims (i ∷ is) ds h k r few = absurd h
  offset_value (e ∷ es) dims [] ds h k r few = absurd h
  offset_value (e ∷ es) dims (i ∷ is) [] h k r few = absurd (true≢false (sym r))
  offset_value (e ∷ es) [] (i ∷ is) (d ∷ ds) h k r few = absurd k
  offset_value (e ∷ es) (b ∷ dims) (i ∷ is) (d ∷ ds) h k r few =
      let parts = and_parts (is_below i d) (in_range is ds) r in
      let x = index_of i d parts.0 in
      let f = flat is ds parts.1 in
      let all : product (d ∷ ds) ≡ pos (x.of * f.size) = ap₂ (λ p q. p *ℤ q) x.of_is f.size_is in
      let few_here : pos (x.of * f.size) ≤ℤ pos (2 ^ 48) = subst (λ z. z ≤ℤ pos (2 ^ 48)) all few in
      let most : x.of * f.size ≤ 2 ^ 48 = omega (arith, ints) in
      let room : (x.at + 1) * f.size ≤ 2 ^ 48 = (let below : x.at + 1 ≤ x.of = omega (arith, x.below) in le_trans (mul-le _ _ _ _ below (le_refl f.size)) most) in
      horner_value e x.at es dims is ds (h.0 ∙ ap Done x.at_is) h.1 k.1 parts.1 f.size f.size_is room
      ∙ ap (λ z. Done (z +ℤ dot is (row_major ds))) (sym (ap₂ (λ p q. p *ℤ q) x.at_is f.size_is))
