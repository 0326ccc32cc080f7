-- Names stay what they are where more comes into scope.
use Rattle.std.proofs.Common.{◌≡◌, ◌≤◌, ◌+◌, ◌*◌, ◌^◌, ℕ, ℤ, pos, neg_ℤ, ◌+ℤ◌, ◌-ℤ◌, ◌*ℤ◌, ◌≤ℤ◌, true, List, [], ◌∷◌, Option, Some, refl, sym, ap, ap₂, ◌∙◌, subst, unsigned_abs, nat_lt}
use Rattle.std.specs.Int.{int_div_euclid, int_rem_euclid}
use Rattle.exo_tree.specs.Tree.{Cell, Control, Lit, Var, Field, StrideOf, Neg, Add, Sub, Mul, Div, Mod}
use Rattle.exo_meaning.specs.Scene.{Shape, Seen, Scene, strides_of, number, numbers}
use Rattle.c_tree.specs.CTree.{Name}
use Rattle.c_unit_laws.specs.Follows.Machine.Machine.{Thing, IsNumber, IsWindow, Object, moved}
use Rattle.c_widths.specs.Magnitude.{magnitude, rounded_up}
use Rattle.c_lowering.specs.Made.Lowered.{Naming, Forms, Form, NoForm, NumberForm, TensorForm}
use Rattle.c_lowering.specs.Made.Lowered.{WindowForm}
use Rattle.c_unit_laws.specs.Follows.Magnitude.{IsNarrow, AreNarrow}
use Rattle.c_unit_laws.specs.Follows.Simulation.{Layout, HasForm, IsPlaced, IsPlain, ArePlain}
use Rattle.c_unit_laws.specs.Follows.Simulation.{array_at, dot, lower_ends}

pub none_number : NoForm ≡ NumberForm → ⊥
none_number e = cc

pub none_tensor : {cell : Cell} {dims : List Control} {lanes : ℕ} → NoForm ≡ TensorForm cell dims lanes → ⊥
none_tensor e = cc

pub none_window : {cell : Cell} {rank : ℕ} → NoForm ≡ WindowForm cell rank → ⊥
none_window e = cc

-- what was in scope is as it was
pub record IsWider (naming : Naming) (forms wide : Forms) (most wide_most : ℕ → ℕ) (layout new_layout : Layout) (control new_control : ℕ → ℤ) (buffers new_buffers : ℕ → Option Shape) (views new_views : ℕ → Option Seen) (names new_names : Name → Option Thing) : Type 0 where
  pub form : (x : ℕ) → (forms x ≡ NoForm → ⊥) → wide x ≡ forms x
  pub bound : (x : ℕ) → (forms x ≡ NoForm → ⊥) → wide_most x ≡ most x
  pub number : (x : ℕ) → (forms x ≡ NoForm → ⊥) → new_control x ≡ control x
  pub view : (x : ℕ) → (forms x ≡ NoForm → ⊥) → new_views x ≡ views x
  pub name : (x : ℕ) → (forms x ≡ NoForm → ⊥) → new_names (naming.binder x) ≡ names (naming.binder x)
  pub buffer : (b : ℕ) (shape : Shape) → buffers b ≡ Some shape → new_buffers b ≡ Some shape
  pub place : (b : ℕ) (shape : Shape) → buffers b ≡ Some shape → new_layout b ≡ layout b

module _ (naming : Naming) (forms wide : Forms) (most wide_most : ℕ → ℕ) (layout new_layout : Layout) (control new_control : ℕ → ℤ) (buffers new_buffers : ℕ → Option Shape) (views new_views : ℕ → Option Seen) (names new_names : Name → Option Thing) (w : IsWider naming forms wide most wide_most layout new_layout control new_control buffers new_buffers views new_views names new_names) where
  numbered : (y : ℕ) → forms y ≡ NumberForm → forms y ≡ NoForm → ⊥
  numbered y h k = none_number (sym k ∙ h)

  plain_wider : (e : Control) → IsPlain forms e → IsPlain wide e
  plain_wider (Lit n) h = tt
  plain_wider (Var y) h = w.form y (numbered y h) ∙ h
  plain_wider (Field f) h = h
  plain_wider (StrideOf y k) h = h
  plain_wider (Neg a) h = plain_wider a h
  plain_wider (Add a b) h = (plain_wider a h.0, plain_wider b h.1)
  plain_wider (Sub a b) h = (plain_wider a h.0, plain_wider b h.1)
  plain_wider (Mul a b) h = (plain_wider a h.0, plain_wider b h.1)
  plain_wider (Div a c) h = (plain_wider a h.0, h.1)
  plain_wider (Mod a c) h = (plain_wider a h.0, h.1)

  pub all_plain_wider : (es : List Control) → ArePlain forms es → ArePlain wide es
  all_plain_wider [] h = tt
  all_plain_wider (e ∷ es) h = (plain_wider e h.0, all_plain_wider es h.1)

  same_magnitude : (e : Control) → IsPlain forms e → magnitude wide_most e ≡ magnitude most e
  same_magnitude (Lit n) h = refl
  same_magnitude (Var y) h = w.bound y (numbered y h)
  same_magnitude (Field f) h = refl
  same_magnitude (StrideOf y k) h = refl
  same_magnitude (Neg a) h = same_magnitude a h
  same_magnitude (Add a b) h = ap₂ (λ m n. m + n) (same_magnitude a h.0) (same_magnitude b h.1)
  same_magnitude (Sub a b) h = ap₂ (λ m n. m + n) (same_magnitude a h.0) (same_magnitude b h.1)
  same_magnitude (Mul a b) h = ap₂ (λ m n. m * n) (same_magnitude a h.0) (same_magnitude b h.1)
  same_magnitude (Div a c) h = ap (λ m. rounded_up m (unsigned_abs c)) (same_magnitude a h.0)
  same_magnitude (Mod a c) h = refl

  below_same : (e : Control) → IsPlain forms e → magnitude most e ≤ 2 ^ 62 → magnitude wide_most e ≤ 2 ^ 62
  below_same e h k = subst (λ n. n ≤ 2 ^ 62) (sym (same_magnitude e h)) k

  narrow_wider : (e : Control) → IsPlain forms e → IsNarrow most e → IsNarrow wide_most e
  narrow_wider (Lit n) h k = k
  narrow_wider (Var y) h k = below_same (Var y) h k
  narrow_wider (Field f) h k = k
  narrow_wider (StrideOf y j) h k = k
  narrow_wider (Neg a) h k = narrow_wider a h k
  narrow_wider (Add a b) h k = (narrow_wider a h.0 k.0, narrow_wider b h.1 k.1, below_same (Add a b) h k.2)
  narrow_wider (Sub a b) h k = (narrow_wider a h.0 k.0, narrow_wider b h.1 k.1, below_same (Sub a b) h k.2)
  narrow_wider (Mul a b) h k = (narrow_wider a h.0 k.0, narrow_wider b h.1 k.1, below_same (Mul a b) h k.2)
  narrow_wider (Div a c) h k = (narrow_wider a h.0 k.0, below_same (Div a c) h k.1)
  narrow_wider (Mod a c) h k = (narrow_wider a h.0 k.0, below_same (Mod a c) h k.1)

  pub all_narrow_wider : (es : List Control) → ArePlain forms es → AreNarrow most es → AreNarrow wide_most es
  all_narrow_wider [] h k = tt
  all_narrow_wider (e ∷ es) h k = (narrow_wider e h.0 k.0, all_narrow_wider es h.1 k.1)

  -- a plain number is that of before
  module _ (t u : Scene) (new : t.control ≡ new_control) (old : u.control ≡ control) where
    number_wider : (e : Control) → IsPlain forms e → number t e ≡ number u e
    number_wider (Lit k) h = refl
    number_wider (Var y) h = ap (λ f. f y) new ∙ w.number y (numbered y h) ∙ sym (ap (λ f. f y) old)
    number_wider (Field f) h = absurd h
    number_wider (StrideOf y k) h = absurd h
    number_wider (Neg a) h = ap neg_ℤ (number_wider a h)
    number_wider (Add a b) h = ap₂ (λ x y. x +ℤ y) (number_wider a h.0) (number_wider b h.1)
    number_wider (Sub a b) h = ap₂ (λ x y. x -ℤ y) (number_wider a h.0) (number_wider b h.1)
    number_wider (Mul a b) h = ap₂ (λ x y. x *ℤ y) (number_wider a h.0) (number_wider b h.1)
    number_wider (Div a c) h = ap (λ x. int_div_euclid x c) (number_wider a h.0)
    number_wider (Mod a c) h = ap (λ x. int_rem_euclid x c) (number_wider a h.0)

    pub numbers_wider : (es : List Control) → ArePlain forms es → numbers t es ≡ numbers u es
    numbers_wider [] h = refl
    numbers_wider (e ∷ es) h = ap₂ (λ x xs. x ∷ xs) (number_wider e h.0) (numbers_wider es h.1)

  -- ---- what a name is

  abbrev Old : ℕ → Form → Type 0
  Old = HasForm naming forms most layout control buffers views names

  abbrev New : ℕ → Form → Type 0
  New = HasForm naming wide wide_most new_layout new_control new_buffers new_views new_names

  counter_kept : (x : ℕ) → forms x ≡ NumberForm → Old x NumberForm → New x NumberForm
  counter_kept x e c = record {
    name = w.name x (numbered x e) ∙ c.name ∙ ap (λ z. Some (IsNumber z)) (sym (w.number x (numbered x e)));
    small = subst (λ z. unsigned_abs z ≤ wide_most x) (sym (w.number x (numbered x e))) (subst (λ n. unsigned_abs (control x) ≤ n) (sym (w.bound x (numbered x e))) c.small);
  }

  tensor_kept : (x : ℕ) (cell : Cell) (dims : List Control) (lanes : ℕ) → forms x ≡ TensorForm cell dims lanes → Old x (TensorForm cell dims lanes) → New x (TensorForm cell dims lanes)
  tensor_kept x cell dims lanes e t =
      let there = λ (k : forms x ≡ NoForm). none_tensor (sym k ∙ e) in
      record {
        extents = t.extents;
        plain = all_plain_wider dims t.plain;
        narrow = all_narrow_wider dims t.plain t.narrow;
        numbers_are = λ scene k. numbers_wider scene (record scene { control = control }) k refl dims t.plain ∙ t.numbers_are (record scene { control = control }) refl;
        shape = w.buffer x _ t.shape;
        view = w.view x there ∙ t.view;
        positive = t.positive;
        few = t.few;
        last = t.last;
        name = w.name x there ∙ t.name ∙ ap (λ p. Some (array_at lanes p)) (sym (w.place x _ t.shape));
      }

  window_kept : (x : ℕ) (cell : Cell) (rank : ℕ) → forms x ≡ WindowForm cell rank → Old x (WindowForm cell rank) → New x (WindowForm cell rank)
  window_kept x cell rank e v =
      let there = λ (k : forms x ≡ NoForm). none_window (sym k ∙ e) in
      record {
        seen = v.seen;
        shape = v.shape;
        view = w.view x there ∙ v.view;
        buffer = w.buffer v.seen.buffer v.shape v.buffer;
        within = v.within;
        full = v.full;
        rank_is = v.rank_is;
        cell_is = v.cell_is;
        name = w.name x there ∙ v.name ∙ ap (λ p. Some (IsWindow (moved p (dot (lower_ends v.seen.sides) v.shape.strides)) (strides_of v.seen.sides v.shape.strides))) (sym (w.place v.seen.buffer v.shape v.buffer));
      }

  pub form_kept : (x : ℕ) (f : Form) → forms x ≡ f → Old x f → New x f
  form_kept x NoForm e h = tt
  form_kept x NumberForm e h = counter_kept x e h
  form_kept x (TensorForm cell dims lanes) e h = tensor_kept x cell dims lanes e h
  form_kept x (WindowForm cell rank) e h = window_kept x cell rank e h

-- ---- where a buffer lies

-- its object is the same
pub placed_on : (layout new_layout : Layout) (objects more : ℕ → Option Object) (free later : ℕ) (b : ℕ) (shape : Shape) → new_layout b ≡ layout b → more (layout b).object ≡ objects (layout b).object → nat_lt (layout b).object later ≡ true → IsPlaced layout objects free b shape → IsPlaced new_layout more later b shape
placed_on layout new_layout objects more free later b shape same e k h = record {
  object = h.object;
  there = ap (λ p. more p.object) same ∙ e ∙ h.there;
  below = ap (λ p. nat_lt p.object later) same ∙ k;
  same_cell = h.same_cell;
  few = h.few;
  above = subst (λ p. pos 0 ≤ℤ p.offset) (sym same) h.above;
  positive = h.positive;
  ranks = h.ranks;
  strides = h.strides;
  inside = λ at r. subst (λ p. ((p.offset +ℤ dot at shape.strides) +ℤ pos 1) ≤ℤ h.object.size) (sym same) (h.inside at r);
}
