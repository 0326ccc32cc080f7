-- A counter more in scope, and the end of a scope.
use Rattle.std.proofs.Common.{◌≡◌, ◌≤◌, ◌^◌, ℕ, ℤ, pos, neg_ℤ, ◌+ℤ◌, ◌-ℤ◌, ◌*ℤ◌, Bool, true, false, ◌==◌, cond, List, [], ◌∷◌, Option, Some, None, refl, sym, ap, ap₂, ◌∙◌, subst, int_le, ⊎_elim, eqb-true, eq-eqb, unsigned_abs, nat_lt}
use Rattle.std.specs.Int.{int_div_euclid, int_rem_euclid}
use Rattle.std.proofs.lemmas.Bool.{and_from}
use Rattle.exo_tree.specs.Tree.{Control, Lit, Var, Field, StrideOf, Neg, Add, Sub, Mul, Div, Mod}
use Rattle.exo_meaning.specs.Value.{Undefined}
use Rattle.exo_meaning.specs.Scene.{Shape, Scene, numbers, number, updated}
use Rattle.exo_meaning.specs.State.{State, left, kept, on_scene, with_control}
use Rattle.c_tree.specs.CTree.{Name, Number64}
use Rattle.c_unit_laws.specs.Follows.Machine.Machine.{after, where_good, checked, on_both, Thing}
use Rattle.c_unit_laws.specs.Follows.Machine.Machine.{IsNumber, IsFunction, Setting, Machine, named}
use Rattle.c_unit_laws.specs.Follows.Machine.Machine.{number64, number_under, same_name, with_thing}
use Rattle.c_unit_laws.specs.Follows.Machine.CRun.{still_there, back_to, with_counter}
use Rattle.c_lowering.specs.Made.Lowered.{Forms, Form, NoForm, NumberForm, number_with}
use Rattle.c_unit_laws.specs.Follows.Simulation.{Ground, AreSameFields, Layout, HasForm, IsPlaced}
use Rattle.c_unit_laws.specs.Follows.Simulation.{Matches, Kept, IsHeld, IsPlain, ArePlain, in_range}
use Rattle.c_unit_laws.specs.Follows.Simulation.{spot_of}
use Rattle.c_unit_laws.specs.Follows.Good.{IsFresh}
use Rattle.c_unit_laws.proofs.OfFollows.Wider.{IsWider, form_kept, placed_on, none_number}

pub same_name_self : (x : Name) → same_name x x ≡ true
same_name_self [] = refl
same_name_self (b ∷ x) = and_from (b == b) (same_name x x) (eq-eqb b b refl) (same_name_self x)

-- ---- plain numbers depend on the control values alone

module _ (forms : Forms) (a b : Scene) (same : a.control ≡ b.control) where
  pub number_by_control : (e : Control) → IsPlain forms e → number a e ≡ number b e
  number_by_control (Lit k) h = refl
  number_by_control (Var y) h = ap (λ f. f y) same
  number_by_control (Field f) h = absurd h
  number_by_control (StrideOf x k) h = absurd h
  number_by_control (Neg e) h = ap neg_ℤ (number_by_control e h)
  number_by_control (Add e f) h = ap₂ (λ x y. x +ℤ y) (number_by_control e h.0) (number_by_control f h.1)
  number_by_control (Sub e f) h = ap₂ (λ x y. x -ℤ y) (number_by_control e h.0) (number_by_control f h.1)
  number_by_control (Mul e f) h = ap₂ (λ x y. x *ℤ y) (number_by_control e h.0) (number_by_control f h.1)
  number_by_control (Div e c) h = ap (λ x. int_div_euclid x c) (number_by_control e h.0)
  number_by_control (Mod e c) h = ap (λ x. int_rem_euclid x c) (number_by_control e h.0)

  pub numbers_by_control : (es : List Control) → ArePlain forms es → numbers a es ≡ numbers b es
  numbers_by_control [] h = refl
  numbers_by_control (e ∷ es) h = ap₂ (λ x xs. x ∷ xs) (number_by_control e h.0) (numbers_by_control es h.1)

-- ---- a binder that comes into scope

module _ (g : Ground) (forms : Forms) (i : ℕ) (fresh : IsFresh g forms i) where
  -- a name in scope is another one
  pub other : (y : ℕ) → (forms y ≡ NoForm → ⊥) → (y == i) ≡ false
  other y h = go (y == i) refl
    where
      go : (t : Bool) → (y == i) ≡ t → t ≡ false
      go false e = refl
      go true e = absurd (h (ap forms (eqb-true y i e) ∙ fresh.not_there))

  pub other_text : (y : ℕ) → (forms y ≡ NoForm → ⊥) → same_name (g.naming.binder y) (g.naming.binder i) ≡ false
  other_text y h = ⊎_elim (λ e. absurd (h e)) (λ e. e) (fresh.other_name y)

  -- what its C name stands for plays no part in a plain expression
  module _ (setting : Setting) (held : Option Thing) (strides : ℕ → ℕ → Number64) where
    abbrev changed : Setting
    changed = record setting { names = named setting.names (g.naming.binder i) held }

    pub c_number_wider : (e : Control) → IsPlain forms e → number64 changed (number_with g.naming strides e) ≡ number64 setting (number_with g.naming strides e)
    c_number_wider (Lit k) h = refl
    c_number_wider (Var y) h = ap (number_under setting.fields (g.naming.binder y)) (ap (λ b. cond b held (setting.names (g.naming.binder y))) (other_text y (λ e. none_number (sym e ∙ h))))
    c_number_wider (Field f) h = absurd h
    c_number_wider (StrideOf x k) h = absurd h
    c_number_wider (Neg a) h = ap (λ o. after o (λ x. checked (neg_ℤ x))) (c_number_wider a h)
    c_number_wider (Add a b) h = ap₂ (on_both ◌+ℤ◌) (c_number_wider a h.0) (c_number_wider b h.1)
    c_number_wider (Sub a b) h = ap₂ (on_both ◌-ℤ◌) (c_number_wider a h.0) (c_number_wider b h.1)
    c_number_wider (Mul a b) h = ap₂ (on_both ◌*ℤ◌) (c_number_wider a h.0) (c_number_wider b h.1)
    c_number_wider (Div a c) h = ap (λ o. where_good (int_le (pos 1) c) (after o (λ x. checked (int_div_euclid x c)))) (c_number_wider a h.0)
    c_number_wider (Mod a c) h = ap (λ o. where_good (int_le (pos 1) c) (after o (λ x. checked (int_rem_euclid x c)))) (c_number_wider a h.0)

-- ---- the match with a counter more

module _ (g : Ground) (forms : Forms) (most : ℕ → ℕ) (root : ℕ → ℕ) (layout : Layout) (i : ℕ) (fresh : IsFresh g forms i) (bound : ℕ) (n : ℤ) (small : unsigned_abs n ≤ bound) (s : State) (m : Machine) (match : Matches g forms most root layout s m) where
  abbrev inner_scene : Scene
  inner_scene = with_control i n s.scene

  abbrev inner_setting : Setting
  inner_setting = with_thing (g.naming.binder i) (IsNumber n) m.setting

  abbrev Inner : ℕ → Form → Type 0
  Inner = HasForm g.naming (updated forms i NumberForm) (updated most i bound) layout inner_scene.control inner_scene.buffers inner_scene.views inner_setting.names

  wider : IsWider g.naming forms (updated forms i NumberForm) most (updated most i bound) layout layout s.scene.control inner_scene.control s.scene.buffers inner_scene.buffers s.scene.views inner_scene.views m.setting.names inner_setting.names
  wider = record {
    form = λ x h. ap (λ t. cond t NumberForm (forms x)) (other g forms i fresh x h);
    bound = λ x h. ap (λ t. cond t bound (most x)) (other g forms i fresh x h);
    number = λ x h. ap (λ t. cond t n (s.scene.control x)) (other g forms i fresh x h);
    view = λ x h. refl;
    name = λ x h. ap (λ b. cond b (Some (IsNumber n)) (m.setting.names (g.naming.binder x))) (other_text g forms i fresh x h);
    buffer = λ b shape e. e;
    place = λ b shape e. refl;
  }

  new_counter : (x : ℕ) → (x == i) ≡ true → Inner x NumberForm
  new_counter x e =
      let value : inner_scene.control x ≡ n = ap (λ t. cond t n (s.scene.control x)) e in
      let same = subst (λ y. same_name (g.naming.binder x) (g.naming.binder y) ≡ true) (eqb-true x i e) (same_name_self (g.naming.binder x)) in
      record {
        name = ap (λ b. cond b (Some (IsNumber n)) (m.setting.names (g.naming.binder x))) same ∙ ap (λ z. Some (IsNumber z)) (sym value);
        small = subst (λ z. unsigned_abs z ≤ updated most i bound x) (sym value) (subst (λ t. unsigned_abs n ≤ cond t bound (most x)) (sym e) small);
      }

  names_inside : (x : ℕ) → Inner x (updated forms i NumberForm x)
  names_inside x = go (x == i) refl
    where
      go : (t : Bool) → (x == i) ≡ t → Inner x (cond t NumberForm (forms x))
      go true e = new_counter x e
      go false e = form_kept g.naming forms (updated forms i NumberForm) most (updated most i bound) layout layout _ _ _ _ _ _ _ _ wider x (forms x) refl (match.names x)

  known_inside : (b : ℕ) (shape : Shape) → s.scene.buffers b ≡ Some shape → updated forms i NumberForm b ≡ NoForm → ⊥
  known_inside b shape e h = go (b == i) h
    where
      go : (t : Bool) → cond t NumberForm (forms b) ≡ NoForm → ⊥
      go true k = none_number (sym k)
      go false k = match.known b shape e k

  fields_inside : AreSameFields g.naming g.declared inner_scene.fields inner_setting.names inner_setting.fields
  fields_inside f h = record { name = ap (λ b. cond b (Some (IsNumber n)) (m.setting.names (g.naming.field f))) (fresh.no_field f h) ∙ (match.fields f h).name; same = (match.fields f h).same; small = (match.fields f h).small }

  functions_inside : (f : Name) → g.function f ≡ true → inner_setting.names f ≡ Some IsFunction
  functions_inside f h = ap (λ b. cond b (Some (IsNumber n)) (m.setting.names f)) (fresh.no_function f h) ∙ match.functions f h

  pub counted : Matches g (updated forms i NumberForm) (updated most i bound) root layout (on_scene (with_control i n) s) (with_counter (g.naming.binder i) n m)
  counted = record { names = names_inside; fields = fields_inside; functions = functions_inside; cells = match.cells; known = known_inside; placed = match.placed; apart = match.apart; roots = match.roots }

-- ---- the end of a scope

module _ (g : Ground) (forms : Forms) (most : ℕ → ℕ) (root : ℕ → ℕ) (layout : Layout) (s : State) (m : Machine) (match : Matches g forms most root layout s m) (t : State) (n : Machine) (since : Kept g.stored layout s m t n) (ended : (b : ℕ) (shape : Shape) → s.scene.buffers b ≡ Some shape → (at : List ℤ) → in_range at shape.dims ≡ true → IsHeld (t.cells b at) (n.contents (spot_of layout b shape at).object (spot_of layout b shape at).offset)) (set : (f : ℕ) → g.declared f ≡ true → (n.setting.fields (g.naming.field f) ≡ t.scene.fields f) × (unsigned_abs (t.scene.fields f) ≤ 2 ^ 48)) where
  object_back : (o : ℕ) → nat_lt o m.setting.free ≡ true → (back_to m n).setting.objects o ≡ m.setting.objects o
  object_back o h = ap (λ b. still_there b (n.setting.objects o) None) h ∙ since.objects o h

  placed_back : (b : ℕ) (shape : Shape) → s.scene.buffers b ≡ Some shape → IsPlaced layout (back_to m n).setting.objects m.setting.free b shape
  placed_back b shape e =
      let h = match.placed b shape e in
      placed_on layout layout m.setting.objects (back_to m n).setting.objects m.setting.free m.setting.free b shape refl (object_back (layout b).object h.below) h.below h

  cell_back : (b : ℕ) (shape : Shape) → s.scene.buffers b ≡ Some shape → (at : List ℤ) → in_range at shape.dims ≡ true → IsHeld ((left s t).cells b at) ((back_to m n).contents (spot_of layout b shape at).object (spot_of layout b shape at).offset)
  cell_back b shape e at r =
      subst (λ o. IsHeld (kept o (t.cells b) at) ((back_to m n).contents (spot_of layout b shape at).object (spot_of layout b shape at).offset)) (sym e)
      (subst (λ h. IsHeld (t.cells b at) (still_there h (n.contents (layout b).object) (λ k. Undefined) (spot_of layout b shape at).offset)) (sym (match.placed b shape e).below)
      (ended b shape e at r))

  fields_back : AreSameFields g.naming g.declared (left s t).scene.fields (back_to m n).setting.names (back_to m n).setting.fields
  fields_back f h = record { name = (match.fields f h).name; same = (set f h).0; small = (set f h).1 }

  pub closed : Matches g forms most root layout (left s t) (back_to m n)
  closed = record { names = match.names; fields = fields_back; functions = match.functions; cells = cell_back; known = match.known; placed = placed_back; apart = match.apart; roots = match.roots }
