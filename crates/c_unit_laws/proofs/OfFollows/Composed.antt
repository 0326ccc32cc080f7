-- Where a callee's buffers lie: in those of its caller.
use Rattle.std.proofs.Common.{◌≡◌, ◌^◌, ℕ, ℤ, pos, ◌+ℤ◌, ◌≤ℤ◌, nat_lt, Bool, true, false, List, [], ◌∷◌, length, Option, Some, None, option_map, refl, sym, ap, ◌∙◌, subst, arith, true≢false}
use Rattle.std.proofs.lemmas.Int.{ints}
use Rattle.std.proofs.lemmas.Bool.{and_from, and_parts}
use Rattle.std.proofs.Math.IntN.{+ℤ_assoc}
use Rattle.exo_tree.specs.Tree.{Cell, Control, Param, ParamKind, ControlParam, TensorParam, WindowParam}
use Rattle.exo_meaning.specs.Scene.{where_true, Shape, Side, Point, Range, Seen, is_below, cell_at, extents, strides_of, strides_seen}
use Rattle.exo_meaning.specs.State.{State}
use Rattle.exo_meaning.specs.Calls.{Given, GivenNumber, GivenView, all_positive}
use Rattle.exo_meaning.specs.Inputs.{IsBetween, is_buffer_of}
use Rattle.exo_meaning.specs.Orders.{Each}
use Rattle.inplace_laws.specs.CallInPlace.{base_of, seen_of}
use Rattle.c_unit_laws.specs.Follows.Machine.Machine.{Pointer, Thing, Object, moved}
use Rattle.c_lowering.specs.Made.Lowered.{Forms}
use Rattle.c_unit_laws.specs.Follows.Simulation.{Layout, IsPlaced, beginning, lower_ends, dot}
use Rattle.c_unit_laws.specs.Follows.Simulation.{in_range, spot_of}
use Rattle.c_unit_laws.specs.Follows.Good.{AreGoodParams}
use Rattle.c_unit_laws.proofs.OfFollows.Windows.{some_same, no_some, mapped, tested}
use Rattle.c_unit_laws.proofs.OfFollows.Windows.{natural_strides, natural_dot, natural_lower}
use Rattle.c_unit_laws.proofs.OfFollows.Windows.{seen_in_range, window_offset, strides_length}
use Rattle.c_unit_laws.proofs.OfFollows.Entered.{IsBound, IsCopy, HasEntered}
use Rattle.c_unit_laws.proofs.OfFollows.Given.{IsPart, IsGivenAs, AreGivenAs, param_found}

-- ---- indices of a part

pub cell_there : (sides : List Side) (is : List ℤ) → in_range is (extents sides) ≡ true → (at : List ℤ) × (cell_at sides is ≡ Some at)
cell_there [] [] h = ([], refl)
cell_there [] (i ∷ is) h = absurd (true≢false (sym h))
cell_there (Point p ∷ sides) is h = let rest = cell_there sides is h in (p ∷ rest.0, ap (option_map (λ at. p ∷ at)) rest.1)
cell_there (Range lo n ∷ sides) [] h = absurd (true≢false (sym h))
cell_there (Range lo n ∷ sides) (i ∷ is) h =
    let q = and_parts (is_below i n) (in_range is (extents sides)) h in
    let rest = cell_there sides is q.1 in
    ((lo +ℤ i) ∷ rest.0, ap (λ t. where_true t (option_map (λ at. (lo +ℤ i) ∷ at) (cell_at sides is))) q.0 ∙ ap (option_map (λ at. (lo +ℤ i) ∷ at)) rest.1)

pub indices_in : (sides : List Side) (is at : List ℤ) → cell_at sides is ≡ Some at → in_range is (extents sides) ≡ true
indices_in [] [] at e = refl
indices_in [] (i ∷ is) at e = absurd (no_some e)
indices_in (Point p ∷ sides) is at e = let m = mapped (λ rest. p ∷ rest) (cell_at sides is) at e in indices_in sides is m.0 m.1
indices_in (Range lo n ∷ sides) [] at e = absurd (no_some e)
indices_in (Range lo n ∷ sides) (i ∷ is) at e =
    let h = tested (is_below i n) _ at e in
    let m = mapped (λ rest. (lo +ℤ i) ∷ rest) (cell_at sides is) at h.1 in
    and_from (is_below i n) (in_range is (extents sides)) h.0 (indices_in sides is m.0 m.1)

each_part : (P : ℤ → Type 0) (sides : List Side) (ts : List ℤ) → Each P ts → Each P (strides_of sides ts)
each_part P [] ts h = tt
each_part P (side ∷ sides) [] h = tt
each_part P (Point p ∷ sides) (t ∷ ts) h = each_part P sides ts h.1
each_part P (Range lo n ∷ sides) (t ∷ ts) h = (h.0, each_part P sides ts h.1)

-- ---- the layout of a callee

-- the strides of a part
pub strides_here : (s : State) (cell : Cell) (z : Seen) (part : IsPart s.scene cell z) → strides_seen s.scene z ≡ strides_of z.sides part.shape.strides
strides_here s cell z part = ap (λ o. elim o as (λ o. List ℤ) [ None ↦ [] | Some shape ↦ strides_of z.sides shape.strides ]) part.buffer

module _ (layout : Layout) (s inner : State) (ps : List Param) (gs : List Given) where
  abbrev at_shape : Option Shape → Seen → Pointer
  at_shape None z = layout z.buffer
  at_shape (Some shape) z = beginning layout shape z

  abbrev at_base : Option Seen → Pointer
  at_base None = record { object = 0; offset = pos 0 }
  at_base (Some z) = at_shape (s.scene.buffers z.buffer) z

  abbrev pub callee_layout : Layout
  callee_layout x = at_base (base_of ps gs x)

  -- a buffer of the callee is a part of one of the caller
  pub record IsOnPart (x : ℕ) (shape : Shape) : Type 0 where
    pub seen : Seen
    pub base : base_of ps gs x ≡ Some seen
    pub part : IsPart s.scene shape.cell seen
    pub dims : shape.dims ≡ extents seen.sides
    pub strides : shape.strides ≡ strides_of seen.sides part.shape.strides
    pub lies : callee_layout x ≡ beginning layout part.shape seen
    pub positive : all_positive shape.dims ≡ true

  pub lies_at : (x : ℕ) (cell : Cell) (z : Seen) (part : IsPart s.scene cell z) → base_of ps gs x ≡ Some z → callee_layout x ≡ beginning layout part.shape z
  lies_at x cell z part base = ap at_base base ∙ ap (λ o. at_shape o z) part.buffer

  of_copy : (x : ℕ) (cell : Cell) (dims : List Control) (z : Seen) (shape : Shape) → IsPart s.scene cell z → IsCopy s inner.scene x cell dims z → base_of ps gs x ≡ Some z → inner.scene.buffers x ≡ Some shape → IsOnPart x shape
  of_copy x cell dims z shape part h base e =
      subst (IsOnPart x) (some_same (sym h.buffer ∙ e))
      (record {
        seen = z;
        base = base;
        part = part;
        dims = h.dims_are;
        strides = strides_here s cell z part;
        lies = lies_at x cell z part base;
        positive = h.positive;
      })

  by_kind : (bound x : ℕ) (kind : ParamKind) (g : Given) (t : Thing) (shape : Shape) → IsGivenAs layout s.scene bound kind g t → IsBound s inner.scene x kind g → base_of ps gs x ≡ seen_of g → inner.scene.buffers x ≡ Some shape → IsOnPart x shape
  by_kind bound x (ControlParam kind) g t shape a b base e = absurd (no_some (sym b.0 ∙ e))
  by_kind bound x (TensorParam cell dims memory) (GivenNumber n) t shape a b base e = absurd a
  by_kind bound x (TensorParam cell dims memory) (GivenView z) t shape a b base e = of_copy x cell dims z shape a.part b base e
  by_kind bound x (WindowParam cell dims memory) (GivenNumber n) t shape a b base e = absurd a
  by_kind bound x (WindowParam cell dims memory) (GivenView z) t shape a b base e = of_copy x cell dims z shape a.0.part b base e

  pub is_param : HasEntered s ps gs inner → (x : ℕ) (shape : Shape) → inner.scene.buffers x ≡ Some shape → is_buffer_of x ps ≡ true
  is_param h x shape e = go (is_buffer_of x ps) refl
    where
      go : (t : Bool) → is_buffer_of x ps ≡ t → t ≡ true
      go true i = refl
      go false i = absurd (no_some (sym (h.no_others x i).0 ∙ e))

  pub on_part : (forms : Forms) (most : ℕ → ℕ) (ts : List Thing) → AreGivenAs layout s.scene most ps gs ts → AreGoodParams forms most ps → HasEntered s ps gs inner → (x : ℕ) (shape : Shape) → inner.scene.buffers x ≡ Some shape → IsOnPart x shape
  on_part forms most ts a good h x shape e =
      let p = param_found layout s inner forms most ps gs ts a h.numbered h.bound good x (is_param h x shape e) in
      by_kind (most x) x p.kind p.given p.thing shape p.as_given p.bound p.base e

  -- ---- a cell of the callee's is one of the caller's, at the same spot

  pub record IsAtCell (x : ℕ) (shape : Shape) (q : IsOnPart x shape) (is : List ℤ) : Type 0 where
    pub at : List ℤ
    pub seen : cell_at q.seen.sides is ≡ Some at
    pub inside : in_range at q.part.shape.dims ≡ true
    pub spot : spot_of callee_layout x shape is ≡ spot_of layout q.seen.buffer q.part.shape at

  module _ (objects : ℕ → Option Object) (free : ℕ) where
    pub at_index : (x : ℕ) (shape : Shape) (q : IsOnPart x shape) → IsPlaced layout objects free q.seen.buffer q.part.shape → (is at : List ℤ) → cell_at q.seen.sides is ≡ Some at → IsAtCell x shape q is
    at_index x shape q placed is at e =
        let strides = q.part.shape.strides in
        let first = dot (lower_ends q.seen.sides) strides in
        let offset = window_offset q.seen.sides strides is at (natural_strides strides placed.strides) e in
        record {
          at = at;
          seen = e;
          inside = seen_in_range q.part.shape.dims q.seen.sides is at q.part.within e;
          spot =
              ap (λ p. moved p (dot is shape.strides)) q.lies
              ∙ ap (λ z. record { object = (layout q.seen.buffer).object; offset = z }) (+ℤ_assoc (layout q.seen.buffer).offset first (dot is shape.strides))
              ∙ ap (λ z. moved (layout q.seen.buffer) z) (ap (λ ts. first +ℤ dot is ts) q.strides ∙ sym offset);
        }

    pub at_cell : (x : ℕ) (shape : Shape) (q : IsOnPart x shape) → IsPlaced layout objects free q.seen.buffer q.part.shape → (is : List ℤ) → in_range is shape.dims ≡ true → IsAtCell x shape q is
    at_cell x shape q placed is r =
        let c = cell_there q.seen.sides is (ap (in_range is) (sym q.dims) ∙ r) in
        at_index x shape q placed is c.0 c.1

    pub part_placed : (x : ℕ) (shape : Shape) (q : IsOnPart x shape) → IsPlaced layout objects free q.seen.buffer q.part.shape → IsPlaced callee_layout objects free x shape
    part_placed x shape q h =
        let strides = q.part.shape.strides in
        let first = natural_dot (lower_ends q.seen.sides) strides (natural_lower q.part.shape.dims q.seen.sides q.part.within) (natural_strides strides h.strides) in
        record {
          object = h.object;
          there = ap (λ p. objects p.object) q.lies ∙ h.there;
          below = ap (λ p. nat_lt p.object free) q.lies ∙ h.below;
          same_cell = h.same_cell ∙ q.part.cell_is;
          few = h.few;
          above = subst (λ p. pos 0 ≤ℤ p.offset) (sym q.lies) (subst (λ z. pos 0 ≤ℤ ((layout q.seen.buffer).offset +ℤ z)) (sym first.1) (from_0 (layout q.seen.buffer).offset first.0 h.above));
          positive = q.positive;
          ranks = ap (λ ts. length ts) q.strides ∙ strides_length q.part.shape.dims strides q.seen.sides q.part.within h.ranks ∙ sym (ap (λ ds. length ds) q.dims);
          strides = subst (λ ts. Each (IsBetween (pos 0) (pos (2 ^ 48))) ts) (sym q.strides) (each_part (IsBetween (pos 0) (pos (2 ^ 48))) q.seen.sides strides h.strides);
          inside = λ is r. let c = at_cell x shape q h is r in subst (λ p. (p.offset +ℤ pos 1) ≤ℤ h.object.size) (sym c.spot) (h.inside c.at c.inside);
        }
      where
        from_0 : (a : ℤ) (n : ℕ) → pos 0 ≤ℤ a → pos 0 ≤ℤ (a +ℤ pos n)
        from_0 a n k = omega (arith, ints)
