-- A part of an expression, stored in a buffer of one cell before it is used.
use Rattle.std.proofs.Common.{◌≡◌, ℕ, ℤ, pos, ◌+ℤ◌, ◌-ℤ◌, ◌*ℤ◌, Bool, true, false, cond}
use Rattle.std.proofs.Common.{true≢false}
use Rattle.std.proofs.Common.{◌||◌, ◌&&◌, List, [], Option, Some, None, option_map}
use Rattle.std.proofs.Common.{refl, sym, ap, ap₂, ◌∙◌, subst, eq-eqb}
use Rattle.std.specs.Prelude.{IsSome}
use Rattle.exo_tree.specs.Tree.{Cell, I32, Control, Datum, Const, Read, Negated, Relu, Plus}
use Rattle.exo_tree.specs.Tree.{Minus, Times, Select, Assign, Block, next}
use Rattle.exo_tree.specs.Context.{fill}
use Rattle.exo_meaning.specs.Value.{Value, Undefined, Number, wrap, stored_as, on_one, on_two}
use Rattle.exo_meaning.specs.Value.{on_four, relu, selected}
use Rattle.exo_meaning.specs.Scene.{Shape, Seen, then_do, cell_at, numbers, whole}
use Rattle.exo_meaning.specs.State.{State, Place, place, held, value, put, changed, same_index}
use Rattle.exo_meaning.specs.Inputs.{FitsCell}
use Rattle.exo_meaning.specs.Run.{World, run, step, unit_world}
use Rattle.exo_meaning.specs.Unseen.{SameBut, in_datum, in_controls, in_statement as mentions}
use Rattle.exo_meaning.proofs.Wrap.{wrap_laws}
use Rattle.exo_meaning.proofs.Frame.{or_parts}
use Rattle.exo_meaning.proofs.Ignored.{numbers_same, run_alike}
use Rattle.meaning_laws.proofs.Parts.{then_gives, map_gives, some_injective, both_some}
use Rattle.meaning_laws.proofs.Refined.{state_same, through}
use Rattle.place_laws.proofs.OfScope.Opened.{leaving_refines}
use Rattle.buffer_laws.specs.Buffers.{Buffer, allocation, is_buffer}
use Rattle.buffer_laws.specs.Bound.{Hole, Top, InNegated, InRelu, InPlus, InMinus, InTimes, PlusIn}
use Rattle.buffer_laws.specs.Bound.{MinusIn, TimesIn, InFirst, InSecond, InThird, InFourth, filled}
use Rattle.buffer_laws.specs.Bound.{stores, bound, MayBind, ValuesFit, BindLaw}
use Rattle.buffer_laws.specs.Bound.{BindRefines}
use Rattle.buffer_laws.proofs.Buffers.{shape_of, behind, is_behind, beside, updated_own}
use Rattle.place_laws.specs.Order.Statements.{one}

-- ---- values in states that differ at hidden names alone

module _ (hidden : ℕ → Bool) (s t : State) (h : SameBut hidden s t) where
  place_same : (x : ℕ) (is : List Control) → hidden x ≡ false → in_controls hidden is ≡ false
      → place s.scene x is ≡ place t.scene x is
  place_same x is e k =
      ap₂ (λ o js. then_do o (λ seen. option_map (λ at. record {
        buffer = seen.buffer;
        at = at;
      }) (cell_at seen.sides js))) (h.views x e) (numbers_same hidden s t h is k)

  held_same : (x : ℕ) (is : List Control) → hidden x ≡ false → (o : Option Place)
      → place s.scene x is ≡ o → option_map (held s.cells) o ≡ option_map (held t.cells) o
  held_same x is e None i = refl
  held_same x is e (Some p) i =
      let v = then_gives (s.scene.views x) (λ seen. option_map (λ at. record {
        buffer = seen.buffer;
        at = at;
      }) (cell_at seen.sides (numbers s.scene is))) p i in
      let m = map_gives (cell_at v.0.sides (numbers s.scene is)) (λ at. record {
        buffer = v.0.buffer;
        at = at;
      }) p v.2 in
      ap (λ c. Some (c p.at)) (h.cells p.buffer
      (subst (λ (q : Place). hidden q.buffer ≡ false) m.2 (h.seen x v.0 e v.1)))

  pub value_same : (e : Datum) → in_datum hidden e ≡ false → value s e ≡ value t e
  value_same (Const n) k = refl
  value_same (Read x is) k =
      let p = or_parts (hidden x) (in_controls hidden is) k in
      held_same x is p.0 (place s.scene x is) refl
      ∙ ap (option_map (held t.cells)) (place_same x is p.0 p.1)
  value_same (Negated a) k = ap (option_map (on_one (λ m. pos 0 -ℤ m))) (value_same a k)
  value_same (Relu a) k = ap (option_map (on_one relu)) (value_same a k)
  value_same (Plus a b) k =
      let p = or_parts (in_datum hidden a) (in_datum hidden b) k in
      ap₂ (λ o q. then_do o (λ u. option_map (on_two ◌+ℤ◌ u) q)) (value_same a p.0)
      (value_same b p.1)
  value_same (Minus a b) k =
      let p = or_parts (in_datum hidden a) (in_datum hidden b) k in
      ap₂ (λ o q. then_do o (λ u. option_map (on_two ◌-ℤ◌ u) q)) (value_same a p.0)
      (value_same b p.1)
  value_same (Times a b) k =
      let p = or_parts (in_datum hidden a) (in_datum hidden b) k in
      ap₂ (λ o q. then_do o (λ u. option_map (on_two ◌*ℤ◌ u) q)) (value_same a p.0)
      (value_same b p.1)
  value_same (Select a b c d) k =
      let p = or_parts (in_datum hidden a)
      (in_datum hidden b || (in_datum hidden c || in_datum hidden d)) k in
      let q = or_parts (in_datum hidden b) (in_datum hidden c || in_datum hidden d) p.1 in
      let z = or_parts (in_datum hidden c) (in_datum hidden d) q.1 in
      ap₂ (λ o w. then_do o (λ x. then_do w (λ v. then_do (value s c)
      (λ y. option_map (on_four selected x v y) (value s d))))) (value_same a p.0)
      (value_same b q.0)
      ∙ ap₂ (λ o w. then_do (value t a) (λ x. then_do (value t b) (λ v. then_do o
      (λ y. option_map (on_four selected x v y) w)))) (value_same c z.0) (value_same d z.1)

-- ---- an expression for another of the same value

module _ (s : State) (a b : Datum) (same : value s a ≡ value s b) where
  filled_same : (h : Hole) → value s (filled h a) ≡ value s (filled h b)
  filled_same Top = same
  filled_same (InNegated h) = ap (option_map (on_one (λ m. pos 0 -ℤ m))) (filled_same h)
  filled_same (InRelu h) = ap (option_map (on_one relu)) (filled_same h)
  filled_same (InPlus h d) =
      ap (λ o. then_do o (λ u. option_map (on_two ◌+ℤ◌ u) (value s d))) (filled_same h)
  filled_same (InMinus h d) =
      ap (λ o. then_do o (λ u. option_map (on_two ◌-ℤ◌ u) (value s d))) (filled_same h)
  filled_same (InTimes h d) =
      ap (λ o. then_do o (λ u. option_map (on_two ◌*ℤ◌ u) (value s d))) (filled_same h)
  filled_same (PlusIn d h) =
      ap (λ o. then_do (value s d) (λ u. option_map (on_two ◌+ℤ◌ u) o)) (filled_same h)
  filled_same (MinusIn d h) =
      ap (λ o. then_do (value s d) (λ u. option_map (on_two ◌-ℤ◌ u) o)) (filled_same h)
  filled_same (TimesIn d h) =
      ap (λ o. then_do (value s d) (λ u. option_map (on_two ◌*ℤ◌ u) o)) (filled_same h)
  filled_same (InFirst h d e f) =
      ap (λ o. then_do o (λ x. then_do (value s d) (λ v. then_do (value s e)
      (λ y. option_map (on_four selected x v y) (value s f))))) (filled_same h)
  filled_same (InSecond d h e f) =
      ap (λ o. then_do (value s d) (λ x. then_do o (λ v. then_do (value s e)
      (λ y. option_map (on_four selected x v y) (value s f))))) (filled_same h)
  filled_same (InThird d e h f) =
      ap (λ o. then_do (value s d) (λ x. then_do (value s e) (λ v. then_do o
      (λ y. option_map (on_four selected x v y) (value s f))))) (filled_same h)
  filled_same (InFourth d e f h) =
      ap (λ o. then_do (value s d) (λ x. then_do (value s e) (λ v. then_do (value s f)
      (λ y. option_map (on_four selected x v y) o)))) (filled_same h)

-- ---- values that fit

number_fits : (n : ℤ) → FitsCell I32 (Number (wrap I32 n))
number_fits n = wrap_laws.twice I32 n

one_fits : (f : ℤ → ℤ) (u : Value) → FitsCell I32 (on_one f u)
one_fits f Undefined = tt
one_fits f (Number m) = number_fits (f m)

two_fit : (f : ℤ → ℤ → ℤ) (u v : Value) → FitsCell I32 (on_two f u v)
two_fit f Undefined v = tt
two_fit f (Number m) Undefined = tt
two_fit f (Number m) (Number n) = number_fits (f m n)

four_fit : (f : ℤ → ℤ → ℤ → ℤ → ℤ) (u v y z : Value) → FitsCell I32 (on_four f u v y z)
four_fit f Undefined v y z = tt
four_fit f (Number k) Undefined y z = tt
four_fit f (Number k) (Number l) Undefined z = tt
four_fit f (Number k) (Number l) (Number m) Undefined = tt
four_fit f (Number k) (Number l) (Number m) (Number n) = number_fits (f k l m n)

pub values_fit : ValuesFit
values_fit cells s (Const n) v sound fit have short e =
    subst (FitsCell I32) (some_injective (Number n) v e) (short n refl)
values_fit cells s (Read y is) v sound fit have short e =
    let p = map_gives (place s.scene y is) (held s.cells) v e in
    let w = then_gives (s.scene.views y) (λ seen. option_map (λ at. record {
      buffer = seen.buffer;
      at = at;
    }) (cell_at seen.sides (numbers s.scene is))) p.0 p.1 in
    let m = map_gives (cell_at w.0.sides (numbers s.scene is)) (λ at. record {
      buffer = w.0.buffer;
      at = at;
    }) p.0 w.2 in
    subst (FitsCell (cells y)) (ap (held s.cells) m.2 ∙ p.2)
    (go w.0 w.1 m.0 (sound.seen y w.0 w.1) (s.scene.buffers w.0.buffer) refl)
  where
    go : (seen : Seen) → s.scene.views y ≡ Some seen → (at : List ℤ)
        → IsSome (s.scene.buffers seen.buffer) → (o : Option Shape)
        → s.scene.buffers seen.buffer ≡ o → FitsCell (cells y) (s.cells seen.buffer at)
    go seen i at there None k = absurd (true≢false (sym (subst IsSome k there)))
    go seen i at there (Some shape) k =
        subst (λ c. FitsCell c (s.cells seen.buffer at)) (have y seen shape i k)
        (fit seen.buffer shape k at)
values_fit cells s (Negated a) v sound fit have short e =
    let m = map_gives (value s a) (on_one (λ m. pos 0 -ℤ m)) v e in
    subst (FitsCell I32) m.2 (one_fits (λ m. pos 0 -ℤ m) m.0)
values_fit cells s (Relu a) v sound fit have short e =
    let m = map_gives (value s a) (on_one relu) v e in
    subst (FitsCell I32) m.2 (one_fits relu m.0)
values_fit cells s (Plus a b) v sound fit have short e =
    let p = then_gives (value s a) (λ u. option_map (on_two ◌+ℤ◌ u) (value s b)) v e in
    let m = map_gives (value s b) (on_two ◌+ℤ◌ p.0) v p.2 in
    subst (FitsCell I32) m.2 (two_fit ◌+ℤ◌ p.0 m.0)
values_fit cells s (Minus a b) v sound fit have short e =
    let p = then_gives (value s a) (λ u. option_map (on_two ◌-ℤ◌ u) (value s b)) v e in
    let m = map_gives (value s b) (on_two ◌-ℤ◌ p.0) v p.2 in
    subst (FitsCell I32) m.2 (two_fit ◌-ℤ◌ p.0 m.0)
values_fit cells s (Times a b) v sound fit have short e =
    let p = then_gives (value s a) (λ u. option_map (on_two ◌*ℤ◌ u) (value s b)) v e in
    let m = map_gives (value s b) (on_two ◌*ℤ◌ p.0) v p.2 in
    subst (FitsCell I32) m.2 (two_fit ◌*ℤ◌ p.0 m.0)
values_fit cells s (Select a b c d) v sound fit have short e =
    let p = then_gives (value s a) (λ x. then_do (value s b) (λ w. then_do (value s c)
    (λ y. option_map (on_four selected x w y) (value s d)))) v e in
    let q = then_gives (value s b) (λ w. then_do (value s c)
    (λ y. option_map (on_four selected p.0 w y) (value s d))) v p.2 in
    let r = then_gives (value s c) (λ y. option_map (on_four selected p.0 q.0 y) (value s d)) v
    q.2 in
    let m = map_gives (value s d) (on_four selected p.0 q.0 r.0) v r.2 in
    subst (FitsCell I32) m.2 (four_fit selected p.0 q.0 r.0 m.0)

stored_is : (cell : Cell) (v : Value) → FitsCell cell v → stored_as cell v ≡ v
stored_is cell Undefined h = refl
stored_is cell (Number n) h = ap Number h

-- ---- the law

module _ (world : World) (x : Buffer) (reduces : Bool) (y : ℕ) (is : List Control) (h : Hole)
    (e : Datum) (s : State) (may : MayBind x reduces y is h e s) where
  abbrev before : State
  before = behind x s

  abbrev spot : Place
  spot = record { buffer = x.binder.id; at = [] }

  -- the state in which the cell holds the value
  abbrev stored : Value → State
  stored v = record before { cells = changed before.cells spot (λ old. stored_as x.cell v) }

  there : place before.scene x.binder.id [] ≡ Some spot
  there = ap (λ o. then_do o (λ (seen : Seen). option_map (λ at. record {
    buffer = seen.buffer;
    at = at;
  }) (cell_at seen.sides []))) (updated_own s.scene.views x.binder.id (Some (record {
    buffer = x.binder.id;
    sides = whole (numbers s.scene x.dims);
  })))
      ∙ ap (λ ds. option_map (λ (at : List ℤ). record { buffer = x.binder.id; at = at })
      (cell_at (whole (numbers s.scene ds)) [])) may.dims

  is_stored : (v : Value) (p : Place) (t : State) → p ≡ spot → put before (λ old. v) p ≡ Some t
      → stored v ≡ t
  is_stored v p t i k = some_injective (stored v) t
      (sym (ap (λ o. option_map (λ (shape : Shape). record before {
        cells = changed before.cells spot (λ old. stored_as shape.cell v);
      }) o) (updated_own s.scene.buffers x.binder.id (Some (shape_of x s))))
      ∙ ap (put before (λ old. v)) (sym i) ∙ k)

  near : (v : Value) → SameBut (is_buffer x) s (stored v)
  near v =
      let first = beside x s may.none in record {
        control = first.control;
        buffers = first.buffers;
        views = first.views;
        fields = first.fields;
        seen = first.seen;
        cells = λ b k. first.cells b k
            ∙ ap (λ t. λ (at : List ℤ). cond (t && same_index at []) (stored_as x.cell v)
            (before.cells b at)) (sym k);
      }

  lacks : in_datum (is_buffer x) (filled h e) ≡ false
  lacks = go reduces may.unused
    where
      go : (t : Bool) → mentions (is_buffer x) (stores t y is (filled h e)) ≡ false
          → in_datum (is_buffer x) (filled h e) ≡ false
      go true k = (or_parts (in_controls (is_buffer x) is) (in_datum (is_buffer x) (filled h e))
          (or_parts (is_buffer x y) (in_controls (is_buffer x) is
          || in_datum (is_buffer x) (filled h e)) k).1).1
      go false k = (or_parts (in_controls (is_buffer x) is) (in_datum (is_buffer x) (filled h e))
          (or_parts (is_buffer x y) (in_controls (is_buffer x) is
          || in_datum (is_buffer x) (filled h e)) k).1).1

  part_lacks : (h : Hole) → in_datum (is_buffer x) (filled h e) ≡ false
      → in_datum (is_buffer x) e ≡ false
  part_lacks Top k = k
  part_lacks (InNegated h) k = part_lacks h k
  part_lacks (InRelu h) k = part_lacks h k
  part_lacks (InPlus h d) k =
      part_lacks h (or_parts (in_datum (is_buffer x) (filled h e)) (in_datum (is_buffer x) d) k).0
  part_lacks (InMinus h d) k =
      part_lacks h (or_parts (in_datum (is_buffer x) (filled h e)) (in_datum (is_buffer x) d) k).0
  part_lacks (InTimes h d) k =
      part_lacks h (or_parts (in_datum (is_buffer x) (filled h e)) (in_datum (is_buffer x) d) k).0
  part_lacks (PlusIn d h) k =
      part_lacks h (or_parts (in_datum (is_buffer x) d) (in_datum (is_buffer x) (filled h e)) k).1
  part_lacks (MinusIn d h) k =
      part_lacks h (or_parts (in_datum (is_buffer x) d) (in_datum (is_buffer x) (filled h e)) k).1
  part_lacks (TimesIn d h) k =
      part_lacks h (or_parts (in_datum (is_buffer x) d) (in_datum (is_buffer x) (filled h e)) k).1
  part_lacks (InFirst h d f g) k =
      part_lacks h (or_parts (in_datum (is_buffer x) (filled h e)) (in_datum (is_buffer x) d
      || (in_datum (is_buffer x) f || in_datum (is_buffer x) g)) k).0
  part_lacks (InSecond d h f g) k =
      part_lacks h (or_parts (in_datum (is_buffer x) (filled h e)) (in_datum (is_buffer x) f
      || in_datum (is_buffer x) g) (or_parts (in_datum (is_buffer x) d)
      (in_datum (is_buffer x) (filled h e) || (in_datum (is_buffer x) f
      || in_datum (is_buffer x) g)) k).1).0
  part_lacks (InThird d f h g) k =
      part_lacks h (or_parts (in_datum (is_buffer x) (filled h e)) (in_datum (is_buffer x) g)
      (or_parts (in_datum (is_buffer x) f) (in_datum (is_buffer x) (filled h e)
      || in_datum (is_buffer x) g) (or_parts (in_datum (is_buffer x) d)
      (in_datum (is_buffer x) f || (in_datum (is_buffer x) (filled h e)
      || in_datum (is_buffer x) g)) k).1).1).0
  part_lacks (InFourth d f g h) k =
      part_lacks h (or_parts (in_datum (is_buffer x) g) (in_datum (is_buffer x) (filled h e))
      (or_parts (in_datum (is_buffer x) f) (in_datum (is_buffer x) g
      || in_datum (is_buffer x) (filled h e)) (or_parts (in_datum (is_buffer x) d)
      (in_datum (is_buffer x) f || (in_datum (is_buffer x) g
      || in_datum (is_buffer x) (filled h e))) k).1).1).1

  -- the cell holds what the expression gives
  agree : (v : Value) → value before e ≡ Some v
      → value (stored v) (Read x.binder.id []) ≡ value (stored v) e
  agree v k =
      let lack = part_lacks h lacks in
      let here = value_same (is_buffer x) s before (beside x s may.none) e lack ∙ k in
      ap (option_map (held (stored v).cells)) there
      ∙ ap (λ t. Some (cond (t && true) (stored_as x.cell v) (before.cells x.binder.id [])))
      (eq-eqb x.binder.id x.binder.id refl)
      ∙ ap (λ z. Some z) (stored_is x.cell v (may.fits v here))
      ∙ sym here ∙ value_same (is_buffer x) s (stored v) (near v) e lack

  step_same : (t : State) (a b : Datum) (r : Bool) → value t a ≡ value t b
      → step world (stores r y is (filled h a)) t ≡ step world (stores r y is (filled h b)) t
  step_same t a b true k = ap (λ o. then_do (place t.scene y is) (λ p. then_do o
      (λ v. put t (λ old. on_two ◌+ℤ◌ old v) p))) (filled_same t a b k h)
  step_same t a b false k = ap (λ o. then_do (place t.scene y is) (λ p. then_do o
      (λ v. put t (λ old. v) p))) (filled_same t a b k h)

  abbrev old : Block
  old = one (stores reduces y is (filled h e))

  abbrev last : Block
  last = one (stores reduces y is (filled h (Read x.binder.id [])))

  pub alike : (a b : State) → run world old s ≡ Some a
      → run world (bound x reduces y is h e) s ≡ Some b → SameBut (is_buffer x) a b
  alike a b i j =
      let m = then_gives (step world (allocation x) s)
      (run world (next (Assign x.binder.id [] e) last)) b j in
      let rest = subst (λ z. run world (next (Assign x.binder.id [] e) last) z ≡ Some b)
      (sym (is_behind world x s m.0 m.1)) m.2 in
      let n = then_gives (step world (Assign x.binder.id [] e) before) (run world last) b rest in
      let p = then_gives (place before.scene x.binder.id [])
      (λ p. then_do (value before e) (λ v. put before (λ old. v) p)) n.0 n.1 in
      let v = then_gives (value before e) (λ v. put before (λ old. v) p.0) n.0 p.2 in
      let q = is_stored v.0 p.0 n.0 (some_injective p.0 spot (sym p.1 ∙ there)) v.2 in
      let on = subst (λ z. run world last z ≡ Some b) (sym q) n.2 in
      let back = ap (λ o. then_do o (λ t. Some t)) (step_same (stored v.0) e
      (Read x.binder.id []) reduces (sym (agree v.0 v.1))) ∙ on in
      both_some (SameBut (is_buffer x)) (run world old s) (run world old (stored v.0)) a b i back
      (run_alike (is_buffer x) world old (ap (λ t. t || false) may.unused) s (stored v.0)
      (near v.0))

pub bind_law : BindLaw
bind_law world x reduces y is h e s may = record {
  fresh = λ b k. (may.none.unbound b k).buffers;
  runs = λ a b i j. through (is_buffer x) a a b (state_same a)
      (alike world x reduces y is h e s may a b i j);
}

pub bind_refines : BindRefines
bind_refines kinds ps p c x reduces y is h e was leave dims unused fits =
    leaving_refines kinds ps c (one (stores reduces y is (filled h e)))
    (bound x reduces y is h e) p (record p { body = fill c (bound x reduces y is h e) })
    (is_buffer x) was refl leave
    (λ s u good come none. bind_law (unit_world kinds ps) x reduces y is h e u (record {
      none = none;
      dims = dims;
      unused = unused;
      fits = λ v k. fits s u v good come k;
    }))
