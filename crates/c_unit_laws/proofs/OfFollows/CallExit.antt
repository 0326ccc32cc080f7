-- A call by copies, and one in place: after the callee, the state and the machine of the caller match.
use Rattle.std.proofs.Common.{◌≡◌, ◌≤◌, ◌^◌, ℕ, ℤ, true, List, Option, Some, None, refl, sym, ap, ap₂, ◌∙◌, subst, unsigned_abs, ⊎_elim}
use Rattle.std.proofs.Math.Nat.{le_refl}
use Rattle.exo_tree.specs.Tree.{Param, ParamKind, ControlParam, TensorParam, WindowParam}
use Rattle.exo_meaning.specs.Value.{Value, Undefined}
use Rattle.exo_meaning.specs.Scene.{Shape, Seen, cell_at, index_of}
use Rattle.exo_meaning.specs.State.{State}
use Rattle.exo_meaning.specs.Calls.{Callee, Given, GivenNumber, GivenView, returned}
use Rattle.exo_meaning.specs.Inputs.{is_buffer_of}
use Rattle.exo_meaning.proofs.Windows.{none_is_some, cell_at_index, index_at_cell}
use Rattle.inplace_laws.specs.CallInPlace.{base_of, seen_of}
use Rattle.inplace_laws.proofs.CallInPlace.{IsMissed, missed_is_left}
use Rattle.c_tree.specs.CTree.{Name}
use Rattle.c_unit_laws.specs.Follows.Machine.Machine.{Thing, Machine}
use Rattle.c_unit_laws.specs.Follows.Machine.CRun.{still_there, back_to, with_names}
use Rattle.c_lowering.specs.Made.Lowered.{Forms, param_forms}
use Rattle.c_unit_laws.specs.Follows.Simulation.{Ground, Layout, Matches, Kept, Ran, Ends, IsHeld}
use Rattle.c_unit_laws.specs.Follows.Simulation.{IsOutside, in_range, spot_of}
use Rattle.c_unit_laws.proofs.OfFollows.Windows.{some_same}
use Rattle.c_unit_laws.proofs.OfFollows.Scopes.{closed}
use Rattle.c_unit_laws.proofs.OfFollows.Entered.{IsNumbered, IsBound, HasEntered}
use Rattle.c_unit_laws.proofs.OfFollows.Given.{param_found}
use Rattle.c_unit_laws.proofs.OfFollows.Composed.{IsOnPart, IsAtCell, at_index, indices_in}
use Rattle.c_unit_laws.proofs.OfFollows.CallEntry.{Enters, inside, names, has, part, placed_under}
use Rattle.c_unit_laws.proofs.OfFollows.CallEntry.{cell_under}
use Rattle.c_unit_laws.proofs.OfFollows.Back.{IsWritten, back_cases}

module _ (g own : Ground) (forms : Forms) (most : ℕ → ℕ) (root : ℕ → ℕ) (layout : Layout) (s inner : State) (m : Machine) (match : Matches g forms most root layout s m) (globals : Name → Option Thing) (bounds : ℕ → ℕ) (c : Callee) (gs : List Given) (ts : List Thing) (e : Enters g own layout s inner globals bounds c.procedure.params gs ts) (stored : own.stored ≡ c.writes) (u : State) (n : Machine) where
  abbrev ps : List Param
  ps = c.procedure.params

  abbrev pub callee_layout : Layout
  callee_layout = inside g own forms most root layout s inner m match globals bounds ps gs ts e

  abbrev pub begins : Machine
  begins = with_names (names g own forms most root layout s inner m match globals bounds ps gs ts e) m

  entry : HasEntered s ps gs inner
  entry = has g own forms most root layout s inner m match globals bounds ps gs ts e

  on : (x : ℕ) (shape : Shape) → inner.scene.buffers x ≡ Some shape → IsOnPart layout s inner ps gs x shape
  on = part g own forms most root layout s inner m match globals bounds ps gs ts e

  under : (x : ℕ) (shape : Shape) (q : IsOnPart layout s inner ps gs x shape) (is : List ℤ) → in_range is shape.dims ≡ true → IsAtCell layout s inner ps gs x shape q is
  under = cell_under g own forms most root layout s inner m match globals bounds ps gs ts e

  -- a spot outside of all that the caller may store in
  outside : (o : ℕ) (k : ℤ) → IsOutside g.stored layout s o k → IsOutside own.stored callee_layout inner o k
  outside o k out x shape there may is r lies =
      let q = on x shape there in
      let a = under x shape q is r in
      out q.seen.buffer q.part.shape q.part.buffer (e.may x q.seen may q.base) a.at a.inside (sym a.spot ∙ lies)

  -- and that of a cell that no written parameter has
  missed_outside : (b : ℕ) (shape : Shape) (at : List ℤ) → s.scene.buffers b ≡ Some shape → in_range at shape.dims ≡ true → IsMissed b at c.writes ps gs → IsOutside own.stored callee_layout inner (spot_of layout b shape at).object (spot_of layout b shape at).offset
  missed_outside b shape at k r missed x other there may is q lies =
      let p = on x other there in
      let a = under x other p is q in
      let one = match.apart b p.seen.buffer shape p.part.shape k p.part.buffer (e.may x p.seen may p.base) at a.at r a.inside (sym lies ∙ a.spot) in
      none_is_some (sym (missed_is_left b at c.writes ps gs missed x p.seen (sym (ap (λ f. f x) stored) ∙ may) p.base (sym one.0)) ∙ ap (index_of p.seen.sides) one.1 ∙ index_at_cell p.seen.sides is a.at a.seen)

  buffer_by : (x : ℕ) (kind : ParamKind) (v : Given) (z : Seen) → IsBound s inner.scene x kind v → IsNumbered inner.scene.control x kind v → seen_of v ≡ Some z → (shape : Shape) × (inner.scene.buffers x ≡ Some shape)
  buffer_by x (ControlParam kind) (GivenNumber n) z b number k = absurd (none_is_some k)
  buffer_by x (ControlParam kind) (GivenView y) z b number k = absurd number
  buffer_by x (TensorParam cell dims memory) (GivenNumber n) z b number k = absurd b
  buffer_by x (TensorParam cell dims memory) (GivenView y) z b number k = (_, b.buffer)
  buffer_by x (WindowParam cell dims memory) (GivenNumber n) z b number k = absurd b
  buffer_by x (WindowParam cell dims memory) (GivenView y) z b number k = (_, b.buffer)

  buffer_there : (x : ℕ) (z : Seen) → is_buffer_of x ps ≡ true → base_of ps gs x ≡ Some z → (shape : Shape) × (inner.scene.buffers x ≡ Some shape)
  buffer_there x z i k =
      let p = param_found layout s inner (param_forms ps) bounds ps gs ts e.given entry.numbered entry.bound e.good x i in
      buffer_by x p.kind p.given z p.bound p.numbered (sym p.base ∙ k)

  module _ (ends : Ends own (param_forms ps) callee_layout inner begins u n) where
    written_held : (b : ℕ) (shape : Shape) (at : List ℤ) (v : Value) → s.scene.buffers b ≡ Some shape → IsWritten c.writes u.cells b at ps gs v → IsHeld v (n.contents (spot_of layout b shape at).object (spot_of layout b shape at).offset)
    written_held b shape at v k w =
        let there = buffer_there w.param w.seen w.is_param w.base in
        let q = on w.param there.0 there.1 in
        let seen : w.seen ≡ q.seen = some_same (sym w.base ∙ q.base) in
        let at_is : cell_at q.seen.sides w.indices ≡ Some at = ap (λ (z : Seen). cell_at z.sides w.indices) (sym seen) ∙ cell_at_index w.seen.sides at w.indices w.index in
        let r : in_range w.indices there.0.dims ≡ true = ap (in_range w.indices) q.dims ∙ indices_in q.seen.sides w.indices at at_is in
        let id : q.seen.buffer ≡ b = ap (λ (z : Seen). z.buffer) (sym seen) ∙ w.buffer in
        let shapes : q.part.shape ≡ shape = some_same (sym q.part.buffer ∙ ap s.scene.buffers id ∙ k) in
        let a = at_index layout s inner ps gs m.setting.objects m.setting.free w.param there.0 q (placed_under g own forms most root layout s inner m match globals bounds ps gs ts e w.param there.0 q) w.indices at at_is in
        let spot = a.spot ∙ ap₂ (λ d f. spot_of layout d f a.at) id shapes ∙ ap (spot_of layout b shape) (some_same (sym a.seen ∙ at_is)) in
        subst (λ z. IsHeld z (n.contents (spot_of layout b shape at).object (spot_of layout b shape at).offset)) (sym w.value)
        (subst (λ p. IsHeld (u.cells w.param w.indices) (n.contents p.object p.offset)) spot (ends.cells w.param there.0 there.1 w.indices r))

    cells_back : (b : ℕ) (shape : Shape) → s.scene.buffers b ≡ Some shape → (at : List ℤ) → in_range at shape.dims ≡ true → IsHeld ((returned c gs s u).cells b at) (n.contents (spot_of layout b shape at).object (spot_of layout b shape at).offset)
    cells_back b shape k at r =
        ⊎_elim
        (λ w. written_held b shape at _ k w)
        (λ h. subst (λ z. IsHeld z (n.contents (spot_of layout b shape at).object (spot_of layout b shape at).offset)) (sym h.1)
        (subst (λ z. IsHeld (s.cells b at) z) (sym (ends.kept.untouched (layout b).object (spot_of layout b shape at).offset (match.placed b shape k).below (missed_outside b shape at k r h.0))) (match.cells b shape k at r)))
        (back_cases c.writes u.cells b at ps gs s.cells e.distinct)

    fields_back : (f : ℕ) → g.declared f ≡ true → (n.setting.fields (g.naming.field f) ≡ u.scene.fields f) × (unsigned_abs (u.scene.fields f) ≤ 2 ^ 48)
    fields_back f h = let k = ends.fields f (ap (λ d. d f) e.declared ∙ h) in (ap (λ z. n.setting.fields (z f)) (sym e.field) ∙ k.0, k.1)

    kept_until : Kept g.stored layout s m (returned c gs s u) n
    kept_until = record { buffers = λ b shape k. k; objects = ends.kept.objects; free = ends.kept.free; untouched = λ o k h out. ends.kept.untouched o k h (outside o k out) }

    kept_back : Kept g.stored layout s m (returned c gs s u) (back_to m n)
    kept_back = record {
      buffers = λ b shape k. k;
      objects = λ o h. ap (λ t. still_there t (n.setting.objects o) None) h ∙ kept_until.objects o h;
      free = le_refl m.setting.free;
      untouched = λ o k h out. ap (λ t. still_there t (n.contents o) (λ i. Undefined) k) h ∙ kept_until.untouched o k h out;
    }

    pub returned_match : Ran g forms most root layout s m (returned c gs s u) (back_to m n)
    returned_match =
        let h = closed g forms most root layout s m match (returned c gs s u) n kept_until cells_back fields_back in
        record {
          matches = record {
            names = h.names;
            fields = h.fields;
            functions = h.functions;
            cells = λ b shape k at r. subst (λ t. IsHeld ((returned c gs s u).cells b at) (still_there t (n.contents (layout b).object) (λ i. Undefined) (spot_of layout b shape at).offset)) (sym (match.placed b shape k).below) (cells_back b shape k at r);
            known = h.known;
            placed = h.placed;
            apart = h.apart;
            roots = h.roots;
          };
          kept = kept_back;
          control = refl;
          names = refl;
          same_buffers = refl;
        }
