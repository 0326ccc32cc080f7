-- A block whose accesses lie within a window does the same through a view of the window.
use Rattle.std.proofs.Common.{◌≡◌, ℕ, pos, ◌+ℤ◌, ◌-ℤ◌, ◌*ℤ◌, ◌==◌, ◌||◌, Bool, true, false}
use Rattle.std.proofs.Common.{true≢false, cond, List, [], ◌∷◌, ◌++◌, Option, Some, None, option_map}
use Rattle.std.proofs.Common.{refl, sym, ap, ap₂, ◌∙◌, eqb-true, eq-eqb}
use Rattle.exo_tree.specs.Tree.{Control, Condition, Coord, Datum, Const, Read, Negated, Relu, Plus}
use Rattle.exo_tree.specs.Tree.{Minus, Times, Select, Argument, ControlArg, ConditionArg, Whole}
use Rattle.exo_tree.specs.Tree.{Window, Param, ParamKind, ControlParam, TensorParam, WindowParam}
use Rattle.exo_meaning.specs.Value.{Value, on_one, on_two, on_four, relu, selected, stored_as}
use Rattle.exo_meaning.specs.Scene.{where_true}
use Rattle.exo_meaning.specs.Scene.{Shape, Seen, Scene, then_do, window}
use Rattle.exo_meaning.specs.Scene.{cell_at, narrowed}
use Rattle.exo_meaning.specs.State.{State, Place, place, held, put, value, changed, on_scene}
use Rattle.exo_meaning.specs.State.{with_view}
use Rattle.exo_meaning.specs.Calls.{given_all_apart, keeps_apart, copied_call}
use Rattle.exo_meaning.specs.Calls.{Callee, Given, GivenNumber, GivenView, given, all_given, truth}
use Rattle.exo_meaning.specs.Calls.{bind_buffer, bind_buffers, bind_numbers, bare, entered}
use Rattle.exo_meaning.specs.Calls.{returned, run_asserted}
use Rattle.exo_meaning.specs.Run.{argument_number, call_to}
use Rattle.exo_meaning.specs.Unseen.{in_control as control_mentions}
use Rattle.exo_meaning.specs.Unseen.{in_controls as controls_mention}
use Rattle.exo_meaning.specs.Unseen.{in_condition as condition_mentions, in_datum as datum_mentions}
use Rattle.exo_meaning.specs.Unseen.{in_coords as coords_mention, in_argument as argument_mentions}
use Rattle.exo_meaning.specs.Unseen.{in_arguments as arguments_mention}
use Rattle.exo_meaning.proofs.Compose.{then_cong}
use Rattle.exo_meaning.proofs.Frame.{or_parts, updated_other}
use Rattle.buffer_laws.specs.Staging.Converted.{indices_on, coords_on, name_on, indices_at, coords_at}
use Rattle.buffer_laws.specs.Staging.Converted.{converted_datum, converted_argument, converted_arguments}
use Rattle.buffer_laws.specs.Staging.Converted.{IndicesAt, CoordsAt}
use Rattle.buffer_laws.specs.Staging.Converted.{DatumFits, ArgumentFits, ArgumentsFit}
use Rattle.buffer_laws.proofs.OfStaging.Gone.{indices_free, coords_free}
use Rattle.buffer_laws.specs.StageMem.{asked_of_indices, asked_of_coords, asked_of_datum}
use Rattle.buffer_laws.specs.StageMem.{asked_of_arguments}
use Rattle.buffer_laws.specs.Stride.OnView.{AllHold}
use Rattle.buffer_laws.proofs.OfStride.InView.{number_same, numbers_same, holds_same, narrowed_same}
use Rattle.buffer_laws.proofs.OfStride.InView.{place_within, window_within}

-- ---- what is asked, in parts

module _ (z : Scene) where
  abbrev Both : List Condition → List Condition → Type 0
  Both cs ds = AllHold z cs × AllHold z ds

  pub hold_parts : (cs ds : List Condition) → AllHold z (cs ++ ds) → Both cs ds
  hold_parts [] ds h = (tt, h)
  hold_parts (c ∷ cs) ds h = let r = hold_parts cs ds h.1 in ((h.0, r.0), r.1)

  hold_where : (t : Bool) (cs : List Condition) → AllHold z (cond t cs []) → t ≡ true
      → AllHold z cs
  hold_where true cs h e = h
  hold_where false cs h e = absurd (true≢false (sym e))

-- ---- values

module _ (a x : ℕ) (seen : Seen) (dims : List Control) (coords : List Coord)
    (spots : coords_mention (λ y. y == a) coords ≡ false) where
  abbrev new : ℕ → Bool
  new y = y == a

  module _ (z : Scene) (there : window z x coords ≡ Some seen) where
    abbrev viewed : Scene
    viewed = with_view a seen z

    abbrev Asked : Bool → List Condition → Type 0
    Asked t cs = AllHold z (cond t cs [])

    pub place_on : (y : ℕ) (is : List Control) → new y ≡ false → controls_mention new is ≡ false
        → IndicesAt x coords z y is → Asked (y == x) (asked_of_indices coords is)
        → place viewed (name_on a x coords y) (indices_at a x coords y is) ≡ place z y is
    place_on y is other unused fit ask = go (y == x) refl
      where
        go : (t : Bool) → (y == x) ≡ t
            → place viewed (cond t a y) (cond t (indices_on coords is) is) ≡ place z y is
        go true e = place_within a x coords seen z there is (indices_free new coords is spots unused)
            (fit e) (hold_where z (y == x) (asked_of_indices coords is) ask e)
            ∙ ap (λ w. place z w is) (sym (eqb-true y x e))
        go false e = ap₂ (λ o ns. then_do o (λ w. option_map
            (λ at. record { buffer = w.buffer; at = at }) (cell_at w.sides ns)))
            (updated_other z.views a (Some seen) y other) (numbers_same a seen z is unused)

    pub window_on : (y : ℕ) (ds : List Coord) → new y ≡ false → coords_mention new ds ≡ false
        → CoordsAt x coords z y ds → Asked (y == x) (asked_of_coords coords ds)
        → window viewed (name_on a x coords y) (coords_at a x coords y ds) ≡ window z y ds
    window_on y ds other unused fit ask = go (y == x) refl
      where
        part_of : (List Coord) → Scene → Seen → Option Seen
        part_of ds w r = option_map (λ sides. record { buffer = r.buffer; sides = sides })
            (narrowed w r.sides ds)

        go : (t : Bool) → (y == x) ≡ t
            → window viewed (cond t a y) (cond t (coords_on coords ds) ds) ≡ window z y ds
        go true e = window_within a x coords seen z there ds (coords_free new coords ds spots unused)
            (fit e) (hold_where z (y == x) (asked_of_coords coords ds) ask e)
            ∙ ap (λ w. window z w ds) (sym (eqb-true y x e))
        go false e = ap (λ o. then_do o (part_of ds viewed))
            (updated_other z.views a (Some seen) y other)
            ∙ then_cong (z.views y) (part_of ds viewed) (part_of ds z) (λ r.
            ap (option_map (λ sides. record { buffer = r.buffer; sides = sides }))
            (narrowed_same a seen z r.sides ds unused))

    pub number_on : (g : Argument) → argument_mentions new g ≡ false
        → argument_number viewed (converted_argument a x coords g) ≡ argument_number z g
    number_on (ControlArg e) h = ap Some (number_same a seen z e h)
    number_on (ConditionArg c) h = ap (λ t. Some (truth t)) (holds_same a seen z c h)
    number_on (Whole y) h = refl
    number_on (Window y ds) h = refl

    whole_on : (y : ℕ) → new y ≡ false → ArgumentFits x coords z (Whole y)
        → given viewed (Whole (name_on a x coords y)) ≡ given z (Whole y)
    whole_on y other fit = go (y == x) refl
      where
        go : (t : Bool) → (y == x) ≡ t
            → option_map GivenView (viewed.views (cond t a y)) ≡ option_map GivenView (z.views y)
        go true e = ap (λ t. option_map GivenView (cond t (Some seen) (z.views a)))
            (eq-eqb a a refl) ∙ ap (option_map GivenView) (sym there ∙ fit e
            ∙ ap z.views (sym (eqb-true y x e)))
        go false e = ap (option_map GivenView) (updated_other z.views a (Some seen) y other)

    pub all_on : (gs : List Argument) → arguments_mention new gs ≡ false
        → ArgumentsFit x coords z gs → AllHold z (asked_of_arguments x dims coords gs)
        → all_given viewed (converted_arguments a x coords gs) ≡ all_given z gs
    all_on [] h fit ask = refl
    all_on (ControlArg e ∷ gs) h fit ask =
        let p = or_parts (control_mentions new e) (arguments_mention new gs) h in
        ap₂ (λ n o. option_map (λ ns. GivenNumber n ∷ ns) o) (number_same a seen z e p.0)
        (all_on gs p.1 fit.1 ask)
    all_on (ConditionArg c ∷ gs) h fit ask =
        let p = or_parts (condition_mentions new c) (arguments_mention new gs) h in
        ap₂ (λ t o. option_map (λ ns. GivenNumber (truth t) ∷ ns) o) (holds_same a seen z c p.0)
        (all_on gs p.1 fit.1 ask)
    all_on (Whole y ∷ gs) h fit ask =
        let p = or_parts (new y) (arguments_mention new gs) h in
        let q = hold_parts z _ (asked_of_arguments x dims coords gs) ask in
        ap₂ (λ o r. then_do o (λ w. option_map (λ ns. w ∷ ns) r)) (whole_on y p.0 fit.0)
        (all_on gs p.1 fit.1 q.1)
    all_on (Window y ds ∷ gs) h fit ask =
        let p = or_parts (new y || coords_mention new ds) (arguments_mention new gs) h in
        let o = or_parts (new y) (coords_mention new ds) p.0 in
        let q = hold_parts z (cond (y == x) (asked_of_coords coords ds) [])
        (asked_of_arguments x dims coords gs) ask in
        ap₂ (λ o r. then_do (option_map GivenView o) (λ w. option_map (λ ns. w ∷ ns) r))
        (window_on y ds o.0 o.1 fit.0 q.0) (all_on gs p.1 fit.1 q.1)

  abbrev pub V : State → State
  V = on_scene (with_view a seen)

  module _ (s : State) (there : window s.scene x coords ≡ Some seen) where
    pub value_on : (d : Datum) → datum_mentions new d ≡ false → DatumFits x coords s.scene d
        → AllHold s.scene (asked_of_datum x dims coords d)
        → value (V s) (converted_datum a x coords d) ≡ value s d
    value_on (Const n) h fit ask = refl
    value_on (Read y is) h fit ask =
        let p = or_parts (new y) (controls_mention new is) h in
        ap (option_map (held s.cells)) (place_on s.scene there y is p.0 p.1 fit ask)
    value_on (Negated d) h fit ask =
        ap (option_map (on_one (λ m. pos 0 -ℤ m))) (value_on d h fit ask)
    value_on (Relu d) h fit ask = ap (option_map (on_one relu)) (value_on d h fit ask)
    value_on (Plus d e) h fit ask =
        let p = or_parts (datum_mentions new d) (datum_mentions new e) h in
        let q = hold_parts s.scene (asked_of_datum x dims coords d) _ ask in
        ap₂ (λ m n. then_do m (λ u. option_map (on_two ◌+ℤ◌ u) n)) (value_on d p.0 fit.0 q.0)
        (value_on e p.1 fit.1 q.1)
    value_on (Minus d e) h fit ask =
        let p = or_parts (datum_mentions new d) (datum_mentions new e) h in
        let q = hold_parts s.scene (asked_of_datum x dims coords d) _ ask in
        ap₂ (λ m n. then_do m (λ u. option_map (on_two ◌-ℤ◌ u) n)) (value_on d p.0 fit.0 q.0)
        (value_on e p.1 fit.1 q.1)
    value_on (Times d e) h fit ask =
        let p = or_parts (datum_mentions new d) (datum_mentions new e) h in
        let q = hold_parts s.scene (asked_of_datum x dims coords d) _ ask in
        ap₂ (λ m n. then_do m (λ u. option_map (on_two ◌*ℤ◌ u) n)) (value_on d p.0 fit.0 q.0)
        (value_on e p.1 fit.1 q.1)
    value_on (Select d e f g) h fit ask =
        let p = or_parts (datum_mentions new d) _ h in
        let q = or_parts (datum_mentions new e) _ p.1 in
        let r = or_parts (datum_mentions new f) (datum_mentions new g) q.1 in
        let in_d = asked_of_datum x dims coords d in
        let in_e = asked_of_datum x dims coords e in
        let in_f = asked_of_datum x dims coords f in
        let k = hold_parts s.scene ((in_d ++ in_e) ++ in_f) (asked_of_datum x dims coords g) ask in
        let j = hold_parts s.scene (in_d ++ in_e) in_f k.0 in
        let i = hold_parts s.scene in_d in_e j.0 in
        ap₂ (λ (m n : Option Value). then_do m (λ u. then_do n (λ v.
        then_do (value (V s) (converted_datum a x coords f)) (λ w.
        option_map (on_four selected u v w) (value (V s) (converted_datum a x coords g))))))
        (value_on d p.0 fit.0 i.0) (value_on e q.0 fit.1 i.1)
        ∙ ap₂ (λ (m n : Option Value). then_do (value s d) (λ u. then_do (value s e) (λ v.
        then_do m (λ w. option_map (on_four selected u v w) n))))
        (value_on f r.0 fit.2 j.1) (value_on g r.1 fit.3 k.1)

  -- ---- stores and calls

  module _ (s : State) where
    put_on : (f : Value → Value) (p : Place) → put (V s) f p ≡ option_map V (put s f p)
    put_on f p = go (s.scene.buffers p.buffer)
      where
        go : (o : Option Shape) → option_map (λ (shape : Shape). record (V s) {
          cells = changed s.cells p (λ old. stored_as shape.cell (f old));
        }) o ≡ option_map V (option_map (λ (shape : Shape). record s {
          cells = changed s.cells p (λ old. stored_as shape.cell (f old));
        }) o)
        go None = refl
        go (Some shape) = refl

    pub store_on : (f : Value → Value → Value) (o : Option Place) (r : Option Value)
        → then_do o (λ p. then_do r (λ v. put (V s) (f v) p))
        ≡ option_map V (then_do o (λ p. then_do r (λ v. put s (f v) p)))
    store_on f None r = refl
    store_on f (Some p) None = refl
    store_on f (Some p) (Some v) = put_on (f v) p

    buffer_bound : (p : Param) (g : Given) (t : State)
        → bind_buffer (V s) p.binder.id p.kind g t ≡ bind_buffer s p.binder.id p.kind g t
    buffer_bound p g t = go p.kind g
      where
        go : (kind : ParamKind) (g : Given)
            → bind_buffer (V s) p.binder.id kind g t ≡ bind_buffer s p.binder.id kind g t
        go (ControlParam kind) g = refl
        go (TensorParam cell ds memory) (GivenNumber n) = refl
        go (TensorParam cell ds memory) (GivenView w) = refl
        go (WindowParam cell ds memory) (GivenNumber n) = refl
        go (WindowParam cell ds memory) (GivenView w) = refl

    buffers_bound : (qs : List Param) (gs : List Given) (t : State)
        → bind_buffers (V s) qs gs t ≡ bind_buffers s qs gs t
    buffers_bound [] gs t = refl
    buffers_bound (p ∷ qs) [] t = refl
    buffers_bound (p ∷ qs) (g ∷ gs) t =
        ap (λ o. then_do o (bind_buffers (V s) qs gs)) (buffer_bound p g t)
        ∙ then_cong (bind_buffer s p.binder.id p.kind g t) (bind_buffers (V s) qs gs)
        (bind_buffers s qs gs) (buffers_bound qs gs)

    entered_on : (qs : List Param) (gs : List Given) → entered qs gs (V s) ≡ entered qs gs s
    entered_on qs gs = then_cong (bind_numbers qs gs (λ y. pos 0))
        (λ control. bind_buffers (V s) qs gs (bare control s.scene.fields))
        (λ control. bind_buffers s qs gs (bare control s.scene.fields))
        (λ control. buffers_bound qs gs (bare control s.scene.fields))

    returned_on : (callee : Callee) (gs : List Given) (o : Option State)
        → option_map (returned callee gs (V s)) o
        ≡ option_map V (option_map (returned callee gs s) o)
    returned_on callee gs None = refl
    returned_on callee gs (Some t) = refl

    inner_on : (callee : Callee) (gs : List Given) (o : Option State)
        → then_do o (λ t. option_map (returned callee gs (V s)) (run_asserted callee t))
        ≡ option_map V
        (then_do o (λ t. option_map (returned callee gs s) (run_asserted callee t)))
    inner_on callee gs None = refl
    inner_on callee gs (Some t) = returned_on callee gs (run_asserted callee t)

    called_on : (callee : Callee) (o : Option (List Given))
        → then_do o (λ gs. then_do (entered callee.procedure.params gs (V s))
        (λ t. option_map (returned callee gs (V s)) (run_asserted callee t)))
        ≡ option_map V (then_do o (λ gs. then_do (entered callee.procedure.params gs s)
        (λ t. option_map (returned callee gs s) (run_asserted callee t))))
    called_on callee None = refl
    called_on callee (Some gs) =
        ap (λ o. then_do o (λ t. option_map (returned callee gs (V s)) (run_asserted callee t)))
        (entered_on callee.procedure.params gs)
        ∙ inner_on callee gs (entered callee.procedure.params gs s)

    tested_on : (t : Bool) (o : Option State)
        → where_true t (option_map V o) ≡ option_map V (where_true t o)
    tested_on true o = refl
    tested_on false o = refl

    pub call_on : (o : Option Callee) (gs hs : List Argument)
        → all_given (V s).scene hs ≡ all_given s.scene gs
        → call_to o hs (V s) ≡ option_map V (call_to o gs s)
    call_on None gs hs e = refl
    call_on (Some callee) gs hs e =
        ap (λ o. where_true (given_all_apart callee.writes callee.procedure.params o)
        (then_do o (λ ns. then_do (entered callee.procedure.params ns (V s))
        (λ t. option_map (returned callee ns (V s)) (run_asserted callee t))))) e
        ∙ ap (where_true (keeps_apart callee s.scene gs)) (called_on callee (all_given s.scene gs))
        ∙ tested_on (keeps_apart callee s.scene gs) (copied_call callee gs s)
