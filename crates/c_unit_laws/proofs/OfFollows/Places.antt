-- Cells of the source and of the C.
use Rattle.std.proofs.Common.{◌≡◌, ◌^◌, ℕ, zero, ℤ, pos, ◌+ℤ◌, ◌≤ℤ◌, Bool, true, false, ◌&&◌, List, [], ◌∷◌, length, Option, Some, None, option_map, refl, sym, ap, ◌∙◌, subst, arith, int_lt, int_le, ◌⊎◌, ⊎_elim, inl, inr}
use Rattle.std.proofs.lemmas.Int.{ints}
use Rattle.std.proofs.lemmas.Bool.{and_from}
use Rattle.std.proofs.Math.IntN.{+ℤ_idl, +ℤ_assoc}
use Rattle.exo_tree.specs.Tree.{Cell, Control}
use Rattle.exo_meaning.specs.Scene.{then_do, where_true, Shape, Scene, is_below, whole, cell_at, numbers, strides_of}
use Rattle.exo_meaning.specs.State.{Place, place}
use Rattle.exo_meaning.specs.Run.{row_major, tensor}
use Rattle.exo_meaning.specs.Laws.{HasRoots}
use Rattle.c_tree.specs.CTree.{InArray, InWindow}
use Rattle.c_unit_laws.specs.Follows.Machine.Machine.{Done, after, where_good, Pointer, Object}
use Rattle.c_unit_laws.specs.Follows.Machine.Machine.{Setting, moved, spot, number64, from_array}
use Rattle.c_unit_laws.specs.Follows.Machine.Machine.{from_window, inside, in_object}
use Rattle.c_lowering.specs.Made.Lowered.{Naming, Forms, TensorForm, WindowForm, numbers_of}
use Rattle.c_lowering.specs.Made.Lowered.{dims_of, cell_ref, cell_at_of, offset, scaled}
use Rattle.c_lowering.specs.Made.Lowered.{window_strides}
use Rattle.c_unit_laws.specs.Follows.Simulation.{Follows, Layout, HasForm, HaveForms, IsTensor}
use Rattle.c_unit_laws.specs.Follows.Simulation.{IsWindowName, IsPlaced, beginning, lower_ends, dot}
use Rattle.c_unit_laws.specs.Follows.Simulation.{in_range, spot_of, HaveNumbers}
use Rattle.c_unit_laws.specs.Follows.Good.{IsBuffer, AreGood}
use Rattle.c_unit_laws.proofs.OfFollows.Steps.{follows_none, follows_both}
use Rattle.c_unit_laws.proofs.OfFollows.Numbers.{same_numbers, offset_value}
use Rattle.c_unit_laws.proofs.OfFollows.Windows.{ArePlaced, AreNatural, natural_strides}
use Rattle.c_unit_laws.proofs.OfFollows.Windows.{natural_indices, natural_dot, natural_seen}
use Rattle.c_unit_laws.proofs.OfFollows.Windows.{natural_part, natural_lower, strides_length}
use Rattle.c_unit_laws.proofs.OfFollows.Windows.{seen_in_range, window_offset, scaled_value}
use Rattle.c_unit_laws.proofs.OfFollows.Windows.{window_strides_are}

-- a whole buffer's cell is at the indices themselves, where they are in range
pub whole_cell : (is ds : List ℤ) → (cell_at (whole ds) is ≡ None) ⊎ ((in_range is ds ≡ true) × (cell_at (whole ds) is ≡ Some is))
whole_cell [] [] = inr (refl, refl)
whole_cell (i ∷ is) [] = inl refl
whole_cell [] (d ∷ ds) = inl refl
whole_cell (i ∷ is) (d ∷ ds) = go (is_below i d) (whole_cell is ds)
  where
    go : (t : Bool) → (cell_at (whole ds) is ≡ None) ⊎ ((in_range is ds ≡ true) × (cell_at (whole ds) is ≡ Some is)) → (where_true t (option_map (λ at. (pos 0 +ℤ i) ∷ at) (cell_at (whole ds) is)) ≡ None) ⊎ ((t && in_range is ds ≡ true) × (where_true t (option_map (λ at. (pos 0 +ℤ i) ∷ at) (cell_at (whole ds) is)) ≡ Some (i ∷ is)))
    go false r = inl refl
    go true r = ⊎_elim (λ h. inl (ap (option_map (λ at. (pos 0 +ℤ i) ∷ at)) h)) (λ h. inr (h.0, ap (option_map (λ at. (pos 0 +ℤ i) ∷ at)) h.1 ∙ ap (λ j. Some (j ∷ is)) (+ℤ_idl i))) r

-- a cell of the source, and where it lies
pub record AreOne (layout : Layout) (scene : Scene) (setting : Setting) (root : ℕ) (cell : Cell) (p : Place) (q : Pointer) : Type 0 where
  pub shape : Shape
  pub object : Object
  pub of_root : p.buffer ≡ root
  pub buffer : scene.buffers p.buffer ≡ Some shape
  pub in_buffer : in_range p.at shape.dims ≡ true
  pub lies : spot_of layout p.buffer shape p.at ≡ q
  pub there : setting.objects q.object ≡ Some object
  pub cell_here : shape.cell ≡ cell
  pub cell_there : object.cell ≡ cell

at_least : (a b : ℤ) → a ≤ℤ b → int_le a b ≡ true
at_least a b h = grind (arith, ints)

less : (a b : ℤ) → (a +ℤ pos 1) ≤ℤ b → int_lt a b ≡ true
less a b h = grind (arith, ints)

in_size : (base f size : ℤ) → pos 0 ≤ℤ base → pos 0 ≤ℤ f → ((base +ℤ f) +ℤ pos 1) ≤ℤ size → (int_le (pos 0) (base +ℤ f) && int_lt (base +ℤ f) size) ≡ true
in_size base f size h i j = and_from (int_le (pos 0) (base +ℤ f)) (int_lt (base +ℤ f) size) (at_least (pos 0) (base +ℤ f) (omega (arith, ints))) (less (base +ℤ f) size j)

module _ (layout : Layout) (scene : Scene) (setting : Setting) (placed : ArePlaced layout scene setting) (b : ℕ) (shape : Shape) (buffer : scene.buffers b ≡ Some shape) (at : List ℤ) (inner : in_range at shape.dims ≡ true) where
  abbrev here : IsPlaced layout setting.objects setting.free b shape
  here = placed b shape buffer

  from_0 : pos 0 ≤ℤ dot at shape.strides
  from_0 = let n = natural_dot at shape.strides (natural_indices at shape.dims inner) (natural_strides shape.strides here.strides) in subst (λ z. pos 0 ≤ℤ z) (sym n.1) (omega (arith, ints))

  -- a cell of a buffer lies in its object
  pub cell_inside : inside setting (spot_of layout b shape at) ≡ Done (spot_of layout b shape at)
  cell_inside =
      ap (λ o. where_good (in_object o ((layout b).offset +ℤ dot at shape.strides)) (Done (spot_of layout b shape at))) here.there
      ∙ ap (λ t. where_good t (Done (spot_of layout b shape at))) (in_size _ _ _ here.above from_0 (here.inside at inner))

  -- and so its offset is at most 2 ^ 48
  pub offset_few : dot at shape.strides ≤ℤ pos (2 ^ 48)
  offset_few = below (layout b).offset (dot at shape.strides) here.object.size here.above (here.inside at inner) here.few
    where
      below : (base f size : ℤ) → pos 0 ≤ℤ base → ((base +ℤ f) +ℤ pos 1) ≤ℤ size → size ≤ℤ pos (2 ^ 48) → f ≤ℤ pos (2 ^ 48)
      below base f size h k l = omega (arith, ints)

module _ (naming : Naming) (forms : Forms) (most : ℕ → ℕ) (layout : Layout) (scene : Scene) (setting : Setting) (match : HaveForms naming forms most layout scene setting.names) where
  pub tensor_here : (x : ℕ) (cell : Cell) (dims : List Control) (lanes : ℕ) → forms x ≡ TensorForm cell dims lanes → IsTensor naming forms most layout scene.control scene.buffers scene.views setting.names x cell dims lanes
  tensor_here x cell dims lanes h = subst (HasForm naming forms most layout scene.control scene.buffers scene.views setting.names x) h (match x)

  pub window_here : (x : ℕ) (cell : Cell) (rank : ℕ) → forms x ≡ WindowForm cell rank → IsWindowName naming forms most layout scene.control scene.buffers scene.views setting.names x cell rank
  window_here x cell rank h = subst (HasForm naming forms most layout scene.control scene.buffers scene.views setting.names x) h (match x)

  module _ (placed : ArePlaced layout scene setting) (root : ℕ → ℕ) (roots : HasRoots root scene) (x : ℕ) (cell : Cell) (is : List Control) (good : AreGood forms most is) where
    abbrev ns : List ℤ
    ns = numbers scene is

    abbrev One : Place → Pointer → Type 0
    One = AreOne layout scene setting (root x) cell

    indices : HaveNumbers setting (numbers_of naming forms is) ns
    indices = same_numbers naming forms most layout scene setting match _ is good.0 good.1

    -- ---- of a tensor

    module _ (dims : List Control) (t : IsTensor naming forms most layout scene.control scene.buffers scene.views setting.names x cell dims zero) where
      abbrev place_of : List ℤ → Place
      place_of at = record { buffer = x; at = at }

      abbrev tensor_spot : List ℤ → Pointer
      tensor_spot at = spot_of layout x (tensor cell t.extents) at

      spot_value : in_range ns t.extents ≡ true → spot setting (InArray (naming.binder x) (offset (numbers_of naming forms is) (dims_of naming dims))) ≡ Done (tensor_spot ns)
      spot_value r =
          let extents = subst (HaveNumbers setting (dims_of naming dims)) (t.numbers_are scene refl) (same_numbers naming forms most layout scene setting match _ dims t.plain t.narrow) in
          ap (λ o. after o (λ k. after (from_array (setting.names (naming.binder x)) k) (inside setting))) (offset_value setting _ _ ns t.extents indices extents r t.few)
          ∙ ap (λ n. after (from_array n (dot ns (row_major t.extents))) (inside setting)) t.name
          ∙ cell_inside layout scene setting placed x (tensor cell t.extents) t.shape ns r

      place_is : place scene x is ≡ option_map place_of (cell_at (whole t.extents) ns)
      place_is = ap (λ o. then_do o (λ seen. option_map (λ at. record { buffer = seen.buffer; at = at }) (cell_at seen.sides ns))) t.view

      tensor_follows : (Few : Type 0) → Follows Few One (place scene x is) (spot setting (InArray (naming.binder x) (offset (numbers_of naming forms is) (dims_of naming dims))))
      tensor_follows Few = ⊎_elim
          (λ h. follows_none Few _ _ _ (place_is ∙ ap (option_map place_of) h))
          (λ h. follows_both Few _ _ _ (place_of ns) (tensor_spot ns) (place_is ∙ ap (option_map place_of) h.1) (spot_value h.0) (record {
            shape = tensor cell t.extents;
            object = (placed x _ t.shape).object;
            of_root = roots x _ t.view;
            buffer = t.shape;
            in_buffer = h.0;
            lies = refl;
            there = (placed x _ t.shape).there;
            cell_here = refl;
            cell_there = (placed x _ t.shape).same_cell;
          }))
          (whole_cell ns t.extents)

    -- ---- of a window

    module _ (rank : ℕ) (w : IsWindowName naming forms most layout scene.control scene.buffers scene.views setting.names x cell rank) where
      abbrev strides : List ℤ
      strides = strides_of w.seen.sides w.shape.strides

      abbrev seen_at : List ℤ → Place
      seen_at at = record { buffer = w.seen.buffer; at = at }

      window_place : place scene x is ≡ option_map (λ at. record { buffer = w.seen.buffer; at = at }) (cell_at w.seen.sides ns)
      window_place = ap (λ o. then_do o (λ seen. option_map (λ at. record { buffer = seen.buffer; at = at }) (cell_at seen.sides ns))) w.view

      abbrev buffer_here : IsPlaced layout setting.objects setting.free w.seen.buffer w.shape
      buffer_here = placed w.seen.buffer w.shape w.buffer

      rank_is : length strides ≡ rank
      rank_is = strides_length w.shape.dims w.shape.strides w.seen.sides w.within buffer_here.ranks ∙ w.rank_is

      natural : AreNatural w.shape.strides
      natural = natural_strides w.shape.strides buffer_here.strides

      module _ (at : List ℤ) (e : cell_at w.seen.sides ns ≡ Some at) where
        inner : in_range at w.shape.dims ≡ true
        inner = seen_in_range w.shape.dims w.seen.sides ns at w.within e

        split : dot at w.shape.strides ≡ dot (lower_ends w.seen.sides) w.shape.strides +ℤ dot ns strides
        split = window_offset w.seen.sides w.shape.strides ns at natural e

        few_here : dot ns strides ≤ℤ pos (2 ^ 48)
        few_here =
            let low = natural_dot (lower_ends w.seen.sides) w.shape.strides (natural_lower w.shape.dims w.seen.sides w.within) natural in
            second low.0 (dot (lower_ends w.seen.sides) w.shape.strides) (dot ns strides) (dot at w.shape.strides) low.1 split (offset_few layout scene setting placed w.seen.buffer w.shape w.buffer at inner)
          where
            second : (n : ℕ) (a b c : ℤ) → a ≡ pos n → c ≡ a +ℤ b → c ≤ℤ pos (2 ^ 48) → b ≤ℤ pos (2 ^ 48)
            second n a b c h k l = omega (arith, ints, h, k, l)

        offset_is : number64 setting (scaled (numbers_of naming forms is) (window_strides (naming.binder x) 0 rank)) ≡ Done (dot ns strides)
        offset_is =
            scaled_value setting _ _ ns strides indices (subst (λ r. HaveNumbers setting (window_strides (naming.binder x) 0 r) strides) rank_is (window_strides_are setting (naming.binder x) (beginning layout w.shape w.seen) strides w.name))
            (natural_seen w.seen.sides ns at e) (natural_part w.seen.sides w.shape.strides natural) few_here

        lies_is : spot_of layout w.seen.buffer w.shape at ≡ moved (beginning layout w.shape w.seen) (dot ns strides)
        lies_is =
            ap (λ z. record { object = (layout w.seen.buffer).object; offset = (layout w.seen.buffer).offset +ℤ z }) split
            ∙ ap (λ z. record { object = (layout w.seen.buffer).object; offset = z }) (sym (+ℤ_assoc (layout w.seen.buffer).offset (dot (lower_ends w.seen.sides) w.shape.strides) (dot ns strides)))

        pub window_spot : spot setting (InWindow (naming.binder x) (scaled (numbers_of naming forms is) (window_strides (naming.binder x) 0 rank))) ≡ Done (spot_of layout w.seen.buffer w.shape at)
        window_spot =
            ap (λ o. after o (λ k. after (from_window (setting.names (naming.binder x)) k) (inside setting))) offset_is
            ∙ ap (λ n. after (from_window n (dot ns strides)) (inside setting)) w.name
            ∙ ap (inside setting) (sym lies_is)
            ∙ cell_inside layout scene setting placed w.seen.buffer w.shape w.buffer at inner

        one_here : One (seen_at at) (spot_of layout w.seen.buffer w.shape at)
        one_here = record {
          shape = w.shape;
          object = buffer_here.object;
          of_root = roots x _ w.view;
          buffer = w.buffer;
          in_buffer = inner;
          lies = refl;
          there = buffer_here.there;
          cell_here = w.cell_is;
          cell_there = buffer_here.same_cell ∙ w.cell_is;
        }

      window_follows : (Few : Type 0) → Follows Few One (place scene x is) (spot setting (InWindow (naming.binder x) (scaled (numbers_of naming forms is) (window_strides (naming.binder x) 0 rank))))
      window_follows Few = go (cell_at w.seen.sides ns) refl
        where
          go : (o : Option (List ℤ)) → cell_at w.seen.sides ns ≡ o → Follows Few One (place scene x is) (spot setting (InWindow (naming.binder x) (scaled (numbers_of naming forms is) (window_strides (naming.binder x) 0 rank))))
          go None e = follows_none Few _ _ _ (window_place ∙ ap (option_map (λ at. record { buffer = w.seen.buffer; at = at })) e)
          go (Some at) e = follows_both Few _ _ _ (seen_at at) (spot_of layout w.seen.buffer w.shape at) (window_place ∙ ap (option_map (λ at. record { buffer = w.seen.buffer; at = at })) e) (window_spot at e) (one_here at e)

  -- the cell of a name on both sides
  pub cell_follows : ArePlaced layout scene setting → (root : ℕ → ℕ) → HasRoots root scene → (Few : Type 0) (x : ℕ) (is : List Control) (h : IsBuffer forms x (length is)) → AreGood forms most is → Follows Few (AreOne layout scene setting (root x) h.0) (place scene x is) (spot setting (cell_at_of naming forms x is))
  cell_follows placed root roots Few x is h good =
      ⊎_elim
      (λ w. subst (λ f. Follows Few (AreOne layout scene setting (root x) h.0) (place scene x is) (spot setting (cell_ref naming x f (numbers_of naming forms is)))) (sym w.0) (window_follows placed root roots x h.0 is good (length is) (window_here x h.0 (length is) w.0) Few))
      (λ t. subst (λ f. Follows Few (AreOne layout scene setting (root x) h.0) (place scene x is) (spot setting (cell_ref naming x f (numbers_of naming forms is)))) (sym t.1) (tensor_follows placed root roots x h.0 is good t.0 (tensor_here x h.0 t.0 zero t.1) Few))
      h.1
