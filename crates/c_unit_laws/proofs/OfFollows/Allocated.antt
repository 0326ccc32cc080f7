-- A buffer more in scope, and the end of its object.
use Rattle.std.proofs.Common.{◌≡◌, ◌^◌, ℕ, zero, suc, ℤ, pos, ◌+ℤ◌, ◌*ℤ◌, ◌≤ℤ◌, Bool, true, false, ◌&&◌, ◌==◌, cond, List, Option, Some, None, refl, sym, ap, ap₂, ◌∙◌, subst, arith, true≢false, ⊎_elim, inl, inr, eqb-true, eq-eqb, nat_lt}
use Rattle.std.specs.Ordering.{int_eq}
use Rattle.std.proofs.Math.IntN.{+ℤ_idl}
use Rattle.std.proofs.lemmas.Int.{ints}
use Rattle.std.proofs.Math.Nat.{le_trans}
use Rattle.exo_tree.specs.Tree.{Cell, Control}
use Rattle.exo_meaning.specs.Value.{Undefined}
use Rattle.exo_meaning.specs.Scene.{Shape, Seen, numbers, updated, whole}
use Rattle.exo_meaning.specs.State.{State, with_contents, on_scene, with_buffer}
use Rattle.exo_meaning.specs.Calls.{all_positive}
use Rattle.exo_meaning.specs.Run.{product, row_major, tensor}
use Rattle.exo_meaning.specs.Laws.{HasRoots}
use Rattle.c_tree.specs.CTree.{Name, Element, CBlock, stop, first, Free}
use Rattle.c_unit_laws.specs.Follows.Machine.Machine.{Outcome, Done, Fault, NoStore, after}
use Rattle.c_unit_laws.specs.Follows.Machine.Machine.{where_good, Pointer, IsFunction, Object}
use Rattle.c_unit_laws.specs.Follows.Machine.Machine.{Setting, Machine, same_name, moved}
use Rattle.c_unit_laws.specs.Follows.Machine.CRun.{CWorld, run_c, cell_of, lanes_of, array_thing}
use Rattle.c_unit_laws.specs.Follows.Machine.CRun.{made, freed, free_under}
use Rattle.c_lowering.specs.Made.Lowered.{Forms, Form, NoForm, TensorForm}
use Rattle.c_unit_laws.specs.Follows.Simulation.{Ground, Follows, AreSameFields, Layout, HasForm}
use Rattle.c_unit_laws.specs.Follows.Simulation.{IsPlaced, Matches, Kept, Ends, IsHeld, IsOutside}
use Rattle.c_unit_laws.specs.Follows.Simulation.{EndsIn, array_at, in_range, spot_of, dot}
use Rattle.c_unit_laws.specs.Follows.Good.{AreGood, IsFresh}
use Rattle.c_unit_laws.proofs.OfFollows.Offsets.{injective}
use Rattle.c_unit_laws.proofs.OfFollows.Steps.{follows_weaken}
use Rattle.c_unit_laws.proofs.OfFollows.Wider.{IsWider, form_kept, all_plain_wider, placed_on}
use Rattle.c_unit_laws.proofs.OfFollows.Wider.{none_tensor}
use Rattle.c_unit_laws.proofs.OfFollows.Scopes.{same_name_self, numbers_by_control, other}
use Rattle.c_unit_laws.proofs.OfFollows.Scopes.{other_text}
use Rattle.c_unit_laws.proofs.OfFollows.Counts.{rows_small, row_ranks, row_inside}

some_same : {A : Type 0} {a b : A} → Some a ≡ Some b → a ≡ b
some_same e = cc

below_is : (a b : ℕ) → nat_lt a b ≡ true → (a == b) ≡ false
below_is a b h = grind arith

at_free : (n : ℕ) → nat_lt n (suc n) ≡ true
at_free n = grind arith

not_below : (n : ℕ) → nat_lt n n ≡ false
not_below n = grind arith

below_more : (a b : ℕ) → nat_lt a b ≡ true → nat_lt a (suc b) ≡ true
below_more a b h = grind arith

-- vectors are freed as cells are
free_is : (lanes : ℕ) (p : Pointer) (s : Setting) → free_under (Some (array_at lanes p)) s ≡ freed p (s.objects p.object) s
free_is zero p s = refl
free_is (suc n) p s = refl

module _ (g : Ground) (forms : Forms) (most : ℕ → ℕ) (root : ℕ → ℕ) (layout : Layout) (x : ℕ) (cell : Cell) (dims : List Control) (lanes : ℕ) (good : AreGood forms most dims) (fresh : IsFresh g forms x) (s : State) (m : Machine) (match : Matches g forms most root layout s m) (above : all_positive (numbers s.scene dims) ≡ true) (fits : product (numbers s.scene dims) ≤ℤ pos (2 ^ 48)) (last : EndsIn lanes (numbers s.scene dims)) (heap : Bool) (element : Element) (count : ℤ) (is_cell : cell_of element ≡ cell) (is_thing : (p : Pointer) → array_thing element p ≡ array_at lanes p) (is_size : (count *ℤ pos (lanes_of element)) ≡ product (numbers s.scene dims)) where
  abbrev extents : List ℤ
  extents = numbers s.scene dims

  abbrev more_forms : Forms
  more_forms = updated forms x (TensorForm cell dims lanes)

  abbrev pointer : Pointer
  pointer = record { object = m.setting.free; offset = pos 0 }

  abbrev object : Object
  object = record { cell = cell_of element; size = count *ℤ pos (lanes_of element); heap = heap }

  abbrev new_layout : Layout
  new_layout = updated layout x pointer

  abbrev new_state : State
  new_state = with_contents x (λ at. Undefined) (on_scene (with_buffer x (tensor cell extents)) s)

  abbrev new_machine : Machine
  new_machine = made heap element (g.naming.binder x) count m

  abbrev seen_whole : Seen
  seen_whole = record { buffer = x; sides = whole extents }

  abbrev New : ℕ → Form → Type 0
  New = HasForm g.naming more_forms most new_layout new_state.scene.control new_state.scene.buffers new_state.scene.views new_machine.setting.names

  -- ---- what was there

  -- a buffer of before is another one
  old_buffer : (b : ℕ) (shape : Shape) → s.scene.buffers b ≡ Some shape → (b == x) ≡ false
  old_buffer b shape e = other g forms x fresh b (match.known b shape e)

  new_buffer : (b : ℕ) (shape : Shape) → (b == x) ≡ false → new_state.scene.buffers b ≡ Some shape → s.scene.buffers b ≡ Some shape
  new_buffer b shape d e = sym (ap (λ t. cond t (Some (tensor cell extents)) (s.scene.buffers b)) d) ∙ e

  old_layout : (y : ℕ) → (y == x) ≡ false → new_layout y ≡ layout y
  old_layout y h = ap (λ t. cond t pointer (layout y)) h

  this_layout : (y : ℕ) → (y == x) ≡ true → new_layout y ≡ pointer
  this_layout y h = ap (λ t. cond t pointer (layout y)) h

  old_object : (o : ℕ) → nat_lt o m.setting.free ≡ true → new_machine.setting.objects o ≡ m.setting.objects o
  old_object o h = ap (λ t. cond t (Some object) (m.setting.objects o)) (below_is o m.setting.free h)

  new_contents : (o : ℕ) (at : ℤ) → nat_lt o m.setting.free ≡ true → new_machine.contents o at ≡ m.contents o at
  new_contents o at h = ap (λ t. cond t (λ k. Undefined) (m.contents o) at) (below_is o m.setting.free h)

  wider : IsWider g.naming forms more_forms most most layout new_layout s.scene.control new_state.scene.control s.scene.buffers new_state.scene.buffers s.scene.views new_state.scene.views m.setting.names new_machine.setting.names
  wider = record {
    form = λ y h. ap (λ t. cond t (TensorForm cell dims lanes) (forms y)) (other g forms x fresh y h);
    bound = λ y h. refl;
    number = λ y h. refl;
    view = λ y h. ap (λ t. cond t (Some seen_whole) (s.scene.views y)) (other g forms x fresh y h);
    name = λ y h. ap (λ b. cond b (Some (array_thing element pointer)) (m.setting.names (g.naming.binder y))) (other_text g forms x fresh y h);
    buffer = λ b shape e. ap (λ t. cond t (Some (tensor cell extents)) (s.scene.buffers b)) (old_buffer b shape e) ∙ e;
    place = λ b shape e. old_layout b (old_buffer b shape e);
  }

  -- ---- what is new

  new_name : (y : ℕ) → (y == x) ≡ true → new_machine.setting.names (g.naming.binder y) ≡ Some (array_at lanes pointer)
  new_name y e =
      ap (λ b. cond b (Some (array_thing element pointer)) (m.setting.names (g.naming.binder y))) (subst (λ z. same_name (g.naming.binder y) (g.naming.binder z) ≡ true) (eqb-true y x e) (same_name_self (g.naming.binder y)))
      ∙ ap (λ t. Some t) (is_thing pointer)

  new_tensor : (y : ℕ) → (y == x) ≡ true → New y (TensorForm cell dims lanes)
  new_tensor y e = record {
    extents = extents;
    plain = all_plain_wider g.naming forms more_forms most most layout new_layout _ _ _ _ _ _ _ _ wider dims good.0;
    narrow = good.1;
    numbers_are = λ scene k. numbers_by_control forms scene s.scene k dims good.0;
    shape = ap (λ t. cond t (Some (tensor cell extents)) (s.scene.buffers y)) e;
    view = ap (λ t. cond t (Some seen_whole) (s.scene.views y)) e ∙ ap (λ z. Some (record { buffer = z; sides = whole extents })) (sym (eqb-true y x e));
    positive = above;
    few = fits;
    last = last;
    name = new_name y e ∙ ap (λ p. Some (array_at lanes p)) (sym (this_layout y e));
  }

  names_there : (y : ℕ) → New y (more_forms y)
  names_there y = go (y == x) refl
    where
      go : (t : Bool) → (y == x) ≡ t → New y (cond t (TensorForm cell dims lanes) (forms y))
      go true e = new_tensor y e
      go false e = form_kept g.naming forms more_forms most most layout new_layout _ _ _ _ _ _ _ _ wider y (forms y) refl (match.names y)

  new_shape : (d : ℕ) (form : Shape) → (d == x) ≡ true → new_state.scene.buffers d ≡ Some form → form ≡ tensor cell extents
  new_shape d form i h = some_same (sym h ∙ ap (λ t. cond t (Some (tensor cell extents)) (s.scene.buffers d)) i)

  new_placed : (b : ℕ) → (b == x) ≡ true → IsPlaced new_layout new_machine.setting.objects new_machine.setting.free b (tensor cell extents)
  new_placed b d =
      let same = this_layout b d in
      record {
        object = object;
        there = ap (λ p. new_machine.setting.objects p.object) same ∙ ap (λ t. cond t (Some object) (m.setting.objects m.setting.free)) (eq-eqb m.setting.free m.setting.free refl);
        below = ap (λ p. nat_lt p.object (suc m.setting.free)) same ∙ at_free m.setting.free;
        same_cell = is_cell;
        few = subst (λ z. z ≤ℤ pos (2 ^ 48)) (sym is_size) fits;
        above = subst (λ p. pos 0 ≤ℤ p.offset) (sym same) (omega (arith, ints));
        positive = above;
        ranks = row_ranks extents;
        strides = rows_small extents above fits;
        inside = λ at r. subst (λ p. ((p.offset +ℤ dot at (row_major extents)) +ℤ pos 1) ≤ℤ (count *ℤ pos (lanes_of element))) (sym same) (row_inside at extents (count *ℤ pos (lanes_of element)) (sym is_size) r);
      }

  placed_there : (b : ℕ) (shape : Shape) → new_state.scene.buffers b ≡ Some shape → IsPlaced new_layout new_machine.setting.objects new_machine.setting.free b shape
  placed_there b shape e = go (b == x) refl
    where
      go : (t : Bool) → (b == x) ≡ t → IsPlaced new_layout new_machine.setting.objects new_machine.setting.free b shape
      go true d = subst (IsPlaced new_layout new_machine.setting.objects new_machine.setting.free b) (sym (new_shape b shape d e)) (new_placed b d)
      go false d =
          let h = match.placed b shape (new_buffer b shape d e) in
          placed_on layout new_layout m.setting.objects new_machine.setting.objects m.setting.free new_machine.setting.free b shape (old_layout b d) (old_object (layout b).object h.below) (below_more (layout b).object m.setting.free h.below) h

  cells_there : (b : ℕ) (shape : Shape) → new_state.scene.buffers b ≡ Some shape → (at : List ℤ) → in_range at shape.dims ≡ true → IsHeld (new_state.cells b at) (new_machine.contents (spot_of new_layout b shape at).object (spot_of new_layout b shape at).offset)
  cells_there b shape e at r = go (b == x) refl
    where
      go : (t : Bool) → (b == x) ≡ t → IsHeld (cond t (λ is. Undefined) (s.cells b) at) (new_machine.contents (spot_of new_layout b shape at).object (spot_of new_layout b shape at).offset)
      go true d = tt
      go false d =
          let f = new_buffer b shape d e in
          subst (λ p. IsHeld (s.cells b at) (new_machine.contents p.object (p.offset +ℤ dot at shape.strides))) (sym (old_layout b d))
          (subst (λ v. IsHeld (s.cells b at) v) (sym (new_contents (layout b).object _ (match.placed b shape f).below)) (match.cells b shape f at r))

  known_there : (b : ℕ) (shape : Shape) → new_state.scene.buffers b ≡ Some shape → more_forms b ≡ NoForm → ⊥
  known_there b shape e h = go (b == x) refl
    where
      go : (t : Bool) → (b == x) ≡ t → ⊥
      go true d = none_tensor (sym h ∙ ap (λ t. cond t (TensorForm cell dims lanes) (forms b)) d)
      go false d = match.known b shape (new_buffer b shape d e) (sym (ap (λ t. cond t (TensorForm cell dims lanes) (forms b)) d) ∙ h)

  apart_there : (b c : ℕ) (shape other_shape : Shape) → new_state.scene.buffers b ≡ Some shape → new_state.scene.buffers c ≡ Some other_shape → g.stored c ≡ true → (at bt : List ℤ) → in_range at shape.dims ≡ true → in_range bt other_shape.dims ≡ true → spot_of new_layout b shape at ≡ spot_of new_layout c other_shape bt → (b ≡ c) × (at ≡ bt)
  apart_there b c shape other_shape e f may at bt r q same = go (b == x) (c == x) refl refl
    where
      no_clash : (d : ℕ) (form : Shape) → (d == x) ≡ false → new_state.scene.buffers d ≡ Some form → m.setting.free ≡ (layout d).object → ⊥
      no_clash d form i h k = true≢false (sym (match.placed d form (new_buffer d form i h)).below ∙ ap (λ o. nat_lt o m.setting.free) (sym k) ∙ not_below m.setting.free)

      objects : (new_layout b).object ≡ (new_layout c).object
      objects = ap (λ p. p.object) same

      go : (t u : Bool) → (b == x) ≡ t → (c == x) ≡ u → (b ≡ c) × (at ≡ bt)
      go true true i h =
          let left = ap₂ (λ p z. p.offset +ℤ dot at z.strides) (this_layout b i) (new_shape b shape i e) in
          let right = ap₂ (λ p z. p.offset +ℤ dot bt z.strides) (this_layout c h) (new_shape c other_shape h f) in
          let offsets = sym (+ℤ_idl (dot at (row_major extents))) ∙ sym left ∙ ap (λ p. p.offset) same ∙ right ∙ +ℤ_idl (dot bt (row_major extents)) in
          (eqb-true b x i ∙ sym (eqb-true c x h), injective at bt extents (subst (λ z. in_range at z.dims ≡ true) (new_shape b shape i e) r) (subst (λ z. in_range bt z.dims ≡ true) (new_shape c other_shape h f) q) offsets)
      go true false i h = absurd (no_clash c other_shape h f (sym (ap (λ p. p.object) (this_layout b i)) ∙ objects ∙ ap (λ p. p.object) (old_layout c h)))
      go false true i h = absurd (no_clash b shape i e (sym (ap (λ p. p.object) (this_layout c h)) ∙ sym objects ∙ ap (λ p. p.object) (old_layout b i)))
      go false false i h =
          match.apart b c shape other_shape (new_buffer b shape i e) (new_buffer c other_shape h f) may at bt r q
          (sym (ap (λ p. moved p (dot at shape.strides)) (old_layout b i)) ∙ same ∙ ap (λ p. moved p (dot bt other_shape.strides)) (old_layout c h))

  fields_there : AreSameFields g.naming g.declared new_state.scene.fields new_machine.setting.names new_machine.setting.fields
  fields_there f h = record { name = ap (λ b. cond b (Some (array_thing element pointer)) (m.setting.names (g.naming.field f))) (fresh.no_field f h) ∙ (match.fields f h).name; same = (match.fields f h).same; small = (match.fields f h).small }

  functions_there : (f : Name) → g.function f ≡ true → new_machine.setting.names f ≡ Some IsFunction
  functions_there f h = ap (λ b. cond b (Some (array_thing element pointer)) (m.setting.names f)) (fresh.no_function f h) ∙ match.functions f h

  roots_there : HasRoots (updated root x x) new_state.scene
  roots_there y seen e = go (y == x) refl
    where
      go : (t : Bool) → (y == x) ≡ t → seen.buffer ≡ updated root x x y
      go true d = ap (λ z. z.buffer) (some_same (sym e ∙ ap (λ t. cond t (Some seen_whole) (s.scene.views y)) d)) ∙ sym (ap (λ t. cond t x (root y)) d)
      go false d = match.roots y seen (sym (ap (λ t. cond t (Some seen_whole) (s.scene.views y)) d) ∙ e) ∙ sym (ap (λ t. cond t x (root y)) d)

  pub allocated_match : Matches g more_forms most (updated root x x) new_layout new_state new_machine
  allocated_match = record { names = names_there; fields = fields_there; functions = functions_there; cells = cells_there; known = known_there; placed = placed_there; apart = apart_there; roots = roots_there }

  kept_there : Kept g.stored layout s m new_state new_machine
  kept_there = record {
    buffers = λ b shape e. ap (λ t. cond t (Some (tensor cell extents)) (s.scene.buffers b)) (old_buffer b shape e) ∙ e;
    objects = old_object;
    free = omega arith;
    untouched = λ o k h out. new_contents o k h;
  }

  -- ---- the end of the block

  module _ (Few : Type 0) (c_world : CWorld) (go : State → Option State) (c : CBlock) (rest : Matches g more_forms most (updated root x x) new_layout new_state new_machine → Follows Few (Ends g more_forms new_layout new_state new_machine) (go new_state) (run_c c_world c new_machine)) where
    abbrev with_objects : (ℕ → Option Object) → Machine → Machine
    with_objects objects n = record n { setting = record n.setting { objects = objects } }

    -- all but the new one
    abbrev without : (ℕ → Option Object) → ℕ → Option Object
    without objects k = cond (k == m.setting.free) None (objects k)

    object_there : new_machine.setting.objects m.setting.free ≡ Some object
    object_there = ap (λ t. cond t (Some object) (m.setting.objects m.setting.free)) (eq-eqb m.setting.free m.setting.free refl)

    bound_there : more_forms x ≡ TensorForm cell dims lanes
    bound_there = ap (λ t. cond t (TensorForm cell dims lanes) (forms x)) (eq-eqb x x refl)

    freed_is : heap ≡ true → (u : State) (p : Machine) → Ends g more_forms new_layout new_state new_machine u p → run_c c_world (first (Free (g.naming.binder x)) stop) p ≡ Done (with_objects (without p.setting.objects) p)
    freed_is on_heap u p r =
        let name : p.setting.names (g.naming.binder x) ≡ Some (array_at lanes pointer) = ⊎_elim (λ e. absurd (none_tensor (sym e ∙ bound_there))) (λ e. e ∙ new_name x (eq-eqb x x refl)) (r.names x) in
        let held : p.setting.objects m.setting.free ≡ Some object = r.kept.objects m.setting.free (at_free m.setting.free) ∙ object_there in
        ap (λ o. after (after (free_under o p.setting) (λ z. Done (record p { setting = z }))) (λ z. Done z)) name
        ∙ ap (λ o. after (after o (λ z. Done (record p { setting = z }))) (λ z. Done z)) (free_is lanes pointer p.setting)
        ∙ ap (λ o. after (after (freed pointer o p.setting) (λ z. Done (record p { setting = z }))) (λ z. Done z)) held
        ∙ ap (λ b. after (after (where_good (b && int_eq (pos 0) (pos 0)) (Done (record p.setting { objects = without p.setting.objects }))) (λ z. Done (record p { setting = z }))) (λ z. Done z)) on_heap

    all_ends : (u : State) (p : Machine) → Ends g more_forms new_layout new_state new_machine u p → (objects : ℕ → Option Object) → ((o : ℕ) → nat_lt o m.setting.free ≡ true → objects o ≡ p.setting.objects o) → Ends g forms layout s m u (with_objects objects p)
    all_ends u p r objects same = record {
      kept = record {
        buffers = λ b shape e. r.kept.buffers b shape (kept_there.buffers b shape e);
        objects = λ o h. same o h ∙ r.kept.objects o (below_more o m.setting.free h) ∙ old_object o h;
        free = le_trans kept_there.free r.kept.free;
        untouched = λ o k h out. r.kept.untouched o k (below_more o m.setting.free h) (outside o k h out) ∙ new_contents o k h;
      };
      names = λ y. ⊎_elim (λ e. inl e) (λ f. ⊎_elim (λ e. inl (gone y e)) (λ e. inr (e ∙ ap (λ b. cond b (Some (array_thing element pointer)) (m.setting.names (g.naming.binder y))) f)) (r.names y)) (fresh.other_name y);
      fields = r.fields;
      cells = λ b shape e at q. subst (λ l. IsHeld (u.cells b at) (p.contents l.object (l.offset +ℤ dot at shape.strides))) (old_layout b (old_buffer b shape e)) (r.cells b shape (kept_there.buffers b shape e) at q);
    }
      where
        outside : (o : ℕ) (k : ℤ) → nat_lt o m.setting.free ≡ true → IsOutside g.stored layout s o k → IsOutside g.stored new_layout new_state o k
        outside o k h out b shape e may at q lies = pick (b == x) refl
          where
            pick : (t : Bool) → (b == x) ≡ t → ⊥
            pick true d = true≢false (sym (ap (λ z. nat_lt z.object m.setting.free) lies ∙ h) ∙ ap (λ t. nat_lt (cond t pointer (layout b)).object m.setting.free) d ∙ not_below m.setting.free)
            pick false d = out b shape (new_buffer b shape d e) may at q (sym (ap (λ z. moved z (dot at shape.strides)) (old_layout b d)) ∙ lies)

        gone : (y : ℕ) → more_forms y ≡ NoForm → forms y ≡ NoForm
        gone y h = pick (y == x) refl
          where
            pick : (t : Bool) → (y == x) ≡ t → forms y ≡ NoForm
            pick true d = absurd (none_tensor (sym h ∙ ap (λ t. cond t (TensorForm cell dims lanes) (forms y)) d))
            pick false d = sym (ap (λ t. cond t (TensorForm cell dims lanes) (forms y)) d) ∙ h

    -- of one that `malloc` made
    pub freed_ends : heap ≡ true → Follows Few (Ends g forms layout s m) (go new_state) (after (run_c c_world c new_machine) (run_c c_world (first (Free (g.naming.binder x)) stop)))
    freed_ends on_heap = finish (go new_state) (run_c c_world c new_machine) (rest allocated_match)
      where
        finish : (o : Option State) (p : Outcome Machine) → Follows Few (Ends g more_forms new_layout new_state new_machine) o p → Follows Few (Ends g forms layout s m) o (after p (run_c c_world (first (Free (g.naming.binder x)) stop)))
        finish None p h = tt
        finish (Some u) (Done p) h = subst (λ z. Follows Few (Ends g forms layout s m) (Some u) z) (sym (freed_is on_heap u p h)) (all_ends u p h (without p.setting.objects) (λ o k. ap (λ t. cond t None (p.setting.objects o)) (below_is o m.setting.free k)))
        finish (Some u) Fault h = absurd h
        finish (Some u) NoStore h = h

    -- of one that stands in place
    pub left_ends : Follows Few (Ends g forms layout s m) (go new_state) (run_c c_world c new_machine)
    left_ends = follows_weaken Few (Ends g more_forms new_layout new_state new_machine) (Ends g forms layout s m) _ _ (rest allocated_match) (λ u p h. all_ends u p h p.setting.objects (λ o k. refl))
