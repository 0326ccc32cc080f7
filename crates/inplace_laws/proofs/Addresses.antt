-- Calls in place in a store of any addresses.
use Rattle.std.proofs.Common.{◌≡◌, ℕ, ℤ, pos, ◌==◌, Bool, true, false, cond, ◌&&◌, ◌||◌, List, [], ◌∷◌, Option, Some, None, refl, sym, ap, ◌∙◌, true≢false, eqb-true, eq-eqb}
use Rattle.exo_tree.specs.Tree.{Cell, Param, ParamKind, ControlParam, TensorParam, WindowParam}
use Rattle.exo_meaning.specs.Value.{Value, Undefined}
use Rattle.exo_meaning.specs.Scene.{Seen, then_do, cell_at, numbers, extents, strides_seen}
use Rattle.exo_meaning.specs.State.{State, same_index, with_contents, with_buffer, on_scene}
use Rattle.exo_meaning.specs.Calls.{Given, GivenNumber, GivenView, contents, held_at, bind_number, bind_numbers, bind_buffer, bind_buffers, copy_in, all_positive, bare}
use Rattle.exo_meaning.specs.Inputs.{is_buffer_of}
use Rattle.exo_meaning.proofs.Frame.{or_parts}
use Rattle.exo_meaning.proofs.Windows.{none_is_some, one_value, where_parts, index_at_cell}
use Rattle.meaning_laws.proofs.Parts.{then_gives}
use Rattle.inplace_laws.specs.CallInPlace.{base_of, seen_of, AreDistinct}
use Rattle.inplace_laws.specs.Addresses.{Spots, stored, AreStored, spots_through, EntryLaw, ExitLaw}
use Rattle.inplace_laws.proofs.CallInPlace.{IsMissed, missed_is_left, back_is}

-- ---- the way in

base_else : (ps : List Param) (gs : List Given) (x : ℕ) → is_buffer_of x ps ≡ false → base_of ps gs x ≡ None
base_else [] gs x k = refl
base_else (p ∷ ps) [] x k = refl
base_else (p ∷ ps) (g ∷ gs) x k = let q = or_parts (x == p.binder.id) (is_buffer_of x ps) k in ap (λ t. cond t (seen_of g) (base_of ps gs x)) q.0 ∙ base_else ps gs x q.1

module _ {T : Type 0} (spots : Spots T) (store : T → Value) (s : State) (held : AreStored spots s.cells store) where
  contents_stored : (z : Seen) (is : List ℤ) → contents s.cells z is ≡ stored store (spots_through spots (Some z) is)
  contents_stored z is = go (cell_at z.sides is)
    where
      go : (o : Option (List ℤ)) → held_at (s.cells z.buffer) o ≡ stored store (then_do o (spots z.buffer))
      go None = refl
      go (Some at) = held z.buffer at

  copy_stored : (x : ℕ) (cell : Cell) (dims : List ℤ) (g : Given) (u v : State) → copy_in s x cell dims g u ≡ Some v → (y : ℕ) (at : List ℤ) → v.cells y at ≡ cond (y == x) (stored store (spots_through spots (seen_of g) at)) (u.cells y at)
  copy_stored x cell dims (GivenNumber n) u v k y at = absurd (none_is_some k)
  copy_stored x cell dims (GivenView z) u v k y at =
      let made : State = with_contents x (contents s.cells z) (on_scene (with_buffer x (record { cell = cell; dims = dims; strides = strides_seen s.scene z })) u) in
      ap (λ (w : State). w.cells y at) (sym (one_value made v (where_parts (same_index dims (extents z.sides) && all_positive dims) (Some made) v k).1)) ∙ go (y == x)
    where
      go : (t : Bool) → cond {A = List ℤ → Value} t (contents s.cells z) (u.cells y) at ≡ cond t (stored store (spots_through spots (Some z) at)) (u.cells y at)
      go true = contents_stored z at
      go false = refl

  -- what binding a parameter makes of the cells of one buffer
  one_stored : (x : ℕ) (kind : ParamKind) (g : Given) (control c : ℕ → ℤ) (u v : State) → bind_number x kind g control ≡ Some c → bind_buffer s x kind g u ≡ Some v → (y : ℕ) (at : List ℤ) → u.cells x at ≡ Undefined → v.cells y at ≡ cond (y == x) (stored store (spots_through spots (seen_of g) at)) (u.cells y at)
  one_stored x (ControlParam q) (GivenNumber n) control c u v e k y at none = ap (λ (w : State). w.cells y at) (sym (one_value u v k)) ∙ go (y == x) refl
    where
      go : (t : Bool) → (y == x) ≡ t → u.cells y at ≡ cond t Undefined (u.cells y at)
      go false i = refl
      go true i = ap (λ z. u.cells z at) (eqb-true y x i) ∙ none
  one_stored x (ControlParam q) (GivenView z) control c u v e k y at none = absurd (none_is_some e)
  one_stored x (TensorParam cell dims memory) g control c u v e k y at none = copy_stored x cell (numbers u.scene dims) g u v k y at
  one_stored x (WindowParam cell dims memory) g control c u v e k y at none = copy_stored x cell (numbers u.scene dims) g u v k y at

  -- buffers that are still to come hold nothing
  all_stored : (ps : List Param) (gs : List Given) (control c : ℕ → ℤ) (u v : State) → AreDistinct ps → bind_numbers ps gs control ≡ Some c → bind_buffers s ps gs u ≡ Some v → ((y : ℕ) → is_buffer_of y ps ≡ true → (at : List ℤ) → u.cells y at ≡ Undefined) → (y : ℕ) (at : List ℤ) → v.cells y at ≡ cond (is_buffer_of y ps) (stored store (spots_through spots (base_of ps gs y) at)) (u.cells y at)
  all_stored [] gs control c u v d e k none y at = ap (λ (w : State). w.cells y at) (sym (one_value u v k))
  all_stored (p ∷ ps) [] control c u v d e k none y at = absurd (none_is_some k)
  all_stored (p ∷ ps) (g ∷ gs) control c u v d e k none y at =
      let n = then_gives (bind_number p.binder.id p.kind g control) (bind_numbers ps gs) c e in
      let b = then_gives (bind_buffer s p.binder.id p.kind g u) (bind_buffers s ps gs) v k in
      let here : (x : ℕ) (is : List ℤ) → b.0.cells x is ≡ cond (x == p.binder.id) (stored store (spots_through spots (seen_of g) is)) (u.cells x is) = λ x is. one_stored p.binder.id p.kind g control n.0 u b.0 n.1 b.1 x is (none p.binder.id (ap (λ t. t || is_buffer_of p.binder.id ps) (eq-eqb p.binder.id p.binder.id refl)) is) in
      all_stored ps gs n.0 c b.0 v d.1 n.2 b.2 (λ x i is. here x is ∙ ap (λ t. cond t (stored store (spots_through spots (seen_of g) is)) (u.cells x is)) (not_here x i (x == p.binder.id) refl) ∙ none x (later x (x == p.binder.id) i) is) y at
      ∙ ap (λ v. cond (is_buffer_of y ps) (stored store (spots_through spots (base_of ps gs y) at)) v) (here y at)
      ∙ both (y == p.binder.id) refl (is_buffer_of y ps) refl
    where
      later : (x : ℕ) (t : Bool) → is_buffer_of x ps ≡ true → (t || is_buffer_of x ps) ≡ true
      later x true i = refl
      later x false i = i

      not_here : (x : ℕ) → is_buffer_of x ps ≡ true → (t : Bool) → (x == p.binder.id) ≡ t → t ≡ false
      not_here x i false j = refl
      not_here x i true j = absurd (true≢false (sym i ∙ ap (λ z. is_buffer_of z ps) (eqb-true x p.binder.id j) ∙ d.0))

      both : (t : Bool) → (y == p.binder.id) ≡ t → (r : Bool) → is_buffer_of y ps ≡ r → cond r (stored store (spots_through spots (base_of ps gs y) at)) (cond t (stored store (spots_through spots (seen_of g) at)) (u.cells y at)) ≡ cond (t || r) (stored store (spots_through spots (cond t (seen_of g) (base_of ps gs y)) at)) (u.cells y at)
      both true i true j = absurd (true≢false (not_here y j true i))
      both true i false j = refl
      both false i true j = refl
      both false i false j = refl

pub entry_law : EntryLaw
entry_law T spots store ps gs s inner d e held b at =
    let m = then_gives (bind_numbers ps gs (λ x. pos 0)) (λ control. bind_buffers s ps gs (bare control s.scene.fields)) inner e in
    all_stored spots store s held ps gs (λ x. pos 0) m.0 (bare m.0 s.scene.fields) inner d m.1 m.2 (λ y i at. refl) b at ∙ go (is_buffer_of b ps) refl
  where
    go : (t : Bool) → is_buffer_of b ps ≡ t → cond t (stored store (spots_through spots (base_of ps gs b) at)) Undefined ≡ stored store (spots_through spots (base_of ps gs b) at)
    go true i = refl
    go false i = sym (ap (λ o. stored store (spots_through spots o at)) (base_else ps gs b i))

-- ---- the way back

pub exit_law : ExitLaw
exit_law T spots store after writes ps gs cells done d apart held ends frame b at =
    back_is b at writes (base_of ps gs) done (λ x is. stored after (spots x is)) ps gs cells (λ x i. refl) d (λ x z i e is. ends x z i e is ∙ ap (λ o. stored after (spots_through spots o is)) e ∙ inside z (cell_at z.sides is)) (λ m. held b at ∙ same m (spots b at) refl)
  where
    inside : (z : Seen) (o : Option (List ℤ)) → stored after (then_do o (spots z.buffer)) ≡ held_at (λ q. stored after (spots z.buffer q)) o
    inside z None = refl
    inside z (Some q) = refl

    no_window : IsMissed b at writes ps gs → (t : T) → spots b at ≡ Some t → (x : ℕ) (is : List ℤ) → writes x ≡ true → (o : Option Seen) → base_of ps gs x ≡ o → spots_through spots o is ≡ Some t → ⊥
    no_window m t e x is w None k i = none_is_some i
    no_window m t e x is w (Some z) k i =
        let c = then_gives (cell_at z.sides is) (spots z.buffer) t i in
        let one = apart z.buffer b c.0 at t c.2 e in
        none_is_some (sym (missed_is_left b at writes ps gs m x z w k one.0) ∙ index_at_cell z.sides is at (c.1 ∙ ap Some one.1))

    same : IsMissed b at writes ps gs → (o : Option T) → spots b at ≡ o → stored store o ≡ stored after o
    same m None e = refl
    same m (Some t) e = sym (frame t (λ x is w k. no_window m t e x is w (base_of ps gs x) refl k))
