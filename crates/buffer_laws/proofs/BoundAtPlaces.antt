-- A part of an expression, stored before it is used, at a place of a well-formed procedure.
use Rattle.std.proofs.Common.{◌≡◌, ℕ, List, [], Option, Some, None, refl, sym, ap, ◌∙◌, subst}
use Rattle.std.proofs.Common.{IsSome, true≢false}
use Rattle.exo_tree.specs.Tree.{Cell, I32, Kind, Control, Datum, Const, Read, Negated, Relu, Plus, Minus}
use Rattle.exo_tree.specs.Tree.{Times, Select}
use Rattle.exo_meaning.specs.Value.{Value}
use Rattle.exo_meaning.specs.Scene.{Seen, Shape}
use Rattle.exo_meaning.specs.State.{State, value, place, held}
use Rattle.exo_meaning.specs.Inputs.{FitsCell}
use Rattle.exo_meaning.specs.Run.{unit_world, kinds_of}
use Rattle.exo_meaning.specs.Units.{Scope, scope_of}
use Rattle.exo_meaning.proofs.Windows.{map_parts}
use Rattle.meaning_laws.specs.Sorted.{IsSorted, scope_at}
use Rattle.meaning_laws.specs.Sound.{IsSound}
use Rattle.meaning_laws.proofs.Copies.{sound_law}
use Rattle.meaning_laws.proofs.Parts.{then_gives}
use Rattle.meaning_laws.proofs.Sorted.{fits_at_law}
use Rattle.buffer_laws.specs.Bound.{bound_cell, HaveCells, IsShort, filled, stores}
use Rattle.buffer_laws.specs.BoundAtPlaces.{ReadsCell, BoundFitsAtPlace, BindAtPlace}
use Rattle.buffer_laws.proofs.Bound.{values_fit, bind_refines}
use Rattle.place_laws.specs.Order.Statements.{one}

module _ (u : State) where
  abbrev cell_in : Option Shape → Cell
  cell_in None = I32
  cell_in (Some shape) = shape.cell

  abbrev cell_seen : Option Seen → Cell
  cell_seen None = I32
  cell_seen (Some z) = cell_in (u.scene.buffers z.buffer)

  -- the cell type of what a name sees
  abbrev seen_cells : ℕ → Cell
  seen_cells y = cell_seen (u.scene.views y)

  have_cells : HaveCells seen_cells u
  have_cells y z shape e f = sym (ap cell_seen e ∙ ap cell_in f)

  module _ (fields : ℕ → Kind) (scope : Scope) (cells : ℕ → Cell) (sound : IsSound u)
      (sorted : IsSorted fields scope u) where
    -- of a name that sees something it is the one of its sort
    same_cell : (y : ℕ) (is : List Control) (v : Value) → ReadsCell scope cells (Read y is)
        → value u (Read y is) ≡ Some v → seen_cells y ≡ cells y
    same_cell y is v reads e =
        let m = map_parts (held u.cells) (place u.scene y is) v e in
        let z = then_gives (u.scene.views y) _ m.0 m.1 in
        go z.0 z.1 (u.scene.buffers z.0.buffer) refl (sound.seen y z.0 z.1)
      where
        go : (z : Seen) → u.scene.views y ≡ Some z → (o : Option Shape)
            → u.scene.buffers z.buffer ≡ o → IsSome (u.scene.buffers z.buffer)
            → seen_cells y ≡ cells y
        go z f None g i = absurd (true≢false (sym (subst IsSome g i)))
        go z f (Some shape) g i =
            let b = reads y is refl in
            ap cell_seen f ∙ ap cell_in g
            ∙ sym (sorted.views y (cells y) b.0 b.1 z b.2 f shape g).cell_is

    same_bound : (e : Datum) (v : Value) → ReadsCell scope cells e → value u e ≡ Some v
        → bound_cell seen_cells e ≡ bound_cell cells e
    same_bound (Const n) v reads e = refl
    same_bound (Read y is) v reads e = same_cell y is v reads e
    same_bound (Negated a) v reads e = refl
    same_bound (Relu a) v reads e = refl
    same_bound (Plus a b) v reads e = refl
    same_bound (Minus a b) v reads e = refl
    same_bound (Times a b) v reads e = refl
    same_bound (Select a b c d) v reads e = refl

    fits : (e : Datum) (v : Value) → ReadsCell scope cells e → IsShort e → value u e ≡ Some v
        → FitsCell (bound_cell cells e) v
    fits e v reads short f = subst (λ k. FitsCell k v) (same_bound e v reads f)
        (values_fit seen_cells u e v sound sorted.cells have_cells short f)

pub bound_fits_at_place : BoundFitsAtPlace
bound_fits_at_place fields memories ps p c old cells e s u v may was reads short good come f =
    fits u (kinds_of fields) (scope_at c (scope_of [] p.params)) cells
    (sound_law (unit_world (kinds_of fields) ps) p old c s u good come)
    (fits_at_law fields memories ps p c old may was s u good come) e v reads short f

pub bind_at_place : BindAtPlace
bind_at_place fields memories ps p c cells x reduces y is h e may was leaves dims cell unused reads
    short =
    bind_refines (kinds_of fields) ps p c x reduces y is h e was leaves dims unused
    (λ s u v good come f. subst (λ k. FitsCell k v) (sym cell)
    (bound_fits_at_place fields memories ps p c
    (one (stores reduces y is (filled h e))) cells e s u v may was reads short good come
    f))
