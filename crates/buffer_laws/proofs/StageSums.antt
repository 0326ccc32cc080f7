-- A block that only adds to a window, staged at a place of a procedure.
use Rattle.std.proofs.Common.{◌≡◌, ℕ, ◌+ℤ◌, ◌==◌, List, refl, ap}
use Rattle.exo_tree.specs.Tree.{Cell, Binder, Control, Coord, Read, Reduce}
use Rattle.exo_tree.specs.Tree.{Alloc, Block, next, joined}
use Rattle.exo_tree.specs.Context.{fill}
use Rattle.exo_meaning.specs.Value.{on_two}
use Rattle.exo_meaning.specs.Scene.{then_do}
use Rattle.exo_meaning.specs.State.{State, value, put}
use Rattle.exo_meaning.specs.Run.{World, run, step, unit_world, kinds_of}
use Rattle.meaning_laws.proofs.Replace.{context_law}
use Rattle.inplace_laws.specs.Filled.{Loop, nest}
use Rattle.inplace_laws.specs.Windows.{shifted}
use Rattle.buffer_laws.specs.Staging.Stores.{variables}
use Rattle.buffer_laws.specs.Staging.Converted.{converted}
use Rattle.buffer_laws.specs.Simplified.{IsSimplifier, all_simpler}
use Rattle.buffer_laws.specs.StageMem.{Staging, sizes, loads, stores, storing, on_buffer}
use Rattle.buffer_laws.specs.StageAccum.{sums_of, sums_with_simpler, sums_as_made, SumsDraftLaw}
use Rattle.buffer_laws.specs.StageAccum.{StageSumsLaw}
use Rattle.buffer_laws.specs.Sums.{zero_nest, sum_nest}
use Rattle.buffer_laws.proofs.Simplified.{simplified_law}
use Rattle.buffer_laws.proofs.StageAccum.{sums_replace}
use Rattle.buffer_laws.proofs.StageLaws.{nest_same, joined_same, place_same, same_may}

module _ (world : World) (simple : Control → Control) (is : IsSimplifier simple) where
  sum_same : (a x : ℕ) (vs es : List Control) (u : State)
      → step world (Reduce x es (Read a vs)) u
      ≡ step world (Reduce x (all_simpler simple es) (Read a vs)) u
  sum_same a x vs es u = ap (λ o. then_do o (λ p.
      then_do (value u (Read a vs)) (λ v. put u (λ old. on_two ◌+ℤ◌ old v) p)))
      (place_same world simple is u x es)

  module _ (cell : Cell) (memory base x : ℕ) (coords : List Coord) (name : List ℕ) (b : Block)
    where
      abbrev w : Staging
      w = sums_of x coords name

      abbrev ks : List Loop
      ks = stores simple w cell memory base

      abbrev first_part : Block
      first_part = next (Alloc (record { id = base; name = name }) cell
          (sizes simple w cell memory base) memory)
          (zero_nest base (loads simple w cell memory base))

      last_same : (u : State) → run world (sum_nest base x coords ks) u
          ≡ run world (nest ks (storing simple w cell memory base)) u
      last_same = nest_same world ks
          (Reduce x (shifted coords (variables ks)) (Read base (variables ks)))
          (storing simple w cell memory base)
          (sum_same base x (variables ks) (shifted coords (variables ks)))

      draft_same : (s : State) → run world (sums_as_made simple cell memory base x coords name b) s
          ≡ run world (sums_with_simpler simple cell memory base x coords name b) s
      draft_same = joined_same world first_part
          (joined (converted base x coords b) (sum_nest base x coords ks)) first_part
          (joined (on_buffer simple w cell memory base b)
          (nest ks (storing simple w cell memory base))) (λ u. refl)
          (joined_same world (converted base x coords b) (sum_nest base x coords ks)
          (on_buffer simple w cell memory base b) (nest ks (storing simple w cell memory base))
          (λ u. simplified_law world simple (λ y. y == base) (converted base x coords b) u is)
          last_same)

pub sums_draft_law : SumsDraftLaw
sums_draft_law world simple cell memory base x coords name b s is =
    draft_same world simple is cell memory base x coords name b s

pub stage_sums_law : StageSumsLaw
stage_sums_law fields memories ps p c scope hidden blind root simple cell memory base x coords name
    b is was unused made known =
    let world = unit_world (kinds_of fields) ps in
    let w = sums_of x coords name in
    let a : Binder = record { id = base; name = name } in
    let old = sums_as_made simple cell memory base x coords name b in
    let new = sums_with_simpler simple cell memory base x coords name b in
    context_law (kinds_of fields) ps hidden c b new p (record p { body = fill c new }) was refl
    unused (λ s u good come.
    let k = known s u good come in
    same_may world hidden b old new u
    (sums_draft_law world simple cell memory base x coords name b u is)
    (sums_replace fields memories ps scope hidden blind root a cell
    (sizes simple w cell memory base) memory x coords (loads simple w cell memory base)
    (stores simple w cell memory base) b u made k.0 k.1 k.2))
