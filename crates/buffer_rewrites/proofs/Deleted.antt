-- An allocation that is taken away.
use Rattle.std.proofs.Common.{◌≡◌, Bool, true, false, Option, Some, None, refl, sym, ap, ◌∙◌}
use Rattle.std.specs.Prelude.{if◌then◌else◌, option_map}
use Rattle.exo_tree.specs.Context.{rest_of}
use Rattle.exo_tree.specs.Places.{Path, Opened, opened}
use Rattle.exo_meaning.specs.Unseen.{in_block as mentions}
use Rattle.cursor_forward.specs.Causes.{WrongShape, StillUsed}
use Rattle.buffer_laws.specs.Buffers.{Buffer, is_buffer}
use Rattle.alloc_laws.specs.Allocations.{alloc_of, unless_used, deleted_piece}
use Rattle.step_rules.specs.Rule.{Tried, Got, Not, Target, Piece}
use Rattle.step_rules.specs.Shapes.{tried}
use Rattle.step_rules.specs.Answer.{then_try, opened_or_wrong}
use Rattle.step_driver.specs.Spots.{or_nothing}

module _ (t : Target) (at : Path) where
  abbrev first : Option Opened
  first = opened 1 at t.proc.body

  abbrev answer : Option Opened → Tried Piece
  answer x =
      then_try (opened_or_wrong x) (λ o.
      then_try (tried (alloc_of o.piece) (λ y. y)) (unless_used at o))

  pub no_alloc : None ≡ alloc_of (or_nothing first).piece → deleted_piece t at ≡ Not WrongShape
  no_alloc h = by first h
    where
      by : (x : Option Opened) → None ≡ alloc_of (or_nothing x).piece → answer x ≡ Not WrongShape
      by None h = refl
      by (Some o) h = ap (λ y. then_try (tried y (λ z. z)) (unless_used at o)) (sym h)

  module _ (x : Buffer) (there : Some x ≡ alloc_of (or_nothing first).piece) where
    abbrev used : Option Opened → Option Bool
    used y = option_map (λ (o : Opened). mentions (is_buffer x) (rest_of o.around)) y

    by_use : (y : Option Opened) (r : Bool) → Some x ≡ alloc_of (or_nothing y).piece
        → Some r ≡ used y
        → answer y ≡ (if r then Not StillUsed else Got (record { path = at; count = 1 }))
    by_use None r h k = cc
    by_use (Some o) r h k =
        let same : r ≡ mentions (is_buffer x) (rest_of o.around) = cc in
        ap (λ z. then_try (tried z (λ w. w)) (unless_used at o)) (sym h)
        ∙ ap (λ (b : Bool). if b then Not StillUsed else Got (record { path = at; count = 1 }))
        (sym same)

    pub nothing_there : None ≡ used first → deleted_piece t at ≡ Not WrongShape
    nothing_there h = by first h
      where
        by : (y : Option Opened) → None ≡ used y → answer y ≡ Not WrongShape
        by None h = refl
        by (Some o) h = cc

    pub still_used : Some true ≡ used first → deleted_piece t at ≡ Not StillUsed
    still_used h = by_use first true there h

    pub not_used : Some false ≡ used first
        → deleted_piece t at ≡ Got (record { path = at; count = 1 })
    not_used h = by_use first false there h
