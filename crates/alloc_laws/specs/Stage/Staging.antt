-- The rule that puts a block on a buffer of its own for a window.
use Rattle.std.specs.Prelude.{ℕ, pos, ◌==◌, Bool, true, false, not, ◌&&◌, ◌||◌, if◌then◌else◌}
use Rattle.std.specs.Prelude.{List, [], ◌∷◌, ◌++◌, map, length, Option, Some, None}
use Rattle.exo_tree.specs.Tree.{Cell, Control, Lit, Condition, Le, Lt, Coord, At, Span, Block}
use Rattle.exo_tree.specs.Context.{rest_of}
use Rattle.exo_tree.specs.Places.{Path, Opened, opened}
use Rattle.exo_meaning.specs.Modes as mode
use Rattle.exo_meaning.specs.Modes.{Mode}
use Rattle.exo_meaning.specs.Run.{kinds_of, program_world}
use Rattle.exo_meaning.specs.Unseen.{in_block as mentions, in_coords}
use Rattle.exo_meaning.specs.Units.{Sort, ControlName, BufferName, Scope, sort_in, scope_of}
use Rattle.exo_meaning.specs.Units.{is_number}
use Rattle.meaning_laws.specs.Facts.{Holds}
use Rattle.meaning_laws.specs.Sorted.{scope_at}
use Rattle.inplace_laws.specs.Windows.{are_plain, shifted}
use Rattle.place_laws.specs.Scope.Roots.{own_roots_at}
use Rattle.place_laws.specs.Order.Overwrite.{touches}
use Rattle.check_claims.specs.Extents.{extents_of}
use Rattle.cursor_forward.specs.Causes.{Cause, OutOfScope, Aliased, StrideUsed, NotOnlyReduced}
use Rattle.cursor_forward.specs.Causes.{WrongShape, Form, WideNumber}
use Rattle.cursor_forward.specs.Cursors.{Before}
use Rattle.cursor_forward.specs.Shifts.{at_index, range}
use Rattle.buffer_laws.specs.Staging.Stores.{spans, variables}
use Rattle.buffer_laws.specs.StageMem.{Staging, loads, stores, staged_block, is_view_used}
use Rattle.buffer_laws.specs.StageMem.{is_aliased, is_only_reduced}
use Rattle.buffer_laws.specs.Stride.Strides.{stride_seen, is_stride_used}
use Rattle.alloc_laws.specs.Goes.Fits.{has_spans}
use Rattle.alloc_laws.specs.Goes.Asked.{asked_from}
use Rattle.step_rules.specs.Rule.{Tried, Got, Not, Target, Piece, Spot, Writing, Need, Says, Rule}
use Rattle.step_rules.specs.Answer.{then_try, opened_or_wrong}
use Rattle.step_rules.specs.Lawful.{around, old, scope_here}
use Rattle.alloc_laws.specs.Bind.Binding.{cells_in}
use Rattle.alloc_laws.specs.Expanding.{is_missing}
use Rattle.alloc_laws.specs.Stage.Written.{written_as, are_written, accesses_written}

-- ---- how the block touches the window's buffer

module _ (w : Staging) (t : Target) (o : Opened) where
  abbrev pub roots : ℕ → ℕ
  roots = own_roots_at o.around

  -- calls included
  abbrev pub touches_as : Mode → ℕ → Bool
  touches_as m y = touches t.unit.fields t.unit.procedures m roots o.piece y

  -- it writes or reduces it
  abbrev pub changes_window : Bool
  changes_window =
      touches_as mode.Writing (roots w.root) || touches_as mode.Reducing (roots w.root)

  abbrev pub uses_window : Bool
  uses_window = mentions (λ y. y == w.root) o.piece

  -- kept sums of a block that does not use the window: its points stand nowhere in the result
  abbrev pub is_unused : Bool
  is_unused = w.accum && (not changes_window && not uses_window)

  -- kept sums of a block that views the window or passes it, and touches it nowhere
  abbrev pub is_untouched : Bool
  is_untouched = w.accum && (not changes_window && uses_window)

-- ---- shape

-- a buffer of that rank; of a name that is not in scope nothing is said here
abbrev pub has_window : Option Sort → ℕ → Bool
has_window None n = true
has_window (Some (ControlName kind)) n = false
has_window (Some (BufferName cell rank dense)) n = n == rank

-- a name in scope that is no number
abbrev pub is_of_other : Option Sort → Bool
is_of_other None = false
is_of_other (Some sort) = not (is_number (Some sort))

-- coordinates of numbers alone: neither fields nor strides
abbrev pub are_of_numbers : Scope → List Coord → Bool
are_of_numbers scope coords =
    are_plain coords && not (in_coords (λ y. is_of_other (sort_in scope y)) coords)

abbrev pub scope_round : Target → Opened → Scope
scope_round t o = scope_at o.around (scope_of [] t.proc.params)

-- no view of the window is used behind the block, and no access has a span at a point
abbrev pub has_shape : Staging → Target → Opened → Bool
has_shape w t o =
    has_window (sort_in (scope_round t o) w.root) (length w.coords)
    && (not (is_view_used (roots w t o) w.root o.piece (rest_of o.around))
    && (not (has_spans w.root (extents_of t.proc w.root) w.coords o.piece)
    && (is_unused w t o || are_of_numbers (scope_round t o) w.coords)))

-- so many statements from the place on
abbrev pub staged_piece : ℕ → Staging → Target → Path → Tried Piece
staged_piece count w t at =
    then_try (opened_or_wrong (opened count at t.proc.body)) (λ o.
    if has_shape w t o then Got (record { path = at; count = count }) else Not WrongShape)

-- ---- the result

module _ (w : Staging) (s : Spot) where
  abbrev pub cell_here : Cell
  cell_here = cells_in (scope_here s) w.root

  abbrev pub changes_here : Bool
  changes_here = changes_window w s.target s.opened

  -- the normal forms of all that is made can be written down
  abbrev pub all_written : Writing → ℕ → Bool
  all_written how base =
      let as_made : Control → Control = λ e. e in
      let first = shifted w.coords (variables (loads as_made w cell_here 0 base)) in
      let second = shifted w.coords (variables (stores as_made w cell_here 0 base)) in
      are_written how (spans w.coords)
      && ((w.accum || are_written how first)
      && (accesses_written how base w.root w.coords (old s)
      && (not changes_here || are_written how second)))

abbrev pub staged_draft : Staging → Spot → Writing → ℕ → Tried Block
staged_draft w s how base =
    if all_written w s how base
    then Got (staged_block (written_as how) w (cell_here w s) 0 base (changes_here w s) (old s))
    else Not (Form WideNumber)

-- ---- refusals

module _ (w : Staging) (s : Spot) where
  -- the window's points may stand nowhere in the result
  abbrev pub misses_names : Bool
  misses_names =
      is_missing (scope_here s) w.root || in_coords (is_missing (scope_here s)) w.coords

  abbrev pub uses_strides_of_it : Bool
  uses_strides_of_it =
      let unit = s.target.unit in
      is_stride_used (program_world unit).callees
      (stride_seen (kinds_of unit.fields) unit.procedures) (own_roots_at (around s)) w.root (old s)

  abbrev pub keeps_no_sum : Bool
  keeps_no_sum =
      w.accum
      && not (is_only_reduced (touches_as w s.target s.opened) (own_roots_at (around s) w.root))

  abbrev pub staged_refusal : Option Cause
  staged_refusal =
      if misses_names then Some OutOfScope
      else (if is_aliased (own_roots_at (around s)) w.root (old s) then Some Aliased
      else (if uses_strides_of_it then Some StrideUsed
      else (if keeps_no_sum then Some NotOnlyReduced
      else None)))

-- ---- what has to be shown

-- that a window lies within these dimensions
abbrev pub asked_of_window : List Coord → List Control → List Condition
asked_of_window [] ds = []
asked_of_window (c ∷ cs) [] = []
asked_of_window (At u ∷ cs) (d ∷ ds) = Le (Lit (pos 0)) u ∷ Lt u d ∷ asked_of_window cs ds
asked_of_window (Span u v ∷ cs) (d ∷ ds) =
    Le (Lit (pos 0)) u ∷ Le v d ∷ asked_of_window cs ds

module _ (w : Staging) (s : Spot) where
  abbrev pub sizes_here : List Control
  sizes_here = extents_of s.target.proc w.root

  -- of each access of x in the block, that it lies within the window
  abbrev pub needs_of_accesses : List Need
  needs_of_accesses =
      map (λ q. Says q.path (Holds q.condition))
      (asked_from w.root sizes_here w.coords [] s.piece.path (old s))

  -- of the window itself, where no nest of the result has it
  abbrev pub needs_of_window : List Need
  needs_of_window =
      if is_untouched w s.target s.opened
      then map (λ c. Says s.piece.path (Holds c)) (asked_of_window w.coords sizes_here)
      else []

  abbrev pub staged_needs : List Need
  staged_needs = needs_of_accesses ++ needs_of_window

-- ---- the rule

-- count: of the statements of the block, which stands behind the allocation and the first nest
abbrev pub stage_rule : ℕ → Staging → Rule
stage_rule count w = record {
  piece = staged_piece count w;
  draft = staged_draft w;
  named = 1;
  refusal = staged_refusal w;
  needs = staged_needs w;
  shifts = λ s. range (at_index 0) s.piece.count (Some (at_index 2)) ∷ [];
  name = λ p. p.name;
  fields = λ s. [];
  point = λ s. ([], Before);
}
