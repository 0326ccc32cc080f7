-- Closed examples of shifts that carry statements: two loops that change places, and a loop of two turns that is unrolled.
use Rattle.std.proofs.Common.{◌≡◌, ℕ, List, [], ◌∷◌, Some, None, refl}
use Rattle.std.specs.Prelude.{pos, true, false}
use Rattle.exo_tree.specs.Tree.{I32, Param, TensorParam, MemoryKind, Program, Binder, Lit, Const, Statement, Assign, Pass, For, Block, end, next, Procedure}
use Rattle.exo_tree.specs.Context.{Here, InLoop}
use Rattle.exo_tree.specs.Places.{Main, Path, Opened}
use Rattle.cursor_forward.specs.Shifts.{Shift, at_index, range, alone, Edits, edits_of, move_of}
use Rattle.cursor_forward.specs.Forwards.{Carries, Forwards}
use Rattle.cursor_forward.specs.Search.Patterns as pattern
use Rattle.cursor_forward.specs.Cursors.{Node, Range, Gap, Before, parent_of, body_of, next_of, forward_of}
use Rattle.cursor_forward.specs.Patterns.{CanBeSearched, find_of}
use Rattle.cursor_forward.proofs.Lands.{step}
use Rattle.exo_meaning.specs.Units.{IsUnit}
use Rattle.cursor_forward.proofs.Forwarding.{moves_forward}
use Rattle.cursor_forward.proofs.Searchable.{units_are_searchable}

abbrev binder : ℕ → Binder
binder n = record { id = n; name = n ∷ [] }

abbrev turns : ℕ → Block → Statement
turns i b = For (binder i) (Lit (pos 0)) (Lit (pos 2)) b

abbrev store : Statement
store = Assign 9 [] (Const (pos 1))

abbrev with_body : Block → Procedure
with_body b = record { name = 1 ∷ []; params = []; asserts = []; body = b; template = None }

abbrev second : Path
second = step Main 0 ∷ step Main 0 ∷ []

abbrev third : Path
third = step Main 0 ∷ step Main 0 ∷ step Main 0 ∷ []

-- ---- loops that change places

abbrev inner : ℕ → Block
inner j = next (turns j (next store end)) end

abbrev nest : ℕ → ℕ → Block
nest i j = next (turns i (inner j)) end

abbrev exchange : List Shift
exchange = alone (at_index 0) (Some second) ∷ alone second (Some (at_index 0)) ∷ range third 1 (Some third) ∷ []

abbrev at_top : Block → Opened
at_top b = record { around = Here end; piece = b }

abbrev in_first : ℕ → Block → Opened
in_first i b = record { around = InLoop (binder i) (Lit (pos 0)) (Lit (pos 2)) (Here end) end; piece = b }

abbrev in_second : ℕ → ℕ → Opened
in_second i j = record { around = InLoop (binder i) (Lit (pos 0)) (Lit (pos 2)) (InLoop (binder j) (Lit (pos 0)) (Lit (pos 2)) (Here end) end) end; piece = next store end }

exchanged_carries : Carries exchange (nest 1 2) (nest 2 1)
exchanged_carries = (
  record { was = at_top (nest 1 2); is = in_first 2 (inner 1); before = refl; after = refl; alike = refl },
  (
    record { was = in_first 1 (inner 2); is = at_top (nest 2 1); before = refl; after = refl; alike = refl },
    (record { was = in_second 1 2; is = in_second 2 1; before = refl; after = refl; alike = refl }, tt),
  ),
)

abbrev exchange_edits : Edits
exchange_edits = edits_of (at_index 0) 1 1 exchange

pub loops_change_places : Forwards (move_of exchange_edits) (with_body (nest 1 2)) (with_body (nest 2 1))
loops_change_places = moves_forward (with_body (nest 1 2)) (with_body (nest 2 1)) exchange_edits (at_top (nest 1 2)) (nest 2 1) refl refl refl exchanged_carries refl

pub outer_goes_inside : move_of exchange_edits (at_index 0) ≡ Some second
outer_goes_inside = refl

-- ---- a loop that is unrolled, with a statement behind it

abbrev rolled : Block
rolled = next (turns 1 (next store end)) end

abbrev unrolled : Block
unrolled = next store (next store end)

abbrev first_copy : List Shift
first_copy = range second 1 (Some (at_index 0)) ∷ []

abbrev unroll_edits : Edits
unroll_edits = edits_of (at_index 0) 1 2 first_copy

first_carries : Carries first_copy rolled unrolled
first_carries = (record { was = in_first 1 (next store end); is = record { around = Here (next store end); piece = next store end }; before = refl; after = refl; alike = refl }, tt)

pub unrolling_forwards : Forwards (move_of unroll_edits) (with_body (next (turns 1 (next store end)) (next Pass end))) (with_body (next store (next store (next Pass end))))
unrolling_forwards =
    moves_forward (with_body (next (turns 1 (next store end)) (next Pass end))) (with_body (next store (next store (next Pass end)))) unroll_edits
    (record { around = Here (next Pass end); piece = rolled }) unrolled refl refl refl first_carries refl

pub loop_is_gone : move_of unroll_edits (at_index 0) ≡ None
loop_is_gone = refl

pub store_stays : move_of unroll_edits second ≡ Some (at_index 0)
store_stays = refl

pub pass_moves_on : move_of unroll_edits (at_index 1) ≡ Some (at_index 2)
pass_moves_on = refl

-- ---- what is found, and how cursors move and follow

abbrev called_x : Param
called_x = record { binder = record { id = 9; name = 120 ∷ [] }; kind = TensorParam I32 [] 0 }

abbrev plain_cells : MemoryKind
plain_cells = record { name = 68 ∷ []; ctype = []; lanes = 0; cell = None; stack = false; read = true; write = true; reduce = true; header = [] }

abbrev a_unit : Program
a_unit = record { procedures = record (with_body (nest 1 2)) { params = called_x ∷ [] } ∷ []; fields = []; memories = plain_cells ∷ [] }

pub store_is_found : find_of a_unit 0 (pattern.Assign (Some (120 ∷ []))) 0 ≡ Some (Node third)
store_is_found = refl

pub found_once : find_of a_unit 0 (pattern.Assign (Some (120 ∷ []))) 1 ≡ None
found_once = refl

pub nest_is_found : find_of a_unit 0 (pattern.Nest (Some (1 ∷ [])) None) 0 ≡ Some (Node (at_index 0))
nest_is_found = refl

pub loop_round_store : parent_of (nest 1 2) (Node third) ≡ Some (Node second)
loop_round_store = refl

pub body_of_loop : body_of (nest 1 2) (Node second) ≡ Some (Range third 1)
body_of_loop = refl

pub nothing_behind : next_of (nest 1 2) (Node third) ≡ None
nothing_behind = refl

pub second_store : next_of unrolled (Range (at_index 0) 1) ≡ Some (Node (at_index 1))
second_store = refl

pub block_follows : forward_of exchange_edits (Range third 1) ≡ Some (Range third 1)
block_follows = refl

pub gap_follows : forward_of unroll_edits (Gap (at_index 1) Before) ≡ Some (Gap (at_index 2) Before)
gap_follows = refl

-- ---- a unit that can be searched

a_unit_is_formed : IsUnit a_unit
a_unit_is_formed = record {
  procedures = (record { params = refl; asserts = refl; body = refl; filled = refl; ids = refl; distinct = refl; paths = refl; template = refl }, tt);
  fields = refl;
  memories = refl;
  spaces = refl;
  counts = refl;
}

pub it_can_be_searched : CanBeSearched (nest 1 2)
it_can_be_searched = units_are_searchable a_unit 0 a_unit_is_formed
