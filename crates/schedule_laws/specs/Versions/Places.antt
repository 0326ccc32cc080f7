-- Cursors of a schedule: where one is in its own version, and where its statements went from there.
use Rattle.std.specs.Prelude.{ℕ, zero, suc, ◌==◌, if◌then◌else◌, List, [], ◌∷◌}
use Rattle.std.specs.Prelude.{Option, Some, None, slice_get, option_map, option_and_then}
use Rattle.exo_tree.specs.Tree.{Block, Procedure}
use Rattle.config_laws.specs.Differing.{parent_in, from_parent, is_descendant}
use Rattle.cursor_forward.specs.Search.Patterns.{Pattern}
use Rattle.schedule_calls.specs.Requests.{Move, Parent, Next, Prev, Body, Before, After, Expand}
use Rattle.schedule_calls.specs.Requests.{Item, Source, Under, Found, Here, Asked}
use Rattle.cursor_forward.specs.Cursors.{Cursor, parent_of, next_of, prev_of, body_of, item_of}
use Rattle.cursor_forward.specs.Cursors.{expand_of, before_of, after_of, forward_of}
use Rattle.cursor_forward.specs.Patterns.{find_of}
use Rattle.schedule_laws.specs.Versions.Versions.{Held, Version, At, Versions}
use Rattle.schedule_laws.specs.Versions.Versions.{version_at, held, version_of}

-- ---- what is found

pub data Missing : Type 0 where
  UnknownCursor NoSuchPattern NoNeighbour CursorGone : Missing

pub data Sought (T : Type 0) : Type 0 where
  Got : T → Sought T
  Lost : Missing → Sought T

abbrev pub then_seek : {T U : Type 0} → Sought T → (T → Sought U) → Sought U
then_seek (Got x) next = next x
then_seek (Lost why) next = Lost why

abbrev pub or_lost : {T : Type 0} → Missing → Option T → Sought T
or_lost why None = Lost why
or_lost why (Some x) = Got x

-- a cursor in the version of that number
pub record Place : Type 0 where
  pub version : ℕ
  pub cursor : Cursor

-- ---- moves

abbrev pub moved : Block → Move → Cursor → Option Cursor
moved body Parent c = parent_of body c
moved body Next c = next_of body c
moved body Prev c = prev_of body c
moved body Body c = body_of body c
moved body Before c = before_of body c
moved body After c = after_of body c
moved body (Expand a b) c = expand_of body a b c
moved body (Item k) c = item_of body k c

abbrev pub moved_all : Block → List Move → Cursor → Option Cursor
moved_all body [] c = Some c
moved_all body (m ∷ more) c = option_and_then (moved_all body more) (moved body m c)

module _ (v : Versions) where
  abbrev pub body_at : ℕ → Option Block
  body_at k = option_map (λ (p : Procedure). p.body) (version_at v k)

  -- ---- along a derivation

  abbrev pub parent_at : ℕ → Option ℕ
  parent_at k = parent_in v.origins k

  abbrev pub stepped : ℕ → Cursor → Option Cursor
  stepped k c = option_and_then (λ edits. forward_of edits c) (slice_get v.edits k)

  -- from a version to one made of it in so many steps or fewer
  abbrev pub forwarded : ℕ → ℕ → ℕ → Cursor → Option Cursor
  forwarded zero from k c = if k == from then Some c else None
  forwarded (suc n) from k c =
      if k == from then Some c
      else from_parent None (parent_at k) (λ j. option_and_then (stepped k) (forwarded n from j c))

  -- ---- for an operator on version k

  abbrev pub matched : ℕ → Pattern → ℕ → Sought Place
  matched j pattern nth =
      or_lost NoSuchPattern
      (option_map (λ c. record { version = j; cursor = c }) (find_of v.unit j pattern nth))

  -- a version is one of which version k was made, or k itself
  abbrev pub if_before : ℕ → ℕ → Sought Place → Sought Place
  if_before k j place =
      if is_descendant v.origins k j then place else Lost UnknownCursor

  abbrev pub as_place : ℕ → Option Held → Sought Place
  as_place k (Some (At j c)) = if_before k j (Got (record { version = j; cursor = c }))
  as_place k (Some (Version j)) = Lost UnknownCursor
  as_place k None = Lost UnknownCursor

  abbrev pub source_at : ℕ → Source → Sought Place
  source_at k (Under name) = as_place k (held v name)
  source_at k (Found name pattern nth) = elim (version_of v name) [
    | None ↦ Lost UnknownCursor
    | Some j ↦ if_before k j (matched j pattern nth)
  ]
  source_at k (Here pattern nth) = matched k pattern nth

  -- moves are made where the cursor is
  abbrev pub moved_at : List Move → Place → Sought Place
  moved_at moves p =
      or_lost NoNeighbour
      (option_map (λ c. record p { cursor = c }) (option_and_then (λ b. moved_all b moves p.cursor) (body_at p.version)))

  -- and then the cursor follows its statements
  abbrev pub brought : ℕ → Place → Sought Cursor
  brought k p = or_lost CursorGone (forwarded k p.version k p.cursor)

  abbrev pub sought : ℕ → Asked → Sought Cursor
  sought k a = then_seek (then_seek (source_at k a.source) (moved_at a.moves)) (brought k)
