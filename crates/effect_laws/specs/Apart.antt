-- Two pieces of a procedure at turns of loops round them, and when no run of the one clashes with
-- one of the other.
use Rattle.std.specs.Prelude.{◌≡◌, ◌≤ℤ◌, ◌<ℤ◌, ◌&&◌, ⊤, ℕ, ℤ, Bool, true, List, [], ◌∷◌, length}
use Rattle.std.specs.Prelude.{Option, Some, None, IsSome, IfSome, slice_get}
use Rattle.exo_tree.specs.Tree.{Index, Procedure, Program}
use Rattle.exo_tree.specs.Places.{Path, Opened, opened}
use Rattle.exo_meaning.specs.Scene.{Scene, number}
use Rattle.exo_meaning.specs.State.{State, on_scene, with_control}
use Rattle.exo_meaning.specs.Run.{program_world}
use Rattle.exo_meaning.specs.Inputs.{IsAdmissible}
use Rattle.exo_meaning.specs.Orders.{Each}
use Rattle.exo_meaning.specs.Units.{Scope, ControlName, with_name, sort_in, is_new, plainly}
use Rattle.exo_meaning.specs.Units.{is_control, is_block, field_kind}
use Rattle.meaning_laws.specs.Pairs.{AreClear}
use Rattle.meaning_laws.specs.Sorted.{MayRun, scope_there}
use Rattle.meaning_laws.specs.Touched.{touched}
use Rattle.check_laws.specs.Facts.Laws.{context_of, context_fits, ComesToPlace}
use Rattle.exo_effects.specs.Accesses.{accesses_of}
use Rattle.exo_effects.specs.Orders.{Header, OrderRow, Less, Greater, order_of}
use Rattle.exo_effects.specs.Conflicts.{Listing, conflicts_of}
use Rattle.exo_effects.specs.Parts.{Parts, no_parts, with_params, parts_at}
use Rattle.exo_effects.specs.Uses.{modes_of}
use Rattle.effect_laws.specs.Clear.{AreShownApart}

-- so many statements of a procedure from a path on, at a turn of each of these loops round them,
-- from the outermost inwards
pub record Turns : Type 0 where
  pub path : Path
  pub count : ℕ
  pub loops : List Header

-- the turns of the second stand in this order to those of the first
pub record Conflict : Type 0 where
  pub first : Turns
  pub second : Turns
  pub order : List OrderRow

-- ---- what is owed for it, in the context of a place

module _ (u : Program) (p : Procedure) (place : Path) (k : Conflict) where
  abbrev pub conflict_listing : Listing
  conflict_listing =
      conflicts_of (context_fits u p place) (context_of u p place)
      (order_of k.first.loops k.second.loops k.order) place
      (accesses_of u p k.first.path k.first.count) (accesses_of u p k.second.path k.second.count)

  abbrev pub are_shown_apart : Type 0
  are_shown_apart =
      AreShownApart (context_fits u p place) (context_of u p place)
      (order_of k.first.loops k.second.loops k.order) place
      (accesses_of u p k.first.path k.first.count) (accesses_of u p k.second.path k.second.count)

-- ---- turns

abbrev pub with_turns : List Header → List ℤ → Scene → Scene
with_turns [] ns scene = scene
with_turns (h ∷ hs) [] scene = scene
with_turns (h ∷ hs) (n ∷ ns) scene = with_turns hs ns (with_control h.binder.id n scene)

-- one number for each loop, within its bounds
abbrev pub AreTurns : List Header → List ℤ → Scene → Type 0
AreTurns [] [] scene = ⊤
AreTurns [] (n ∷ ns) scene = ⊥
AreTurns (h ∷ hs) [] scene = ⊥
AreTurns (h ∷ hs) (n ∷ ns) scene =
    (number scene h.lo ≤ℤ n) × ((n <ℤ number scene h.hi)
    × AreTurns hs ns (with_control h.binder.id n scene))

abbrev pub AreOrdered : List ℤ → List ℤ → OrderRow → Type 0
AreOrdered ms ns (Less k) =
    IfSome (slice_get ms k) (λ m. IfSome (slice_get ns k) (λ n. m <ℤ n))
AreOrdered ms ns (Greater k) =
    IfSome (slice_get ms k) (λ m. IfSome (slice_get ns k) (λ n. n <ℤ m))

abbrev pub scope_in : List Header → Scope → Scope
scope_in [] scope = scope
scope_in (h ∷ hs) scope = scope_in hs (with_name scope h.binder (ControlName Index))

-- ---- at a place

module _ (u : Program) (p : Procedure) where
  abbrev pub are_loops : List Header → Scope → Bool
  are_loops [] scope = true
  are_loops (h ∷ hs) scope =
      is_new scope h.binder
      && ((is_control (field_kind u.fields) plainly scope h.lo
      && is_control (field_kind u.fields) plainly scope h.hi)
      && are_loops hs (with_name scope h.binder (ControlName Index)))

  abbrev pub parts_there : Option Opened → Parts
  parts_there None = with_params p.params no_parts
  parts_there (Some o) = parts_at o.around (with_params p.params no_parts)

  -- the loops and the piece are well formed at the place, and a name in scope there stands for the
  -- same in the piece
  pub record IsThere (place : Path) (k : Turns) (o : Opened) : Type 0 where
    pub opens : opened k.count k.path p.body ≡ Some o
    pub loops : are_loops k.loops (scope_there p (opened 1 place p.body)) ≡ true
    pub root : ℕ → ℕ
    pub block :
        is_block (field_kind u.fields) (length u.memories) (program_world u).callees
        (scope_in k.loops (scope_there p (opened 1 place p.body))) root o.piece
        ≡ true
    pub parts :
        (x : ℕ)
        → IsSome (sort_in (scope_there p (opened 1 place p.body)) x)
        → parts_there (Some o) x ≡ parts_there (opened 1 place p.body) x

  -- what runs of the two pieces touch, from a state with the names of one that a run has at the
  -- place, at turns within their bounds and in their order, does not clash
  abbrev pub IsApartAt : Path → Conflict → Type 0
  IsApartAt place k =
      (s a t : State) (m n : List ℤ) (o q : Opened)
      → IsAdmissible (program_world u) p s
      → ComesToPlace (program_world u) (opened 1 place p.body) s a
      → t.scene ≡ a.scene
      → IsThere place k.first o
      → IsThere place k.second q
      → AreTurns k.first.loops m t.scene
      → AreTurns k.second.loops n t.scene
      → Each (AreOrdered m n) k.order
      → let touch = touched (program_world u) (modes_of u) in
      AreClear t.scene (touch o.piece (on_scene (with_turns k.first.loops m) t))
      (touch q.piece (on_scene (with_turns k.second.loops n) t))

-- pieces are apart wherever a run comes to a place, where what is owed for it there has no point
abbrev pub ApartIsMet : Type 0
ApartIsMet =
    (u : Program) (p : Procedure) (place : Path) (k : Conflict)
    → MayRun u.fields (length u.memories) u.procedures p
    → are_shown_apart u p place k
    → IsApartAt u p place k
