-- What the text in a hole of a template names, against what the machine passes for it.
use Rattle.std.specs.Prelude.{◌≡◌, ◌<◌, ℕ, true, false, List, Option, Some, None, slice_get}
use Rattle.exo_tree.specs.Tree.{Argument, Param, ParamKind, ControlParam, TensorParam, WindowParam}
use Rattle.exo_meaning.specs.State.{State}
use Rattle.exo_meaning.specs.Units.{is_hole_of}
use Rattle.c_tree.specs.CTree.{CellRef, Actual, Piece, Filled, FirstCell}
use Rattle.c_unit_laws.specs.Follows.Machine.Machine.{Done, Pointer, Thing, IsArray, IsVectors}
use Rattle.c_unit_laws.specs.Follows.Machine.Machine.{IsWindow, Setting}
use Rattle.c_unit_laws.specs.Follows.Machine.Machine.{Machine, from_elements, spot_by}
use Rattle.c_unit_laws.specs.Follows.Machine.CRun.{thing_by}
use Rattle.c_lowering.specs.Made.Lowered.{InBraces, Forms, piece_of, actuals_of}
use Rattle.c_unit_laws.specs.Follows.Simulation.{Ground, Layout, Matches}
use Rattle.c_unit_laws.specs.Follows.Good.{AreGoodArguments}

-- where a buffer begins that is passed
abbrev pub begins : Thing → Option Pointer
begins (IsArray p) = Some p
begins (IsVectors p lanes) = Some p
begins (IsWindow p strides) = Some p
begins t = None

-- the text names a cell, and what is passed begins there
abbrev pub NamesFirstCell : Setting → Actual → Piece → Type 0
NamesFirstCell s a piece =
    (ref : CellRef)
    × (piece ≡ FirstCell ref)
    × ((t : Thing)
    → thing_by from_elements s a ≡ Done t
    → (p : Pointer) × (begins t ≡ Some p) × (spot_by from_elements s ref ≡ Done p))

-- the text of a number that is passed, or the first cell of a buffer
abbrev pub IsTextOf : Setting → ParamKind → Actual → Piece → Type 0
IsTextOf s (ControlParam kind) a piece = piece ≡ Filled a
IsTextOf s (TensorParam cell dims memory) a piece = NamesFirstCell s a piece
IsTextOf s (WindowParam cell dims memory) a piece = NamesFirstCell s a piece

-- A hole is filled with the text of what is passed for the first parameter that it may name.
abbrev pub HolesNameTheirArguments : Type 0
HolesNameTheirArguments =
    (g : Ground) (forms : Forms) (most : ℕ → ℕ) (root : ℕ → ℕ)
    (layout : Layout) (s : State) (m : Machine)
    (bounds : ℕ → ℕ) (ps : List Param) (args : List Argument) (name : List ℕ) (j : ℕ) (p : Param)
    → Matches g forms most root layout s m
    → AreGoodArguments g.declared forms most bounds false ps args
    → slice_get ps j ≡ Some p
    → is_hole_of name p ≡ true
    → ((i : ℕ) (q : Param) → i < j → slice_get ps i ≡ Some q → is_hole_of name q ≡ false)
    → (a : Actual)
    × (slice_get (actuals_of g.naming forms ps args) j ≡ Some a)
    × IsTextOf m.setting p.kind a (piece_of g.naming forms ps args (InBraces name))
