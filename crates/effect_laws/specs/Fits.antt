-- What the laws on orders of loops ask of what turns touch, from conflicts.
use Rattle.std.specs.Prelude.{◌≡◌, ℕ, ℤ, [], ◌∷◌, length}
use Rattle.exo_tree.specs.Tree.{Binder, Control, Block, Procedure, Program}
use Rattle.exo_tree.specs.Places.{Path, Opened, opened}
use Rattle.exo_meaning.specs.State.{State}
use Rattle.exo_meaning.specs.Run.{program_world}
use Rattle.exo_meaning.specs.Inputs.{IsAdmissible}
use Rattle.exo_meaning.specs.Orders.{Crosses}
use Rattle.exo_meaning.specs.Units.{Scope}
use Rattle.meaning_laws.specs.Pairs.{AreClear}
use Rattle.meaning_laws.specs.Touched.{touched, pair_touched}
use Rattle.meaning_laws.specs.NestsWithin.{IsBefore, BoundsAreApart}
use Rattle.check_laws.specs.Facts.Laws.{ComesToPlace}
use Rattle.place_laws.specs.Order.TurnsOfTwo.{Loop, Spot, AgreesAt, HalvesAreClear}
use Rattle.exo_effects.specs.Orders.{Header, Less, Greater}
use Rattle.exo_effects.specs.Uses.{modes_of}
use Rattle.effect_laws.specs.Apart.{Turns, Conflict, IsThere, IsApartAt}

abbrev pub header : Binder → Control → Control → Header
header i lo hi = record { binder = i; lo = lo; hi = hi }

-- so many statements from a path on, at a turn of one loop, or of one in another
abbrev pub in_one : Header → Path → ℕ → Turns
in_one i path count = record { path = path; count = count; loops = i ∷ [] }

abbrev pub in_two : Header → Header → Path → ℕ → Turns
in_two i j path count = record { path = path; count = count; loops = i ∷ j ∷ [] }

-- a piece that is that block
pub record IsBlockThere (u : Program) (p : Procedure) (place : Path) (k : Turns) (b : Block) :
    Type 0 where
  pub opened_as : Opened
  pub is_there : IsThere u p place k opened_as
  pub piece : opened_as.piece ≡ b

abbrev pub spot_of : Program → Scope → (ℕ → ℕ) → Spot
spot_of u scope root = record {
  fields = u.fields;
  memories = length u.memories;
  procedures = u.procedures;
  scope = scope;
  root = root;
}

-- two loops: the body of the second at a turn against that of the first at a later one
abbrev pub halves_conflict : Loop → Loop → Path → ℕ → Path → ℕ → Conflict
halves_conflict k l first m second n = record {
  first = in_one (header l.binder l.lo l.hi) second n;
  second = in_one (header k.binder k.lo k.hi) first m;
  order = Less 0 ∷ [];
}

-- where they are apart, a loop may be parted there, and the two loops may be fused
abbrev pub HalvesFit : Type 0
HalvesFit =
    (u : Program) (p : Procedure) (place first second : Path) (m n : ℕ) (k l : Loop)
    (scope : Scope) (root : ℕ → ℕ) (s a : State)
    → let conflict = halves_conflict k l first m second n in
    IsApartAt u p place conflict
    → IsBlockThere u p place conflict.first l.body
    → IsBlockThere u p place conflict.second k.body
    → IsAdmissible (program_world u) p s
    → ComesToPlace (program_world u) (opened 1 place p.body) s a
    → AgreesAt a.scene k l
    → HalvesAreClear (spot_of u scope root) k l a

-- one loop in another: the body at a turn of both against that at a later one of the outer loop and
-- an earlier one of the inner loop
abbrev pub nest_conflict : Header → Header → Path → ℕ → Conflict
nest_conflict i j path count = record {
  first = in_two i j path count;
  second = in_two i j path count;
  order = Less 0 ∷ Greater 1 ∷ [];
}

-- where they are apart, the loops may change places
abbrev pub NestsFit : Type 0
NestsFit =
    (u : Program) (p : Procedure) (place path : Path) (count : ℕ)
    (i j : Binder) (lo hi c d : Control) (b : Block) (s a : State)
    → let conflict = nest_conflict (header i lo hi) (header j c d) path count in
    IsApartAt u p place conflict
    → IsBlockThere u p place conflict.first b
    → BoundsAreApart i lo hi j c d
    → IsAdmissible (program_world u) p s
    → ComesToPlace (program_world u) (opened 1 place p.body) s a
    → (t : State) (x y : ℤ × ℤ)
    → t.scene ≡ a.scene
    → Crosses (IsBefore a.scene lo hi) (IsBefore a.scene c d) x y
    → AreClear t.scene (pair_touched (program_world u) (modes_of u) i j b x t)
    (pair_touched (program_world u) (modes_of u) i j b y t)

-- two statements, each by itself
abbrev pub alone_at : Path → Turns
alone_at path = record { path = path; count = 1; loops = [] }

abbrev pub neighbours_conflict : Path → Path → Conflict
neighbours_conflict first second = record {
  first = alone_at first;
  second = alone_at second;
  order = [];
}

-- where they are apart, the statements may change places
abbrev pub NeighboursFit : Type 0
NeighboursFit =
    (u : Program) (p : Procedure) (place second : Path) (b c : Block) (s a : State)
    → let conflict = neighbours_conflict place second in
    IsApartAt u p place conflict
    → IsBlockThere u p place conflict.first b
    → IsBlockThere u p place conflict.second c
    → IsAdmissible (program_world u) p s
    → ComesToPlace (program_world u) (opened 1 place p.body) s a
    → let touch = touched (program_world u) (modes_of u) in
    AreClear a.scene (touch b a) (touch c a)
