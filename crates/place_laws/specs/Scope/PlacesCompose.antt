-- A place in a piece is a place.
use Rattle.std.specs.Prelude.{◌≡◌, ◌+◌, ◌||◌, ◌↔◌, ℕ, [], ◌∷◌, Some}
use Rattle.exo_tree.specs.Tree.{Block}
use Rattle.exo_tree.specs.Context.{Context, fill}
use Rattle.exo_tree.specs.Places.{Step, Path, Opened, opened, opened_in}
use Rattle.exo_meaning.specs.State.{State}
use Rattle.exo_meaning.specs.Run.{World}
use Rattle.exo_meaning.specs.Units.{Scope}
use Rattle.meaning_laws.specs.Context.{ComesTo}
use Rattle.meaning_laws.specs.Sound.{on_way}
use Rattle.meaning_laws.specs.Sorted.{scope_at}
use Rattle.place_laws.specs.Scope.Holes.{within, roots_at}

-- a run comes to the hole of c and on to the hole of d, with old in it
pub record ComesThrough (world : World) (old : Block) (c d : Context) (s u : State) : Type 0 where
  pub middle : State
  pub first : ComesTo world (fill d old) c s middle
  pub second : ComesTo world old d middle u

-- the hole of d in the hole of c is one hole
pub record IsWithin (old : Block) (c d : Context) : Type 0 where
  pub body : fill (within c d) old ≡ fill c (fill d old)
  pub comes :
      (world : World) (s u : State)
      → ComesThrough world old c d s u ↔ ComesTo world old (within c d) s u
  pub scope : (scope : Scope) → scope_at (within c d) scope ≡ scope_at d (scope_at c scope)
  pub roots : (root : ℕ → ℕ) → roots_at (within c d) root ≡ roots_at d (roots_at c root)
  pub bound : (x : ℕ) → on_way (within c d) x ≡ (on_way c x || on_way d x)

abbrev pub HolesCompose : Type 0
HolesCompose = (old : Block) (c d : Context) → IsWithin old c d

-- a path in the statements at a path, as a path of the whole; its first step counts from those
abbrev pub onward : Path → Step → Path → Path
onward [] t q = t ∷ q
onward (s ∷ []) t q = record s { index = s.index + t.index } ∷ q
onward (s ∷ h ∷ path) t q = s ∷ onward (h ∷ path) t q

-- i in the piece of o
abbrev pub inside : Opened → Opened → Opened
inside o i = record { around = within o.around i.around; piece = i.piece }

-- a run comes to what o opens, and on in its piece to what i opens
pub record ComesOn (world : World) (o i : Opened) (s u : State) : Type 0 where
  pub middle : State
  pub first : ComesTo world o.piece o.around s middle
  pub second : ComesTo world i.piece i.around middle u

-- what i opens in the piece of o stands in the body at that path, and a run comes there by way of o
pub record IsOnward (m : ℕ) (path : Path) (body : Block) (o i : Opened) : Type 0 where
  pub piece : fill i.around i.piece ≡ o.piece
  pub there : opened m path body ≡ Some (inside o i)
  pub comes :
      (world : World) (s u : State)
      → ComesOn world o i s u ↔ ComesTo world i.piece (within o.around i.around) s u

-- what is opened in a piece is opened in the body at the longer path
abbrev pub PlacesCompose : Type 0
PlacesCompose =
    (m n : ℕ) (path : Path) (t : Step) (q : Path) (body : Block) (o i : Opened)
    → opened n path body ≡ Some o
    → opened_in m (t ∷ q) o.piece ≡ Some i
    → IsOnward m (onward path t q) body o i
