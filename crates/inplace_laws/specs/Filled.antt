-- Loops that fill a buffer.
use Rattle.std.specs.Prelude.{◌≡◌, ◌==◌, ◌<◌, ◌&&◌, ◌||◌, if◌then◌else◌, ℕ, ℤ, pos, Bool, false}
use Rattle.std.specs.Prelude.{List, [], ◌∷◌, Option, Some}
use Rattle.exo_tree.specs.Tree.{Binder, Control, Lit, Statement, For, Block, end, next}
use Rattle.exo_meaning.specs.Value.{Value}
use Rattle.exo_meaning.specs.Scene.{Scene, number}
use Rattle.exo_meaning.specs.State.{State, Cells, with_control}
use Rattle.exo_meaning.specs.Run.{range, count}

-- loops from 0 round a statement
pub record Loop : Type 0 where
  pub binder : Binder
  pub extent : Control

abbrev pub nest : List Loop → Statement → Block
nest [] a = next a end
nest (l ∷ ls) a = next (For l.binder (Lit (pos 0)) l.extent (nest ls a)) end

abbrev pub any_of : List ℤ → (ℤ → Bool) → Bool
any_of [] f = false
any_of (n ∷ ns) f = f n || any_of ns f

abbrev pub at_cells : Scene → Cells → State
at_cells scene c = record { scene = scene; cells = c }

-- some cells of buffer x hold their part of `goal`
abbrev pub filled : ℕ → (List ℤ → Value) → (List ℤ → Bool) → Cells → Cells
filled x goal hits c b at = if (b == x) && hits at then goal at else c b at

-- from each state that differs from s in the cells of x alone, it fills the cells of x that are hit
abbrev pub Fills :
    ℕ → (List ℤ → Value) → Cells → Scene → (State → Option State) → (List ℤ → Bool) → Type 0
Fills x goal cells scene f hits =
    (c : Cells)
    → ((b : ℕ) → (b == x) ≡ false → c b ≡ cells b)
    → f (at_cells scene c) ≡ Some (at_cells scene (filled x goal hits c))

-- the cells that a nest hits, by those that its statement hits at the numbers of the variables
abbrev pub nest_hits : List Loop → (Scene → List ℤ → Bool) → Scene → List ℤ → Bool
nest_hits [] hits scene at = hits scene at
nest_hits (l ∷ ls) hits scene at =
    any_of (range (pos 0) (count (number scene l.extent)))
    (λ n. nest_hits ls hits (with_control l.binder.id n scene) at)

-- at each turn of the nest
abbrev pub AtEach : List Loop → (Scene → Type 0) → Scene → Type 0
AtEach [] P scene = P scene
AtEach (l ∷ ls) P scene =
    (n : ℤ) (i : ℕ)
    → n ≡ pos i
    → i < count (number scene l.extent)
    → AtEach ls P (with_control l.binder.id n scene)
