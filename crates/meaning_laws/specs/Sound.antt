-- What holds of the names of a state at a place.
use Rattle.std.specs.Prelude.{◌≡◌, ℕ, pos, Bool, false, ◌==◌, ◌||◌, Some, None, IsSome}
use Rattle.exo_tree.specs.Tree.{Statement, Alloc, View}
use Rattle.exo_meaning.specs.Scene.{Seen}
use Rattle.exo_meaning.specs.State.{State}
use Rattle.exo_meaning.specs.Footprint.{IsTidy}
use Rattle.exo_tree.specs.Context.{Context, Here, After, InLoop, InThen, InElse}

-- buffers that are not there hold nothing, and no name sees one
pub record IsSound (s : State) : Type 0 where
  pub tidy : IsTidy s
  pub seen : (x : ℕ) (seen : Seen) → s.scene.views x ≡ Some seen → IsSome (s.scene.buffers seen.buffer)

-- whether a name is bound after the statement
abbrev pub binds : Statement → ℕ → Bool
binds (Alloc x cell dims memory) y = y == x.id
binds (View w x coords) y = y == w.id
binds _ y = false

-- whether a name is bound on the way to the hole
abbrev pub on_way : Context → ℕ → Bool
on_way (Here rest) y = false
on_way (After a c) y = binds a y || on_way c y
on_way (InLoop i lo hi c rest) y = (y == i.id) || on_way c y
on_way (InThen t c other rest) y = on_way c y
on_way (InElse t other c rest) y = on_way c y

pub record IsSameName (x : ℕ) (s t : State) : Type 0 where
  pub control : s.scene.control x ≡ t.scene.control x
  pub buffers : s.scene.buffers x ≡ t.scene.buffers x
  pub views : s.scene.views x ≡ t.scene.views x

-- the name stands for nothing
pub record IsUnbound (s : State) (x : ℕ) : Type 0 where
  pub control : s.scene.control x ≡ pos 0
  pub buffers : s.scene.buffers x ≡ None
  pub views : s.scene.views x ≡ None
