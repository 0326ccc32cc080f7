-- Copies of statements under fresh ids.
use Rattle.std.specs.Prelude.{◌≡◌, ◌⊎◌, ℕ, true, false, option_map}
use Rattle.exo_tree.specs.Tree.{Binder, Control, Condition, For, Block, Procedure}
use Rattle.exo_meaning.specs.Scene.{holds}
use Rattle.exo_meaning.specs.State.{State, scoped}
use Rattle.exo_meaning.specs.Run.{World, run, step}
use Rattle.exo_meaning.specs.Inputs.{IsAdmissible, is_buffer_of}
use Rattle.exo_meaning.specs.Renaming.{Renaming, re_statement, re_block, re_state}
use Rattle.exo_tree.specs.Context.{Context}
use Rattle.meaning_laws.specs.Context.{ComesTo}
use Rattle.meaning_laws.specs.Sound.{IsSound, IsUnbound, on_way}

-- the renaming moves only names of a set
abbrev pub Moves : Renaming → (ℕ → Type 0) → Type 0
Moves r Free = (x : ℕ) → (r.from x ≡ x) ⊎ (Free x × Free (r.from x))

-- a name that neither a parameter nor a statement on the way binds
abbrev pub IsFree : Procedure → Context → ℕ → Type 0
IsFree p c x = (is_buffer_of x p.params ≡ false) × (on_way c x ≡ false)

-- a copy of a loop under other ids does the same
abbrev pub CopyLaw : Type 0
CopyLaw =
    (r : Renaming) (world : World) (i : Binder) (lo hi : Control) (b : Block) (s : State)
    → IsSound s
    → Moves r (IsUnbound s)
    → step world (re_statement r (For i lo hi b)) s ≡ step world (For i lo hi b) s

-- a condition holds wherever a run on an admissible input comes to the hole
abbrev pub HoldsAt : World → Procedure → Block → Context → Condition → Type 0
HoldsAt world p old c claim =
    (s u : State) → IsAdmissible world p s → ComesTo world old c s u → holds u.scene claim ≡ true

-- ---- at a place

-- what a name sees is there, and what is not there holds nothing, wherever a run on an admissible
-- input comes to
abbrev pub SoundLaw : Type 0
SoundLaw =
    (world : World) (p : Procedure) (old : Block) (c : Context) (s u : State)
    → IsAdmissible world p s
    → ComesTo world old c s u
    → IsSound u

-- and a name that is free there stands for nothing
abbrev pub UnboundLaw : Type 0
UnboundLaw =
    (world : World) (p : Procedure) (old : Block) (c : Context) (s u : State)
    → IsAdmissible world p s
    → ComesTo world old c s u
    → (x : ℕ)
    → IsFree p c x
    → IsUnbound u x

-- ---- copies of blocks

-- a copy of a block under fresh ids does the same under these ids, and in a scope of its own
-- exactly the same
abbrev pub CopiedBlockLaw : Type 0
CopiedBlockLaw =
    (r : Renaming) (world : World) (b : Block) (s : State)
    → IsSound s
    → Moves r (IsUnbound s)
    → (run world (re_block r b) s ≡ option_map (re_state r) (run world b s))
    × (scoped (run world (re_block r b)) s ≡ scoped (run world b) s)
