-- Blocks whose statements do the same wherever a run comes to them.
use Rattle.std.specs.Prelude.{◌≡◌, ℤ, true, false, Some}
use Rattle.exo_tree.specs.Tree.{Binder, Control, Condition, Statement, If, For, Block, end, next}
use Rattle.exo_meaning.specs.Scene.{number, holds}
use Rattle.exo_meaning.specs.State.{State, on_scene, with_control}
use Rattle.exo_meaning.specs.Run.{World, run, step, turn, turns_of}
use Rattle.meaning_laws.specs.Context.{ComesToTurn}

mutual
  pub data SameAlong (world : World) : Block → Block → State → Type 0 where
    both_end : {s : State} → SameAlong world end end s
    both_next :
        {a c : Statement} {b d : Block} {s : State}
        → SameThere world a c s
        → ((t : State) → step world a s ≡ Some t → SameAlong world b d t)
        → SameAlong world (next a b) (next c d) s

  pub data SameThere (world : World) : Statement → Statement → State → Type 0 where
    at_once :
        {a c : Statement} {s : State} → step world a s ≡ step world c s → SameThere world a c s
    in_branches :
        {t r : Condition} {a b c d : Block} {s : State}
        → holds s.scene t ≡ holds s.scene r
        → (holds s.scene t ≡ true → SameAlong world a c s)
        → (holds s.scene t ≡ false → SameAlong world b d s)
        → SameThere world (If t a b) (If r c d) s
    in_turns :
        {i : Binder} {lo hi l h : Control} {b d : Block} {s : State}
        → number s.scene lo ≡ number s.scene l
        → number s.scene hi ≡ number s.scene h
        → ((n : ℤ) (u : State)
        → ComesToTurn (turn i.id (run world b)) (turns_of s.scene lo hi) s n u
        → SameAlong world b d (on_scene (with_control i.id n) u))
        → SameThere world (For i lo hi b) (For i l h d) s

abbrev pub AlongLaw : Type 0
AlongLaw =
    (world : World) (b d : Block) (s : State)
    → SameAlong world b d s
    → run world b s ≡ run world d s
