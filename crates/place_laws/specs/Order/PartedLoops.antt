-- A loop in two, by its body, and two loops in one.
use Rattle.std.specs.Prelude.{◌≡◌, ◌==◌, ◌||◌, ℕ, ℤ, List, Bool, true, false}
use Rattle.exo_tree.specs.Tree.{Var, Block, end, next, joined}
use Rattle.exo_meaning.specs.State.{State}
use Rattle.exo_meaning.specs.Scene.{then_do}
use Rattle.exo_meaning.specs.Run.{World, run, turns}
use Rattle.exo_meaning.specs.Renaming.{Renaming, re_statement}
use Rattle.exo_meaning.specs.Unseen.{in_block as mentions}
use Rattle.meaning_laws.specs.Sound.{IsUnbound}
use Rattle.meaning_laws.specs.Scoped.{is_scoped, step_has_binder}
use Rattle.meaning_laws.specs.Substitute.{in_block}
use Rattle.meaning_laws.specs.Copies.{Moves}
use Rattle.place_laws.specs.Scope.Scopes.{top_binders, HasNone}
use Rattle.place_laws.specs.Order.TurnsOfTwo.{Loop, whole, in_a_row, MayGoInTurn, Spot, world_at}
use Rattle.place_laws.specs.Order.TurnsOfTwo.{MayStart}
use Rattle.place_laws.specs.Order.TurnsOfTwo.{HalvesAreClear, halves, in_turn, turn_of}

-- these names stand for nothing
abbrev pub AreUnbound : (ℕ → Bool) → State → Type 0
AreUnbound names s = (x : ℕ) → names x ≡ true → IsUnbound s x

-- ---- one loop in two

-- the loop with another body, and with one more part of its body
abbrev pub with_body : Loop → Block → Loop
with_body k b = record k { body = b }

abbrev pub of_both : Loop → Block → Loop
of_both k c = with_body k (joined k.body c)

abbrev pub alone : Loop → Block
alone k = next (whole k) end

-- the loop with the first part, and a copy of the loop with the second
abbrev pub parted : Loop → Block → Renaming → Block
parted k c r = next (whole k) (next (re_statement r (whole (with_body k c))) end)

-- the second part of the loop uses no name of the first
pub record MayPart (at : Spot) (k : Loop) (c : Block) (s : State) : Type 0 where
  pub start : MayStart at (alone (of_both k c)) s
  pub turns : MayGoInTurn (world_at at) k (with_body k c) s
  pub unused : mentions (top_binders k.body) c ≡ false
  pub unbound : AreUnbound (top_binders k.body) s

-- a loop does what its parts do in two loops, where what a turn of the second part touches does not
-- clash with what a later turn of the first does
abbrev pub FissionLaw : Type 0
FissionLaw =
    (at : Spot) (k : Loop) (c : Block) (r : Renaming) (s : State)
    → MayPart at k c s
    → Moves r (IsUnbound s)
    → HalvesAreClear at k (with_body k c) s
    → run (world_at at) (alone (of_both k c)) s ≡ run (world_at at) (parted k c r) s

-- a turn of the first loop and then one of the second, turn by turn, is both bodies in turn
abbrev pub TurnByTurn : Type 0
TurnByTurn =
    (world : World) (k l : Loop) (ns : List ℤ) (s : State)
    → turns (λ n t. then_do (turn_of world k n t) (turn_of world l n)) ns s
    ≡ turns (halves world k l) (in_turn ns) s

-- so are the turns of a loop with both parts, where the second uses no name of the first
abbrev pub SplitHalves : Type 0
SplitHalves =
    (world : World) (k : Loop) (c : Block) (ns : List ℤ) (s : State)
    → mentions (top_binders k.body) c ≡ false
    → top_binders k.body k.binder.id ≡ false
    → HasNone (top_binders k.body) s
    → turns (turn_of world (of_both k c)) ns s
    ≡ turns (halves world k (with_body k c)) (in_turn ns) s

-- ---- two loops in one

-- the variable of the first loop stands for that of the second
abbrev pub fused : Loop → Loop → Loop
fused k l = of_both k (in_block l.binder.id (Var k.binder.id) l.body)

-- the names of a loop: its variable, and what its body binds
abbrev pub bound_by : Loop → ℕ → Bool
bound_by k x = (x == k.binder.id) || top_binders k.body x

-- the second loop uses no name of the first
pub record MayFuse (at : Spot) (k l : Loop) (s : State) : Type 0 where
  pub start : MayStart at (in_a_row k l) s
  pub turns : MayGoInTurn (world_at at) k l s
  pub unused : mentions (bound_by k) l.body ≡ false
  pub unbound : AreUnbound (top_binders k.body) s

-- two loops do what one does with both bodies, where what a turn of the second touches does not
-- clash with what a later turn of the first does
abbrev pub FuseLaw : Type 0
FuseLaw =
    (at : Spot) (k l : Loop) (s : State)
    → MayFuse at k l s
    → HalvesAreClear at k l s
    → run (world_at at) (in_a_row k l) s ≡ run (world_at at) (alone (fused k l)) s

-- where names are in scope and no id is bound twice, the second loop uses no name of the first
abbrev pub SecondIsApart : Type 0
SecondIsApart =
    (bound : ℕ → Bool) (k l : Loop)
    → is_scoped bound (in_a_row k l) ≡ true
    → ((x : ℕ) → step_has_binder (whole k) x ≡ true → step_has_binder (whole l) x ≡ false)
    → mentions (bound_by k) l.body ≡ false
