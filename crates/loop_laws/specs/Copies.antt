-- Copies that may stand for the turns of a loop, and branches that may stand for a block, whatever
-- stands in the loop or block.
use Rattle.std.specs.Prelude.{◌≡◌, ℕ, nat_lt, ℤ, Bool, true, false, cond, List, [], map}
use Rattle.std.specs.List.{list_all}
use Rattle.exo_tree.specs.Tree.{Control, Condition, Pass, Block, end, next}
use Rattle.exo_tree.specs.Context.{rest_of}
use Rattle.exo_tree.specs.Substitution.{in_block}
use Rattle.exo_meaning.specs.Scene.{Scene, number, holds}
use Rattle.exo_meaning.specs.Run as run
use Rattle.exo_meaning.specs.Units.{bound_ids}
use Rattle.exo_meaning.specs.Unseen.{in_control, in_block as mentions}
use Rattle.meaning_laws.specs.FreshCopies.{copies_from}
use Rattle.meaning_laws.specs.Substitute.{is_plain, has_variable}
use Rattle.place_laws.specs.Scope.BranchesAtPlaces.{only_branch, specialized}
use Rattle.place_laws.specs.Scope.Scopes.{top_binders, joined_all}
use Rattle.place_laws.specs.Scope.UnrollLoop.{only_loop}
use Rattle.place_laws.specs.Order.TurnsOfTwo.{Loop}
use Rattle.step_rules.specs.Rule.{Spot}
use Rattle.step_rules.specs.Lawful.{IsSpot, AtHole, Replaces, around, old}

-- ---- turns

-- the bodies of the turns, with the numbers written in this way for the variable
abbrev pub bodies_with : (ℤ → Control) → Loop → List ℤ → List Block
bodies_with write l ns = map (λ n. in_block l.binder.id (write n) l.body) ns

-- copies of them one after the other, their binders numbered from `base` on
abbrev pub written_out : (ℤ → Control) → Loop → List ℤ → ℕ → Block
written_out write l ns base = joined_all (copies_from base (bodies_with write l ns))

-- for each number an expression that has it in every scene, and mentions nothing
pub record Writes (write : ℤ → Control) : Type 0 where
  pub has : (scene : Scene) (n : ℤ) → number scene (write n) ≡ n
  pub plain : (n : ℤ) → is_plain (write n) ≡ true
  pub constant : (n : ℤ) (x : ℕ) → has_variable (write n) x ≡ false
  pub unseen : (hidden : ℕ → Bool) (n : ℤ) → in_control hidden (write n) ≡ false

-- no parameter and no binder of the procedure has a number from `base` on
abbrev pub AreBelow : ℕ → Spot → Type 0
AreBelow base s = list_all (λ x. nat_lt x base) (bound_ids s.target.proc) ≡ true

-- the piece is this loop, which has these turns wherever a run comes to it
pub record HasTurns (s : Spot) (l : Loop) (ns : List ℤ) : Type 0 where
  pub is : old s ≡ only_loop l.binder l.lo l.hi l.body
  pub turns : AtHole s (λ u. run.turns_of u.scene l.lo l.hi ≡ ns)

-- then its turns may be written out
abbrev pub TurnsMayBeWrittenOut : Type 0
TurnsMayBeWrittenOut =
    (s : Spot) (l : Loop) (ns : List ℤ) (write : ℤ → Control) (base : ℕ) (but : List ℕ)
    → IsSpot s
    → AreBelow base s
    → HasTurns s l ns
    → Writes write
    → Replaces s (written_out write l ns base) but

-- and without a turn it may go
abbrev pub LoopsOfNoTurnMayGo : Type 0
LoopsOfNoTurnMayGo =
    (s : Spot) (l : Loop) (but : List ℕ)
    → HasTurns s l []
    → Replaces s end but × Replaces s (next Pass end) but

-- ---- branches

-- a condition with the piece where it holds, and where not a copy of it, may stand for the piece,
-- where what follows uses no name that the piece leaves
abbrev pub BlocksMayBeSpecialized : Type 0
BlocksMayBeSpecialized =
    (s : Spot) (test : Condition) (base : ℕ) (but : List ℕ)
    → IsSpot s
    → AreBelow base s
    → mentions (top_binders (old s)) (rest_of (around s)) ≡ false
    → Replaces s (specialized base test (old s)) but

-- the piece is a condition, which is this wherever a run comes to it
pub record GoesTo (s : Spot) (test : Condition) (a b : Block) (taken : Bool) : Type 0 where
  pub is : old s ≡ only_branch test a b
  pub goes : AtHole s (λ u. holds u.scene test ≡ taken)

-- then the branch that is taken may stand for it
abbrev pub TakenBranchesMayStand : Type 0
TakenBranchesMayStand =
    (s : Spot) (test : Condition) (a b : Block) (taken : Bool) (but : List ℕ)
    → IsSpot s
    → GoesTo s test a b taken
    → Replaces s (cond taken a b) but
