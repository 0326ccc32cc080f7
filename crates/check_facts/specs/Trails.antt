-- What the levels of a trail say: there is one for each block on the way to a place.
use Rattle.std.specs.Prelude.{ℕ, zero, List, [], ◌∷◌, Option, Some, None, IfSome, ⊤, slice_get}
use Rattle.std.specs.Prelude.{reverse}
use Rattle.exo_tree.specs.Tree.{Block, statements}
use Rattle.exo_tree.specs.Places.{Branch, Main, Else, Step, Path}
use Rattle.exo_tree.specs.Branches.{branch_of}
use Rattle.exo_tree.specs.PlainPlace.{branch_taken}
use Rattle.meaning_laws.specs.KnownFields.{KnownFields, path_in}
use Rattle.check_facts.specs.Tables.{known_in}
use Rattle.check_facts.specs.Walks.{telling_of, SameBelow, passed, known_inside}
use Rattle.check_facts.specs.declared.basis.Basis.{Basis}
use Rattle.check_facts.specs.declared.level.Level.{Level}
use Rattle.check_facts.specs.declared.level.Trail.{Trail}

-- from the outermost block inwards
abbrev pub levels_of : Trail → List Level
levels_of t = reverse t.levels.items

-- to the statement of a level
abbrev pub step_to : Level → Step
step_to l = record { branch = branch_taken l.branch; index = l.index }

-- a procedure has its body alone
abbrev pub body_in : Block → Branch → Option Block
body_in body Main = Some body
body_in body Else = None

module _ (g : Basis) where
  -- Levels on the way from those blocks inwards, where `first` is known at their heads: the
  -- outermost says what is known before its statement, and the others are on the way from the
  -- blocks of that.
  abbrev pub Stand : Path → (Branch → Option Block) → KnownFields → List Level → Type 0
  Stand outer blocks first [] = ⊤
  Stand outer blocks first (l ∷ ls) = IfSome (blocks (branch_taken l.branch)) (λ b.
      let path = path_in outer (branch_taken l.branch) l.index in
      let now = passed (telling_of g) outer (branch_taken l.branch) zero l.index b first in
      SameBelow g.count (known_in l.known) now
      × IfSome (slice_get (statements b) l.index)
      (λ a. Stand path (λ t. branch_of t a) (known_inside (telling_of g) path a now) ls))

  -- levels on the way from the blocks of the statement of that number
  abbrev pub StandInside : Path → Branch → Block → ℕ → KnownFields → List Level → Type 0
  StandInside outer branch b k first ls = IfSome (slice_get (statements b) k) (λ a.
      Stand (path_in outer branch k)
      (λ t. branch_of t a)
      (known_inside (telling_of g)
      (path_in outer branch k) a
      (passed (telling_of g) outer branch zero k b first)) ls)

  -- a level of a block, and others inside its statement
  abbrev pub StandIn : Path → Block → KnownFields → Level → List Level → Type 0
  StandIn outer b first l ls =
      SameBelow g.count (known_in l.known)
      (passed (telling_of g) outer (branch_taken l.branch) zero l.index b first)
      × StandInside outer (branch_taken l.branch) b l.index first ls
