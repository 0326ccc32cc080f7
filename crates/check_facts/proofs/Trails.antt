-- Levels of a trail: taken, brought on and put back.
use Rattle.std.proofs.Common.{◌≡◌, ℕ, zero, suc, List, [], ◌∷◌, ◌++◌, drop, reverse, Option, Some, None, sym, ap, ap₂, ◌∙◌, subst}
use Rattle.std.specs.Prelude.{IfSome, slice_get}
use Rattle.std.proofs.lemmas.List.{reverse-append}
use Rattle.exo_tree.specs.Tree.{Statement, Block, block, statements}
use Rattle.exo_tree.specs.Places.{Branch, Path}
use Rattle.exo_tree.specs.Branches.{branch_of}
use Rattle.exo_tree.specs.PlainPlace.{branch_taken, step_taken}
use Rattle.exo_tree.specs.declared.place.Branch as taken
use Rattle.exo_tree.specs.declared.place.Step.{Step}
use Rattle.meaning_laws.specs.KnownFields.{KnownFields, path_in}
use Rattle.check_facts.specs.Tables.{known_in}
use Rattle.check_facts.specs.Trails.{step_to, Stand, StandIn, StandInside}
use Rattle.check_facts.specs.Walks.{telling_of, SameBelow, passed, known_inside}
use Rattle.check_facts.specs.declared.basis.Basis.{Basis}
use Rattle.check_facts.specs.declared.known.Known.{Known}
use Rattle.check_facts.specs.declared.level.Level.{Level}

-- ---- the list

pub last_first : (xs ys : List Level) (l : Level) → xs ≡ ys ++ l ∷ [] → reverse xs ≡ l ∷ reverse ys
last_first xs ys l e = ap reverse e ∙ reverse-append ys (l ∷ [])

-- ---- what the levels say

slice_at : (k : ℕ) (xs others : List Statement) (a : Statement) → drop k xs ≡ a ∷ others → slice_get (statements (block xs)) k ≡ Some a
slice_at zero [] others a e = cc
slice_at zero (x ∷ xs) others a e = ap (λ ys. slice_get ys 0) e
slice_at (suc k) [] others a e = cc
slice_at (suc k) (x ∷ xs) others a e = slice_at k xs others a e

module _ (g : Basis) where
  -- the level of a block
  pub stand_in : (outer : Path) (blocks : Branch → Option Block) (b : Block) (first : KnownFields) (l : Level) (ls : List Level) → blocks (branch_taken l.branch) ≡ Some b → Stand g outer blocks first (l ∷ ls) → StandIn g outer b first l ls
  stand_in outer blocks b first l ls e h = subst (λ x. IfSome x (λ c. StandIn g outer c first l ls)) e h

  pub stand_out : (outer : Path) (blocks : Branch → Option Block) (b : Block) (first : KnownFields) (l : Level) (ls : List Level) → blocks (branch_taken l.branch) ≡ Some b → StandIn g outer b first l ls → Stand g outer blocks first (l ∷ ls)
  stand_out outer blocks b first l ls e h = subst (λ x. IfSome x (λ c. StandIn g outer c first l ls)) (sym e) h

  -- the levels inside its statement, at that path
  abbrev Inside : Path → Path → Branch → ℕ → Block → KnownFields → List Level → Statement → Type 0
  Inside outer path branch k b first ls a = Stand g path (λ t. branch_of t a) (known_inside (telling_of g) path a (passed (telling_of g) outer branch zero k b first)) ls

  pub stand_inside : (outer path : Path) (branch : Branch) (k : ℕ) (xs others : List Statement) (a : Statement) (first : KnownFields) (ls : List Level) → path ≡ path_in outer branch k → drop k xs ≡ a ∷ others → StandInside g outer branch (block xs) k first ls → Inside outer path branch k (block xs) first ls a
  stand_inside outer path branch k xs others a first ls p e h =
      subst (λ q. Inside outer q branch k (block xs) first ls a) (sym p)
      (subst (λ x. IfSome x (Inside outer (path_in outer branch k) branch k (block xs) first ls)) (slice_at k xs others a e) h)

  pub stand_outside : (outer path : Path) (branch : Branch) (k : ℕ) (xs others : List Statement) (a : Statement) (first : KnownFields) (ls : List Level) → path ≡ path_in outer branch k → drop k xs ≡ a ∷ others → Inside outer path branch k (block xs) first ls a → StandInside g outer branch (block xs) k first ls
  stand_outside outer path branch k xs others a first ls p e h =
      subst (λ x. IfSome x (Inside outer (path_in outer branch k) branch k (block xs) first ls)) (sym (slice_at k xs others a e))
      (subst (λ q. Inside outer q branch k (block xs) first ls a) p h)

  -- no levels
  pub none_inside : (outer : Path) (branch : Branch) (b : Block) (k : ℕ) (first : KnownFields) → StandInside g outer branch b k first []
  none_inside outer branch b k first = go (slice_get (statements b) k)
    where
      go : (o : Option Statement) → IfSome o (Inside outer (path_in outer branch k) branch k b first [])
      go None = tt
      go (Some a) = tt

  -- a level at the head of its block
  pub stand_new : (outer : Path) (blocks : Branch → Option Block) (first : KnownFields) (branch : taken.Branch) (known : Known) (ls : List Level) → ls ≡ [] → SameBelow g.count (known_in known) first → Stand g outer blocks first (record { branch = branch; index = zero; known = known } ∷ ls)
  stand_new outer blocks first branch known ls e h = go (blocks (branch_taken branch))
    where
      go : (x : Option Block) → IfSome x (λ b. StandIn g outer b first (record { branch = branch; index = zero; known = known }) ls)
      go None = tt
      go (Some b) = (h, subst (StandInside g outer (branch_taken branch) b zero first) (sym e) (none_inside outer (branch_taken branch) b zero first))

-- ---- steps

pub step_same : (l : Level) (s : Step) → l.branch ≡ s.branch → l.index ≡ s.index → step_to l ≡ step_taken s
step_same l s b i = ap₂ (λ t n. record { branch = branch_taken t; index = n }) b i
