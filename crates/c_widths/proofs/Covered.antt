-- No call gives more than what its callee's parameters are taken to be.
use Rattle.std.proofs.Common.{◌≡◌, ◌≤◌, ◌+◌, ◌-◌, ℕ, zero, suc, ◌==◌, Bool, true, false, ◌&&◌, ◌||◌, if◌then◌else◌, max, List, [], ◌∷◌, drop, Some, refl, sym, ap, ◌∙◌, subst, arith, eq-eqb}
use Rattle.std.specs.Prelude.{slice_get}
use Rattle.std.proofs.Math.Nat.{le_trans, le_refl, le-max_left, le-max_right}
use Rattle.std.proofs.lemmas.List.{drop-drop}
use Rattle.exo_tree.specs.Tree.{Argument, Statement, Assign, Reduce, Config, Pass, If, For, Alloc, View, Call, Block, end, next, Procedure}
use Rattle.exo_tree.specs.Calls.{calls, is_call_of}
use Rattle.c_widths.specs.Widths.{with_bounds}
use Rattle.c_widths.specs.Raises.{Raises, argument_magnitude, raised_by, raised, step_raised, most_from, given_from, given_to, most_at, AreCoveredFrom, IsCovered, StatementIsCovered, RaisesCover}
use Rattle.c_widths.proofs.Changes.{given_more}
use Rattle.c_widths.proofs.Growing.{drop_none}

either_left : (a b : Bool) → a ≡ true → (a || b) ≡ true
either_left a b h = ap (λ t. t || b) h

either_right : (a b : Bool) → b ≡ true → (a || b) ≡ true
either_right true b h = refl
either_right false b h = h

-- ---- what is given only grows

abbrev Grows : (Raises → Raises) → Type 0
Grows change = (given : Raises) (j i : ℕ) → given j i ≤ change given j i

more_grows : (k i m : ℕ) → Grows (given_more k i m)
more_grows k i m given j n = here ((j == k) && (n == i))
  where
    here : (t : Bool) → given j n ≤ (if t then max m (given j n) else given j n)
    here true = le-max_right m (given j n)
    here false = le_refl (given j n)

by_grows : (most : ℕ → ℕ) (k i : ℕ) (args : List Argument) → Grows (raised_by most k i args)
by_grows most k i [] given j n = le_refl (given j n)
by_grows most k i (a ∷ rest) given j n =
    let m = argument_magnitude most a in
    le_trans (more_grows k i m given j n) (by_grows most k (suc i) rest (given_more k i m given) j n)

mutual
  block_grows : (most : ℕ → ℕ) (b : Block) → Grows (raised most b)
  block_grows most end given j n = le_refl (given j n)
  block_grows most (next a b) given j n = le_trans (step_grows most a given j n) (block_grows most b (step_raised most a given) j n)

  step_grows : (most : ℕ → ℕ) (a : Statement) → Grows (step_raised most a)
  step_grows most (Assign x is d) given j n = le_refl (given j n)
  step_grows most (Reduce x is d) given j n = le_refl (given j n)
  step_grows most (Config f a) given j n = le_refl (given j n)
  step_grows most Pass given j n = le_refl (given j n)
  step_grows most (If c a b) given j n = le_trans (block_grows most a given j n) (block_grows most b (raised most a given) j n)
  step_grows most (For i lo hi b) given j n = block_grows (with_bounds most i.id lo hi) b given j n
  step_grows most (Alloc x cell dims memory) given j n = le_refl (given j n)
  step_grows most (View w x coords) given j n = le_refl (given j n)
  step_grows most (Call k args) given j n = by_grows most k 0 args given j n

-- ---- along a block

-- it is not past what the given table holds in the end
abbrev IsBelow : Raises → ℕ → Raises → Type 0
IsBelow given j most = (i : ℕ) → given j i ≤ most j i

arguments_covered : (most : ℕ → ℕ) (k i : ℕ) (args : List Argument) (given all : Raises) → IsBelow (raised_by most k i args given) k all → AreCoveredFrom (all k) most i args
arguments_covered most k i [] given all h = tt
arguments_covered most k i (a ∷ rest) given all h =
    let m = argument_magnitude most a in
    let noted : m ≤ given_more k i m given k i = here ((k == k) && (i == i)) (ap (λ t. t && (i == i)) (eq-eqb k k refl) ∙ eq-eqb i i refl) in
    (le_trans noted (le_trans (by_grows most k (suc i) rest (given_more k i m given) k i) (h i)), arguments_covered most k (suc i) rest (given_more k i m given) all h)
  where
    here : (t : Bool) → t ≡ true → argument_magnitude most a ≤ (if t then max (argument_magnitude most a) (given k i) else given k i)
    here true e = le-max_left (argument_magnitude most a) (given k i)
    here false e = cc

mutual
  block_covered : (most : ℕ → ℕ) (b : Block) (given all : Raises) → ((j : ℕ) → calls j b ≡ true → IsBelow (raised most b given) j all) → IsCovered all most b
  block_covered most end given all h = tt
  block_covered most (next a b) given all h = (
    step_covered most a given all (λ j c i. le_trans (block_grows most b (step_raised most a given) j i) (h j (either_left (is_call_of j a) (calls j b) c) i)),
    block_covered most b (step_raised most a given) all (λ j c. h j (either_right (is_call_of j a) (calls j b) c)),
  )

  step_covered : (most : ℕ → ℕ) (a : Statement) (given all : Raises) → ((j : ℕ) → is_call_of j a ≡ true → IsBelow (step_raised most a given) j all) → StatementIsCovered all most a
  step_covered most (Assign x is d) given all h = tt
  step_covered most (Reduce x is d) given all h = tt
  step_covered most (Config f a) given all h = tt
  step_covered most Pass given all h = tt
  step_covered most (If c a b) given all h = (
    block_covered most a given all (λ j k i. le_trans (block_grows most b (raised most a given) j i) (h j (either_left (calls j a) (calls j b) k) i)),
    block_covered most b (raised most a given) all (λ j k. h j (either_right (calls j a) (calls j b) k)),
  )
  step_covered most (For i lo hi b) given all h = block_covered (with_bounds most i.id lo hi) b given all h
  step_covered most (Alloc x cell dims memory) given all h = tt
  step_covered most (View w x coords) given all h = tt
  step_covered most (Call k args) given all h = arguments_covered most k 0 args given all (h k (eq-eqb k k refl))

-- ---- the procedures of a unit

drop_at : {A : Type 0} (xs : List A) (k : ℕ) (x : A) → slice_get xs k ≡ Some x → drop k xs ≡ x ∷ drop (suc k) xs
drop_at [] k x e = cc
drop_at (y ∷ xs) zero x e = let same : y ≡ x = cc in ap (λ z. z ∷ xs) same
drop_at (y ∷ xs) (suc k) x e = drop_at xs k x e

module _ (counted : ℕ → Bool) where
  one_grows : (o : ℕ) (p : Procedure) (ps : List Procedure) (j i : ℕ) → given_from counted (suc o) ps j i ≤ given_from counted o (p ∷ ps) j i
  one_grows o p ps j i = here (counted o)
    where
      here : (t : Bool) → given_from counted (suc o) ps j i ≤ (if t then raised (most_from p.params (given_from counted (suc o) ps o)) p.body (given_from counted (suc o) ps) else given_from counted (suc o) ps) j i
      here true = block_grows (most_from p.params (given_from counted (suc o) ps o)) p.body (given_from counted (suc o) ps) j i
      here false = le_refl (given_from counted (suc o) ps j i)

  -- what the procedures behind give is among what those in front of them and they give
  all_grow : (o d : ℕ) (ps : List Procedure) (j i : ℕ) → given_from counted (o + d) (drop d ps) j i ≤ given_from counted o ps j i
  all_grow o zero ps j i =
      let here : o + zero ≡ o = omega arith in
      subst (λ n. given_from counted n (drop zero ps) j i ≤ given_from counted o ps j i) (sym here) (subst (λ l. given_from counted o l j i ≤ given_from counted o ps j i) (sym (drop_none ps)) (le_refl (given_from counted o ps j i)))
  all_grow o (suc d) [] j i = le_refl 0
  all_grow o (suc d) (p ∷ ps) j i =
      let there : suc o + d ≡ o + suc d = omega arith in
      le_trans (subst (λ n. given_from counted n (drop d ps) j i ≤ given_from counted (suc o) ps j i) there (all_grow (suc o) d ps j i)) (one_grows o p ps j i)

  later_grow : (ps : List Procedure) (k l : ℕ) → k ≤ l → (j i : ℕ) → given_from counted l (drop l ps) j i ≤ given_from counted k (drop k ps) j i
  later_grow ps k l h j i =
      let there : k + (l - k) ≡ l = omega arith in
      subst (λ n. given_from counted n (drop n ps) j i ≤ given_from counted k (drop k ps) j i) there
      (subst (λ qs. given_from counted (k + (l - k)) qs j i ≤ given_from counted k (drop k ps) j i) (drop-drop (l - k) k ps) (all_grow k (l - k) (drop k ps) j i))

  -- what a counted procedure and those behind it give
  given_here : (ps : List Procedure) (k : ℕ) (p : Procedure) → slice_get ps k ≡ Some p → counted k ≡ true → given_from counted k (drop k ps) ≡ raised (most_at ps counted k p) p.body (given_from counted (suc k) (drop (suc k) ps))
  given_here ps k p is c =
      ap (given_from counted k) (drop_at ps k p is)
      ∙ ap (λ t. if t then raised (most_at ps counted k p) p.body (given_from counted (suc k) (drop (suc k) ps)) else given_from counted (suc k) (drop (suc k) ps)) c

pub raises_cover : RaisesCover
raises_cover ps counted k p is c before =
    block_covered (most_at ps counted k p) p.body (given_from counted (suc k) (drop (suc k) ps)) (given_to ps counted)
    (λ j called i. subst (λ (g : Raises). g j i ≤ given_to ps counted j i) (given_here counted ps k p is c)
    (later_grow counted ps (suc j) k (let below = before j called in omega arith) j i))
