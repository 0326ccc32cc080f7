-- No binder of a procedure is bound again behind it, in any block.
use Rattle.std.proofs.Common.{◌≡◌, ℕ, ◌==◌, Bool, true, false, not, ◌&&◌, ◌||◌, List, [], ◌∷◌, ◌++◌, refl, sym, ap, ◌∙◌, true≢false, eqb-true}
use Rattle.std.specs.List.{list_any}
use Rattle.exo_tree.specs.Tree.{Statement, Assign, Reduce, Config, Pass, If, For, Alloc, View, Call, Block, end, next}
use Rattle.exo_meaning.specs.Binders.{binders, step_binders}
use Rattle.exo_meaning.specs.Units.{are_distinct}
use Rattle.meaning_laws.specs.Sound.{binds}
use Rattle.meaning_laws.specs.Scoped.{has_binder, step_has_binder}
use Rattle.check_laws.proofs.OfFacts.Truths.{parts, neither, both_false, one_of, on_left, on_right, denied, self}

-- no binder is among the names of a set, nor is one bound again
abbrev mutual
  pub IsApart : (ℕ → Bool) → Block → Type 0
  IsApart later end = Unit {0}
  IsApart later (next a b) = StepIsApart (λ x. has_binder b x || later x) a × IsApart later b

  pub StepIsApart : (ℕ → Bool) → Statement → Type 0
  StepIsApart later (Assign x is e) = Unit {0}
  StepIsApart later (Reduce x is e) = Unit {0}
  StepIsApart later (Config f a) = Unit {0}
  StepIsApart later Pass = Unit {0}
  StepIsApart later (If c a b) = IsApart (λ x. has_binder b x || later x) a × IsApart later b
  StepIsApart later (For i lo hi b) = ((has_binder b i.id || later i.id) ≡ false) × IsApart later b
  StepIsApart later (Alloc x cell dims memory) = later x.id ≡ false
  StepIsApart later (View w x coords) = later w.id ≡ false
  StepIsApart later (Call k args) = Unit {0}

mutual
  pub apart_there : (later : ℕ → Bool) (b : Block) → IsApart later b → (x : ℕ) → has_binder b x ≡ true → later x ≡ false
  apart_there later end h x k = absurd (true≢false (sym k))
  apart_there later (next a b) h x k = one_of (step_has_binder a x) (has_binder b x) k (λ j. (neither (has_binder b x) (later x) (step_apart_there (λ x. has_binder b x || later x) a h.0 x j)).1) (apart_there later b h.1 x)

  pub step_apart_there : (later : ℕ → Bool) (a : Statement) → StepIsApart later a → (x : ℕ) → step_has_binder a x ≡ true → later x ≡ false
  step_apart_there later (Assign y is e) h x k = absurd (true≢false (sym k))
  step_apart_there later (Reduce y is e) h x k = absurd (true≢false (sym k))
  step_apart_there later (Config f a) h x k = absurd (true≢false (sym k))
  step_apart_there later Pass h x k = absurd (true≢false (sym k))
  step_apart_there later (If c a b) h x k = one_of (has_binder a x) (has_binder b x) k (λ j. (neither (has_binder b x) (later x) (apart_there (λ x. has_binder b x || later x) a h.0 x j)).1) (apart_there later b h.1 x)
  step_apart_there later (For i lo hi b) h x k = one_of (x == i.id) (has_binder b x) k (λ j. ap later (eqb-true x i.id j) ∙ (neither (has_binder b i.id) (later i.id) h.0).1) (apart_there later b h.1 x)
  step_apart_there later (Alloc y cell dims memory) h x k = ap later (eqb-true x y.id k) ∙ h
  step_apart_there later (View w y coords) h x k = ap later (eqb-true x w.id k) ∙ h
  step_apart_there later (Call n args) h x k = absurd (true≢false (sym k))

-- what a statement binds in its own block is one of its binders
pub binds_less : (a : Statement) (x : ℕ) → binds a x ≡ true → step_has_binder a x ≡ true
binds_less (Assign y is e) x h = h
binds_less (Reduce y is e) x h = h
binds_less (Config f a) x h = h
binds_less Pass x h = h
binds_less (If c a b) x h = absurd (true≢false (sym h))
binds_less (For i lo hi b) x h = absurd (true≢false (sym h))
binds_less (Alloc y cell dims memory) x h = h
binds_less (View w y coords) x h = h
binds_less (Call n args) x h = h

-- ---- from distinct ids

abbrev pub Among : List ℕ → ℕ → Bool
Among xs x = list_any (λ y. x == y) xs

pub among_first : (xs ys : List ℕ) (x : ℕ) → Among xs x ≡ true → Among (xs ++ ys) x ≡ true
among_first [] ys x h = absurd (true≢false (sym h))
among_first (z ∷ xs) ys x h = one_of (x == z) (Among xs x) h (on_left (x == z) (Among (xs ++ ys) x)) (λ k. on_right (x == z) (Among (xs ++ ys) x) (among_first xs ys x k))

pub among_second : (xs ys : List ℕ) (x : ℕ) → Among ys x ≡ true → Among (xs ++ ys) x ≡ true
among_second [] ys x h = h
among_second (z ∷ xs) ys x h = on_right (x == z) (Among (xs ++ ys) x) (among_second xs ys x h)

among_one : (xs ys : List ℕ) (x : ℕ) {P : Type 0} → Among (xs ++ ys) x ≡ true → (Among xs x ≡ true → P) → (Among ys x ≡ true → P) → P
among_one [] ys x h f g = g h
among_one (z ∷ xs) ys x h f g = one_of (x == z) (Among (xs ++ ys) x) h (λ k. f (on_left (x == z) (Among xs x) k)) (λ k. among_one xs ys x k (λ j. f (on_right (x == z) (Among xs x) j)) g)

none_among : (xs ys : List ℕ) (x : ℕ) → Among (xs ++ ys) x ≡ false → (Among xs x ≡ false) × (Among ys x ≡ false)
none_among [] ys x h = (refl, h)
none_among (z ∷ xs) ys x h =
    let p = neither (x == z) (Among (xs ++ ys) x) h in
    let r = none_among xs ys x p.1 in
    (both_false (x == z) (Among xs x) p.0 r.0, r.1)

-- the first of two lists of different ids, the second, and none of the one in the other
pub record Split (xs ys : List ℕ) : Type 0 where
  pub first : are_distinct xs ≡ true
  pub second : are_distinct ys ≡ true
  pub apart : (x : ℕ) → Among xs x ≡ true → Among ys x ≡ false

pub split : (xs ys : List ℕ) → are_distinct (xs ++ ys) ≡ true → Split xs ys
split [] ys h = record { first = refl; second = h; apart = λ x k. absurd (true≢false (sym k)) }
split (z ∷ xs) ys h =
    let p = parts (not (Among (xs ++ ys) z)) (are_distinct (xs ++ ys)) h in
    let r = split xs ys p.1 in
    let n = none_among xs ys z (denied (Among (xs ++ ys) z) p.0) in
    record {
      first = ap (λ t. not t && are_distinct xs) n.0 ∙ r.first;
      second = r.second;
      apart = λ x k. one_of (x == z) (Among xs x) k (λ e. ap (Among ys) (eqb-true x z e) ∙ n.1) (r.apart x);
    }

mutual
  pub has_among : (b : Block) (x : ℕ) → has_binder b x ≡ true → Among (binders b) x ≡ true
  has_among end x h = absurd (true≢false (sym h))
  has_among (next a b) x h = one_of (step_has_binder a x) (has_binder b x) h (λ k. among_first (step_binders a) (binders b) x (step_has_among a x k)) (λ k. among_second (step_binders a) (binders b) x (has_among b x k))

  pub step_has_among : (a : Statement) (x : ℕ) → step_has_binder a x ≡ true → Among (step_binders a) x ≡ true
  step_has_among (Assign y is e) x h = absurd (true≢false (sym h))
  step_has_among (Reduce y is e) x h = absurd (true≢false (sym h))
  step_has_among (Config f a) x h = absurd (true≢false (sym h))
  step_has_among Pass x h = absurd (true≢false (sym h))
  step_has_among (If c a b) x h = one_of (has_binder a x) (has_binder b x) h (λ k. among_first (binders a) (binders b) x (has_among a x k)) (λ k. among_second (binders a) (binders b) x (has_among b x k))
  step_has_among (For i lo hi b) x h = one_of (x == i.id) (has_binder b x) h (on_left (x == i.id) (Among (binders b) x)) (λ k. on_right (x == i.id) (Among (binders b) x) (has_among b x k))
  step_has_among (Alloc y cell dims memory) x h = on_left (x == y.id) false h
  step_has_among (View w y coords) x h = on_left (x == w.id) false h
  step_has_among (Call n args) x h = absurd (true≢false (sym h))

-- a name that is not among the binders is bound nowhere
pub not_bound : (b : Block) (x : ℕ) → Among (binders b) x ≡ false → has_binder b x ≡ false
not_bound b x h = go (has_binder b x) refl
  where
    go : (t : Bool) → has_binder b x ≡ t → has_binder b x ≡ false
    go true k = absurd (true≢false (sym (has_among b x k) ∙ h))
    go false k = k

-- ids that differ among themselves and from those of the set
mutual
  pub apart : (later : ℕ → Bool) (b : Block) → are_distinct (binders b) ≡ true → ((x : ℕ) → Among (binders b) x ≡ true → later x ≡ false) → IsApart later b
  apart later end h k = tt
  apart later (next a b) h k =
      let r = split (step_binders a) (binders b) h in (
        step_apart (λ x. has_binder b x || later x) a r.first (λ x j. both_false (has_binder b x) (later x) (not_bound b x (r.apart x j)) (k x (among_first (step_binders a) (binders b) x j))),
        apart later b r.second (λ x j. k x (among_second (step_binders a) (binders b) x j)),
      )

  step_apart : (later : ℕ → Bool) (a : Statement) → are_distinct (step_binders a) ≡ true → ((x : ℕ) → Among (step_binders a) x ≡ true → later x ≡ false) → StepIsApart later a
  step_apart later (Assign x is e) h k = tt
  step_apart later (Reduce x is e) h k = tt
  step_apart later (Config f a) h k = tt
  step_apart later Pass h k = tt
  step_apart later (If c a b) h k =
      let r = split (binders a) (binders b) h in (
        apart (λ x. has_binder b x || later x) a r.first (λ x j. both_false (has_binder b x) (later x) (not_bound b x (r.apart x j)) (k x (among_first (binders a) (binders b) x j))),
        apart later b r.second (λ x j. k x (among_second (binders a) (binders b) x j)),
      )
  step_apart later (For i lo hi b) h k =
      let p = parts (not (Among (binders b) i.id)) (are_distinct (binders b)) h in (
        both_false (has_binder b i.id) (later i.id) (not_bound b i.id (denied (Among (binders b) i.id) p.0)) (k i.id (on_left (i.id == i.id) (Among (binders b) i.id) (self i.id))),
        apart later b p.1 (λ x j. k x (on_right (x == i.id) (Among (binders b) x) j)),
      )
  step_apart later (Alloc x cell dims memory) h k = k x.id (on_left (x.id == x.id) false (self x.id))
  step_apart later (View w x coords) h k = k w.id (on_left (w.id == w.id) false (self w.id))
  step_apart later (Call n args) h k = tt
