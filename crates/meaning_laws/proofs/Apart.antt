-- No binder is bound again later.
use Rattle.std.proofs.Common.{◌≡◌, ℕ, ◌==◌, ◌&&◌, ◌||◌, not, Bool, true, false, List, [], ◌∷◌, ◌++◌, refl, sym, ap, ◌∙◌, true≢false, eqb-true, eq-eqb}
use Rattle.std.specs.List.{list_any}
use Rattle.exo_tree.specs.Tree.{Statement, Assign, Reduce, Config, Pass, If, For, Alloc, View, Call, Block, end, next}
use Rattle.exo_meaning.specs.Binders.{binders, step_binders}
use Rattle.exo_meaning.specs.Units.{are_distinct}
use Rattle.exo_meaning.proofs.Frame.{or_parts}
use Rattle.meaning_laws.specs.Sound.{binds}
use Rattle.meaning_laws.specs.Scoped.{has_binder, step_has_binder}
use Rattle.meaning_laws.proofs.Substitute.{and_parts}
use Rattle.meaning_laws.proofs.Scoped.{or_elim, not_true}

-- what a statement binds in its own block is one of its binders
pub binds_less : (a : Statement) (x : ℕ) → step_has_binder a x ≡ false → binds a x ≡ false
binds_less (Assign y is e) x h = refl
binds_less (Reduce y is e) x h = refl
binds_less (Config f a) x h = refl
binds_less Pass x h = refl
binds_less (If c a b) x h = refl
binds_less (For i lo hi b) x h = refl
binds_less (Alloc y cell dims memory) x h = h
binds_less (View w y coords) x h = h
binds_less (Call n args) x h = refl

-- no binder is among the names of a set, nor is one bound again in its block behind the statement that binds it
abbrev mutual
  pub IsApart : (ℕ → Bool) → Block → Type 0
  IsApart later end = Unit {0}
  IsApart later (next a b) = StepIsApart (λ x. has_binder b x || later x) a × IsApart later b

  pub StepIsApart : (ℕ → Bool) → Statement → Type 0
  StepIsApart later (Assign x is e) = Unit {0}
  StepIsApart later (Reduce x is e) = Unit {0}
  StepIsApart later (Config f a) = Unit {0}
  StepIsApart later Pass = Unit {0}
  StepIsApart later (If c a b) = IsApart later a × IsApart later b
  StepIsApart later (For i lo hi b) = (later i.id ≡ false) × IsApart later b
  StepIsApart later (Alloc x cell dims memory) = later x.id ≡ false
  StepIsApart later (View w x coords) = later w.id ≡ false
  StepIsApart later (Call k args) = Unit {0}

-- so no name that is bound later is bound by the statement
pub binds_apart : (later : ℕ → Bool) (a : Statement) (x : ℕ) → StepIsApart later a → later x ≡ true → binds a x ≡ false
binds_apart later (Assign y is e) x h k = refl
binds_apart later (Reduce y is e) x h k = refl
binds_apart later (Config f a) x h k = refl
binds_apart later Pass x h k = refl
binds_apart later (If c a b) x h k = refl
binds_apart later (For i lo hi b) x h k = refl
binds_apart later (Alloc y cell dims memory) x h k = go (x == y.id) refl
  where
    go : (t : Bool) → (x == y.id) ≡ t → (x == y.id) ≡ false
    go true e = absurd (true≢false (sym k ∙ ap later (eqb-true x y.id e) ∙ h))
    go false e = e
binds_apart later (View w y coords) x h k = go (x == w.id) refl
  where
    go : (t : Bool) → (x == w.id) ≡ t → (x == w.id) ≡ false
    go true e = absurd (true≢false (sym k ∙ ap later (eqb-true x w.id e) ∙ h))
    go false e = e
binds_apart later (Call n args) x h k = refl

-- ---- from distinct ids

abbrev Among : List ℕ → ℕ → Bool
Among xs x = list_any (λ y. x == y) xs

among_left : (xs ys : List ℕ) (x : ℕ) → Among (xs ++ ys) x ≡ false → Among xs x ≡ false
among_left [] ys x h = refl
among_left (z ∷ xs) ys x h = go (x == z) (among_left xs ys x) h
  where
    go : (t : Bool) → (Among (xs ++ ys) x ≡ false → Among xs x ≡ false) → (t || Among (xs ++ ys) x) ≡ false → (t || Among xs x) ≡ false
    go true rest h = h
    go false rest h = rest h

among_right : (xs ys : List ℕ) (x : ℕ) → Among (xs ++ ys) x ≡ false → Among ys x ≡ false
among_right [] ys x h = h
among_right (z ∷ xs) ys x h = among_right xs ys x (or_parts (x == z) (Among (xs ++ ys) x) h).1

among_none : (xs ys : List ℕ) (x : ℕ) → Among xs x ≡ false → Among ys x ≡ false → Among (xs ++ ys) x ≡ false
among_none [] ys x h k = k
among_none (z ∷ xs) ys x h k = go (x == z) (among_none xs ys x) h
  where
    go : (t : Bool) → (Among xs x ≡ false → Among ys x ≡ false → Among (xs ++ ys) x ≡ false) → (t || Among xs x) ≡ false → (t || Among (xs ++ ys) x) ≡ false
    go true rest h = h
    go false rest h = rest h k

-- the first of two lists of different ids, the second, and none of the one in the other
record Split (xs ys : List ℕ) : Type 0 where
  first : are_distinct xs ≡ true
  second : are_distinct ys ≡ true
  apart : (x : ℕ) → Among xs x ≡ true → Among ys x ≡ false

split : (xs ys : List ℕ) → are_distinct (xs ++ ys) ≡ true → Split xs ys
split [] ys h = record { first = refl; second = h; apart = λ x k. absurd (true≢false (sym k)) }
split (z ∷ xs) ys h =
    let p = and_parts (not (Among (xs ++ ys) z)) (are_distinct (xs ++ ys)) h in
    let r = split xs ys p.1 in
    let n = not_true (Among (xs ++ ys) z) p.0 in
    record {
      first = ap (λ t. not t && are_distinct xs) (among_left xs ys z n) ∙ r.first;
      second = r.second;
      apart = λ x k. or_elim (x == z) (Among xs x) k (λ e. ap (Among ys) (eqb-true x z e) ∙ among_right xs ys z n) (r.apart x);
    }

one : (t : Bool) → t ≡ (t || false)
one true = refl
one false = refl

move : (a b c : Bool) → ((a || b) || c) ≡ (a || (b || c))
move true b c = refl
move false b c = refl

joined_among : (xs ys : List ℕ) (p q : Bool) (x : ℕ) → p ≡ Among xs x → q ≡ Among ys x → (p || q) ≡ Among (xs ++ ys) x
joined_among [] ys p q x h k = ap (λ t. t || q) h ∙ k
joined_among (z ∷ xs) ys p q x h k = ap (λ t. t || q) h ∙ move (x == z) (Among xs x) q ∙ ap (λ t. (x == z) || t) (joined_among xs ys (Among xs x) q x refl k)

mutual
  has_among : (b : Block) (x : ℕ) → has_binder b x ≡ Among (binders b) x
  has_among end x = refl
  has_among (next a b) x = joined_among (step_binders a) (binders b) (step_has_binder a x) (has_binder b x) x (step_has_among a x) (has_among b x)

  step_has_among : (a : Statement) (x : ℕ) → step_has_binder a x ≡ Among (step_binders a) x
  step_has_among (Assign y is e) x = refl
  step_has_among (Reduce y is e) x = refl
  step_has_among (Config f a) x = refl
  step_has_among Pass x = refl
  step_has_among (If c a b) x = joined_among (binders a) (binders b) (has_binder a x) (has_binder b x) x (has_among a x) (has_among b x)
  step_has_among (For i lo hi b) x = ap (λ t. (x == i.id) || t) (has_among b x)
  step_has_among (Alloc y cell dims memory) x = one (x == y.id)
  step_has_among (View w y coords) x = one (x == w.id)
  step_has_among (Call n args) x = refl

own : (x : ℕ) (xs : List ℕ) → Among (x ∷ xs) x ≡ true
own x xs = ap (λ t. t || Among xs x) (eq-eqb x x refl)

or_none : (a b : Bool) → a ≡ false → b ≡ false → (a || b) ≡ false
or_none true b h k = h
or_none false b h k = k

in_first : (xs ys : List ℕ) (x : ℕ) → Among xs x ≡ true → Among (xs ++ ys) x ≡ true
in_first [] ys x h = absurd (true≢false (sym h))
in_first (z ∷ xs) ys x h = go (x == z) (in_first xs ys x) h
  where
    go : (t : Bool) → (Among xs x ≡ true → Among (xs ++ ys) x ≡ true) → (t || Among xs x) ≡ true → (t || Among (xs ++ ys) x) ≡ true
    go true rest h = refl
    go false rest h = rest h

in_second : (xs ys : List ℕ) (x : ℕ) → Among ys x ≡ true → Among (xs ++ ys) x ≡ true
in_second [] ys x h = h
in_second (z ∷ xs) ys x h = go (x == z) (in_second xs ys x h)
  where
    go : (t : Bool) → Among (xs ++ ys) x ≡ true → (t || Among (xs ++ ys) x) ≡ true
    go true h = refl
    go false h = h

-- ids that differ among themselves and from those of the set
mutual
  pub apart : (later : ℕ → Bool) (b : Block) → are_distinct (binders b) ≡ true → ((x : ℕ) → Among (binders b) x ≡ true → later x ≡ false) → IsApart later b
  apart later end h k = tt
  apart later (next a b) h k =
      let r = split (step_binders a) (binders b) h in (
        step_apart (λ x. has_binder b x || later x) a r.first (λ x j. or_none (has_binder b x) (later x) (has_among b x ∙ r.apart x j) (k x (in_first (step_binders a) (binders b) x j))),
        apart later b r.second (λ x j. k x (in_second (step_binders a) (binders b) x j)),
      )

  step_apart : (later : ℕ → Bool) (a : Statement) → are_distinct (step_binders a) ≡ true → ((x : ℕ) → Among (step_binders a) x ≡ true → later x ≡ false) → StepIsApart later a
  step_apart later (Assign x is e) h k = tt
  step_apart later (Reduce x is e) h k = tt
  step_apart later (Config f a) h k = tt
  step_apart later Pass h k = tt
  step_apart later (If c a b) h k =
      let r = split (binders a) (binders b) h in
      (apart later a r.first (λ x j. k x (in_first (binders a) (binders b) x j)), apart later b r.second (λ x j. k x (in_second (binders a) (binders b) x j)))
  step_apart later (For i lo hi b) h k = (k i.id (own i.id (binders b)), apart later b (and_parts (not (Among (binders b) i.id)) (are_distinct (binders b)) h).1 (λ x j. k x (in_second (i.id ∷ []) (binders b) x j)))
  step_apart later (Alloc x cell dims memory) h k = k x.id (own x.id [])
  step_apart later (View w x coords) h k = k w.id (own w.id [])
  step_apart later (Call n args) h k = tt

-- behind a list of other ids too
pub body_apart : (xs : List ℕ) (b : Block) → are_distinct (xs ++ binders b) ≡ true → IsApart (λ x. false) b
body_apart xs b h = apart (λ x. false) b (split xs (binders b) h).second (λ x k. refl)
