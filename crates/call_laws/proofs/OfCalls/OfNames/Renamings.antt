-- A map that takes no two ids of a list to one is part of a renaming.
use Rattle.std.proofs.Common.{◌≡◌, ℕ, ◌==◌, Bool, true, false, not, ◌||◌, cond, List, [], ◌∷◌, length, map, arith}
use Rattle.std.proofs.Common.{refl, sym, ap, ap₂, ◌∙◌, true≢false, eqb-true, eq-eqb}
use Rattle.std.specs.List.{list_any}
use Rattle.exo_meaning.specs.Renaming.{Renaming}
use Rattle.exo_meaning.specs.Units.{are_distinct}
use Rattle.meaning_laws.specs.Fresh.{swapped}
use Rattle.meaning_laws.proofs.Facts.{or_left, or_right}
use Rattle.meaning_laws.proofs.Scoped.{or_elim, not_true}
use Rattle.meaning_laws.proofs.Substitute.{and_parts}
use Rattle.exo_meaning.proofs.Frame.{or_parts}
use Rattle.meaning_laws.proofs.Swaps.{swapped_twice}
use Rattle.call_laws.specs.Calls.Names.Renamings.{is_among, IsInjectiveOn, InjectionsExtend}
use Rattle.call_laws.specs.Calls.Names.Renamings.{ListsExtend}

-- ---- one exchange more

-- after the renaming, two ids change places
abbrev then_swapped : Renaming → ℕ → ℕ → Renaming
then_swapped r a b =
    record {
      to = λ x. swapped a b (r.to x);
      from = λ x. r.from (swapped a b x);
      to_from = λ x. ap (swapped a b) (r.to_from (swapped a b x)) ∙ swapped_twice a b x;
      from_to = λ x. ap r.from (swapped_twice a b (r.to x)) ∙ r.from_to x;
    }

abbrev same : Renaming
same = record { to = λ x. x; from = λ x. x; to_from = λ x. refl; from_to = λ x. refl }

first_goes : (a b : ℕ) → swapped a b a ≡ b
first_goes a b = ap (λ t. cond t b (cond (a == b) a a)) (eq-eqb a a refl)

other_stays : (a b x : ℕ) → (x == a) ≡ false → (x == b) ≡ false → swapped a b x ≡ x
other_stays a b x h k = ap (λ t. cond t b (cond (x == b) a x)) h ∙ ap (λ t. cond t a x) k

unequal : (x y : ℕ) → (x ≡ y → ⊥) → (x == y) ≡ false
unequal x y h = go (x == y) refl
  where
    go : (t : Bool) → (x == y) ≡ t → t ≡ false
    go true e = absurd (h (eqb-true x y e))
    go false e = refl

not_equal : (x y : ℕ) → (x == y) ≡ false → x ≡ y → ⊥
not_equal x y h e = true≢false (sym (eq-eqb x y e) ∙ h)

to_once : (r : Renaming) (x y : ℕ) → r.to x ≡ r.to y → x ≡ y
to_once r x y e = sym (r.from_to x) ∙ ap r.from e ∙ r.from_to y

-- ---- maps

abbrev Extended : List ℕ → (ℕ → ℕ) → Type 0
Extended is to = (r : Renaming) × ((x : ℕ) → is_among is x ≡ true → r.to x ≡ to x)

module _ (i : ℕ) (is : List ℕ) (to : ℕ → ℕ) (once : IsInjectiveOn (i ∷ is) to) (r : Renaming)
    (below : (x : ℕ) → is_among is x ≡ true → r.to x ≡ to x) where
  old_ids : is_among is i ≡ true → (x : ℕ) → is_among (i ∷ is) x ≡ true → r.to x ≡ to x
  old_ids k x h = or_elim (x == i) (is_among is x) h
      (λ e. ap r.to (eqb-true x i e) ∙ below i k ∙ ap to (sym (eqb-true x i e)))
      (below x)

  away : (x : ℕ) → (x ≡ i → ⊥) → is_among is x ≡ true
      → swapped (r.to i) (to i) (r.to x) ≡ to x
  away x other h =
      other_stays (r.to i) (to i) (r.to x)
      (unequal (r.to x) (r.to i) (λ e. other (to_once r x i e)))
      (unequal (r.to x) (to i) (λ e. other (once x i (or_right (x == i) (is_among is x) h)
      (or_left (i == i) (is_among is i) (eq-eqb i i refl)) (sym (below x h) ∙ e))))
      ∙ below x h

  new_ids : (x : ℕ) → is_among (i ∷ is) x ≡ true → swapped (r.to i) (to i) (r.to x) ≡ to x
  new_ids x h = split (x == i) refl
    where
      split : (t : Bool) → (x == i) ≡ t → swapped (r.to i) (to i) (r.to x) ≡ to x
      split true e =
          ap (λ z. swapped (r.to i) (to i) (r.to z)) (eqb-true x i e) ∙ first_goes (r.to i) (to i)
          ∙ ap to (sym (eqb-true x i e))
      split false e = away x (not_equal x i e) (ap (λ t. t || is_among is x) (sym e) ∙ h)

  -- the exchange does nothing where the id is in the list already
  one_more : (t : Bool) → is_among is i ≡ t → Extended (i ∷ is) to
  one_more true k = (r, old_ids k)
  one_more false k = (then_swapped r (r.to i) (to i), new_ids)

pub injections_extend : InjectionsExtend
injections_extend [] to once = (same, λ x h. absurd (true≢false (sym h)))
injections_extend (i ∷ is) to once =
    let below = injections_extend is to
    (λ x y h k e. once x y (or_right (x == i) (is_among is x) h) (or_right (y == i) (is_among is y) k) e) in
    one_more i is to once below.0 below.1 (is_among is i) refl

-- ---- lists

not_among : (xs : List ℕ) (x : ℕ) → list_any (λ y. x == y) xs ≡ is_among xs x
not_among [] x = refl
not_among (y ∷ xs) x = ap (λ t. (x == y) || t) (not_among xs x)

-- what goes to neither of the two stays
stay : (a b : ℕ) (xs : List ℕ) → is_among xs a ≡ false → is_among xs b ≡ false
    → map (swapped a b) xs ≡ xs
stay a b [] h k = refl
stay a b (x ∷ xs) h k =
    let p = or_parts (a == x) (is_among xs a) h in
    let q = or_parts (b == x) (is_among xs b) k in
    ap₂ ◌∷◌
    (other_stays a b x (unequal x a (λ e. not_equal a x p.0 (sym e))) (unequal x b (λ e. not_equal b x q.0 (sym e))))
    (stay a b xs p.1 q.1)

mapped_twice : (f g : ℕ → ℕ) (xs : List ℕ) → map (λ x. f (g x)) xs ≡ map f (map g xs)
mapped_twice f g [] = refl
mapped_twice f g (x ∷ xs) = ap (λ rest. f (g x) ∷ rest) (mapped_twice f g xs)

-- an id that is not in a list does not go into its image
outside : (r : Renaming) (x : ℕ) (xs : List ℕ) → is_among xs x ≡ false
    → is_among (map r.to xs) (r.to x) ≡ false
outside r x [] h = refl
outside r x (y ∷ xs) h =
    let p = or_parts (x == y) (is_among xs x) h in
    ap₂ (λ s t. s || t)
    (unequal (r.to x) (r.to y) (λ e. not_equal x y p.0 (to_once r x y e)))
    (outside r x xs p.1)

module _ (i j : ℕ) (is js : List ℕ) (apart : is_among is i ≡ false) (other : is_among js j ≡ false)
    (r : Renaming) (below : map r.to is ≡ js) where
  rest_goes : map (λ x. swapped (r.to i) j (r.to x)) is ≡ js
  rest_goes =
      mapped_twice (swapped (r.to i) j) r.to is
      ∙ stay (r.to i) j (map r.to is) (outside r i is apart) (ap (λ xs. is_among xs j) below ∙ other)
      ∙ below

pub lists_extend : ListsExtend
lists_extend [] [] n h k = (same, refl)
lists_extend [] (j ∷ js) n h k = absurd (omega arith)
lists_extend (i ∷ is) [] n h k = absurd (omega arith)
lists_extend (i ∷ is) (j ∷ js) n h k =
    let p = and_parts (not (list_any (λ y. i == y) is)) (are_distinct is) h in
    let q = and_parts (not (list_any (λ y. j == y) js)) (are_distinct js) k in
    let same_length : length is ≡ length js = omega arith in
    let below = lists_extend is js same_length p.1 q.1 in (
      then_swapped below.0 (below.0.to i) j,
      ap₂ ◌∷◌ (first_goes (below.0.to i) j)
          (rest_goes i j is js (sym (not_among is i) ∙ not_true (list_any (λ y. i == y) is) p.0)
          (sym (not_among js j) ∙ not_true (list_any (λ y. j == y) js) q.0) below.0 below.1),
    )
