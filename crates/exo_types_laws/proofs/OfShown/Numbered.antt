-- A renaming that gives ids of a list, each of which stands once, the numbers from one on.
use Rattle.std.proofs.Common.{◌≡◌, ℕ, suc, ◌+◌, ◌<◌, ◌==◌, Bool, true, false, not, if◌then◌else◌, List, [], ◌∷◌, ◌++◌, length, refl, sym, ap, ◌∙◌, true≢false, eqb-true, eq-eqb, arith, subst}
use Rattle.std.proofs.lemmas.Bool.Decides.{nat_tests}
use Rattle.exo_meaning.specs.Units.{are_distinct}
use Rattle.exo_meaning.specs.Renaming.{Renaming}
use Rattle.exo_types_laws.proofs.OfShown.Scoped.{both, neither, denied}
use Rattle.exo_types_laws.proofs.OfShown.Distinct.{has, same_number}

-- two ids change places
abbrev pub exchanged : ℕ → ℕ → ℕ → ℕ
exchanged a b x = if x == a then b else (if x == b then a else x)

to_other : (a b : ℕ) → exchanged a b a ≡ b
to_other a b = ap (λ t. if t then b else (if a == b then a else a)) (same_number a)

back : (a b : ℕ) → exchanged a b b ≡ a
back a b = by (b == a) refl
  where
    by : (t : Bool) → (b == a) ≡ t → (if t then b else (if b == b then a else b)) ≡ a
    by true p = eqb-true b a p
    by false p = ap (λ t. if t then a else b) (same_number b)

away : (a b x : ℕ) → (x == a) ≡ false → (x == b) ≡ false → exchanged a b x ≡ x
away a b x p q = ap (λ t. if t then b else (if x == b then a else x)) p ∙ ap (λ t. if t then a else x) q

pub twice : (a b x : ℕ) → exchanged a b (exchanged a b x) ≡ x
twice a b x = by (x == a) (x == b) refl refl
  where
    by : (t u : Bool) → (x == a) ≡ t → (x == b) ≡ u → exchanged a b (exchanged a b x) ≡ x
    by true u p q = let e = eqb-true x a p in ap (exchanged a b) (ap (exchanged a b) e ∙ to_other a b) ∙ back a b ∙ sym e
    by false true p q = let e = eqb-true x b q in ap (exchanged a b) (ap (exchanged a b) e ∙ back a b) ∙ to_other a b ∙ sym e
    by false false p q = ap (exchanged a b) (away a b x p q) ∙ away a b x p q

abbrev pub same_ids : Renaming
same_ids = record { to = λ x. x; from = λ x. x; to_from = λ x. refl; from_to = λ x. refl }

-- then two ids change places
abbrev exchange : ℕ → ℕ → Renaming → Renaming
exchange a b r = record {
  to = λ x. exchanged a b (r.to x);
  from = λ y. r.from (exchanged a b y);
  to_from = λ y. ap (exchanged a b) (r.to_from (exchanged a b y)) ∙ twice a b y;
  from_to = λ x. ap r.from (twice a b (r.to x)) ∙ r.from_to x;
}

-- the ids of the list have the numbers from this one on
abbrev pub Counts : Renaming → ℕ → List ℕ → Type 0
Counts r id [] = Unit {0}
Counts r id (x ∷ xs) = (r.to x ≡ id) × Counts r (suc id) xs

abbrev pub counted : ℕ → List ℕ → Renaming → Renaming
counted id [] r = r
counted id (x ∷ xs) r = counted (suc id) xs (exchange (r.to x) id r)

pub one_to_one : (r : Renaming) (x y : ℕ) → (x == y) ≡ false → (r.to x == r.to y) ≡ false
one_to_one r x y h = by (r.to x == r.to y) refl
  where
    by : (t : Bool) → (r.to x == r.to y) ≡ t → (r.to x == r.to y) ≡ false
    by true p =
        let e : x ≡ y = sym (r.from_to x) ∙ ap r.from (eqb-true (r.to x) (r.to y) p) ∙ r.from_to y in
        absurd (true≢false (sym (eq-eqb x y e) ∙ h))
    by false p = p

not_same : (a b : ℕ) → a < b → (a == b) ≡ false
not_same a b l = grind (arith, nat_tests, l)

-- what has a number below stays
stays : (id : ℕ) (xs : List ℕ) (r : Renaming) (y : ℕ) → has xs y ≡ false → r.to y < id → (counted id xs r).to y ≡ r.to y
stays id [] r y h l = refl
stays id (x ∷ xs) r y h l =
    let s = neither (y == x) (has xs y) h in
    let same : exchanged (r.to x) id (r.to y) ≡ r.to y = away (r.to x) id (r.to y) (one_to_one r y x s.0) (not_same (r.to y) id l) in
    let low : exchanged (r.to x) id (r.to y) < suc id = omega (arith, same, l) in
    stays (suc id) xs (exchange (r.to x) id r) y s.1 low ∙ same

pub counts : (id : ℕ) (xs : List ℕ) (r : Renaming) → are_distinct xs ≡ true → Counts (counted id xs r) id xs
counts id [] r d = tt
counts id (x ∷ xs) r d =
    let s = both (not (has xs x)) _ d in
    let here : exchanged (r.to x) id (r.to x) ≡ id = to_other (r.to x) id in
    let low : exchanged (r.to x) id (r.to x) < suc id = omega (arith, here) in
    (stays (suc id) xs (exchange (r.to x) id r) x (denied _ s.0) low ∙ here, counts (suc id) xs (exchange (r.to x) id r) s.1)

pub split_left : (r : Renaming) (id : ℕ) (xs ys : List ℕ) → Counts r id (xs ++ ys) → Counts r id xs
split_left r id [] ys h = tt
split_left r id (x ∷ xs) ys h = (h.0, split_left r (suc id) xs ys h.1)

pub split_right : (r : Renaming) (id : ℕ) (xs ys : List ℕ) → Counts r id (xs ++ ys) → Counts r (id + length xs) ys
split_right r id [] ys h = let e : id ≡ id + 0 = omega arith in subst (λ (n : ℕ). Counts r n ys) e h
split_right r id (x ∷ xs) ys h = let e : suc id + length xs ≡ id + suc (length xs) = omega arith in subst (λ (n : ℕ). Counts r n ys) e (split_right r (suc id) xs ys h.1)
