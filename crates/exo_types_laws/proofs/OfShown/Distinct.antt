-- Lists of ids, each of which stands once.
use Rattle.std.proofs.Common.{◌≡◌, ℕ, ◌==◌, Bool, true, false, not, ◌&&◌, ◌||◌, List, [], ◌∷◌, ◌++◌, refl, sym, ap, ◌∙◌, true≢false, eqb-true, eq-eqb}
use Rattle.std.specs.List.{list_any}
use Rattle.exo_meaning.specs.Units.{are_distinct}
use Rattle.exo_types_laws.proofs.OfShown.Scoped.{both, neither, denied}

abbrev pub has : List ℕ → ℕ → Bool
has xs x = list_any (λ y. x == y) xs

pub same_number : (x : ℕ) → (x == x) ≡ true
same_number x = eq-eqb x x refl

pub has_append : (xs ys : List ℕ) (x : ℕ) → has (xs ++ ys) x ≡ (has xs x || has ys x)
has_append [] ys x = refl
has_append (y ∷ xs) ys x = by (x == y) (has_append xs ys x)
  where
    by : (t : Bool) → has (xs ++ ys) x ≡ (has xs x || has ys x) → (t || has (xs ++ ys) x) ≡ ((t || has xs x) || has ys x)
    by true p = refl
    by false p = p

or_right : (a b : Bool) → b ≡ true → (a || b) ≡ true
or_right true b h = refl
or_right false b h = h

or_left : (a b : Bool) → a ≡ true → (a || b) ≡ true
or_left a b h = ap (λ t. t || b) h

pub in_left : (xs ys : List ℕ) (x : ℕ) → has xs x ≡ true → has (xs ++ ys) x ≡ true
in_left xs ys x h = has_append xs ys x ∙ or_left (has xs x) (has ys x) h

pub in_right : (xs ys : List ℕ) (x : ℕ) → has ys x ≡ true → has (xs ++ ys) x ≡ true
in_right xs ys x h = has_append xs ys x ∙ or_right (has xs x) (has ys x) h

-- two lists behind one another, of which each element stands once
pub record Apart (xs ys : List ℕ) : Type 0 where
  pub left : are_distinct xs ≡ true
  pub right : are_distinct ys ≡ true
  pub none : (x : ℕ) → has xs x ≡ true → has ys x ≡ false

and_true : (a b : Bool) → a ≡ true → b ≡ true → (a && b) ≡ true
and_true a b p q = ap (λ t. t && b) p ∙ q

pub apart : (xs ys : List ℕ) → are_distinct (xs ++ ys) ≡ true → Apart xs ys
apart [] ys h = record { left = refl; right = h; none = λ x p. absurd (true≢false (sym p)) }
apart (y ∷ xs) ys h =
    let s = both (not (has (xs ++ ys) y)) _ h in
    let more = apart xs ys s.1 in
    let away = neither (has xs y) (has ys y) (sym (has_append xs ys y) ∙ denied _ s.0) in
    record { left = and_true _ _ (ap not away.0) more.left; right = more.right; none = λ x p. by x (x == y) refl p away.1 (more.none x) }
  where
    by : (x : ℕ) (t : Bool) → (x == y) ≡ t → (t || has xs x) ≡ true → has ys y ≡ false → (has xs x ≡ true → has ys x ≡ false) → has ys x ≡ false
    by x true q p away more = ap (has ys) (eqb-true x y q) ∙ away
    by x false q p away more = more p
