-- A numbered name tells the name that it is made of, and its number.
use Rattle.std.proofs.Common.{◌≡◌, ◌<◌, ◌^◌, ◌==◌, ◌++◌, ℕ, Bool, true, false, List, [], ◌∷◌, length, refl, sym, ap, ◌∙◌, arith, true≢false, codes, eqb-true, eq-eqb}
use Rattle.std.specs.Fmt.{decimal}
use Rattle.std.specs.Str.Parse.{AllDigits}
use Rattle.std.proofs.lemmas.Fmt.{decimal_is_IsNumeral, decimal_injective}
use Rattle.std.proofs.lemmas.Str.Parse.{digit_from_value}
use Rattle.std.proofs.lemmas.Bool.{and_parts, and_from}
use Rattle.c_tree.specs.Names.Words.{Name, same_name, is_own}
use Rattle.c_tree.specs.Names.Names.{numbered, pick}

-- ---- equal names

pub names_equal : (x y : Name) → same_name x y ≡ true → x ≡ y
names_equal [] [] h = refl
names_equal [] (b ∷ y) h = absurd (true≢false (sym h))
names_equal (a ∷ x) [] h = absurd (true≢false (sym h))
names_equal (a ∷ x) (b ∷ y) h = let p = and_parts (a == b) (same_name x y) h in both (eqb-true a b p.0) (names_equal x y p.1)
  where
    both : a ≡ b → x ≡ y → (a ∷ x) ≡ (b ∷ y)
    both e f = cc

pub same_self : (x : Name) → same_name x x ≡ true
same_self [] = refl
same_self (a ∷ x) = and_from (a == a) (same_name x x) (eq-eqb a a refl) (same_self x)

pub differ : (x y : Name) → (x ≡ y → ⊥) → same_name x y ≡ false
differ x y h = go (same_name x y) refl
  where
    go : (t : Bool) → same_name x y ≡ t → t ≡ false
    go false e = refl
    go true e = absurd (h (names_equal x y e))

-- ---- the line between a name and its number

no_line : (c : ℕ) (ds : List ℕ) → AllDigits 10 (c ∷ ds) → c ≡ 95 → ⊥
no_line c ds h e = omega (arith, digit_from_value c h.0, e)

nothing_is : (y e : List ℕ) → [] ≡ y ++ 95 ∷ e → ⊥
nothing_is [] e h = absurd cc
nothing_is (b ∷ y) e h = absurd cc

head_is : (a b : ℕ) (x y : List ℕ) → (a ∷ x) ≡ (b ∷ y) → a ≡ b
head_is a b x y h = cc

rest_is : (a b : ℕ) (x y : List ℕ) → (a ∷ x) ≡ (b ∷ y) → x ≡ y
rest_is a b x y h = cc

-- digits hold no line
digits_alone : (d y e : List ℕ) → AllDigits 10 d → d ≡ y ++ 95 ∷ e → ⊥
digits_alone [] y e h k = nothing_is y e k
digits_alone (c ∷ d) [] e h k = no_line c d h (head_is c 95 d e k)
digits_alone (c ∷ d) (b ∷ y) e h k = digits_alone d y e h.1 (rest_is c b d (y ++ 95 ∷ e) k)

-- digits behind the last line
pub split : (x y d e : List ℕ) → AllDigits 10 d → AllDigits 10 e → x ++ 95 ∷ d ≡ y ++ 95 ∷ e → (x ≡ y) × (d ≡ e)
split [] [] d e h k i = (refl, rest_is 95 95 d e i)
split [] (b ∷ y) d e h k i = absurd (digits_alone d y e h (rest_is 95 b d (y ++ 95 ∷ e) i))
split (a ∷ x) [] d e h k i = absurd (digits_alone e x d k (sym (rest_is a 95 (x ++ 95 ∷ d) e i)))
split (a ∷ x) (b ∷ y) d e h k i =
    let r = split x y d e h k (rest_is a b (x ++ 95 ∷ d) (y ++ 95 ∷ e) i) in
    (both (head_is a b (x ++ 95 ∷ d) (y ++ 95 ∷ e) i) r.0, r.1)
  where
    both : a ≡ b → x ≡ y → (a ∷ x) ≡ (b ∷ y)
    both e1 e2 = cc

-- digits between two lines, the last of which ends the name
ended : (d y r : List ℕ) → AllDigits 10 d → d ++ 95 ∷ [] ≡ y ++ 95 ∷ r → r ≡ []
ended [] [] r h k = sym (rest_is 95 95 [] r k)
ended [] (b ∷ y) r h k = absurd (nothing_is y r (rest_is 95 b [] (y ++ 95 ∷ r) k))
ended (c ∷ d) [] r h k = absurd (no_line c d h (head_is c 95 (d ++ 95 ∷ []) r k))
ended (c ∷ d) (b ∷ y) r h k = ended d y r h.1 (rest_is c b (d ++ 95 ∷ []) (y ++ 95 ∷ r) k)

not_ended : (e : List ℕ) → e ++ 95 ∷ [] ≡ [] → ⊥
not_ended [] h = absurd cc
not_ended (c ∷ e) h = absurd cc

ends_equal : (d e : List ℕ) → d ++ 95 ∷ [] ≡ e ++ 95 ∷ [] → d ≡ e
ends_equal [] [] h = refl
ends_equal [] (c ∷ e) h = absurd (nothing_is e [] (rest_is 95 c [] (e ++ 95 ∷ []) h))
ends_equal (c ∷ d) [] h = absurd (nothing_is d [] (sym (rest_is c 95 (d ++ 95 ∷ []) [] h)))
ends_equal (c ∷ d) (b ∷ e) h = both (head_is c b (d ++ 95 ∷ []) (e ++ 95 ∷ []) h) (ends_equal d e (rest_is c b (d ++ 95 ∷ []) (e ++ 95 ∷ []) h))
  where
    both : c ≡ b → d ≡ e → (c ∷ d) ≡ (b ∷ e)
    both e1 e2 = cc

pub split_between : (x y d e : List ℕ) → AllDigits 10 d → AllDigits 10 e → x ++ 95 ∷ (d ++ 95 ∷ []) ≡ y ++ 95 ∷ (e ++ 95 ∷ []) → (x ≡ y) × (d ≡ e)
split_between [] [] d e h k i = (refl, ends_equal d e (rest_is 95 95 (d ++ 95 ∷ []) (e ++ 95 ∷ []) i))
split_between [] (b ∷ y) d e h k i = absurd (not_ended e (ended d y (e ++ 95 ∷ []) h (rest_is 95 b (d ++ 95 ∷ []) (y ++ 95 ∷ (e ++ 95 ∷ [])) i)))
split_between (a ∷ x) [] d e h k i = absurd (not_ended d (ended e x (d ++ 95 ∷ []) k (sym (rest_is a 95 (x ++ 95 ∷ (d ++ 95 ∷ [])) (e ++ 95 ∷ []) i))))
split_between (a ∷ x) (b ∷ y) d e h k i =
    let r = split_between x y d e h k (rest_is a b (x ++ 95 ∷ (d ++ 95 ∷ [])) (y ++ 95 ∷ (e ++ 95 ∷ [])) i) in
    (both (head_is a b (x ++ 95 ∷ (d ++ 95 ∷ [])) (y ++ 95 ∷ (e ++ 95 ∷ [])) i) r.0, r.1)
  where
    both : a ≡ b → x ≡ y → (a ∷ x) ≡ (b ∷ y)
    both e1 e2 = cc

-- ---- numbered names

abbrev pub Small : ℕ → Type 0
Small n = n < 2 ^ 64

pub digits_of : (n : ℕ) → Small n → AllDigits 10 (decimal n)
digits_of n h = (decimal_is_IsNumeral n h).0.1

pub some_digit : (n : ℕ) → Small n → decimal n ≡ [] → ⊥
some_digit n h e = omega (arith, (decimal_is_IsNumeral n h).0.0, ap length e)

assoc : (x y z : List ℕ) → (x ++ y) ++ z ≡ x ++ (y ++ z)
assoc [] y z = refl
assoc (a ∷ x) y z = ap (λ r. a ∷ r) (assoc x y z)

abbrev pub open_form : Name → ℕ → Name
open_form x k = x ++ 95 ∷ decimal k

-- whether the name begins as an own one once a number is behind it
abbrev pub is_own_stem : Name → Bool
is_own_stem x = is_own (x ++ 95 ∷ [])

abbrev pub own_form : Name → ℕ → Name
own_form x k = 118 ∷ (x ++ 95 ∷ (decimal k ++ 95 ∷ []))

numbered_is : (x : Name) (k : ℕ) → numbered x k ≡ pick (is_own_stem x) (own_form x k) (open_form x k)
numbered_is x k =
    ap (λ u. pick (is_own_stem x) u (x ++ codes "_" ++ decimal k)) (assoc ((118 ∷ x) ++ 95 ∷ []) (decimal k) (95 ∷ []) ∙ assoc (118 ∷ x) (95 ∷ []) (decimal k ++ 95 ∷ []))
    ∙ ap (λ v. pick (is_own_stem x) (own_form x k) v) (assoc x (95 ∷ []) (decimal k))

pub numbered_open : (x : Name) (k : ℕ) → is_own_stem x ≡ false → numbered x k ≡ open_form x k
numbered_open x k h = numbered_is x k ∙ ap (λ b. pick b (own_form x k) (open_form x k)) h

pub numbered_own : (x : Name) (k : ℕ) → is_own_stem x ≡ true → numbered x k ≡ own_form x k
numbered_own x k h = numbered_is x k ∙ ap (λ b. pick b (own_form x k) (open_form x k)) h

-- the two forms end differently
forms_differ : (x y : Name) (k j : ℕ) → Small k → Small j → open_form x k ≡ own_form y j → ⊥
forms_differ x y k j p q e = some_digit k p (split x (118 ∷ (y ++ 95 ∷ decimal j)) (decimal k) [] (digits_of k p) tt (e ∙ ap (λ r. 118 ∷ r) (sym (assoc y (95 ∷ decimal j) (95 ∷ []))))).1

pub numbered_injective : (x y : Name) (k j : ℕ) → Small k → Small j → numbered x k ≡ numbered y j → (x ≡ y) × (k ≡ j)
numbered_injective x y k j p q e = go (is_own_stem x) (is_own_stem y) refl refl
  where
    numbers : (x ≡ y) × (decimal k ≡ decimal j) → (x ≡ y) × (k ≡ j)
    numbers r = (r.0, decimal_injective k j p q r.1)

    go : (s t : Bool) → is_own_stem x ≡ s → is_own_stem y ≡ t → (x ≡ y) × (k ≡ j)
    go false false h i = numbers (split x y (decimal k) (decimal j) (digits_of k p) (digits_of j q) (sym (numbered_open x k h) ∙ e ∙ numbered_open y j i))
    go true true h i = numbers (split_between x y (decimal k) (decimal j) (digits_of k p) (digits_of j q) (rest_is 118 118 _ _ (sym (numbered_own x k h) ∙ e ∙ numbered_own y j i)))
    go false true h i = absurd (forms_differ x y k j p q (sym (numbered_open x k h) ∙ e ∙ numbered_own y j i))
    go true false h i = absurd (forms_differ y x j k q p (sym (numbered_open y j i) ∙ sym e ∙ numbered_own x k h))
