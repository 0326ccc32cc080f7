-- Products of lists of cases.
use Rattle.std.proofs.Common.{◌≡◌, ℕ, zero, suc, ◌+◌, ◌*◌, ◌<◌, set, get_or, List, [], ◌∷◌, ◌++◌, map, length, arith, refl, sym, ap, ap₂, ◌∙◌}
use Rattle.std.proofs.lemmas.List.{append-nil}
use Rattle.affine_forms.specs.Formulas.{Constraint, Formula, product, cases, cases_of_all}

append_assoc : {A : Type 0} (xs ys zs : List A) → (xs ++ ys) ++ zs ≡ xs ++ (ys ++ zs)
append_assoc [] ys zs = refl
append_assoc (x ∷ xs) ys zs = ap (λ r. x ∷ r) (append_assoc xs ys zs)

map_append : (x : List Constraint) (ys zs : List (List Constraint)) → map (λ y. x ++ y) (ys ++ zs) ≡ map (λ y. x ++ y) ys ++ map (λ y. x ++ y) zs
map_append x [] zs = refl
map_append x (y ∷ ys) zs = ap (λ r. (x ++ y) ∷ r) (map_append x ys zs)

map_empty : (ys : List (List Constraint)) → map (λ y. [] ++ y) ys ≡ ys
map_empty [] = refl
map_empty (y ∷ ys) = ap (λ r. y ∷ r) (map_empty ys)

map_twice : (x y : List Constraint) (zs : List (List Constraint)) → map (λ z. (x ++ y) ++ z) zs ≡ map (λ r. x ++ r) (map (λ z. y ++ z) zs)
map_twice x y [] = refl
map_twice x y (z ∷ zs) = ap₂ (λ a r. a ∷ r) (append_assoc x y z) (map_twice x y zs)

pub product_empty : (ys : List (List Constraint)) → product ([] ∷ []) ys ≡ ys
product_empty ys = append-nil (map (λ y. [] ++ y) ys) ∙ map_empty ys

pub product_append : (xs zs ys : List (List Constraint)) → product (xs ++ zs) ys ≡ product xs ys ++ product zs ys
product_append [] zs ys = refl
product_append (x ∷ xs) zs ys = ap (λ r. map (λ y. x ++ y) ys ++ r) (product_append xs zs ys) ∙ sym (append_assoc (map (λ y. x ++ y) ys) (product xs ys) (product zs ys))

product_behind : (x : List Constraint) (ys zs : List (List Constraint)) → product (map (λ y. x ++ y) ys) zs ≡ map (λ r. x ++ r) (product ys zs)
product_behind x [] zs = refl
product_behind x (y ∷ ys) zs = ap₂ (λ a b. a ++ b) (map_twice x y zs) (product_behind x ys zs) ∙ sym (map_append x (map (λ z. y ++ z) zs) (product ys zs))

pub product_assoc : (xs ys zs : List (List Constraint)) → product (product xs ys) zs ≡ product xs (product ys zs)
product_assoc [] ys zs = refl
product_assoc (x ∷ xs) ys zs = product_append (map (λ y. x ++ y) ys) (product xs ys) zs ∙ ap₂ (λ a b. a ++ b) (product_behind x ys zs) (product_assoc xs ys zs)

-- one constraint behind each case
pub product_one : (xs : List (List Constraint)) (c : Constraint) → product xs ((c ∷ []) ∷ []) ≡ map (λ k. k ++ c ∷ []) xs
product_one [] c = refl
product_one (x ∷ xs) c = ap (λ r. (x ++ c ∷ []) ∷ r) (product_one xs c)

pub cases_append : (fs gs : List Formula) → cases_of_all (fs ++ gs) ≡ product (cases_of_all fs) (cases_of_all gs)
cases_append [] gs = sym (product_empty (cases_of_all gs))
cases_append (f ∷ fs) gs = ap (product (cases f)) (cases_append fs gs) ∙ sym (product_assoc (cases f) (cases_of_all fs) (cases_of_all gs))

product_all : (xs : List (List Constraint)) → product xs ([] ∷ []) ≡ xs
product_all [] = refl
product_all (x ∷ xs) = ap₂ (λ a r. a ∷ r) (append-nil x) (product_all xs)

-- the cases of one more formula
pub cases_last : (fs : List Formula) (f : Formula) → cases_of_all (fs ++ f ∷ []) ≡ product (cases_of_all fs) (cases f)
cases_last fs f = cases_append fs (f ∷ []) ∙ ap (product (cases_of_all fs)) (product_all (cases f))

-- ---- how many

length_append : (xs ys : List (List Constraint)) → length (xs ++ ys) ≡ length xs + length ys
length_append [] ys = omega arith
length_append (x ∷ xs) ys = omega (arith, length_append xs ys)

length_behind_one : (x : List Constraint) (ys : List (List Constraint)) → length (map (λ y. x ++ y) ys) ≡ length ys
length_behind_one x [] = refl
length_behind_one x (y ∷ ys) = ap suc (length_behind_one x ys)

pub length_product : (xs ys : List (List Constraint)) → length (product xs ys) ≡ length xs * length ys
length_product [] ys = omega arith
length_product (x ∷ xs) ys =
    let e : length (map (λ y. x ++ y) ys ++ product xs ys) ≡ length ys + length xs * length ys = length_append (map (λ y. x ++ y) ys) (product xs ys) ∙ ap₂ (λ a b. a + b) (length_behind_one x ys) (length_product xs ys) in
    omega (arith, e)

-- ---- cases behind which a constraint stands

-- the first k cases with a constraint behind them
abbrev pub behind : ℕ → Constraint → List (List Constraint) → List (List Constraint)
behind zero c ks = ks
behind (suc k) c [] = []
behind (suc k) c (x ∷ xs) = (x ++ c ∷ []) ∷ behind k c xs

pub behind_all : (ks : List (List Constraint)) (c : Constraint) → behind (length ks) c ks ≡ map (λ k. k ++ c ∷ []) ks
behind_all [] c = refl
behind_all (x ∷ xs) c = ap (λ r. (x ++ c ∷ []) ∷ r) (behind_all xs c)

pub length_behind : (k : ℕ) (c : Constraint) (ks : List (List Constraint)) → length (behind k c ks) ≡ length ks
length_behind zero c ks = refl
length_behind (suc k) c [] = refl
length_behind (suc k) c (x ∷ xs) = ap suc (length_behind k c xs)

pub behind_more : (k : ℕ) (c : Constraint) (ks : List (List Constraint)) (d : List Constraint) → k < length ks → set (behind k c ks) k (get_or (behind k c ks) k d ++ c ∷ []) ≡ behind (suc k) c ks
behind_more k c [] d l = absurd (omega arith)
behind_more zero c (x ∷ xs) d l = refl
behind_more (suc k) c (x ∷ xs) d l = ap (λ r. (x ++ c ∷ []) ∷ r) (behind_more k c xs d (omega arith))
