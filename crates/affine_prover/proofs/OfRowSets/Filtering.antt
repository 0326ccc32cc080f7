-- One more row, by the sign of a variable in it; and one more element that is made.
use Rattle.std.proofs.Common.{ℕ, zero, suc, ◌+◌, ◌<◌, ◌≡◌, Bool, true, false, cond, ◌&&◌, List, [], ◌∷◌, ◌++◌, map, length, take, get_or, ℤ, pos, Some, None, arith, ap, sym, ◌∙◌, refl, append_assoc}
use Rattle.std.specs.List.{filter, list_all}
use Rattle.std.proofs.lemmas.List.{take_more, map_push, append-nil}
use Rattle.std.proofs.lemmas.List.Elements.{filter-append}
use Rattle.std.proofs.lemmas.List.Folds.{list_all-append}
use Rattle.std.proofs.lemmas.Int.{ints}
use Rattle.std.proofs.lemmas.Bool.Decides.{Decides-int_eq}
use Rattle.std.proofs.Math.Bool.{and-false}
use Rattle.std.specs.Int.{is_positive, is_negative}
use Rattle.std.specs.Ordering.{int_eq}
use Rattle.affine_forms.specs.Affine.{Affine}
use Rattle.affine_prover.specs.RowSets.Rows.{coefficient, is_free, is_lower_bound, is_upper_bound}
use Rattle.affine_prover.proofs.OfRowSets.Narrow.{some-kept, none-kept}

-- ---- one more row, by the sign of a variable
filter-last : {X : Type 0} (t : X → Bool) (xs : List X) (x : X) (b : Bool) → t x ≡ b → filter t (xs ++ x ∷ []) ≡ filter t xs ++ cond b (x ∷ []) []
filter-last t xs x b h = filter-append t xs (x ∷ []) ∙ ap (λ b. filter t xs ++ cond b (x ∷ []) []) h

filter-past : {X : Type 0} (t : X → Bool) (xs : List X) (x : X) → t x ≡ false → filter t (xs ++ x ∷ []) ≡ filter t xs
filter-past t xs x h = filter-last t xs x false h ∙ append-nil (filter t xs)

-- a number has one sign
pub positive-signs : (z : ℤ) → is_positive z ≡ true → (int_eq z (pos 0) ≡ false) × (is_negative z ≡ false)
positive-signs z h = (zero (int_eq z (pos 0)) refl, below (is_negative z) refl)
  where
    zero : (b : Bool) → int_eq z (pos 0) ≡ b → b ≡ false
    zero true e = let none : z ≡ pos 0 = (Decides-int_eq z (pos 0)).0 e in absurd (omega (arith, ints))
    zero false e = refl

    below : (b : Bool) → is_negative z ≡ b → b ≡ false
    below true e = absurd (omega (arith, ints))
    below false e = refl

pub negative-signs : (z : ℤ) → is_negative z ≡ true → (int_eq z (pos 0) ≡ false) × (is_positive z ≡ false)
negative-signs z h = (zero (int_eq z (pos 0)) refl, above (is_positive z) refl)
  where
    zero : (b : Bool) → int_eq z (pos 0) ≡ b → b ≡ false
    zero true e = let none : z ≡ pos 0 = (Decides-int_eq z (pos 0)).0 e in absurd (omega (arith, ints))
    zero false e = refl

    above : (b : Bool) → is_positive z ≡ b → b ≡ false
    above true e = absurd (omega (arith, ints))
    above false e = refl

no_sign : (z : ℤ) → is_positive z ≡ false → is_negative z ≡ false → int_eq z (pos 0) ≡ true
no_sign z h k = (Decides-int_eq z (pos 0)).1 (omega (arith, ints))

pub lower_row : (v : ℕ) (rows : List Affine) (r : Affine) → is_lower_bound v r ≡ true → (filter (is_free v) (rows ++ r ∷ []) ≡ filter (is_free v) rows) × (filter (is_lower_bound v) (rows ++ r ∷ []) ≡ filter (is_lower_bound v) rows ++ r ∷ []) × (filter (is_upper_bound v) (rows ++ r ∷ []) ≡ filter (is_upper_bound v) rows)
lower_row v rows r h =
    let signs = positive-signs (coefficient r v) h in
    (filter-past (is_free v) rows r signs.0, filter-last (is_lower_bound v) rows r true h, filter-past (is_upper_bound v) rows r signs.1)

pub upper_row : (v : ℕ) (rows : List Affine) (r : Affine) → is_upper_bound v r ≡ true → (filter (is_free v) (rows ++ r ∷ []) ≡ filter (is_free v) rows) × (filter (is_lower_bound v) (rows ++ r ∷ []) ≡ filter (is_lower_bound v) rows) × (filter (is_upper_bound v) (rows ++ r ∷ []) ≡ filter (is_upper_bound v) rows ++ r ∷ [])
upper_row v rows r h =
    let signs = negative-signs (coefficient r v) h in
    (filter-past (is_free v) rows r signs.0, filter-past (is_lower_bound v) rows r signs.1, filter-last (is_upper_bound v) rows r true h)

pub free_row : (v : ℕ) (rows : List Affine) (r : Affine) → is_lower_bound v r ≡ false → is_upper_bound v r ≡ false → (filter (is_free v) (rows ++ r ∷ []) ≡ filter (is_free v) rows ++ r ∷ []) × (filter (is_lower_bound v) (rows ++ r ∷ []) ≡ filter (is_lower_bound v) rows) × (filter (is_upper_bound v) (rows ++ r ∷ []) ≡ filter (is_upper_bound v) rows)
free_row v rows r h k =
    (filter-last (is_free v) rows r true (no_sign (coefficient r v) h k), filter-past (is_lower_bound v) rows r h, filter-past (is_upper_bound v) rows r k)

-- ---- one more element that is made, or that cannot be
pub all-fails : {X : Type 0} (n : X → Bool) (xs : List X) (i : ℕ) (x : X) → i < length xs → x ≡ get_or xs i x → n x ≡ false → list_all n xs ≡ false
all-fails n [] i x l e k = absurd (omega arith)
all-fails n (y ∷ ys) zero x l e k = ap (λ z. n z && list_all n ys) (sym e) ∙ ap (λ b. b && list_all n ys) k
all-fails n (y ∷ ys) (suc i) x l e k = ap (λ z. n y && z) (all-fails n ys i x (omega arith) e k) ∙ and-false (n y)

pub appended-next : {X Y : Type 0} (f : X → Y) (n : X → Bool) (xs : List X) (i : ℕ) (x : X) (y : Y) (start made next : List Y) → i < length xs → x ≡ get_or xs i x → Some y ≡ cond (n x) (Some (f x)) None → made ≡ start ++ map f (take i xs) → list_all n (take i xs) ≡ true → next ≡ made ++ y ∷ [] → (next ≡ start ++ map f (take (i + 1) xs)) × (list_all n (take (i + 1) xs) ≡ true)
appended-next f n xs i x y start made next l e is m a p =
    let one = some-kept (n x) (f x) y is in
    let more = take_more xs i x l ∙ ap (λ z. take i xs ++ z ∷ []) (sym e) in (
      p ∙ ap (λ zs. zs ++ y ∷ []) m ∙ ap (λ z. (start ++ map f (take i xs)) ++ z ∷ []) one.1 ∙ append_assoc start (map f (take i xs)) (f x ∷ []) ∙ ap (λ zs. start ++ zs) (sym (map_push f (take i xs) x)) ∙ ap (λ zs. start ++ map f zs) (sym more),
      ap (list_all n) more ∙ list_all-append n (take i xs) (x ∷ []) ∙ ap (λ b. b && (n x && true)) a ∙ ap (λ b. b && true) one.0,
    )

pub last-made : {X Y : Type 0} (f : X → Y) (n : X → Bool) (xs : List X) (x : X) (y : Y) (made next : List Y) → Some y ≡ cond (n x) (Some (f x)) None → made ≡ map f xs → list_all n xs ≡ true → next ≡ made ++ y ∷ [] → (next ≡ map f (xs ++ x ∷ [])) × (list_all n (xs ++ x ∷ []) ≡ true)
last-made f n xs x y made next is m a p =
    let one = some-kept (n x) (f x) y is in (
      p ∙ ap (λ zs. zs ++ y ∷ []) m ∙ ap (λ z. map f xs ++ z ∷ []) one.1 ∙ sym (map_push f xs x),
      list_all-append n xs (x ∷ []) ∙ ap (λ b. b && (n x && true)) a ∙ ap (λ b. b && true) one.0,
    )

pub none-made : {X Y : Type 0} (f : X → Y) (n : X → Bool) (xs : List X) (i : ℕ) (x : X) → i < length xs → x ≡ get_or xs i x → None ≡ cond (n x) (Some (f x)) None → None ≡ cond (list_all n xs) (Some (map f xs)) None
none-made f n xs i x l e is =
    sym (ap (λ b. cond b (Some (map f xs)) None) (all-fails n xs i x l e (none-kept (n x) (f x) is)))
