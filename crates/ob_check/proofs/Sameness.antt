-- Two systems of the program are equal exactly where they are the same constraints: a row has each of its variables once,
-- with a coefficient that is not 0, so its terms follow from its coefficients.
use Rattle.std.proofs.Common.{◌≡◌, ◌≢◌, inl, inr, ℕ, zero, suc, ◌<◌, ◌==◌, if◌then◌else◌, Bool, true, false, ◌&&◌, List, [], ◌∷◌, map, ℤ, pos, refl, sym, ap, ◌∙◌, subst, arith}
use Rattle.std.specs.Prelude.{nat_lt, nat_le}
use Rattle.std.specs.List.{list_all}
use Rattle.std.proofs.lemmas.List.{same_from_push, map-append}
use Rattle.std.proofs.lemmas.Bool.{cases_order}
use Rattle.std.proofs.lemmas.Bool.Decides.{nat_tests, Decides-eqb, Decides-int_eq}
use Rattle.affine_forms.specs.Bounds.{is_increasing_from, are_below}
use Rattle.affine_forms.specs.System.{coefficient_of, below, plain_row}
use Rattle.affine_forms.specs.declared.system.Term.{Term}
use Rattle.affine_forms.specs.declared.system.Row.{Row}
use Rattle.ob_check.specs.Rows.{term_numbers, row_numbers}
use Rattle.ob_check.proofs.Rows.{variables}

-- ---- a row's terms follow from its coefficients

both : (s t : Bool) → (s && t) ≡ true → (s ≡ true) × (t ≡ true)
both true t h = (refl, h)
both false t h = cc

-- a variable below those of the terms has the coefficient 0
absent : (ts : List Term) (low v : ℕ) → is_increasing_from low (map (λ t. t.variable) ts) ≡ true → v < low → coefficient_of ts v ≡ pos 0
absent [] low v up within = refl
absent (t ∷ ts) low v up within =
    let parts = both (nat_le low t.variable) (is_increasing_from (suc t.variable) (map (λ u. u.variable) ts)) up in
    let from : (t.variable == v) ≡ false = grind (arith, nat_tests) in
    ap (λ b. if b then t.coefficient else coefficient_of ts v) from ∙ absent ts (suc t.variable) v parts.1 (grind (arith, nat_tests))

own : (t : Term) (ts : List Term) → coefficient_of (t ∷ ts) t.variable ≡ t.coefficient
own t ts = ap (λ b. if b then t.coefficient else coefficient_of ts t.variable) ((Decides-eqb t.variable t.variable).1 refl)

others : (t : Term) (ts : List Term) (v : ℕ) → t.variable ≢ v → coefficient_of (t ∷ ts) v ≡ coefficient_of ts v
others t ts v apart =
    let e : (t.variable == v) ≡ false = grind (arith, nat_tests) in
    ap (λ b. if b then t.coefficient else coefficient_of ts v) e

-- the coefficient of a term is not 0
never_zero : (t : Term) → t.coefficient ≡ pos 0 → ⊥
never_zero t z = let p = t.present in let d = (Decides-int_eq t.coefficient (pos 0)).1 z in cc

Agree : ℕ → List Term → List Term → Type 0
Agree n ts us = (v : ℕ) → v < n → coefficient_of ts v ≡ coefficient_of us v

record IsRow (n low : ℕ) (ts : List Term) : Type 0 where
  increasing : is_increasing_from low (map (λ t. t.variable) ts) ≡ true
  inside : list_all (λ x. nat_lt x n) (map (λ t. t.variable) ts) ≡ true

module _ (n low : ℕ) (t : Term) (ts : List Term) (r : IsRow n low (t ∷ ts)) where
  within : t.variable < n
  within = let p = both (nat_lt t.variable n) (list_all (λ x. nat_lt x n) (map (λ u. u.variable) ts)) r.inside in grind (arith, nat_tests)

  rest_increasing : is_increasing_from (suc t.variable) (map (λ u. u.variable) ts) ≡ true
  rest_increasing = (both (nat_le low t.variable) (is_increasing_from (suc t.variable) (map (λ u. u.variable) ts)) r.increasing).1

  rest : IsRow n (suc t.variable) ts
  rest = record {
    increasing = rest_increasing;
    inside = (both (nat_lt t.variable n) (list_all (λ x. nat_lt x n) (map (λ u. u.variable) ts)) r.inside).1;
  }

  before : (v : ℕ) → v < t.variable → coefficient_of (t ∷ ts) v ≡ pos 0
  before v lt = others t ts v (λ e. omega arith) ∙ absent ts (suc t.variable) v rest_increasing (omega arith)

terms_follow : (n l m : ℕ) (ts us : List Term) → IsRow n l ts → IsRow n m us → Agree n ts us → map term_numbers ts ≡ map term_numbers us
unfolding Agree
terms_follow n l m [] [] a b same = refl
terms_follow n l m [] (u ∷ us) a b same = absurd (never_zero u (sym (own u us) ∙ sym (same u.variable (within n m u us b))))
terms_follow n l m (t ∷ ts) [] a b same = absurd (never_zero t (sym (own t ts) ∙ same t.variable (within n l t ts a)))
terms_follow n l m (t ∷ ts) (u ∷ us) a b same = elim (cases_order t.variable u.variable) [
  | inl e ↦
      let coefficients : t.coefficient ≡ u.coefficient = sym (own t ts) ∙ same t.variable (within n l t ts a) ∙ ap (coefficient_of (u ∷ us)) e ∙ own u us in
      let tails : Agree n ts us = λ v lt. elim (cases_order t.variable v) [
        | inl at ↦ absent ts (suc t.variable) v (rest_increasing n l t ts a) (omega arith) ∙ sym (absent us (suc u.variable) v (rest_increasing n m u us b) (omega arith))
        | inr apart ↦
            let off : t.variable ≢ v = λ at. elim apart [ inl x ↦ omega arith | inr x ↦ omega arith ] in
            sym (others t ts v off) ∙ same v lt ∙ others u us v (λ at. off (e ∙ at))
      ] in
      λ i. (e i, coefficients i) ∷ terms_follow n (suc t.variable) (suc u.variable) ts us (rest n l t ts a) (rest n m u us b) tails i
  | inr apart ↦ elim apart [
    | inl lt ↦ absurd (never_zero t (sym (own t ts) ∙ same t.variable (within n l t ts a) ∙ before n m u us b t.variable lt))
    | inr gt ↦ absurd (never_zero u (sym (own u us) ∙ sym (same u.variable (within n m u us b)) ∙ before n l t ts a u.variable gt))
  ]
]

agree_below : (f g : ℕ → ℤ) (n : ℕ) → map f (below n) ≡ map g (below n) → (v : ℕ) → v < n → f v ≡ g v
agree_below f g zero e v lt = absurd (omega arith)
agree_below f g (suc n) e v lt =
    let parts = same_from_push (map f (below n)) (map g (below n)) (f n) (g n) (sym (map-append f (below n) (n ∷ [])) ∙ e ∙ map-append g (below n) (n ∷ [])) in
    elim (cases_order v n) [
      | inl at ↦ subst (λ k. f k ≡ g k) (sym at) parts.1
      | inr apart ↦ agree_below f g n parts.0 v (elim apart [ inl x ↦ x | inr x ↦ absurd (omega arith) ])
    ]

-- ---- rows

same_row : (n : ℕ) (r q : Row) → list_all (λ x. nat_lt x n) (variables r) ≡ true → list_all (λ x. nat_lt x n) (variables q) ≡ true → plain_row n r ≡ plain_row n q → row_numbers r ≡ row_numbers q
unfolding Agree
same_row n r q a b e =
    let agree : Agree n r.terms.items q.terms.items = agree_below (coefficient_of r.terms.items) (coefficient_of q.terms.items) n (ap (λ s. s.coefficients) e) in
    let terms = terms_follow n 0 0 r.terms.items q.terms.items (record { increasing = r.increasing; inside = a }) (record { increasing = q.increasing; inside = b }) agree in
    λ i. (terms i, ap (λ s. s.constant) e i)

pub heads : {X : Type 0} (x y : X) (xs ys : List X) → x ∷ xs ≡ y ∷ ys → (x ≡ y) × (xs ≡ ys)
heads x y xs ys e = (cc, cc)

pub same_numbers : (n : ℕ) (rs qs : List Row) → are_below n (map variables rs) ≡ true → are_below n (map variables qs) ≡ true → map (plain_row n) rs ≡ map (plain_row n) qs → map row_numbers rs ≡ map row_numbers qs
same_numbers n [] [] a b e = refl
same_numbers n [] (q ∷ qs) a b e = cc
same_numbers n (r ∷ rs) [] a b e = cc
same_numbers n (r ∷ rs) (q ∷ qs) a b e =
    let parts = heads (plain_row n r) (plain_row n q) (map (plain_row n) rs) (map (plain_row n) qs) e in
    let p = both (list_all (λ x. nat_lt x n) (variables r)) (are_below n (map variables rs)) a in
    let s = both (list_all (λ x. nat_lt x n) (variables q)) (are_below n (map variables qs)) b in
    λ i. same_row n r q p.0 s.0 parts.0 i ∷ same_numbers n rs qs p.1 s.1 parts.1 i
