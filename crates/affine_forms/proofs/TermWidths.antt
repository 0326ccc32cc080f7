-- How large the numbers of sums become.
use Rattle.std.proofs.Common.{◌≡◌, ℕ, zero, suc, ◌+◌, ◌<◌, ◌≤◌, ◌*◌, ◌^◌, ◌-◌, ◌%◌, ℤ, pos, negsuc, ◌+ℤ◌, ◌*ℤ◌, Bool, true, false, cond, ◌&&◌, List, [], ◌∷◌, length, get_or, unsigned_abs, arith, refl, sym, ap, ap₂, ◌∙◌, mul-le-mul, true≢false}
use Rattle.std.proofs.lemmas.Int.{ints, unsigned_abs-mul, fits_signed_from_abs}
use Rattle.std.specs.Int.RustNames.{FitsSigned}
use Rattle.std.proofs.lemmas.Bool.Decides.{nat_tests}
use Rattle.std.proofs.Math.Nat.{mod-lt}
use Rattle.std.specs.Ordering.{int_eq}
use Rattle.std.specs.Int.{w64, w128, int_div_euclid, int_rem_euclid, is_positive}
use Rattle.affine_forms.specs.Atoms.{Atom, Terms, none, term, same_atom, with_term, terms_scaled, divided, undivided, divides, present}
use Rattle.affine_forms.specs.Forms.{is_short, are_short}
use Rattle.affine_forms.specs.TermBounds.{is_kept_atom, are_kept, joined_terms, raised}
use Rattle.affine_forms.specs.Forms.{is_within, are_within}
use Rattle.affine_forms.specs.PlainAtoms.{plain_atom, plain_terms}
use Rattle.affine_forms.specs.declared.atom.Weighed.{Weighed}
use Rattle.affine_forms.proofs.Values.{and_parts}

pub within_le : (bound : ℕ) (z : ℤ) → is_within bound z ≡ true → unsigned_abs z ≤ bound
within_le bound z h = grind (arith, nat_tests)

pub within_from_le : (bound : ℕ) (z : ℤ) → unsigned_abs z ≤ bound → is_within bound z ≡ true
within_from_le bound z h = grind (arith, nat_tests)

pub abs-add : (a b : ℤ) → unsigned_abs (a +ℤ b) ≤ unsigned_abs a + unsigned_abs b
abs-add a b = omega (arith, ints)

pub within_product : (m n k : ℕ) (a b : ℤ) → is_within m a ≡ true → is_within n b ≡ true → m * n ≤ k → is_within k (a *ℤ b) ≡ true
within_product m n k a b h i l = within_from_le k (a *ℤ b) (omega (arith, unsigned_abs-mul a b, mul-le-mul (within_le m a h) (within_le n b i), l))

-- a quotient is no larger than what is divided
pub within_quotient : (bound : ℕ) (z c : ℤ) → is_positive c ≡ true → is_within bound z ≡ true → is_within bound (int_div_euclid z c) ≡ true
within_quotient bound z (negsuc c) h i = absurd (true≢false (sym h))
within_quotient bound z (pos zero) h i = absurd (true≢false (sym h))
within_quotient bound (pos a) (pos (suc c)) h i = within_from_le bound (int_div_euclid (pos a) (pos (suc c))) (omega (arith, ints, within_le bound (pos a) i))
within_quotient bound (negsuc a) (pos (suc c)) h i = within_from_le bound (int_div_euclid (negsuc a) (pos (suc c))) (omega (arith, ints, within_le bound (negsuc a) i))

pub within_sum : (m n k : ℕ) (a b : ℤ) → is_within m a ≡ true → is_within n b ≡ true → m + n ≤ k → is_within k (a +ℤ b) ≡ true
within_sum m n k a b h i l = within_from_le k (a +ℤ b) (omega (arith, abs-add a b, within_le m a h, within_le n b i))

-- ---- sums

pub wider : (m k : ℕ) (ts : Terms) → m ≤ k → are_within m ts ≡ true → are_within k ts ≡ true
wider m k none l h = refl
wider m k (term c a ts) l h =
    let p = and_parts (is_within m c) (are_within m ts) h in
    ap₂ (λ s t. s && t) (within_from_le k c (omega (arith, within_le m c p.0))) (wider m k ts l p.1)

pub within_with_term : (m n k : ℕ) (c : ℤ) (a : Atom) (ts : Terms) → is_within n c ≡ true → are_within m ts ≡ true → m + n ≤ k → are_within k (with_term c a ts) ≡ true
within_with_term m n k c a none h i l = ap₂ (λ s t. s && t) (within_from_le k c (omega (arith, within_le n c h))) refl
within_with_term m n k c a (term d b ts) h i l = go (same_atom a b) (within_with_term m n k c a ts h p.1 l)
  where
    p : (is_within m d ≡ true) × (are_within m ts ≡ true)
    p = and_parts (is_within m d) (are_within m ts) i

    wider : (ts : Terms) → are_within m ts ≡ true → are_within k ts ≡ true
    wider none j = refl
    wider (term e x us) j =
        let q = and_parts (is_within m e) (are_within m us) j in
        ap₂ (λ s t. s && t) (within_from_le k e (omega (arith, within_le m e q.0))) (wider us q.1)

    go : (t : Bool) → are_within k (with_term c a ts) ≡ true → are_within k (cond t (term (c +ℤ d) b ts) (term d b (with_term c a ts))) ≡ true
    go true r = ap₂ (λ s t. s && t) (within_sum n m k c d h p.0 (omega arith)) (wider ts p.1)
    go false r = ap₂ (λ s t. s && t) (within_from_le k d (omega (arith, within_le m d p.0))) r

pub within_at : (bound : ℕ) (ws : List Weighed) (k : ℕ) (w : Weighed) → k < length ws → w ≡ get_or ws k w → are_within bound (plain_terms ws) ≡ true → is_within bound w.coefficient ≡ true
within_at bound [] k w h is r = absurd (omega arith)
within_at bound (x ∷ ws) zero w h is r = ap (λ v. is_within bound v.coefficient) is ∙ (and_parts (is_within bound x.coefficient) (are_within bound (plain_terms ws)) r).0
within_at bound (x ∷ ws) (suc k) w h is r = within_at bound ws k w (omega arith) is (and_parts (is_within bound x.coefficient) (are_within bound (plain_terms ws)) r).1

-- what each term of a kept sum keeps
pub kept_at : (ws : List Weighed) (k : ℕ) (w : Weighed) → k < length ws → w ≡ get_or ws k w → are_kept (plain_terms ws) ≡ true → (is_within (2 ^ 126) w.coefficient ≡ true) × (is_kept_atom (plain_atom w.atom) ≡ true)
kept_at [] k w h is r = absurd (omega arith)
kept_at (x ∷ ws) zero w h is r =
    let p = and_parts (is_within (2 ^ 126) x.coefficient && is_kept_atom (plain_atom x.atom)) (are_kept (plain_terms ws)) r in
    let q = and_parts (is_within (2 ^ 126) x.coefficient) (is_kept_atom (plain_atom x.atom)) p.0 in
    (ap (λ v. is_within (2 ^ 126) v.coefficient) is ∙ q.0, ap (λ v. is_kept_atom (plain_atom v.atom)) is ∙ q.1)
kept_at (x ∷ ws) (suc k) w h is r = kept_at ws k w (omega arith) is (and_parts (is_within (2 ^ 126) x.coefficient && is_kept_atom (plain_atom x.atom)) (are_kept (plain_terms ws)) r).1

pub kept_joined : (ts us : Terms) → are_kept ts ≡ true → are_kept us ≡ true → are_kept (joined_terms ts us) ≡ true
kept_joined none us h i = i
kept_joined (term c a ts) us h i =
    let p = and_parts (is_within (2 ^ 126) c && is_kept_atom a) (are_kept ts) h in
    ap₂ (λ s t. s && t) p.0 (kept_joined ts us p.1 i)

pub kept_raised : (m n k : ℕ) (z : ℤ) (ts : Terms) → are_kept ts ≡ true → are_within m ts ≡ true → is_within n z ≡ true → m + n ≤ 2 ^ 126 → are_kept (raised k z ts) ≡ true
kept_raised m n k z none h r i l = refl
kept_raised m n zero z (term c a ts) h r i l =
    let p = and_parts (is_within (2 ^ 126) c && is_kept_atom a) (are_kept ts) h in
    let q = and_parts (is_within (2 ^ 126) c) (is_kept_atom a) p.0 in
    let s = and_parts (is_within m c) (are_within m ts) r in
    ap₂ (λ x y. x && y) (ap₂ (λ x y. x && y) (within_sum n m (2 ^ 126) z c i s.0 (omega arith)) q.1) p.1
kept_raised m n (suc k) z (term c a ts) h r i l =
    let p = and_parts (is_within (2 ^ 126) c && is_kept_atom a) (are_kept ts) h in
    let s = and_parts (is_within m c) (are_within m ts) r in
    ap₂ (λ x y. x && y) p.0 (kept_raised m n k z ts p.1 s.1 i l)

-- the same of a list that is another one
pub kept_in : (ws vs : List Weighed) (k : ℕ) (w : Weighed) → ws ≡ vs → k < length ws → w ≡ get_or ws k w → are_kept (plain_terms vs) ≡ true → (is_within (2 ^ 126) w.coefficient ≡ true) × (is_kept_atom (plain_atom w.atom) ≡ true)
kept_in ws vs k w e h is r = kept_at ws k w h is (ap (λ xs. are_kept (plain_terms xs)) e ∙ r)

pub within_in : (bound : ℕ) (ws vs : List Weighed) (ts : Terms) (k : ℕ) (w : Weighed) → ws ≡ vs → plain_terms vs ≡ ts → k < length ws → w ≡ get_or ws k w → are_within bound ts ≡ true → is_within bound w.coefficient ≡ true
within_in bound ws vs ts k w e f h is r = within_at bound ws k w h is (ap (λ xs. are_within bound (plain_terms xs)) e ∙ ap (are_within bound) f ∙ r)

-- a number that a sum may hold fits in the machine's
pub fits_within : (z : ℤ) → is_within (2 ^ 126) z ≡ true → FitsSigned w128 z
fits_within z h = fits_signed_from_abs w128 z (omega (arith, within_le (2 ^ 126) z h))

pub fits_raised : (c z : ℤ) → is_within (2 ^ 126 - 2 ^ 64) c ≡ true → is_within (2 ^ 64) z ≡ true → FitsSigned w128 c × FitsSigned w128 (c +ℤ z)
fits_raised c z h i = (fits_within c (within_from_le (2 ^ 126) c (omega (arith, within_le (2 ^ 126 - 2 ^ 64) c h))), fits_within (c +ℤ z) (within_sum (2 ^ 126 - 2 ^ 64) (2 ^ 64) (2 ^ 126) c z h i (omega arith)))

pub within_times : (z c : ℤ) → is_within (2 ^ 63) z ≡ true → is_within (2 ^ 62) c ≡ true → is_within (2 ^ 126) (z *ℤ c) ≡ true
within_times z c h i = within_product (2 ^ 63) (2 ^ 62) (2 ^ 126) z c h i (omega arith)

-- ---- what stays short

pub short_negated : (c : ℤ) → is_short c ≡ true → is_short (negsuc 0 *ℤ c) ≡ true
short_negated c h = within_product 1 (2 ^ 62) (2 ^ 62) (negsuc 0) c (within_from_le 1 (negsuc 0) (omega (arith, ints))) h (omega arith)

pub are_short_negated : (ts : Terms) → are_short ts ≡ true → are_short (terms_scaled (negsuc 0) ts) ≡ true
are_short_negated none h = refl
are_short_negated (term c a ts) h =
    let p = and_parts (is_short c) (are_short ts) h in
    ap₂ (λ s t. s && t) (short_negated c p.0) (are_short_negated ts p.1)

pub within_divided : (bound : ℕ) (by : ℤ) (ts : Terms) → is_positive by ≡ true → are_within bound ts ≡ true → are_within bound (divided by ts) ≡ true
within_divided bound by none pos_by h = refl
within_divided bound by (term c a ts) pos_by h =
    let p = and_parts (is_within bound c) (are_within bound ts) h in
    go (divides by c) (within_quotient bound c by pos_by p.0) (within_divided bound by ts pos_by p.1)
  where
    go : (t : Bool) → is_within bound (int_div_euclid c by) ≡ true → are_within bound (divided by ts) ≡ true → are_within bound (cond t (term (int_div_euclid c by) a (divided by ts)) (divided by ts)) ≡ true
    go true i j = ap₂ (λ s t. s && t) i j
    go false i j = j

pub within_undivided : (bound : ℕ) (by : ℤ) (ts : Terms) → are_within bound ts ≡ true → are_within bound (undivided by ts) ≡ true
within_undivided bound by none h = refl
within_undivided bound by (term c a ts) h =
    let p = and_parts (is_within bound c) (are_within bound ts) h in
    go (divides by c) p.0 (within_undivided bound by ts p.1)
  where
    go : (t : Bool) → is_within bound c ≡ true → are_within bound (undivided by ts) ≡ true → are_within bound (cond t (undivided by ts) (term c a (undivided by ts))) ≡ true
    go true i j = j
    go false i j = ap₂ (λ s t. s && t) i j

pub within_present : (bound : ℕ) (ts : Terms) → are_within bound ts ≡ true → are_within bound (present ts) ≡ true
within_present bound none h = refl
within_present bound (term c a ts) h =
    let p = and_parts (is_within bound c) (are_within bound ts) h in
    go (int_eq c (pos 0)) p.0 (within_present bound ts p.1)
  where
    go : (t : Bool) → is_within bound c ≡ true → are_within bound (present ts) ≡ true → are_within bound (cond t (present ts) (term c a (present ts))) ≡ true
    go true i j = j
    go false i j = ap₂ (λ s t. s && t) i j

pub rest_within : (k c : ℤ) → is_positive c ≡ true → is_within (2 ^ 64) c ≡ true → is_within (2 ^ 64) (int_rem_euclid k c) ≡ true
rest_within k (negsuc c) h i = absurd (true≢false (sym h))
rest_within k (pos zero) h i = absurd (true≢false (sym h))
rest_within (pos a) (pos (suc c)) h i = let l : a % suc c < suc c = mod-lt a (omega arith) in within_from_le (2 ^ 64) (int_rem_euclid (pos a) (pos (suc c))) (omega (arith, ints, within_le (2 ^ 64) (pos (suc c)) i, l))
rest_within (negsuc a) (pos (suc c)) h i = let l : a % suc c < suc c = mod-lt a (omega arith) in within_from_le (2 ^ 64) (int_rem_euclid (negsuc a) (pos (suc c))) (omega (arith, ints, within_le (2 ^ 64) (pos (suc c)) i, l))

-- a literal of 64 bits
pub within_64 : (z : ℤ) → FitsSigned w64 z → is_within (2 ^ 63) z ≡ true
within_64 z h = within_from_le (2 ^ 63) z (omega (arith, ints, h))

pub fits_64 : (z : ℤ) → FitsSigned w64 z → FitsSigned w128 z
fits_64 z h = fits_within z (within_from_le (2 ^ 126) z (omega (arith, within_le (2 ^ 63) z (within_64 z h))))

-- ---- products term by term

pub within_scaled : (m n k : ℕ) (z : ℤ) (ts : Terms) → is_within m z ≡ true → are_within n ts ≡ true → m * n ≤ k → are_within k (terms_scaled z ts) ≡ true
within_scaled m n k z none h i l = refl
within_scaled m n k z (term c a ts) h i l =
    let p = and_parts (is_within n c) (are_within n ts) i in
    ap₂ (λ s t. s && t) (within_product m n k z c h p.0 l) (within_scaled m n k z ts h p.1 l)

within_scaled_at : (bound : ℕ) (z : ℤ) (ws : List Weighed) (k : ℕ) (w : Weighed) → k < length ws → w ≡ get_or ws k w → are_within bound (terms_scaled z (plain_terms ws)) ≡ true → is_within bound (z *ℤ w.coefficient) ≡ true
within_scaled_at bound z [] k w h is r = absurd (omega arith)
within_scaled_at bound z (x ∷ ws) zero w h is r = ap (λ v. is_within bound (z *ℤ v.coefficient)) is ∙ (and_parts (is_within bound (z *ℤ x.coefficient)) (are_within bound (terms_scaled z (plain_terms ws))) r).0
within_scaled_at bound z (x ∷ ws) (suc k) w h is r = within_scaled_at bound z ws k w (omega arith) is (and_parts (is_within bound (z *ℤ x.coefficient)) (are_within bound (terms_scaled z (plain_terms ws))) r).1

pub within_scaled_in : (bound : ℕ) (z : ℤ) (ws vs : List Weighed) (ts : Terms) (k : ℕ) (w : Weighed) → ws ≡ vs → plain_terms vs ≡ ts → k < length ws → w ≡ get_or ws k w → are_within bound (terms_scaled z ts) ≡ true → is_within bound (z *ℤ w.coefficient) ≡ true
within_scaled_in bound z ws vs ts k w e f h is r = within_scaled_at bound z ws k w h is (ap (λ xs. are_within bound (terms_scaled z (plain_terms xs))) e ∙ ap (λ us. are_within bound (terms_scaled z us)) f ∙ r)
