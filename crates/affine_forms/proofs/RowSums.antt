-- What differences and opposites of sums keep, and what they are.
use Rattle.std.proofs.Common.{◌≡◌, ℕ, ◌≤◌, ◌+◌, ◌^◌, ◌-◌, ◌∙◌, ℤ, pos, negsuc, ◌+ℤ◌, ◌-ℤ◌, ◌*ℤ◌}
use Rattle.std.proofs.Common.{true, ◌&&◌, arith, ap, ap₂}
use Rattle.std.proofs.lemmas.Int.{to_z-of_z, ints}
use mir.Val.{to_z, of_z}
use Rattle.std.specs.Int.{w128}
use Rattle.std.specs.Int.RustNames.{FitsSigned}
use Rattle.affine_forms.specs.Atoms.{Terms, Linear, scaled, terms_scaled, terms_added, present}
use Rattle.affine_forms.specs.Forms.{is_within, are_within, is_short, are_short}
use Rattle.affine_forms.specs.Formulas.{moved, difference, is_row_constant}
use Rattle.affine_forms.specs.TermBounds.{are_distinct, are_present}
use Rattle.affine_forms.proofs.Values.{and_parts}
use Rattle.affine_forms.proofs.Distinct.{distinct_scaled, present_negated}
use Rattle.affine_forms.proofs.RowConstants.{row_within, row_fits, row_of_within}
use Rattle.affine_forms.proofs.RowConstants.{row_denied, row_less}
use Rattle.affine_forms.proofs.TermWidths.{within_le, within_from_le, fits_within, within_sum}
use Rattle.affine_forms.proofs.TermWidths.{within_scaled, short_negated, are_short_negated}

-- a number of at most 2^126 in size keeps its value in 128 bits
value_kept : (bound : ℕ) (z : ℤ) → is_within bound z ≡ true → bound ≤ 2 ^ 126 →
    to_z w128 (of_z w128 z) ≡ z
value_kept bound z h l =
    let wide = within_from_le (2 ^ 126) z (omega (arith, l, within_le bound z h)) in
    to_z-of_z w128 z (fits_within z wide)

-- the constant of an equation may be that of a row
pub row_of_equation : (z : ℤ) → is_within (2 ^ 63) z ≡ true → is_row_constant z ≡ true
row_of_equation z h =
    row_of_within z (within_from_le (2 ^ 64 - 1) z (omega (arith, within_le (2 ^ 63) z h)))

-- ---- differences

pub record IsShortSum (a b : ℤ) : Type 0 where
  pub left : to_z w128 (of_z w128 a) ≡ a
  pub right : to_z w128 (of_z w128 b) ≡ b
  pub both : to_z w128 (of_z w128 (a +ℤ b)) ≡ a +ℤ b
  pub fits : FitsSigned w128 (a +ℤ b)
  pub within : is_within (2 ^ 63) (a +ℤ b) ≡ true
  pub row : is_row_constant (a +ℤ b) ≡ true

pub short_sum : (a b : ℤ) → is_short a ≡ true → is_short b ≡ true → IsShortSum a b
short_sum a b h i =
    let sum = within_sum (2 ^ 62) (2 ^ 62) (2 ^ 63) a b h i (omega arith) in
    record {
      left = value_kept (2 ^ 62) a h (omega arith);
      right = value_kept (2 ^ 62) b i (omega arith);
      both = value_kept (2 ^ 63) (a +ℤ b) sum (omega arith);
      fits = fits_within (a +ℤ b) (within_sum (2 ^ 62) (2 ^ 62) (2 ^ 126) a b h i (omega arith));
      within = sum;
      row = row_of_equation (a +ℤ b) sum;
    }

-- a sum less 1, as the constant of a row
pub record IsRowLess (z : ℤ) : Type 0 where
  pub fits : FitsSigned w128 (z -ℤ pos 1)
  pub kept : to_z w128 (of_z w128 (z -ℤ pos 1)) ≡ z -ℤ pos 1
  pub row : is_row_constant (z -ℤ pos 1) ≡ true

pub row_less_one : {a b : ℤ} → IsShortSum a b → IsRowLess (a +ℤ b)
row_less_one {a} {b} s =
    let z = a +ℤ b in
    let wide = within_from_le (2 ^ 63 + 1) z (omega (arith, within_le (2 ^ 63) z s.within)) in
    let row = row_less z wide in
    let fits = row_fits (z -ℤ pos 1) row in
    record { fits = fits; kept = to_z-of_z w128 (z -ℤ pos 1) fits; row = row }

pub difference_is : (left right : Linear) {opposite : Linear} {a b : ℤ} {ts : Terms} →
    a ≡ left.constant → b ≡ opposite.constant → opposite ≡ scaled (negsuc 0) right →
    ts ≡ present (terms_added left.terms opposite.terms) →
    record { constant = a +ℤ b; terms = ts } ≡ difference left right
difference_is left right first second is terms =
    let constant = ap₂ (λ x y. x +ℤ y) first (second ∙ ap (λ (k : Linear). k.constant) is) in
    let sum = terms ∙ ap (λ (k : Linear). present (terms_added left.terms k.terms)) is in
    λ i. record { constant = constant i; terms = sum i }

-- ---- opposites

-- a number whose opposite has a place in 128 bits
pub record IsOpposed (k : ℤ) : Type 0 where
  pub number : to_z w128 (of_z w128 k) ≡ k
  pub opposite : to_z w128 (of_z w128 (pos 0 -ℤ k)) ≡ pos 0 -ℤ k

opposed : (bound : ℕ) (k : ℤ) → is_within bound k ≡ true → bound ≤ 2 ^ 126 → IsOpposed k
opposed bound k h l =
    let turned = within_from_le bound (pos 0 -ℤ k) (omega (arith, ints, within_le bound k h)) in
    record { number = value_kept bound k h l; opposite = value_kept bound (pos 0 -ℤ k) turned l }

pub opposite_is : (k : ℤ) → pos 0 -ℤ k ≡ negsuc 0 *ℤ k
opposite_is k = omega (arith, ints)

-- ---- of a row's constant, and of a weighed sum as in a row

pub record IsDeniedRow (k : ℤ) : Type 0 where
  pub opposed : IsOpposed k
  pub less : to_z w128 (of_z w128 ((pos 0 -ℤ k) -ℤ pos 1)) ≡ (pos 0 -ℤ k) -ℤ pos 1
  pub row : is_row_constant ((pos 0 -ℤ k) -ℤ pos 1) ≡ true

pub denied_row : (k : ℤ) → is_row_constant k ≡ true → IsDeniedRow k
denied_row k h =
    let row = row_denied k h in
    record {
      opposed = opposed (2 ^ 64) k (row_within k h) (omega arith);
      less = to_z-of_z w128 ((pos 0 -ℤ k) -ℤ pos 1) (row_fits ((pos 0 -ℤ k) -ℤ pos 1) row);
      row = row;
    }

pub opposite_within : (m n : ℕ) (ts : Terms) → are_within m ts ≡ true → m ≤ n →
    are_within n (terms_scaled (negsuc 0) ts) ≡ true
opposite_within m n ts h l =
    let one = within_from_le 1 (negsuc 0) (omega (arith, ints)) in
    within_scaled 1 m n (negsuc 0) ts one h (omega (arith, l))

pub opposite_terms : (ts : Terms) {us : Terms} → us ≡ terms_scaled (negsuc 0) ts →
    are_within (2 ^ 64) ts ≡ true → are_distinct ts ≡ true → are_present ts ≡ true →
    (are_within (2 ^ 64) us ≡ true) × (are_distinct us ≡ true) × (are_present us ≡ true)
opposite_terms ts is narrow distinct whole = (
  ap (are_within (2 ^ 64)) is ∙ opposite_within (2 ^ 64) (2 ^ 64) ts narrow (omega arith),
  ap are_distinct is ∙ distinct_scaled (negsuc 0) ts ∙ distinct,
  ap are_present is ∙ present_negated ts whole,
)

abbrev linear_of : ℤ → Terms → Linear
linear_of z ts = record { constant = z; terms = ts }

pub denied_is : (k : ℤ) (ts : Terms) {us : Terms} {s : Linear} → us ≡ terms_scaled (negsuc 0) ts →
    record { constant = k; terms = ts } ≡ s →
    record { constant = (pos 0 -ℤ k) -ℤ pos 1; terms = us } ≡ moved (pos 1) (scaled (negsuc 0) s)
denied_is k ts terms is =
    ap₂ linear_of (ap (λ z. z -ℤ pos 1) (opposite_is k)) terms
    ∙ ap (λ (l : Linear). moved (pos 1) (scaled (negsuc 0) l)) is

-- ---- of a form of short numbers

pub record IsNegated (k : ℤ) (us : Terms) : Type 0 where
  pub opposed : IsOpposed k
  pub short : (is_short (pos 0 -ℤ k) && are_short us) ≡ true
  pub distinct : are_distinct us ≡ true

pub negated : (k : ℤ) (ts : Terms) {us : Terms} → (is_short k && are_short ts) ≡ true →
    are_distinct ts ≡ true → us ≡ terms_scaled (negsuc 0) ts → IsNegated k us
negated k ts short distinct is =
    let parts = and_parts (is_short k) (are_short ts) short in
    let narrow = ap is_short (opposite_is k) ∙ short_negated k parts.0 in
    record {
      opposed = opposed (2 ^ 62) k parts.0 (omega arith);
      short = ap₂ (λ s t. s && t) narrow (ap are_short is ∙ are_short_negated ts parts.1);
      distinct = ap are_distinct is ∙ distinct_scaled (negsuc 0) ts ∙ distinct;
    }

pub negated_within : (k : ℤ) (ts : Terms) → (is_short k && are_short ts) ≡ true →
    are_within (2 ^ 126) (terms_scaled (negsuc 0) ts) ≡ true
negated_within k ts short =
    let parts = and_parts (is_short k) (are_short ts) short in
    opposite_within (2 ^ 62) (2 ^ 126) ts parts.1 (omega arith)
