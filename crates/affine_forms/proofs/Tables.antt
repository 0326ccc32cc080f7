-- Tables of quotients: what a row stands for, and rows that are put or moved.
use Rattle.std.proofs.Common.{◌≡◌, ℕ, zero, suc, ◌+◌, ◌<◌, ◌≤◌, ◌^◌, ◌==◌, ℤ, pos, Bool, true, false, cond, ◌&&◌, nat_lt, List, [], ◌∷◌, ◌++◌, length, get_or, map, arith, refl, sym, ap, ap₂, ◌∙◌, subst, true≢false, eqb-true, zero-add, ◌⊎◌, inl, inr}
use Rattle.std.proofs.lemmas.List.{length_push, get_or_append_left, get_or_push}
use Rattle.std.proofs.lemmas.Bool.{cases_lt}
use Rattle.std.proofs.lemmas.Bool.Decides.{nat_tests}
use Rattle.std.specs.Int.{is_positive}
use Rattle.std.specs.Ordering.{int_eq}
use Rattle.affine_forms.specs.Atoms.{Atom, Variable, EntryField, UnknownField, OpaqueStride, Terms, none, term, same_kind, same_atom}
use Rattle.exo_tree.specs.Places.{same_path}
use Rattle.affine_forms.specs.Forms.{is_within, is_short, are_short}
use Rattle.affine_forms.specs.TermBounds.{is_kept_atom, are_kept, are_distinct, are_present}
use Rattle.affine_forms.specs.Tables.{Division, atom_of, Leaf, OfVariable, OfEntry, OfUnknown, OfStride, leaf_atom, Part, Whole, Earlier, Share, QuotientRow, no_division, part_atom, sum_of, division_of, with_rows, divisions, is_earlier, are_earlier, are_ordered, are_all_kept, Holds, Extends, is_part, are_shares, is_row, is_row_at, moved_part, moved_share, Follows}
use Rattle.affine_forms.proofs.Values.{and_parts, int_eq_same, same_kind_is, same_path_is}
use Rattle.affine_forms.proofs.TermWidths.{within_le, within_from_le}

lt_true : (j n : ℕ) → nat_lt j n ≡ true → j < n
lt_true j n h = grind (arith, nat_tests)

true_lt : (j n : ℕ) → j < n → nat_lt j n ≡ true
true_lt j n h = grind (arith, nat_tests)

-- ---- numbers of quotients

length_with : (ds : List Division) (rs : List QuotientRow) → length (with_rows ds rs) ≡ length ds + length rs
length_with ds [] = omega arith
length_with ds (r ∷ rs) =
    let more : length (with_rows ds (r ∷ rs)) ≡ length (ds ++ division_of ds r ∷ []) + length rs = length_with (ds ++ division_of ds r ∷ []) rs in
    let one = length_push ds (division_of ds r) in
    omega (arith, more, one)

pub length_divisions : (rs : List QuotientRow) → length (divisions rs) ≡ length rs
length_divisions rs = length_with [] rs ∙ zero-add (length rs)

-- a quotient keeps its number
pub keeps : (ds : List Division) (rs : List QuotientRow) (k : ℕ) → k < length ds → get_or (with_rows ds rs) k no_division ≡ get_or ds k no_division
keeps ds [] k h = refl
keeps ds (r ∷ rs) k h =
    let one = length_push ds (division_of ds r) in
    let longer : k < length (ds ++ division_of ds r ∷ []) = omega (arith, one) in
    keeps (ds ++ division_of ds r ∷ []) rs k longer ∙ get_or_append_left ds (division_of ds r ∷ []) no_division k h

-- ---- tables that agree on what a sum names

abbrev pub Agree : ℕ → List Division → List Division → Type 0
Agree n ds es = (j : ℕ) → j < n → get_or ds j no_division ≡ get_or es j no_division

part_agrees : (n : ℕ) (ds es : List Division) → Agree n ds es → (p : Part) → is_earlier n p ≡ true → part_atom ds p ≡ part_atom es p
part_agrees n ds es a (Whole leaf) h = refl
part_agrees n ds es a (Earlier j) h = ap atom_of (a j (lt_true j n h))

pub sum_agrees : (n : ℕ) (ds es : List Division) → Agree n ds es → (ss : List Share) → are_earlier n ss ≡ true → sum_of ds ss ≡ sum_of es ss
sum_agrees n ds es a [] h = refl
sum_agrees n ds es a (s ∷ ss) h =
    let p = and_parts (is_earlier n s.part) (are_earlier n ss) h in
    ap₂ (term s.coefficient) (part_agrees n ds es a s.part p.0) (sum_agrees n ds es a ss p.1)

abbrev made : ℤ → ℤ → Terms → Division
made n c ts = record { constant = n; terms = ts; by = c }

abbrev with_terms : QuotientRow → Terms → Division
with_terms r ts = made r.constant r.by ts

pub division_agrees : (n : ℕ) (ds es : List Division) → Agree n ds es → (r : QuotientRow) → are_earlier n r.terms ≡ true → division_of ds r ≡ division_of es r
division_agrees n ds es a r h = ap (with_terms r) (sum_agrees n ds es a r.terms h)

pub earlier_more : (m n : ℕ) → m ≤ n → (ss : List Share) → are_earlier m ss ≡ true → are_earlier n ss ≡ true
earlier_more m n l [] h = refl
earlier_more m n l (s ∷ ss) h =
    let p = and_parts (is_earlier m s.part) (are_earlier m ss) h in
    ap₂ (λ x y. x && y) (one s.part p.0) (earlier_more m n l ss p.1)
  where
    one : (p : Part) → is_earlier m p ≡ true → is_earlier n p ≡ true
    one (Whole leaf) e = refl
    one (Earlier j) e = let below = lt_true j m e in true_lt j n (omega (arith, l, below))

-- ---- the row of a number

row_from : (ds : List Division) (rs : List QuotientRow) (k : ℕ) (e : QuotientRow) → are_ordered (length ds) rs ≡ true → k < length rs → get_or (with_rows ds rs) (length ds + k) no_division ≡ division_of (with_rows ds rs) (get_or rs k e)
row_from ds [] k e o h = absurd (omega arith)
row_from ds (r ∷ rs) zero e o h =
    let one = length_push ds (division_of ds r) in
    let inside : length ds + 0 < length (ds ++ division_of ds r ∷ []) = omega (arith, one) in
    let here : length ds ≡ length ds + 0 = omega arith in
    keeps (ds ++ division_of ds r ∷ []) rs (length ds + 0) inside
    ∙ get_or_push ds (division_of ds r) no_division (length ds + 0) here
    ∙ division_agrees (length ds) ds (with_rows ds (r ∷ rs)) (λ j l. sym (keeps ds (r ∷ rs) j l)) r (and_parts (are_earlier (length ds) r.terms) (are_ordered (suc (length ds)) rs) o).0
row_from ds (r ∷ rs) (suc k) e o h =
    let one = length_push ds (division_of ds r) in
    let place : length ds + suc k ≡ length (ds ++ division_of ds r ∷ []) + k = omega (arith, one) in
    let longer : suc (length ds) ≡ length (ds ++ division_of ds r ∷ []) = omega (arith, one) in
    let below : k < length rs = omega arith in
    ap (λ i. get_or (with_rows ds (r ∷ rs)) i no_division) place
    ∙ row_from (ds ++ division_of ds r ∷ []) rs k e (subst (λ n. are_ordered n rs ≡ true) longer (and_parts (are_earlier (length ds) r.terms) (are_ordered (suc (length ds)) rs) o).1) below

pub row_at : (rs : List QuotientRow) (k : ℕ) (e : QuotientRow) → are_ordered 0 rs ≡ true → k < length rs → get_or (divisions rs) k no_division ≡ division_of (divisions rs) (get_or rs k e)
row_at rs k e o h = ap (λ i. get_or (divisions rs) i no_division) (sym (zero-add k)) ∙ row_from [] rs k e o h

earlier_from : (n : ℕ) (rs : List QuotientRow) (k : ℕ) (e : QuotientRow) → are_ordered n rs ≡ true → k < length rs → are_earlier (n + k) (get_or rs k e).terms ≡ true
earlier_from n [] k e o h = absurd (omega arith)
earlier_from n (r ∷ rs) zero e o h =
    let here : n ≡ n + 0 = omega arith in
    subst (λ m. are_earlier m r.terms ≡ true) here (and_parts (are_earlier n r.terms) (are_ordered (suc n) rs) o).0
earlier_from n (r ∷ rs) (suc k) e o h =
    let place : suc n + k ≡ n + suc k = omega arith in
    let below : k < length rs = omega arith in
    subst (λ m. are_earlier m (get_or rs k e).terms ≡ true) place (earlier_from (suc n) rs k e (and_parts (are_earlier n r.terms) (are_ordered (suc n) rs) o).1 below)

-- a row names only rows before it
pub earlier_at : (rs : List QuotientRow) (k : ℕ) (e : QuotientRow) → are_ordered 0 rs ≡ true → k < length rs → are_earlier k (get_or rs k e).terms ≡ true
earlier_at rs k e o h = subst (λ m. are_earlier m (get_or rs k e).terms ≡ true) (zero-add k) (earlier_from 0 rs k e o h)

pub inside_at : (rs : List QuotientRow) (k : ℕ) (e : QuotientRow) → are_ordered 0 rs ≡ true → k < length rs → are_earlier (length (divisions rs)) (get_or rs k e).terms ≡ true
inside_at rs k e o h =
    let all = length_divisions rs in
    let less : k ≤ length (divisions rs) = omega (arith, all) in
    earlier_more k (length (divisions rs)) less (get_or rs k e).terms (earlier_at rs k e o h)

-- ---- one more row

pub with_append : (ds : List Division) (rs ss : List QuotientRow) → with_rows ds (rs ++ ss) ≡ with_rows (with_rows ds rs) ss
with_append ds [] ss = refl
with_append ds (r ∷ rs) ss = with_append (ds ++ division_of ds r ∷ []) rs ss

pub divisions_push : (rs : List QuotientRow) (r : QuotientRow) → divisions (rs ++ r ∷ []) ≡ divisions rs ++ division_of (divisions rs) r ∷ []
divisions_push rs r = with_append [] rs (r ∷ [])

ordered_from : (n : ℕ) (rs : List QuotientRow) (r : QuotientRow) → are_ordered n rs ≡ true → are_earlier (n + length rs) r.terms ≡ true → are_ordered n (rs ++ r ∷ []) ≡ true
ordered_from n [] r o h =
    let here : n + 0 ≡ n = omega arith in
    ap₂ (λ x y. x && y) (subst (λ m. are_earlier m r.terms ≡ true) here h) refl
ordered_from n (q ∷ rs) r o h =
    let p = and_parts (are_earlier n q.terms) (are_ordered (suc n) rs) o in
    let place : n + suc (length rs) ≡ suc n + length rs = omega arith in
    ap₂ (λ x y. x && y) p.0 (ordered_from (suc n) rs r p.1 (subst (λ m. are_earlier m r.terms ≡ true) place h))

pub ordered_push : (rs : List QuotientRow) (r : QuotientRow) → are_ordered 0 rs ≡ true → are_earlier (length (divisions rs)) r.terms ≡ true → are_ordered 0 (rs ++ r ∷ []) ≡ true
ordered_push rs r o h = ordered_from 0 rs r o (subst (λ m. are_earlier m r.terms ≡ true) (length_with [] rs) h)

all_kept_push : (ds : List Division) (d : Division) → are_all_kept ds ≡ true → is_kept_atom (atom_of d) ≡ true → are_all_kept (ds ++ d ∷ []) ≡ true
all_kept_push [] d k h = ap₂ (λ x y. x && y) h refl
all_kept_push (e ∷ ds) d k h =
    let p = and_parts (is_kept_atom (atom_of e)) (are_all_kept ds) k in
    ap₂ (λ x y. x && y) p.0 (all_kept_push ds d p.1 h)

pub kept_push : (rs : List QuotientRow) (r : QuotientRow) → are_all_kept (divisions rs) ≡ true → is_kept_atom (atom_of (division_of (divisions rs) r)) ≡ true → are_all_kept (divisions (rs ++ r ∷ [])) ≡ true
kept_push rs r k h = ap are_all_kept (divisions_push rs r) ∙ all_kept_push (divisions rs) (division_of (divisions rs) r) k h

-- ---- what is kept

pub kept_get : (ds : List Division) (k : ℕ) → are_all_kept ds ≡ true → is_kept_atom (atom_of (get_or ds k no_division)) ≡ true
kept_get [] k h = refl
kept_get (d ∷ ds) zero h = (and_parts (is_kept_atom (atom_of d)) (are_all_kept ds) h).0
kept_get (d ∷ ds) (suc k) h = kept_get ds k (and_parts (is_kept_atom (atom_of d)) (are_all_kept ds) h).1

kept_leaf : (a : Leaf) → is_kept_atom (leaf_atom a) ≡ true
kept_leaf (OfVariable x) = refl
kept_leaf (OfEntry f kind) = refl
kept_leaf (OfUnknown f kind path) = refl
kept_leaf (OfStride x k) = refl

kept_part : (ds : List Division) (p : Part) → are_all_kept ds ≡ true → is_kept_atom (part_atom ds p) ≡ true
kept_part ds (Whole leaf) h = kept_leaf leaf
kept_part ds (Earlier j) h = kept_get ds j h

kept_short : (ds : List Division) (ss : List Share) → are_all_kept ds ≡ true → are_short (sum_of ds ss) ≡ true → are_kept (sum_of ds ss) ≡ true
kept_short ds [] h k = refl
kept_short ds (s ∷ ss) h k =
    let p = and_parts (is_short s.coefficient) (are_short (sum_of ds ss)) k in
    ap₂ (λ x y. x && y) (ap₂ (λ x y. x && y) (within_from_le (2 ^ 126) s.coefficient (omega (arith, within_le (2 ^ 62) s.coefficient p.0))) (kept_part ds s.part h)) (kept_short ds ss h p.1)

short_of : (d : Division) → is_kept_atom (atom_of d) ≡ true → are_short d.terms ≡ true
short_of d k =
    let a = and_parts (is_positive d.by) (is_within (2 ^ 64) d.constant && (are_short d.terms && (are_distinct d.terms && are_present d.terms))) k in
    let b = and_parts (is_within (2 ^ 64) d.constant) (are_short d.terms && (are_distinct d.terms && are_present d.terms)) a.1 in
    (and_parts (are_short d.terms) (are_distinct d.terms && are_present d.terms) b.1).0

-- the sum of a kept quotient
pub kept_sum : (ds : List Division) (r : QuotientRow) → are_all_kept ds ≡ true → is_kept_atom (atom_of (division_of ds r)) ≡ true → are_kept (sum_of ds r.terms) ≡ true
kept_sum ds r h k = kept_short ds r.terms h (short_of (division_of ds r) k)

-- ---- rows that are equal to the letter

leaf_is : (a b : Leaf) → same_atom (leaf_atom a) (leaf_atom b) ≡ true → leaf_atom a ≡ leaf_atom b
leaf_is (OfVariable x) (OfVariable y) h = ap Variable (eqb-true x y h)
leaf_is (OfEntry f i) (OfEntry g j) h =
    let p = and_parts (f == g) (same_kind i j) h in
    ap₂ EntryField (eqb-true f g p.0) (same_kind_is i j p.1)
leaf_is (OfUnknown f i p) (OfUnknown g j q) h =
    let s = and_parts ((f == g) && same_kind i j) (same_path p q) h in
    let t = and_parts (f == g) (same_kind i j) s.0 in
    ap₂ (λ y k. UnknownField y k p) (eqb-true f g t.0) (same_kind_is i j t.1) ∙ ap (UnknownField g j) (same_path_is p q s.1)
leaf_is (OfStride x i) (OfStride y j) h =
    let p = and_parts (x == y) (i == j) h in
    ap₂ OpaqueStride (eqb-true x y p.0) (eqb-true i j p.1)
leaf_is _ _ h = absurd (true≢false (sym h))

part_is : (ds : List Division) (p q : Part) → is_part p q ≡ true → part_atom ds p ≡ part_atom ds q
part_is ds (Whole a) (Whole b) h = leaf_is a b h
part_is ds (Whole a) (Earlier j) h = absurd (true≢false (sym h))
part_is ds (Earlier i) (Whole b) h = absurd (true≢false (sym h))
part_is ds (Earlier i) (Earlier j) h = ap (λ k. part_atom ds (Earlier k)) (eqb-true i j h)

sum_is : (ds : List Division) (ss ts : List Share) → are_shares ss ts ≡ true → sum_of ds ss ≡ sum_of ds ts
sum_is ds [] [] h = refl
sum_is ds [] (t ∷ ts) h = absurd (true≢false (sym h))
sum_is ds (s ∷ ss) [] h = absurd (true≢false (sym h))
sum_is ds (s ∷ ss) (t ∷ ts) h =
    let p = and_parts (int_eq s.coefficient t.coefficient && is_part s.part t.part) (are_shares ss ts) h in
    let q = and_parts (int_eq s.coefficient t.coefficient) (is_part s.part t.part) p.0 in
    ap₂ (λ c a. term c a (sum_of ds ss)) (int_eq_same s.coefficient t.coefficient q.0) (part_is ds s.part t.part q.1) ∙ ap (term t.coefficient (part_atom ds t.part)) (sum_is ds ss ts p.1)

pub row_is : (ds : List Division) (r s : QuotientRow) → is_row r s ≡ true → division_of ds r ≡ division_of ds s
row_is ds r s h =
    let p = and_parts (int_eq r.constant s.constant && int_eq r.by s.by) (are_shares r.terms s.terms) h in
    let q = and_parts (int_eq r.constant s.constant) (int_eq r.by s.by) p.0 in
    ap₂ (λ n c. made n c (sum_of ds r.terms)) (int_eq_same r.constant s.constant q.0) (int_eq_same r.by s.by q.1) ∙ ap (with_terms s) (sum_is ds r.terms s.terms p.1)

-- the number that was found
found_inside : (r : QuotientRow) (rs : List QuotientRow) (k : ℕ) → is_row_at r rs k ≡ true → k < length rs
found_inside r [] k h = absurd (true≢false (sym h))
found_inside r (s ∷ rs) zero h = omega arith
found_inside r (s ∷ rs) (suc k) h = let below = found_inside r rs k h in omega (arith, below)

found_is : (r : QuotientRow) (rs : List QuotientRow) (k : ℕ) (e : QuotientRow) → is_row_at r rs k ≡ true → is_row r (get_or rs k e) ≡ true
found_is r [] k e h = absurd (true≢false (sym h))
found_is r (s ∷ rs) zero e h = h
found_is r (s ∷ rs) (suc k) e h = found_is r rs k e h

-- a row that stands already
pub found_holds : (r : QuotientRow) (rs : List QuotientRow) (k : ℕ) → are_ordered 0 rs ≡ true → is_row_at r rs k ≡ true → Holds (divisions rs) k (division_of (divisions rs) r)
found_holds r rs k o h =
    let below = found_inside r rs k h in
    let all = length_divisions rs in
    (omega (arith, below, all), row_at rs k r o below ∙ sym (row_is (divisions rs) r (get_or rs k r) (found_is r rs k r h)))

-- a row that is put last
pub pushed_holds : (ds : List Division) (d : Division) (k : ℕ) → length ds ≡ k → Holds (ds ++ d ∷ []) k d
pushed_holds ds d k e = let one = length_push ds d in (omega (arith, one, e), get_or_push ds d no_division k e)

pub pushed_extends : (ds : List Division) (d : Division) → Extends ds (ds ++ d ∷ [])
pushed_extends ds d = λ k h. let one = length_push ds d in (omega (arith, one, h), get_or_append_left ds (d ∷ []) no_division k h)

pub extends_self : (ds : List Division) → Extends ds ds
extends_self ds = λ k h. (h, refl)

pub holds_grown : (ds es : List Division) (k : ℕ) (d : Division) → Extends ds es → Holds ds k d → Holds es k d
holds_grown ds es k d x h = let e = x k h.0 in (e.0, e.1 ∙ h.1)

pub extends_on : (ds es fs : List Division) → Extends ds es → Extends es fs → Extends ds fs
extends_on ds es fs x y = λ k h. holds_grown es fs k (get_or ds k no_division) y (x k h)

-- what a sum names stays
pub earlier_grown : (ds es : List Division) → Extends ds es → (ss : List Share) → are_earlier (length ds) ss ≡ true → are_earlier (length es) ss ≡ true
earlier_grown ds es x [] h = refl
earlier_grown ds es x (s ∷ ss) h =
    let p = and_parts (is_earlier (length ds) s.part) (are_earlier (length ds) ss) h in
    ap₂ (λ a b. a && b) (one s.part p.0) (earlier_grown ds es x ss p.1)
  where
    one : (p : Part) → is_earlier (length ds) p ≡ true → is_earlier (length es) p ≡ true
    one (Whole leaf) e = refl
    one (Earlier j) e = true_lt j (length es) (x j (lt_true j (length ds) e)).0

pub sum_grown : (ds es : List Division) → Extends ds es → (ss : List Share) → are_earlier (length ds) ss ≡ true → sum_of es ss ≡ sum_of ds ss
sum_grown ds es x ss h = sym (sum_agrees (length ds) ds es (λ j l. sym (x j l).1) ss h)

-- ---- sums with one more share at their end

pub earlier_push : (n : ℕ) (ss : List Share) (s : Share) → are_earlier n ss ≡ true → is_earlier n s.part ≡ true → are_earlier n (ss ++ s ∷ []) ≡ true
earlier_push n [] s h k = ap₂ (λ a b. a && b) k refl
earlier_push n (t ∷ ss) s h k =
    let p = and_parts (is_earlier n t.part) (are_earlier n ss) h in
    ap₂ (λ a b. a && b) p.0 (earlier_push n ss s p.1 k)

-- the part of a number
pub earlier_number : (n k : ℕ) → k < n → is_earlier n (Earlier k) ≡ true
earlier_number n k h = true_lt k n h

pub number_earlier : (n k : ℕ) → is_earlier n (Earlier k) ≡ true → k < n
number_earlier n k h = lt_true k n h

-- ---- moved rows

pub moved_sum : (numbers : List ℕ) (ds es : List Division) → Follows numbers ds es → (ss : List Share) → are_earlier (length numbers) ss ≡ true → sum_of ds (map (moved_share numbers) ss) ≡ sum_of es ss
moved_sum numbers ds es f [] h = refl
moved_sum numbers ds es f (s ∷ ss) h =
    let p = and_parts (is_earlier (length numbers) s.part) (are_earlier (length numbers) ss) h in
    ap₂ (term s.coefficient) (one s.part p.0) (moved_sum numbers ds es f ss p.1)
  where
    one : (p : Part) → is_earlier (length numbers) p ≡ true → part_atom ds (moved_part numbers p) ≡ part_atom es p
    one (Whole leaf) e = refl
    one (Earlier j) e = ap atom_of (f j (lt_true j (length numbers) e)).1

pub moved_earlier : (numbers : List ℕ) (ds es : List Division) → Follows numbers ds es → (ss : List Share) → are_earlier (length numbers) ss ≡ true → are_earlier (length ds) (map (moved_share numbers) ss) ≡ true
moved_earlier numbers ds es f [] h = refl
moved_earlier numbers ds es f (s ∷ ss) h =
    let p = and_parts (is_earlier (length numbers) s.part) (are_earlier (length numbers) ss) h in
    ap₂ (λ a b. a && b) (one s.part p.0) (moved_earlier numbers ds es f ss p.1)
  where
    one : (p : Part) → is_earlier (length numbers) p ≡ true → is_earlier (length ds) (moved_part numbers p) ≡ true
    one (Whole leaf) e = refl
    one (Earlier j) e = true_lt (get_or numbers j 0) (length ds) (f j (lt_true j (length numbers) e)).0

pub follows_grown : (numbers : List ℕ) (ds es fs : List Division) → Extends ds fs → Follows numbers ds es → Follows numbers fs es
follows_grown numbers ds es fs x f = λ j h. holds_grown ds fs (get_or numbers j 0) (get_or es j no_division) x (f j h)

-- one more number
pub follows_push : (numbers : List ℕ) (ds es : List Division) (k : ℕ) → Follows numbers ds es → Holds ds k (get_or es (length numbers) no_division) → Follows (numbers ++ k ∷ []) ds es
follows_push numbers ds es k f h = λ j l. at j (length_push numbers k) l (cases_lt j (length numbers))
  where
    at : (j : ℕ) → length (numbers ++ k ∷ []) ≡ length numbers + 1 → j < length (numbers ++ k ∷ []) → (j < length numbers) ⊎ (length numbers ≤ j) → Holds ds (get_or (numbers ++ k ∷ []) j 0) (get_or es j no_division)
    at j one l (inl below) = subst (λ i. Holds ds i (get_or es j no_division)) (sym (get_or_append_left numbers (k ∷ []) 0 j below)) (f j below)
    at j one l (inr from) =
        let last : length numbers ≡ j = omega (arith, one, l, from) in
        subst (λ i. Holds ds i (get_or es j no_division)) (sym (get_or_push numbers k 0 j last)) (subst (λ i. Holds ds k (get_or es i no_division)) last h)
