-- The rows of two tables are known to be equal where their quotients are.
use Rattle.std.proofs.Common.{◌≡◌, ℕ, suc, ◌+◌, ◌<◌, ◌≤◌, ◌==◌, ℤ, Bool, true, false, cond, ◌&&◌, List, [], ◌∷◌, ◌++◌, length, get_or, map, Option, Some, None, option_map, arith, refl, sym, ap, ap₂, ◌∙◌, subst, true≢false, eq-eqb, zero-add, ◌⊎◌, inl, inr}
use Rattle.std.proofs.lemmas.List.{length_push, get_or_append_left, get_or_push, get_or-map}
use Rattle.std.proofs.lemmas.Bool.{cases_lt}
use Rattle.std.specs.Ordering.{int_eq}
use Rattle.affine_forms.specs.Atoms.{Atom, Terms, none, term, taken, same_atom, same_terms}
use Rattle.affine_forms.specs.TermBounds.{count}
use Rattle.affine_forms.specs.Tables.{Division, atom_of, Leaf, OfVariable, OfEntry, OfUnknown, OfStride, leaf_atom, Part, Whole, Earlier, Share, QuotientRow, no_division, part_atom, sum_of, division_of, with_rows, divisions, is_earlier, are_earlier, are_ordered, is_known, known_part, known_share, share_taken, known_sum, are_alike, known_row, with_lines}
use Rattle.affine_forms.proofs.Values.{and_parts, some_injective, none_some}
use Rattle.affine_forms.proofs.Tables.{number_earlier, length_divisions, row_at, inside_at}

-- ---- equal sums have as many terms

taken_count : (f : Atom → Bool) (c : ℤ) (ts ws : Terms) → taken f c ts ≡ Some ws → count ts ≡ suc (count ws)
taken_count f c none ws e = absurd (none_some e)
taken_count f c (term d b ts) ws e = go (f b && int_eq c d) (taken f c ts) (taken_count f c ts) e
  where
    go : (t : Bool) (o : Option Terms) → ((us : Terms) → o ≡ Some us → count ts ≡ suc (count us)) → cond t (Some ts) (elim o [ None ↦ None | Some us ↦ Some (term d b us) ]) ≡ Some ws → suc (count ts) ≡ suc (count ws)
    go true o h e = ap (λ us. suc (count us)) (some_injective ts ws e)
    go false None h e = absurd (none_some e)
    go false (Some us) h e = ap suc (h us refl) ∙ ap (λ v. suc (count v)) (some_injective (term d b us) ws e)

same_counts : (us ts : Terms) → same_terms us ts ≡ true → count us ≡ count ts
same_counts none none h = refl
same_counts none (term d b ts) h = absurd (true≢false (sym h))
same_counts (term c a us) ts h = go (taken (same_atom a) c ts) (taken_count (same_atom a) c ts) (same_counts us) h
  where
    go : (o : Option Terms) → ((ws : Terms) → o ≡ Some ws → count ts ≡ suc (count ws)) → ((ws : Terms) → same_terms us ws ≡ true → count us ≡ count ws) → elim o [ None ↦ false | Some ws ↦ same_terms us ws ] ≡ true → suc (count us) ≡ count ts
    go None k ih h = absurd (true≢false (sym h))
    go (Some ws) k ih h = ap suc (ih ws h) ∙ sym (k ws refl)

count_sum : (ds : List Division) (ss : List Share) → count (sum_of ds ss) ≡ length ss
count_sum ds [] = refl
count_sum ds (s ∷ ss) = ap suc (count_sum ds ss)

-- a test that follows from the last one may be left out
left_out : (a l k : Bool) → (k ≡ true → l ≡ true) → ((a && l) && k) ≡ (a && k)
left_out false l k h = refl
left_out true true k h = refl
left_out true false true h = absurd (true≢false (sym (h refl)))
left_out true false false h = refl

-- ---- a row

-- a test of what is left, which fails where nothing could be taken out
abbrev left_sum : List (List Bool) → List Share → Option (List Share) → Bool
left_sum lines ss o = elim o [ None ↦ false | Some us ↦ known_sum lines ss us ]

abbrev left_same : Terms → Option Terms → Bool
left_same ts o = elim o [ None ↦ false | Some us ↦ same_terms ts us ]

-- what is known of the quotients of two tables
abbrev pub Knows : List (List Bool) → List Division → List Division → Type 0
Knows lines ds es = (i j : ℕ) → i < length ds → j < length es → is_known lines i j ≡ same_atom (atom_of (get_or ds i no_division)) (atom_of (get_or es j no_division))

leaf_quotient : (a : Leaf) (d : Division) → false ≡ same_atom (leaf_atom a) (atom_of d)
leaf_quotient (OfVariable x) d = refl
leaf_quotient (OfEntry f kind) d = refl
leaf_quotient (OfUnknown f kind path) d = refl
leaf_quotient (OfStride x k) d = refl

quotient_leaf : (d : Division) (a : Leaf) → false ≡ same_atom (atom_of d) (leaf_atom a)
quotient_leaf d (OfVariable x) = refl
quotient_leaf d (OfEntry f kind) = refl
quotient_leaf d (OfUnknown f kind path) = refl
quotient_leaf d (OfStride x k) = refl

module _ (lines : List (List Bool)) (ds es : List Division) (knows : Knows lines ds es) where
  known_part_is : (p q : Part) → is_earlier (length ds) p ≡ true → is_earlier (length es) q ≡ true → known_part lines p q ≡ same_atom (part_atom ds p) (part_atom es q)
  known_part_is (Whole a) (Whole b) h k = refl
  known_part_is (Whole a) (Earlier j) h k = leaf_quotient a (get_or es j no_division)
  known_part_is (Earlier i) (Whole b) h k = quotient_leaf (get_or ds i no_division) b
  known_part_is (Earlier i) (Earlier j) h k = knows i j (number_earlier (length ds) i h) (number_earlier (length es) j k)

  taken_is : (s : Share) (ts : List Share) → is_earlier (length ds) s.part ≡ true → are_earlier (length es) ts ≡ true → option_map (sum_of es) (share_taken lines s ts) ≡ taken (same_atom (part_atom ds s.part)) s.coefficient (sum_of es ts)
  taken_is s [] h k = refl
  taken_is s (t ∷ ts) h k =
      step (known_share lines s t) (share_taken lines s ts)
      ∙ ap₂ (λ b o. cond b (Some (sum_of es ts)) (elim o [ None ↦ None | Some us ↦ Some (term t.coefficient (part_atom es t.part) us) ])) (ap (λ b. b && int_eq s.coefficient t.coefficient) (known_part_is s.part t.part h p.0)) (taken_is s ts h p.1)
    where
      p : (is_earlier (length es) t.part ≡ true) × (are_earlier (length es) ts ≡ true)
      p = and_parts (is_earlier (length es) t.part) (are_earlier (length es) ts) k

      step : (b : Bool) (o : Option (List Share)) → option_map (sum_of es) (cond b (Some ts) (elim o [ None ↦ None | Some us ↦ Some (t ∷ us) ])) ≡ cond b (Some (sum_of es ts)) (elim (option_map (sum_of es) o) [ None ↦ None | Some us ↦ Some (term t.coefficient (part_atom es t.part) us) ])
      step true o = refl
      step false None = refl
      step false (Some us) = refl

  left_earlier : (s : Share) (ts us : List Share) → share_taken lines s ts ≡ Some us → are_earlier (length es) ts ≡ true → are_earlier (length es) us ≡ true
  left_earlier s [] us e k = absurd (none_some e)
  left_earlier s (t ∷ ts) us e k = go (known_share lines s t) (share_taken lines s ts) (λ vs f. left_earlier s ts vs f p.1) e
    where
      p : (is_earlier (length es) t.part ≡ true) × (are_earlier (length es) ts ≡ true)
      p = and_parts (is_earlier (length es) t.part) (are_earlier (length es) ts) k

      go : (b : Bool) (o : Option (List Share)) → ((vs : List Share) → o ≡ Some vs → are_earlier (length es) vs ≡ true) → cond b (Some ts) (elim o [ None ↦ None | Some vs ↦ Some (t ∷ vs) ]) ≡ Some us → are_earlier (length es) us ≡ true
      go true o ih e = subst (λ v. are_earlier (length es) v ≡ true) (some_injective ts us e) p.1
      go false None ih e = absurd (none_some e)
      go false (Some vs) ih e = subst (λ v. are_earlier (length es) v ≡ true) (some_injective (t ∷ vs) us e) (ap₂ (λ x y. x && y) p.0 (ih vs refl))

  known_sum_is : (ss ts : List Share) → are_earlier (length ds) ss ≡ true → are_earlier (length es) ts ≡ true → known_sum lines ss ts ≡ same_terms (sum_of ds ss) (sum_of es ts)
  known_sum_is [] [] h k = refl
  known_sum_is [] (t ∷ ts) h k = refl
  known_sum_is (s ∷ ss) ts h k =
      go (share_taken lines s ts) (λ us e. left_earlier s ts us e k) (λ us. known_sum_is ss us p.1)
      ∙ ap (left_same (sum_of ds ss)) (taken_is s ts p.0 k)
    where
      p : (is_earlier (length ds) s.part ≡ true) × (are_earlier (length ds) ss ≡ true)
      p = and_parts (is_earlier (length ds) s.part) (are_earlier (length ds) ss) h

      go : (o : Option (List Share)) → ((us : List Share) → o ≡ Some us → are_earlier (length es) us ≡ true) → ((us : List Share) → are_earlier (length es) us ≡ true → known_sum lines ss us ≡ same_terms (sum_of ds ss) (sum_of es us)) → left_sum lines ss o ≡ left_same (sum_of ds ss) (option_map (sum_of es) o)
      go None e ih = refl
      go (Some us) e ih = ih us (e us refl)

  known_row_is : (r s : QuotientRow) → are_earlier (length ds) r.terms ≡ true → are_earlier (length es) s.terms ≡ true → known_row lines r s ≡ same_atom (atom_of (division_of ds r)) (atom_of (division_of es s))
  known_row_is r s h k =
      left_out (int_eq r.constant s.constant && int_eq r.by s.by) (length r.terms == length s.terms) (known_sum lines r.terms s.terms) lengths
      ∙ ap (λ b. (int_eq r.constant s.constant && int_eq r.by s.by) && b) sums
    where
      sums : known_sum lines r.terms s.terms ≡ same_terms (sum_of ds r.terms) (sum_of es s.terms)
      sums = known_sum_is r.terms s.terms h k

      lengths : known_sum lines r.terms s.terms ≡ true → (length r.terms == length s.terms) ≡ true
      lengths e = eq-eqb (length r.terms) (length s.terms) (sym (count_sum ds r.terms) ∙ same_counts (sum_of ds r.terms) (sum_of es s.terms) (sym sums ∙ e) ∙ count_sum es s.terms)

-- rows that are not alike are not equal
pub alike_from : (ds es : List Division) (r s : QuotientRow) → are_alike r s ≡ false → false ≡ same_atom (atom_of (division_of ds r)) (atom_of (division_of es s))
alike_from ds es r s e = go (int_eq r.constant s.constant && int_eq r.by s.by) (length r.terms == length s.terms) (same_terms (sum_of ds r.terms) (sum_of es s.terms)) lengths e
  where
    lengths : same_terms (sum_of ds r.terms) (sum_of es s.terms) ≡ true → (length r.terms == length s.terms) ≡ true
    lengths h = eq-eqb (length r.terms) (length s.terms) (sym (count_sum ds r.terms) ∙ same_counts (sum_of ds r.terms) (sum_of es s.terms) h ∙ count_sum es s.terms)

    go : (a l k : Bool) → (k ≡ true → l ≡ true) → (a && l) ≡ false → false ≡ (a && k)
    go false l k h e = refl
    go true l true h e = absurd (true≢false (sym (h refl) ∙ e))
    go true l false h e = refl

-- ---- all rows

module _ (ss : List QuotientRow) (ordered : are_ordered 0 ss ≡ true) where
  knows_push : (lines : List (List Bool)) (ds : List Division) (r : QuotientRow) → length lines ≡ length ds → Knows lines ds (divisions ss) → are_earlier (length ds) r.terms ≡ true → Knows (lines ++ map (known_row lines r) ss ∷ []) (ds ++ division_of ds r ∷ []) (divisions ss)
  knows_push lines ds r n knows e = λ i j h k. at i j (length_push ds (division_of ds r)) h k (cases_lt i (length ds))
    where
      at : (i j : ℕ) → length (ds ++ division_of ds r ∷ []) ≡ length ds + 1 → i < length (ds ++ division_of ds r ∷ []) → j < length (divisions ss) → (i < length ds) ⊎ (length ds ≤ i) → is_known (lines ++ map (known_row lines r) ss ∷ []) i j ≡ same_atom (atom_of (get_or (ds ++ division_of ds r ∷ []) i no_division)) (atom_of (get_or (divisions ss) j no_division))
      at i j one h k (inl below) =
          let inside : i < length lines = omega (arith, below, n) in
          ap (λ line. get_or line j false) (get_or_append_left lines (map (known_row lines r) ss ∷ []) [] i inside)
          ∙ knows i j below k
          ∙ ap (λ d. same_atom (atom_of d) (atom_of (get_or (divisions ss) j no_division))) (sym (get_or_append_left ds (division_of ds r ∷ []) no_division i below))
      at i j one h k (inr from) =
          let last : length ds ≡ i = omega (arith, one, h, from) in
          let all = length_divisions ss in
          let inside : j < length ss = omega (arith, k, all) in
          ap (λ line. get_or line j false) (get_or_push lines (map (known_row lines r) ss) [] i (n ∙ last))
          ∙ get_or-map (known_row lines r) ss j r false inside
          ∙ known_row_is lines ds (divisions ss) knows r (get_or ss j r) e (inside_at ss j r ordered inside)
          ∙ ap₂ (λ d f. same_atom (atom_of d) (atom_of f)) (sym (get_or_push ds (division_of ds r) no_division i last)) (sym (row_at ss j r ordered inside))

  knows_all : (rs : List QuotientRow) (lines : List (List Bool)) (ds : List Division) → length lines ≡ length ds → Knows lines ds (divisions ss) → are_ordered (length ds) rs ≡ true → Knows (with_lines lines rs ss) (with_rows ds rs) (divisions ss)
  knows_all [] lines ds n knows o = knows
  knows_all (r ∷ rs) lines ds n knows o =
      let p = and_parts (are_earlier (length ds) r.terms) (are_ordered (suc (length ds)) rs) o in
      let one = length_push ds (division_of ds r) in
      let more = length_push lines (map (known_row lines r) ss) in
      let longer : suc (length ds) ≡ length (ds ++ division_of ds r ∷ []) = omega (arith, one) in
      let same : length (lines ++ map (known_row lines r) ss ∷ []) ≡ length (ds ++ division_of ds r ∷ []) = omega (arith, one, more, n) in
      knows_all rs (lines ++ map (known_row lines r) ss ∷ []) (ds ++ division_of ds r ∷ []) same (knows_push lines ds r n knows p.0) (subst (λ m. are_ordered m rs ≡ true) longer p.1)

  pub known_is : (rs : List QuotientRow) → are_ordered 0 rs ≡ true → Knows (with_lines [] rs ss) (divisions rs) (divisions ss)
  known_is rs o = knows_all rs [] [] refl (λ i j h k. absurd (omega arith)) o
