-- Rows that are put into a table.
use Rattle.std.proofs.Common.{◌≡◌, ℕ, zero, suc, ◌+◌, ◌<◌, ◌≤◌, ◌^◌, ◌&&◌, Bool, true, false, List, [], ◌∷◌, ◌++◌, length, get_or, take, drop, map, arith, refl, sym, ap, ap₂, ◌∙◌, subst}
use Rattle.std.proofs.lemmas.List.{map_push, map-append, take_more, drop_all, take-append-drop, length-take-le}
use Rattle.affine_forms.specs.Atoms.{same_atom, Terms, none, term}
use Rattle.affine_forms.specs.Forms.{is_within}
use Rattle.affine_forms.specs.Tables as plain
use Rattle.affine_forms.specs.Tables.{Division, no_division, part_atom, sum_of, division_of, divisions, is_earlier, are_earlier, are_ordered, are_all_kept, is_row_at, moved_share, Follows, Holds, Extends, are_alike, is_known, with_lines, with_rows, atom_of}
use Rattle.affine_forms.specs.TermBounds.{is_kept_atom, are_kept, joined_terms}
use Rattle.affine_forms.specs.PlainAtoms.{plain_atom, plain_terms}
use Rattle.affine_forms.specs.PlainTables.{plain_part, plain_share, plain_shares, plain_row, plain_rows}
use Rattle.affine_forms.specs.declared.atom.Weighed.{Weighed}
use Rattle.affine_forms.specs.declared.row.QuotientRow.{QuotientRow}
use Rattle.affine_forms.specs.declared.row.Share.{Share}
use Rattle.affine_forms.proofs.Values.{and_parts}
use Rattle.affine_forms.proofs.TermLists.{plain_append, joined_push, joined_none}
use Rattle.affine_forms.proofs.Tables.{with_append, keeps, ordered_push, kept_push, divisions_push, pushed_holds, pushed_extends, found_holds, kept_get, moved_sum, moved_earlier, earlier_push, earlier_grown, sum_grown, follows_grown, follows_push}
use Rattle.affine_forms.proofs.KnownRows.{alike_from, known_is}
use Rattle.affine_forms.proofs.RowLists.{table_length, row_value, row_earlier, plain_from}

-- ---- one row

pub put_ordered : (rows : List QuotientRow) (ds : List Division) (x : QuotientRow) → divisions (plain_rows rows) ≡ ds → are_ordered 0 (plain_rows rows) ≡ true → are_earlier (length ds) (plain_row x).terms ≡ true → are_ordered 0 (plain_rows (rows ++ x ∷ [])) ≡ true
put_ordered rows ds x v o h =
    ap (are_ordered 0) (map_push plain_row rows x)
    ∙ ordered_push (plain_rows rows) (plain_row x) o (ap (λ es. are_earlier (length es) (plain_row x).terms) v ∙ h)

pub put_kept : (rows : List QuotientRow) (ds : List Division) (x : QuotientRow) → divisions (plain_rows rows) ≡ ds → are_all_kept (divisions (plain_rows rows)) ≡ true → is_kept_atom (atom_of (division_of ds (plain_row x))) ≡ true → are_all_kept (divisions (plain_rows (rows ++ x ∷ []))) ≡ true
put_kept rows ds x v k h =
    ap (λ rs. are_all_kept (divisions rs)) (map_push plain_row rows x)
    ∙ kept_push (plain_rows rows) (plain_row x) k (ap (λ es. is_kept_atom (atom_of (division_of es (plain_row x)))) v ∙ h)

put_last : (rows : List QuotientRow) (ds : List Division) (x : QuotientRow) → divisions (plain_rows rows) ≡ ds → divisions (plain_rows (rows ++ x ∷ [])) ≡ ds ++ division_of ds (plain_row x) ∷ []
put_last rows ds x v =
    ap divisions (map_push plain_row rows x)
    ∙ divisions_push (plain_rows rows) (plain_row x)
    ∙ ap (λ es. es ++ division_of es (plain_row x) ∷ []) v

pub put_holds : (rows : List QuotientRow) (ds : List Division) (x : QuotientRow) (k : ℕ) → divisions (plain_rows rows) ≡ ds → length rows ≡ k → Holds (divisions (plain_rows (rows ++ x ∷ []))) k (division_of ds (plain_row x))
put_holds rows ds x k v e = subst (λ es. Holds es k (division_of ds (plain_row x))) (sym (put_last rows ds x v)) (pushed_holds ds (division_of ds (plain_row x)) k (table_length rows ds v ∙ e))

pub put_extends : (rows : List QuotientRow) (ds : List Division) (x : QuotientRow) → divisions (plain_rows rows) ≡ ds → Extends ds (divisions (plain_rows (rows ++ x ∷ [])))
put_extends rows ds x v = subst (λ es. Extends ds es) (sym (put_last rows ds x v)) (pushed_extends ds (division_of ds (plain_row x)))

pub put_found : (rows : List QuotientRow) (ds : List Division) (x : QuotientRow) (k : ℕ) → divisions (plain_rows rows) ≡ ds → are_ordered 0 (plain_rows rows) ≡ true → is_row_at (plain_row x) (plain_rows rows) k ≡ true → Holds ds k (division_of ds (plain_row x))
put_found rows ds x k v o h = subst (λ es. Holds es k (division_of es (plain_row x))) v (found_holds (plain_row x) (plain_rows rows) k o h)

-- ---- a row of another table

abbrev pub moved_row : List ℕ → QuotientRow → plain.QuotientRow
moved_row numbers x = record { constant = x.constant; terms = map (moved_share numbers) (plain_shares x.terms.items); by = x.by }

pub moved_with : (ns ms : List ℕ) (x : QuotientRow) (r : plain.QuotientRow) → ns ≡ ms → r ≡ moved_row ns x → r ≡ moved_row ms x
moved_with ns ms x r e m = m ∙ ap (λ ks. moved_row ks x) e

abbrev made : QuotientRow → Terms → Division
made x ts = record { constant = x.constant; terms = ts; by = x.by }

module _ (numbers : List ℕ) (ds es : List Division) (items rows : List QuotientRow) (i : ℕ) (x : QuotientRow) (moved : plain.QuotientRow) (same : items ≡ rows) (view : divisions (plain_rows rows) ≡ es) (ordered : are_ordered 0 (plain_rows rows) ≡ true) (inside : i < length items) (is : x ≡ get_or items i x) (count : length numbers ≡ i) (follows : Follows numbers ds es) where
  at_rows : x ≡ get_or rows i x
  at_rows = is ∙ ap (λ xs. get_or xs i x) same

  in_rows : i < length rows
  in_rows = let n = ap length same in omega (arith, n, inside)

  pub names_earlier : are_earlier (length numbers) (plain_shares x.terms.items) ≡ true
  names_earlier = ap (λ n. are_earlier n (plain_shares x.terms.items)) count ∙ row_earlier rows es i x view ordered in_rows at_rows

  abbrev IsMoved : Type 0
  IsMoved = moved ≡ moved_row numbers x

  pub import_earlier : IsMoved → are_earlier (length ds) moved.terms ≡ true
  import_earlier m = ap (λ r. are_earlier (length ds) r.terms) m ∙ moved_earlier numbers ds es follows (plain_shares x.terms.items) names_earlier

  pub import_division : IsMoved → division_of ds moved ≡ get_or es (length numbers) no_division
  import_division m =
      let n = table_length rows es view in
      let below = in_rows in
      let within : i < length es = omega (arith, n, below) in
      ap (division_of ds) m
      ∙ ap (made x) (moved_sum numbers ds es follows (plain_shares x.terms.items) names_earlier)
      ∙ row_value rows es i x view ordered within at_rows
      ∙ ap (λ k. get_or es k no_division) (sym count)

  pub import_kept : IsMoved → are_all_kept (divisions (plain_rows rows)) ≡ true → is_kept_atom (atom_of (division_of ds moved)) ≡ true
  import_kept m k = ap (λ d. is_kept_atom (atom_of d)) (import_division m) ∙ kept_get es (length numbers) (ap are_all_kept (sym view) ∙ k)

  pub import_follows : (fs : List Division) (k : ℕ) → IsMoved → Extends ds fs → Holds fs k (division_of ds moved) → Follows (numbers ++ k ∷ []) fs es
  import_follows fs k m grown h = follows_push numbers fs es k (follows_grown numbers ds es fs grown follows) (subst (λ d. Holds fs k d) (import_division m) h)

-- ---- a sum

sum_push : (ds : List Division) (ss : List plain.Share) (s : plain.Share) → sum_of ds (ss ++ s ∷ []) ≡ joined_terms (sum_of ds ss) (term s.coefficient (part_atom ds s.part) none)
sum_push ds [] s = refl
sum_push ds (t ∷ ss) s = ap (term t.coefficient (part_atom ds t.part)) (sum_push ds ss s)

pub shares_earlier : (ds es : List Division) (ss : List Share) (s : Share) → Extends ds es → are_earlier (length ds) (plain_shares ss) ≡ true → is_earlier (length es) (plain_part s.part) ≡ true → are_earlier (length es) (plain_shares (ss ++ s ∷ [])) ≡ true
shares_earlier ds es ss s x e p = ap (are_earlier (length es)) (map_push plain_share ss s) ∙ earlier_push (length es) (plain_shares ss) (plain_share s) (earlier_grown ds es x (plain_shares ss) e) p

pub shares_value : (ds es : List Division) (ss : List Share) (s : Share) (ws : List Weighed) (i : ℕ) (w : Weighed) → Extends ds es → are_earlier (length ds) (plain_shares ss) ≡ true → sum_of ds (plain_shares ss) ≡ plain_terms (take i ws) → i < length ws → w ≡ get_or ws i w → s.coefficient ≡ w.coefficient → part_atom es (plain_part s.part) ≡ plain_atom w.atom → sum_of es (plain_shares (ss ++ s ∷ [])) ≡ plain_terms (take (i + 1) ws)
shares_value ds es ss s ws i w x e v h is c a =
    ap (sum_of es) (map_push plain_share ss s)
    ∙ sum_push es (plain_shares ss) (plain_share s)
    ∙ ap₂ joined_terms (sum_grown ds es x (plain_shares ss) e ∙ v) (ap₂ (λ z b. term z b none) c a)
    ∙ ap (λ u. joined_terms (plain_terms (take i ws)) (plain_terms (u ∷ []))) is
    ∙ sym (plain_append (take i ws) (get_or ws i w ∷ []))
    ∙ ap plain_terms (sym (take_more ws i w h))

-- a share of a kept sum
kept_share : (ds : List Division) (ss : List Share) (i : ℕ) (s : Share) → i < length ss → s ≡ get_or ss i s → are_kept (sum_of ds (plain_shares ss)) ≡ true → (is_within (2 ^ 126) s.coefficient ≡ true) × (is_kept_atom (part_atom ds (plain_part s.part)) ≡ true)
kept_share ds [] i s h is k = absurd (omega arith)
kept_share ds (t ∷ ss) zero s h is k =
    let p = and_parts (is_within (2 ^ 126) t.coefficient && is_kept_atom (part_atom ds (plain_part t.part))) (are_kept (sum_of ds (plain_shares ss))) k in
    let q = and_parts (is_within (2 ^ 126) t.coefficient) (is_kept_atom (part_atom ds (plain_part t.part))) p.0 in
    (ap (λ u. is_within (2 ^ 126) u.coefficient) is ∙ q.0, ap (λ u. is_kept_atom (part_atom ds (plain_part u.part))) is ∙ q.1)
kept_share ds (t ∷ ss) (suc i) s h is k =
    let below : i < length ss = omega arith in
    kept_share ds ss i s below is (and_parts (is_within (2 ^ 126) t.coefficient && is_kept_atom (part_atom ds (plain_part t.part))) (are_kept (sum_of ds (plain_shares ss))) k).1

pub share_kept : (ds : List Division) (xs ys : List Share) (i : ℕ) (s : Share) → xs ≡ ys → i < length xs → s ≡ get_or xs i s → are_kept (sum_of ds (plain_shares ys)) ≡ true → (is_within (2 ^ 126) s.coefficient ≡ true) × (is_kept_atom (part_atom ds (plain_part s.part)) ≡ true)
share_kept ds xs ys i s e h is k = kept_share ds xs i s h is (ap (λ us. are_kept (sum_of ds (plain_shares us))) e ∙ k)

-- a term goes from the front of the rest to the end of what is done
pub sum_next : (ds : List Division) (ss : List Share) (i : ℕ) (s : Share) (done next whole : Terms) → i < length ss → s ≡ get_or ss i s → joined_terms done (sum_of ds (plain_shares (drop i ss))) ≡ whole → next ≡ joined_terms done (term s.coefficient (part_atom ds (plain_part s.part)) none) → joined_terms next (sum_of ds (plain_shares (drop (i + 1) ss))) ≡ whole
sum_next ds ss i s done next whole h is inv e =
    ap (λ ts. joined_terms ts (sum_of ds (plain_shares (drop (i + 1) ss)))) e
    ∙ joined_push done (sum_of ds (plain_shares (drop (i + 1) ss))) s.coefficient (part_atom ds (plain_part s.part))
    ∙ ap (joined_terms done) (sym (ap (sum_of ds) (plain_from ss i s h is)))
    ∙ inv

pub sum_done : (ds : List Division) (ss : List Share) (i : ℕ) (done whole : Terms) → length ss ≤ i → joined_terms done (sum_of ds (plain_shares (drop i ss))) ≡ whole → done ≡ whole
sum_done ds ss i done whole h inv =
    sym (joined_none done)
    ∙ ap (joined_terms done) (sym (ap (λ us. sum_of ds (plain_shares us)) (drop_all i ss h)))
    ∙ inv

-- ---- two quotients

pub tables_alike : (xs ys : List QuotientRow) (ds es : List Division) (i j : ℕ) (x y : QuotientRow) → divisions (plain_rows xs) ≡ ds → divisions (plain_rows ys) ≡ es → are_ordered 0 (plain_rows xs) ≡ true → are_ordered 0 (plain_rows ys) ≡ true → i < length ds → j < length es → x ≡ get_or xs i x → y ≡ get_or ys j y → are_alike (plain_row x) (plain_row y) ≡ false → false ≡ same_atom (atom_of (get_or ds i no_division)) (atom_of (get_or es j no_division))
tables_alike xs ys ds es i j x y v w o p h k is at e =
    alike_from ds es (plain_row x) (plain_row y) e
    ∙ ap₂ (λ d f. same_atom (atom_of d) (atom_of f)) (row_value xs ds i x v o h is) (row_value ys es j y w p k at)

-- ---- the first rows of a table

ordered_first : (n : ℕ) (rs ss : List plain.QuotientRow) → are_ordered n (rs ++ ss) ≡ true → are_ordered n rs ≡ true
ordered_first n [] ss o = refl
ordered_first n (r ∷ rs) ss o =
    let p = and_parts (are_earlier n r.terms) (are_ordered (suc n) (rs ++ ss)) o in
    ap₂ (λ x y. x && y) p.0 (ordered_first (suc n) rs ss p.1)

rows_split : (rows : List QuotientRow) (n : ℕ) → plain_rows (take n rows) ++ plain_rows (drop n rows) ≡ plain_rows rows
rows_split rows n = sym (map-append plain_row (take n rows) (drop n rows)) ∙ ap plain_rows (take-append-drop n rows)

first_ordered : (rows : List QuotientRow) (n : ℕ) → are_ordered 0 (plain_rows rows) ≡ true → are_ordered 0 (plain_rows (take n rows)) ≡ true
first_ordered rows n o = ordered_first 0 (plain_rows (take n rows)) (plain_rows (drop n rows)) (ap (are_ordered 0) (rows_split rows n) ∙ o)

first_length : (rows : List QuotientRow) (ds : List Division) (k : ℕ) → divisions (plain_rows rows) ≡ ds → k < length ds → k < length (divisions (plain_rows (take (k + 1) rows)))
first_length rows ds k v h =
    let n = table_length rows ds v in
    let some = table_length (take (k + 1) rows) (divisions (plain_rows (take (k + 1) rows))) refl in
    let within : k + 1 ≤ length rows = omega (arith, n, h) in
    let most = length-take-le (k + 1) rows within in
    omega (arith, some, most)

first_division : (rows : List QuotientRow) (ds : List Division) (k : ℕ) → divisions (plain_rows rows) ≡ ds → k < length ds → get_or (divisions (plain_rows (take (k + 1) rows))) k no_division ≡ get_or ds k no_division
first_division rows ds k v h =
    sym (keeps (divisions (plain_rows (take (k + 1) rows))) (plain_rows (drop (k + 1) rows)) k (first_length rows ds k v h))
    ∙ ap (λ es. get_or es k no_division) (sym (with_append [] (plain_rows (take (k + 1) rows)) (plain_rows (drop (k + 1) rows))) ∙ ap divisions (rows_split rows (k + 1)) ∙ v)

pub tables_known : (xs ys : List QuotientRow) (ds es : List Division) (i j : ℕ) → divisions (plain_rows xs) ≡ ds → divisions (plain_rows ys) ≡ es → are_ordered 0 (plain_rows xs) ≡ true → are_ordered 0 (plain_rows ys) ≡ true → i < length ds → j < length es → is_known (with_lines [] (plain_rows (take (i + 1) xs)) (plain_rows (take (j + 1) ys))) i j ≡ same_atom (atom_of (get_or ds i no_division)) (atom_of (get_or es j no_division))
tables_known xs ys ds es i j v w o p h k =
    known_is (plain_rows (take (j + 1) ys)) (first_ordered ys (j + 1) p) (plain_rows (take (i + 1) xs)) (first_ordered xs (i + 1) o) i j (first_length xs ds i v h) (first_length ys es j w k)
    ∙ ap₂ (λ d e. same_atom (atom_of d) (atom_of e)) (first_division xs ds i v h) (first_division ys es j w k)
