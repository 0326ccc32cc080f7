-- Lists of rows and of their shares, with their plain forms.
use Rattle.std.proofs.Common.{◌≡◌, ℕ, zero, suc, ◌+◌, ◌<◌, ◌≤◌, ◌==◌, Bool, true, false, cond, List, [], ◌∷◌, ◌++◌, length, get_or, take, drop, map, remove, Option, Some, None, option_map, arith, refl, sym, ap, ap₂, ◌∙◌, subst, ◌&&◌, add-one}
use Rattle.std.proofs.lemmas.List.{map_push, map_more, take_more, drop_more, drop_all, get_or-map, length-map, append_assoc, map-append, take-map, drop-map}
use Rattle.std.proofs.lemmas.Bool.Decides.{nat_tests}
use Rattle.affine_forms.specs.Tables as plain
use Rattle.affine_forms.specs.Tables.{Division, no_division, sum_of, division_of, divisions, is_earlier, are_earlier, are_ordered, are_all_kept, is_row, is_row_at, moved_share, known_share, share_taken, known_sum, known_row, with_lines, atom_of}
use Rattle.affine_forms.specs.TermBounds.{are_kept, is_kept_atom}
use Rattle.affine_forms.specs.PlainTables.{plain_part, plain_share, plain_shares, plain_row, plain_rows}
use Rattle.affine_forms.specs.declared.row.Share.{Share}
use Rattle.affine_forms.specs.declared.row.QuotientRow.{QuotientRow}
use Rattle.affine_forms.proofs.Values.{and_parts}
use Rattle.affine_forms.proofs.Tables.{length_divisions, row_at, inside_at, earlier_at, kept_get, kept_sum}

-- ---- lists that grow element by element

pub grown_plain : {Y Z : Type 0} (g : Y → Z) (xs : List Z) (ys : List Y) (i : ℕ) (u : Z) (y : Y) → xs ≡ map g (take i ys) → i < length ys → y ≡ get_or ys i y → u ≡ g y → xs ++ u ∷ [] ≡ map g (take (i + 1) ys)
grown_plain g xs ys i u y e h is q =
    ap₂ (λ v w. v ++ w ∷ []) e (q ∙ ap g is) ∙ sym (map_more g ys i y h)

pub grown : {X Y Z : Type 0} (f : X → Z) (g : Y → Z) (xs : List X) (ys : List Y) (i : ℕ) (u : X) (y : Y) → map f xs ≡ map g (take i ys) → i < length ys → y ≡ get_or ys i y → f u ≡ g y → map f (xs ++ u ∷ []) ≡ map g (take (i + 1) ys)
grown f g xs ys i u y e h is q = map_push f xs u ∙ grown_plain g (map f xs) ys i (f u) y e h is q

pub moved_all : (numbers : List ℕ) (ss : List Share) → map (λ s. moved_share numbers (plain_share s)) ss ≡ map (moved_share numbers) (plain_shares ss)
moved_all numbers [] = refl
moved_all numbers (s ∷ ss) = ap (λ us. moved_share numbers (plain_share s) ∷ us) (moved_all numbers ss)

pub known_all : (lines : List (List Bool)) (r : plain.QuotientRow) (rows : List QuotientRow) → map (λ s. known_row lines r (plain_row s)) rows ≡ map (known_row lines r) (plain_rows rows)
known_all lines r [] = refl
known_all lines r (s ∷ rows) = ap (λ bs. known_row lines r (plain_row s) ∷ bs) (known_all lines r rows)

-- ---- shares by their places

earlier_share : (n : ℕ) (ss : List Share) (i : ℕ) (s : Share) → i < length ss → s ≡ get_or ss i s → are_earlier n (plain_shares ss) ≡ true → is_earlier n (plain_part s.part) ≡ true
earlier_share n [] i s h is e = absurd (omega arith)
earlier_share n (t ∷ ss) zero s h is e = ap (λ u. is_earlier n (plain_part u.part)) is ∙ (and_parts (is_earlier n (plain_part t.part)) (are_earlier n (plain_shares ss)) e).0
earlier_share n (t ∷ ss) (suc i) s h is e =
    let below : i < length ss = omega arith in
    earlier_share n ss i s below is (and_parts (is_earlier n (plain_part t.part)) (are_earlier n (plain_shares ss)) e).1

pub share_earlier : (n : ℕ) (xs ys : List Share) (i : ℕ) (s : Share) → xs ≡ ys → i < length xs → s ≡ get_or xs i s → are_earlier n (plain_shares ys) ≡ true → is_earlier n (plain_part s.part) ≡ true
share_earlier n xs ys i s e h is k = earlier_share n xs i s h is (ap (λ us. are_earlier n (plain_shares us)) e ∙ k)

share_at : (ss : List Share) (i : ℕ) (s : Share) → i < length ss → s ≡ get_or ss i s → get_or (plain_shares ss) i (plain_share s) ≡ plain_share s
share_at ss i s h is = get_or-map plain_share ss i s (plain_share s) h ∙ ap plain_share (sym is)

inside_plain : (ss : List Share) (i : ℕ) → i < length ss → i < length (plain_shares ss)
inside_plain ss i h = let n = length-map ss plain_share in omega (arith, n, h)

drop_at_share : (ss : List Share) (i : ℕ) (s : Share) → i < length ss → s ≡ get_or ss i s → drop i (plain_shares ss) ≡ plain_share s ∷ drop (i + 1) (plain_shares ss)
drop_at_share ss i s h is = drop_more (plain_shares ss) i (plain_share s) (inside_plain ss i h) ∙ ap (λ u. u ∷ drop (i + 1) (plain_shares ss)) (share_at ss i s h is)

take_at_share : (ss : List Share) (i : ℕ) (s : Share) → i < length ss → s ≡ get_or ss i s → take (i + 1) (plain_shares ss) ≡ take i (plain_shares ss) ++ plain_share s ∷ []
take_at_share ss i s h is = take_more (plain_shares ss) i (plain_share s) (inside_plain ss i h) ∙ ap (λ u. take i (plain_shares ss) ++ u ∷ []) (share_at ss i s h is)

pub plain_from : (ss : List Share) (i : ℕ) (s : Share) → i < length ss → s ≡ get_or ss i s → plain_shares (drop i ss) ≡ plain_share s ∷ plain_shares (drop (i + 1) ss)
plain_from ss i s h is = ap plain_shares (drop_more ss i s h) ∙ ap (λ u. plain_share u ∷ plain_shares (drop (i + 1) ss)) (sym is)

pub shares_remove : (ss : List Share) (k : ℕ) → plain_shares (remove ss k) ≡ remove (plain_shares ss) k
shares_remove ss k = map-append plain_share (take k ss) (drop (suc k) ss) ∙ ap₂ (λ xs ys. xs ++ ys) (sym (take-map plain_share k ss)) (sym (drop-map plain_share (suc k) ss))

-- ---- the first share that is equal

pub taken_start : (lines : List (List Bool)) (s : plain.Share) (ss : List Share) → share_taken lines s (plain_shares ss) ≡ option_map (λ us. take 0 (plain_shares ss) ++ us) (share_taken lines s (drop 0 (plain_shares ss)))
taken_start lines s ss = all (share_taken lines s (plain_shares ss))
  where
    all : (o : Option (List plain.Share)) → o ≡ option_map (λ us. us) o
    all None = refl
    all (Some us) = refl

taken_first : (lines : List (List Bool)) (s : plain.Share) (ss : List Share) (k : ℕ) (x : Share) (b : Bool) → k < length ss → x ≡ get_or ss k x → known_share lines s (plain_share x) ≡ b → share_taken lines s (drop k (plain_shares ss)) ≡ cond b (Some (drop (k + 1) (plain_shares ss))) (elim (share_taken lines s (drop (k + 1) (plain_shares ss))) [ None ↦ None | Some us ↦ Some (plain_share x ∷ us) ])
taken_first lines s ss k x b h is e =
    ap (share_taken lines s) (drop_at_share ss k x h is)
    ∙ ap (λ t. cond t (Some (drop (k + 1) (plain_shares ss))) (elim (share_taken lines s (drop (k + 1) (plain_shares ss))) [ None ↦ None | Some us ↦ Some (plain_share x ∷ us) ])) e

pub taken_next : (lines : List (List Bool)) (s : plain.Share) (ss : List Share) (k : ℕ) (x : Share) → k < length ss → x ≡ get_or ss k x → known_share lines s (plain_share x) ≡ false → option_map (λ us. take k (plain_shares ss) ++ us) (share_taken lines s (drop k (plain_shares ss))) ≡ option_map (λ us. take (k + 1) (plain_shares ss) ++ us) (share_taken lines s (drop (k + 1) (plain_shares ss)))
taken_next lines s ss k x h is e =
    ap (option_map (λ us. take k (plain_shares ss) ++ us)) (taken_first lines s ss k x false h is e)
    ∙ over (share_taken lines s (drop (k + 1) (plain_shares ss)))
  where
    over : (o : Option (List plain.Share)) → option_map (λ us. take k (plain_shares ss) ++ us) (elim o [ None ↦ None | Some us ↦ Some (plain_share x ∷ us) ]) ≡ option_map (λ us. take (k + 1) (plain_shares ss) ++ us) o
    over None = refl
    over (Some us) = ap Some (sym (ap (λ vs. vs ++ us) (take_at_share ss k x h is) ∙ append_assoc (take k (plain_shares ss)) (plain_share x ∷ []) us))

pub taken_here : (lines : List (List Bool)) (s : plain.Share) (ss : List Share) (k : ℕ) (x : Share) → k < length ss → x ≡ get_or ss k x → known_share lines s (plain_share x) ≡ true → option_map (λ us. take k (plain_shares ss) ++ us) (share_taken lines s (drop k (plain_shares ss))) ≡ Some (remove (plain_shares ss) k)
taken_here lines s ss k x h is e =
    ap (option_map (λ us. take k (plain_shares ss) ++ us)) (taken_first lines s ss k x true h is e)
    ∙ ap (λ i. Some (take k (plain_shares ss) ++ drop i (plain_shares ss))) (add-one k)

pub taken_end : (lines : List (List Bool)) (s : plain.Share) (ss : List Share) (k : ℕ) → length ss ≤ k → option_map (λ us. take k (plain_shares ss) ++ us) (share_taken lines s (drop k (plain_shares ss))) ≡ None
taken_end lines s ss k h =
    let n = length-map ss plain_share in
    let past : length (plain_shares ss) ≤ k = omega (arith, n, h) in
    ap (λ us. option_map (λ vs. take k (plain_shares ss) ++ vs) (share_taken lines s us)) (drop_all k (plain_shares ss) past)

-- ---- sums that are taken apart

pub sum_step : (lines : List (List Bool)) (ss : List Share) (i : ℕ) (s : Share) (left next : List plain.Share) (found : Bool) → i < length ss → s ≡ get_or ss i s → share_taken lines (plain_share s) left ≡ cond found (Some next) None → known_sum lines (plain_shares (drop i ss)) left ≡ cond found (known_sum lines (plain_shares (drop (i + 1) ss)) next) false
sum_step lines ss i s left next found h is e =
    ap (λ us. known_sum lines us left) (plain_from ss i s h is)
    ∙ ap (λ o. elim o [ None ↦ false | Some us ↦ known_sum lines (plain_shares (drop (i + 1) ss)) us ]) e
    ∙ go found
  where
    go : (t : Bool) → elim (cond t (Some next) None) [ None ↦ false | Some us ↦ known_sum lines (plain_shares (drop (i + 1) ss)) us ] ≡ cond t (known_sum lines (plain_shares (drop (i + 1) ss)) next) false
    go true = refl
    go false = refl

pub sum_end : (lines : List (List Bool)) (ss : List Share) (i : ℕ) (us : List Share) → length ss ≤ i → known_sum lines (plain_shares (drop i ss)) (plain_shares us) ≡ (length us == 0)
sum_end lines ss i us h = ap (λ vs. known_sum lines (plain_shares vs) (plain_shares us)) (drop_all i ss h) ∙ at us
  where
    at : (us : List Share) → known_sum lines [] (plain_shares us) ≡ (length us == 0)
    at [] = refl
    at (u ∷ us) = grind (arith, nat_tests)

-- ---- rows by their places

pub found_from : (r : plain.QuotientRow) (rows : List QuotientRow) (k : ℕ) (x : QuotientRow) → k < length rows → x ≡ get_or rows k x → is_row r (plain_row x) ≡ true → is_row_at r (plain_rows rows) k ≡ true
found_from r [] k x h is e = absurd (omega arith)
found_from r (y ∷ rows) zero x h is e = ap (λ z. is_row r (plain_row z)) (sym is) ∙ e
found_from r (y ∷ rows) (suc k) x h is e = let below : k < length rows = omega arith in found_from r rows k x below is e

pub table_length : (rows : List QuotientRow) (ds : List Division) → divisions (plain_rows rows) ≡ ds → length ds ≡ length rows
table_length rows ds v = ap length (sym v) ∙ length_divisions (plain_rows rows) ∙ length-map rows plain_row

row_plain : (rows : List QuotientRow) (k : ℕ) (x : QuotientRow) → k < length rows → x ≡ get_or rows k x → get_or (plain_rows rows) k (plain_row x) ≡ plain_row x
row_plain rows k x h is = get_or-map plain_row rows k x (plain_row x) h ∙ ap plain_row (sym is)

inside_rows : (rows : List QuotientRow) (ds : List Division) (k : ℕ) → divisions (plain_rows rows) ≡ ds → k < length ds → k < length (plain_rows rows)
inside_rows rows ds k v h =
    let n = ap length v in
    let m = length_divisions (plain_rows rows) in
    omega (arith, n, m, h)

inside_raw : (rows : List QuotientRow) (ds : List Division) (k : ℕ) → divisions (plain_rows rows) ≡ ds → k < length ds → k < length rows
inside_raw rows ds k v h = let n = table_length rows ds v in omega (arith, n, h)

pub row_value : (rows : List QuotientRow) (ds : List Division) (k : ℕ) (x : QuotientRow) → divisions (plain_rows rows) ≡ ds → are_ordered 0 (plain_rows rows) ≡ true → k < length ds → x ≡ get_or rows k x → division_of ds (plain_row x) ≡ get_or ds k no_division
row_value rows ds k x v o h is =
    subst (λ es. division_of es (plain_row x) ≡ get_or es k no_division) v (sym (row_at (plain_rows rows) k (plain_row x) o (inside_rows rows ds k v h) ∙ ap (division_of (divisions (plain_rows rows))) (row_plain rows k x (inside_raw rows ds k v h) is)))

pub row_inside : (rows : List QuotientRow) (ds : List Division) (k : ℕ) (x : QuotientRow) → divisions (plain_rows rows) ≡ ds → are_ordered 0 (plain_rows rows) ≡ true → k < length ds → x ≡ get_or rows k x → are_earlier (length ds) (plain_shares x.terms.items) ≡ true
row_inside rows ds k x v o h is =
    subst (λ es. are_earlier (length es) (plain_shares x.terms.items) ≡ true) v (ap (λ r. are_earlier (length (divisions (plain_rows rows))) r.terms) (sym (row_plain rows k x (inside_raw rows ds k v h) is)) ∙ inside_at (plain_rows rows) k (plain_row x) o (inside_rows rows ds k v h))

-- it names only rows before it
pub row_earlier : (rows : List QuotientRow) (ds : List Division) (k : ℕ) (x : QuotientRow) → divisions (plain_rows rows) ≡ ds → are_ordered 0 (plain_rows rows) ≡ true → k < length rows → x ≡ get_or rows k x → are_earlier k (plain_shares x.terms.items) ≡ true
row_earlier rows ds k x v o h is =
    let n = length-map rows plain_row in
    let inside : k < length (plain_rows rows) = omega (arith, n, h) in
    ap (λ r. are_earlier k r.terms) (sym (row_plain rows k x h is)) ∙ earlier_at (plain_rows rows) k (plain_row x) o inside

pub row_kept : (rows : List QuotientRow) (ds : List Division) (k : ℕ) (x : QuotientRow) → divisions (plain_rows rows) ≡ ds → are_ordered 0 (plain_rows rows) ≡ true → are_all_kept (divisions (plain_rows rows)) ≡ true → k < length ds → x ≡ get_or rows k x → are_kept (sum_of ds (plain_shares x.terms.items)) ≡ true
row_kept rows ds k x v o kept h is =
    let all : are_all_kept ds ≡ true = ap are_all_kept (sym v) ∙ kept in
    kept_sum ds (plain_row x) all (ap (λ d. is_kept_atom (atom_of d)) (row_value rows ds k x v o h is) ∙ kept_get ds k all)

-- ---- the lines of rows

pub lines_step : (lines : List (List Bool)) (rows : List QuotientRow) (others : List plain.QuotientRow) (i : ℕ) (x : QuotientRow) (next : List Bool) → i < length rows → x ≡ get_or rows i x → next ≡ map (known_row lines (plain_row x)) others → with_lines (lines ++ next ∷ []) (plain_rows (drop (i + 1) rows)) others ≡ with_lines lines (plain_rows (drop i rows)) others
lines_step lines rows others i x next h is e =
    ap (λ line. with_lines (lines ++ line ∷ []) (plain_rows (drop (i + 1) rows)) others) e
    ∙ sym (ap (λ rs. with_lines lines rs others) (ap plain_rows (drop_more rows i x h) ∙ ap (λ y. plain_row y ∷ plain_rows (drop (i + 1) rows)) (sym is)))

pub lines_end : (lines : List (List Bool)) (rows : List QuotientRow) (others : List plain.QuotientRow) (i : ℕ) → length rows ≤ i → with_lines lines (plain_rows (drop i rows)) others ≡ lines
lines_end lines rows others i h = ap (λ rs. with_lines lines (plain_rows rs) others) (drop_all i rows h)
