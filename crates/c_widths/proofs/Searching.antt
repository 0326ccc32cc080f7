-- The loop that looks for the widest procedure, from the last one on.
use Rattle.std.proofs.Common.{◌≡◌, ◌<◌, ◌≤◌, ◌+◌, ◌-◌, ℕ, zero, suc, Bool, true, false, not, ◌&&◌, List, [], ◌∷◌, length, get_or, map, drop, Some, None, sym, ap, ◌∙◌, subst, arith, drop-cons}
use Rattle.std.specs.Prelude.{slice_get}
use Rattle.std.proofs.lemmas.List.{drop_all, drop-map, length-map}
use Rattle.exo_tree.specs.Tree.{Procedure, Program}
use Rattle.c_widths.specs.Raises.{raised, most_from, most_at, is_narrow_by, memories_for, is_wide_at, widest_from, widest}
use Rattle.c_widths.specs.Given.{given_in, IsChanged}
use Rattle.c_widths.proofs.Growing.{drop_none}
use Rattle.c_widths.proofs.Tables.{IsTable, table_with, table_without, bounds_here, widest_later, widest_here, widest_is, nothing_given, first_table}

one_more : {A : Type 0} (xs : List A) (n : ℕ) → n < length xs → (x : A) × (drop n xs ≡ x ∷ drop (suc n) xs)
one_more [] n h = absurd (omega arith)
one_more (x ∷ xs) zero h = (x, ap (λ l. x ∷ l) (sym (drop_none xs)))
one_more (x ∷ xs) (suc n) h = one_more xs n (omega arith)

got_at : {A : Type 0} (xs rest : List A) (n : ℕ) (x : A) → drop n xs ≡ x ∷ rest → slice_get xs n ≡ Some x
got_at [] rest zero x e = cc
got_at [] rest (suc n) x e = cc
got_at (y ∷ xs) rest zero x e = let same : y ≡ x = cc in ap Some same
got_at (y ∷ xs) rest (suc n) x e = got_at xs rest n x e

module _ (program : Program) (printed counted : ℕ → Bool) where
  -- no procedure from that number on is too wide, and the table has what they give
  pub record IsDone (at : ℕ) (rows : List (List ℕ)) : Type 0 where
    pub narrow : widest_later program printed counted at ≡ None
    pub table : IsTable program.procedures counted at rows

  -- by the bounds that the table has
  abbrev pub fits_by : List (List ℕ) → ℕ → Procedure → Bool
  fits_by rows at p = is_narrow_by (memories_for (printed at) program.memories) (most_from p.params (given_in rows at)) p

  wide_if : (at : ℕ) (p : Procedure) (rows : List (List ℕ)) (fits : Bool) → counted at ≡ true → slice_get program.procedures at ≡ Some p → fits_by rows at p ≡ fits → IsTable program.procedures counted (suc at) rows → is_wide_at program printed counted at p ≡ not fits
  wide_if at p rows fits c is f table =
      ap (λ t. t && not (is_narrow_by (memories_for (printed at) program.memories) (most_at program.procedures counted at p) p)) c
      ∙ ap (λ most. not (is_narrow_by (memories_for (printed at) program.memories) most p)) (sym (bounds_here program.procedures counted at p rows is table))
      ∙ ap not f

  next_without : (at : ℕ) (rows : List (List ℕ)) → at < length program.procedures → counted at ≡ false → IsDone (suc at) rows → IsDone at rows
  next_without at rows h c done =
      let here = one_more program.procedures at h in
      record {
        narrow = widest_here program printed counted at here.0 false here.1 done.narrow (ap (λ t. t && not (is_narrow_by (memories_for (printed at) program.memories) (most_at program.procedures counted at here.0) here.0)) c);
        table = table_without program.procedures counted at here.0 rows here.1 c done.table;
      }

  next_with : (at : ℕ) (p : Procedure) (rows new : List (List ℕ)) → drop at program.procedures ≡ p ∷ drop (suc at) program.procedures → counted at ≡ true → fits_by rows at p ≡ true → IsChanged (raised (most_from p.params (given_in rows at)) p.body) rows new → IsDone (suc at) rows → IsDone at new
  next_with at p rows new e c f change done =
      let is = got_at program.procedures (drop (suc at) program.procedures) at p e in
      record {
        narrow = widest_here program printed counted at p false e done.narrow (wide_if at p rows true c is f done.table);
        table = table_with program.procedures counted at p rows new e is c done.table change;
      }

  next_wide : (at : ℕ) (p : Procedure) (rows : List (List ℕ)) → drop at program.procedures ≡ p ∷ drop (suc at) program.procedures → counted at ≡ true → fits_by rows at p ≡ false → IsDone (suc at) rows → widest program printed counted ≡ Some at
  next_wide at p rows e c f done =
      let is = got_at program.procedures (drop (suc at) program.procedures) at p e in
      widest_is program printed counted at at (widest_here program printed counted at p true e done.narrow (wide_if at p rows false c is f done.table))

  -- ---- as the loop counts

  module _ {X : Type 0} (plain : X → Procedure) (xs : List X) (same : map plain xs ≡ program.procedures) where
    counts : length program.procedures ≡ length xs
    counts = ap length (sym same) ∙ length-map xs plain

    shown : (k : ℕ) (x : X) → k < length xs → x ≡ get_or xs (length xs - 1 - k) x → drop (length xs - 1 - k) program.procedures ≡ plain x ∷ drop (suc (length xs - 1 - k)) program.procedures
    shown k x h is =
        let at = length xs - 1 - k in
        let inside : at < length xs = omega arith in
        subst (λ ps. drop at ps ≡ plain x ∷ drop (suc at) ps) same
        (drop-map plain at xs ∙ ap (map plain) (drop-cons xs at x inside ∙ ap (λ y. y ∷ drop (suc at) xs) (sym is)) ∙ ap (λ l. plain x ∷ l) (sym (drop-map plain (suc at) xs)))

    pub done_start : (rows : List (List ℕ)) → rows ≡ map nothing_given (map plain xs) → IsDone (length xs - 0) rows
    done_start rows e =
        let at = length xs - 0 in
        let past : length program.procedures ≤ at = let n = counts in omega arith in
        record {
          narrow = ap (widest_from program printed counted at) (drop_all at program.procedures past);
          table = subst (λ l. IsTable program.procedures counted at l) (sym (e ∙ ap (map nothing_given) same)) (first_table program.procedures counted at past);
        }

    behind : (k : ℕ) (rows : List (List ℕ)) → k < length xs → IsDone (length xs - k) rows → IsDone (suc (length xs - 1 - k)) rows
    behind k rows h done = let there : length xs - k ≡ suc (length xs - 1 - k) = omega arith in subst (λ n. IsDone n rows) there done

    in_front : (k : ℕ) (rows : List (List ℕ)) → k < length xs → IsDone (length xs - 1 - k) rows → IsDone (length xs - (k + 1)) rows
    in_front k rows h done = let there : length xs - 1 - k ≡ length xs - (k + 1) = omega arith in subst (λ n. IsDone n rows) there done

    pub done_without : (k : ℕ) (rows : List (List ℕ)) → k < length xs → counted (length xs - 1 - k) ≡ false → IsDone (length xs - k) rows → IsDone (length xs - (k + 1)) rows
    done_without k rows h c done =
        let inside : length xs - 1 - k < length program.procedures = let n = counts in omega arith in
        in_front k rows h (next_without (length xs - 1 - k) rows inside c (behind k rows h done))

    pub done_with : (k : ℕ) (x : X) (rows new : List (List ℕ)) → k < length xs → x ≡ get_or xs (length xs - 1 - k) x → counted (length xs - 1 - k) ≡ true → fits_by rows (length xs - 1 - k) (plain x) ≡ true → IsChanged (raised (most_from (plain x).params (given_in rows (length xs - 1 - k))) (plain x).body) rows new → IsDone (length xs - k) rows → IsDone (length xs - (k + 1)) new
    done_with k x rows new h is c f change done = in_front k new h (next_with (length xs - 1 - k) (plain x) rows new (shown k x h is) c f change (behind k rows h done))

    pub wide_here : (k : ℕ) (x : X) (rows : List (List ℕ)) → k < length xs → x ≡ get_or xs (length xs - 1 - k) x → counted (length xs - 1 - k) ≡ true → fits_by rows (length xs - 1 - k) (plain x) ≡ false → IsDone (length xs - k) rows → widest program printed counted ≡ Some (length xs - 1 - k)
    wide_here k x rows h is c f done = next_wide (length xs - 1 - k) (plain x) rows (shown k x h is) c f (behind k rows h done)

    pub done_end : (k : ℕ) (rows : List (List ℕ)) → length xs ≤ k → IsDone (length xs - k) rows → widest program printed counted ≡ None
    done_end k rows h done =
        let none : length xs - k ≡ zero = omega arith in
        ap (widest_from program printed counted zero) (sym (drop_none program.procedures)) ∙ ap (widest_later program printed counted) (sym none) ∙ done.narrow
