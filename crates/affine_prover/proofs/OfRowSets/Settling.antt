-- Rows that are settled: normalizing leaves them as they are, and what normalizing leaves is settled.
use Rattle.std.proofs.Common.{ℕ, zero, suc, ◌*◌, ◌<◌, ◌≡◌, ◌==◌, Bool, true, false, not, cond, ◌&&◌, ◌||◌, List, [], ◌∷◌, ◌++◌, map, length, get_or, Some, None, ℤ, pos, unsigned_abs, arith, ap, sym, subst, ◌∙◌, refl, append_assoc}
use Rattle.std.specs.List.{AllByRecursion, filter, fold, list_any, list_all, remove}
use Rattle.std.specs.Int.{int_div_euclid, int_min, is_negative, ◌∣◌}
use Rattle.std.specs.Ordering.{int_eq}
use Rattle.std.proofs.lemmas.Int.{ints}
use Rattle.std.proofs.lemmas.Bool.Decides.{nat_tests, Decides-int_eq}
use Rattle.std.proofs.lemmas.List.{map-append, append-nil}
use Rattle.std.proofs.lemmas.List.Elements.{filter-append, recursion_from_All}
use Rattle.std.proofs.lemmas.List.Folds.{list_any-append}
use Rattle.std.proofs.lemmas.List.Sums.{fold-append}
use Rattle.std.proofs.lemmas.Int.{unsigned_abs-mul}
use Rattle.std.proofs.lemmas.Nat.Gcd.{dvd-zero}
use Rattle.std.proofs.Math.Nat.{dvd_of_mul-dvd-mul_left, mul-dvd-mul_left, eq-one_of_dvd-one, eq-zero_of_zero-dvd}
use Rattle.affine_forms.specs.Affine.{Affine}
use Rattle.affine_prover.specs.RowSets.Shapes.{AreWide}
use Rattle.affine_prover.specs.RowSets.Settled.{IsTight, DiffersFrom, AreDifferent, AreSettled}
use Rattle.affine_prover.specs.RowSets.Settled.{normalized_onto}
use Rattle.affine_prover.specs.RowSets.Rows.{gcd, gcd_of, same_list, tightened, joined, merged}
use Rattle.affine_prover.specs.RowSets.Rows.{is_constant, is_false, normalized, is_free, without}
use Rattle.affine_prover.specs.RowSets.Rows.{coefficient}
use Rattle.affine_prover.proofs.OfRowSets.Divisors.{gcd-is, gcd_of-divides, quotient-exact}
use Rattle.affine_prover.proofs.OfRowSets.Divisors.{zero-gcd}
use Rattle.affine_prover.proofs.OfRowSets.Everywhere.{both, everywhere-like, everywhere-filter}
use Rattle.affine_prover.proofs.OfRowSets.Everywhere.{everywhere-map}
use Rattle.affine_prover.proofs.OfRowSets.RowFacts.{tightened-same}
use Rattle.affine_prover.proofs.OfRowSets.Widths.{IsWide}

-- ---- the gcd of divided coefficients

gcd_fold-greatest : (d g : ℕ) (cs : List ℤ) → d ∣ g → AllByRecursion (λ c. d ∣ unsigned_abs c) cs → d ∣ fold (λ g c. gcd (unsigned_abs c) g) g cs
gcd_fold-greatest d g [] h k = h
gcd_fold-greatest d g (c ∷ cs) h k = gcd_fold-greatest d (gcd (unsigned_abs c) g) cs ((gcd-is (unsigned_abs c) g).2 d k.0 h) k.1

-- what divides each quotient by g, times g, divides each number
multiples : (g h : ℕ) (cs : List ℤ) → 0 < g → AllByRecursion (λ c. g ∣ unsigned_abs c) cs → AllByRecursion (λ q. h ∣ unsigned_abs q) (map (λ c. int_div_euclid c (pos g)) cs) → AllByRecursion (λ c. (g * h) ∣ unsigned_abs c) cs
multiples g h [] p d e = tt
multiples g h (c ∷ cs) p d e =
    let q = int_div_euclid c (pos g) in
    let size : unsigned_abs c ≡ g * unsigned_abs q = ap unsigned_abs (quotient-exact c g p d.0) ∙ unsigned_abs-mul (pos g) q in
    (subst (λ n. (g * h) ∣ n) (sym size) (mul-dvd-mul_left h g e.0), multiples g h cs p d.1 e.1)

divided-tight : (g : ℕ) (cs : List ℤ) → g ≡ gcd_of cs → 0 < g → gcd_of (map (λ c. int_div_euclid c (pos g)) cs) ≡ 1
divided-tight g cs e p =
    let h = gcd_of (map (λ c. int_div_euclid c (pos g)) cs) in
    let divides : AllByRecursion (λ c. g ∣ unsigned_abs c) cs = subst (λ n. AllByRecursion (λ c. n ∣ unsigned_abs c) cs) (sym e) (gcd_of-divides cs) in
    let all = multiples g h cs p divides (gcd_of-divides (map (λ c. int_div_euclid c (pos g)) cs)) in
    let most : (g * h) ∣ gcd_of cs = gcd_fold-greatest (g * h) 0 cs (dvd-zero (g * h)) all in
    let one : g * 1 ≡ g = omega arith in
    eq-one_of_dvd-one (dvd_of_mul-dvd-mul_left {k = g} h {n = 1} p (subst (λ n. (g * h) ∣ n) (sym e ∙ sym one) most))

zero_of-size : (c : ℤ) → unsigned_abs c ≡ 0 → int_eq c (pos 0) ≡ true
zero_of-size c e = (Decides-int_eq c (pos 0)).1 (omega (arith, ints))

all_zero : (cs : List ℤ) → AllByRecursion (λ c. 0 ∣ unsigned_abs c) cs → list_all (λ c. int_eq c (pos 0)) cs ≡ true
all_zero [] h = refl
all_zero (c ∷ cs) h = ap (λ b. b && list_all (λ c. int_eq c (pos 0)) cs) (zero_of-size c (eq-zero_of_zero-dvd h.0)) ∙ all_zero cs h.1

no_gcd-constant : (cs : List ℤ) → gcd_of cs ≡ 0 → list_all (λ c. int_eq c (pos 0)) cs ≡ true
no_gcd-constant cs e = all_zero cs (subst (λ n. AllByRecursion (λ c. n ∣ unsigned_abs c) cs) e (gcd_of-divides cs))

-- a tightened row in which a variable stands is tight
tightened-tight : (r : Affine) → is_constant (tightened r) ≡ false → IsTight (tightened r)
tightened-tight r h = by (gcd_of r.coefficients) refl (gcd_of r.coefficients == 0) refl h
  where
    by : (g : ℕ) → g ≡ gcd_of r.coefficients → (b : Bool) → (g == 0) ≡ b → is_constant (cond b r (record { constant = int_div_euclid r.constant (pos g); coefficients = map (λ c. int_div_euclid c (pos g)) r.coefficients })) ≡ false → IsTight (cond b r (record { constant = int_div_euclid r.constant (pos g); coefficients = map (λ c. int_div_euclid c (pos g)) r.coefficients }))
    by g e true t h =
        let none : g ≡ 0 = grind (arith, nat_tests) in
        absurd (true_false (sym (no_gcd-constant r.coefficients (sym e ∙ none)) ∙ h))
      where
        true_false : true ≡ false → ⊥
        true_false e = absurd cc
    by g e false t h = divided-tight g r.coefficients e (grind (arith, nat_tests))

-- ---- a tight row stays as it is, and a variable stands in it

tight-same : (r : Affine) → IsTight r → tightened r ≡ r
tight-same r h = sym (tightened-same r 1 (sym h) (omega arith))

gcd_of-zeros : (cs : List ℤ) (g : ℕ) → list_all (λ c. int_eq c (pos 0)) cs ≡ true → fold (λ g c. gcd (unsigned_abs c) g) g cs ≡ g
gcd_of-zeros [] g h = refl
gcd_of-zeros (c ∷ cs) g h =
    let parts = both (int_eq c (pos 0)) (list_all (λ c. int_eq c (pos 0)) cs) h in
    let none : c ≡ pos 0 = (Decides-int_eq c (pos 0)).0 parts.0 in
    gcd_of-zeros cs (gcd (unsigned_abs c) g) parts.1 ∙ ap (λ c. gcd (unsigned_abs c) g) none ∙ zero-gcd g

tight-not_constant : (r : Affine) → IsTight r → is_constant r ≡ false
tight-not_constant r h = by (is_constant r) refl
  where
    by : (b : Bool) → is_constant r ≡ b → b ≡ false
    by true e = absurd (omega (arith, h, gcd_of-zeros r.coefficients 0 e))
    by false e = refl

tight_rows-same : (rows : List Affine) → AllByRecursion IsTight rows → map tightened rows ≡ rows
tight_rows-same [] h = refl
tight_rows-same (r ∷ rs) h = let here = tight-same r h.0 in let rest = tight_rows-same rs h.1 in cc

tight_rows-not_false : (rows : List Affine) → AllByRecursion IsTight rows → list_any is_false rows ≡ false
tight_rows-not_false [] h = refl
tight_rows-not_false (r ∷ rs) h = ap (λ b. (b && is_negative r.constant) || list_any is_false rs) (tight-not_constant r h.0) ∙ tight_rows-not_false rs h.1

tight_rows-kept : (rows : List Affine) → AllByRecursion IsTight rows → filter (λ r. not (is_constant r)) rows ≡ rows
tight_rows-kept [] h = refl
tight_rows-kept (r ∷ rs) h = ap (λ b. cond (not b) (r ∷ filter (λ r. not (is_constant r)) rs) (filter (λ r. not (is_constant r)) rs)) (tight-not_constant r h.0) ∙ ap (λ zs. r ∷ zs) (tight_rows-kept rs h.1)

-- ---- merging different rows appends them

joined-different : (ks : List Affine) (r : Affine) → AllByRecursion (λ k. DiffersFrom k r) ks → joined ks r ≡ ks ++ r ∷ []
joined-different [] r h = refl
joined-different (k ∷ ks) r h =
    ap (λ b. cond b ((record k { constant = int_min k.constant r.constant }) ∷ ks) (k ∷ joined ks r)) h.0 ∙ ap (λ zs. k ∷ zs) (joined-different ks r h.1)

-- of different rows, the ones before a row differ from it
differ-before : (ks rs : List Affine) (r : Affine) → AreDifferent (ks ++ r ∷ rs) → AllByRecursion (λ k. DiffersFrom k r) ks
differ-before [] rs r h = tt
differ-before (k ∷ ks) rs r h = (among ks h.0, differ-before ks rs r h.1)
  where
    among : (xs : List Affine) → AllByRecursion (DiffersFrom k) (xs ++ r ∷ rs) → DiffersFrom k r
    among [] h = h.0
    among (x ∷ xs) h = among xs h.1

merged-different : (ks rs : List Affine) → AreDifferent (ks ++ rs) → fold joined ks rs ≡ ks ++ rs
merged-different ks [] h = sym (append-nil ks)
merged-different ks (r ∷ rs) h =
    let one = joined-different ks r (differ-before ks rs r h) in
    let apart : AreDifferent ((ks ++ r ∷ []) ++ rs) = subst AreDifferent (sym (append_assoc ks (r ∷ []) rs)) h in
    ap (λ zs. fold joined zs rs) one ∙ merged-different (ks ++ r ∷ []) rs apart ∙ append_assoc ks (r ∷ []) rs

-- rows behind settled rows are normalized as if all were
pub settled-normalized : (kept rows : List Affine) → AreSettled kept → normalized_onto kept rows ≡ normalized (kept ++ rows)
unfolding normalized normalized_onto
settled-normalized kept rows h =
    let same : map tightened (kept ++ rows) ≡ kept ++ map tightened rows = map-append tightened kept rows ∙ ap (λ ks. ks ++ map tightened rows) (tight_rows-same kept h.0) in
    let tight = map tightened rows in
    let test : list_any is_false (kept ++ tight) ≡ list_any is_false tight = list_any-append is_false kept tight ∙ ap (λ b. b || list_any is_false tight) (tight_rows-not_false kept h.0) in
    let rest : filter (λ r. not (is_constant r)) (kept ++ tight) ≡ kept ++ filter (λ r. not (is_constant r)) tight = filter-append (λ r. not (is_constant r)) kept tight ∙ ap (λ ks. ks ++ filter (λ r. not (is_constant r)) tight) (tight_rows-kept kept h.0) in
    let new = filter (λ r. not (is_constant r)) tight in
    let all : fold joined [] (kept ++ new) ≡ fold joined kept new = fold-append joined [] kept new ∙ ap (λ ks. fold joined ks new) (merged-different [] kept h.1) in
    sym (ap (λ rs. cond (list_any is_false rs) None (Some (merged (filter (λ r. not (is_constant r)) rs)))) same
    ∙ ap (λ b. cond b None (Some (merged (filter (λ r. not (is_constant r)) (kept ++ tight))))) test
    ∙ ap (λ rs. cond (list_any is_false tight) None (Some (merged rs))) rest
    ∙ ap (λ rs. cond (list_any is_false tight) None (Some rs)) all)

-- ---- what normalizing leaves is settled

-- what is asked of the coefficients alone, holds after a row has joined
joined-everywhere : (P : List ℤ → Type 0) (ks : List Affine) (r : Affine) → AllByRecursion (λ k. P k.coefficients) ks → P r.coefficients → AllByRecursion (λ k. P k.coefficients) (joined ks r)
joined-everywhere P [] r h p = (p, tt)
joined-everywhere P (k ∷ ks) r h p = by (same_list k.coefficients r.coefficients) (joined-everywhere P ks r h.1 p)
  where
    by : (b : Bool) → AllByRecursion (λ k. P k.coefficients) (joined ks r) → AllByRecursion (λ k. P k.coefficients) (cond b ((record k { constant = int_min k.constant r.constant }) ∷ ks) (k ∷ joined ks r))
    by true rest = h
    by false rest = (h.0, rest)

different-joined : (ks : List Affine) (r : Affine) → AreDifferent ks → AreDifferent (joined ks r)
different-joined [] r h = (tt, tt)
different-joined (k ∷ ks) r h = by (same_list k.coefficients r.coefficients) refl (different-joined ks r h.1)
  where
    by : (b : Bool) → same_list k.coefficients r.coefficients ≡ b → AreDifferent (joined ks r) → AreDifferent (cond b ((record k { constant = int_min k.constant r.constant }) ∷ ks) (k ∷ joined ks r))
    by true e rest = h
    by false e rest = (joined-everywhere (λ cs. same_list k.coefficients cs ≡ false) ks r h.0 e, rest)

merged-settled : (kept rows : List Affine) → AreSettled kept → AllByRecursion IsTight rows → AreSettled (fold joined kept rows)
merged-settled kept [] h t = h
merged-settled kept (r ∷ rs) h t = merged-settled (joined kept r) rs (joined-everywhere (λ cs. gcd_of cs ≡ 1) kept r h.0 t.0, different-joined kept r h.1) t.1

new-tight : (rows : List Affine) → AllByRecursion IsTight (filter (λ r. not (is_constant r)) (map tightened rows))
new-tight [] = tt
new-tight (r ∷ rs) = by (is_constant (tightened r)) refl (new-tight rs)
  where
    by : (b : Bool) → is_constant (tightened r) ≡ b → AllByRecursion IsTight (filter (λ r. not (is_constant r)) (map tightened rs)) → AllByRecursion IsTight (cond (not b) (tightened r ∷ filter (λ r. not (is_constant r)) (map tightened rs)) (filter (λ r. not (is_constant r)) (map tightened rs)))
    by true e rest = rest
    by false e rest = (tightened-tight r e, rest)

pub normalized_onto-settled : (kept rows all : List Affine) → AreSettled kept → Some all ≡ normalized_onto kept rows → AreSettled all
unfolding normalized_onto
normalized_onto-settled kept rows all h e = by (list_any is_false (map tightened rows)) e
  where
    by : (b : Bool) → Some all ≡ cond b None (Some (fold joined kept (filter (λ r. not (is_constant r)) (map tightened rows)))) → AreSettled all
    by true e = absurd cc
    by false e =
        let is : all ≡ fold joined kept (filter (λ r. not (is_constant r)) (map tightened rows)) = cc in
        subst AreSettled (sym is) (merged-settled kept (filter (λ r. not (is_constant r)) (map tightened rows)) h (new-tight rows))

-- ---- settled rows without a variable that stands in none of them are settled

gcd-without_zero : (cs : List ℤ) (v g : ℕ) → get_or cs v (pos 0) ≡ pos 0 → fold (λ g c. gcd (unsigned_abs c) g) g (remove cs v) ≡ fold (λ g c. gcd (unsigned_abs c) g) g cs
gcd-without_zero [] zero g e = refl
gcd-without_zero [] (suc v) g e = refl
gcd-without_zero (c ∷ cs) zero g e = ap (λ n. fold (λ g c. gcd (unsigned_abs c) g) n cs) (sym (ap (λ c. gcd (unsigned_abs c) g) e ∙ zero-gcd g))
gcd-without_zero (c ∷ cs) (suc v) g e = gcd-without_zero cs v (gcd (unsigned_abs c) g) e

same-without_zero : (xs ys : List ℤ) (v : ℕ) → length xs ≡ length ys → get_or xs v (pos 0) ≡ pos 0 → get_or ys v (pos 0) ≡ pos 0 → same_list (remove xs v) (remove ys v) ≡ same_list xs ys
same-without_zero [] [] zero l e h = refl
same-without_zero [] [] (suc v) l e h = refl
same-without_zero [] (y ∷ ys) v l e h = absurd (omega arith)
same-without_zero (x ∷ xs) [] v l e h = absurd (omega arith)
same-without_zero (x ∷ xs) (y ∷ ys) zero l e h = sym (ap (λ b. b && same_list xs ys) ((Decides-int_eq x y).1 (e ∙ sym h)))
same-without_zero (x ∷ xs) (y ∷ ys) (suc v) l e h = ap (λ b. int_eq x y && b) (same-without_zero xs ys v (omega arith) e h)

free-tight : (v : ℕ) (rows : List Affine) → AllByRecursion (λ r. IsTight r × (is_free v r ≡ true)) rows → AllByRecursion IsTight (map (without v) rows)
free-tight v rows h = everywhere-map (λ r. IsTight r × (is_free v r ≡ true)) IsTight (without v) (λ r k. gcd-without_zero r.coefficients v 0 ((Decides-int_eq (coefficient r v) (pos 0)).0 k.1) ∙ k.0) rows h

free-different : (n v : ℕ) (rows : List Affine) → AllByRecursion (λ r. IsWide n r × (is_free v r ≡ true)) rows → AreDifferent rows → AreDifferent (map (without v) rows)
free-different n v [] w h = tt
free-different n v (r ∷ rs) w h = (from rs w.1 h.0, free-different n v rs w.1 h.1)
  where
    from : (xs : List Affine) → AllByRecursion (λ r. IsWide n r × (is_free v r ≡ true)) xs → AllByRecursion (DiffersFrom r) xs → AllByRecursion (DiffersFrom (without v r)) (map (without v) xs)
    from [] w h = tt
    from (x ∷ xs) w' h' =
        let one = same-without_zero r.coefficients x.coefficients v (w.0.0 ∙ sym w'.0.0) ((Decides-int_eq (coefficient r v) (pos 0)).0 w.0.1) ((Decides-int_eq (coefficient x v) (pos 0)).0 w'.0.1) in
        (one ∙ h'.0, from xs w'.1 h'.1)

different-filter : (t : Affine → Bool) (rows : List Affine) → AreDifferent rows → AreDifferent (filter t rows)
different-filter t [] h = tt
different-filter t (r ∷ rs) h = by (t r) (different-filter t rs h.1)
  where
    by : (b : Bool) → AreDifferent (filter t rs) → AreDifferent (cond b (r ∷ filter t rs) (filter t rs))
    by true rest = (everywhere-like (λ s. DiffersFrom r s × (t s ≡ true)) (DiffersFrom r) (λ s k. k.0) (filter t rs) (everywhere-filter (DiffersFrom r) t rs h.0), rest)
    by false rest = rest

pub free-settled : (n v : ℕ) (rows : List Affine) → AreWide n rows → AreSettled rows → AreSettled (map (without v) (filter (is_free v) rows))
free-settled n v rows w h =
    let wide = everywhere-filter (IsWide n) (is_free v) rows (recursion_from_All (IsWide n) rows w) in
    let tight = everywhere-filter IsTight (is_free v) rows h.0 in
    (free-tight v (filter (is_free v) rows) tight, free-different n v (filter (is_free v) rows) wide (different-filter (is_free v) rows h.1))
