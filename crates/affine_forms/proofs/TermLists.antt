-- The plain sums of lists of terms.
use Rattle.std.proofs.Common.{◌≡◌, ℕ, zero, suc, ◌+◌, ◌<◌, ◌≤◌, ◌^◌, ◌==◌, ℤ, pos, ◌+ℤ◌, ◌*ℤ◌, not, Bool, true, false, cond, ◌&&◌, List, [], ◌∷◌, ◌++◌, length, get_or, take, drop, set, Option, Some, None, option_map, arith, refl, sym, ap, ap₂, ◌∙◌, add-one}
use Rattle.std.proofs.Math.Seq.{drop-cons}
use Rattle.std.proofs.lemmas.Bool.Decides.{nat_tests}
use Rattle.std.proofs.lemmas.List.{take_more}
use Rattle.std.specs.Ordering.{int_eq}
use Rattle.std.specs.Int.{int_div_euclid}
use Rattle.affine_forms.specs.Atoms.{Atom, Terms, none, term, same_atom, same_terms, taken, with_term, terms_scaled, present, divides, divided, undivided}
use Rattle.affine_forms.specs.AtomCodes.{nodes, nodes_in}
use Rattle.affine_forms.specs.TermBounds.{count, is_kept_atom, are_kept, joined_terms, term_if, first_that, is_sought, without_term, raised}
use Rattle.affine_forms.specs.Forms.{is_within}
use Rattle.affine_forms.specs.PlainAtoms.{plain_atom, plain_terms}
use Rattle.affine_forms.specs.declared.atom.Weighed.{Weighed}
use Rattle.affine_forms.proofs.Values.{and_parts}

pub plain_append : (xs ys : List Weighed) → plain_terms (xs ++ ys) ≡ joined_terms (plain_terms xs) (plain_terms ys)
plain_append [] ys = refl
plain_append (x ∷ xs) ys = ap (term x.coefficient (plain_atom x.atom)) (plain_append xs ys)

pub joined_none : (ts : Terms) → joined_terms ts none ≡ ts
joined_none none = refl
joined_none (term c a ts) = ap (term c a) (joined_none ts)

-- a term that goes from the front of the rest to the end of what is done
pub joined_push : (ts us : Terms) (c : ℤ) (a : Atom) → joined_terms (joined_terms ts (term c a none)) us ≡ joined_terms ts (term c a us)
joined_push none us c a = refl
joined_push (term d b ts) us c a = ap (term d b) (joined_push ts us c a)

pub joined_if : (wanted : Bool) (ts us : Terms) (c : ℤ) (a : Atom) → joined_terms (joined_terms ts (term_if wanted c a none)) us ≡ joined_terms ts (term_if wanted c a us)
joined_if true ts us c a = joined_push ts us c a
joined_if false ts us c a = ap (λ v. joined_terms v us) (joined_none ts)

-- nothing is left at the end
pub plain_end : (ws : List Weighed) (i : ℕ) → length ws ≤ i → plain_terms (drop i ws) ≡ none
plain_end [] zero h = refl
plain_end [] (suc i) h = refl
plain_end (w ∷ ws) zero h = absurd (omega arith)
plain_end (w ∷ ws) (suc i) h = plain_end ws i (omega arith)

-- one more copied term
pub plain_grows : (xs ys : List Weighed) (i : ℕ) (u w : Weighed) → plain_terms xs ≡ plain_terms (take i ys) → i < length ys → w ≡ get_or ys i w → u.coefficient ≡ w.coefficient → plain_atom u.atom ≡ plain_atom w.atom → plain_terms (xs ++ u ∷ []) ≡ plain_terms (take (i + 1) ys)
plain_grows xs ys i u w e h is c a =
    plain_append xs (u ∷ [])
    ∙ ap₂ joined_terms e (ap₂ (λ z b. term z b none) c a)
    ∙ ap (λ v. joined_terms (plain_terms (take i ys)) (plain_terms (v ∷ []))) is
    ∙ sym (plain_append (take i ys) (get_or ys i w ∷ []))
    ∙ ap plain_terms (sym (take_more ys i w h))

-- what is left begins with the term of that index
pub plain_drop : (ws : List Weighed) (i : ℕ) (w : Weighed) → i < length ws → w ≡ get_or ws i w → plain_terms (drop i ws) ≡ term w.coefficient (plain_atom w.atom) (plain_terms (drop (i + 1) ws))
plain_drop ws i w h is = ap plain_terms (drop-cons ws i w h) ∙ ap₂ (λ u k. plain_terms (u ∷ drop k ws)) (sym is) (sym (add-one i))

-- a term's atom is smaller than the sum
pub nodes_fall : (ws : List Weighed) (i : ℕ) (w : Weighed) → i < length ws → w ≡ get_or ws i w → 1 + nodes (plain_atom w.atom) ≤ nodes_in (plain_terms ws)
nodes_fall [] i w h is = absurd (omega arith)
nodes_fall (x ∷ ws) zero w h is = let e : nodes (plain_atom w.atom) ≡ nodes (plain_atom x.atom) = ap (λ u. nodes (plain_atom u.atom)) is in omega (arith, e)
nodes_fall (x ∷ ws) (suc i) w h is = let below : i < length ws = omega arith in omega (arith, nodes_fall ws i w below is)

-- ---- loops that make a sum term by term

-- a map that gives each term a term or nothing
pub made_step : (f : Terms → Terms) (test : ℤ → Bool) (g : ℤ → ℤ) → ((c : ℤ) (a : Atom) (ts : Terms) → f (term c a ts) ≡ term_if (test c) (g c) a (f ts)) → (ws : List Weighed) (i : ℕ) (w : Weighed) (made next whole : Terms) → i < length ws → w ≡ get_or ws i w → joined_terms made (f (plain_terms (drop i ws))) ≡ whole → next ≡ joined_terms made (term_if (test w.coefficient) (g w.coefficient) (plain_atom w.atom) none) → joined_terms next (f (plain_terms (drop (i + 1) ws))) ≡ whole
made_step f test g law ws i w made next whole h is inv e =
    ap (λ ts. joined_terms ts (f (plain_terms (drop (i + 1) ws)))) e
    ∙ joined_if (test w.coefficient) made (f (plain_terms (drop (i + 1) ws))) (g w.coefficient) (plain_atom w.atom)
    ∙ ap (joined_terms made) (sym (law w.coefficient (plain_atom w.atom) (plain_terms (drop (i + 1) ws))))
    ∙ ap (λ ts. joined_terms made (f ts)) (sym (plain_drop ws i w h is))
    ∙ inv

pub made_end : (f : Terms → Terms) → f none ≡ none → (ws : List Weighed) (i : ℕ) (made whole : Terms) → length ws ≤ i → joined_terms made (f (plain_terms (drop i ws))) ≡ whole → made ≡ whole
made_end f law ws i made whole h inv = sym (joined_none made) ∙ ap (joined_terms made) (sym law) ∙ ap (λ ts. joined_terms made (f ts)) (sym (plain_end ws i h)) ∙ inv

pub present_law : (c : ℤ) (a : Atom) (ts : Terms) → present (term c a ts) ≡ term_if (not (int_eq c (pos 0))) c a (present ts)
present_law c a ts = go (int_eq c (pos 0))
  where
    go : (t : Bool) → cond t (present ts) (term c a (present ts)) ≡ term_if (not t) c a (present ts)
    go true = refl
    go false = refl

pub divided_law : (by : ℤ) (c : ℤ) (a : Atom) (ts : Terms) → divided by (term c a ts) ≡ term_if (divides by c) (int_div_euclid c by) a (divided by ts)
divided_law by c a ts = refl

pub undivided_law : (by : ℤ) (c : ℤ) (a : Atom) (ts : Terms) → undivided by (term c a ts) ≡ term_if (not (divides by c)) c a (undivided by ts)
undivided_law by c a ts = go (divides by c)
  where
    go : (t : Bool) → cond t (undivided by ts) (term c a (undivided by ts)) ≡ term_if (not t) c a (undivided by ts)
    go true = refl
    go false = refl

pub scaled_law : (by : ℤ) (c : ℤ) (a : Atom) (ts : Terms) → terms_scaled by (term c a ts) ≡ term_if true (by *ℤ c) a (terms_scaled by ts)
scaled_law by c a ts = refl

-- ---- places

-- the place in a list, by that in what is left of it
pub place_drop : (test : ℤ → Atom → Bool) (ws : List Weighed) (i : ℕ) (w : Weighed) → i < length ws → w ≡ get_or ws i w → test w.coefficient (plain_atom w.atom) ≡ false → option_map (λ j. i + j) (first_that test (plain_terms (drop i ws))) ≡ option_map (λ j. (i + 1) + j) (first_that test (plain_terms (drop (i + 1) ws)))
place_drop test ws i w h is e = ap (λ ts. option_map (λ j. i + j) (first_that test ts)) (plain_drop ws i w h is) ∙ ap (λ t. option_map (λ j. i + j) (cond t (Some 0) (option_map suc (first_that test (plain_terms (drop (i + 1) ws)))))) e ∙ over (first_that test (plain_terms (drop (i + 1) ws)))
  where
    over : (o : Option ℕ) → option_map (λ j. i + j) (option_map suc o) ≡ option_map (λ j. (i + 1) + j) o
    over None = refl
    over (Some j) = ap Some (omega arith)

pub place_here : (test : ℤ → Atom → Bool) (ws : List Weighed) (i : ℕ) (w : Weighed) → i < length ws → w ≡ get_or ws i w → test w.coefficient (plain_atom w.atom) ≡ true → option_map (λ j. i + j) (first_that test (plain_terms (drop i ws))) ≡ Some i
place_here test ws i w h is e = ap (λ ts. option_map (λ j. i + j) (first_that test ts)) (plain_drop ws i w h is) ∙ ap (λ t. option_map (λ j. i + j) (cond t (Some 0) (option_map suc (first_that test (plain_terms (drop (i + 1) ws)))))) e ∙ ap Some (omega arith)

pub place_end : (test : ℤ → Atom → Bool) (ws : List Weighed) (i : ℕ) → length ws ≤ i → option_map (λ j. i + j) (first_that test (plain_terms (drop i ws))) ≡ None
place_end test [] zero h = refl
place_end test [] (suc i) h = refl
place_end test (x ∷ ws) zero h = absurd (omega arith)
place_end test (x ∷ ws) (suc i) h = over (first_that test (plain_terms (drop i ws))) (place_end test ws i (omega arith))
  where
    over : (o : Option ℕ) → option_map (λ j. i + j) o ≡ None → option_map (λ j. suc i + j) o ≡ None
    over None e = refl
    over (Some j) e = cc

-- what `taken` leaves
pub taken_place : (a : Atom) (c : ℤ) (ts : Terms) → taken (same_atom a) c ts ≡ option_map (λ k. without_term k ts) (first_that (is_sought a (Some c)) ts)
taken_place a c none = refl
taken_place a c (term d b ts) = go (same_atom a b && int_eq c d) (taken_place a c ts)
  where
    over : (o : Option ℕ) → elim (option_map (λ k. without_term k ts) o) [ None ↦ None | Some us ↦ Some (term d b us) ] ≡ option_map (λ k. without_term k (term d b ts)) (option_map suc o)
    over None = refl
    over (Some k) = refl

    go : (t : Bool) → taken (same_atom a) c ts ≡ option_map (λ k. without_term k ts) (first_that (is_sought a (Some c)) ts) → cond t (Some ts) (elim (taken (same_atom a) c ts) [ None ↦ None | Some us ↦ Some (term d b us) ]) ≡ option_map (λ k. without_term k (term d b ts)) (cond t (Some 0) (option_map suc (first_that (is_sought a (Some c)) ts)))
    go true e = refl
    go false e = ap (λ o. elim o [ None ↦ None | Some us ↦ Some (term d b us) ]) e ∙ over (first_that (is_sought a (Some c)) ts)

-- where a term goes
pub with_term_place : (c : ℤ) (a : Atom) (ts : Terms) → with_term c a ts ≡ elim (first_that (is_sought a None) ts) [ None ↦ joined_terms ts (term c a none) | Some k ↦ raised k c ts ]
with_term_place c a none = refl
with_term_place c a (term d b ts) = go (same_atom a b) (with_term_place c a ts)
  where
    over : (o : Option ℕ) → term d b (elim o [ None ↦ joined_terms ts (term c a none) | Some k ↦ raised k c ts ]) ≡ elim (option_map suc o) [ None ↦ joined_terms (term d b ts) (term c a none) | Some k ↦ raised k c (term d b ts) ]
    over None = refl
    over (Some k) = refl

    go : (t : Bool) → with_term c a ts ≡ elim (first_that (is_sought a None) ts) [ None ↦ joined_terms ts (term c a none) | Some k ↦ raised k c ts ] → cond t (term (c +ℤ d) b ts) (term d b (with_term c a ts)) ≡ elim (cond (t && true) (Some 0) (option_map suc (first_that (is_sought a None) ts))) [ None ↦ joined_terms (term d b ts) (term c a none) | Some k ↦ raised k c (term d b ts) ]
    go true e = refl
    go false e = ap (term d b) e ∙ over (first_that (is_sought a None) ts)

-- a place is inside
pub place_inside : (test : ℤ → Atom → Bool) (ts : Terms) (k : ℕ) → first_that test ts ≡ Some k → k < count ts
place_inside test none k e = absurd (let f : None ≡ Some k = e in cc)
place_inside test (term c a ts) k e = go (place_inside test ts) (test c a) (first_that test ts) refl e
  where
    go : ((j : ℕ) → first_that test ts ≡ Some j → j < count ts) → (t : Bool) (o : Option ℕ) → first_that test ts ≡ o → cond t (Some 0) (option_map suc o) ≡ Some k → k < suc (count ts)
    go again true o f g = let z : 0 ≡ k = cc in omega (arith, z)
    go again false None f g = absurd cc
    go again false (Some j) f g = let z : suc j ≡ k = cc in let below : j < count ts = again j f in omega (arith, z, below)

pub count_plain : (ws : List Weighed) → count (plain_terms ws) ≡ length ws
count_plain [] = refl
count_plain (w ∷ ws) = ap suc (count_plain ws)

-- ---- comparisons

pub same_step : (ws : List Weighed) (i : ℕ) (w : Weighed) (left next : Terms) (found : Bool) → i < length ws → w ≡ get_or ws i w → taken (same_atom (plain_atom w.atom)) w.coefficient left ≡ cond found (Some next) None → same_terms (plain_terms (drop i ws)) left ≡ cond found (same_terms (plain_terms (drop (i + 1) ws)) next) false
same_step ws i w left next found h is e = ap (λ ts. same_terms ts left) (plain_drop ws i w h is) ∙ ap (λ o. elim o [ None ↦ false | Some us ↦ same_terms (plain_terms (drop (i + 1) ws)) us ]) e ∙ go found
  where
    go : (t : Bool) → elim (cond t (Some next) None) [ None ↦ false | Some us ↦ same_terms (plain_terms (drop (i + 1) ws)) us ] ≡ cond t (same_terms (plain_terms (drop (i + 1) ws)) next) false
    go true = refl
    go false = refl

pub same_end : (ws : List Weighed) (i : ℕ) (us : List Weighed) → length ws ≤ i → same_terms (plain_terms (drop i ws)) (plain_terms us) ≡ (length us == 0)
same_end [] zero us h = at us
  where
    at : (us : List Weighed) → same_terms none (plain_terms us) ≡ (length us == 0)
    at [] = refl
    at (u ∷ us) = grind (arith, nat_tests)
same_end [] (suc i) us h = at us
  where
    at : (us : List Weighed) → same_terms none (plain_terms us) ≡ (length us == 0)
    at [] = refl
    at (u ∷ us) = grind (arith, nat_tests)
same_end (w ∷ ws) zero us h = absurd (omega arith)
same_end (w ∷ ws) (suc i) us h = same_end ws i us (omega arith)

-- ---- what is kept

pub kept_without : (k : ℕ) (ts : Terms) → are_kept ts ≡ true → are_kept (without_term k ts) ≡ true
kept_without k none h = h
kept_without zero (term c a ts) h = (and_parts (is_within (2 ^ 126) c && is_kept_atom a) (are_kept ts) h).1
kept_without (suc k) (term c a ts) h =
    let p = and_parts (is_within (2 ^ 126) c && is_kept_atom a) (are_kept ts) h in
    ap₂ (λ s t. s && t) p.0 (kept_without k ts p.1)

-- ---- changes of lists

pub plain_remove : (ws : List Weighed) (k : ℕ) → plain_terms (take k ws ++ drop (suc k) ws) ≡ without_term k (plain_terms ws)
plain_remove [] k = at k
  where
    at : (k : ℕ) → plain_terms (take k [] ++ drop (suc k) []) ≡ none
    at zero = refl
    at (suc k) = refl
plain_remove (w ∷ ws) zero = refl
plain_remove (w ∷ ws) (suc k) = ap (term w.coefficient (plain_atom w.atom)) (plain_remove ws k)

pub plain_set : (ws : List Weighed) (k : ℕ) (u w : Weighed) (z : ℤ) → k < length ws → w ≡ get_or ws k w → u.coefficient ≡ z +ℤ w.coefficient → plain_atom u.atom ≡ plain_atom w.atom → plain_terms (set ws k u) ≡ raised k z (plain_terms ws)
plain_set [] k u w z h is c a = absurd (omega arith)
plain_set (x ∷ ws) zero u w z h is c a =
    ap₂ (λ y b. term y b (plain_terms ws)) (c ∙ ap (λ v. z +ℤ v.coefficient) is) (a ∙ ap (λ v. plain_atom v.atom) is)
plain_set (x ∷ ws) (suc k) u w z h is c a = ap (term x.coefficient (plain_atom x.atom)) (plain_set ws k u w z (omega arith) is c a)
