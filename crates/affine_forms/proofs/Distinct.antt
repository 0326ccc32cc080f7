-- Sums that name each atom once, and what becomes of their numbers when two are added.
use Rattle.std.proofs.Common.{◌≡◌, ℕ, zero, suc, ◌+◌, ◌^◌, ℤ, pos, negsuc, ◌+ℤ◌, ◌*ℤ◌, neg_ℤ, Bool, true, false, cond, not, ◌&&◌, arith, refl, sym, ap, ap₂, ◌∙◌, true≢false, inl, inr}
use Rattle.std.proofs.lemmas.Int.{ints}
use Rattle.std.specs.Prelude.{◌⊎◌}
use Rattle.std.specs.Int.{int_div_euclid, int_rem_euclid, is_positive}
use Rattle.std.specs.Ordering.{int_eq}
use Rattle.affine_forms.specs.Atoms.{Atom, Terms, none, term, Linear, same_atom, with_term, terms_added, terms_scaled, divides, divided, undivided, quotient, quotient_of, present}
use Rattle.affine_forms.specs.Forms.{is_within, are_within, are_short}
use Rattle.affine_forms.specs.TermBounds.{is_apart, are_distinct, are_present, term_if}
use Rattle.affine_forms.proofs.Values.{and_parts, int_eq_same}
use Rattle.affine_forms.proofs.TermLists.{present_law, divided_law, undivided_law}
use Rattle.affine_forms.proofs.SameAtoms.{same_atom_sym, same_class}
use Rattle.affine_forms.proofs.TermWidths.{within_le, within_from_le, within_sum, wider, within_present}

-- ---- one more term

apart_with_term : (b : Atom) (c : ℤ) (a : Atom) (ts : Terms) → is_apart b ts ≡ true → same_atom a b ≡ false → is_apart b (with_term c a ts) ≡ true
apart_with_term b c a none h e = ap (λ t. not t && true) e
apart_with_term b c a (term d x ts) h e = go (same_atom a x) (apart_with_term b c a ts p.1 e)
  where
    p : (not (same_atom x b) ≡ true) × (is_apart b ts ≡ true)
    p = and_parts (not (same_atom x b)) (is_apart b ts) h

    go : (t : Bool) → is_apart b (with_term c a ts) ≡ true → is_apart b (cond t (term (c +ℤ d) x ts) (term d x (with_term c a ts))) ≡ true
    go true r = h
    go false r = ap₂ (λ s t. s && t) p.0 r

distinct_with_term : (c : ℤ) (a : Atom) (ts : Terms) → are_distinct ts ≡ true → are_distinct (with_term c a ts) ≡ true
distinct_with_term c a none h = refl
distinct_with_term c a (term d x ts) h = go (same_atom a x) refl (distinct_with_term c a ts p.1)
  where
    p : (is_apart x ts ≡ true) × (are_distinct ts ≡ true)
    p = and_parts (is_apart x ts) (are_distinct ts) h

    go : (t : Bool) → same_atom a x ≡ t → are_distinct (with_term c a ts) ≡ true → are_distinct (cond t (term (c +ℤ d) x ts) (term d x (with_term c a ts))) ≡ true
    go true e r = h
    go false e r = ap₂ (λ s t. s && t) (apart_with_term x c a ts p.0 e) r

pub distinct_added : (ts us : Terms) → are_distinct ts ≡ true → are_distinct (terms_added ts us) ≡ true
distinct_added ts none h = h
distinct_added ts (term c a us) h = distinct_added (with_term c a ts) us (distinct_with_term c a ts h)

-- ---- each term in its place, or fewer

apart_scaled : (z : ℤ) (b : Atom) (ts : Terms) → is_apart b (terms_scaled z ts) ≡ is_apart b ts
apart_scaled z b none = refl
apart_scaled z b (term c a ts) = ap (λ t. not (same_atom a b) && t) (apart_scaled z b ts)

pub distinct_scaled : (z : ℤ) (ts : Terms) → are_distinct (terms_scaled z ts) ≡ are_distinct ts
distinct_scaled z none = refl
distinct_scaled z (term c a ts) = ap₂ (λ s t. s && t) (apart_scaled z a ts) (distinct_scaled z ts)

-- a map that gives each term a term or nothing
module _ (f : Terms → Terms) (test : ℤ → Bool) (g : ℤ → ℤ) (empty : f none ≡ none) (law : (c : ℤ) (a : Atom) (ts : Terms) → f (term c a ts) ≡ term_if (test c) (g c) a (f ts)) where
  apart_kept : (b : Atom) (ts : Terms) → is_apart b ts ≡ true → is_apart b (f ts) ≡ true
  apart_kept b none h = ap (is_apart b) empty
  apart_kept b (term c a ts) h = ap (is_apart b) (law c a ts) ∙ go (test c) (apart_kept b ts p.1)
    where
      p : (not (same_atom a b) ≡ true) × (is_apart b ts ≡ true)
      p = and_parts (not (same_atom a b)) (is_apart b ts) h

      go : (t : Bool) → is_apart b (f ts) ≡ true → is_apart b (term_if t (g c) a (f ts)) ≡ true
      go true r = ap₂ (λ s t. s && t) p.0 r
      go false r = r

  distinct_kept : (ts : Terms) → are_distinct ts ≡ true → are_distinct (f ts) ≡ true
  distinct_kept none h = ap are_distinct empty
  distinct_kept (term c a ts) h = ap are_distinct (law c a ts) ∙ go (test c) (distinct_kept ts p.1)
    where
      p : (is_apart a ts ≡ true) × (are_distinct ts ≡ true)
      p = and_parts (is_apart a ts) (are_distinct ts) h

      go : (t : Bool) → are_distinct (f ts) ≡ true → are_distinct (term_if t (g c) a (f ts)) ≡ true
      go true r = ap₂ (λ s t. s && t) (apart_kept a ts p.0) r
      go false r = r

pub distinct_divided : (by : ℤ) (ts : Terms) → are_distinct ts ≡ true → are_distinct (divided by ts) ≡ true
distinct_divided by ts h = distinct_kept (divided by) (divides by) (λ z. int_div_euclid z by) refl (divided_law by) ts h

pub distinct_undivided : (by : ℤ) (ts : Terms) → are_distinct ts ≡ true → are_distinct (undivided by ts) ≡ true
distinct_undivided by ts h = distinct_kept (undivided by) (λ z. not (divides by z)) (λ z. z) refl (undivided_law by) ts h

pub distinct_present : (ts : Terms) → are_distinct ts ≡ true → are_distinct (present ts) ≡ true
distinct_present ts h = distinct_kept present (λ z. not (int_eq z (pos 0))) (λ z. z) refl present_law ts h

-- ---- coefficients other than 0

pub present_present : (ts : Terms) → are_present (present ts) ≡ true
present_present none = refl
present_present (term c a ts) = go (present_present ts) (int_eq c (pos 0)) refl
  where
    go : are_present (present ts) ≡ true → (t : Bool) → int_eq c (pos 0) ≡ t → are_present (cond t (present ts) (term c a (present ts))) ≡ true
    go rest true e = rest
    go rest false e = ap₂ (λ s t. not s && t) e rest

-- a literal divides 0
zero_divided : (by : ℤ) → is_positive by ≡ true → divides by (pos 0) ≡ true
zero_divided (pos zero) h = absurd (true≢false (sym h))
zero_divided (negsuc n) h = absurd (true≢false (sym h))
zero_divided (pos (suc n)) h =
    let r : int_rem_euclid (pos 0) (pos (suc n)) ≡ pos 0 = omega (arith, ints) in
    ap (λ z. int_eq z (pos 0)) r

pub present_undivided : (by : ℤ) (ts : Terms) → is_positive by ≡ true → are_present (undivided by ts) ≡ true
present_undivided by none h = refl
present_undivided by (term c a ts) h = go (present_undivided by ts h) (divides by c) refl (int_eq c (pos 0)) refl
  where
    go : are_present (undivided by ts) ≡ true → (t : Bool) → divides by c ≡ t → (z : Bool) → int_eq c (pos 0) ≡ z → are_present (cond t (undivided by ts) (term c a (undivided by ts))) ≡ true
    go rest true e z f = rest
    go rest false e true f = absurd (true≢false (sym (zero_divided by h) ∙ ap (divides by) (sym (int_eq_same c (pos 0) f)) ∙ e))
    go rest false e false f = ap₂ (λ s t. not s && t) f rest

pub present_negated : (ts : Terms) → are_present ts ≡ true → are_present (terms_scaled (negsuc 0) ts) ≡ true
present_negated none h = refl
present_negated (term c a ts) h =
    let p = and_parts (not (int_eq c (pos 0))) (are_present ts) h in
    ap₂ (λ s t. s && t) (other c p.0) (present_negated ts p.1)
  where
    other : (c : ℤ) → not (int_eq c (pos 0)) ≡ true → not (int_eq (negsuc 0 *ℤ c) (pos 0)) ≡ true
    other c h =
        let opposite : negsuc 0 *ℤ c ≡ neg_ℤ c = omega (arith, ints) in
        ap (λ z. not (int_eq z (pos 0))) opposite ∙ grind (arith, ints)

-- ---- numbers of a sum of two sums that name each atom once

-- atoms that are equal are apart from the same atoms
pub apart_alike : (a b : Atom) (us : Terms) → same_atom a b ≡ true → is_apart a us ≡ is_apart b us
apart_alike a b none h = refl
apart_alike a b (term c u us) h = ap₂ (λ s t. not s && t) (same_atom_sym u a ∙ same_class a b u h ∙ same_atom_sym b u) (apart_alike a b us h)

module _ (m n : ℕ) where
  -- each number is at most m, or at most m + n where no term is left to be added to it
  abbrev HasRoom : Terms → Terms → Type 0
  HasRoom us none = Unit {0}
  HasRoom us (term d b ts) = ((is_within m d ≡ true) ⊎ ((is_within (m + n) d ≡ true) × (is_apart b us ≡ true))) × HasRoom us ts

  less_left : (c : ℤ) (a : Atom) (us ts : Terms) → HasRoom (term c a us) ts → HasRoom us ts
  less_left c a us none h = tt
  less_left c a us (term d b ts) h = (one h.0, less_left c a us ts h.1)
    where
      one : (is_within m d ≡ true) ⊎ ((is_within (m + n) d ≡ true) × (is_apart b (term c a us) ≡ true)) → (is_within m d ≡ true) ⊎ ((is_within (m + n) d ≡ true) × (is_apart b us ≡ true))
      one (inl k) = inl k
      one (inr k) = inr (k.0, (and_parts (not (same_atom a b)) (is_apart b us) k.1).1)

  room_with_term : (c : ℤ) (a : Atom) (us ts : Terms) → is_within n c ≡ true → is_apart a us ≡ true → HasRoom (term c a us) ts → HasRoom us (with_term c a ts)
  room_with_term c a us none w p h = (inr (within_from_le (m + n) c (omega (arith, within_le n c w)), p), tt)
  room_with_term c a us (term d b ts) w p h = go (same_atom a b) refl (room_with_term c a us ts w p h.1)
    where
      raised_one : same_atom a b ≡ true → (is_within m d ≡ true) ⊎ ((is_within (m + n) d ≡ true) × (is_apart b (term c a us) ≡ true)) → (is_within (m + n) (c +ℤ d) ≡ true) × (is_apart b us ≡ true)
      raised_one e (inl k) = (within_sum n m (m + n) c d w k (omega arith), sym (apart_alike a b us e) ∙ p)
      raised_one e (inr k) = absurd (true≢false (sym (and_parts (not (same_atom a b)) (is_apart b us) k.1).0 ∙ ap not e))

      go : (t : Bool) → same_atom a b ≡ t → HasRoom us (with_term c a ts) → HasRoom us (cond t (term (c +ℤ d) b ts) (term d b (with_term c a ts)))
      go true e r = (inr (raised_one e h.0), less_left c a us ts h.1)
      go false e r = ((less_left c a us (term d b none) (h.0, tt)).0, r)

  room_added : (ts us : Terms) → are_within n us ≡ true → are_distinct us ≡ true → HasRoom us ts → are_within (m + n) (terms_added ts us) ≡ true
  room_added ts none w d h = all ts h
    where
      one : (d : ℤ) (b : Atom) → (is_within m d ≡ true) ⊎ ((is_within (m + n) d ≡ true) × (is_apart b none ≡ true)) → is_within (m + n) d ≡ true
      one d b (inl k) = within_from_le (m + n) d (omega (arith, within_le m d k))
      one d b (inr k) = k.0

      all : (ts : Terms) → HasRoom none ts → are_within (m + n) ts ≡ true
      all none h = refl
      all (term d b ts) h = ap₂ (λ s t. s && t) (one d b h.0) (all ts h.1)
  room_added ts (term c a us) w d h =
      let p = and_parts (is_within n c) (are_within n us) w in
      let q = and_parts (is_apart a us) (are_distinct us) d in
      room_added (with_term c a ts) us p.1 q.1 (room_with_term c a us ts p.0 q.0 h)

  room_first : (us ts : Terms) → are_within m ts ≡ true → HasRoom us ts
  room_first us none h = tt
  room_first us (term d b ts) h = let p = and_parts (is_within m d) (are_within m ts) h in (inl p.0, room_first us ts p.1)

  pub within_added : (ts us : Terms) → are_within m ts ≡ true → are_within n us ≡ true → are_distinct us ≡ true → are_within (m + n) (terms_added ts us) ≡ true
  within_added ts us h k d = room_added ts us k d (room_first us ts h)

-- ---- two sums together, without what cancels

pub joined_within : (ts us : Terms) → are_short ts ≡ true → are_short us ≡ true → are_distinct us ≡ true → are_within (2 ^ 64) (present (terms_added ts us)) ≡ true
joined_within ts us h i d = wider (2 ^ 62 + 2 ^ 62) (2 ^ 64) (present (terms_added ts us)) (omega arith) (within_present (2 ^ 62 + 2 ^ 62) (terms_added ts us) (within_added (2 ^ 62) (2 ^ 62) ts us h i d))

pub joined_distinct : (ts us : Terms) → are_distinct ts ≡ true → are_distinct (present (terms_added ts us)) ≡ true
joined_distinct ts us h = distinct_present (terms_added ts us) (distinct_added ts us h)

-- ---- quotients

pub quotient_distinct : (l : Linear) (by : ℤ) → are_distinct l.terms ≡ true → are_distinct (quotient l by).terms ≡ true
quotient_distinct l by h = distinct_added (divided by l.terms) (quotient_of (int_rem_euclid l.constant by) (undivided by l.terms) by) (distinct_divided by l.terms h)
