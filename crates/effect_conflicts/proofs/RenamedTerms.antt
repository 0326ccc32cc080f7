-- Sums over other variables, where different variables stay different.
use Rattle.std.proofs.Common.{◌≡◌, ◌==◌, ◌^◌, ℕ, ℤ, pos, negsuc, ◌+ℤ◌, ◌*ℤ◌, Bool, true, false, cond, ◌&&◌, Option, Some, None, option_map, refl, sym, ap, ap₂, ◌∙◌}
use Rattle.std.specs.Int.{int_div_euclid, int_rem_euclid}
use Rattle.std.specs.Ordering.{int_eq}
use Rattle.affine_forms.specs.Atoms.{Atom, Variable, EntryField, UnknownField, OpaqueStride, Quotient, Terms, none, term, Linear, taken, same_atom, same_terms, with_term, terms_added, terms_scaled, added, scaled, subtracted, present, divides, divided, undivided, quotient_of, quotient}
use Rattle.affine_forms.specs.Forms.{without_zeros, is_within, are_within, is_short_form}
use Rattle.affine_forms.specs.Formulas.{Constraint, AtLeastZero, IsZero, Formula, Says, Both, Either, moved, difference, less, at_most, equal, denied, negation}
use Rattle.exo_effects.specs.Renamed.{re_atom, re_terms, re_linear, re_constraint, re_formula}

-- different variables stay different
abbrev pub KeepsApart : (ℕ → ℕ) → Type 0
KeepsApart r = (x y : ℕ) → (r x == r y) ≡ (x == y)

abbrev put : ℤ → Atom → Option Terms → Option Terms
put c a o = elim o [ None ↦ None | Some us ↦ Some (term c a us) ]

abbrev if_left : Option Terms → (Terms → Bool) → Bool
if_left o f = elim o [ None ↦ false | Some us ↦ f us ]

module _ (r : ℕ → ℕ) where
  re_taken : (f g : Atom → Bool) (c : ℤ) (ts : Terms) → ((b : Atom) → f (re_atom r b) ≡ g b) → taken f c (re_terms r ts) ≡ option_map (re_terms r) (taken g c ts)
  re_taken f g c none h = refl
  re_taken f g c (term d b ts) h = ap₂ (λ t o. cond (t && int_eq c d) (Some (re_terms r ts)) (put d (re_atom r b) o)) (h b) (re_taken f g c ts h) ∙ go (g b && int_eq c d) (taken g c ts)
    where
      go : (t : Bool) (o : Option Terms) → cond t (Some (re_terms r ts)) (put d (re_atom r b) (option_map (re_terms r) o)) ≡ option_map (re_terms r) (cond t (Some ts) (put d b o))
      go true o = refl
      go false None = refl
      go false (Some us) = refl

  through : (us : Terms) (o : Option Terms) → ((ws : Terms) → same_terms (re_terms r us) (re_terms r ws) ≡ same_terms us ws) → if_left (option_map (re_terms r) o) (λ ws. same_terms (re_terms r us) ws) ≡ if_left o (λ ws. same_terms us ws)
  through us None h = refl
  through us (Some ws) h = h ws

  -- ---- what no variable decides

  pub re_scaled_terms : (z : ℤ) (ts : Terms) → re_terms r (terms_scaled z ts) ≡ terms_scaled z (re_terms r ts)
  re_scaled_terms z none = refl
  re_scaled_terms z (term c a ts) = ap (term (z *ℤ c) (re_atom r a)) (re_scaled_terms z ts)

  pub re_scaled : (z : ℤ) (l : Linear) → re_linear r (scaled z l) ≡ scaled z (re_linear r l)
  re_scaled z l = ap (λ ts. record { constant = z *ℤ l.constant; terms = ts }) (re_scaled_terms z l.terms)

  pub re_present : (ts : Terms) → re_terms r (present ts) ≡ present (re_terms r ts)
  re_present none = refl
  re_present (term c a ts) = go (int_eq c (pos 0)) (re_present ts)
    where
      go : (t : Bool) → re_terms r (present ts) ≡ present (re_terms r ts) → re_terms r (cond t (present ts) (term c a (present ts))) ≡ cond t (present (re_terms r ts)) (term c (re_atom r a) (present (re_terms r ts)))
      go true h = h
      go false h = ap (term c (re_atom r a)) h

  pub re_without_zeros : (l : Linear) → re_linear r (without_zeros l) ≡ without_zeros (re_linear r l)
  re_without_zeros l = ap (λ ts. record { constant = l.constant; terms = ts }) (re_present l.terms)

  re_divided : (z : ℤ) (ts : Terms) → re_terms r (divided z ts) ≡ divided z (re_terms r ts)
  re_divided z none = refl
  re_divided z (term c a ts) = go (divides z c) (re_divided z ts)
    where
      go : (t : Bool) → re_terms r (divided z ts) ≡ divided z (re_terms r ts) → re_terms r (cond t (term (int_div_euclid c z) a (divided z ts)) (divided z ts)) ≡ cond t (term (int_div_euclid c z) (re_atom r a) (divided z (re_terms r ts))) (divided z (re_terms r ts))
      go true h = ap (term (int_div_euclid c z) (re_atom r a)) h
      go false h = h

  re_undivided : (z : ℤ) (ts : Terms) → re_terms r (undivided z ts) ≡ undivided z (re_terms r ts)
  re_undivided z none = refl
  re_undivided z (term c a ts) = go (divides z c) (re_undivided z ts)
    where
      go : (t : Bool) → re_terms r (undivided z ts) ≡ undivided z (re_terms r ts) → re_terms r (cond t (undivided z ts) (term c a (undivided z ts))) ≡ cond t (undivided z (re_terms r ts)) (term c (re_atom r a) (undivided z (re_terms r ts)))
      go true h = h
      go false h = ap (term c (re_atom r a)) h

  re_quotient_of : (n : ℤ) (ts : Terms) (z : ℤ) → re_terms r (quotient_of n ts z) ≡ quotient_of n (re_terms r ts) z
  re_quotient_of n none z = refl
  re_quotient_of n (term c a ts) z = refl

  re_within : (bound : ℕ) (ts : Terms) → are_within bound (re_terms r ts) ≡ are_within bound ts
  re_within bound none = refl
  re_within bound (term c a ts) = ap (λ t. is_within bound c && t) (re_within bound ts)

  pub re_short : (l : Linear) → is_short_form (re_linear r l) ≡ is_short_form l
  re_short l = ap (λ t. is_within (2 ^ 62) l.constant && t) (re_within (2 ^ 62) l.terms)

  pub re_denied : (c : Constraint) → re_formula r (denied c) ≡ denied (re_constraint r c)
  re_denied (AtLeastZero l) = ap (λ k. Says (AtLeastZero (moved (pos 1) k))) (re_scaled (negsuc 0) l)
  re_denied (IsZero l) = ap (λ k. Either (Says (AtLeastZero (moved (pos 1) k))) (Says (AtLeastZero (moved (pos 1) (re_linear r l))))) (re_scaled (negsuc 0) l)

  pub re_negation : (f : Formula) → re_formula r (negation f) ≡ negation (re_formula r f)
  re_negation (Says c) = re_denied c
  re_negation (Both f g) = ap₂ Either (re_negation f) (re_negation g)
  re_negation (Either f g) = ap₂ Both (re_negation f) (re_negation g)

  -- ---- where different variables stay different

  module _ (apart : KeepsApart r) where
    mutual
      pub re_same_atom : (a b : Atom) → same_atom (re_atom r a) (re_atom r b) ≡ same_atom a b
      re_same_atom (Variable x) (Variable y) = apart x y
      re_same_atom (Variable x) (EntryField g j) = refl
      re_same_atom (Variable x) (UnknownField g j q) = refl
      re_same_atom (Variable x) (OpaqueStride y k) = refl
      re_same_atom (Variable x) (Quotient n ts c) = refl
      re_same_atom (EntryField f i) (Variable y) = refl
      re_same_atom (EntryField f i) (EntryField g j) = refl
      re_same_atom (EntryField f i) (UnknownField g j q) = refl
      re_same_atom (EntryField f i) (OpaqueStride y k) = refl
      re_same_atom (EntryField f i) (Quotient n ts c) = refl
      re_same_atom (UnknownField f i p) (Variable y) = refl
      re_same_atom (UnknownField f i p) (EntryField g j) = refl
      re_same_atom (UnknownField f i p) (UnknownField g j q) = refl
      re_same_atom (UnknownField f i p) (OpaqueStride y k) = refl
      re_same_atom (UnknownField f i p) (Quotient n ts c) = refl
      re_same_atom (OpaqueStride x i) (Variable y) = refl
      re_same_atom (OpaqueStride x i) (EntryField g j) = refl
      re_same_atom (OpaqueStride x i) (UnknownField g j q) = refl
      re_same_atom (OpaqueStride x i) (OpaqueStride y k) = refl
      re_same_atom (OpaqueStride x i) (Quotient n ts c) = refl
      re_same_atom (Quotient m us d) (Variable y) = refl
      re_same_atom (Quotient m us d) (EntryField g j) = refl
      re_same_atom (Quotient m us d) (UnknownField g j q) = refl
      re_same_atom (Quotient m us d) (OpaqueStride y k) = refl
      re_same_atom (Quotient m us d) (Quotient n ts c) = ap (λ t. (int_eq m n && int_eq d c) && t) (re_same_terms us ts)

      re_same_terms : (us ts : Terms) → same_terms (re_terms r us) (re_terms r ts) ≡ same_terms us ts
      re_same_terms none none = refl
      re_same_terms none (term d b ts) = refl
      re_same_terms (term c a us) ts = ap (λ o. if_left o (λ ws. same_terms (re_terms r us) ws)) (re_taken (same_atom (re_atom r a)) (same_atom a) c ts (re_same_atom a)) ∙ through us (taken (same_atom a) c ts) (re_same_terms us)

    re_with_term : (c : ℤ) (a : Atom) (ts : Terms) → re_terms r (with_term c a ts) ≡ with_term c (re_atom r a) (re_terms r ts)
    re_with_term c a none = refl
    re_with_term c a (term d b ts) = go (same_atom a b) (re_with_term c a ts) ∙ ap (λ t. cond t (term (c +ℤ d) (re_atom r b) (re_terms r ts)) (term d (re_atom r b) (with_term c (re_atom r a) (re_terms r ts)))) (sym (re_same_atom a b))
      where
        go : (t : Bool) → re_terms r (with_term c a ts) ≡ with_term c (re_atom r a) (re_terms r ts) → re_terms r (cond t (term (c +ℤ d) b ts) (term d b (with_term c a ts))) ≡ cond t (term (c +ℤ d) (re_atom r b) (re_terms r ts)) (term d (re_atom r b) (with_term c (re_atom r a) (re_terms r ts)))
        go true h = refl
        go false h = ap (term d (re_atom r b)) h

    pub re_terms_added : (ts us : Terms) → re_terms r (terms_added ts us) ≡ terms_added (re_terms r ts) (re_terms r us)
    re_terms_added ts none = refl
    re_terms_added ts (term c a us) = re_terms_added (with_term c a ts) us ∙ ap (λ ws. terms_added ws (re_terms r us)) (re_with_term c a ts)

    pub re_added : (k l : Linear) → re_linear r (added k l) ≡ added (re_linear r k) (re_linear r l)
    re_added k l = ap (λ ts. record { constant = k.constant +ℤ l.constant; terms = ts }) (re_terms_added k.terms l.terms)

    pub re_subtracted : (k l : Linear) → re_linear r (subtracted k l) ≡ subtracted (re_linear r k) (re_linear r l)
    re_subtracted k l = re_added k (scaled (negsuc 0) l) ∙ ap (added (re_linear r k)) (re_scaled (negsuc 0) l)

    pub re_quotient : (l : Linear) (z : ℤ) → re_linear r (quotient l z) ≡ quotient (re_linear r l) z
    re_quotient l z =
        let n = int_rem_euclid l.constant z in
        ap (λ ts. record { constant = int_div_euclid l.constant z; terms = ts })
        (re_terms_added (divided z l.terms) (quotient_of n (undivided z l.terms) z)
        ∙ ap₂ terms_added (re_divided z l.terms) (re_quotient_of n (undivided z l.terms) z ∙ ap (λ ts. quotient_of n ts z) (re_undivided z l.terms)))

    pub re_difference : (k l : Linear) → re_linear r (difference k l) ≡ difference (re_linear r k) (re_linear r l)
    re_difference k l = re_without_zeros (subtracted k l) ∙ ap without_zeros (re_subtracted k l)

    pub re_less : (k l : Linear) → re_formula r (less k l) ≡ less (re_linear r k) (re_linear r l)
    re_less k l = ap (λ d. Says (AtLeastZero (moved (pos 1) d))) (re_difference l k)

    pub re_at_most : (k l : Linear) → re_formula r (at_most k l) ≡ at_most (re_linear r k) (re_linear r l)
    re_at_most k l = ap (λ d. Says (AtLeastZero d)) (re_difference l k)

    pub re_equal : (k l : Linear) → re_formula r (equal k l) ≡ equal (re_linear r k) (re_linear r l)
    re_equal k l = ap (λ d. Says (IsZero d)) (re_difference k l)
