-- The normal form has the value of its expression.
use Rattle.std.proofs.Common.{◌≡◌, ℕ, zero, suc, ◌<◌, ℤ, pos, negsuc, ◌+ℤ◌, ◌-ℤ◌, ◌*ℤ◌, neg_ℤ, Bool, true, false, cond, ◌&&◌, ◌||◌, arith, refl, sym, ap, ap₂, ◌∙◌, true≢false}
use Rattle.std.proofs.lemmas.Int.{ints}
use Rattle.std.proofs.Math.Nat.{mod-lt}
use Rattle.std.proofs.Math.IntN.{*ℤ-zero, *ℤ_comm}
use Rattle.std.specs.Int.{int_div_euclid, int_rem_euclid, is_positive}
use Rattle.exo_tree.specs.Tree.{Control, Lit, Var, Field, StrideOf, Neg, Add, Sub, Mul, Div, Mod}
use Rattle.exo_meaning.specs.Scene.{Scene, number}
use Rattle.affine_forms.specs.Atoms.{Terms, none, term, Linear, Valuation, atom_value, terms_value, value, terms_added, terms_scaled, scaled, divides, divided, undivided, quotient_of, quotient}
use Rattle.exo_meaning.specs.Units.{is_of_literals}
use Rattle.affine_forms.specs.Forms.{Reading, Allowed, is_affine, times, form}
use Rattle.affine_forms.specs.Laws.{ReadsAt, NormalLaw}
use Rattle.affine_forms.proofs.Integers.{times-add, times_assoc}
use Rattle.affine_forms.proofs.Values.{and_parts, int_eq_same, terms_added_value, added_value, scaled_value, negated_value, subtracted_value, present_value, shifted}

-- a number is its quotient's multiple and its remainder
parts : (k : ℤ) (g : ℕ) → 0 < g → k ≡ (pos g *ℤ int_div_euclid k (pos g)) +ℤ int_rem_euclid k (pos g)
parts (pos a) g h = omega (arith, ints)
parts (negsuc a) g h =
    let less = mod-lt a h in
    omega (arith, ints, less)

remainder_floor : (k : ℤ) (g : ℕ) → 0 < g → int_div_euclid (int_rem_euclid k (pos g)) (pos g) ≡ pos 0
remainder_floor k g h =
    let r = int_rem_euclid k (pos g) in
    let a = shifted g (int_div_euclid k (pos g)) r h in
    let b : int_div_euclid k (pos g) ≡ int_div_euclid ((pos g *ℤ int_div_euclid k (pos g)) +ℤ r) (pos g) = ap (λ z. int_div_euclid z (pos g)) (parts k g h) in
    omega (arith, ints, a, b)

module _ (v : Valuation) (g : ℕ) (h : 0 < g) where
  -- the terms in two parts
  parted : (ts : Terms) → terms_value v ts ≡ (pos g *ℤ terms_value v (divided (pos g) ts)) +ℤ terms_value v (undivided (pos g) ts)
  parted none = omega (arith, ints, *ℤ-zero (pos g))
  parted (term d a ts) = go (parted ts) (divides (pos g) d) refl
    where
      go : terms_value v ts ≡ (pos g *ℤ terms_value v (divided (pos g) ts)) +ℤ terms_value v (undivided (pos g) ts) → (t : Bool) → divides (pos g) d ≡ t → terms_value v (term d a ts) ≡ (pos g *ℤ terms_value v (cond t (term (int_div_euclid d (pos g)) a (divided (pos g) ts)) (divided (pos g) ts))) +ℤ terms_value v (cond t (undivided (pos g) ts) (term d a (undivided (pos g) ts)))
      go rest true e =
          let no_rest = int_eq_same (int_rem_euclid d (pos g)) (pos 0) e in
          let whole : d ≡ pos g *ℤ int_div_euclid d (pos g) = omega (arith, ints, parts d g h, no_rest) in
          let here : d *ℤ atom_value v a ≡ pos g *ℤ (int_div_euclid d (pos g) *ℤ atom_value v a) = ap (λ z. z *ℤ atom_value v a) whole ∙ times_assoc (pos g) (int_div_euclid d (pos g)) (atom_value v a) in
          omega (arith, ints, here, rest, times-add (pos g) (int_div_euclid d (pos g) *ℤ atom_value v a) (terms_value v (divided (pos g) ts)))
      go rest false e = omega (arith, ints, rest)

  quotient_of_value : (k : ℤ) (ts : Terms) → terms_value v (quotient_of (int_rem_euclid k (pos g)) ts (pos g)) ≡ int_div_euclid (int_rem_euclid k (pos g) +ℤ terms_value v ts) (pos g)
  quotient_of_value k none =
      let is : int_div_euclid (int_rem_euclid k (pos g) +ℤ pos 0) (pos g) ≡ int_div_euclid (int_rem_euclid k (pos g)) (pos g) = ap (λ z. int_div_euclid z (pos g)) (let e : int_rem_euclid k (pos g) +ℤ pos 0 ≡ int_rem_euclid k (pos g) = omega (arith, ints) in e) in
      omega (arith, ints, is, remainder_floor k g h)
  quotient_of_value k (term d a ts) = omega (arith, ints)

  quotient_value : (l : Linear) → value v (quotient l (pos g)) ≡ int_div_euclid (value v l) (pos g)
  quotient_value l =
      let q = int_div_euclid l.constant (pos g) in
      let out = terms_value v (divided (pos g) l.terms) in
      let rest = int_rem_euclid l.constant (pos g) +ℤ terms_value v (undivided (pos g) l.terms) in
      let whole : value v l ≡ (pos g *ℤ (q +ℤ out)) +ℤ rest = omega (arith, ints, parts l.constant g h, parted l.terms, times-add (pos g) q out) in
      let moved = shifted g (q +ℤ out) rest h in
      let same : int_div_euclid (value v l) (pos g) ≡ int_div_euclid ((pos g *ℤ (q +ℤ out)) +ℤ rest) (pos g) = ap (λ z. int_div_euclid z (pos g)) whole in
      omega (arith, ints, same, moved, terms_added_value v (divided (pos g) l.terms) (quotient_of (int_rem_euclid l.constant (pos g)) (undivided (pos g) l.terms) (pos g)), quotient_of_value l.constant (undivided (pos g) l.terms))

-- ---- expressions

-- what is built of literals alone has no terms
pub literal_terms : (at : Reading) (e : Control) → is_of_literals e ≡ true → (form at e).terms ≡ none
literal_terms at (Lit n) h = refl
literal_terms at (Var x) h = absurd (true≢false (sym h))
literal_terms at (Field f) h = absurd (true≢false (sym h))
literal_terms at (StrideOf x k) h = absurd (true≢false (sym h))
literal_terms at (Neg a) h = ap (terms_scaled (negsuc 0)) (literal_terms at a h)
literal_terms at (Add a b) h = let k = and_parts (is_of_literals a) (is_of_literals b) h in ap₂ terms_added (literal_terms at a k.0) (literal_terms at b k.1)
literal_terms at (Sub a b) h = let k = and_parts (is_of_literals a) (is_of_literals b) h in ap₂ (λ s t. terms_added s (terms_scaled (negsuc 0) t)) (literal_terms at a k.0) (literal_terms at b k.1)
literal_terms at (Mul a b) h = let k = and_parts (is_of_literals a) (is_of_literals b) h in ap (λ t. (times t (form at a) (form at b)).terms) k.0 ∙ ap (terms_scaled (form at a).constant) (literal_terms at b k.1)
literal_terms at (Div a c) h = ap (λ ts. terms_added (divided c ts) (quotient_of (int_rem_euclid (form at a).constant c) (undivided c ts) c)) (literal_terms at a h)
literal_terms at (Mod a c) h = ap (λ ts. terms_added ts (terms_scaled (negsuc 0) (terms_scaled c (terms_added (divided c ts) (quotient_of (int_rem_euclid (form at a).constant c) (undivided c ts) c))))) (literal_terms at a h)

module _ (may : Allowed) (v : Valuation) (at : Reading) (scene : Scene) (reads : ReadsAt may v at scene) where
  constant_value : (e : Control) → is_of_literals e ≡ true → value v (form at e) ≡ (form at e).constant
  constant_value e h =
      let none_left : terms_value v (form at e).terms ≡ pos 0 = ap (terms_value v) (literal_terms at e h) in
      omega (arith, ints, none_left)

  times_value : (a b : Control) → (is_of_literals a || is_of_literals b) ≡ true → value v (times (is_of_literals a) (form at a) (form at b)) ≡ value v (form at a) *ℤ value v (form at b)
  times_value a b h = go (is_of_literals a) refl h
    where
      go : (t : Bool) → is_of_literals a ≡ t → (t || is_of_literals b) ≡ true → value v (times t (form at a) (form at b)) ≡ value v (form at a) *ℤ value v (form at b)
      go true e k = scaled_value v (form at a).constant (form at b) ∙ ap (λ z. z *ℤ value v (form at b)) (sym (constant_value a e))
      go false e k = scaled_value v (form at b).constant (form at a) ∙ *ℤ_comm (form at b).constant (value v (form at a)) ∙ ap (λ z. value v (form at a) *ℤ z) (sym (constant_value b k))

  div_value : (a : Control) (c : ℤ) → is_positive c ≡ true → value v (quotient (form at a) c) ≡ int_div_euclid (value v (form at a)) c
  div_value a (pos g) h = quotient_value v g (positive g h) (form at a)
    where
      positive : (g : ℕ) → is_positive (pos g) ≡ true → 0 < g
      positive zero e = absurd (true≢false (sym e))
      positive (suc g) e = omega arith
  div_value a (negsuc g) h = absurd (true≢false (sym h))

  rem_is : (k c : ℤ) → is_positive c ≡ true → int_rem_euclid k c ≡ k -ℤ (c *ℤ int_div_euclid k c)
  rem_is k (pos zero) h = absurd (true≢false (sym h))
  rem_is k (pos (suc g)) h = let p = parts k (suc g) (omega arith) in omega (arith, ints, p)
  rem_is k (negsuc g) h = absurd (true≢false (sym h))

  pub form_value : (e : Control) → is_affine may e ≡ true → value v (form at e) ≡ number scene e
  form_value (Lit n) h = omega (arith, ints)
  form_value (Var x) h = reads.variables x h
  form_value (Field f) h = reads.fields f h
  form_value (StrideOf x k) h = reads.strides x k h
  form_value (Neg a) h = negated_value v (form at a) ∙ ap neg_ℤ (form_value a h)
  form_value (Add a b) h = let k = and_parts (is_affine may a) (is_affine may b) h in added_value v (form at a) (form at b) ∙ ap₂ ◌+ℤ◌ (form_value a k.0) (form_value b k.1)
  form_value (Sub a b) h = let k = and_parts (is_affine may a) (is_affine may b) h in subtracted_value v (form at a) (form at b) ∙ ap₂ ◌-ℤ◌ (form_value a k.0) (form_value b k.1)
  form_value (Mul a b) h =
      let k = and_parts (is_of_literals a || is_of_literals b) (is_affine may a && is_affine may b) h in
      let j = and_parts (is_affine may a) (is_affine may b) k.1 in
      times_value a b k.0 ∙ ap₂ ◌*ℤ◌ (form_value a j.0) (form_value b j.1)
  form_value (Div a c) h = let k = and_parts (is_positive c) (is_affine may a) h in div_value a c k.0 ∙ ap (λ z. int_div_euclid z c) (form_value a k.1)
  form_value (Mod a c) h =
      let k = and_parts (is_positive c) (is_affine may a) h in
      subtracted_value v (form at a) (scaled c (quotient (form at a) c))
      ∙ ap (λ z. value v (form at a) -ℤ z) (scaled_value v c (quotient (form at a) c) ∙ ap (λ z. c *ℤ z) (div_value a c k.0))
      ∙ sym (rem_is (value v (form at a)) c k.0)
      ∙ ap (λ z. int_rem_euclid z c) (form_value a k.1)

pub normal_law : NormalLaw
normal_law may v at scene e reads h = ap (λ z. (form at e).constant +ℤ z) (present_value v (form at e).terms) ∙ form_value may v at scene reads e h
