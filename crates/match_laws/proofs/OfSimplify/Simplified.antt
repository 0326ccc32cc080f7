-- A sum that is written out has the sum's value, and a simplified expression the number of its own.
use Rattle.std.proofs.Common.{◌≡◌, ℕ, suc, ◌==◌, ℤ, pos, negsuc, ◌+ℤ◌, ◌-ℤ◌, ◌*ℤ◌, neg_ℤ}
use Rattle.std.proofs.Common.{Bool, true, false, cond, ◌&&◌, ◌||◌, not, arith, refl, sym, ap, ap₂}
use Rattle.std.proofs.Common.{◌∙◌, true≢false, eqb-true}
use Rattle.std.proofs.lemmas.Int.{ints}
use Rattle.std.specs.Int.{int_div_euclid, int_rem_euclid, is_positive}
use Rattle.exo_tree.specs.Tree.{Control, Lit, Var, Field, StrideOf, Neg, Add, Sub, Mul, Div, Mod}
use Rattle.exo_meaning.specs.Scene.{Scene, number}
use Rattle.exo_meaning.specs.Units.{is_of_literals}
use Rattle.affine_forms.specs.Atoms.{Atom, Variable, EntryField, UnknownField, OpaqueStride}
use Rattle.affine_forms.specs.Atoms.{Quotient, Terms, none, term, atom_value, terms_value}
use Rattle.affine_forms.specs.Forms.{Reading, Allowed, is_affine, normal}
use Rattle.affine_forms.specs.Laws.{ReadsAt}
use Rattle.affine_forms.proofs.Integers.{add-times}
use Rattle.affine_forms.proofs.Values.{and_parts}
use Rattle.affine_forms.proofs.NormalForm.{normal_law}
use Rattle.match_laws.specs.Simplify.Simplified.{is_quotient, is_without_quotients, literal, atom_written}
use Rattle.match_laws.specs.Simplify.Simplified.{weighed, first_written, term_joined, terms_joined}
use Rattle.match_laws.specs.Simplify.Simplified.{constant_joined, sum_written, written, written_or}
use Rattle.match_laws.specs.Simplify.Simplified.{simplified, values_in, WrittenLaw, SimplifiedLaw}

once : (x : ℤ) → pos 1 *ℤ x ≡ x
once x = omega (arith, ints)

opposite : (x : ℤ) → negsuc 0 *ℤ x ≡ neg_ℤ x
opposite x = omega (arith, ints)

-- a negative number of times
times_below : (n : ℕ) (x : ℤ) → negsuc n *ℤ x ≡ neg_ℤ (pos (suc n) *ℤ x)
times_below n x =
    let sum = add-times (negsuc n) (pos (suc n)) x in
    let nothing : negsuc n +ℤ pos (suc n) ≡ pos 0 = omega (arith, ints) in
    let is : (negsuc n +ℤ pos (suc n)) *ℤ x ≡ pos 0 *ℤ x = ap (λ z. z *ℤ x) nothing in
    omega (arith, ints, sum, is)

is_not : (b : Bool) → not b ≡ true → b ≡ false
is_not false h = refl
is_not true h = sym h

module _ (scene : Scene) where
  literal_number : (n : ℤ) → number scene (literal n) ≡ n
  literal_number (pos n) = refl
  literal_number (negsuc n) = omega (arith, ints)

  atom_number : (a : Atom) → is_quotient a ≡ false
      → number scene (atom_written a) ≡ atom_value (values_in scene) a
  atom_number (Variable x) h = refl
  atom_number (EntryField f kind) h = refl
  atom_number (UnknownField f kind path) h = refl
  atom_number (OpaqueStride x k) h = refl
  atom_number (Quotient n ts c) h = absurd (true≢false h)

  weighed_number : (c : ℕ) (v : Control) → number scene (weighed c v) ≡ pos c *ℤ number scene v
  weighed_number c v = go (c == 1) refl
    where
      go : (t : Bool) → (c == 1) ≡ t
          → number scene (cond t v (Mul (Lit (pos c)) v)) ≡ pos c *ℤ number scene v
      go true e = sym (ap (λ n. pos n *ℤ number scene v) (eqb-true c 1 e) ∙ once (number scene v))
      go false e = refl

  first_number : (c : ℤ) (v : Control) → number scene (first_written c v) ≡ c *ℤ number scene v
  first_number (pos c) v = weighed_number c v
  first_number (negsuc c) v = go (c == 0) refl
    where
      go : (t : Bool) → (c == 0) ≡ t
          → number scene (cond t (Neg v) (Mul (Neg (Lit (pos (suc c)))) v))
          ≡ negsuc c *ℤ number scene v
      go true e = sym (ap (λ n. negsuc n *ℤ number scene v) (eqb-true c 0 e)
          ∙ opposite (number scene v))
      go false e = ap (λ z. z *ℤ number scene v) (literal_number (negsuc c))

  joined_number : (e : Control) (c : ℤ) (v : Control)
      → number scene (term_joined e c v) ≡ number scene e +ℤ (c *ℤ number scene v)
  joined_number e (pos c) v = ap (λ z. number scene e +ℤ z) (weighed_number c v)
  joined_number e (negsuc c) v =
      let w = weighed_number (suc c) v in
      let b = times_below c (number scene v) in
      ap (λ z. number scene e -ℤ z) w ∙ minus (number scene e) (pos (suc c) *ℤ number scene v)
      ∙ ap (λ z. number scene e +ℤ z) (sym b)
    where
      minus : (x y : ℤ) → x -ℤ y ≡ x +ℤ neg_ℤ y
      minus x y = omega (arith, ints)

  terms_number : (e : Control) (ts : Terms) → is_without_quotients ts ≡ true
      → number scene (terms_joined e ts) ≡ number scene e +ℤ terms_value (values_in scene) ts
  terms_number e none h = omega (arith, ints)
  terms_number e (term c a ts) h =
      let k = and_parts (not (is_quotient a)) (is_without_quotients ts) h in
      let rest = terms_number (term_joined e c (atom_written a)) ts k.1 in
      let one = joined_number e c (atom_written a) in
      let here = ap (λ z. c *ℤ z) (atom_number a (is_not (is_quotient a) k.0)) in
      omega (arith, ints, rest, one, here)

  constant_number : (e : Control) (n : ℤ)
      → number scene (constant_joined e n) ≡ number scene e +ℤ n
  constant_number e (pos n) = go (n == 0) refl
    where
      go : (t : Bool) → (n == 0) ≡ t
          → number scene (cond t e (Add e (Lit (pos n)))) ≡ number scene e +ℤ pos n
      go true k = let z = eqb-true n 0 k in omega (arith, ints, z)
      go false k = refl
  constant_number e (negsuc n) = omega (arith, ints)

  sum_number : (n : ℤ) (ts : Terms) → is_without_quotients ts ≡ true
      → number scene (sum_written n ts) ≡ n +ℤ terms_value (values_in scene) ts
  sum_number n none h = let k = literal_number n in omega (arith, ints, k)
  sum_number n (term c a ts) h =
      let k = and_parts (not (is_quotient a)) (is_without_quotients ts) h in
      let last = constant_number (terms_joined (first_written c (atom_written a)) ts) n in
      let rest = terms_number (first_written c (atom_written a)) ts k.1 in
      let one = first_number c (atom_written a) in
      let here = ap (λ z. c *ℤ z) (atom_number a (is_not (is_quotient a) k.0)) in
      omega (arith, ints, last, rest, one, here)

pub written_law : WrittenLaw
written_law scene l h = sum_number scene l.constant l.terms h

module _ (may : Allowed) (at : Reading) (scene : Scene)
    (reads : ReadsAt may (values_in scene) at scene) where
  one_of : (e kept : Control) → is_affine may e ≡ true → number scene kept ≡ number scene e
      → number scene (written_or (normal at e) kept) ≡ number scene e
  one_of e kept h same = go (is_without_quotients (normal at e).terms) refl
    where
      go : (t : Bool) → is_without_quotients (normal at e).terms ≡ t
          → number scene (cond t (written (normal at e)) kept) ≡ number scene e
      go true k = written_law scene (normal at e) k
          ∙ normal_law may (values_in scene) at scene e reads h
      go false k = same

  same_number : (e : Control) → is_affine may e ≡ true
      → number scene (simplified at e) ≡ number scene e
  same_number (Lit n) h = one_of (Lit n) (Lit n) h refl
  same_number (Var x) h = one_of (Var x) (Var x) h refl
  same_number (Field f) h = one_of (Field f) (Field f) h refl
  same_number (StrideOf x k) h = one_of (StrideOf x k) (StrideOf x k) h refl
  same_number (Neg a) h =
      one_of (Neg a) (Neg (simplified at a)) h (ap neg_ℤ (same_number a h))
  same_number (Add a b) h =
      let k = and_parts (is_affine may a) (is_affine may b) h in
      one_of (Add a b) (Add (simplified at a) (simplified at b)) h
      (ap₂ ◌+ℤ◌ (same_number a k.0) (same_number b k.1))
  same_number (Sub a b) h =
      let k = and_parts (is_affine may a) (is_affine may b) h in
      one_of (Sub a b) (Sub (simplified at a) (simplified at b)) h
      (ap₂ ◌-ℤ◌ (same_number a k.0) (same_number b k.1))
  same_number (Mul a b) h =
      let j = and_parts (is_of_literals a || is_of_literals b)
      (is_affine may a && is_affine may b) h in
      let k = and_parts (is_affine may a) (is_affine may b) j.1 in
      one_of (Mul a b) (Mul (simplified at a) (simplified at b)) h
      (ap₂ ◌*ℤ◌ (same_number a k.0) (same_number b k.1))
  same_number (Div a c) h =
      let k = and_parts (is_positive c) (is_affine may a) h in
      one_of (Div a c) (Div (simplified at a) c) h
      (ap (λ n. int_div_euclid n c) (same_number a k.1))
  same_number (Mod a c) h =
      let k = and_parts (is_positive c) (is_affine may a) h in
      one_of (Mod a c) (Mod (simplified at a) c) h
      (ap (λ n. int_rem_euclid n c) (same_number a k.1))

pub simplified_law : SimplifiedLaw
simplified_law may at scene e reads h = same_number may at scene reads e h
