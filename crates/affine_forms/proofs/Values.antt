-- The values of sums, and of normal forms.
use Rattle.std.proofs.Common.{◌≡◌, ℕ, zero, suc, ◌-◌, ◌%◌, ◌<◌, ℤ, pos, negsuc, ◌+ℤ◌, ◌-ℤ◌, ◌*ℤ◌, neg_ℤ, ◌==◌, Bool, true, false, cond, ◌&&◌, [], ◌∷◌, Option, Some, None, arith, refl, sym, ap, ap₂, ◌∙◌, true≢false, eqb-true, eq-eqb}
use Rattle.std.proofs.lemmas.Int.{ints}
use Rattle.std.proofs.Math.Nat.{mod-lt}
use Rattle.std.proofs.Math.IntN.{*ℤ-zero}
use Rattle.std.specs.Int.{int_div_euclid}
use Rattle.std.specs.Ordering.{int_eq}
use Rattle.exo_tree.specs.Tree.{Kind, Size, Index, Truth, Stride}
use Rattle.exo_tree.specs.Places.{same_branch, same_step, same_path}
use Rattle.affine_forms.specs.Atoms.{same_kind, Atom, Variable, EntryField, UnknownField, OpaqueStride, Quotient, Terms, none, term, Linear, Valuation, atom_value, terms_value, value, taken, same_atom, same_terms, with_term, terms_added, added, terms_scaled, scaled, subtracted, present}
use Rattle.exo_tree.specs.Places.{Branch, Main, Else, Step, Path}
use Rattle.affine_forms.proofs.Integers.{add-times, times-add, times_assoc}

pub some_injective : {A : Type 0} (a b : A) → Some a ≡ Some b → a ≡ b
some_injective a b e = cc

pub none_some : {A : Type 0} {a : A} → None ≡ Some a → ⊥
none_some e = cc

pub and_parts : (a b : Bool) → (a && b) ≡ true → (a ≡ true) × (b ≡ true)
and_parts true b h = (refl, h)
and_parts false b h = absurd (true≢false (sym h))

pub int_eq_same : (a b : ℤ) → int_eq a b ≡ true → a ≡ b
int_eq_same a b h = grind (arith, ints)

pub int_eq_self : (a : ℤ) → int_eq a a ≡ true
int_eq_self a = grind (arith, ints)

-- ---- equal atoms

same_branch_is : (a b : Branch) → same_branch a b ≡ true → a ≡ b
same_branch_is Main Main h = refl
same_branch_is Else Else h = refl
same_branch_is Main Else h = absurd (true≢false (sym h))
same_branch_is Else Main h = absurd (true≢false (sym h))

same_branch_self : (a : Branch) → same_branch a a ≡ true
same_branch_self Main = refl
same_branch_self Else = refl

same_step_is : (s t : Step) → same_step s t ≡ true → s ≡ t
same_step_is s t h = let k = and_parts (same_branch s.branch t.branch) (s.index == t.index) h in ap₂ step (same_branch_is s.branch t.branch k.0) (eqb-true s.index t.index k.1)
  where
    step : Branch → ℕ → Step
    step b i = record { branch = b; index = i }

pub same_path_is : (p q : Path) → same_path p q ≡ true → p ≡ q
same_path_is [] [] h = refl
same_path_is [] (t ∷ q) h = absurd (true≢false (sym h))
same_path_is (s ∷ p) [] h = absurd (true≢false (sym h))
same_path_is (s ∷ p) (t ∷ q) h = let k = and_parts (same_step s t) (same_path p q) h in ap₂ (λ i r. i ∷ r) (same_step_is s t k.0) (same_path_is p q k.1)

pub same_path_self : (p : Path) → same_path p p ≡ true
same_path_self [] = refl
same_path_self (s ∷ p) = ap₂ (λ a b. a && b) (ap₂ (λ a b. a && b) (same_branch_self s.branch) (eq-eqb s.index s.index refl)) (same_path_self p)

pub same_kind_is : (a b : Kind) → same_kind a b ≡ true → a ≡ b
same_kind_is Size Size h = refl
same_kind_is Index Index h = refl
same_kind_is Truth Truth h = refl
same_kind_is Stride Stride h = refl
same_kind_is Size Index h = absurd (true≢false (sym h))
same_kind_is Size Truth h = absurd (true≢false (sym h))
same_kind_is Size Stride h = absurd (true≢false (sym h))
same_kind_is Index Size h = absurd (true≢false (sym h))
same_kind_is Index Truth h = absurd (true≢false (sym h))
same_kind_is Index Stride h = absurd (true≢false (sym h))
same_kind_is Truth Size h = absurd (true≢false (sym h))
same_kind_is Truth Index h = absurd (true≢false (sym h))
same_kind_is Truth Stride h = absurd (true≢false (sym h))
same_kind_is Stride Size h = absurd (true≢false (sym h))
same_kind_is Stride Index h = absurd (true≢false (sym h))
same_kind_is Stride Truth h = absurd (true≢false (sym h))

same_kind_self : (a : Kind) → same_kind a a ≡ true
same_kind_self Size = refl
same_kind_self Index = refl
same_kind_self Truth = refl
same_kind_self Stride = refl

module _ (v : Valuation) where
  -- what is taken has its value
  taken_value : (is_it : Atom → Bool) (z c : ℤ) (ts us : Terms) → ((b : Atom) → is_it b ≡ true → atom_value v b ≡ z) → taken is_it c ts ≡ Some us → terms_value v ts ≡ (c *ℤ z) +ℤ terms_value v us
  taken_value is_it z c none us k e = absurd (none_some e)
  taken_value is_it z c (term d b ts) us k e = go (λ ws f. taken_value is_it z c ts ws k f) (is_it b && int_eq c d) refl e
    where
      rest : ((ws : Terms) → taken is_it c ts ≡ Some ws → terms_value v ts ≡ (c *ℤ z) +ℤ terms_value v ws) → (o : Option Terms) → taken is_it c ts ≡ o → elim o [ None ↦ None | Some ws ↦ Some (term d b ws) ] ≡ Some us → terms_value v (term d b ts) ≡ (c *ℤ z) +ℤ terms_value v us
      rest again None f g = absurd (none_some g)
      rest again (Some ws) f g =
          let here = again ws f in
          let is : terms_value v (term d b ws) ≡ terms_value v us = ap (terms_value v) (some_injective (term d b ws) us g) in
          omega (arith, ints, here, is)

      go : ((ws : Terms) → taken is_it c ts ≡ Some ws → terms_value v ts ≡ (c *ℤ z) +ℤ terms_value v ws) → (t : Bool) → (is_it b && int_eq c d) ≡ t → cond t (Some ts) (elim (taken is_it c ts) [ None ↦ None | Some ws ↦ Some (term d b ws) ]) ≡ Some us → terms_value v (term d b ts) ≡ (c *ℤ z) +ℤ terms_value v us
      go again true f g =
          let both = and_parts (is_it b) (int_eq c d) f in
          ap₂ (λ x y. (x *ℤ y) +ℤ terms_value v ts) (sym (int_eq_same c d both.1)) (k b both.0) ∙ ap (λ ws. (c *ℤ z) +ℤ terms_value v ws) (some_injective ts us g)
      go again false f g = rest again (taken is_it c ts) refl g

  same_taken_value : (c : ℤ) (a : Atom) (us ts : Terms) (o : Option Terms) → taken (same_atom a) c ts ≡ o → ((b : Atom) → same_atom a b ≡ true → atom_value v b ≡ atom_value v a) → ((ts : Terms) → same_terms us ts ≡ true → terms_value v ts ≡ terms_value v us) → elim o [ None ↦ false | Some ws ↦ same_terms us ws ] ≡ true → terms_value v ts ≡ terms_value v (term c a us)
  same_taken_value c a us ts None e p q h = absurd (true≢false (sym h))
  same_taken_value c a us ts (Some ws) e p q h = taken_value (same_atom a) (atom_value v a) c ts ws p e ∙ ap (λ x. (c *ℤ atom_value v a) +ℤ x) (q ws h)

  mutual
    pub same_value : (a b : Atom) → same_atom a b ≡ true → atom_value v b ≡ atom_value v a
    same_value (Variable x) (Variable y) h = ap v.variable (sym (eqb-true x y h))
    same_value (Variable x) (EntryField g j) h = absurd (true≢false (sym h))
    same_value (Variable x) (UnknownField g j q) h = absurd (true≢false (sym h))
    same_value (Variable x) (OpaqueStride y k) h = absurd (true≢false (sym h))
    same_value (Variable x) (Quotient n ts c) h = absurd (true≢false (sym h))
    same_value (EntryField f kind) (Variable y) h = absurd (true≢false (sym h))
    same_value (EntryField f kind) (EntryField g j) h = let k = and_parts (f == g) (same_kind kind j) h in ap₂ v.entry (sym (eqb-true f g k.0)) (sym (same_kind_is kind j k.1))
    same_value (EntryField f kind) (UnknownField g j q) h = absurd (true≢false (sym h))
    same_value (EntryField f kind) (OpaqueStride y k) h = absurd (true≢false (sym h))
    same_value (EntryField f kind) (Quotient n ts c) h = absurd (true≢false (sym h))
    same_value (UnknownField f kind p) (Variable y) h = absurd (true≢false (sym h))
    same_value (UnknownField f kind p) (EntryField g j) h = absurd (true≢false (sym h))
    same_value (UnknownField f kind p) (UnknownField g j q) h =
        let k = and_parts ((f == g) && same_kind kind j) (same_path p q) h in
        let i = and_parts (f == g) (same_kind kind j) k.0 in
        ap₂ (λ x y. v.unknown x y q) (sym (eqb-true f g i.0)) (sym (same_kind_is kind j i.1)) ∙ ap (v.unknown f kind) (sym (same_path_is p q k.1))
    same_value (UnknownField f kind p) (OpaqueStride y k) h = absurd (true≢false (sym h))
    same_value (UnknownField f kind p) (Quotient n ts c) h = absurd (true≢false (sym h))
    same_value (OpaqueStride x j) (Variable y) h = absurd (true≢false (sym h))
    same_value (OpaqueStride x j) (EntryField g i) h = absurd (true≢false (sym h))
    same_value (OpaqueStride x j) (UnknownField g i q) h = absurd (true≢false (sym h))
    same_value (OpaqueStride x j) (OpaqueStride y k) h = let z = and_parts (x == y) (j == k) h in ap₂ v.stride (sym (eqb-true x y z.0)) (sym (eqb-true j k z.1))
    same_value (OpaqueStride x j) (Quotient n ts c) h = absurd (true≢false (sym h))
    same_value (Quotient m us d) (Variable y) h = absurd (true≢false (sym h))
    same_value (Quotient m us d) (EntryField g j) h = absurd (true≢false (sym h))
    same_value (Quotient m us d) (UnknownField g j q) h = absurd (true≢false (sym h))
    same_value (Quotient m us d) (OpaqueStride y k) h = absurd (true≢false (sym h))
    same_value (Quotient m us d) (Quotient n ts c) h =
        let k = and_parts (int_eq m n && int_eq d c) (same_terms us ts) h in
        let j = and_parts (int_eq m n) (int_eq d c) k.0 in
        ap₂ int_div_euclid (ap₂ ◌+ℤ◌ (sym (int_eq_same m n j.0)) (same_terms_value us ts k.1)) (sym (int_eq_same d c j.1))

    pub same_terms_value : (us ts : Terms) → same_terms us ts ≡ true → terms_value v ts ≡ terms_value v us
    same_terms_value none none h = refl
    same_terms_value none (term d b ts) h = absurd (true≢false (sym h))
    same_terms_value (term c a us) ts h = same_taken_value c a us ts (taken (same_atom a) c ts) refl (same_value a) (same_terms_value us) h

mutual
  pub same_self : (a : Atom) → same_atom a a ≡ true
  same_self (Variable x) = eq-eqb x x refl
  same_self (EntryField f kind) = ap₂ (λ a b. a && b) (eq-eqb f f refl) (same_kind_self kind)
  same_self (UnknownField f kind p) = ap₂ (λ a b. a && b) (ap₂ (λ a b. a && b) (eq-eqb f f refl) (same_kind_self kind)) (same_path_self p)
  same_self (OpaqueStride x k) = ap₂ (λ a b. a && b) (eq-eqb x x refl) (eq-eqb k k refl)
  same_self (Quotient n ts c) = ap₂ (λ a b. a && b) (ap₂ (λ a b. a && b) (int_eq_self n) (int_eq_self c)) (same_terms_self ts)

  same_terms_self : (ts : Terms) → same_terms ts ts ≡ true
  same_terms_self none = refl
  same_terms_self (term c a ts) = ap (λ o. elim o [ None ↦ false | Some us ↦ same_terms ts us ]) (ap (λ t. cond t (Some ts) (elim (taken (same_atom a) c ts) [ None ↦ None | Some us ↦ Some (term c a us) ])) (ap₂ (λ a b. a && b) (same_self a) (int_eq_self c))) ∙ same_terms_self ts

-- ---- sums

module _ (v : Valuation) where
  with_term_value : (c : ℤ) (a : Atom) (ts : Terms) → terms_value v (with_term c a ts) ≡ (c *ℤ atom_value v a) +ℤ terms_value v ts
  with_term_value c a none = refl
  with_term_value c a (term d b ts) = go (with_term_value c a ts) (same_atom a b) refl
    where
      go : terms_value v (with_term c a ts) ≡ (c *ℤ atom_value v a) +ℤ terms_value v ts → (t : Bool) → same_atom a b ≡ t → terms_value v (cond t (term (c +ℤ d) b ts) (term d b (with_term c a ts))) ≡ (c *ℤ atom_value v a) +ℤ terms_value v (term d b ts)
      go rest true e =
          let is : c *ℤ atom_value v b ≡ c *ℤ atom_value v a = ap (λ z. c *ℤ z) (same_value v a b e) in
          omega (arith, ints, add-times c d (atom_value v b), is)
      go rest false e = omega (arith, ints, rest)

  pub terms_added_value : (ts us : Terms) → terms_value v (terms_added ts us) ≡ terms_value v ts +ℤ terms_value v us
  terms_added_value ts none = omega (arith, ints)
  terms_added_value ts (term c a us) = omega (arith, ints, terms_added_value (with_term c a ts) us, with_term_value c a ts)

  pub added_value : (k l : Linear) → value v (added k l) ≡ value v k +ℤ value v l
  added_value k l = omega (arith, ints, terms_added_value k.terms l.terms)

  terms_scaled_value : (z : ℤ) (ts : Terms) → terms_value v (terms_scaled z ts) ≡ z *ℤ terms_value v ts
  terms_scaled_value z none = omega (arith, ints, *ℤ-zero z)
  terms_scaled_value z (term c a ts) = omega (arith, ints, terms_scaled_value z ts, times_assoc z c (atom_value v a), times-add z (c *ℤ atom_value v a) (terms_value v ts))

  pub scaled_value : (z : ℤ) (l : Linear) → value v (scaled z l) ≡ z *ℤ value v l
  scaled_value z l = omega (arith, ints, terms_scaled_value z l.terms, times-add z l.constant (terms_value v l.terms))

  pub negated_value : (l : Linear) → value v (scaled (negsuc 0) l) ≡ neg_ℤ (value v l)
  negated_value l = omega (arith, ints, scaled_value (negsuc 0) l)

  pub subtracted_value : (k l : Linear) → value v (subtracted k l) ≡ value v k -ℤ value v l
  subtracted_value k l = omega (arith, ints, added_value k (scaled (negsuc 0) l), negated_value l)

  pub present_value : (ts : Terms) → terms_value v (present ts) ≡ terms_value v ts
  present_value none = refl
  present_value (term c a ts) = go (present_value ts) (int_eq c (pos 0)) refl
    where
      go : terms_value v (present ts) ≡ terms_value v ts → (t : Bool) → int_eq c (pos 0) ≡ t → terms_value v (cond t (present ts) (term c a (present ts))) ≡ (c *ℤ atom_value v a) +ℤ terms_value v ts
      go rest true e =
          let is : c *ℤ atom_value v a ≡ pos 0 *ℤ atom_value v a = ap (λ z. z *ℤ atom_value v a) (int_eq_same c (pos 0) e) in
          omega (arith, ints, rest, is)
      go rest false e = omega (arith, ints, rest)

-- ---- quotients

-- a number is g times its quotient and a remainder below g
pub quotient_floor : (k : ℤ) (g : ℕ) → 0 < g → (r : ℕ) × (r < g) × (k ≡ (pos g *ℤ int_div_euclid k (pos g)) +ℤ pos r)
quotient_floor (pos a) g h = (a % g, mod-lt a h, omega (arith, ints))
quotient_floor (negsuc a) g h =
    let less = mod-lt a h in
    (g - 1 - a % g, omega arith, omega (arith, ints))

-- two ways to write a number as a multiple and a remainder
pub same_quotient : (g r s : ℕ) (q p : ℤ) → r < g → s < g → (pos g *ℤ q) +ℤ pos r ≡ (pos g *ℤ p) +ℤ pos s → q ≡ p
same_quotient g r s q p l m e = go (q -ℤ p) (let d : q ≡ p +ℤ (q -ℤ p) = omega (arith, ints) in d)
  where
    by : (z : ℤ) → q ≡ p +ℤ z → (pos g *ℤ z) +ℤ pos r ≡ pos s → q ≡ p
    by (pos zero) d f = omega (arith, ints, d)
    by (pos (suc n)) d f = absurd (omega (arith, ints, f, l, m))
    by (negsuc n) d f = absurd (omega (arith, ints, f, l, m))

    go : (z : ℤ) → q ≡ p +ℤ z → q ≡ p
    go z d =
        let parts : pos g *ℤ q ≡ (pos g *ℤ p) +ℤ (pos g *ℤ z) = ap (λ y. pos g *ℤ y) d ∙ times-add (pos g) p z in
        by z d (omega (arith, ints, e, parts))

-- a multiple of the divisor goes out of a quotient
pub shifted : (g : ℕ) (m k : ℤ) → 0 < g → int_div_euclid ((pos g *ℤ m) +ℤ k) (pos g) ≡ m +ℤ int_div_euclid k (pos g)
shifted g m k h =
    let a = quotient_floor ((pos g *ℤ m) +ℤ k) g h in
    let b = quotient_floor k g h in
    same_quotient g a.0 b.0 (int_div_euclid ((pos g *ℤ m) +ℤ k) (pos g)) (m +ℤ int_div_euclid k (pos g)) a.1 b.1 (omega (arith, ints, a.2, b.2, times-add (pos g) m (int_div_euclid k (pos g))))
