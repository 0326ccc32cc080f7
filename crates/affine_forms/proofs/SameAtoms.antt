-- Equality of atoms, and of sums in any order, is an equivalence.
use Rattle.std.proofs.Common.{◌≡◌, ℕ, ℤ, ◌==◌, Bool, true, false, cond, ◌&&◌, [], ◌∷◌, Option, Some, None, arith, refl, sym, ap, ap₂, ◌∙◌, true≢false, eqb-true}
use Rattle.std.proofs.lemmas.Int.{ints}
use Rattle.std.proofs.lemmas.Bool.Decides.{nat_tests}
use Rattle.std.specs.Ordering.{int_eq}
use Rattle.exo_tree.specs.Tree.{Kind, Size, Index, Truth, Stride}
use Rattle.exo_tree.specs.Places.{Branch, Main, Else, Step, Path}
use Rattle.exo_tree.specs.Places.{same_branch, same_step, same_path}
use Rattle.affine_forms.specs.Atoms.{same_kind, Atom, Variable, EntryField, UnknownField, OpaqueStride, Quotient, Terms, none, term, taken, same_atom, same_terms}
use Rattle.affine_forms.proofs.Values.{some_injective, none_some, and_parts, int_eq_same, same_kind_is, same_path_is}

int_eq_sym : (a b : ℤ) → int_eq a b ≡ int_eq b a
int_eq_sym a b = grind (arith, ints)

eqb_sym : (a b : ℕ) → (a == b) ≡ (b == a)
eqb_sym a b = grind (arith, nat_tests)

same_branch_sym : (a b : Branch) → same_branch a b ≡ same_branch b a
same_branch_sym Main Main = refl
same_branch_sym Main Else = refl
same_branch_sym Else Main = refl
same_branch_sym Else Else = refl

same_step_sym : (s t : Step) → same_step s t ≡ same_step t s
same_step_sym s t = ap₂ (λ a b. a && b) (same_branch_sym s.branch t.branch) (eqb_sym s.index t.index)

same_path_sym : (p q : Path) → same_path p q ≡ same_path q p
same_path_sym [] [] = refl
same_path_sym [] (t ∷ q) = refl
same_path_sym (s ∷ p) [] = refl
same_path_sym (s ∷ p) (t ∷ q) = ap₂ (λ a b. a && b) (same_step_sym s t) (same_path_sym p q)

same_kind_sym : (a b : Kind) → same_kind a b ≡ same_kind b a
same_kind_sym Size Size = refl
same_kind_sym Size Index = refl
same_kind_sym Size Truth = refl
same_kind_sym Size Stride = refl
same_kind_sym Index Size = refl
same_kind_sym Index Index = refl
same_kind_sym Index Truth = refl
same_kind_sym Index Stride = refl
same_kind_sym Truth Size = refl
same_kind_sym Truth Index = refl
same_kind_sym Truth Truth = refl
same_kind_sym Truth Stride = refl
same_kind_sym Stride Size = refl
same_kind_sym Stride Index = refl
same_kind_sym Stride Truth = refl
same_kind_sym Stride Stride = refl

-- a test of what is left, which fails where nothing could be taken out
abbrev if_left : Option Terms → (Terms → Bool) → Bool
if_left o f = elim o [ None ↦ false | Some ws ↦ f ws ]

abbrev and_then : Option Terms → (Terms → Option Terms) → Option Terms
and_then o f = elim o [ None ↦ None | Some ws ↦ f ws ]

-- ---- the order of the two sides

-- a term that is taken out of the first sum stands at the head of the second
moved_over : (c : ℤ) (a : Atom) → ((b : Atom) → same_atom a b ≡ same_atom b a) → (ts us : Terms) → if_left (taken (same_atom a) c ts) (λ ws. same_terms ws us) ≡ same_terms ts (term c a us)
moved_over c a s none us = refl
moved_over c a s (term d b ts) us = go (taken (same_atom a) c ts) (moved_over c a s ts) (same_atom a b && int_eq c d) ∙ ap (λ t. if_left (cond t (Some us) (and_then (taken (same_atom b) d us) (λ vs. Some (term c a vs)))) (λ vs. same_terms ts vs)) tests
  where
    tests : (same_atom a b && int_eq c d) ≡ (same_atom b a && int_eq d c)
    tests = ap₂ (λ x y. x && y) (s b) (int_eq_sym c d)

    none_left : (p : Option Terms) → ((vs : Terms) → false ≡ same_terms ts (term c a vs)) → false ≡ if_left (and_then p (λ vs. Some (term c a vs))) (λ vs. same_terms ts vs)
    none_left None ih = refl
    none_left (Some vs) ih = ih vs

    some_left : (ws : Terms) (p : Option Terms) → ((vs : Terms) → same_terms ws vs ≡ same_terms ts (term c a vs)) → if_left p (λ vs. same_terms ws vs) ≡ if_left (and_then p (λ vs. Some (term c a vs))) (λ vs. same_terms ts vs)
    some_left ws None ih = refl
    some_left ws (Some vs) ih = ih vs

    go : (o : Option Terms) → ((vs : Terms) → if_left o (λ ws. same_terms ws vs) ≡ same_terms ts (term c a vs)) → (t : Bool) → if_left (cond t (Some ts) (and_then o (λ ws. Some (term d b ws)))) (λ ws. same_terms ws us) ≡ if_left (cond t (Some us) (and_then (taken (same_atom b) d us) (λ vs. Some (term c a vs)))) (λ vs. same_terms ts vs)
    go o ih true = refl
    go None ih false = none_left (taken (same_atom b) d us) ih
    go (Some ws) ih false = some_left ws (taken (same_atom b) d us) ih

swap_rest : (us : Terms) (o : Option Terms) → ((ws : Terms) → same_terms us ws ≡ same_terms ws us) → if_left o (λ ws. same_terms us ws) ≡ if_left o (λ ws. same_terms ws us)
swap_rest us None h = refl
swap_rest us (Some ws) h = h ws

mutual
  pub same_atom_sym : (a b : Atom) → same_atom a b ≡ same_atom b a
  same_atom_sym (Variable x) (Variable y) = eqb_sym x y
  same_atom_sym (Variable x) (EntryField g j) = refl
  same_atom_sym (Variable x) (UnknownField g j q) = refl
  same_atom_sym (Variable x) (OpaqueStride y k) = refl
  same_atom_sym (Variable x) (Quotient n ts c) = refl
  same_atom_sym (EntryField f i) (Variable y) = refl
  same_atom_sym (EntryField f i) (EntryField g j) = ap₂ (λ a b. a && b) (eqb_sym f g) (same_kind_sym i j)
  same_atom_sym (EntryField f i) (UnknownField g j q) = refl
  same_atom_sym (EntryField f i) (OpaqueStride y k) = refl
  same_atom_sym (EntryField f i) (Quotient n ts c) = refl
  same_atom_sym (UnknownField f i p) (Variable y) = refl
  same_atom_sym (UnknownField f i p) (EntryField g j) = refl
  same_atom_sym (UnknownField f i p) (UnknownField g j q) = ap₂ (λ a b. a && b) (ap₂ (λ a b. a && b) (eqb_sym f g) (same_kind_sym i j)) (same_path_sym p q)
  same_atom_sym (UnknownField f i p) (OpaqueStride y k) = refl
  same_atom_sym (UnknownField f i p) (Quotient n ts c) = refl
  same_atom_sym (OpaqueStride x i) (Variable y) = refl
  same_atom_sym (OpaqueStride x i) (EntryField g j) = refl
  same_atom_sym (OpaqueStride x i) (UnknownField g j q) = refl
  same_atom_sym (OpaqueStride x i) (OpaqueStride y k) = ap₂ (λ a b. a && b) (eqb_sym x y) (eqb_sym i k)
  same_atom_sym (OpaqueStride x i) (Quotient n ts c) = refl
  same_atom_sym (Quotient m us d) (Variable y) = refl
  same_atom_sym (Quotient m us d) (EntryField g j) = refl
  same_atom_sym (Quotient m us d) (UnknownField g j q) = refl
  same_atom_sym (Quotient m us d) (OpaqueStride y k) = refl
  same_atom_sym (Quotient m us d) (Quotient n ts c) = ap₂ (λ a b. a && b) (ap₂ (λ a b. a && b) (int_eq_sym m n) (int_eq_sym d c)) (same_terms_sym us ts)

  pub same_terms_sym : (us ts : Terms) → same_terms us ts ≡ same_terms ts us
  same_terms_sym none none = refl
  same_terms_sym none (term d b ts) = refl
  same_terms_sym (term c a us) ts = swap_rest us (taken (same_atom a) c ts) (same_terms_sym us) ∙ moved_over c a (same_atom_sym a) ts us

-- ---- atoms that are equal are equal to the same atoms

taken_alike : (f g : Atom → Bool) (c : ℤ) (ts : Terms) → ((x : Atom) → f x ≡ g x) → taken f c ts ≡ taken g c ts
taken_alike f g c none h = refl
taken_alike f g c (term d b ts) h = ap₂ (λ t o. cond (t && int_eq c d) (Some ts) (and_then o (λ us. Some (term d b us)))) (h b) (taken_alike f g c ts h)

taken_here : (g : Atom → Bool) (d e : ℤ) (x : Atom) (us : Terms) → (g x && int_eq d e) ≡ true → taken g d (term e x us) ≡ Some us
taken_here g d e x us h = ap (λ t. cond t (Some us) (and_then (taken g d us) (λ ws. Some (term e x ws)))) h

taken_past : (g : Atom → Bool) (d e : ℤ) (x : Atom) (us : Terms) → (g x && int_eq d e) ≡ false → taken g d (term e x us) ≡ and_then (taken g d us) (λ ws. Some (term e x ws))
taken_past g d e x us h = ap (λ t. cond t (Some us) (and_then (taken g d us) (λ ws. Some (term e x ws)))) h

-- a sum with a term before it
abbrev put : ℤ → Atom → Option Terms → Option Terms
put e x o = and_then o (λ us. Some (term e x us))

-- two terms that differ may be taken out in either order
module _ (f g : Atom → Bool) (c d : ℤ) where
  taken_commute : (vs : Terms) → ((e : ℤ) (x : Atom) → (f x && int_eq c e) ≡ true → (g x && int_eq d e) ≡ false) → and_then (taken f c vs) (taken g d) ≡ and_then (taken g d vs) (taken f c)
  taken_commute none h = refl
  taken_commute (term e x vs) h = go (taken_commute vs h) (f x && int_eq c e) refl (g x && int_eq d e) refl
    where
      first : (o : Option Terms) → (f x && int_eq c e) ≡ true → o ≡ and_then (put e x o) (taken f c)
      first None s = refl
      first (Some us) s = sym (taken_here f c e x us s)

      second : (o : Option Terms) → (g x && int_eq d e) ≡ true → and_then (put e x o) (taken g d) ≡ o
      second None s = refl
      second (Some us) s = taken_here g d e x us s

      past_f : (o : Option Terms) → (f x && int_eq c e) ≡ false → and_then (put e x o) (taken f c) ≡ put e x (and_then o (taken f c))
      past_f None s = refl
      past_f (Some us) s = taken_past f c e x us s

      past_g : (o : Option Terms) → (g x && int_eq d e) ≡ false → and_then (put e x o) (taken g d) ≡ put e x (and_then o (taken g d))
      past_g None s = refl
      past_g (Some us) s = taken_past g d e x us s

      go : and_then (taken f c vs) (taken g d) ≡ and_then (taken g d vs) (taken f c) → (s : Bool) → (f x && int_eq c e) ≡ s → (t : Bool) → (g x && int_eq d e) ≡ t → and_then (cond s (Some vs) (put e x (taken f c vs))) (taken g d) ≡ and_then (cond t (Some vs) (put e x (taken g d vs))) (taken f c)
      go again true p true q = absurd (true≢false (sym q ∙ h e x p))
      go again true p false q = first (taken g d vs) p
      go again false p true q = second (taken f c vs) q
      go again false p false q = past_g (taken f c vs) q ∙ ap (put e x) again ∙ sym (past_f (taken g d vs) p)

-- the same is taken out of both sums
module _ (c : ℤ) (a : Atom) (k : (b x : Atom) → same_atom a b ≡ true → same_atom a x ≡ same_atom b x) where
  inner : (o : Option Terms) (b : Atom) (d : ℤ) (us : Terms) → if_left o (λ zs. same_terms (term d b us) zs) ≡ if_left (and_then o (λ zs. taken (same_atom b) d zs)) (λ ys. same_terms us ys)
  inner None b d us = refl
  inner (Some zs) b d us = refl

  outer : (o : Option Terms) (us ts : Terms) → ((zs : Terms) → if_left (taken (same_atom a) c zs) (λ ys. same_terms us ys) ≡ same_terms ts zs) → if_left (and_then o (λ zs. taken (same_atom a) c zs)) (λ ys. same_terms us ys) ≡ if_left o (λ zs. same_terms ts zs)
  outer None us ts h = refl
  outer (Some zs) us ts h = h zs

  apart : (b : Atom) (d : ℤ) → (same_atom a b && int_eq c d) ≡ false → (e : ℤ) (x : Atom) → (same_atom a x && int_eq c e) ≡ true → (same_atom b x && int_eq d e) ≡ false
  apart b d f e x h =
      let p = and_parts (same_atom a x) (int_eq c e) h in
      let first : same_atom b x ≡ same_atom a b = same_atom_sym b x ∙ sym (k x b p.0) in
      let second : int_eq d e ≡ int_eq c d = ap (int_eq d) (sym (int_eq_same c e p.1)) ∙ int_eq_sym d c in
      ap₂ (λ s t. s && t) first second ∙ f

  taken_both : (ts ws vs : Terms) → taken (same_atom a) c ts ≡ Some ws → if_left (taken (same_atom a) c vs) (λ zs. same_terms ws zs) ≡ same_terms ts vs
  taken_both none ws vs e = absurd (none_some e)
  taken_both (term d b ts) ws vs e = go (taken_both ts) (same_atom a b && int_eq c d) refl e
    where
      rest : ((ws vs : Terms) → taken (same_atom a) c ts ≡ Some ws → if_left (taken (same_atom a) c vs) (λ zs. same_terms ws zs) ≡ same_terms ts vs) → (same_atom a b && int_eq c d) ≡ false → (o : Option Terms) → taken (same_atom a) c ts ≡ o → and_then o (λ us. Some (term d b us)) ≡ Some ws → if_left (taken (same_atom a) c vs) (λ zs. same_terms ws zs) ≡ same_terms (term d b ts) vs
      rest ih f None g h = absurd (none_some h)
      rest ih f (Some us) g h =
          ap (λ w. if_left (taken (same_atom a) c vs) (λ zs. same_terms w zs)) (sym (some_injective (term d b us) ws h))
          ∙ inner (taken (same_atom a) c vs) b d us
          ∙ ap (λ o. if_left o (λ ys. same_terms us ys)) (taken_commute (same_atom a) (same_atom b) c d vs (apart b d f))
          ∙ outer (taken (same_atom b) d vs) us ts (λ zs. ih us zs g)

      go : ((ws vs : Terms) → taken (same_atom a) c ts ≡ Some ws → if_left (taken (same_atom a) c vs) (λ zs. same_terms ws zs) ≡ same_terms ts vs) → (t : Bool) → (same_atom a b && int_eq c d) ≡ t → cond t (Some ts) (and_then (taken (same_atom a) c ts) (λ us. Some (term d b us))) ≡ Some ws → if_left (taken (same_atom a) c vs) (λ zs. same_terms ws zs) ≡ same_terms (term d b ts) vs
      go ih true f h =
          let p = and_parts (same_atom a b) (int_eq c d) f in
          ap (λ w. if_left (taken (same_atom a) c vs) (λ zs. same_terms w zs)) (sym (some_injective ts ws h))
          ∙ ap (λ o. if_left o (λ zs. same_terms ts zs)) (taken_alike (same_atom a) (same_atom b) c vs (λ x. k b x p.0) ∙ ap (λ z. taken (same_atom b) z vs) (int_eq_same c d p.1))
      go ih false f h = rest ih f (taken (same_atom a) c ts) refl h

  each : (us ws : Terms) (o : Option Terms) → ((vs : Terms) → same_terms us vs ≡ same_terms ws vs) → if_left o (λ zs. same_terms us zs) ≡ if_left o (λ zs. same_terms ws zs)
  each us ws None h = refl
  each us ws (Some zs) h = h zs

  class_step : (us ts vs : Terms) (o : Option Terms) → taken (same_atom a) c ts ≡ o → ((ws vs : Terms) → same_terms us ws ≡ true → same_terms us vs ≡ same_terms ws vs) → if_left o (λ ws. same_terms us ws) ≡ true → if_left (taken (same_atom a) c vs) (λ zs. same_terms us zs) ≡ same_terms ts vs
  class_step us ts vs None e q h = absurd (true≢false (sym h))
  class_step us ts vs (Some ws) e q h = each us ws (taken (same_atom a) c vs) (λ zs. q ws zs h) ∙ taken_both ts ws vs e

quotient_class : (m n d c : ℤ) (us ts : Terms) → m ≡ n → d ≡ c → ((vs : Terms) → same_terms us vs ≡ same_terms ts vs) → (x : Atom) → same_atom (Quotient m us d) x ≡ same_atom (Quotient n ts c) x
quotient_class m n d c us ts e f h (Variable y) = refl
quotient_class m n d c us ts e f h (EntryField g j) = refl
quotient_class m n d c us ts e f h (UnknownField g j q) = refl
quotient_class m n d c us ts e f h (OpaqueStride y k) = refl
quotient_class m n d c us ts e f h (Quotient k vs b) = ap₂ (λ s t. s && t) (ap₂ (λ i j. int_eq i k && int_eq j b) e f) (h vs)

mutual
  pub same_class : (a b x : Atom) → same_atom a b ≡ true → same_atom a x ≡ same_atom b x
  same_class (Variable i) (Variable j) x h = ap (λ k. same_atom (Variable k) x) (eqb-true i j h)
  same_class (Variable i) (EntryField g j) x h = absurd (true≢false (sym h))
  same_class (Variable i) (UnknownField g j q) x h = absurd (true≢false (sym h))
  same_class (Variable i) (OpaqueStride y k) x h = absurd (true≢false (sym h))
  same_class (Variable i) (Quotient n ts c) x h = absurd (true≢false (sym h))
  same_class (EntryField f i) (Variable y) x h = absurd (true≢false (sym h))
  same_class (EntryField f i) (EntryField g j) x h = let p = and_parts (f == g) (same_kind i j) h in ap₂ (λ y k. same_atom (EntryField y k) x) (eqb-true f g p.0) (same_kind_is i j p.1)
  same_class (EntryField f i) (UnknownField g j q) x h = absurd (true≢false (sym h))
  same_class (EntryField f i) (OpaqueStride y k) x h = absurd (true≢false (sym h))
  same_class (EntryField f i) (Quotient n ts c) x h = absurd (true≢false (sym h))
  same_class (UnknownField f i p) (Variable y) x h = absurd (true≢false (sym h))
  same_class (UnknownField f i p) (EntryField g j) x h = absurd (true≢false (sym h))
  same_class (UnknownField f i p) (UnknownField g j q) x h =
      let s = and_parts ((f == g) && same_kind i j) (same_path p q) h in
      let t = and_parts (f == g) (same_kind i j) s.0 in
      ap₂ (λ y k. same_atom (UnknownField y k p) x) (eqb-true f g t.0) (same_kind_is i j t.1) ∙ ap (λ r. same_atom (UnknownField g j r) x) (same_path_is p q s.1)
  same_class (UnknownField f i p) (OpaqueStride y k) x h = absurd (true≢false (sym h))
  same_class (UnknownField f i p) (Quotient n ts c) x h = absurd (true≢false (sym h))
  same_class (OpaqueStride y i) (Variable z) x h = absurd (true≢false (sym h))
  same_class (OpaqueStride y i) (EntryField g j) x h = absurd (true≢false (sym h))
  same_class (OpaqueStride y i) (UnknownField g j q) x h = absurd (true≢false (sym h))
  same_class (OpaqueStride y i) (OpaqueStride z k) x h = let p = and_parts (y == z) (i == k) h in ap₂ (λ s t. same_atom (OpaqueStride s t) x) (eqb-true y z p.0) (eqb-true i k p.1)
  same_class (OpaqueStride y i) (Quotient n ts c) x h = absurd (true≢false (sym h))
  same_class (Quotient m us d) (Variable y) x h = absurd (true≢false (sym h))
  same_class (Quotient m us d) (EntryField g j) x h = absurd (true≢false (sym h))
  same_class (Quotient m us d) (UnknownField g j q) x h = absurd (true≢false (sym h))
  same_class (Quotient m us d) (OpaqueStride y k) x h = absurd (true≢false (sym h))
  same_class (Quotient m us d) (Quotient n ts c) x h =
      let s = and_parts (int_eq m n && int_eq d c) (same_terms us ts) h in
      let t = and_parts (int_eq m n) (int_eq d c) s.0 in
      quotient_class m n d c us ts (int_eq_same m n t.0) (int_eq_same d c t.1) (λ vs. same_terms_class us ts vs s.1) x

  pub same_terms_class : (us ts vs : Terms) → same_terms us ts ≡ true → same_terms us vs ≡ same_terms ts vs
  same_terms_class none none vs h = refl
  same_terms_class none (term d b ts) vs h = absurd (true≢false (sym h))
  same_terms_class (term c a us) ts vs h = class_step c a (same_class a) us ts vs (taken (same_atom a) c ts) refl (same_terms_class us) h
