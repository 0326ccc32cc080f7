-- Codes of atoms and sums, by which a proof tells two of them apart.
use Rattle.std.specs.Prelude.{◌≡◌, ◌+◌, ℕ, ℤ, [], ◌∷◌}
use Rattle.std.specs.Coded.{Coded, coded_ℤ, coded×, code_by}
use Rattle.std.proofs.Common.{ap, arith, refl}
use base.Stored.{Gv, gnil, gnum, gcons, num}
use Rattle.exo_tree.specs.CodeParts.{left, right, tag}
use Rattle.exo_tree.specs.Tree.{Kind, Size, Index, Truth, Stride}
use Rattle.exo_tree.specs.Places.{Branch, Main, Else, Step, Path}
use Rattle.affine_forms.specs.Atoms.{Atom, Variable, EntryField, UnknownField, OpaqueStride, Quotient, Terms, none, term, Linear}

abbrev pub code_kind : Kind → Gv
code_kind Size = gnum 0
code_kind Index = gnum 1
code_kind Truth = gnum 2
code_kind Stride = gnum 3

same_kind : (a b : Kind) → code_kind a ≡ code_kind b → a ≡ b
same_kind Size Size p = refl
same_kind Index Index p = refl
same_kind Truth Truth p = refl
same_kind Stride Stride p = refl
same_kind _ _ p = let e = ap num p in absurd (omega arith)

abbrev pub code_branch : Branch → Gv
code_branch Main = gnum 0
code_branch Else = gnum 1

same_branch : (a b : Branch) → code_branch a ≡ code_branch b → a ≡ b
same_branch Main Main p = refl
same_branch Else Else p = refl
same_branch _ _ p = let e = ap num p in absurd (omega arith)

abbrev pub code_step : Step → Gv
code_step s = gcons (code_branch s.branch) (gnum s.index)

same_step : (s t : Step) → code_step s ≡ code_step t → s ≡ t
same_step s t p = λ i. record { branch = same_branch s.branch t.branch (ap left p) i; index = ap (λ g. num (right g)) p i }

abbrev pub code_path : Path → Gv
code_path [] = gcons (gnum 0) gnil
code_path (s ∷ p) = gcons (gnum 1) (gcons (code_step s) (code_path p))

pub same_path : (p q : Path) → code_path p ≡ code_path q → p ≡ q
same_path [] [] e = refl
same_path (s ∷ p) (t ∷ q) e =
    let a = same_step s t (ap (λ g. left (right g)) e) in
    let b = same_path p q (ap (λ g. right (right g)) e) in
    λ i. a i ∷ b i
same_path _ _ e = let f = ap tag e in absurd (omega arith)

abbrev mutual
  pub code_atom : Atom → Gv
  code_atom (Variable x) = gcons (gnum 0) (gnum x)
  code_atom (EntryField f kind) = gcons (gnum 1) (gcons (gnum f) (code_kind kind))
  code_atom (UnknownField f kind path) = gcons (gnum 2) (gcons (gnum f) (gcons (code_kind kind) (code_path path)))
  code_atom (OpaqueStride x k) = gcons (gnum 3) (gcons (gnum x) (gnum k))
  code_atom (Quotient n ts c) = gcons (gnum 4) (gcons (coded_ℤ.code n) (gcons (coded_ℤ.code c) (code_terms ts)))

  pub code_terms : Terms → Gv
  code_terms none = gcons (gnum 0) gnil
  code_terms (term c a ts) = gcons (gnum 1) (gcons (coded_ℤ.code c) (gcons (code_atom a) (code_terms ts)))

mutual
  pub same_atom_code : (a b : Atom) → code_atom a ≡ code_atom b → a ≡ b
  same_atom_code (Variable x) (Variable y) p = ap Variable (ap (λ g. num (right g)) p)
  same_atom_code (EntryField f k) (EntryField g j) p =
      let a = ap (λ z. num (left (right z))) p in
      let b = same_kind k j (ap (λ z. right (right z)) p) in
      λ i. EntryField (a i) (b i)
  same_atom_code (UnknownField f k q) (UnknownField g j r) p =
      let a = ap (λ z. num (left (right z))) p in
      let b = same_kind k j (ap (λ z. left (right (right z))) p) in
      let c = same_path q r (ap (λ z. right (right (right z))) p) in
      λ i. UnknownField (a i) (b i) (c i)
  same_atom_code (OpaqueStride x k) (OpaqueStride y j) p =
      let a = ap (λ z. num (left (right z))) p in
      let b = ap (λ z. num (right (right z))) p in
      λ i. OpaqueStride (a i) (b i)
  same_atom_code (Quotient n ts c) (Quotient m us d) p =
      let a = coded_ℤ.inj n m (ap (λ z. left (right z)) p) in
      let b = same_terms_code ts us (ap (λ z. right (right (right z))) p) in
      let e = coded_ℤ.inj c d (ap (λ z. left (right (right z))) p) in
      λ i. Quotient (a i) (b i) (e i)
  same_atom_code _ _ p = let e = ap tag p in absurd (omega arith)

  pub same_terms_code : (ts us : Terms) → code_terms ts ≡ code_terms us → ts ≡ us
  same_terms_code none none p = refl
  same_terms_code (term c a ts) (term d b us) p =
      let e = coded_ℤ.inj c d (ap (λ z. left (right z)) p) in
      let f = same_atom_code a b (ap (λ z. left (right (right z))) p) in
      let g = same_terms_code ts us (ap (λ z. right (right (right z))) p) in
      λ i. term (e i) (f i) (g i)
  same_terms_code _ _ p = let e = ap tag p in absurd (omega arith)

abbrev pub terms_code : Coded Terms
terms_code = record { code = code_terms; inj = same_terms_code }

-- how many terms at every depth
abbrev mutual
  pub nodes : Atom → ℕ
  nodes (Variable x) = 1
  nodes (EntryField f kind) = 1
  nodes (UnknownField f kind path) = 1
  nodes (OpaqueStride x k) = 1
  nodes (Quotient n ts c) = 1 + nodes_in ts

  pub nodes_in : Terms → ℕ
  nodes_in none = 0
  nodes_in (term c a ts) = 1 + (nodes a + nodes_in ts)

abbrev pub linear_code : Coded Linear
linear_code =
    code_by (ℤ × Terms) (coded× coded_ℤ terms_code) (λ l. (l.constant, l.terms))
    (λ p. record { constant = p.0; terms = p.1 }) (λ _. refl)
