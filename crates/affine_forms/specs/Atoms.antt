-- Weighed sums of atoms: the parts of a control expression that are kept as they are.
-- An affine form is a constant and such a sum, as in the polyhedral model of loop programs (Feautrier, 1991).
use Rattle.std.specs.Prelude.{ℕ, ℤ, pos, negsuc, ◌+ℤ◌, ◌*ℤ◌, ◌==◌, Bool, true, false, ◌&&◌}
use Rattle.std.specs.Prelude.{if◌then◌else◌, [], ◌∷◌, Option, Some, None}
use Rattle.std.specs.Int.{int_div_euclid, int_rem_euclid}
use Rattle.std.specs.Ordering.{int_eq}
use Rattle.exo_tree.specs.Tree.{Kind, Size, Index, Truth, Stride}
use Rattle.exo_tree.specs.Places.{Path, same_path}

mutual
  -- a variable; a configuration field at entry, and one whose value some statement made unknown, each with the field's kind;
  -- the stride of a dimension of a buffer; and the quotient of a sum by a literal, rounded down
  pub data Atom : Type 0 where
    Variable : ℕ → Atom
    EntryField : ℕ → Kind → Atom
    UnknownField : ℕ → Kind → Path → Atom
    OpaqueStride : ℕ → ℕ → Atom
    Quotient : ℤ → Terms → ℤ → Atom

  -- atoms with their coefficients, in order of first appearance
  pub data Terms : Type 0 where
    none : Terms
    term : ℤ → Atom → Terms → Terms

pub record Linear : Type 0 where
  pub constant : ℤ
  pub terms : Terms

-- ---- values

-- the value of each atom that is no quotient
pub record Valuation : Type 0 where
  pub variable : ℕ → ℤ
  pub entry : ℕ → Kind → ℤ
  pub unknown : ℕ → Kind → Path → ℤ
  pub stride : ℕ → ℕ → ℤ

abbrev mutual
  pub atom_value : Valuation → Atom → ℤ
  atom_value v (Variable x) = v.variable x
  atom_value v (EntryField f kind) = v.entry f kind
  atom_value v (UnknownField f kind path) = v.unknown f kind path
  atom_value v (OpaqueStride x k) = v.stride x k
  atom_value v (Quotient n ts c) = int_div_euclid (n +ℤ terms_value v ts) c

  pub terms_value : Valuation → Terms → ℤ
  terms_value v none = pos 0
  terms_value v (term c a ts) = (c *ℤ atom_value v a) +ℤ terms_value v ts

abbrev pub value : Valuation → Linear → ℤ
value v l = l.constant +ℤ terms_value v l.terms

-- ---- equal atoms, and sums that are equal in any order

abbrev pub same_kind : Kind → Kind → Bool
same_kind Size k = elim k [ Size ↦ true | Index ↦ false | Truth ↦ false | Stride ↦ false ]
same_kind Index k = elim k [ Size ↦ false | Index ↦ true | Truth ↦ false | Stride ↦ false ]
same_kind Truth k = elim k [ Size ↦ false | Index ↦ false | Truth ↦ true | Stride ↦ false ]
same_kind Stride k = elim k [ Size ↦ false | Index ↦ false | Truth ↦ false | Stride ↦ true ]

-- the sum without its first term of this atom and coefficient; None where it has none
abbrev pub taken : (Atom → Bool) → ℤ → Terms → Option Terms
taken is_it c none = None
taken is_it c (term d b ts) =
    if is_it b && int_eq c d then Some ts
    else elim (taken is_it c ts) [ None ↦ None | Some us ↦ Some (term d b us) ]

-- two sums are equal where each term of the first can be taken out of the second and nothing is left
abbrev mutual
  pub same_atom : Atom → Atom → Bool
  same_atom (Variable x) b =
      elim b [
        | Variable y ↦ x == y
        | EntryField g j ↦ false
        | UnknownField g j p ↦ false
        | OpaqueStride y k ↦ false
        | Quotient n ts c ↦ false
      ]
  same_atom (EntryField f kind) b =
      elim b [
        | Variable y ↦ false
        | EntryField g j ↦ (f == g) && same_kind kind j
        | UnknownField g j p ↦ false
        | OpaqueStride y k ↦ false
        | Quotient n ts c ↦ false
      ]
  same_atom (UnknownField f kind path) b =
      elim b [
        | Variable y ↦ false
        | EntryField g j ↦ false
        | UnknownField g j p ↦ ((f == g) && same_kind kind j) && same_path path p
        | OpaqueStride y k ↦ false
        | Quotient n ts c ↦ false
      ]
  same_atom (OpaqueStride x j) b =
      elim b [
        | Variable y ↦ false
        | EntryField g i ↦ false
        | UnknownField g i p ↦ false
        | OpaqueStride y k ↦ (x == y) && (j == k)
        | Quotient n ts c ↦ false
      ]
  same_atom (Quotient m us d) b =
      elim b [
        | Variable y ↦ false
        | EntryField g j ↦ false
        | UnknownField g j p ↦ false
        | OpaqueStride y k ↦ false
        | Quotient n ts c ↦ (int_eq m n && int_eq d c) && same_terms us ts
      ]

  pub same_terms : Terms → Terms → Bool
  same_terms none ts = elim ts [ none ↦ true | term d b us ↦ false ]
  same_terms (term c a rest) ts = elim (taken (same_atom a) c ts) [ None ↦ false | Some us ↦ same_terms rest us ]

-- two expressions agree where these are equal
abbrev pub same_form : Linear → Linear → Bool
same_form k l = int_eq k.constant l.constant && same_terms k.terms l.terms

-- ---- sums: a term that cancels keeps its place

-- a term joins the term of the same atom, or stands at the end
abbrev pub with_term : ℤ → Atom → Terms → Terms
with_term c a none = term c a none
with_term c a (term d b ts) = if same_atom a b then term (c +ℤ d) b ts else term d b (with_term c a ts)

abbrev pub terms_added : Terms → Terms → Terms
terms_added ts none = ts
terms_added ts (term c a us) = terms_added (with_term c a ts) us

abbrev pub added : Linear → Linear → Linear
added k l = record { constant = k.constant +ℤ l.constant; terms = terms_added k.terms l.terms }

abbrev pub terms_scaled : ℤ → Terms → Terms
terms_scaled z none = none
terms_scaled z (term c a ts) = term (z *ℤ c) a (terms_scaled z ts)

abbrev pub scaled : ℤ → Linear → Linear
scaled z l = record { constant = z *ℤ l.constant; terms = terms_scaled z l.terms }

abbrev pub subtracted : Linear → Linear → Linear
subtracted k l = added k (scaled (negsuc 0) l)

abbrev pub constantly : ℤ → Linear
constantly n = record { constant = n; terms = none }

abbrev pub only : Atom → Linear
only a = record { constant = pos 0; terms = term (pos 1) a none }

-- the terms that are not 0
abbrev pub present : Terms → Terms
present none = none
present (term c a ts) = if int_eq c (pos 0) then present ts else term c a (present ts)

-- ---- quotients by a literal

abbrev pub divides : ℤ → ℤ → Bool
divides c d = int_eq (int_rem_euclid d c) (pos 0)

-- the terms whose coefficient the literal divides, divided
abbrev pub divided : ℤ → Terms → Terms
divided c none = none
divided c (term d a ts) = if divides c d then term (int_div_euclid d c) a (divided c ts) else divided c ts

-- the others
abbrev pub undivided : ℤ → Terms → Terms
undivided c none = none
undivided c (term d a ts) = if divides c d then undivided c ts else term d a (undivided c ts)

-- the quotient of what is left, or nothing
abbrev pub quotient_of : ℤ → Terms → ℤ → Terms
quotient_of n none c = none
quotient_of n (term d a ts) c = term (pos 1) (Quotient n (term d a ts) c) none

-- what the literal divides is taken out; the rest of the constant stays with the rest of the terms
abbrev pub quotient : Linear → ℤ → Linear
quotient l c = record {
  constant = int_div_euclid l.constant c;
  terms = terms_added (divided c l.terms) (quotient_of (int_rem_euclid l.constant c) (undivided c l.terms) c);
}
