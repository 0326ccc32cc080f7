-- Quotients in a table, each over earlier ones, and which quotients of two tables are equal.
use Rattle.std.specs.Prelude.{ℕ, zero, suc, ℤ, pos, ◌≡◌, ◌<◌, ◌==◌, Bool, true, false, ◌&&◌}
use Rattle.std.specs.Prelude.{if◌then◌else◌, nat_lt, List, [], ◌∷◌, ◌++◌, length, get_or, map}
use Rattle.std.specs.Prelude.{Option, Some, None}
use Rattle.std.specs.Ordering.{int_eq}
use Rattle.std.specs.Coded.{Coded, coded_ℤ, coded×, code_by}
use Rattle.std.proofs.Common.{refl}
use Rattle.exo_tree.specs.Tree.{Kind}
use Rattle.exo_tree.specs.Places.{Path}
use Rattle.affine_forms.specs.Atoms.{Atom, Variable, EntryField, UnknownField, OpaqueStride}
use Rattle.affine_forms.specs.Atoms.{Quotient, Terms, none, term, same_atom}
use Rattle.affine_forms.specs.AtomCodes.{terms_code}
use Rattle.affine_forms.specs.TermBounds.{is_kept_atom}

-- the quotient of a constant and a sum by a literal, rounded down
pub record Division : Type 0 where
  pub constant : ℤ
  pub terms : Terms
  pub by : ℤ

abbrev pub division_code : Coded Division
division_code =
    code_by (ℤ × (Terms × ℤ)) (coded× coded_ℤ (coded× terms_code coded_ℤ))
    (λ d. (d.constant, (d.terms, d.by)))
    (λ p. record { constant = p.0; terms = p.1.0; by = p.1.1 })
    (λ _. refl)

abbrev pub atom_of : Division → Atom
atom_of d = Quotient d.constant d.terms d.by

-- ---- tables

-- an atom that is no quotient
pub data Leaf : Type 0 where
  OfVariable : ℕ → Leaf
  OfEntry : ℕ → Kind → Leaf
  OfUnknown : ℕ → Kind → Path → Leaf
  OfStride : ℕ → ℕ → Leaf

abbrev pub leaf_atom : Leaf → Atom
leaf_atom (OfVariable x) = Variable x
leaf_atom (OfEntry f kind) = EntryField f kind
leaf_atom (OfUnknown f kind path) = UnknownField f kind path
leaf_atom (OfStride x k) = OpaqueStride x k

-- an atom of a row: one that is no quotient, or the quotient of the row of that number
pub data Part : Type 0 where
  Whole : Leaf → Part
  Earlier : ℕ → Part

-- a part with its coefficient
pub record Share : Type 0 where
  pub coefficient : ℤ
  pub part : Part

-- the quotient of a constant and a sum by a literal
pub record QuotientRow : Type 0 where
  pub constant : ℤ
  pub terms : List Share
  pub by : ℤ

-- ---- the quotients of a table

-- what a number beyond the table stands for
abbrev pub no_division : Division
no_division = record { constant = pos 0; terms = none; by = pos 1 }

abbrev pub part_atom : List Division → Part → Atom
part_atom ds (Whole leaf) = leaf_atom leaf
part_atom ds (Earlier j) = atom_of (get_or ds j no_division)

abbrev pub sum_of : List Division → List Share → Terms
sum_of ds [] = none
sum_of ds (s ∷ ss) = term s.coefficient (part_atom ds s.part) (sum_of ds ss)

abbrev pub division_of : List Division → QuotientRow → Division
division_of ds r = record { constant = r.constant; terms = sum_of ds r.terms; by = r.by }

-- the quotients so far, and those of more rows
abbrev pub with_rows : List Division → List QuotientRow → List Division
with_rows ds [] = ds
with_rows ds (r ∷ rs) = with_rows (ds ++ division_of ds r ∷ []) rs

abbrev pub divisions : List QuotientRow → List Division
divisions rows = with_rows [] rows

-- ---- what a table keeps

abbrev pub is_earlier : ℕ → Part → Bool
is_earlier n (Whole leaf) = true
is_earlier n (Earlier j) = nat_lt j n

abbrev pub are_earlier : ℕ → List Share → Bool
are_earlier n [] = true
are_earlier n (s ∷ ss) = is_earlier n s.part && are_earlier n ss

-- each row names only rows before it; n is the number of the first
abbrev pub are_ordered : ℕ → List QuotientRow → Bool
are_ordered n [] = true
are_ordered n (r ∷ rs) = are_earlier n r.terms && are_ordered (suc n) rs

abbrev pub are_all_kept : List Division → Bool
are_all_kept [] = true
are_all_kept (d ∷ ds) = is_kept_atom (atom_of d) && are_all_kept ds

-- the quotient of that number
abbrev pub Holds : List Division → ℕ → Division → Type 0
Holds ds k d = (k < length ds) × (get_or ds k no_division ≡ d)

-- each quotient keeps its number
abbrev pub Extends : List Division → List Division → Type 0
Extends ds es = (k : ℕ) → k < length ds → Holds es k (get_or ds k no_division)

-- ---- rows that are equal to the letter

abbrev pub is_part : Part → Part → Bool
is_part (Whole a) q = elim q [ Whole b ↦ same_atom (leaf_atom a) (leaf_atom b) | Earlier j ↦ false ]
is_part (Earlier i) q = elim q [ Whole b ↦ false | Earlier j ↦ i == j ]

abbrev pub are_shares : List Share → List Share → Bool
are_shares [] ts = elim ts [ [] ↦ true | t ∷ us ↦ false ]
are_shares (s ∷ ss) ts = elim ts [
  | [] ↦ false
  | t ∷ us ↦ (int_eq s.coefficient t.coefficient && is_part s.part t.part) && are_shares ss us
]

abbrev pub is_row : QuotientRow → QuotientRow → Bool
is_row r s = (int_eq r.constant s.constant && int_eq r.by s.by) && are_shares r.terms s.terms

-- that number is the number of a row that is equal to the letter
abbrev pub is_row_at : QuotientRow → List QuotientRow → ℕ → Bool
is_row_at r [] k = false
is_row_at r (s ∷ rs) zero = is_row r s
is_row_at r (s ∷ rs) (suc k) = is_row_at r rs k

-- ---- rows of another table

-- with the new numbers of the rows that it names
abbrev pub moved_part : List ℕ → Part → Part
moved_part numbers (Whole leaf) = Whole leaf
moved_part numbers (Earlier j) = Earlier (get_or numbers j 0)

abbrev pub moved_share : List ℕ → Share → Share
moved_share numbers s = record {
  coefficient = s.coefficient;
  part = moved_part numbers s.part;
}

-- the numbers in the first table of the first quotients of the second
abbrev pub Follows : List ℕ → List Division → List Division → Type 0
Follows numbers ds es =
    (j : ℕ) → j < length numbers → Holds ds (get_or numbers j 0) (get_or es j no_division)

-- ---- which quotients of two tables are equal

-- for each row of the first so far, whether it is equal to each of the second
abbrev pub is_known : List (List Bool) → ℕ → ℕ → Bool
is_known lines i j = get_or (get_or lines i []) j false

abbrev pub known_part : List (List Bool) → Part → Part → Bool
known_part lines (Whole a) q =
    elim q [ Whole b ↦ same_atom (leaf_atom a) (leaf_atom b) | Earlier j ↦ false ]
known_part lines (Earlier i) q = elim q [ Whole b ↦ false | Earlier j ↦ is_known lines i j ]

abbrev pub known_share : List (List Bool) → Share → Share → Bool
known_share lines s t = known_part lines s.part t.part && int_eq s.coefficient t.coefficient

-- without the first share that is equal; None where there is none
abbrev pub share_taken : List (List Bool) → Share → List Share → Option (List Share)
share_taken lines s [] = None
share_taken lines s (t ∷ ts) =
    if known_share lines s t
    then Some ts
    else elim (share_taken lines s ts) [ None ↦ None | Some us ↦ Some (t ∷ us) ]

abbrev pub known_sum : List (List Bool) → List Share → List Share → Bool
known_sum lines [] ts = elim ts [ [] ↦ true | t ∷ us ↦ false ]
known_sum lines (s ∷ ss) ts =
    elim (share_taken lines s ts) [ None ↦ false | Some us ↦ known_sum lines ss us ]

-- the constants, the literals and the numbers of terms are equal
abbrev pub are_alike : QuotientRow → QuotientRow → Bool
are_alike r s =
    (int_eq r.constant s.constant && int_eq r.by s.by) && length r.terms == length s.terms

abbrev pub known_row : List (List Bool) → QuotientRow → QuotientRow → Bool
known_row lines r s = are_alike r s && known_sum lines r.terms s.terms

-- the lines so far, and those of more rows
abbrev pub with_lines : List (List Bool) → List QuotientRow → List QuotientRow → List (List Bool)
with_lines lines [] ss = lines
with_lines lines (r ∷ rs) ss = with_lines (lines ++ map (known_row lines r) ss ∷ []) rs ss
