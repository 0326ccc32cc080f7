-- Trees of C as codes, by which a proof tells them apart: the number of a form, and then the codes
-- of its parts.
use Rattle.std.specs.Prelude.{◌≡◌, List}
use Rattle.std.specs.Coded.{Coded, coded_ℕ, coded_ℤ, coded_list}
use Rattle.std.proofs.Common.{ap, arith}
use base.Stored.{Gv, gnil, gnum, gcons, num}
use Rattle.exo_tree.specs.CodeParts.{left, right}
use Rattle.exo_tree.specs.Codes.{cell_code}
use Rattle.c_tree.specs.CTree.{Name, Element, Single, Vector, Number64, Literal, Named, StrideIn}
use Rattle.c_tree.specs.CTree.{Opposite, Sum, Difference, Product, Quotient, Remainder, Test}
use Rattle.c_tree.specs.CTree.{Always, Never, IsSet, Less, LessEqual, More, MoreEqual, Equal, Both}
use Rattle.c_tree.specs.CTree.{Either, CellRef, InArray, InWindow, Number32, Literal32, Read32}
use Rattle.c_tree.specs.CTree.{Opposite32, Relu32, Sum32, Difference32, Product32, Select32, Actual}
use Rattle.c_tree.specs.CTree.{Control64, Tested, Alone, Address, WindowOf, Piece, Plain, Filled}
use Rattle.c_tree.specs.CTree.{FirstCell, CStatement, Store, AddTo, SetField, Empty, Branch, Loop}
use Rattle.c_tree.specs.CTree.{Array, Malloc, Free, Bind, CallOf, Instruction, CBlock, stop, first}

abbrev pub name_code : Coded Name
name_code = coded_list coded_ℕ

abbrev pub code_element : Element → Gv
code_element (Single a) = gcons (gnum 0) (cell_code.code a)
code_element (Vector a b c) =
    gcons (gnum 1) (gcons (name_code.code a) (gcons (gnum b) (cell_code.code c)))

pub same_element : (s t : Element) → code_element s ≡ code_element t → s ≡ t
same_element (Single a) (Single a') p = ap Single (cell_code.inj a a' (ap (λ g. right g) p))
same_element (Vector a b c) (Vector a' b' c') p =
    let q0 = name_code.inj a a' (ap (λ g. left (right g)) p) in
    let q1 = ap (λ g. num (left (right (right g)))) p in
    let q2 = cell_code.inj c c' (ap (λ g. right (right (right g))) p) in
    λ i. Vector (q0 i) (q1 i) (q2 i)
same_element _ _ p = let e = ap (λ g. num (left g)) p in absurd (omega arith)

abbrev pub element_code : Coded Element
element_code = record { code = code_element; inj = same_element }

abbrev pub code_number : Number64 → Gv
code_number (Literal a) = gcons (gnum 0) (coded_ℤ.code a)
code_number (Named a) = gcons (gnum 1) (name_code.code a)
code_number (StrideIn a b) = gcons (gnum 2) (gcons (name_code.code a) (gnum b))
code_number (Opposite a) = gcons (gnum 3) (code_number a)
code_number (Sum a b) = gcons (gnum 4) (gcons (code_number a) (code_number b))
code_number (Difference a b) = gcons (gnum 5) (gcons (code_number a) (code_number b))
code_number (Product a b) = gcons (gnum 6) (gcons (code_number a) (code_number b))
code_number (Quotient a b) = gcons (gnum 7) (gcons (code_number a) (coded_ℤ.code b))
code_number (Remainder a b) = gcons (gnum 8) (gcons (code_number a) (coded_ℤ.code b))

pub same_number : (s t : Number64) → code_number s ≡ code_number t → s ≡ t
same_number (Literal a) (Literal a') p = ap Literal (coded_ℤ.inj a a' (ap (λ g. right g) p))
same_number (Named a) (Named a') p = ap Named (name_code.inj a a' (ap (λ g. right g) p))
same_number (StrideIn a b) (StrideIn a' b') p =
    let q0 = name_code.inj a a' (ap (λ g. left (right g)) p) in
    let q1 = ap (λ g. num (right (right g))) p in
    λ i. StrideIn (q0 i) (q1 i)
same_number (Opposite a) (Opposite a') p = ap Opposite (same_number a a' (ap (λ g. right g) p))
same_number (Sum a b) (Sum a' b') p =
    let q0 = same_number a a' (ap (λ g. left (right g)) p) in
    let q1 = same_number b b' (ap (λ g. right (right g)) p) in
    λ i. Sum (q0 i) (q1 i)
same_number (Difference a b) (Difference a' b') p =
    let q0 = same_number a a' (ap (λ g. left (right g)) p) in
    let q1 = same_number b b' (ap (λ g. right (right g)) p) in
    λ i. Difference (q0 i) (q1 i)
same_number (Product a b) (Product a' b') p =
    let q0 = same_number a a' (ap (λ g. left (right g)) p) in
    let q1 = same_number b b' (ap (λ g. right (right g)) p) in
    λ i. Product (q0 i) (q1 i)
same_number (Quotient a b) (Quotient a' b') p =
    let q0 = same_number a a' (ap (λ g. left (right g)) p) in
    let q1 = coded_ℤ.inj b b' (ap (λ g. right (right g)) p) in
    λ i. Quotient (q0 i) (q1 i)
same_number (Remainder a b) (Remainder a' b') p =
    let q0 = same_number a a' (ap (λ g. left (right g)) p) in
    let q1 = coded_ℤ.inj b b' (ap (λ g. right (right g)) p) in
    λ i. Remainder (q0 i) (q1 i)
same_number _ _ p = let e = ap (λ g. num (left g)) p in absurd (omega arith)

abbrev pub number_code : Coded Number64
number_code = record { code = code_number; inj = same_number }

abbrev pub code_test : Test → Gv
code_test Always = gcons (gnum 0) gnil
code_test Never = gcons (gnum 1) gnil
code_test (IsSet a) = gcons (gnum 2) (name_code.code a)
code_test (Less a b) = gcons (gnum 3) (gcons (code_number a) (code_number b))
code_test (LessEqual a b) = gcons (gnum 4) (gcons (code_number a) (code_number b))
code_test (More a b) = gcons (gnum 5) (gcons (code_number a) (code_number b))
code_test (MoreEqual a b) = gcons (gnum 6) (gcons (code_number a) (code_number b))
code_test (Equal a b) = gcons (gnum 7) (gcons (code_number a) (code_number b))
code_test (Both a b) = gcons (gnum 8) (gcons (code_test a) (code_test b))
code_test (Either a b) = gcons (gnum 9) (gcons (code_test a) (code_test b))

pub same_test : (s t : Test) → code_test s ≡ code_test t → s ≡ t
same_test Always Always p = λ i. Always
same_test Never Never p = λ i. Never
same_test (IsSet a) (IsSet a') p = ap IsSet (name_code.inj a a' (ap (λ g. right g) p))
same_test (Less a b) (Less a' b') p =
    let q0 = same_number a a' (ap (λ g. left (right g)) p) in
    let q1 = same_number b b' (ap (λ g. right (right g)) p) in
    λ i. Less (q0 i) (q1 i)
same_test (LessEqual a b) (LessEqual a' b') p =
    let q0 = same_number a a' (ap (λ g. left (right g)) p) in
    let q1 = same_number b b' (ap (λ g. right (right g)) p) in
    λ i. LessEqual (q0 i) (q1 i)
same_test (More a b) (More a' b') p =
    let q0 = same_number a a' (ap (λ g. left (right g)) p) in
    let q1 = same_number b b' (ap (λ g. right (right g)) p) in
    λ i. More (q0 i) (q1 i)
same_test (MoreEqual a b) (MoreEqual a' b') p =
    let q0 = same_number a a' (ap (λ g. left (right g)) p) in
    let q1 = same_number b b' (ap (λ g. right (right g)) p) in
    λ i. MoreEqual (q0 i) (q1 i)
same_test (Equal a b) (Equal a' b') p =
    let q0 = same_number a a' (ap (λ g. left (right g)) p) in
    let q1 = same_number b b' (ap (λ g. right (right g)) p) in
    λ i. Equal (q0 i) (q1 i)
same_test (Both a b) (Both a' b') p =
    let q0 = same_test a a' (ap (λ g. left (right g)) p) in
    let q1 = same_test b b' (ap (λ g. right (right g)) p) in
    λ i. Both (q0 i) (q1 i)
same_test (Either a b) (Either a' b') p =
    let q0 = same_test a a' (ap (λ g. left (right g)) p) in
    let q1 = same_test b b' (ap (λ g. right (right g)) p) in
    λ i. Either (q0 i) (q1 i)
same_test _ _ p = let e = ap (λ g. num (left g)) p in absurd (omega arith)

abbrev pub test_code : Coded Test
test_code = record { code = code_test; inj = same_test }

abbrev pub code_ref : CellRef → Gv
code_ref (InArray a b) = gcons (gnum 0) (gcons (name_code.code a) (code_number b))
code_ref (InWindow a b) = gcons (gnum 1) (gcons (name_code.code a) (code_number b))

pub same_ref : (s t : CellRef) → code_ref s ≡ code_ref t → s ≡ t
same_ref (InArray a b) (InArray a' b') p =
    let q0 = name_code.inj a a' (ap (λ g. left (right g)) p) in
    let q1 = same_number b b' (ap (λ g. right (right g)) p) in
    λ i. InArray (q0 i) (q1 i)
same_ref (InWindow a b) (InWindow a' b') p =
    let q0 = name_code.inj a a' (ap (λ g. left (right g)) p) in
    let q1 = same_number b b' (ap (λ g. right (right g)) p) in
    λ i. InWindow (q0 i) (q1 i)
same_ref _ _ p = let e = ap (λ g. num (left g)) p in absurd (omega arith)

abbrev pub ref_code : Coded CellRef
ref_code = record { code = code_ref; inj = same_ref }

abbrev pub code_data : Number32 → Gv
code_data (Literal32 a) = gcons (gnum 0) (coded_ℤ.code a)
code_data (Read32 a) = gcons (gnum 1) (code_ref a)
code_data (Opposite32 a) = gcons (gnum 2) (code_data a)
code_data (Relu32 a) = gcons (gnum 3) (code_data a)
code_data (Sum32 a b) = gcons (gnum 4) (gcons (code_data a) (code_data b))
code_data (Difference32 a b) = gcons (gnum 5) (gcons (code_data a) (code_data b))
code_data (Product32 a b) = gcons (gnum 6) (gcons (code_data a) (code_data b))
code_data (Select32 a b c d) =
    gcons (gnum 7) (gcons (code_data a) (gcons (code_data b) (gcons (code_data c) (code_data d))))

pub same_data : (s t : Number32) → code_data s ≡ code_data t → s ≡ t
same_data (Literal32 a) (Literal32 a') p = ap Literal32 (coded_ℤ.inj a a' (ap (λ g. right g) p))
same_data (Read32 a) (Read32 a') p = ap Read32 (same_ref a a' (ap (λ g. right g) p))
same_data (Opposite32 a) (Opposite32 a') p = ap Opposite32 (same_data a a' (ap (λ g. right g) p))
same_data (Relu32 a) (Relu32 a') p = ap Relu32 (same_data a a' (ap (λ g. right g) p))
same_data (Sum32 a b) (Sum32 a' b') p =
    let q0 = same_data a a' (ap (λ g. left (right g)) p) in
    let q1 = same_data b b' (ap (λ g. right (right g)) p) in
    λ i. Sum32 (q0 i) (q1 i)
same_data (Difference32 a b) (Difference32 a' b') p =
    let q0 = same_data a a' (ap (λ g. left (right g)) p) in
    let q1 = same_data b b' (ap (λ g. right (right g)) p) in
    λ i. Difference32 (q0 i) (q1 i)
same_data (Product32 a b) (Product32 a' b') p =
    let q0 = same_data a a' (ap (λ g. left (right g)) p) in
    let q1 = same_data b b' (ap (λ g. right (right g)) p) in
    λ i. Product32 (q0 i) (q1 i)
same_data (Select32 a b c d) (Select32 a' b' c' d') p =
    let q0 = same_data a a' (ap (λ g. left (right g)) p) in
    let q1 = same_data b b' (ap (λ g. left (right (right g))) p) in
    let q2 = same_data c c' (ap (λ g. left (right (right (right g)))) p) in
    let q3 = same_data d d' (ap (λ g. right (right (right (right g)))) p) in
    λ i. Select32 (q0 i) (q1 i) (q2 i) (q3 i)
same_data _ _ p = let e = ap (λ g. num (left g)) p in absurd (omega arith)

abbrev pub data_code : Coded Number32
data_code = record { code = code_data; inj = same_data }

abbrev pub numbers_code : Coded (List Number64)
numbers_code = coded_list number_code

abbrev pub code_actual : Actual → Gv
code_actual (Control64 a) = gcons (gnum 0) (code_number a)
code_actual (Tested a) = gcons (gnum 1) (code_test a)
code_actual (Alone a) = gcons (gnum 2) (name_code.code a)
code_actual (Address a) = gcons (gnum 3) (code_ref a)
code_actual (WindowOf a b c d) =
    gcons (gnum 4)
    (gcons (gnum a) (gcons (cell_code.code b) (gcons (code_ref c) (numbers_code.code d))))

pub same_actual : (s t : Actual) → code_actual s ≡ code_actual t → s ≡ t
same_actual (Control64 a) (Control64 a') p = ap Control64 (same_number a a' (ap (λ g. right g) p))
same_actual (Tested a) (Tested a') p = ap Tested (same_test a a' (ap (λ g. right g) p))
same_actual (Alone a) (Alone a') p = ap Alone (name_code.inj a a' (ap (λ g. right g) p))
same_actual (Address a) (Address a') p = ap Address (same_ref a a' (ap (λ g. right g) p))
same_actual (WindowOf a b c d) (WindowOf a' b' c' d') p =
    let q0 = ap (λ g. num (left (right g))) p in
    let q1 = cell_code.inj b b' (ap (λ g. left (right (right g))) p) in
    let q2 = same_ref c c' (ap (λ g. left (right (right (right g)))) p) in
    let q3 = numbers_code.inj d d' (ap (λ g. right (right (right (right g)))) p) in
    λ i. WindowOf (q0 i) (q1 i) (q2 i) (q3 i)
same_actual _ _ p = let e = ap (λ g. num (left g)) p in absurd (omega arith)

abbrev pub actual_code : Coded Actual
actual_code = record { code = code_actual; inj = same_actual }

abbrev pub code_piece : Piece → Gv
code_piece (Plain a) = gcons (gnum 0) (name_code.code a)
code_piece (Filled a) = gcons (gnum 1) (code_actual a)
code_piece (FirstCell a) = gcons (gnum 2) (code_ref a)

pub same_piece : (s t : Piece) → code_piece s ≡ code_piece t → s ≡ t
same_piece (Plain a) (Plain a') p = ap Plain (name_code.inj a a' (ap (λ g. right g) p))
same_piece (Filled a) (Filled a') p = ap Filled (same_actual a a' (ap (λ g. right g) p))
same_piece (FirstCell a) (FirstCell a') p = ap FirstCell (same_ref a a' (ap (λ g. right g) p))
same_piece _ _ p = let e = ap (λ g. num (left g)) p in absurd (omega arith)

abbrev pub piece_code : Coded Piece
piece_code = record { code = code_piece; inj = same_piece }

abbrev pub actuals_code : Coded (List Actual)
actuals_code = coded_list actual_code

abbrev pub pieces_code : Coded (List Piece)
pieces_code = coded_list piece_code

abbrev mutual
  pub code_statement : CStatement → Gv
  code_statement (Store a b c) =
      gcons (gnum 0) (gcons (cell_code.code a) (gcons (code_ref b) (code_data c)))
  code_statement (AddTo a b c) =
      gcons (gnum 1) (gcons (cell_code.code a) (gcons (code_ref b) (code_data c)))
  code_statement (SetField a b) = gcons (gnum 2) (gcons (name_code.code a) (code_actual b))
  code_statement Empty = gcons (gnum 3) gnil
  code_statement (Branch a b c) =
      gcons (gnum 4) (gcons (code_test a) (gcons (code_block b) (code_block c)))
  code_statement (Loop a b c d) =
      gcons (gnum 5)
      (gcons (name_code.code a) (gcons (code_number b) (gcons (code_number c) (code_block d))))
  code_statement (Array a b c) =
      gcons (gnum 6) (gcons (code_element a) (gcons (name_code.code b) (coded_ℤ.code c)))
  code_statement (Malloc a b c) =
      gcons (gnum 7) (gcons (code_element a) (gcons (name_code.code b) (code_number c)))
  code_statement (Free a) = gcons (gnum 8) (name_code.code a)
  code_statement (Bind a b c d e) =
      gcons (gnum 9)
      (gcons (gnum a)
      (gcons (cell_code.code b)
      (gcons (name_code.code c) (gcons (code_ref d) (numbers_code.code e)))))
  code_statement (CallOf a b) = gcons (gnum 10) (gcons (name_code.code a) (actuals_code.code b))
  code_statement (Instruction a b c) =
      gcons (gnum 11) (gcons (gnum a) (gcons (pieces_code.code b) (actuals_code.code c)))

  pub code_block : CBlock → Gv
  code_block stop = gcons (gnum 0) gnil
  code_block (first a b) = gcons (gnum 1) (gcons (code_statement a) (code_block b))

mutual
  pub same_statement : (s t : CStatement) → code_statement s ≡ code_statement t → s ≡ t
  same_statement (Store a b c) (Store a' b' c') p =
      let q0 = cell_code.inj a a' (ap (λ g. left (right g)) p) in
      let q1 = same_ref b b' (ap (λ g. left (right (right g))) p) in
      let q2 = same_data c c' (ap (λ g. right (right (right g))) p) in
      λ i. Store (q0 i) (q1 i) (q2 i)
  same_statement (AddTo a b c) (AddTo a' b' c') p =
      let q0 = cell_code.inj a a' (ap (λ g. left (right g)) p) in
      let q1 = same_ref b b' (ap (λ g. left (right (right g))) p) in
      let q2 = same_data c c' (ap (λ g. right (right (right g))) p) in
      λ i. AddTo (q0 i) (q1 i) (q2 i)
  same_statement (SetField a b) (SetField a' b') p =
      let q0 = name_code.inj a a' (ap (λ g. left (right g)) p) in
      let q1 = same_actual b b' (ap (λ g. right (right g)) p) in
      λ i. SetField (q0 i) (q1 i)
  same_statement Empty Empty p = λ i. Empty
  same_statement (Branch a b c) (Branch a' b' c') p =
      let q0 = same_test a a' (ap (λ g. left (right g)) p) in
      let q1 = same_block b b' (ap (λ g. left (right (right g))) p) in
      let q2 = same_block c c' (ap (λ g. right (right (right g))) p) in
      λ i. Branch (q0 i) (q1 i) (q2 i)
  same_statement (Loop a b c d) (Loop a' b' c' d') p =
      let q0 = name_code.inj a a' (ap (λ g. left (right g)) p) in
      let q1 = same_number b b' (ap (λ g. left (right (right g))) p) in
      let q2 = same_number c c' (ap (λ g. left (right (right (right g)))) p) in
      let q3 = same_block d d' (ap (λ g. right (right (right (right g)))) p) in
      λ i. Loop (q0 i) (q1 i) (q2 i) (q3 i)
  same_statement (Array a b c) (Array a' b' c') p =
      let q0 = same_element a a' (ap (λ g. left (right g)) p) in
      let q1 = name_code.inj b b' (ap (λ g. left (right (right g))) p) in
      let q2 = coded_ℤ.inj c c' (ap (λ g. right (right (right g))) p) in
      λ i. Array (q0 i) (q1 i) (q2 i)
  same_statement (Malloc a b c) (Malloc a' b' c') p =
      let q0 = same_element a a' (ap (λ g. left (right g)) p) in
      let q1 = name_code.inj b b' (ap (λ g. left (right (right g))) p) in
      let q2 = same_number c c' (ap (λ g. right (right (right g))) p) in
      λ i. Malloc (q0 i) (q1 i) (q2 i)
  same_statement (Free a) (Free a') p = ap Free (name_code.inj a a' (ap (λ g. right g) p))
  same_statement (Bind a b c d e) (Bind a' b' c' d' e') p =
      let q0 = ap (λ g. num (left (right g))) p in
      let q1 = cell_code.inj b b' (ap (λ g. left (right (right g))) p) in
      let q2 = name_code.inj c c' (ap (λ g. left (right (right (right g)))) p) in
      let q3 = same_ref d d' (ap (λ g. left (right (right (right (right g))))) p) in
      let q4 = numbers_code.inj e e' (ap (λ g. right (right (right (right (right g))))) p) in
      λ i. Bind (q0 i) (q1 i) (q2 i) (q3 i) (q4 i)
  same_statement (CallOf a b) (CallOf a' b') p =
      let q0 = name_code.inj a a' (ap (λ g. left (right g)) p) in
      let q1 = actuals_code.inj b b' (ap (λ g. right (right g)) p) in
      λ i. CallOf (q0 i) (q1 i)
  same_statement (Instruction a b c) (Instruction a' b' c') p =
      let q0 = ap (λ g. num (left (right g))) p in
      let q1 = pieces_code.inj b b' (ap (λ g. left (right (right g))) p) in
      let q2 = actuals_code.inj c c' (ap (λ g. right (right (right g))) p) in
      λ i. Instruction (q0 i) (q1 i) (q2 i)
  same_statement _ _ p = let e = ap (λ g. num (left g)) p in absurd (omega arith)

  pub same_block : (s t : CBlock) → code_block s ≡ code_block t → s ≡ t
  same_block stop stop p = λ i. stop
  same_block (first a b) (first a' b') p =
      let q0 = same_statement a a' (ap (λ g. left (right g)) p) in
      let q1 = same_block b b' (ap (λ g. right (right g)) p) in
      λ i. first (q0 i) (q1 i)
  same_block _ _ p = let e = ap (λ g. num (left g)) p in absurd (omega arith)

abbrev pub statement_code : Coded CStatement
statement_code = record { code = code_statement; inj = same_statement }
