-- The text of C trees.
use Rattle.std.specs.Prelude.{ℕ, List, [], ◌∷◌, ◌++◌, map, codes, decimal}
use Rattle.std.specs.Fmt.{signed_decimal}
use Rattle.exo_tree.specs.Tree.{Cell, I8, I16, I32, Ui8}
use Rattle.exo_tree.specs.Named.{cell_word}
use Rattle.c_tree.specs.CTree.{Name, Element, Single, Vector, Number64, Literal, Named, StrideIn}
use Rattle.c_tree.specs.CTree.{Opposite, Sum, Difference, Product, Quotient, Remainder, Test}
use Rattle.c_tree.specs.CTree.{Always, Never, IsSet, Less, LessEqual, More, MoreEqual, Equal, Both}
use Rattle.c_tree.specs.CTree.{Either, CellRef, InArray, InWindow, Number32, Literal32, Read32}
use Rattle.c_tree.specs.CTree.{Opposite32, Relu32, Sum32, Difference32, Product32, Select32, Actual}
use Rattle.c_tree.specs.CTree.{Control64, Tested, Alone, Address, WindowOf, Piece, Plain, Filled}
use Rattle.c_tree.specs.CTree.{FirstCell, CStatement, Store, AddTo, SetField, Empty, Branch, Loop}
use Rattle.c_tree.specs.CTree.{Array, Malloc, Free, Bind, CallOf, Instruction, CBlock, stop, first}
use Rattle.c_tree.specs.CTree.{Formal, Number64Param, ArrayParam, WindowParamOf, CFunction}
use Rattle.c_tree.specs.CTree.{ReportLine, StructOf, CUnit}
use Rattle.text_show.specs.Layout.{line, deeper}
pub use Rattle.c_tree.specs.Names.Helpers.{Text, margin, helpers}

-- in parentheses, with a word between
abbrev pub between : Text → Text → Text → Text
between a word b = codes "(" ++ a ++ codes " " ++ word ++ codes " " ++ b ++ codes ")"

-- what each gives, in order
abbrev pub each : {A : Type 0} → (A → Text) → List A → Text
each f [] = []
each f (a ∷ rest) = f a ++ each f rest

-- with a comma between
abbrev pub listed : List Text → Text
listed [] = []
listed (t ∷ ts) = t ++ each (λ u. codes ", " ++ u) ts

abbrev pub type_word : Cell → Text
type_word I8 = codes "int8_t"
type_word I16 = codes "int16_t"
type_word I32 = codes "int32_t"
type_word Ui8 = codes "uint8_t"

abbrev pub element_word : Element → Text
element_word (Single cell) = type_word cell
element_word (Vector ctype lanes cell) = ctype

abbrev pub struct_word : ℕ → Cell → Text
struct_word rank cell = codes "struct exo_win_" ++ decimal rank ++ cell_word cell

-- ---- expressions

abbrev pub number64_text : Number64 → Text
number64_text (Literal n) = signed_decimal n ++ codes "LL"
number64_text (Named x) = x
number64_text (StrideIn w k) = w ++ codes ".strides[" ++ decimal k ++ codes "]"
number64_text (Opposite a) = codes "(-" ++ number64_text a ++ codes ")"
number64_text (Sum a b) = between (number64_text a) (codes "+") (number64_text b)
number64_text (Difference a b) = between (number64_text a) (codes "-") (number64_text b)
number64_text (Product a b) = between (number64_text a) (codes "*") (number64_text b)
number64_text (Quotient a c) =
    codes "exo_div(" ++ number64_text a ++ codes ", " ++ signed_decimal c ++ codes "LL)"
number64_text (Remainder a c) =
    codes "exo_mod(" ++ number64_text a ++ codes ", " ++ signed_decimal c ++ codes "LL)"

abbrev pub test_text : Test → Text
test_text Always = codes "1"
test_text Never = codes "0"
test_text (IsSet x) = between x (codes "!=") (codes "0LL")
test_text (Less a b) = between (number64_text a) (codes "<") (number64_text b)
test_text (LessEqual a b) = between (number64_text a) (codes "<=") (number64_text b)
test_text (More a b) = between (number64_text a) (codes ">") (number64_text b)
test_text (MoreEqual a b) = between (number64_text a) (codes ">=") (number64_text b)
test_text (Equal a b) = between (number64_text a) (codes "==") (number64_text b)
test_text (Both a b) = between (test_text a) (codes "&&") (test_text b)
test_text (Either a b) = between (test_text a) (codes "||") (test_text b)

abbrev pub cell_text : CellRef → Text
cell_text (InArray x off) = x ++ codes "[" ++ number64_text off ++ codes "]"
cell_text (InWindow w off) = w ++ codes ".data[" ++ number64_text off ++ codes "]"

abbrev pub number32_text : Number32 → Text
number32_text (Literal32 n) = signed_decimal n ++ codes "u"
number32_text (Read32 ref) = codes "(uint32_t)" ++ cell_text ref
number32_text (Opposite32 a) = between (codes "0u") (codes "-") (number32_text a)
number32_text (Relu32 a) = codes "exo_relu(" ++ number32_text a ++ codes ")"
number32_text (Sum32 a b) = between (number32_text a) (codes "+") (number32_text b)
number32_text (Difference32 a b) = between (number32_text a) (codes "-") (number32_text b)
number32_text (Product32 a b) = between (number32_text a) (codes "*") (number32_text b)
number32_text (Select32 a b c d) =
    codes "exo_select("
    ++ listed (number32_text a ∷ number32_text b ∷ number32_text c ∷ number32_text d ∷ [])
    ++ codes ")"

-- a window's value
abbrev pub window_text : ℕ → Cell → CellRef → List Number64 → Text
window_text rank cell ref strides =
    codes "(" ++ struct_word rank cell ++ codes "){ &" ++ cell_text ref ++ codes ", { "
    ++ listed (map number64_text strides) ++ codes " } }"

abbrev pub actual_text : Actual → Text
actual_text (Control64 e) = number64_text e
actual_text (Tested t) = test_text t
actual_text (Alone x) = x
actual_text (Address ref) = codes "&" ++ cell_text ref
actual_text (WindowOf rank cell ref strides) = window_text rank cell ref strides

abbrev pub piece_text : Piece → Text
piece_text (Plain t) = t
piece_text (Filled a) = actual_text a
piece_text (FirstCell ref) = cell_text ref

-- ---- statements

abbrev pub allocation_text : Text → Name → Text → Text
allocation_text t x n =
    t ++ codes " *" ++ x ++ codes " = (" ++ t ++ codes " *)malloc((size_t)" ++ n
    ++ codes " * sizeof(" ++ t ++ codes "));"

abbrev pub bound_text : ℕ → Cell → Name → Text → Text
bound_text rank cell w window =
    struct_word rank cell ++ codes " " ++ w ++ codes " = " ++ window ++ codes ";"

abbrev pub loop_text : Name → Text → Text → Text
loop_text x lo hi =
    codes "for (int64_t " ++ x ++ codes " = " ++ lo ++ codes "; " ++ x ++ codes " < " ++ hi
    ++ codes "; " ++ x ++ codes "++) {"

-- the first line of a statement
abbrev pub head_text : CStatement → Text
head_text (Store cell ref e) =
    cell_text ref ++ codes " = (" ++ type_word cell ++ codes ")" ++ number32_text e ++ codes ";"
head_text (AddTo cell ref e) =
    cell_text ref ++ codes " = (" ++ type_word cell ++ codes ")((uint32_t)" ++ cell_text ref
    ++ codes " + " ++ number32_text e ++ codes ");"
head_text (SetField x a) = x ++ codes " = " ++ actual_text a ++ codes ";"
head_text Empty = codes ";"
head_text (Branch t a b) = codes "if (" ++ test_text t ++ codes ") {"
head_text (Loop x lo hi b) = loop_text x (number64_text lo) (number64_text hi)
head_text (Array element x n) =
    element_word element ++ codes " " ++ x ++ codes "[" ++ signed_decimal n ++ codes "];"
head_text (Malloc element x n) = allocation_text (element_word element) x (number64_text n)
head_text (Free x) = codes "free(" ++ x ++ codes ");"
head_text (Bind rank cell w ref strides) =
    bound_text rank cell w (window_text rank cell ref strides)
head_text (CallOf f args) = f ++ codes "(" ++ listed (map actual_text args) ++ codes ");"
head_text (Instruction k pieces args) = each piece_text pieces

-- what follows the first branch: its brace alone where there is no second
abbrev pub or_else : Text → CBlock → Text → Text
or_else indent stop t = line indent (codes "}")
or_else indent (first a b) t = line indent (codes "} else {") ++ t ++ line indent (codes "}")

abbrev mutual
  -- the lines of a block behind an indentation
  pub block_text : Text → CBlock → Text
  block_text indent stop = []
  block_text indent (first a b) =
      line indent (head_text a) ++ inner_text indent a ++ block_text indent b

  -- the lines of a statement after its first
  pub inner_text : Text → CStatement → Text
  inner_text indent (Branch t a b) =
      block_text (deeper indent) a ++ or_else indent b (block_text (deeper indent) b)
  inner_text indent (Loop x lo hi b) = block_text (deeper indent) b ++ line indent (codes "}")
  inner_text indent _ = []

-- ---- functions

abbrev pub formal_text : Formal → Text
formal_text (Number64Param x) = codes "int64_t " ++ x
formal_text (ArrayParam cell x) = type_word cell ++ codes " *" ++ x
formal_text (WindowParamOf rank cell x) = struct_word rank cell ++ codes " " ++ x

abbrev pub or_word : Text → List Text → Text
or_word word [] = word
or_word word (t ∷ ts) = listed (t ∷ ts)

abbrev pub signature_text : Name → Text → Text
signature_text f params = codes "void " ++ f ++ codes "(" ++ params ++ codes ") {"

abbrev pub function_text : CFunction → Text
function_text f =
    margin (signature_text f.name (or_word (codes "void") (map formal_text f.formals)))
    ++ block_text (codes "    ") f.body ++ margin (codes "}")

-- ---- the whole file

abbrev pub origin_text : Name → Name → Text → Text
origin_text name origin fields =
    codes " * " ++ name ++ codes ": from " ++ origin ++ codes "; differs: " ++ fields

abbrev pub report_text : ReportLine → Text
report_text r = margin (origin_text r.name r.origin (or_word (codes "nothing") r.differs))

abbrev pub include_text : Text → Text
include_text t = margin (codes "#include <" ++ t ++ codes ">")

abbrev pub struct_line : ℕ → Cell → Text
struct_line rank cell =
    struct_word rank cell ++ codes " { " ++ type_word cell ++ codes " *data; int64_t strides["
    ++ decimal rank ++ codes "]; };"

abbrev pub struct_text : StructOf → Text
struct_text s = margin (struct_line s.rank s.cell)

abbrev pub field_text : Name → Text
field_text x = margin (codes "int64_t " ++ x ++ codes ";")

-- the headers, and the helpers after an empty line
abbrev pub preamble_text : List Text → Text
preamble_text headers =
    margin (codes "#include <stdint.h>") ++ margin (codes "#include <stdlib.h>")
    ++ each include_text headers ++ margin [] ++ helpers

-- the report in a comment, the preamble, the structs and the fields, and each function after an empty line
abbrev pub text_of : CUnit → Text
text_of u =
    margin (codes "/* exoc") ++ each report_text u.report ++ margin (codes " */")
    ++ preamble_text u.includes ++ each struct_text u.structs ++ each field_text u.fields
    ++ each (λ f. margin [] ++ function_text f) u.functions
