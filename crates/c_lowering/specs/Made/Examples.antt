-- Closed texts, by which the rules of lowering can be read off.
use Rattle.std.specs.Prelude.{◌≡◌, ℕ, suc, pos, true, false, List, [], ◌∷◌, ◌++◌, codes, Some, None}
use Rattle.exo_tree.specs.Tree.{Cell, I8, I16, I32, Ui8, Size, Binder, Control, Lit, Var, StrideOf}
use Rattle.exo_tree.specs.Tree.{Sub, Condition, Eq, Coord, At, Span, ControlArg, Whole, Window}
use Rattle.exo_tree.specs.Tree.{Const, Read, Statement, Assign, For, Alloc, View, Call, Block, end}
use Rattle.exo_tree.specs.Tree.{next, Param, ParamKind, ControlParam, TensorParam, WindowParam}
use Rattle.exo_tree.specs.Tree.{Procedure, MemoryKind, Program}
use Rattle.c_tree.specs.CText.{Text, margin, each, struct_text, function_text}
use Rattle.c_tree.specs.CTree.{CUnit}
use Rattle.c_lowering.specs.Made.LoweredUnit.{Printing, lowered}

abbrev pub named : ℕ → List ℕ → Binder
named id name = record { id = id; name = name }

abbrev pub param : ℕ → List ℕ → ParamKind → Param
param id name kind = record { binder = named id name; kind = kind }

abbrev pub printed : ℕ → List ℕ → Printing
printed k name = record { proc = k; origin = name; fields = [] }

-- the structs and the functions of a file
abbrev pub lines_of : CUnit → Text
lines_of u = each struct_text u.structs ++ each (λ f. margin [] ++ function_text f) u.functions

-- ---- a window of a column

-- for l in seq(0, hi): ..
abbrev pub for_l : ℕ → Control → Statement → Block
for_l l hi a = next (For (named l (codes "l")) (Lit (pos 0)) hi (next a end)) end

-- def fill(n: size, w: [i32][n]): for l in seq(0, n): w[l] = 5
abbrev pub fill : Procedure
fill = record {
  name = codes "fill";
  params =
      param 0 (codes "n") (ControlParam Size)
      ∷ param 1 (codes "w") (WindowParam I32 (Var 0 ∷ []) 0)
      ∷ [];
  asserts = [];
  body = for_l 2 (Var 0) (Assign 1 (Var 2 ∷ []) (Const (pos 5)));
  template = None;
}

-- def col(M: size, N: size, A: i32[M, N]), with that body
abbrev pub col : Block → Procedure
col body = record {
  name = codes "col";
  params =
      param 3 (codes "M") (ControlParam Size)
      ∷ param 4 (codes "N") (ControlParam Size)
      ∷ param 5 (codes "A") (TensorParam I32 (Var 3 ∷ Var 4 ∷ []) 0)
      ∷ [];
  asserts = [];
  body = body;
  template = None;
}

-- 0:M, N - 1
abbrev pub last_column : List Coord
last_column = Span (Lit (pos 0)) (Var 3) ∷ At (Sub (Var 4) (Lit (pos 1))) ∷ []

abbrev pub columns : Block → Text
columns body =
    lines_of (lowered
    (record { procedures = fill ∷ col body ∷ []; fields = []; memories = [] })
    (printed 0 (codes "fill") ∷ printed 1 (codes "col") ∷ []))

abbrev pub fill_lines : Text
fill_lines =
    margin (codes "struct exo_win_1i32 { int32_t *data; int64_t strides[1]; };") ++ margin []
    ++ margin (codes "void fill(int64_t n, struct exo_win_1i32 w) {")
    ++ margin (codes "    for (int64_t l = 0LL; l < n; l++) {")
    ++ margin (codes "        w.data[(l * w.strides[0])] = (int32_t)5u;")
    ++ margin (codes "    }")
    ++ margin (codes "}") ++ margin []
    ++ margin (codes "void col(int64_t M, int64_t N, int32_t *A) {")

abbrev pub one_cell : ℕ → List ℕ → Cell → Param
one_cell id name cell = param id name (WindowParam cell (Lit (pos 1) ∷ []) 0)

-- def put(a: [ui8][1], b: [i16][1], c: [i8][1]): a[0] = 200
abbrev pub put : Procedure
put = record {
  name = codes "put";
  params = one_cell 0 (codes "a") Ui8 ∷ one_cell 1 (codes "b") I16 ∷ one_cell 2 (codes "c") I8 ∷ [];
  asserts = [];
  body = next (Assign 0 (Lit (pos 0) ∷ []) (Const (pos 200))) end;
  template = None;
}

abbrev pub put_lines : Text
put_lines =
    margin (codes "struct exo_win_1i8 { int8_t *data; int64_t strides[1]; };")
    ++ margin (codes "struct exo_win_1i16 { int16_t *data; int64_t strides[1]; };")
    ++ margin (codes "struct exo_win_1ui8 { uint8_t *data; int64_t strides[1]; };") ++ margin []
    ++ margin
    (codes "void put(struct exo_win_1ui8 a, struct exo_win_1i16 b, struct exo_win_1i8 c) {")
    ++ margin (codes "    a.data[(0LL * a.strides[0])] = (uint8_t)200u;")
    ++ margin (codes "}")

pub record WindowsArePrinted : Type 0 where
  pub as_argument :
      columns (next (Call 0 (ControlArg (Var 3) ∷ Window 5 last_column ∷ [])) end) ≡
      fill_lines
      ++ margin (codes "    fill(M, (struct exo_win_1i32){ &A[((0LL * N) + (N - 1LL))], { N } });")
      ++ margin (codes "}")
  pub as_view :
      columns
      (next
      (View (named 6 (codes "v")) 5 last_column)
      (next (Call 0 (ControlArg (Var 3) ∷ Whole 6 ∷ [])) end)) ≡
      fill_lines
      ++ margin
      (codes
      "    struct exo_win_1i32 v = (struct exo_win_1i32){ &A[((0LL * N) + (N - 1LL))], { N } };")
      ++ margin (codes "    fill(M, v);")
      ++ margin (codes "}")
  pub by_type :
      lines_of (lowered
      (record { procedures = put ∷ []; fields = []; memories = [] }) (printed 0 (codes "put") ∷ []))
      ≡ put_lines

-- ---- instructions and vectors

abbrev pub dram : MemoryKind
dram = record {
  name = codes "DRAM";
  ctype = [];
  lanes = 0;
  cell = None;
  stack = false;
  read = true;
  write = true;
  reduce = true;
  header = [];
}

abbrev pub avx2 : MemoryKind
avx2 = record {
  name = codes "AVX2";
  ctype = codes "__m256i";
  lanes = 8;
  cell = Some I32;
  stack = true;
  read = false;
  write = false;
  reduce = false;
  header = codes "immintrin.h";
}

abbrev pub eight : List Control
eight = Lit (pos 8) ∷ []

-- stride(x, 0) == 1
abbrev pub in_order : ℕ → Condition
in_order x = Eq (StrideOf x 0) (Lit (pos 1))

-- def NAME(dst: [i32][8] @ .., src: [i32][8] @ ..): for l in seq(0, 8): dst[l] = src[l]
abbrev pub moves8 : List ℕ → List ℕ → ℕ → ℕ → ℕ → Procedure
moves8 name template id to from = record {
  name = name;
  params =
      param id (codes "dst") (WindowParam I32 eight to)
      ∷ param (suc id) (codes "src") (WindowParam I32 eight from)
      ∷ [];
  asserts = in_order (suc id) ∷ in_order id ∷ [];
  body =
      for_l
      (suc (suc id))
      (Lit (pos 8))
      (Assign id (Var (suc (suc id)) ∷ []) (Read (suc id) (Var (suc (suc id)) ∷ [])));
  template = Some template;
}

abbrev pub load8 : Procedure
load8 =
    moves8 (codes "load8")
    (codes "{dst_data} = _mm256_loadu_si256((const __m256i *)&{src_data});")
    0 1 0

abbrev pub store8 : Procedure
store8 =
    moves8 (codes "store8")
    (codes "_mm256_storeu_si256((__m256i *)&{dst_data}, {src_data});")
    3 0 1

-- 0:8
abbrev pub first8 : List Coord
first8 = Span (Lit (pos 0)) (Lit (pos 8)) ∷ []

-- def copy8(x: i32[8], y: i32[8]): v : i32[8] @ AVX2, load8(v[0:8], x[0:8]), store8(y[0:8], v[0:8])
abbrev pub copy8 : Procedure
copy8 = record {
  name = codes "copy8";
  params =
      param 6 (codes "x") (TensorParam I32 eight 0)
      ∷ param 7 (codes "y") (TensorParam I32 eight 0)
      ∷ [];
  asserts = [];
  body =
      next (Alloc (named 8 (codes "v")) I32 eight 1)
      (next (Call 0 (Window 8 first8 ∷ Window 6 first8 ∷ []))
      (next (Call 1 (Window 7 first8 ∷ Window 8 first8 ∷ [])) end));
  template = None;
}

abbrev pub vector_program : Program
vector_program = record {
  procedures = load8 ∷ store8 ∷ copy8 ∷ [];
  fields = [];
  memories = dram ∷ avx2 ∷ [];
}

pub record InstructionsArePrinted : Type 0 where
  pub includes :
      (lowered vector_program (printed 2 (codes "copy8") ∷ [])).includes ≡
      codes "immintrin.h" ∷ []
  pub lines :
      lines_of (lowered vector_program (printed 2 (codes "copy8") ∷ [])) ≡
      margin [] ++ margin (codes "void copy8(int32_t *x, int32_t *y) {")
      ++ margin (codes "    __m256i v[1];")
      ++ margin (codes "    v[0LL] = _mm256_loadu_si256((const __m256i *)&x[0LL]);")
      ++ margin (codes "    _mm256_storeu_si256((__m256i *)&y[0LL], v[0LL]);")
      ++ margin (codes "}")
