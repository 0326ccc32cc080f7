-- Closed runs, by which the rules of the machine can be read off.
use Rattle.std.specs.Prelude.{◌≡◌, ℕ, ℤ, pos, negsuc, ◌+ℤ◌, ◌==◌, false, if◌then◌else◌, List, []}
use Rattle.std.specs.Prelude.{◌∷◌, map, codes, Option, Some, None}
use Rattle.exo_tree.specs.Tree.{Cell, I8, I16, I32, Ui8}
use Rattle.exo_meaning.specs.Value.{Value, Undefined, Number}
use Rattle.c_tree.specs.CTree.{Name, Single, Vector, Number64, Literal, Named, StrideIn, Sum}
use Rattle.c_tree.specs.CTree.{Difference, Product, Quotient, Remainder, CellRef, InArray, InWindow}
use Rattle.c_tree.specs.CTree.{Number32, Literal32, Read32, Difference32, Actual, Control64, Alone}
use Rattle.c_tree.specs.CTree.{WindowOf, CStatement, Store, AddTo, Loop, Array, Malloc, Free, Bind}
use Rattle.c_tree.specs.CTree.{CallOf, Instruction, CBlock, stop, first, Number64Param, ArrayParam}
use Rattle.c_tree.specs.CTree.{WindowParamOf, CFunction, CUnit}
use Rattle.c_unit_laws.specs.Follows.Machine.Machine.{Outcome, Done, Fault, NoStore, after}
use Rattle.c_unit_laws.specs.Follows.Machine.Machine.{IsNumber, IsArray}
use Rattle.c_unit_laws.specs.Follows.Machine.Machine.{Machine, number64}
use Rattle.c_unit_laws.specs.Follows.Machine.CRun.{CWorld, Behaviour, run_c, run_file}

-- no names, no objects, no functions
abbrev pub bare : Machine
bare = record {
  setting = record { names = λ x. None; objects = λ o. None; free = 0; fields = λ x. pos 0 };
  contents = λ o k. Undefined;
}

abbrev pub alone : CWorld
alone = record { globals = λ x. None; functions = λ x. None; instructions = λ k. None }

abbrev pub computed : Number64 → Outcome ℤ
computed = number64 bare.setting

pub record NumbersAreChecked : Type 0 where
  pub too_large : computed (Sum (Literal (pos 9223372036854775807)) (Literal (pos 1))) ≡ Fault
  pub no_divisor : computed (Quotient (Literal (pos 1)) (pos 0)) ≡ Fault
  pub rounds_down : computed (Quotient (Literal (negsuc 2)) (pos 8)) ≡ Done (negsuc 0)
  pub remainder : computed (Remainder (Literal (negsuc 2)) (pos 8)) ≡ Done (pos 5)

abbrev pub x : Name
x = codes "x"

-- `x[k] = (int8_t)n;`
abbrev pub put8 : ℤ → ℤ → CStatement
put8 k n = Store I8 (InArray x (Literal k)) (Literal32 n)

-- what the first cell of the first object holds at the end
abbrev pub first_cell : CBlock → Outcome Value
first_cell b = after (run_c alone b bare) (λ m. Done (m.contents 0 (pos 0)))

abbrev pub made : ℤ → CBlock → CBlock
made n b = first (Malloc (Single I8) x (Literal n)) b

pub record CellsAreChecked : Type 0 where
  pub inside : first_cell (made (pos 2) (first (put8 (pos 0) (pos 7)) stop)) ≡ Done (Number (pos 7))
  pub behind : first_cell (made (pos 2) (first (put8 (pos 2) (pos 7)) stop)) ≡ Fault
  pub before : first_cell (made (pos 2) (first (put8 (negsuc 0) (pos 7)) stop)) ≡ Fault
  pub freed : first_cell (made (pos 2) (first (Free x) (first (put8 (pos 0) (pos 7)) stop))) ≡ Fault
  pub not_freed : first_cell (first (Array (Single I8) x (pos 1)) (first (Free x) stop)) ≡ Fault
  pub no_cells : first_cell (made (pos 0) stop) ≡ Fault
  pub no_store : first_cell (made (pos 281474976710657) stop) ≡ NoStore
  pub stored : first_cell (made (pos 281474976710656) stop) ≡ Done Undefined

-- `x[0] = (TYPE)E;` in a cell of that type, and what comes after
abbrev pub put_in : Cell → Number32 → CBlock → CBlock
put_in cell e rest =
    first (Array (Single cell) x (pos 1))
    (first (Store cell (InArray x (Literal (pos 0))) e) rest)

abbrev pub kept : Cell → Number32 → Outcome Value
kept cell e = first_cell (put_in cell e stop)

pub record StoresWrap : Type 0 where
  pub signed_8 : kept I8 (Literal32 (pos 200)) ≡ Done (Number (negsuc 55))
  pub signed_16 : kept I16 (Literal32 (pos 40000)) ≡ Done (Number (negsuc 25535))
  pub unsigned_8 : kept Ui8 (Literal32 (pos 200)) ≡ Done (Number (pos 200))
  pub below_zero :
      kept Ui8 (Difference32 (Literal32 (pos 0)) (Literal32 (pos 1))) ≡ Done (Number (pos 255))
  pub one_more :
      first_cell (put_in Ui8 (Literal32 (pos 255))
      (first (AddTo Ui8 (InArray x (Literal (pos 0))) (Literal32 (pos 1))) stop))
      ≡ Done (Number (pos 0))

-- ---- calls

abbrev pub fill_name : Name
fill_name = codes "fill"

abbrev pub n : Name
n = codes "n"

abbrev pub w : Name
w = codes "w"

abbrev pub l : Name
l = codes "l"

-- `w.data[(l * w.strides[0])]`
abbrev pub at_l : Name → CellRef
at_l v = InWindow v (Product (Named l) (StrideIn v 0))

-- `for (int64_t l = 0LL; l < HI; l++) { .. }`
abbrev pub for_l : Number64 → CStatement → CBlock
for_l hi a = first (Loop l (Literal (pos 0)) hi (first a stop)) stop

-- void fill(int64_t n, struct exo_win_1i32 w): w.data[(l * w.strides[0])] = (int32_t)5u;
abbrev pub fill : CFunction
fill = record {
  name = fill_name;
  formals = Number64Param n ∷ WindowParamOf 1 I32 w ∷ [];
  body = for_l (Named n) (Store I32 (at_l w) (Literal32 (pos 5)));
}

-- the last column of a tensor of 2 rows and 3 columns
abbrev pub column : Actual
column =
    WindowOf 1 I32
    (InArray x (Sum (Product (Literal (pos 0)) (Named n)) (Difference (Named n) (Literal (pos 1)))))
    (Named n ∷ [])

-- void f(int64_t n, int32_t *x), with that body
abbrev pub f : CBlock → CFunction
f body = record { name = codes "f"; formals = Number64Param n ∷ ArrayParam I32 x ∷ []; body = body }

abbrev pub file : CBlock → CUnit
file body =
    record { report = []; includes = []; structs = []; fields = []; functions = fill ∷ f body ∷ [] }

-- object 0 has six cells of that type, and they hold 1, 2, 3 ..
abbrev pub six : Cell → Machine
six cell = record {
  setting = record {
    names = λ y. None;
    objects =
        λ o. if o == 0 then Some (record { cell = cell; size = pos 6; heap = false }) else None;
    free = 1;
    fields = λ y. pos 0;
  };
  contents = λ o k. if o == 0 then Number (k +ℤ pos 1) else Undefined;
}

abbrev pub six_cells : Machine → List Value
six_cells m = map (λ k. m.contents 0 k) (pos 0 ∷ pos 1 ∷ pos 2 ∷ pos 3 ∷ pos 4 ∷ pos 5 ∷ [])

-- what the six cells hold after a call of `f` on 3 and the object
abbrev pub called_on : Machine → (ℕ → Option Behaviour) → CBlock → Outcome (List Value)
called_on m templates body =
    after (run_file (file body) templates 1
    (IsNumber (pos 3) ∷ IsArray (record { object = 0; offset = pos 0 }) ∷ []) m)
    (λ k. Done (six_cells k))

abbrev pub no_templates : ℕ → Option Behaviour
no_templates k = None

abbrev pub called : CBlock → Outcome (List Value)
called = called_on (six I32) no_templates

abbrev pub call_fill : Actual → CBlock
call_fill a = first (CallOf fill_name (Control64 (Literal (pos 2)) ∷ a ∷ [])) stop

abbrev pub hold : List ℤ → Outcome (List Value)
hold ks = Done (map Number ks)

pub record CallsAreInPlace : Type 0 where
  pub through_a_window :
      called (call_fill column) ≡ hold (pos 1 ∷ pos 2 ∷ pos 5 ∷ pos 4 ∷ pos 5 ∷ pos 5 ∷ [])
  pub through_a_view :
      called (first (Bind 1 I32 w (InArray x (Literal (pos 1))) (Literal (pos 1) ∷ []))
      (call_fill (Alone w)))
      ≡ hold (pos 1 ∷ pos 5 ∷ pos 5 ∷ pos 4 ∷ pos 5 ∷ pos 6 ∷ [])
  pub no_window : called (call_fill (Alone x)) ≡ Fault
  pub other_rank :
      called (call_fill (WindowOf 2 I32 (InArray x (Literal (pos 0)))
      (Literal (pos 1) ∷ Literal (pos 1) ∷ [])))
      ≡ Fault
  pub other_type : called_on (six I8) no_templates stop ≡ Fault
  pub no_such_stride :
      called (first (Bind 1 I32 w (InArray x (Literal (pos 1))) (Literal (pos 1) ∷ []))
      (first (Store I32 (InWindow w (StrideIn w 1)) (Literal32 (pos 5))) stop))
      ≡ Fault
  pub hidden_function :
      called (first (Array (Single I32) fill_name (pos 1)) (call_fill column)) ≡ Fault
  pub not_above :
      called (first (CallOf (codes "f") (Control64 (Literal (pos 3)) ∷ Alone x ∷ [])) stop) ≡ Fault
  pub not_yet : called (first (Loop n (Named n) (Literal (pos 0)) stop) stop) ≡ Fault

-- ---- vectors

abbrev pub eight : Number64
eight = Literal (pos 8)

-- eight cells from one window to another, as the body of `load8` and of `store8` does it
abbrev pub moves8 : Behaviour
moves8 = record {
  formals = WindowParamOf 1 I32 (codes "dst") ∷ WindowParamOf 1 I32 (codes "src") ∷ [];
  run = run_c alone (for_l eight (Store I32 (at_l (codes "dst")) (Read32 (at_l (codes "src")))));
}

abbrev pub moves : ℕ → Option Behaviour
moves k = Some moves8

abbrev pub v : Name
v = codes "v"

-- an array of vectors of eight cells
abbrev pub vectors : ℤ → CBlock → CBlock
vectors k b = first (Array (Vector (codes "__m256i") 8 I32) v k) b

-- a window of cells in order
abbrev pub from_cell : CellRef → Actual
from_cell ref = WindowOf 1 I32 ref (Literal (pos 1) ∷ [])

-- moves eight cells of an array on the stack by the second of two vectors
abbrev pub through_vectors : CBlock
through_vectors =
    first (Array (Single I32) w (pos 16))
    (first (Store I32 (InArray w (Literal (pos 7))) (Literal32 (pos 9)))
    (vectors (pos 2)
    (first (Instruction 0 []
    (from_cell (InArray v (Literal (pos 1))) ∷ from_cell (InArray w (Literal (pos 0))) ∷ []))
    (first (Instruction 0 []
    (from_cell (InArray w (Literal (pos 8))) ∷ from_cell (InArray v (Literal (pos 1))) ∷ []))
    (first (Store I32 (InArray x (Literal (pos 0)))
    (Read32 (InArray w (Literal (pos 15))))) stop)))))

pub record VectorsAreCells : Type 0 where
  pub through :
      called_on (six I32) moves through_vectors
      ≡ hold (pos 9 ∷ pos 2 ∷ pos 3 ∷ pos 4 ∷ pos 5 ∷ pos 6 ∷ [])
  pub no_cell :
      called (vectors (pos 1)
      (first (Store I32 (InArray v (Literal (pos 0))) (Literal32 (pos 1))) stop))
      ≡ Fault
  pub no_argument :
      called (vectors (pos 1) (call_fill (from_cell (InArray v (Literal (pos 0)))))) ≡ Fault
  pub too_short :
      called_on (six I32) moves
      (vectors (pos 1)
      (first (Instruction 0 []
      (from_cell (InArray v (Literal (pos 0)))
      ∷ from_cell (InArray x (Literal (pos 0))) ∷ [])) stop))
      ≡ Fault
  pub counted_in_cells : called (vectors (pos 35184372088833) stop) ≡ NoStore

-- ---- a name alone

-- w is a view from the second cell on, and what is filled is given so
abbrev pub fill_view : Actual → CBlock
fill_view a =
    first (Bind 1 I32 w (InArray x (Literal (pos 1))) (Literal (pos 1) ∷ []))
    (call_fill a)

pub record NamesAreOneForm : Type 0 where
  pub by_name :
      called (fill_view (Alone w))
      ≡ hold (pos 1 ∷ pos 5 ∷ pos 5 ∷ pos 4 ∷ pos 5 ∷ pos 6 ∷ [])
  pub by_number :
      called (fill_view (Control64 (Named w)))
      ≡ hold (pos 1 ∷ pos 5 ∷ pos 5 ∷ pos 4 ∷ pos 5 ∷ pos 6 ∷ [])
  pub no_window : called (call_fill (Control64 (Named x))) ≡ Fault
