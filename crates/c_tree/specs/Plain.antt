-- The plain trees of the program's trees of C.
use Rattle.std.specs.Prelude.{map, string_bytes}
use Rattle.exo_tree.specs.PlainBinder.{cell_type}
use Rattle.c_tree.specs.CTree as c
use Rattle.c_tree.specs.declared.tree.CNumber.{CNumber, Literal, Named, Stride, Opposite', Sum'}
use Rattle.c_tree.specs.declared.tree.CNumber.{Difference', Product', Quotient', Remainder'}
use Rattle.c_tree.specs.declared.tree.CTest.{CTest, Always, Never, IsSet, Less, LessEqual, More}
use Rattle.c_tree.specs.declared.tree.CTest.{MoreEqual, Equal, Both', Either'}
use Rattle.c_tree.specs.declared.tree.CHolder.{CHolder}
use Rattle.c_tree.specs.declared.tree.CHolder.TheVariants as h
use Rattle.c_tree.specs.declared.tree.CCell.{CCell}
use Rattle.c_tree.specs.declared.tree.CData as d
use Rattle.c_tree.specs.declared.tree.CStruct.{CStruct}
use Rattle.c_tree.specs.declared.tree.CWindow.{CWindow}
use Rattle.c_tree.specs.declared.tree.CActual.{CActual}
use Rattle.c_tree.specs.declared.tree.CActual.TheVariants as a
use Rattle.c_tree.specs.declared.tree.CElement.{CElement}
use Rattle.c_tree.specs.declared.tree.CElement.TheVariants as e
use Rattle.c_tree.specs.declared.tree.CPiece.{CPiece}
use Rattle.c_tree.specs.declared.tree.CPiece.TheVariants as q
use Rattle.c_tree.specs.declared.tree.CStatement.{CStatement}
use Rattle.c_tree.specs.declared.tree.CStatement.TheVariants as s
use Rattle.c_tree.specs.declared.tree.CParam.{CParam}
use Rattle.c_tree.specs.declared.tree.CParam.TheVariants as p
use Rattle.c_tree.specs.declared.tree.CFunction.{CFunction}
use Rattle.c_tree.specs.declared.tree.ReportLine.{ReportLine}
use Rattle.c_tree.specs.declared.tree.CUnit.{CUnit}

abbrev pub plain_number : CNumber → c.Number64
plain_number (Literal n) = c.Literal n
plain_number (Named x) = c.Named (string_bytes x)
plain_number (Stride w k) = c.StrideIn (string_bytes w) k
plain_number (Opposite' p a) = c.Opposite (plain_number a)
plain_number (Sum' p a q b) = c.Sum (plain_number a) (plain_number b)
plain_number (Difference' p a q b) = c.Difference (plain_number a) (plain_number b)
plain_number (Product' p a q b) = c.Product (plain_number a) (plain_number b)
plain_number (Quotient' p a n) = c.Quotient (plain_number a) n
plain_number (Remainder' p a n) = c.Remainder (plain_number a) n

abbrev pub plain_test : CTest → c.Test
plain_test Always = c.Always
plain_test Never = c.Never
plain_test (IsSet x) = c.IsSet (string_bytes x)
plain_test (Less a b) = c.Less (plain_number a.value) (plain_number b.value)
plain_test (LessEqual a b) = c.LessEqual (plain_number a.value) (plain_number b.value)
plain_test (More a b) = c.More (plain_number a.value) (plain_number b.value)
plain_test (MoreEqual a b) = c.MoreEqual (plain_number a.value) (plain_number b.value)
plain_test (Equal a b) = c.Equal (plain_number a.value) (plain_number b.value)
plain_test (Both' p a q b) = c.Both (plain_test a) (plain_test b)
plain_test (Either' p a q b) = c.Either (plain_test a) (plain_test b)

abbrev pub cell_of : CHolder → c.Name → c.Number64 → c.CellRef
cell_of h.Array = c.InArray
cell_of h.Window = c.InWindow

abbrev pub plain_cell : CCell → c.CellRef
plain_cell x = cell_of x.holder (string_bytes x.name) (plain_number x.offset.value)

abbrev pub plain_data : d.CData → c.Number32
plain_data (d.Literal n) = c.Literal32 n
plain_data (d.Read x) = c.Read32 (plain_cell x)
plain_data (d.Opposite' p a) = c.Opposite32 (plain_data a)
plain_data (d.Relu' p a) = c.Relu32 (plain_data a)
plain_data (d.Sum' p a q b) = c.Sum32 (plain_data a) (plain_data b)
plain_data (d.Difference' p a q b) = c.Difference32 (plain_data a) (plain_data b)
plain_data (d.Product' p a q b) = c.Product32 (plain_data a) (plain_data b)
plain_data (d.Select' p a q b r x s y) =
    c.Select32 (plain_data a) (plain_data b) (plain_data x) (plain_data y)

abbrev pub plain_struct : CStruct → c.StructOf
plain_struct s = record { rank = s.rank; cell = cell_type s.cell }

abbrev pub plain_element : CElement → c.Element
plain_element (e.Single t) = c.Single (cell_type t)
plain_element (e.Vector name lanes t) = c.Vector (string_bytes name) lanes (cell_type t)

abbrev pub plain_window : CWindow → c.Actual
plain_window w =
    c.WindowOf w.kind.rank (cell_type w.kind.cell) (plain_cell w.first)
    (map plain_number w.strides.items)

abbrev pub plain_actual : CActual → c.Actual
plain_actual (a.Number n) = c.Control64 (plain_number n.value)
plain_actual (a.Test t) = c.Tested (plain_test t.value)
plain_actual (a.Alone x) = c.Alone (string_bytes x)
plain_actual (a.Address x) = c.Address (plain_cell x)
plain_actual (a.Window w) = plain_window w

abbrev pub plain_piece : CPiece → c.Piece
plain_piece (q.Text t) = c.Plain (string_bytes t)
plain_piece (q.Actual a) = c.Filled (plain_actual a)
plain_piece (q.Cell x) = c.FirstCell (plain_cell x)

-- one level, since a block is already seen as a list of plain statements
abbrev pub plain_statement : CStatement → c.CStatement
plain_statement (s.Store t x e) = c.Store (cell_type t) (plain_cell x) (plain_data e.value)
plain_statement (s.AddTo t x e) = c.AddTo (cell_type t) (plain_cell x) (plain_data e.value)
plain_statement (s.SetField x a) = c.SetField (string_bytes x) (plain_actual a)
plain_statement s.Empty = c.Empty
plain_statement (s.Branch t a b) = c.Branch (plain_test t.value) (c.cblock a) (c.cblock b)
plain_statement (s.Loop x lo hi b) =
    c.Loop (string_bytes x) (plain_number lo.value) (plain_number hi.value) (c.cblock b)
plain_statement (s.Array t x n) = c.Array (plain_element t) (string_bytes x) n
plain_statement (s.Malloc t x n) =
    c.Malloc (plain_element t) (string_bytes x) (plain_number n.value)
plain_statement (s.Free x) = c.Free (string_bytes x)
plain_statement (s.Bind x w) =
    c.Bind w.kind.rank (cell_type w.kind.cell) (string_bytes x) (plain_cell w.first)
    (map plain_number w.strides.items)
plain_statement (s.Call f) = c.CallOf (string_bytes f.function) (map plain_actual f.args.items)
plain_statement (s.Instruction f) =
    c.Instruction f.number (map plain_piece f.pieces.items) (map plain_actual f.args.items)

abbrev pub plain_param : CParam → c.Formal
plain_param (p.Number x) = c.Number64Param (string_bytes x)
plain_param (p.Array t x) = c.ArrayParam (cell_type t) (string_bytes x)
plain_param (p.Window kind x) = c.WindowParamOf kind.rank (cell_type kind.cell) (string_bytes x)

abbrev pub plain_function : CFunction → c.CFunction
plain_function f = record {
  name = string_bytes f.name;
  formals = map plain_param f.params.items;
  body = c.cblock f.body;
}

abbrev pub plain_line : ReportLine → c.ReportLine
plain_line r = record {
  name = string_bytes r.name;
  origin = string_bytes r.origin;
  differs = map string_bytes r.differs.items;
}

abbrev pub plain_unit : CUnit → c.CUnit
plain_unit u = record {
  report = map plain_line u.report.items;
  includes = map string_bytes u.includes.items;
  structs = map plain_struct u.structs.items;
  fields = map string_bytes u.fields.items;
  functions = map plain_function u.functions.items;
}
