-- Codes of plain trees, by which a proof tells two of them apart.
use Rattle.std.specs.Prelude.{◌≡◌, ℕ, Bool, List, Option}
use Rattle.std.specs.Coded.{Coded, coded_list, coded_ℕ, coded_ℤ, coded_bool, coded_option, coded×}
use Rattle.std.specs.Coded.{code_by}
use Rattle.std.proofs.Common.{ap, arith, refl}
use base.Stored.{Gv, gnil, gnum, gcons, num}
pub use Rattle.exo_tree.specs.CodeParts.{left, right, tag}
use Rattle.exo_tree.specs.Cells.{cell_number, cells_are_same}
use Rattle.exo_tree.specs.Tree as tree
use Rattle.exo_tree.specs.Places as place
use Rattle.exo_tree.specs.Tree.{Cell, Kind, Control, Condition, Datum, Coord, Argument, Statement}
use Rattle.exo_tree.specs.Tree.{Block, Binder, ParamKind, Param, Procedure, ConfigField, MemoryKind}
use Rattle.exo_tree.specs.Tree.{end, next}

abbrev pub name_code : Coded (List ℕ)
name_code = coded_list coded_ℕ

abbrev pub cell_of : Cell → Gv
cell_of cell = gcons (gnum (cell_number cell)) gnil

pub same_cell_code : (s t : Cell) → cell_of s ≡ cell_of t → s ≡ t
same_cell_code s t p = cells_are_same s t (ap tag p)

abbrev pub cell_code : Coded Cell
cell_code = record { code = cell_of; inj = same_cell_code }

abbrev pub kind_of : Kind → Gv
kind_of tree.Size = gcons (gnum 0) gnil
kind_of tree.Index = gcons (gnum 1) gnil
kind_of tree.Truth = gcons (gnum 2) gnil
kind_of tree.Stride = gcons (gnum 3) gnil

pub same_kind : (s t : Kind) → kind_of s ≡ kind_of t → s ≡ t
same_kind tree.Size tree.Size p = refl
same_kind tree.Index tree.Index p = refl
same_kind tree.Truth tree.Truth p = refl
same_kind tree.Stride tree.Stride p = refl
same_kind _ _ p = let e = ap tag p in absurd (omega arith)

abbrev pub kind_code : Coded Kind
kind_code = record { code = kind_of; inj = same_kind }

abbrev pub binder_code : Coded Binder
binder_code =
    code_by (ℕ × List ℕ) (coded× coded_ℕ name_code) (λ b. (b.id, b.name))
    (λ p. record { id = p.0; name = p.1 }) (λ _. refl)

abbrev pub control_of : Control → Gv
control_of (tree.Lit n) = gcons (gnum 0) (coded_ℤ.code n)
control_of (tree.Var v) = gcons (gnum 1) (gnum v)
control_of (tree.Field f) = gcons (gnum 2) (gnum f)
control_of (tree.StrideOf x k) = gcons (gnum 3) (gcons (gnum x) (gnum k))
control_of (tree.Neg a) = gcons (gnum 4) (control_of a)
control_of (tree.Add a b) = gcons (gnum 5) (gcons (control_of a) (control_of b))
control_of (tree.Sub a b) = gcons (gnum 6) (gcons (control_of a) (control_of b))
control_of (tree.Mul a b) = gcons (gnum 7) (gcons (control_of a) (control_of b))
control_of (tree.Div a n) = gcons (gnum 8) (gcons (control_of a) (coded_ℤ.code n))
control_of (tree.Mod a n) = gcons (gnum 9) (gcons (control_of a) (coded_ℤ.code n))

pub same_control : (s t : Control) → control_of s ≡ control_of t → s ≡ t
same_control (tree.Lit m) (tree.Lit n) p = ap tree.Lit (coded_ℤ.inj m n (ap right p))
same_control (tree.Var m) (tree.Var n) p = ap tree.Var (ap (λ g. num (right g)) p)
same_control (tree.Field m) (tree.Field n) p = ap tree.Field (ap (λ g. num (right g)) p)
same_control (tree.StrideOf x k) (tree.StrideOf y l) p =
    let q = ap (λ g. num (left (right g))) p in
    let r = ap (λ g. num (right (right g))) p in
    λ i. tree.StrideOf (q i) (r i)
same_control (tree.Neg a) (tree.Neg b) p = ap tree.Neg (same_control a b (ap right p))
same_control (tree.Add a b) (tree.Add c d) p =
    let q = same_control a c (ap (λ g. left (right g)) p) in
    let r = same_control b d (ap (λ g. right (right g)) p) in
    λ i. tree.Add (q i) (r i)
same_control (tree.Sub a b) (tree.Sub c d) p =
    let q = same_control a c (ap (λ g. left (right g)) p) in
    let r = same_control b d (ap (λ g. right (right g)) p) in
    λ i. tree.Sub (q i) (r i)
same_control (tree.Mul a b) (tree.Mul c d) p =
    let q = same_control a c (ap (λ g. left (right g)) p) in
    let r = same_control b d (ap (λ g. right (right g)) p) in
    λ i. tree.Mul (q i) (r i)
same_control (tree.Div a m) (tree.Div b n) p =
    let q = same_control a b (ap (λ g. left (right g)) p) in
    let r = coded_ℤ.inj m n (ap (λ g. right (right g)) p) in
    λ i. tree.Div (q i) (r i)
same_control (tree.Mod a m) (tree.Mod b n) p =
    let q = same_control a b (ap (λ g. left (right g)) p) in
    let r = coded_ℤ.inj m n (ap (λ g. right (right g)) p) in
    λ i. tree.Mod (q i) (r i)
same_control _ _ p = let e = ap tag p in absurd (omega arith)

abbrev pub control_code : Coded Control
control_code = record { code = control_of; inj = same_control }

abbrev pub sides : Coded (Control × Control)
sides = coded× control_code control_code

abbrev pub condition_of : Condition → Gv
condition_of tree.True = gcons (gnum 0) gnil
condition_of tree.False = gcons (gnum 1) gnil
condition_of (tree.Flag v) = gcons (gnum 2) (gnum v)
condition_of (tree.FieldFlag f) = gcons (gnum 3) (gnum f)
condition_of (tree.Lt a b) = gcons (gnum 4) (sides.code (a, b))
condition_of (tree.Le a b) = gcons (gnum 5) (sides.code (a, b))
condition_of (tree.Gt a b) = gcons (gnum 6) (sides.code (a, b))
condition_of (tree.Ge a b) = gcons (gnum 7) (sides.code (a, b))
condition_of (tree.Eq a b) = gcons (gnum 8) (sides.code (a, b))
condition_of (tree.And a b) = gcons (gnum 9) (gcons (condition_of a) (condition_of b))
condition_of (tree.Or a b) = gcons (gnum 10) (gcons (condition_of a) (condition_of b))

pub same_condition : (s t : Condition) → condition_of s ≡ condition_of t → s ≡ t
same_condition tree.True tree.True p = refl
same_condition tree.False tree.False p = refl
same_condition (tree.Flag m) (tree.Flag n) p = ap tree.Flag (ap (λ g. num (right g)) p)
same_condition (tree.FieldFlag m) (tree.FieldFlag n) p =
    ap tree.FieldFlag (ap (λ g. num (right g)) p)
same_condition (tree.Lt a b) (tree.Lt c d) p =
    let q = sides.inj (a, b) (c, d) (ap right p) in λ i. tree.Lt (q i).0 (q i).1
same_condition (tree.Le a b) (tree.Le c d) p =
    let q = sides.inj (a, b) (c, d) (ap right p) in λ i. tree.Le (q i).0 (q i).1
same_condition (tree.Gt a b) (tree.Gt c d) p =
    let q = sides.inj (a, b) (c, d) (ap right p) in λ i. tree.Gt (q i).0 (q i).1
same_condition (tree.Ge a b) (tree.Ge c d) p =
    let q = sides.inj (a, b) (c, d) (ap right p) in λ i. tree.Ge (q i).0 (q i).1
same_condition (tree.Eq a b) (tree.Eq c d) p =
    let q = sides.inj (a, b) (c, d) (ap right p) in λ i. tree.Eq (q i).0 (q i).1
same_condition (tree.And a b) (tree.And c d) p =
    let q = same_condition a c (ap (λ g. left (right g)) p) in
    let r = same_condition b d (ap (λ g. right (right g)) p) in
    λ i. tree.And (q i) (r i)
same_condition (tree.Or a b) (tree.Or c d) p =
    let q = same_condition a c (ap (λ g. left (right g)) p) in
    let r = same_condition b d (ap (λ g. right (right g)) p) in
    λ i. tree.Or (q i) (r i)
same_condition _ _ p = let e = ap tag p in absurd (omega arith)

abbrev pub condition_code : Coded Condition
condition_code = record { code = condition_of; inj = same_condition }

abbrev pub index_code : Coded (List Control)
index_code = coded_list control_code

abbrev pub datum_of : Datum → Gv
datum_of (tree.Const n) = gcons (gnum 0) (coded_ℤ.code n)
datum_of (tree.Read x is) = gcons (gnum 1) (gcons (gnum x) (index_code.code is))
datum_of (tree.Negated a) = gcons (gnum 2) (datum_of a)
datum_of (tree.Relu a) = gcons (gnum 3) (datum_of a)
datum_of (tree.Plus a b) = gcons (gnum 4) (gcons (datum_of a) (datum_of b))
datum_of (tree.Minus a b) = gcons (gnum 5) (gcons (datum_of a) (datum_of b))
datum_of (tree.Times a b) = gcons (gnum 6) (gcons (datum_of a) (datum_of b))
datum_of (tree.Select a b c d) =
    gcons (gnum 7) (gcons (gcons (datum_of a) (datum_of b)) (gcons (datum_of c) (datum_of d)))

pub same_datum : (s t : Datum) → datum_of s ≡ datum_of t → s ≡ t
same_datum (tree.Const m) (tree.Const n) p = ap tree.Const (coded_ℤ.inj m n (ap right p))
same_datum (tree.Read x is) (tree.Read y js) p =
    let q = ap (λ g. num (left (right g))) p in
    let r = index_code.inj is js (ap (λ g. right (right g)) p) in
    λ i. tree.Read (q i) (r i)
same_datum (tree.Negated a) (tree.Negated b) p = ap tree.Negated (same_datum a b (ap right p))
same_datum (tree.Relu a) (tree.Relu b) p = ap tree.Relu (same_datum a b (ap right p))
same_datum (tree.Plus a b) (tree.Plus c d) p =
    let q = same_datum a c (ap (λ g. left (right g)) p) in
    let r = same_datum b d (ap (λ g. right (right g)) p) in
    λ i. tree.Plus (q i) (r i)
same_datum (tree.Minus a b) (tree.Minus c d) p =
    let q = same_datum a c (ap (λ g. left (right g)) p) in
    let r = same_datum b d (ap (λ g. right (right g)) p) in
    λ i. tree.Minus (q i) (r i)
same_datum (tree.Times a b) (tree.Times c d) p =
    let q = same_datum a c (ap (λ g. left (right g)) p) in
    let r = same_datum b d (ap (λ g. right (right g)) p) in
    λ i. tree.Times (q i) (r i)
same_datum (tree.Select a b c d) (tree.Select e f g h) p =
    let q = same_datum a e (ap (λ v. left (left (right v))) p) in
    let r = same_datum b f (ap (λ v. right (left (right v))) p) in
    let s = same_datum c g (ap (λ v. left (right (right v))) p) in
    let t = same_datum d h (ap (λ v. right (right (right v))) p) in
    λ i. tree.Select (q i) (r i) (s i) (t i)
same_datum _ _ p = let e = ap tag p in absurd (omega arith)

abbrev pub datum_code : Coded Datum
datum_code = record { code = datum_of; inj = same_datum }

abbrev pub coord_of : Coord → Gv
coord_of (tree.At a) = gcons (gnum 0) (control_of a)
coord_of (tree.Span a b) = gcons (gnum 1) (sides.code (a, b))

pub same_coord : (s t : Coord) → coord_of s ≡ coord_of t → s ≡ t
same_coord (tree.At a) (tree.At b) p = ap tree.At (same_control a b (ap right p))
same_coord (tree.Span a b) (tree.Span c d) p =
    let q = sides.inj (a, b) (c, d) (ap right p) in λ i. tree.Span (q i).0 (q i).1
same_coord _ _ p = let e = ap tag p in absurd (omega arith)

abbrev pub coord_code : Coded Coord
coord_code = record { code = coord_of; inj = same_coord }

abbrev pub window_code : Coded (ℕ × List Coord)
window_code = coded× coded_ℕ (coded_list coord_code)

abbrev pub argument_of : Argument → Gv
argument_of (tree.ControlArg e) = gcons (gnum 0) (control_of e)
argument_of (tree.ConditionArg c) = gcons (gnum 1) (condition_of c)
argument_of (tree.Whole x) = gcons (gnum 2) (gnum x)
argument_of (tree.Window x cs) = gcons (gnum 3) (window_code.code (x, cs))

pub same_argument : (s t : Argument) → argument_of s ≡ argument_of t → s ≡ t
same_argument (tree.ControlArg a) (tree.ControlArg b) p =
    ap tree.ControlArg (same_control a b (ap right p))
same_argument (tree.ConditionArg a) (tree.ConditionArg b) p =
    ap tree.ConditionArg (same_condition a b (ap right p))
same_argument (tree.Whole m) (tree.Whole n) p = ap tree.Whole (ap (λ g. num (right g)) p)
same_argument (tree.Window x cs) (tree.Window y ds) p =
    let q = window_code.inj (x, cs) (y, ds) (ap right p) in λ i. tree.Window (q i).0 (q i).1
same_argument _ _ p = let e = ap tag p in absurd (omega arith)

abbrev pub argument_code : Coded Argument
argument_code = record { code = argument_of; inj = same_argument }

abbrev pub store_code : Coded (ℕ × (List Control × Datum))
store_code = coded× coded_ℕ (coded× index_code datum_code)

abbrev pub config_code : Coded (ℕ × Argument)
config_code = coded× coded_ℕ argument_code

abbrev pub header_code : Coded (Binder × (Control × Control))
header_code = coded× binder_code sides

abbrev pub alloc_code : Coded ((Binder × Cell) × (List Control × ℕ))
alloc_code = coded× (coded× binder_code cell_code) (coded× index_code coded_ℕ)

abbrev pub view_code : Coded (Binder × (ℕ × List Coord))
view_code = coded× binder_code window_code

abbrev pub call_code : Coded (ℕ × List Argument)
call_code = coded× coded_ℕ (coded_list argument_code)

abbrev mutual
  pub statement_of : Statement → Gv
  statement_of (tree.Assign x is e) = gcons (gnum 0) (store_code.code (x, (is, e)))
  statement_of (tree.Reduce x is e) = gcons (gnum 1) (store_code.code (x, (is, e)))
  statement_of (tree.Config f a) = gcons (gnum 2) (config_code.code (f, a))
  statement_of tree.Pass = gcons (gnum 3) gnil
  statement_of (tree.If c a b) =
      gcons (gnum 4) (gcons (condition_of c) (gcons (block_of a) (block_of b)))
  statement_of (tree.For i lo hi b) =
      gcons (gnum 5) (gcons (header_code.code (i, (lo, hi))) (block_of b))
  statement_of (tree.Alloc b t dims m) = gcons (gnum 6) (alloc_code.code ((b, t), (dims, m)))
  statement_of (tree.View b x cs) = gcons (gnum 7) (view_code.code (b, (x, cs)))
  statement_of (tree.Call p args) = gcons (gnum 8) (call_code.code (p, args))

  pub block_of : Block → Gv
  block_of end = gcons (gnum 0) gnil
  block_of (next a b) = gcons (gnum 1) (gcons (statement_of a) (block_of b))

mutual
  pub same_statement : (s t : Statement) → statement_of s ≡ statement_of t → s ≡ t
  same_statement (tree.Assign x is e) (tree.Assign y js f) p =
      let q = store_code.inj (x, (is, e)) (y, (js, f)) (ap right p) in
      λ i. tree.Assign (q i).0 (q i).1.0 (q i).1.1
  same_statement (tree.Reduce x is e) (tree.Reduce y js f) p =
      let q = store_code.inj (x, (is, e)) (y, (js, f)) (ap right p) in
      λ i. tree.Reduce (q i).0 (q i).1.0 (q i).1.1
  same_statement (tree.Config f a) (tree.Config g b) p =
      let q = config_code.inj (f, a) (g, b) (ap right p) in λ i. tree.Config (q i).0 (q i).1
  same_statement tree.Pass tree.Pass p = refl
  same_statement (tree.If c a b) (tree.If d e f) p =
      let q = same_condition c d (ap (λ g. left (right g)) p) in
      let r = same_block a e (ap (λ g. left (right (right g))) p) in
      let s = same_block b f (ap (λ g. right (right (right g))) p) in
      λ i. tree.If (q i) (r i) (s i)
  same_statement (tree.For b lo hi a) (tree.For c mi ni e) p =
      let q = header_code.inj (b, (lo, hi)) (c, (mi, ni)) (ap (λ g. left (right g)) p) in
      let r = same_block a e (ap (λ g. right (right g)) p) in
      λ i. tree.For (q i).0 (q i).1.0 (q i).1.1 (r i)
  same_statement (tree.Alloc b t dims m) (tree.Alloc c u exts n) p =
      let q = alloc_code.inj ((b, t), (dims, m)) ((c, u), (exts, n)) (ap right p) in
      λ i. tree.Alloc (q i).0.0 (q i).0.1 (q i).1.0 (q i).1.1
  same_statement (tree.View b x cs) (tree.View c y ds) p =
      let q = view_code.inj (b, (x, cs)) (c, (y, ds)) (ap right p) in
      λ i. tree.View (q i).0 (q i).1.0 (q i).1.1
  same_statement (tree.Call f args) (tree.Call g more) p =
      let q = call_code.inj (f, args) (g, more) (ap right p) in λ i. tree.Call (q i).0 (q i).1
  same_statement _ _ p = let e = ap tag p in absurd (omega arith)

  pub same_block : (s t : Block) → block_of s ≡ block_of t → s ≡ t
  same_block end end p = refl
  same_block (next a b) (next c d) p =
      let q = same_statement a c (ap (λ g. left (right g)) p) in
      let r = same_block b d (ap (λ g. right (right g)) p) in
      λ i. next (q i) (r i)
  same_block _ _ p = let e = ap tag p in absurd (omega arith)

abbrev pub statement_code : Coded Statement
statement_code = record { code = statement_of; inj = same_statement }

abbrev pub block_code : Coded Block
block_code = record { code = block_of; inj = same_block }

abbrev pub buffer_code : Coded (Cell × (List Control × ℕ))
buffer_code = coded× cell_code (coded× index_code coded_ℕ)

abbrev pub param_kind_of : ParamKind → Gv
param_kind_of (tree.ControlParam k) = gcons (gnum 0) (kind_of k)
param_kind_of (tree.TensorParam t dims m) = gcons (gnum 1) (buffer_code.code (t, (dims, m)))
param_kind_of (tree.WindowParam t dims m) = gcons (gnum 2) (buffer_code.code (t, (dims, m)))

pub same_param_kind : (s t : ParamKind) → param_kind_of s ≡ param_kind_of t → s ≡ t
same_param_kind (tree.ControlParam a) (tree.ControlParam b) p =
    ap tree.ControlParam (same_kind a b (ap right p))
same_param_kind (tree.TensorParam t ds m) (tree.TensorParam u es n) p =
    let q = buffer_code.inj (t, (ds, m)) (u, (es, n)) (ap right p) in
    λ i. tree.TensorParam (q i).0 (q i).1.0 (q i).1.1
same_param_kind (tree.WindowParam t ds m) (tree.WindowParam u es n) p =
    let q = buffer_code.inj (t, (ds, m)) (u, (es, n)) (ap right p) in
    λ i. tree.WindowParam (q i).0 (q i).1.0 (q i).1.1
same_param_kind _ _ p = let e = ap tag p in absurd (omega arith)

abbrev pub param_kind_code : Coded ParamKind
param_kind_code = record { code = param_kind_of; inj = same_param_kind }

abbrev pub param_code : Coded Param
param_code =
    code_by (Binder × ParamKind) (coded× binder_code param_kind_code) (λ p. (p.binder, p.kind))
    (λ p. record { binder = p.0; kind = p.1 }) (λ _. refl)

abbrev pub procedure_code : Coded Procedure
procedure_code =
    code_by ((List ℕ × List Param) × ((List Condition × Block) × Option (List ℕ)))
    (coded× (coded× name_code (coded_list param_code))
    (coded× (coded× (coded_list condition_code) block_code) (coded_option name_code)))
    (λ p. ((p.name, p.params), ((p.asserts, p.body), p.template)))
    (λ p. record {
      name = p.0.0;
      params = p.0.1;
      asserts = p.1.0.0;
      body = p.1.0.1;
      template = p.1.1;
    })
    (λ _. refl)

abbrev pub config_field_code : Coded ConfigField
config_field_code =
    code_by ((List ℕ × List ℕ) × Kind) (coded× (coded× name_code name_code) kind_code)
    (λ f. ((f.config, f.name), f.kind)) (λ p. record { config = p.0.0; name = p.0.1; kind = p.1 })
    (λ _. refl)

abbrev pub memory_kind_code : Coded MemoryKind
memory_kind_code =
    code_by (((List ℕ × List ℕ) × (List ℕ × ℕ)) × ((Option Cell × Bool) × ((Bool × Bool) × Bool)))
    (coded× (coded× (coded× name_code name_code) (coded× name_code coded_ℕ))
    (coded× (coded× (coded_option cell_code) coded_bool)
    (coded× (coded× coded_bool coded_bool) coded_bool)))
    (λ m. (
      ((m.name, m.ctype), (m.header, m.lanes)),
      ((m.cell, m.stack), ((m.read, m.write), m.reduce)),
    ))
    (λ p. record {
      name = p.0.0.0;
      ctype = p.0.0.1;
      header = p.0.1.0;
      lanes = p.0.1.1;
      cell = p.1.0.0;
      stack = p.1.0.1;
      read = p.1.1.0.0;
      write = p.1.1.0.1;
      reduce = p.1.1.1;
    })
    (λ _. refl)

abbrev pub branch_taken_of : place.Branch → Gv
branch_taken_of place.Main = gcons (gnum 0) gnil
branch_taken_of place.Else = gcons (gnum 1) gnil

pub same_branch : (s t : place.Branch) → branch_taken_of s ≡ branch_taken_of t → s ≡ t
same_branch place.Main place.Main p = refl
same_branch place.Else place.Else p = refl
same_branch _ _ p = let e = ap tag p in absurd (omega arith)

abbrev pub branch_code : Coded place.Branch
branch_code = record { code = branch_taken_of; inj = same_branch }

abbrev pub step_code : Coded place.Step
step_code =
    code_by (place.Branch × ℕ) (coded× branch_code coded_ℕ) (λ s. (s.branch, s.index))
    (λ p. record { branch = p.0; index = p.1 }) (λ _. refl)
