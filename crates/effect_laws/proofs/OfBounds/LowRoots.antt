-- The extents of the roots of a low procedure are low, and so are the strides that they make.
use Rattle.std.proofs.Common.{◌≡◌, ◌≤◌, ◌^◌, ℕ, zero, suc, nat_lt, ◌==◌, pos, Bool, true, false, cond}
use Rattle.std.proofs.Common.{◌&&◌, List, [], ◌∷◌, length, drop, Option, Some, None, slice_get}
use Rattle.std.proofs.Common.{refl, arith}
use Rattle.std.specs.Prelude.{⊤}
use Rattle.std.specs.List.{list_all}
use Rattle.exo_tree.specs.Tree.{Control, Coord, Statement, Assign, Reduce, Config, Pass, If, For}
use Rattle.exo_tree.specs.Tree.{Alloc, View, Call, Block, end, next, Param, ParamKind, ControlParam}
use Rattle.exo_tree.specs.Tree.{TensorParam, WindowParam, Procedure}
use Rattle.affine_forms.specs.Atoms.{OpaqueStride, constantly, only}
use Rattle.affine_forms.specs.Forms.{form}
use Rattle.affine_forms.specs.Strides.{is_one_open, product_form, dense_stride}
use Rattle.affine_forms.proofs.Values.{and_parts}
use Rattle.affine_places.specs.Readings.{extent_reading, root_stride, stride_over, stride_of}
use Rattle.affine_places.specs.Roots.{Layout, Dense, Strided, Rooted, Roots, no_roots, own_root}
use Rattle.affine_places.specs.Roots.{with_root, with_kind, with_params, seen_through, with_view}
use Rattle.affine_places.specs.Roots.{with_block, with_statement, roots_of}
use Rattle.exo_effects.specs.Fresh.{past_linear}
use Rattle.exo_effects.specs.Low.{is_low, condition_is_low, kind_is_low, block_is_low}
use Rattle.exo_effects.specs.Low.{statement_is_low, procedure_is_low}
use Rattle.effect_conflicts.proofs.PastForms.{form_past, times_past, extents_past}
use Rattle.exo_meaning.specs.Units.{is_literal}

abbrev LayoutLow : Layout → Type 0
LayoutLow (Dense extents) = list_all is_low extents ≡ true
LayoutLow Strided = ⊤

abbrev RootLow : Option Rooted → Type 0
RootLow None = ⊤
RootLow (Some r) = LayoutLow r.layout

abbrev pub RootsLow : Roots → Type 0
RootsLow roots = (x : ℕ) → RootLow (roots x)

-- ---- of a procedure

root_low :
    (x : ℕ) (r : Rooted) (roots : Roots)
    → LayoutLow r.layout → RootsLow roots → RootsLow (with_root x r roots)
root_low x r roots h g y = go (y == x)
  where
    go : (t : Bool) → RootLow (cond t (Some r) (roots y))
    go true = h
    go false = g y

kind_low :
    (x : ℕ) (kind : ParamKind) (roots : Roots)
    → kind_is_low kind ≡ true → RootsLow roots → RootsLow (with_kind x kind roots)
kind_low x (ControlParam kind) roots h g = g
kind_low x (TensorParam cell extents memory) roots h g =
    root_low x (own_root x (Dense extents) (length extents)) roots h g
kind_low x (WindowParam cell extents memory) roots h g =
    root_low x (own_root x Strided (length extents)) roots tt g

params_low :
    (ps : List Param) (roots : Roots)
    → list_all (λ q. kind_is_low q.kind) ps ≡ true
    → RootsLow roots → RootsLow (with_params ps roots)
params_low [] roots h g = g
params_low (p ∷ ps) roots h g =
    let q = and_parts (kind_is_low p.kind) (list_all (λ q. kind_is_low q.kind) ps) h in
    params_low ps (with_kind p.binder.id p.kind roots) q.1
    (kind_low p.binder.id p.kind roots q.0 g)

view_low :
    (w : ℕ) (coords : List Coord) (o : Option Rooted) (roots : Roots)
    → RootLow o → RootsLow roots → RootsLow (with_view w coords o roots)
view_low w coords None roots h g = g
view_low w coords (Some r) roots h g = root_low w (seen_through coords r) roots h g

mutual
  block_low :
      (b : Block) (roots : Roots)
      → block_is_low b ≡ true → RootsLow roots → RootsLow (with_block b roots)
  block_low end roots h g = g
  block_low (next a b) roots h g =
      let q = and_parts (statement_is_low a) (block_is_low b) h in
      block_low b (with_statement a roots) q.1 (statement_low a roots q.0 g)

  statement_low :
      (a : Statement) (roots : Roots)
      → statement_is_low a ≡ true → RootsLow roots → RootsLow (with_statement a roots)
  statement_low (Assign x is e) roots h g = g
  statement_low (Reduce x is e) roots h g = g
  statement_low (Config f v) roots h g = g
  statement_low Pass roots h g = g
  statement_low (If c a b) roots h g =
      let q = and_parts (condition_is_low c) (block_is_low a && block_is_low b) h in
      let r = and_parts (block_is_low a) (block_is_low b) q.1 in
      block_low b (with_block a roots) r.1 (block_low a roots r.0 g)
  statement_low (For i lo hi b) roots h g =
      let inner = (is_low lo && is_low hi) && block_is_low b in
      let q = and_parts (nat_lt i.id (2 ^ 31)) inner h in
      block_low b roots (and_parts (is_low lo && is_low hi) (block_is_low b) q.1).1 g
  statement_low (Alloc x cell extents memory) roots h g =
      root_low x.id (own_root x.id (Dense extents) (length extents)) roots h g
  statement_low (View w x coords) roots h g = view_low w.id coords (roots x) roots (g x) g
  statement_low (Call k args) roots h g = g

pub roots_low : (p : Procedure) → procedure_is_low p ≡ true → RootsLow (roots_of p)
roots_low p h =
    let q = and_parts (list_all (λ q. kind_is_low q.kind) p.params) (block_is_low p.body) h in
    block_low p.body (with_params p.params no_roots) q.1
    (params_low p.params no_roots q.0 (λ x. tt))

-- ---- strides

product_past :
    (es : List Control)
    → list_all is_low es ≡ true
    → past_linear (product_form extent_reading es) ≤ 2 ^ 31
product_past [] h = omega arith
product_past (e ∷ es) h =
    let q = and_parts (is_low e) (list_all is_low es) h in
    times_past (2 ^ 31) (is_literal e) (form extent_reading e) (product_form extent_reading es)
    (form_past (2 ^ 31) extent_reading (extents_past (2 ^ 31)) e q.0) (product_past es q.1)

dropped_low :
    (k : ℕ) (es : List Control) → list_all is_low es ≡ true → list_all is_low (drop k es) ≡ true
dropped_low zero es h = h
dropped_low (suc k) [] h = refl
dropped_low (suc k) (e ∷ es) h =
    dropped_low k es (and_parts (is_low e) (list_all is_low es) h).1

dense_past :
    (x k : ℕ) (es : List Control)
    → list_all is_low es ≡ true
    → past_linear (dense_stride extent_reading x k es) ≤ 2 ^ 31
dense_past x k es h = go (is_one_open (drop (suc k) es))
  where
    go :
        (t : Bool)
        → past_linear (cond t (product_form extent_reading (drop (suc k) es)) (only (OpaqueStride x k)))
        ≤ 2 ^ 31
    go true = product_past (drop (suc k) es) (dropped_low (suc k) es h)
    go false = omega arith

root_past :
    (x d : ℕ) (layout : Layout)
    → LayoutLow layout → past_linear (root_stride x d layout) ≤ 2 ^ 31
root_past x d Strided h = omega arith
root_past x d (Dense es) h = go (nat_lt d (length es))
  where
    go :
        (t : Bool)
        → past_linear (cond t (dense_stride extent_reading x d es) (constantly (pos 0))) ≤ 2 ^ 31
    go true = dense_past x d es h
    go false = omega arith

over_past :
    (r : Rooted) (o : Option ℕ)
    → LayoutLow r.layout → past_linear (stride_over r o) ≤ 2 ^ 31
over_past r None h = omega arith
over_past r (Some d) h = root_past r.root d r.layout h

pub stride_past :
    (o : Option Rooted) (k : ℕ) → RootLow o → past_linear (stride_of o k) ≤ 2 ^ 31
stride_past None k h = omega arith
stride_past (Some r) k h = over_past r (slice_get r.dims k) h
