-- In a well-formed procedure each name of a buffer stands for a part with as many spans as it has
-- dimensions, of a root with 8 dimensions at most.
use Rattle.std.proofs.Common.{◌≡◌, ◌≤◌, ℕ, suc, ◌==◌, nat_lt, Bool, true, false, cond}
use Rattle.std.proofs.Common.{◌&&◌, List, [], ◌∷◌, length, map, Option, Some, None, option_map, refl}
use Rattle.std.proofs.Common.{sym, ap, ◌∙◌, true≢false, eqb-true, arith}
use Rattle.std.proofs.lemmas.Bool.Decides.{nat_tests}
use Rattle.std.specs.Prelude.{⊤}
use Rattle.std.specs.List.{list_all}
use Rattle.exo_tree.specs.Tree.{Kind, Index, Binder, Control, Coord, At, Span, Statement, Assign}
use Rattle.exo_tree.specs.Tree.{Reduce, Config, Pass, If, For, Alloc, View, Call, Param}
use Rattle.exo_tree.specs.Tree.{ParamKind, ControlParam, TensorParam, WindowParam}
use Rattle.exo_meaning.specs.Calls.{Callee}
use Rattle.exo_meaning.specs.Scene.{updated}
use Rattle.exo_meaning.specs.Units.{Scope, Sort, ControlName, BufferName, sort_in, with_name}
use Rattle.exo_meaning.specs.Units.{has_rank, plainly, are_controls}
use Rattle.exo_meaning.specs.Units.{is_coord, is_window, is_new, is_rank}
use Rattle.exo_meaning.specs.Units.{spans, view_sort, param_sort, scope_of, scope_after}
use Rattle.exo_meaning.specs.Units.{is_param_kind, are_params, is_statement}
use Rattle.inplace_laws.specs.Windows.{shifted, joined_coords}
use Rattle.affine_forms.proofs.Values.{and_parts}
use Rattle.exo_effects.specs.Parts.{Part, Parts, all_of, whole_of, window_of, with_kind}
use Rattle.exo_effects.specs.Parts.{with_params, passed, passed_inside}

-- ---- how many coordinates

pub shifted_length :
    (cs : List Coord) (is : List Control)
    → length is ≡ spans cs → length (shifted cs is) ≡ length cs
shifted_length [] is h = h
shifted_length (At a ∷ cs) is h = ap suc (shifted_length cs is h)
shifted_length (Span a b ∷ cs) [] h = cc
shifted_length (Span a b ∷ cs) (i ∷ is) h = ap suc (shifted_length cs is (omega (arith, h)))

joined_length :
    (cs ds : List Coord) → length ds ≡ spans cs → length (joined_coords cs ds) ≡ length cs
joined_length [] ds h = h
joined_length (At a ∷ cs) ds h = ap suc (joined_length cs ds h)
joined_length (Span a b ∷ cs) [] h = cc
joined_length (Span a b ∷ cs) (At c ∷ ds) h = ap suc (joined_length cs ds (omega (arith, h)))
joined_length (Span a b ∷ cs) (Span c d ∷ ds) h = ap suc (joined_length cs ds (omega (arith, h)))

joined_spans :
    (cs ds : List Coord) → length ds ≡ spans cs → spans (joined_coords cs ds) ≡ spans ds
joined_spans [] ds h = refl
joined_spans (At a ∷ cs) ds h = joined_spans cs ds h
joined_spans (Span a b ∷ cs) [] h = cc
joined_spans (Span a b ∷ cs) (At c ∷ ds) h = joined_spans cs ds (omega (arith, h))
joined_spans (Span a b ∷ cs) (Span c d ∷ ds) h = ap suc (joined_spans cs ds (omega (arith, h)))

whole_length : (dims : List Control) → length (map all_of dims) ≡ length dims
whole_length [] = refl
whole_length (d ∷ dims) = ap suc (whole_length dims)

whole_spans : (dims : List Control) → spans (map all_of dims) ≡ length dims
whole_spans [] = refl
whole_spans (d ∷ dims) = ap suc (whole_spans dims)

-- ---- what names stand for

-- a part of a name of that rank
pub record IsPart (rank : ℕ) (p : Part) : Type 0 where
  pub spans : spans p.coords ≡ rank
  pub dims : length p.coords ≤ 8

abbrev pub Stands : ℕ → Option Part → Type 0
Stands rank None = ⊤
Stands rank (Some p) = IsPart rank p

abbrev pub Fits : Option Sort → Option Part → Type 0
Fits None o = ⊤
Fits (Some (ControlName kind)) o = ⊤
Fits (Some (BufferName cell rank dense)) o = Stands rank o

abbrev pub AllFit : Scope → Parts → Type 0
AllFit scope parts = (x : ℕ) → Fits (sort_in scope x) (parts x)

named_fits :
    (scope : Scope) (parts : Parts) (x : Binder) (sort : Sort) (o : Option Part)
    → Fits (Some sort) o
    → AllFit scope parts → AllFit (with_name scope x sort) (updated parts x.id o)
named_fits scope parts x sort o h g y = go (y == x.id)
  where
    go : (t : Bool) → Fits (cond t (Some sort) (sort_in scope y)) (cond t o (parts y))
    go true = h
    go false = g y

control_fits :
    (scope : Scope) (parts : Parts) (x : Binder) (kind : Kind)
    → AllFit scope parts → AllFit (with_name scope x (ControlName kind)) parts
control_fits scope parts x kind g y = go (y == x.id)
  where
    go : (t : Bool) → Fits (cond t (Some (ControlName kind)) (sort_in scope y)) (parts y)
    go true = tt
    go false = g y

whole_stands :
    (x : ℕ) (dims : List Control)
    → is_rank (length dims) ≡ true → Stands (length dims) (Some (whole_of x dims))
whole_stands x dims h = record {
  spans = whole_spans dims;
  dims = let e = whole_length dims in grind (arith, nat_tests);
}

-- a name with that many dimensions is one of a buffer
pub at_rank :
    (n : ℕ) (s : Option Sort) (o : Option Part) → has_rank n s ≡ true → Fits s o → Stands n o
at_rank n None o h g = absurd (true≢false (sym h))
at_rank n (Some (ControlName kind)) o h g = absurd (true≢false (sym h))
at_rank n (Some (BufferName cell rank dense)) None h g = tt
at_rank n (Some (BufferName cell rank dense)) (Some p) h g =
    record { spans = g.spans ∙ sym (eqb-true n rank h); dims = g.dims }

-- a window of a part has the part's dimensions
pub window_stands :
    (coords : List Coord) (o : Option Part)
    → Stands (length coords) o → Stands (spans coords) (option_map (window_of coords) o)
window_stands coords None g = tt
window_stands coords (Some p) g =
    let same = joined_length p.coords coords (sym g.spans) in
    let n = g.dims in
    record { spans = joined_spans p.coords coords (sym g.spans); dims = omega arith }

view_fits :
    (s : Option Sort) (n rank : ℕ) (o : Option Part)
    → has_rank n s ≡ true → Stands rank o → Fits (Some (view_sort s rank)) o
view_fits None n rank o h g = absurd (true≢false (sym h))
view_fits (Some (ControlName kind)) n rank o h g = absurd (true≢false (sym h))
view_fits (Some (BufferName cell r dense)) n rank o h g = g

-- ---- statements that keep the rules

module _ (fields : ℕ → Option Kind) (memories : ℕ) (callees : ℕ → Option Callee) where
  viewed :
      (scope : Scope) (parts : Parts) (w : Binder) (x : ℕ) (coords : List Coord)
      → is_window fields scope x coords ≡ true
      → AllFit scope parts
      → AllFit (with_name scope w (view_sort (sort_in scope x) (spans coords)))
      (updated parts w.id (option_map (window_of coords) (parts x)))
  viewed scope parts w x coords h g =
      let n = length coords in
      let part = option_map (window_of coords) (parts x) in
      let q = and_parts (has_rank n (sort_in scope x)) (list_all (is_coord fields scope) coords) h in
      named_fits scope parts w (view_sort (sort_in scope x) (spans coords)) part
      (view_fits (sort_in scope x) n (spans coords) part q.0
      (window_stands coords (parts x) (at_rank n (sort_in scope x) (parts x) q.0 (g x))))
      g

  pub passed_fits :
      (a : Statement) (scope : Scope) (root : ℕ → ℕ) (parts : Parts)
      → is_statement fields memories callees scope root a ≡ true
      → AllFit scope parts → AllFit (scope_after a scope) (passed a parts)
  passed_fits (Assign x is e) scope root parts h g = g
  passed_fits (Reduce x is e) scope root parts h g = g
  passed_fits (Config f v) scope root parts h g = g
  passed_fits Pass scope root parts h g = g
  passed_fits (If c a b) scope root parts h g = g
  passed_fits (For i lo hi b) scope root parts h g = g
  passed_fits (Alloc x cell dims memory) scope root parts h g =
      let sized = is_rank (length dims) && nat_lt memory memories in
      let q = and_parts (is_new scope x) (are_controls fields plainly scope dims && sized) h in
      let r = and_parts (are_controls fields plainly scope dims) sized q.1 in
      named_fits scope parts x (BufferName cell (length dims) true) (Some (whole_of x.id dims))
      (whole_stands x.id dims (and_parts (is_rank (length dims)) (nat_lt memory memories) r.1).0) g
  passed_fits (View w x coords) scope root parts h g =
      let inner = is_window fields scope x coords && nat_lt 0 (spans coords) in
      let q = and_parts (is_new scope w) inner h in
      viewed scope parts w x coords
      (and_parts (is_window fields scope x coords) (nat_lt 0 (spans coords)) q.1).0 g
  passed_fits (Call k args) scope root parts h g = g

  -- an allocation of the piece is left out
  pub passed_inside_fits :
      (a : Statement) (scope : Scope) (root : ℕ → ℕ) (parts : Parts)
      → is_statement fields memories callees scope root a ≡ true
      → AllFit scope parts → AllFit (scope_after a scope) (passed_inside a parts)
  passed_inside_fits (Assign x is e) scope root parts h g = g
  passed_inside_fits (Reduce x is e) scope root parts h g = g
  passed_inside_fits (Config f v) scope root parts h g = g
  passed_inside_fits Pass scope root parts h g = g
  passed_inside_fits (If c a b) scope root parts h g = g
  passed_inside_fits (For i lo hi b) scope root parts h g = g
  passed_inside_fits (Alloc x cell dims memory) scope root parts h g =
      named_fits scope parts x (BufferName cell (length dims) true) None tt g
  passed_inside_fits (View w x coords) scope root parts h g =
      passed_fits (View w x coords) scope root parts h g
  passed_inside_fits (Call k args) scope root parts h g = g

  pub loop_fits :
      (scope : Scope) (parts : Parts) (i : Binder)
      → AllFit scope parts → AllFit (with_name scope i (ControlName Index)) parts
  loop_fits scope parts i g = control_fits scope parts i Index g

  -- ---- parameters

  kind_fits :
      (scope : Scope) (parts : Parts) (x : Binder) (kind : ParamKind)
      → is_param_kind fields memories scope kind ≡ true
      → AllFit scope parts → AllFit (with_name scope x (param_sort kind)) (with_kind x.id kind parts)
  kind_fits scope parts x (ControlParam kind) h g = control_fits scope parts x kind g
  kind_fits scope parts x (TensorParam cell dims memory) h g =
      let sized = is_rank (length dims) && nat_lt memory memories in
      let q = and_parts (are_controls fields plainly scope dims) sized h in
      named_fits scope parts x (BufferName cell (length dims) true) (Some (whole_of x.id dims))
      (whole_stands x.id dims (and_parts (is_rank (length dims)) (nat_lt memory memories) q.1).0) g
  kind_fits scope parts x (WindowParam cell dims memory) h g =
      let ranked = is_rank (length dims) && nat_lt 0 (length dims) in
      let q = and_parts (are_controls fields plainly scope dims) (ranked && nat_lt memory memories) h in
      let r = and_parts ranked (nat_lt memory memories) q.1 in
      named_fits scope parts x (BufferName cell (length dims) false) (Some (whole_of x.id dims))
      (whole_stands x.id dims (and_parts (is_rank (length dims)) (nat_lt 0 (length dims)) r.0).0) g

  pub params_fit :
      (ps : List Param) (scope : Scope) (parts : Parts)
      → are_params fields memories scope ps ≡ true
      → AllFit scope parts → AllFit (scope_of scope ps) (with_params ps parts)
  params_fit [] scope parts h g = g
  params_fit (p ∷ ps) scope parts h g =
      let inner = with_name scope p.binder (param_sort p.kind) in
      let rest = are_params fields memories inner ps in
      let q = and_parts (is_new scope p.binder) (is_param_kind fields memories scope p.kind && rest) h in
      let r = and_parts (is_param_kind fields memories scope p.kind) rest q.1 in
      params_fit ps inner (with_kind p.binder.id p.kind parts) r.1
      (kind_fits scope parts p.binder p.kind r.0 g)
