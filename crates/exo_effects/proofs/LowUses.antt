-- The uses of a piece of a low procedure are low.
use Rattle.std.proofs.Common.{◌≡◌, ◌^◌, nat_lt, ℕ, zero, suc, ◌==◌, Bool, true, false, ◌&&◌, List, [], ◌∷◌, ◌++◌, map, Option, Some, None, option_map, refl, ap, ◌∙◌}
use Rattle.std.specs.List.{list_all}
use Rattle.std.specs.Prelude.{if◌then◌else◌, slice_get}
use Rattle.exo_tree.specs.Tree.{Binder, Control, Var, Le, Lt, Datum, Const, Read, Negated, Relu, Plus, Minus, Times, Select, Coord, At, Span, Argument, ControlArg, ConditionArg, Whole, Window, Statement, Assign, Reduce, Config, Pass, If, For, Alloc, View, Call, Block, end, next, joined, Param, ParamKind, ControlParam, TensorParam, WindowParam}
use Rattle.exo_tree.specs.Tree.{Procedure, Program}
use Rattle.exo_tree.specs.Calls.{passed_by, call_arguments}
use Rattle.exo_tree.specs.Context.{Context, Here, After, InLoop, InThen, InElse, fill}
use Rattle.exo_tree.specs.Places.{Path, Opened, opened}
use Rattle.exo_meaning.specs.Modes as meaning
use Rattle.exo_meaning.specs.Modes.{Mode, Reading, Writing, Reducing}
use Rattle.exo_meaning.specs.Scene.{updated}
use Rattle.meaning_laws.specs.Facts.{Fact, Holds, Fails, is_plain_condition, with_fact}
use Rattle.meaning_laws.proofs.Places.{opened_law}
use Rattle.inplace_laws.specs.Windows.{shifted, joined_coords}
use Rattle.text_show.specs.Layout.{Text}
use Rattle.text_show.specs.StatementText.{argument_text}
use Rattle.text_show.specs.Words.{Words, words_of}
use Rattle.affine_forms.proofs.Values.{and_parts}
use Rattle.exo_effects.specs.Parts.{Part, Parts, no_parts, all_of, whole_of, window_of, with_kind, with_params, passed, passed_inside, parts_at}
use Rattle.exo_effects.specs.Uses.{Use, Inside, in_loop, in_branch, past_statement, use_of, uses_of, cell_of, part_of_argument, modes_had, cell_uses, data_uses, argument_uses, arguments_uses, block_uses, step_uses, params_of, modes_of, at_hole, uses_in}
use Rattle.exo_effects.specs.Uses.{argument_in}
use Rattle.exo_effects.specs.Low.{is_low, condition_is_low, coord_is_low, fact_is_low, use_is_low, uses_are_low, datum_is_low, argument_is_low, kind_is_low, block_is_low, statement_is_low, procedure_is_low}
use Rattle.exo_effects.specs.Low.{UsesLowLaw, PassedLowLaw}
use Rattle.exo_effects.proofs.LowProcedures.{both_true}

abbrev low_id : ℕ → Bool
low_id y = nat_lt y (2 ^ 31)

all_behind : {X : Type 0} (f : X → Bool) (xs ys : List X) → list_all f xs ≡ true → list_all f ys ≡ true → list_all f (xs ++ ys) ≡ true
all_behind f [] ys g h = h
all_behind f (x ∷ xs) ys g h =
    let p = and_parts (f x) (list_all f xs) g in
    both_true (f x) (list_all f (xs ++ ys)) p.0 (all_behind f xs ys p.1 h)

-- ---- coordinates

abbrev all_low : List Coord → Bool
all_low cs = list_all coord_is_low cs

whole_low : (dims : List Control) → list_all is_low dims ≡ true → all_low (map all_of dims) ≡ true
whole_low [] h = refl
whole_low (d ∷ dims) h =
    let p = and_parts (is_low d) (list_all is_low dims) h in
    both_true (is_low d) (all_low (map all_of dims)) p.0 (whole_low dims p.1)

joined_low : (cs ds : List Coord) → all_low cs ≡ true → all_low ds ≡ true → all_low (joined_coords cs ds) ≡ true
joined_low [] ds g h = h
joined_low (At a ∷ cs) ds g h =
    let p = and_parts (is_low a) (all_low cs) g in
    both_true (is_low a) (all_low (joined_coords cs ds)) p.0 (joined_low cs ds p.1 h)
joined_low (Span a b ∷ cs) [] g h = refl
joined_low (Span a b ∷ cs) (At c ∷ ds) g h =
    let p = and_parts (is_low a && is_low b) (all_low cs) g in
    let q = and_parts (is_low c) (all_low ds) h in
    both_true (is_low a && is_low c) (all_low (joined_coords cs ds))
    (both_true (is_low a) (is_low c) (and_parts (is_low a) (is_low b) p.0).0 q.0)
    (joined_low cs ds p.1 q.1)
joined_low (Span a b ∷ cs) (Span c d ∷ ds) g h =
    let p = and_parts (is_low a && is_low b) (all_low cs) g in
    let q = and_parts (is_low c && is_low d) (all_low ds) h in
    let a' = (and_parts (is_low a) (is_low b) p.0).0 in
    let r = and_parts (is_low c) (is_low d) q.0 in
    both_true ((is_low a && is_low c) && (is_low a && is_low d)) (all_low (joined_coords cs ds))
    (both_true (is_low a && is_low c) (is_low a && is_low d)
    (both_true (is_low a) (is_low c) a' r.0) (both_true (is_low a) (is_low d) a' r.1))
    (joined_low cs ds p.1 q.1)

points_low : (is : List Control) → list_all is_low is ≡ true → all_low (map At is) ≡ true
points_low [] h = refl
points_low (e ∷ is) h =
    let p = and_parts (is_low e) (list_all is_low is) h in
    both_true (is_low e) (all_low (map At is)) p.0 (points_low is p.1)

shifted_low : (cs : List Coord) (is : List Control) → all_low cs ≡ true → list_all is_low is ≡ true → list_all is_low (shifted cs is) ≡ true
shifted_low [] is g h = h
shifted_low (At a ∷ cs) is g h =
    let p = and_parts (is_low a) (all_low cs) g in
    both_true (is_low a) (list_all is_low (shifted cs is)) p.0 (shifted_low cs is p.1 h)
shifted_low (Span a b ∷ cs) [] g h = refl
shifted_low (Span a b ∷ cs) (i ∷ is) g h =
    let p = and_parts (is_low a && is_low b) (all_low cs) g in
    let q = and_parts (is_low i) (list_all is_low is) h in
    both_true (is_low a && is_low i) (list_all is_low (shifted cs is))
    (both_true (is_low a) (is_low i) (and_parts (is_low a) (is_low b) p.0).0 q.0)
    (shifted_low cs is p.1 q.1)

-- ---- what names stand for

abbrev part_low : Option Part → Bool
part_low o = elim o [ None ↦ true | Some p ↦ all_low p.coords ]

abbrev AreLow : Parts → Type 0
AreLow parts = (x : ℕ) → part_low (parts x) ≡ true

updated_low : (parts : Parts) (x : ℕ) (o : Option Part) → AreLow parts → part_low o ≡ true → AreLow (updated parts x o)
updated_low parts x o g h y = by_test (y == x)
  where
    by_test : (b : Bool) → part_low (if b then o else parts y) ≡ true
    by_test true = h
    by_test false = g y

window_low : (coords : List Coord) (o : Option Part) → all_low coords ≡ true → part_low o ≡ true → part_low (option_map (window_of coords) o) ≡ true
window_low coords None g h = refl
window_low coords (Some p) g h = joined_low p.coords coords h g

params_low : (ps : List Param) (parts : Parts) → list_all (λ q. kind_is_low q.kind) ps ≡ true → AreLow parts → AreLow (with_params ps parts)
params_low [] parts h g = g
params_low (p ∷ ps) parts h g =
    let q = and_parts (kind_is_low p.kind) (list_all (λ q. kind_is_low q.kind) ps) h in
    params_low ps (with_kind p.binder.id p.kind parts) q.1 (kind_low p.kind q.0)
  where
    kind_low : (kind : ParamKind) → kind_is_low kind ≡ true → AreLow (with_kind p.binder.id kind parts)
    kind_low (ControlParam kind) h = g
    kind_low (TensorParam cell dims memory) h = updated_low parts p.binder.id (Some (whole_of p.binder.id dims)) g (whole_low dims h)
    kind_low (WindowParam cell dims memory) h = updated_low parts p.binder.id (Some (whole_of p.binder.id dims)) g (whole_low dims h)

passed_low : (a : Statement) (parts : Parts) → statement_is_low a ≡ true → AreLow parts → AreLow (passed a parts)
passed_low (Assign x is e) parts h g = g
passed_low (Reduce x is e) parts h g = g
passed_low (Config f a) parts h g = g
passed_low Pass parts h g = g
passed_low (If c a b) parts h g = g
passed_low (For i lo hi b) parts h g = g
passed_low (Alloc x cell dims memory) parts h g = updated_low parts x.id (Some (whole_of x.id dims)) g (whole_low dims h)
passed_low (View w x coords) parts h g = updated_low parts w.id (option_map (window_of coords) (parts x)) g (window_low coords (parts x) h (g x))
passed_low (Call k args) parts h g = g

passed_inside_low : (a : Statement) (parts : Parts) → statement_is_low a ≡ true → AreLow parts → AreLow (passed_inside a parts)
passed_inside_low (Assign x is e) parts h g = g
passed_inside_low (Reduce x is e) parts h g = g
passed_inside_low (Config f a) parts h g = g
passed_inside_low Pass parts h g = g
passed_inside_low (If c a b) parts h g = g
passed_inside_low (For i lo hi b) parts h g = g
passed_inside_low (Alloc x cell dims memory) parts h g = updated_low parts x.id None g refl
passed_inside_low (View w x coords) parts h g = updated_low parts w.id (option_map (window_of coords) (parts x)) g (window_low coords (parts x) h (g x))
passed_inside_low (Call k args) parts h g = g

first_low : (b rest : Block) → block_is_low (joined b rest) ≡ true → block_is_low b ≡ true
first_low end rest h = refl
first_low (next a b) rest h =
    let p = and_parts (statement_is_low a) (block_is_low (joined b rest)) h in
    both_true (statement_is_low a) (block_is_low b) p.0 (first_low b rest p.1)

-- the statements in a hole, and the names there
hole_low : (c : Context) (b : Block) (parts : Parts) → block_is_low (fill c b) ≡ true → AreLow parts → (block_is_low b ≡ true) × AreLow (parts_at c parts)
hole_low (Here rest) b parts h g = (first_low b rest h, g)
hole_low (After a c) b parts h g =
    let p = and_parts (statement_is_low a) (block_is_low (fill c b)) h in
    hole_low c b (passed a parts) p.1 (passed_low a parts p.0 g)
hole_low (InLoop i lo hi c rest) b parts h g =
    let inner = (is_low lo && is_low hi) && block_is_low (fill c b) in
    let p = and_parts (low_id i.id && inner) (block_is_low rest) h in
    let q = and_parts (low_id i.id) inner p.0 in
    hole_low c b parts (and_parts (is_low lo && is_low hi) (block_is_low (fill c b)) q.1).1 g
hole_low (InThen t c other rest) b parts h g =
    let p = and_parts (condition_is_low t && (block_is_low (fill c b) && block_is_low other)) (block_is_low rest) h in
    let q = and_parts (condition_is_low t) (block_is_low (fill c b) && block_is_low other) p.0 in
    hole_low c b parts (and_parts (block_is_low (fill c b)) (block_is_low other) q.1).0 g
hole_low (InElse t other c rest) b parts h g =
    let p = and_parts (condition_is_low t && (block_is_low other && block_is_low (fill c b))) (block_is_low rest) h in
    let q = and_parts (condition_is_low t) (block_is_low other && block_is_low (fill c b)) p.0 in
    hole_low c b parts (and_parts (block_is_low other) (block_is_low (fill c b)) q.1).1 g

-- ---- uses

record IsLowAt (at : Inside) : Type 0 where
  parts : AreLow at.parts
  own : list_all low_id at.own ≡ true
  round : list_all fact_is_low at.round ≡ true

uses_of_low : (at : Inside) (text : Text) (o : Option Part) (modes : List Mode) → IsLowAt at → part_low o ≡ true → uses_are_low (uses_of at text o modes) ≡ true
uses_of_low at text None modes g h = refl
uses_of_low at text (Some p) [] g h = refl
uses_of_low at text (Some p) (m ∷ modes) g h =
    both_true (list_all fact_is_low at.round && (all_low p.coords && list_all low_id at.own)) (uses_are_low (map (use_of at text p) modes))
    (both_true (list_all fact_is_low at.round) (all_low p.coords && list_all low_id at.own) g.round
    (both_true (all_low p.coords) (list_all low_id at.own) h g.own))
    (uses_of_low at text (Some p) modes g h)

cell_low : (is : List Control) (o : Option Part) → list_all is_low is ≡ true → part_low o ≡ true → part_low (option_map (cell_of is) o) ≡ true
cell_low is None h g = refl
cell_low is (Some p) h g = points_low (shifted p.coords is) (shifted_low p.coords is g h)

argument_low : (parts : Parts) (a : Argument) → AreLow parts → argument_is_low a ≡ true → part_low (part_of_argument parts a) ≡ true
argument_low parts (ControlArg e) g h = refl
argument_low parts (ConditionArg c) g h = refl
argument_low parts (Whole x) g h = g x
argument_low parts (Window x coords) g h = window_low coords (parts x) h (g x)

-- a branch whose condition says something, or not
branch_low : (at : Inside) (says : Bool) (fact : Fact) → IsLowAt at → fact_is_low fact ≡ true → IsLowAt (record at { round = at.round ++ with_fact says fact [] })
branch_low at true fact g h = record {
  parts = g.parts;
  own = g.own;
  round = all_behind fact_is_low at.round (fact ∷ []) g.round (both_true (fact_is_low fact) true h refl);
}
branch_low at false fact g h = record {
  parts = g.parts;
  own = g.own;
  round = all_behind fact_is_low at.round [] g.round refl;
}

loop_low : (i : Binder) (lo hi : Control) (at : Inside) → IsLowAt at → low_id i.id ≡ true → (is_low lo && is_low hi) ≡ true → IsLowAt (in_loop i lo hi at)
loop_low i lo hi at g v h =
    let p = and_parts (is_low lo) (is_low hi) h in
    record {
      parts = g.parts;
      own = all_behind low_id at.own (i.id ∷ []) g.own (both_true (low_id i.id) true v refl);
      round = all_behind fact_is_low at.round (Holds (Le lo (Var i.id)) ∷ Holds (Lt (Var i.id) hi) ∷ []) g.round
          (both_true (is_low lo && low_id i.id) ((low_id i.id && is_low hi) && true) (both_true (is_low lo) (low_id i.id) p.0 v)
          (both_true (low_id i.id && is_low hi) true (both_true (low_id i.id) (is_low hi) v p.1) refl));
    }

module _ (w : Words) (params : ℕ → List Param) (modes : ℕ → meaning.Modes) where
  abbrev Low : List Use → Type 0
  Low l = uses_are_low l ≡ true

  two_low : (xs ys : List Use) → Low xs → Low ys → Low (xs ++ ys)
  two_low xs ys g h = all_behind use_is_low xs ys g h

  cell_uses_low : (at : Inside) (m : Mode) (x : ℕ) (is : List Control) → IsLowAt at → list_all is_low is ≡ true → Low (cell_uses w params modes at m x is)
  cell_uses_low at m x is g h = uses_of_low at _ (option_map (cell_of is) (at.parts x)) (m ∷ []) g (cell_low is (at.parts x) h (g.parts x))

  data_low : (at : Inside) (e : Datum) → IsLowAt at → datum_is_low e ≡ true → Low (data_uses w params modes at e)
  data_low at (Const n) g h = refl
  data_low at (Read x is) g h = cell_uses_low at Reading x is g h
  data_low at (Negated a) g h = data_low at a g h
  data_low at (Relu a) g h = data_low at a g h
  data_low at (Plus a b) g h =
      let p = and_parts (datum_is_low a) (datum_is_low b) h in
      two_low (data_uses w params modes at a) (data_uses w params modes at b) (data_low at a g p.0) (data_low at b g p.1)
  data_low at (Minus a b) g h =
      let p = and_parts (datum_is_low a) (datum_is_low b) h in
      two_low (data_uses w params modes at a) (data_uses w params modes at b) (data_low at a g p.0) (data_low at b g p.1)
  data_low at (Times a b) g h =
      let p = and_parts (datum_is_low a) (datum_is_low b) h in
      two_low (data_uses w params modes at a) (data_uses w params modes at b) (data_low at a g p.0) (data_low at b g p.1)
  data_low at (Select a b c d) g h =
      let p = and_parts (datum_is_low a && datum_is_low b) (datum_is_low c && datum_is_low d) h in
      let q = and_parts (datum_is_low a) (datum_is_low b) p.0 in
      let r = and_parts (datum_is_low c) (datum_is_low d) p.1 in
      let uses = data_uses w params modes at in
      two_low (uses a) (uses b ++ (uses c ++ uses d)) (data_low at a g q.0)
      (two_low (uses b) (uses c ++ uses d) (data_low at b g q.1)
      (two_low (uses c) (uses d) (data_low at c g r.0) (data_low at d g r.1)))

  arguments_low : (at : Inside) (callee : meaning.Modes) (ps : List Param) (args : List Argument) → IsLowAt at → list_all argument_is_low args ≡ true → Low (arguments_uses w params modes at callee ps args)
  arguments_low at callee [] args g h = refl
  arguments_low at callee (p ∷ ps) [] g h = refl
  arguments_low at callee (p ∷ ps) (a ∷ args) g h =
      let q = and_parts (argument_is_low a) (list_all argument_is_low args) h in
      two_low (argument_uses w params modes at callee p a) (arguments_uses w params modes at callee ps args)
      (uses_of_low at _ (part_of_argument at.parts a) (modes_had (λ m. callee m p.binder.id)) g (argument_low at.parts a g.parts q.0))
      (arguments_low at callee ps args g q.1)

  mutual
    block_low : (at : Inside) (b : Block) → IsLowAt at → block_is_low b ≡ true → Low (block_uses w params modes at b)
    block_low at end g h = refl
    block_low at (next a b) g h =
        let p = and_parts (statement_is_low a) (block_is_low b) h in
        two_low (step_uses w params modes at a) (block_uses w params modes (past_statement a at) b) (step_low at a g p.0)
        (block_low (past_statement a at) b (record { parts = passed_inside_low a at.parts p.0 g.parts; own = g.own; round = g.round }) p.1)

    step_low : (at : Inside) (a : Statement) → IsLowAt at → statement_is_low a ≡ true → Low (step_uses w params modes at a)
    step_low at (Assign x is e) g h =
        let p = and_parts (list_all is_low is) (datum_is_low e) h in
        two_low (cell_uses w params modes at Writing x is) (data_uses w params modes at e) (cell_uses_low at Writing x is g p.0) (data_low at e g p.1)
    step_low at (Reduce x is e) g h =
        let p = and_parts (list_all is_low is) (datum_is_low e) h in
        two_low (cell_uses w params modes at Reducing x is) (data_uses w params modes at e) (cell_uses_low at Reducing x is g p.0) (data_low at e g p.1)
    step_low at (Config f a) g h = refl
    step_low at Pass g h = refl
    step_low at (If c a b) g h =
        let p = and_parts (condition_is_low c) (block_is_low a && block_is_low b) h in
        let q = and_parts (block_is_low a) (block_is_low b) p.1 in
        two_low (block_uses w params modes (in_branch c (Holds c) at) a) (block_uses w params modes (in_branch c (Fails c) at) b)
        (block_low (in_branch c (Holds c) at) a (branch_low at (is_plain_condition c) (Holds c) g p.0) q.0)
        (block_low (in_branch c (Fails c) at) b (branch_low at (is_plain_condition c) (Fails c) g p.0) q.1)
    step_low at (For i lo hi b) g h =
        let p = and_parts (low_id i.id) ((is_low lo && is_low hi) && block_is_low b) h in
        let q = and_parts (is_low lo && is_low hi) (block_is_low b) p.1 in
        block_low (in_loop i lo hi at) b (loop_low i lo hi at g p.0 q.0) q.1
    step_low at (Alloc x cell dims memory) g h = refl
    step_low at (View v x coords) g h = refl
    step_low at (Call k args) g h = arguments_low at (modes k) (params k) args g h

-- ---- in a procedure

module _ (u : Program) (p : Procedure) (path : Path) (count : ℕ) (h : procedure_is_low p ≡ true) where
  module _ (o : Opened) (e : opened count path p.body ≡ Some o) where
    piece_low : (block_is_low o.piece ≡ true) × IsLowAt (at_hole u p o)
    piece_low =
        let q = and_parts (list_all (λ q. kind_is_low q.kind) p.params) (block_is_low p.body) h in
        let whole = ap block_is_low (opened_law count path p.body o e) ∙ q.1 in
        let named = params_low p.params no_parts q.0 (λ x. refl) in
        let r = hole_low o.around o.piece (with_params p.params no_parts) whole named in
        (r.0, record { parts = r.1; own = refl; round = refl })

pub uses_stay_low : UsesLowLaw
uses_stay_low u p path count h = found (opened count path p.body) refl
  where
    found : (x : Option Opened) → opened count path p.body ≡ x
        → uses_are_low (elim x [ None ↦ [] | Some o ↦ uses_in u p o ]) ≡ true
    found None e = refl
    found (Some o) e =
        let r = piece_low u p path count h o e in
        block_low (words_of u p) (params_of u) (modes_of u) (at_hole u p o) o.piece r.1 r.0

-- the arguments of the call with which a block begins
arguments_of_low : (b : Block) → block_is_low b ≡ true
    → list_all argument_is_low (call_arguments b) ≡ true
arguments_of_low end h = refl
arguments_of_low (next a b) h = of_low a (and_parts (statement_is_low a) (block_is_low b) h).0
  where
    of_low : (a : Statement) → statement_is_low a ≡ true
        → list_all argument_is_low (passed_by a) ≡ true
    of_low (Assign x is e) h = refl
    of_low (Reduce x is e) h = refl
    of_low (Config f v) h = refl
    of_low Pass h = refl
    of_low (If c a b) h = refl
    of_low (For i lo hi b) h = refl
    of_low (Alloc x cell dims memory) h = refl
    of_low (View v x coords) h = refl
    of_low (Call k args) h = h

-- one of them as a whole
one_low : (w : Words) (at : Inside) (args : List Argument) (k : ℕ) → IsLowAt at
    → list_all argument_is_low args ≡ true
    → uses_are_low (elim (slice_get args k) [
      | None ↦ []
      | Some a ↦ uses_of at (argument_text w a) (part_of_argument at.parts a) (Writing ∷ [])
    ]) ≡ true
one_low w at [] k g h = refl
one_low w at (a ∷ args) zero g h =
    uses_of_low at (argument_text w a) (part_of_argument at.parts a) (Writing ∷ []) g
    (argument_low at.parts a g.parts (and_parts (argument_is_low a) (list_all argument_is_low args) h).0)
one_low w at (a ∷ args) (suc k) g h =
    one_low w at args k g (and_parts (argument_is_low a) (list_all argument_is_low args) h).1

pub passed_stays_low : PassedLowLaw
passed_stays_low u p path k h = found (opened 1 path p.body) refl
  where
    found : (x : Option Opened) → opened 1 path p.body ≡ x
        → uses_are_low (elim x [ None ↦ [] | Some o ↦ argument_in u p o k ]) ≡ true
    found None e = refl
    found (Some o) e =
        let r = piece_low u p path 1 h o e in
        one_low (words_of u p) (at_hole u p o) (call_arguments o.piece) k r.1
        (arguments_of_low o.piece r.0)
