-- In a well-formed procedure a use has 8 coordinates at most, and 64 facts around it.
use Rattle.std.proofs.Common.{◌≡◌, ◌≤◌, ◌+◌, ◌*◌, ℕ, zero, suc, ◌==◌, nat_lt, Bool, true, false, not, cond}
use Rattle.std.proofs.Common.{◌&&◌, List, [], ◌∷◌, ◌++◌, length, map, Option, Some, None, option_map}
use Rattle.std.proofs.Common.{◌||◌, refl, sym, ap, ap₂, ◌∙◌, true≢false, length-append, arith}
use Rattle.std.proofs.lemmas.Bool.Decides.{nat_tests}
use Rattle.std.specs.Prelude.{⊤, slice_get}
use Rattle.std.specs.List.{list_all}
use Rattle.exo_tree.specs.Tree.{Kind, Index, Control, Var, Le, Lt, Datum, Const, Read}
use Rattle.exo_tree.specs.Tree.{Negated, Relu, Plus, Minus, Times, Select, Coord, At, Argument}
use Rattle.exo_tree.specs.Tree.{ControlArg, ConditionArg, Whole, Window, Statement, Assign, Reduce}
use Rattle.exo_tree.specs.Tree.{Config, Pass, If, For, Alloc, View, Call, Block, end, next, joined}
use Rattle.exo_tree.specs.Tree.{Param, ParamKind, ControlParam, TensorParam, WindowParam}
use Rattle.exo_tree.specs.Tree.{Procedure, Program}
use Rattle.exo_tree.specs.Calls.{passed_by, call_arguments}
use Rattle.exo_tree.specs.Context.{Context, Here, After, InLoop, InThen, InElse, fill}
use Rattle.exo_tree.specs.Places.{Path, Opened, opened}
use Rattle.exo_meaning.specs.Calls.{Callee}
use Rattle.exo_meaning.specs.Modes as meaning
use Rattle.exo_meaning.specs.Modes.{Mode, Reading, Writing, Reducing}
use Rattle.exo_meaning.specs.Orders.{Each}
use Rattle.exo_meaning.specs.Run.{roots_after}
use Rattle.exo_meaning.specs.Units.{Scope, ControlName, sort_in, with_name, has_rank, has_cell}
use Rattle.exo_meaning.specs.Units.{is_dense, plainly, with_fields, is_control, are_controls}
use Rattle.exo_meaning.specs.Units.{is_condition, is_access, is_datum, is_coord, is_window, is_for}
use Rattle.exo_meaning.specs.Units.{are_for, is_call, share_nothing_written, is_new, is_empty}
use Rattle.exo_meaning.specs.Units.{is_short, spans, scope_of, scope_after, is_block, is_statement}
use Rattle.exo_meaning.specs.Units.{larger, levels, step_levels, IsProcedure}
use Rattle.meaning_laws.specs.Facts.{Fact, Holds, Fails, is_plain_condition, with_fact}
use Rattle.meaning_laws.specs.Sorted.{scope_at}
use Rattle.meaning_laws.proofs.Known.{each_join}
use Rattle.meaning_laws.proofs.Places.{opened_law}
use Rattle.inplace_laws.specs.Windows.{shifted}
use Rattle.text_show.specs.Layout.{Text}
use Rattle.text_show.specs.StatementText.{argument_text}
use Rattle.text_show.specs.Words.{Words, words_of}
use Rattle.affine_forms.proofs.Values.{and_parts}
use Rattle.check_facts.proofs.Rooms.{larger_left, larger_right}
use Rattle.exo_effects.specs.Parts.{Part, Parts, no_parts, window_of, with_params, passed}
use Rattle.exo_effects.specs.Parts.{parts_at}
use Rattle.exo_effects.specs.Uses.{Use, Inside, in_loop, in_branch, past_statement, uses_of}
use Rattle.exo_effects.specs.Uses.{cell_of, part_of_argument, modes_had, cell_uses, data_uses}
use Rattle.exo_effects.specs.Uses.{argument_uses, arguments_uses, block_uses, step_uses}
use Rattle.exo_effects.specs.Uses.{params_of, modes_of, at_hole, uses_in, uses_at}
use Rattle.exo_effects.specs.Uses.{argument_in, argument_at}
use Rattle.effect_laws.proofs.OfBounds.Ranks.{shifted_length, Stands, AllFit, at_rank}
use Rattle.effect_laws.proofs.OfBounds.Ranks.{window_stands}
use Rattle.effect_laws.proofs.OfBounds.Ranks.{passed_fits, passed_inside_fits, loop_fits}
use Rattle.effect_laws.proofs.OfBounds.Ranks.{params_fit}

-- a use of at most 8 coordinates, with so many facts around it
pub record IsSmall (n : ℕ) (x : Use) : Type 0 where
  pub coords : length x.coords ≤ 8
  pub round : length x.round ≤ n

abbrev AreSmall : ℕ → List Use → Type 0
AreSmall n l = Each (IsSmall n) l

two_small : (n : ℕ) (xs ys : List Use) → AreSmall n xs → AreSmall n ys → AreSmall n (xs ++ ys)
two_small n xs ys g h = each_join (IsSmall n) xs ys g h

-- ---- uses of a part

abbrev PartSmall : Option Part → Type 0
PartSmall None = ⊤
PartSmall (Some p) = length p.coords ≤ 8

standing_small : (rank : ℕ) (o : Option Part) → Stands rank o → PartSmall o
standing_small rank None g = tt
standing_small rank (Some p) g = g.dims

points_length : (is : List Control) → length (map At is) ≡ length is
points_length [] = refl
points_length (i ∷ is) = ap suc (points_length is)

cell_small :
    (is : List Control) (o : Option Part)
    → Stands (length is) o → PartSmall (option_map (cell_of is) o)
cell_small is None g = tt
cell_small is (Some p) g =
    let points = points_length (shifted p.coords is) in
    let same = shifted_length p.coords is (sym g.spans) in
    let few = g.dims in
    omega arith

uses_of_small :
    (n : ℕ) (at : Inside) (text : Text) (o : Option Part) (modes : List Mode)
    → PartSmall o → length at.round ≤ n → AreSmall n (uses_of at text o modes)
uses_of_small n at text None modes g h = tt
uses_of_small n at text (Some p) [] g h = tt
uses_of_small n at text (Some p) (m ∷ modes) g h =
    (record { coords = g; round = h }, uses_of_small n at text (Some p) modes g h)

-- ---- facts around

facts_in_branch :
    (xs : List Fact) (says : Bool) (fact : Fact)
    → length (xs ++ with_fact says fact []) ≤ length xs + 1
facts_in_branch xs true fact = let e = length-append xs (fact ∷ []) in omega arith
facts_in_branch xs false fact = let e = length-append xs [] in omega arith

larger_within : (a b n : ℕ) → a ≤ n → b ≤ n → larger a b ≤ n
larger_within a b n h k = go (nat_lt a b)
  where
    go : (t : Bool) → cond t b a ≤ n
    go true = k
    go false = h

-- ---- pieces that keep the rules

module _ (fields : ℕ → Option Kind) (memories : ℕ) (callees : ℕ → Option Callee) where
  abbrev keeps : Scope → (ℕ → ℕ) → Block → Bool
  keeps = is_block fields memories callees

  abbrev step_keeps : Scope → (ℕ → ℕ) → Statement → Bool
  step_keeps = is_statement fields memories callees

  -- an argument that is a part names a buffer
  abbrev HasBuffer : Scope → Argument → Type 0
  HasBuffer scope (ControlArg e) = ⊤
  HasBuffer scope (ConditionArg c) = ⊤
  HasBuffer scope (Whole x) = (n : ℕ) × (has_rank n (sort_in scope x) ≡ true)
  HasBuffer scope (Window x coords) = has_rank (length coords) (sort_in scope x) ≡ true

  window_ranked :
      (scope : Scope) (x : ℕ) (coords : List Coord)
      → is_window fields scope x coords ≡ true → has_rank (length coords) (sort_in scope x) ≡ true
  window_ranked scope x coords h =
      (and_parts (has_rank (length coords) (sort_in scope x)) (list_all (is_coord fields scope) coords) h).0

  argument_named :
      (scope : Scope) (kind : ParamKind) (a : Argument)
      → is_for fields scope kind a ≡ true → HasBuffer scope a
  argument_named scope kind (ControlArg e) h = tt
  argument_named scope kind (ConditionArg c) h = tt
  argument_named scope (ControlParam kind) (Whole x) h = absurd (true≢false (sym h))
  argument_named scope (ControlParam kind) (Window x cs) h = absurd (true≢false (sym h))
  argument_named scope (TensorParam cell dims memory) (Whole x) h =
      let n = length dims in
      let sort = sort_in scope x in
      let q = and_parts (has_cell cell sort) (has_rank n sort && ((n == 0) || is_dense sort)) h in
      (n, (and_parts (has_rank n sort) ((n == 0) || is_dense sort) q.1).0)
  argument_named scope (TensorParam cell dims memory) (Window x cs) h =
      let none = (length dims == 0) && ((spans cs == 0) && not (length cs == 0)) in
      let q = and_parts (has_cell cell (sort_in scope x)) (is_window fields scope x cs && none) h in
      window_ranked scope x cs (and_parts (is_window fields scope x cs) none q.1).0
  argument_named scope (WindowParam cell dims memory) (Whole x) h =
      let sort = sort_in scope x in
      (length dims, (and_parts (has_cell cell sort) (has_rank (length dims) sort) h).1)
  argument_named scope (WindowParam cell dims memory) (Window x cs) h =
      let same = length dims == spans cs in
      let q = and_parts (has_cell cell (sort_in scope x)) (is_window fields scope x cs && same) h in
      window_ranked scope x cs (and_parts (is_window fields scope x cs) same q.1).0

  arguments_named :
      (scope : Scope) (ps : List Param) (args : List Argument)
      → are_for fields scope ps args ≡ true → Each (HasBuffer scope) args
  arguments_named scope [] [] h = tt
  arguments_named scope [] (a ∷ args) h = absurd (true≢false (sym h))
  arguments_named scope (p ∷ ps) [] h = tt
  arguments_named scope (p ∷ ps) (a ∷ args) h =
      let q = and_parts (is_for fields scope p.kind a) (are_for fields scope ps args) h in
      (argument_named scope p.kind a q.0, arguments_named scope ps args q.1)

  call_named :
      (scope : Scope) (root : ℕ → ℕ) (o : Option Callee) (args : List Argument)
      → is_call fields scope root o args ≡ true → Each (HasBuffer scope) args
  call_named scope root None args h = absurd (true≢false (sym h))
  call_named scope root (Some c) args h =
      let ps = c.procedure.params in
      arguments_named scope ps args
      (and_parts (are_for fields scope ps args) (share_nothing_written fields c.writes root ps args) h).0

  argument_small :
      (scope : Scope) (parts : Parts) (a : Argument)
      → AllFit scope parts → HasBuffer scope a → PartSmall (part_of_argument parts a)
  argument_small scope parts (ControlArg e) g h = tt
  argument_small scope parts (ConditionArg c) g h = tt
  argument_small scope parts (Whole x) g h =
      standing_small h.0 (parts x) (at_rank h.0 (sort_in scope x) (parts x) h.1 (g x))
  argument_small scope parts (Window x cs) g h =
      standing_small (spans cs) (option_map (window_of cs) (parts x))
      (window_stands cs (parts x) (at_rank (length cs) (sort_in scope x) (parts x) h (g x)))

  module _ (w : Words) (params : ℕ → List Param) (modes : ℕ → meaning.Modes) (n : ℕ) where
    cell_uses_small :
        (at : Inside) (scope : Scope) (m : Mode) (x : ℕ) (is : List Control)
        → is_access fields scope x is ≡ true
        → AllFit scope at.parts → length at.round ≤ n
        → AreSmall n (cell_uses w params modes at m x is)
    cell_uses_small at scope m x is h g few =
        let q = and_parts (has_rank (length is) (sort_in scope x)) (are_controls fields plainly scope is) h in
        let part = at.parts x in
        uses_of_small n at _ (option_map (cell_of is) part) (m ∷ [])
        (cell_small is part (at_rank (length is) (sort_in scope x) part q.0 (g x))) few

    data_small :
        (at : Inside) (scope : Scope) (e : Datum)
        → is_datum fields scope e ≡ true
        → AllFit scope at.parts → length at.round ≤ n
        → AreSmall n (data_uses w params modes at e)
    data_small at scope (Const z) h g few = tt
    data_small at scope (Read x is) h g few = cell_uses_small at scope Reading x is h g few
    data_small at scope (Negated a) h g few = data_small at scope a h g few
    data_small at scope (Relu a) h g few = data_small at scope a h g few
    data_small at scope (Plus a b) h g few =
        let q = and_parts (is_datum fields scope a) (is_datum fields scope b) h in
        two_small n (data_uses w params modes at a) (data_uses w params modes at b)
        (data_small at scope a q.0 g few) (data_small at scope b q.1 g few)
    data_small at scope (Minus a b) h g few =
        let q = and_parts (is_datum fields scope a) (is_datum fields scope b) h in
        two_small n (data_uses w params modes at a) (data_uses w params modes at b)
        (data_small at scope a q.0 g few) (data_small at scope b q.1 g few)
    data_small at scope (Times a b) h g few =
        let q = and_parts (is_datum fields scope a) (is_datum fields scope b) h in
        two_small n (data_uses w params modes at a) (data_uses w params modes at b)
        (data_small at scope a q.0 g few) (data_small at scope b q.1 g few)
    data_small at scope (Select a b c d) h g few =
        let good = is_datum fields scope in
        let q = and_parts (good a && good b) (good c && good d) h in
        let r = and_parts (good a) (good b) q.0 in
        let s = and_parts (good c) (good d) q.1 in
        let uses = data_uses w params modes at in
        two_small n (uses a) (uses b ++ (uses c ++ uses d)) (data_small at scope a r.0 g few)
        (two_small n (uses b) (uses c ++ uses d) (data_small at scope b r.1 g few)
        (two_small n (uses c) (uses d) (data_small at scope c s.0 g few)
        (data_small at scope d s.1 g few)))

    arguments_small :
        (at : Inside) (scope : Scope) (callee : meaning.Modes) (ps : List Param)
        (args : List Argument)
        → Each (HasBuffer scope) args
        → AllFit scope at.parts → length at.round ≤ n
        → AreSmall n (arguments_uses w params modes at callee ps args)
    arguments_small at scope callee [] args h g few = tt
    arguments_small at scope callee (p ∷ ps) [] h g few = tt
    arguments_small at scope callee (p ∷ ps) (a ∷ args) h g few =
        two_small n (argument_uses w params modes at callee p a)
        (arguments_uses w params modes at callee ps args)
        (uses_of_small n at _ (part_of_argument at.parts a) (modes_had (λ m. callee m p.binder.id))
        (argument_small scope at.parts a g h.0) few)
        (arguments_small at scope callee ps args h.1 g few)

    mutual
      block_small :
          (at : Inside) (scope : Scope) (root : ℕ → ℕ) (b : Block)
          → keeps scope root b ≡ true
          → AllFit scope at.parts → length at.round + 2 * levels b ≤ n
          → AreSmall n (block_uses w params modes at b)
      block_small at scope root end h g few = tt
      block_small at scope root (next a b) h g few =
          let q = and_parts (step_keeps scope root a) (keeps (scope_after a scope) (roots_after a root) b) h in
          let here = larger_left (suc (step_levels a)) (levels b) in
          let behind = larger_right (suc (step_levels a)) (levels b) in
          two_small n (step_uses w params modes at a)
          (block_uses w params modes (past_statement a at) b)
          (step_small at scope root a q.0 g (omega (arith, here, few)))
          (block_small (past_statement a at) (scope_after a scope) (roots_after a root) b q.1
          (passed_inside_fits fields memories callees a scope root at.parts q.0 g)
          (omega (arith, behind, few)))

      step_small :
          (at : Inside) (scope : Scope) (root : ℕ → ℕ) (a : Statement)
          → step_keeps scope root a ≡ true
          → AllFit scope at.parts → length at.round + 2 * suc (step_levels a) ≤ n
          → AreSmall n (step_uses w params modes at a)
      step_small at scope root (Assign x is e) h g few =
          let q = and_parts (is_access fields scope x is) (is_datum fields scope e) h in
          two_small n (cell_uses w params modes at Writing x is) (data_uses w params modes at e)
          (cell_uses_small at scope Writing x is q.0 g (omega arith))
          (data_small at scope e q.1 g (omega arith))
      step_small at scope root (Reduce x is e) h g few =
          let q = and_parts (is_access fields scope x is) (is_datum fields scope e) h in
          two_small n (cell_uses w params modes at Reducing x is) (data_uses w params modes at e)
          (cell_uses_small at scope Reducing x is q.0 g (omega arith))
          (data_small at scope e q.1 g (omega arith))
      step_small at scope root (Config f v) h g few = tt
      step_small at scope root Pass h g few = tt
      step_small at scope root (If c a b) h g few =
          let short = not (is_empty a) && (is_short a && is_short b) in
          let inner = keeps scope root a && keeps scope root b in
          let q = and_parts (is_condition fields with_fields scope c) (short && inner) h in
          let r = and_parts (keeps scope root a) (keeps scope root b) (and_parts short inner q.1).1 in
          let one = facts_in_branch at.round (is_plain_condition c) (Holds c) in
          let other = facts_in_branch at.round (is_plain_condition c) (Fails c) in
          let left = larger_left (levels a) (levels b) in
          let right = larger_right (levels a) (levels b) in
          two_small n (block_uses w params modes (in_branch c (Holds c) at) a)
          (block_uses w params modes (in_branch c (Fails c) at) b)
          (block_small (in_branch c (Holds c) at) scope root a r.0 g (omega (arith, one, left, few)))
          (block_small (in_branch c (Fails c) at) scope root b r.1 g (omega (arith, other, right, few)))
      step_small at scope root (For i lo hi b) h g few =
          let under = with_name scope i (ControlName Index) in
          let bounds = is_control fields plainly scope lo && is_control fields plainly scope hi in
          let inner = (not (is_empty b) && is_short b) && keeps under root b in
          let q = and_parts (is_new scope i) (bounds && inner) h in
          let r = and_parts bounds inner q.1 in
          let more = length-append at.round (Holds (Le lo (Var i.id)) ∷ Holds (Lt (Var i.id) hi) ∷ []) in
          block_small (in_loop i lo hi at) under root b
          (and_parts (not (is_empty b) && is_short b) (keeps under root b) r.1).1
          (loop_fits fields memories callees scope at.parts i g) (omega (arith, more, few))
      step_small at scope root (Alloc x cell dims memory) h g few = tt
      step_small at scope root (View v x coords) h g few = tt
      step_small at scope root (Call k args) h g few =
          arguments_small at scope (modes k) (params k) args (call_named scope root (callees k) args h)
          g (omega arith)

  -- ---- the piece in a hole

  record IsPiece (scope : Scope) (parts : Parts) (b : Block) (n : ℕ) : Type 0 where
    root : ℕ → ℕ
    rules : keeps scope root b ≡ true
    fit : AllFit scope parts
    deep : levels b ≤ n

  first_keeps :
      (b rest : Block) (scope : Scope) (root : ℕ → ℕ)
      → keeps scope root (joined b rest) ≡ true → keeps scope root b ≡ true
  first_keeps end rest scope root h = refl
  first_keeps (next a b) rest scope root h =
      let after = scope_after a scope in
      let roots = roots_after a root in
      let q = and_parts (step_keeps scope root a) (keeps after roots (joined b rest)) h in
      ap₂ ◌&&◌ q.0 (first_keeps b rest after roots q.1)

  first_levels : (b rest : Block) (n : ℕ) → levels (joined b rest) ≤ n → levels b ≤ n
  first_levels end rest n h = omega arith
  first_levels (next a b) rest n h =
      let here = larger_left (suc (step_levels a)) (levels (joined b rest)) in
      let behind = larger_right (suc (step_levels a)) (levels (joined b rest)) in
      larger_within (suc (step_levels a)) (levels b) n (omega (arith, here, h))
      (first_levels b rest n (omega (arith, behind, h)))

  piece_in :
      (c : Context) (b : Block) (scope : Scope) (root : ℕ → ℕ) (parts : Parts) (n : ℕ)
      → keeps scope root (fill c b) ≡ true
      → AllFit scope parts → levels (fill c b) ≤ n
      → IsPiece (scope_at c scope) (parts_at c parts) b n
  piece_in (Here rest) b scope root parts n h g few = record {
    root = root;
    rules = first_keeps b rest scope root h;
    fit = g;
    deep = first_levels b rest n few;
  }
  piece_in (After a c) b scope root parts n h g few =
      let after = scope_after a scope in
      let roots = roots_after a root in
      let q = and_parts (step_keeps scope root a) (keeps after roots (fill c b)) h in
      let behind = larger_right (suc (step_levels a)) (levels (fill c b)) in
      piece_in c b after roots (passed a parts) n q.1
      (passed_fits fields memories callees a scope root parts q.0 g) (omega (arith, behind, few))
  piece_in (InLoop i lo hi c rest) b scope root parts n h g few =
      let body = fill c b in
      let under = with_name scope i (ControlName Index) in
      let bounds = is_control fields plainly scope lo && is_control fields plainly scope hi in
      let inner = (not (is_empty body) && is_short body) && keeps under root body in
      let o = and_parts (step_keeps scope root (For i lo hi body)) (keeps scope root rest) h in
      let q = and_parts (is_new scope i) (bounds && inner) o.0 in
      let r = and_parts bounds inner q.1 in
      let here = larger_left (suc (levels body)) (levels rest) in
      piece_in c b under root parts n
      (and_parts (not (is_empty body) && is_short body) (keeps under root body) r.1).1
      (loop_fits fields memories callees scope parts i g) (omega (arith, here, few))
  piece_in (InThen t c other rest) b scope root parts n h g few =
      let body = fill c b in
      let short = not (is_empty body) && (is_short body && is_short other) in
      let inner = keeps scope root body && keeps scope root other in
      let o = and_parts (step_keeps scope root (If t body other)) (keeps scope root rest) h in
      let q = and_parts (is_condition fields with_fields scope t) (short && inner) o.0 in
      let r = and_parts (keeps scope root body) (keeps scope root other) (and_parts short inner q.1).1 in
      let here = larger_left (suc (larger (levels body) (levels other))) (levels rest) in
      let left = larger_left (levels body) (levels other) in
      piece_in c b scope root parts n r.0 g (omega (arith, here, left, few))
  piece_in (InElse t other c rest) b scope root parts n h g few =
      let body = fill c b in
      let short = not (is_empty other) && (is_short other && is_short body) in
      let inner = keeps scope root other && keeps scope root body in
      let o = and_parts (step_keeps scope root (If t other body)) (keeps scope root rest) h in
      let q = and_parts (is_condition fields with_fields scope t) (short && inner) o.0 in
      let r = and_parts (keeps scope root other) (keeps scope root body) (and_parts short inner q.1).1 in
      let here = larger_left (suc (larger (levels other) (levels body))) (levels rest) in
      let right = larger_right (levels other) (levels body) in
      piece_in c b scope root parts n r.1 g (omega (arith, here, right, few))

  -- ---- of a procedure

  module _ (u : Program) (p : Procedure) (good : IsProcedure fields memories callees p) where
    module _ (path : Path) (count : ℕ) (o : Opened) (e : opened count path p.body ≡ Some o) where
      abbrev first : Scope
      first = scope_of [] p.params

      piece_of : IsPiece (scope_at o.around first) (at_hole u p o).parts o.piece 32
      piece_of =
          let there = opened_law count path p.body o e in
          piece_in o.around o.piece first (λ x. x) (with_params p.params no_parts) 32
          (ap (keeps first (λ x. x)) there ∙ good.body)
          (params_fit fields memories callees p.params [] no_parts good.params (λ x. tt))
          (let same = ap levels there in omega (arith, deep))
        where
          deep : levels p.body ≤ 32
          deep = let h = good.paths in grind (arith, nat_tests)

  pub uses_small :
      (u : Program) (p : Procedure) (path : Path) (count : ℕ)
      → IsProcedure fields memories callees p
      → Each (IsSmall 64) (uses_at u p path count)
  uses_small u p path count good = found (opened count path p.body) refl
    where
      uses : Option Opened → List Use
      uses o = elim o [ None ↦ [] | Some o ↦ uses_in u p o ]

      found : (x : Option Opened) → opened count path p.body ≡ x → AreSmall 64 (uses x)
      found None e = tt
      found (Some o) e =
          let piece = piece_of u p good path count o e in
          let few = piece.deep in
          block_small (words_of u p) (params_of u) (modes_of u) 64 (at_hole u p o)
          (scope_at o.around (scope_of [] p.params)) piece.root o.piece piece.rules piece.fit
          (omega arith)

  -- the arguments of the call with which a block begins
  passed_named :
      (scope : Scope) (root : ℕ → ℕ) (b : Block)
      → keeps scope root b ≡ true → Each (HasBuffer scope) (call_arguments b)
  passed_named scope root end h = tt
  passed_named scope root (next a b) h =
      of_step a (and_parts (step_keeps scope root a) (keeps (scope_after a scope) (roots_after a root) b) h).0
    where
      of_step : (a : Statement) → step_keeps scope root a ≡ true → Each (HasBuffer scope) (passed_by a)
      of_step (Assign x is e) h = tt
      of_step (Reduce x is e) h = tt
      of_step (Config f v) h = tt
      of_step Pass h = tt
      of_step (If c a b) h = tt
      of_step (For i lo hi b) h = tt
      of_step (Alloc x cell dims memory) h = tt
      of_step (View v x coords) h = tt
      of_step (Call k args) h = call_named scope root (callees k) args h

  -- one of them as a whole
  one_small :
      (w : Words) (at : Inside) (scope : Scope) (args : List Argument) (k : ℕ)
      → Each (HasBuffer scope) args
      → AllFit scope at.parts → length at.round ≤ 64
      → AreSmall 64 (elim (slice_get args k) [
        | None ↦ []
        | Some a ↦ uses_of at (argument_text w a) (part_of_argument at.parts a) (Writing ∷ [])
      ])
  one_small w at scope [] k h g few = tt
  one_small w at scope (a ∷ args) zero h g few =
      uses_of_small 64 at (argument_text w a) (part_of_argument at.parts a) (Writing ∷ [])
      (argument_small scope at.parts a g h.0) few
  one_small w at scope (a ∷ args) (suc k) h g few = one_small w at scope args k h.1 g few

  pub passed_small :
      (u : Program) (p : Procedure) (path : Path) (k : ℕ)
      → IsProcedure fields memories callees p
      → Each (IsSmall 64) (argument_at u p path k)
  passed_small u p path k good = found (opened 1 path p.body) refl
    where
      uses : Option Opened → List Use
      uses o = elim o [ None ↦ [] | Some o ↦ argument_in u p o k ]

      found : (x : Option Opened) → opened 1 path p.body ≡ x → AreSmall 64 (uses x)
      found None e = tt
      found (Some o) e =
          let piece = piece_of u p good path 1 o e in
          let scope = scope_at o.around (scope_of [] p.params) in
          one_small (words_of u p) (at_hole u p o) scope (call_arguments o.piece) k
          (passed_named scope piece.root o.piece piece.rules) piece.fit (omega arith)
