-- The rule that puts a block on a buffer of its own for a window is lawful.
use Rattle.std.proofs.Common.{◌≡◌, ◌≤◌, inl, ◌==◌, ℕ, zero, suc, Bool, true, false, ◌||◌, ◌&&◌, not, cond}
use Rattle.std.proofs.Common.{true≢false, List, [], ◌∷◌, length, Option, Some, None, IsSome, refl, sym}
use Rattle.std.proofs.Common.{ap, ap₂, ◌∙◌, subst, eqb-true, eq-eqb, le-leb, arith, if◌then◌else◌}
use Rattle.std.specs.Prelude.{nat_le, nat_lt, map}
use Rattle.std.specs.Option.{is_none}
use Rattle.std.specs.List.{list_any}
use Rattle.exo_tree.specs.Tree.{Cell, Binder, Control, Coord, At, Span, Argument, ControlArg}
use Rattle.exo_tree.specs.Tree.{ConditionArg, Whole, Window}
use Rattle.exo_tree.specs.Tree.{Statement, Assign, Reduce, Config, Pass, If, For, Alloc, View, Call}
use Rattle.exo_tree.specs.Tree.{Block, end, next, joined, statements, Procedure, Program}
use Rattle.exo_tree.specs.Context.{Context, Here, After, InLoop, InThen, InElse, fill, rest_of}
use Rattle.exo_tree.specs.Places.{Opened, opened}
use Rattle.exo_meaning.specs.Scene.{updated, numbers, window}
use Rattle.exo_meaning.specs.Calls.{all_positive}
use Rattle.exo_meaning.specs.State.{State}
use Rattle.exo_meaning.specs.Inputs.{IsAdmissible}
use Rattle.exo_meaning.specs.Orders.{Each}
use Rattle.exo_meaning.specs.Run.{World, run, step, writes, kinds_of}
use Rattle.exo_meaning.specs.Units.{Sort, ControlName, BufferName, Scope, sort_in, scope_of}
use Rattle.exo_meaning.specs.Units.{field_kind, is_block}
use Rattle.exo_meaning.specs.Unseen.{in_control as uses, in_coords, in_block as mentions}
use Rattle.exo_meaning.proofs.Frame.{or_parts}
use Rattle.exo_meaning.proofs.Windows.{where_parts}
use Rattle.meaning_laws.specs.Context.{ComesTo, MayReplace}
use Rattle.meaning_laws.specs.Copies.{IsFree}
use Rattle.meaning_laws.specs.Facts.{Holds}
use Rattle.meaning_laws.specs.FreshCopies.{IsBelow}
use Rattle.meaning_laws.specs.Scoped.{has_binder}
use Rattle.meaning_laws.specs.Sound.{IsUnbound}
use Rattle.meaning_laws.specs.Substitute.{has_variable}
use Rattle.meaning_laws.proofs.Binders.{fresh_law}
use Rattle.meaning_laws.proofs.CopiesAtPlaces.{no_param, no_binder, old_is_made}
use Rattle.meaning_laws.proofs.Fewer as fewer
use Rattle.meaning_laws.proofs.Numbers.{binder_seen}
use Rattle.meaning_laws.proofs.Parts.{then_gives}
use Rattle.meaning_laws.proofs.Scoped.{both_false, control_open, not_true}
use Rattle.meaning_laws.proofs.Substitute.{and_parts}
use Rattle.inplace_laws.specs.Windows.{are_plain, coords_have}
use Rattle.place_laws.specs.Scope.Opened.{MayLeave, IsNew}
use Rattle.place_laws.specs.Scope.Roots.{own_roots_at}
use Rattle.place_laws.specs.Scope.SamePlace.{BeginsWith}
use Rattle.place_laws.specs.Scope.Scopes.{top_binders}
use Rattle.place_laws.proofs.OfScope.MayLeave.{may_leave_law}
use Rattle.place_laws.proofs.OfScope.SamePlace.{first_place}
use Rattle.check_claims.specs.Extents.{extents_of}
use Rattle.check_laws.proofs.OfFacts.Truths.{contrary}
use Rattle.cursor_forward.specs.Causes.{Cause, WrongShape, OutOfScope, Aliased, StrideUsed}
use Rattle.cursor_forward.specs.Causes.{NotOnlyReduced, Form, WideNumber}
use Rattle.buffer_laws.specs.MadeIndices.{made_simpler}
use Rattle.buffer_laws.proofs.MadeIndices.{made_simpler_law}
use Rattle.buffer_laws.specs.StageMem.{Staging, sizes, loads, stores, staged_block, is_view_used}
use Rattle.buffer_laws.specs.StageMem.{is_aliased, is_only_reduced, has_span_at_point}
use Rattle.buffer_laws.specs.StageLaws.{as_made, reader_as_made}
use Rattle.buffer_laws.specs.StageAccum.{OnlyAdds, sums_as_made}
use Rattle.buffer_laws.proofs.OnlyAdds.{only_adds_at_place}
use Rattle.buffer_laws.specs.Sums.{zero_nest}
use Rattle.buffer_laws.specs.Staging.Alone.{has_root}
use Rattle.buffer_laws.specs.Staging.Converted.{converted, FitsWithin}
use Rattle.buffer_laws.specs.Staging.Known.{IsKnown}
use Rattle.buffer_laws.specs.Staging.Stores.{spans, store_nest}
use Rattle.buffer_laws.proofs.OfStaging.AtPlaces.{own_roots_law}
use Rattle.buffer_laws.specs.Stride.OnView.{LiesWithin}
use Rattle.buffer_laws.specs.Stride.Passed.{ArePassed}
use Rattle.buffer_laws.specs.Stride.Strides.{stride_seen}
use Rattle.alloc_laws.specs.Goes.Asked.{asked_from}
use Rattle.alloc_laws.specs.Goes.Fits.{IsWhole, IsWindowMade, is_whole, passes_whole}
use Rattle.alloc_laws.specs.Goes.Fits.{argument_spans, has_spans, step_has_spans}
use Rattle.alloc_laws.specs.Goes.Goes.{goes, IsStaged}
use Rattle.alloc_laws.specs.Goes.Passing.{MayBePassed}
use Rattle.alloc_laws.proofs.OfGoes.Asked.{asked_lies}
use Rattle.alloc_laws.proofs.OfGoes.EndsAtPlace.{ends_well_at_place}
use Rattle.alloc_laws.proofs.OfGoes.Fits.{fits_from_lies, window_comes, window_shown, sums_shown}
use Rattle.alloc_laws.proofs.OfGoes.GoesDrafts.{staged_draft_goes, reader_draft_goes, sums_draft_go}
use Rattle.alloc_laws.proofs.OfGoes.GoesDrafts.{untouched_draft_goes, unseen_draft_goes}
use Rattle.alloc_laws.proofs.OfGoes.GoesDrafts.{goes_unused}
use Rattle.alloc_laws.proofs.OfGoes.Matches.{matches_by_rules}
use Rattle.alloc_laws.proofs.OfGoes.Passing.{passed_by_tests, silent_by_modes}
use Rattle.alloc_laws.proofs.OfGoes.Sizes.{sizes_at_place, sizes_within}
use Rattle.step_rules.specs.Rule.{Got, Not, Piece, Spot, Simplified, Says}
use Rattle.step_rules.specs.Answer.{then_try, opened_or_wrong}
use Rattle.step_rules.specs.Lawful.{IsMet, Site, IsSite, Stands, Replaces, hiding, IsLawful}
use Rattle.step_rules.specs.Lawful.{around, old, world_of, scope_here, callees_for, fields_at_exit}
use Rattle.loop_laws.proofs.Sites.{is_below as all_below}
use Rattle.alloc_laws.specs.Bind.Binding.{cell_of}
use Rattle.alloc_laws.specs.Expanding.{is_missing}
use Rattle.alloc_laws.specs.Stage.Staging.{has_window, is_of_other, are_of_numbers, has_shape}
use Rattle.alloc_laws.specs.Stage.Staging.{touches_as, changes_window, uses_window, is_unused, is_untouched}
use Rattle.alloc_laws.specs.Stage.Staging.{cell_here, staged_draft, all_written, asked_of_window, staged_needs}
use Rattle.alloc_laws.specs.Stage.Staging.{needs_of_accesses, needs_of_window, misses_names}
use Rattle.alloc_laws.specs.Stage.Staging.{uses_strides_of_it, keeps_no_sum, stage_rule}
use Rattle.alloc_laws.proofs.Expanding.{free_is_missing, opened_size}
use Rattle.alloc_laws.proofs.Here.{Names, names_of, less_control, top_binds}
use Rattle.alloc_laws.proofs.OfStage.Asked.{first_met, second_met, met_at, hold_there, window_there}
use Rattle.alloc_laws.proofs.OfStage.Left.{left_of_block}
use Rattle.alloc_laws.proofs.OfStage.Names.{is_buffer_sort, is_buffer_in, HaveRoots, roots_there}
use Rattle.match_laws.specs.Names.{whole_of}

some_same : {A : Type 0} {a b : A} → Some a ≡ Some b → a ≡ b
some_same e = cc

got_same : {A : Type 0} {a b : A} → Got a ≡ Got b → a ≡ b
got_same e = cc

-- ---- truths

none_by : (t : Bool) (cause : Cause) (rest : Option Cause) → (if t then Some cause else rest) ≡ None
    → (t ≡ false) × (rest ≡ None)
none_by true cause rest h = cc
none_by false cause rest h = (refl, h)

or_right : (a b : Bool) → (a || b) ≡ true → a ≡ false → b ≡ true
or_right true b h k = absurd (true≢false k)
or_right false b h k = h

and_left_false : (a b : Bool) → (a && b) ≡ false → a ≡ true → b ≡ false
and_left_false true b h k = h
and_left_false false b h k = absurd (true≢false (sym k))

flipped : (y z : ℕ) → (y == z) ≡ false → (z == y) ≡ false
flipped y z h = grind arith

not_less : (y base : ℕ) → nat_lt y base ≡ false → base ≤ y
not_less y base h = grind arith

-- ---- sorts

sort_is : (o : Option Sort) (n : ℕ) → has_window o n ≡ true → is_none o ≡ false
    → (dense : Bool) × (o ≡ Some (BufferName (cell_of o) n dense))
sort_is None n h k = absurd (true≢false k)
sort_is (Some (ControlName kind)) n h k = absurd (true≢false (sym h))
sort_is (Some (BufferName cell rank dense)) n h k =
    (dense, ap (λ m. Some (BufferName cell m dense)) (sym (eqb-true n rank h)))

none_no_buffer : (o : Option Sort) → is_none o ≡ true → is_buffer_sort o ≡ false
none_no_buffer None h = refl
none_no_buffer (Some sort) h = absurd (true≢false (sym h))

other_no_buffer : (o : Option Sort) → is_of_other o ≡ false → is_buffer_sort o ≡ false
other_no_buffer None h = refl
other_no_buffer (Some (ControlName kind)) h = refl
other_no_buffer (Some (BufferName cell rank dense)) h = absurd (true≢false h)

-- ---- coordinates

less_coords : (more few : ℕ → Bool) → ((y : ℕ) → more y ≡ false → few y ≡ false) → (cs : List Coord)
    → in_coords more cs ≡ false → in_coords few cs ≡ false
less_coords more few less [] h = refl
less_coords more few less (At e ∷ cs) h =
    let p = or_parts (uses more e) (in_coords more cs) h in
    both_false (uses few e) (in_coords few cs) (less_control more few less e p.0)
    (less_coords more few less cs p.1)
less_coords more few less (Span e f ∷ cs) h =
    let p = or_parts (uses more e) (uses more f || in_coords more cs) h in
    let q = or_parts (uses more f) (in_coords more cs) p.1 in
    both_false (uses few e) (uses few f || in_coords few cs) (less_control more few less e p.0)
    (both_false (uses few f) (in_coords few cs) (less_control more few less f q.0)
    (less_coords more few less cs q.1))

either : {A : Type 0} (t u : Bool) → (t || u) ≡ true → (t ≡ true → A) → (u ≡ true → A) → A
either true u h f g = f refl
either false u h f g = g h

-- a variable of coordinates that mention nothing hidden is not hidden
coords_open : (hidden : ℕ → Bool) (y : ℕ) (cs : List Coord) → in_coords hidden cs ≡ false
    → coords_have cs y ≡ true → hidden y ≡ false
coords_open hidden y [] h k = absurd (true≢false (sym k))
coords_open hidden y (At e ∷ cs) h k =
    let p = or_parts (uses hidden e) (in_coords hidden cs) h in
    either (has_variable e y) (coords_have cs y) k (control_open hidden y e p.0)
    (coords_open hidden y cs p.1)
coords_open hidden y (Span e f ∷ cs) h k =
    let p = or_parts (uses hidden e) (uses hidden f || in_coords hidden cs) h in
    let q = or_parts (uses hidden f) (in_coords hidden cs) p.1 in
    either (has_variable e y) (has_variable f y || coords_have cs y) k
    (control_open hidden y e p.0)
    (λ m. either (has_variable f y) (coords_have cs y) m (control_open hidden y f q.0)
    (coords_open hidden y cs q.1))

-- ---- a whole name that is passed has no span at a point

module _ (x : ℕ) (dims : List Control) (coords : List Coord) where
  passed_spans : (gs : List Argument) → list_any (argument_spans x dims coords) gs ≡ false
      → list_any (is_whole x) gs ≡ true
      → has_span_at_point coords (whole_of dims) ≡ false
  passed_spans [] h k = absurd (true≢false (sym k))
  passed_spans (ControlArg e ∷ gs) h k = passed_spans gs h k
  passed_spans (ConditionArg c ∷ gs) h k = passed_spans gs h k
  passed_spans (Window y ds ∷ gs) h k =
      passed_spans gs (or_parts ((y == x) && has_span_at_point coords ds)
      (list_any (argument_spans x dims coords) gs) h).1 k
  passed_spans (Whole y ∷ gs) h k =
      let p =
      or_parts ((y == x) && has_span_at_point coords (whole_of dims))
      (list_any (argument_spans x dims coords) gs) h in
      either (y == x) (list_any (is_whole x) gs) k
      (and_left_false (y == x) (has_span_at_point coords (whole_of dims)) p.0)
      (passed_spans gs p.1)

  step_spans : (d : Statement) → step_has_spans x dims coords d ≡ false → passes_whole x d ≡ true
      → has_span_at_point coords (whole_of dims) ≡ false
  step_spans (Assign y is e) h k = absurd (true≢false (sym k))
  step_spans (Reduce y is e) h k = absurd (true≢false (sym k))
  step_spans (Config f g) h k = absurd (true≢false (sym k))
  step_spans Pass h k = absurd (true≢false (sym k))
  step_spans (If c b d) h k = absurd (true≢false (sym k))
  step_spans (For i lo hi b) h k = absurd (true≢false (sym k))
  step_spans (Alloc y cell ds memory) h k = absurd (true≢false (sym k))
  step_spans (View w y ds) h k = absurd (true≢false (sym k))
  step_spans (Call n gs) h k = passed_spans gs h k

  spans_there : (c : Context) (d : Statement) → has_spans x dims coords (fill c (next d end)) ≡ false
      → step_has_spans x dims coords d ≡ false
  spans_there (Here rest) d h =
      (or_parts (step_has_spans x dims coords d) (has_spans x dims coords (joined end rest)) h).0
  spans_there (After a c) d h =
      spans_there c d
      (or_parts (step_has_spans x dims coords a) (has_spans x dims coords (fill c (next d end))) h).1
  spans_there (InLoop i lo hi c rest) d h =
      spans_there c d
      (or_parts (has_spans x dims coords (fill c (next d end))) (has_spans x dims coords rest) h).0
  spans_there (InThen t c other rest) d h =
      let within = has_spans x dims coords (fill c (next d end)) in
      spans_there c d (or_parts within (has_spans x dims coords other)
      (or_parts (within || has_spans x dims coords other) (has_spans x dims coords rest) h).0).0
  spans_there (InElse t other c rest) d h =
      let within = has_spans x dims coords (fill c (next d end)) in
      spans_there c d (or_parts (has_spans x dims coords other) within
      (or_parts (has_spans x dims coords other || within) (has_spans x dims coords rest) h).0).1

nothing_there : {A : Type 0} (c : Context) (d : Statement) → end ≡ fill c (next d end) → A
nothing_there (Here rest) d e = cc
nothing_there (After a c) d e = cc
nothing_there (InLoop i lo hi c rest) d e = cc
nothing_there (InThen t c other rest) d e = cc
nothing_there (InElse t other c rest) d e = cc

abbrev staging : ℕ → List Coord → List ℕ → Bool → Staging
staging x coords name accum = record { root = x; coords = coords; name = name; accum = accum }

-- ---- what the rule says of a site

module _ (count x : ℕ) (coords : List Coord) (name : List ℕ) (accum : Bool) (a : Site)
    (is : IsSite (stage_rule count (staging x coords name accum)) a)
    (met : Each (IsMet a.spot.target) (staged_needs (staging x coords name accum) a.spot)) where
  abbrev w : Staging
  w = staging x coords name accum

  abbrev s : Spot
  s = a.spot

  abbrev unit : Program
  unit = s.target.unit

  abbrev p : Procedure
  p = s.target.proc

  abbrev c : Context
  c = around s

  abbrev b : Block
  b = old s

  abbrev base : ℕ
  base = a.base

  abbrev root : ℕ → ℕ
  root = own_roots_at c

  abbrev scope : Scope
  scope = scope_here s

  abbrev world : World
  world = world_of s

  abbrev memories : ℕ
  memories = length unit.memories

  abbrev sides : List Control
  sides = extents_of p x

  abbrev cell : Cell
  cell = cell_here w s

  abbrev binder : Binder
  binder = record { id = base; name = name }

  abbrev sees : ℕ → ℕ → Bool
  sees = stride_seen (kinds_of unit.fields) unit.procedures

  -- ---- shape

  shape_by : (o : Option Opened) → opened count is.at p.body ≡ o
      → then_try (opened_or_wrong o) (λ z.
      if has_shape w s.target z then Got (record { path = is.at; count = count }) else Not WrongShape)
      ≡ Got s.piece
      → has_shape w s.target s.opened ≡ true
  shape_by None e h = cc
  shape_by (Some o) e h = by (has_shape w s.target o) refl h
    where
      by : (t : Bool) → has_shape w s.target o ≡ t
          → (if t then Got (record { path = is.at; count = count }) else Not WrongShape) ≡ Got s.piece
          → has_shape w s.target s.opened ≡ true
      by false k h = cc
      by true k h =
          let there =
          subst (λ (z : Piece). opened z.count z.path p.body ≡ Some s.opened) (sym (got_same h))
          is.spot.opens in
          subst (λ z. has_shape w s.target z ≡ true) (some_same (sym e ∙ there)) k

  shape : has_shape w s.target s.opened ≡ true
  shape = shape_by (opened count is.at p.body) refl is.chosen

  abbrev suits : Bool
  suits = has_window (sort_in scope x) (length coords)

  abbrev viewed : Bool
  viewed = is_view_used root x b (rest_of c)

  abbrev spanned : Bool
  spanned = has_spans x sides coords b

  abbrev ruled : Bool
  ruled = is_unused w s.target s.opened || are_of_numbers scope coords

  first_part : (suits ≡ true) × ((not viewed && (not spanned && ruled)) ≡ true)
  first_part = and_parts suits (not viewed && (not spanned && ruled)) shape

  second_part : (not viewed ≡ true) × ((not spanned && ruled) ≡ true)
  second_part = and_parts (not viewed) (not spanned && ruled) first_part.1

  third_part : (not spanned ≡ true) × (ruled ≡ true)
  third_part = and_parts (not spanned) ruled second_part.1

  no_spans : spanned ≡ false
  no_spans = not_true spanned third_part.0

  -- ---- refusals

  abbrev after_alias : Option Cause
  after_alias =
      if uses_strides_of_it w s then Some StrideUsed
      else (if keeps_no_sum w s then Some NotOnlyReduced else None)

  in_scope : (misses_names w s ≡ false)
      × ((if is_aliased root x b then Some Aliased else after_alias) ≡ None)
  in_scope =
      none_by (misses_names w s) OutOfScope (if is_aliased root x b then Some Aliased else after_alias)
      is.allowed

  alone : (is_aliased root x b ≡ false) × (after_alias ≡ None)
  alone = none_by (is_aliased root x b) Aliased after_alias in_scope.1

  blind : (uses_strides_of_it w s ≡ false)
      × ((if keeps_no_sum w s then Some NotOnlyReduced else None) ≡ None)
  blind =
      none_by (uses_strides_of_it w s) StrideUsed
      (if keeps_no_sum w s then Some NotOnlyReduced else None) alone.1

  adds : keeps_no_sum w s ≡ false
  adds = (none_by (keeps_no_sum w s) NotOnlyReduced None blind.1).0

  present : (is_missing scope x ≡ false) × (in_coords (is_missing scope) coords ≡ false)
  present = or_parts (is_missing scope x) (in_coords (is_missing scope) coords) in_scope.0

  -- ---- the window's name

  sort : (dense : Bool) × (sort_in scope x ≡ Some (BufferName cell (length coords) dense))
  sort = sort_is (sort_in scope x) (length coords) first_part.0 present.0

  x_buffer : is_buffer_in scope x ≡ true
  x_buffer = ap is_buffer_sort sort.1

  have_roots : HaveRoots scope root
  have_roots =
      roots_there (field_kind unit.fields) memories world.callees c b (scope_of [] p.params) (λ y. y)
      (subst (λ z. is_block (field_kind unit.fields) memories world.callees (scope_of [] p.params) (λ y. y) z ≡ true)
      is.spot.body is.spot.runs.procedure.body)
      (record { buffers = λ y k. k; others = λ y k. refl })

  root_buffer : is_buffer_in scope (root x) ≡ true
  root_buffer = have_roots.buffers x x_buffer

  other_name : (y z : ℕ) → is_buffer_in scope y ≡ true → is_buffer_in scope z ≡ false
      → (y == z) ≡ false
  other_name y z h k =
      contrary (y == z) (λ e. true≢false (sym h ∙ ap (is_buffer_in scope) (eqb-true y z e) ∙ k))

  -- ---- names that are free

  names : Names s
  names = names_of s is.spot

  below : IsBelow base p
  below = all_below a is.spot is.below

  free_missing : (y : ℕ) → IsFree p c y → is_missing scope y ≡ true
  free_missing y free = free_is_missing s y free

  free_no_buffer : (y : ℕ) → IsFree p c y → is_buffer_in scope y ≡ false
  free_no_buffer y free = none_no_buffer (sort_in scope y) (free_missing y free)

  new_free : (y : ℕ) → base ≤ y → IsFree p c y
  new_free y from =
      fresh_law p c b y (no_param base p below.below y from)
      (ap (λ z. has_binder z y) (sym is.spot.body) ∙ no_binder base p below.below y from)

  same_base : base ≤ base
  same_base = omega arith

  base_free : IsFree p c base
  base_free = new_free base same_base

  base_no_buffer : is_buffer_in scope base ≡ false
  base_no_buffer = free_no_buffer base base_free

  not_bound : (y : ℕ) → is_buffer_in scope y ≡ true → has_binder b y ≡ false
  not_bound y h =
      contrary (has_binder b y) (λ k. true≢false (sym h ∙ free_no_buffer y (names.free y k)))

  not_bound_there : (y : ℕ) → is_missing scope y ≡ false → has_binder b y ≡ false
  not_bound_there y h =
      contrary (has_binder b y) (λ k. true≢false (sym (free_missing y (names.free y k)) ∙ h))

  variable_there : (y : ℕ) → coords_have coords y ≡ true → is_missing scope y ≡ false
  variable_there y h = coords_open (is_missing scope) y coords present.1 h

  is_low : (y : ℕ) → is_missing scope y ≡ false → nat_lt y base ≡ true
  is_low y h = by (nat_lt y base) refl
    where
      by : (t : Bool) → nat_lt y base ≡ t → t ≡ true
      by true e = refl
      by false e = absurd (true≢false (sym (free_missing y (new_free y (not_less y base e))) ∙ h))

  may_leave : MayLeave p c (λ y. y == base)
  may_leave =
      may_leave_law (field_kind unit.fields) memories (callees_for s.target) p c b (λ y. y == base)
      is.spot.runs.procedure is.spot.body
      (λ y h. inl (subst (IsNew p) (sym (eqb-true y base h))
      (no_param base p below.below base same_base, no_binder base p below.below base same_base)))

  base_unused : mentions (λ y. y == base) b ≡ false
  base_unused =
      fewer.block (nat_le base) (λ y. y == base)
      (λ y h. contrary (y == base) (λ k. true≢false
      (sym (le-leb base base same_base) ∙ ap (nat_le base) (sym (eqb-true y base k)) ∙ h))) b
      (old_is_made p c b base below is.spot.body).low

  base_unbound : has_binder b base ≡ false
  base_unbound =
      contrary (has_binder b base) (λ k. true≢false
      (sym (eq-eqb base base refl) ∙ binder_seen (λ y. y == base) base b base_unused k))

  x_not_base : (x == base) ≡ false
  x_not_base = other_name x base x_buffer base_no_buffer

  rest_unused : mentions (goes root base x b) (rest_of c) ≡ false
  rest_unused =
      goes_unused root base x b (rest_of c) (not_true viewed second_part.0) may_leave.unused

  -- the place of the first statement, where there is one
  first_there : uses_window w s.target s.opened ≡ true
      → (i : Opened) × BeginsWith s.piece.path p.body s.opened i
  first_there h = by s.piece.count is.spot.opens
    where
      none_used : (d : Block) → length (statements d) ≡ 0 → mentions (λ y. y == x) d ≡ true
          → (i : Opened) × BeginsWith s.piece.path p.body s.opened i
      none_used end e k = absurd (true≢false (sym k))
      none_used (next d r) e k = cc

      by : (n : ℕ) → opened n s.piece.path p.body ≡ Some s.opened
          → (i : Opened) × BeginsWith s.piece.path p.body s.opened i
      by zero e = none_used b (opened_size 0 s.piece.path p.body s.opened e) h
      by (suc n) e = first_place n s.piece.path p.body s.opened e

  -- ---- what a staged block has to know of the trees

  base_no_root : (y : ℕ) → (y == base) ≡ false → (base == root y) ≡ false
  base_no_root y h = by (is_buffer_in scope y) refl
    where
      by : (t : Bool) → is_buffer_in scope y ≡ t → (base == root y) ≡ false
      by true e = flipped (root y) base (other_name (root y) base (have_roots.buffers y e) base_no_buffer)
      by false e = ap (λ z. base == z) (have_roots.others y e) ∙ flipped y base h

  silent : (changes_window w s.target s.opened ≡ false)
      → (writes world root b (root x) ≡ false)
      × (writes world (updated root base base) (converted base x coords b) base ≡ false)
  silent h =
      silent_by_modes (kinds_of unit.fields) unit.procedures root base x coords b base_unused
      (not_bound x x_buffer) base_no_root h

  module _ (numbers_alone : are_of_numbers scope coords ≡ true) where
    parts_of : (are_plain coords ≡ true) × (not (in_coords (λ y. is_of_other (sort_in scope y)) coords) ≡ true)
    parts_of =
        and_parts (are_plain coords) (not (in_coords (λ y. is_of_other (sort_in scope y)) coords))
        numbers_alone

    none_of_other : in_coords (λ y. is_of_other (sort_in scope y)) coords ≡ false
    none_of_other = not_true (in_coords (λ y. is_of_other (sort_in scope y)) coords) parts_of.1

    of_root : (y : ℕ) → is_of_other (sort_in scope y) ≡ false
        → has_root (updated root base base) (root x) y ≡ false
    of_root y h = by (y == base)
      where
        no_buffer : is_buffer_in scope y ≡ false
        no_buffer = other_no_buffer (sort_in scope y) h

        by : (t : Bool) → (root x == cond t base (root y)) ≡ false
        by true = other_name (root x) base root_buffer base_no_buffer
        by false =
            ap (λ z. root x == z) (have_roots.others y no_buffer)
            ∙ other_name (root x) y root_buffer no_buffer

    x_unused : in_coords (λ y. y == x) coords ≡ false
    x_unused =
        less_coords (λ y. is_of_other (sort_in scope y)) (λ y. y == x)
        (λ y h. flipped x y (other_name x y x_buffer (other_no_buffer (sort_in scope y) h))) coords
        none_of_other

    passable : MayBePassed world.callees sees root base x coords b
    passable = record {
      below = λ y h. is_low y (variable_there y h);
      block = base_unused;
      spots =
          less_coords (is_missing scope) (λ y. y == base)
          (λ y h. contrary (y == base) (λ k. true≢false
          (sym (free_missing base base_free) ∙ ap (is_missing scope) (sym (eqb-true y base k)) ∙ h)))
          coords present.1;
      other = x_not_base;
      roots = base_no_root;
      plain = parts_of.0;
      points =
          less_coords (λ y. is_of_other (sort_in scope y)) (has_root (updated root base base) (root x))
          of_root coords none_of_other;
      left =
          left_of_block (field_kind unit.fields) memories world.callees sees base x (root x) coords
          (flipped x base x_not_base) x_unused scope root b x_buffer refl (not_bound x x_buffer)
          is.spot.well.piece blind.0;
      bound = λ y h.
          let free = free_no_buffer y (names.free y h) in
          ap (λ z. root x == z) (have_roots.others y free) ∙ other_name (root x) y root_buffer free;
      aliased = alone.0;
      strides = blind.0;
      own = base_unbound;
      name = not_bound x x_buffer;
      root_name = not_bound (root x) root_buffer;
      variables = λ y h. not_bound_there y (variable_there y h);
    }

    passes : ArePassed world.callees sees root binder (sizes made_simpler w cell 0 base) x coords
        (loads made_simpler w cell 0 base) (stores made_simpler w cell 0 base) b
        × ArePassed world.callees sees root binder (sizes made_simpler w cell 0 base) x coords
        (loads made_simpler w cell 0 base) (loads made_simpler w cell 0 base) b
    passes =
        passed_by_tests world.callees sees root made_simpler w cell 0 base b made_simpler_law passable

    made_window : IsWindowMade binder (sizes made_simpler w cell 0 base) x coords
        (loads made_simpler w cell 0 base)
    made_window = record {
      spots = passable.spots;
      other = x_not_base;
      plain = parts_of.0;
      sizes = passes.0.sizes;
      over = passes.0.loads;
    }

    -- ---- in a state

    module _ (first u : State) (good : IsAdmissible world p first) (come : ComesTo world b c first u)
        (stands : Stands s u) where
      lies : LiesWithin world x sides coords b u
      lies =
          asked_lies world p s.piece.count s.piece.path s.opened x sides coords first u is.spot.opens
          (met_at s.target (asked_from x sides coords [] s.piece.path b)
          (first_met s.target (needs_of_accesses w s) (needs_of_window w s) met)) good come

      known_of : (d : Block) → FitsWithin world x coords d u
          → IsKnown world root binder cell x coords d u
      known_of d fit = record {
        sound = stands.sound;
        cells = stands.sorted.cells;
        unbound = stands.free base base_free;
        roots = stands.roots;
        own_roots =
            own_roots_law unit.fields memories unit.procedures p c b first u is.spot.runs is.spot.body
            good come;
        cell_is = λ z to v k.
            sym (stands.sorted.views x cell (length coords) sort.0 z sort.1 v to k).cell_is;
        fit = fit;
      }

      known_of_nothing : IsKnown world root binder cell x coords end u
      known_of_nothing = known_of end (λ d e v is come. nothing_there d e is)

      wholes : IsSome (window u.scene x coords) → (d : Context) (e : Statement) (v : State)
          → b ≡ fill d (next e end)
          → ComesTo world (next e end) d u v → passes_whole x e ≡ true
          → IsWhole x sides coords v.scene
      wholes there d e v has comes whole =
          let sized =
          sizes_within (field_kind unit.fields) memories (callees_for s.target) world p c d b (next e end)
          first u v x cell (length coords) sort.0 is.spot.runs.procedure is.spot.body has
          (not_bound x x_buffer) good come comes sort.1 in
          record {
            seen = sized.seen;
            there = sized.there;
            sizes = sized.sizes;
            long = sym sized.long;
            spans =
                step_spans x sides coords e (spans_there x sides coords d e
                (subst (λ z. has_spans x sides coords z ≡ false) has no_spans)) whole;
            window =
                subst IsSome (sym (window_comes world x coords b u v d e parts_of.0 (not_bound x x_buffer)
                passable.variables has comes).0) there;
          }

      fits : IsSome (window u.scene x coords) → FitsWithin world x coords b u
      fits there =
          fits_from_lies world x sides coords b u lies
          (matches_by_rules (field_kind unit.fields) memories world.callees scope root x cell sort.0 sides
          coords b sort.1 (not_bound x x_buffer) is.spot.well.piece no_spans)
          (wholes there)

      staged_there : (new : Block)
          → ((t v : State) → run world b u ≡ Some t → run world new u ≡ Some v
          → IsSome (window u.scene x coords))
          → IsStaged world root binder cell x sides coords b new u
      staged_there new shown = record {
        none = record {
          sound = stands.sound;
          unbound = λ y h. either (y == base) (top_binders b y) h
              (λ e. subst (IsUnbound u) (sym (eqb-true y base e)) (stands.free base base_free))
              (λ e. stands.free y (names.free y (top_binds b y e)));
        };
        known = λ t v h k. record {
          known = known_of b (fits (shown t v h k));
          lies = lies;
          ends =
              ends_well_at_place unit.fields memories unit.procedures p c b first u t is.spot.runs
              is.spot.body good come h;
        };
      }

-- ---- the four cases

-- with its contents
module _ (count x : ℕ) (coords : List Coord) (name : List ℕ) (a : Site)
    (is : IsSite (stage_rule count (staging x coords name false)) a)
    (met : Each (IsMet a.spot.target) (staged_needs (staging x coords name false) a.spot)) where
  abbrev w0 : Staging
  w0 = staging x coords name false

  of_numbers : are_of_numbers (scope_here a.spot) coords ≡ true
  of_numbers = (third_part count x coords name false a is met).1

  with_contents_stands : (changes : Bool) → changes_window w0 a.spot.target a.spot.opened ≡ changes
      → (first u : State) → IsAdmissible (world_of a.spot) a.spot.target.proc first
      → ComesTo (world_of a.spot) (old a.spot) (around a.spot) first u
      → Stands a.spot u
      → MayReplace (world_of a.spot) (goes (own_roots_at (around a.spot)) a.base x (old a.spot)) (old a.spot)
      (staged_block made_simpler w0 (cell_here w0 a.spot) 0 a.base changes (old a.spot)) u
  with_contents_stands true h first u good come stands =
      let unit = a.spot.target.unit in
      let b = old a.spot in
      let cell = cell_here w0 a.spot in
      let passes = passes count x coords name false a is met of_numbers in
      staged_draft_goes (kinds_of unit.fields) unit.procedures (own_roots_at (around a.spot)) made_simpler
      cell (extents_of a.spot.target.proc x) 0 a.base x coords name b u made_simpler_law passes.0
      (staged_there count x coords name false a is met of_numbers first u good come stands
      (as_made made_simpler cell 0 a.base x coords name b)
      (λ t v k l. window_shown (world_of a.spot) (own_roots_at (around a.spot))
      (record { id = a.base; name = name }) cell (sizes made_simpler w0 cell 0 a.base) 0 x coords
      (loads made_simpler w0 cell 0 a.base)
      (joined (converted a.base x coords b) (store_nest a.base x coords (stores made_simpler w0 cell 0 a.base)))
      u v (made_window count x coords name false a is met of_numbers)
      (known_of_nothing count x coords name false a is met of_numbers first u good come stands) l))
  with_contents_stands false h first u good come stands =
      let unit = a.spot.target.unit in
      let b = old a.spot in
      let cell = cell_here w0 a.spot in
      let passes = passes count x coords name false a is met of_numbers in
      reader_draft_goes (kinds_of unit.fields) unit.procedures (own_roots_at (around a.spot)) made_simpler
      cell (extents_of a.spot.target.proc x) 0 a.base x coords name b u made_simpler_law
      (silent count x coords name false a is met h).1 passes.1
      (staged_there count x coords name false a is met of_numbers first u good come stands
      (reader_as_made made_simpler cell 0 a.base x coords name b)
      (λ t v k l. window_shown (world_of a.spot) (own_roots_at (around a.spot))
      (record { id = a.base; name = name }) cell (sizes made_simpler w0 cell 0 a.base) 0 x coords
      (loads made_simpler w0 cell 0 a.base) (converted a.base x coords b)
      u v (made_window count x coords name false a is met of_numbers)
      (known_of_nothing count x coords name false a is met of_numbers first u good come stands) l))

-- with its sums
module _ (count x : ℕ) (coords : List Coord) (name : List ℕ) (a : Site)
    (is : IsSite (stage_rule count (staging x coords name true)) a)
    (met : Each (IsMet a.spot.target) (staged_needs (staging x coords name true) a.spot)) where
  abbrev w1 : Staging
  w1 = staging x coords name true

  abbrev s1 : Spot
  s1 = a.spot

  only : is_only_reduced (touches_as w1 s1.target s1.opened) (own_roots_at (around s1) x) ≡ true
  only =
      refuted (is_only_reduced (touches_as w1 s1.target s1.opened) (own_roots_at (around s1) x))
      (adds count x coords name true a is met)
    where
      refuted : (t : Bool) → not t ≡ false → t ≡ true
      refuted true h = refl
      refuted false h = absurd (true≢false h)

  -- it is not unused, so its coordinates are numbers
  used_numbers : is_unused w1 s1.target s1.opened ≡ false → are_of_numbers (scope_here s1) coords ≡ true
  used_numbers h =
      or_right (is_unused w1 s1.target s1.opened) (are_of_numbers (scope_here s1) coords)
      (third_part count x coords name true a is met).1 h

  module _ (first u : State) (good : IsAdmissible (world_of s1) s1.target.proc first)
      (come : ComesTo (world_of s1) (old s1) (around s1) first u) (stands : Stands s1 u) where
    only_adds : OnlyAdds s1.target.unit.fields (length s1.target.unit.memories) s1.target.unit.procedures
        (scope_here s1) (own_roots_at (around s1)) x (old s1) u
    only_adds =
        only_adds_at_place s1.target.unit.fields (length s1.target.unit.memories) s1.target.unit.procedures
        s1.target.proc (around s1) x (old s1) first u is.spot.runs is.spot.body only good come

    abbrev Goes : Bool → Type 0
    Goes changes =
        MayReplace (world_of s1) (goes (own_roots_at (around s1)) a.base x (old s1)) (old s1)
        (staged_block made_simpler w1 (cell_here w1 s1) 0 a.base changes (old s1)) u

    with_sums : changes_window w1 s1.target s1.opened ≡ true → Goes true
    with_sums h =
        let unit = s1.target.unit in
        let b = old s1 in
        let root = own_roots_at (around s1) in
        let cell = cell_here w1 s1 in
        let of_numbers = used_numbers (ap (λ t. not t && not (uses_window w1 s1.target s1.opened)) h) in
        let passes = passes count x coords name true a is met of_numbers in
        sums_draft_go unit.fields (length unit.memories) unit.procedures (scope_here s1) root made_simpler
        cell (extents_of s1.target.proc x) 0 a.base x coords name b u made_simpler_law passes.0
        (staged_there count x coords name true a is met of_numbers first u good come stands
        (sums_as_made made_simpler cell 0 a.base x coords name b)
        (λ t v k l. sums_shown unit.fields (length unit.memories) unit.procedures (scope_here s1) root
        (record { id = a.base; name = name }) cell (sizes made_simpler w1 cell 0 a.base) 0 x coords
        (loads made_simpler w1 cell 0 a.base) (stores made_simpler w1 cell 0 a.base) b
        (converted a.base x coords b) u v
        (made_window count x coords name true a is met of_numbers) passes.0.stores
        (known_of_nothing count x coords name true a is met of_numbers first u good come stands)
        only_adds passes.0.name l))
        only_adds

    -- the window's own needs show that it is there
    shown : changes_window w1 s1.target s1.opened ≡ false → uses_window w1 s1.target s1.opened ≡ true
        → are_of_numbers (scope_here s1) coords ≡ true
        → (later : Block) (v : State)
        → run (world_of s1) (next (Alloc (record { id = a.base; name = name }) (cell_here w1 s1)
        (sizes made_simpler w1 (cell_here w1 s1) 0 a.base) 0) later) u ≡ Some v
        → IsSome (window u.scene x coords)
    shown h k of_numbers later v l =
        let sides = extents_of s1.target.proc x in
        let dims = sizes made_simpler w1 (cell_here w1 s1) 0 a.base in
        let alloc = Alloc (record { id = a.base; name = name }) (cell_here w1 s1) dims 0 in
        let unit = s1.target.unit in
        let untouched : is_untouched w1 s1.target s1.opened ≡ true =
        ap₂ (λ t z. not t && z) h k in
        let said =
        subst (λ t. Each (IsMet s1.target)
        (if t then map (λ z. Says s1.piece.path (Holds z)) (asked_of_window coords sides) else [])) untouched
        (second_met s1.target (needs_of_accesses w1 s1) (needs_of_window w1 s1) met) in
        let i = first_there count x coords name true a is met k in
        let q = then_gives (step (world_of s1) alloc u) (run (world_of s1) later) v l in
        let full = (where_parts (all_positive (numbers u.scene dims)) _ q.0 q.1).0 in
        window_there x sides coords u.scene
        (sizes_at_place (field_kind unit.fields) (length unit.memories) (callees_for s1.target) (world_of s1)
        s1.target.proc (around s1) (old s1) first u x (cell_here w1 s1) (length coords)
        (sort count x coords name true a is met).0 is.spot.runs.procedure is.spot.body good come
        (sort count x coords name true a is met).1)
        (hold_there s1.target s1.piece.path i.0 (asked_of_window coords sides) first u i.1.there said good
        ((i.1.same.comes (world_of s1) first u).0 come))
        (ap all_positive (sym ((passes count x coords name true a is met of_numbers).0.sizes u.scene)) ∙ full)

    unseen : changes_window w1 s1.target s1.opened ≡ false
        → uses_window w1 s1.target s1.opened ≡ true → Goes false
    unseen h k =
        let unit = s1.target.unit in
        let b = old s1 in
        let root = own_roots_at (around s1) in
        let cell = cell_here w1 s1 in
        let of_numbers = used_numbers (ap₂ (λ t z. not t && not z) h k) in
        let passes = passes count x coords name true a is met of_numbers in
        let rest =
        joined (zero_nest a.base (loads made_simpler w1 cell 0 a.base)) (converted a.base x coords b) in
        let first_one =
        Alloc (record { id = a.base; name = name }) cell (sizes made_simpler w1 cell 0 a.base) 0 in
        unseen_draft_goes unit.fields (length unit.memories) unit.procedures (scope_here s1) root
        made_simpler cell (extents_of s1.target.proc x) 0 a.base x coords name b u made_simpler_law
        passes.1
        (staged_there count x coords name true a is met of_numbers first u good come stands
        (next first_one rest) (λ t v m l. shown h k of_numbers rest v l))
        only_adds (silent count x coords name true a is met h).0
        (λ t v m l. shown h k of_numbers rest v l)

  unused_stands : uses_window w1 s1.target s1.opened ≡ false → (but : List ℕ)
      → Replaces s1 (staged_block made_simpler w1 (cell_here w1 s1) 0 a.base false (old s1)) but
  unused_stands k but =
      hiding (λ y. y == a.base) (may_leave count x coords name true a is met).unused
      (λ first u good come stands.
      untouched_draft_goes (world_of s1) made_simpler (cell_here w1 s1) 0 a.base x coords name (old s1) u
      (record {
        sound = stands.sound;
        unbound = λ y h.
            subst (IsUnbound u) (sym (eqb-true y a.base h))
            (stands.free a.base (base_free count x coords name true a is met));
      }) (base_unused count x coords name true a is met) k)

  sums_stand : (changes : Bool) → changes_window w1 s1.target s1.opened ≡ changes → (but : List ℕ)
      → Replaces s1 (staged_block made_simpler w1 (cell_here w1 s1) 0 a.base changes (old s1)) but
  sums_stand true h but =
      hiding (goes (own_roots_at (around s1)) a.base x (old s1))
      (rest_unused count x coords name true a is met)
      (λ first u good come stands. with_sums first u good come stands h)
  sums_stand false h but = by (uses_window w1 s1.target s1.opened) refl
    where
      by : (t : Bool) → uses_window w1 s1.target s1.opened ≡ t
          → Replaces s1 (staged_block made_simpler w1 (cell_here w1 s1) 0 a.base false (old s1)) but
      by false k = unused_stands k but
      by true k =
          hiding (goes (own_roots_at (around s1)) a.base x (old s1))
          (rest_unused count x coords name true a is met)
          (λ first u good come stands. unseen first u good come stands h k)

-- ---- the rule

abbrev pub drafted : Staging → Spot → ℕ → Block
drafted w s base =
    staged_block made_simpler w (cell_here w s) 0 base (changes_window w s.target s.opened) (old s)

pub drafted_is : (w : Staging) (s : Spot) (base : ℕ) (made : Block)
    → staged_draft w s Simplified base ≡ Got made → drafted w s base ≡ made
drafted_is w s base made h = by (all_written w s Simplified base) h
  where
    by : (t : Bool) → (if t then Got (drafted w s base) else Not (Form WideNumber)) ≡ Got made
        → drafted w s base ≡ made
    by true h = got_same h
    by false h = cc

replaces_by : (count x : ℕ) (coords : List Coord) (name : List ℕ) (accum : Bool) (a : Site)
    → IsSite (stage_rule count (staging x coords name accum)) a
    → Each (IsMet a.spot.target) (staged_needs (staging x coords name accum) a.spot)
    → (but : List ℕ) → Replaces a.spot a.draft but
replaces_by count x coords name false a is met but =
    let w = staging x coords name false in
    let changes = changes_window w a.spot.target a.spot.opened in
    subst (λ d. Replaces a.spot d but) (drafted_is w a.spot a.base a.draft is.drafted)
    (hiding (goes (own_roots_at (around a.spot)) a.base x (old a.spot))
    (rest_unused count x coords name false a is met)
    (λ first u good come stands.
    with_contents_stands count x coords name a is met changes refl first u good come stands))
replaces_by count x coords name true a is met but =
    let w = staging x coords name true in
    let changes = changes_window w a.spot.target a.spot.opened in
    subst (λ d. Replaces a.spot d but) (drafted_is w a.spot a.base a.draft is.drafted)
    (sums_stand count x coords name a is met changes refl but)

pub stage_is_lawful : (count : ℕ) (w : Staging) → IsLawful (stage_rule count w)
stage_is_lawful count w = record {
  replaces = λ a is versions met. (
      replaces_by count w.root w.coords w.name w.accum a is met (fields_at_exit (stage_rule count w) a)
      );
}
