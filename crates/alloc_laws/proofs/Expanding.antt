-- The rule that gives an allocation a dimension in front is lawful.
use Rattle.std.proofs.Common.{◌≡◌, ◌≤◌, ◌==◌, ℕ, suc, ◌+◌, ℤ, pos, int_le, Bool, true, false, ◌||◌}
use Rattle.std.proofs.Common.{cond}
use Rattle.std.proofs.Common.{true≢false, List, [], ◌∷◌, length, Option, Some, None, refl, sym, ap}
use Rattle.std.proofs.Common.{ap₂, ◌∙◌}
use Rattle.std.proofs.Common.{subst, eqb-true, eq-eqb, le-leb, arith}
use Rattle.std.specs.Prelude.{nat_le, if◌then◌else◌, option_map, option_and_then}
use Rattle.std.specs.Option.{is_none}
use Rattle.std.proofs.lemmas.Int.{ints}
use Rattle.exo_tree.specs.Tree.{Index, Binder, Control, Lit, At, Window, Statement, Assign, Reduce}
use Rattle.exo_tree.specs.Tree.{Config, Pass, If, For, Alloc, View, Call, Block, end, next, joined}
use Rattle.exo_tree.specs.Tree.{statements, Param, Procedure}
use Rattle.exo_tree.specs.Context.{Context, Here, After, InLoop, InThen, InElse, rest_of}
use Rattle.exo_tree.specs.Places.{Path, Opened, opened}
use Rattle.exo_meaning.specs.Inputs.{is_buffer_of}
use Rattle.exo_meaning.specs.Scene.{number, numbers, is_below, whole, then_do}
use Rattle.exo_meaning.specs.State.{State}
use Rattle.exo_meaning.specs.Calls.{all_positive}
use Rattle.exo_meaning.specs.Run.{World, run, step, program_world, roots_after}
use Rattle.exo_meaning.specs.Units.{Sort, ControlName, BufferName, Scope, sort_in, with_name}
use Rattle.exo_meaning.specs.Units.{param_sort, scope_of}
use Rattle.exo_meaning.specs.Units.{scope_after, view_sort, spans, field_kind}
use Rattle.exo_meaning.specs.Unseen.{in_control as uses, in_controls, in_coords}
use Rattle.exo_meaning.specs.Unseen.{in_block as mentions}
use Rattle.exo_meaning.proofs.Frame.{or_parts}
use Rattle.exo_meaning.proofs.Windows.{one_value, where_parts}
use Rattle.meaning_laws.specs.Context.{MayReplace}
use Rattle.meaning_laws.specs.Copies.{IsFree}
use Rattle.meaning_laws.specs.FreshCopies.{IsBelow}
use Rattle.meaning_laws.specs.Scoped.{has_binder, step_has_binder}
use Rattle.meaning_laws.specs.Sorted.{scope_at}
use Rattle.meaning_laws.specs.Sound.{binds, on_way}
use Rattle.meaning_laws.specs.Substitute.{is_plain, has_variable}
use Rattle.meaning_laws.proofs.Binders.{fresh_law}
use Rattle.meaning_laws.proofs.CopiesAtPlaces.{no_param, no_binder, old_is_made}
use Rattle.meaning_laws.proofs.Fewer as fewer
use Rattle.meaning_laws.proofs.Names.{if_gives}
use Rattle.meaning_laws.proofs.Parts.{then_gives}
use Rattle.meaning_laws.proofs.Scoped.{both_false, control_open}
use Rattle.meaning_laws.proofs.Substitute.{and_parts, plain_same}
use Rattle.inplace_laws.specs.InlineWindow.{is_name}
use Rattle.inplace_laws.specs.Windows.{coords_have}
use Rattle.inplace_laws.specs.Windows as windows
use Rattle.place_laws.specs.Scope.SamePlace.{start_of}
use Rattle.place_laws.specs.Scope.Scopes.{top_binders, HasNone}
use Rattle.place_laws.proofs.OfScope.SamePlace.{same_place, first_place}
use Rattle.buffer_laws.specs.Staging.Stage.{AreAlike}
use Rattle.buffer_laws.proofs.OfStaging.Replaced.{alike_replaces}
use Rattle.check_laws.proofs.OfFacts.Binders.{IsApart}
use Rattle.check_laws.proofs.OfFacts.Truths.{contrary, on_left, on_right}
use Rattle.cursor_forward.specs.Causes.{OutOfScope}
use Rattle.tree_findings.specs.Findings.{findings_of_alloc, findings_of_block, scope_behind}
use Rattle.buffer_laws.specs.Buffers.{Buffer, allocation, buffer_of, is_buffer}
use Rattle.buffer_laws.specs.Lifted.{are_plain}
use Rattle.buffer_laws.specs.Expanded.{expanded, expanded_buffer, at_point, small, may_expand}
use Rattle.buffer_laws.specs.Expanded.{part_coords}
use Rattle.buffer_laws.specs.Expanded.{MayBePart, MayExpand, EndsAlike}
use Rattle.buffer_laws.specs.ExpandText.{either_name, HasText}
use Rattle.buffer_laws.proofs.Buffers.{behind, is_behind, updated_own}
use Rattle.buffer_laws.proofs.Expanded.{turned_round}
use Rattle.buffer_laws.proofs.ExpandText.{expand_text_law}
use Rattle.step_rules.specs.Rule.{Got, Target, Piece, Spot}
use Rattle.step_rules.specs.Answer.{then_try, opened_or_wrong}
use Rattle.step_rules.specs.Lawful.{IsSpot, IsFormedHere, Site, IsSite, Stands, Replaces, hiding}
use Rattle.step_rules.specs.Lawful.{IsLawful}
use Rattle.step_rules.specs.Lawful.{around, old, world_of, scope_here, fields_at_exit}
use Rattle.step_rules.specs.Shapes.{tried}
use Rattle.step_rules.proofs.Formed.{HasShape, shape_parts}
use Rattle.step_rules.proofs.Shapes.{made_of}
use Rattle.place_laws.specs.Scope.Roots.{own_roots_at}
use Rattle.loop_laws.proofs.Formed.{free_not_in_scope}
use Rattle.loop_laws.proofs.Sites.{found_then, found_scope, is_below as all_below}
use Rattle.alloc_laws.specs.Expanding.{Allocated, allocated, where_it_may, expandable, to_the_end}
use Rattle.alloc_laws.specs.Expanding.{all_opened}
use Rattle.alloc_laws.specs.Expanding.{expanded_piece, is_missing, expand_rule}
use Rattle.alloc_laws.proofs.Here.{Names, names_of, AreFormed, alloc_formed, top_binds}
use Rattle.alloc_laws.proofs.Here.{less_control}
use Rattle.alloc_laws.proofs.Lifting.{parted_is}
use Rattle.alloc_laws.proofs.Memory.{buffer_is}
use Rattle.alloc_laws.proofs.Outside.{outside_law}
use Rattle.alloc_laws.proofs.Told.{Kept, block_told}
use Rattle.match_laws.specs.Names.{whole_of}

some_same : {A : Type 0} {a b : A} → Some a ≡ Some b → a ≡ b
some_same e = cc

got_same : {A : Type 0} {a b : A} → Got a ≡ Got b → a ≡ b
got_same e = cc

-- ---- what is read

-- an allocation with all behind it, and it may have another dimension
pub record IsExpandable (b : Block) (y : Allocated) : Type 0 where
  pub is : b ≡ small y.buffer y.rest
  pub may : may_expand y.buffer y.rest ≡ true

allocated_is : (b : Block) (y : Allocated) → allocated b ≡ Some y → b ≡ small y.buffer y.rest
allocated_is end y h = cc
allocated_is (next a b) y h = by (buffer_of a) refl h
  where
    by : (o : Option Buffer) → buffer_of a ≡ o
        → option_map (λ (x : Buffer). record { buffer = x; rest = b }) o ≡ Some y
        → next a b ≡ small y.buffer y.rest
    by None e h = cc
    by (Some x) e h =
        subst (λ (z : Allocated). next a b ≡ small z.buffer z.rest) (some_same h)
        (ap (λ s. next s b) (buffer_is a x e))

may_is : (x y : Allocated) → where_it_may x ≡ Some y → (x ≡ y) × (may_expand y.buffer y.rest ≡ true)
may_is x y h = by (may_expand x.buffer x.rest) refl h
  where
    by : (t : Bool) → may_expand x.buffer x.rest ≡ t → (if t then Some x else None) ≡ Some y
        → (x ≡ y) × (may_expand y.buffer y.rest ≡ true)
    by false e h = cc
    by true e h =
        let same : x ≡ y = some_same h in
        (same, subst (λ (z : Allocated). may_expand z.buffer z.rest ≡ true) same e)

pub expandable_is : (b : Block) (y : Allocated) → expandable b ≡ Some y → IsExpandable b y
expandable_is b y h =
    let f = found_then (allocated b) where_it_may y h in
    let m = may_is f.0 y f.2 in
    record { is = allocated_is b y (f.1 ∙ ap Some m.0); may = m.1 }

-- ---- to the end of the block

joined_length : (b c : Block)
    → length (statements (joined b c)) ≡ length (statements b) + length (statements c)
joined_length end c = none_before (length (statements c))
  where
    none_before : (n : ℕ) → n ≡ 0 + n
    none_before n = omega arith
joined_length (next a b) c =
    one_more (length (statements (joined b c))) (length (statements b)) (length (statements c))
    (joined_length b c)
  where
    one_more : (m n k : ℕ) → m ≡ n + k → suc m ≡ suc n + k
    one_more m n k h = omega (arith, h)

no_statement : (b : Block) → length (statements b) ≡ 0 → b ≡ end
no_statement end h = refl
no_statement (next a b) h = cc

pub joined_end : (b : Block) → joined b end ≡ b
joined_end end = refl
joined_end (next a b) = ap (next a) (joined_end b)

-- what is known where the piece is found
pub record IsPiece (s : Spot) : Type 0 where
  pub behind : rest_of (around s) ≡ end
  pub size : length (statements (old s)) ≡ s.piece.count

pub opened_size : (n : ℕ) (path : Path) (body : Block) (o : Opened) → opened n path body ≡ Some o
    → length (statements o.piece) ≡ n
opened_size n path body o h =
    let s = same_place n n path body o (omega arith) h in
    let same : start_of o s.0 ≡ o = some_same (sym s.1.there ∙ h) in
    ap (λ (z : Opened). length (statements z.piece)) (sym same)
    ∙ (parted_is n o.piece s.0 s.1.parts).1

nothing_left : (n k : ℕ) → 1 + n ≡ suc n + k → k ≡ 0
nothing_left n k h = omega (arith, h)

all_of_block : (t : Target) (at : Path) (o i : Opened) → opened 1 at t.proc.body ≡ Some i
    → opened (to_the_end i) at t.proc.body ≡ Some o
    → rest_of o.around ≡ end
all_of_block t at o i first all =
    let n = length (statements (rest_of i.around)) in
    let b = first_place n at t.proc.body o all in
    let same : b.0 ≡ i = some_same (sym b.1.there ∙ first) in
    let block =
    subst (λ (z : Opened). joined z.piece (rest_of z.around) ≡ joined o.piece (rest_of o.around)) same
    b.1.same.block in
    let one = opened_size 1 at t.proc.body i first in
    let many = opened_size (suc n) at t.proc.body o all in
    no_statement (rest_of o.around)
    (nothing_left n (length (statements (rest_of o.around)))
    (ap (λ k. k + n) (sym one) ∙ sym (joined_length i.piece (rest_of i.around))
    ∙ ap (λ b. length (statements b)) block ∙ joined_length o.piece (rest_of o.around)
    ∙ ap (λ k. k + length (statements (rest_of o.around))) many))

pub piece_is : (s : Spot) (at : Path) → IsSpot s → expanded_piece s.target at ≡ Got s.piece
    → IsPiece s
piece_is s at is h = by (opened 1 at s.target.proc.body) refl h
  where
    found : (i : Opened) → opened 1 at s.target.proc.body ≡ Some i
        → all_opened s.target at (to_the_end i) ≡ Got s.piece → IsPiece s
    found i e h =
        let d =
        made_of (option_and_then (λ (o : Opened). expandable o.piece)
        (opened (to_the_end i) at s.target.proc.body))
        (λ (y : Allocated). record { path = at; count = to_the_end i }) s.piece h in
        let all =
        subst (λ (z : Piece). opened z.count z.path s.target.proc.body ≡ Some s.opened) (sym d.made)
        is.opens in
        record {
          behind = all_of_block s.target at s.opened i e all;
          size =
              opened_size (to_the_end i) at s.target.proc.body s.opened all
              ∙ ap (λ (z : Piece). z.count) d.made;
        }

    by : (q : Option Opened) → opened 1 at s.target.proc.body ≡ q
        → then_try (opened_or_wrong q) (λ o. all_opened s.target at (to_the_end o)) ≡ Got s.piece
        → IsPiece s
    by None e h = cc
    by (Some i) e h = found i e h

-- ---- names that are free at a place are not in scope there

other_name : (scope : Scope) (b : Binder) (sort : Sort) (x : ℕ) → (x == b.id) ≡ false
    → sort_in (with_name scope b sort) x ≡ sort_in scope x
other_name scope b sort x h = ap (λ t. cond t (Some sort) (sort_in scope x)) h

no_param_in_scope : (ps : List Param) (scope : Scope) (x : ℕ) → is_buffer_of x ps ≡ false
    → sort_in (scope_of scope ps) x ≡ sort_in scope x
no_param_in_scope [] scope x h = refl
no_param_in_scope (p ∷ ps) scope x h =
    let q = or_parts (x == p.binder.id) (is_buffer_of x ps) h in
    no_param_in_scope ps (with_name scope p.binder (param_sort p.kind)) x q.1
    ∙ other_name scope p.binder (param_sort p.kind) x q.0

after_step : (a : Statement) (scope : Scope) (x : ℕ) → binds a x ≡ false
    → sort_in (scope_after a scope) x ≡ sort_in scope x
after_step (Assign y is e) scope x h = refl
after_step (Reduce y is e) scope x h = refl
after_step (Config f a) scope x h = refl
after_step Pass scope x h = refl
after_step (If c a b) scope x h = refl
after_step (For i lo hi b) scope x h = refl
after_step (Alloc y cell dims memory) scope x h =
    other_name scope y (BufferName cell (length dims) true) x h
after_step (View w y coords) scope x h =
    other_name scope w (view_sort (sort_in scope y) (spans coords)) x h
after_step (Call k args) scope x h = refl

at_hole : (c : Context) (scope : Scope) (x : ℕ) → on_way c x ≡ false
    → sort_in (scope_at c scope) x ≡ sort_in scope x
at_hole (Here rest) scope x h = refl
at_hole (After a c) scope x h =
    let p = or_parts (binds a x) (on_way c x) h in
    at_hole c (scope_after a scope) x p.1 ∙ after_step a scope x p.0
at_hole (InLoop i lo hi c rest) scope x h =
    let p = or_parts (x == i.id) (on_way c x) h in
    at_hole c (with_name scope i (ControlName Index)) x p.1
    ∙ other_name scope i (ControlName Index) x p.0
at_hole (InThen t c other rest) scope x h = at_hole c scope x h
at_hole (InElse t other c rest) scope x h = at_hole c scope x h

pub free_is_missing : (s : Spot) (x : ℕ) → IsFree s.target.proc (around s) x
    → is_missing (scope_here s) x ≡ true
free_is_missing s x free =
    ap is_none (at_hole (around s) (scope_of [] s.target.proc.params) x free.1
    ∙ no_param_in_scope s.target.proc.params [] x free.0)

-- ---- what stands there

top_same : (x : ℕ) (v : _) (b : Block) (y : ℕ)
    → top_binders (windows.in_block x v b) y ≡ top_binders b y
top_same x v end y = refl
top_same x v (next a b) y = ap₂ ◌||◌ (step_same a) (top_same x v b y)
  where
    step_same : (a : Statement) → binds (windows.in_statement x v a) y ≡ binds a y
    step_same (Assign z is e) = refl
    step_same (Reduce z is e) = refl
    step_same (Config f g) = refl
    step_same Pass = refl
    step_same (If c a b) = refl
    step_same (For i lo hi b) = refl
    step_same (Alloc z cell dims memory) = refl
    step_same (View w z coords) = refl
    step_same (Call k args) = refl

first_part : (b c : Block) (x : ℕ) → has_binder (joined b c) x ≡ false → has_binder b x ≡ false
first_part end c x h = refl
first_part (next a b) c x h =
    let p = or_parts (step_has_binder a x) (has_binder (joined b c) x) h in
    both_false (step_has_binder a x) (has_binder b x) p.0 (first_part b c x p.1)

whole_free : (hidden : ℕ → Bool) (ds : List Control) → in_controls hidden ds ≡ false
    → in_coords hidden (whole_of ds) ≡ false
whole_free hidden [] h = refl
whole_free hidden (d ∷ ds) h =
    let p = or_parts (uses hidden d) (in_controls hidden ds) h in
    both_false (uses hidden d) (in_coords hidden (whole_of ds)) p.0 (whole_free hidden ds p.1)

whole_open : (hidden : ℕ → Bool) (ds : List Control) → in_controls hidden ds ≡ false → (y : ℕ)
    → coords_have (whole_of ds) y ≡ true → hidden y ≡ false
whole_open hidden [] h y k = absurd (true≢false (sym k))
whole_open hidden (d ∷ ds) h y k = by (whole_open hidden ds p.1 y) (has_variable d y) refl k
  where
    p : (uses hidden d ≡ false) × (in_controls hidden ds ≡ false)
    p = or_parts (uses hidden d) (in_controls hidden ds) h

    by : (coords_have (whole_of ds) y ≡ true → hidden y ≡ false) → (t : Bool)
        → has_variable d y ≡ t
        → (t || coords_have (whole_of ds) y) ≡ true
        → hidden y ≡ false
    by later true e k = control_open hidden y d p.0 e
    by later false e k = later k

module _ (size e : Control) (a : Site) (is : IsSite (expand_rule size e) a) (x : Buffer) (rest : Block)
    (was : old a.spot ≡ small x rest) (may : may_expand x rest ≡ true)
    (as_made : a.plain ≡ expanded size e x rest) where
  abbrev s : Spot
  s = a.spot

  abbrev p : Procedure
  p = s.target.proc

  abbrev id : ℕ
  id = x.binder.id

  abbrev base : ℕ
  base = a.base

  piece : IsPiece s
  piece = piece_is s is.at is.spot is.chosen

  names : Names s
  names = names_of s is.spot

  below : IsBelow base p
  below = all_below a is.spot is.below

  -- ---- free names

  own_free : (y : ℕ) → has_binder (small x rest) y ≡ true → IsFree p (around s) y
  own_free y h = names.free y (subst (λ b. has_binder b y ≡ true) (sym was) h)

  same_base : base ≤ base
  same_base = omega arith

  base_free : IsFree p (around s) base
  base_free =
      fresh_law p (around s) (old s) base (no_param base p below.below base same_base)
      (ap (λ b. has_binder b base) (sym is.spot.body) ∙ no_binder base p below.below base same_base)

  own_bound : has_binder (small x rest) id ≡ true
  own_bound = on_left (id == id) (has_binder rest id) (eq-eqb id id refl)

  either_free : (y : ℕ) → either_name base x y ≡ true → IsFree p (around s) y
  either_free y h = by (y == id) refl h
    where
      by : (t : Bool) → (y == id) ≡ t → (t || (y == base)) ≡ true → IsFree p (around s) y
      by true k h = subst (IsFree p (around s)) (sym (eqb-true y id k)) (own_free id own_bound)
      by false k h = subst (IsFree p (around s)) (sym (eqb-true y base h)) base_free

  -- ---- what the rules tell

  formed : IsFormedHere s (expanded size e x rest)
  formed = subst (IsFormedHere s) as_made is.formed

  dims : AreFormed (found_scope s) (size ∷ x.dims)
  dims = alloc_formed s (expanded_buffer size x) (at_point id e rest) formed

  plain_parts : (is_plain size ≡ true) × (are_plain x.dims ≡ true)
  plain_parts = and_parts (is_plain size) (are_plain x.dims) dims.plain

  not_found : (y : ℕ) → IsFree p (around s) y → sort_in (found_scope s) y ≡ None
  not_found y free = free_not_in_scope p (around s) y free

  free_dims : (hidden : ℕ → Bool) → ((y : ℕ) → hidden y ≡ true → IsFree p (around s) y)
      → (uses hidden size ≡ false) × (in_controls hidden x.dims ≡ false)
  free_dims hidden h =
      or_parts (uses hidden size) (in_controls hidden x.dims)
      (dims.used hidden (λ y k. not_found y (h y k)))

  rest_free : (y : ℕ) → has_binder rest y ≡ true → IsFree p (around s) y
  rest_free y h = own_free y (on_right (y == id) (has_binder rest y) h)

  once : has_binder rest id ≡ false
  once =
      let there = subst (λ b. IsApart names.behind (joined b (rest_of (around s)))) was names.apart in
      first_part rest (rest_of (around s)) id
      (or_parts (has_binder (joined rest (rest_of (around s))) id) (names.behind id) there.0).0

  low : mentions (is_name base) (small x rest) ≡ false
  low =
      fewer.block (nat_le base) (is_name base)
      (λ y h. contrary (y == base) (λ k. true≢false
      (sym (le-leb base base same_base) ∙ ap (nat_le base) (sym (eqb-true y base k)) ∙ h)))
      (small x rest)
      (subst (λ b. mentions (nat_le base) b ≡ false) was
      (old_is_made p (around s) (old s) base below is.spot.body).low)

  low_parts : (((id == base) || in_controls (is_name base) x.dims) ≡ false)
      × (mentions (is_name base) rest ≡ false)
  low_parts =
      or_parts ((id == base) || in_controls (is_name base) x.dims) (mentions (is_name base) rest) low

  apart : (id == base) ≡ false
  apart = (or_parts (id == base) (in_controls (is_name base) x.dims) low_parts.0).0

  base_other : (base == id) ≡ false
  base_other =
      contrary (base == id) (λ k. true≢false (sym (eq-eqb id base (sym (eqb-true base id k))) ∙ apart))

  told : Kept (findings_of_block (field_kind s.target.unit.fields) (length s.target.unit.memories)
      (program_world s.target.unit).callees (scope_behind (allocation (expanded_buffer size x)) (found_scope s))
      (roots_after (allocation (expanded_buffer size x)) (own_roots_at (around s))) (at_point id e rest))
  told =
      let unit = s.target.unit in
      let calls = (program_world unit).callees in
      let fields = field_kind unit.fields in
      let memories = length unit.memories in
      let first = expanded_buffer size x in
      let there =
      subst (λ r. HasShape (findings_of_block fields memories calls (found_scope s) (own_roots_at (around s))
      (joined (expanded size e x rest) r))) piece.behind formed in
      let all =
      subst (λ b. HasShape (findings_of_block fields memories calls (found_scope s) (own_roots_at (around s)) b))
      (joined_end (expanded size e x rest)) there in
      record {
        shape =
            (shape_parts
            (findings_of_alloc fields memories calls (found_scope s) first.binder first.dims first.memory)
            (findings_of_block fields memories calls (scope_behind (allocation first) (found_scope s))
            (roots_after (allocation first) (own_roots_at (around s))) (at_point id e rest)) all).1;
      }

  -- ---- a point

  record IsPoint (c : Control) : Type 0 where
    plain : is_plain c ≡ true
    either : uses (either_name base x) c ≡ false
    kept : (y : ℕ) → has_variable c y ≡ true → has_binder rest y ≡ false

  zero_point : IsPoint (Lit (pos 0))
  zero_point = record { plain = refl; either = refl; kept = λ y h. absurd (true≢false (sym h)) }

  in_scope : uses (is_missing (scope_here s)) e ≡ false
  in_scope = by (uses (is_missing (scope_here s)) e) is.allowed
    where
      by : (t : Bool) → (if t then Some OutOfScope else None) ≡ None → t ≡ false
      by true h = cc
      by false h = refl

  own_point : is_plain e ≡ true → IsPoint e
  own_point h = record {
    plain = h;
    either =
        less_control (is_missing (scope_here s)) (either_name base x) (λ y k.
        contrary (either_name base x y) (λ j. true≢false
        (sym (free_is_missing s y (either_free y j)) ∙ k))) e in_scope;
    kept = λ y k.
        contrary (has_binder rest y) (λ j. true≢false
        (sym (free_is_missing s y (rest_free y j))
        ∙ control_open (is_missing (scope_here s)) y e in_scope k));
  }

  module _ (c : Control) (point : IsPoint c) where
    text : HasText base size c x rest
    text =
        let d = free_dims (either_name base x) either_free in
        record {
          sizes =
              both_false (uses (either_name base x) size) (uses (either_name base x) c || in_controls (either_name base x) x.dims)
              d.0
              (both_false (uses (either_name base x) c) (in_controls (either_name base x) x.dims)
              point.either d.1);
          shape = may;
        }

    own_less : (y : ℕ) → either_name base x y ≡ false → is_buffer x y ≡ false
    own_less y h = (or_parts (y == id) (y == base) h).0

    trees : MayBePart base c x rest
    trees =
        let d = free_dims (has_binder rest) rest_free in
        let own = free_dims (is_buffer x) (λ y h. either_free y (on_left (y == id) (y == base) h)) in
        record {
          apart = apart;
          plain = point.plain;
          plain_dims = plain_parts.1;
          kept = λ y h. kept_by d.1 y (has_variable c y) refl h;
          once = once;
          unused = low_parts.1;
          gone =
              (block_told (field_kind s.target.unit.fields) (length s.target.unit.memories)
              (program_world s.target.unit).callees id e (Lit (pos 0)) base (part_coords c x) base_other
              (both_false (uses (is_buffer x) c) (in_coords (is_buffer x) (whole_of x.dims))
              (less_control (either_name base x) (is_buffer x) own_less c point.either)
              (whole_free (is_buffer x) x.dims own.1)) rest
              (scope_behind (allocation (expanded_buffer size x)) (found_scope s))
              (roots_after (allocation (expanded_buffer size x)) (own_roots_at (around s))) (
                x.cell,
                length (size ∷ x.dims),
                true,
                ap (λ t. cond t (Some (BufferName x.cell (length (size ∷ x.dims)) true)) (sort_in (found_scope s) id))
                    (eq-eqb id id refl),
              ) once told).0;
        }
      where
        kept_by : in_controls (has_binder rest) x.dims ≡ false → (y : ℕ) → (t : Bool)
            → has_variable c y ≡ t
            → (t || coords_have (whole_of x.dims) y) ≡ true → has_binder rest y ≡ false
        kept_by d y true e h = point.kept y e
        kept_by d y false e h = whole_open (has_binder rest) x.dims d y h

  -- a point that reads a field or a stride stands nowhere
  same_anywhere : is_plain e ≡ false → at_point id e rest ≡ at_point id (Lit (pos 0)) rest
  same_anywhere bad =
      let own = free_dims (is_buffer x) (λ y h. either_free y (on_left (y == id) (y == base) h)) in
      (block_told (field_kind s.target.unit.fields) (length s.target.unit.memories)
      (program_world s.target.unit).callees id e (Lit (pos 0)) base (part_coords (Lit (pos 0)) x) base_other
      (whole_free (is_buffer x) x.dims own.1) rest
      (scope_behind (allocation (expanded_buffer size x)) (found_scope s))
      (roots_after (allocation (expanded_buffer size x)) (own_roots_at (around s))) (
        x.cell,
        length (size ∷ x.dims),
        true,
        ap (λ t. cond t (Some (BufferName x.cell (length (size ∷ x.dims)) true)) (sort_in (found_scope s) id))
            (eq-eqb id id refl),
      ) once told).1 bad

  -- ---- the runs

  abbrev world : World
  world = world_of s

  abbrev hidden : ℕ → Bool
  hidden = top_binders (small x rest)

  abbrev new : Control → Block
  new c = expanded size c x rest

  none : {u : State} → Stands s u → HasNone hidden u
  none stands = record {
    sound = stands.sound;
    unbound = λ y h. stands.free y (own_free y (top_binds (small x rest) y h));
  }

  module _ (u : State) (stands : Stands s u) where
    -- with a point that is within the new dimension
    text_ends : (c : Control) → IsPoint c → is_below (number u.scene c) (number u.scene size) ≡ true
        → (t v : State) → run world (small x rest) u ≡ Some t → run world (new c) u ≡ Some v
        → AreAlike u v t
    text_ends c point inside t v h k =
        let may : MayExpand base size c x rest u = record {
          trees = trees c point;
          sound = stands.sound;
          none = stands.free id (own_free id own_bound);
          new = stands.free base base_free;
          inside = inside;
        } in
        let end_of =
        if_gives (λ t. EndsAlike u t (run world (new c) u)) (run world (small x rest) u) t
        (expand_text_law world base size c x rest u (text c point) may) h in
        turned_round u t v
        (subst (λ z. AreAlike u t z) (one_value end_of.0 v (sym end_of.1 ∙ k)) end_of.2)

    first_inside : (n : ℤ) → int_le (pos 1) n ≡ true → is_below (pos 0) n ≡ true
    first_inside n h = grind (arith, ints)

    -- where the new allocation runs its first point is within it
    zero_inside : (c : Control) (v : State) → run world (new c) u ≡ Some v
        → is_below (pos 0) (number u.scene size) ≡ true
    zero_inside c v k =
        let first = expanded_buffer size x in
        let q = then_gives (step world (allocation first) u) (run world (at_point id c rest)) v k in
        let all = (where_parts (all_positive (numbers u.scene first.dims)) (Some (behind first u)) q.0 q.1).0 in
        first_inside (number u.scene size)
        (and_parts (int_le (pos 1) (number u.scene size)) (all_positive (numbers u.scene x.dims)) all).0

    -- where the point is outside, the point 0 gives the same
    outside_same : is_plain e ≡ true → is_below (number u.scene e) (number u.scene size) ≡ false
        → (v : State) → run world (new e) u ≡ Some v → run world (new (Lit (pos 0))) u ≡ Some v
    outside_same h out v k =
        let first = expanded_buffer size x in
        let q = then_gives (step world (allocation first) u) (run world (at_point id e rest)) v k in
        let made = is_behind world first u q.0 q.1 in
        let big = behind first u in
        let goes =
        if_gives (λ z. run world (at_point id (Lit (pos 0)) rest) big ≡ Some z)
        (run world (at_point id e rest) big) v
        (outside_law world id e (Lit (pos 0)) rest big h (record {
          buffer = id;
          lo = pos 0;
          size = number u.scene size;
          sides = whole (numbers u.scene x.dims);
          name = updated_own u.scene.views id (Some _);
          out = ap (λ n. is_below n (number u.scene size)) (plain_same e big.scene u.scene h (λ y j. refl)) ∙ out;
        }) once (own_point h).kept) (ap (run world (at_point id e rest)) made ∙ q.2) in
        ap (λ o. then_do o (run world (at_point id (Lit (pos 0)) rest))) (q.1 ∙ ap Some (sym made)) ∙ goes

    ends : (t v : State) → run world (small x rest) u ≡ Some t → run world (new e) u ≡ Some v
        → AreAlike u v t
    ends t v h k = by (is_plain e) refl
      where
        at_zero : run world (new (Lit (pos 0))) u ≡ Some v → AreAlike u v t
        at_zero j = text_ends (Lit (pos 0)) zero_point (zero_inside e v k) t v h j

        within : is_plain e ≡ true → (r : Bool)
            → is_below (number u.scene e) (number u.scene size) ≡ r
            → AreAlike u v t
        within good true i = text_ends e (own_point good) i t v h k
        within good false i = at_zero (outside_same good i v k)

        by : (q : Bool) → is_plain e ≡ q → AreAlike u v t
        by true good = within good (is_below (number u.scene e) (number u.scene size)) refl
        by false bad =
            at_zero (subst (λ b. run world (next (allocation (expanded_buffer size x)) b) u ≡ Some v)
            (same_anywhere bad) k)

  stands_for : (but : List ℕ) → Replaces s (new e) but
  stands_for but =
      hiding hidden (subst (λ r. mentions hidden r ≡ false) (sym piece.behind) refl)
      (λ first u good come stands.
      subst (λ b. MayReplace world hidden b (new e) u) (sym was)
      (alike_replaces world hidden (small x rest) (new e) u (record {
        none = none stands;
        of_old = λ y h. h;
        of_new = λ y h. sym (top_same id (Window id (At e ∷ [])) (small x rest) y) ∙ h;
      }) (λ t v h k. ends u stands t v h k)))

-- ---- the rule

pub expand_is_lawful : (size e : Control) → IsLawful (expand_rule size e)
expand_is_lawful size e = record {
  replaces = λ a is versions met. (
      let o = expandable (old a.spot) in
      let make : Allocated → Block = λ y. expanded size e y.buffer y.rest in
      let d = made_of o make a.draft is.drafted in
      let y = d.of in
      let r = expandable_is (old a.spot) y d.found in
      let plain : a.plain ≡ expanded size e y.buffer y.rest =
      got_same (sym is.made ∙ ap (λ q. tried q make) d.found) in
      subst (λ b. Replaces a.spot b (fields_at_exit (expand_rule size e) a)) d.made
      (stands_for size e a is y.buffer y.rest r.is r.may plain (fields_at_exit (expand_rule size e) a))
      );
}
