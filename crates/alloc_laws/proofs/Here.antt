-- What the rules say of the names at a place.
use Rattle.std.proofs.Common.{◌≡◌, ℕ, Bool, true, false, ◌==◌, ◌||◌, not, true≢false, List, [], ◌∷◌}
use Rattle.std.proofs.Common.{Option, None, refl, sym, ap, ◌∙◌, subst, eqb-true, eq-eqb}
use Rattle.std.specs.Prelude.{length, map, nat_lt}
use Rattle.exo_tree.specs.Tree.{Condition, Config, ControlArg, ConditionArg, Kind, Control, If, For}
use Rattle.exo_tree.specs.Tree.{Block, end, next, joined}
use Rattle.exo_tree.specs.Context.{Context, Here, After, InLoop, InThen, InElse, fill, rest_of}
use Rattle.exo_meaning.specs.Binders.{binders}
use Rattle.exo_meaning.specs.Run.{roots_after, program_world}
use Rattle.exo_meaning.specs.Units.{Scope, sort_in, field_kind, plainly, is_rank}
use Rattle.exo_meaning.specs.Unseen.{in_control as uses, in_controls, in_condition}
use Rattle.exo_meaning.specs.Unseen.{in_block as mentions}
use Rattle.exo_meaning.proofs.Frame.{or_parts}
use Rattle.meaning_laws.specs.Copies.{IsFree}
use Rattle.meaning_laws.specs.Scoped.{is_not, has_binder, step_has_binder, is_scoped}
use Rattle.meaning_laws.specs.Scoped.{step_is_scoped, is_param}
use Rattle.meaning_laws.specs.Sound.{binds}
use Rattle.meaning_laws.proofs.Binders.{binder_new, binders_law}
use Rattle.meaning_laws.proofs.Fewer as fewer
use Rattle.meaning_laws.proofs.Scoped.{both_false}
use Rattle.meaning_laws.proofs.Substitute.{and_parts}
use Rattle.meaning_laws.proofs.Unmentioned.{unmentioned_law}
use Rattle.meaning_laws.proofs.WellFormed.{well_scoped}
use Rattle.check_laws.proofs.OfFacts.Binders.{IsApart, StepIsApart, apart_there, step_apart_there}
use Rattle.check_laws.proofs.OfFacts.Binders.{split}
use Rattle.check_laws.proofs.OfFacts.Binders as differ
use Rattle.check_laws.proofs.OfFacts.Truths.{contrary, on_left, on_right}
use Rattle.tree_findings.specs.Classes.{both, rule, limit}
use Rattle.tree_findings.specs.Findings.{findings_of_block, scope_behind, found_in_binder}
use Rattle.tree_findings.specs.Findings.{findings_of_alloc, found_in_control, findings_of_control}
use Rattle.tree_findings.specs.Findings.{findings_of_controls}
use Rattle.tree_findings.specs.Sizes.{is_small_control}
use Rattle.buffer_laws.specs.Buffers.{Buffer, allocation, is_buffer}
use Rattle.buffer_laws.specs.Lifted.{are_plain, with_buffer_in}
use Rattle.place_laws.specs.Scope.Roots.{own_roots_at}
use Rattle.place_laws.specs.Scope.Scopes.{top_binders}
use Rattle.place_laws.proofs.OfScope.MayLeave.{top_has}
use Rattle.step_rules.specs.Rule.{Spot}
use Rattle.step_rules.specs.Lawful.{IsSpot, IsFormedHere, around, old, callees_for}
use Rattle.step_rules.proofs.Formed.{HasShape, shape_parts}
use Rattle.step_rules.proofs.Found.{and_true}
use Rattle.loop_laws.proofs.Formed.{formed}
use Rattle.loop_laws.proofs.Sites.{found_scope}

-- ---- names that differ

-- of a set without x no name is x
pub is_other : (in_set : ℕ → Bool) (x : ℕ) → in_set x ≡ false → (y : ℕ) → in_set y ≡ true
    → (y == x) ≡ false
is_other in_set x none y h =
    contrary (y == x) (λ e. true≢false (sym h ∙ ap in_set (eqb-true y x e) ∙ none))

-- and x is none of it
pub none_in : (in_set : ℕ → Bool) (x : ℕ) → in_set x ≡ false → (y : ℕ) → (y == x) ≡ true
    → in_set y ≡ false
none_in in_set x none y h = ap in_set (eqb-true y x h) ∙ none

-- ---- in a hole

-- names are in scope in a hole too
pub scoped_here : (b : Block) (c : Context) (bound : ℕ → Bool) → is_scoped bound (fill c b) ≡ true
    → (inner : ℕ → Bool) × (is_scoped inner (joined b (rest_of c)) ≡ true)
scoped_here b (Here rest) bound h = (bound, h)
scoped_here b (After a c) bound h =
    scoped_here b c (λ y. binds a y || bound y) (and_parts (step_is_scoped bound a) _ h).1
scoped_here b (InLoop i lo hi c rest) bound h =
    let p = and_parts (step_is_scoped bound (For i lo hi (fill c b))) _ h in
    let q = and_parts (not (bound i.id)) _ p.0 in
    scoped_here b c (λ y. (y == i.id) || bound y)
    (and_parts (not (uses (is_not bound) lo || uses (is_not bound) hi)) _ q.1).1
scoped_here b (InThen t c other rest) bound h =
    let p = and_parts (step_is_scoped bound (If t (fill c b) other)) _ h in
    let q = and_parts (not (in_condition (is_not bound) t)) _ p.0 in
    scoped_here b c bound (and_parts (is_scoped bound (fill c b)) (is_scoped bound other) q.1).0
scoped_here b (InElse t other c rest) bound h =
    let p = and_parts (step_is_scoped bound (If t other (fill c b))) _ h in
    let q = and_parts (not (in_condition (is_not bound) t)) _ p.0 in
    scoped_here b c bound (and_parts (is_scoped bound other) (is_scoped bound (fill c b)) q.1).1

-- what is bound in a hole is not bound again behind it
pub apart_here : (b : Block) (c : Context) (later : ℕ → Bool) → IsApart later (fill c b)
    → (behind : ℕ → Bool) × IsApart behind (joined b (rest_of c))
apart_here b (Here rest) later h = (later, h)
apart_here b (After a c) later h = apart_here b c later h.1
apart_here b (InLoop i lo hi c rest) later h =
    apart_here b c (λ x. has_binder rest x || later x) h.0.1
apart_here b (InThen t c other rest) later h =
    apart_here b c (λ x. has_binder other x || (has_binder rest x || later x)) h.0.0
apart_here b (InElse t other c rest) later h =
    apart_here b c (λ x. has_binder rest x || later x) h.0.1

-- the names in scope there, and those that are bound behind
pub record Names (s : Spot) : Type 0 where
  pub bound : ℕ → Bool
  pub scoped : is_scoped bound (joined (old s) (rest_of (around s))) ≡ true
  pub behind : ℕ → Bool
  pub apart : IsApart behind (joined (old s) (rest_of (around s)))
  pub free : (x : ℕ) → has_binder (old s) x ≡ true → IsFree s.target.proc (around s) x

pub names_of : (s : Spot) → IsSpot s → Names s
names_of s is =
    let p = s.target.proc in
    let c = around s in
    let unit = s.target.unit in
    let all =
    (well_scoped (field_kind unit.fields) (length unit.memories) (callees_for s.target) p
    is.runs.procedure).0 in
    let here = ap (is_scoped (is_param p)) (sym is.body) ∙ all in
    let there = scoped_here (old s) c (is_param p) here in
    let once =
    differ.apart (λ x. false) p.body
    (split (map (λ q. q.binder.id) p.params) (binders p.body) is.runs.procedure.distinct).second
    (λ x h. refl) in
    let apart = apart_here (old s) c (λ x. false) (subst (IsApart (λ x. false)) is.body once) in
    record {
      bound = there.0;
      scoped = there.1;
      behind = apart.0;
      apart = apart.1;
      free = λ x h. binders_law p c (old s) x here h;
    }

-- ---- expressions with names in scope

pub not_bound : (bound : ℕ → Bool) (x : ℕ) → bound x ≡ false → (y : ℕ) → is_not bound y ≡ false
    → (y == x) ≡ false
not_bound bound x none y h = by (bound y) refl h
  where
    by : (t : Bool) → bound y ≡ t → is_not (λ z. t) y ≡ false → (y == x) ≡ false
    by true e h = is_other bound x none y e
    by false e h = absurd (true≢false h)

-- what a block leaves to what follows it is one of its binders
pub top_binds : (b : Block) (y : ℕ) → top_binders b y ≡ true → has_binder b y ≡ true
top_binds b y h = by (has_binder b y) refl
  where
    by : (t : Bool) → has_binder b y ≡ t → has_binder b y ≡ true
    by true e = e
    by false e = absurd (true≢false (sym h ∙ top_has b y e))

-- of fewer names
pub less_control : (more fewer : ℕ → Bool) → ((y : ℕ) → more y ≡ false → fewer y ≡ false)
    → (e : Control)
    → uses more e ≡ false → uses fewer e ≡ false
less_control more few less e h =
    (or_parts (uses few e) false (fewer.block more few less (next (Config 0 (ControlArg e)) end)
    (both_false (uses more e) false h refl))).0

pub less_condition : (more fewer : ℕ → Bool) → ((y : ℕ) → more y ≡ false → fewer y ≡ false)
    → (c : Condition) → in_condition more c ≡ false → in_condition fewer c ≡ false
less_condition more few less c h =
    (or_parts (in_condition few c) false (fewer.block more few less
    (next (Config 0 (ConditionArg c)) end) (both_false (in_condition more c) false h refl))).0

-- ---- an allocation behind a block

module _ (x : Buffer) (behind : Block) where
  pub has_it : (before : Block) → has_binder (with_buffer_in before x behind) x.binder.id ≡ true
  has_it end =
      on_left (x.binder.id == x.binder.id) (has_binder behind x.binder.id)
      (eq-eqb x.binder.id x.binder.id refl)
  has_it (next a b) =
      on_right (step_has_binder a x.binder.id) (has_binder (with_buffer_in b x behind) x.binder.id)
      (has_it b)

  pub has_before : (before : Block) (y : ℕ) → has_binder before y ≡ true
      → has_binder (with_buffer_in before x behind) y ≡ true
  has_before end y h = absurd (true≢false (sym h))
  has_before (next a b) y h = by (step_has_binder a y) h (has_before b y)
    where
      by : (t : Bool) → (t || has_binder b y) ≡ true
          → (has_binder b y ≡ true → has_binder (with_buffer_in b x behind) y ≡ true)
          → (t || has_binder (with_buffer_in b x behind) y) ≡ true
      by true h later = refl
      by false h later = later h

  scoped_before : (before : Block) (bound : ℕ → Bool)
      → is_scoped bound (with_buffer_in before x behind) ≡ true
      → is_scoped bound before ≡ true
  scoped_before end bound h = refl
  scoped_before (next a b) bound h =
      let p = and_parts (step_is_scoped bound a) _ h in
      and_true p.0 (scoped_before b (λ y. binds a y || bound y) p.1)

  not_before : (before : Block) (later : ℕ → Bool)
      → IsApart later (with_buffer_in before x behind)
      → has_binder before x.binder.id ≡ false
  not_before end later h = refl
  not_before (next a b) later h =
      both_false (step_has_binder a x.binder.id) (has_binder b x.binder.id)
      (contrary (step_has_binder a x.binder.id) (λ e. true≢false (
      sym (has_it b)
      ∙ (or_parts (has_binder (with_buffer_in b x behind) x.binder.id) (later x.binder.id)
      (step_apart_there (λ y. has_binder (with_buffer_in b x behind) y || later y) a h.0 x.binder.id
      e)).0)))
      (not_before b later h.1)

  -- the block before it does not mention it
  pub before_lacks : (before : Block) (bound later : ℕ → Bool)
      → is_scoped bound (with_buffer_in before x behind) ≡ true
      → IsApart later (with_buffer_in before x behind)
      → mentions (is_buffer x) before ≡ false
  before_lacks before bound later scoped apart =
      unmentioned_law bound (is_buffer x) before (scoped_before before bound scoped)
      (is_other bound x.binder.id
      (binder_new bound (with_buffer_in before x behind) x.binder.id scoped (has_it before)))
      (is_other (has_binder before) x.binder.id (not_before before later apart))

-- ---- dimensions that are found to keep the rules

pub record AreFormed (scope : Scope) (es : List Control) : Type 0 where
  pub plain : are_plain es ≡ true
  pub used :
      (hidden : ℕ → Bool)
      → ((x : ℕ) → hidden x ≡ true → sort_in scope x ≡ None)
      → in_controls hidden es ≡ false

pub are_formed : (fields : ℕ → Option Kind) (scope : Scope) (es : List Control)
    → HasShape (findings_of_controls fields plainly scope es) → AreFormed scope es
are_formed fields scope [] h = record { plain = refl; used = λ hidden none. refl }
are_formed fields scope (e ∷ es) h =
    let p =
    shape_parts (findings_of_control fields plainly scope e)
    (findings_of_controls fields plainly scope es) h in
    let f =
    formed fields scope e
    (shape_parts (found_in_control fields plainly scope e) (limit (is_small_control e)) p.0).0 in
    let g = are_formed fields scope es p.1 in
    record {
      plain = and_true f.plain g.plain;
      used = λ hidden none.
          both_false (uses hidden e) (in_controls hidden es) (f.used hidden none) (g.used hidden none);
    }

-- of an allocation that is drafted first
pub alloc_formed : (s : Spot) (x : Buffer) (b : Block) → IsFormedHere s (next (allocation x) b)
    → AreFormed (found_scope s) x.dims
alloc_formed s x b h =
    let unit = s.target.unit in
    let fields = field_kind unit.fields in
    let memories = length unit.memories in
    let scope = found_scope s in
    let dims = findings_of_controls fields plainly scope x.dims in
    let calls = (program_world unit).callees in
    let p =
    shape_parts (findings_of_alloc fields memories calls scope x.binder x.dims x.memory)
    (findings_of_block fields memories calls (scope_behind (allocation x) scope)
    (roots_after (allocation x) (own_roots_at (around s))) (joined b (rest_of (around s)))) h in
    let q =
    shape_parts (both (found_in_binder scope x.binder) dims)
    (both (limit (is_rank (length x.dims))) (rule (nat_lt x.memory memories))) p.0 in
    are_formed fields scope x.dims (shape_parts (found_in_binder scope x.binder) dims q.0).1
