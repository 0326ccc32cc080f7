-- The rule that puts an allocation of a loop or branch before the loop or condition is lawful.
use Rattle.std.proofs.Common.{◌≡◌, inr, ℕ, zero, suc, Bool, true, false, ◌==◌, ◌||◌, not}
use Rattle.std.proofs.Common.{true≢false}
use Rattle.std.proofs.Common.{List, length, Option, Some, None, refl, sym, ap, ap₂, ◌∙◌, subst}
use Rattle.std.proofs.Common.{eqb-true}
use Rattle.std.specs.Prelude.{option_map, option_and_then}
use Rattle.exo_tree.specs.Tree.{Binder, Control, Condition, Statement, Assign, Reduce, Config, Pass}
use Rattle.exo_tree.specs.Tree.{If, For}
use Rattle.exo_tree.specs.Tree.{Alloc, View, Call, Block, end, next, joined, statements}
use Rattle.exo_tree.specs.Context.{rest_of}
use Rattle.exo_tree.specs.Places.{Branch, Main, Else, parted}
use Rattle.exo_meaning.specs.Run.{World, run, kinds_of}
use Rattle.exo_meaning.specs.State.{State}
use Rattle.exo_meaning.specs.Units.{sort_in, field_kind}
use Rattle.exo_meaning.specs.Unseen.{in_control as uses, in_condition, in_block as mentions}
use Rattle.exo_meaning.proofs.Frame.{or_parts}
use Rattle.meaning_laws.specs.Context.{MayReplace}
use Rattle.meaning_laws.specs.Scoped.{is_not, has_binder, step_has_binder, is_scoped}
use Rattle.meaning_laws.specs.Scoped.{step_is_scoped}
use Rattle.meaning_laws.specs.Sound.{binds}
use Rattle.meaning_laws.proofs.Binders.{step_binder_new}
use Rattle.meaning_laws.proofs.Replace.{unit_respects}
use Rattle.meaning_laws.proofs.Scoped.{both_false, not_true}
use Rattle.meaning_laws.proofs.Substitute.{and_parts}
use Rattle.meaning_laws.proofs.Unmentioned.{unmentioned_law}
use Rattle.place_laws.specs.Scope.Opened.{MayLeave}
use Rattle.place_laws.specs.Scope.Scopes.{top_binders, HasNone}
use Rattle.place_laws.proofs.OfScope.MayLeave.{may_leave_law}
use Rattle.check_laws.proofs.OfFacts.Binders.{IsApart, StepIsApart, apart_there}
use Rattle.check_laws.proofs.OfFacts.Truths.{contrary, on_left, on_right}
use Rattle.buffer_laws.specs.Buffers.{Buffer, allocation, buffer_of, is_buffer}
use Rattle.buffer_laws.specs.Lifted.{with_buffer_in, MayLift, lifted_from_loop}
use Rattle.buffer_laws.specs.Lifted.{branch_with, lifted_from_then, lifted_from_else}
use Rattle.buffer_laws.proofs.Lifted.{lift_from_loop, lift_from_then, lift_from_else}
use Rattle.step_rules.specs.Rule.{Got, Spot}
use Rattle.step_rules.specs.Lawful.{IsSpot, IsFormedHere, Stands, Replaces, hiding, IsLawful}
use Rattle.step_rules.specs.Lawful.{around, old, world_of, callees_for, fields_at_exit}
use Rattle.step_rules.specs.Shapes.{tried, alone_in}
use Rattle.step_rules.proofs.Shapes.{made_of, alone_is}
use Rattle.loop_laws.proofs.Formed.{free_not_in_scope}
use Rattle.loop_laws.proofs.Sites.{found_then, found_scope}
use Rattle.alloc_laws.specs.Lifting.{Inner, inner_of, Lifting, lifting_at, lifting_in, lifting_of}
use Rattle.alloc_laws.specs.Lifting.{lifted, lift_rule}
use Rattle.alloc_laws.proofs.Here.{is_other, not_bound, top_binds, less_control, less_condition}
use Rattle.alloc_laws.proofs.Here.{Names, names_of, has_it, has_before, before_lacks}
use Rattle.alloc_laws.proofs.Here.{AreFormed, alloc_formed}
use Rattle.alloc_laws.proofs.Memory.{buffer_is}
use Rattle.place_laws.specs.Scope.UnrollLoop.{only_loop}
use Rattle.tree_edits.specs.Made.Passes.{or_one_pass}

some_same : {A : Type 0} {a b : A} → Some a ≡ Some b → a ≡ b
some_same e = cc

-- ---- what is read

-- both parts of a block
pub parted_is : (k : ℕ) (b : Block) (p : Block × Block) → parted k b ≡ Some p
    → (b ≡ joined p.0 p.1) × (length (statements p.0) ≡ k)
parted_is zero b p h = subst (λ (q : Block × Block). (b ≡ joined q.0 q.1) × (length (statements q.0) ≡ 0))
    (some_same h) (refl, refl)
parted_is (suc n) end p h = cc
parted_is (suc n) (next a b) p h = by (parted_is n b) (parted n b) refl h
  where
    by : ((q : Block × Block) → parted n b ≡ Some q → (b ≡ joined q.0 q.1) × (length (statements q.0) ≡ n))
        → (o : Option (Block × Block)) → parted n b ≡ o
        → option_map (λ (q : Block × Block). (next a q.0, q.1)) o ≡ Some p
        → (next a b ≡ joined p.0 p.1) × (length (statements p.0) ≡ suc n)
    by rest None e h = cc
    by rest (Some q) e h =
        let r = rest q e in
        subst (λ (z : Block × Block). (next a b ≡ joined z.0 z.1) × (length (statements z.0) ≡ suc n))
        (some_same h) (ap (next a) r.0, ap suc r.1)

-- what the statement is of which an allocation is lifted
pub record IsLifting (branch : Branch) (k : ℕ) (b : Block) (l : Lifting) : Type 0 where
  pub round : Statement
  pub is : b ≡ next round end
  pub inner : inner_of branch round ≡ Some l.inner
  pub parts : l.inner.block ≡ with_buffer_in l.before l.buffer l.behind
  pub count : length (statements l.before) ≡ k

lifting_at_is : (i : Inner) (before rest : Block) (l : Lifting) → lifting_at i before rest ≡ Some l
    → (l.inner ≡ i) × (l.before ≡ before) × (rest ≡ next (allocation l.buffer) l.behind)
lifting_at_is i before end l h = cc
lifting_at_is i before (next a behind) l h = by (buffer_of a) refl h
  where
    by : (o : Option Buffer) → buffer_of a ≡ o
        → option_map (λ (x : Buffer). record { inner = i; before = before; buffer = x; behind = behind }) o ≡ Some l
        → (l.inner ≡ i) × (l.before ≡ before) × (next a behind ≡ next (allocation l.buffer) l.behind)
    by None e h = cc
    by (Some x) e h =
        subst (λ (z : Lifting). (z.inner ≡ i) × (z.before ≡ before)
        × (next a behind ≡ next (allocation z.buffer) z.behind)) (some_same h)
        (refl, refl, ap (λ s. next s behind) (buffer_is a x e))

pub lifting_is : (branch : Branch) (k : ℕ) (b : Block) (l : Lifting)
    → lifting_of branch k b ≡ Some l
    → IsLifting branch k b l
lifting_is branch k b l h =
    let f = found_then (alone_in b) (lifting_in branch k) l h in
    let g =
    found_then (inner_of branch f.0) (λ (i : Inner).
    option_and_then (λ (p : Block × Block). lifting_at i p.0 p.1) (parted k i.block)) l f.2 in
    let p = found_then (parted k g.0.block) (λ (p : Block × Block). lifting_at g.0 p.0 p.1) l g.2 in
    let r = lifting_at_is g.0 p.0.0 p.0.1 l p.2 in
    let q = parted_is k g.0.block p.0 p.1 in
    record {
      round = f.0;
      is = alone_is b f.0 f.1;
      inner = g.1 ∙ ap Some (sym r.0);
      parts = ap (λ (i : Inner). i.block) r.0 ∙ q.0 ∙ ap₂ joined (sym r.1) r.2;
      count = ap (λ d. length (statements d)) r.1 ∙ q.1;
    }

-- ---- names

-- the allocation stands in one statement, which is the piece
module _ (s : Spot) (is : IsSpot s) (round : Statement) (was : old s ≡ next round end) (x : Buffer)
    (inside : step_has_binder round x.binder.id ≡ true)
    (top : binds round x.binder.id ≡ false) where
  names : Names s
  names = names_of s is

  step_scoped : step_is_scoped names.bound round ≡ true
  step_scoped =
      (and_parts (step_is_scoped names.bound round) _
      (subst (λ b. is_scoped names.bound (joined b (rest_of (around s))) ≡ true) was names.scoped)).0

  abbrev later : ℕ → Bool
  later y = has_binder (rest_of (around s)) y || names.behind y

  step_apart : StepIsApart later round
  step_apart =
      (subst (λ b. IsApart names.behind (joined b (rest_of (around s)))) was names.apart).0

  unbound : names.bound x.binder.id ≡ false
  unbound = step_binder_new names.bound round x.binder.id step_scoped inside

  -- what stands outside of the blocks has other names
  seen : (y : ℕ) → is_not names.bound y ≡ false → is_buffer x y ≡ false
  seen y h = not_bound names.bound x.binder.id unbound y h

  may_leave : MayLeave s.target.proc (around s) (is_buffer x)
  may_leave =
      let unit = s.target.unit in
      may_leave_law (field_kind unit.fields) (length unit.memories) (callees_for s.target)
      s.target.proc (around s) (old s) (is_buffer x) is.runs.procedure is.body
      (λ y h. let e = eqb-true y x.binder.id h in inr (
        subst (λ b. has_binder b y ≡ true) (sym was)
            (ap (has_binder (next round end)) e
            ∙ on_left (step_has_binder round x.binder.id) false inside),
        subst (λ b. top_binders b y ≡ false) (sym was)
            (ap (top_binders (next round end)) e ∙ both_false (binds round x.binder.id) false top refl),
      ))

  none : {u : State} → Stands s u → HasNone (is_buffer x) u
  none stands =
      record { sound = stands.sound; unbound = λ y h. stands.free y (may_leave.free y h) }

  -- the names that the statement binds are not in scope before it
  own_not_found : (y : ℕ) → step_has_binder round y ≡ true → sort_in (found_scope s) y ≡ None
  own_not_found y h =
      free_not_in_scope s.target.proc (around s) y
      (names.free y (subst (λ b. has_binder b y ≡ true) (sym was)
      (on_left (step_has_binder round y) false h)))

  other_lacks : (other : Block) → is_scoped names.bound other ≡ true
      → has_binder other x.binder.id ≡ false
      → mentions (is_buffer x) other ≡ false
  other_lacks other scoped none =
      unmentioned_law names.bound (is_buffer x) other scoped (is_other names.bound x.binder.id unbound)
      (is_other (has_binder other) x.binder.id none)

-- what refines the old block refines it where it runs the same
as_run : (world : World) (hidden : ℕ → Bool) (was new made : Block) (u : State)
    → MayReplace world hidden was new u → run world new u ≡ run world made u
    → MayReplace world hidden was made u
as_run world hidden was new made u m e =
    record { fresh = m.fresh; runs = λ a b i j. m.runs a b i (e ∙ j) }

-- ---- out of a loop

module _ (s : Spot) (is : IsSpot s) (i : Binder) (lo hi : Control) (before : Block) (x : Buffer)
    (behind : Block) (was : old s ≡ only_loop i lo hi (with_buffer_in before x behind))
    (dims : AreFormed (found_scope s) x.dims) where
  abbrev body : Block
  body = with_buffer_in before x behind

  abbrev loop : Statement
  loop = For i lo hi body

  inside_loop : step_has_binder loop x.binder.id ≡ true
  inside_loop = on_right (x.binder.id == i.id) (has_binder body x.binder.id) (has_it x behind before)

  abbrev made : Block
  made = next (allocation x) (only_loop i lo hi (or_one_pass (joined before behind)))

  loop_passes : (u : State) (d : Block)
      → run (world_of s) (next (allocation x) (only_loop i lo hi d)) u
      ≡ run (world_of s) (next (allocation x) (only_loop i lo hi (or_one_pass d))) u
  loop_passes u end = refl
  loop_passes u (next a b) = refl

  loop_stands : (but : List ℕ)
      → Replaces s made but
  loop_stands but =
      let bound = (names s is loop was x inside_loop refl).bound in
      let first = and_parts (not (bound i.id)) _ (step_scoped s is loop was x inside_loop refl) in
      let q = and_parts (not (uses (is_not bound) lo || uses (is_not bound) hi)) _ first.1 in
      let bounds = or_parts (uses (is_not bound) lo) (uses (is_not bound) hi) (not_true _ q.0) in
      let apart = step_apart s is loop was x inside_loop refl in
      let lacks = less_control (is_not bound) (is_buffer x) (seen s is loop was x inside_loop refl) in
      let gone = own_not_found s is loop was x inside_loop refl in
      hiding (is_buffer x) (may_leave s is loop was x inside_loop refl).unused
      (λ first u good come stands.
      subst (λ b. MayReplace (world_of s) (is_buffer x) b made u) (sym was)
      (as_run (world_of s) (is_buffer x) (only_loop i lo hi body)
      (lifted_from_loop i lo hi before x behind) made u
      (lift_from_loop (world_of s) i lo hi before x behind u
      (unit_respects (kinds_of s.target.unit.fields) s.target.unit.procedures) (record {
        none = none s is loop was x inside_loop refl stands;
        unused = before_lacks x behind before (λ y. (y == i.id) || bound y) _ q.1 apart.1;
        plain = dims.plain;
        kept = dims.used (λ y. y == i.id) (λ y h.
            gone y (on_left (y == i.id) (has_binder body y) h));
        made = dims.used (top_binders before) (λ y h.
            gone y (on_right (y == i.id) (has_binder body y)
            (has_before x behind before y (top_binds before y h))));
      }) (lacks lo bounds.0) (lacks hi bounds.1)) (loop_passes u (joined before behind))))

-- ---- out of a branch

module _ (s : Spot) (is : IsSpot s) (test : Condition) (before : Block) (x : Buffer)
    (behind other : Block) (dims : AreFormed (found_scope s) x.dims) where
  abbrev branch : Block
  branch = with_buffer_in before x behind

  abbrev in_branch : Block
  in_branch = or_one_pass (joined before behind)

  made_before : (u : State) (gone : (y : ℕ) → has_binder branch y ≡ true → sort_in (found_scope s) y ≡ None)
      → HasNone (is_buffer x) u → (bound later : ℕ → Bool) → is_scoped bound branch ≡ true
      → IsApart later branch
      → MayLift (λ y. false) before x u
  made_before u gone none bound later scoped apart = record {
    none = none;
    unused = before_lacks x behind before bound later scoped apart;
    plain = dims.plain;
    kept = dims.used (λ y. false) (λ y h. absurd (true≢false (sym h)));
    made = dims.used (top_binders before) (λ y h.
        gone y (has_before x behind before y (top_binds before y h)));
  }

  then_passes : (u : State) (d : Block)
      → run (world_of s) (next (allocation x) (branch_with test d other)) u
      ≡ run (world_of s) (next (allocation x) (branch_with test (or_one_pass d) other)) u
  then_passes u end = refl
  then_passes u (next a b) = refl

  then_stands : (but : List ℕ) → old s ≡ branch_with test branch other
      → Replaces s (next (allocation x) (branch_with test in_branch other)) but
  then_stands but was =
      let fork = If test branch other in
      let inside = on_left (has_binder branch x.binder.id) (has_binder other x.binder.id)
      (has_it x behind before) in
      let bound = (names s is fork was x inside refl).bound in
      let later = later s is fork was x inside refl in
      let head = and_parts (not (in_condition (is_not bound) test)) _
      (step_scoped s is fork was x inside refl) in
      let q = and_parts (is_scoped bound branch) (is_scoped bound other) head.1 in
      let apart = step_apart s is fork was x inside refl in
      let gone = own_not_found s is fork was x inside refl in
      let made = next (allocation x) (branch_with test in_branch other) in
      hiding (is_buffer x) (may_leave s is fork was x inside refl).unused
      (λ first u good come stands.
      subst (λ b. MayReplace (world_of s) (is_buffer x) b made u) (sym was)
      (as_run (world_of s) (is_buffer x) (branch_with test branch other)
      (lifted_from_then test before x behind other) made u
      (lift_from_then (world_of s) test before x behind other u
      (unit_respects (kinds_of s.target.unit.fields) s.target.unit.procedures)
      (made_before u (λ y h. gone y (on_left (has_binder branch y) (has_binder other y) h))
      (none s is fork was x inside refl stands) bound (λ y. has_binder other y || later y) q.0 apart.0)
      (less_condition (is_not bound) (is_buffer x) (seen s is fork was x inside refl) test
      (not_true (in_condition (is_not bound) test) head.0))
      (other_lacks s is fork was x inside refl other q.1
      (or_parts (has_binder other x.binder.id) (later x.binder.id)
      (apart_there (λ y. has_binder other y || later y) branch apart.0 x.binder.id
      (has_it x behind before))).0))
      (then_passes u (joined before behind))))

  else_passes : (u : State) (d : Block)
      → run (world_of s) (next (allocation x) (branch_with test other d)) u
      ≡ run (world_of s) (next (allocation x) (branch_with test other (or_one_pass d))) u
  else_passes u end = refl
  else_passes u (next a b) = refl

  else_stands : (but : List ℕ) → old s ≡ branch_with test other branch
      → Replaces s (next (allocation x) (branch_with test other in_branch)) but
  else_stands but was =
      let fork = If test other branch in
      let inside = on_right (has_binder other x.binder.id) (has_binder branch x.binder.id)
      (has_it x behind before) in
      let bound = (names s is fork was x inside refl).bound in
      let later = later s is fork was x inside refl in
      let head = and_parts (not (in_condition (is_not bound) test)) _
      (step_scoped s is fork was x inside refl) in
      let q = and_parts (is_scoped bound other) (is_scoped bound branch) head.1 in
      let apart = step_apart s is fork was x inside refl in
      let gone = own_not_found s is fork was x inside refl in
      let made = next (allocation x) (branch_with test other in_branch) in
      hiding (is_buffer x) (may_leave s is fork was x inside refl).unused
      (λ first u good come stands.
      subst (λ b. MayReplace (world_of s) (is_buffer x) b made u) (sym was)
      (as_run (world_of s) (is_buffer x) (branch_with test other branch)
      (lifted_from_else test other before x behind) made u
      (lift_from_else (world_of s) test other before x behind u
      (unit_respects (kinds_of s.target.unit.fields) s.target.unit.procedures)
      (made_before u (λ y h. gone y (on_right (has_binder other y) (has_binder branch y) h))
      (none s is fork was x inside refl stands) bound later q.1 apart.1)
      (less_condition (is_not bound) (is_buffer x) (seen s is fork was x inside refl) test
      (not_true (in_condition (is_not bound) test) head.0))
      (other_lacks s is fork was x inside refl other q.0
      (contrary (has_binder other x.binder.id) (λ e. true≢false (sym (has_it x behind before)
      ∙ (or_parts (has_binder branch x.binder.id) (later x.binder.id)
      (apart_there (λ y. has_binder branch y || later y) other apart.0 x.binder.id e)).0)))))
      (else_passes u (joined before behind))))

-- ---- the rule

lifted_stands : (s : Spot) → IsSpot s → (branch : Branch) (round : Statement) (i : Inner)
    → inner_of branch round ≡ Some i → old s ≡ next round end
    → (before : Block) (x : Buffer) (behind : Block) → i.block ≡ with_buffer_in before x behind
    → AreFormed (found_scope s) x.dims → (but : List ℕ)
    → Replaces s (lifted (record { inner = i; before = before; buffer = x; behind = behind })) but
lifted_stands s is branch (Assign y js e) i h was before x behind parts dims but = cc
lifted_stands s is branch (Reduce y js e) i h was before x behind parts dims but = cc
lifted_stands s is branch (Config f g) i h was before x behind parts dims but = cc
lifted_stands s is branch Pass i h was before x behind parts dims but = cc
lifted_stands s is Main (If c a b) i h was before x behind parts dims but =
    subst (λ (z : Inner). Replaces s (lifted (record { inner = z; before = before; buffer = x; behind = behind })) but)
    (some_same h)
    (then_stands s is c before x behind b dims but
    (was ∙ ap (λ d. next (If c d b) end) (ap (λ (z : Inner). z.block) (some_same h) ∙ parts)))
lifted_stands s is Else (If c a b) i h was before x behind parts dims but =
    subst (λ (z : Inner). Replaces s (lifted (record { inner = z; before = before; buffer = x; behind = behind })) but)
    (some_same h)
    (else_stands s is c before x behind a dims but
    (was ∙ ap (λ d. next (If c a d) end) (ap (λ (z : Inner). z.block) (some_same h) ∙ parts)))
lifted_stands s is Main (For j lo hi b) i h was before x behind parts dims but =
    subst (λ (z : Inner). Replaces s (lifted (record { inner = z; before = before; buffer = x; behind = behind })) but)
    (some_same h)
    (loop_stands s is j lo hi before x behind
    (was ∙ ap (λ d. next (For j lo hi d) end) (ap (λ (z : Inner). z.block) (some_same h) ∙ parts)) dims but)
lifted_stands s is Else (For j lo hi b) i h was before x behind parts dims but = cc
lifted_stands s is branch (Alloc y cell ds memory) i h was before x behind parts dims but = cc
lifted_stands s is branch (View w y coords) i h was before x behind parts dims but = cc
lifted_stands s is branch (Call f args) i h was before x behind parts dims but = cc

pub lift_is_lawful : (branch : Branch) (k : ℕ) → IsLawful (lift_rule branch k)
lift_is_lawful branch k = record {
  replaces = λ a is versions met. (
      let o = lifting_of branch k (old a.spot) in
      let d = made_of o lifted a.draft is.drafted in
      let l = d.of in
      let r = lifting_is branch k (old a.spot) l d.found in
      let plain = got_same (sym (ap (λ q. tried q lifted) d.found) ∙ is.made) in
      subst (λ b. Replaces a.spot b (fields_at_exit (lift_rule branch k) a)) d.made
      (lifted_stands a.spot is.spot branch r.round l.inner r.inner r.is l.before l.buffer l.behind
      r.parts
      (alloc_formed a.spot l.buffer (next (l.inner.put (or_one_pass (joined l.before l.behind))) end)
      (subst (IsFormedHere a.spot) (sym plain) is.formed))
      (fields_at_exit (lift_rule branch k) a))
      );
}
  where
    got_same : {A : Type 0} {a b : A} → Got a ≡ Got b → a ≡ b
    got_same e = cc
