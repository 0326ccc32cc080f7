-- The rule that puts the body of a loop in its place is lawful.
use Rattle.std.proofs.Common.{◌≡◌, inr, ℕ, ◌==◌, Bool, true, false, ◌&&◌, ◌||◌, true≢false, List}
use Rattle.std.proofs.Common.{[], ◌∷◌, map, length, Option, Some, None, refl, sym, ap, ◌∙◌, subst}
use Rattle.std.proofs.Common.{eq-eqb, eqb-true}
use Rattle.std.specs.Prelude.{if◌then◌else◌, option_map}
use Rattle.std.specs.List.{list_any}
use Rattle.exo_tree.specs.Tree.{Lt, Block, end, next, statements, Param, Procedure}
use Rattle.exo_tree.specs.Context.{Context, Here, InLoop, fill}
use Rattle.exo_tree.specs.Places.{Opened, opened}
use Rattle.exo_meaning.specs.Binders.{binders}
use Rattle.exo_meaning.specs.Inputs.{IsAdmissible, is_buffer_of}
use Rattle.exo_meaning.specs.State.{State, scoped}
use Rattle.exo_meaning.specs.Run.{World, run}
use Rattle.exo_meaning.specs.Units.{bound_ids, field_kind}
use Rattle.exo_meaning.specs.Unseen.{in_block as mentions}
use Rattle.exo_meaning.proofs.Frame.{or_parts}
use Rattle.meaning_laws.specs.Context.{ComesTo, MayReplace}
use Rattle.meaning_laws.specs.Copies.{IsFree, HoldsAt}
use Rattle.meaning_laws.specs.Facts.{Holds}
use Rattle.meaning_laws.specs.Fields.{writes_field}
use Rattle.meaning_laws.specs.Scoped.{has_binder}
use Rattle.meaning_laws.specs.Sound.{on_way}
use Rattle.meaning_laws.specs.Touched.{Reading, Writing, Reducing}
use Rattle.meaning_laws.specs.UnitFields.{unit_writes}
use Rattle.meaning_laws.proofs.Binders.{fresh_law}
use Rattle.meaning_laws.proofs.Facts.{or_left, or_right}
use Rattle.meaning_laws.proofs.Numbers.{among, among_both, block_among}
use Rattle.config_state.specs.Reads.{reads_field, unit_reads}
use Rattle.place_laws.specs.Scope.Opened.{MayLeave}
use Rattle.place_laws.specs.Scope.Roots.{own_roots_at}
use Rattle.place_laws.specs.Scope.Scopes.{HasNone, top_binders}
use Rattle.place_laws.proofs.OfScope.MadeCopies.{true_by}
use Rattle.place_laws.proofs.OfScope.MayLeave.{may_leave_law, top_has}
use Rattle.place_laws.proofs.OfScope.Opened.{block_may_open, same_refines}
use Rattle.tree_edits.specs.Made.Passes.{or_pass}
use Rattle.check_laws.specs.Facts.Laws.{ComesToPlace}
use Rattle.cursor_forward.specs.Causes.{NotIdempotent}
use Rattle.cursor_forward.specs.Forwards.{Carries, are_apart, bones}
use Rattle.cursor_forward.specs.Shifts.{at_index}
use Rattle.place_laws.specs.Order.RemoveLoop.{is_outside, IsIdempotent}
use Rattle.place_laws.specs.Order.TurnsOfTwo.{Loop}
use Rattle.place_laws.proofs.OfOrder.RemoveLoop.{loops_are_removed_at}
use Rattle.step_rules.specs.Rule.{Spot, Says}
use Rattle.step_rules.specs.Lawful.{IsMet, IsSpot, Stands, Replaces, hiding, IsLawful}
use Rattle.step_rules.specs.Lawful.{IsCarrying, around, old, world_of, callees_for, scope_here}
use Rattle.step_rules.specs.Lawful.{fields_at_exit}
use Rattle.step_rules.proofs.Shapes.{or_pass_next}
use Rattle.loop_laws.specs.Shapes.{loop_of}
use Rattle.loop_laws.proofs.Bones.{all_parted}
use Rattle.loop_laws.proofs.Sites.{block_of, loop_of_is, on_loop, of_found, found_then}
use Rattle.loop_laws.proofs.Sites.{is_below, own_is_free, body_keeps, keeps_here}
use Rattle.proc_laws.specs.Statement.Fields.{some_field}
use Rattle.proc_laws.specs.Statement.RemoveLoop.{without_variable, removable, sees_own_root}
use Rattle.proc_laws.specs.Statement.RemoveLoop.{sees_own_field, sees_own, remove_refusal, remove_needs}
use Rattle.proc_laws.specs.Statement.RemoveLoop.{out_of_loop, remove_rule, body_touches}
use Rattle.proc_laws.proofs.OfStatement.Fields.{no_field, unit_below, block_below}

-- ---- what is read

-- the loop that is found, whose body lacks the variable
record IsRemovable (b : Block) (l : Loop) : Type 0 where
  is : b ≡ block_of l
  lacks : mentions (λ x. x == l.binder.id) l.body ≡ false

lacking : (l k : Loop) (t : Bool) → mentions (λ x. x == l.binder.id) l.body ≡ t
    → (if t then None else Some l) ≡ Some k → IsRemovable (block_of l) k
lacking l k true e h = cc
lacking l k false e h =
    subst (IsRemovable (block_of l)) (same h) (record { is = refl; lacks = e })
  where
    same : Some l ≡ Some k → l ≡ k
    same q = cc

removable_is : (b : Block) (k : Loop) → removable b ≡ Some k → IsRemovable b k
removable_is b k h =
    let f = found_then (loop_of b) without_variable k h in
    subst (λ c. IsRemovable c k) (sym (loop_of_is b f.0 f.1)) (lacking f.0 k _ refl f.2)

-- ---- what is not refused

some_none : {A : Type 0} {a : A} → Some a ≡ None → ⊥
some_none e = cc

none_passes : (test : ℕ → Bool) (xs : List ℕ) (x : ℕ) → list_any test xs ≡ false
    → among xs x ≡ true → test x ≡ false
none_passes test [] x h k = absurd (true≢false (sym k))
none_passes test (y ∷ ys) x h k =
    let p = or_parts (test y) (list_any test ys) h in
    by (x == y) refl p.0 k (none_passes test ys x p.1)
  where
    by : (t : Bool) → (x == y) ≡ t → test y ≡ false → (t || among ys x) ≡ true
        → (among ys x ≡ true → test x ≡ false) → test x ≡ false
    by true e own q rest = ap test (eqb-true x y e) ∙ own
    by false e own q rest = rest q

params_among : (ps : List Param) (x : ℕ) → among (map (λ q. q.binder.id) ps) x ≡ is_buffer_of x ps
params_among [] x = refl
params_among (p ∷ ps) x = ap (λ t. (x == p.binder.id) || t) (params_among ps x)

-- a root from outside is bound by the procedure
outside_is_bound : (p : Procedure) (c : Context) (b : Block) → p.body ≡ fill c b → (y : ℕ)
    → is_outside p c y ≡ true → among (bound_ids p) y ≡ true
outside_is_bound p c b was y h =
    true_by (among (bound_ids p) y) (λ none.
    let q = or_parts (among (map (λ z. z.binder.id) p.params) y) (among (binders p.body) y)
    (sym (among_both (map (λ z. z.binder.id) p.params) (binders p.body) y) ∙ none) in
    let no_param = sym (params_among p.params y) ∙ q.0 in
    let no_binder =
    ap (λ d. has_binder d y) (sym was) ∙ (sym (block_among p.body y) ∙ q.1) in
    let free = fresh_law p c b y no_param no_binder in
    true≢false (sym h ∙ neither (is_buffer_of y p.params) (on_way c y) free.0 free.1))
  where
    neither : (t v : Bool) → t ≡ false → v ≡ false → (t || v) ≡ false
    neither t v e f = cc

-- of three tests
and_or : (out d w r : Bool) → (out && (d || (w && r))) ≡ false → out ≡ true
    → (d ≡ false) × (w ≡ true → r ≡ false)
and_or true d w r h e =
    let p = or_parts d (w && r) h in (p.0, λ k. sym (ap (λ t. t && r) k) ∙ p.1)
and_or false d w r h e = absurd (true≢false (sym e))

and_then : (t v : Bool) → (t && v) ≡ false → t ≡ true → v ≡ false
and_then true v h e = h
and_then false v h e = absurd (true≢false (sym e))

module _ (s : Spot) (is : IsSpot s) (l : Loop) (was : old s ≡ block_of l)
    (alike : sees_own s l ≡ false) where
  abbrev proc : Procedure
  proc = s.target.proc

  body_is : proc.body ≡ fill (around s) (block_of l)
  body_is = is.body ∙ ap (fill (around s)) was

  no_root : (y : ℕ) → is_outside proc (around s) y ≡ true → sees_own_root s l y ≡ false
  no_root y h =
      none_passes (sees_own_root s l) (bound_ids proc) y
      (or_parts (list_any (sees_own_root s l) (bound_ids proc))
      (some_field s.target.unit.fields (sees_own_field s l)) alike).0
      (outside_is_bound proc (around s) (block_of l) body_is y h)

  root_parts : (y : ℕ) → is_outside proc (around s) y ≡ true
      → (body_touches s l Reducing y ≡ false)
      × (body_touches s l Writing y ≡ true → body_touches s l Reading y ≡ false)
  root_parts y h =
      and_or (is_outside proc (around s) y) (body_touches s l Reducing y)
      (body_touches s l Writing y) (body_touches s l Reading y) (no_root y h) h

  unread : (f : ℕ) → writes_field (unit_writes s.target.unit.procedures) f l.body ≡ true
      → reads_field (unit_reads s.target.unit.procedures) f l.body ≡ false
  unread f h =
      let unit = s.target.unit in
      let ps = unit.procedures in
      let memories = length unit.memories in
      let kept =
      body_keeps (field_kind unit.fields) memories (callees_for s.target) (scope_here s)
      (own_roots_at (around s)) l.binder l.lo l.hi l.body end
      (subst (λ b. keeps_here s b ≡ true) was is.well.piece) in
      let less =
      block_below unit.fields memories (callees_for s.target) (unit_writes ps)
      (unit_below unit.fields memories ps is.runs.unit) _ _ l.body kept f h in
      and_then (writes_field (unit_writes ps) f l.body) (reads_field (unit_reads ps) f l.body)
      (no_field unit.fields (sees_own_field s l) f
      (or_parts (list_any (sees_own_root s l) (bound_ids proc))
      (some_field unit.fields (sees_own_field s l)) alike).1 less) h

  idempotent : IsFree proc (around s) l.binder.id
      → mentions (λ x. x == l.binder.id) l.body ≡ false
      → IsIdempotent s.target.unit.fields s.target.unit.procedures proc (around s) l.binder l.body
  idempotent fresh lacks = record {
    fresh = fresh;
    lacks = lacks;
    reduces = λ y h. (root_parts y h).0;
    reads = λ y h. (root_parts y h).1;
    unread = unread;
  }

-- ---- the runs

module _ (s : Spot) (is : IsSpot s) (l : Loop) (was : old s ≡ block_of l)
    (once : IsIdempotent s.target.unit.fields s.target.unit.procedures s.target.proc (around s)
    l.binder l.body)
    (turn : HoldsAt (world_of s) s.target.proc (block_of l) (around s) (Lt l.lo l.hi)) where
  abbrev world : World
  world = world_of s

  abbrev hidden : ℕ → Bool
  hidden = top_binders l.body

  -- the body is a scope in the loop
  left : MayLeave s.target.proc (around s) hidden
  left =
      let unit = s.target.unit in
      may_leave_law (field_kind unit.fields) (length unit.memories) (callees_for s.target)
      s.target.proc (around s) (block_of l) hidden is.runs.procedure
      (is.body ∙ ap (fill (around s)) was)
      (λ x h. inr (
        or_left ((x == l.binder.id) || has_binder l.body x) false
            (or_right (x == l.binder.id) (has_binder l.body x)
            (true_by (has_binder l.body x) (λ e. true≢false (sym h ∙ top_has l.body x e)))),
        refl,
      ))

  none_there : (u : State) → Stands s u → HasNone hidden u
  none_there u stands = record {
    sound = stands.sound;
    unbound = λ x h. stands.free x (left.free x h);
  }

  runs_once : (first u : State) → IsAdmissible world s.target.proc first
      → ComesTo world (old s) (around s) first u
      → run world (block_of l) u ≡ scoped (run world l.body) u
  runs_once first u good come =
      let unit = s.target.unit in
      loops_are_removed_at unit.fields (length unit.memories) unit.procedures s.target.proc
      (around s) l.binder l.lo l.hi l.body first u is.runs once turn good
      (subst (λ b. ComesTo world b (around s) first u) was come)

  body_may_stand : (but : List ℕ) → Replaces s l.body but
  body_may_stand but =
      hiding hidden left.unused (λ first u good come stands.
      subst (λ b. MayReplace world hidden b l.body u) (sym was)
      (block_may_open world (block_of l) l.body u (none_there u stands)
      (same_refines (run world (block_of l)) (scoped (run world l.body)) u
      (runs_once first u good come))))

not_refused : (s : Spot) (o : Option Loop) (l : Loop) → o ≡ Some l → remove_refusal s o ≡ None
    → sees_own s l ≡ false
not_refused s o l found allowed =
    by (sees_own s l) (sym (ap (remove_refusal s) found) ∙ allowed)
  where
    by : (t : Bool) → (if t then Some NotIdempotent else None) ≡ None → t ≡ false
    by true h = absurd (some_none h)
    by false h = refl

-- what is said of the place holds in the hole
has_turn : (s : Spot) (l : Loop) → IsSpot s → s.piece.count ≡ 1 → old s ≡ block_of l
    → IsMet s.target (Says s.piece.path (Holds (Lt l.lo l.hi)))
    → HoldsAt (world_of s) s.target.proc (block_of l) (around s) (Lt l.lo l.hi)
has_turn s l is single was met first u good come =
    met first u good
    (subst (λ o. ComesToPlace (world_of s) o first u)
    (sym (ap (λ n. opened n s.piece.path s.target.proc.body) (sym single) ∙ is.opens))
    (subst (λ b. ComesTo (world_of s) b (around s) first u) (sym was) come))

pub remove_is_lawful : IsLawful remove_rule
remove_is_lawful = record {
  replaces = λ a is versions met. (
      let on = on_loop removable (λ l base. l.body) a is.at is.chosen is.made is.drafted in
      let l = on.loop in
      let loop = removable_is (old a.spot) l on.found in
      let alike = not_refused a.spot (removable (old a.spot)) l on.found is.allowed in
      let free =
      own_is_free a is.spot l loop.is (is_below a is.spot is.below) l.binder.id (binder_is_own l) in
      let once = idempotent a.spot is.spot l loop.is alike free loop.lacks in
      let needs =
      of_found (removable (old a.spot)) (remove_needs a.spot.piece.path) l a.spot.target on.found met
      in
      subst (λ d. Replaces a.spot d (fields_at_exit remove_rule a)) on.made
      (body_may_stand a.spot is.spot l loop.is once
      (has_turn a.spot l is.spot on.single loop.is needs.0) (fields_at_exit remove_rule a))
      );
}
  where
    binder_is_own : (l : Loop) → has_binder (block_of l) l.binder.id ≡ true
    binder_is_own l =
        or_left ((l.binder.id == l.binder.id) || has_binder l.body l.binder.id) false
        (or_left (l.binder.id == l.binder.id) (has_binder l.body l.binder.id)
        (eq-eqb l.binder.id l.binder.id refl))

-- ---- where statements go

abbrev here : Block × Block → Opened
here p = record { around = Here p.1; piece = p.0 }

abbrev in_loop : Loop → Opened → Opened
in_loop l o = record { around = InLoop l.binder l.lo l.hi o.around end; piece = o.piece }

-- all statements of a block that is put in a place
record AllThere (c : Context) (b : Block) : Type 0 where
  o : Opened
  opens : opened (length (statements b)) (at_index 0) (or_pass c b) ≡ Some o
  piece : o.piece ≡ b

all_there : (c : Context) (b : Block) → AllThere c b
all_there c end = record { o = here (end, or_pass c end); opens = refl; piece = refl }
all_there c (next a b) = record {
  o = here (next a b, end);
  opens =
      ap (opened (length (statements (next a b))) (at_index 0)) (or_pass_next c a b)
      ∙ ap (option_map here) (all_parted (next a b));
  piece = refl;
}

body_carried : (c : Context) (l : Loop) → Carries (out_of_loop l) (block_of l) (or_pass c l.body)
body_carried c l =
    let there = all_there c l.body in (
      record {
        was = in_loop l (here (l.body, end));
        is = there.o;
        before = ap (λ o. option_map (in_loop l) (option_map here o)) (all_parted l.body);
        after = there.opens;
        alike = sym (ap bones there.piece);
      },
      tt,
    )

pub remove_is_carrying : IsCarrying remove_rule
remove_is_carrying = record {
  carries = λ a is. (
      let on = on_loop removable (λ l base. l.body) a is.at is.chosen is.made is.drafted in
      let l = on.loop in
      let new = or_pass (around a.spot) a.draft in
      subst (λ o. Carries (elim o [ None ↦ [] | Some k ↦ out_of_loop k ]) (old a.spot) new)
      (sym on.found)
      (subst (λ b. Carries (out_of_loop l) b new) (sym (removable_is (old a.spot) l on.found).is)
      (subst (λ d. Carries (out_of_loop l) (block_of l) (or_pass (around a.spot) d)) on.made
      (body_carried (around a.spot) l)))
      );
  apart = λ a is. apart_there (removable (old a.spot));
}
  where
    apart_there : (o : Option Loop)
        → are_apart (elim o [ None ↦ [] | Some k ↦ out_of_loop k ]) ≡ true
    apart_there None = refl
    apart_there (Some l) = refl
