-- The rule that removes a view is lawful.
use Rattle.std.proofs.Common.{◌≡◌, ◌≤◌, ℕ, zero, suc, ◌+◌, ◌==◌, Bool, true, false, not, ◌&&◌, ◌||◌, true≢false, arith}
use Rattle.std.proofs.Common.{List, [], ◌∷◌, length, Option, Some, None, refl, sym, ap, ap₂, ◌∙◌, subst}
use Rattle.std.proofs.Common.{eqb-true, eq-eqb}
use Rattle.std.specs.Prelude.{option_map, nat_lt}
use Rattle.std.specs.List.{list_all}
use Rattle.exo_tree.specs.Tree.{Kind, Coord, At, Span, Statement, Assign, Reduce, Config, Pass, If, For, Alloc, View}
use Rattle.exo_tree.specs.Tree.{Call, Block, end, next, statements, joined, Procedure}
use Rattle.exo_tree.specs.Context.{Context, Here, After, InLoop, InThen, InElse, rest_of}
use Rattle.exo_tree.specs.Places.{Path, Opened, opened, parted}
use Rattle.exo_meaning.specs.Run.{kinds_of}
use Rattle.exo_meaning.specs.Unseen.{in_control, in_coords}
use Rattle.exo_meaning.specs.Units.{Scope, plainly, has_rank, sort_in, spans, is_new, is_control, is_coord, is_window}
use Rattle.exo_meaning.specs.Units.{is_block, field_kind}
use Rattle.exo_meaning.proofs.Frame.{or_parts}
use Rattle.meaning_laws.specs.Copies.{IsFree}
use Rattle.meaning_laws.specs.Scoped.{is_not, is_param, is_scoped, step_is_scoped, has_binder, step_has_binder}
use Rattle.meaning_laws.specs.Sound.{binds}
use Rattle.meaning_laws.specs.Substitute.{has_variable}
use Rattle.meaning_laws.proofs.Binders.{binders_law, binder_new}
use Rattle.meaning_laws.proofs.Facts.{or_left, or_right}
use Rattle.meaning_laws.proofs.Parts.{some_injective}
use Rattle.meaning_laws.proofs.Scoped.{or_elim, not_true, not_false, control_open}
use Rattle.meaning_laws.proofs.Substitute.{and_parts}
use Rattle.meaning_laws.proofs.WellFormed.{well_scoped, plain_of}
use Rattle.inplace_laws.specs.InlineWindow.{is_name}
use Rattle.inplace_laws.specs.Windows.{are_plain, coords_have, in_block as with_window, in_statement as window_in}
use Rattle.match_laws.specs.Inline.InlineWindowRule.{Viewed, viewed_in, as_window, behind_first, window_piece}
use Rattle.match_laws.specs.Inline.InlineWindowRule.{window_draft, MayRemoveView}
use Rattle.match_laws.proofs.OfInline.InlineWindowRule as landed
use Rattle.tree_edits.specs.Made.Passes.{or_pass}
use Rattle.place_laws.specs.Scope.Holes.{with_rest, roots_at}
use Rattle.place_laws.proofs.OfScope.SamePlace.{same_place}
use Rattle.place_laws.proofs.OfScope.Scopes.{joined_end}
use Rattle.cursor_forward.specs.Forwards.{Conditional, Loop, Joint, more, none, bone, bones, Carries}
use Rattle.cursor_forward.specs.Shifts.{at_index}
use Rattle.step_rules.specs.Rule.{Spot, Piece, Got}
use Rattle.step_rules.specs.Lawful.{IsFormedHere, Site, IsSite, Replaces, whole, IsLawful, IsCarrying}
use Rattle.step_rules.specs.Lawful.{around, old, callees_for, scope_here, fields_at_exit}
use Rattle.step_rules.proofs.Shapes.{made_of, or_pass_next}
use Rattle.call_laws.specs.Calls.Names.Scopes.{bound_at}
use Rattle.call_laws.proofs.OfCalls.OfNames.Bound.{spot_scoped}
use Rattle.call_laws.proofs.OfCalls.OfNames.Mentions.{free_unmentioned}
use Rattle.call_laws.specs.Calls.InlineWindow.{window_moves, inline_window_rule, NothingFollows}
use Rattle.call_laws.specs.Calls.InlineWindow.{ViewsMayGo}

no_some : {A : Type 0} (a : A) → None ≡ Some a → ⊥
no_some a e = cc

-- ---- what follows

joined_count : (a b : Block)
    → length (statements (joined a b)) ≡ length (statements a) + length (statements b)
joined_count end b = omega arith
joined_count (next s a) b = let h = joined_count a b in omega arith

parted_count : (n : ℕ) (b : Block) (p : Block × Block) → parted n b ≡ Some p
    → length (statements b) ≡ n + length (statements p.1)
parted_count zero b p e =
    let same : (end, b) ≡ p = some_injective (end, b) p e in
    let h : length (statements b) ≡ length (statements p.1) =
    ap (λ (q : Block × Block). length (statements q.1)) same in
    omega arith
parted_count (suc n) end p e = absurd (no_some p e)
parted_count (suc n) (next a b) p e = go (parted n b) (parted_count n b) e
  where
    go : (o : Option (Block × Block))
        → ((q : Block × Block) → o ≡ Some q → length (statements b) ≡ n + length (statements q.1))
        → option_map (λ (q : Block × Block). (next a q.0, q.1)) o ≡ Some p
        → suc (length (statements b)) ≡ suc n + length (statements p.1)
    go None below f = absurd (no_some p f)
    go (Some q) below f =
        let same : (next a q.0, q.1) ≡ p = some_injective (next a q.0, q.1) p f in
        let h : length (statements q.1) ≡ length (statements p.1) =
        ap (λ (r : Block × Block). length (statements r.1)) same in
        let k = below q refl in
        omega arith

rest_put : (c : Context) (rest : Block) → rest_of (with_rest c rest) ≡ rest
rest_put (Here r) rest = refl
rest_put (After a c) rest = rest_put c rest
rest_put (InLoop i lo hi c r) rest = rest_put c rest
rest_put (InThen t c other r) rest = rest_put c rest
rest_put (InElse t other c r) rest = rest_put c rest

none_left : (b : Block) → length (statements b) ≡ 0 → b ≡ end
none_left end h = refl
none_left (next a b) h = absurd (omega arith)

pub nothing_follows : NothingFollows
nothing_follows path body i o first all =
    let n = 1 + length (statements (rest_of i.around)) in
    let low : 1 ≤ n = omega arith in
    let high : n ≤ n = omega arith in
    let one = same_place 1 n path body o low all in
    let every = same_place n n path body o high all in
    let p = one.0 in
    let q = every.0 in
    let is_start : record { around = with_rest o.around (joined p.1 (rest_of o.around)); piece = p.0 } ≡ i =
    some_injective _ i (sym one.1.there ∙ first) in
    let follows : rest_of i.around ≡ joined p.1 (rest_of o.around) =
    sym (ap (λ (j : Opened). rest_of j.around) is_start)
    ∙ rest_put o.around (joined p.1 (rest_of o.around)) in
    let a : length (statements (rest_of i.around)) ≡ length (statements p.1) + length (statements (rest_of o.around)) =
    ap (λ (b : Block). length (statements b)) follows ∙ joined_count p.1 (rest_of o.around) in
    let b : length (statements o.piece) ≡ 1 + length (statements p.1) = parted_count 1 o.piece p one.1.parts in
    let c : length (statements o.piece) ≡ n + length (statements q.1) = parted_count n o.piece q every.1.parts in
    none_left (rest_of o.around) (omega arith)

-- ---- what a window in the place of a name keeps

module _ (w : ℕ) (t : _) where
  mutual
    pub same_binders : (b : Block) (x : ℕ) → has_binder (with_window w t b) x ≡ has_binder b x
    same_binders end x = refl
    same_binders (next a b) x = ap₂ ◌||◌ (same_below a x) (same_binders b x)

    same_below : (a : Statement) (x : ℕ) → step_has_binder (window_in w t a) x ≡ step_has_binder a x
    same_below (Assign y is e) x = refl
    same_below (Reduce y is e) x = refl
    same_below (Config f a) x = refl
    same_below Pass x = refl
    same_below (If c a b) x = ap₂ ◌||◌ (same_binders a x) (same_binders b x)
    same_below (For i lo hi b) x = ap (λ u. (x == i.id) || u) (same_binders b x)
    same_below (Alloc y cell dims memory) x = refl
    same_below (View v y cs) x = refl
    same_below (Call k args) x = refl

  mutual
    pub same_bones : (b : Block) → bones (with_window w t b) ≡ bones b
    same_bones end = refl
    same_bones (next a b) = ap₂ more (same_bone a) (same_bones b)

    same_bone : (a : Statement) → bone (window_in w t a) ≡ bone a
    same_bone (Assign y is e) = refl
    same_bone (Reduce y is e) = refl
    same_bone (Config f a) = refl
    same_bone Pass = refl
    same_bone (If c a b) = ap₂ (Joint Conditional) (same_bones a) (same_bones b)
    same_bone (For i lo hi b) = ap (λ k. Joint Loop k none) (same_bones b)
    same_bone (Alloc y cell dims memory) = refl
    same_bone (View v y cs) = refl
    same_bone (Call k args) = refl

  pub same_count : (b : Block) → length (statements (with_window w t b)) ≡ length (statements b)
  same_count end = refl
  same_count (next a b) = ap suc (same_count b)

-- ---- coordinates

pub plain_coords : (fields : ℕ → Option Kind) (scope : Scope) (cs : List Coord)
    → list_all (is_coord fields scope) cs ≡ true → are_plain cs ≡ true
plain_coords fields scope [] h = refl
plain_coords fields scope (At a ∷ cs) h =
    let p = and_parts (is_control fields plainly scope a) (list_all (is_coord fields scope) cs) h in
    ap₂ ◌&&◌ (plain_of fields scope a p.0) (plain_coords fields scope cs p.1)
plain_coords fields scope (Span a b ∷ cs) h =
    let p = and_parts (is_control fields plainly scope a && is_control fields plainly scope b)
    (list_all (is_coord fields scope) cs) h in
    let q = and_parts (is_control fields plainly scope a) (is_control fields plainly scope b) p.0 in
    ap₂ ◌&&◌ (plain_of fields scope a q.0)
    (ap₂ ◌&&◌ (plain_of fields scope b q.1) (plain_coords fields scope cs p.1))

pub coords_open : (hidden : ℕ → Bool) (y : ℕ) (cs : List Coord) → in_coords hidden cs ≡ false
    → coords_have cs y ≡ true → hidden y ≡ false
coords_open hidden y [] h k = absurd (true≢false (sym k))
coords_open hidden y (At a ∷ cs) h k =
    let p = or_parts (in_control hidden a) (in_coords hidden cs) h in
    or_elim (has_variable a y) (coords_have cs y) k (control_open hidden y a p.0)
    (coords_open hidden y cs p.1)
coords_open hidden y (Span a b ∷ cs) h k =
    let p = or_parts (in_control hidden a) (in_control hidden b || in_coords hidden cs) h in
    let q = or_parts (in_control hidden b) (in_coords hidden cs) p.1 in
    or_elim (has_variable a y) (has_variable b y || coords_have cs y) k (control_open hidden y a p.0)
    (λ e. or_elim (has_variable b y) (coords_have cs y) e (control_open hidden y b q.0)
    (coords_open hidden y cs q.1))

-- ---- a view may go

pub not_if : (t : Bool) → (t ≡ true → ⊥) → t ≡ false
not_if true h = absurd (h refl)
not_if false h = refl

pub views_may_go : ViewsMayGo
views_may_go s v b is was last formed = record {
  last = last;
  free = free;
  other = not_if (v.buffer == v.binder.id)
      (λ e. true≢false (sym root.0 ∙ ap bound (eqb-true v.buffer v.binder.id e) ∙ new));
  plain = plain;
  own = not_bound_behind v.binder.id
      (or_left (v.binder.id == v.binder.id) (bound v.binder.id) (eq-eqb v.binder.id v.binder.id refl));
  root = not_bound_behind v.buffer (or_right (v.buffer == v.binder.id) (bound v.buffer) root.0);
  variables = λ y e. not_bound_behind y (or_right (y == v.binder.id) (bound y)
      (not_false (bound y) (coords_open (is_not bound) y v.coords (not_true _ root.1) e)));
  gone = free_unmentioned s (with_window v.binder.id (as_window v) b) (is_name v.binder.id) formed
      (λ x e. subst (λ y. IsFree s.target.proc (around s) y) (sym (eqb-true x v.binder.id e)) free)
      (λ x e. not_if (x == v.binder.id)
      (λ f. true≢false (sym e ∙ same_binders v.binder.id (as_window v) b x
      ∙ ap (has_binder b) (eqb-true x v.binder.id f)
      ∙ not_bound_behind v.binder.id (or_left (v.binder.id == v.binder.id) (bound v.binder.id)
      (eq-eqb v.binder.id v.binder.id refl)))));
}
  where
    bound : ℕ → Bool
    bound = bound_at (around s) (is_param s.target.proc)

    view : Statement
    view = View v.binder v.buffer v.coords

    scoped : is_scoped (bound_at (around s) (is_param s.target.proc)) (next (View v.binder v.buffer v.coords) b) ≡ true
    scoped =
        subst (λ d. is_scoped (bound_at (around s) (is_param s.target.proc)) d ≡ true)
        (ap₂ joined was last ∙ ap (next (View v.binder v.buffer v.coords)) (joined_end b)) (spot_scoped s is)

    parts : (step_is_scoped bound view ≡ true) × (is_scoped (λ y. binds view y || bound y) b ≡ true)
    parts = and_parts (step_is_scoped bound view) (is_scoped (λ y. binds view y || bound y) b) scoped

    first : (not (bound v.binder.id) ≡ true)
        × ((bound v.buffer && not (in_coords (is_not bound) v.coords)) ≡ true)
    first = and_parts (not (bound v.binder.id))
        (bound v.buffer && not (in_coords (is_not bound) v.coords)) parts.0

    new : bound v.binder.id ≡ false
    new = not_true (bound v.binder.id) first.0

    root : (bound v.buffer ≡ true) × (not (in_coords (is_not bound) v.coords) ≡ true)
    root = and_parts (bound v.buffer) (not (in_coords (is_not bound) v.coords)) first.1

    not_bound_behind : (x : ℕ) → (binds view x || bound x) ≡ true → has_binder b x ≡ false
    not_bound_behind x e =
        not_if (has_binder b x)
        (λ k. true≢false (sym e ∙ binder_new (λ y. binds view y || bound y) b x parts.1 k))

    free : IsFree s.target.proc (around s) v.binder.id
    free =
        let unit = s.target.unit in
        binders_law s.target.proc (around s) (old s) v.binder.id
        (subst (λ d. is_scoped (is_param s.target.proc) d ≡ true) is.body
        (well_scoped (field_kind unit.fields) (length unit.memories) (callees_for s.target) s.target.proc
        is.runs.procedure).0)
        (ap (λ d. has_binder d v.binder.id) was
        ∙ or_left (v.binder.id == v.binder.id) (has_binder b v.binder.id) (eq-eqb v.binder.id v.binder.id refl))

    plain : are_plain v.coords ≡ true
    plain =
        let fields = field_kind s.target.unit.fields in
        let scope = scope_here s in
        let all : is_block fields (length s.target.unit.memories) (callees_for s.target) scope
        (roots_at (around s) (λ x. x)) (next (View v.binder v.buffer v.coords) b) ≡ true =
        subst (λ d. is_block fields (length s.target.unit.memories) (callees_for s.target) scope
        (roots_at (around s) (λ x. x)) d ≡ true) was is.well.piece in
        let one = and_parts (is_new scope v.binder
        && (is_window fields scope v.buffer v.coords && nat_lt 0 (spans v.coords))) _ all in
        let two = and_parts (is_new scope v.binder)
        (is_window fields scope v.buffer v.coords && nat_lt 0 (spans v.coords)) one.0 in
        let three = and_parts (is_window fields scope v.buffer v.coords) (nat_lt 0 (spans v.coords)) two.1 in
        plain_coords fields scope v.coords
        (and_parts (has_rank (length v.coords) (sort_in scope v.buffer))
        (list_all (is_coord fields scope) v.coords) three.0).1

-- ---- statements that move up

all_parted : (b : Block) → parted (length (statements b)) b ≡ Some (b, end)
all_parted end = refl
all_parted (next a b) = ap (option_map (λ (p : Block × Block). (next a p.0, p.1))) (all_parted b)

-- where nothing moves, a `pass` may stand
moved_up : (c : Context) (v : Viewed) (b : Block)
    → Carries (window_moves (next (View v.binder v.buffer v.coords) b))
    (next (View v.binder v.buffer v.coords) b)
    (or_pass c (with_window v.binder.id (as_window v) b))
moved_up c v end = (
  record {
    was = record { around = After (View v.binder v.buffer v.coords) (Here end); piece = end };
    is = record { around = Here (or_pass c end); piece = end };
    before = refl;
    after = refl;
    alike = refl;
  },
  tt,
)
moved_up c v (next a b) =
    let w = v.binder.id in
    let t = as_window v in
    let all = next a b in
    let view = View v.binder v.buffer v.coords in
    let made = with_window w t all in
    subst (λ d. Carries (window_moves (next view all)) (next view all) d)
    (sym (or_pass_next c (window_in w t a) (with_window w t b))) (
      record {
        was = record { around = After view (Here end); piece = all };
        is = record { around = Here end; piece = made };
        before =
            ap (option_map (λ (o : Opened). record { around = After view o.around; piece = o.piece }))
            (ap (option_map (λ (p : Block × Block). record { around = Here p.1; piece = p.0 })) (all_parted all));
        after =
            ap (λ n. opened n (at_index 0) made) (sym (same_count w t all))
            ∙ ap (option_map (λ (p : Block × Block). record { around = Here p.1; piece = p.0 })) (all_parted made);
        alike = sym (same_bones w t all);
      },
      tt,
    )

-- ---- the rule

viewed_is : (b : Block) (v : Viewed) → viewed_in b ≡ Some v
    → b ≡ next (View v.binder v.buffer v.coords) (behind_first b)
viewed_is end v e = absurd (no_some v e)
viewed_is (next (Assign x is d) b) v e = absurd (no_some v e)
viewed_is (next (Reduce x is d) b) v e = absurd (no_some v e)
viewed_is (next (Config f a) b) v e = absurd (no_some v e)
viewed_is (next Pass b) v e = absurd (no_some v e)
viewed_is (next (If c a d) b) v e = absurd (no_some v e)
viewed_is (next (For i lo hi d) b) v e = absurd (no_some v e)
viewed_is (next (Alloc x cell dims memory) b) v e = absurd (no_some v e)
viewed_is (next (View w x cs) b) v e =
    ap (λ (u : Viewed). next (View u.binder u.buffer u.coords) b)
    (some_injective (record { binder = w; buffer = x; coords = cs }) v e)
viewed_is (next (Call k args) b) v e = absurd (no_some v e)

draft_is : (b draft : Block) → window_draft b ≡ Some draft
    → (v : Viewed) × (viewed_in b ≡ Some v) × (with_window v.binder.id (as_window v) (behind_first b) ≡ draft)
draft_is b draft e = go (viewed_in b) refl e
  where
    go : (o : Option Viewed) → viewed_in b ≡ o
        → (elim o [
          | None ↦ None
          | Some v ↦ Some (with_window v.binder.id (as_window v) (behind_first b))
        ]) ≡ Some draft
        → (v : Viewed) × (viewed_in b ≡ Some v)
        × (with_window v.binder.id (as_window v) (behind_first b) ≡ draft)
    go None f h = absurd (no_some draft h)
    go (Some v) f h = (v, f, some_injective (with_window v.binder.id (as_window v) (behind_first b)) draft h)

record OnView (p : Procedure) (at : Path) (c : Piece) : Type 0 where
  first : Opened
  opens : opened 1 at p.body ≡ Some first
  path : c.path ≡ at
  count : c.count ≡ 1 + length (statements (rest_of first.around))

on_view : (p : Procedure) (at : Path) (c : Piece) → window_piece p at ≡ Some c → OnView p at c
on_view p at c e = go (opened 1 at p.body) refl e
  where
    inner : (o : Opened) → opened 1 at p.body ≡ Some o → (u : Option Viewed)
        → (elim u [
          | None ↦ None
          | Some v ↦ Some (record { path = at; count = 1 + length (statements (rest_of o.around)) })
        ]) ≡ Some c
        → OnView p at c
    inner o f None h = absurd (no_some c h)
    inner o f (Some v) h =
        let made : record { path = at; count = 1 + length (statements (rest_of o.around)) } ≡ c =
        some_injective (record { path = at; count = 1 + length (statements (rest_of o.around)) }) c h in
        record {
          first = o;
          opens = f;
          path = sym (ap (λ (d : Piece). d.path) made);
          count = sym (ap (λ (d : Piece). d.count) made);
        }

    go : (o : Option Opened) → opened 1 at p.body ≡ o
        → (elim o [
          | None ↦ None
          | Some k ↦ elim (viewed_in k.piece) [
            | None ↦ None
            | Some v ↦ Some (record { path = at; count = 1 + length (statements (rest_of k.around)) })
          ]
        ]) ≡ Some c
        → OnView p at c
    go None f h = absurd (no_some c h)
    go (Some o) f h = inner o f (viewed_in o.piece) h

pub got_same : {T : Type 0} (a b : T) → Got a ≡ Got b → a ≡ b
got_same a b e = cc

module _ (a : Site) (is : IsSite inline_window_rule a) where
  abbrev s : Spot
  s = a.spot

  found : (c : Piece) × (window_piece s.target.proc is.at ≡ Some c)
      × ((record { path = c.path; count = c.count }) ≡ s.piece)
  found =
      let m = made_of (window_piece s.target.proc is.at)
      (λ (p : Piece). p) s.piece is.chosen in
      (m.of, m.found, m.made)

  last : rest_of (around s) ≡ end
  last =
      let f = found in
      let on = on_view s.target.proc is.at f.0 f.1 in
      let path : s.piece.path ≡ is.at = sym (ap (λ (p : Piece). p.path) f.2) ∙ on.path in
      let count : s.piece.count ≡ 1 + length (statements (rest_of on.first.around)) =
      sym (ap (λ (p : Piece). p.count) f.2) ∙ on.count in
      nothing_follows is.at s.target.proc.body on.first s.opened on.opens
      (ap₂ (λ (n : ℕ) (at : Path). opened n at s.target.proc.body) (sym count) (sym path) ∙ is.spot.opens)

  drafted : window_draft (old s) ≡ Some a.draft
  drafted =
      let m = made_of (window_draft (old s)) (λ (b : Block). b) a.draft is.drafted in
      m.found ∙ ap (λ b. Some b) m.made

  plain_is : a.plain ≡ a.draft
  plain_is = got_same a.plain a.draft (sym is.made ∙ is.drafted)

  may_go : (v : Viewed) → viewed_in (old s) ≡ Some v
      → MayRemoveView s.target.proc (around s) v (behind_first (old s))
  may_go v e =
      let d = draft_is (old s) a.draft drafted in
      let same : d.0 ≡ v = some_injective d.0 v (sym d.1 ∙ e) in
      views_may_go s v (behind_first (old s)) is.spot (viewed_is (old s) v e) last
      (subst (IsFormedHere s)
      (plain_is ∙ sym d.2 ∙ ap (λ (u : Viewed). with_window u.binder.id (as_window u) (behind_first (old s))) same)
      is.formed)

  stands : Replaces s a.draft (fields_at_exit inline_window_rule a)
  stands =
      whole (landed.inline_window_rule (kinds_of s.target.unit.fields) s.target.unit.procedures s.target.proc
      s.piece.path s.piece.count s.opened a.draft is.spot.opens drafted may_go)

  goes : Carries (window_moves (old s)) (old s) (or_pass (around s) a.draft)
  goes =
      let d = draft_is (old s) a.draft drafted in
      let v = d.0 in
      subst (λ b. Carries (window_moves (old s)) (old s) (or_pass (around s) b)) d.2
      (subst (λ b. Carries (window_moves b) b
      (or_pass (around s) (with_window v.binder.id (as_window v) (behind_first (old s)))))
      (sym (viewed_is (old s) v d.1))
      (moved_up (around s) v (behind_first (old s))))

pub inline_window_is_lawful : IsLawful inline_window_rule
inline_window_is_lawful = record { replaces = λ a is versions met. stands a is }

pub inline_window_is_carrying : IsCarrying inline_window_rule
inline_window_is_carrying = record { carries = λ a is. goes a is; apart = λ a is. refl }
