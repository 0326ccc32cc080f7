-- The rule that joins two loops is lawful, and carries the first.
use Rattle.std.proofs.Common.{◌≡◌, ℕ, ℤ, pos, ◌+ℤ◌, ◌==◌, ◌&&◌, ◌||◌, Bool, true, false, length}
use Rattle.std.proofs.Common.{Option, Some, None, refl, sym, ap, ap₂, ◌∙◌, subst}
use Rattle.std.specs.Prelude.{nat_le, if◌then◌else◌, option_and_then, option_map}
use Rattle.exo_tree.specs.Tree.{Lit, Le, Statement, Assign, Reduce, Config, Pass, If, For, Alloc}
use Rattle.exo_tree.specs.Tree.{View, Call, Block, end, next, Procedure}
use Rattle.exo_tree.specs.Context.{Here, fill}
use Rattle.exo_tree.specs.Places.{Opened, opened}
use Rattle.exo_meaning.specs.State.{State}
use Rattle.exo_meaning.specs.Run.{run}
use Rattle.exo_meaning.specs.Inputs.{IsAdmissible}
use Rattle.exo_meaning.specs.Orders.{Each}
use Rattle.exo_meaning.specs.Units.{field_kind, is_block, is_statement}
use Rattle.exo_meaning.specs.Unseen.{in_control as uses, in_block as mentions}
use Rattle.exo_meaning.proofs.Frame.{or_parts}
use Rattle.meaning_laws.specs.Context.{ComesTo}
use Rattle.meaning_laws.specs.Facts.{Fact, Holds, IsTrueAt}
use Rattle.meaning_laws.specs.FreshCopies.{IsBelow, StandsAt, MayCopy}
use Rattle.meaning_laws.specs.Scoped.{has_binder}
use Rattle.meaning_laws.specs.Substitute.{is_plain}
use Rattle.meaning_laws.proofs.CopiesAtPlaces.{places_may_copy, old_is_made}
use Rattle.meaning_laws.proofs.Substitute.{and_parts}
use Rattle.place_laws.specs.Scope.Roots.{own_roots_at}
use Rattle.place_laws.proofs.OfScope.SamePlace.{first_place}
use Rattle.affine_forms.specs.Forms.{is_affine}
use Rattle.affine_places.specs.Agreement.{agree, agreement_fits}
use Rattle.affine_places.specs.Readings.{extent_reading}
use Rattle.affine_places.specs.Roots.{variables}
use Rattle.tree_edits.specs.Made.Ids.{next_id}
use Rattle.tree_edits.specs.Made.Passes.{or_pass}
use Rattle.check_laws.specs.Facts.Laws.{ComesToPlace}
use Rattle.cursor_forward.specs.Causes.{WrongShape, Form, WideNumber}
use Rattle.cursor_forward.specs.Shifts.{stays}
use Rattle.cursor_forward.specs.Forwards.{Carries, are_apart}
use Rattle.place_laws.specs.Order.TurnsOfTwo.{Loop}
use Rattle.step_rules.specs.Rule.{Tried, Got, Not, Piece, Says}
use Rattle.step_rules.specs.Answer.{then_try, opened_or_wrong}
use Rattle.step_rules.specs.Shapes.{tried}
use Rattle.step_rules.specs.Lawful.{IsMet, Site, IsSite, AtHole, around, old, world_of, same}
use Rattle.step_rules.specs.Lawful.{scope_here, callees_for, IsLawful, IsCarrying}
use Rattle.step_rules.proofs.Meaning.{ids_are_below}
use Rattle.step_rules.proofs.Proposals.{unless_got}
use Rattle.step_rules.proofs.Shapes.{made_of, or_pass_next}
use Rattle.loop_laws.specs.Shapes.{loop_in, listed_of}
use Rattle.loop_laws.specs.Bounds.{bounds_differ}
use Rattle.loop_laws.proofs.Bounds.{bounds_agree}
use Rattle.loop_laws.proofs.Sites.{found_then, block_of, is_below, bounds_plain, loop_lacks}
use Rattle.loop_laws.proofs.Sites.{lacking_loop, given_unused}
use Rattle.loop_laws.proofs.UnrollLoop.{then_got, same_got}
use Rattle.loop_laws.specs.JoinLoops.{have_one_body, meet_in_variables}
use Rattle.loop_laws.specs.Nest.Fuse.{Two, with_second, two_of}
use Rattle.loop_laws.specs.JoinLoops.{with_one_body, where_they_meet, joining, joined_loop, join_needs}
use Rattle.loop_laws.specs.JoinLoops.{joining_at, join_rule}
use Rattle.loop_laws.proofs.JoinLoops.{numbers_agree, one_turn, join_same}

-- ---- what is read

same_some : {T : Type 0} {x y : T} → Some x ≡ Some y → x ≡ y
same_some h = cc

abbrev loop_statement : Loop → Statement
loop_statement l = For l.binder l.lo l.hi l.body

abbrev two_loops : Two → Block
two_loops n = next (loop_statement n.first) (block_of n.second)

loop_in_is : (a : Statement) (l : Loop) → loop_in a ≡ Some l → a ≡ loop_statement l
loop_in_is (Assign x is e) l h = cc
loop_in_is (Reduce x is e) l h = cc
loop_in_is (Config f a) l h = cc
loop_in_is Pass l h = cc
loop_in_is (If c a b) l h = cc
loop_in_is (For i lo hi b) l h = ap loop_statement (same_some h)
loop_in_is (Alloc x cell dims memory) l h = cc
loop_in_is (View w x coords) l h = cc
loop_in_is (Call k args) l h = cc

neighbours_are : (b : Block) (n : Two) → two_of b ≡ Some n → b ≡ two_loops n
neighbours_are end n h = cc
neighbours_are (next a end) n h = cc
neighbours_are (next a (next b end)) n h =
    let k = found_then (loop_in a) (with_second b) n h in
    by (loop_in b) refl k.0 k.1 k.2
  where
    by : (o : Option Loop) → loop_in b ≡ o → (k : Loop) → loop_in a ≡ Some k
        → option_map (λ (l : Loop). record { first = k; second = l }) o ≡ Some n
        → next a (next b end) ≡ two_loops n
    by None e k f g = cc
    by (Some l) e k f g =
        ap₂ (λ s t. next s (next t end)) (loop_in_is a k f) (loop_in_is b l e)
        ∙ ap two_loops (same_some g)
neighbours_are (next a (next b (next c rest))) n h = cc

record IsJoining (base : ℕ) (b : Block) (n : Two) : Type 0 where
  is : b ≡ two_loops n
  alike : have_one_body base n ≡ true
  lo : is_affine variables n.second.lo ≡ true
  hi : is_affine variables n.first.hi ≡ true
  meet : agree extent_reading n.second.lo n.first.hi ≡ true

with_one_body_is : (base : ℕ) (m n : Two) → with_one_body base m ≡ Some n
    → (m ≡ n) × (have_one_body base m ≡ true) × (meet_in_variables m ≡ true)
with_one_body_is base m n h = by (have_one_body base m) (meet_in_variables m) refl refl h
  where
    by : (s t : Bool) → have_one_body base m ≡ s → meet_in_variables m ≡ t
        → (if s && t then Some m else None) ≡ Some n
        → (m ≡ n) × (have_one_body base m ≡ true) × (meet_in_variables m ≡ true)
    by true true p q h = (same_some h, p, q)
    by true false p q h = cc
    by false t p q h = cc

where_they_meet_is : (m n : Two) → where_they_meet m ≡ Got n
    → (m ≡ n) × (agree extent_reading m.second.lo m.first.hi ≡ true)
where_they_meet_is m n h =
    let u = unless_got (bounds_differ m.second.lo m.first.hi) (Got m) n h in
    (same_got u.1, bounds_agree m.second.lo m.first.hi u.0)

joining_found : (base : ℕ) (b : Block) (n : Two) → joining base b ≡ Got n
    → IsJoining base b n
joining_found base b n h =
    let read = option_and_then (with_one_body base) (two_of b) in
    let t = then_got (tried read (λ m. m)) where_they_meet n h in
    let w = where_they_meet_is t.0 n t.2 in
    let o = made_of read (λ m. m) t.0 t.1 in
    let f = found_then (two_of b) (with_one_body base) o.of o.found in
    let k = with_one_body_is base f.0 o.of f.2 in
    let all : f.0 ≡ n = k.0 ∙ o.made ∙ w.0 in
    let v = subst (λ m. meet_in_variables m ≡ true) all k.2 in
    let p = and_parts (is_affine variables n.second.lo) (is_affine variables n.first.hi) v in
    record {
      is = neighbours_are b f.0 f.1 ∙ ap two_loops all;
      alike = subst (λ m. have_one_body base m ≡ true) all k.1;
      lo = p.0;
      hi = p.1;
      meet = subst (λ m. agree extent_reading m.second.lo m.first.hi ≡ true) w.0 w.1;
    }

-- ---- at its place

or_right : (a t : Bool) → t ≡ true → a || t ≡ true
or_right true t h = refl
or_right false t h = h

or_left : (a t : Bool) → a || false ≡ true → a || t ≡ true
or_left true t h = refl
or_left false t h = cc

module _ (a : Site) (is : IsSite join_rule a) (n : Two)
    (known : IsJoining (next_id a.spot.target.proc) (old a.spot) n) where
  abbrev p : Procedure
  p = a.spot.target.proc

  abbrev base : ℕ
  base = next_id p

  abbrev both : Block
  both = two_loops n

  below : IsBelow base p
  below = is_below (record a { base = base }) is.spot (ids_are_below p)

  body_is : p.body ≡ fill (around a.spot) both
  body_is = is.spot.body ∙ ap (fill (around a.spot)) known.is

  low : (mentions (nat_le base) (block_of n.first) ≡ false)
      × (mentions (nat_le base) (block_of n.second) ≡ false)
  low =
      let made = old_is_made p (around a.spot) both base below body_is in
      let inner = uses (nat_le base) n.first.hi || mentions (nat_le base) n.first.body in
      let first = nat_le base n.first.binder.id || (uses (nat_le base) n.first.lo || inner) in
      let q = or_parts first (mentions (nat_le base) (block_of n.second)) made.low in
      (ap (λ t. t || false) q.0, q.1)

  turn_low : (l : Loop) (z : ℤ) → mentions (nat_le base) (block_of l) ≡ false
      → mentions (nat_le base) (one_turn z l) ≡ false
  turn_low l z h =
      let k = loop_lacks (nat_le base) l h in
      lacking_loop (nat_le base) (record l { lo = Lit z; hi = Lit (z +ℤ pos 1) })
      (record { binder = k.binder; lo = refl; hi = refl; body = k.body })

  module _ {first u : State} (good : IsAdmissible (world_of a.spot) p first)
      (come : ComesTo (world_of a.spot) (old a.spot) (around a.spot) first u) where
    stands : StandsAt (world_of a.spot) p (around a.spot) both u
    stands = record {
      body = body_is;
      first = first;
      good = good;
      comes = subst (λ b. ComesTo (world_of a.spot) b (around a.spot) first u) known.is come;
    }

    turn_copied : (l : Loop) (z : ℤ) → mentions (nat_le base) (block_of l) ≡ false
        → ((x : ℕ) → has_binder (one_turn z l) x ≡ true → has_binder both x ≡ true)
        → MayCopy base (one_turn z l) u
    turn_copied l z h own =
        places_may_copy (world_of a.spot) p (around a.spot) both (one_turn z l) base u below stands
        own (given_unused base (one_turn z l) (turn_low l z h))

    first_copied : (z : ℤ) → MayCopy base (one_turn z n.first) u
    first_copied z =
        turn_copied n.first z low.0
        (λ x h. or_left ((x == n.first.binder.id) || has_binder n.first.body x)
        (has_binder (block_of n.second) x) h)

    second_copied : (z : ℤ) → MayCopy base (one_turn z n.second) u
    second_copied z =
        turn_copied n.second z low.1
        (λ x h. or_right ((x == n.first.binder.id) || has_binder n.first.body x)
        (has_binder (block_of n.second) x) h)

  -- the bounds of the second
  plain : (is_plain n.second.lo ≡ true) × (is_plain n.second.hi ≡ true)
  plain =
      let t = a.spot.target in
      let fields = field_kind t.unit.fields in
      let memories = length t.unit.memories in
      let scope = scope_here a.spot in
      let root = own_roots_at (around a.spot) in
      let l = n.second in
      let keeps = subst (λ b. is_block fields memories (callees_for t) scope root b ≡ true) known.is
      is.spot.well.piece in
      let rest =
      (and_parts (is_statement fields memories (callees_for t) scope root (loop_statement n.first)) _
      keeps).1 in
      bounds_plain fields memories (callees_for t) scope root l.binder l.lo l.hi l.body end rest

  count_is : a.spot.piece.count ≡ 2
  count_is =
      let o = then_got (opened_or_wrong (opened 2 is.at p.body))
      (λ (o : Opened).
      then_try (joining base o.piece) (λ m. Got (record { path = is.at; count = 2 })))
      a.spot.piece is.chosen in
      let q = then_got (joining base o.0.piece) (λ m. Got (record { path = is.at; count = 2 }))
      a.spot.piece o.2 in
      sym (ap (λ (r : Piece). r.count) (same_got q.2))

  -- what is said of its place is so there
  there : (fact : Fact) → IsMet a.spot.target (Says a.spot.piece.path fact)
      → AtHole a.spot (λ u. IsTrueAt u.scene fact)
  there fact met first u good come known_there =
      let opens : opened 2 a.spot.piece.path p.body ≡ Some a.spot.opened =
      subst (λ k. opened k a.spot.piece.path p.body ≡ Some a.spot.opened) count_is is.spot.opens in
      let i = first_place 1 a.spot.piece.path p.body a.spot.opened opens in
      met first u good (
      subst (λ o. ComesToPlace (world_of a.spot) o first u) (sym i.1.there)
      ((i.1.same.comes (world_of a.spot) first u).0 come))

-- ---- the rule

pub join_is_lawful : IsLawful join_rule
join_is_lawful = record {
  replaces = λ a is versions met.
      let t = then_got (joining_at a.spot) (λ n. Got (joined_loop n)) a.draft is.drafted in
      let n = t.0 in
      let known = joining_found (next_id a.spot.target.proc) (old a.spot) n t.1 in
      let needs =
      subst (λ j. Each (IsMet a.spot.target) (listed_of (join_needs a.spot.piece.path) j)) t.1 met in
      same (λ first u good come stands.
      ap (λ b. run (world_of a.spot) b u) known.is
      ∙ join_same (world_of a.spot) (next_id a.spot.target.proc) n u
      (record {
        sound = stands.sound;
        alike = known.alike;
        first_copied = first_copied a is n known good come;
        second_copied = second_copied a is n known good come;
        plain_lo = (plain a is n known).0;
        plain_hi = (plain a is n known).1;
        meet = numbers_agree u.scene n.second.lo n.first.hi known.lo known.hi known.meet;
        above = there a is n known (Holds (Le n.first.lo n.first.hi)) needs.0 first u good come stands;
        below = there a is n known (Holds (Le n.second.lo n.second.hi)) needs.1.0 first u good come stands;
      })
      ∙ ap (λ b. run (world_of a.spot) b u) (same_got t.2));
}

-- ---- the first loop and its body stay

pub join_is_carrying : IsCarrying join_rule
join_is_carrying = record {
  carries = λ a is.
      let t = then_got (joining_at a.spot) (λ n. Got (joined_loop n)) a.draft is.drafted in
      let n = t.0 in
      let known = joining_found (next_id a.spot.target.proc) (old a.spot) n t.1 in
      let long = For n.first.binder n.first.lo n.second.hi n.first.body in
      subst (λ j. Carries (listed_of (λ m. stays 1) j) (old a.spot) (or_pass (around a.spot) a.draft))
      (sym t.1)
      (subst (λ b. Carries (stays 1) b (or_pass (around a.spot) a.draft)) (sym known.is)
      (subst (λ b. Carries (stays 1) (two_loops n) (or_pass (around a.spot) b)) (same_got t.2)
      (subst (Carries (stays 1) (two_loops n)) (sym (or_pass_next (around a.spot) long end)) (
        record {
          was = record { around = Here (block_of n.second); piece = next (loop_statement n.first) end };
          is = record { around = Here end; piece = next long end };
          before = refl;
          after = refl;
          alike = refl;
        },
        tt,
      ))));
  apart = λ a is. go (joining_at a.spot);
}
  where
    go : (j : Tried Two) → are_apart (listed_of (λ m. stays 1) j) ≡ true
    go (Got n) = refl
    go (Not cause) = refl
