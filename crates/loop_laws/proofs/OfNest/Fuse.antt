-- The rule that makes one loop of two neighbours is lawful.
use Rattle.std.proofs.Common.{◌≡◌, ◌≤◌, ℕ, Bool, true, false, true≢false, ◌==◌, ◌&&◌, ◌||◌, not, []}
use Rattle.std.proofs.Common.{◌∷◌, length, Option, Some, None, option_map, refl, sym, ap, ap₂, ◌∙◌}
use Rattle.std.proofs.Common.{subst, arith, inr}
use Rattle.std.specs.Prelude.{option_and_then, if◌then◌else◌, ◌+◌, nat_le}
use Rattle.exo_tree.specs.Tree.{Control, Var, For, Block, end, next, joined}
use Rattle.exo_tree.specs.Context.{Context, Here, After, InLoop, fill, rest_of}
use Rattle.exo_tree.specs.Places.{Opened, opened, opened_in, parted}
use Rattle.exo_tree.specs.Substitution.{replacing}
use Rattle.exo_meaning.specs.Inputs.{IsAdmissible}
use Rattle.exo_meaning.specs.Orders.{Each}
use Rattle.exo_meaning.specs.Run.{run}
use Rattle.exo_meaning.specs.State.{State}
use Rattle.exo_meaning.specs.Units.{Scope, field_kind, is_block, is_statement}
use Rattle.exo_meaning.specs.Unseen.{in_control, in_block as mentions, in_statement}
use Rattle.exo_meaning.proofs.Frame.{or_parts}
use Rattle.meaning_laws.specs.Context.{ComesTo}
use Rattle.meaning_laws.specs.Fields.{writes_field}
use Rattle.meaning_laws.specs.Scoped.{has_binder, is_scoped, is_param}
use Rattle.meaning_laws.specs.UnitFields.{unit_writes}
use Rattle.meaning_laws.proofs.Binders.{binders_law}
use Rattle.meaning_laws.proofs.Facts.{or_left, or_right}
use Rattle.meaning_laws.proofs.Parts.{map_gives}
use Rattle.meaning_laws.proofs.Substitute.{and_parts}
use Rattle.meaning_laws.proofs.WellFormed.{well_scoped}
use Rattle.place_laws.specs.Scope.Roots.{own_roots_at}
use Rattle.place_laws.specs.Scope.Scopes.{top_binders}
use Rattle.place_laws.proofs.OfScope.MayLeave.{may_leave_law, top_has}
use Rattle.affine_places.specs.Agreement.{agree}
use Rattle.affine_places.specs.Readings.{extent_reading}
use Rattle.tree_edits.specs.Made.Passes.{or_pass}
use Rattle.cursor_forward.specs.Shifts.{at_index, alone as alone_at, range}
use Rattle.cursor_forward.specs.Forwards.{AreCarried, Carries, are_apart}
use Rattle.place_laws.specs.Order.PartedLoops.{AreUnbound, bound_by, alone, MayFuse}
use Rattle.place_laws.specs.Order.TurnsOfTwo.{Loop, whole, in_a_row, AgreesAt, MayStart}
use Rattle.place_laws.proofs.OfOrder.PartedLoops.{fuse_law}
use Rattle.effect_laws.specs.Apart.{IsApartAt}
use Rattle.effect_laws.specs.Fits.{IsBlockThere, spot_of}
use Rattle.effect_laws.proofs.Fits.{halves_fit}
use Rattle.step_rules.specs.Rule.{Tried, Got, Not, Target, Piece}
use Rattle.step_rules.specs.Answer.{then_try, unless, opened_or_wrong}
use Rattle.step_rules.specs.Shapes.{tried}
use Rattle.step_rules.specs.Lawful.{IsMet, Site, IsSite, Stands, IsLawful, IsCarrying, same, around}
use Rattle.step_rules.specs.Lawful.{old, world_of, callees_for, scope_here}
use Rattle.step_rules.proofs.Proposals.{unless_got}
use Rattle.step_rules.proofs.Shapes.{made_of, or_pass_next}
use Rattle.loop_laws.specs.Shapes.{loop_in, listed_of, inside}
use Rattle.loop_laws.specs.Bounds.{bounds_differ}
use Rattle.loop_laws.proofs.Bones.{same_bones, same_length, all_parted}
use Rattle.loop_laws.proofs.Sites.{loop_of_is, found_then}
use Rattle.loop_laws.proofs.UnrollLoop.{then_got, same_got}
use Rattle.loop_laws.proofs.Bounds.{bounds_agree}
use Rattle.loop_laws.specs.Nest.Shapes.{header_of, size, step, in_loop}
use Rattle.loop_laws.specs.Nest.Fuse.{Two, with_second, two_of, both_are_affine, in_variables}
use Rattle.loop_laws.specs.Nest.Fuse.{where_they_agree, fusing, second_body, fused, fuse_conflict}
use Rattle.loop_laws.specs.Nest.Fuse.{fuse_needs, fuse_shifts, fuse_rule}
use Rattle.loop_laws.proofs.OfNest.Bounds.{agreeing_numbers}
use Rattle.loop_laws.proofs.OfNest.Parted.{behind_parted, second_opened}
use Rattle.place_laws.specs.Scope.Holes.{behind}
use Rattle.loop_laws.proofs.OfNest.Placed.{Placed, placed, comes_there, there}
use Rattle.loop_laws.proofs.OfNest.Rules.{LoopKeeps, loop_rules}
use Rattle.loop_laws.proofs.OfNest.Unwritten.{leaves_fields, piece_writes_none}

-- ---- what is read

same_some : {T : Type 0} {x y : T} → Some x ≡ Some y → x ≡ y
same_some h = cc

row_is : (b : Block) (p : Two) → two_of b ≡ Some p → b ≡ in_a_row p.first p.second
row_is end p h = cc
row_is (next a end) p h = cc
row_is (next a (next b end)) p h =
    let first = found_then (loop_in a) (with_second b) p h in
    let k = first.0 in
    let second =
    map_gives (loop_in b) (λ (l : Loop). record { first = k; second = l }) p first.2 in
    ap₂ joined (loop_of_is (next a end) k first.1) (loop_of_is (next b end) second.0 second.1)
    ∙ ap (λ (q : Two). in_a_row q.first q.second) second.2
row_is (next a (next b (next c rest))) p h = cc

pub record IsTwo (b : Block) (p : Two) : Type 0 where
  pub is : b ≡ in_a_row p.first p.second
  pub lo : agree extent_reading p.first.lo p.second.lo ≡ true
  pub hi : agree extent_reading p.first.hi p.second.hi ≡ true

in_variables_is : (p q : Two) → in_variables p ≡ Some q → p ≡ q
in_variables_is p q h = by (both_are_affine p) h
  where
    by : (t : Bool) → (if t then Some p else None) ≡ Some q → p ≡ q
    by true h = same_some h
    by false h = cc

two_is : (b : Block) (p : Two) → fusing b ≡ Got p → IsTwo b p
two_is b p h =
    let read = option_and_then in_variables (two_of b) in
    let t = then_got (tried read (λ q. q)) where_they_agree p h in
    let m = made_of read (λ q. q) t.0 t.1 in
    let f = found_then (two_of b) in_variables m.of m.found in
    let low = unless_got (bounds_differ t.0.first.lo t.0.second.lo)
    (unless (bounds_differ t.0.first.hi t.0.second.hi) (Got t.0)) p t.2 in
    let high = unless_got (bounds_differ t.0.first.hi t.0.second.hi) (Got t.0) p low.1 in
    let all : f.0 ≡ t.0 = in_variables_is f.0 m.of f.2 ∙ m.made in
    subst (IsTwo b) (same_got high.1) (record {
      is = row_is b f.0 f.1 ∙ ap (λ (q : Two). in_a_row q.first q.second) all;
      lo = bounds_agree t.0.first.lo t.0.second.lo low.0;
      hi = bounds_agree t.0.first.hi t.0.second.hi high.0;
    })

-- what is drafted
pub record IsFused (b made : Block) : Type 0 where
  pub of : Two
  pub found : fusing b ≡ Got of
  pub two : IsTwo b of
  pub made_is : fused of ≡ made

pub is_fused : (b made : Block) → then_try (fusing b) (λ p. Got (fused p)) ≡ Got made
    → IsFused b made
is_fused b made h =
    let t = then_got (fusing b) (λ p. Got (fused p)) made h in
    record { of = t.0; found = t.1; two = two_is b t.0 t.1; made_is = same_got t.2 }

-- ---- at its place

-- a block binds what it leaves
pub top_in : (b : Block) (x : ℕ) → top_binders b x ≡ true → has_binder b x ≡ true
top_in b x h = by (has_binder b x) refl
  where
    by : (t : Bool) → has_binder b x ≡ t → t ≡ true
    by true e = refl
    by false e = absurd (true≢false (sym h ∙ top_has b x e))

module _ (a : Site) (is : IsSite fuse_rule a) (p : Two) (two : IsTwo (old a.spot) p)
    (count : a.spot.piece.count ≡ 2) where
  abbrev k : Loop
  k = p.first

  abbrev l : Loop
  l = p.second

  abbrev t : Target
  t = a.spot.target

  abbrev scope : Scope
  scope = scope_here a.spot

  abbrev root : ℕ → ℕ
  root = own_roots_at (around a.spot)

  abbrev Keeps : Loop → Type 0
  Keeps m =
      LoopKeeps (field_kind t.unit.fields) (length t.unit.memories) (callees_for t) scope root m

  abbrev IsThere : Loop → Type 0
  IsThere m =
      is_statement (field_kind t.unit.fields) (length t.unit.memories) (callees_for t) scope root
      (whole m) ≡ true

  row_keeps : is_block (field_kind t.unit.fields) (length t.unit.memories) (callees_for t) scope
      root (in_a_row k l) ≡ true
  row_keeps =
      subst (λ b. is_block (field_kind t.unit.fields) (length t.unit.memories) (callees_for t) scope
      root b ≡ true) two.is is.spot.well.piece

  both_there : IsThere k × IsThere l
  both_there =
      let q =
      and_parts (is_statement (field_kind t.unit.fields) (length t.unit.memories) (callees_for t)
      scope root (whole k)) _ row_keeps in (
        q.0,
        (and_parts (is_statement (field_kind t.unit.fields) (length t.unit.memories) (callees_for t)
            scope root (whole l)) _ q.1).0,
      )

  loop_keeps : (m : Loop) → IsThere m → Keeps m
  loop_keeps m h =
      loop_rules (field_kind t.unit.fields) (length t.unit.memories) (callees_for t) scope root m h

  first_keeps : Keeps k
  first_keeps = loop_keeps k both_there.0

  second_keeps : Keeps l
  second_keeps = loop_keeps l both_there.1

  agrees : (u : State) → AgreesAt u.scene k l
  agrees u =
      let fields = field_kind t.unit.fields in (
        agreeing_numbers fields scope u.scene k.lo l.lo first_keeps.lo second_keeps.lo two.lo,
        agreeing_numbers fields scope u.scene k.hi l.hi first_keeps.hi second_keeps.hi two.hi,
      )

  -- ---- names

  some : 1 ≤ a.spot.piece.count
  some = omega (arith, count)

  at : Placed a.spot
  at = placed a.spot is.spot some

  abbrev more_behind : Block
  more_behind = next (whole l) (rest_of (around a.spot))

  pieces : ◌≡◌ {A = Option (Block × Block)} (Some (alone k, alone l))
      (Some (at.first.piece, at.more))
  pieces = sym (ap (parted 1) two.is) ∙ at.parts_of

  first_is : at.first.piece ≡ alone k
  first_is = sym (ap (λ (q : Block × Block). q.0) (same_some pieces))

  rest_is : rest_of at.first.around ≡ more_behind
  rest_is =
      at.rest
      ∙ ap (λ b. joined b (rest_of (around a.spot)))
      (sym (ap (λ (q : Block × Block). q.1) (same_some pieces)))

  -- what follows the first loop uses no name of it
  unused : mentions (bound_by k) more_behind ≡ false
  unused =
      subst (λ b. mentions (bound_by k) b ≡ false) rest_is
      (may_leave_law (field_kind t.unit.fields) (length t.unit.memories) (callees_for t) t.proc
      at.first.around (alone k) (bound_by k) is.spot.runs.procedure
      (is.spot.body ∙ sym at.body ∙ ap (fill at.first.around) first_is)
      (λ x h. inr (bound_in x h, refl))).unused
    where
      bound_in : (x : ℕ) → bound_by k x ≡ true → has_binder (alone k) x ≡ true
      bound_in x h =
          or_left ((x == k.binder.id) || has_binder k.body x) false
          (by (x == k.binder.id) h)
        where
          by : (t : Bool) → (t || top_binders k.body x) ≡ true → (t || has_binder k.body x) ≡ true
          by true h = refl
          by false h = top_in k.body x h

  body_unused : mentions (bound_by k) l.body ≡ false
  body_unused =
      let h = or_parts (in_statement (bound_by k) (whole l)) _ unused in
      let b = or_parts (bound_by k l.binder.id) _ h.0 in
      let lo = or_parts (in_control (bound_by k) l.lo) _ b.1 in
      (or_parts (in_control (bound_by k) l.hi) (mentions (bound_by k) l.body) lo.1).1

  scoped : is_scoped (is_param t.proc) (fill (around a.spot) (in_a_row k l)) ≡ true
  scoped =
      subst (λ b. is_scoped (is_param t.proc) b ≡ true)
      (is.spot.body ∙ ap (fill (around a.spot)) two.is)
      (well_scoped (field_kind t.unit.fields) (length t.unit.memories) (callees_for t) t.proc
      is.spot.runs.procedure).0

  unbound : (u : State) → Stands a.spot u → AreUnbound (top_binders k.body) u
  unbound u stands x h =
      stands.free x
      (binders_law t.proc (around a.spot) (in_a_row k l) x scoped
      (or_left ((x == k.binder.id) || has_binder k.body x) _
      (or_right (x == k.binder.id) (has_binder k.body x) (top_in k.body x h))))

  -- ---- the bodies

  abbrev first_body : Opened
  first_body = record {
    around = InLoop k.binder k.lo k.hi (Here end) (alone l);
    piece = k.body;
  }

  abbrev other_body : Opened
  other_body = record {
    around = After (whole k) (InLoop l.binder l.lo l.hi (Here end) end);
    piece = l.body;
  }

  abbrev in_that : Loop → Block → Opened → Opened
  in_that m rest o = record { around = InLoop m.binder m.lo m.hi o.around rest; piece = o.piece }

  abbrev here : Block × Block → Opened
  here q = record { around = Here q.1; piece = q.0 }

  first_opens : opened_in (size k.body) (step 0 ∷ step 0 ∷ []) (old a.spot) ≡ Some first_body
  first_opens =
      ap (opened_in (size k.body) (step 0 ∷ step 0 ∷ [])) two.is
      ∙ ap (λ o. option_map (in_that k (alone l)) (option_map here o)) (all_parted k.body)

  second_opens : opened_in (size l.body) (step 1 ∷ step 0 ∷ []) (old a.spot) ≡ Some other_body
  second_opens =
      ap (opened_in (size l.body) (step 1 ∷ step 0 ∷ [])) two.is
      ∙ ap (λ o. option_map (λ (q : Opened). record { around = After (whole k) q.around; piece = q.piece })
      (option_map (in_that l end) (option_map here o))) (all_parted l.body)

  first_there : IsBlockThere t.unit t.proc a.spot.piece.path
      (fuse_conflict a.spot.piece.path p).second k.body
  first_there =
      there a.spot is.spot at (step 0) (step 0 ∷ []) (size k.body) (header_of k ∷ []) first_body root
      first_opens
      (ap₂ ◌&&◌ first_keeps.new (ap₂ ◌&&◌ (ap₂ ◌&&◌ first_keeps.lo first_keeps.hi) refl))
      first_keeps.body (λ x parts h. refl)

  second_there : IsBlockThere t.unit t.proc a.spot.piece.path
      (fuse_conflict a.spot.piece.path p).first l.body
  second_there =
      there a.spot is.spot at (step 1) (step 0 ∷ []) (size l.body) (header_of l ∷ []) other_body root
      second_opens
      (ap₂ ◌&&◌ second_keeps.new (ap₂ ◌&&◌ (ap₂ ◌&&◌ second_keeps.lo second_keeps.hi) refl))
      second_keeps.body (λ x parts h. refl)

  -- ---- runs

  unwritten : (f : ℕ) → (writes_field (unit_writes t.unit.procedures) f k.body ≡ false)
      × (writes_field (unit_writes t.unit.procedures) f l.body ≡ false)
  unwritten f =
      let none =
      subst (λ b. writes_field (unit_writes t.unit.procedures) f b ≡ false) two.is
      (piece_writes_none a.spot is.spot is.allowed f) in
      let q = or_parts (writes_field (unit_writes t.unit.procedures) f k.body) _ none in
      (q.0, (or_parts (writes_field (unit_writes t.unit.procedures) f l.body) false q.1).0)

  starts : (u : State) → Stands a.spot u → MayStart (spot_of t.unit scope root) (in_a_row k l) u
  starts u stands = record {
    unit = is.spot.runs.unit;
    block = row_keeps;
    sound = stands.sound;
    sorted = stands.sorted;
  }

  may_fuse : (u : State) → Stands a.spot u → MayFuse (spot_of t.unit scope root) k l u
  may_fuse u stands = record {
    start = starts u stands;
    turns = record {
      agree = agrees u;
      first = leaves_fields t.unit k.body (λ f. (unwritten f).0);
      second = leaves_fields t.unit l.body (λ f. (unwritten f).1);
    };
    unused = body_unused;
    unbound = unbound u stands;
  }

  pub fused_same : IsApartAt t.unit t.proc a.spot.piece.path (fuse_conflict a.spot.piece.path p)
      → {start u : State} → IsAdmissible (world_of a.spot) t.proc start
      → ComesTo (world_of a.spot) (old a.spot) (around a.spot) start u → Stands a.spot u
      → run (world_of a.spot) (in_a_row k l) u ≡ run (world_of a.spot) (fused p) u
  fused_same apart {start} {u} good come stands =
      let place = a.spot.piece.path in
      fuse_law (spot_of t.unit scope root) k l u (may_fuse u stands)
      (halves_fit t.unit t.proc place (in_loop place 0 0) (in_loop place 1 0) (size k.body)
      (size l.body) k l scope root start u apart second_there first_there good
      (comes_there a.spot is.spot at start u come) (agrees u))

count_is : (a : Site) → IsSite fuse_rule a → a.spot.piece.count ≡ 2
count_is a is =
    let chosen = λ (p : Two). Got (record { path = is.at; count = 2 }) in
    let o = then_got (opened_or_wrong (opened 2 is.at a.spot.target.proc.body))
    (λ (o : Opened). then_try (fusing o.piece) chosen) a.spot.piece is.chosen in
    let q = then_got (fusing o.0.piece) chosen a.spot.piece o.2 in
    sym (ap (λ (r : Piece). r.count) (same_got q.2))

pub fuse_is_lawful : IsLawful fuse_rule
fuse_is_lawful = record {
  replaces = λ a is versions met. (
      let of = is_fused (old a.spot) a.draft is.drafted in
      let p = of.of in
      let needs = subst (λ o. Each (IsMet a.spot.target)
      (listed_of (fuse_needs a.spot.piece.path) o)) of.found met in
      let count = count_is a is in
      same (λ first u good come stands.
      ap (λ b. run (world_of a.spot) b u) of.two.is
      ∙ fused_same a is p of.two count needs.0 good come stands
      ∙ ap (λ b. run (world_of a.spot) b u) of.made_is)
      );
}

-- ---- where statements go

abbrev at_first : Block × Block → Opened
at_first q = record { around = Here q.1; piece = q.0 }

abbrev in_the : Loop → Block → Opened → Opened
in_the m rest o = record { around = InLoop m.binder m.lo m.hi o.around rest; piece = o.piece }

module _ (p : Two) (c : Context) where
  abbrev first : Loop
  first = p.first

  abbrev second : Loop
  second = p.second

  abbrev row : Block
  row = in_a_row first second

  abbrev both_bodies : Block
  both_bodies = joined first.body (second_body p)

  abbrev one : Loop
  one = record first { body = both_bodies }

  loop_goes : AreCarried (alone_at (at_index 0) (Some (at_index 0))) (at_index 0) row (fused p)
  loop_goes = record {
    was = at_first (alone first, alone second);
    is = at_first (fused p, end);
    before = refl;
    after = refl;
    alike = refl;
  }

  first_body_goes : AreCarried (range (inside 1) (size first.body) (Some (inside 1))) (inside 1) row
      (fused p)
  first_body_goes = record {
    was = in_the first (alone second) (at_first (first.body, end));
    is = in_the one end (at_first (first.body, second_body p));
    before =
        ap (λ o. option_map (in_the first (alone second)) (option_map at_first o))
        (all_parted first.body);
    after =
        ap (λ o. option_map (in_the one end) (option_map at_first o))
        (behind_parted first.body (second_body p));
    alike = refl;
  }

  second_body_goes : AreCarried (range (step 1 ∷ at_index 0) (size second.body)
      (Some (step 0 ∷ at_index (size first.body)))) (step 0 ∷ at_index (size first.body)) row
      (fused p)
  second_body_goes =
      let put = replacing second.binder.id (Var first.binder.id) in
      let many : size (second_body p) ≡ size second.body = same_length put second.body in
      record {
        was = record {
          around = After (whole first) (InLoop second.binder second.lo second.hi (Here end) end);
          piece = second.body;
        };
        is = in_the one end (record {
          around = behind first.body (Here end);
          piece = second_body p;
        });
        before =
            ap (λ o. option_map (λ (q : Opened). record {
              around = After (whole first) q.around;
              piece = q.piece;
            }) (option_map (in_the second end) (option_map at_first o))) (all_parted second.body);
        after =
            ap (option_map (in_the one end))
            (ap (λ n. opened_in n (step (size first.body) ∷ []) both_bodies) (sym many)
            ∙ second_opened first.body (second_body p));
        alike = sym (same_bones put second.body);
      }

  carried : Carries (fuse_shifts p) row (or_pass c (fused p))
  carried =
      subst (Carries (fuse_shifts p) row)
      (sym (or_pass_next c (For first.binder first.lo first.hi both_bodies) end))
      (loop_goes, (first_body_goes, (second_body_goes, tt)))

pub fuse_is_carrying : IsCarrying fuse_rule
fuse_is_carrying = record {
  carries = λ a is.
      let of = is_fused (old a.spot) a.draft is.drafted in
      let p = of.of in
      subst (λ o. Carries (listed_of fuse_shifts o) (old a.spot) (or_pass (around a.spot) a.draft))
      (sym of.found)
      (subst (λ b. Carries (fuse_shifts p) b (or_pass (around a.spot) a.draft)) (sym of.two.is)
      (subst (λ b. Carries (fuse_shifts p) (in_a_row p.first p.second) (or_pass (around a.spot) b))
      of.made_is (carried p (around a.spot))));
  apart = λ a is. go (fusing (old a.spot));
}
  where
    apart_of : (m n : ℕ) → are_apart (
        alone_at (at_index 0) (Some (at_index 0))
        ∷ range (inside 1) m (Some (inside 1))
        ∷ range (step 1 ∷ at_index 0) n (Some (step 0 ∷ at_index m))
        ∷ []) ≡ true
    apart_of m n =
        let reaches : nat_le (0 + m) m ≡ true = grind arith in
        ap (λ t. ((t || nat_le (m + n) 0) && true) && true) reaches

    go : (o : Tried Two) → are_apart (listed_of fuse_shifts o) ≡ true
    go (Not cause) = refl
    go (Got p) = apart_of (size p.first.body) (size p.second.body)
