-- The rule that exchanges a loop and the one loop in it is lawful.
use Rattle.std.proofs.Common.{◌≡◌, ◌≤◌, ℕ, Bool, true, false, ◌&&◌, not, if◌then◌else◌, []}
use Rattle.std.proofs.Common.{◌∷◌, length, Option, Some, None, option_map, refl, sym, ap, ap₂, ◌∙◌}
use Rattle.std.proofs.Common.{subst, arith}
use Rattle.std.specs.Prelude.{option_and_then}
use Rattle.exo_tree.specs.Tree.{Index, For, Block, end}
use Rattle.exo_tree.specs.Context.{Context, Here, InLoop}
use Rattle.exo_tree.specs.Places.{Opened, opened, opened_in}
use Rattle.exo_meaning.specs.Inputs.{IsAdmissible}
use Rattle.exo_meaning.specs.Scene.{then_do}
use Rattle.exo_meaning.specs.State.{State}
use Rattle.exo_meaning.specs.Run.{run}
use Rattle.exo_meaning.specs.Units.{Scope, ControlName, with_name, field_kind, is_block}
use Rattle.exo_meaning.specs.Units.{is_statement}
use Rattle.exo_meaning.specs.Orders.{Each}
use Rattle.exo_meaning.proofs.Frame.{or_parts}
use Rattle.meaning_laws.specs.Context.{ComesTo}
use Rattle.meaning_laws.specs.Fields.{writes_field}
use Rattle.meaning_laws.specs.UnitFields.{unit_writes}
use Rattle.meaning_laws.specs.NestsWithin.{BoundsAreApart}
use Rattle.meaning_laws.specs.Substitute.{has_variable}
use Rattle.meaning_laws.proofs.FirstState.{new_is_none}
use Rattle.meaning_laws.proofs.NestsWithin.{nests_from_footprints}
use Rattle.meaning_laws.proofs.Substitute.{and_parts}
use Rattle.meaning_laws.proofs.WellFormed.{plain_of}
use Rattle.place_laws.specs.Scope.PlacesCompose.{onward}
use Rattle.place_laws.specs.Scope.Roots.{own_roots_at}
use Rattle.place_laws.specs.Scope.UnrollLoop.{only_loop}
use Rattle.tree_edits.specs.Made.Passes.{or_pass}
use Rattle.cursor_forward.specs.Shifts.{at_index, alone, range}
use Rattle.cursor_forward.specs.Forwards.{AreCarried, Carries, are_apart}
use Rattle.place_laws.specs.Order.TurnsOfTwo.{Loop}
use Rattle.effect_laws.specs.Apart.{IsApartAt}
use Rattle.effect_laws.specs.Fits.{IsBlockThere}
use Rattle.effect_laws.proofs.Fits.{nests_fit}
use Rattle.step_rules.specs.Rule.{Target, Piece}
use Rattle.step_rules.specs.Lawful.{IsMet, Site, IsSite, Stands, IsLawful, IsCarrying, same}
use Rattle.step_rules.specs.Lawful.{around, old, world_of, callees_for, scope_here}
use Rattle.step_rules.proofs.Shapes.{made_of, or_pass_next}
use Rattle.loop_laws.specs.Shapes.{loop_of, inside}
use Rattle.loop_laws.proofs.Bones.{all_parted}
use Rattle.loop_laws.proofs.Sites.{block_of, loop_of_is, found_then, loop_keeps}
use Rattle.loop_laws.specs.Nest.Shapes.{header_of, size, step}
use Rattle.loop_laws.specs.Nest.ReorderLoops.{Nest, bounds_lack, with_inner, nest_of, turned}
use Rattle.loop_laws.specs.Nest.ReorderLoops.{turns_conflict, reorder_needs, reorder_shifts, of_nest}
use Rattle.loop_laws.specs.Nest.ReorderLoops.{reorder_rule}
use Rattle.loop_laws.proofs.OfNest.Placed.{placed, comes_there, there}
use Rattle.loop_laws.proofs.OfNest.Rules.{LoopKeeps, loop_rules, lacks_variable}
use Rattle.place_laws.proofs.OfScope.Narrower.{still_new}
use Rattle.loop_laws.proofs.OfNest.Unwritten.{leaves_fields, piece_writes_none}

-- ---- what is read

same_some : {T : Type 0} {x y : T} → Some x ≡ Some y → x ≡ y
same_some h = cc

pub record IsNest (b : Block) (n : Nest) : Type 0 where
  pub outer : b ≡ block_of n.outer
  pub inner : n.outer.body ≡ block_of n.inner
  pub lack : bounds_lack n.outer.binder.id n.inner ≡ true

pub nest_is : (b : Block) (n : Nest) → nest_of b ≡ Some n → IsNest b n
nest_is b n h =
    let first = found_then (loop_of b)
    (λ (k : Loop). option_and_then (with_inner k) (loop_of k.body)) n h in
    let k = first.0 in
    let second = found_then (loop_of k.body) (with_inner k) n first.2 in
    let l = second.0 in
    by k l (bounds_lack k.binder.id l) refl second.2 (loop_of_is b k first.1)
    (loop_of_is k.body l second.1)
  where
    by : (k l : Loop) (t : Bool) → bounds_lack k.binder.id l ≡ t
        → (if t then Some (record { outer = k; inner = l }) else None) ≡ Some n
        → b ≡ block_of k → k.body ≡ block_of l → IsNest b n
    by k l true e h outer inner =
        subst (IsNest b) (same_some h) (record { outer = outer; inner = inner; lack = e })
    by k l false e h outer inner = cc

not_false : (t : Bool) → not t ≡ true → t ≡ false
not_false true h = cc
not_false false h = refl

-- ---- at its place

-- what is known of the nest at a site
module _ (a : Site) (is : IsSite reorder_rule a) (n : Nest) (found : nest_of (old a.spot) ≡ Some n)
    (single : a.spot.piece.count ≡ 1) where
  abbrev k : Loop
  k = n.outer

  abbrev l : Loop
  l = n.inner

  abbrev t : Target
  t = a.spot.target

  abbrev scope : Scope
  scope = scope_here a.spot

  abbrev with_k : Scope
  with_k = with_name scope k.binder (ControlName Index)

  abbrev Keeps : Scope → Loop → Type 0
  Keeps z m =
      LoopKeeps (field_kind t.unit.fields) (length t.unit.memories) (callees_for t) z
      (own_roots_at (around a.spot)) m

  nest : IsNest (old a.spot) n
  nest = nest_is (old a.spot) n found

  abbrev whole_nest : Block
  whole_nest = only_loop k.binder k.lo k.hi (block_of l)

  old_is : old a.spot ≡ whole_nest
  old_is = nest.outer ∙ ap (only_loop k.binder k.lo k.hi) nest.inner

  first_of : (z : Scope) (m : Loop)
      → is_block (field_kind t.unit.fields) (length t.unit.memories) (callees_for t) z
      (own_roots_at (around a.spot)) (block_of m) ≡ true → Keeps z m
  first_of z m h =
      loop_rules (field_kind t.unit.fields) (length t.unit.memories) (callees_for t) z
      (own_roots_at (around a.spot)) m
      (and_parts (is_statement (field_kind t.unit.fields) (length t.unit.memories) (callees_for t) z
      (own_roots_at (around a.spot)) (For m.binder m.lo m.hi m.body)) _ h).0

  outer_keeps : Keeps scope k
  outer_keeps = first_of scope k (loop_keeps a is.spot k nest.outer)

  inner_keeps : Keeps with_k l
  inner_keeps =
      first_of with_k l (subst (λ b. is_block (field_kind t.unit.fields) (length t.unit.memories)
      (callees_for t) with_k (own_roots_at (around a.spot)) b ≡ true) nest.inner outer_keeps.body)

  bounds_apart : BoundsAreApart k.binder k.lo k.hi l.binder l.lo l.hi
  bounds_apart =
      let fields = field_kind t.unit.fields in
      let gone =
      new_is_none scope l.binder
      (still_new scope k.binder l.binder (ControlName Index) inner_keeps.new) in
      let lack =
      and_parts (not (has_variable l.lo k.binder.id)) (not (has_variable l.hi k.binder.id)) nest.lack
      in (
        (
          plain_of fields scope k.lo outer_keeps.lo,
          lacks_variable fields scope l.binder.id gone k.lo outer_keeps.lo,
        ),
        (
          (
            plain_of fields scope k.hi outer_keeps.hi,
            lacks_variable fields scope l.binder.id gone k.hi outer_keeps.hi,
          ),
          (
            (
              plain_of fields with_k l.lo inner_keeps.lo,
              not_false (has_variable l.lo k.binder.id) lack.0,
            ),
            (
              plain_of fields with_k l.hi inner_keeps.hi,
              not_false (has_variable l.hi k.binder.id) lack.1,
            ),
          ),
        ),
      )

  some : 1 ≤ a.spot.piece.count
  some = omega (arith, single)

  abbrev body_there : Opened
  body_there = record {
    around = InLoop k.binder k.lo k.hi (InLoop l.binder l.lo l.hi (Here end) end) end;
    piece = l.body;
  }

  -- the body is there, in both loops
  opens : opened_in (size l.body) (step 0 ∷ inside 1) (old a.spot) ≡ Some body_there
  opens =
      ap (opened_in (size l.body) (step 0 ∷ inside 1)) old_is
      ∙ ap (λ o. option_map (λ (q : Opened). record {
        around = InLoop k.binder k.lo k.hi q.around end;
        piece = q.piece;
      }) (option_map (λ (q : Opened). record {
        around = InLoop l.binder l.lo l.hi q.around end;
        piece = q.piece;
      }) (option_map (λ (p : Block × Block). record { around = Here p.1; piece = p.0 }) o)))
      (all_parted l.body)

  is_there : IsBlockThere t.unit t.proc a.spot.piece.path
      (turns_conflict a.spot.piece.path n).first l.body
  is_there =
      there a.spot is.spot (placed a.spot is.spot some) (step 0) (inside 1) (size l.body)
      (header_of k ∷ header_of l ∷ []) body_there (own_roots_at (around a.spot)) opens
      (ap₂ ◌&&◌ outer_keeps.new (ap₂ ◌&&◌ (ap₂ ◌&&◌ outer_keeps.lo outer_keeps.hi)
      (ap₂ ◌&&◌ inner_keeps.new (ap₂ ◌&&◌ (ap₂ ◌&&◌ inner_keeps.lo inner_keeps.hi) refl))))
      inner_keeps.body (λ x parts h. refl)

  unwritten : (f : ℕ) → writes_field (unit_writes t.unit.procedures) f l.body ≡ false
  unwritten f =
      let none =
      subst (λ b. writes_field (unit_writes t.unit.procedures) f b ≡ false) old_is
      (piece_writes_none a.spot is.spot is.allowed f) in
      let inner = or_parts (writes_field (unit_writes t.unit.procedures) f (block_of l)) false none in
      (or_parts (writes_field (unit_writes t.unit.procedures) f l.body) false inner.0).0

  turned_same : IsApartAt t.unit t.proc a.spot.piece.path (turns_conflict a.spot.piece.path n)
      → {start u : State} → IsAdmissible (world_of a.spot) t.proc start
      → ComesTo (world_of a.spot) (old a.spot) (around a.spot) start u → Stands a.spot u
      → run (world_of a.spot) whole_nest u ≡ run (world_of a.spot) (turned n) u
  turned_same apart {start} {u} good come stands =
      let at = placed a.spot is.spot some in
      ap (λ o. then_do o (λ (v : State). Some v))
      (nests_from_footprints t.unit.fields (length t.unit.memories) t.unit.procedures scope
      (own_roots_at (around a.spot)) k.binder l.binder k.lo k.hi l.lo l.hi l.body u
      is.spot.runs.unit stands.sound stands.sorted outer_keeps.new inner_keeps.new inner_keeps.body
      bounds_apart
      (leaves_fields t.unit l.body unwritten)
      (nests_fit t.unit t.proc a.spot.piece.path (onward a.spot.piece.path (step 0) (inside 1))
      (size l.body) k.binder l.binder k.lo k.hi l.lo l.hi l.body start u apart is_there bounds_apart
      good (comes_there a.spot is.spot at start u come)))

pub reorder_is_lawful : IsLawful reorder_rule
reorder_is_lawful = record {
  replaces = λ a is versions met. (
      let made = made_of (nest_of (old a.spot)) turned a.draft is.drafted in
      let n = made.of in
      let at_place =
      made_of
      (option_and_then (λ (o : Opened). nest_of o.piece) (opened 1 is.at a.spot.target.proc.body))
      (λ (m : Nest). record { path = is.at; count = 1 }) a.spot.piece is.chosen in
      let single = sym (ap (λ (p : Piece). p.count) at_place.made) in
      let needs = subst (λ o. Each (IsMet a.spot.target)
      (of_nest (reorder_needs a.spot.piece.path) o)) made.found met in
      same (λ first u good come stands.
      ap (λ b. run (world_of a.spot) b u) (old_is a is n made.found single)
      ∙ turned_same a is n made.found single needs.0 good come stands
      ∙ ap (λ b. run (world_of a.spot) b u) made.made)
      );
}

-- ---- the loops change places, and the body stays

abbrev here : Block × Block → Opened
here p = record { around = Here p.1; piece = p.0 }

abbrev in_that : Loop → Opened → Opened
in_that l o = record { around = InLoop l.binder l.lo l.hi o.around end; piece = o.piece }

module _ (n : Nest) (c : Context) where
  abbrev nest_was : Block
  nest_was = only_loop n.outer.binder n.outer.lo n.outer.hi (block_of n.inner)

  abbrev outer_alone : Block
  outer_alone = only_loop n.outer.binder n.outer.lo n.outer.hi n.inner.body

  outer_goes : AreCarried (alone (at_index 0) (Some (inside 1))) (inside 1) nest_was (turned n)
  outer_goes = record {
    was = here (nest_was, end);
    is = in_that n.inner (here (outer_alone, end));
    before = refl;
    after = refl;
    alike = refl;
  }

  inner_goes : AreCarried (alone (inside 1) (Some (at_index 0))) (at_index 0) nest_was (turned n)
  inner_goes = record {
    was = in_that n.outer (here (block_of n.inner, end));
    is = here (turned n, end);
    before = refl;
    after = refl;
    alike = refl;
  }

  body_stays : AreCarried (range (inside 2) (size n.inner.body) (Some (inside 2))) (inside 2)
      nest_was (turned n)
  body_stays = record {
    was = in_that n.outer (in_that n.inner (here (n.inner.body, end)));
    is = in_that n.inner (in_that n.outer (here (n.inner.body, end)));
    before =
        ap (λ o. option_map (in_that n.outer) (option_map (in_that n.inner) (option_map here o)))
        (all_parted n.inner.body);
    after =
        ap (λ o. option_map (in_that n.inner) (option_map (in_that n.outer) (option_map here o)))
        (all_parted n.inner.body);
    alike = refl;
  }

  carried : Carries (reorder_shifts n) nest_was (or_pass c (turned n))
  carried =
      subst (Carries (reorder_shifts n) nest_was)
      (sym (or_pass_next c (For n.inner.binder n.inner.lo n.inner.hi outer_alone) end))
      (outer_goes, (inner_goes, (body_stays, tt)))

pub reorder_is_carrying : IsCarrying reorder_rule
reorder_is_carrying = record {
  carries = λ a is.
      let made = made_of (nest_of (old a.spot)) turned a.draft is.drafted in
      let n = made.of in
      let nest = nest_is (old a.spot) n made.found in
      subst (λ o. Carries (of_nest reorder_shifts o) (old a.spot) (or_pass (around a.spot) a.draft))
      (sym made.found)
      (subst (λ b. Carries (reorder_shifts n) b (or_pass (around a.spot) a.draft))
      (sym (nest.outer ∙ ap (only_loop n.outer.binder n.outer.lo n.outer.hi) nest.inner))
      (subst (λ b. Carries (reorder_shifts n)
      (only_loop n.outer.binder n.outer.lo n.outer.hi (block_of n.inner))
      (or_pass (around a.spot) b)) made.made (carried n (around a.spot))));
  apart = λ a is. go (nest_of (old a.spot));
}
  where
    go : (o : Option Nest) → are_apart (of_nest reorder_shifts o) ≡ true
    go None = refl
    go (Some n) = refl
