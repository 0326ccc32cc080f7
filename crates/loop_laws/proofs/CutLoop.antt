-- The rule that cuts a loop in two is lawful.
use Rattle.std.proofs.Common.{◌≡◌, ℕ, ℤ, true, false, [], Option, Some, None}
use Rattle.std.proofs.Common.{refl, sym, ap, ap₂, ◌∙◌, subst, leb-true}
use Rattle.std.specs.Prelude.{nat_le, length}
use Rattle.exo_tree.specs.Tree.{Control, Le, For, Block, end, next}
use Rattle.exo_tree.specs.Context.{Here}
use Rattle.exo_tree.specs.Renaming.{fresh}
use Rattle.exo_meaning.specs.Scene.{number, holds}
use Rattle.exo_meaning.specs.State.{State}
use Rattle.exo_meaning.specs.Run.{World, run, turn, turns, turns_of}
use Rattle.exo_meaning.specs.Inputs.{IsAdmissible}
use Rattle.exo_meaning.specs.Units.{field_kind}
use Rattle.exo_meaning.specs.Unseen.{in_control as uses, in_block as mentions}
use Rattle.exo_meaning.proofs.Nested.{then_cong_if, then_some}
use Rattle.meaning_laws.specs.Context.{ComesTo}
use Rattle.meaning_laws.specs.Facts.{Holds}
use Rattle.meaning_laws.specs.FreshCopies.{MayCopy, IsBelow}
use Rattle.meaning_laws.specs.Sound.{IsSound}
use Rattle.meaning_laws.specs.Substitute.{is_plain}
use Rattle.meaning_laws.proofs.CopiesAtPlaces.{places_may_copy}
use Rattle.meaning_laws.proofs.FreshCopies.{closed_copies_are_same}
use Rattle.meaning_laws.proofs.Substitute.{plain_same}
use Rattle.place_laws.specs.Scope.Roots.{own_roots_at}
use Rattle.place_laws.specs.Scope.Unrolled.{HasNamesOf}
use Rattle.tree_edits.specs.Made.Passes.{or_pass}
use Rattle.cursor_forward.specs.Shifts.{stays}
use Rattle.cursor_forward.specs.Forwards.{Carries, are_apart}
use Rattle.place_laws.specs.Order.TurnsOfTwo.{Loop}
use Rattle.step_rules.specs.Lawful.{IsFormedHere, Site, IsSite, around, old, world_of}
use Rattle.step_rules.specs.Lawful.{scope_here, callees_for, same, IsLawful, IsCarrying}
use Rattle.step_rules.proofs.Shapes.{or_pass_next}
use Rattle.loop_laws.specs.Shapes.{loop_of}
use Rattle.loop_laws.specs.CutLoop.{cut, cut_needs, cut_rule}
use Rattle.loop_laws.specs.Turns.{between}
use Rattle.loop_laws.proofs.Formed.{free_not_in_scope}
use Rattle.loop_laws.proofs.SameTurns.{own_names, turns_stay}
use Rattle.loop_laws.proofs.Sites.{block_of, loop_of_is, on_loop, there, is_below, stands_at}
use Rattle.loop_laws.proofs.Sites.{new_is_free, loop_is_made, bounds_plain, loop_keeps}
use Rattle.loop_laws.proofs.Sites.{of_found, formed_here, loop_lacks}
use Rattle.loop_laws.proofs.Sites.{lacking_loop, given_unused, may_copy_there}
use Rattle.loop_laws.proofs.Turns.{le_of, cut_turns}

-- ---- the runs

-- the loop from e on
abbrev rest_from : Control → Loop → Loop
rest_from e l = record l { lo = e }

module _ (world : World) (e : Control) (l : Loop) (base : ℕ) (s : State) (sound : IsSound s)
    (plain : is_plain e ≡ true) (plain_hi : is_plain l.hi ≡ true)
    (may : MayCopy base (block_of (rest_from e l)) s) (above : holds s.scene (Le l.lo e) ≡ true)
    (below : holds s.scene (Le e l.hi) ≡ true) where
  abbrev go : ℤ → State → Option State
  go = turn l.binder.id (run world l.body)

  number_stays : (a : Control) → is_plain a ≡ true → (t : State) → HasNamesOf s t
      → number t.scene a ≡ number s.scene a
  number_stays a p t h = plain_same a t.scene s.scene p (λ x j. sym (h.names x).control)

  abbrev copy : Block
  copy = fresh base (block_of (rest_from e l))

  second : (t : State) → HasNamesOf s t
      → turns go (between (number s.scene e) (number s.scene l.hi)) t ≡ run world copy t
  second t h =
      sym (closed_copies_are_same world base (block_of (rest_from e l)) t
      (may_copy_there base (block_of (rest_from e l)) s t may h) refl
      ∙ then_some (turns go (turns_of t.scene e l.hi) t)
      ∙ ap₂ (λ m n. turns go (between m n) t) (number_stays e plain t h)
      (number_stays l.hi plain_hi t h))

  pub cut_same : run world (block_of l) s ≡ run world (cut e l base) s
  cut_same =
      then_some (turns go (turns_of s.scene l.lo l.hi) s)
      ∙ cut_turns go (number s.scene l.lo) (number s.scene e) (number s.scene l.hi) s
      (le_of (number s.scene l.lo) (number s.scene e) above)
      (le_of (number s.scene e) (number s.scene l.hi) below)
      ∙ then_cong_if (HasNamesOf s) (turns go (turns_of s.scene l.lo e) s)
      (turns go (between (number s.scene e) (number s.scene l.hi))) (run world copy)
      (turns_stay l.binder.id (run world l.body) (turns_of s.scene l.lo e) s s (own_names s sound))
      second

-- ---- at its place

-- what is known of the bound at a site
pub record Bound (e : Control) (a : Site) (l : Loop) : Type 0 where
  pub plain : is_plain e ≡ true
  pub plain_hi : is_plain l.hi ≡ true
  pub low : uses (nat_le a.base) e ≡ false

module _ (e : Control) (a : Site) (is : IsSite (cut_rule e) a) (l : Loop)
    (was : old a.spot ≡ block_of l) (plain : cut e l a.base ≡ a.plain) where
  abbrev below : IsBelow a.base a.spot.target.proc
  below = is_below a is.spot is.below

  bound_is : Bound e a l
  bound_is =
      let t = a.spot.target in
      let f =
      (formed_here a.spot l.binder l.lo e l.body (fresh a.base (block_of (rest_from e l)))
      (subst (IsFormedHere a.spot) (sym plain) is.formed)).1 in
      record {
        plain = f.plain;
        plain_hi =
            (bounds_plain (field_kind t.unit.fields) (length t.unit.memories) (callees_for t)
            (scope_here a.spot) (own_roots_at (around a.spot)) l.binder l.lo l.hi l.body end
            (loop_keeps a is.spot l was)).1;
        low = f.used (nat_le a.base) (λ x h.
            free_not_in_scope t.proc (around a.spot) x
            (new_is_free a is.spot l was below x (leb-true a.base x h)));
      }

  rest_is_low : mentions (nat_le a.base) (block_of (rest_from e l)) ≡ false
  rest_is_low =
      let k = loop_lacks (nat_le a.base) l (loop_is_made a is.spot l was below).low in
      lacking_loop (nat_le a.base) (rest_from e l)
      (record { binder = k.binder; lo = bound_is.low; hi = k.hi; body = k.body })

  pub rest_may_be_copied : {first u : State}
      → IsAdmissible (world_of a.spot) a.spot.target.proc first
      → ComesTo (world_of a.spot) (old a.spot) (around a.spot) first u
      → MayCopy a.base (block_of (rest_from e l)) u
  rest_may_be_copied {first} {u} good come =
      places_may_copy (world_of a.spot) a.spot.target.proc (around a.spot) (block_of l)
      (block_of (rest_from e l)) a.base u below (stands_at a is.spot l was below good come)
      (λ x h. h) (given_unused a.base (block_of (rest_from e l)) rest_is_low)

pub cut_is_lawful : (e : Control) → IsLawful (cut_rule e)
cut_is_lawful e = record {
  replaces = λ a is versions met. (
      let on = on_loop loop_of (cut e) a is.at is.chosen is.made is.drafted in
      let l = on.loop in
      let was = loop_of_is (old a.spot) l on.found in
      let bound = bound_is e a is l was on.plain in
      let needs =
      of_found (loop_of (old a.spot)) (cut_needs e a.spot.piece.path) l a.spot.target on.found met in
      same (λ first u good come stands.
      ap (λ b. run (world_of a.spot) b u) was
      ∙ cut_same (world_of a.spot) e l a.base u stands.sound bound.plain bound.plain_hi
      (rest_may_be_copied e a is l was on.plain good come)
      (there a.spot (Holds (Le l.lo e)) is.spot on.single needs.0 first u good come stands)
      (there a.spot (Holds (Le e l.hi)) is.spot on.single needs.1.0 first u good come stands)
      ∙ ap (λ b. run (world_of a.spot) b u) on.made)
      );
}

-- ---- the loop and its body stay

pub cut_is_carrying : (e : Control) → IsCarrying (cut_rule e)
cut_is_carrying e = record {
  carries = λ a is. (
      let on = on_loop loop_of (cut e) a is.at is.chosen is.made is.drafted in
      let l = on.loop in
      let was = loop_of_is (old a.spot) l on.found in
      let copy = fresh a.base (block_of (rest_from e l)) in
      let first = For l.binder l.lo e l.body in
      subst (λ o. Carries (elim o [ None ↦ [] | Some k ↦ stays 1 ]) (old a.spot)
      (or_pass (around a.spot) a.draft)) (sym on.found)
      (subst (λ b. Carries (stays 1) b (or_pass (around a.spot) a.draft)) (sym was)
      (subst (λ b. Carries (stays 1) (block_of l) (or_pass (around a.spot) b)) on.made
      (subst (Carries (stays 1) (block_of l)) (sym (or_pass_next (around a.spot) first copy)) (
        record {
          was = record { around = Here end; piece = block_of l };
          is = record { around = Here copy; piece = next first end };
          before = refl;
          after = refl;
          alike = refl;
        },
        tt,
      ))))
      );
  apart = λ a is. go (loop_of (old a.spot));
}
  where
    go : (o : Option Loop) → are_apart (elim o [ None ↦ [] | Some k ↦ stays 1 ]) ≡ true
    go None = refl
    go (Some l) = refl
