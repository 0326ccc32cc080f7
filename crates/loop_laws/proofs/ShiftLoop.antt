-- The rule that counts the turns of a loop from another number on is lawful.
use Rattle.std.proofs.Common.{◌≡◌, ℕ, ℤ, ◌+ℤ◌, Bool, true, false, true≢false, ◌==◌, ◌&&◌, ◌||◌, cond}
use Rattle.std.proofs.Common.{[], length, Option, Some, None, refl, sym, ap, ap₂, ◌∙◌, subst, arith}
use Rattle.std.proofs.Common.{eq-eqb}
use Rattle.std.specs.Prelude.{◌-ℤ◌}
use Rattle.std.proofs.lemmas.Int.{ints}
use Rattle.exo_tree.specs.Tree.{Index, Control, Var, Add, Sub, For, end}
use Rattle.exo_tree.specs.Substitution.{replacing, in_block}
use Rattle.exo_meaning.specs.Scene.{number}
use Rattle.exo_meaning.specs.State.{State}
use Rattle.exo_meaning.specs.Run.{World, run, turn, turns, turns_of, range, count}
use Rattle.exo_meaning.specs.Units.{ControlName, with_name, sort_in, field_kind}
use Rattle.exo_meaning.specs.Unseen.{in_control as uses}
use Rattle.exo_meaning.proofs.Frame.{or_parts, updated_other}
use Rattle.exo_meaning.proofs.Nested.{then_some}
use Rattle.meaning_laws.specs.FreshCopies.{IsBelow}
use Rattle.meaning_laws.specs.Scoped.{has_binder}
use Rattle.meaning_laws.specs.Sound.{IsSound}
use Rattle.meaning_laws.specs.Substitute.{is_plain, has_variable}
use Rattle.meaning_laws.proofs.Facts.{or_left, or_right}
use Rattle.meaning_laws.proofs.Scoped.{control_open}
use Rattle.meaning_laws.proofs.Substitute.{and_parts, plain_same}
use Rattle.place_laws.specs.Scope.Roots.{own_roots_at}
use Rattle.place_laws.specs.Scope.Unrolled.{HasNamesOf}
use Rattle.tree_edits.specs.Made.Passes.{or_pass}
use Rattle.cursor_forward.specs.Shifts.{stays}
use Rattle.cursor_forward.specs.Forwards.{Loop as LoopKind, Joint, none, Carries, are_apart}
use Rattle.place_laws.specs.Order.TurnsOfTwo.{Loop}
use Rattle.place_laws.proofs.OfOrder.Caught.{nothing_is_caught}
use Rattle.step_rules.specs.Lawful.{Site, IsSite, IsFormedHere, IsLawful, IsCarrying, same, around, old}
use Rattle.step_rules.specs.Lawful.{world_of, callees_for, scope_here}
use Rattle.step_rules.proofs.Shapes.{one_stays}
use Rattle.loop_laws.specs.SameTurns.{MayStandIn, at_turn, IsMovedBy}
use Rattle.loop_laws.specs.Shapes.{loop_of}
use Rattle.loop_laws.specs.ShiftLoop.{old_number, shifted, shift_rule}
use Rattle.loop_laws.proofs.Bones.{same_bones}
use Rattle.loop_laws.proofs.Formed.{IsFormed, free_not_in_scope}
use Rattle.loop_laws.proofs.SameTurns.{moved_loop}
use Rattle.loop_laws.proofs.Sites.{block_of, loop_of_is, on_loop, is_below, own_is_free}
use Rattle.loop_laws.proofs.Sites.{variable_is_other, body_keeps, loop_keeps, formed_here, found_scope}

-- ---- the runs

-- a bound that has no field, no stride and not the variable of the loop
pub record IsOther (i : ℕ) (e : Control) : Type 0 where
  pub plain : is_plain e ≡ true
  pub other : uses (λ x. x == i) e ≡ false

module _ (world : World) (e : Control) (l : Loop) (base : ℕ) (s : State) (sound : IsSound s)
    (is_e : IsOther l.binder.id e) (is_lo : IsOther l.binder.id l.lo)
    (may : MayStandIn l.binder.id (old_number e l) l.body) where
  abbrev i : ℕ
  i = l.binder.id

  -- such a bound has one number in all turns
  number_stays : (a : Control) → IsOther i a → (t : State) (n : ℤ) → HasNamesOf s t
      → number (at_turn i n t).scene a ≡ number s.scene a
  number_stays a k t n h =
      plain_same a (at_turn i n t).scene s.scene k.plain (λ x j.
      updated_other t.scene.control i n x (control_open (λ y. y == i) x a k.other j)
      ∙ sym (h.names x).control)

  variable_is : (t : State) (n : ℤ) → number (at_turn i n t).scene (Var i) ≡ n
  variable_is t n = ap (λ u. cond u n (t.scene.control i)) (eq-eqb i i refl)

  moved : IsMovedBy i (number s.scene l.lo -ℤ number s.scene e) (old_number e l) s
  moved t n h =
      let w = (at_turn i n t).scene in
      ap (λ v. (v +ℤ number w l.lo) -ℤ number w e) (variable_is t n)
      ∙ ap₂ (λ x y. (n +ℤ x) -ℤ y) (number_stays l.lo is_lo t n h) (number_stays e is_e t n h)
      ∙ turned (number s.scene l.lo) (number s.scene e)
    where
      turned : (x y : ℤ) → (n +ℤ x) -ℤ y ≡ (x -ℤ y) +ℤ n
      turned x y = omega (arith, ints)

  pub shift_same : run world (block_of l) s ≡ run world (shifted e l base) s
  shift_same =
      let lo = number s.scene l.lo in
      let hi = number s.scene l.hi in
      let at = number s.scene e in
      then_some (turns (turn i (run world l.body)) (turns_of s.scene l.lo l.hi) s)
      ∙ ap₂ (λ m n. turns (turn i (run world l.body)) (range m n) s) (first lo at)
      (ap count (many lo hi at))
      ∙ sym (moved_loop world l.binder e (Sub (Add l.hi e) l.lo) (old_number e l) l.body
      (lo -ℤ at) s sound may moved)
    where
      first : (x y : ℤ) → x ≡ (x -ℤ y) +ℤ y
      first x y = omega (arith, ints)

      many : (x z y : ℤ) → z -ℤ x ≡ ((z +ℤ y) -ℤ x) -ℤ y
      many x z y = omega (arith, ints)

-- ---- at its place

module _ (e : Control) (a : Site) (is : IsSite (shift_rule e) a) (l : Loop)
    (was : old a.spot ≡ block_of l) (drafted : shifted e l a.base ≡ a.plain) where
  below : IsBelow a.base a.spot.target.proc
  below = is_below a is.spot is.below

  bounds : IsFormed (found_scope a.spot) e × IsFormed (found_scope a.spot) (Sub (Add l.hi e) l.lo)
  bounds =
      formed_here a.spot l.binder e (Sub (Add l.hi e) l.lo)
      (in_block l.binder.id (old_number e l) l.body) end
      (subst (IsFormedHere a.spot) (sym drafted) is.formed)

  -- the bounds use none of the loop's own names
  module _ (hidden : ℕ → Bool)
      (own : (x : ℕ) → hidden x ≡ true → has_binder (block_of l) x ≡ true) where
    abbrev free : (x : ℕ) → hidden x ≡ true → sort_in (found_scope a.spot) x ≡ None
    free x h =
        free_not_in_scope a.spot.target.proc (around a.spot) x
        (own_is_free a is.spot l was below x (own x h))

    e_lacks : uses hidden e ≡ false
    e_lacks = bounds.0.used hidden free

    lo_lacks : uses hidden l.lo ≡ false
    lo_lacks =
        (or_parts (uses hidden l.hi || uses hidden e) (uses hidden l.lo) (bounds.1.used hidden free)).1

  own_variable : (x : ℕ) → (x == l.binder.id) ≡ true → has_binder (block_of l) x ≡ true
  own_variable x h =
      or_left ((x == l.binder.id) || has_binder l.body x) false
      (or_left (x == l.binder.id) (has_binder l.body x) h)

  own_binder : (x : ℕ) → has_binder l.body x ≡ true → has_binder (block_of l) x ≡ true
  own_binder x h =
      or_left ((x == l.binder.id) || has_binder l.body x) false
      (or_right (x == l.binder.id) (has_binder l.body x) h)

  pub e_is_other : IsOther l.binder.id e
  e_is_other = record {
    plain = bounds.0.plain;
    other = e_lacks (λ x. x == l.binder.id) own_variable;
  }

  pub lo_is_other : IsOther l.binder.id l.lo
  lo_is_other = record {
    plain = (and_parts (is_plain l.hi && is_plain e) (is_plain l.lo) bounds.1.plain).1;
    other = lo_lacks (λ x. x == l.binder.id) own_variable;
  }

  -- nor does the body bind a variable of them
  misses : (b : Control) → uses (has_binder (block_of l)) b ≡ false → (x : ℕ)
      → has_binder l.body x ≡ true → has_variable b x ≡ false
  misses b lacks x h = go (has_variable b x) refl
    where
      go : (t : Bool) → has_variable b x ≡ t → t ≡ false
      go true k =
          absurd (true≢false
          (sym (own_binder x h) ∙ control_open (has_binder (block_of l)) x b lacks k))
      go false k = refl

  pub may_stand : MayStandIn l.binder.id (old_number e l) l.body
  may_stand =
      let unit = a.spot.target.unit in
      let own = has_binder (block_of l) in
      let scope = scope_here a.spot in
      let root = own_roots_at (around a.spot) in
      let kept =
      body_keeps (field_kind unit.fields) (length unit.memories) (callees_for a.spot.target) scope
      root l.binder l.lo l.hi l.body end (loop_keeps a is.spot l was) in (
        ap₂ (λ s t. s && t) lo_is_other.plain e_is_other.plain,
        nothing_is_caught unit.fields (length unit.memories) unit.procedures
            (with_name scope l.binder (ControlName Index)) root l.binder.id Index (old_number e l)
            l.body kept
            (ap (λ t. cond t (Some (ControlName Index)) (sort_in scope l.binder.id))
            (eq-eqb l.binder.id l.binder.id refl))
            refl
            (λ x h.
            ap₂ ◌||◌ (ap₂ ◌||◌ (variable_is_other a is.spot l was below x h)
            (misses l.lo (lo_lacks own (λ y k. k)) x h))
            (misses e (e_lacks own (λ y k. k)) x h)),
      )

pub shift_is_lawful : (e : Control) → IsLawful (shift_rule e)
shift_is_lawful e = record {
  replaces = λ a is versions met. (
      let on = on_loop loop_of (shifted e) a is.at is.chosen is.made is.drafted in
      let l = on.loop in
      let was = loop_of_is (old a.spot) l on.found in
      same (λ first u good come stands.
      ap (λ b. run (world_of a.spot) b u) was
      ∙ shift_same (world_of a.spot) e l a.base u stands.sound (e_is_other e a is l was on.plain)
      (lo_is_other e a is l was on.plain) (may_stand e a is l was on.plain)
      ∙ ap (λ b. run (world_of a.spot) b u) on.made)
      );
}

-- ---- the loop stays

pub shift_is_carrying : (e : Control) → IsCarrying (shift_rule e)
shift_is_carrying e = record {
  carries = λ a is. (
      let on = on_loop loop_of (shifted e) a is.at is.chosen is.made is.drafted in
      let l = on.loop in
      let was = loop_of_is (old a.spot) l on.found in
      let put = replacing l.binder.id (old_number e l) in
      subst (λ o. Carries (elim o [ None ↦ [] | Some k ↦ stays 1 ]) (old a.spot)
      (or_pass (around a.spot) a.draft)) (sym on.found)
      (subst (λ b. Carries (stays 1) b (or_pass (around a.spot) a.draft)) (sym was)
      (subst (λ b. Carries (stays 1) (block_of l) (or_pass (around a.spot) b)) on.made
      (one_stays (around a.spot) (For l.binder l.lo l.hi l.body)
      (For l.binder e (Sub (Add l.hi e) l.lo) (in_block l.binder.id (old_number e l) l.body))
      (ap (λ b. Joint LoopKind b none) (sym (same_bones put l.body))))))
      );
  apart = λ a is. go (loop_of (old a.spot));
}
  where
    go : (o : Option Loop) → are_apart (elim o [ None ↦ [] | Some k ↦ stays 1 ]) ≡ true
    go None = refl
    go (Some l) = refl
