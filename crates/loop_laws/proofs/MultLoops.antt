-- The rule that makes one loop of two is lawful.
use Rattle.std.proofs.Common.{◌≡◌, ℕ, zero, suc, ℤ, pos, negsuc, Bool, true, false, true≢false, cond}
use Rattle.std.proofs.Common.{◌==◌, ◌||◌, if◌then◌else◌, List, length, Option, Some, None}
use Rattle.std.proofs.Common.{option_map, refl, sym, ap, ◌∙◌, subst, arith, eq-eqb, eqb-true}
use Rattle.std.specs.Prelude.{int_le, nat_le, option_and_then}
use Rattle.exo_tree.specs.Tree.{Index, Binder, Control, Lit, Var, Field, StrideOf, Neg, Add, Sub, Mul}
use Rattle.exo_tree.specs.Tree.{Div, Mod, For, Block, end, statements}
use Rattle.exo_tree.specs.Context.{Context, Here, InLoop}
use Rattle.exo_tree.specs.Places.{Opened, parted}
use Rattle.exo_tree.specs.Substitution.{replacing, in_block}
use Rattle.exo_meaning.specs.State.{State}
use Rattle.exo_meaning.specs.Run.{run}
use Rattle.exo_meaning.specs.Units.{Scope, ControlName, sort_in, with_name, field_kind, is_block}
use Rattle.exo_meaning.specs.Unseen.{in_block as mentions}
use Rattle.meaning_laws.specs.FreshCopies.{IsBelow}
use Rattle.meaning_laws.specs.Scoped.{has_binder}
use Rattle.meaning_laws.specs.Substitute.{has_variable, catches}
use Rattle.meaning_laws.proofs.Facts.{or_left}
use Rattle.meaning_laws.proofs.Fewer as fewer
use Rattle.place_laws.specs.Scope.Roots.{own_roots_at}
use Rattle.place_laws.specs.Scope.UnrollLoop.{only_loop}
use Rattle.tree_edits.specs.Made.Passes.{or_pass}
use Rattle.cursor_forward.specs.Shifts.{at_index, alone, range}
use Rattle.cursor_forward.specs.Forwards.{AreCarried, Carries, are_apart}
use Rattle.place_laws.specs.Order.TurnsOfTwo.{Loop}
use Rattle.place_laws.proofs.OfOrder.Caught.{nothing_is_caught, binders_are_shown}
use Rattle.step_rules.specs.Lawful.{Site, IsSite, Stands, IsLawful, IsCarrying, same, around, old}
use Rattle.step_rules.specs.Lawful.{world_of, callees_for, scope_here, Replaces, fields_at_exit}
use Rattle.step_rules.proofs.Shapes.{made_of, or_pass_next}
use Rattle.loop_laws.specs.Shapes.{inside}
use Rattle.loop_laws.specs.MultLoops.{Pair, positive_literal, with_count, loop_from_zero, pair_of}
use Rattle.loop_laws.specs.MultLoops.{one_binder, body_at, multiplied, mult_shifts, shifts_of_pair}
use Rattle.loop_laws.specs.MultLoops.{mult_rule}
use Rattle.loop_laws.proofs.Bones.{same_bones, same_length, all_parted}
use Rattle.loop_laws.proofs.DivideLoop.{divisible_is}
use Rattle.loop_laws.proofs.Multiplied.{catches_stay, MayMultiply, multiplied_same}
use Rattle.loop_laws.proofs.Sites.{block_of, loop_of_is, found_then, is_below, new_is_free}
use Rattle.loop_laws.proofs.Sites.{variable_is_other, loop_is_made, body_keeps, loop_keeps, loop_lacks}
use Rattle.loop_laws.proofs.Sites.{LoopLacks}

-- ---- what is read

same_some : {T : Type 0} {x y : T} → Some x ≡ Some y → x ≡ y
same_some h = cc

-- a loop from 0 that is all of the block
record IsFromZero (b : Block) (l : Loop) : Type 0 where
  is : b ≡ block_of l
  lo : l.lo ≡ Lit (pos 0)

from_zero_is : (b : Block) (l : Loop) → loop_from_zero b ≡ Some l → IsFromZero b l
from_zero_is b l h =
    let read = divisible_is (pos 1) b l h in
    record { is = loop_of_is b l read.found; lo = read.lo }

-- the count of turns that is read
record IsCount (e : Control) (n : ℤ) : Type 0 where
  is : e ≡ Lit n
  some : int_le (pos 1) n ≡ true

count_is : (e : Control) (n : ℤ) → positive_literal e ≡ Some n → IsCount e n
count_is (Lit m) n h = by (int_le (pos 1) m) refl h
  where
    by : (t : Bool) → int_le (pos 1) m ≡ t → (if t then Some m else None) ≡ Some n
        → IsCount (Lit m) n
    by true e h = subst (IsCount (Lit m)) (same_some h) (record { is = refl; some = e })
    by false e h = cc
count_is (Var x) n h = cc
count_is (Field f) n h = cc
count_is (StrideOf x k) n h = cc
count_is (Neg a) n h = cc
count_is (Add a b) n h = cc
count_is (Sub a b) n h = cc
count_is (Mul a b) n h = cc
count_is (Div a c) n h = cc
count_is (Mod a c) n h = cc

record IsPair (b : Block) (p : Pair) : Type 0 where
  outer : IsFromZero b p.outer
  inner : IsFromZero p.outer.body p.inner
  by : IsCount p.inner.hi p.by

pair_is : (b : Block) (p : Pair) → pair_of b ≡ Some p → IsPair b p
pair_is b p h =
    let first = found_then (loop_from_zero b)
    (λ (k : Loop). option_and_then (with_count k) (loop_from_zero k.body)) p h in
    let k = first.0 in
    let second = found_then (loop_from_zero k.body) (with_count k) p first.2 in
    let l = second.0 in
    counted (positive_literal l.hi) refl second.2 (from_zero_is b k first.1)
    (from_zero_is k.body l second.1)
  where
    counted : {k l : Loop} (o : Option ℤ) → positive_literal l.hi ≡ o
        → option_map (λ n. record { outer = k; inner = l; by = n }) o ≡ Some p
        → IsFromZero b k → IsFromZero k.body l → IsPair b p
    counted None e h outer inner = cc
    counted {k} {l} (Some n) e h outer inner =
        subst (IsPair b) (same_some h)
        (record { outer = outer; inner = inner; by = count_is l.hi n e })

-- ---- at its place

new_is_other : (base x : ℕ) → nat_le base x ≡ false → (x == base) ≡ false
new_is_other base x h = grind arith

new_is_not : (base x : ℕ) → nat_le base x ≡ false → (base == x) ≡ false
new_is_not base x h = grind arith

turned : (x y : ℕ) → (x == y) ≡ false → (y == x) ≡ false
turned x y h = go (y == x) (eqb-true y x)
  where
    go : (t : Bool) → (t ≡ true → y ≡ x) → t ≡ false
    go false alike = refl
    go true alike = absurd (true≢false (sym (eq-eqb x y (sym (alike refl))) ∙ h))

module _ (name : List ℕ) (a : Site) (is : IsSite (mult_rule name) a) (k l : Loop)
    (was : old a.spot ≡ block_of k) (inner_was : k.body ≡ block_of l) (d : ℕ) where
  abbrev base : ℕ
  base = a.base

  below : IsBelow base a.spot.target.proc
  below = is_below a is.spot is.below

  outer_low : LoopLacks (nat_le base) k
  outer_low = loop_lacks (nat_le base) k (loop_is_made a is.spot k was below).low

  inner_low : LoopLacks (nat_le base) l
  inner_low =
      loop_lacks (nat_le base) l
      (ap (mentions (nat_le base)) (sym inner_was) ∙ outer_low.body)

  -- the inner variable is not the outer one
  other : (l.binder.id == k.binder.id) ≡ false
  other =
      variable_is_other a is.spot k was below l.binder.id
      (ap (λ b. has_binder b l.binder.id) inner_was
      ∙ or_left ((l.binder.id == l.binder.id) || has_binder l.body l.binder.id) false
      (or_left (l.binder.id == l.binder.id) (has_binder l.body l.binder.id)
      (eq-eqb l.binder.id l.binder.id refl)))

  -- the scope in both loops
  abbrev scope : Scope
  scope =
      with_name (with_name (scope_here a.spot) k.binder (ControlName Index)) l.binder
      (ControlName Index)

  kept : is_block (field_kind a.spot.target.unit.fields) (length a.spot.target.unit.memories)
      (callees_for a.spot.target) scope (own_roots_at (around a.spot)) l.body ≡ true
  kept =
      let t = a.spot.target in
      let fields = field_kind t.unit.fields in
      let memories = length t.unit.memories in
      let root = own_roots_at (around a.spot) in
      let outer = with_name (scope_here a.spot) k.binder (ControlName Index) in
      body_keeps fields memories (callees_for t) outer root l.binder l.lo l.hi l.body end
      (ap (is_block fields memories (callees_for t) outer root) (sym inner_was)
      ∙ body_keeps fields memories (callees_for t) (scope_here a.spot) root k.binder k.lo k.hi k.body
      end (loop_keeps a is.spot k was))

  -- an expression of the new variable alone is not caught
  not_caught : (x : ℕ) (e : Control) → sort_in scope x ≡ Some (ControlName Index)
      → ((y : ℕ) → has_variable e y ≡ (y == base)) → catches x e l.body ≡ false
  not_caught x e there only =
      let unit = a.spot.target.unit in
      nothing_is_caught unit.fields (length unit.memories) unit.procedures scope
      (own_roots_at (around a.spot)) x Index e l.body kept there refl (λ y h.
      only y
      ∙ new_is_other base y (binders_are_shown (nat_le base) l.body inner_low.body y h))

  abbrev first : Control
  first = Div (Var base) (pos (suc d))

  abbrev second : Control
  second = Mod (Var base) (pos (suc d))

  may_multiply : (u : State) → Stands a.spot u
      → MayMultiply base k.binder.id l.binder.id (suc d) l.body u
  may_multiply u stands = record {
    sound = stands.sound;
    none = stands.free base (new_is_free a is.spot k was below base (omega arith));
    unseen =
        fewer.block (nat_le base) (λ x. x == base) (new_is_other base) l.body inner_low.body;
    not_i = new_is_not base k.binder.id outer_low.binder;
    not_j = new_is_not base l.binder.id inner_low.binder;
    apart = other;
    for_i = (refl, not_caught k.binder.id first outer_there (λ y. refl));
    for_j = (
      refl,
      catches_stay k.binder.id first l.binder.id second l.body
          ∙ not_caught l.binder.id second inner_there (λ y. refl),
    );
  }
    where
      inner_there : sort_in scope l.binder.id ≡ Some (ControlName Index)
      inner_there =
          ap (λ t. cond t (Some (ControlName Index))
          (sort_in (with_name (scope_here a.spot) k.binder (ControlName Index)) l.binder.id))
          (eq-eqb l.binder.id l.binder.id refl)

      outer_there : sort_in scope k.binder.id ≡ Some (ControlName Index)
      outer_there =
          ap (λ t. cond t (Some (ControlName Index))
          (sort_in (with_name (scope_here a.spot) k.binder (ControlName Index)) k.binder.id))
          (turned l.binder.id k.binder.id other)
          ∙ ap (λ t. cond t (Some (ControlName Index)) (sort_in (scope_here a.spot) k.binder.id))
          (eq-eqb k.binder.id k.binder.id refl)

pub mult_is_lawful : (name : List ℕ) → IsLawful (mult_rule name)
mult_is_lawful name = record {
  replaces = λ a is versions met.
      let made = made_of (pair_of (old a.spot)) (λ p. multiplied name p a.base) a.draft is.drafted in
      by made.of.by a is made.of refl (pair_is (old a.spot) made.of made.found) made.made;
}
  where
    by : (n : ℤ) (a : Site) → IsSite (mult_rule name) a → (p : Pair) → p.by ≡ n
        → IsPair (old a.spot) p → multiplied name p a.base ≡ a.draft
        → Replaces a.spot a.draft (fields_at_exit (mult_rule name) a)
    by (pos zero) a is p e pair made =
        absurd (true≢false (sym (ap (int_le (pos 1)) (sym e) ∙ pair.by.some)))
    by (negsuc n) a is p e pair made =
        absurd (true≢false (sym (ap (int_le (pos 1)) (sym e) ∙ pair.by.some)))
    by (pos (suc d)) a is p e pair made =
        let k = p.outer in
        let l = p.inner in
        let was = pair.outer.is in
        let inner_was = pair.inner.is in
        let world = world_of a.spot in
        same (λ first u good come stands.
        ap (λ b. run world b u) was
        ∙ ap (λ b. run world (only_loop k.binder k.lo k.hi b) u) inner_was
        ∙ ap (λ z. run world (only_loop k.binder z k.hi (block_of l)) u) pair.outer.lo
        ∙ ap (λ z. run world (only_loop k.binder (Lit (pos 0)) k.hi
        (only_loop l.binder z l.hi l.body)) u) pair.inner.lo
        ∙ ap (λ z. run world (only_loop k.binder (Lit (pos 0)) k.hi
        (only_loop l.binder (Lit (pos 0)) z l.body)) u) (pair.by.is ∙ ap Lit e)
        ∙ multiplied_same world (one_binder name a.base) k.binder l.binder d l.body u
        (may_multiply name a is k l was inner_was d u stands) k.hi
        ∙ ap (λ z. run world (only_loop (one_binder name a.base) (Lit (pos 0)) (Mul k.hi (Lit z))
        (in_block l.binder.id (Mod (Var a.base) z)
        (in_block k.binder.id (Div (Var a.base) z) l.body))) u) (sym e)
        ∙ ap (λ b. run world b u) made)

-- ---- where statements go

abbrev here : Block × Block → Opened
here p = record { around = Here p.1; piece = p.0 }

abbrev in_loop : Binder → Control → Control → Opened → Opened
in_loop i lo hi o = record { around = InLoop i lo hi o.around end; piece = o.piece }

module _ (name : List ℕ) (p : Pair) (base : ℕ) (c : Context) where
  abbrev made : Block
  made = multiplied name p base

  abbrev body : Block
  body = body_at p base

  abbrev nest : Block
  nest = only_loop p.outer.binder p.outer.lo p.outer.hi (block_of p.inner)

  abbrev one : Loop
  one = record {
    binder = one_binder name base;
    lo = Lit (pos 0);
    hi = Mul p.outer.hi (Lit p.by);
    body = body;
  }

  loop_goes : AreCarried (alone (at_index 0) (Some (at_index 0))) (at_index 0) nest made
  loop_goes = record {
    was = here (nest, end);
    is = here (made, end);
    before = refl;
    after = refl;
    alike = refl;
  }

  body_goes : AreCarried (range (inside 2) (length (statements p.inner.body)) (Some (inside 1)))
      (inside 1) nest made
  body_goes =
      let put = replacing p.inner.binder.id (Mod (Var base) p.by) in
      let within = replacing p.outer.binder.id (Div (Var base) p.by) in
      let half = in_block p.outer.binder.id (Div (Var base) p.by) p.inner.body in
      let count = length (statements p.inner.body) in
      let many : length (statements body) ≡ count =
      same_length put half ∙ same_length within p.inner.body in
      record {
        was = in_loop p.outer.binder p.outer.lo p.outer.hi
            (in_loop p.inner.binder p.inner.lo p.inner.hi (here (p.inner.body, end)));
        is = in_loop one.binder one.lo one.hi (here (body, end));
        before =
            ap (λ o. option_map (in_loop p.outer.binder p.outer.lo p.outer.hi)
            (option_map (in_loop p.inner.binder p.inner.lo p.inner.hi) (option_map here o)))
            (all_parted p.inner.body);
        after =
            ap (λ o. option_map (in_loop one.binder one.lo one.hi) (option_map here o))
            (ap (λ n. parted n body) (sym many) ∙ all_parted body);
        alike = sym (same_bones put half ∙ same_bones within p.inner.body);
      }

  carried : Carries (mult_shifts p) nest (or_pass c made)
  carried =
      subst (Carries (mult_shifts p) nest)
      (sym (or_pass_next c (For one.binder one.lo one.hi body) end))
      (loop_goes, (body_goes, tt))

pub mult_is_carrying : (name : List ℕ) → IsCarrying (mult_rule name)
mult_is_carrying name = record {
  carries = λ a is.
      let made = made_of (pair_of (old a.spot)) (λ p. multiplied name p a.base) a.draft is.drafted in
      let p = made.of in
      let pair = pair_is (old a.spot) p made.found in
      subst (λ o. Carries (shifts_of_pair o) (old a.spot) (or_pass (around a.spot) a.draft))
      (sym made.found)
      (subst (λ b. Carries (mult_shifts p) b (or_pass (around a.spot) a.draft))
      (sym (pair.outer.is
      ∙ ap (λ b. only_loop p.outer.binder p.outer.lo p.outer.hi b) pair.inner.is))
      (subst (λ b. Carries (mult_shifts p)
      (only_loop p.outer.binder p.outer.lo p.outer.hi (block_of p.inner))
      (or_pass (around a.spot) b)) made.made (carried name p a.base (around a.spot))));
  apart = λ a is. go (pair_of (old a.spot));
}
  where
    go : (o : Option Pair) → are_apart (shifts_of_pair o) ≡ true
    go None = refl
    go (Some p) = refl
