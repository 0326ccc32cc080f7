-- The rule that stores a part of an expression before it is used is lawful.
use Rattle.std.proofs.Common.{◌≡◌, ◌≤◌, ◌⊎◌, inl, ℕ, zero, suc, ◌==◌, Bool, true, false, ◌&&◌}
use Rattle.std.proofs.Common.{true≢false}
use Rattle.std.proofs.Common.{List, [], ◌∷◌, Option, Some, None, refl, sym, ap, ◌∙◌, subst}
use Rattle.std.proofs.Common.{eqb-true, le-leb, arith}
use Rattle.std.specs.Prelude.{nat_le, length, option_map}
use Rattle.exo_tree.specs.Tree.{Kind, Control, Datum, Const, Read, Negated, Relu, Plus, Minus}
use Rattle.exo_tree.specs.Tree.{Times, Select}
use Rattle.exo_tree.specs.Tree.{Statement, Assign, Reduce, Config, Pass, If, For, Alloc, View, Call}
use Rattle.exo_tree.specs.Tree.{Block, end, next, Procedure}
use Rattle.exo_tree.specs.Context.{Here, After, fill}
use Rattle.exo_meaning.specs.Calls.{Callee}
use Rattle.exo_meaning.specs.Units.{Sort, ControlName, BufferName, Scope, sort_in, has_rank}
use Rattle.exo_meaning.specs.Units.{plainly, field_kind}
use Rattle.exo_meaning.specs.Units.{is_datum, is_access, are_controls, is_block}
use Rattle.exo_meaning.specs.Unseen.{in_statement, in_block as mentions}
use Rattle.exo_meaning.proofs.Frame.{or_parts}
use Rattle.meaning_laws.specs.FreshCopies.{IsBelow}
use Rattle.meaning_laws.proofs.CopiesAtPlaces.{no_param, no_binder, old_is_made}
use Rattle.meaning_laws.proofs.Fewer as fewer
use Rattle.meaning_laws.proofs.Substitute.{and_parts}
use Rattle.place_laws.specs.Scope.Opened.{MayLeave, IsNew, IsInner}
use Rattle.place_laws.specs.Scope.Roots.{own_roots_at}
use Rattle.place_laws.proofs.OfScope.MayLeave.{may_leave_law}
use Rattle.check_laws.proofs.OfFacts.Truths.{contrary}
use Rattle.tree_edits.specs.Made.Passes.{or_pass}
use Rattle.cursor_forward.specs.Forwards.{bone, Carries, more, none}
use Rattle.cursor_forward.specs.Shifts.{at_index, range}
use Rattle.buffer_laws.specs.Bound.{Hole, Top, InNegated, InRelu, InPlus, InMinus, InTimes, PlusIn}
use Rattle.buffer_laws.specs.Bound.{MinusIn, TimesIn, InFirst, InSecond, InThird, InFourth}
use Rattle.buffer_laws.specs.Bound.{filled, stores, bound_cell, IsShort}
use Rattle.buffer_laws.specs.BoundAtPlaces.{ReadsCell}
use Rattle.buffer_laws.specs.Buffers.{Buffer, allocation, is_buffer}
use Rattle.buffer_laws.proofs.BoundAtPlaces.{bind_at_place}
use Rattle.step_rules.specs.Lawful.{Site, IsSite, Replaces, whole, IsLawful, IsCarrying}
use Rattle.step_rules.specs.Lawful.{around, old, scope_here, callees_for, fields_at_exit}
use Rattle.step_rules.specs.Shapes.{alone_in}
use Rattle.step_rules.specs.Rule.{Spot}
use Rattle.step_rules.proofs.Shapes.{made_of, alone_is, or_pass_next}
use Rattle.loop_laws.proofs.Sites.{found_then, is_below, keeps_here}
use Rattle.alloc_laws.specs.Bind.Binding.{Form, is_read, is_sum, is_difference, is_product, Part, Sought}
use Rattle.alloc_laws.specs.Bind.Binding.{Found, Left}
use Rattle.alloc_laws.specs.Bind.Binding.{in_part, at_root, sought, part_found, Store, store_of, storing}
use Rattle.alloc_laws.specs.Bind.Binding.{cell_of, cells_in, one_cell, bound_store, bind_rule}
use Rattle.place_laws.specs.Order.Statements.{one}

some_same : {A : Type 0} {a b : A} → Some a ≡ Some b → a ≡ b
some_same e = cc

found_same : {p q : Part} → Found p ≡ Found q → p ≡ q
found_same e = cc

-- ---- the part that is found

-- with it in its hole the expression is there again, and it is no number
pub record IsPartOf (p : Part) (e : Datum) : Type 0 where
  pub all : filled p.hole p.datum ≡ e
  pub short : IsShort p.datum

found_within : (wrap : Hole → Hole) (round : Datum → Datum) (a : Datum) (s : Sought)
    (later : ℕ → Sought) (p : Part)
    → ((h : Hole) (d : Datum) → filled (wrap h) d ≡ round (filled h d))
    → ((q : Part) → s ≡ Found q → IsPartOf q a)
    → ((k : ℕ) → later k ≡ Found p → IsPartOf p (round a))
    → in_part wrap s later ≡ Found p
    → IsPartOf p (round a)
found_within wrap round a (Found q) later p same here there h =
    let k = here q refl in
    subst (λ z. IsPartOf z (round a)) (found_same h)
    (record { all = same q.hole q.datum ∙ ap round k.all; short = k.short })
found_within wrap round a (Left k) later p same here there h = there k h

found_at : (t : Bool) (e : Datum) (below : ℕ → Sought) (k : ℕ) (p : Part) → IsShort e
    → ((k : ℕ) → below k ≡ Found p → IsPartOf p e)
    → at_root t e below k ≡ Found p
    → IsPartOf p e
found_at false e below k p short there h = there k h
found_at true e below zero p short there h =
    subst (λ z. IsPartOf z e) (found_same h) (record { all = refl; short = short })
found_at true e below (suc k) p short there h = there k h

nowhere : {A : Type 0} {k : ℕ} {p : Part} → Left k ≡ Found p → A
nowhere h = cc

pub part_is : (f : Form) (e : Datum) (k : ℕ) (p : Part) → sought f e k ≡ Found p → IsPartOf p e
part_is f (Const n) k p h = nowhere h
part_is f (Read y is) k p h =
    found_at (is_read f y) (Read y is) Left k p (λ n e. cc) (λ j i. nowhere i) h
part_is f (Negated a) k p h =
    found_within InNegated Negated a (sought f a k) Left p (λ g d. refl) (λ q. part_is f a k q)
    (λ j i. nowhere i) h
part_is f (Relu a) k p h =
    found_within InRelu Relu a (sought f a k) Left p (λ g d. refl) (λ q. part_is f a k q)
    (λ j i. nowhere i) h
part_is f (Plus a b) k p h =
    found_at (is_sum f) (Plus a b)
    (λ i. in_part (λ h. InPlus h b) (sought f a i) (λ j. in_part (PlusIn a) (sought f b j) Left)) k p
    (λ n e. cc)
    (λ i. found_within (λ h. InPlus h b) (λ d. Plus d b) a (sought f a i)
    (λ j. in_part (PlusIn a) (sought f b j) Left) p (λ g d. refl) (λ q. part_is f a i q)
    (λ j. found_within (PlusIn a) (Plus a) b (sought f b j) Left p (λ g d. refl)
    (λ q. part_is f b j q) (λ l i. nowhere i))) h
part_is f (Minus a b) k p h =
    found_at (is_difference f) (Minus a b)
    (λ i. in_part (λ h. InMinus h b) (sought f a i) (λ j. in_part (MinusIn a) (sought f b j) Left)) k p
    (λ n e. cc)
    (λ i. found_within (λ h. InMinus h b) (λ d. Minus d b) a (sought f a i)
    (λ j. in_part (MinusIn a) (sought f b j) Left) p (λ g d. refl) (λ q. part_is f a i q)
    (λ j. found_within (MinusIn a) (Minus a) b (sought f b j) Left p (λ g d. refl)
    (λ q. part_is f b j q) (λ l i. nowhere i))) h
part_is f (Times a b) k p h =
    found_at (is_product f) (Times a b)
    (λ i. in_part (λ h. InTimes h b) (sought f a i) (λ j. in_part (TimesIn a) (sought f b j) Left)) k p
    (λ n e. cc)
    (λ i. found_within (λ h. InTimes h b) (λ d. Times d b) a (sought f a i)
    (λ j. in_part (TimesIn a) (sought f b j) Left) p (λ g d. refl) (λ q. part_is f a i q)
    (λ j. found_within (TimesIn a) (Times a) b (sought f b j) Left p (λ g d. refl)
    (λ q. part_is f b j q) (λ l i. nowhere i))) h
part_is f (Select a b c d) k p h =
    found_within (λ h. InFirst h b c d) (λ z. Select z b c d) a (sought f a k)
    (λ i. in_part (λ h. InSecond a h c d) (sought f b i) (λ j.
    in_part (λ h. InThird a b h d) (sought f c j) (λ l.
    in_part (λ h. InFourth a b c h) (sought f d l) Left))) p (λ g z. refl) (λ q. part_is f a k q)
    (λ i. found_within (λ h. InSecond a h c d) (λ z. Select a z c d) b (sought f b i)
    (λ j. in_part (λ h. InThird a b h d) (sought f c j) (λ l.
    in_part (λ h. InFourth a b c h) (sought f d l) Left)) p (λ g z. refl) (λ q. part_is f b i q)
    (λ j. found_within (λ h. InThird a b h d) (λ z. Select a b z d) c (sought f c j)
    (λ l. in_part (λ h. InFourth a b c h) (sought f d l) Left) p (λ g z. refl)
    (λ q. part_is f c j q)
    (λ l. found_within (λ h. InFourth a b c h) (λ z. Select a b c z) d (sought f d l) Left p
    (λ g z. refl) (λ q. part_is f d l q) (λ m i. nowhere i)))) h

part_found_is : (s : Sought) (p : Part) → part_found s ≡ Some p → s ≡ Found p
part_found_is (Found q) p h = ap Found (some_same h)
part_found_is (Left k) p h = cc

-- ---- the statement

abbrev stored : Store → Datum → Statement
stored x e = stores x.reduces x.target x.indices e

pub record IsStored (b : Block) (x : Store) : Type 0 where
  pub is : b ≡ one (stored x (filled x.part.hole x.part.datum))
  pub short : IsShort x.part.datum

stored_by : (reduces : Bool) (y : ℕ) (is : List Control) (f : Form) (e : Datum) (k : ℕ) (x : Store)
    → option_map (λ (p : Part). record { reduces = reduces; target = y; indices = is; part = p })
    (part_found (sought f e k)) ≡ Some x
    → IsStored (one (stores reduces y is e)) x
stored_by reduces y is f e k x h = by (part_found (sought f e k)) refl h
  where
    by : (o : Option Part) → part_found (sought f e k) ≡ o
        → option_map (λ (p : Part). record { reduces = reduces; target = y; indices = is; part = p }) o
        ≡ Some x
        → IsStored (one (stores reduces y is e)) x
    by None i h = cc
    by (Some p) i h =
        let q = part_is f e k p (part_found_is (sought f e k) p i) in
        subst (IsStored (one (stores reduces y is e))) (some_same h) (record {
          is = ap (λ z. one (stores reduces y is z)) (sym q.all);
          short = q.short;
        })

stored_in : (f : Form) (k : ℕ) (a : Statement) (x : Store) → store_of f k a ≡ Some x
    → IsStored (next a end) x
stored_in f k (Assign y is e) x h = stored_by false y is f e k x h
stored_in f k (Reduce y is e) x h = stored_by true y is f e k x h
stored_in f k (Config g a) x h = cc
stored_in f k Pass x h = cc
stored_in f k (If c a b) x h = cc
stored_in f k (For i lo hi b) x h = cc
stored_in f k (Alloc y cell dims memory) x h = cc
stored_in f k (View w y coords) x h = cc
stored_in f k (Call n args) x h = cc

pub storing_is : (f : Form) (k : ℕ) (b : Block) (x : Store) → storing f k b ≡ Some x → IsStored b x
storing_is f k b x h =
    let a = found_then (alone_in b) (store_of f k) x h in
    subst (λ z. IsStored z x) (sym (alone_is b a.0 a.1)) (stored_in f k a.0 x a.2)

-- ---- a part keeps the rules

module _ (fields : ℕ → Option Kind) (scope : Scope) where
  abbrev Keeps : Datum → Type 0
  Keeps e = is_datum fields scope e ≡ true

  part_keeps : (h : Hole) (e : Datum) → Keeps (filled h e) → Keeps e
  part_keeps Top e k = k
  part_keeps (InNegated h) e k = part_keeps h e k
  part_keeps (InRelu h) e k = part_keeps h e k
  part_keeps (InPlus h b) e k = part_keeps h e (and_parts _ _ k).0
  part_keeps (InMinus h b) e k = part_keeps h e (and_parts _ _ k).0
  part_keeps (InTimes h b) e k = part_keeps h e (and_parts _ _ k).0
  part_keeps (PlusIn a h) e k = part_keeps h e (and_parts _ _ k).1
  part_keeps (MinusIn a h) e k = part_keeps h e (and_parts _ _ k).1
  part_keeps (TimesIn a h) e k = part_keeps h e (and_parts _ _ k).1
  part_keeps (InFirst h b c d) e k =
      let one = is_datum fields scope (filled h e) in
      let q = is_datum fields scope b in
      let p = and_parts (one && q) (is_datum fields scope c && is_datum fields scope d) k in
      part_keeps h e (and_parts one q p.0).0
  part_keeps (InSecond a h c d) e k =
      let one = is_datum fields scope a in
      let q = is_datum fields scope (filled h e) in
      let p = and_parts (one && q) (is_datum fields scope c && is_datum fields scope d) k in
      part_keeps h e (and_parts one q p.0).1
  part_keeps (InThird a b h d) e k =
      let one = is_datum fields scope (filled h e) in
      let q = is_datum fields scope d in
      let p = and_parts (is_datum fields scope a && is_datum fields scope b) (one && q) k in
      part_keeps h e (and_parts one q p.1).0
  part_keeps (InFourth a b c h) e k =
      let one = is_datum fields scope c in
      let q = is_datum fields scope (filled h e) in
      let p = and_parts (is_datum fields scope a && is_datum fields scope b) (one && q) k in
      part_keeps h e (and_parts one q p.1).1

  buffer_of_sort : (rank : ℕ) (o : Option Sort) → has_rank rank o ≡ true
      → (n : ℕ) × (dense : Bool) × (o ≡ Some (BufferName (cell_of o) n dense))
  buffer_of_sort rank None h = absurd (true≢false (sym h))
  buffer_of_sort rank (Some (ControlName kind)) h = absurd (true≢false (sym h))
  buffer_of_sort rank (Some (BufferName cell n dense)) h = (n, dense, refl)

  reads_cell : (e : Datum) → Keeps e → ReadsCell scope (cells_in scope) e
  reads_cell e k y is same =
      let there : is_access fields scope y is ≡ true = subst Keeps same k in
      buffer_of_sort (length is) (sort_in scope y)
      (and_parts (has_rank (length is) (sort_in scope y)) (are_controls fields plainly scope is) there).0

-- the right side of what is stored
stored_keeps : (fields : ℕ → Option Kind) (memories : ℕ) (callees : ℕ → Option Callee) (scope : Scope)
    (root : ℕ → ℕ) (reduces : Bool) (y : ℕ) (is : List Control) (e : Datum)
    → is_block fields memories callees scope root (one (stores reduces y is e)) ≡ true
    → is_datum fields scope e ≡ true
stored_keeps fields memories callees scope root false y is e h =
    let both = is_access fields scope y is && is_datum fields scope e in
    (and_parts (is_access fields scope y is) (is_datum fields scope e) (and_parts both true h).0).1
stored_keeps fields memories callees scope root true y is e h =
    let both = is_access fields scope y is && is_datum fields scope e in
    (and_parts (is_access fields scope y is) (is_datum fields scope e) (and_parts both true h).0).1

-- ---- the rule

module _ (f : Form) (k : ℕ) (name : List ℕ) (a : Site) (is : IsSite (bind_rule f k name) a) (x : Store)
    (stands : IsStored (old a.spot) x) where
  abbrev s : Spot
  s = a.spot

  abbrev p : Procedure
  p = s.target.proc

  abbrev e : Datum
  e = x.part.datum

  abbrev made : Buffer
  made = one_cell (bound_cell (cells_in (scope_here s)) e) name a.base

  below : IsBelow a.base p
  below = is_below a is.spot is.below

  same_base : a.base ≤ a.base
  same_base = omega arith

  may_leave : MayLeave p (around s) (is_buffer made)
  may_leave =
      let unit = s.target.unit in
      may_leave_law (field_kind unit.fields) (length unit.memories) (callees_for s.target) p (around s)
      (old s) (is_buffer made) is.spot.runs.procedure is.spot.body
      (λ y h. subst (λ z. IsNew p z ⊎ IsInner (old s) z) (sym (eqb-true y a.base h))
      (inl (no_param a.base p below.below a.base same_base, no_binder a.base p below.below a.base same_base)))

  unused : in_statement (is_buffer made) (stored x (filled x.part.hole e)) ≡ false
  unused =
      (or_parts (in_statement (is_buffer made) (stored x (filled x.part.hole e))) false
      (fewer.block (nat_le a.base) (is_buffer made)
      (λ y h. contrary (y == a.base) (λ j. true≢false
      (sym (le-leb a.base a.base same_base) ∙ ap (nat_le a.base) (sym (eqb-true y a.base j)) ∙ h)))
      (one (stored x (filled x.part.hole e)))
      (subst (λ b. mentions (nat_le a.base) b ≡ false) stands.is
      (old_is_made p (around s) (old s) a.base below is.spot.body).low))).0

  keeps : is_datum (field_kind s.target.unit.fields) (scope_here s) e ≡ true
  keeps =
      let unit = s.target.unit in
      part_keeps (field_kind unit.fields) (scope_here s) x.part.hole e
      (stored_keeps (field_kind unit.fields) (length unit.memories) (callees_for s.target) (scope_here s)
      (own_roots_at (around s)) x.reduces x.target x.indices (filled x.part.hole e)
      (subst (λ b. keeps_here s b ≡ true) stands.is is.spot.well.piece))

  bound_stands : Replaces s (bound_store (scope_here s) name a.base x) (fields_at_exit (bind_rule f k name) a)
  bound_stands =
      let unit = s.target.unit in
      whole (bind_at_place unit.fields (length unit.memories) unit.procedures p (around s)
      (cells_in (scope_here s)) made x.reduces x.target x.indices x.part.hole e is.spot.runs
      (is.spot.body ∙ ap (fill (around s)) stands.is) may_leave refl refl unused
      (reads_cell (field_kind unit.fields) (scope_here s) e keeps) stands.short)

pub bind_is_lawful : (f : Form) (k : ℕ) (name : List ℕ) → IsLawful (bind_rule f k name)
bind_is_lawful f k name = record {
  replaces = λ a is versions met. (
      let d = made_of (storing f k (old a.spot)) (bound_store (scope_here a.spot) name a.base) a.draft is.drafted in
      subst (λ b. Replaces a.spot b (fields_at_exit (bind_rule f k name) a)) d.made
      (bound_stands f k name a is d.of (storing_is f k (old a.spot) d.of d.found))
      );
}

-- ---- the statement goes behind the store

same_bone : (reduces : Bool) (y : ℕ) (is : List Control) (e d : Datum)
    → bone (stores reduces y is e) ≡ bone (stores reduces y is d)
same_bone true y is e d = refl
same_bone false y is e d = refl

pub bind_is_carrying : (f : Form) (k : ℕ) (name : List ℕ) → IsCarrying (bind_rule f k name)
bind_is_carrying f k name = record {
  carries = λ a is. (
      let make = bound_store (scope_here a.spot) name a.base in
      let d = made_of (storing f k (old a.spot)) make a.draft is.drafted in
      let x = d.of in
      let st = storing_is f k (old a.spot) x d.found in
      let shifts = range (at_index 0) 1 (Some (at_index 2)) ∷ [] in
      let first = one_cell (bound_cell (cells_in (scope_here a.spot)) x.part.datum) name a.base in
      let was = stored x (filled x.part.hole x.part.datum) in
      let now = stored x (filled x.part.hole (Read a.base [])) in
      let rest = next (Assign a.base [] x.part.datum) (one now) in
      subst (λ b. Carries shifts b (or_pass (around a.spot) a.draft)) (sym st.is)
      (subst (λ b. Carries shifts (one was) (or_pass (around a.spot) b)) d.made
      (subst (Carries shifts (one was)) (sym (or_pass_next (around a.spot) (allocation first) rest)) (
        record {
          was = record { around = Here end; piece = one was };
          is = record {
            around = After (allocation first) (After (Assign a.base [] x.part.datum) (Here end));
            piece = one now;
          };
          before = refl;
          after = refl;
          alike = ap (λ z. more z none)
              (same_bone x.reduces x.target x.indices (filled x.part.hole x.part.datum) (filled x.part.hole (Read a.base [])));
        },
        tt,
      )))
      );
  apart = λ a is. refl;
}
