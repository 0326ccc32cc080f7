-- Names that may be left at a place of a well-formed procedure.
use Rattle.std.proofs.Common.{◌≡◌, ⊎_elim, ℕ, ◌==◌, Bool, true, false, not, ◌&&◌, ◌||◌, List, []}
use Rattle.std.proofs.Common.{◌∷◌, ◌++◌, map, refl, sym, ap, ap₂, ◌∙◌, subst, true≢false, eqb-true}
use Rattle.std.specs.List.{list_any}
use Rattle.std.proofs.lemmas.List.Folds.{list_any-append}
use Rattle.exo_tree.specs.Tree.{Statement, Assign, Reduce, Config, Pass, If, For, Alloc, View, Call}
use Rattle.exo_tree.specs.Tree.{Block, end, next, joined, Procedure}
use Rattle.exo_tree.specs.Context.{Context, Here, After, InLoop, InThen, InElse, fill, rest_of}
use Rattle.exo_meaning.specs.Binders.{binders, step_binders}
use Rattle.exo_meaning.specs.Units.{are_distinct}
use Rattle.exo_meaning.specs.Unseen.{in_control, in_condition, in_block}
use Rattle.exo_meaning.proofs.Frame.{or_parts}
use Rattle.meaning_laws.specs.Copies.{IsFree}
use Rattle.meaning_laws.specs.Scoped.{is_not, is_param, is_scoped, step_is_scoped, has_binder}
use Rattle.meaning_laws.specs.Scoped.{step_has_binder}
use Rattle.meaning_laws.specs.Sound.{binds, on_way}
use Rattle.meaning_laws.proofs.Binders.{binders_law, fresh_law}
use Rattle.meaning_laws.proofs.Facts.{or_left, or_right}
use Rattle.meaning_laws.proofs.Scoped.{not_true, or_elim, both_false}
use Rattle.meaning_laws.proofs.Substitute.{and_parts}
use Rattle.meaning_laws.proofs.Unmentioned.{unmentioned_law}
use Rattle.meaning_laws.proofs.WellFormed.{well_scoped}
use Rattle.place_laws.specs.Scope.Opened.{MayLeaveLaw, IsNew, IsInner}
use Rattle.place_laws.specs.Scope.Scopes.{top_binders}

-- ---- names that what follows a place does not use

-- what may be bound at a place is not hidden
abbrev Shows : (ℕ → Bool) → (ℕ → Bool) → Type 0
Shows hidden bound = (x : ℕ) → bound x ≡ true → hidden x ≡ false

module _ (hidden : ℕ → Bool) where
  -- behind a block
  behind : (b rest : Block) (bound : ℕ → Bool) → is_scoped bound (joined b rest) ≡ true
      → Shows hidden bound → Shows hidden (top_binders b) → Shows hidden (has_binder rest)
      → in_block hidden rest ≡ false
  behind end rest bound h k top own = unmentioned_law bound hidden rest h k own
  behind (next a b) rest bound h k top own =
      let p = and_parts (step_is_scoped bound a) (is_scoped (λ y. binds a y || bound y)
      (joined b rest)) h in
      behind b rest (λ y. binds a y || bound y) p.1 (λ x e. or_elim (binds a x) (bound x) e
      (λ j. top x (or_left (binds a x) (top_binders b x) j)) (k x))
      (λ x e. top x (or_right (binds a x) (top_binders b x) e)) own

  module _ (old : Block) (top : Shows hidden (top_binders old)) where
    unused : (c : Context) (bound : ℕ → Bool) → is_scoped bound (fill c old) ≡ true
        → Shows hidden bound → Shows hidden (on_way c) → Shows hidden (has_binder (rest_of c))
        → in_block hidden (rest_of c) ≡ false
    unused (Here rest) bound h k way own = behind old rest bound h k top own
    unused (After a c) bound h k way own =
        let p = and_parts (step_is_scoped bound a) (is_scoped (λ y. binds a y || bound y)
        (fill c old)) h in
        unused c (λ y. binds a y || bound y) p.1 (λ x e. or_elim (binds a x) (bound x) e
        (λ j. way x (or_left (binds a x) (on_way c x) j)) (k x))
        (λ x e. way x (or_right (binds a x) (on_way c x) e)) own
    unused (InLoop i lo hi c rest) bound h k way own =
        let p = and_parts (step_is_scoped bound (For i lo hi (fill c old)))
        (is_scoped (λ y. binds (For i lo hi (fill c old)) y || bound y) rest) h in
        let q = and_parts (not (bound i.id)) (not (in_control (is_not bound) lo || in_control
        (is_not bound) hi) && is_scoped (λ y. (y == i.id) || bound y) (fill c old)) p.0 in
        let r = and_parts (not (in_control (is_not bound) lo || in_control (is_not bound) hi))
        (is_scoped (λ y. (y == i.id) || bound y) (fill c old)) q.1 in
        unused c (λ y. (y == i.id) || bound y) r.1 (λ x e. or_elim (x == i.id) (bound x) e
        (λ j. way x (or_left (x == i.id) (on_way c x) j)) (k x))
        (λ x e. way x (or_right (x == i.id) (on_way c x) e)) own
    unused (InThen t c other rest) bound h k way own =
        let p = and_parts (step_is_scoped bound (If t (fill c old) other))
        (is_scoped (λ y. binds (If t (fill c old) other) y || bound y) rest) h in
        let q = and_parts (not (in_condition (is_not bound) t)) (is_scoped bound (fill c old)
        && is_scoped bound other) p.0 in
        unused c bound (and_parts (is_scoped bound (fill c old)) (is_scoped bound other) q.1).0 k
        way own
    unused (InElse t other c rest) bound h k way own =
        let p = and_parts (step_is_scoped bound (If t other (fill c old)))
        (is_scoped (λ y. binds (If t other (fill c old)) y || bound y) rest) h in
        let q = and_parts (not (in_condition (is_not bound) t)) (is_scoped bound other
        && is_scoped bound (fill c old)) p.0 in
        unused c bound (and_parts (is_scoped bound other) (is_scoped bound (fill c old)) q.1).1 k
        way own

-- ---- binders of a block, and of what follows it

pub top_has : (b : Block) (x : ℕ) → has_binder b x ≡ false → top_binders b x ≡ false
top_has end x h = refl
top_has (next a b) x h =
    let p = or_parts (step_has_binder a x) (has_binder b x) h in
    both_false (binds a x) (top_binders b x) (less a p.0) (top_has b x p.1)
  where
    less : (a : Statement) → step_has_binder a x ≡ false → binds a x ≡ false
    less (Assign y is e) h = refl
    less (Reduce y is e) h = refl
    less (Config f a) h = refl
    less Pass h = refl
    less (If c a b) h = refl
    less (For i lo hi b) h = refl
    less (Alloc y cell dims memory) h = h
    less (View w y coords) h = h
    less (Call n args) h = refl

joined_has : (a rest : Block) (x : ℕ) → has_binder (joined a rest) x ≡ false
    → (has_binder a x ≡ false) × (has_binder rest x ≡ false)
joined_has end rest x h = (refl, h)
joined_has (next a b) rest x h =
    let p = or_parts (step_has_binder a x) (has_binder (joined b rest) x) h in
    let q = joined_has b rest x p.1 in
    (both_false (step_has_binder a x) (has_binder b x) p.0 q.0, q.1)

-- what is not bound in a block is bound neither in a part of it nor behind that
module _ (old : Block) (x : ℕ) where
  parts_have : (c : Context) → has_binder (fill c old) x ≡ false
      → (has_binder old x ≡ false) × (has_binder (rest_of c) x ≡ false)
  parts_have (Here rest) h = joined_has old rest x h
  parts_have (After a c) h = parts_have c (or_parts (step_has_binder a x) (has_binder (fill c old)
      x) h).1
  parts_have (InLoop i lo hi c rest) h =
      parts_have c (or_parts (x == i.id) (has_binder (fill c old) x)
      (or_parts ((x == i.id) || has_binder (fill c old) x) (has_binder rest x) h).0).1
  parts_have (InThen t c other rest) h =
      parts_have c (or_parts (has_binder (fill c old) x) (has_binder other x)
      (or_parts (has_binder (fill c old) x || has_binder other x) (has_binder rest x) h).0).0
  parts_have (InElse t other c rest) h =
      parts_have c (or_parts (has_binder other x) (has_binder (fill c old) x)
      (or_parts (has_binder other x || has_binder (fill c old) x) (has_binder rest x) h).0).1

-- ---- different ids

abbrev among : List ℕ → ℕ → Bool
among xs x = list_any (λ y. x == y) xs

among_both : (xs ys : List ℕ) (x : ℕ) → among (xs ++ ys) x ≡ (among xs x || among ys x)
among_both xs ys x = list_any-append (λ y. x == y) xs ys

-- the first of two lists of different ids, the second, and none of the one in the other
record Split (xs ys : List ℕ) : Type 0 where
  first : are_distinct xs ≡ true
  second : are_distinct ys ≡ true
  apart : (x : ℕ) → among xs x ≡ true → among ys x ≡ false

split : (xs ys : List ℕ) → are_distinct (xs ++ ys) ≡ true → Split xs ys
split [] ys h = record { first = refl; second = h; apart = λ x k. absurd (true≢false (sym k)) }
split (z ∷ xs) ys h =
    let p = and_parts (not (among (xs ++ ys) z)) (are_distinct (xs ++ ys)) h in
    let r = split xs ys p.1 in
    let n = or_parts (among xs z) (among ys z) (sym (among_both xs ys z)
    ∙ not_true (among (xs ++ ys) z) p.0) in
    record {
      first = ap (λ t. not t && are_distinct xs) n.0 ∙ r.first;
      second = r.second;
      apart = λ x k. or_elim (x == z) (among xs x) k (λ e. ap (among ys) (eqb-true x z e) ∙ n.1)
          (r.apart x);
    }

or_none : (t : Bool) → (t || false) ≡ t
or_none true = refl
or_none false = refl

mutual
  among_binders : (b : Block) (x : ℕ) → among (binders b) x ≡ has_binder b x
  among_binders end x = refl
  among_binders (next a b) x = among_both (step_binders a) (binders b) x
      ∙ ap₂ ◌||◌ (among_step a x) (among_binders b x)

  among_step : (a : Statement) (x : ℕ) → among (step_binders a) x ≡ step_has_binder a x
  among_step (Assign y is e) x = refl
  among_step (Reduce y is e) x = refl
  among_step (Config f a) x = refl
  among_step Pass x = refl
  among_step (If c a b) x = among_both (binders a) (binders b) x
      ∙ ap₂ ◌||◌ (among_binders a x) (among_binders b x)
  among_step (For i lo hi b) x = ap (λ t. (x == i.id) || t) (among_binders b x)
  among_step (Alloc y cell dims memory) x = or_none (x == y.id)
  among_step (View w y coords) x = or_none (x == w.id)
  among_step (Call n args) x = refl

append_assoc : (xs ys zs : List ℕ) → xs ++ (ys ++ zs) ≡ (xs ++ ys) ++ zs
append_assoc [] ys zs = refl
append_assoc (x ∷ xs) ys zs = ap (λ l. x ∷ l) (append_assoc xs ys zs)

joined_binders : (a b : Block) → binders (joined a b) ≡ binders a ++ binders b
joined_binders end b = refl
joined_binders (next a c) b = ap (λ l. step_binders a ++ l) (joined_binders c b)
    ∙ append_assoc (step_binders a) (binders c) (binders b)

-- an id of a part is not bound again behind it
module _ (old : Block) (x : ℕ) (has : has_binder old x ≡ true) where
  once : (c : Context) → are_distinct (binders (fill c old)) ≡ true
      → has_binder (rest_of c) x ≡ false
  once (Here rest) h = sym (among_binders rest x)
      ∙ (split (binders old) (binders rest) (subst (λ l. are_distinct l ≡ true)
      (joined_binders old rest) h)).apart x (among_binders old x ∙ has)
  once (After a c) h = once c (split (step_binders a) (binders (fill c old)) h).second
  once (InLoop i lo hi c rest) h =
      once c (and_parts (not (among (binders (fill c old)) i.id))
      (are_distinct (binders (fill c old))) (split (i.id ∷ binders (fill c old)) (binders rest)
      h).first).1
  once (InThen t c other rest) h =
      once c (split (binders (fill c old)) (binders other)
      (split (binders (fill c old) ++ binders other) (binders rest) h).first).first
  once (InElse t other c rest) h =
      once c (split (binders other) (binders (fill c old))
      (split (binders other ++ binders (fill c old)) (binders rest) h).first).second

-- ---- both together

-- free at the hole, not left by the old block and not bound behind it
record IsApart (p : Procedure) (c : Context) (old : Block) (x : ℕ) : Type 0 where
  free : IsFree p c x
  top : top_binders old x ≡ false
  later : has_binder (rest_of c) x ≡ false

shows : (hidden bound : ℕ → Bool) → ((x : ℕ) → hidden x ≡ true → bound x ≡ false)
    → Shows hidden bound
shows hidden bound k x e = go (hidden x) refl
  where
    go : (t : Bool) → hidden x ≡ t → hidden x ≡ false
    go true h = absurd (true≢false (sym e ∙ k x h))
    go false h = h

pub may_leave_law : MayLeaveLaw
may_leave_law fields memories callees p c old hidden ok was names = record {
  free = λ x k. (each x k).free;
  unused = unused hidden old (shows hidden (top_binders old) (λ x k. (each x k).top)) c (is_param p)
      scoped
      (shows hidden (is_param p) (λ x k. (each x k).free.0))
      (shows hidden (on_way c) (λ x k. (each x k).free.1))
      (shows hidden (has_binder (rest_of c)) (λ x k. (each x k).later));
}
  where
    scoped : is_scoped (is_param p) (fill c old) ≡ true
    scoped = ap (is_scoped (is_param p)) (sym was) ∙ (well_scoped fields memories callees p ok).0

    differ : are_distinct (binders (fill c old)) ≡ true
    differ = ap (λ b. are_distinct (binders b)) (sym was)
        ∙ (split (map (λ q. q.binder.id) p.params) (binders p.body) ok.distinct).second

    new : (x : ℕ) → IsNew p x → IsApart p c old x
    new x k =
        let none = ap (λ b. has_binder b x) (sym was) ∙ k.1 in
        let q = parts_have old x c none in
        record { free = fresh_law p c old x k.0 none; top = top_has old x q.0; later = q.1 }

    inner : (x : ℕ) → IsInner old x → IsApart p c old x
    inner x k = record {
      free = binders_law p c old x scoped k.0;
      top = k.1;
      later = once old x k.0
          c differ;
    }

    each : (x : ℕ) → hidden x ≡ true → IsApart p c old x
    each x k = ⊎_elim (new x) (inner x) (names x k)
