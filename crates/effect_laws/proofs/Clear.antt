-- Pieces whose conflicts have no integer point do not clash.
use Rattle.std.proofs.Common.{◌≡◌, ◌≤◌, ℕ, max, ℤ, ◌==◌, Bool, true, false, true≢false, cond, List, [], ◌∷◌, ◌++◌, map, Option, Some, None, refl, sym, ap, ap₂, ◌∙◌, subst, eqb-true, eq-eqb, arith, inl, inr}
use Rattle.std.specs.Prelude.{IsSome, is_some, filter, flat_map}
use Rattle.std.specs.List.{AllByRecursion}
use Rattle.std.specs.Ordering.{int_eq}
use Rattle.std.proofs.lemmas.Int.{ints}
use Rattle.exo_tree.specs.Places.{Path}
use Rattle.exo_meaning.specs.Scene.{Scene}
use Rattle.exo_meaning.specs.State.{Place, is_there, same_index}
use Rattle.exo_meaning.specs.Footprint.{Entry, Reads, Writes, Reduces, Made, stores_one, stores, overwrites_one, overwrites, IsClear}
use Rattle.exo_meaning.specs.Orders.{Each}
use Rattle.exo_meaning.specs.Modes.{Mode, Reading, Writing, Reducing}
use Rattle.meaning_laws.specs.Pairs.{AreClear}
use Rattle.affine_forms.specs.Affine.{Constraints, HasNoIntegerPoint}
use Rattle.affine_forms.specs.Atoms.{Valuation}
use Rattle.affine_forms.specs.Formulas.{Formula, all_met}
use Rattle.affine_systems.specs.Systems.{systems_of, HaveNoPoint, KeepsKinds}
use Rattle.affine_systems.specs.Laws.{SystemsLaw}
use Rattle.affine_systems.specs.Outcomes.{Owed, owed}
use Rattle.check_laws.proofs.OfFacts.Truths.{parts, joined, both_false}
use Rattle.exo_effects.specs.Accesses.{Access}
use Rattle.exo_effects.specs.Orders.{Order}
use Rattle.exo_effects.specs.Limits.{are_within, unless_refused}
use Rattle.exo_effects.specs.Fresh.{past_formula, past_all, past_access, past_order}
use Rattle.exo_effects.specs.Conflicts.{against, Fault, ManySystems, Listing, Lists, Refuses, meeting, modes_clash, may_clash, clashing, past_these, owed_for, pair_fault, owed_behind}
use Rattle.effect_laws.specs.Covers.{Reaches, IsCell, IsCellOfSome, IsCovered, Covers}
use Rattle.effect_laws.specs.Clear.{AreTwoTurns, ClearLaw}
use Rattle.effect_laws.proofs.Renamed.{left_of, right_of}
use Rattle.effect_laws.proofs.Meeting.{do_not_meet}

-- ---- what is owed for each pair

module _ (ctx : List Formula) (order : Order) (place : Path) (base : ℕ) (P : Owed → Type 0) where
  left_each : (xs ys : List Owed) → Each P (xs ++ ys) → Each P xs
  left_each [] ys h = tt
  left_each (x ∷ xs) ys h = (h.0, left_each xs ys h.1)

  right_each : (xs ys : List Owed) → Each P (xs ++ ys) → Each P ys
  right_each [] ys h = h
  right_each (x ∷ xs) ys h = right_each xs ys h.1

  pub each_flat : (ps : List (Access × Access)) → Each P (flat_map (owed_for ctx order place base) ps) → Each (λ p. Each P (owed_for ctx order place base p)) ps
  each_flat [] h = tt
  each_flat (p ∷ ps) h =
      let own = owed_for ctx order place base p in
      let others = flat_map (owed_for ctx order place base) ps in
      (left_each own others h, each_flat ps (right_each own others h))

  went_on : (o : Option Fault) (t : Bool) (rest : Listing) (os : List Owed) → unless_refused Refuses ManySystems o t rest ≡ Lists os → rest ≡ Lists os
  went_on (Some f) t rest os e = absurd (refused e)
    where
      refused : Refuses f ≡ Lists os → ⊥
      refused e = cc
  went_on None true rest os e = e
  went_on None false rest os e = absurd (refused e)
    where
      refused : Refuses ManySystems ≡ Lists os → ⊥
      refused e = cc

  of_each_pair : (fits : Bool) (before : List Owed) (ps : List (Access × Access)) (os : List Owed) → owed_behind fits ctx order place base before ps ≡ Lists os → Each P os → Each P before × Each (λ p. Each P (owed_for ctx order place base p)) ps
  of_each_pair fits before [] os e h = (subst (Each P) (sym (same e)) h, tt)
    where
      same : Lists before ≡ Lists os → before ≡ os
      same e = cc
  of_each_pair fits before (p ∷ ps) os e h =
      let own = owed_for ctx order place base p in
      let next = of_each_pair fits (before ++ own) ps os (went_on (pair_fault fits ctx order place base p) (are_within (before ++ own)) (owed_behind fits ctx order place base (before ++ own) ps) os e) h in
      (left_each before own next.0, (right_each before own next.0, next.1))

no_points : (what : List ℕ) (place : Path) (ss : List Constraints) → Each (λ o. HasNoIntegerPoint o.system) (map (owed what place) ss) → AllByRecursion HasNoIntegerPoint ss
no_points what place [] h = tt
no_points what place (s ∷ ss) h = (h.0, no_points what place ss h.1)

-- ---- pairs

module _ (Q : Access × Access → Type 0) (base : ℕ) where
  with_each : (x : Access) (ys : List Access) → past_all past_access ys ≤ base → Each Q (map (λ y. (x, y)) (filter (λ y. may_clash x y) ys)) → (c : ℕ → ℤ) (m : Mode) (p : Place) → IsCellOfSome c m p ys → (y : Access) × IsCell c m p y × (past_access y ≤ base) × (may_clash x y ≡ true → Q (x, y))
  with_each x [] low h c m p i = absurd i
  with_each x (y ∷ ys) low h c m p (inl i) = (y, i, left_of (past_access y) (past_all past_access ys) base low, λ k. go (may_clash x y) k h)
    where
      go : (t : Bool) → t ≡ true → Each Q (map (λ y. (x, y)) (cond t (y ∷ filter (λ y. may_clash x y) ys) (filter (λ y. may_clash x y) ys))) → Q (x, y)
      go true k h = h.0
      go false k h = absurd (true≢false (sym k))
  with_each x (y ∷ ys) low h c m p (inr i) = with_each x ys (right_of (past_access y) (past_all past_access ys) base low) (go (may_clash x y) h) c m p i
    where
      go : (t : Bool) → Each Q (map (λ y. (x, y)) (cond t (y ∷ filter (λ y. may_clash x y) ys) (filter (λ y. may_clash x y) ys))) → Each Q (map (λ y. (x, y)) (filter (λ y. may_clash x y) ys))
      go true h = h.1
      go false h = h

  first_of : (xs ys : List (Access × Access)) → Each Q (xs ++ ys) → Each Q xs
  first_of [] ys h = tt
  first_of (x ∷ xs) ys h = (h.0, first_of xs ys h.1)

  second_of : (xs ys : List (Access × Access)) → Each Q (xs ++ ys) → Each Q ys
  second_of [] ys h = h
  second_of (x ∷ xs) ys h = second_of xs ys h.1

  from_each : (xs ys : List Access) → past_all past_access xs ≤ base → Each Q (clashing xs ys) → (c : ℕ → ℤ) (m : Mode) (p : Place) → IsCellOfSome c m p xs → (x : Access) × IsCell c m p x × (past_access x ≤ base) × Each Q (map (λ y. (x, y)) (filter (λ y. may_clash x y) ys))
  from_each [] ys low h c m p i = absurd i
  from_each (x ∷ xs) ys low h c m p (inl i) = (x, i, left_of (past_access x) (past_all past_access xs) base low, first_of (map (λ y. (x, y)) (filter (λ y. may_clash x y) ys)) (clashing xs ys) h)
  from_each (x ∷ xs) ys low h c m p (inr i) = from_each xs ys (right_of (past_access x) (past_all past_access xs) base low) (second_of (map (λ y. (x, y)) (filter (λ y. may_clash x y) ys)) (clashing xs ys) h) c m p i

-- ---- entries

int_same : (i j : ℤ) → int_eq i j ≡ true → i ≡ j
int_same i j h = grind (arith, ints, h)

same_index_is : (is js : List ℤ) → same_index is js ≡ true → is ≡ js
same_index_is [] [] h = refl
same_index_is [] (j ∷ js) h = absurd (true≢false (sym h))
same_index_is (i ∷ is) [] h = absurd (true≢false (sym h))
same_index_is (i ∷ is) (j ∷ js) h = let k = parts (int_eq i j) (same_index is js) h in ap₂ (λ a rest. a ∷ rest) (int_same i j k.0) (same_index_is is js k.1)

-- the cell of the second place is that of the first
is_there_is : (p q : Place) → is_there p q.buffer q.at ≡ true → (q.buffer ≡ p.buffer) × (q.at ≡ p.at)
is_there_is p q h = let k = parts (q.buffer == p.buffer) (same_index q.at p.at) h in (eqb-true q.buffer p.buffer k.0, same_index_is q.at p.at k.1)

abbrev is_store : Mode → Bool
is_store Reading = false
is_store Writing = true
is_store Reducing = true

reads_clash : (n : Mode) → is_store n ≡ true → modes_clash Reading n ≡ true
reads_clash Reading h = absurd (true≢false (sym h))
reads_clash Writing h = refl
reads_clash Reducing h = refl

writes_clash : (n : Mode) → is_store n ≡ true → modes_clash Writing n ≡ true
writes_clash Reading h = refl
writes_clash Writing h = refl
writes_clash Reducing h = refl

-- ---- one piece against the other

-- no cell of the first list is one of the second with a mode that clashes
abbrev pub NoneClash : Scene → List Access → Scene → List Access → Type 0
NoneClash s xs t ys = (m n : Mode) (p q : Place) → modes_clash m n ≡ true → p.buffer ≡ q.buffer → p.at ≡ q.at → IsCellOfSome s.control m p xs → IsCellOfSome t.control n q ys → ⊥

module _ (s t : Scene) (xs ys : List Access) (buffers : t.buffers ≡ s.buffers) (none : NoneClash s xs t ys) where
  there : (p q : Place) → p.buffer ≡ q.buffer → IsSome (s.buffers p.buffer) → IsSome (t.buffers q.buffer)
  there p q e h = ap (λ f. is_some (f q.buffer)) buffers ∙ ap (λ b. is_some (s.buffers b)) (sym e) ∙ h

  some_shape : {A : Type 0} (o : Option A) → IsSome o → (a : A) × (o ≡ Some a)
  some_shape None h = absurd (true≢false (sym h))
  some_shape (Some a) h = (a, refl)

  -- ---- a cell of the first piece against the second piece

  module _ (m : Mode) (p : Place) (here : IsSome (s.buffers p.buffer)) (one : IsCellOfSome s.control m p xs) where
    made_is_other : (b : ℕ) → t.buffers b ≡ None → (p.buffer == b) ≡ false
    made_is_other b e = go (p.buffer == b) refl
      where
        go : (u : Bool) → (p.buffer == b) ≡ u → u ≡ false
        go false h = refl
        go true h = absurd (true≢false (sym (there p p refl here) ∙ ap (λ c. is_some (t.buffers c)) (eqb-true p.buffer b h) ∙ ap is_some e))

    other_place : (n : Mode) (q : Place) → modes_clash m n ≡ true → (IsSome (t.buffers q.buffer) → IsCellOfSome t.control n q ys) → is_there q p.buffer p.at ≡ false
    other_place n q clash h = go (is_there q p.buffer p.at) refl
      where
        go : (u : Bool) → is_there q p.buffer p.at ≡ u → u ≡ false
        go false e = refl
        go true e = let k = is_there_is q p e in absurd (none m n p q clash k.0 k.1 one (h (there p q k.0 here)))

    not_stored : ((n : Mode) → is_store n ≡ true → modes_clash m n ≡ true) → (fs : List Entry) → Covers t ys fs → stores p fs ≡ false
    not_stored k [] h = refl
    not_stored k (f ∷ fs) h = both_false (stores_one p f) (stores p fs) (one_of f h.0) (not_stored k fs h.1)
      where
        one_of : (f : Entry) → IsCovered t ys f → stores_one p f ≡ false
        one_of (Reads q) c = refl
        one_of (Writes q) c = other_place Writing q (k Writing refl) c
        one_of (Reduces cell q) c = other_place Reducing q (k Reducing refl) (λ i. let z = some_shape (t.buffers q.buffer) i in (c z.0 z.1).1)
        one_of (Made b) c = made_is_other b c

    not_overwritten : modes_clash m Writing ≡ true → (fs : List Entry) → Covers t ys fs → overwrites p fs ≡ false
    not_overwritten k [] h = refl
    not_overwritten k (f ∷ fs) h = both_false (overwrites_one p f) (overwrites p fs) (one_of f h.0) (not_overwritten k fs h.1)
      where
        one_of : (f : Entry) → IsCovered t ys f → overwrites_one p f ≡ false
        one_of (Reads q) c = refl
        one_of (Writes q) c = other_place Writing q k c
        one_of (Reduces cell q) c = refl
        one_of (Made b) c = made_is_other b c

  pub first_clear : (fs : List Entry) → Covers t ys fs → (e : Entry) → IsCovered s xs e → IsClear s fs e
  first_clear fs h (Reads p) c = λ i. not_stored Reading p i (c i) reads_clash fs h
  first_clear fs h (Writes p) c = λ i. not_stored Writing p i (c i) writes_clash fs h
  first_clear fs h (Reduces cell p) c = λ shape i. (not_overwritten Reducing p (ap is_some i) (c shape i).1 refl fs h, (c shape i).0)
  first_clear fs h (Made b) c = c

clash_back : (m n : Mode) → modes_clash m n ≡ true → modes_clash n m ≡ true
clash_back Reading Reading h = h
clash_back Reading Writing h = refl
clash_back Reading Reducing h = refl
clash_back Writing Reading h = refl
clash_back Writing Writing h = refl
clash_back Writing Reducing h = refl
clash_back Reducing Reading h = refl
clash_back Reducing Writing h = refl
clash_back Reducing Reducing h = h

-- it is asked of the buffers alone
pub clear_with : (s t : Scene) → t.buffers ≡ s.buffers → (es : List Entry) (f : Entry) → IsClear t es f → IsClear s es f
clear_with s t e es (Reads p) h = λ i. h (ap (λ b. is_some (b p.buffer)) e ∙ i)
clear_with s t e es (Writes p) h = λ i. h (ap (λ b. is_some (b p.buffer)) e ∙ i)
clear_with s t e es (Reduces cell p) h = λ shape i. h shape (ap (λ b. b p.buffer) e ∙ i)
clear_with s t e es (Made x) h = ap (λ b. b x) (sym e) ∙ h

-- all pairs that may clash are shown
abbrev pub AllShown : List Formula → Order → List Access → List Access → Type 0
AllShown ctx order xs ys = Each (λ p. HaveNoPoint (meeting ctx order (past_these ctx order xs ys) p.0 p.1)) (clashing xs ys)

pub each_shown : (ctx : List Formula) (order : Order) (place : Path) (base : ℕ) (ps : List (Access × Access)) → Each (λ p. Each (λ o. HasNoIntegerPoint o.system) (owed_for ctx order place base p)) ps → Each (λ p. HaveNoPoint (meeting ctx order base p.0 p.1)) ps
each_shown ctx order place base [] h = tt
each_shown ctx order place base (p ∷ ps) h = (no_points (against p) place (systems_of (meeting ctx order base p.0 p.1)) h.0, each_shown ctx order place base ps h.1)

module _ (systems : SystemsLaw) (ctx : List Formula) (order : Order) (xs ys : List Access) (v : Valuation) (s t : Scene) (keeps : KeepsKinds v) (met : all_met v ctx ≡ true) (shown : AllShown ctx order xs ys) (two : AreTwoTurns order v s t) where
  abbrev base : ℕ
  base = past_these ctx order xs ys

  abbrev Shown : Access × Access → Type 0
  Shown p = HaveNoPoint (meeting ctx order base p.0 p.1)

  low : past_these ctx order xs ys ≤ base
  low = omega arith

  low_these : max (past_all past_formula ctx) (past_order order) ≤ base
  low_these = left_of (max (past_all past_formula ctx) (past_order order)) (max (past_all past_access xs) (past_all past_access ys)) base low

  low_lists : max (past_all past_access xs) (past_all past_access ys) ≤ base
  low_lists = right_of (max (past_all past_formula ctx) (past_order order)) (max (past_all past_access xs) (past_all past_access ys)) base low

  -- no cell is reached by two accesses that may clash
  pub no_clash : NoneClash s xs t ys
  no_clash m n p q clash same at one other =
      let a = from_each Shown base xs ys (left_of (past_all past_access xs) (past_all past_access ys) base low_lists) shown s.control m p one in
      let b = with_each Shown base a.0 ys (right_of (past_all past_access xs) (past_all past_access ys) base low_lists) a.3 t.control n q other in
      let may : may_clash a.0 b.0 ≡ true = joined (a.0.root == b.0.root) (modes_clash a.0.mode b.0.mode) (eq-eqb a.0.root b.0.root (a.1.root ∙ same ∙ sym b.1.root)) (ap₂ modes_clash a.1.so b.1.so ∙ clash) in
      do_not_meet ctx order base a.0 b.0 v s.control t.control two.copies p.at
      (record { numbers = a.1.numbers; others = a.1.others; reached = a.1.reached })
      (record { numbers = b.1.numbers; others = b.1.others; reached = subst (Reaches b.0 b.1.numbers) (sym at) b.1.reached })
      (right_of (past_all past_formula ctx) (past_order order) base low_these) systems keeps (left_of (past_all past_formula ctx) (past_order order) base low_these) a.2 b.2 met (b.3 may)

  each_clear : (xs : List Access) (r : Scene) (es fs : List Entry) → ((e : Entry) → IsCovered r xs e → IsClear s fs e) → Covers r xs es → Each (IsClear s fs) es
  each_clear xs r [] fs k h = tt
  each_clear xs r (e ∷ es) fs k h = (k e h.0, each_clear xs r es fs k h.1)

  pub are_clear : (es fs : List Entry) → Covers s xs es → Covers t ys fs → AreClear s es fs
  are_clear es fs h k = (
    each_clear xs s es fs (first_clear s t xs ys two.buffers no_clash fs k) h,
    each_clear ys t fs es (λ f c. clear_with s t two.buffers es f (first_clear t s ys xs (sym two.buffers) (λ m n p q clash same at one other. no_clash n m q p (clash_back m n clash) (sym same) (sym at) other one) es h f c)) k,
  )

pub clear_law : SystemsLaw → ClearLaw
clear_law systems fits ctx order place xs ys v s t es fs keeps met shown two h k =
    let base = past_these ctx order xs ys in
    let closed = (of_each_pair ctx order place base (λ o. HasNoIntegerPoint o.system) fits [] (clashing xs ys) shown.0 shown.1 shown.2).1 in
    are_clear systems ctx order xs ys v s t keeps met (each_shown ctx order place base (clashing xs ys) closed) two es fs h k
