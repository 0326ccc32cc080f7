-- The C of a block follows its run.
use Rattle.std.proofs.Common.{◌≡◌, ◌≤◌, ◌^◌, ℕ, zero, suc, max, ℤ, pos, negsuc, ◌+ℤ◌, ◌-ℤ◌, ◌≤ℤ◌, Bool, true, false, not, ◌||◌, length, Option, Some, None, option_map, refl, sym, ap, ◌∙◌, subst, arith, ◌⊎◌, ⊎_elim, inl, inr, int_lt, unsigned_abs, nat_lt, true≢false, eq-eqb}
use Rattle.std.proofs.lemmas.Int.{ints}
use Rattle.std.proofs.Math.Nat.{le_trans, le_refl}
use Rattle.exo_tree.specs.Tree.{I32, Control, Condition, Statement, Assign, Reduce, Config, Pass, If, For, Alloc, View, Call, Block, end, next}
use Rattle.exo_meaning.specs.Scene.{then_do, Scene, number, holds, updated}
use Rattle.exo_meaning.specs.State.{State, left, scoped, on_scene, with_control}
use Rattle.exo_meaning.specs.Value.{Undefined}
use Rattle.exo_meaning.specs.Run.{World, run, step, assign, reduce, turn, turns, turns_of, range, count, choose, writes, step_writes, roots_after}
use Rattle.c_tree.specs.CTree.{CBlock}
use Rattle.c_unit_laws.specs.Follows.Machine.Machine.{Outcome, Done, after, where_good, hiding}
use Rattle.c_unit_laws.specs.Follows.Machine.Machine.{Machine, Setting, number64, test, IsNumber}
use Rattle.c_unit_laws.specs.Follows.Machine.CRun.{CWorld, run_c, in_scope, back_to, either_way}
use Rattle.c_unit_laws.specs.Follows.Machine.CRun.{turns64, turn64, upper64, go_on, with_counter}
use Rattle.c_unit_laws.specs.Follows.Machine.CRun.{still_there, store, add_to}
use Rattle.c_lowering.specs.Made.Lowered.{Naming, Forms, NoForm, NumberForm, number_of, test_of}
use Rattle.c_lowering.specs.Made.Lowered.{block_of, before, forms_after, cell_in, cell_at_of}
use Rattle.c_lowering.specs.Made.Lowered.{number32_of}
use Rattle.c_widths.specs.Magnitude.{magnitude}
use Rattle.c_widths.specs.Widths.{with_bounds}
use Rattle.c_widths.specs.Laws.{EachTurn}
use Rattle.c_widths.specs.Few.{Fewness, AllocatesFew, StatementAllocatesFew}
use Rattle.c_unit_laws.specs.Follows.Simulation.{Ground, Follows, Layout, HaveForms, Matches, Kept}
use Rattle.c_unit_laws.specs.Follows.Simulation.{Ran, Ends}
use Rattle.c_unit_laws.specs.Follows.Good.{IsBuffer, IsGood, IsGoodTest, IsGoodBlock}
use Rattle.c_unit_laws.specs.Follows.Good.{IsGoodStatement, IsFresh, MayStore}
use Rattle.c_unit_laws.proofs.OfFollows.Clauses.{Rest, AllocClause, ViewClause, CallClause}
use Rattle.c_unit_laws.proofs.OfFollows.Steps.{follows_then, follows_map, follows_done}
use Rattle.c_unit_laws.proofs.OfFollows.Steps.{follows_weaken}
use Rattle.c_unit_laws.proofs.OfFollows.Numbers.{same_number, bounded, narrow}
use Rattle.c_unit_laws.proofs.OfFollows.Tests.{test_is}
use Rattle.c_unit_laws.proofs.OfFollows.Settings.{setting_follows}
use Rattle.c_unit_laws.proofs.OfFollows.Simulate.{assign_follows, reduce_follows}
use Rattle.c_unit_laws.proofs.OfFollows.Scopes.{counted, closed, c_number_wider, number_by_control}

-- ---- what is kept

still_below : (o a b : ℕ) → nat_lt o a ≡ true → a ≤ b → nat_lt o b ≡ true
still_below o a b h k = grind arith

module _ (stored : ℕ → Bool) (layout : Layout) where
  pub kept_refl : (s : State) (m : Machine) → Kept stored layout s m s m
  kept_refl s m = record { buffers = λ b shape e. e; objects = λ o h. refl; free = le_refl m.setting.free; untouched = λ o k h out. refl }

  pub kept_trans : (s : State) (m : Machine) (t : State) (n : Machine) (u : State) (p : Machine) → t.scene.buffers ≡ s.scene.buffers → Kept stored layout s m t n → Kept stored layout t n u p → Kept stored layout s m u p
  kept_trans s m t n u p same h k = record {
    buffers = λ b shape e. k.buffers b shape (h.buffers b shape e);
    objects = λ o e. k.objects o (still_below o m.setting.free n.setting.free e h.free) ∙ h.objects o e;
    free = le_trans h.free k.free;
    untouched = λ o i e out. k.untouched o i (still_below o m.setting.free n.setting.free e h.free) (λ b shape f. out b shape (sym (ap (λ g. g b) same) ∙ f)) ∙ h.untouched o i e out;
  }

  -- at the end of a scope
  kept_closed : (s : State) (m : Machine) (t : State) (n : Machine) → Kept stored layout s m t n → Kept stored layout s m (left s t) (back_to m n)
  kept_closed s m t n h = record {
    buffers = λ b shape e. e;
    objects = λ o e. ap (λ b. still_there b (n.setting.objects o) None) e ∙ h.objects o e;
    free = le_refl m.setting.free;
    untouched = λ o i e out. ap (λ b. still_there b (n.contents o) (λ k. Undefined) i) e ∙ h.untouched o i e out;
  }

pub ran_on : (g : Ground) (forms : Forms) (most : ℕ → ℕ) (root : ℕ → ℕ) (layout : Layout) (s : State) (m : Machine) (t : State) (n : Machine) (u : State) (p : Machine) → Ran g forms most root layout s m t n → Ran g forms most root layout t n u p → Ran g forms most root layout s m u p
ran_on g forms most root layout s m t n u p h k = record { matches = k.matches; kept = kept_trans g.stored layout s m t n u p h.same_buffers h.kept k.kept; control = k.control ∙ h.control; names = k.names ∙ h.names; same_buffers = k.same_buffers ∙ h.same_buffers }

pub ran_refl : (g : Ground) (forms : Forms) (most : ℕ → ℕ) (root : ℕ → ℕ) (layout : Layout) (s : State) (m : Machine) → Matches g forms most root layout s m → Ran g forms most root layout s m s m
ran_refl g forms most root layout s m match = record { matches = match; kept = kept_refl g.stored layout s m; control = refl; names = refl; same_buffers = refl }

-- ---- scopes

ends_refl : (g : Ground) (forms : Forms) (most : ℕ → ℕ) (root : ℕ → ℕ) (layout : Layout) (s : State) (m : Machine) → Matches g forms most root layout s m → Ends g forms layout s m s m
ends_refl g forms most root layout s m match = record { kept = kept_refl g.stored layout s m; names = λ x. inr refl; fields = λ f h. ((match.fields f h).same, (match.fields f h).small); cells = match.cells }

-- a statement, and then the rest of its block
ends_on : (g : Ground) (forms : Forms) (most : ℕ → ℕ) (root : ℕ → ℕ) (layout : Layout) (s : State) (m : Machine) (t : State) (n : Machine) (u : State) (p : Machine) → Ran g forms most root layout s m t n → Ends g forms layout t n u p → Ends g forms layout s m u p
ends_on g forms most root layout s m t n u p h k = record {
  kept = kept_trans g.stored layout s m t n u p h.same_buffers h.kept k.kept;
  names = λ x. ⊎_elim (λ e. inl e) (λ e. inr (e ∙ ap (λ f. f (g.naming.binder x)) h.names)) (k.names x);
  fields = k.fields;
  cells = λ b shape e at r. k.cells b shape (h.kept.buffers b shape e) at r;
}

module _ (Few : Type 0) (g : Ground) (forms inner : Forms) (most : ℕ → ℕ) (root : ℕ → ℕ) (layout : Layout) where
  scope_follows : (s : State) (m : Machine) → Matches g forms most root layout s m → (o : Option State) (p : Outcome Machine) → Follows Few (Ends g inner layout s m) o p → Follows Few (Ran g forms most root layout s m) (option_map (left s) o) (after p (λ n. Done (back_to m n)))
  scope_follows s m match o p h = follows_map Few (Ends g inner layout s m) (Ran g forms most root layout s m) o p (left s) (back_to m) h (λ t n r. record {
    matches = closed g forms most root layout s m match t n r.kept r.cells r.fields;
    kept = kept_closed g.stored layout s m t n r.kept;
    control = refl;
    names = refl;
    same_buffers = refl;
  })

-- ---- loops

module _ (naming : Naming) (forms : Forms) (most : ℕ → ℕ) (layout : Layout) (scene : Scene) (setting : Setting) (match : HaveForms naming forms most layout scene setting.names) where
  pub number_is : (e : Control) → IsGood forms most e → number64 setting (number_of naming forms e) ≡ Done (number scene e)
  number_is e h = same_number naming forms most layout scene setting match _ e h.0 h.1

between : (n a b : ℤ) → a ≤ℤ n → n ≤ℤ b → unsigned_abs n ≤ max (unsigned_abs a) (unsigned_abs b)
between (pos n) (pos a) (pos b) h k = omega (arith, ints)
between (pos n) (negsuc a) (pos b) h k = omega (arith, ints)
between (pos n) a (negsuc b) h k = absurd (omega (arith, ints))
between (negsuc n) (pos a) b h k = absurd (omega (arith, ints))
between (negsuc n) (negsuc a) (pos b) h k = omega (arith, ints)
between (negsuc n) (negsuc a) (negsuc b) h k = omega (arith, ints)

at_most : (z : ℤ) → unsigned_abs z ≤ 2 ^ 62 → z ≤ℤ pos 4611686018427387904
at_most (pos n) h = omega (arith, ints)
at_most (negsuc n) h = omega (arith, ints)

max_most : (a b c d : ℕ) → a ≤ c → b ≤ d → max a b ≤ max c d
max_most a b c d h k = omega arith

-- so many turns are left from here up to there
abbrev Left : ℕ → ℤ → ℤ → Type 0
Left n at top = ((at +ℤ pos n ≡ top) ⊎ ((n ≡ 0) × (top ≤ℤ at)))

none_left : (at top : ℤ) → Left 0 at top → int_lt at top ≡ false
none_left at top h = ⊎_elim (λ e. not_less at top (omega (arith, ints))) (λ e. not_less at top e.1) h
  where
    not_less : (a b : ℤ) → b ≤ℤ a → int_lt a b ≡ false
    not_less a b k = grind (arith, ints)

some_left : (n : ℕ) (at top : ℤ) → Left (suc n) at top → (int_lt at top ≡ true) × ((at +ℤ pos 1) +ℤ pos n ≡ top)
some_left n at top h = ⊎_elim (λ e. (is_less at top (omega (arith, ints)), omega (arith, ints))) (λ e. absurd (omega (arith, e.0))) h
  where
    is_less : (a b : ℤ) → (a +ℤ pos 1) ≤ℤ b → int_lt a b ≡ true
    is_less a b k = grind (arith, ints)

module _ (Few : Type 0) (g : Ground) (forms : Forms) (most : ℕ → ℕ) (root : ℕ → ℕ) (layout : Layout) (i : ℕ) (lo hi : Control) (good_lo : IsGood forms most lo) (good_hi : IsGood forms most hi) (fresh : IsFresh g forms i) where
  abbrev Match : State → Machine → Type 0
  Match = Matches g forms most root layout

  abbrev Next : State → Machine → State → Machine → Type 0
  Next = Ran g forms most root layout

  abbrev wider : Forms
  wider = updated forms i NumberForm

  abbrev nothing : Forms
  nothing x = NoForm

  abbrev wider_most : ℕ → ℕ
  wider_most = with_bounds most i lo hi

  module _ (go : State → Option State) (c_go : Machine → Outcome Machine) (IsFew : State → Type 0) (follow : (s : State) (m : Machine) → (Few → IsFew s) → Matches g wider wider_most root layout s m → Follows Few (Ends g wider layout s m) (go s) (c_go m)) where
    abbrev FewTurn : ℤ → State → Type 0
    FewTurn n t = IsFew (on_scene (with_control i n) t)

    turn_follows : (n : ℤ) → unsigned_abs n ≤ max (magnitude most lo) (magnitude most hi) → (s : State) (m : Machine) → (Few → IsFew (on_scene (with_control i n) s)) → Match s m → Follows Few (Next s m) (turn i go n s) (turn64 (g.naming.binder i) c_go n m)
    turn_follows n small s m few match =
        scope_follows Few g forms nothing most root layout s m match _ _
        (follows_weaken Few (Ends g wider layout (on_scene (with_control i n) s) (with_counter (g.naming.binder i) n m)) (Ends g nothing layout s m) _ _ (follow (on_scene (with_control i n) s) (with_counter (g.naming.binder i) n m) few (counted g forms most root layout i fresh _ n small s m match))
        (λ t p r. record { kept = record { buffers = r.kept.buffers; objects = r.kept.objects; free = r.kept.free; untouched = r.kept.untouched }; names = λ x. inl refl; fields = r.fields; cells = r.cells }))

    upper_is : (at : ℤ) (s : State) (m : Machine) → Match s m → upper64 (g.naming.binder i) (number_of g.naming forms hi) at m ≡ Done (number s.scene hi)
    upper_is at s m match = c_number_wider g forms i fresh m.setting (Some (IsNumber at)) _ hi good_hi.0 ∙ number_is g.naming forms most layout s.scene m.setting match.names hi good_hi

    module _ (low top : ℤ) (low_small : unsigned_abs low ≤ magnitude most lo) (top_small : unsigned_abs top ≤ magnitude most hi) where
      turns_follow : (n fuel : ℕ) (at : ℤ) (s : State) (m : Machine) → (Few → EachTurn (turn i go) FewTurn (range at n) s) → Match s m → number s.scene hi ≡ top → low ≤ℤ at → Left n at top → n ≤ fuel → Follows Few (Next s m) (turns (turn i go) (range at n) s) (turns64 (turn64 (g.naming.binder i) c_go) (upper64 (g.naming.binder i) (number_of g.naming forms hi)) fuel at m)
      turns_follow zero zero at s m few match e l h k =
          follows_done Few (Next s m) (Some s) _ top _ (upper_is at s m match ∙ ap Done e)
          (subst (λ b. Follows Few (Next s m) (Some s) (where_good (not b) (Done m))) (sym (none_left at top h)) (ran_refl g forms most root layout s m match))
      turns_follow zero (suc fuel) at s m few match e l h k =
          follows_done Few (Next s m) (Some s) _ top _ (upper_is at s m match ∙ ap Done e)
          (subst (λ b. Follows Few (Next s m) (Some s) (go_on b (λ p. after (turn64 (g.naming.binder i) c_go at p) (turns64 (turn64 (g.naming.binder i) c_go) (upper64 (g.naming.binder i) (number_of g.naming forms hi)) fuel (at +ℤ pos 1))) m)) (sym (none_left at top h)) (ran_refl g forms most root layout s m match))
      turns_follow (suc n) zero at s m few match e l h k = absurd (omega arith)
      turns_follow (suc n) (suc fuel) at s m few match e l h k =
          let more = some_left n at top h in
          let small : unsigned_abs at ≤ max (magnitude most lo) (magnitude most hi) = le_trans (between at low top l (omega (arith, ints, more.1))) (max_most _ _ _ _ low_small top_small) in
          follows_done Few (Next s m) _ _ top _ (upper_is at s m match ∙ ap Done e)
          (subst (λ b. Follows Few (Next s m) (then_do (turn i go at s) (turns (turn i go) (range (at +ℤ pos 1) n))) (go_on b (λ p. after (turn64 (g.naming.binder i) c_go at p) (turns64 (turn64 (g.naming.binder i) c_go) (upper64 (g.naming.binder i) (number_of g.naming forms hi)) fuel (at +ℤ pos 1))) m)) (sym more.0)
          (follows_then Few (Next s m) (Next s m) _ _ _ _ (turn_follows at small s m (λ f. (few f).0) match) (λ t p step r.
          follows_weaken Few (Next t p) (Next s m) _ _
          (turns_follow n fuel (at +ℤ pos 1) t p (λ f. (few f).1 t step) r.matches (number_by_control forms t.scene s.scene r.control hi good_hi.0 ∙ e) (omega (arith, ints)) (inl more.1) (omega arith))
          (λ u q x. ran_on g forms most root layout s m t p u q r x))))

    -- ---- the whole loop

    turns_left : (low top : ℤ) → Left (count (top -ℤ low)) low top
    turns_left low top = cases (top -ℤ low) refl
      where
        cases : (z : ℤ) → top -ℤ low ≡ z → Left (count z) low top
        cases (pos n) e = inl (omega (arith, ints))
        cases (negsuc n) e = inr (refl, omega (arith, ints))

    few_turns : (low top : ℤ) → unsigned_abs low ≤ 2 ^ 62 → unsigned_abs top ≤ 2 ^ 62 → count (top -ℤ low) ≤ count (pos 9223372036854775807 -ℤ low)
    few_turns low top h k = cases (top -ℤ low) (pos 9223372036854775807 -ℤ low) refl refl
      where
        cases : (y z : ℤ) → top -ℤ low ≡ y → pos 9223372036854775807 -ℤ low ≡ z → count y ≤ count z
        cases (negsuc a) z e f = omega arith
        cases (pos a) (pos b) e f = let p = at_most top k in omega (arith, ints)
        cases (pos a) (negsuc b) e f = let p = at_most low h in absurd (omega (arith, ints))

    loop_follows : (s : State) (m : Machine) → (Few → EachTurn (turn i go) FewTurn (turns_of s.scene lo hi) s) → Match s m → Follows Few (Next s m) (turns (turn i go) (turns_of s.scene lo hi) s) (after (number64 (hiding (g.naming.binder i) m.setting) (number_of g.naming forms lo)) (λ n. turns64 (turn64 (g.naming.binder i) c_go) (upper64 (g.naming.binder i) (number_of g.naming forms hi)) (count (pos 9223372036854775807 -ℤ n)) n m))
    loop_follows s m few match =
        let low = number s.scene lo in
        let top = number s.scene hi in
        let low_small = bounded g.naming forms most layout s.scene m.setting match.names lo good_lo.0 in
        let top_small = bounded g.naming forms most layout s.scene m.setting match.names hi good_hi.0 in
        follows_done Few (Next s m) _ _ low _ (c_number_wider g forms i fresh m.setting None _ lo good_lo.0 ∙ number_is g.naming forms most layout s.scene m.setting match.names lo good_lo)
        (turns_follow low top low_small top_small (count (top -ℤ low)) (count (pos 9223372036854775807 -ℤ low)) low s m few match refl (omega (arith, ints)) (turns_left low top)
        (few_turns low top (le_trans low_small (narrow most lo good_lo.1)) (le_trans top_small (narrow most hi good_hi.1))))

-- ---- trees

or_left : (a b : Bool) → a ≡ true → (a || b) ≡ true
or_left true b h = refl
or_left false b h = absurd (true≢false (sym h))

or_right : (a b : Bool) → b ≡ true → (a || b) ≡ true
or_right true b h = refl
or_right false b h = h

module _ (Few : Type 0) (g : Ground) (world : World) (few : Fewness) (c_world : CWorld) (alloc_follows : AllocClause Few g c_world) (view_follows : ViewClause Few g c_world) (call_follows : CallClause Few g c_world world few) where
  cell_is : (forms : Forms) (x rank : ℕ) (h : IsBuffer forms x rank) → cell_in (forms x) I32 ≡ h.0
  cell_is forms x rank h = ⊎_elim (λ w. ap (λ f. cell_in f I32) w.0) (λ t. ap (λ f. cell_in f I32) t.1) h.1

  branch_follows : (forms : Forms) (most : ℕ → ℕ) (root : ℕ → ℕ) (layout : Layout) (c : Condition) → IsGoodTest g.declared forms most c → (s : State) (m : Machine) → Matches g forms most root layout s m → (f h : State → Option State) (c_f c_h : Machine → Outcome Machine) → (holds s.scene c ≡ true → Follows Few (Ends g forms layout s m) (f s) (c_f m)) → (holds s.scene c ≡ false → Follows Few (Ends g forms layout s m) (h s) (c_h m)) → Follows Few (Ran g forms most root layout s m) (scoped (choose (holds s.scene c) f h) s) (after (test m.setting (test_of g.naming forms c)) (λ t. in_scope (either_way t c_f c_h) m))
  branch_follows forms most root layout c good s m match f h c_f c_h i j =
      follows_done Few (Ran g forms most root layout s m) _ _ (holds s.scene c) _ (test_is g.naming g.declared forms most layout s.scene m.setting match.names match.placed match.fields c good)
      (scope_follows Few g forms forms most root layout s m match _ _ (chosen (holds s.scene c) refl))
    where
      chosen : (t : Bool) → holds s.scene c ≡ t → Follows Few (Ends g forms layout s m) (choose t f h s) (either_way t c_f c_h m)
      chosen true e = i e
      chosen false e = j e

  -- a statement that binds nothing, and then the rest
  and_rest : (forms : Forms) (most : ℕ → ℕ) (root : ℕ → ℕ) (layout : Layout) (s : State) (m : Machine) (o : Option State) (p : Outcome Machine) (go : State → Option State) (c : CBlock) → Rest Few g c_world forms most root o go c → Follows Few (Ran g forms most root layout s m) o p → Follows Few (Ends g forms layout s m) (then_do o go) (after p (run_c c_world c))
  and_rest forms most root layout s m o p go c k h =
      follows_then Few (Ran g forms most root layout s m) (Ends g forms layout s m) o p go (run_c c_world c) h
      (λ t n e r. follows_weaken Few (Ends g forms layout t n) (Ends g forms layout s m) _ _ (k layout t n e r.matches) (λ u q x. ends_on g forms most root layout s m t n u q r x))

  mutual
    pub block_follows : (forms : Forms) (most : ℕ → ℕ) (root : ℕ → ℕ) (layout : Layout) (b : Block) → IsGoodBlock g forms most b → MayStore g.stored world root b → (s : State) (m : Machine) → (Few → AllocatesFew world few b s) → Matches g forms most root layout s m → Follows Few (Ends g forms layout s m) (run world b s) (run_c c_world (block_of g.naming forms b) m)
    block_follows forms most root layout end h may s m fw match = ends_refl g forms most root layout s m match
    block_follows forms most root layout (next a b) h may s m fw match =
        statement_follows forms most root layout a h.0 (λ y e. may y (or_left (step_writes world root a y) (writes world (roots_after a root) b y) e)) s m (λ f. (fw f).0) match (run world b) (block_of g.naming (forms_after g.naming a forms) b)
        (λ after_layout t n e r. block_follows (forms_after g.naming a forms) most (roots_after a root) after_layout b h.1 (λ y i. may y (or_right (step_writes world root a y) (writes world (roots_after a root) b y) i)) t n (λ f. (fw f).1 t e) r)

    statement_follows : (forms : Forms) (most : ℕ → ℕ) (root : ℕ → ℕ) (layout : Layout) (a : Statement) → IsGoodStatement g forms most a → ((y : ℕ) → step_writes world root a y ≡ true → g.stored y ≡ true) → (s : State) (m : Machine) → (Few → StatementAllocatesFew world few a s) → Matches g forms most root layout s m → (go : State → Option State) (c : CBlock) → Rest Few g c_world (forms_after g.naming a forms) most (roots_after a root) (step world a s) go c → Follows Few (Ends g forms layout s m) (then_do (step world a s) go) (run_c c_world (before g.naming forms a c) m)
    statement_follows forms most root layout (Assign x is e) h may s m fw match go c k =
        subst (λ cell. Follows Few (Ends g forms layout s m) (then_do (assign x is e s) go) (after (store cell (cell_at_of g.naming forms x is) (number32_of g.naming forms e) m) (run_c c_world c))) (sym (cell_is forms x (length is) h.0))
        (and_rest forms most root layout s m _ _ go c k (assign_follows g forms most root layout Few s m match x is e h.0 h.1 h.2 (may (root x) (eq-eqb (root x) (root x) refl))))
    statement_follows forms most root layout (Reduce x is e) h may s m fw match go c k =
        subst (λ cell. Follows Few (Ends g forms layout s m) (then_do (reduce x is e s) go) (after (add_to cell (cell_at_of g.naming forms x is) (number32_of g.naming forms e) m) (run_c c_world c))) (sym (cell_is forms x (length is) h.0))
        (and_rest forms most root layout s m _ _ go c k (reduce_follows g forms most root layout Few s m match x is e h.0 h.1 h.2 (may (root x) (eq-eqb (root x) (root x) refl))))
    statement_follows forms most root layout (Config f a) h may s m fw match go c k = and_rest forms most root layout s m _ _ go c k (setting_follows g forms most root layout s m match Few world f h.1 h.2 a h.0)
    statement_follows forms most root layout Pass h may s m fw match go c k = k layout s m refl match
    statement_follows forms most root layout (If d a b) h may s m fw match go c k =
        and_rest forms most root layout s m _ _ go c k
        (branch_follows forms most root layout d h.0 s m match (run world a) (run world b) (run_c c_world (block_of g.naming forms a)) (run_c c_world (block_of g.naming forms b))
        (λ e. block_follows forms most root layout a h.1 (λ y i. may y (or_left (writes world root a y) (writes world root b y) i)) s m (λ f. (fw f).0 e) match)
        (λ e. block_follows forms most root layout b h.2 (λ y i. may y (or_right (writes world root a y) (writes world root b y) i)) s m (λ f. (fw f).1 e) match))
    statement_follows forms most root layout (For i lo hi b) h may s m fw match go c k =
        and_rest forms most root layout s m _ _ go c k (loop_follows Few g forms most root layout i.id lo hi h.0 h.1 h.2 (run world b) (run_c c_world (block_of g.naming (updated forms i.id NumberForm) b)) (AllocatesFew world few b) (block_follows (updated forms i.id NumberForm) (with_bounds most i.id lo hi) root layout b h.3 may) s m fw match)
    statement_follows forms most root layout (Alloc x cell dims memory) h may s m fw match go c k = alloc_follows forms most root layout x cell dims memory h.0 h.1 h.2 (may x.id (eq-eqb x.id x.id refl)) s m fw match go c k
    statement_follows forms most root layout (View w x coords) h may s m fw match go c k = view_follows forms most root layout w x coords h.0 h.1 h.2 h.3 s m match go c k
    statement_follows forms most root layout (Call j args) h may s m fw match go c k = and_rest forms most root layout s m _ _ go c k (call_follows forms most root layout j args h may s m fw match)
