-- What may be copied at a place, and behind other blocks.
use Rattle.std.proofs.Common.{◌≡◌, ℕ, suc, ◌+◌, ◌<◌, ◌≤◌, ◌==◌, Bool, true, false, cond, ◌||◌, List, [], ◌∷◌, map, length}
use Rattle.std.proofs.Common.{nat_le, nat_lt, IfSome, refl, sym, ap, ap₂, ◌∙◌, subst, true≢false, eq-eqb, eqb-true, arith, add-one}
use Rattle.std.proofs.Common.{◌&&◌, leb-true, ltb-true, le-leb, lt-ltb}
use Rattle.std.proofs.Math.Path.{fun_ext}
use Rattle.std.specs.List.{list_all}
use Rattle.exo_tree.specs.Tree.{Statement, Assign, Reduce, Config, Pass, If, For, Alloc, View, Call, Block, end, next}
use Rattle.exo_tree.specs.Tree.{Control, Param, Procedure, joined}
use Rattle.exo_tree.specs.Context.{Context, Here, After, InLoop, InThen, InElse, fill}
use Rattle.exo_tree.specs.Renaming.{fresh_id, fresh}
use Rattle.exo_tree.specs.Renaming as code
use Rattle.exo_tree.specs.Substitution.{in_block as put_in_block}
use Rattle.exo_meaning.specs.Binders.{binders}
use Rattle.exo_meaning.specs.Inputs.{is_buffer_of}
use Rattle.exo_meaning.specs.State.{State, on_scene, with_control}
use Rattle.exo_meaning.specs.Run.{World, run, step}
use Rattle.exo_meaning.specs.Unseen.{in_control, in_condition, in_statement, in_block as mentions}
use Rattle.exo_meaning.specs.Orders.{Each}
use Rattle.exo_meaning.specs.Units.{bound_ids}
use Rattle.exo_meaning.proofs.Frame.{or_parts, updated_other, if_then, if_weaken}
use Rattle.meaning_laws.specs.Sound.{binds, IsSound, IsUnbound, IsSameName}
use Rattle.meaning_laws.specs.Copies.{IsFree}
use Rattle.meaning_laws.specs.Scoped.{is_scoped, is_param, has_binder, step_has_binder}
use Rattle.meaning_laws.proofs.Binders.{binders_law, fresh_law}
use Rattle.meaning_laws.proofs.Copies.{unbound_on, if_both, place_sound, place_unbound}
use Rattle.meaning_laws.proofs.Facts.{or_left, or_right}
use Rattle.meaning_laws.proofs.Names.{name_same, name_on, step_names}
use Rattle.meaning_laws.proofs.Scoped.{or_elim}
use Rattle.meaning_laws.proofs.Sound.{run_sound}
use Rattle.meaning_laws.proofs.Substitute.{and_parts}
use Rattle.meaning_laws.proofs.Unmentioned.{unmentioned_law}
use Rattle.meaning_laws.specs.FreshCopies.{is_within, is_given, MayCopy, MayCopyBehind, BindsNoneOf, MayCopyNext, MayCopyInTurn, MayCopySubstituted, CopiesBindNewNumbers}
use Rattle.meaning_laws.specs.FreshCopies.{PlacesMayCopy, OldMayBeCopied, IsBelow, StandsAt, AllMayBeCopied}
use Rattle.meaning_laws.specs.FreshCopies.{IsMadeOf, OldIsMade, SubstitutedIsMade, PlacesMayCopyAll}
use Rattle.meaning_laws.proofs.Fewer as fewer
use Rattle.meaning_laws.proofs.Substituted.{substitution_keeps_binders, substitution_mentions_no_more}
use Rattle.meaning_laws.proofs.Numbers.{among, among_both, block_among, false_by, not_both, within_first, within_next, binder_seen}

-- ---- ids below a number

all_among : (test : ℕ → Bool) (is : List ℕ) (x : ℕ) → list_all test is ≡ true → among is x ≡ true → test x ≡ true
all_among test [] x h k = absurd (true≢false (sym k))
all_among test (i ∷ is) x h k =
    let p = and_parts (test i) (list_all test is) h in
    or_elim (x == i) (among is x) k (λ e. ap test (eqb-true x i e) ∙ p.0) (all_among test is x p.1)

params_among : (ps : List Param) (x : ℕ) → among (map (λ q. q.binder.id) ps) x ≡ is_buffer_of x ps
params_among [] x = refl
params_among (p ∷ ps) x = ap (λ t. (x == p.binder.id) || t) (params_among ps x)

module _ (n : ℕ) (p : Procedure) (below : list_all (λ x. nat_lt x n) (bound_ids p) ≡ true) (x : ℕ) (from : n ≤ x) where
  not_among : among (bound_ids p) x ≡ false
  not_among =
      false_by (among (bound_ids p) x)
      (λ e. let high = ltb-true x n (all_among (λ y. nat_lt y n) (bound_ids p) x below e) in omega arith)

  parts : (among (map (λ q. q.binder.id) p.params) x ≡ false) × (among (binders p.body) x ≡ false)
  parts =
      or_parts (among (map (λ q. q.binder.id) p.params) x) (among (binders p.body) x)
      (sym (among_both (map (λ q. q.binder.id) p.params) (binders p.body) x) ∙ not_among)

  pub no_param : is_param p x ≡ false
  no_param = sym (params_among p.params x) ∙ parts.0

  pub no_binder : has_binder p.body x ≡ false
  no_binder = sym (block_among p.body x) ∙ parts.1

-- ---- what is in a hole

module _ (hidden : ℕ → Bool) where
  in_first : (a rest : Block) → mentions hidden (joined a rest) ≡ false → mentions hidden a ≡ false
  in_first end rest h = refl
  in_first (next a b) rest h =
      let p = or_parts (in_statement hidden a) (mentions hidden (joined b rest)) h in
      ap₂ ◌||◌ p.0 (in_first b rest p.1)

  in_hole : (c : Context) (old : Block) → mentions hidden (fill c old) ≡ false → mentions hidden old ≡ false
  in_hole (Here rest) old h = in_first old rest h
  in_hole (After a c) old h = in_hole c old (or_parts (in_statement hidden a) (mentions hidden (fill c old)) h).1
  in_hole (InLoop i lo hi c rest) old h =
      let p = or_parts (in_statement hidden (For i lo hi (fill c old))) (mentions hidden rest) h in
      let q = or_parts (hidden i.id) (in_control hidden lo || (in_control hidden hi || mentions hidden (fill c old))) p.0 in
      let t = or_parts (in_control hidden lo) (in_control hidden hi || mentions hidden (fill c old)) q.1 in
      in_hole c old (or_parts (in_control hidden hi) (mentions hidden (fill c old)) t.1).1
  in_hole (InThen t c other rest) old h =
      let p = or_parts (in_statement hidden (If t (fill c old) other)) (mentions hidden rest) h in
      let q = or_parts (in_condition hidden t) (mentions hidden (fill c old) || mentions hidden other) p.0 in
      in_hole c old (or_parts (mentions hidden (fill c old)) (mentions hidden other) q.1).0
  in_hole (InElse t other c rest) old h =
      let p = or_parts (in_statement hidden (If t other (fill c old))) (mentions hidden rest) h in
      let q = or_parts (in_condition hidden t) (mentions hidden other || mentions hidden (fill c old)) p.0 in
      in_hole c old (or_parts (mentions hidden other) (mentions hidden (fill c old)) q.1).1

-- ---- at a place

given_from : (n k x : ℕ) → is_within n k x ≡ true → n ≤ x
given_from n k x h = leb-true n x (and_parts (nat_le n x) (nat_lt x (n + k)) h).0

given_below : (n k x : ℕ) → is_within n k x ≡ true → x < n + k
given_below n k x h = ltb-true x (n + k) (and_parts (nat_le n x) (nat_lt x (n + k)) h).1

pub places_may_copy : PlacesMayCopy
places_may_copy world p c old b n u is_below at own unused = record {
  sound = place_sound world p old c at.first u at.good at.comes;
  own = λ x e. there x (binders_law p c old x scoped (own x e));
  given = λ x e.
      let from = given_from n (length (binders b)) x e in
      there x (fresh_law p c old x (no_param n p is_below.below x from)
      (ap (λ d. has_binder d x) (sym at.body) ∙ no_binder n p is_below.below x from));
  unused = unused;
}
  where
    scoped : is_scoped (is_param p) (fill c old) ≡ true
    scoped = ap (is_scoped (is_param p)) (sym at.body) ∙ is_below.scoped

    there : (x : ℕ) → IsFree p c x → IsUnbound u x
    there x free = place_unbound world p old c at.first u at.good at.comes x free

-- what a block has of the new numbers is from n on
given_unused : (n m : ℕ) (b : Block) → n ≤ m → mentions (nat_le n) b ≡ false → mentions (is_given m b) b ≡ false
given_unused n m b behind low = fewer.block (nat_le n) (is_given m b) less b low
  where
    less : (x : ℕ) → nat_le n x ≡ false → is_given m b x ≡ false
    less x h =
        false_by (is_given m b x)
        (λ e. let from = given_from m (length (binders b)) x e in not_both (nat_le n x) (le-leb n x (omega arith)) h)

pub old_is_made : OldIsMade
old_is_made p c old n is_below was = record { own = λ x e. e; low = low }
  where
    low_name : (x : ℕ) → (n ≤ x → ⊥) → nat_le n x ≡ false
    low_name x h = false_by (nat_le n x) (λ e. h (leb-true n x e))

    low : mentions (nat_le n) old ≡ false
    low =
        in_hole (nat_le n) c old
        (ap (mentions (nat_le n)) (sym was)
        ∙ unmentioned_law (is_param p) (nat_le n) p.body is_below.scoped
        (λ x e. low_name x (λ k. not_both (is_param p x) e (no_param n p is_below.below x k)))
        (λ x e. low_name x (λ k. not_both (has_binder p.body x) e (no_binder n p is_below.below x k))))

pub old_may_be_copied : OldMayBeCopied
old_may_be_copied world p c old n u is_below at =
    let made = old_is_made p c old n is_below at.body in
    places_may_copy world p c old old n u is_below at made.own (given_unused n n old (omega arith) made.low)

all_lower : (n m : ℕ) (is : List ℕ) → n ≤ m → list_all (λ x. nat_lt x n) is ≡ true → list_all (λ x. nat_lt x m) is ≡ true
all_lower n m [] behind h = refl
all_lower n m (i ∷ is) behind h =
    let p = and_parts (nat_lt i n) (list_all (λ x. nat_lt x n) is) h in
    let low = ltb-true i n p.0 in
    ap₂ ◌&&◌ (lt-ltb i m (omega arith)) (all_lower n m is behind p.1)

pub below_more : (n m : ℕ) (p : Procedure) → n ≤ m → IsBelow n p → IsBelow m p
below_more n m p behind h = record { scoped = h.scoped; below = all_lower n m (bound_ids p) behind h.below }

module _ (world : World) (p : Procedure) (c : Context) (old : Block) (n : ℕ) (u : State) where
  all_copied : (m : ℕ) (ds : List Block) → n ≤ m → IsBelow n p → StandsAt world p c old u → Each (IsMadeOf n old) ds
      → AllMayBeCopied m ds u
  all_copied m [] behind is_below at made = tt
  all_copied m (d ∷ ds) behind is_below at made = (
    places_may_copy world p c old d m u (below_more n m p behind is_below) at made.0.own
        (given_unused n m d behind made.0.low),
    all_copied (m + length (binders d)) ds (omega arith) is_below at made.1,
  )

pub places_may_copy_all : PlacesMayCopyAll
places_may_copy_all world p c old ds n u is_below at made =
    all_copied world p c old n u n ds (omega arith) is_below at made

-- ---- behind other blocks

step_binds : (a : Statement) (x : ℕ) → step_has_binder a x ≡ false → binds a x ≡ false
step_binds (Assign y is e) x h = refl
step_binds (Reduce y is e) x h = refl
step_binds (Config f a) x h = refl
step_binds Pass x h = refl
step_binds (If c a b) x h = refl
step_binds (For i lo hi b) x h = refl
step_binds (Alloc y cell dims memory) x h = h
step_binds (View w y cs) x h = h
step_binds (Call n args) x h = refl

-- a name that a block does not bind is the same behind it
pub names_behind : (world : World) (d : Block) (s : State)
    → IfSome (run world d s) (λ t. (x : ℕ) → has_binder d x ≡ false → IsSameName x s t)
names_behind world end s = λ x h. name_same x s
names_behind world (next a b) s =
    if_then (λ t. (x : ℕ) → binds a x ≡ false → IsSameName x s t)
    (λ u. (x : ℕ) → (step_has_binder a x || has_binder b x) ≡ false → IsSameName x s u) (step world a s) (run world b)
    (step_names world a s)
    (λ t k. if_weaken (λ u. (x : ℕ) → has_binder b x ≡ false → IsSameName x t u)
    (λ u. (x : ℕ) → (step_has_binder a x || has_binder b x) ≡ false → IsSameName x s u) (run world b t)
    (names_behind world b t)
    (λ u l x h.
    let p = or_parts (step_has_binder a x) (has_binder b x) h in
    name_on x s t u (k x (step_binds a x p.0)) (l x p.1)))

pub may_copy_behind : MayCopyBehind
may_copy_behind world n b d s may none =
    if_both IsSound (λ t. (x : ℕ) → has_binder d x ≡ false → IsSameName x s t) (MayCopy n b) (run world d s)
    (run_sound world d s may.sound) (names_behind world d s)
    (λ t sound same. record {
      sound = sound;
      own = λ x e. unbound_on s t x (same x (apart x (or_left (has_binder b x) (is_given n b x) e))) (may.own x e);
      given = λ x e. unbound_on s t x (same x (apart x (or_right (has_binder b x) (is_given n b x) e))) (may.given x e);
      unused = may.unused;
    })
  where
    apart : (x : ℕ) → (has_binder b x || is_given n b x) ≡ true → has_binder d x ≡ false
    apart x e = false_by (has_binder d x) (λ h. not_both (has_binder b x || is_given n b x) e (none x h))

pub may_copy_in_turn : MayCopyInTurn
may_copy_in_turn n b s i m may none = record {
  sound = record { tidy = may.sound.tidy; seen = may.sound.seen };
  own = λ x e. other x (or_left (has_binder b x) (is_given n b x) e) (may.own x e);
  given = λ x e. other x (or_right (has_binder b x) (is_given n b x) e) (may.given x e);
  unused = may.unused;
}
  where
    other : (x : ℕ) → (has_binder b x || is_given n b x) ≡ true → IsUnbound s x → IsUnbound (on_scene (with_control i m) s) x
    other x e u = record {
      control = updated_other s.scene.control i m x (differs x e) ∙ u.control;
      buffers = u.buffers;
      views = u.views;
    }
      where
        differs : (x : ℕ) → (has_binder b x || is_given n b x) ≡ true → (x == i) ≡ false
        differs x e =
            false_by (x == i)
            (λ h. not_both (has_binder b x || is_given n b x) e
            (ap (λ y. has_binder b y || is_given n b y) (eqb-true x i h) ∙ none))

-- with an expression for a variable
binds_same : (i : ℕ) (e : Control) (b : Block) (x : ℕ) → has_binder (put_in_block i e b) x ≡ has_binder b x
binds_same i e b x =
    sym (block_among (put_in_block i e b) x)
    ∙ ap (λ is. among is x) (substitution_keeps_binders i e b)
    ∙ block_among b x

pub substituted_is_made : SubstitutedIsMade
substituted_is_made n old d i e made low = record {
  own = λ x h. made.own x (sym (binds_same i e d x) ∙ h);
  low = substitution_mentions_no_more (nat_le n) i e d low made.low;
}

pub may_copy_substituted : MayCopySubstituted
may_copy_substituted n b s i e may none = record {
  sound = may.sound;
  own = λ x h. may.own x (sym (binds_same i e b x) ∙ h);
  given = λ x h. may.given x (sym (given_same x) ∙ h);
  unused =
      subst (λ hidden. mentions hidden (put_in_block i e b) ≡ false) (sym (fun_ext given_same))
      (substitution_mentions_no_more (is_given n b) i e b none may.unused);
}
  where
    same : binders (put_in_block i e b) ≡ binders b
    same = substitution_keeps_binders i e b

    given_same : (x : ℕ) → is_given n (put_in_block i e b) x ≡ is_given n b x
    given_same x = ap (λ is. is_within n (length is) x) same

-- ---- what a copy binds

-- the new number of an id of the list
fresh_within : (is : List ℕ) (n x : ℕ) → among is x ≡ true → is_within n (length is) (fresh_id is n x) ≡ true
fresh_within [] n x h = absurd (true≢false (sym h))
fresh_within (i ∷ is) n x h = go (x == i) refl h (fresh_within is (suc n) x)
  where
    go : (t : Bool) → (x == i) ≡ t → (t || among is x) ≡ true
        → (among is x ≡ true → is_within (suc n) (length is) (fresh_id is (suc n) x) ≡ true)
        → is_within n (suc (length is)) (fresh_id (i ∷ is) n x) ≡ true
    go true e k below = ap (λ t. is_within n (suc (length is)) (cond t n (fresh_id is (n + 1) x))) e ∙ within_first n (length is)
    go false e k below =
        ap (λ t. is_within n (suc (length is)) (cond t n (fresh_id is (n + 1) x))) e
        ∙ ap (λ m. is_within n (suc (length is)) (fresh_id is m x)) (add-one n)
        ∙ within_next n (length is) (fresh_id is (suc n) x) (below k)

-- each binder of a renamed block is the new id of one of the block
module _ (to : ℕ → ℕ) (x : ℕ) where
  abbrev Comes : (ℕ → Bool) → Type 0
  Comes has = (y : ℕ) × (has y ≡ true) × (to y ≡ x)

  left_comes : (f g : ℕ → Bool) → Comes f → Comes (λ y. f y || g y)
  left_comes f g k = (k.0, or_left (f k.0) (g k.0) k.1, k.2)

  right_comes : (f g : ℕ → Bool) → Comes g → Comes (λ y. f y || g y)
  right_comes f g k = (k.0, or_right (f k.0) (g k.0) k.1, k.2)

  one_comes : (i : ℕ) → (x == to i) ≡ true → Comes (λ y. y == i)
  one_comes i e = (i, eq-eqb i i refl, sym (eqb-true x (to i) e))

  mutual
    step_comes : (a : Statement) → step_has_binder (code.re_statement to a) x ≡ true → Comes (step_has_binder a)
    step_comes (Assign y is d) h = absurd (true≢false (sym h))
    step_comes (Reduce y is d) h = absurd (true≢false (sym h))
    step_comes (Config f a) h = absurd (true≢false (sym h))
    step_comes Pass h = absurd (true≢false (sym h))
    step_comes (If c a b) h =
        or_elim (has_binder (code.re_block to a) x) (has_binder (code.re_block to b) x) h
        (λ e. left_comes (has_binder a) (has_binder b) (comes a e)) (λ e. right_comes (has_binder a) (has_binder b) (comes b e))
    step_comes (For i lo hi b) h =
        or_elim (x == to i.id) (has_binder (code.re_block to b) x) h
        (λ e. left_comes (λ y. y == i.id) (has_binder b) (one_comes i.id e))
        (λ e. right_comes (λ y. y == i.id) (has_binder b) (comes b e))
    step_comes (Alloc y cell dims memory) h = one_comes y.id h
    step_comes (View w y cs) h = one_comes w.id h
    step_comes (Call k args) h = absurd (true≢false (sym h))

    comes : (b : Block) → has_binder (code.re_block to b) x ≡ true → Comes (has_binder b)
    comes end h = absurd (true≢false (sym h))
    comes (next a b) h =
        or_elim (step_has_binder (code.re_statement to a) x) (has_binder (code.re_block to b) x) h
        (λ e. left_comes (step_has_binder a) (has_binder b) (step_comes a e))
        (λ e. right_comes (step_has_binder a) (has_binder b) (comes b e))

pub copies_bind_new_numbers : CopiesBindNewNumbers
copies_bind_new_numbers n b x h =
    let k = comes (fresh_id (binders b) n) x b h in
    ap (is_given n b) (sym k.2)
    ∙ fresh_within (binders b) n k.0 (block_among b k.0 ∙ k.1)

-- copies of one block, numbered one behind the other
pub may_copy_next : MayCopyNext
may_copy_next world n m b d s same behind may may_next = may_copy_behind world m b (fresh n d) s may_next apart
  where
    given_same : (x : ℕ) → is_given n d x ≡ is_given n b x
    given_same x = ap (λ is. is_within n (length is) x) same

    apart : BindsNoneOf (fresh n d) m b
    apart x h =
        let new : is_given n b x ≡ true = sym (given_same x) ∙ copies_bind_new_numbers n d x h in
        ap₂ ◌||◌
        (false_by (has_binder b x) (λ e. not_both (is_given n b x) new (binder_seen (is_given n b) x b may.unused e)))
        (false_by (is_given m b x) (λ e.
        let below = given_below n (length (binders b)) x new in
        let above = given_from m (length (binders b)) x e in
        omega arith))
