-- What a callee with fresh ids has of what a call asks for that is inlined.
use Rattle.std.proofs.Common.{◌≡◌, ◌≤◌, ℕ, ◌+◌, ◌==◌, Bool, true, false, not, ◌||◌, true≢false}
use Rattle.std.proofs.Common.{List, [], ◌∷◌, length, map, Option, refl, sym, ap, ap₂, ◌∙◌, nat_le, nat_lt}
use Rattle.std.proofs.Common.{eqb-true, eq-eqb, leb-true}
use Rattle.std.specs.List.{list_all}
use Rattle.exo_tree.specs.Tree.{Kind, Argument, ControlArg, ConditionArg, Whole, Window, ParamKind, ControlParam}
use Rattle.exo_tree.specs.Tree.{TensorParam, WindowParam, Param, Procedure}
use Rattle.exo_tree.specs.Tree.{Statement, Assign, Reduce, Config, Pass, If, For, Alloc, View, Call, Block, end, next, joined}
use Rattle.exo_tree.specs.Context.{Context, Here, After, InLoop, InThen, InElse, fill, rest_of}
use Rattle.exo_tree.specs.Renaming.{re_block, re_statement, fresh_id, re_param}
use Rattle.exo_meaning.specs.Calls.{Callee}
use Rattle.exo_meaning.specs.Inputs.{is_buffer_of}
use Rattle.exo_meaning.specs.Unseen.{in_statement, in_block as mentions}
use Rattle.exo_meaning.specs.Units.{IsProcedure, bound_ids}
use Rattle.exo_meaning.proofs.Frame.{or_parts}
use Rattle.meaning_laws.specs.Copies.{IsFree}
use Rattle.meaning_laws.specs.Flags as flags
use Rattle.meaning_laws.specs.Substitute as numbers
use Rattle.meaning_laws.specs.Scoped.{is_param, has_binder, step_has_binder}
use Rattle.meaning_laws.proofs.Binders.{binder_new, fresh_law}
use Rattle.meaning_laws.proofs.CopiesAtPlaces.{no_param, no_binder}
use Rattle.meaning_laws.proofs.Facts.{or_left, or_right}
use Rattle.meaning_laws.proofs.FirstState.{Differ, params_differ}
use Rattle.meaning_laws.proofs.Numbers.{among, block_among}
use Rattle.meaning_laws.proofs.Scoped.{or_elim}
use Rattle.meaning_laws.proofs.Substitute.{and_parts}
use Rattle.meaning_laws.proofs.Substituted.{substitution_keeps_binders}
use Rattle.meaning_laws.proofs.Unmentioned.{unmentioned_law}
use Rattle.meaning_laws.proofs.WellFormed.{well_scoped}
use Rattle.inplace_laws.specs.CallInPlace.{AreDistinct, no_name}
use Rattle.inplace_laws.specs.InPlace.{makes, step_makes}
use Rattle.inplace_laws.specs.Inline.{inlined, with_argument, not_own}
use Rattle.inplace_laws.specs.Uses.{in_block as uses}
use Rattle.match_laws.specs.Inline.FreshCallee.{is_new, ids_of}
use Rattle.match_laws.specs.Inline.InlineRule.{with_fresh_ids}
use Rattle.place_laws.proofs.OfScope.Apart.{renamed_mentions}
use Rattle.step_rules.specs.Rule.{Spot}
use Rattle.step_rules.specs.Lawful.{IsSpot, around, old}
use Rattle.call_laws.specs.Calls.Names.Renamings.{is_among}
use Rattle.call_laws.specs.Calls.Names.Scopes.{bound_at}
use Rattle.call_laws.proofs.OfCalls.OfNames.Bound.{spot_scoped, bound_or_free}
use Rattle.call_laws.proofs.OfCalls.OfNames.Mentions.{free_unmentioned}
use Rattle.call_laws.specs.Calls.Fresh.{AreNumbered}
use Rattle.call_laws.specs.Calls.Inlinable.{NewNames}
use Rattle.call_laws.proofs.OfCalls.Fresh.{fresh_ids, fresh_anywhere, ids_among}
use Rattle.call_laws.proofs.OfCalls.InlineWindow.{not_if, same_binders}
use Rattle.call_laws.proofs.OfCalls.Uses as used

-- ---- where ids come from

-- x is the new id of one of these
abbrev Comes : (ℕ → ℕ) → (ℕ → Bool) → ℕ → Type 0
Comes to old x = (y : ℕ) × (old y ≡ true) × (x ≡ to y)

module _ (to : ℕ → ℕ) where
  param_back : (ps : List Param) (x : ℕ) → is_buffer_of x (map (re_param to) ps) ≡ true
      → Comes to (λ y. is_buffer_of y ps) x
  param_back [] x h = absurd (true≢false (sym h))
  param_back (p ∷ ps) x h =
      let i = p.binder.id in
      or_elim (x == to i) (is_buffer_of x (map (re_param to) ps))
      {P = Comes to (λ y. (y == i) || is_buffer_of y ps) x} h
      (λ e. (i, or_left (i == i) (is_buffer_of i ps) (eq-eqb i i refl), eqb-true x (to i) e))
      (λ e. let b = param_back ps x e in
      (b.0, or_right (b.0 == i) (is_buffer_of b.0 ps) b.1, b.2))

  -- one of two parts
  either : (f g : ℕ → Bool) (s t : Bool) (x : ℕ) → (s || t) ≡ true
      → (s ≡ true → Comes to f x) → (t ≡ true → Comes to g x) → Comes to (λ y. f y || g y) x
  either f g s t x h one two =
      or_elim s t {P = Comes to (λ y. f y || g y) x} h
      (λ e. let c = one e in (c.0, or_left (f c.0) (g c.0) c.1, c.2))
      (λ e. let c = two e in (c.0, or_right (f c.0) (g c.0) c.1, c.2))

  itself : (i x : ℕ) → (x == to i) ≡ true → Comes to (λ y. y == i) x
  itself i x e = (i, eq-eqb i i refl, eqb-true x (to i) e)

  mutual
    binder_back : (b : Block) (x : ℕ) → has_binder (re_block to b) x ≡ true → Comes to (has_binder b) x
    binder_back end x h = absurd (true≢false (sym h))
    binder_back (next a b) x h =
        either (step_has_binder a) (has_binder b) (step_has_binder (re_statement to a) x)
        (has_binder (re_block to b) x) x h (below_back a x) (binder_back b x)

    below_back : (a : Statement) (x : ℕ) → step_has_binder (re_statement to a) x ≡ true
        → Comes to (step_has_binder a) x
    below_back (Assign y is e) x h = absurd (true≢false (sym h))
    below_back (Reduce y is e) x h = absurd (true≢false (sym h))
    below_back (Config f a) x h = absurd (true≢false (sym h))
    below_back Pass x h = absurd (true≢false (sym h))
    below_back (If c a b) x h =
        either (has_binder a) (has_binder b) (has_binder (re_block to a) x)
        (has_binder (re_block to b) x) x h (binder_back a x) (binder_back b x)
    below_back (For i lo hi b) x h =
        either (λ y. y == i.id) (has_binder b) (x == to i.id) (has_binder (re_block to b) x) x h
        (itself i.id x) (binder_back b x)
    below_back (Alloc y cell dims memory) x h = itself y.id x h
    below_back (View w y cs) x h = itself w.id x h
    below_back (Call k args) x h = absurd (true≢false (sym h))

  -- parameters stay distinct
  distinct_still : (ps : List Param) → Differ ps
      → ((x y : ℕ) → is_buffer_of x ps ≡ true → is_buffer_of y ps ≡ true → to x ≡ to y → x ≡ y)
      → AreDistinct (map (re_param to) ps)
  distinct_still [] h once = tt
  distinct_still (p ∷ ps) h once =
      let i = p.binder.id in (
        not_if (is_buffer_of (to i) (map (re_param to) ps))
            (λ e. let b = param_back ps (to i) e in
            let same : i ≡ b.0 =
            once i b.0 (or_left (i == i) (is_buffer_of i ps) (eq-eqb i i refl))
            (or_right (b.0 == i) (is_buffer_of b.0 ps) b.1) b.2 in
            true≢false (sym b.1 ∙ ap (λ z. is_buffer_of z ps) (sym same) ∙ h.0)),
        distinct_still ps h.1
            (λ x y e f. once x y (or_right (x == i) (is_buffer_of x ps) e) (or_right (y == i) (is_buffer_of y ps) f)),
      )

-- a made buffer is a binder
mutual
  pub made_binder : (b : Block) (x : ℕ) → makes b x ≡ true → has_binder b x ≡ true
  made_binder end x h = h
  made_binder (next a b) x h =
      or_elim (step_makes a x) (makes b x) h
      (λ e. or_left (step_has_binder a x) (has_binder b x) (made_below a x e))
      (λ e. or_right (step_has_binder a x) (has_binder b x) (made_binder b x e))

  made_below : (a : Statement) (x : ℕ) → step_makes a x ≡ true → step_has_binder a x ≡ true
  made_below (Assign y is e) x h = h
  made_below (Reduce y is e) x h = h
  made_below (Config f a) x h = h
  made_below Pass x h = h
  made_below (If c a b) x h =
      or_elim (makes a x) (makes b x) h
      (λ e. or_left (has_binder a x) (has_binder b x) (made_binder a x e))
      (λ e. or_right (has_binder a x) (has_binder b x) (made_binder b x e))
  made_below (For i lo hi b) x h = or_right (x == i.id) (has_binder b x) (made_binder b x h)
  made_below (Alloc y cell dims memory) x h = h
  made_below (View w y cs) x h = absurd (true≢false (sym h))
  made_below (Call k args) x h = h

-- ---- arguments in the place of parameters keep binders

module _ (i : ℕ) (c : _) where
  mutual
    flag_binders : (b : Block) (x : ℕ) → has_binder (flags.in_block i c b) x ≡ has_binder b x
    flag_binders end x = refl
    flag_binders (next a b) x = ap₂ ◌||◌ (flag_below a x) (flag_binders b x)

    flag_below : (a : Statement) (x : ℕ) → step_has_binder (flags.in_statement i c a) x ≡ step_has_binder a x
    flag_below (Assign y is e) x = refl
    flag_below (Reduce y is e) x = refl
    flag_below (Config f a) x = refl
    flag_below Pass x = refl
    flag_below (If t a b) x = ap₂ ◌||◌ (flag_binders a x) (flag_binders b x)
    flag_below (For j lo hi b) x = ap (λ u. (x == j.id) || u) (flag_binders b x)
    flag_below (Alloc y cell dims memory) x = refl
    flag_below (View v y cs) x = refl
    flag_below (Call k args) x = refl

pub put_binders : (y : ℕ) (kind : ParamKind) (a : Argument) (b : Block) (x : ℕ)
    → has_binder (with_argument y kind a b) x ≡ has_binder b x
put_binders y (ControlParam kind) (ControlArg e) b x =
    sym (block_among (numbers.in_block y e b) x)
    ∙ ap (λ is. among is x) (substitution_keeps_binders y e b)
    ∙ block_among b x
put_binders y (ControlParam kind) (ConditionArg c) b x = flag_binders y c b x
put_binders y (ControlParam kind) (Whole z) b x = refl
put_binders y (ControlParam kind) (Window z cs) b x = refl
put_binders y (TensorParam cell dims memory) a b x = same_binders y a b x
put_binders y (WindowParam cell dims memory) a b x = same_binders y a b x

pub inlined_binders : (ps : List Param) (args : List Argument) (b : Block) (x : ℕ)
    → has_binder (inlined ps args b) x ≡ has_binder b x
inlined_binders [] args b x = refl
inlined_binders (p ∷ ps) [] b x = refl
inlined_binders (p ∷ ps) (a ∷ args) b x =
    inlined_binders ps args (with_argument p.binder.id p.kind a b) x
    ∙ put_binders p.binder.id p.kind a b x

-- ---- what follows

pub hole_binder : (c : Context) (b : Block) (x : ℕ) → has_binder (fill c b) x ≡ false
    → has_binder (joined b (rest_of c)) x ≡ false
hole_binder (Here rest) b x h = h
hole_binder (After a c) b x h =
    hole_binder c b x (or_parts (step_has_binder a x) (has_binder (fill c b) x) h).1
hole_binder (InLoop i lo hi c rest) b x h =
    let p = or_parts ((x == i.id) || has_binder (fill c b) x) (has_binder rest x) h in
    hole_binder c b x (or_parts (x == i.id) (has_binder (fill c b) x) p.0).1
hole_binder (InThen t c other rest) b x h =
    let p = or_parts (has_binder (fill c b) x || has_binder other x) (has_binder rest x) h in
    hole_binder c b x (or_parts (has_binder (fill c b) x) (has_binder other x) p.0).0
hole_binder (InElse t other c rest) b x h =
    let p = or_parts (has_binder other x || has_binder (fill c b) x) (has_binder rest x) h in
    hole_binder c b x (or_parts (has_binder other x) (has_binder (fill c b) x) p.0).1

pub in_rest : (hidden : ℕ → Bool) (a rest : Block) → mentions hidden (joined a rest) ≡ false
    → mentions hidden rest ≡ false
in_rest hidden end rest h = h
in_rest hidden (next s a) rest h =
    in_rest hidden a rest (or_parts (in_statement hidden s) (mentions hidden (joined a rest)) h).1

-- ---- all of it

module _ (fields : ℕ → Option Kind) (memories : ℕ) (callees : ℕ → Option Callee) (base : ℕ)
    (callee : Procedure) (ok : IsProcedure fields memories callees callee) where
  abbrev to : ℕ → ℕ
  to = fresh_id (ids_of callee) base

  abbrev own : ℕ → Bool
  own = is_new base callee

  abbrev q : Procedure
  q = with_fresh_ids base callee

  numbered : AreNumbered (ids_of callee) base
  numbered = fresh_ids (ids_of callee) base

  of_param : (y : ℕ) → is_param callee y ≡ true → is_among (ids_of callee) y ≡ true
  of_param y h = ids_among callee y ∙ or_right (has_binder callee.body y) (is_param callee y) h

  of_binder : (y : ℕ) → has_binder callee.body y ≡ true → is_among (ids_of callee) y ≡ true
  of_binder y h = ids_among callee y ∙ or_left (has_binder callee.body y) (is_param callee y) h

  -- no binder is a parameter
  pub apart : (x : ℕ) → is_param q x ≡ true → has_binder q.body x ≡ true → ⊥
  apart x h k =
      let y = param_back to callee.params x h in
      let z = binder_back to callee.body x k in
      let same : y.0 ≡ z.0 =
      numbered.once y.0 z.0 (of_param y.0 y.1) (of_binder z.0 z.1) (sym y.2 ∙ z.2) in
      true≢false (sym y.1 ∙ ap (is_param callee) same
      ∙ binder_new (is_param callee) callee.body z.0 (well_scoped fields memories callees callee ok).0 z.1)

  param_own : (x : ℕ) → is_param q x ≡ true → own x ≡ true
  param_own x h =
      let y = param_back to callee.params x h in
      ap own y.2 ∙ numbered.within y.0 (of_param y.0 y.1)

  pub binder_own : (x : ℕ) → has_binder q.body x ≡ true → own x ≡ true
  binder_own x h =
      let y = binder_back to callee.body x h in
      ap own y.2 ∙ numbered.within y.0 (of_binder y.0 y.1)

  names_own : uses (not_own own) no_name q.body ≡ false
  names_own =
      let r = fresh_anywhere fields memories callees callee base ok in
      let hidden = λ (x : ℕ). not_own own (r.0.to x) in
      used.block (not_own own) q.body
      ∙ ap (λ (p : Procedure). mentions (not_own own) p.body) r.1.is_copy
      ∙ renamed_mentions (not_own own) r.0 callee.body
      ∙ unmentioned_law (is_param callee) hidden callee.body
      (well_scoped fields memories callees callee ok).0
      (λ x h. ap (not_own own) (r.1.ids x (of_param x h)) ∙ ap not (numbered.within x (of_param x h)))
      (λ x h. ap (not_own own) (r.1.ids x (of_binder x h)) ∙ ap not (numbered.within x (of_binder x h)))

  module _ (s : Spot) (is : IsSpot s)
      (below : list_all (λ x. nat_lt x base) (bound_ids s.target.proc) ≡ true) where
    pub from_base : (x : ℕ) → own x ≡ true → base ≤ x
    from_base x h =
        leb-true base x (and_parts (nat_le base x) (nat_lt x (base + length (ids_of callee))) h).0

    own_free : (x : ℕ) → own x ≡ true → IsFree s.target.proc (around s) x
    own_free x h =
        fresh_law s.target.proc (around s) (old s) x (no_param base s.target.proc below x (from_base x h))
        (ap (λ b. has_binder b x) (sym is.body) ∙ no_binder base s.target.proc below x (from_base x h))

    rest_lacks : mentions own (rest_of (around s)) ≡ false
    rest_lacks =
        let bound = bound_at (around s) (is_param s.target.proc) in
        in_rest own (old s) (rest_of (around s))
        (unmentioned_law bound own (joined (old s) (rest_of (around s))) (spot_scoped s is)
        (λ x h. not_if (own x)
        (λ e. true≢false (sym h ∙ (bound_or_free s.target.proc (around s) x).1 (own_free x e))))
        (λ x h. not_if (own x)
        (λ e. true≢false (sym h ∙ hole_binder (around s) (old s) x
        (ap (λ b. has_binder b x) (sym is.body) ∙ no_binder base s.target.proc below x (from_base x e))))))

pub new_names : NewNames
new_names fields memories callees s base callee args is below ok formed =
    let q = with_fresh_ids base callee in
    record {
      names = names_own fields memories callees base callee ok;
      params = λ x h. (
        param_own fields memories callees base callee ok x h,
        not_if (makes q.body x) (λ m. apart fields memories callees base callee ok x h
            (made_binder q.body x m)),
      );
      distinct = distinct_still (fresh_id (ids_of callee) base) callee.params
          (params_differ fields memories callee.params [] ok.params)
          (λ x y h k e. (fresh_ids (ids_of callee) base).once x y
          (of_param fields memories callees base callee ok x h)
          (of_param fields memories callees base callee ok y k) e);
      free = own_free fields memories callees base callee ok s is below;
      others = λ x h. (
        not_if (is_param q x)
            (λ e. true≢false (sym (param_own fields memories callees base callee ok x e) ∙ h)),
        inlined_binders q.params args q.body x
            ∙ not_if (has_binder q.body x)
            (λ e. true≢false (sym (binder_own fields memories callees base callee ok x e) ∙ h)),
      );
      gone = free_unmentioned s (inlined q.params args q.body) (is_param q) formed
          (λ x h. own_free fields memories callees base callee ok s is below x
          (param_own fields memories callees base callee ok x h))
          (λ x h. not_if (is_param q x)
          (λ e. apart fields memories callees base callee ok x e
          (sym (inlined_binders q.params args q.body x) ∙ h)));
      rest = rest_lacks fields memories callees base callee ok s is below;
    }
