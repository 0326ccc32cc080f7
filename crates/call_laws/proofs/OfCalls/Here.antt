-- What a call becomes, at its place.
use Rattle.std.proofs.Common.{◌≡◌, ◌≤◌, ℕ, ◌+◌, ◌==◌, Bool, true, false, not, ◌&&◌, true≢false, if◌then◌else◌, nat_lt, nat_le}
use Rattle.std.proofs.Common.{List, [], ◌∷◌, length, map, Option, Some, None, refl, sym, ap, ap₂, ◌∙◌, subst}
use Rattle.std.proofs.Common.{eqb-true, eq-eqb, leb-true}
use Rattle.std.specs.Prelude.{slice_get}
use Rattle.std.specs.List.{list_all}
use Rattle.exo_tree.specs.Tree.{Kind, Argument, ControlArg, ConditionArg, Whole, Window, Param, ParamKind, ControlParam}
use Rattle.exo_tree.specs.Tree.{TensorParam, WindowParam, Assign, Reduce, Config, Pass, If, For, Alloc, View}
use Rattle.exo_tree.specs.Tree.{Call, Block, end, next, joined, Procedure}
use Rattle.exo_tree.specs.Context.{rest_of}
use Rattle.exo_tree.specs.Renaming.{binders, fresh_id, re_kind, re_param}
use Rattle.exo_meaning.specs.Inputs.{is_buffer_of}
use Rattle.exo_meaning.specs.Run.{unit_world, callees, callee_in, kinds_of}
use Rattle.exo_meaning.specs.Unseen.{in_arguments}
use Rattle.exo_meaning.specs.Units.{Scope, is_for, are_for, is_call, is_block, field_kind}
use Rattle.exo_meaning.specs.Units.{bound_ids}
use Rattle.exo_meaning.proofs.Frame.{or_parts}
use Rattle.meaning_laws.specs.Scoped.{is_not, is_param, is_scoped, has_binder}
use Rattle.meaning_laws.proofs.Binders.{fresh_law}
use Rattle.meaning_laws.proofs.CopiesAtPlaces.{no_param, no_binder}
use Rattle.meaning_laws.proofs.Facts.{or_left, or_right}
use Rattle.meaning_laws.proofs.Fewer as fewer
use Rattle.meaning_laws.proofs.Parts.{some_injective}
use Rattle.meaning_laws.proofs.Scoped.{or_elim, not_true, not_false, both_false}
use Rattle.meaning_laws.proofs.Substitute.{and_parts}
use Rattle.inplace_laws.specs.Inline.{is_view}
use Rattle.inplace_laws.proofs.Above.{above_law}
use Rattle.match_laws.specs.Inline.AtOnce.{Put, puts, with_put, suits, all_suit}
use Rattle.match_laws.specs.Inline.FreshCallee.{ids_of}
use Rattle.match_laws.specs.Inline.InlineRule.{Called, called_in, param_ids, with_fresh_ids}
use Rattle.match_laws.specs.Inline.InlineRule.{inlined_call, inline_draft}
use Rattle.match_laws.proofs.OfInline.AtOnce.{at_once}
use Rattle.place_laws.specs.Scope.Holes.{roots_at}
use Rattle.step_rules.specs.Rule.{Spot}
use Rattle.step_rules.specs.Lawful.{IsSpot, around, old, callees_for, scope_here}
use Rattle.call_laws.specs.Calls.Names.Renamings.{is_among}
use Rattle.call_laws.specs.Calls.Names.Scopes.{bound_at}
use Rattle.call_laws.proofs.OfCalls.OfNames.Bound.{spot_scoped, bound_or_free}
use Rattle.call_laws.specs.Calls.Callees.{StandsAt}
use Rattle.call_laws.specs.Calls.Puts.{GivesViews}
use Rattle.call_laws.specs.Calls.Here.{AtOnceHere}
use Rattle.call_laws.proofs.OfCalls.Callees.{callee_at}
use Rattle.call_laws.proofs.OfCalls.Fresh.{fresh_ids, same_among, params_among}
use Rattle.call_laws.proofs.OfCalls.Puts.{puts_renumbered}
use Rattle.meaning_laws.proofs.Numbers.{among, among_both}

-- ---- buffers are given for buffers

module _ (fields : ℕ → Option Kind) (scope : Scope) (to : ℕ → ℕ) where
  suit : (p : Param) (a : Argument) → is_for fields scope p.kind a ≡ true
      → suits (re_param to p).kind a ≡ true
  suit p a h = by p.kind a h
    where
      by : (kind : ParamKind) (a : Argument) → is_for fields scope kind a ≡ true
          → suits (re_kind to kind) a ≡ true
      by (ControlParam kind) a h = refl
      by (TensorParam cell dims memory) (ControlArg e) h = h
      by (TensorParam cell dims memory) (ConditionArg c) h = h
      by (TensorParam cell dims memory) (Whole x) h = refl
      by (TensorParam cell dims memory) (Window x cs) h = refl
      by (WindowParam cell dims memory) (ControlArg e) h = h
      by (WindowParam cell dims memory) (ConditionArg c) h = h
      by (WindowParam cell dims memory) (Whole x) h = refl
      by (WindowParam cell dims memory) (Window x cs) h = refl

  pub all_suited : (ps : List Param) (args : List Argument) → are_for fields scope ps args ≡ true
      → all_suit (map (re_param to) ps) args ≡ true
  all_suited [] args h = refl
  all_suited (p ∷ ps) [] h = refl
  all_suited (p ∷ ps) (a ∷ args) h =
      let q = and_parts (is_for fields scope p.kind a) (are_for fields scope ps args) h in
      ap₂ (λ s t. s && t) (suit p a q.0) (all_suited ps args q.1)

one_view : (y : ℕ) (kind : ParamKind) (a : Argument) (put : Put) → suits kind a ≡ true
    → GivesViews put → GivesViews (with_put y kind a put)
one_view y (ControlParam kind) (ControlArg e) put h views x = views x
one_view y (ControlParam kind) (ConditionArg c) put h views x = views x
one_view y (ControlParam kind) (Whole z) put h views x = views x
one_view y (ControlParam kind) (Window z cs) put h views x = views x
one_view y (TensorParam cell dims memory) a put h views x = go (x == y)
  where
    go : (t : Bool) → is_view (if t then a else put.name x) ≡ true
    go true = h
    go false = views x
one_view y (WindowParam cell dims memory) a put h views x = go (x == y)
  where
    go : (t : Bool) → is_view (if t then a else put.name x) ≡ true
    go true = h
    go false = views x

pub views_given : (ps : List Param) (args : List Argument) → all_suit ps args ≡ true
    → GivesViews (puts ps args)
views_given [] args h x = refl
views_given (p ∷ ps) [] h x = refl
views_given (p ∷ ps) (a ∷ args) h x =
    let q = and_parts (suits p.kind a) (all_suit ps args) h in
    one_view p.binder.id p.kind a (puts ps args) q.0 (views_given ps args q.1) x

-- ---- new parameters are new

new_param : (to : ℕ → ℕ) (base : ℕ) (ps : List Param) (x : ℕ)
    → ((y : ℕ) → is_buffer_of y ps ≡ true → base ≤ to y)
    → is_buffer_of x (map (re_param to) ps) ≡ true → base ≤ x
new_param to base [] x low h = absurd (true≢false (sym h))
new_param to base (p ∷ ps) x low h =
    or_elim (x == to p.binder.id) (is_buffer_of x (map (re_param to) ps)) h
    (λ e. subst (λ y. base ≤ y) (sym (eqb-true x (to p.binder.id) e))
    (low p.binder.id (or_left (p.binder.id == p.binder.id) (is_buffer_of p.binder.id ps)
    (eq-eqb p.binder.id p.binder.id refl))))
    (new_param to base ps x (λ y e. low y (or_right (y == p.binder.id) (is_buffer_of y ps) e)))

pub new_params : (base : ℕ) (q : Procedure) (x : ℕ)
    → is_buffer_of x (with_fresh_ids base q).params ≡ true → base ≤ x
new_params base q x h = new_param (fresh_id (ids_of q) base) base q.params x low h
  where
    low : (y : ℕ) → is_buffer_of y q.params ≡ true → base ≤ fresh_id (ids_of q) base y
    low y e =
        let there : is_among (ids_of q) y ≡ true =
        same_among (ids_of q) y ∙ among_both (binders q.body) (param_ids q.params) y
        ∙ or_right (among (binders q.body) y) (among (param_ids q.params) y)
        (params_among q.params y ∙ e) in
        let z = fresh_id (ids_of q) base y in
        leb-true base z
        (and_parts (nat_le base z) (nat_lt z (base + length (ids_of q)))
        ((fresh_ids (ids_of q) base).within y there)).0

-- ---- the call

no_call : {A : Type 0} (a : A) → None ≡ Some a → ⊥
no_call a e = cc

pub called_is : (b : Block) (c : Called) → called_in b ≡ Some c → b ≡ next (Call c.callee c.args) end
called_is end c e = absurd (no_call c e)
called_is (next a (next b rest)) c e = absurd (no_call c e)
called_is (next (Call k args) end) c e =
    ap (λ (d : Called). next (Call d.callee d.args) end)
    (some_injective (record { callee = k; args = args }) c e)
called_is (next (Assign x is d) end) c e = absurd (no_call c e)
called_is (next (Reduce x is d) end) c e = absurd (no_call c e)
called_is (next (Config f a) end) c e = absurd (no_call c e)
called_is (next Pass end) c e = absurd (no_call c e)
called_is (next (If t a b) end) c e = absurd (no_call c e)
called_is (next (For i lo hi b) end) c e = absurd (no_call c e)
called_is (next (Alloc x cell dims memory) end) c e = absurd (no_call c e)
called_is (next (View w x cs) end) c e = absurd (no_call c e)

module _ (s : Spot) (c : Called) (q : Procedure) (is : IsSpot s) (called : called_in (old s) ≡ Some c)
    (there : slice_get s.target.unit.procedures c.callee ≡ Some q) where
  piece_is : old s ≡ next (Call c.callee c.args) end
  piece_is = called_is (old s) c called

  abbrev pub fields : ℕ → Option Kind
  fields = field_kind s.target.unit.fields

  abbrev pub kinds : ℕ → Kind
  kinds = kinds_of s.target.unit.fields

  abbrev pub at : StandsAt s.target.unit.procedures c.callee q
  at = callee_at s.target.unit.procedures c.callee q there

  -- it is that of the table
  pub callee_is : callees_for s.target c.callee ≡ Some (callee_in (unit_world kinds at.before) q)
  callee_is =
      ap₂ (λ (ps : List Procedure) (k : ℕ). slice_get (callees kinds [] ps) k) at.parts (sym at.count)
      ∙ (above_law kinds at.before q at.behind).1

  pub args_for : are_for fields (scope_here s) q.params c.args ≡ true
  args_for =
      let root = roots_at (around s) (λ x. x) in
      let piece : is_block fields (length s.target.unit.memories) (callees_for s.target) (scope_here s) root
      (next (Call c.callee c.args) end) ≡ true =
      subst (λ b. is_block fields (length s.target.unit.memories) (callees_for s.target) (scope_here s) root b
      ≡ true) piece_is is.well.piece in
      let call : is_call fields (scope_here s) root (callees_for s.target c.callee) c.args ≡ true =
      (and_parts (is_call fields (scope_here s) root (callees_for s.target c.callee) c.args) true piece).0 in
      let known : is_call fields (scope_here s) root (Some (callee_in (unit_world kinds at.before) q)) c.args
      ≡ true = subst (λ o. is_call fields (scope_here s) root o c.args ≡ true) callee_is call in
      (and_parts (are_for fields (scope_here s) q.params c.args) _ known).0

  -- arguments use names of the place alone
  pub args_bound : in_arguments (is_not (bound_at (around s) (is_param s.target.proc))) c.args ≡ false
  args_bound =
      let bound = bound_at (around s) (is_param s.target.proc) in
      let scoped : is_scoped bound (next (Call c.callee c.args) (rest_of (around s))) ≡ true =
      subst (λ b. is_scoped bound (joined b (rest_of (around s))) ≡ true) piece_is (spot_scoped s is) in
      not_true (in_arguments (is_not bound) c.args)
      (and_parts (not (in_arguments (is_not bound) c.args)) _ scoped).0

  module _ (base : ℕ) (below : list_all (λ x. nat_lt x base) (bound_ids s.target.proc) ≡ true) where
    -- an id from the first new one on is not bound there
    pub new_not_bound : (x : ℕ) → base ≤ x
        → bound_at (around s) (is_param s.target.proc) x ≡ false
    new_not_bound x from =
        (bound_or_free s.target.proc (around s) x).1
        (fresh_law s.target.proc (around s) (old s) x (no_param base s.target.proc below x from)
        (ap (λ b. has_binder b x) (sym is.body) ∙ no_binder base s.target.proc below x from))

    pub args_apart : in_arguments (λ x. is_buffer_of x (with_fresh_ids base q).params) c.args ≡ false
    args_apart =
        let bound = bound_at (around s) (is_param s.target.proc) in
        let new = λ (x : ℕ). is_buffer_of x (with_fresh_ids base q).params in
        (or_parts (in_arguments new c.args) false
        (fewer.block (is_not bound) new less (next (Call c.callee c.args) end)
        (both_false (in_arguments (is_not bound) c.args) false args_bound refl))).0
      where
        less : (x : ℕ) → is_not (bound_at (around s) (is_param s.target.proc)) x ≡ false
            → is_buffer_of x (with_fresh_ids base q).params ≡ false
        less x h = go (is_buffer_of x (with_fresh_ids base q).params) refl
          where
            go : (t : Bool) → is_buffer_of x (with_fresh_ids base q).params ≡ t → t ≡ false
            go true e =
                absurd (true≢false (sym (not_false (bound_at (around s) (is_param s.target.proc) x) h)
                ∙ new_not_bound x (new_params base q x e)))
            go false e = refl

pub at_once_here : AtOnceHere
at_once_here s base c q is below called there =
    ap (inline_draft s.target.unit.procedures base) (called_is (old s) c called)
    ∙ ap (inlined_call base c.args) there
    ∙ ap (λ b. Some b)
    (at_once fresh.params c.args fresh.body suited (args_apart s c q is called there base below)
    ∙ puts_renumbered to (puts fresh.params c.args) q.body (views_given fresh.params c.args suited))
  where
    to : ℕ → ℕ
    to = fresh_id (ids_of q) base

    fresh : Procedure
    fresh = with_fresh_ids base q

    suited : all_suit (with_fresh_ids base q).params c.args ≡ true
    suited =
        all_suited (field_kind s.target.unit.fields) (scope_here s) to q.params c.args
        (args_for s c q is called there)
