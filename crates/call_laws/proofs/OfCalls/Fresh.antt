-- The callee with new ids is the callee under a renaming, whatever the new ids are.
use Rattle.std.proofs.Common.{◌≡◌, ◌≤◌, ℕ, suc, ◌+◌, ◌==◌, Bool, true, false, not, ◌&&◌, ◌||◌, cond, List, [], ◌∷◌, ◌++◌, length, Option, Some, None}
use Rattle.std.proofs.Common.{nat_le, nat_lt, refl, sym, ap, ap₂, ◌∙◌, subst, true≢false, eqb-true, eq-eqb, add-one, leb-true, arith}
use Rattle.exo_tree.specs.Tree.{Kind, Control, Lit, Var, Field, StrideOf, Neg, Add, Sub, Mul, Div, Mod}
use Rattle.exo_tree.specs.Tree.{Condition, ConditionArg, ParamKind, ControlParam, TensorParam, WindowParam, Param}
use Rattle.exo_tree.specs.Tree.{Config, end, next, Procedure}
use Rattle.exo_tree.specs.Renaming.{binders, fresh_id}
use Rattle.exo_meaning.specs.Calls.{Callee}
use Rattle.exo_meaning.specs.Inputs.{is_buffer_of}
use Rattle.exo_meaning.specs.Orders.{Each}
use Rattle.exo_meaning.specs.Renaming.{Renaming}
use Rattle.exo_meaning.specs.Run.{World, unit_world}
use Rattle.exo_meaning.specs.Unseen.{in_control, in_controls, in_condition, in_block as mentions}
use Rattle.exo_meaning.specs.Units.{Sort, Scope, sort_in, with_name, is_new, param_sort, Reads, plainly}
use Rattle.exo_meaning.specs.Units.{is_number, has_dimension, is_of_literals, is_control, are_controls}
use Rattle.exo_meaning.specs.Units.{is_param_kind, are_params, IsProcedure}
use Rattle.exo_meaning.proofs.Frame.{or_parts}
use Rattle.meaning_laws.specs.FreshCopies.{is_within}
use Rattle.meaning_laws.specs.Scoped.{is_not, is_param, is_scoped, has_binder}
use Rattle.meaning_laws.proofs.Substitute.{and_parts}
use Rattle.meaning_laws.proofs.Facts.{or_left, or_right}
use Rattle.meaning_laws.proofs.Fewer as fewer
use Rattle.meaning_laws.proofs.Numbers.{among, among_both, block_among, within_first, within_next}
use Rattle.meaning_laws.proofs.Scoped.{both_false, not_false}
use Rattle.meaning_laws.proofs.Unmentioned.{unmentioned_law}
use Rattle.meaning_laws.proofs.WellFormed.{well_scoped}
use Rattle.inplace_laws.specs.Above.{size}
use Rattle.inplace_laws.specs.Inline.{MayInline}
use Rattle.match_laws.specs.Inline.InlineRule.{param_ids, with_fresh_ids}
use Rattle.match_laws.specs.Inline.InlineConditions.{IsInlinable, StandThere}
use Rattle.match_laws.specs.Inline.FreshCallee.{kind_mentions, params_mention, conditions_mention, procedure_mentions}
use Rattle.match_laws.specs.Inline.FreshCallee.{ids_of}
use Rattle.call_laws.proofs.OfCalls.Agreeing.{procedure_same}
use Rattle.match_laws.proofs.OfInline.InlineConditions.{inline_conditions}
use Rattle.call_laws.specs.Calls.Names.Renamings.{is_among, IsInjectiveOn}
use Rattle.call_laws.proofs.OfCalls.OfNames.Mentions.{Lacks}
use Rattle.call_laws.proofs.OfCalls.OfNames.Renamings.{injections_extend}
use Rattle.call_laws.specs.Calls.Fresh.{FreshIds, IsRenamed, FreshAnywhere, FreshConditionsAnywhere}

-- ---- new numbers

first_value : (i : ℕ) (is : List ℕ) (n x : ℕ) → (x == i) ≡ true → fresh_id (i ∷ is) n x ≡ n
first_value i is n x e = ap (λ t. cond t n (fresh_id is (n + 1) x)) e

next_value : (i : ℕ) (is : List ℕ) (n x : ℕ) → (x == i) ≡ false
    → fresh_id (i ∷ is) n x ≡ fresh_id is (suc n) x
next_value i is n x e =
    ap (λ t. cond t n (fresh_id is (n + 1) x)) e ∙ ap (λ m. fresh_id is m x) (add-one n)

among_rest : (i : ℕ) (is : List ℕ) (x : ℕ) → (x == i) ≡ false → is_among (i ∷ is) x ≡ true
    → is_among is x ≡ true
among_rest i is x e h = ap (λ t. t || is_among is x) (sym e) ∙ h

within : (is : List ℕ) (n x : ℕ) → is_among is x ≡ true
    → is_within n (length is) (fresh_id is n x) ≡ true
within [] n x h = absurd (true≢false (sym h))
within (i ∷ is) n x h = go (x == i) refl (within is (suc n) x)
  where
    go : (t : Bool) → (x == i) ≡ t
        → (is_among is x ≡ true → is_within (suc n) (length is) (fresh_id is (suc n) x) ≡ true)
        → is_within n (suc (length is)) (fresh_id (i ∷ is) n x) ≡ true
    go true e below =
        ap (is_within n (suc (length is))) (first_value i is n x e) ∙ within_first n (length is)
    go false e below =
        ap (is_within n (suc (length is))) (next_value i is n x e)
        ∙ within_next n (length is) (fresh_id is (suc n) x) (below (among_rest i is x e h))

from : (n k x : ℕ) → is_within n k x ≡ true → n ≤ x
from n k x h = leb-true n x (and_parts (nat_le n x) (nat_lt x (n + k)) h).0

once : (is : List ℕ) (n : ℕ) → IsInjectiveOn is (fresh_id is n)
once [] n x y h k e = absurd (true≢false (sym h))
once (i ∷ is) n x y h k e = go (x == i) (y == i) refl refl (once is (suc n) x y)
  where
    later : (z : ℕ) → (z == i) ≡ false → is_among (i ∷ is) z ≡ true
        → n ≡ fresh_id (i ∷ is) n z → ⊥
    later z other there same =
        let low : suc n ≤ fresh_id is (suc n) z =
        from (suc n) (length is) (fresh_id is (suc n) z)
        (within is (suc n) z (among_rest i is z other there)) in
        let is_it : n ≡ fresh_id is (suc n) z = same ∙ next_value i is n z other in
        omega arith

    go : (t u : Bool) → (x == i) ≡ t → (y == i) ≡ u
        → (is_among is x ≡ true → is_among is y ≡ true
        → fresh_id is (suc n) x ≡ fresh_id is (suc n) y → x ≡ y)
        → x ≡ y
    go true true f g below = eqb-true x i f ∙ sym (eqb-true y i g)
    go true false f g below = absurd (later y g k (sym (first_value i is n x f) ∙ e))
    go false true f g below = absurd (later x f h (sym (first_value i is n y g) ∙ sym e))
    go false false f g below =
        below (among_rest i is x f h) (among_rest i is y g k)
        (sym (next_value i is n x f) ∙ e ∙ next_value i is n y g)

pub fresh_ids : FreshIds
fresh_ids is n = record { within = within is n; once = once is n }

-- ---- a procedure that keeps the rules mentions its own ids alone

pub same_among : (is : List ℕ) (x : ℕ) → is_among is x ≡ among is x
same_among [] x = refl
same_among (i ∷ is) x = ap (λ t. (x == i) || t) (same_among is x)

pub params_among : (ps : List Param) (x : ℕ) → among (param_ids ps) x ≡ is_buffer_of x ps
params_among [] x = refl
params_among (p ∷ ps) x = ap (λ t. (x == p.binder.id) || t) (params_among ps x)

pub ids_among : (q : Procedure) (x : ℕ)
    → is_among (ids_of q) x ≡ (has_binder q.body x || is_param q x)
ids_among q x =
    same_among (ids_of q) x ∙ among_both (binders q.body) (param_ids q.params) x
    ∙ ap₂ ◌||◌ (block_among q.body x) (params_among q.params x)

in_scope : (o : Option Sort) (t : Bool) → t ≡ true → (o ≡ None → t ≡ false) → o ≡ None → ⊥
in_scope o t h k e = true≢false (sym h ∙ k e)

module _ (fields : ℕ → Option Kind) (hidden : ℕ → Bool) where
  name_lacks : (suits : Option Sort → Bool) → suits None ≡ false → (scope : Scope)
      → Lacks hidden scope → (x : ℕ) → suits (sort_in scope x) ≡ true → hidden x ≡ false
  name_lacks suits nothing scope none x h = go (hidden x) refl
    where
      go : (t : Bool) → hidden x ≡ t → t ≡ false
      go true e = absurd (true≢false (sym h ∙ ap suits (none x e) ∙ nothing))
      go false e = refl

  module _ (scope : Scope) (none : Lacks hidden scope) where
    control : (may : Reads) (e : Control) → is_control fields may scope e ≡ true
        → in_control hidden e ≡ false
    control may (Lit n) h = refl
    control may (Var x) h = name_lacks is_number refl scope none x h
    control may (Field f) h = refl
    control may (StrideOf x k) h =
        name_lacks (has_dimension k) refl scope none x
        (and_parts may.strides (has_dimension k (sort_in scope x)) h).1
    control may (Neg a) h = control may a h
    control may (Add a b) h =
        let p = and_parts (is_control fields may scope a) (is_control fields may scope b) h in
        both_false (in_control hidden a) (in_control hidden b) (control may a p.0) (control may b p.1)
    control may (Sub a b) h =
        let p = and_parts (is_control fields may scope a) (is_control fields may scope b) h in
        both_false (in_control hidden a) (in_control hidden b) (control may a p.0) (control may b p.1)
    control may (Mul a b) h =
        let q = and_parts (is_control fields may scope a && is_control fields may scope b)
        (is_of_literals a || is_of_literals b) h in
        let p = and_parts (is_control fields may scope a) (is_control fields may scope b) q.0 in
        both_false (in_control hidden a) (in_control hidden b) (control may a p.0) (control may b p.1)
    control may (Div a c) h = control may a (and_parts (is_control fields may scope a) _ h).0
    control may (Mod a c) h = control may a (and_parts (is_control fields may scope a) _ h).0

    controls : (es : List Control) → are_controls fields plainly scope es ≡ true
        → in_controls hidden es ≡ false
    controls [] h = refl
    controls (e ∷ es) h =
        let p = and_parts (is_control fields plainly scope e) (are_controls fields plainly scope es) h in
        both_false (in_control hidden e) (in_controls hidden es) (control plainly e p.0) (controls es p.1)

  kind_lacks : (memories : ℕ) (scope : Scope) → Lacks hidden scope → (kind : ParamKind)
      → is_param_kind fields memories scope kind ≡ true → kind_mentions hidden kind ≡ false
  kind_lacks memories scope none (ControlParam kind) h = refl
  kind_lacks memories scope none (TensorParam cell dims memory) h =
      controls scope none dims (and_parts (are_controls fields plainly scope dims) _ h).0
  kind_lacks memories scope none (WindowParam cell dims memory) h =
      controls scope none dims (and_parts (are_controls fields plainly scope dims) _ h).0

  params_lack : (memories : ℕ) (scope : Scope) → Lacks hidden scope → (ps : List Param)
      → are_params fields memories scope ps ≡ true
      → ((x : ℕ) → is_buffer_of x ps ≡ true → hidden x ≡ false)
      → params_mention hidden ps ≡ false
  params_lack memories scope none [] h own = refl
  params_lack memories scope none (p ∷ ps) h own =
      let inner = with_name scope p.binder (param_sort p.kind) in
      let q = and_parts (is_new scope p.binder)
      (is_param_kind fields memories scope p.kind && are_params fields memories inner ps) h in
      let r = and_parts (is_param_kind fields memories scope p.kind)
      (are_params fields memories inner ps) q.1 in
      let mine : hidden p.binder.id ≡ false =
      own p.binder.id (or_left (p.binder.id == p.binder.id) (is_buffer_of p.binder.id ps)
      (eq-eqb p.binder.id p.binder.id refl)) in
      both_false (hidden p.binder.id) (kind_mentions hidden p.kind || params_mention hidden ps) mine
      (both_false (kind_mentions hidden p.kind) (params_mention hidden ps)
      (kind_lacks memories scope none p.kind r.0)
      (params_lack memories inner (λ x e. still x e (x == p.binder.id) refl mine) ps r.1
      (λ x e. own x (or_right (x == p.binder.id) (is_buffer_of x ps) e))))
    where
      still : (x : ℕ) → hidden x ≡ true → (t : Bool) → (x == p.binder.id) ≡ t
          → hidden p.binder.id ≡ false
          → sort_in (with_name scope p.binder (param_sort p.kind)) x ≡ None
      still x e true f mine =
          absurd (true≢false (sym e ∙ ap hidden (eqb-true x p.binder.id f) ∙ mine))
      still x e false f mine =
          ap (λ t. cond t (Some (param_sort p.kind)) (sort_in scope x)) f ∙ none x e

-- a condition is what a write of it is
condition_lacks : (more few : ℕ → Bool) → ((x : ℕ) → more x ≡ false → few x ≡ false)
    → (cs : List Condition) → Each (λ t. in_condition more t ≡ false) cs
    → conditions_mention few cs ≡ false
condition_lacks more few less [] h = refl
condition_lacks more few less (c ∷ cs) h =
    let wide = both_false (in_condition more c) false h.0 refl in
    both_false (in_condition few c) (conditions_mention few cs)
    (or_parts (in_condition few c) false
    (fewer.block more few less (next (Config 0 (ConditionArg c)) end) wide)).0
    (condition_lacks more few less cs h.1)

abbrev not_its : Procedure → ℕ → Bool
not_its q x = not (is_among (ids_of q) x)

own_names : (fields : ℕ → Option Kind) (memories : ℕ) (callees : ℕ → Option Callee) (q : Procedure)
    → IsProcedure fields memories callees q → procedure_mentions (not_its q) q ≡ false
own_names fields memories callees q ok =
    both_false (params_mention hidden q.params)
    (conditions_mention hidden q.asserts || mentions hidden q.body)
    (params_lack fields hidden memories [] (λ x h. refl) q.params ok.params param)
    (both_false (conditions_mention hidden q.asserts) (mentions hidden q.body)
    (condition_lacks (is_not (is_param q)) hidden
    (λ x h. param x (not_false (is_param q x) h)) q.asserts scoped.1)
    (unmentioned_law (is_param q) hidden q.body scoped.0 param bound))
  where
    hidden : ℕ → Bool
    hidden = not_its q

    scoped : (is_scoped (is_param q) q.body ≡ true)
        × Each (λ t. in_condition (is_not (is_param q)) t ≡ false) q.asserts
    scoped = well_scoped fields memories callees q ok

    param : (x : ℕ) → is_param q x ≡ true → hidden x ≡ false
    param x h = ap not (ids_among q x ∙ or_right (has_binder q.body x) (is_param q x) h)

    bound : (x : ℕ) → has_binder q.body x ≡ true → hidden x ≡ false
    bound x h = ap not (ids_among q x ∙ or_left (has_binder q.body x) (is_param q x) h)

pub fresh_anywhere : FreshAnywhere
fresh_anywhere fields memories callees q n ok =
    let r = injections_extend (ids_of q) (fresh_id (ids_of q) n) (once (ids_of q) n) in (
      r.0,
      record {
        ids = r.1;
        is_copy =
            procedure_same (not_its q) r.0 (fresh_id (ids_of q) n)
            (λ x h. sym (r.1 x (not_false (is_among (ids_of q) x) h))) q
            (own_names fields memories callees q ok);
      },
    )

pub fresh_conditions_anywhere : FreshConditionsAnywhere
fresh_conditions_anywhere fields memories callees kinds ps k callee at n own p c old args ok may there =
    subst (λ (us : List Procedure). MayInline (unit_world kinds us) above own p q c old k args) (sym at.parts)
    (subst (λ (j : ℕ). MayInline world above own p q c old j args) at.count
    (subst (λ (d : Procedure). MayInline world above own p d c old (size at.before) args) (sym it.1.is_copy)
    (inline_conditions kinds at.before callee at.behind it.0 own p c old args
    (subst (λ (d : Procedure). IsInlinable own p d c args) it.1.is_copy may)
    (subst (λ (d : Procedure). StandThere world p d c old args) it.1.is_copy
    (subst (λ (us : List Procedure). StandThere (unit_world kinds us) p q c old args) at.parts there)))))
  where
    it : (r : Renaming) × IsRenamed n callee r
    it = fresh_anywhere fields memories callees callee n ok

    above : World
    above = unit_world kinds at.before

    world : World
    world = unit_world kinds (at.before ++ callee ∷ at.behind)

    q : Procedure
    q = with_fresh_ids n callee
