-- The callee with new ids is the callee under a renaming.
use Rattle.std.proofs.Common.{◌≡◌, ℕ, pos, ◌==◌, Bool, true, false, ◌||◌, List, [], ◌∷◌, ◌++◌, map}
use Rattle.std.proofs.Common.{refl, sym, ap, ap₂, ◌∙◌, subst, true≢false, eqb-true}
use Rattle.exo_tree.specs.Tree.{Control, Lit, Condition, Argument, ControlArg, ConditionArg}
use Rattle.exo_tree.specs.Tree.{ParamKind, ControlParam, TensorParam, WindowParam, Param}
use Rattle.exo_tree.specs.Tree.{Config, Block, end, next, Procedure, True}
use Rattle.exo_tree.specs.Renaming.{re_control, re_controls, re_condition, re_block}
use Rattle.exo_tree.specs.Renaming.{binders, fresh_id}
use Rattle.exo_meaning.specs.Run.{unit_world}
use Rattle.exo_tree.specs.Renaming as tree
use Rattle.exo_meaning.specs.Renaming.{Renaming}
use Rattle.exo_meaning.specs.Unseen.{in_control, in_controls, in_condition, in_block as mentions}
use Rattle.exo_meaning.proofs.Frame.{or_parts}
use Rattle.meaning_laws.specs.Scoped.{has_binder}
use Rattle.meaning_laws.proofs.Fresh.{exchanging}
use Rattle.meaning_laws.proofs.Numbers.{among, among_both, block_among, binder_seen, AreOutside}
use Rattle.meaning_laws.proofs.Numbers.{fresh_is_exchanged}
use Rattle.meaning_laws.proofs.SameIds as same_ids
use Rattle.inplace_laws.specs.Above.{size}
use Rattle.inplace_laws.specs.Inline.{MayInline}
use Rattle.match_laws.specs.RenamedCallee.{re_kind, re_param, re_params, re_conditions}
use Rattle.match_laws.specs.RenamedCallee.{re_procedure}
use Rattle.match_laws.specs.Inline.InlineRule.{renumbered, param_ids}
use Rattle.match_laws.specs.Inline.InlineConditions.{IsInlinable, StandThere}
use Rattle.match_laws.specs.Inline.FreshCallee.{kind_mentions, params_mention, conditions_mention}
use Rattle.match_laws.specs.Inline.FreshCallee.{procedure_mentions, ids_of, is_new, FreshCallee}
use Rattle.match_laws.specs.Inline.FreshCallee.{FreshConditions}
use Rattle.match_laws.proofs.OfInline.InlineConditions.{inline_conditions}

-- ---- maps of ids that agree on what is mentioned

abbrev written : Argument → Block
written a = next (Config 0 a) end

abbrev argument_of : Block → Argument
argument_of (next (Config f a) b) = a
argument_of b = ControlArg (Lit (pos 0))

abbrev number_of : Argument → Control
number_of (ControlArg e) = e
number_of a = Lit (pos 0)

abbrev truth_of : Argument → Condition
truth_of (ConditionArg c) = c
truth_of a = True

either_false : (s t : Bool) → s ≡ false → t ≡ false → (s || t) ≡ false
either_false s t i j = ap₂ ◌||◌ i j

module _ (hidden : ℕ → Bool) (r : Renaming) (to : ℕ → ℕ)
    (agree : (x : ℕ) → hidden x ≡ false → to x ≡ r.to x) where
  control_same : (e : Control) → in_control hidden e ≡ false → re_control to e ≡ re_control r.to e
  control_same e h =
      ap (λ b. number_of (argument_of b)) (same_ids.block hidden to r.to agree
      (written (ControlArg e)) (either_false (in_control hidden e) false h refl))

  condition_same : (c : Condition) → in_condition hidden c ≡ false
      → re_condition to c ≡ re_condition r.to c
  condition_same c h =
      ap (λ b. truth_of (argument_of b)) (same_ids.block hidden to r.to agree
      (written (ConditionArg c)) (either_false (in_condition hidden c) false h refl))

  controls_same : (es : List Control) → in_controls hidden es ≡ false
      → re_controls to es ≡ re_controls r.to es
  controls_same [] h = refl
  controls_same (e ∷ es) h =
      let p = or_parts (in_control hidden e) (in_controls hidden es) h in
      ap₂ ◌∷◌ (control_same e p.0) (controls_same es p.1)

  kind_same : (kind : ParamKind) → kind_mentions hidden kind ≡ false
      → tree.re_kind to kind ≡ re_kind r kind
  kind_same (ControlParam kind) h = refl
  kind_same (TensorParam cell dims memory) h =
      ap (λ ds. TensorParam cell ds memory) (controls_same dims h)
  kind_same (WindowParam cell dims memory) h =
      ap (λ ds. WindowParam cell ds memory) (controls_same dims h)

  param_same : (p : Param) → hidden p.binder.id ≡ false → kind_mentions hidden p.kind ≡ false
      → tree.re_param to p ≡ re_param r p
  param_same p h k =
      ap₂ (λ (i : ℕ) (kind : ParamKind).
      record { binder = record { id = i; name = p.binder.name }; kind = kind })
      (agree p.binder.id h) (kind_same p.kind k)

  params_same : (ps : List Param) → params_mention hidden ps ≡ false
      → map (tree.re_param to) ps ≡ re_params r ps
  params_same [] h = refl
  params_same (p ∷ ps) h =
      let a = or_parts (hidden p.binder.id) (kind_mentions hidden p.kind
      || params_mention hidden ps) h in
      let b = or_parts (kind_mentions hidden p.kind) (params_mention hidden ps) a.1 in
      ap₂ ◌∷◌ (param_same p a.0 b.0) (params_same ps b.1)

  conditions_same : (cs : List Condition) → conditions_mention hidden cs ≡ false
      → map (re_condition to) cs ≡ re_conditions r cs
  conditions_same [] h = refl
  conditions_same (c ∷ cs) h =
      let p = or_parts (in_condition hidden c) (conditions_mention hidden cs) h in
      ap₂ ◌∷◌ (condition_same c p.0) (conditions_same cs p.1)

  procedure_same : (q : Procedure) → procedure_mentions hidden q ≡ false
      → renumbered to q ≡ re_procedure r q
  procedure_same q h =
      let a = or_parts (params_mention hidden q.params)
      (conditions_mention hidden q.asserts || mentions hidden q.body) h in
      let b = or_parts (conditions_mention hidden q.asserts) (mentions hidden q.body) a.1 in
      ap₂ (λ (ps : List Param) (cs : List Condition).
      record q { params = ps; asserts = cs; body = re_block to q.body })
      (params_same q.params a.0) (conditions_same q.asserts b.0)
      ∙ ap (λ (d : Block).
      record q { params = re_params r q.params; asserts = re_conditions r q.asserts; body = d })
      (same_ids.block hidden to r.to agree q.body b.1)

-- ---- no id of the procedure is one of the new ones

param_seen : (hidden : ℕ → Bool) (ps : List Param) (x : ℕ) → params_mention hidden ps ≡ false
    → among (param_ids ps) x ≡ true → hidden x ≡ false
param_seen hidden [] x h k = absurd (true≢false (sym k))
param_seen hidden (p ∷ ps) x h k = go (x == p.binder.id) refl (param_seen hidden ps x b.1) k
  where
    a : (hidden p.binder.id ≡ false)
        × ((kind_mentions hidden p.kind || params_mention hidden ps) ≡ false)
    a = or_parts (hidden p.binder.id) (kind_mentions hidden p.kind || params_mention hidden ps) h

    b : (kind_mentions hidden p.kind ≡ false) × (params_mention hidden ps ≡ false)
    b = or_parts (kind_mentions hidden p.kind) (params_mention hidden ps) a.1

    go : (t : Bool) → (x == p.binder.id) ≡ t
        → (among (param_ids ps) x ≡ true → hidden x ≡ false)
        → (t || among (param_ids ps) x) ≡ true → hidden x ≡ false
    go true e rest i = ap hidden (eqb-true x p.binder.id e) ∙ a.0
    go false e rest i = rest i

outside : (q : Procedure) (n : ℕ) → procedure_mentions (is_new n q) q ≡ false
    → AreOutside (ids_of q) n
outside q n h x k =
    go (has_binder q.body x) refl
    (ap (λ t. t || among (param_ids q.params) x) (sym (block_among q.body x))
    ∙ sym (among_both (binders q.body) (param_ids q.params) x) ∙ k)
  where
    a : (params_mention (is_new n q) q.params ≡ false)
        × ((conditions_mention (is_new n q) q.asserts || mentions (is_new n q) q.body) ≡ false)
    a = or_parts (params_mention (is_new n q) q.params)
        (conditions_mention (is_new n q) q.asserts || mentions (is_new n q) q.body) h

    b : (conditions_mention (is_new n q) q.asserts ≡ false)
        × (mentions (is_new n q) q.body ≡ false)
    b = or_parts (conditions_mention (is_new n q) q.asserts) (mentions (is_new n q) q.body) a.1

    go : (t : Bool) → has_binder q.body x ≡ t → (t || among (param_ids q.params) x) ≡ true
        → is_new n q x ≡ false
    go true e i = binder_seen (is_new n q) x q.body b.1 e
    go false e i = param_seen (is_new n q) q.params x a.0 i

pub fresh_callee : FreshCallee
fresh_callee q n h = (
  exchanging (ids_of q) n,
  procedure_same (is_new n q) (exchanging (ids_of q) n) (fresh_id (ids_of q) n)
      (λ x k. fresh_is_exchanged (ids_of q) n x (outside q n h) k) q h,
)

pub fresh_conditions : FreshConditions
fresh_conditions kinds before callee after n own p c old args unused may there =
    let it = fresh_callee callee n unused in
    let above = unit_world kinds before in
    let world = unit_world kinds (before ++ callee ∷ after) in
    subst (λ (q : Procedure). MayInline world above own p q c old (size before) args) (sym it.1)
    (inline_conditions kinds before callee after it.0 own p c old args
    (subst (λ (q : Procedure). IsInlinable own p q c args) it.1 may)
    (subst (λ (q : Procedure). StandThere world p q c old args) it.1 there))
