-- The callee with new ids is the callee under a renaming.
use Rattle.std.specs.Prelude.{◌≡◌, ℕ, Bool, false, ◌||◌, List, [], ◌∷◌, ◌++◌, length}
use Rattle.exo_tree.specs.Tree.{Kind, Condition, Argument, ParamKind, ControlParam, TensorParam}
use Rattle.exo_tree.specs.Tree.{WindowParam, Param, Block, Procedure}
use Rattle.exo_tree.specs.Context.{Context}
use Rattle.exo_tree.specs.Renaming.{binders}
use Rattle.exo_meaning.specs.Run.{unit_world}
use Rattle.exo_meaning.specs.Renaming.{Renaming}
use Rattle.exo_meaning.specs.Unseen.{in_controls, in_condition, in_block as mentions}
use Rattle.meaning_laws.specs.FreshCopies.{is_within}
use Rattle.inplace_laws.specs.Above.{size}
use Rattle.inplace_laws.specs.Inline.{MayInline}
use Rattle.match_laws.specs.RenamedCallee.{re_procedure}
use Rattle.match_laws.specs.Inline.InlineRule.{param_ids, with_fresh_ids}
use Rattle.match_laws.specs.Inline.InlineConditions.{IsInlinable, StandThere}

-- ---- ids that a procedure mentions

module _ (hidden : ℕ → Bool) where
  abbrev pub kind_mentions : ParamKind → Bool
  kind_mentions (ControlParam kind) = false
  kind_mentions (TensorParam cell dims memory) = in_controls hidden dims
  kind_mentions (WindowParam cell dims memory) = in_controls hidden dims

  abbrev pub params_mention : List Param → Bool
  params_mention [] = false
  params_mention (p ∷ ps) = hidden p.binder.id || (kind_mentions p.kind || params_mention ps)

  abbrev pub conditions_mention : List Condition → Bool
  conditions_mention [] = false
  conditions_mention (c ∷ cs) = in_condition hidden c || conditions_mention cs

  abbrev pub procedure_mentions : Procedure → Bool
  procedure_mentions q =
      params_mention q.params || (conditions_mention q.asserts || mentions hidden q.body)

abbrev pub ids_of : Procedure → List ℕ
ids_of q = binders q.body ++ param_ids q.params

-- the numbers that the ids get from n on
abbrev pub is_new : ℕ → Procedure → ℕ → Bool
is_new n q = is_within n (length (ids_of q))

-- ---- the laws

-- where the procedure mentions none of the new ids
abbrev pub FreshCallee : Type 0
FreshCallee =
    (q : Procedure) (n : ℕ)
    → procedure_mentions (is_new n q) q ≡ false
    → (r : Renaming) × (with_fresh_ids n q ≡ re_procedure r q)

-- so the callee with new ids may be inlined
abbrev pub FreshConditions : Type 0
FreshConditions =
    (kinds : ℕ → Kind) (before : List Procedure) (callee : Procedure) (after : List Procedure)
    (n : ℕ) (own : ℕ → Bool) (p : Procedure) (c : Context) (old : Block)
    (args : List Argument)
    → let above = unit_world kinds before in
    let world = unit_world kinds (before ++ callee ∷ after) in
    let q = with_fresh_ids n callee in
    procedure_mentions (is_new n callee) callee ≡ false
    → IsInlinable own p q c args
    → StandThere world p q c old args
    → MayInline world above own p q c old (size before) args
