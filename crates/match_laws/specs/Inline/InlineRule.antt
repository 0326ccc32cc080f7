-- The rewrite inline, on plain trees: a call becomes a copy of the callee's body, with the
-- arguments in the place of the parameters.
use Rattle.std.specs.Prelude.{◌≡◌, ℕ, Bool, true, ◌&&◌, if◌then◌else◌, List, [], ◌∷◌, ◌++◌, map}
use Rattle.std.specs.Prelude.{Option, Some, None, slice_get}
use Rattle.exo_tree.specs.Tree.{Kind, Argument, ControlArg, ConditionArg, Whole, Window}
use Rattle.exo_tree.specs.Tree.{Param, Statement, Call}
use Rattle.exo_tree.specs.Tree.{Block, end, next, Procedure}
use Rattle.exo_tree.specs.Context.{fill}
use Rattle.exo_tree.specs.Places.{Path, Piece, Opened, opened}
use Rattle.exo_tree.specs.Renaming.{re_condition, re_block, re_param, binders, fresh_id}
use Rattle.exo_meaning.specs.Run.{World, unit_world}
use Rattle.exo_meaning.specs.Inputs.{Refines}
use Rattle.meaning_laws.specs.Facts.{is_plain_condition}
use Rattle.meaning_laws.specs.Substitute.{is_plain}
use Rattle.inplace_laws.specs.Inline.{inlined, MayInline}

-- ---- the call

pub record Called : Type 0 where
  pub callee : ℕ
  pub args : List Argument

abbrev pub called_by : Statement → Option Called
called_by (Call k args) = Some (record { callee = k; args = args })
called_by a = None

-- where the block is a call and nothing else
abbrev pub called_in : Block → Option Called
called_in end = None
called_in (next a end) = called_by a
called_in (next a (next b c)) = None

-- no control argument reads a field or a stride
abbrev pub is_plain_argument : Argument → Bool
is_plain_argument (ControlArg e) = is_plain e
is_plain_argument (ConditionArg c) = is_plain_condition c
is_plain_argument (Whole x) = true
is_plain_argument (Window x coords) = true

abbrev pub are_plain_arguments : List Argument → Bool
are_plain_arguments [] = true
are_plain_arguments (a ∷ rest) = is_plain_argument a && are_plain_arguments rest

-- None: no call with plain arguments stands there
abbrev pub inline_piece : Procedure → Path → Option Piece
inline_piece p at =
    elim (opened 1 at p.body) [
      | None ↦ None
      | Some o ↦ elim (called_in o.piece) [
        | None ↦ None
        | Some c ↦ if are_plain_arguments c.args
            then Some (record { path = at; count = 1 })
            else None
      ]
    ]

-- ---- the callee with other ids

module _ (to : ℕ → ℕ) where
  abbrev pub renumbered : Procedure → Procedure
  renumbered q = record q {
    params = map (re_param to) q.params;
    asserts = map (re_condition to) q.asserts;
    body = re_block to q.body;
  }

abbrev pub param_ids : List Param → List ℕ
param_ids [] = []
param_ids (p ∷ ps) = p.binder.id ∷ param_ids ps

-- the binders of its body are numbered from base on in preorder, and its parameters behind them
abbrev pub with_fresh_ids : ℕ → Procedure → Procedure
with_fresh_ids base q = renumbered (fresh_id (binders q.body ++ param_ids q.params) base) q

-- ---- the result

abbrev pub inlined_call : ℕ → List Argument → Option Procedure → Option Block
inlined_call base args None = None
inlined_call base args (Some q) =
    let fresh = with_fresh_ids base q in Some (inlined fresh.params args fresh.body)

-- what stands for the piece, by the procedures of the unit and the first new id
abbrev pub inline_draft : List Procedure → ℕ → Block → Option Block
inline_draft ps base piece =
    elim (called_in piece) [
      | None ↦ None
      | Some c ↦ inlined_call base c.args (slice_get ps c.callee)
    ]

-- ---- the law

-- the callee, with fresh ids, may be inlined at the place
abbrev pub MayInlineThere : World → World → (ℕ → Bool) → List Procedure → Procedure → ℕ → Opened
    → Type 0
MayInlineThere world above own ps p base o =
    (c : Called) (q : Procedure)
    → called_in o.piece ≡ Some c
    → slice_get ps c.callee ≡ Some q
    → MayInline world above own p (with_fresh_ids base q) o.around o.piece c.callee c.args

-- then the procedure is refined by itself with the draft in the place of the call
abbrev pub InlineRule : Type 0
InlineRule =
    (kinds : ℕ → Kind) (ps : List Procedure) (p : Procedure) (at : Path) (base : ℕ) (o : Opened)
    (made : Block) (above : World) (own : ℕ → Bool)
    → let world = unit_world kinds ps in
    opened 1 at p.body ≡ Some o
    → inline_draft ps base o.piece ≡ Some made
    → MayInlineThere world above own ps p base o
    → Refines world p (record p { body = fill o.around made }) []
