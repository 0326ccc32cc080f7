-- The rewrite replace, on plain trees: a block that is matched with a callee's body becomes a call
-- of it.
use Rattle.std.specs.Prelude.{◌≡◌, ℕ, Bool, if◌then◌else◌, List, [], Option}
use Rattle.std.specs.Prelude.{Some, None}
use Rattle.exo_tree.specs.Tree.{Kind, Argument, Call, Block, end, next, Procedure}
use Rattle.exo_tree.specs.Context.{fill}
use Rattle.exo_tree.specs.Places.{Path, Piece, Opened, opened}
use Rattle.exo_meaning.specs.State.{State}
use Rattle.exo_meaning.specs.Run.{World, unit_world}
use Rattle.exo_meaning.specs.Inputs.{IsAdmissible, Refines}
use Rattle.exo_meaning.specs.Units.{share_nothing_written}
use Rattle.meaning_laws.specs.Context.{ComesTo}
use Rattle.affine_forms.specs.Forms.{Reading}
use Rattle.inplace_laws.specs.Inline.{inlined, MayInline}
use Rattle.match_laws.specs.Names.{Names}
use Rattle.match_laws.specs.Matched.{Arguments, NoMatch, Undetermined, matched}
use Rattle.match_laws.specs.Alike.{nameless}
use Rattle.match_laws.specs.Inline.Known.{Sees, ReadAlong}
use Rattle.match_laws.specs.Inline.MatchLaw.{MayMatch}

-- why it refuses: the first statement of the callee's body that differs, the first parameter that
-- no place determines, or arguments that the call may not have by the rule on shared buffers
pub data Differs : Type 0 where
  AtPath : Path → Differs
  OfParam : ℕ → Differs
  Shared : Differs

-- so many statements from a path on; None: they are not there
abbrev pub replace_piece : Procedure → Path → ℕ → Option Piece
replace_piece p at n =
    elim (opened n at p.body) [
      | None ↦ None
      | Some o ↦ Some (record { path = at; count = n })
    ]

-- at: what an expression of the block reads; theirs: the names of the block's procedure; q: the
-- callee, which is number k of the unit
module _ (at : Reading) (theirs : Names) (q : Procedure) (k : ℕ) where
  -- fields: their kinds; root: the buffer of each name at the place; writes: the parameters that
  -- the callee writes
  abbrev pub replace_refusal : (ℕ → Option Kind) → (ℕ → ℕ) → (ℕ → Bool) → Block → Option Differs
  replace_refusal fields root writes piece =
      elim (matched at theirs piece q) [
        | Arguments args ↦
            if share_nothing_written fields writes root q.params args then None else Some Shared
        | NoMatch path ↦ Some (AtPath path)
        | Undetermined x ↦ Some (OfParam x)
      ]

  abbrev pub replace_draft : Block → Option Block
  replace_draft piece =
      elim (matched at theirs piece q) [
        | Arguments args ↦ Some (next (Call k args) end)
        | NoMatch path ↦ None
        | Undetermined x ↦ None
      ]

-- ---- the law

-- p with another block in the place
abbrev pub with_block : Procedure → Opened → Block → Procedure
with_block p o b = record p { body = fill o.around b }

-- fresh: the callee with the ids of the block's binders, and other ids for its parameters. It is
-- matched with the block too, what is read in the block has its numbers along runs, and the call
-- may stand for the body with the arguments; known: names that stand for buffers at the place
pub record MayReplace (world above : World) (own : ℕ → Bool) (at : Reading) (theirs : Names)
    (p fresh : Procedure) (k : ℕ) (o : Opened) (args : List Argument) (known : ℕ → Bool)
    : Type 0 where
  pub found : matched at theirs o.piece fresh ≡ Arguments args
  pub match : MayMatch at theirs o.piece fresh args known
  pub read : (s u : State)
      → IsAdmissible world p s
      → ComesTo world o.piece o.around s u
      → Sees known u.scene × ReadAlong world at theirs (nameless o.piece) u
  pub call :
      MayInline world above own (with_block p o (inlined fresh.params args fresh.body)) fresh
      o.around (inlined fresh.params args fresh.body) k args

abbrev pub ReplaceRule : Type 0
ReplaceRule =
    (kinds : ℕ → Kind) (ps : List Procedure) (p : Procedure) (path : Path) (n : ℕ) (o : Opened)
    (at : Reading) (theirs : Names) (q : Procedure) (k : ℕ) (made : Block) (above : World)
    (own : ℕ → Bool) (fresh : Procedure) (known : ℕ → Bool)
    → let world = unit_world kinds ps in
    opened n path p.body ≡ Some o
    → replace_draft at theirs q k o.piece ≡ Some made
    → ((args : List Argument) → matched at theirs o.piece q ≡ Arguments args
    → MayReplace world above own at theirs p fresh k o args known)
    → Refines world p (with_block p o made) []
