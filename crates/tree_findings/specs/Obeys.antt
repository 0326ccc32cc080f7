-- The rules of blocks without the test that names of binders are new.
use Rattle.std.specs.Prelude.{ℕ, nat_lt, Bool, true, not, ◌&&◌, length, Option}
use Rattle.exo_tree.specs.Tree.{Kind, Index, Statement, Assign, Reduce, Config, Pass, If, For, Alloc}
use Rattle.exo_tree.specs.Tree.{View, Call, Block, end, next}
use Rattle.exo_meaning.specs.Calls.{Callee}
use Rattle.exo_meaning.specs.Run.{roots_after}
use Rattle.exo_meaning.specs.Units.{Scope, ControlName, with_name, scope_after, is_empty, is_short}
use Rattle.exo_meaning.specs.Units.{is_rank, spans, plainly, with_fields, is_control, are_controls}
use Rattle.exo_meaning.specs.Units.{is_condition, is_access, is_datum, is_window, is_write, is_call}

module _ (fields : ℕ → Option Kind) (memories : ℕ) (callees : ℕ → Option Callee) where
  abbrev mutual
    pub obeys : Scope → (ℕ → ℕ) → Block → Bool
    obeys scope root end = true
    obeys scope root (next a b) =
        statement_obeys scope root a && obeys (scope_after a scope) (roots_after a root) b

    pub statement_obeys : Scope → (ℕ → ℕ) → Statement → Bool
    statement_obeys scope root (Assign x is e) =
        is_access fields scope x is && is_datum fields scope e
    statement_obeys scope root (Reduce x is e) =
        is_access fields scope x is && is_datum fields scope e
    statement_obeys scope root (Config f a) = is_write fields scope (fields f) a
    statement_obeys scope root Pass = true
    statement_obeys scope root (If c a b) =
        is_condition fields with_fields scope c
        && ((not (is_empty a) && (is_short a && is_short b))
        && (obeys scope root a && obeys scope root b))
    statement_obeys scope root (For i lo hi b) =
        (is_control fields plainly scope lo && is_control fields plainly scope hi)
        && ((not (is_empty b) && is_short b)
        && obeys (with_name scope i (ControlName Index)) root b)
    statement_obeys scope root (Alloc x cell dims memory) =
        are_controls fields plainly scope dims && (is_rank (length dims) && nat_lt memory memories)
    statement_obeys scope root (View w x coords) =
        is_window fields scope x coords && nat_lt 0 (spans coords)
    statement_obeys scope root (Call k args) = is_call fields scope root (callees k) args
