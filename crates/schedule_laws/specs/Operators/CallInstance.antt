-- Schedules that change and make calls and write configuration fields, and what is refused of such
-- ones.
use Rattle.std.specs.Prelude.{◌≡◌, ℕ, pos, true, List, [], ◌∷◌, Some, codes}
use Rattle.exo_tree.specs.Tree.{Control, Lit, Size, ControlArg, Whole, Config}
use Rattle.exo_tree.specs.Tree.{Call, Block, Statement, end, next, ConfigField, Program}
use Rattle.text_expressions.specs.Expression.{truth}
use Rattle.place_laws.specs.Scope.UnrollLoop.{only_loop}
use Rattle.config_laws.specs.FieldRule.{Before, Behind}
use Rattle.config_laws.specs.Differing.{Origin}
use Rattle.cursor_forward.specs.Search.Patterns as pattern
use Rattle.cursor_forward.specs.Causes.{WrongShape, NotDescendant, NoMatch}
use Rattle.cursor_forward.specs.Shifts.{at_index, alone, edits_of}
use Rattle.loop_laws.specs.Shapes.{inside}
use Rattle.schedule_calls.specs.declared.operator.CursorOperator.TheVariants.{Inline, InlineWindow}
use Rattle.schedule_calls.specs.declared.operator.CursorOperator.TheVariants.{DeleteConfig}
use Rattle.schedule_calls.specs.declared.operator.WordOperator.TheVariants.{Replace, CallEqv}
use Rattle.schedule_calls.specs.Requests.{Asked, Here, At, Rename, WithWord}
use Rattle.schedule_calls.specs.Requests.{WriteConfig, BindConfig, Request, Apply}
use Rattle.schedule_calls.specs.Requests as request
use Rattle.schedule_laws.specs.Versions.Versions.{Version, of_text, unmoved, Versions}
use Rattle.schedule_laws.specs.Versions.Lines as lines
use Rattle.schedule_laws.specs.Versions.Lines.{Done}
use Rattle.schedule_laws.specs.Operators.Instance as instance
use Rattle.schedule_laws.specs.Operators.Instance.{procedure, alone_at, child_of, at_head, one}
use Rattle.schedule_laws.specs.Operators.Instance.{the_store, ran, refused}
use Rattle.schedule_laws.specs.Operators.BufferInstance.{four}

-- ---- the unit

-- for i in seq(0, HI): b
abbrev pub in_loop : Control → Block → Block
in_loop hi b = only_loop (record { id = 1; name = codes "i" }) (Lit (pos 0)) hi b

-- a call of the procedure of that number with x
abbrev pub calling : ℕ → Statement
calling k = Call k (Whole 0 ∷ [])

-- for i in seq(0, 2): g(x)
abbrev pub with_call : Block
with_call = in_loop (Lit (pos 2)) (next (calling 0) end)

-- Cfg.w : size
abbrev pub field : ConfigField
field = record { config = codes "Cfg"; name = codes "w"; kind = Size }

abbrev pub unit : Program
unit = record instance.unit {
  procedures = procedure (codes "g") one ∷ procedure (codes "f") with_call ∷ [];
  fields = field ∷ [];
}

-- ---- the schedule

-- 'g(_)' and the gap before it
abbrev pub the_call : Asked
the_call = record { source = Here (pattern.Call (Some (codes "g"))) 0; moves = [] }

abbrev pub gap : Asked
gap = record the_call { moves = request.Before ∷ [] }

-- 'Cfg.w = _'
abbrev pub the_write : Asked
the_write =
    record { source = Here (pattern.Config (Some (codes "Cfg")) (Some (codes "w"))) 0; moves = [] }

abbrev pub schedule : List Request
schedule =
    -- p = rename(f, 'f')
    Apply (codes "p") (codes "f") (Rename (codes "f"))
    -- q = inline(p, 'g(_)')
    ∷ Apply (codes "q") (codes "p") (alone_at Inline the_call)
    -- h = rename(g, 'h')
    ∷ Apply (codes "h") (codes "g") (Rename (codes "h"))
    -- r = call_eqv(p, 'g(_)', h)
    ∷ Apply (codes "r") (codes "p") (At the_call (WithWord CallEqv (codes "h")))
    -- s = write_config(p, gap before 'g(_)', Cfg, 'w', '4')
    ∷ Apply (codes "s") (codes "p") (At gap (WriteConfig (codes "Cfg") (codes "w") four))
    -- t = delete_config(s, 'Cfg.w = _')
    ∷ Apply (codes "t") (codes "s") (alone_at DeleteConfig the_write)
    -- u = replace(q, 'x = _', g)
    ∷ Apply (codes "u") (codes "q") (At the_store (WithWord Replace (codes "g"))) ∷ []

-- for i in seq(0, 2): b
abbrev pub in_two : Block → Block
in_two b = in_loop (Lit (pos 2)) b

-- made of a version by a step from whose point on the field may differ
abbrev pub differing_child : ℕ → Origin
differing_child k = record { parent = Some k; place = inside 1; side = Behind; fields = 0 ∷ [] }

abbrev pub result : Versions
result = record {
  unit = record instance.unit {
    procedures =
        procedure (codes "g") one
        ∷ procedure (codes "f") with_call
        ∷ procedure (codes "f") (in_two (next (calling 0) end))
        ∷ procedure (codes "f") (in_two one)
        ∷ procedure (codes "h") one
        ∷ procedure (codes "f") (in_two (next (calling 4) end))
        ∷ procedure (codes "f")
        (in_two (next (Config 0 (ControlArg (Lit (pos 4)))) (next (calling 0) end)))
        ∷ procedure (codes "f") (in_two (next (calling 0) end))
        ∷ procedure (codes "f") (in_two (next (calling 0) end)) ∷ [];
    fields = field ∷ [];
  };
  origins =
      of_text
      ∷ of_text
      ∷ child_of 1
      ∷ child_of 2
      ∷ child_of 0
      ∷ record (differing_child 2) { fields = [] }
      ∷ differing_child 2
      ∷ record (differing_child 6) { side = Before }
      ∷ child_of 3 ∷ [];
  edits =
      unmoved
      ∷ unmoved
      ∷ at_head 0 0 []
      ∷ edits_of (inside 1) 1 1 []
      ∷ at_head 0 0 []
      ∷ edits_of (inside 1) 1 1 (alone (at_index 0) (Some (at_index 0)) ∷ [])
      ∷ edits_of (inside 1) 0 1 []
      ∷ edits_of (inside 1) 1 0 []
      ∷ edits_of (inside 1) 1 1 [] ∷ [];
  names =
      (codes "g", Version 0)
      ∷ (codes "f", Version 1)
      ∷ (codes "p", Version 2)
      ∷ (codes "q", Version 3)
      ∷ (codes "h", Version 4)
      ∷ (codes "r", Version 5)
      ∷ (codes "s", Version 6)
      ∷ (codes "t", Version 7)
      ∷ (codes "u", Version 8) ∷ [];
  emitted = [];
  steps = 7;
  obligations = 1;
}

-- ---- refusals

pub record CallsInstance : Type 0 where
  pub runs : ran unit schedule ≡ Done result
  -- f was not made of g
  pub no_version :
      refused unit (codes "f") (At the_call (WithWord CallEqv (codes "f")))
      (lines.Step NotDescendant)
  -- a call is no assignment
  pub no_match :
      refused unit (codes "f") (At the_call (WithWord Replace (codes "g")))
      (lines.Step (NoMatch (inside 0)))
  -- a call is no view
  pub no_view : refused unit (codes "f") (alone_at InlineWindow the_call) (lines.Step WrongShape)
  -- no gap, no such parameter
  pub no_gap :
      refused unit (codes "f") (At the_call (WriteConfig (codes "Cfg") (codes "w") four))
      (lines.Step WrongShape)
  pub no_param :
      refused unit (codes "f") (At the_call (BindConfig (codes "n") (codes "Cfg") (codes "w")))
      (lines.Step WrongShape)
  -- a truth value for a size, which is told before the version is looked for
  pub wrong_kind :
      refused unit (codes "k") (At gap (WriteConfig (codes "Cfg") (codes "w") (truth true)))
      lines.BadArguments
  -- names that stand for nothing
  pub no_field :
      refused unit (codes "f") (At gap (WriteConfig (codes "Cfg") (codes "v") four))
      lines.UnknownName
  pub no_name :
      refused unit (codes "f") (At the_call (WithWord CallEqv (codes "k"))) lines.UnknownName
  pub no_callee :
      refused unit (codes "f") (At the_call (WithWord Replace (codes "k"))) lines.UnknownName
