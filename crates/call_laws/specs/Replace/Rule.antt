-- The rule that puts a call of a procedure in the place of a block that is matched with its body.
use Rattle.std.specs.Prelude.{ℕ, ◌==◌, Bool, false, not, ◌||◌, if◌then◌else◌, List, []}
use Rattle.std.specs.Prelude.{◌∷◌, Option, Some, None, slice_get}
use Rattle.exo_tree.specs.Tree.{Argument, Whole, Window}
use Rattle.exo_tree.specs.Tree.{Param, Statement, If, For, Call, Block, end, next, Procedure}
use Rattle.exo_tree.specs.Context.{rest_of}
use Rattle.exo_tree.specs.Places.{Path, Opened, opened}
use Rattle.exo_meaning.specs.Calls.{Callee}
use Rattle.exo_meaning.specs.Run.{program_world}
use Rattle.exo_meaning.specs.Units.{field_kind, share_nothing_written}
use Rattle.exo_meaning.specs.Unseen.{in_block as mentions}
use Rattle.meaning_laws.specs.Scoped.{has_binder}
use Rattle.place_laws.specs.Scope.Roots.{own_roots_at}
use Rattle.cursor_forward.specs.Causes as causes
use Rattle.cursor_forward.specs.Causes.{WrongShape, SharedArgument, WideNumber, Form}
use Rattle.match_laws.specs.Names.{names_of}
use Rattle.match_laws.specs.Matched.{Arguments, NoMatch, Undetermined}
use Rattle.match_laws.specs.Widths.{InWidth, Said, TooWide, matched_in_width}
use Rattle.match_laws.specs.Inline.Meets.{is_window}
use Rattle.step_rules.specs.Rule.{Tried, Got, Not, Target, Piece, Rule, plain_rule}
use Rattle.step_rules.specs.Answer.{then_try, opened_or_wrong}
use Rattle.call_laws.specs.Simplify.{reading_of}
use Rattle.check_claims.specs.Arguments.{passed_for}

-- a binder of the block is used behind it
abbrev pub is_used_after : Opened → Bool
is_used_after o = mentions (has_binder o.piece) (rest_of o.around)

abbrev pub param_name : List Param → ℕ → List ℕ
param_name [] x = []
param_name (p ∷ ps) x = if x == p.binder.id then p.binder.name else param_name ps x

-- the parameters that a procedure of the unit writes
abbrev pub written_by : Option Callee → ℕ → Bool
written_by None x = false
written_by (Some callee) x = callee.writes x

-- ---- what is refused besides: a parameter that the body hands on whole against a window, where
-- its argument is the whole of a name, which may have other extents

-- given: the argument of each parameter
module _ (given : ℕ → Option Argument) where
  abbrev pub takes_window : Option Argument → Bool
  takes_window None = false
  takes_window (Some a) = is_window a

  abbrev pub hands_on : Argument → Argument → Bool
  hands_on (Whole x) (Window y ds) = not (takes_window (given x))
  hands_on a b = false

  abbrev pub hand_on : List Argument → List Argument → Bool
  hand_on (a ∷ as') (b ∷ bs) = hands_on a b || hand_on as' bs
  hand_on as' bs = false

  abbrev mutual
    pub hands_on_in : Statement → Statement → Bool
    hands_on_in (If c a b) (If r d e) = hands_wholes a d || hands_wholes b e
    hands_on_in (For i lo hi b) (For j l h d) = hands_wholes b d
    hands_on_in (Call k as') (Call m bs) = hand_on as' bs
    hands_on_in a c = false

    pub hands_wholes : Block → Block → Bool
    hands_wholes (next a b) (next c d) = hands_on_in a c || hands_wholes b d
    hands_wholes b d = false

-- ---- the arguments

-- the arguments may be of one buffer by the rule of calls; k: the number of q
module _ (t : Target) (o : Opened) (k : ℕ) (q : Procedure) where
  abbrev pub may_share : List Argument → Bool
  may_share args =
      share_nothing_written (field_kind t.unit.fields)
      (written_by ((program_world t.unit).callees k)) (own_roots_at o.around) q.params args

  abbrev pub told : InWidth → Tried (List Argument)
  told TooWide = Not (Form WideNumber)
  told (Said (NoMatch path)) = Not (causes.NoMatch path)
  told (Said (Undetermined x)) = Not (causes.Undetermined (param_name q.params x))
  told (Said (Arguments args)) =
      if hands_wholes (passed_for q.params args) q.body o.piece
      then Not WrongShape
      else (if may_share args then Got args else Not SharedArgument)

  abbrev pub told_there : Tried (List Argument)
  told_there = told (matched_in_width (reading_of t) (names_of t.proc) o.piece q)

abbrev pub said : ℕ → Target → Opened → Tried (List Argument)
said k t o = elim (slice_get t.unit.procedures k) as (λ u. Tried (List Argument)) [
  | None ↦ Not WrongShape
  | Some q ↦ told_there t o k q
]

-- ---- the rule

-- n statements; a match there is a call of procedure k
abbrev pub replace_piece : ℕ → ℕ → Target → Path → Tried Piece
replace_piece k n t at =
    then_try (opened_or_wrong (opened n at t.proc.body)) (λ o.
    if is_used_after o
    then Not WrongShape
    else then_try (said k t o) (λ args. Got (record { path = at; count = n })))

abbrev pub replace_rule : ℕ → ℕ → Rule
replace_rule k n =
    plain_rule (replace_piece k n)
    (λ s base. then_try (said k s.target s.opened) (λ args. Got (next (Call k args) end)))
    (λ s. [])
