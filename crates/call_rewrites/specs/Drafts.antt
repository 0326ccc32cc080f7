-- What stands in the place of pieces.
use Rattle.std.specs.Prelude.{ℕ, ◌+◌, if◌then◌else◌, map, List, length, Option}
use Rattle.std.specs.Prelude.{option_map}
use Rattle.exo_tree.specs.Tree.{Argument, Block, Param, statements}
use Rattle.exo_tree.specs.Context.{rest_of}
use Rattle.exo_tree.specs.Places.{Path, opened}
use Rattle.exo_tree.specs.Renaming.{re_param}
use Rattle.affine_forms.specs.Forms.{Reading}
use Rattle.match_laws.specs.Inline.AtOnce.{Put, puts}
use Rattle.match_laws.specs.Simplify.SameControls.{in_block}
use Rattle.cursor_forward.specs.Causes.{WideNumber, Form}
use Rattle.step_rules.specs.Rule.{Tried, Got, Not, Target, Piece}
use Rattle.call_laws.specs.Calls.Puts.{after}
use Rattle.call_laws.specs.Simplify.{simpler, all_fit}

abbrev pub simplified_if : Reading → Block → Tried Block
simplified_if at b =
    if all_fit at b then Got (in_block (simpler at) b) else Not (Form WideNumber)

-- the arguments of parameters with those ids
abbrev pub put_for : (ℕ → ℕ) → List Param → List Argument → Put
put_for to ps args = after to (puts (map (re_param to) ps) args)

-- a statement with all that follows it in its block
abbrev pub opened_to_end : Target → Path → Option Piece
opened_to_end t at =
    option_map (λ o. record { path = at; count = 1 + length (statements (rest_of o.around)) })
    (opened 1 at t.proc.body)
