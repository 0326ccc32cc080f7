-- The rule that puts the callee's body in the place of a call.
use Rattle.std.specs.Prelude.{ℕ, [], Option, option_map, option_and_then, slice_get}
use Rattle.exo_tree.specs.Tree.{Block}
use Rattle.match_laws.specs.Inline.InlineRule.{called_in, inline_piece}
use Rattle.step_rules.specs.Rule.{Rule, Spot, plain_rule}
use Rattle.step_rules.specs.Lawful.{old}
use Rattle.step_rules.specs.Shapes.{tried}
use Rattle.call_laws.specs.Calls.Here.{inlined_by}

-- with new ids from base on; None: no call of a procedure of the unit stands there
abbrev pub inlined_there : Spot → ℕ → Option Block
inlined_there s base =
    let called = slice_get s.target.unit.procedures in
    option_and_then (λ c. option_map (inlined_by base c) (called c.callee)) (called_in (old s))

-- a call with plain arguments; it goes nowhere
abbrev pub inline_rule : Rule
inline_rule =
    plain_rule
    (λ t at. tried (inline_piece t.proc at) (λ p. p))
    (λ s base. tried (inlined_there s base) (λ b. b))
    (λ s. [])
