-- The arguments that a call has in the place of statements.
use Rattle.std.specs.Prelude.{ℕ, if◌then◌else◌, List}
use Rattle.exo_tree.specs.Tree.{Argument}
use Rattle.exo_tree.specs.Places.{Path, opened}
use Rattle.cursor_forward.specs.Causes.{WrongShape}
use Rattle.step_rules.specs.Rule.{Tried, Not, Target}
use Rattle.step_rules.specs.Answer.{then_try, opened_or_wrong}
use Rattle.call_laws.specs.Replace.Rule.{is_used_after, said}

-- of a call of procedure k in the place of n statements from a path on
abbrev pub unified : ℕ → ℕ → Target → Path → Tried (List Argument)
unified k n t at =
    then_try (opened_or_wrong (opened n at t.proc.body)) (λ o.
    if is_used_after o then Not WrongShape else said k t o)
