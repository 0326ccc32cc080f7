-- The rule that gives a procedure another name.
use Rattle.std.specs.Prelude.{ℕ, List, []}
use Rattle.exo_tree.specs.Tree.{end}
use Rattle.cursor_forward.specs.Shifts.{at_index}
use Rattle.step_rules.specs.Rule.{Got, Rule, plain_rule}

-- no statement is replaced
abbrev pub rename_rule : List ℕ → Rule
rename_rule name = record (plain_rule (λ t at. Got (record { path = at_index 0; count = 0 }))
    (λ s base. Got end) (λ s. [])) {
      name = λ p. name;
    }
