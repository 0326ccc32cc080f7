use Rattle.std.proofs.Common.{◌≡◌, true, drop, map, Result}
use Rattle.std.specs.List.{list_all}
use Rattle.std.specs.Prelude.{⊤}
use Rattle.exo_tree.specs.PlainControl.{condition}
use Rattle.meaning_laws.specs.Facts.{Holds}
use Rattle.affine_forms.specs.declared.error.FormError.{FormError}
use Rattle.affine_forms.specs.Formulas.{condition_keeps_rules}
use Rattle.check_facts.specs.Walks.{Added, known_first}
use Rattle.check_facts.proofs.context.add_asserts.Given as goal

-- what the rest adds is what all add to the context as it was
abbrev pub invariant-loop-c : goal.invariant-loop-c
invariant-loop-c l = record {
  rest : (r : Result ⊤ FormError) (new : _) → Added r l.basis (known_first (map Holds (map condition (drop l.c-index l.c-items)))) l.context new → Added r l.basis (known_first (map Holds l.asserts)) l.initial.context new;
  rules : list_all condition_keeps_rules (map condition (drop l.c-index l.c-items)) ≡ true;
}
