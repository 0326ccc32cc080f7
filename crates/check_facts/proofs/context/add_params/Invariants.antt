use Rattle.std.proofs.Common.{drop, map, Result}
use Rattle.std.specs.Prelude.{⊤}
use Rattle.exo_tree.specs.PlainParam.{parameter}
use Rattle.meaning_laws.specs.Known.{params_facts}
use Rattle.affine_forms.specs.declared.error.FormError.{FormError}
use Rattle.check_facts.specs.Walks.{Added, known_first}
use Rattle.check_facts.proofs.context.add_params.Given as goal

-- what the rest adds is what all add to the context as it was
abbrev pub invariant-loop-p : goal.invariant-loop-p
invariant-loop-p l = (r : Result ⊤ FormError) (new : _) → Added r l.basis (known_first (params_facts (map parameter (drop l.p-index l.p-items)))) l.context new → Added r l.basis (known_first (params_facts l.params)) l.initial.context new
