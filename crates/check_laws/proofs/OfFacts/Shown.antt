-- What is shown at a place holds there.
use Rattle.std.proofs.Common.{sym, ◌∙◌}
use Rattle.exo_tree.specs.Places.{opened}
use Rattle.affine_systems.specs.Laws.{ShownLaw}
use Rattle.check_facts.specs.Contexts.{known_at_place, context_of, condition_formula}
use Rattle.meaning_laws.specs.Sorted.{scope_there}
use Rattle.check_laws.specs.Facts.Laws.{ContextsHold, ShownConditionsHold, WellFormedIsAllowed}

pub conditions_hold : ContextsHold → WellFormedIsAllowed → ShownLaw → ShownConditionsHold
conditions_hold context_law allowed shown u p may_run path c formed none s t good come =
    let found = context_law u p may_run path s t good come in
    let is = found.1.conditions c ((allowed u.fields (scope_there p (opened 1 path p.body))).1 c formed) in
    sym is ∙ shown found.0 (context_of u p path) (condition_formula u p (known_at_place u p (opened 1 path p.body)) c) found.1.kinds none found.1.context
