use Rattle.std.proofs.Common.{ap, ◌∙◌}
use Rattle.std.specs.Prelude.{fold, filter}
use Rattle.ob_check.specs.Entries.{is_missing, kept}
use Rattle.ob_check.proofs.parts.Parts.end.Goals as goal

pub returns-clause-exact : goal.returns-clause-exact
returns-clause-exact c = λ es ss h. h.exact

pub returns-clause-shown : goal.returns-clause-shown
returns-clause-shown c = λ es ss h. h.shown

pub returns-clause-held : goal.returns-clause-held
returns-clause-held c = λ es ss h. c.in_ok-end.ensures (filter (is_missing es) ss) h.pending ∙ ap (λ m. fold kept m (filter (is_missing es) ss)) h.looked_up
