use Rattle.std.proofs.Common.{◌==◌, ap, sym, ◌∙◌}
use Rattle.std.proofs.lemmas.List.{length-map}
use Rattle.ob_check.proofs.Holding.{as_held}
use Rattle.ob_check.proofs.Waiting.{none}
use Rattle.ob_check.proofs.cache.Cache.is_empty.Goals as goal

pub returns-clause-exact : goal.returns-clause-exact
returns-clause-exact c =
    c.is_empty.ensures
    ∙ ap (λ n. n == 0) (sym (length-map c.args.self.now.verdicts.entries _))

pub returns-clause-none : goal.returns-clause-none
returns-clause-none c = λ h.
    ap as_held
    (none c.args.self.now.verdicts.entries c.is_empty.result c.is_empty.ensures h)
