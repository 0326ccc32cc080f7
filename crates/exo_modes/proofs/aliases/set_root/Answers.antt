use Rattle.std.proofs.Common.{length, take, refl, ap, ◌∙◌}
use Rattle.std.proofs.lemmas.List.{take_at}
use Rattle.exo_modes.specs.Aliases.{roots_in}
use Rattle.exo_modes.proofs.Roots.{root_by_push}
use Rattle.exo_modes.proofs.Walks.{kept_same}
use Rattle.exo_modes.proofs.aliases.set_root.Goals as goal

pub returns-clause-set : goal.returns-clause-set
returns-clause-set c = ap roots_in c.in_ok-push.ensures.items ∙ root_by_push c.args.aliases.now.items _

pub returns-clause-kept : goal.returns-clause-kept
returns-clause-kept c =
    let known = c.args.aliases.now.items in
    ap (take (length known)) c.in_ok-push.ensures.items ∙ take_at known _ (length known) refl

pub returns-then-root-buffer-clause-kept : goal.returns-then-root-buffer-clause-kept
returns-then-root-buffer-clause-kept c = kept_same c.args.aliases.now.items
