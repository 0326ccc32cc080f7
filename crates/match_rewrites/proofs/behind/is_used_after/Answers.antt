use Rattle.std.proofs.Common.{◌∙◌}
use Rattle.exo_tree.specs.Places.{opened}
use Rattle.exo_tree.specs.PlainProcedure.{procedure}
use Rattle.block_matches.specs.Pairs.Held.{ids_in}
use Rattle.meaning_laws.specs.Scoped.{has_binder}
use Rattle.std.proofs.Common.{ap}
use Rattle.match_rewrites.proofs.Unified.{used_same}
use Rattle.match_rewrites.proofs.behind.is_used_after.Goals as goal

pub returns : goal.returns
returns c =
    let p = c.args.piece.now in
    c.is_mentioned_after.ensures
    ∙ used_same (opened p.count p.path (procedure c.args.on.now.proc.now).body)
    (ids_in c.in_ok-bound.bound) (c.in_ok-bound.ensures ∙ ap has_binder c.in_ok-block.ensures)
