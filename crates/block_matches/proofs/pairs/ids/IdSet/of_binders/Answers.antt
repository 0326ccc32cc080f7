use Rattle.std.proofs.Common.{◌||◌, ap, ◌∙◌}
use Rattle.exo_tree.specs.Tree.{block}
use Rattle.meaning_laws.specs.Scoped.{has_binder}
use Rattle.block_matches.proofs.OfPairs.Bound.{alone}
use Rattle.block_matches.proofs.pairs.ids.IdSet.of_binders.Goals as goal

pub returns : goal.returns
returns c =
    c.in_ok-insert_block.ensures
    ∙ ap (λ s y. has_binder (block c.args.b.now) y || s y) c.new-ids.ensures
    ∙ alone (has_binder (block c.args.b.now))
