use Rattle.std.proofs.Common.{◌++◌, List, map, ap, ◌∙◌}
use Rattle.exo_tree.specs.Places.{Main, Path}
use Rattle.exo_tree.specs.Tree.{block}
use Rattle.match_laws.specs.Pairs.{blocks_paired}
use Rattle.block_matches.specs.declared.pairs.pair.Pair.{Pair}
use Rattle.block_matches.specs.Pairs.PlainPair.{plain_pair}
use Rattle.block_matches.specs.Pairs.Walks.{below, in_walk}
use Rattle.block_matches.proofs.pairs.walk.PairWalk.pairs.Goals as goal

pub returns : goal.returns
returns c =
    let b = block c.args.body.now in
    let d = block c.args.against.now in
    c.in_ok-push_block.ensures
    ∙ ap (λ (l : List Pair). map plain_pair l
    ++ in_walk blocks_paired c.args.self.now (below c.new.result) Main 0 b d)
    c.new-out.ensures.items
    ∙ ap (λ (q : Path). in_walk blocks_paired c.args.self.now (below q) Main 0 b d) c.new.ensures
