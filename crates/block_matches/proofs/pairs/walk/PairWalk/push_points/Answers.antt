use Rattle.std.proofs.Common.{◌++◌, List, map, ap, sym, ◌∙◌}
use Rattle.std.proofs.lemmas.Result.{on_ok_weaker}
use Rattle.exo_tree.specs.PlainControl.{control}
use Rattle.exo_tree.specs.PlainProcedure.{procedure}
use Rattle.inplace_laws.specs.Inline.{is_param}
use Rattle.match_laws.specs.Pairs as plain
use Rattle.block_matches.specs.Pairs.Held.{ids_in, names_in}
use Rattle.block_matches.specs.Pairs.PlainPair.{plain_pair}
use Rattle.block_matches.proofs.OfPairs.Points.{points_meet}
use Rattle.block_matches.proofs.pairs.walk.PairWalk.push_points.Goals as goal

pub returns : goal.returns
returns c =
    let w = c.args.self.now in
    on_ok_weaker c.push_controls.result
    (λ made. made
    ∙ ap (λ (l : List plain.Pair). map plain_pair c.args.out.now.items ++ l)
    (sym (points_meet (is_param (procedure w.callee.now)) (ids_in w.bound.now)
    (names_in w.ours.now) (names_in w.theirs.now) c.args.at.now (map control c.args.es.now)
    (map control c.args.gs.now))))
    c.push_controls.ensures
