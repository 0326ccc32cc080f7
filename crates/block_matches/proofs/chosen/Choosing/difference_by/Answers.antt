use Rattle.exo_tree.specs.Tree.{block}
use Rattle.exo_tree.specs.PlainProcedure.{procedure}
use Rattle.match_laws.specs.Matched.{first_difference}
use Rattle.match_laws.specs.Widths.{walk_is_short}
use Rattle.block_matches.specs.Pairs.Held.{names_in}
use Rattle.block_matches.proofs.Choices.{same_value, same_fits}
use Rattle.block_matches.proofs.MatchedBy.{at_arguments}
use Rattle.block_matches.proofs.chosen.Choosing.difference_by.Goals as goal

pub returns : goal.returns
returns g c =
    let s = c.args.self.now in
    let at = g.R.Reader.reading s.reader.now in
    let theirs = names_in s.theirs.now in
    let b = block s.against.now in
    let q = procedure s.by.callee.now in
    let given = c.in_ok-given.ensures in
    record {
      value =
          same_value (λ o. o) _ _ c.difference_at.result
          (at_arguments at theirs b q (λ m w. first_difference at m w) _ _ _ _ _ c.args.args.now
          c.requires given)
          c.difference_at.ensures.value;
      fits =
          same_fits c.difference_at.result _ _
          (at_arguments at theirs b q (λ m w. walk_is_short at m w) _ _ _ _ _ c.args.args.now
          c.requires given)
          c.difference_at.ensures.fits;
    }
