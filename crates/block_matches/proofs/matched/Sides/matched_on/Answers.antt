use Rattle.block_matches.proofs.matched.Sides.matched_on.Goals as goal

pub matched_given-requires-clause-given : goal.matched_given-requires-clause-given
matched_given-requires-clause-given g c = c.in_ok-given.ensures
