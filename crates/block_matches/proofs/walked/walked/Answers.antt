use Rattle.std.proofs.Common.{◌≡◌, false, map, ap, ◌∙◌}
use Rattle.exo_tree.specs.PlainProcedure.{procedure}
use Rattle.inplace_laws.specs.Inline.{is_param}
use Rattle.match_laws.specs.Matched.{walked}
use Rattle.block_matches.specs.Pairs.Held.{ids_in}
use Rattle.block_matches.specs.Pairs.PlainPair.{plain_pair}
use Rattle.block_matches.specs.Held.{partners_in}
use Rattle.block_matches.specs.Kept.{kept, cut_at}
use Rattle.block_matches.proofs.Cuts.{cut_all}
use Rattle.block_matches.proofs.Outcomes.{if_ok}
use Rattle.block_matches.proofs.walked.walked.Goals as goal

pub returns : goal.returns
returns c =
    let pairs = map plain_pair c.args.pairs.items in
    let params = is_param (procedure c.args.callee.now) in
    let bound = ids_in c.args.bound.now in
    let to = partners_in c.args.to.now in
    let seen = ids_in c.new.result in
    let counted : c.in_ok-end.end ≡ kept params bound to seen pairs =
    c.in_ok-end.ensures
    ∙ ap (λ xs. kept params bound to seen (map plain_pair xs)) c.deref.ensures.value in
    if_ok c.cut_at.result (λ v. map plain_pair v.items ≡ cut_at c.in_ok-end.end pairs)
    (λ v. map plain_pair v.items ≡ walked params bound to (λ x. false) pairs)
    (λ v h. cut_all params bound to seen pairs (map plain_pair v.items) c.in_ok-end.end h counted
    c.new.ensures)
    c.cut_at.ensures
