use Rattle.std.proofs.Common.{List, [], map, false, ap, ◌∙◌}
use Rattle.exo_tree.specs.PlainProcedure.{procedure}
use Rattle.exo_tree.specs.PlainUnit.{program}
use Rattle.check_claims.specs.Claim.{Placed}
use Rattle.check_claims.specs.Places.{places_of, with_places}
use Rattle.check_claims.specs.PlainClaim.{placed}
use Rattle.check_claims.specs.declared.parts.Window.{Window}
use Rattle.check_claims.proofs.Placing.{window_claims, window_more}
use Rattle.check_claims.proofs.parts.part_of.Goals as goal

pub returns-clause-claims : goal.returns-clause-claims
returns-clause-claims c =
    let u = program c.args.unit.now in
    let p = procedure c.args.p.now in
    let w : Window = record { skip = c.args.skip; left = c.args.count; more = false } in
    ap (λ (s : List Placed × Window). s.0)
    (c.in_ok-put_places.ensures
    ∙ ap (λ l. with_places (map placed l, w) (places_of u p)) c.in_ok-claims.ensures.items)
    ∙ window_claims c.args.skip c.args.count false [] (places_of u p)

pub returns-clause-more : goal.returns-clause-more
returns-clause-more c =
    let u = program c.args.unit.now in
    let p = procedure c.args.p.now in
    let w : Window = record { skip = c.args.skip; left = c.args.count; more = false } in
    ap (λ (s : List Placed × Window). s.1.more)
    (c.in_ok-put_places.ensures
    ∙ ap (λ l. with_places (map placed l, w) (places_of u p)) c.in_ok-claims.ensures.items)
    ∙ window_more c.args.skip c.args.count false [] (places_of u p)
