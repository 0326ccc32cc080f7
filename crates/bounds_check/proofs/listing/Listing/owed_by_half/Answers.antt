use Rattle.std.proofs.Common.{subst}
use Rattle.std.proofs.lemmas.Result.{IfOk-at_ok}
use Rattle.bounds_check.specs.Parts.{unit_of, proc_of, IsRange}
use Rattle.bounds_check.proofs.Crosses.{crosses}
use Rattle.bounds_check.proofs.Shared.{Listing-sync}
use Rattle.bounds_check.proofs.listing.Listing.owed_by_half.Goals as goal

pub join-first-requires-send-F : goal.join-first-requires-send-F
join-first-requires-send-F g c κs within = search (Listing-sync, crosses) depth 20

pub returns : goal.returns
returns g c =
    let u = unit_of c.args.self.now in
    let p = proc_of c.args.self.now in
    let one = IfOk-at_ok (IsRange u p c.args.skip 512) c.in_ok-first.was c.join-first.ensures.first in
    let two = IfOk-at_ok (IsRange u p c.in_ok-middle.middle 512) c.in_ok-second.was
    c.join-first.ensures.second in
    let behind = subst (λ k. IsRange u p k 512 c.in_ok-second.field-0) c.in_ok-middle.ensures.sum two in
    c.joined_ranges.ensures u p c.args.skip 512 512 one behind
