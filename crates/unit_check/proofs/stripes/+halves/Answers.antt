use Rattle.std.proofs.Common.{◌+◌, ◌-◌, ◌*◌, ◌/◌, arith}
use Rattle.std.proofs.lemmas.Result.{IfOk-at_ok}
use Rattle.bounds_check.specs.Parts.{unit_of, proc_of}
use Rattle.bounds_check.proofs.Crosses.{crosses}
use Rattle.bounds_check.proofs.Shared.{Listing-sync}
use Rattle.unit_check.specs.Parts.{IsShown}
use Rattle.unit_check.proofs.Striped.{both_halves}
use Rattle.unit_check.proofs.stripes.+halves.Goals as goal

pub join-first-requires-send-F : goal.join-first-requires-send-F
join-first-requires-send-F g t c κs within =
    let bounds = within in
    search (Listing-sync, crosses) depth 20

pub returns : goal.returns
returns g t c =
    let u = unit_of c.args.listing.now in
    let p = proc_of c.args.listing.now in
    let from = c.args.from in
    let low = c.args.count / 2 in
    let high = c.args.count - c.args.count / 2 in
    both_halves u p from low high c.args.count c.in_ok-all.all c.in_ok-second.field-0
    c.append.new.self (omega arith) (omega arith)
    (IfOk-at_ok (IsShown u p (from * 4096) (low * 4096)) c.in_ok-all.was c.join-first.ensures.first)
    (IfOk-at_ok (IsShown u p ((from + low) * 4096) (high * 4096)) c.in_ok-second.was
    c.join-first.ensures.second)
    (c.in_ok-append.ensures u p)
