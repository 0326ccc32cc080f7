use denote.Param.Send.{IsSync, given_sync, sendable}
use Rattle.unit_check.proofs.Crossing.{closure_send}
use Rattle.unit_check.proofs.check.list_and_show.Goals as goal

pub join_mut-next-requires-send-F : goal.join_mut-next-requires-send-F
join_mut-next-requires-send-F g c κs within =
    let shared : IsSync g.row.R = given_sync 0 g.row.R c.type_bounds.sync-R in
    search (closure_send, sendable) depth 20
