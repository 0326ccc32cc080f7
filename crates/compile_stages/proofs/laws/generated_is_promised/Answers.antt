use Rattle.compile_stages.proofs.Promise.{generated_is_promised}
use Rattle.compile_stages.proofs.Undeclared.{undeclared_fields_stay}
use Rattle.compile_stages.proofs.laws.generated_is_promised.Goals as goal

pub returns : goal.returns
returns c =
    generated_is_promised
    (record {
      safe = c.checked_units_do_not_fault.ensures;
      keeps = c.schedules_keep.ensures;
      room = c.small_units_have_room.ensures;
      hold = c.runs_hold_versions.ensures;
    })
    (record { follow = c.files_follow.ensures; done = c.files_without_allocations_are_done.ensures })
    c.printings_are_listings.ensures
    (undeclared_fields_stay c.fields_are_kept.ensures c.calls_leave_fields.ensures)
