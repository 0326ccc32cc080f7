use Rattle.compile_stages.proofs.Promise.{displayed_is_promised}
use Rattle.compile_stages.proofs.laws.displayed_is_promised.Goals as goal

pub returns : goal.returns
returns c =
    displayed_is_promised
    (record {
      safe = c.checked_units_do_not_fault.ensures;
      keeps = c.schedules_keep.ensures;
      room = c.small_units_have_room.ensures;
      hold = c.runs_hold_versions.ensures;
    })
    (record {
      reads = c.shown_is_read.ensures;
      named = c.read_units_are_named.ensures;
      give = c.lines_give_names.ensures;
      keep = c.schedules_keep_names.ensures;
      writable = c.named_units_are_writable.ensures;
    })
