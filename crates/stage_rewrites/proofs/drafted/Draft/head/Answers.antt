use Rattle.exo_tree.specs.PlainBinder.{cell_type}
use Rattle.buffer_laws.specs.Buffers.{Buffer}
use Rattle.step_driver.specs.PlainWriting.{writing}
use Rattle.stage_rewrites.specs.Tested.PlainStaging.{plain_staging}
use Rattle.stage_rewrites.specs.Nests.{loaded}
use Rattle.stage_rewrites.proofs.Staged.{headed_out}
use Rattle.stage_rewrites.proofs.drafted.Draft.head.Goals as goal

pub returns-clause-value : goal.returns-clause-value
returns-clause-value c =
    let o = c.args.self.now in
    let w = plain_staging o.staging in
    let x : Buffer = record {
      binder = record { id = o.buffer.0; name = w.name };
      cell = cell_type o.cell;
      dims = c.args.sizes.now;
      memory = 0;
    } in
    headed_out c.in_ok-made.made c.in_ok-loaded.field-0 c.append.new.self x
    (loaded (writing o.how) w o.buffer.0 c.args.sizes.now)
    c.in_ok-made.ensures c.in_ok-loaded.ensures.value c.in_ok-append.ensures
