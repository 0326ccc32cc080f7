use Rattle.exo_tree.specs.Tree.{block}
use Rattle.exo_tree.specs.PlainBinder.{cell_type}
use Rattle.step_driver.specs.PlainWriting.{writing}
use Rattle.stage_rewrites.specs.Tested.PlainStaging.{plain_staging}
use Rattle.stage_rewrites.proofs.Staged.{staged_out}
use Rattle.stage_rewrites.proofs.drafted.Draft.staged.Goals as goal

pub returns-clause-value : goal.returns-clause-value
returns-clause-value c =
    let o = c.args.self.now in
    staged_out (writing o.how) (plain_staging o.staging) (cell_type o.cell) o.buffer.0
    c.args.writes (block c.args.old.now)
    c.in_ok-sizes.sizes c.in_ok-made.made c.in_ok-rest.field-0 c.append.new.self
    c.in_ok-sizes.ensures.value c.in_ok-made.ensures.value c.in_ok-rest.ensures.value
    c.in_ok-append.ensures
