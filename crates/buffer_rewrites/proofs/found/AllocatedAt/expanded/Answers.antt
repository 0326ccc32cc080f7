use Rattle.exo_tree.specs.PlainControl.{control}
use Rattle.buffer_laws.specs.Expanded.{expanded_buffer}
use Rattle.buffer_rewrites.specs.PlainAllocated.{plain_allocated}
use Rattle.buffer_rewrites.proofs.Expanded.{expanded_out}
use Rattle.buffer_rewrites.proofs.found.AllocatedAt.expanded.Goals as goal

pub returns : goal.returns
returns c =
    expanded_out c.in_ok-made.made c.in_ok-rest_at.field-0 c.append.new.self
    (expanded_buffer (control c.args.size.now) (plain_allocated c.args.self.now).buffer) _
    c.in_ok-made.ensures c.in_ok-rest_at.ensures c.in_ok-append.ensures
