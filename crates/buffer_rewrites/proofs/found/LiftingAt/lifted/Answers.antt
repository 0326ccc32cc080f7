use Rattle.buffer_rewrites.specs.PlainAlloc.{plain_alloc}
use Rattle.buffer_rewrites.proofs.Lifted.{lifted_out}
use Rattle.buffer_rewrites.proofs.found.LiftingAt.lifted.Goals as goal

pub returns : goal.returns
returns c =
    lifted_out c.in_ok-made.made c.in_ok-round.field-0 c.append.new.self
    (plain_alloc c.args.self.now.buffer) _
    c.in_ok-made.ensures c.in_ok-round.ensures c.in_ok-append.ensures
