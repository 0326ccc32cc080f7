use Rattle.check_facts.specs.Tables.{known_in}
use Rattle.check_facts.specs.Values.{plain_value}
use Rattle.check_facts.proofs.Fields.{changed_on}
use Rattle.check_facts.proofs.known.Known.duplicate.Goals as goal

pub loop-f-preserved : goal.loop-f-preserved
loop-f-preserved c = changed_on c.loop-f.f (known_in c.args.self.now) (known_in c.new-copied.result) (known_in c.loop-f.copied) (known_in c.set.new.self) (plain_value c.get.result) c.in_ok-set.ensures c.get.ensures c.loop-f.invariant
