use Rattle.std.proofs.Common.{◌≡◌, arith, sym, ap, ◌∙◌}
use Rattle.exo_tree.specs.PlainStatement.{statement}
use Rattle.meaning_laws.specs.KnownFields.{after}
use Rattle.check_facts.specs.Tables.{known_in}
use Rattle.check_facts.specs.Values.{plain_value}
use Rattle.check_facts.specs.Walks.{telling_of, value_after}
use Rattle.check_facts.proofs.Fields.{changed_on}
use Rattle.check_facts.proofs.Steps.{after_value}
use Rattle.check_facts.proofs.walk.each_after.Goals as goal

pub loop-f-preserved : goal.loop-f-preserved
loop-f-preserved c =
    let tell = telling_of c.args.basis.now in
    let path = c.args.path.now in
    let a = statement c.args.s.now in
    let f = c.loop-f.f in
    let first = known_in c.args.known.now in
    let had : plain_value c.get.result ≡ first f = c.get.ensures ∙ c.loop-f.invariant.above f (omega arith) in
    let value = c.in_ok-value.ensures ∙ ap (value_after tell f path a) had ∙ sym (after_value tell f path a first) in
    changed_on f (after tell path a first) first (known_in c.loop-f.known) (known_in c.set.new.self) (plain_value c.in_ok-value.value) c.in_ok-set.ensures value c.loop-f.invariant
