use Rattle.exo_tree.specs.PlainProcedure.{procedure}
use Rattle.schedule_calls.specs.PlainRequest.{plain_asked}
use Rattle.schedule_run.specs.PlainVersions.{versions}
use Rattle.schedule_run.proofs.Arms.{of_word}
use Rattle.schedule_run.proofs.planning.by_word.Goals as goal

pub returns-in-SetMemory : goal.returns-in-SetMemory
returns-in-SetMemory c =
    of_word (versions c.args.s.now) c.args.on.now.number.0 (procedure c.args.on.now.proc.now)
    c.set_memory_at.result (plain_asked c.args.at.now) c.args.name.now _ _ c.in-SetMemory.is
    c.set_memory_at.ensures

pub returns-in-CallEqv : goal.returns-in-CallEqv
returns-in-CallEqv c =
    of_word (versions c.args.s.now) c.args.on.now.number.0 (procedure c.args.on.now.proc.now)
    c.call_eqv_at.result (plain_asked c.args.at.now) c.args.name.now _ _ c.in-CallEqv.is
    c.call_eqv_at.ensures

pub returns-in-Replace : goal.returns-in-Replace
returns-in-Replace c =
    of_word (versions c.args.s.now) c.args.on.now.number.0 (procedure c.args.on.now.proc.now)
    c.replace_at.result (plain_asked c.args.at.now) c.args.name.now _ _ c.in-Replace.is
    c.replace_at.ensures
