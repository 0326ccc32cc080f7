use Rattle.std.proofs.Common.{refl, sym}
use Rattle.exo_tree.specs.PlainProcedure.{procedure}
use Rattle.schedule_calls.specs.PlainRequest.{plain_operation}
use Rattle.schedule_laws.specs.Operators.Operators.{call_of}
use Rattle.schedule_run.specs.Running.{versions_in}
use Rattle.schedule_run.proofs.Following.{all_come}
use Rattle.schedule_run.proofs.Plans.{all_stand}
use Rattle.schedule_run.proofs.running.Running.plan.Goals as goal

pub planned-requires-clause-tables : goal.planned-requires-clause-tables
planned-requires-clause-tables c = record {
  modes = c.requires.running.modes;
  writes = c.requires.running.writes.is;
}

pub returns-clause-kept : goal.returns-clause-kept
returns-clause-kept c =
    all_stand (versions_in c.args.self.now) c.args.k.0 (procedure c.in-Some.proc.now)
    (call_of (plain_operation c.args.operation.now)) c.planned.result c.proposals_are_kept.ensures
    (record {
      unit = c.requires.running.formed;
      there = sym c.in-Some.ensures;
      ids = c.if-not-has_room.ensures.ids refl;
    })
    (c.if-not-has_room.ensures.numbers refl) c.planned.ensures

pub returns-clause-comes : goal.returns-clause-comes
returns-clause-comes c =
    all_come (versions_in c.args.self.now) c.args.k.0 (procedure c.in-Some.proc.now)
    (call_of (plain_operation c.args.operation.now)) c.planned.result (sym c.in-Some.ensures)
    c.planned.ensures
