use Rattle.std.proofs.Common.{◌≡◌, ◌<◌, ◌-◌, suc, take, length, sym, ap, ◌∙◌, arith}
use Rattle.std.specs.Prelude.{option_and_then}
use Rattle.cursor_forward.specs.PlainCursor.{plain_cursor}
use Rattle.schedule_run.specs.Ways.{along}
use Rattle.schedule_run.specs.PlainVersions.{versions}
use Rattle.schedule_run.proofs.Climbing.{numbers, along_step}
use Rattle.schedule_run.proofs.session.Session.along.Goals as goal

pub loop-left-preserved : goal.loop-left-preserved
loop-left-preserved c =
    let v = versions c.args.self.now in
    let way = c.args.way.now in
    let left = c.loop-left.left in
    let one : left ≡ suc (left - 1) = omega (arith, c.loop-left-test.true) in
    let less : left - 1 < length way = omega (arith, c.loop-left-test.true, c.loop-left.invariant.within) in
    record {
      within = omega (arith, less);
      same =
          c.loop-left.invariant.same
          ∙ along_step v way left (left - 1) _ (plain_cursor c.loop-left.at) one less
          ∙ ap (option_and_then (along v (numbers (take (left - 1) way)))) (sym c.in-Some.ensures);
    }

pub returns-in-None : goal.returns-in-None
returns-in-None c =
    let v = versions c.args.self.now in
    let way = c.args.way.now in
    let left = c.loop-left.left in
    let one : left ≡ suc (left - 1) = omega (arith, c.loop-left-test.true) in
    let less : left - 1 < length way = omega (arith, c.loop-left-test.true, c.loop-left.invariant.within) in
    sym
    (c.loop-left.invariant.same
    ∙ along_step v way left (left - 1) _ (plain_cursor c.loop-left.at) one less
    ∙ ap (option_and_then (along v (numbers (take (left - 1) way)))) (sym c.in-None.ensures))
