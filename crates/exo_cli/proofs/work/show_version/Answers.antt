use Rattle.std.proofs.Common.{ℕ, ◌≤◌, List, length, refl, sym, subst, ◌∙◌, arith}
use Rattle.exo_cli.specs.Outside.Outside.{HasBytes}
use Rattle.compile_stages.specs.Stages.{Displays}
use Rattle.exo_cli.specs.Words.{Show}
use Rattle.exo_cli.specs.Answer.{answer_of, IsAnswerOf}
use Rattle.exo_cli.specs.Replies.{plain}
use Rattle.exo_cli.specs.Work.{file_limit}
use Rattle.exo_cli.proofs.Endings.{second-ends, both-read, is_verdict, answered}
use Rattle.compile_stages.proofs.Running.{if-ok}
use Rattle.exo_cli.proofs.work.show_version.Goals as goal

pub returns-in-Err-2 : goal.returns-in-Err-2
returns-in-Err-2 g c =
    let procs = c.args.procs.now in
    let schedule = c.args.schedule.now in
    let first = rw c.in-Ok.is at c.in_ok-text.ensures.read in
    let second = rw c.in-Err-2.is at c.in_ok-text-2.ensures.read in
    let ends = rw c.in_ok-text.ensures.same at second in
    let answers = second-ends (Show procs schedule c.args.name.now) procs schedule
    (λ unit lines. IsAnswerOf procs schedule (Displays unit lines c.args.name.now)) (λ files a h. h) refl
    (g.F.Files.told c.args.files.now) c.in-Ok.text.items
    (g.F.Files.faults c.args.files.now) (g.F.Files.faults c.read_text.new.files) _ _ _ first.0 first.1
    c.in_ok-text.ensures.count ends in
    record {
      answer = answers;
      same = c.in_ok-text-2.ensures.same ∙ c.in_ok-text.ensures.same;
      count = omega (arith, c.in_ok-text.ensures.count, c.in_ok-text-2.ensures.count);
    }

pub returns : goal.returns
returns g c =
    let procs = c.args.procs.now in
    let schedule = c.args.schedule.now in
    let told = g.F.Files.told c.args.files.now in
    let first = rw c.in-Ok.is at c.in_ok-text.ensures.read in
    let read = rw c.in-Ok-2.is at c.in_ok-text-2.ensures.read in
    let second = rw c.in_ok-text.ensures.same at read in
    let unit = subst (λ (l : List ℕ). HasBytes told procs l × (length l ≤ file_limit)) (sym c.deref.ensures.value) first in
    let lines = subst (λ (l : List ℕ). HasBytes told schedule l × (length l ≤ file_limit)) (sym c.deref-2.ensures.value) second in
    let answers = if-ok c.replied.result _ _ (λ reply is.
    let end = answered _ (Displays c.deref.result.now c.deref-2.result.now c.args.name.now) (answer_of procs schedule) (plain reply)
    c.displayed.ensures is in
    both-read (Show procs schedule c.args.name.now) procs schedule
    (λ unit lines. IsAnswerOf procs schedule (Displays unit lines c.args.name.now)) (λ files a h. h) refl
    told c.deref.result.now c.deref-2.result.now _ _ _ (plain reply)
    unit.0 unit.1 lines.0 lines.1 (is_verdict procs schedule end.0 (plain reply) end.2) end)
    c.replied.ensures in
    record {
      answer = answers;
      same = c.in_ok-text-2.ensures.same ∙ c.in_ok-text.ensures.same;
      count = omega (arith, c.in_ok-text.ensures.count, c.in_ok-text-2.ensures.count);
    }
