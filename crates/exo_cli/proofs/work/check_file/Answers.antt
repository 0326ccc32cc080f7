use Rattle.std.proofs.Common.{ℕ, ◌≤◌, List, [], length, sym, subst}
use Rattle.exo_cli.specs.Outside.Outside.{HasBytes}
use Rattle.compile_stages.specs.Stages.{Checks}
use Rattle.exo_cli.specs.Answer.{answer_of}
use Rattle.exo_cli.specs.Replies.{plain}
use Rattle.exo_cli.specs.Work.{file_limit}
use Rattle.exo_cli.proofs.Endings.{checked-answers, answered}
use Rattle.compile_stages.proofs.Running.{if-ok}
use Rattle.exo_cli.proofs.work.check_file.Goals as goal

pub returns : goal.returns
returns g c =
    let told = g.F.Files.told c.args.files.now in
    let first = rw c.in-Ok.is at c.in_ok-bytes.ensures.read in
    let text = subst (λ (l : List ℕ). HasBytes told c.args.procs.now l × (length l ≤ file_limit)) (sym c.deref.ensures.value) first in
    let answers = if-ok c.replied.result _ _ (λ reply is.
    checked-answers told c.args.procs.now c.deref.result.now _ _ _ (plain reply) text.0 text.1
    (answered _ (Checks c.deref.result.now) (answer_of c.args.procs.now []) (plain reply) c.checked.ensures is))
    c.replied.ensures in
    record {
      answer = answers;
      same = c.in_ok-bytes.ensures.same;
      count = c.in_ok-bytes.ensures.count;
    }
