use Rattle.std.proofs.Common.{◌∙◌, ap, sym, Some}
use Rattle.exo_cli.specs.Asked.{plain}
use Rattle.exo_cli.specs.Words.{texts}
use Rattle.exo_cli.proofs.Replying.{generated_reply}
use Rattle.exo_cli.proofs.work.reply_to.Goals as goal

pub returns-in-Some-Gen-clause-answer : goal.returns-in-Some-Gen-clause-answer
returns-in-Some-Gen-clause-answer g c =
    generated_reply (texts c.args.words.now) c.in-Some-Gen.n (g.F.Files.told c.args.files.now) _ _ _
    c.generate.result (sym c.in-Some-Gen.ensures ∙ ap (λ a. Some (plain a)) c.in-Some-Gen.field-0-is)
    c.generate.ensures
