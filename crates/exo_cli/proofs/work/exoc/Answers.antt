use Rattle.exo_cli.specs.Replies.{plain}
use Rattle.exo_cli.proofs.Endings.{ends}
use Rattle.exo_cli.proofs.Headline.{StageLaws, ends_promised}
use Rattle.exo_cli.proofs.work.exoc.Goals as goal

pub returns-in-Ok : goal.returns-in-Ok
returns-in-Ok g c =
    let all = ends _ _ _ (plain c.in-Ok.reply) c.deliver.result
    (record {
      told = c.in-Ok.ensures.same;
      faults = c.in-Ok.ensures.count;
      out_faults = c.deliver.ensures.out_count;
      err_faults = c.deliver.ensures.err_count;
    })
    c.in-Ok.ensures.answer
    (record { ended = c.deliver.ensures.status; out = c.deliver.ensures.out; err = c.deliver.ensures.err; fault = c.deliver.ensures.fault }) in
    let laws : StageLaws = record {
      compiled = c.compiled_is_promised.ensures;
      displayed = c.displayed_is_promised.ensures;
      generated = c.generated_is_promised.ensures;
      checked = c.checked_is_counted.ensures;
    } in
    record { ends = all; promise = λ ok. ends_promised laws _ _ _ _ all ok }
