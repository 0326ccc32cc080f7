use Rattle.std.proofs.Common.{◌≡◌, ◌∙◌, List, ℕ, IfSome, string_bytes, subst}
use Rattle.compile_stages.specs.Samples.Texts.{unit_text, schedule_text}
use Rattle.compile_stages.specs.Stages.{Leads, Schedules, summed}
use Rattle.compile_stages.specs.Stopping.{stage}
use Rattle.compile_stages.proofs.generate.generated.Goals as goal

pub returns : goal.returns
returns g c =
    let n = c.args.n in
    let unit : c.as_bytes.result.now ≡ unit_text n = c.as_bytes.ensures.value ∙ c.in_ok-unit.ensures.is in
    let schedule : c.as_bytes-2.result.now ≡ schedule_text n = c.as_bytes-2.ensures.value ∙ c.in_ok-schedule.ensures.is in
    subst (λ (l : List ℕ). IfSome (stage string_bytes c.summed_texts.result)
    (Leads (Schedules (unit_text n) l) (λ v end. end ≡ summed n v))) schedule
    (subst (λ (u : List ℕ). IfSome (stage string_bytes c.summed_texts.result)
    (Leads (Schedules u c.as_bytes-2.result.now) (λ v end. end ≡ summed n v))) unit c.summed_texts.ensures)
