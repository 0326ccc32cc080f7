use Rattle.std.proofs.Common.{◌∙◌}
use Rattle.schedule_text.specs.Grammar.{schedule}
use Rattle.exo_reader.proofs.Units.{refusal_in}
use Rattle.schedule_text.proofs.Schedules.{schedule_few}
use Rattle.schedule_text.proofs.text.read_schedule.Goals as goal

pub returns : goal.returns
returns c = refusal_in schedule _ _ _ _ _ _ _ (c.as_slice.ensures.value ∙ c.in-Ok.ensures.tokens) (c.as_slice-in-Err.ensures.value ∙ c.in-Ok.ensures.tokens) (c.as_slice-in-Err-2.ensures.value ∙ c.in-Ok.ensures.places) c.in-Err.ensures.lines c.error_of.ensures

pub invariant_of-result : goal.invariant_of-result
invariant_of-result c = record { few = schedule_few _ _ c.in-Ok-read_lines.ensures.lines }
