use Rattle.std.proofs.Common.{ap, sym, ◌∙◌}
use Rattle.std.specs.Prelude.{option_map}
use Rattle.exo_tree.specs.PlainPlace.{branch_taken}
use Rattle.schedule_calls.specs.Readings.{eliminate_dead_code}
use Rattle.schedule_calls.proofs.Changes.{no_branch}
use Rattle.schedule_calls.proofs.change.eliminate_of.Goals as goal

pub returns-in-Some : goal.returns-in-Some
returns-in-Some c =
    eliminate_dead_code _ _
    (sym c.in_ok-keep.ensures ∙ ap (option_map (option_map branch_taken)) c.in-Some.is)

pub returns-in-None : goal.returns-in-None
returns-in-None c =
    no_branch _ (sym c.in_ok-keep.ensures ∙ ap (option_map (option_map branch_taken)) c.in-None.is)
