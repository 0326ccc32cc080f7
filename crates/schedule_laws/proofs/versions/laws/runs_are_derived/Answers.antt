use Rattle.meaning_laws.proofs.Grown.{grown_law, grown_refines}
use Rattle.meaning_laws.proofs.WellFormed.{calls_are_below}
use Rattle.schedule_laws.proofs.OfVersions.Runs.{run_is_derived}
use Rattle.schedule_laws.proofs.versions.laws.runs_are_derived.Goals as goal

pub returns : goal.returns
returns c =
    run_is_derived
    (record {
      quiet = record {
        may_run = c.procedures_may_run.ensures;
        below = calls_are_below;
        grown = grown_law;
        formed = c.claims_are_formed.ensures;
        suffice = c.claims_suffice_here.ensures;
        shown = c.shown_conditions_hold.ensures;
        pairs = c.pairs_are_apart.ensures;
      };
      points = c.shown_systems_have_no_point.ensures;
      kept = c.proposals_are_kept.ensures;
      meaning = c.lawful_rules_keep_meaning.ensures;
      refines = grown_refines;
      descend = c.descendants_refine.ensures;
    })
