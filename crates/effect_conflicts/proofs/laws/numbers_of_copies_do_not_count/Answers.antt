use Rattle.std.proofs.Common.{◌∙◌, ◌-◌, ap, arith}
use Rattle.exo_effects.specs.Conflicts.{meeting}
use Rattle.affine_systems.specs.Systems.{systems_of, cases_stated}
use Rattle.effect_conflicts.proofs.MeetingNumbers.{systems_up, stated_up}
use Rattle.effect_conflicts.proofs.laws.numbers_of_copies_do_not_count.Goals as goal

pub returns : goal.returns
returns c = λ ctx order x y base further p q h k l. (
  systems_up base (further - base) ctx order x y p q h k ∙ ap (λ n. systems_of (meeting ctx order n x y)) (omega (arith, l)),
  stated_up base (further - base) ctx order x y p q h k ∙ ap (λ n. cases_stated (meeting ctx order n x y)) (omega (arith, l)),
)
