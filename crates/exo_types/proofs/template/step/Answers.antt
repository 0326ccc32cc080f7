use Rattle.std.proofs.Common.{drop, ap, subst, ◌∙◌}
use Rattle.exo_meaning.specs.Units.{holes_fit}
use Rattle.exo_types.specs.HoleRules.{IsBegun, reading_at}
use Rattle.exo_types.proofs.Holes.{in_hole}
use Rattle.exo_types.proofs.template.step.Goals as goal

pub returns-then-byte-ne125-clause-fits : goal.returns-then-byte-ne125-clause-fits
returns-then-byte-ne125-clause-fits c = λ ps h.
    let text = c.args.template.now in
    ap (λ r. holes_fit ps (reading_at text c.args.k r) (drop c.args.k text)) c.in-InHole.is
    ∙ in_hole ps text c.in-InHole.from c.args.k (subst (IsBegun c.args.k) c.in-InHole.is c.requires.begun) c.requires.inside c.if-byte-ne125.true
