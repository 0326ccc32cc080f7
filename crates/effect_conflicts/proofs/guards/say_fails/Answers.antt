use Rattle.std.proofs.Common.{◌&&◌, true, [], ◌∷◌, ◌++◌, sym, ap, ◌∙◌}
use Rattle.exo_tree.specs.PlainControl.{condition}
use Rattle.affine_forms.specs.Formulas.{negation}
use Rattle.exo_effects.specs.Accesses.{plain_formula}
use Rattle.effect_conflicts.specs.PlainCopies.{renamed}
use Rattle.effect_conflicts.proofs.RenamedTerms.{re_negation}
use Rattle.effect_conflicts.proofs.guards.say_fails.Goals as goal

pub returns : goal.returns
returns c =
    let said = c.in_ok-negated.ensures ∙ ap negation c.in_ok-says.ensures.1 ∙ sym (re_negation (renamed c.args.twin.now) (plain_formula (condition c.args.c.now))) in
    (ap (λ s. s && true) c.in_ok-says.ensures.0, c.in_ok-push.ensures.pushed ∙ ap (λ f. c.args.into.now ++ f ∷ []) said)
