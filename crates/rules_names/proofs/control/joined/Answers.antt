use Rattle.std.proofs.Common.{ap, ◌∙◌, ◌++◌, ◌||◌}
use Rattle.rules_names.specs.Faults.{charged}
use Rattle.rules_names.specs.ExpressionRules.{has_variables, affine_faults}
use Rattle.rules_names.proofs.Told.{joined_charge, joined_varies, shows_parts}
use Rattle.rules_names.proofs.control.joined.Goals as goal

pub returns-clause-joined : goal.returns-clause-joined
returns-clause-joined c = λ a b l r p q x y d.
    let parts = c.and-parts.ensures a b p q in
    let vary = ap (λ v. affine_faults c.args.operator c.args.n c.args.middle v c.args.divides) c.all_of-vary.ensures in
    let whole = c.affine_charge-whole.ensures ∙ ap charged vary in
    let made = c.fitting.ensures.charge ∙ c.then_whole.ensures (a ++ b) _ parts whole ∙ ap charged (joined_charge c.args.left c.args.right a b l r c.args.operator c.args.n c.args.middle c.args.divides p q x y d) in
    record {
      charge = made;
      told = λ h.
          let v = joined_varies c.args.left c.args.right a b l r p q x y (shows_parts _ (a ++ b) _ made h) in
          c.fitting.ensures.variables ∙ c.any_of-variables.ensures ∙ ap (λ t. t || c.args.right.variables) v.0 ∙ ap (λ t. has_variables l || t) v.1;
    }
