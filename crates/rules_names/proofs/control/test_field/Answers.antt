use Rattle.std.proofs.Common.{ap, ◌∙◌, arith}
use Rattle.rules_names.specs.Faults.{charged}
use Rattle.rules_names.specs.Names.{field_in}
use Rattle.rules_names.specs.ExpressionRules.{field_faults, field_suits}
use Rattle.rules_names.proofs.Widths.{width_field}
use Rattle.rules_names.proofs.control.test_field.Goals as goal

pub returns-clause-tells : goal.returns-clause-tells
returns-clause-tells c =
    let same = c.get-found.ensures ∙ ap (λ y. field_in c.args.names.now.fields.now y c.as_str-2.result.now) c.as_str.ensures ∙ ap (field_in c.args.names.now.fields.now c.args.c.now) c.as_str-2.ensures in
    record {
      charge = c.named.ensures.charge ∙ c.field_charge.ensures ∙ ap (λ f. charged (field_faults c.args.wants_truth c.args.may f c.args.n)) same;
      end = let e = c.named.ensures.end in let w = width_field c.args.c.now c.args.x.now in omega arith;
      form = c.named.ensures.form ∙ c.field_suits-suits.ensures ∙ ap (field_suits c.args.wants_truth) same;
    }
