use Rattle.std.proofs.Common.{sym, ap, ◌∙◌, arith}
use Rattle.exo_meaning.specs.Units.{is_number}
use Rattle.rules_names.specs.Faults.{charged}
use Rattle.rules_names.specs.Names.{named_in, sort_of}
use Rattle.rules_names.specs.ExpressionRules.{name_faults, suits}
use Rattle.rules_names.proofs.Widths.{width_variable}
use Rattle.rules_names.proofs.control.test_number.Goals as goal

pub returns-clause-tells : goal.returns-clause-tells
returns-clause-tells c =
    let same = c.sort-sort.ensures ∙ ap (λ y. sort_of (named_in c.args.names.now.scope.now y)) c.as_str.ensures in
    record {
      charge = c.named.ensures.charge ∙ c.name_charge.ensures is_number (sym c.is_number-fits.ensures) ∙ ap (λ s. charged (name_faults is_number s c.args.n)) same;
      end = let e = c.named.ensures.end in let w = width_variable c.args.x.now in omega arith;
      form = c.named.ensures.form ∙ c.suits.ensures is_number (sym c.is_number-fits.ensures) ∙ ap (suits is_number) same;
    }
