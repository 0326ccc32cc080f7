use Rattle.std.proofs.Common.{ap}
use Rattle.exo_tree.specs.PlainControl.{condition}
use Rattle.meaning_laws.specs.Facts.{Fails}
use Rattle.affine_forms.specs.Formulas.{negation}
use Rattle.affine_forms.specs.PlainFormulas.{plain_formula}
use Rattle.check_facts.specs.Tables.{known_in}
use Rattle.check_facts.proofs.Adding.{refused_one, added_one, left_early}
use Rattle.check_facts.proofs.enter.add_fails.Goals as goal

pub returns-in_err-f : goal.returns-in_err-f
returns-in_err-f c = λ first h. left_early _ _ c.args.basis.now _ _ _ c.from_residual.ensures.1 (refused_one c.args.basis.now (known_in c.args.known.now) first (Fails (condition c.args.c.now)) _ h c.in_err-f.ensures)

pub returns : goal.returns
returns c = λ first h. added_one c.args.basis.now (known_in c.args.known.now) first (Fails (condition c.args.c.now)) _ _ (negation (plain_formula c.in_ok-f.f)) h c.in_ok-f.ensures.0 (ap negation c.in_ok-f.ensures.1) c.in_ok-push_denied.ensures
