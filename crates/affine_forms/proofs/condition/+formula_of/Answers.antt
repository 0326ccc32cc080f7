use Rattle.std.proofs.Common.{◌≡◌, ◌∙◌, ◌&&◌, true, sym, ap, ap₂, subst}
use Rattle.exo_tree.specs.Tree.{And, Or}
use Rattle.exo_tree.specs.PlainControl.{condition}
use Rattle.affine_forms.specs.Formulas as plain
use Rattle.affine_forms.specs.Formulas.{formula, is_writable_condition}
use Rattle.affine_forms.specs.PlainFormulas.{plain_formula}
use Rattle.affine_forms.proofs.condition.+formula_of.Goals as goal

pub returns-in_ok-both-in-And : goal.returns-in_ok-both-in-And
returns-in_ok-both-in-And g t c =
    let at = g.R.Reader.reading c.args.reader.now in
    let fits = g.R.FlagReader.flag_fits c.args.reader.now in
    let flags = g.R.FlagReader.flags c.args.reader.now in
    let same : And (condition c.deref.result.now) (condition c.deref-in-And.result.now) ≡ condition c.args.c.now =
    ap₂ (λ x y. And (condition x) (condition y)) c.deref.ensures c.deref-in-And.ensures ∙ sym (ap condition c.in-And.is) in
    subst
    (λ e. (is_writable_condition at fits e ≡ true) × (plain_formula c.in_ok-both-in-And.field-0 ≡ formula at flags e))
    same (
      ap₂ (λ p q. p && q) c.in_ok-left-in-And.ensures.0 c.in_ok-right-in-And.ensures.0,
      c.in_ok-both-in-And.ensures ∙ ap₂ plain.Both c.in_ok-left-in-And.ensures.1 c.in_ok-right-in-And.ensures.1,
    )

pub returns-in_ok-either-in-Or : goal.returns-in_ok-either-in-Or
returns-in_ok-either-in-Or g t c =
    let at = g.R.Reader.reading c.args.reader.now in
    let fits = g.R.FlagReader.flag_fits c.args.reader.now in
    let flags = g.R.FlagReader.flags c.args.reader.now in
    let same : Or (condition c.deref-in-Or.result.now) (condition c.deref-in-Or-2.result.now) ≡ condition c.args.c.now =
    ap₂ (λ x y. Or (condition x) (condition y)) c.deref-in-Or.ensures c.deref-in-Or-2.ensures ∙ sym (ap condition c.in-Or.is) in
    subst
    (λ e. (is_writable_condition at fits e ≡ true) × (plain_formula c.in_ok-either-in-Or.field-0 ≡ formula at flags e))
    same (
      ap₂ (λ p q. p && q) c.in_ok-left-in-Or.ensures.0 c.in_ok-right-in-Or.ensures.0,
      c.in_ok-either-in-Or.ensures ∙ ap₂ plain.Either c.in_ok-left-in-Or.ensures.1 c.in_ok-right-in-Or.ensures.1,
    )
