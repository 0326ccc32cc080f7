use Rattle.std.proofs.Common.{◌≡◌, ◌∙◌, negsuc, sym, ap, ap₂, subst}
use Rattle.exo_tree.specs.Tree.{Add, Sub, Mul, Neg}
use Rattle.exo_tree.specs.PlainControl.{control}
use Rattle.exo_meaning.specs.Units.{is_of_literals}
use Rattle.affine_forms.specs.Atoms.{added, scaled, subtracted}
use Rattle.affine_forms.specs.Forms.{is_short_form, form, is_writable, times}
use Rattle.affine_forms.specs.Outcomes.{Formed}
use Rattle.affine_forms.proofs.FormedParts.{formed_of_two, formed_of_one}
use Rattle.affine_forms.proofs.reader.+form.Goals as goal

pub returns-in_ok-right-in-Add : goal.returns-in_ok-right-in-Add
returns-in_ok-right-in-Add g t c =
    let at = g.R.Reader.reading c.args.reader.now in
    let a = control c.deref-in-Add.result.now in
    let b = control c.deref-in-Add-2.result.now in
    let same : Add a b ≡ control c.args.e.now =
    ap₂ (λ x y. Add (control x) (control y)) c.deref-in-Add.ensures c.deref-in-Add-2.ensures ∙ sym (ap control c.in-Add.is) in
    subst (λ e. Formed c.plus.result (is_writable at e) (form at e)) same
    (formed_of_two added at a b c.in_ok-left-in-Add.left c.in_ok-right-in-Add.right c.plus.result
    c.in_ok-left-in-Add.ensures c.in_ok-right-in-Add.ensures c.plus.ensures)

pub returns-in_ok-right-in-Sub : goal.returns-in_ok-right-in-Sub
returns-in_ok-right-in-Sub g t c =
    let at = g.R.Reader.reading c.args.reader.now in
    let a = control c.deref-in-Sub.result.now in
    let b = control c.deref-in-Sub-2.result.now in
    let same : Sub a b ≡ control c.args.e.now =
    ap₂ (λ x y. Sub (control x) (control y)) c.deref-in-Sub.ensures c.deref-in-Sub-2.ensures ∙ sym (ap control c.in-Sub.is) in
    subst (λ e. Formed c.minus.result (is_writable at e) (form at e)) same
    (formed_of_two subtracted at a b c.in_ok-left-in-Sub.left c.in_ok-right-in-Sub.right c.minus.result
    c.in_ok-left-in-Sub.ensures c.in_ok-right-in-Sub.ensures c.minus.ensures)

pub returns-in_ok-right-in-Mul : goal.returns-in_ok-right-in-Mul
returns-in_ok-right-in-Mul g t c =
    let at = g.R.Reader.reading c.args.reader.now in
    let a = control c.deref-in-Mul.result.now in
    let b = control c.deref-in-Mul-2.result.now in
    let left = c.in_ok-left-in-Mul.left in
    let right = c.in_ok-right-in-Mul.right in
    let r = c.times.result in
    let same : Mul a b ≡ control c.args.e.now =
    ap₂ (λ x y. Mul (control x) (control y)) c.deref-in-Mul.ensures c.deref-in-Mul-2.ensures ∙ sym (ap control c.in-Mul.is) in
    let literals : c.is_of_literals.result ≡ is_of_literals a =
    c.is_of_literals.ensures ∙ ap (λ x. is_of_literals (control x)) (c.deref-in-Mul-3.ensures ∙ sym c.deref-in-Mul.ensures) in
    let made = subst (λ t. Formed r (is_short_form (times t left right)) (times t left right)) literals c.times.ensures in
    subst (λ e. Formed r (is_writable at e) (form at e)) same
    (formed_of_two (times (is_of_literals a)) at a b left right r c.in_ok-left-in-Mul.ensures c.in_ok-right-in-Mul.ensures made)

pub returns-in_ok-l-in-Neg : goal.returns-in_ok-l-in-Neg
returns-in_ok-l-in-Neg g t c =
    let at = g.R.Reader.reading c.args.reader.now in
    let a = control c.deref.result.now in
    let same : Neg a ≡ control c.args.e.now = ap (λ x. Neg (control x)) c.deref.ensures ∙ sym (ap control c.in-Neg.is) in
    subst (λ e. Formed c.scaled.result (is_writable at e) (form at e)) same
    (formed_of_one (λ l. is_short_form (scaled (negsuc 0) l)) (scaled (negsuc 0)) at a c.in_ok-l-in-Neg.l c.scaled.result
    c.in_ok-l-in-Neg.ensures c.scaled.ensures)
