use Rattle.std.proofs.Common.{sym, ap, ◌∙◌, arith}
use Rattle.text_expressions.specs.Expression.{negative, parens}
use Rattle.text_expressions.specs.Views.{tree_of}
use Rattle.text_lexer.specs.declared.token.Literal.TheVariants.{Value}
use Rattle.rules_names.specs.Faults.{fault}
use Rattle.rules_names.specs.declared.error.TypeKind.TheVariants.{KindMismatch}
use Rattle.exo_modes.specs.Reads.{reads}
use Rattle.rules_names.specs.ExpressionRules.{is_divisor, unknown_first, control_faults, may_be_control}
use Rattle.rules_names.proofs.Seen.{seen_int, seen_negative, seen_parens, sides}
use Rattle.rules_names.proofs.Wide.{wide, wide_name, wide_field, wide_stride, wide_negative, wide_parens, wide_binary}
use Rattle.rules_names.proofs.Widths.{width_number}
use Rattle.rules_names.proofs.Told.{tells_as, varies_as, varies_parens, varies_wrong, told_negative, told_parens}
use Rattle.rules_names.proofs.Controls.{told_arithmetic}
use Rattle.rules_names.proofs.control.+test_control.Goals as goal

pub test_number-requires : goal.test_number-requires
test_number-requires t c = let w = wide_name _ _ c.in-Name.is in omega arith

pub test_field-requires : goal.test_field-requires
test_field-requires t c = let w = wide_field _ _ _ c.in-Field.is in omega arith

pub test_stride-requires : goal.test_stride-requires
test_stride-requires t c = let w = wide_stride _ _ _ c.in-Stride.is in omega arith

pub test_control-requires : goal.test_control-requires
test_control-requires t c =
    let w = wide_negative _ _ c.in-Negative.is in let v = ap wide c.deref.ensures in (omega arith, omega arith)

pub test_control-requires-in-Parens : goal.test_control-requires-in-Parens
test_control-requires-in-Parens t c =
    let w = wide_parens _ _ c.in-Parens.is in let v = ap wide c.deref-in-Parens.ensures in (omega arith, omega arith)

pub enclosed-requires : goal.enclosed-requires
enclosed-requires t c =
    let w = wide_parens _ _ c.in-Parens.is in let v = ap wide c.deref-in-Parens.ensures in let u = c.test_control-in-Parens.ensures.tells.end in omega arith

pub test_control-l-requires : goal.test_control-l-requires
test_control-l-requires t c =
    let w = wide_binary _ _ _ _ c.in-Binary.is in let v = ap wide c.deref-in-Binary.ensures in (omega arith, omega arith)

pub overflow_add-middle : goal.overflow_add-middle
overflow_add-middle t c =
    let w = wide_binary _ _ _ _ c.in-Binary.is in let v = ap wide c.deref-in-Binary.ensures in let u = c.test_control-l.ensures.tells.end in omega arith

pub test_control-r-requires : goal.test_control-r-requires
test_control-r-requires t c =
    let w = wide_binary _ _ _ _ c.in-Binary.is in let v = ap wide c.deref-in-Binary.ensures in let x = ap wide c.deref-in-Binary-2.ensures in let u = c.test_control-l.ensures.tells.end in (omega arith, omega arith)

pub returns-in-Int-clause-tells : goal.returns-in-Int-clause-tells
returns-in-Int-clause-tells t c =
    tells_as (control_faults c.args.names.now.fields.now (reads c.args.may) c.args.names.now.scope.now c.args.n) (may_be_control c.args.names.now.fields.now c.args.names.now.scope.now) _ _ _ _ (ap tree_of c.in-Int.is ∙ seen_int _)
    (record { charge = c.fitting.ensures.charge ∙ c.none.ensures; end = let e = c.fitting.ensures.end in let w = width_number (Value c.in-Int.field-0) in omega arith; form = c.fitting.ensures.form })

pub returns-in-Negative-clause-tells : goal.returns-in-Negative-clause-tells
returns-in-Negative-clause-tells t c =
    tells_as (control_faults c.args.names.now.fields.now (reads c.args.may) c.args.names.now.scope.now c.args.n) (may_be_control c.args.names.now.fields.now c.args.names.now.scope.now) _ _ _ _
    (ap tree_of c.in-Negative.is ∙ seen_negative _ ∙ ap (λ e. negative (tree_of e)) (sym c.deref.ensures))
    (told_negative _ _ _ _ _ _ c.negated.ensures.charge c.negated.ensures.end c.negated.ensures.form c.test_control.ensures.tells)

pub returns-in-Parens-clause-tells : goal.returns-in-Parens-clause-tells
returns-in-Parens-clause-tells t c =
    tells_as (control_faults c.args.names.now.fields.now (reads c.args.may) c.args.names.now.scope.now c.args.n) (may_be_control c.args.names.now.fields.now c.args.names.now.scope.now) _ _ _ _
    (ap tree_of c.in-Parens.is ∙ seen_parens _ ∙ ap (λ e. parens (tree_of e)) (sym c.deref-in-Parens.ensures))
    (told_parens _ _ _ (fault KindMismatch c.args.n) _ _ _ c.enclosed.ensures.charge c.enclosed.ensures.end c.enclosed.ensures.form c.test_control-in-Parens.ensures.tells)

-- two sides: the tree, and what is told of them together
pub returns-in-Binary-clause-tells : goal.returns-in-Binary-clause-tells
returns-in-Binary-clause-tells t c =
    let l = c.test_control-l.ensures.tells in
    let r = c.test_control-r.ensures.tells in
    let d = c.is_divisor.ensures ∙ ap (λ e. is_divisor (tree_of e)) (c.deref-in-Binary-3.ensures ∙ sym c.deref-in-Binary-2.ensures) in
    let j = c.joined.ensures.joined _ _ (tree_of c.deref-in-Binary.result.now) (tree_of c.deref-in-Binary-2.result.now) l.charge r.charge c.test_control-l.ensures.variables c.test_control-r.ensures.variables d in
    tells_as (control_faults c.args.names.now.fields.now (reads c.args.may) c.args.names.now.scope.now c.args.n) (may_be_control c.args.names.now.fields.now c.args.names.now.scope.now) _ _ _ _
    (sides _ _ _ _ _ _ c.in-Binary.is c.deref-in-Binary.ensures c.deref-in-Binary-2.ensures)
    (told_arithmetic _ _ _ _ c.test_control-l.result c.test_control-r.result _ _ _ c.in-Binary.operator _ _ (sym c.is_arithmetic.ensures ∙ c.if-is_arithmetic.true) j.charge c.joined.ensures.end c.joined.ensures.form l r)

pub returns-in-Binary-clause-variables : goal.returns-in-Binary-clause-variables
returns-in-Binary-clause-variables t c =
    let l = c.test_control-l.ensures.tells in
    let r = c.test_control-r.ensures.tells in
    let d = c.is_divisor.ensures ∙ ap (λ e. is_divisor (tree_of e)) (c.deref-in-Binary-3.ensures ∙ sym c.deref-in-Binary-2.ensures) in
    let j = c.joined.ensures.joined _ _ (tree_of c.deref-in-Binary.result.now) (tree_of c.deref-in-Binary-2.result.now) l.charge r.charge c.test_control-l.ensures.variables c.test_control-r.ensures.variables d in
    varies_as _ _ _ (sides _ _ _ _ _ _ c.in-Binary.is c.deref-in-Binary.ensures c.deref-in-Binary-2.ensures) (record { told = j.told })

pub returns-in-Parens-clause-variables : goal.returns-in-Parens-clause-variables
returns-in-Parens-clause-variables t c =
    varies_as _ _ _ (ap tree_of c.in-Parens.is ∙ seen_parens _ ∙ ap (λ e. parens (tree_of e)) (sym c.deref-in-Parens.ensures))
    (varies_parens _ c.test_control-in-Parens.result c.args.n _ c.enclosed.ensures.charge c.enclosed.ensures.variables c.test_control-in-Parens.ensures.variables)

pub returns-in_default-clause-variables : goal.returns-in_default-clause-variables
returns-in_default-clause-variables t c =
    varies_wrong c.test_wrong_form.result (unknown_first c.args.names.now.fields.now c.args.names.now.scope.now c.args.n (tree_of c.args.e.now)) c.args.n (tree_of c.args.e.now) c.test_wrong_form.ensures.charge
