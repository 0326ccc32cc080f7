use Rattle.std.proofs.Common.{◌≡◌, sym, ap, ◌∙◌, arith, false}
use Rattle.text_expressions.specs.Expression.{parens}
use Rattle.text_expressions.specs.Views.{tree_of}
use Rattle.rules_names.specs.Faults.{fault}
use Rattle.rules_names.specs.declared.error.TypeKind.TheVariants.{KindMismatch}
use Rattle.exo_modes.specs.Reads.{reads}
use Rattle.rules_names.specs.ExpressionRules.{is_arithmetic, joins_conditions, condition_faults, may_be_condition}
use Rattle.rules_names.proofs.Seen.{seen_truth, seen_parens, sides}
use Rattle.rules_names.proofs.Wide.{wide, wide_name, wide_field, wide_parens, wide_binary}
use Rattle.rules_names.proofs.Widths.{width_truth}
use Rattle.rules_names.proofs.Told.{tells_as, told_parens}
use Rattle.rules_names.proofs.Controls.{told_condition, told_comparison}
use Rattle.rules_names.proofs.control.+test_condition.Goals as goal

pub test_flag-requires : goal.test_flag-requires
test_flag-requires t c = let w = wide_name _ _ c.in-Name.is in omega arith

pub test_field-requires : goal.test_field-requires
test_field-requires t c = let w = wide_field _ _ _ c.in-Field.is in omega arith

pub test_condition-requires : goal.test_condition-requires
test_condition-requires t c =
    let w = wide_parens _ _ c.in-Parens.is in let v = ap wide c.deref.ensures in (omega arith, omega arith)

pub enclosed-requires : goal.enclosed-requires
enclosed-requires t c =
    let w = wide_parens _ _ c.in-Parens.is in let v = ap wide c.deref.ensures in let u = c.test_condition.ensures.end in omega arith

pub test_condition-l-requires : goal.test_condition-l-requires
test_condition-l-requires t c =
    let w = wide_binary _ _ _ _ c.in-Binary.is in let v = ap wide c.deref-in-Binary.ensures in (omega arith, omega arith)

pub overflow_add-l : goal.overflow_add-l
overflow_add-l t c =
    let w = wide_binary _ _ _ _ c.in-Binary.is in let v = ap wide c.deref-in-Binary.ensures in let u = c.test_condition-l.ensures.end in omega arith

pub test_condition-requires-in-Binary : goal.test_condition-requires-in-Binary
test_condition-requires-in-Binary t c =
    let w = wide_binary _ _ _ _ c.in-Binary.is in let v = ap wide c.deref-in-Binary.ensures in let x = ap wide c.deref-in-Binary-2.ensures in let u = c.test_condition-l.ensures.end in (omega arith, omega arith)

pub returns-in-Truth : goal.returns-in-Truth
returns-in-Truth t c =
    tells_as (condition_faults c.args.names.now.fields.now (reads c.args.may) c.args.names.now.scope.now c.args.n) (may_be_condition c.args.names.now.fields.now c.args.names.now.scope.now) _ _ _ _ (ap tree_of c.in-Truth.is ∙ seen_truth _)
    (record { charge = c.fitting.ensures.charge ∙ c.none.ensures; end = let e = c.fitting.ensures.end in let w = width_truth c.in-Truth.field-0 in omega arith; form = c.fitting.ensures.form })

pub returns-in-Parens : goal.returns-in-Parens
returns-in-Parens t c =
    tells_as (condition_faults c.args.names.now.fields.now (reads c.args.may) c.args.names.now.scope.now c.args.n) (may_be_condition c.args.names.now.fields.now c.args.names.now.scope.now) _ _ _ _
    (ap tree_of c.in-Parens.is ∙ seen_parens _ ∙ ap (λ e. parens (tree_of e)) (sym c.deref.ensures))
    (told_parens _ _ _ (fault KindMismatch c.args.n) _ _ _ c.enclosed.ensures.charge c.enclosed.ensures.end c.enclosed.ensures.form c.test_condition.ensures)

pub returns-in-Binary : goal.returns-in-Binary
returns-in-Binary t c =
    let l = c.test_condition-l.ensures in
    let r = c.test_condition-in-Binary.ensures in
    tells_as (condition_faults c.args.names.now.fields.now (reads c.args.may) c.args.names.now.scope.now c.args.n) (may_be_condition c.args.names.now.fields.now c.args.names.now.scope.now) _ _ _ _
    (sides _ _ _ _ _ _ c.in-Binary.is c.deref-in-Binary.ensures c.deref-in-Binary-2.ensures)
    (told_condition _ _ _ _ c.test_condition-l.result c.test_condition-in-Binary.result _ _ _ c.in-Binary.operator _ _ (sym c.joins_conditions.ensures ∙ c.if-joins_conditions.true) (c.both.ensures.charge _ _ l.charge r.charge) c.both.ensures.end c.both.ensures.form l r)

pub test_control-l-requires : goal.test_control-l-requires
test_control-l-requires t c =
    let w = wide_binary _ _ _ _ c.in-Binary-2.is in let v = ap wide c.deref-in-Binary-2-2.ensures in omega arith

pub overflow_add-l-in-Binary-2 : goal.overflow_add-l-in-Binary-2
overflow_add-l-in-Binary-2 t c =
    let w = wide_binary _ _ _ _ c.in-Binary-2.is in let v = ap wide c.deref-in-Binary-2-2.ensures in let u = c.test_control-l.ensures.tells.end in omega arith

pub test_control-requires : goal.test_control-requires
test_control-requires t c =
    let w = wide_binary _ _ _ _ c.in-Binary-2.is in let v = ap wide c.deref-in-Binary-2-2.ensures in let x = ap wide c.deref-in-Binary-2-3.ensures in let u = c.test_control-l.ensures.tells.end in omega arith

pub returns-in-Binary-2 : goal.returns-in-Binary-2
returns-in-Binary-2 t c =
    let l = c.test_control-l.ensures.tells in
    let r = c.test_control.ensures.tells in
    let joins : joins_conditions c.in-Binary-2.operator ≡ false = cc (c.in-Binary-2.operator-is, c.joins_conditions.ensures, c.if-joins_conditions.false) in
    let sums : is_arithmetic c.in-Binary-2.operator ≡ false = sym c.is_arithmetic.ensures ∙ c.if-not-is_arithmetic.true in
    tells_as (condition_faults c.args.names.now.fields.now (reads c.args.may) c.args.names.now.scope.now c.args.n) (may_be_condition c.args.names.now.fields.now c.args.names.now.scope.now) _ _ _ _
    (sides _ _ _ _ _ _ c.in-Binary-2.is c.deref-in-Binary-2-2.ensures c.deref-in-Binary-2-3.ensures)
    (told_comparison _ _ _ _ c.test_control-l.result c.test_control.result _ _ _ c.in-Binary-2.operator _ _ joins sums (c.both-in-Binary-2.ensures.charge _ _ l.charge r.charge) c.both-in-Binary-2.ensures.end c.both-in-Binary-2.ensures.form l r)
