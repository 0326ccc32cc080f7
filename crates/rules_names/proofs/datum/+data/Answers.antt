use Rattle.std.proofs.Common.{sym, ap, ◌∙◌, arith, map}
use Rattle.text_lexer.specs.declared.token.Literal.TheVariants.{Value}
use Rattle.text_expressions.specs.Expression.{access, relu, negative, parens, trees}
use Rattle.text_expressions.specs.Views.{tree_of}
use Rattle.rules_names.specs.Faults.{fault}
use Rattle.rules_names.specs.declared.error.TypeKind.TheVariants.{KindMismatch}
use Rattle.rules_names.specs.ExpressionRules.{width, closed_width, read_faults, data_faults, may_be_data}
use Rattle.rules_names.proofs.Seen.{seen_int, seen_name, seen_access, seen_relu, seen_negative, seen_parens, sides, choices}
use Rattle.rules_names.proofs.Wide.{wide, wide_name, wide_access, wide_relu, wide_negative, wide_parens, wide_binary}
use Rattle.rules_names.proofs.Widths.{width_number, width_variable, width_select}
use Rattle.rules_names.proofs.Told.{tells_as, told_access, told_relu, told_select, told_negative, told_parens}
use Rattle.rules_names.proofs.Controls.{told_sum}
use Rattle.rules_names.proofs.datum.+data.Goals as goal

pub test_select-test_data-first-requires : goal.test_select-test_data-first-requires
test_select-test_data-first-requires t c =
    let w = width_select (tree_of c.args.a.now) (tree_of c.args.b.now) (tree_of c.args.c.now) (tree_of c.args.d.now) in (omega arith, omega arith)

pub test_select-test_data-second-requires : goal.test_select-test_data-second-requires
test_select-test_data-second-requires t c =
    let w = width_select (tree_of c.args.a.now) (tree_of c.args.b.now) (tree_of c.args.c.now) (tree_of c.args.d.now) in let x1 = c.test_data-first.ensures.end in (omega arith, omega arith)

pub test_select-test_data-third-requires : goal.test_select-test_data-third-requires
test_select-test_data-third-requires t c =
    let w = width_select (tree_of c.args.a.now) (tree_of c.args.b.now) (tree_of c.args.c.now) (tree_of c.args.d.now) in let x1 = c.test_data-first.ensures.end in let x2 = c.test_data-second.ensures.end in (omega arith, omega arith)

pub test_select-test_data-fourth-requires : goal.test_select-test_data-fourth-requires
test_select-test_data-fourth-requires t c =
    let w = width_select (tree_of c.args.a.now) (tree_of c.args.b.now) (tree_of c.args.c.now) (tree_of c.args.d.now) in let x1 = c.test_data-first.ensures.end in let x2 = c.test_data-second.ensures.end in let x3 = c.test_data-third.ensures.end in (omega arith, omega arith)

pub test_select-returns : goal.test_select-returns
test_select-returns t c =
    let p = c.test_data-first.ensures in
    let q = c.test_data-second.ensures in
    let r = c.test_data-third.ensures in
    let s = c.test_data-fourth.ensures in
    let last = c.and-last.ensures _ _ r.charge s.charge in
    let three = c.and.ensures _ _ q.charge last in
    told_select _ c.test_data-first.result c.test_data-second.result c.test_data-third.result c.test_data-fourth.result (data_faults c.args.names.now.fields.now c.args.names.now.scope.now) _ _ _ _ c.args.n _ _ _ _
    (c.value.ensures.charge ∙ c.and-2.ensures _ _ p.charge three) c.value.ensures.end c.value.ensures.form p q r s

pub test_data-test_cell-requires : goal.test_data-test_cell-requires
test_data-test_cell-requires t c =
    let w = wide_name _ _ c.in-Name.is in omega arith

pub test_data-test_access-requires : goal.test_data-test_access-requires
test_data-test_access-requires t c =
    let w = wide_access _ _ _ c.in-Access.is in let v = ap (λ l. closed_width (map tree_of l)) c.deref.ensures.value in omega arith

pub test_data-test_data-tested-requires : goal.test_data-test_data-tested-requires
test_data-test_data-tested-requires t c =
    let w = wide_relu _ _ c.in-Relu.is in let v = ap wide c.deref-in-Relu.ensures in (omega arith, omega arith)

pub test_data-test_select-requires : goal.test_data-test_select-requires
test_data-test_select-requires t c =
    let w = ap width (choices _ _ _ _ _ _ _ _ _ c.in-Select.is c.deref-in-Select.ensures c.deref-in-Select-2.ensures c.deref-in-Select-3.ensures c.deref-in-Select-4.ensures) in (omega arith, omega arith)

pub test_data-test_data-requires : goal.test_data-test_data-requires
test_data-test_data-requires t c =
    let w = wide_negative _ _ c.in-Negative.is in let v = ap wide c.deref-in-Negative.ensures in (omega arith, omega arith)

pub test_data-test_data-requires-in-Parens : goal.test_data-test_data-requires-in-Parens
test_data-test_data-requires-in-Parens t c =
    let w = wide_parens _ _ c.in-Parens.is in let v = ap wide c.deref-in-Parens.ensures in (omega arith, omega arith)

pub test_data-enclosed-requires : goal.test_data-enclosed-requires
test_data-enclosed-requires t c =
    let w = wide_parens _ _ c.in-Parens.is in let v = ap wide c.deref-in-Parens.ensures in let u = c.test_data-in-Parens.ensures.end in omega arith

pub test_data-test_data-l-requires : goal.test_data-test_data-l-requires
test_data-test_data-l-requires t c =
    let w = wide_binary _ _ _ _ c.in-Binary.is in let v = ap wide c.deref-in-Binary.ensures in (omega arith, omega arith)

pub test_data-test_data-r-requires : goal.test_data-test_data-r-requires
test_data-test_data-r-requires t c =
    let w = wide_binary _ _ _ _ c.in-Binary.is in let v = ap wide c.deref-in-Binary.ensures in let x = ap wide c.deref-in-Binary-2.ensures in let u = c.test_data-l.ensures.end in (omega arith, omega arith)

pub test_data-returns-in-Int : goal.test_data-returns-in-Int
test_data-returns-in-Int t c =
    tells_as (data_faults c.args.names.now.fields.now c.args.names.now.scope.now c.args.n) (may_be_data c.args.names.now.fields.now c.args.names.now.scope.now) _ _ _ _ (ap tree_of c.in-Int.is ∙ seen_int _)
    (record { charge = c.value.ensures.charge ∙ c.none.ensures; end = let e = c.value.ensures.end in let w = width_number (Value c.in-Int.field-0) in omega arith; form = c.value.ensures.form })

pub test_data-returns-in-Name : goal.test_data-returns-in-Name
test_data-returns-in-Name t c =
    tells_as (data_faults c.args.names.now.fields.now c.args.names.now.scope.now c.args.n) (may_be_data c.args.names.now.fields.now c.args.names.now.scope.now) _ _ _ _ (ap tree_of c.in-Name.is ∙ seen_name _)
    (record { charge = c.test_cell.ensures.charge; end = let e = c.test_cell.ensures.end in let w = width_variable c.in-Name.x in omega arith; form = c.test_cell.ensures.form })

pub test_data-returns-in-Access : goal.test_data-returns-in-Access
test_data-returns-in-Access t c =
    tells_as (data_faults c.args.names.now.fields.now c.args.names.now.scope.now c.args.n) (may_be_data c.args.names.now.fields.now c.args.names.now.scope.now) _ _ _ _ (ap tree_of c.in-Access.is ∙ seen_access _ _ ∙ ap (λ l. access c.in-Access.x (trees (map tree_of l))) (sym c.deref.ensures.value))
    (told_access _ (read_faults c.args.names.now.fields.now c.args.names.now.scope.now c.args.n c.in-Access.x) c.args.n c.in-Access.x _ c.test_access.ensures.charge c.test_access.ensures.end c.test_access.ensures.form)

pub test_data-returns-in-Relu : goal.test_data-returns-in-Relu
test_data-returns-in-Relu t c =
    tells_as (data_faults c.args.names.now.fields.now c.args.names.now.scope.now c.args.n) (may_be_data c.args.names.now.fields.now c.args.names.now.scope.now) _ _ _ _ (ap tree_of c.in-Relu.is ∙ seen_relu _ ∙ ap (λ e. relu (tree_of e)) (sym c.deref-in-Relu.ensures))
    (told_relu _ c.test_data-tested.result _ _ _ _ c.value-in-Relu.ensures.charge c.value-in-Relu.ensures.end c.value-in-Relu.ensures.form c.test_data-tested.ensures)

pub test_data-returns-in-Select : goal.test_data-returns-in-Select
test_data-returns-in-Select t c =
    tells_as (data_faults c.args.names.now.fields.now c.args.names.now.scope.now c.args.n) (may_be_data c.args.names.now.fields.now c.args.names.now.scope.now) _ _ _ _ (choices _ _ _ _ _ _ _ _ _ c.in-Select.is c.deref-in-Select.ensures c.deref-in-Select-2.ensures c.deref-in-Select-3.ensures c.deref-in-Select-4.ensures) c.test_select.ensures

pub test_data-returns-in-Negative : goal.test_data-returns-in-Negative
test_data-returns-in-Negative t c =
    tells_as (data_faults c.args.names.now.fields.now c.args.names.now.scope.now c.args.n) (may_be_data c.args.names.now.fields.now c.args.names.now.scope.now) _ _ _ _ (ap tree_of c.in-Negative.is ∙ seen_negative _ ∙ ap (λ e. negative (tree_of e)) (sym c.deref-in-Negative.ensures))
    (told_negative _ _ _ _ _ _ c.negated.ensures.charge c.negated.ensures.end c.negated.ensures.form c.test_data.ensures)

pub test_data-returns-in-Parens : goal.test_data-returns-in-Parens
test_data-returns-in-Parens t c =
    tells_as (data_faults c.args.names.now.fields.now c.args.names.now.scope.now c.args.n) (may_be_data c.args.names.now.fields.now c.args.names.now.scope.now) _ _ _ _ (ap tree_of c.in-Parens.is ∙ seen_parens _ ∙ ap (λ e. parens (tree_of e)) (sym c.deref-in-Parens.ensures))
    (told_parens _ _ _ (fault KindMismatch c.args.n) _ _ _ c.enclosed.ensures.charge c.enclosed.ensures.end c.enclosed.ensures.form c.test_data-in-Parens.ensures)

pub test_data-returns-in-Binary : goal.test_data-returns-in-Binary
test_data-returns-in-Binary t c =
    tells_as (data_faults c.args.names.now.fields.now c.args.names.now.scope.now c.args.n) (may_be_data c.args.names.now.fields.now c.args.names.now.scope.now) _ _ _ _ (sides _ _ _ _ _ _ c.in-Binary.is c.deref-in-Binary.ensures c.deref-in-Binary-2.ensures)
    (told_sum _ _ _ c.test_data-l.result c.test_data-r.result _ _ _ c.in-Binary.operator _ _ (sym c.is_data_operator.ensures ∙ c.if-is_data_operator.true) (c.value-in-Binary.ensures.charge ∙ c.and.ensures _ _ c.test_data-l.ensures.charge c.test_data-r.ensures.charge) c.value-in-Binary.ensures.end c.value-in-Binary.ensures.form c.test_data-l.ensures c.test_data-r.ensures)

pub test_select-overflow_add-first : goal.test_select-overflow_add-first
test_select-overflow_add-first t c =
    let w = width_select (tree_of c.args.a.now) (tree_of c.args.b.now) (tree_of c.args.c.now) (tree_of c.args.d.now) in let x0 = c.test_data-first.ensures.end in omega arith

pub test_select-overflow_add-second : goal.test_select-overflow_add-second
test_select-overflow_add-second t c =
    let w = width_select (tree_of c.args.a.now) (tree_of c.args.b.now) (tree_of c.args.c.now) (tree_of c.args.d.now) in let x0 = c.test_data-first.ensures.end in let x1 = c.test_data-second.ensures.end in omega arith

pub test_select-overflow_add-third : goal.test_select-overflow_add-third
test_select-overflow_add-third t c =
    let w = width_select (tree_of c.args.a.now) (tree_of c.args.b.now) (tree_of c.args.c.now) (tree_of c.args.d.now) in let x0 = c.test_data-first.ensures.end in let x1 = c.test_data-second.ensures.end in let x2 = c.test_data-third.ensures.end in omega arith

pub test_select-overflow_add-fourth : goal.test_select-overflow_add-fourth
test_select-overflow_add-fourth t c =
    let w = width_select (tree_of c.args.a.now) (tree_of c.args.b.now) (tree_of c.args.c.now) (tree_of c.args.d.now) in let x0 = c.test_data-first.ensures.end in let x1 = c.test_data-second.ensures.end in let x2 = c.test_data-third.ensures.end in let x3 = c.test_data-fourth.ensures.end in omega arith

pub test_data-overflow_add-tested : goal.test_data-overflow_add-tested
test_data-overflow_add-tested t c =
    let w = wide_relu _ _ c.in-Relu.is in let v = ap wide c.deref-in-Relu.ensures in let u = c.test_data-tested.ensures.end in omega arith

pub test_data-overflow_add-l : goal.test_data-overflow_add-l
test_data-overflow_add-l t c =
    let w = wide_binary _ _ _ _ c.in-Binary.is in let v = ap wide c.deref-in-Binary.ensures in let u = c.test_data-l.ensures.end in omega arith
