use Rattle.std.proofs.Common.{ap, sym, ◌∙◌, arith, map}
use Rattle.text_expressions.specs.Views.{tree_of}
use Rattle.rules_names.specs.ExpressionRules.{closed_width}
use Rattle.rules_names.proofs.Rests.{rest_width, closed_some, closed_none, rest_none}
use Rattle.rules_names.proofs.Wide.{wide, wide_int, wide_truth, wide_name, wide_access, wide_field, wide_stride, wide_relu, wide_select, wide_negative, wide_parens, wide_binary}
use Rattle.rules_names.proofs.width.+ends.Goals as goal

pub end_of-end_of_list-requires : goal.end_of-end_of_list-requires
end_of-end_of_list-requires t c =
    let w = wide_access _ _ _ c.in-Access.is in let v = ap (λ l. closed_width (map tree_of l)) c.deref.ensures.value in (omega arith, omega arith)

pub end_of-end_of-requires : goal.end_of-end_of-requires
end_of-end_of-requires t c =
    let w = wide_negative _ _ c.in-Negative.is in let v = ap wide c.deref-in-Negative.ensures in (omega arith, omega arith)

pub end_of-end_of-requires-in-Relu : goal.end_of-end_of-requires-in-Relu
end_of-end_of-requires-in-Relu t c =
    let w = wide_relu _ _ c.in-Relu.is in let v = ap wide c.deref-in-Relu.ensures in (omega arith, omega arith)

pub end_of-overflow_add-result-in-Relu : goal.end_of-overflow_add-result-in-Relu
end_of-overflow_add-result-in-Relu t c =
    let w = wide_relu _ _ c.in-Relu.is in let v = ap wide c.deref-in-Relu.ensures in omega arith

pub end_of-end_of-requires-in-Parens : goal.end_of-end_of-requires-in-Parens
end_of-end_of-requires-in-Parens t c =
    let w = wide_parens _ _ c.in-Parens.is in let v = ap wide c.deref-in-Parens.ensures in (omega arith, omega arith)

pub end_of-overflow_add-result-in-Parens : goal.end_of-overflow_add-result-in-Parens
end_of-overflow_add-result-in-Parens t c =
    let w = wide_parens _ _ c.in-Parens.is in let v = ap wide c.deref-in-Parens.ensures in omega arith

pub end_of-end_of-second-requires : goal.end_of-end_of-second-requires
end_of-end_of-second-requires t c =
    let w = wide_select _ _ _ _ _ c.in-Select.is in let v1 = ap wide c.deref-in-Select.ensures in (omega arith, omega arith)

pub end_of-overflow_add-second : goal.end_of-overflow_add-second
end_of-overflow_add-second t c =
    let w = wide_select _ _ _ _ _ c.in-Select.is in let v1 = ap wide c.deref-in-Select.ensures in omega arith

pub end_of-end_of-third-requires : goal.end_of-end_of-third-requires
end_of-end_of-third-requires t c =
    let w = wide_select _ _ _ _ _ c.in-Select.is in let v1 = ap wide c.deref-in-Select.ensures in let v2 = ap wide c.deref-in-Select-2.ensures in (omega arith, omega arith)

pub end_of-overflow_add-third : goal.end_of-overflow_add-third
end_of-overflow_add-third t c =
    let w = wide_select _ _ _ _ _ c.in-Select.is in let v1 = ap wide c.deref-in-Select.ensures in let v2 = ap wide c.deref-in-Select-2.ensures in omega arith

pub end_of-end_of-fourth-requires : goal.end_of-end_of-fourth-requires
end_of-end_of-fourth-requires t c =
    let w = wide_select _ _ _ _ _ c.in-Select.is in let v1 = ap wide c.deref-in-Select.ensures in let v2 = ap wide c.deref-in-Select-2.ensures in let v3 = ap wide c.deref-in-Select-3.ensures in (omega arith, omega arith)

pub end_of-overflow_add-fourth : goal.end_of-overflow_add-fourth
end_of-overflow_add-fourth t c =
    let w = wide_select _ _ _ _ _ c.in-Select.is in let v1 = ap wide c.deref-in-Select.ensures in let v2 = ap wide c.deref-in-Select-2.ensures in let v3 = ap wide c.deref-in-Select-3.ensures in omega arith

pub end_of-end_of-requires-in-Select : goal.end_of-end_of-requires-in-Select
end_of-end_of-requires-in-Select t c =
    let w = wide_select _ _ _ _ _ c.in-Select.is in let v1 = ap wide c.deref-in-Select.ensures in let v2 = ap wide c.deref-in-Select-2.ensures in let v3 = ap wide c.deref-in-Select-3.ensures in let v4 = ap wide c.deref-in-Select-4.ensures in (omega arith, omega arith)

pub end_of-overflow_add-result-in-Select : goal.end_of-overflow_add-result-in-Select
end_of-overflow_add-result-in-Select t c =
    let w = wide_select _ _ _ _ _ c.in-Select.is in let v1 = ap wide c.deref-in-Select.ensures in let v2 = ap wide c.deref-in-Select-2.ensures in let v3 = ap wide c.deref-in-Select-3.ensures in let v4 = ap wide c.deref-in-Select-4.ensures in omega arith

pub end_of-end_of-requires-in-Binary : goal.end_of-end_of-requires-in-Binary
end_of-end_of-requires-in-Binary t c =
    let w = wide_binary _ _ _ _ c.in-Binary.is in let v = ap wide c.deref-in-Binary-2.ensures in let u = ap wide c.deref-in-Binary.ensures in (omega arith, omega arith)

pub end_of-overflow_add-end_of : goal.end_of-overflow_add-end_of
end_of-overflow_add-end_of t c =
    let w = wide_binary _ _ _ _ c.in-Binary.is in let v = ap wide c.deref-in-Binary-2.ensures in let u = ap wide c.deref-in-Binary.ensures in omega arith

pub end_of-end_of-requires-in-Binary-2 : goal.end_of-end_of-requires-in-Binary-2
end_of-end_of-requires-in-Binary-2 t c =
    let w = wide_binary _ _ _ _ c.in-Binary.is in let v = ap wide c.deref-in-Binary-2.ensures in let u = ap wide c.deref-in-Binary.ensures in (omega arith, omega arith)

pub end_of-returns-in-Field : goal.end_of-returns-in-Field
end_of-returns-in-Field t c =
    let w = wide_field _ _ _ c.in-Field.is in omega arith

pub end_of-returns-in-Stride : goal.end_of-returns-in-Stride
end_of-returns-in-Stride t c =
    let w = wide_stride _ _ _ c.in-Stride.is in omega arith

pub end_of-returns-in-Access : goal.end_of-returns-in-Access
end_of-returns-in-Access t c =
    let w = wide_access _ _ _ c.in-Access.is in let v = ap (λ l. closed_width (map tree_of l)) c.deref.ensures.value in omega arith

pub end_of-returns-in-Negative : goal.end_of-returns-in-Negative
end_of-returns-in-Negative t c =
    let w = wide_negative _ _ c.in-Negative.is in let v = ap wide c.deref-in-Negative.ensures in omega arith

pub end_of-returns-in-Relu : goal.end_of-returns-in-Relu
end_of-returns-in-Relu t c =
    let w = wide_relu _ _ c.in-Relu.is in let v = ap wide c.deref-in-Relu.ensures in omega arith

pub end_of-returns-in-Parens : goal.end_of-returns-in-Parens
end_of-returns-in-Parens t c =
    let w = wide_parens _ _ c.in-Parens.is in let v = ap wide c.deref-in-Parens.ensures in omega arith

pub end_of-returns-in-Select : goal.end_of-returns-in-Select
end_of-returns-in-Select t c =
    let w = wide_select _ _ _ _ _ c.in-Select.is in let v1 = ap wide c.deref-in-Select.ensures in let v2 = ap wide c.deref-in-Select-2.ensures in let v3 = ap wide c.deref-in-Select-3.ensures in let v4 = ap wide c.deref-in-Select-4.ensures in omega arith

pub end_of-returns-in-Binary : goal.end_of-returns-in-Binary
end_of-returns-in-Binary t c =
    let w = wide_binary _ _ _ _ c.in-Binary.is in let v = ap wide c.deref-in-Binary-2.ensures in let u = ap wide c.deref-in-Binary.ensures in omega arith

pub end_of-returns-in-Int : goal.end_of-returns-in-Int
end_of-returns-in-Int t c =
    let w = wide_int _ _ c.in-Int.is in omega arith

pub end_of-returns-in-Truth : goal.end_of-returns-in-Truth
end_of-returns-in-Truth t c =
    let w = wide_truth _ _ c.in-Truth.is in omega arith

pub end_of-returns-in-Name : goal.end_of-returns-in-Name
end_of-returns-in-Name t c =
    let w = wide_name _ _ c.in-Name.is in omega arith

pub end_of_list-loop-e-init : goal.end_of_list-loop-e-init
end_of_list-loop-e-init t c = let w = closed_some _ (sym c.is_empty.ensures ∙ c.if-is_empty.false) in record { count = omega arith; moves = omega arith }

pub end_of_list-end_of-next-requires : goal.end_of_list-end_of-next-requires
end_of_list-end_of-next-requires t c =
    let w = rest_width _ _ _ c.loop-e-test.true c.e-item.is in (omega arith, omega arith)

pub end_of_list-overflow_add-next : goal.end_of_list-overflow_add-next
end_of_list-overflow_add-next t c =
    let w = rest_width _ _ _ c.loop-e-test.true c.e-item.is in omega arith

pub end_of_list-loop-e-preserved : goal.end_of_list-loop-e-preserved
end_of_list-loop-e-preserved t c =
    let w = rest_width _ _ _ c.loop-e-test.true c.e-item.is in record { count = omega arith; moves = omega arith }

pub end_of_list-returns : goal.end_of_list-returns
end_of_list-returns t c = let w = rest_none _ _ c.loop-e-test.false in omega arith

pub end_of_list-returns-then-is_empty : goal.end_of_list-returns-then-is_empty
end_of_list-returns-then-is_empty t c = let w = closed_none _ (sym c.is_empty.ensures ∙ c.if-is_empty.true) in omega arith
