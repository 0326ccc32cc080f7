use Rattle.std.proofs.Common.{◌++◌, sym, ap, ◌∙◌, arith}
use Rattle.exo_meaning.specs.Units.{plainly}
use Rattle.text_expressions.specs.Views.{tree_of}
use Rattle.exo_reader.specs.Views.{plain_coordinate}
use Rattle.rules_names.specs.Faults.{charged}
use Rattle.rules_names.specs.ExpressionRules.{control_faults}
use Rattle.rules_names.specs.WindowRules.{coordinate_width, coordinate_faults}
use Rattle.rules_names.proofs.Told.{behind}
use Rattle.rules_names.proofs.window.test_coordinate.Goals as goal

pub test_control-tested-requires : goal.test_control-tested-requires
test_control-tested-requires c = let w = ap (λ p. coordinate_width (plain_coordinate p)) c.in-Point.is in omega arith

pub returns-in-Point-clause-charge : goal.returns-in-Point-clause-charge
returns-in-Point-clause-charge c = c.test_control-tested.ensures.tells.charge ∙ ap (λ p. charged (coordinate_faults c.args.names.now.fields.now c.args.names.now.scope.now c.args.n (plain_coordinate p))) (sym c.in-Point.is)

pub returns-in-Point-clause-end : goal.returns-in-Point-clause-end
returns-in-Point-clause-end c = let w = ap (λ p. coordinate_width (plain_coordinate p)) c.in-Point.is in let u = c.test_control-tested.ensures.tells.end in omega arith

pub test_control-l-requires : goal.test_control-l-requires
test_control-l-requires c = let w = ap (λ p. coordinate_width (plain_coordinate p)) c.in-Span.is in omega arith

pub overflow_add-l : goal.overflow_add-l
overflow_add-l c = let w = ap (λ p. coordinate_width (plain_coordinate p)) c.in-Span.is in let u = c.test_control-l.ensures.tells.end in omega arith

pub test_control-h-requires : goal.test_control-h-requires
test_control-h-requires c = let w = ap (λ p. coordinate_width (plain_coordinate p)) c.in-Span.is in let u = c.test_control-l.ensures.tells.end in omega arith

pub returns-in-Span-clause-charge : goal.returns-in-Span-clause-charge
returns-in-Span-clause-charge c =
    let l = c.test_control-l.ensures.tells in
    let h = c.test_control-h.ensures.tells in
    c.and.ensures _ _ l.charge h.charge
    ∙ ap (λ k. charged (control_faults c.args.names.now.fields.now plainly c.args.names.now.scope.now c.args.n (tree_of c.in-Span.low) ++ control_faults c.args.names.now.fields.now plainly c.args.names.now.scope.now k (tree_of c.in-Span.high))) (behind _ _ _ _ _ l)
    ∙ ap (λ p. charged (coordinate_faults c.args.names.now.fields.now c.args.names.now.scope.now c.args.n (plain_coordinate p))) (sym c.in-Span.is)

pub returns-in-Span-clause-end : goal.returns-in-Span-clause-end
returns-in-Span-clause-end c = let w = ap (λ p. coordinate_width (plain_coordinate p)) c.in-Span.is in let u = c.test_control-l.ensures.tells.end in let v = c.test_control-h.ensures.tells.end in omega arith
