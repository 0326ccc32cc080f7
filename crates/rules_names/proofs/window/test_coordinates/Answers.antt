use Rattle.std.proofs.Common.{◌+◌, ◌++◌, sym, ap, refl, ◌∙◌, arith, map, drop}
use Rattle.exo_reader.specs.Views.{plain_coordinate}
use Rattle.rules_names.specs.Faults.{charged}
use Rattle.rules_names.specs.WindowRules.{coordinates_width, coordinate_faults, coordinates_faults}
use Rattle.rules_names.proofs.Rests.{rest_of, empty_rest}
use Rattle.rules_names.proofs.Controls.{gone_first, gone_next, gone_all}
use Rattle.rules_names.proofs.window.test_coordinates.Goals as goal

pub loop-c-init : goal.loop-c-init
loop-c-init c = record { count = refl; gone = gone_first _ _ c.none-charge.ensures }

pub test_coordinate-end-requires : goal.test_coordinate-end-requires
test_coordinate-end-requires c = let w = ap (λ l. coordinates_width (map plain_coordinate l)) (rest_of _ _ _ c.loop-c-test.true c.c-item.is) in omega arith

pub overflow_add-next : goal.overflow_add-next
overflow_add-next c = let w = ap (λ l. coordinates_width (map plain_coordinate l)) (rest_of _ _ _ c.loop-c-test.true c.c-item.is) in let u = c.test_coordinate-end.ensures.end in omega arith

pub loop-c-preserved : goal.loop-c-preserved
loop-c-preserved c =
    let rest = rest_of _ _ _ c.loop-c-test.true c.c-item.is in
    let w = ap (λ l. coordinates_width (map plain_coordinate l)) rest in
    let u = c.test_coordinate-end.ensures.end in
    record {
      count = omega arith;
      gone =
          gone_next _ _ _ _ _ _ (λ a b p q. c.and-charge.ensures a b p (c.test_coordinate-end.ensures.charge ∙ ap charged (sym q)))
          (ap (λ l. coordinates_faults c.args.names.now.fields.now c.args.names.now.scope.now c.loop-c.next (map plain_coordinate l)) rest
          ∙ ap (λ k. coordinate_faults c.args.names.now.fields.now c.args.names.now.scope.now c.loop-c.next (plain_coordinate c.c-item.result) ++ coordinates_faults c.args.names.now.fields.now c.args.names.now.scope.now (k + 1) (map plain_coordinate (drop (c.loop-c.c-index + 1) c.args.list.now))) (sym u))
          c.loop-c.invariant.gone;
    }

pub returns-clause-charge : goal.returns-clause-charge
returns-clause-charge c = gone_all _ _ _ (ap (λ l. coordinates_faults c.args.names.now.fields.now c.args.names.now.scope.now c.loop-c.next (map plain_coordinate l)) (empty_rest _ _ c.loop-c-test.false)) c.loop-c.invariant.gone

pub returns-clause-end : goal.returns-clause-end
returns-clause-end c = let w = ap (λ l. coordinates_width (map plain_coordinate l)) (empty_rest _ _ c.loop-c-test.false) in omega arith
