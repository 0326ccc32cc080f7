use Rattle.std.proofs.Common.{◌≡◌, ap, sym, ◌∙◌, ◌+◌, ◌&&◌, map, drop, true, false}
use Rattle.std.specs.List.{list_all}
use Rattle.exo_reader.specs.Views.{plain_coordinate}
use Rattle.rules_names.specs.Arguments.{knows_coordinate}
use Rattle.rules_names.proofs.Rests.{rest_of, empty_rest}
use Rattle.rules_names.proofs.argument.knows_coordinates.Goals as goal

pub loop-c-preserved : goal.loop-c-preserved
loop-c-preserved c =
    let first : (knows_coordinate c.args.names.now.fields.now) (plain_coordinate c.c-item.result) ≡ true = sym c.knows_coordinate.ensures ∙ c.if-not-knows_coordinate.false in
    sym (ap (λ l. list_all (knows_coordinate c.args.names.now.fields.now) (map plain_coordinate l)) (rest_of _ _ _ c.loop-c-test.true c.c-item.is) ∙ ap (λ t. t && list_all (knows_coordinate c.args.names.now.fields.now) (map plain_coordinate (drop (c.loop-c.c-index + 1) c.args.list.now))) first) ∙ c.loop-c.invariant

pub returns : goal.returns
returns c = sym (ap (λ l. list_all (knows_coordinate c.args.names.now.fields.now) (map plain_coordinate l)) (empty_rest _ _ c.loop-c-test.false)) ∙ c.loop-c.invariant

pub returns-then-not-knows_coordinate : goal.returns-then-not-knows_coordinate
returns-then-not-knows_coordinate c =
    let first : (knows_coordinate c.args.names.now.fields.now) (plain_coordinate c.c-item.result) ≡ false = sym c.knows_coordinate.ensures ∙ c.if-not-knows_coordinate.true in
    sym (ap (λ l. list_all (knows_coordinate c.args.names.now.fields.now) (map plain_coordinate l)) (rest_of _ _ _ c.loop-c-test.true c.c-item.is) ∙ ap (λ t. t && list_all (knows_coordinate c.args.names.now.fields.now) (map plain_coordinate (drop (c.loop-c.c-index + 1) c.args.list.now))) first) ∙ c.loop-c.invariant
