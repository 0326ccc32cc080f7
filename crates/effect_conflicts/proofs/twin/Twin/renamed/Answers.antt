use Rattle.std.proofs.Common.{sym, ◌∙◌, arith, map}
use Rattle.exo_effects.specs.Conflicts.{variables_of}
use Rattle.exo_effects.specs.PlainUses.{all_variables}
use Rattle.effect_conflicts.specs.PlainCopies.{plain_turn}
use Rattle.effect_conflicts.proofs.CopyForms.{place_less}
use Rattle.effect_conflicts.proofs.Places.{few_variables, few_turns}
use Rattle.effect_conflicts.proofs.twin.Twin.renamed.Goals as goal

pub overflow_cast-result : goal.overflow_cast-result
overflow_cast-result c =
    let t = c.args.self.now in
    omega (arith, t.few_guards, few_variables t.guards.now, place_less (all_variables t.guards.now) c.args.x.0 c.in-Some.k (sym c.own_place.ensures ∙ c.in-Some.is))

pub overflow_mul-result : goal.overflow_mul-result
overflow_mul-result c =
    let t = c.args.self.now in
    omega (arith, t.few_guards, few_variables t.guards.now, place_less (all_variables t.guards.now) c.args.x.0 c.in-Some.k (sym c.own_place.ensures ∙ c.in-Some.is))

pub overflow_add-result-in-Some : goal.overflow_add-result-in-Some
overflow_add-result-in-Some c =
    let t = c.args.self.now in
    omega (arith, t.sides, t.few_guards, few_variables t.guards.now, place_less (all_variables t.guards.now) c.args.x.0 c.in-Some.k (sym c.own_place.ensures ∙ c.in-Some.is))

pub overflow_add-result-in-Some-2 : goal.overflow_add-result-in-Some-2
overflow_add-result-in-Some-2 c =
    let t = c.args.self.now in
    omega (arith, t.sides, t.few_guards, few_variables t.guards.now, place_less (all_variables t.guards.now) c.args.x.0 c.in-Some.k (sym c.own_place.ensures ∙ c.in-Some.is))

pub overflow_cast-result-in-Some-turn_place : goal.overflow_cast-result-in-Some-turn_place
overflow_cast-result-in-Some-turn_place c =
    let t = c.args.self.now in
    omega (arith, t.few_turns, few_turns t.turns.now, place_less (variables_of (map plain_turn t.turns.now)) c.args.x.0 c.in-Some-turn_place.k (sym c.turn_place.ensures ∙ c.in-Some-turn_place.is))

pub overflow_mul-result-in-Some-turn_place : goal.overflow_mul-result-in-Some-turn_place
overflow_mul-result-in-Some-turn_place c =
    let t = c.args.self.now in
    omega (arith, t.few_turns, few_turns t.turns.now, place_less (variables_of (map plain_turn t.turns.now)) c.args.x.0 c.in-Some-turn_place.k (sym c.turn_place.ensures ∙ c.in-Some-turn_place.is))

pub overflow_add-result-in-Some-turn_place : goal.overflow_add-result-in-Some-turn_place
overflow_add-result-in-Some-turn_place c =
    let t = c.args.self.now in
    omega (arith, t.sides, t.few_turns, few_turns t.turns.now, place_less (variables_of (map plain_turn t.turns.now)) c.args.x.0 c.in-Some-turn_place.k (sym c.turn_place.ensures ∙ c.in-Some-turn_place.is))

pub overflow_add-result-in-Some-turn_place-2 : goal.overflow_add-result-in-Some-turn_place-2
overflow_add-result-in-Some-turn_place-2 c =
    let t = c.args.self.now in
    omega (arith, t.sides, t.few_turns, few_turns t.turns.now, place_less (variables_of (map plain_turn t.turns.now)) c.args.x.0 c.in-Some-turn_place.k (sym c.turn_place.ensures ∙ c.in-Some-turn_place.is))
