use Rattle.std.proofs.Common.{◌≡◌, true, sym, subst}
use Rattle.exo_effects.specs.PlainGuards.{facts_of}
use Rattle.exo_effects.specs.declared.guards.Guard.{Guard}
use Rattle.effect_conflicts.specs.PlainCopies.{guard_is_low, renamed, Said}
use Rattle.effect_conflicts.specs.declared.twin.Turn.{Turn}
use Rattle.effect_conflicts.proofs.Bounds.{low_turn, loop_said}
use Rattle.effect_conflicts.proofs.guards.say_guard.Goals as goal

pub say_loop-requires : goal.say_loop-requires
say_loop-requires c =
    let u : Turn = record { variable = c.in-Loop.i; lower = c.in-Loop.lo; upper = c.in-Loop.hi } in
    low_turn u (subst (λ (g : Guard). guard_is_low g ≡ true) c.in-Loop.is c.requires)

pub returns-in-Loop : goal.returns-in-Loop
returns-in-Loop c =
    let u : Turn = record { variable = c.in-Loop.i; lower = c.in-Loop.lo; upper = c.in-Loop.hi } in
    subst (λ (g : Guard). Said c.say_loop.result (renamed c.args.twin.now) (facts_of g) c.args.into.now c.say_loop.new.into)
    (sym c.in-Loop.is)
    (loop_said u (subst (λ (g : Guard). guard_is_low g ≡ true) c.in-Loop.is c.requires) c.args.twin.now
    c.args.into.now c.say_loop.new.into c.say_loop.result c.say_loop.ensures)
