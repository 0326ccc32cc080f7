-- The plain form of the turns of a loop.
use Rattle.std.specs.Prelude.{ℤ, List}
use Rattle.exo_meaning.specs.Run as run
use Rattle.place_laws.specs.Order.TurnsOfTwo.{Loop}
use Rattle.step_rules.specs.Rule.{Tried, Got}
use Rattle.step_rules.specs.Answer.{then_try}
use Rattle.loop_laws.specs.UnrollLoop.{Unrolling}
use Rattle.step_targets.specs.PlainLoop.{plain_loop}
use Rattle.loop_rewrites.specs.declared.turns.Turns.{Turns}

abbrev pub plain_turns : Turns → Unrolling
plain_turns t = record { loop = plain_loop t.looping; turns = run.range t.first t.count }

-- a loop with the numbers of its turns, where they are found
abbrev pub with_turns : Loop → Tried (List ℤ) → Tried Unrolling
with_turns l tried = then_try tried (λ ns. Got (record { loop = l; turns = ns }))
