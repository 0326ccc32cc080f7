use Rattle.std.proofs.Common.{◌≡◌, false, true, refl}
use Rattle.text_phrases.proofs.Exits.{exit}
use Rattle.text_phrases.proofs.Sequences.{items_none, items_done}
use Rattle.exo_reader.proofs.Lists.{many_next, many_err}
use Rattle.schedule_text.proofs.Moving.{moves_apart, move_shorter, no_more_moves}
use Rattle.schedule_text.proofs.moves.read_moves.Goals as goal

pub returns-in_err-step : goal.returns-in_err-step
returns-in_err-step c = exit _ _ _ _ _ _ c.from_residual.ensures.1 (many_err _ _ _ _ _ _ moves_apart c.more.invariant (λ none. none (c.more-test.ensures.0 refl)) c.in_err-step.ensures)

pub more-init : goal.more-init
more-init c = rw c.new-items.ensures.items (items_none _ _ _)

pub more-preserved : goal.more-preserved
more-preserved c = rw c.in_ok-push.ensures.items (many_next _ _ _ _ _ _ _ _ moves_apart c.more.invariant c.in_ok-step.ensures)

pub more-smaller : goal.more-smaller
more-smaller c = move_shorter _ _ _ c.in_ok-step.ensures

pub returns : goal.returns
returns c = items_done _ _ _ _ _ c.more.invariant (no_more_moves _ (λ begins. let h : false ≡ true = c.more-test.ensures.1 begins in cc (h)))
