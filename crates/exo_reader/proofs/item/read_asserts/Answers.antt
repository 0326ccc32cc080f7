use Rattle.std.proofs.Common.{ap, arith, length}
use Rattle.text_phrases.specs.Phrase.{first}
use Rattle.text_phrases.proofs.Phrases.{taken_shorter}
use Rattle.text_phrases.proofs.Exits.{exit}
use Rattle.text_phrases.proofs.Sequences.{step_taken, items_none, items_done}
use Rattle.text_phrases.proofs.Joints.{whole_err}
use Rattle.exo_reader.proofs.Items.{step_assertion, assertions_apart}
use Rattle.exo_reader.proofs.Lists.{many_next, many_err}
use Rattle.exo_reader.proofs.item.read_asserts.Goals as goal

pub returns-in_err-condition : goal.returns-in_err-condition
returns-in_err-condition c = exit _ _ _ _ _ _ c.from_residual.ensures.1 (many_err _ _ _ _ _ _ assertions_apart c.more.invariant (λ ends. ends (ap first c.in-Some.ensures)) (rw c.in-Some.ensures (whole_err _ _ _ _ _ _ (step_assertion _) c.in_err-condition.ensures)))

pub more-init : goal.more-init
more-init c = rw c.new-asserts.ensures.items (items_none _ _ _)

pub more-preserved : goal.more-preserved
more-preserved c = rw (c.in_ok-push.ensures.items, c.into_inner.ensures) (many_next _ _ _ _ _ _ _ _ assertions_apart c.more.invariant (rw c.in-Some.ensures (step_taken _ _ _ _ _ _ _ (step_assertion _) c.in_ok-condition.ensures)))

pub more-smaller : goal.more-smaller
more-smaller c = omega (arith, ap length c.in-Some.ensures, taken_shorter c.in_ok-condition.ensures)

pub returns : goal.returns
returns c = items_done _ _ _ _ _ c.more.invariant (λ limits e y fits same. c.in_default.ensures same)
