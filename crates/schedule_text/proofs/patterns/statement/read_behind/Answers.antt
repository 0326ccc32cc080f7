use Rattle.std.proofs.Common.{◌≡◌, false, true, refl, inl, inr}
use Rattle.text_phrases.proofs.Sequences.{step_taken}
use Rattle.text_phrases.proofs.Joints.{whole_err}
use Rattle.schedule_text.proofs.OfPatterns.Meanings.{exit_as, means, reads_step, reads_followed}
use Rattle.schedule_text.proofs.OfPatterns.Statements.{step_colon, step_open, step_dot, step_change}
use Rattle.schedule_text.proofs.OfPatterns.Statements.{step_inner}
use Rattle.schedule_text.proofs.patterns.statement.read_behind.Goals as goal

pub returns-in-Some : goal.returns-in-Some
returns-in-Some c = reads_followed _ _ _ _ _ _ (λ x. x) _ (λ x. x.0) (λ x. x.1.now) _ (step_colon _ _ c.in-Some.ensures) c.followed_by.ensures (λ s. refl)

pub returns-in-Some-behind : goal.returns-in-Some-behind
returns-in-Some-behind c = reads_followed _ _ _ _ _ _ (λ x. x) _ (λ x. x.0) (λ x. x.1.now) _ (step_open _ _ c.in-Some-behind.ensures) c.followed_by-in-Some-behind.ensures (λ s. refl)

pub returns-in_err-field : goal.returns-in_err-field
returns-in_err-field c = exit_as _ _ _ _ _ c.from_residual.ensures.1 (whole_err _ _ _ _ _ _ (step_dot _ _ c.in-Some-behind-2.ensures) c.in_err-field.ensures)

pub returns-in-Some-behind-2 : goal.returns-in-Some-behind-2
returns-in-Some-behind-2 c = means _ _ _ _ _ _ (step_taken _ _ _ _ _ _ _ (step_dot _ _ c.in-Some-behind-2.ensures) c.in_ok-field.ensures) refl

pub returns-in-Some-behind-3 : goal.returns-in-Some-behind-3
returns-in-Some-behind-3 c = rw c.in-Some-behind-3.ensures c.read_cell.ensures

pub returns-then-stands_first : goal.returns-then-stands_first
returns-then-stands_first c = reads_step _ _ _ _ _ _ _ _ _ (step_change _ (inl (c.if-stands_first.ensures.0 refl))) c.read_change.ensures

pub returns-then-stands_first-2 : goal.returns-then-stands_first-2
returns-then-stands_first-2 c = reads_step _ _ _ _ _ _ _ _ _ (step_change _ (inr (c.if-stands_first-2.ensures.0 refl))) c.read_change-then-stands_first-2.ensures

pub returns-in_err-inner : goal.returns-in_err-inner
returns-in_err-inner c = exit_as _ _ _ _ _ c.from_residual-in_err-inner.ensures.1 (whole_err _ _ _ _ _ _ (step_inner _ record {
  colon = c.in_default.ensures;
  paren = c.in_default-behind.ensures;
  dot = c.in_default-behind-2.ensures;
  bracket = c.in_default-behind-3.ensures;
  assign = λ e. let h : false ≡ true = c.if-stands_first.ensures.1 e in cc;
  reduce = λ e. let h : false ≡ true = c.if-stands_first-2.ensures.1 e in cc;
}) c.in_err-inner.ensures)

pub returns : goal.returns
returns c = means _ _ _ _ _ _ (step_taken _ _ _ _ _ _ _ (step_inner _ record {
  colon = c.in_default.ensures;
  paren = c.in_default-behind.ensures;
  dot = c.in_default-behind-2.ensures;
  bracket = c.in_default-behind-3.ensures;
  assign = λ e. let h : false ≡ true = c.if-stands_first.ensures.1 e in cc;
  reduce = λ e. let h : false ≡ true = c.if-stands_first-2.ensures.1 e in cc;
}) c.in_ok-inner.ensures) refl
