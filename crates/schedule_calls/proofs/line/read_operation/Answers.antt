use Rattle.std.proofs.Common.{sym, subst, ◌∙◌, map}
use Rattle.schedule_text.specs.Views.{plain_argument, plain_arguments}
use Rattle.schedule_calls.specs.PlainRequest.{plain_operation}
use Rattle.schedule_calls.specs.Readings.{IsWord, AsksOperation, apply}
use Rattle.schedule_calls.proofs.Answered.{some_of, none_of}
use Rattle.schedule_calls.proofs.Lines.{no_apply, no_version, no_operator, is_known}
use Rattle.schedule_calls.proofs.line.read_operation.Goals as goal

pub returns-in-Some-2 : goal.returns-in-Some-2
returns-in-Some-2 c =
    apply _ _ _ (plain_arguments c.args.args.now) c.in-Some.operator _
    (sym c.operator_of.ensures ∙ c.in-Some.is)
    (some_of (IsWord (plain_argument c.args.args.now.first)) (λ x. x.now) _ _ c.in-Some-word_of.is
    c.word_of.ensures)
    (subst
    (λ l. AsksOperation c.in-Some.operator (map plain_argument l)
    (plain_operation c.in-Some-2.operation))
    c.as_slice.ensures.value
    (some_of _ _ _ _ c.in-Some-2.is c.in_ok-operation.ensures))

pub returns-in-None : goal.returns-in-None
returns-in-None c = (
  is_known c.args.bind.now c.args.name.now (plain_arguments c.args.args.now) c.in-Some.operator
      (sym c.operator_of.ensures ∙ c.in-Some.is),
  no_apply _ _ (plain_arguments c.args.args.now) c.in-Some.operator
      (sym c.operator_of.ensures ∙ c.in-Some.is)
      (λ x asks.
      none_of _ _ _ c.in-None.is c.in_ok-operation.ensures x
      (subst (λ l. AsksOperation c.in-Some.operator (map plain_argument l) x)
      (sym c.as_slice.ensures.value)
      asks)),
)

pub returns-in_default : goal.returns-in_default
returns-in_default c =
    no_operator c.args.bind.now c.args.name.now (plain_arguments c.args.args.now)
    (sym c.operator_of.ensures ∙ c.in_default.is)

pub returns-in_default-word_of : goal.returns-in_default-word_of
returns-in_default-word_of c = (
  is_known c.args.bind.now c.args.name.now (plain_arguments c.args.args.now) c.in-Some.operator
      (sym c.operator_of.ensures ∙ c.in-Some.is),
  no_version c.args.bind.now c.args.name.now (plain_arguments c.args.args.now)
      (none_of (IsWord (plain_argument c.args.args.now.first)) (λ x. x.now) _
      c.in_default-word_of.is c.word_of.ensures),
)
