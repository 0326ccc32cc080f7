-- What the readings of lines and of their arguments answer.
use Rattle.std.specs.Prelude.{◌≡◌, true, false, List, map, Result, Ok, Err, Option, MatchOption}
use Rattle.schedule_text.specs.Tree as tree
use Rattle.schedule_text.specs.Views.{plain_argument}
use Rattle.schedule_text.specs.declared.source.ArgText.{ArgText}
use Rattle.schedule_calls.specs.Requests.{Request as PlainRequest}
use Rattle.schedule_calls.specs.Readings.{AsksChange, AsksOperation, Asks, is_unknown}
use Rattle.schedule_calls.specs.PlainRequest.{plain_change, plain_operation, plain_request}
use Rattle.schedule_calls.specs.declared.operator.ChangeOperator.{ChangeOperator}
use Rattle.schedule_calls.specs.declared.operator.OperatorName.{OperatorName}
use Rattle.schedule_calls.specs.declared.request.Change.{Change}
use Rattle.schedule_calls.specs.declared.request.Operation.{Operation}
use Rattle.schedule_calls.specs.declared.request.Request.{Request}
use Rattle.schedule_calls.specs.declared.request.LineFault.{LineFault}
use Rattle.schedule_calls.specs.declared.request.LineFault.TheVariants as fault

-- exactly what is asked, or that nothing is
abbrev pub AsksOne : {X T : Type 0} → (T → Type 0) → (X → T) → Option X → Type 0
AsksOne {X} {T} asks plain found =
    MatchOption found ((t : T) → asks t → ⊥) (λ x. asks (plain x))

-- by its arguments behind the cursor, and by those behind the first
abbrev pub IsChange : ChangeOperator → List ArgText → Option Change → Type 0
IsChange o args found = AsksOne (AsksChange o (map plain_argument args)) plain_change found

abbrev pub IsOperation : OperatorName → List ArgText → Option Operation → Type 0
IsOperation o args found =
    AsksOne (AsksOperation o (map plain_argument args)) plain_operation found

-- exactly what a line asks, or why it asks nothing
abbrev pub IsAnswer : tree.Line → Result Request LineFault → Type 0
IsAnswer line (Ok r) = Asks line (plain_request r)
IsAnswer line (Err fault.UnknownOperator) = is_unknown line ≡ true
IsAnswer line (Err fault.BadArguments) =
    (is_unknown line ≡ false) × ((r : PlainRequest) → Asks line r → ⊥)

-- a line asks for one thing, and one of an unknown operator for none
pub record LinesAskOnce : Type 0 where
  pub request : (line : tree.Line) (a b : PlainRequest) → Asks line a → Asks line b → a ≡ b
  pub unknown : (line : tree.Line) (a : PlainRequest) → is_unknown line ≡ true → Asks line a → ⊥
