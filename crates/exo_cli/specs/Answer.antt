-- What the program answers, and what of it goes where.
use Rattle.std.specs.Prelude.{◌≡◌, ℕ, List, []}
use Rattle.compile_stages.specs.Kinds.{message}
use Rattle.compile_stages.specs.Stages.{Stage, Passed, Stopped}
use Rattle.exo_cli.specs.declared.status.Status.{Status}
use Rattle.exo_cli.specs.declared.status.Status.TheVariants.{Ok, Refused, Usage, ReadFault}

-- Accepted with the text of the result; else a message: a file is rejected, could not be read, or
-- the words are no command.
pub data Answer : Type 0 where
  Accepted Rejected Unread Misused : List ℕ → Answer

-- what the texts come to, by the names of the files of the unit and of the schedule
abbrev pub answer_of : List ℕ → List ℕ → Stage (List ℕ) → Answer
answer_of procs schedule (Passed out) = Accepted out
answer_of procs schedule (Stopped why) = Rejected (message procs schedule why)

abbrev pub IsAnswerOf : List ℕ → List ℕ → (Stage (List ℕ) → Type 0) → Answer → Type 0
IsAnswerOf procs schedule Comes answer =
    (end : Stage (List ℕ)) × Comes end × (answer ≡ answer_of procs schedule end)

abbrev pub status_of : Answer → Status
status_of (Accepted text) = Ok
status_of (Rejected message) = Refused
status_of (Unread message) = ReadFault
status_of (Misused message) = Usage

-- the bytes for the standard output
abbrev pub for_out : Answer → List ℕ
for_out (Accepted text) = text
for_out (Rejected message) = []
for_out (Unread message) = []
for_out (Misused message) = []

-- the bytes for the standard error
abbrev pub for_err : Answer → List ℕ
for_err (Accepted text) = []
for_err (Rejected message) = message
for_err (Unread message) = message
for_err (Misused message) = message

-- the texts were read: they are accepted or rejected
abbrev pub IsVerdict : Answer → Type 0
IsVerdict (Accepted text) = Unit {0}
IsVerdict (Rejected message) = Unit {0}
IsVerdict (Unread message) = ⊥
IsVerdict (Misused message) = ⊥
