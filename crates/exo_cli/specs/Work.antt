-- The order of the program's work: its words, the files in order, and then what their texts give.
use Rattle.std.specs.Prelude.{◌≡◌, ◌≢◌, ◌≤◌, ℕ, ◌⊎◌, List, [], Option, Some, None, length, nat_lt}
use Rattle.std.specs.Prelude.{codes, Contains, IfSome, IsNone, MatchBool, MatchOption}
use Rattle.std.specs.Option.{option_map_or}
use Rattle.exo_cli.specs.declared.status.Status.{Status}
use Rattle.exo_cli.specs.declared.status.Status.TheVariants.{Ok, Usage, ReadFault, WriteFault}
use Rattle.exo_cli.specs.declared.status.Status.TheVariants.{Memory}
use Rattle.compile_stages.specs.Stages.{Compiles, Displays, Generates, Checks}
use Rattle.exo_cli.specs.Outside.Outside.{Folder, content_of, IsLonger, Rose, with_more}
use Rattle.exo_cli.specs.Outside.Outside.{StopsWithin}
use Rattle.exo_cli.specs.Messages.{usage, cannot_read, file_refused}
use Rattle.exo_cli.specs.Words.{Command, Compile, Check, Show, Gen, command_of, files_of}
use Rattle.exo_cli.specs.Answer.{Answer, Accepted, Rejected, Unread, Misused, IsAnswerOf}
use Rattle.exo_cli.specs.Answer.{status_of, for_out, for_err}

-- the most bytes that a file may have
abbrev pub file_limit : ℕ
file_limit = 1048576

-- This answer comes of a file's bytes: it has none, or too many, or what is next holds of them.
abbrev pub Opens :
    Option (List ℕ) → List ℕ → (List ℕ → Answer → Type 0) → Answer → Type 0
Opens None name next answer = answer ≡ Unread (cannot_read name)
Opens (Some bytes) name next answer =
    MatchBool (nat_lt file_limit (length bytes))
    (answer ≡ Rejected (file_refused name (codes "FileTooLong"))) (next bytes answer)

-- of the bytes of two files, the first of which is opened first
abbrev pub OpensBoth :
    Folder → List ℕ → List ℕ → (List ℕ → List ℕ → Answer → Type 0) → Answer → Type 0
OpensBoth files procs schedule next =
    Opens (content_of files procs) procs (λ unit.
    Opens (content_of files schedule) schedule (next unit))

-- this is the answer to a command over these files
abbrev pub AnswersTo : Command → Folder → Answer → Type 0
AnswersTo (Compile procs schedule) files =
    OpensBoth files procs schedule (λ unit lines. IsAnswerOf procs schedule (Compiles unit lines))
AnswersTo (Check procs) files =
    Opens (content_of files procs) procs (λ unit. IsAnswerOf procs [] (Checks unit))
AnswersTo (Show procs schedule name) files =
    OpensBoth files procs schedule (λ unit lines.
    IsAnswerOf procs schedule (Displays unit lines name))
AnswersTo (Gen n) files = IsAnswerOf (codes "gen-procs") (codes "gen-schedule") (Generates n)

-- this is the answer to the words over these files
abbrev pub Answers : List (List ℕ) → Folder → Answer → Type 0
Answers words files answer =
    MatchOption (command_of words) (answer ≡ Misused usage)
    (λ command. AnswersTo command files answer)

-- the words and the files have one answer
abbrev pub AnswersAreUnique : Type 0
AnswersAreUnique =
    (words : List (List ℕ)) (files : Folder) (one other : Answer)
    → Answers words files one
    → Answers words files other
    → one ≡ other

-- the names of the files that the words name
abbrev pub operands : List (List ℕ) → List (List ℕ)
operands words = option_map_or files_of (command_of words) []

-- what is known of the outside at a moment
pub record Moment : Type 0 where
  pub told : Option Folder
  pub faults : ℕ
  pub last_fault : Option (List ℕ)
  pub out : Option (List ℕ)
  pub out_faults : ℕ
  pub err : Option (List ℕ)
  pub err_faults : ℕ

-- One of the files could not be read: a fault was counted at its name, and the message names it.
pub record IsReadFault (names : List (List ℕ)) (before after : ℕ) (last : Option (List ℕ))
    (message : List ℕ) : Type 0 where
  pub rose : Rose before after
  pub name : List ℕ
  pub last_fault : last ≡ Some name
  pub operand : Contains names name
  pub names_it : message ≡ cannot_read name

-- The answer to a command is that of what the files hold, where they tell it, or a file could not
-- be read.
abbrev pub IsAnswerTo :
    Command → Option Folder → ℕ → ℕ → Option (List ℕ) → Answer → Type 0
IsAnswerTo command told before after last (Accepted text) =
    IfSome told (λ files. AnswersTo command files (Accepted text))
IsAnswerTo command told before after last (Rejected message) =
    IfSome told (λ files. AnswersTo command files (Rejected message))
IsAnswerTo command told before after last (Unread message) =
    IsReadFault (files_of command) before after last message
IsAnswerTo command told before after last (Misused message) = ⊥

-- the same of the words
abbrev pub IsAnswer :
    List (List ℕ) → Option Folder → ℕ → ℕ → Option (List ℕ) → Answer → Type 0
IsAnswer words told before after last reply =
    MatchOption (command_of words) (reply ≡ Misused usage)
    (λ command. IsAnswerTo command told before after last reply)

-- the work ends at the file of this name: it could not be read, or it is told and too long
abbrev pub EndsAt :
    Option Folder → ℕ → ℕ → Option (List ℕ) → List ℕ → Answer → Type 0
EndsAt told before after last name (Accepted text) = ⊥
EndsAt told before after last name (Rejected message) =
    IsLonger told name file_limit × (message ≡ file_refused name (codes "FileTooLong"))
EndsAt told before after last name (Unread message) =
    Rose before after × (last ≡ Some name) × (message ≡ cannot_read name)
EndsAt told before after last name (Misused message) = ⊥

-- a sink failed at a proper prefix of its bytes, and the other one is as it was
pub record OutFails (before after : Moment) (bytes : List ℕ) : Type 0 where
  pub rose : Rose before.out_faults after.out_faults
  pub part : StopsWithin before.out after.out bytes
  pub other : after.err ≡ before.err

pub record ErrFails (before after : Moment) (bytes : List ℕ) : Type 0 where
  pub rose : Rose before.err_faults after.err_faults
  pub part : StopsWithin before.err after.err bytes
  pub other : after.out ≡ before.out

-- this is part of an answer to the words, where the files tell what they hold
abbrev pub IsPartOfAnswer :
    List (List ℕ) → Option Folder → (Answer → List ℕ) → List ℕ → Type 0
IsPartOfAnswer words told part bytes =
    IfSome told (λ files. (answer : Answer) × Answers words files answer × (bytes ≡ part answer))

-- what the files hold stays, and no count of faults falls
pub record Stays (before after : Moment) : Type 0 where
  pub told : after.told ≡ before.told
  pub faults : before.faults ≤ after.faults
  pub out_faults : before.out_faults ≤ after.out_faults
  pub err_faults : before.err_faults ≤ after.err_faults

-- How the program may end. Where the files tell what they hold, it ends for want of memory, for a
-- fault that was counted, or with the answer.
pub record Ends (words : List (List ℕ)) (before after : Moment) (status : Status) : Type 0 where
  pub stays : Stays before after
  -- nothing goes to the standard output unless all was accepted or a sink failed
  pub quiet : status ≢ Ok → status ≢ WriteFault → after.out ≡ before.out
  -- want of memory leaves both sinks as they were
  pub memory : status ≡ Memory → (after.out ≡ before.out) × (after.err ≡ before.err)
  -- the words are no command, and the message says how to call the program
  pub usage :
      status ≡ Usage
      → IsNone (command_of words) × (after.err ≡ with_more before.err usage)
  -- where the words are no command, nothing else is answered but a fault of the standard error and
  -- want of memory
  pub no_command :
      IsNone (command_of words)
      → (status ≡ Usage) ⊎ ((status ≡ WriteFault) ⊎ (status ≡ Memory))
  -- a file could not be read
  pub read_fault :
      status ≡ ReadFault
      → (message : List ℕ)
      × IsReadFault (operands words) before.faults after.faults after.last_fault message
      × (after.err ≡ with_more before.err message)
  -- a sink failed at its part of the answer, or the standard error at the message of a file that
  -- could not be read
  pub write_fault :
      status ≡ WriteFault
      → (bytes : List ℕ)
      × ((OutFails before after bytes × IsPartOfAnswer words before.told for_out bytes)
      ⊎ (ErrFails before after bytes
      × (IsReadFault (operands words) before.faults after.faults after.last_fault bytes
      ⊎ IsPartOfAnswer words before.told for_err bytes)))
  -- else the status and all bytes are those of the answer
  pub told :
      status ≢ Memory
      → status ≢ ReadFault
      → status ≢ WriteFault
      → IfSome before.told (λ files.
      (answer : Answer) × Answers words files answer
      × (status ≡ status_of answer)
      × (after.out ≡ with_more before.out (for_out answer))
      × (after.err ≡ with_more before.err (for_err answer)))

-- Where the files are told and no count of faults rose, the program ends for want of memory, or
-- with the answer to the words: its status, and all its bytes.
abbrev pub EndsAreComplete : Type 0
EndsAreComplete =
    (words : List (List ℕ)) (before after : Moment) (status : Status) (files : Folder)
    (answer : Answer)
    → Ends words before after status
    → before.told ≡ Some files
    → Answers words files answer
    → (Rose before.faults after.faults → ⊥)
    → (Rose before.out_faults after.out_faults → ⊥)
    → (Rose before.err_faults after.err_faults → ⊥)
    → (status ≡ Memory)
    ⊎ ((status ≡ status_of answer)
    × (after.out ≡ with_more before.out (for_out answer))
    × (after.err ≡ with_more before.err (for_err answer)))
