-- How the program ends follows from its reply and from how that was delivered.
use Rattle.std.proofs.Common.{◌≡◌, ◌≢◌, ℕ, ◌<◌, ◌≤◌, List, [], ◌∷◌, length, Option, Some, None, option_map, refl, ap, sym, ◌∙◌, subst, arith, ◌⊎◌, inl, inr, Bool, true, false, nat_lt, codes, IfSome, IsNone, MatchBool, MatchOption}
use Rattle.std.proofs.lemmas.Bool.{ltb-true, ltb-false}
use Rattle.std.specs.Prelude.{Contains}
use Rattle.std.specs.Option.{option_map_or}
use Rattle.exo_cli.specs.declared.status.Status.{Status}
use Rattle.exo_cli.specs.declared.status.Status.TheVariants.{Ok, Usage, ReadFault, WriteFault, Memory}
use Rattle.exo_cli.specs.Outside.Outside.{Folder, content_of, HasBytes, Rose, with_more}
use Rattle.exo_cli.specs.Outside.Outside.{StopsWithin}
use Rattle.exo_cli.specs.Messages.{usage, file_refused}
use Rattle.compile_stages.specs.Stages.{Stage, Passed, Stopped, Generates, Checks}
use Rattle.exo_cli.specs.Words.{Command, Check, Gen, command_of, files_of}
use Rattle.exo_cli.specs.Answer.{Answer, Accepted, Rejected, Unread, Misused, answer_of, IsAnswerOf}
use Rattle.exo_cli.specs.Answer.{status_of, for_out, for_err, IsVerdict}
use Rattle.exo_cli.specs.Work.{Stays, file_limit, Opens, OpensBoth, AnswersTo, Answers, operands, IsReadFault}
use Rattle.exo_cli.specs.Work.{IsAnswerTo, IsAnswer, EndsAt, Moment, OutFails, ErrFails, Ends}
use Rattle.exo_cli.proofs.OfOutside.Taking.{with_more-nothing}

-- a file that is told and short enough is handed on
pub opened-within : (held : Option (List ℕ)) (name bytes : List ℕ) (next : List ℕ → Answer → Type 0) (reply : Answer)
    → held ≡ Some bytes → length bytes ≤ file_limit → next bytes reply → Opens held name next reply
opened-within held name bytes next reply e h holds = rw e (by-case (nat_lt file_limit (length bytes)) refl h holds)
  where
    by-case : (b : Bool) → nat_lt file_limit (length bytes) ≡ b → length bytes ≤ file_limit → next bytes reply
        → MatchBool b (reply ≡ Rejected (file_refused name (codes "FileTooLong"))) (next bytes reply)
    by-case true longer h holds = absurd (omega (arith, ltb-true file_limit (length bytes) longer))
    by-case false shorter h holds = holds

-- a longer one is refused
pub opened-longer : (held : Option (List ℕ)) (name bytes : List ℕ) (next : List ℕ → Answer → Type 0) (message : List ℕ)
    → held ≡ Some bytes → file_limit < length bytes → message ≡ file_refused name (codes "FileTooLong") → Opens held name next (Rejected message)
opened-longer held name bytes next message e h is = rw e (by-case (nat_lt file_limit (length bytes)) refl h is)
  where
    by-case : (b : Bool) → nat_lt file_limit (length bytes) ≡ b → file_limit < length bytes → message ≡ file_refused name (codes "FileTooLong")
        → MatchBool b (Rejected message ≡ Rejected (file_refused name (codes "FileTooLong"))) (next bytes (Rejected message))
    by-case true longer h is = ap Rejected is
    by-case false shorter h is = absurd (omega (arith, ltb-false file_limit (length bytes) shorter))

-- ---- what the files give

-- what texts come to is accepted or rejected
pub is_verdict : (procs schedule : List ℕ) (end : Stage (List ℕ)) (reply : Answer)
    → reply ≡ answer_of procs schedule end → IsVerdict reply
is_verdict procs schedule (Passed text) reply e = subst IsVerdict (sym e) tt
is_verdict procs schedule (Stopped why) reply e = subst IsVerdict (sym e) tt

-- a verdict that is the answer wherever the files are told
told-verdict : (command : Command) (told : Option Folder) (before after : ℕ) (last : Option (List ℕ))
    (reply : Answer) → IsVerdict reply → IfSome told (λ files. AnswersTo command files reply)
    → IsAnswerTo command told before after last reply
told-verdict command told before after last (Accepted text) verdict h = h
told-verdict command told before after last (Rejected message) verdict h = h
told-verdict command told before after last (Unread message) verdict h = absurd verdict
told-verdict command told before after last (Misused message) verdict h = absurd verdict

-- a command that opens two files
module _ (command : Command) (procs schedule : List ℕ) (next : List ℕ → List ℕ → Answer → Type 0)
    (answers : (files : Folder) (a : Answer) → OpensBoth files procs schedule next a → AnswersTo command files a)
    (named : files_of command ≡ procs ∷ schedule ∷ []) where
  -- the work ends at the second file
  pub second-ends : (told : Option Folder) (unit : List ℕ) (before mid after : ℕ) (last : Option (List ℕ))
      (reply : Answer)
      → HasBytes told procs unit → length unit ≤ file_limit → before ≤ mid
      → EndsAt told mid after last schedule reply
      → IsAnswerTo command told before after last reply
  second-ends told unit before mid after last (Accepted text) held short grew ends = absurd ends
  second-ends None unit before mid after last (Rejected message) held short grew ends = tt
  second-ends (Some files) unit before mid after last (Rejected message) held short grew ends =
      answers files (Rejected message)
      (opened-within (content_of files procs) procs unit
      (λ u. Opens (content_of files schedule) schedule (next u)) (Rejected message) held short
      (opened-longer (content_of files schedule) schedule ends.0.0 (next unit) message ends.0.1 ends.0.2 ends.1))
  second-ends told unit before mid after last (Unread message) held short grew ends = record {
    rose = omega (arith, ends.0);
    name = schedule;
    last_fault = ends.1;
    operand = subst (λ names. Contains names schedule) (sym named) (1, omega arith, refl);
    names_it = ends.2;
  }
  second-ends told unit before mid after last (Misused message) held short grew ends = absurd ends

  -- both files are read
  pub both-read : (told : Option Folder) (unit lines : List ℕ) (before after : ℕ) (last : Option (List ℕ))
      (reply : Answer)
      → HasBytes told procs unit → length unit ≤ file_limit
      → HasBytes told schedule lines → length lines ≤ file_limit
      → IsVerdict reply → next unit lines reply
      → IsAnswerTo command told before after last reply
  both-read told unit lines before after last reply held short also less verdict comes =
      told-verdict command told before after last reply verdict (go told held also)
    where
      go : (told : Option Folder) → HasBytes told procs unit → HasBytes told schedule lines
          → IfSome told (λ files. AnswersTo command files reply)
      go None held also = tt
      go (Some files) held also =
          answers files reply
          (opened-within (content_of files procs) procs unit
          (λ u. Opens (content_of files schedule) schedule (next u)) reply held short
          (opened-within (content_of files schedule) schedule lines (next unit) reply also less comes))

-- the file to check is read
pub checked-answers : (told : Option Folder) (procs text : List ℕ) (before after : ℕ) (last : Option (List ℕ))
    (reply : Answer)
    → HasBytes told procs text → length text ≤ file_limit → IsAnswerOf procs [] (Checks text) reply
    → IsAnswerTo (Check procs) told before after last reply
checked-answers told procs text before after last reply held short checked =
    told-verdict (Check procs) told before after last reply (is_verdict procs [] checked.0 reply checked.2)
    (go told held)
  where
    go : (told : Option Folder) → HasBytes told procs text
        → IfSome told (λ files. AnswersTo (Check procs) files reply)
    go None held = tt
    go (Some files) held =
        opened-within (content_of files procs) procs text (λ u. IsAnswerOf procs [] (Checks u)) reply held short
        checked

-- a command that opens no file
pub generated-answers : (n : ℕ) (reply : Answer)
    → (s : Stage (List ℕ)) × Generates n s × (reply ≡ answer_of (codes "gen-procs") (codes "gen-schedule") s)
    → (told : Option Folder) (before after : ℕ) (last : Option (List ℕ))
    → IsAnswerTo (Gen n) told before after last reply
generated-answers n reply end told before after last =
    told-verdict (Gen n) told before after last reply
    (is_verdict (codes "gen-procs") (codes "gen-schedule") end.0 reply end.2) (go told)
  where
    go : (told : Option Folder) → IfSome told (λ files. AnswersTo (Gen n) files reply)
    go None = tt
    go (Some files) = end

-- a reply answers what a command came to
pub answered : (end : Option (Stage (List ℕ))) (P : Stage (List ℕ) → Type 0)
    (of : Stage (List ℕ) → Answer) (reply : Answer)
    → IfSome end P → option_map of end ≡ Some reply → (s : Stage (List ℕ)) × P s × (reply ≡ of s)
answered None P of reply p e = absurd cc
answered (Some s) P of reply p e = (s, p, cc)

-- ---- how the work ends

-- the words are no command
pub misused : (asked : Option Command) (told : Option Folder) (before after : ℕ) (last : Option (List ℕ)) (message : List ℕ)
    → MatchOption asked (Misused message ≡ Misused usage) (λ command. IsAnswerTo command told before after last (Misused message))
    → IsNone asked × (message ≡ usage)
misused None told before after last message e = (refl, cc)
misused (Some command) told before after last message h = absurd h

-- a file of the command could not be read
pub unread : (asked : Option Command) (told : Option Folder) (before after : ℕ) (last : Option (List ℕ)) (message : List ℕ)
    → MatchOption asked (Unread message ≡ Misused usage) (λ command. IsAnswerTo command told before after last (Unread message))
    → IsReadFault (option_map_or files_of asked []) before after last message
unread None told before after last message e = absurd cc
unread (Some command) told before after last message h = h

-- no command: the reply says so
pub no-command : (asked : Option Command) (told : Option Folder) (before after : ℕ) (last : Option (List ℕ)) (reply : Answer)
    → MatchOption asked (reply ≡ Misused usage) (λ command. IsAnswerTo command told before after last reply)
    → IsNone asked → reply ≡ Misused usage
no-command None told before after last reply e none = e
no-command (Some command) told before after last reply h none = absurd cc

-- the reply is a message that a file could not be read
abbrev pub IsUnread : Answer → Type 0
IsUnread (Unread message) = Unit {0}
IsUnread other = ⊥

-- else the reply is the answer to what the files tell
pub told-answer : (asked : Option Command) (told : Option Folder) (before after : ℕ) (last : Option (List ℕ)) (reply : Answer)
    → MatchOption asked (reply ≡ Misused usage) (λ command. IsAnswerTo command told before after last reply)
    → (IsUnread reply → ⊥)
    → IfSome told (λ files. MatchOption asked (reply ≡ Misused usage) (λ command. AnswersTo command files reply))
told-answer asked None before after last reply h read = tt
told-answer None (Some files) before after last reply e read = e
told-answer (Some command) (Some files) before after last (Accepted text) h read = h
told-answer (Some command) (Some files) before after last (Rejected message) h read = h
told-answer (Some command) (Some files) before after last (Unread message) h read = absurd (read tt)
told-answer (Some command) (Some files) before after last (Misused message) h read = absurd h

-- what follows from each fact on the files that are told
pub if-told : (told : Option Folder) (P Q : Folder → Type 0) → ((files : Folder) → P files → Q files) → IfSome told P → IfSome told Q
if-told None P Q step h = tt
if-told (Some files) P Q step h = step files h

-- what is known once a reply was delivered
pub record IsDelivered (before after : Moment) (reply : Answer) (status : Status) : Type 0 where
  pub ended : status ≢ WriteFault → status ≡ status_of reply
  pub out : status ≢ WriteFault → after.out ≡ with_more before.out (for_out reply)
  pub err : status ≢ WriteFault → after.err ≡ with_more before.err (for_err reply)
  pub fault : status ≡ WriteFault →
      (Rose before.out_faults after.out_faults × StopsWithin before.out after.out (for_out reply) × (after.err ≡ before.err))
      ⊎ (Rose before.err_faults after.err_faults × StopsWithin before.err after.err (for_err reply) × (after.out ≡ before.out))

-- a sink can fail at some bytes alone
some-bytes : (old new : Option (List ℕ)) (reply : Answer) → StopsWithin old new (for_out reply) → IsUnread reply → ⊥
some-bytes old new (Unread message) stops u = omega (arith, stops.proper)
some-bytes old new (Accepted text) stops u = u
some-bytes old new (Rejected message) stops u = u
some-bytes old new (Misused message) stops u = u

quiet : (before after : Moment) (reply : Answer) (status : Status) → IsDelivered before after reply status
    → status ≢ Ok → status ≢ WriteFault → after.out ≡ before.out
quiet before after (Accepted text) status d not_ok not_fault = absurd (not_ok (d.ended not_fault))
quiet before after (Rejected message) status d not_ok not_fault = d.out not_fault ∙ with_more-nothing before.out
quiet before after (Unread message) status d not_ok not_fault = d.out not_fault ∙ with_more-nothing before.out
quiet before after (Misused message) status d not_ok not_fault = d.out not_fault ∙ with_more-nothing before.out

-- no reply stands for want of memory
not-memory : (reply : Answer) → status_of reply ≡ Memory → ⊥
not-memory (Accepted text) e = cc
not-memory (Rejected message) e = cc
not-memory (Unread message) e = cc
not-memory (Misused message) e = cc

usage-ends : (words : List (List ℕ)) (before after : Moment) (reply : Answer) (status : Status)
    → IsAnswer words before.told before.faults after.faults after.last_fault reply → IsDelivered before after reply status
    → status ≡ Usage → IsNone (command_of words) × (after.err ≡ with_more before.err usage)
usage-ends words before after (Accepted text) status h d e = let w : status ≢ WriteFault = λ f. cc in absurd (let k = d.ended w in cc)
usage-ends words before after (Rejected message) status h d e = let w : status ≢ WriteFault = λ f. cc in absurd (let k = d.ended w in cc)
usage-ends words before after (Unread message) status h d e = let w : status ≢ WriteFault = λ f. cc in absurd (let k = d.ended w in cc)
usage-ends words before after (Misused message) status h d e =
    let w : status ≢ WriteFault = λ f. cc in
    let m = misused (command_of words) before.told before.faults after.faults after.last_fault message h in
    (m.0, d.err w ∙ ap (with_more before.err) m.1)

read-ends : (words : List (List ℕ)) (before after : Moment) (reply : Answer) (status : Status)
    → IsAnswer words before.told before.faults after.faults after.last_fault reply → IsDelivered before after reply status
    → status ≡ ReadFault → (message : List ℕ) × IsReadFault (operands words) before.faults after.faults after.last_fault message
    × (after.err ≡ with_more before.err message)
read-ends words before after (Accepted text) status h d e = let w : status ≢ WriteFault = λ f. cc in absurd (let k = d.ended w in cc)
read-ends words before after (Rejected message) status h d e = let w : status ≢ WriteFault = λ f. cc in absurd (let k = d.ended w in cc)
read-ends words before after (Misused message) status h d e = let w : status ≢ WriteFault = λ f. cc in absurd (let k = d.ended w in cc)
read-ends words before after (Unread message) status h d e =
    let w : status ≢ WriteFault = λ f. cc in
    (message, unread (command_of words) before.told before.faults after.faults after.last_fault message h, d.err w)

-- the words are no command
none-ends : (words : List (List ℕ)) (before after : Moment) (reply : Answer) (status : Status)
    → IsAnswer words before.told before.faults after.faults after.last_fault reply → IsDelivered before after reply status
    → IsNone (command_of words) → (status ≡ Usage) ⊎ ((status ≡ WriteFault) ⊎ (status ≡ Memory))
none-ends words before after reply Usage h d none = inl refl
none-ends words before after reply WriteFault h d none = inr (inl refl)
none-ends words before after reply Memory h d none = inr (inr refl)
none-ends words before after reply status h d none =
    let w : status ≢ WriteFault = λ f. cc in
    inl (d.ended w ∙ ap status_of (no-command (command_of words) before.told before.faults after.faults after.last_fault reply h none))

told-ends : (words : List (List ℕ)) (before after : Moment) (reply : Answer) (status : Status)
    → IsAnswer words before.told before.faults after.faults after.last_fault reply → IsDelivered before after reply status
    → status ≢ ReadFault → status ≢ WriteFault → IfSome before.told (λ files. (answer : Answer) × Answers words files answer
    × (status ≡ status_of answer)
    × (after.out ≡ with_more before.out (for_out answer))
    × (after.err ≡ with_more before.err (for_err answer)))
told-ends words before after reply status h d not_read not_fault =
    if-told before.told _ _ (λ files holds. (reply, holds, d.ended not_fault, d.out not_fault, d.err not_fault))
    (told-answer (command_of words) before.told before.faults after.faults after.last_fault reply h (still-read reply status (d.ended not_fault) not_read))
  where
    still-read : (reply : Answer) (status : Status) → status ≡ status_of reply → status ≢ ReadFault → IsUnread reply → ⊥
    still-read (Unread message) status e n u = n e
    still-read (Accepted text) status e n u = u
    still-read (Rejected message) status e n u = u
    still-read (Misused message) status e n u = u

-- the standard output failed
out-ends : (words : List (List ℕ)) (before after : Moment) (reply : Answer)
    → IsAnswer words before.told before.faults after.faults after.last_fault reply
    → Rose before.out_faults after.out_faults × StopsWithin before.out after.out (for_out reply) × (after.err ≡ before.err)
    → OutFails before after (for_out reply) × IfSome before.told (λ files. (answer : Answer) × Answers words files answer × (for_out reply ≡ for_out answer))
out-ends words before after reply h f = (
  record { rose = f.0; part = f.1; other = f.2 },
  if-told before.told _ _ (λ files holds. (reply, holds, refl))
      (told-answer (command_of words) before.told before.faults after.faults after.last_fault reply h (some-bytes _ _ reply f.1)),
)

-- the standard error failed
err-ends : (words : List (List ℕ)) (before after : Moment) (reply : Answer)
    → IsAnswer words before.told before.faults after.faults after.last_fault reply
    → IsReadFault (operands words) before.faults after.faults after.last_fault (for_err reply)
    ⊎ IfSome before.told (λ files. (answer : Answer) × Answers words files answer × (for_err reply ≡ for_err answer))
err-ends words before after (Unread message) h = inl (unread (command_of words) before.told before.faults after.faults after.last_fault message h)
err-ends words before after (Accepted text) h =
    inr (if-told before.told _ _ (λ files holds. (Accepted text, holds, refl)) (told-answer (command_of words) before.told before.faults after.faults after.last_fault (Accepted text) h (λ u. u)))
err-ends words before after (Rejected message) h =
    inr (if-told before.told _ _ (λ files holds. (Rejected message, holds, refl)) (told-answer (command_of words) before.told before.faults after.faults after.last_fault (Rejected message) h (λ u. u)))
err-ends words before after (Misused message) h =
    inr (if-told before.told _ _ (λ files holds. (Misused message, holds, refl)) (told-answer (command_of words) before.told before.faults after.faults after.last_fault (Misused message) h (λ u. u)))

fault-ends : (words : List (List ℕ)) (before after : Moment) (reply : Answer)
    → IsAnswer words before.told before.faults after.faults after.last_fault reply
    → (Rose before.out_faults after.out_faults × StopsWithin before.out after.out (for_out reply) × (after.err ≡ before.err))
    ⊎ (Rose before.err_faults after.err_faults × StopsWithin before.err after.err (for_err reply) × (after.out ≡ before.out))
    → (bytes : List ℕ) × (
    (OutFails before after bytes × IfSome before.told (λ files. (answer : Answer) × Answers words files answer × (bytes ≡ for_out answer)))
    ⊎ (ErrFails before after bytes × (IsReadFault (operands words) before.faults after.faults after.last_fault bytes
    ⊎ IfSome before.told (λ files. (answer : Answer) × Answers words files answer × (bytes ≡ for_err answer)))))
fault-ends words before after reply h (inl f) = (for_out reply, inl (out-ends words before after reply h f))
fault-ends words before after reply h (inr f) =
    (for_err reply, inr (record { rose = f.0; part = f.1; other = f.2 }, err-ends words before after reply h))

-- the program ends as it says where its reply is the answer and was delivered
pub ends : (words : List (List ℕ)) (before after : Moment) (reply : Answer) (status : Status)
    → Stays before after
    → IsAnswer words before.told before.faults after.faults after.last_fault reply → IsDelivered before after reply status
    → Ends words before after status
ends words before after reply status stays h d = record {
  stays = stays;
  quiet = quiet before after reply status d;
  memory = λ e. absurd (not-memory reply (sym (d.ended (λ f. cc)) ∙ e));
  usage = usage-ends words before after reply status h d;
  no_command = none-ends words before after reply status h d;
  read_fault = read-ends words before after reply status h d;
  write_fault = λ e. fault-ends words before after reply h (d.fault e);
  told = λ not_memory not_read not_fault. told-ends words before after reply status h d not_read not_fault;
}
