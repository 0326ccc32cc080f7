-- What stands behind what the program writes where it ends well.
use Rattle.std.proofs.Common.{◌≡◌, ◌≢◌, inl, inr, ℕ, List, [], Bool, true, false, Option, Some, None}
use Rattle.std.proofs.Common.{length, nat_lt, codes, refl, sym, subst, MatchBool, MatchOption, IfSome}
use Rattle.exo_cli.specs.Outside.Outside.{Folder, content_of, with_more}
use Rattle.compile_stages.specs.Stages.{Stage, Passed, Stopped, Compiles, Displays, Generates, Checks}
use Rattle.compile_stages.specs.Laws.{CompiledIsPromised, DisplayedIsPromised, GeneratedIsPromised, CheckedIsCounted}
use Rattle.exo_cli.specs.declared.status.Status.{Status}
use Rattle.exo_cli.specs.declared.status.Status.TheVariants.{Ok, Refused, Usage, ReadFault, WriteFault, Memory}
use Rattle.exo_cli.specs.Messages.{usage, file_refused}
use Rattle.exo_cli.specs.Words.{Command, Compile, Check, Show, Gen, command_of}
use Rattle.exo_cli.specs.Answer.{Answer, Accepted, Rejected, Unread, Misused, answer_of, IsAnswerOf}
use Rattle.exo_cli.specs.Answer.{status_of, for_out, for_err}
use Rattle.exo_cli.specs.Work.{file_limit, Opens, AnswersTo, Answers, Moment, Ends}
use Rattle.exo_cli.specs.Headline.{KeepsItsPromise}

-- the laws of the stages on which the promise rests
pub record StageLaws : Type 0 where
  pub compiled : CompiledIsPromised
  pub displayed : DisplayedIsPromised
  pub generated : GeneratedIsPromised
  pub checked : CheckedIsCounted

accepted_is_not_rejected : {t m : List ℕ} → Accepted t ≡ Rejected m → ⊥
accepted_is_not_rejected e = cc

accepted_is_not_unread : {t m : List ℕ} → Accepted t ≡ Unread m → ⊥
accepted_is_not_unread e = cc

accepted_is_not_misused : {t m : List ℕ} → Accepted t ≡ Misused m → ⊥
accepted_is_not_misused e = cc

-- what is accepted passed all stages
passed : (procs schedule text : List ℕ) (Comes : Stage (List ℕ) → Type 0)
    → IsAnswerOf procs schedule Comes (Accepted text) → Comes (Passed text)
passed procs schedule text Comes h = go h.0 h.1 h.2
  where
    go : (s : Stage (List ℕ)) → Comes s → Accepted text ≡ answer_of procs schedule s → Comes (Passed text)
    go (Passed out) comes e = subst (λ o. Comes (Passed o)) (sym (same e)) comes
      where
        same : Accepted text ≡ Accepted out → text ≡ out
        same e = cc
    go (Stopped why) comes e = absurd (accepted_is_not_rejected e)

-- an accepted answer of a file comes of its bytes
record IsOpened (held : Option (List ℕ)) (next : List ℕ → Answer → Type 0) (answer : Answer) : Type 0 where
  pub bytes : List ℕ
  pub there : held ≡ Some bytes
  pub comes : next bytes answer

opened : (held : Option (List ℕ)) (name text : List ℕ) (next : List ℕ → Answer → Type 0)
    → Opens held name next (Accepted text) → IsOpened held next (Accepted text)
opened None name text next e = absurd (accepted_is_not_unread e)
opened (Some bytes) name text next e = go (nat_lt file_limit (length bytes)) e
  where
    go : (b : Bool)
        → MatchBool b (Accepted text ≡ Rejected (file_refused name (codes "FileTooLong")))
        (next bytes (Accepted text))
        → IsOpened (Some bytes) next (Accepted text)
    go true e = absurd (accepted_is_not_rejected e)
    go false e = record { bytes = bytes; there = refl; comes = e }

module _ (laws : StageLaws) (words : List (List ℕ)) (files : Folder) (before after : Option (List ℕ))
    (text : List ℕ) (written : after ≡ with_more before text) where
  by_command : (command : Command) → command_of words ≡ Some command
      → AnswersTo command files (Accepted text) → KeepsItsPromise words files before after
  by_command (Compile procs schedule) asked h =
      let first = opened (content_of files procs) procs text _ h in
      let second = opened (content_of files schedule) schedule text _ first.comes in
      inl (record {
        procs = procs;
        schedule = schedule;
        unit = first.bytes;
        lines = second.bytes;
        printed = text;
        asked = asked;
        unit_file = first.there;
        schedule_file = second.there;
        written = written;
        kept =
            laws.compiled first.bytes second.bytes text
            (passed procs schedule text (Compiles first.bytes second.bytes) second.comes);
      })
  by_command (Show procs schedule name) asked h =
      let first = opened (content_of files procs) procs text _ h in
      let second = opened (content_of files schedule) schedule text _ first.comes in
      inr (inl (record {
        procs = procs;
        schedule = schedule;
        name = name;
        unit = first.bytes;
        lines = second.bytes;
        text = text;
        asked = asked;
        unit_file = first.there;
        schedule_file = second.there;
        written = written;
        kept =
            laws.displayed first.bytes second.bytes name text
            (passed procs schedule text (Displays first.bytes second.bytes name) second.comes);
      }))
  by_command (Check procs) asked h =
      let first = opened (content_of files procs) procs text _ h in
      inr (inr (inl (record {
        procs = procs;
        unit = first.bytes;
        report = text;
        asked = asked;
        unit_file = first.there;
        written = written;
        kept = laws.checked first.bytes text (passed procs [] text (Checks first.bytes) first.comes);
      })))
  by_command (Gen n) asked h =
      inr (inr (inr (record {
        number = n;
        report = text;
        asked = asked;
        written = written;
        kept = laws.generated n text (passed (codes "gen-procs") (codes "gen-schedule") text (Generates n) h);
      })))

  by_words : (asked : Option Command) → command_of words ≡ asked
      → MatchOption asked (Accepted text ≡ Misused usage) (λ command. AnswersTo command files (Accepted text))
      → KeepsItsPromise words files before after
  by_words None is e = absurd (accepted_is_not_misused e)
  by_words (Some command) is e = by_command command is e

-- an answer that ends well is accepted
by_answer : StageLaws → (words : List (List ℕ)) (files : Folder) (before after : Option (List ℕ))
    (answer : Answer) → Answers words files answer → Ok ≡ status_of answer
    → after ≡ with_more before (for_out answer) → KeepsItsPromise words files before after
by_answer laws words files before after (Accepted text) answers ok written =
    by_words laws words files before after text written (command_of words) refl answers
by_answer laws words files before after (Rejected message) answers ok written =
    absurd (let e : Ok ≡ Refused = ok in cc)
by_answer laws words files before after (Unread message) answers ok written =
    absurd (let e : Ok ≡ ReadFault = ok in cc)
by_answer laws words files before after (Misused message) answers ok written =
    absurd (let e : Ok ≡ Usage = ok in cc)

not_memory : Ok ≢ Memory
not_memory e = cc

not_read_fault : Ok ≢ ReadFault
not_read_fault e = cc

not_write_fault : Ok ≢ WriteFault
not_write_fault e = cc

-- what the program writes where it ends well keeps the promise
pub ends_promised : StageLaws → (words : List (List ℕ)) (before after : Moment) (status : Status)
    → Ends words before after status → status ≡ Ok
    → IfSome before.told (λ files. KeepsItsPromise words files before.out after.out)
ends_promised laws words before after status ends ok =
    told before.told (subst (λ s. Ends words before after s) ok ends).told
  where
    told : (o : Option Folder) → (Ok ≢ Memory → Ok ≢ ReadFault → Ok ≢ WriteFault → IfSome o (λ files.
        (answer : Answer) × Answers words files answer × (Ok ≡ status_of answer)
        × (after.out ≡ with_more before.out (for_out answer))
        × (after.err ≡ with_more before.err (for_err answer))))
        → IfSome o (λ files. KeepsItsPromise words files before.out after.out)
    told None h = tt
    told (Some files) h =
        let a = h not_memory not_read_fault not_write_fault in
        by_answer laws words files before.out after.out a.0 a.1 a.2 a.3
