-- The words and the files have one answer.
use Rattle.std.proofs.Common.{◌≡◌, ℕ, List, [], Bool, true, false, Option, Some, None, length, nat_lt}
use Rattle.std.proofs.Common.{codes, sym, ap, ◌∙◌, MatchBool, MatchOption}
use Rattle.exo_cli.specs.Outside.Outside.{Folder, content_of}
use Rattle.compile_stages.specs.Stages.{Stage, Compiles, Displays, Generates, Checks, EndsAreOne}
use Rattle.exo_cli.specs.Messages.{usage, file_refused}
use Rattle.exo_cli.specs.Words.{Command, Compile, Check, Show, Gen, command_of}
use Rattle.exo_cli.specs.Answer.{Answer, Rejected, Misused, answer_of, IsAnswerOf}
use Rattle.exo_cli.specs.Work.{file_limit, Opens, AnswersTo, AnswersAreUnique}

-- texts that come to one end have one answer
answer_once : (procs schedule : List ℕ) (Comes : Stage (List ℕ) → Type 0)
    → ((s t : Stage (List ℕ)) → Comes s → Comes t → s ≡ t)
    → (a b : Answer) → IsAnswerOf procs schedule Comes a → IsAnswerOf procs schedule Comes b → a ≡ b
answer_once procs schedule Comes once a b h k =
    h.2 ∙ ap (answer_of procs schedule) (once h.0 k.0 h.1 k.1) ∙ sym k.2

-- a file opens in one way
opens_once : (held : Option (List ℕ)) (name : List ℕ) (next : List ℕ → Answer → Type 0) (a b : Answer)
    → ((bytes : List ℕ) → next bytes a → next bytes b → a ≡ b)
    → Opens held name next a → Opens held name next b → a ≡ b
opens_once None name next a b once h k = h ∙ sym k
opens_once (Some bytes) name next a b once h k = go (nat_lt file_limit (length bytes)) h k
  where
    go : (t : Bool)
        → MatchBool t (a ≡ Rejected (file_refused name (codes "FileTooLong"))) (next bytes a)
        → MatchBool t (b ≡ Rejected (file_refused name (codes "FileTooLong"))) (next bytes b) → a ≡ b
    go true h k = h ∙ sym k
    go false h k = once bytes h k

module _ (ends : EndsAreOne) where
  answers_to_once : (command : Command) (files : Folder) (a b : Answer) → AnswersTo command files a
      → AnswersTo command files b → a ≡ b
  answers_to_once (Compile procs schedule) files a b =
      opens_once (content_of files procs) procs _ a b (λ unit.
      opens_once (content_of files schedule) schedule _ a b (λ lines.
      answer_once procs schedule (Compiles unit lines) (ends.compiles unit lines) a b))
  answers_to_once (Check procs) files a b =
      opens_once (content_of files procs) procs _ a b (λ unit.
      answer_once procs [] (Checks unit) (ends.checks unit) a b)
  answers_to_once (Show procs schedule name) files a b =
      opens_once (content_of files procs) procs _ a b (λ unit.
      opens_once (content_of files schedule) schedule _ a b (λ lines.
      answer_once procs schedule (Displays unit lines name) (ends.displays unit lines name) a b))
  answers_to_once (Gen n) files a b =
      answer_once (codes "gen-procs") (codes "gen-schedule") (Generates n) (ends.generates n) a b

  pub answers_are_unique : AnswersAreUnique
  answers_are_unique words files a b = go (command_of words)
    where
      go : (asked : Option Command)
          → MatchOption asked (a ≡ Misused usage) (λ command. AnswersTo command files a)
          → MatchOption asked (b ≡ Misused usage) (λ command. AnswersTo command files b) → a ≡ b
      go None h k = h ∙ sym k
      go (Some command) h k = answers_to_once command files a b h k
