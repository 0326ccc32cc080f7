-- A reply to a command that opens no file is one to the words that ask for it.
use Rattle.std.proofs.Common.{◌≡◌, ℕ, List, Option, Some, sym, subst, MatchOption}
use Rattle.std.specs.Prelude.{Result, Ok, Err, IfOk}
use Rattle.std.specs.declared.alloc.AllocError.{AllocError}
use Rattle.exo_cli.specs.Outside.Outside.{Folder}
use Rattle.exo_cli.specs.declared.reply.Reply.{Reply}
use Rattle.exo_cli.specs.Messages.{usage}
use Rattle.exo_cli.specs.Words.{Command, Gen, command_of}
use Rattle.exo_cli.specs.Answer.{Misused}
use Rattle.exo_cli.specs.Replies.{plain}
use Rattle.exo_cli.specs.Work.{IsAnswer, IsAnswerTo}

pub generated_reply : (words : List (List ℕ)) (n : ℕ) (told : Option Folder) (before after : ℕ)
    (last : Option (List ℕ)) (r : Result Reply AllocError)
    → command_of words ≡ Some (Gen n)
    → IfOk r (λ reply. (told : Option Folder) (before after : ℕ) (last : Option (List ℕ))
    → IsAnswerTo (Gen n) told before after last (plain reply))
    → IfOk r (λ reply. IsAnswer words told before after last (plain reply))
generated_reply words n told before after last (Ok reply) is h =
    subst
    (λ (asked : Option Command).
    MatchOption asked (plain reply ≡ Misused usage)
    (λ command. IsAnswerTo command told before after last (plain reply)))
    (sym is) (h told before after last)
generated_reply words n told before after last (Err e) is h = tt
