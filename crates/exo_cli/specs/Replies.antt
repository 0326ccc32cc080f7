-- Replies as plain answers.
use Rattle.std.specs.Prelude.{string_bytes}
use Rattle.exo_cli.specs.declared.reply.Reply.{Reply}
use Rattle.exo_cli.specs.declared.reply.Reply.TheVariants.{Accepted, Rejected, Unread, Misused}
use Rattle.exo_cli.specs.Answer as plainly

abbrev pub plain : Reply → plainly.Answer
plain (Accepted text) = plainly.Accepted (string_bytes text)
plain (Rejected message) = plainly.Rejected (string_bytes message)
plain (Unread message) = plainly.Unread (string_bytes message)
plain (Misused message) = plainly.Misused (string_bytes message)
