use Rattle.std.proofs.Common.{rules}
use Rattle.text_lexer.proofs.Strings.{part_of_backslash}
use Rattle.text_lexer.proofs.quoted.next_part.Goals as goal

pub returns-then-byte-eq92 : goal.returns-then-byte-eq92
returns-then-byte-eq92 c = part_of_backslash _ _ _ _ _ (search rules) c.if-byte-quote.false c.if-byte-eq92.true (c.part_after_backslash.ensures c.args.quote)
