use Rattle.std.proofs.Common.{length, map}
use Rattle.text_phrases.proofs.Commas.{Commas}
use Rattle.text_lexer.specs.declared.token.Token.TheVariants.{Sign}
use Rattle.text_lexer.specs.declared.token.Sign.TheVariants.{Comma}
use Rattle.schedule_text.specs.Grammar.{argument}
use Rattle.schedule_text.specs.Views.{plain_argument}
use Rattle.schedule_text.proofs.Arguments.{AtClose}
use Rattle.schedule_text.proofs.argument.read_more.Given as goal

abbrev pub invariant-more : goal.invariant-more
invariant-more l = Commas argument (Sign Comma) AtClose l.fn.tokens (map plain_argument l.items.items) l.rest

abbrev pub decreases-more : goal.decreases-more
decreases-more l = length l.rest
