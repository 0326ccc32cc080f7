use Rattle.std.proofs.Common.{◌≡◌, ◌++◌, replicate}
use Rattle.text_lexer.specs.Layout.{put}
use Rattle.text_lexer.specs.declared.token.Token.TheVariants.{Dedent}
use Rattle.text_lexer.proofs.layout.put_dedents.Given as goal

abbrev pub invariant-loop : goal.invariant-loop
invariant-loop l = l.given.items ≡ l.fn.given.items ++ replicate l.counter (put l.place Dedent)
